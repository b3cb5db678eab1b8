-- The readers of a line's words read exactly the texts of what they give.
use Rattle.std.proofs.Common.{◌≡◌, ℕ, Bool, true, false, cond, List, [], ◌∷◌, refl, sym, ◌∙◌, ap, subst, inl, inr}
use Rattle.std.specs.Prelude.{Some, None, option_and_then, bytes_eq}
use Rattle.std.specs.Char.{is_ascii_alphanumeric, is_ascii_digit}
use Rattle.std.specs.List.{list_all, AllByRecursion}
use Rattle.std.proofs.lemmas.Bool.{and_parts, and_from, cond-true}
use Rattle.std.proofs.lemmas.List.Splits.{join_with_byte-slice_split}
use Rattle.std.proofs.lemmas.Option.{none-some}
use Rattle.tcf_values.specs.Cut.{Lacks}
use Rattle.tcf_values.specs.Ids.{context_of}
use Rattle.tcf_values.specs.Spelling.{context_spelling}
use Rattle.tcf_values.specs.OptionLaws.{some_same, and_then_found}
use Rattle.tcf_values.specs.declared.ids.ContextId.{ContextId}
use Rattle.tcf_values.specs.declared.ids.ContextId.TheVariants.{Process, Thread}
use Rattle.line_words.specs.Words.{is_word}
use Rattle.line_words.specs.Exact.{IsExact, AreWords, same_bytes, guarded, two_ways, Passes, itself, passing_exact, all_lack, word_words}
use Rattle.tcf_schedules.specs.Plan.{IsThread}
use Rattle.tcf_schedules.specs.Words.{words_of, is_name, is_numeral, is_hex_word}
use Rattle.tcf_schedules.specs.Line.{up_word, down_word, direction_word, joined}
use Rattle.tcf_schedules.specs.Reading.{name_of, numeral_of, hex_of, direction_of, only_thread, thread_of, command_in, command_of}
use Rattle.tcf_values.proofs.TheLaws.{context_round_trip}
use Rattle.line_words.proofs.Cuts.{split_cut, split_lacks}

-- ---- Texts that pass a test

pub name_exact : IsExact (List ℕ) name_of (Passes is_name) itself
unfolding name_of
name_exact = passing_exact is_name

pub numeral_exact : IsExact (List ℕ) numeral_of (Passes is_numeral) itself
unfolding numeral_of
numeral_exact = passing_exact is_numeral

pub hex_exact : IsExact (List ℕ) hex_of (Passes is_hex_word) itself
unfolding hex_of
hex_exact = passing_exact is_hex_word

pub name_words : AreWords (List ℕ) (Passes is_name) itself
name_words n good = all_lack is_ascii_alphanumeric refl n (and_parts _ _ good).1

pub numeral_words : AreWords (List ℕ) (Passes is_numeral) itself
numeral_words n good = all_lack is_ascii_digit refl n (and_parts _ _ (and_parts _ _ good).0).1

-- ---- Up and down

abbrev pub Always : Bool → Type 0
Always up = Unit {0}

pub direction_exact : IsExact Bool direction_of Always direction_word
unfolding direction_of up_word down_word
direction_exact =
    record {
      found = λ t up e. (tt, spelled t up e);
      there = spells;
    }
  where
    spelled : (t : List ℕ) (up : Bool) → direction_of t ≡ Some up → t ≡ direction_word up
    spelled t up e =
        elim (two_ways (bytes_eq t up_word) (Some true) _ up e) [
          | inl w ↦ let is : true ≡ up = cc in same_bytes t up_word w.0 ∙ ap direction_word is
          | inr w ↦
              let g = guarded (bytes_eq t down_word) (Some false) up w in
              let is : false ≡ up = let s : Some false ≡ Some up = g.1 in cc in
              same_bytes t down_word g.0 ∙ ap direction_word is
        ]

    spells : (up : Bool) → Unit {0} → direction_of (direction_word up) ≡ Some up
    spells true good = refl
    spells false good = refl

pub direction_words : AreWords Bool Always direction_word
unfolding up_word down_word
direction_words true good = all_lack is_ascii_alphanumeric refl up_word refl
direction_words false good = all_lack is_ascii_alphanumeric refl down_word refl

-- ---- Threads

pub thread_exact : IsExact ContextId thread_of IsThread context_spelling
unfolding thread_of
thread_exact = record { found = reads; there = spells }
  where
    by_kind : (t : List ℕ) (id thread : ContextId) → context_of t ≡ Some id → only_thread id ≡ Some thread → IsThread thread × (t ≡ context_spelling thread)
    by_kind t (Process p) thread is e = absurd (none-some thread e)
    by_kind t (Thread p q) thread is e =
        subst (λ x. IsThread x × (t ≡ context_spelling x)) (some_same (Thread p q) thread e) ((context_round_trip t (Thread p q)).0 is)

    reads : (t : List ℕ) (thread : ContextId) → thread_of t ≡ Some thread → IsThread thread × (t ≡ context_spelling thread)
    reads t thread e = let m = and_then_found only_thread (context_of t) thread e in by_kind t m.0 thread m.1 m.2

    spells : (thread : ContextId) → IsThread thread → thread_of (context_spelling thread) ≡ Some thread
    spells (Process p) good = absurd good
    spells (Thread p q) good = ap (option_and_then only_thread) ((context_round_trip (context_spelling (Thread p q)) (Thread p q)).1 (good, refl))

-- ---- Commands

abbrev pub GoodCommand : List ℕ × List (List ℕ) → Type 0
GoodCommand c = Passes is_word c.0 × AllByRecursion (Passes is_word) c.1

abbrev pub command_text : List ℕ × List (List ℕ) → List ℕ
command_text c = joined (c.0 ∷ c.1)

each : (words : List (List ℕ)) → list_all is_word words ≡ true → AllByRecursion (Passes is_word) words
each [] all = tt
each (word ∷ words) all = let parts = and_parts (is_word word) (list_all is_word words) all in (parts.0, each words parts.1)

all_of_each : (words : List (List ℕ)) → AllByRecursion (Passes is_word) words → list_all is_word words ≡ true
all_of_each [] all = refl
all_of_each (word ∷ words) all = and_from (is_word word) (list_all is_word words) all.0 (all_of_each words all.1)

in_found : (words : List (List ℕ)) (x : List ℕ × List (List ℕ)) → command_in words ≡ Some x → words ≡ x.0 ∷ x.1
in_found [] x e = absurd (none-some x e)
in_found (word ∷ words) x e = ap (λ (y : List ℕ × List (List ℕ)). y.0 ∷ y.1) (some_same (word, words) x e)

-- words that are joined, and cut again
words_joined : (word : List ℕ) (words : List (List ℕ)) → Lacks 32 word → AllByRecursion (Passes is_word) words → words_of (joined (word ∷ words)) ≡ word ∷ words
words_joined word [] lacks all = split_lacks 32 word lacks
words_joined word (next ∷ words) lacks all =
    split_cut 32 (joined (word ∷ next ∷ words)) word (joined (next ∷ words)) (lacks, refl)
    ∙ ap (λ ws. word ∷ ws) (words_joined next words (word_words next all.0) all.1)

pub command_exact : IsExact (List ℕ × List (List ℕ)) command_of GoodCommand command_text
unfolding command_of
command_exact = record { found = reads; there = spells }
  where
    reads : (t : List ℕ) (x : List ℕ × List (List ℕ)) → command_of t ≡ Some x → GoodCommand x × (t ≡ command_text x)
    reads t x e =
        let g = guarded (list_all is_word (words_of t)) (command_in (words_of t)) x e in
        let is = in_found (words_of t) x g.1 in
        (each (x.0 ∷ x.1) (subst (λ ws. list_all is_word ws ≡ true) is g.0), sym (join_with_byte-slice_split 32 t) ∙ ap joined is)

    spells : (x : List ℕ × List (List ℕ)) → GoodCommand x → command_of (command_text x) ≡ Some x
    spells x good =
        ap (λ ws. cond (list_all is_word ws) (command_in ws) None) (words_joined x.0 x.1 (word_words x.0 good.0) good.1)
        ∙ cond-true (list_all is_word (x.0 ∷ x.1)) _ _ (all_of_each (x.0 ∷ x.1) good)
