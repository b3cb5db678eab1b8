-- The data that the words of a line show.
use Rattle.std.proofs.Common.{◌≡◌, ℕ, ◌<◌, ◌==◌, Bool, true, false, cond, List, [], ◌∷◌, ◌++◌, length, refl, sym, ◌∙◌, ap, subst, arith, inl, inr, append_assoc, append-nil}
use Rattle.std.specs.Prelude.{Option, Some, None, option_map, option_and_then, flat_map}
use Rattle.std.specs.List.{AllByRecursion, slice_split, join_with_byte, onto_first}
use Rattle.std.proofs.lemmas.Bool.{cases_eq, cond-true, cond-false, eq-eqb, ne_eqb}
use Rattle.std.proofs.lemmas.List.Splits.{length-slice_split, slice_split-cons_yes, slice_split-cons_no, join_with_byte-slice_split}
use Rattle.tcf_values.specs.Cut.{Lacks, IsCut}
use Rattle.tcf_text.specs.Log.{is_hidden, shown_byte, readable, front_byte}
use Rattle.line_words.proofs.Cuts.{split_cut, split_lacks}
use Rattle.tcf_text.specs.Said.{unshown, word_said, AreShown, rest_words, parts_words, data_words, rest_said, ended, last_said, before_said, data_said, IsByte, DataAreReadBack}
use Rattle.line_words.specs.Words.{words_of}
use Rattle.tcf_text.proofs.Read.{words_are_read_back, bytes_back}

-- ---- the loop over words

words_more : (word : List ℕ) (words : List (List ℕ)) → 0 < length words → data_said (word ∷ words) ≡ before_said (word_said word) (data_said words)
words_more word [] some = absurd (omega arith)
words_more word (next ∷ more) some = refl

cut_words : (text word after : List ℕ) → IsCut 32 text word after → data_said (words_of text) ≡ before_said (word_said word) (data_said (words_of after))
cut_words text word after is =
    ap data_said (split_cut 32 text word after is) ∙ words_more word (words_of after) (omega (arith, length-slice_split (λ b. b == 32) after))

onto : (out new part : List ℕ) (o : Option (List ℕ)) → new ≡ (out ++ part) ++ 0 ∷ [] → option_map (λ d. out ++ d) (option_map (λ d. ended part ++ d) o) ≡ option_map (λ d. new ++ d) o
onto out new part None is = refl
onto out new part (Some more) is = ap (λ t. Some t) (sym (append_assoc out (ended part) more) ∙ ap (λ t. t ++ more) (sym (append_assoc out part (0 ∷ [])) ∙ sym is))

-- one part more was read
pub data_more : (text rest word after out middle new part : List ℕ) → data_said (words_of text) ≡ option_map (λ d. out ++ d) (data_said (words_of rest)) → IsCut 32 rest word after
    → Some part ≡ word_said word → middle ≡ out ++ part → new ≡ middle ++ 0 ∷ [] → data_said (words_of text) ≡ option_map (λ d. new ++ d) (data_said (words_of after))
data_more text rest word after out middle new part so_far cut said one two =
    so_far ∙ (ap (option_map (λ d. out ++ d)) (cut_words rest word after cut ∙ ap (λ o. before_said o (data_said (words_of after))) (sym said))
    ∙ onto out new part (data_said (words_of after)) (two ∙ ap (λ t. t ++ 0 ∷ []) one))

-- a word that shows none
pub data_bad : (text rest word after out : List ℕ) → data_said (words_of text) ≡ option_map (λ d. out ++ d) (data_said (words_of rest)) → IsCut 32 rest word after
    → None ≡ word_said word → None ≡ data_said (words_of text)
data_bad text rest word after out so_far cut said =
    sym (so_far ∙ ap (option_map (λ d. out ++ d)) (cut_words rest word after cut ∙ ap (λ o. before_said o (data_said (words_of after))) (sym said)))

-- the last word
pub data_last : (text rest out new last : List ℕ) → data_said (words_of text) ≡ option_map (λ d. out ++ d) (data_said (words_of rest)) → Lacks 32 rest
    → Some last ≡ last_said rest → new ≡ out ++ last → Some new ≡ data_said (words_of text)
data_last text rest out new last so_far lacks said is =
    sym (so_far ∙ (ap (λ w. option_map (λ d. out ++ d) (data_said w)) (split_lacks 32 rest lacks) ∙ (ap (option_map (λ d. out ++ d)) (sym said) ∙ ap (λ t. Some t) (sym is))))

pub data_end : (text rest out : List ℕ) → data_said (words_of text) ≡ option_map (λ d. out ++ d) (data_said (words_of rest)) → Lacks 32 rest
    → None ≡ last_said rest → None ≡ data_said (words_of text)
data_end text rest out so_far lacks said =
    sym (so_far ∙ (ap (λ w. option_map (λ d. out ++ d) (data_said w)) (split_lacks 32 rest lacks) ∙ ap (option_map (λ d. out ++ d)) (sym said)))

-- ---- what is written is read

-- a part: no byte is zero
abbrev AreParts : List (List ℕ) → Type 0
AreParts parts = AllByRecursion AreShown parts

-- a word never begins with `!`
shown_front : (b : ℕ) (rest : List ℕ) (flag : Bool) → is_hidden b ≡ flag → (b == 33) ≡ false → last_said (shown_byte b ++ rest) ≡ option_map ended (word_said (shown_byte b ++ rest))
shown_front b rest true e other =
    ap (λ t. last_said (t ++ rest)) (cond-true (is_hidden b) _ (b ∷ []) e) ∙ sym (ap (λ t. option_map ended (word_said (t ++ rest))) (cond-true (is_hidden b) _ (b ∷ []) e))
shown_front b rest false e other =
    ap (λ t. last_said (t ++ rest)) (cond-false (is_hidden b) _ (b ∷ []) e)
    ∙ (cond-false (b == 33) (rest_said rest) (option_map ended (word_said (b ∷ rest))) other ∙ sym (ap (λ t. option_map ended (word_said (t ++ rest))) (cond-false (is_hidden b) _ (b ∷ []) e)))

by_front : (b : ℕ) (rest : List ℕ) (h33 : Bool) → (b == 33) ≡ h33
    → last_said (cond h33 (37 ∷ 50 ∷ 49 ∷ []) (shown_byte b) ++ rest) ≡ option_map ended (word_said (cond h33 (37 ∷ 50 ∷ 49 ∷ []) (shown_byte b) ++ rest))
by_front b rest true e = refl
by_front b rest false e = shown_front b rest (is_hidden b) refl e

by_alone : (b : ℕ) (rest : List ℕ) (h45 h33 : Bool) → (b == 33) ≡ h33
    → last_said (cond h45 (37 ∷ 50 ∷ 68 ∷ []) (cond h33 (37 ∷ 50 ∷ 49 ∷ []) (shown_byte b)) ++ rest) ≡ option_map ended (word_said (cond h45 (37 ∷ 50 ∷ 68 ∷ []) (cond h33 (37 ∷ 50 ∷ 49 ∷ []) (shown_byte b)) ++ rest))
by_alone b rest true h33 e = refl
by_alone b rest false h33 e = by_front b rest h33 e

last_part : (part : List ℕ) → last_said (readable part) ≡ option_map ended (word_said (readable part))
last_part [] = refl
last_part (b ∷ []) = by_alone b [] (b == 45) (b == 33) refl
last_part (b ∷ c ∷ bytes) = by_front b (flat_map shown_byte (c ∷ bytes)) (b == 33) refl

part_read : (part : List ℕ) → AreShown part → last_said (readable part) ≡ Some (ended part)
part_read part are = last_part part ∙ ap (option_map ended) (words_are_read_back part are)

-- the rest is shown by some bytes
rest_some : (text bytes : List ℕ) → text ≡ [] → unshown text ≡ Some bytes → bytes ≡ []
rest_some text bytes none is = some_is bytes (sym is ∙ ap unshown none)
  where
    some_is : (bytes : List ℕ) → Some bytes ≡ Some [] → bytes ≡ []
    some_is bytes same = cc

rest_text_said : (text : List ℕ) (b : ℕ) (bytes : List ℕ) → unshown text ≡ Some (b ∷ bytes) → rest_said text ≡ Some (b ∷ bytes)
rest_text_said [] b bytes is = is_absurd (rest_some [] (b ∷ bytes) refl is)
  where
    is_absurd : b ∷ bytes ≡ [] → rest_said [] ≡ Some (b ∷ bytes)
    is_absurd same = absurd cc
rest_text_said (t ∷ ts) b bytes is = is

rest_read : (rest : List ℕ) → AreShown rest → data_said (rest_words rest) ≡ Some rest
rest_read [] are = refl
rest_read (b ∷ bytes) are = rest_text_said (flat_map shown_byte (b ∷ bytes)) b bytes (bytes_back (b ∷ bytes) are)

-- a part before more words, of which there may be none
before_words : (part : List ℕ) (words : List (List ℕ)) (later : List ℕ) → AreShown part → data_said words ≡ Some later → data_said (readable part ∷ words) ≡ Some (ended part ++ later)
before_words part [] later are is = part_read part are ∙ (ap (λ t. Some t) (sym (append-nil (ended part))) ∙ ap (λ d. Some (ended part ++ d)) (none_is later is))
  where
    none_is : (d : List ℕ) → Some [] ≡ Some d → [] ≡ d
    none_is d same = cc
before_words part (next ∷ more) later are is = ap (λ o. before_said o (data_said (next ∷ more))) (words_are_read_back part are) ∙ ap (option_map (λ d. ended part ++ d)) is

parts_read : (part : List ℕ) (parts : List (List ℕ)) → AreParts (part ∷ parts) → data_said (parts_words (part ∷ parts)) ≡ Some (join_with_byte 0 (part ∷ parts))
parts_read part [] are = rest_read part are.0
parts_read part (next ∷ more) are = before_words part (parts_words (next ∷ more)) (join_with_byte 0 (next ∷ more)) are.0 (parts_read next more are.1)
    ∙ ap (λ t. Some t) (append_assoc part (0 ∷ []) (join_with_byte 0 (next ∷ more)))

all_read : (parts : List (List ℕ)) → AreParts parts → data_said (parts_words parts) ≡ Some (join_with_byte 0 parts)
all_read [] are = refl
all_read (part ∷ parts) are = parts_read part parts are

onto_parts : (b : ℕ) (parts : List (List ℕ)) → 0 < b → b < 256 → AreParts parts → AreParts (onto_first b parts)
onto_parts b [] some small are = (((some, small), tt), tt)
onto_parts b (part ∷ parts) some small are = (((some, small), are.0), are.1)

split_parts : (body : List ℕ) → AllByRecursion IsByte body → AreParts (slice_split (λ b. b == 0) body)
split_parts [] all = (tt, tt)
split_parts (b ∷ bs) all =
    elim (cases_eq b 0) [
      | inl zero_is ↦ subst AreParts (sym (slice_split-cons_yes (λ x. x == 0) b bs (eq-eqb b 0 zero_is))) (tt, split_parts bs all.1)
      | inr some ↦
          let above : 0 < b = omega arith in
          subst AreParts (sym (slice_split-cons_no (λ x. x == 0) b bs (ne_eqb b 0 some))) (onto_parts b (slice_split (λ x. x == 0) bs) above all.0 (split_parts bs all.1))
    ]

pub data_are_read_back : DataAreReadBack
data_are_read_back body all = all_read (slice_split (λ b. b == 0) body) (split_parts body all) ∙ ap (λ t. Some t) (join_with_byte-slice_split 0 body)
