-- What a text asks is read.
use Rattle.std.proofs.Common.{◌≡◌, ℕ, true, List, refl, sym, ◌∙◌, ap, inl, inr, subst, lit<, arith}
use Rattle.std.specs.Prelude.{Some, option_map, option_and_then, bytes_eq, decimal}
use Rattle.tcf_values.specs.Cut.{cut_of}
use Rattle.tcf_values.specs.CutLaws.{cut_found}
use Rattle.tcf_values.specs.Number.{number_of}
use Rattle.tcf_values.specs.OptionLaws.{and_then_found}
use Rattle.line_words.specs.Words.{spaced, is_word, both, word_of}
use Rattle.line_words.specs.Exact.{IsExact, guarded, two_ways, made, both_exact, Passes, itself, word_exact, InRange, number_exact, number_words}
use Rattle.cached_lines.specs.declared.what.CachedWhat.{CachedWhat}
use Rattle.cached_lines.specs.declared.what.CachedWhat.TheVariants.{Context, State, Register, Properties, Status, Bytes}
use Rattle.cached_lines.specs.Asked.{IsProcess, IsAsked, context_word, state_word, register_word, properties_word, status_word, bytes_word, cached_spelling, SpellsCached}
use Rattle.cached_lines.specs.Reading.{process_of, bytes_of, asking_bytes, cached_behind, cached_of, CachedRoundTrip}
use Rattle.cached_lines.proofs.Grammar.{process_exact, process_words}

-- ---- What stands behind the first word of bytes

abbrev GoodRange : ℕ × ℕ → Type 0
GoodRange r = InRange 0 65535 r.0 × InRange 1 65536 r.1

abbrev range_text : ℕ × ℕ → List ℕ
range_text r = spaced (decimal r.0) (decimal r.1)

range_exact : IsExact (ℕ × ℕ) (both (number_of 0 65535) (number_of 1 65536)) GoodRange range_text
range_exact =
    both_exact ℕ ℕ (number_of 0 65535) (number_of 1 65536) (InRange 0 65535) (InRange 1 65536) decimal decimal
    (number_exact 0 65535 (lit< tt)) (number_words 0 65535 (lit< tt)) (number_exact 1 65536 (lit< tt))

abbrev GoodBytes : List ℕ × (ℕ × ℕ) → Type 0
GoodBytes b = IsProcess b.0 × GoodRange b.1

abbrev bytes_text : List ℕ × (ℕ × ℕ) → List ℕ
bytes_text b = spaced b.0 (range_text b.1)

bytes_exact : IsExact (List ℕ × (ℕ × ℕ)) bytes_of GoodBytes bytes_text
bytes_exact =
    both_exact (List ℕ) (ℕ × ℕ) process_of (both (number_of 0 65535) (number_of 1 65536)) IsProcess GoodRange itself range_text
    process_exact process_words range_exact

-- ---- What is read is spelled so

-- what asks by any word
by_word : (make : List ℕ → CachedWhat) (word own rest : List ℕ) (what : CachedWhat)
    → ((id : List ℕ) → Passes is_word id → IsAsked (make id)) → ((id : List ℕ) → cached_spelling (make id) ≡ spaced own id)
    → bytes_eq word own ≡ true → option_map make (word_of rest) ≡ Some what → SpellsCached (spaced word rest) what
by_word make word own rest what good spells same e =
    made (List ℕ) CachedWhat word_of (Passes is_word) itself make IsAsked cached_spelling word own rest what word_exact good spells same e

behind_found : (word rest : List ℕ) (what : CachedWhat) → cached_behind word rest ≡ Some what → SpellsCached (spaced word rest) what
unfolding cached_behind
behind_found word rest what e =
    elim (two_ways (bytes_eq word context_word) (option_map (λ id. Context id) (word_of rest)) _ what e) [
      | inl w ↦ by_word (λ id. Context id) word context_word rest what (λ y g. g) (λ y. refl) w.0 w.1
      | inr e ↦ elim (two_ways (bytes_eq word state_word) (option_map (λ id. State id) (word_of rest)) _ what e) [
        | inl w ↦ by_word (λ id. State id) word state_word rest what (λ y g. g) (λ y. refl) w.0 w.1
        | inr e ↦ elim (two_ways (bytes_eq word register_word) (option_map (λ id. Register id) (word_of rest)) _ what e) [
          | inl w ↦ by_word (λ id. Register id) word register_word rest what (λ y g. g) (λ y. refl) w.0 w.1
          | inr e ↦ elim (two_ways (bytes_eq word properties_word) (option_map (λ id. Properties id) (word_of rest)) _ what e) [
            | inl w ↦ by_word (λ id. Properties id) word properties_word rest what (λ y g. g) (λ y. refl) w.0 w.1
            | inr e ↦ elim (two_ways (bytes_eq word status_word) (option_map (λ id. Status id) (word_of rest)) _ what e) [
              | inl w ↦ by_word (λ id. Status id) word status_word rest what (λ y g. g) (λ y. refl) w.0 w.1
              | inr e ↦
                  let g = guarded (bytes_eq word bytes_word) (option_map asking_bytes (bytes_of rest)) what e in
                  made (List ℕ × (ℕ × ℕ)) CachedWhat bytes_of GoodBytes bytes_text asking_bytes IsAsked cached_spelling word bytes_word rest what bytes_exact
                  (λ y g. (g.0, g.1.0.1, g.1.1.0, g.1.1.1)) (λ y. refl) g.0 g.1
            ]
          ]
        ]
      ]
    ]

cached_found : (text : List ℕ) (what : CachedWhat) → cached_of text ≡ Some what → SpellsCached text what
cached_found text what e =
    let m = and_then_found (λ parts. cached_behind parts.0 parts.1) (cut_of 32 text) what e in
    subst (λ t. SpellsCached t what) (sym (cut_found 32 text m.0 m.1)) (behind_found m.0.0 m.0.1 what m.2)

-- ---- What is spelled so is read

asked_cut : (text word rest : List ℕ) → cut_of 32 text ≡ Some (word, rest) → cached_of text ≡ cached_behind word rest
asked_cut text word rest e = ap (option_and_then (λ parts. cached_behind parts.0 parts.1)) e

cached_there : (what : CachedWhat) → IsAsked what → cached_of (cached_spelling what) ≡ Some what
unfolding cached_behind context_word state_word register_word properties_word status_word bytes_word
cached_there (Context id) good =
    asked_cut (cached_spelling (Context id)) context_word id refl ∙ ap (option_map (λ i. Context i)) (word_exact.there id good)
cached_there (State id) good =
    asked_cut (cached_spelling (State id)) state_word id refl ∙ ap (option_map (λ i. State i)) (word_exact.there id good)
cached_there (Register id) good =
    asked_cut (cached_spelling (Register id)) register_word id refl ∙ ap (option_map (λ i. Register i)) (word_exact.there id good)
cached_there (Properties id) good =
    asked_cut (cached_spelling (Properties id)) properties_word id refl ∙ ap (option_map (λ i. Properties i)) (word_exact.there id good)
cached_there (Status id) good =
    asked_cut (cached_spelling (Status id)) status_word id refl ∙ ap (option_map (λ i. Status i)) (word_exact.there id good)
cached_there (Bytes id addr size) good =
    asked_cut (cached_spelling (Bytes id addr size)) bytes_word (bytes_text (id, (addr, size))) refl
    ∙ ap (option_map asking_bytes) (bytes_exact.there (id, (addr, size)) (good.0, ((omega arith, good.1), (good.2, good.3))))

pub cached_round_trip : CachedRoundTrip
cached_round_trip text what =
    (cached_found text what, λ spells. subst (λ t. cached_of t ≡ Some what) (sym spells.1) (cached_there what spells.0))
