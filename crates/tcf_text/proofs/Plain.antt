-- What is shown has no blank.
use Rattle.std.proofs.Common.{◌≡◌, ℕ, ◌<◌, ◌≤◌, ◌+◌, ◌/◌, ◌%◌, ◌==◌, Bool, true, false, cond, List, [], ◌∷◌, ◌++◌, refl, sym, ◌∙◌, ap, arith, subst, inl, inr}
use Rattle.std.specs.Prelude.{flat_map, nat_lt}
use Rattle.std.specs.Fmt.{digit_glyph}
use Rattle.std.specs.List.{AllByRecursion, slice_split}
use Rattle.std.proofs.lemmas.Bool.{cases_Bool, cond-true, cond-false, false≢true, ltb-true}
use Rattle.tcf_values.specs.Cut.{Lacks}
use Rattle.tcf_text.specs.Log.{front_byte, is_hidden, readable, shown_byte}
use Rattle.tcf_text.specs.Said.{data_words, parts_words, rest_words}
use Rattle.tcf_text.proofs.Behind.{LackBlanks}

pub lacks_both : (a b : List ℕ) → Lacks 32 a → Lacks 32 b → Lacks 32 (a ++ b)
lacks_both [] b one other = other
lacks_both (x ∷ a) b one other = (one.0, lacks_both a b one.1 other)

glyph_plain : (digit : ℕ) → digit_glyph true digit ≡ 32 → ⊥
glyph_plain digit is =
    elim (cases_Bool (nat_lt digit 10)) [
      | inl e ↦ let at : 48 + digit ≡ 32 = sym (cond-true (nat_lt digit 10) (48 + digit) (55 + digit) e) ∙ is in omega arith
      | inr e ↦ let at : 55 + digit ≡ 32 = sym (cond-false (nat_lt digit 10) (48 + digit) (55 + digit) e) ∙ is in omega arith
    ]

percent_plain : ◌≡◌ {A = ℕ} 37 32 → ⊥
percent_plain is = omega arith

-- a byte that is shown as it is isn't a blank
shown_plain : (byte : ℕ) → Lacks 32 (shown_byte byte)
shown_plain byte =
    elim (cases_Bool (is_hidden byte)) [
      | inl e ↦ subst (Lacks 32) (sym (cond-true (is_hidden byte) _ (byte ∷ []) e)) (percent_plain, (glyph_plain (byte / 16), (glyph_plain (byte % 16), tt)))
      | inr e ↦ subst (Lacks 32) (sym (cond-false (is_hidden byte) _ (byte ∷ []) e)) ((λ is. false≢true (sym e ∙ ap is_hidden is)), tt)
    ]

pub bytes_plain : (bytes : List ℕ) → Lacks 32 (flat_map shown_byte bytes)
bytes_plain [] = tt
bytes_plain (byte ∷ bytes) = lacks_both (shown_byte byte) (flat_map shown_byte bytes) (shown_plain byte) (bytes_plain bytes)

choice_plain : (flag : Bool) (a b : List ℕ) → Lacks 32 a → Lacks 32 b → Lacks 32 (cond flag a b)
choice_plain true a b one other = one
choice_plain false a b one other = other

two_plain : Lacks 32 (37 ∷ 50 ∷ 68 ∷ [])
two_plain = ((λ is. omega arith), ((λ is. omega arith), ((λ is. omega arith), tt)))

one_plain : Lacks 32 (37 ∷ 50 ∷ 49 ∷ [])
one_plain = ((λ is. omega arith), ((λ is. omega arith), ((λ is. omega arith), tt)))

front_plain : (byte : ℕ) (bytes : List ℕ) → Lacks 32 (front_byte byte bytes)
front_plain byte [] = choice_plain (byte == 45) _ _ two_plain (choice_plain (byte == 33) _ _ one_plain (shown_plain byte))
front_plain byte (next ∷ bytes) = choice_plain (byte == 33) _ _ one_plain (shown_plain byte)

dash_plain : Lacks 32 (45 ∷ [])
dash_plain = ((λ is. omega arith), tt)

pub word_plain : (word : List ℕ) → Lacks 32 (readable word)
word_plain [] = dash_plain
word_plain (byte ∷ bytes) = lacks_both (front_byte byte bytes) (flat_map shown_byte bytes) (front_plain byte bytes) (bytes_plain bytes)

rest_plain : (rest : List ℕ) → LackBlanks (rest_words rest)
rest_plain [] = tt
rest_plain (byte ∷ bytes) = (((λ is. omega arith), bytes_plain (byte ∷ bytes)), tt)

parts_plain : (parts : List (List ℕ)) → LackBlanks (parts_words parts)
parts_plain [] = tt
parts_plain (rest ∷ []) = rest_plain rest
parts_plain (part ∷ next ∷ more) = (word_plain part, parts_plain (next ∷ more))

pub data_plain : (body : List ℕ) → LackBlanks (data_words body)
data_plain body = parts_plain (slice_split (λ b. b == 0) body)
