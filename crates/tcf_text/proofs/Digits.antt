-- The digits of a byte that is shown by them.
use Rattle.std.proofs.Common.{◌≡◌, ℕ, ◌<◌, ◌≤◌, ◌+◌, ◌-◌, ◌*◌, ◌/◌, ◌%◌, ◌==◌, Bool, true, false, cond, List, [], ◌∷◌, ◌++◌, refl, sym, ◌∙◌, ap, arith, subst, inl, inr}
use Rattle.std.specs.Prelude.{Option, Some, None, option_map, option_and_then, nat_lt}
use Rattle.std.specs.Int.{is_in_range}
use Rattle.std.specs.Fmt.{digit_glyph}
use Rattle.std.proofs.lemmas.Bool.{and_from, and_parts, le-leb, leb-true, lt-ltb, ltb-true, ltb-false, cases_Bool, cond-true, cond-false, false_from_ne_true, ne_eqb}
use Rattle.std.proofs.lemmas.Option.{none-some}
use Rattle.tcf_values.specs.OptionLaws.{some_same, and_then_found}
use Rattle.line_words.specs.Exact.{two_ways, guarded}
use Rattle.tcf_text.specs.Said.{upper_digit, byte_said, no_zero}

pub digit_small : (digit n : ℕ) → upper_digit digit ≡ Some n → n < 16
digit_small digit n e =
    elim (two_ways (is_in_range 48 57 digit) (Some (digit - 48)) _ n e) [
      | inl w ↦
          let high : digit ≤ 57 = leb-true digit 57 (and_parts _ _ w.0).1 in
          let is : digit - 48 ≡ n = some_same _ n w.1 in omega (arith, high)
      | inr f ↦
          let g = guarded (is_in_range 65 70 digit) (Some (digit - 55)) n f in
          let high : digit ≤ 70 = leb-true digit 70 (and_parts _ _ g.0).1 in
          let is : digit - 55 ≡ n = some_same _ n g.1 in omega (arith, high)
    ]

low_glyph : (d : ℕ) → d < 10 → upper_digit (48 + d) ≡ Some d
low_glyph d small =
    cond-true (is_in_range 48 57 (48 + d)) _ _ (and_from _ _ (le-leb 48 (48 + d) (omega arith)) (le-leb (48 + d) 57 (omega arith)))
    ∙ ap (λ n. Some n) {x = (48 + d) - 48} {y = d} (omega arith)

high_glyph : (d : ℕ) → 10 ≤ d → d < 16 → upper_digit (55 + d) ≡ Some d
high_glyph d some small =
    cond-false (is_in_range 48 57 (55 + d)) _ _ (false_from_ne_true _ (λ e. let most = leb-true (55 + d) 57 (and_parts _ _ e).1 in omega (arith, most)))
    ∙ (cond-true (is_in_range 65 70 (55 + d)) _ _ (and_from _ _ (le-leb 65 (55 + d) (omega arith)) (le-leb (55 + d) 70 (omega arith)))
    ∙ ap (λ n. Some n) {x = (55 + d) - 55} {y = d} (omega arith))

-- a digit is read as what it shows
pub glyph_said : (d : ℕ) → d < 16 → upper_digit (digit_glyph true d) ≡ Some d
glyph_said d small =
    elim (cases_Bool (nat_lt d 10)) [
      | inl e ↦ ap (λ b. upper_digit (cond b (48 + d) (55 + d))) e ∙ low_glyph d (ltb-true d 10 e)
      | inr e ↦ ap (λ b. upper_digit (cond b (48 + d) (55 + d))) e ∙ high_glyph d (ltb-false d 10 e) small
    ]

pub digits_said : (b : ℕ) → 0 < b → b < 256 → byte_said (digit_glyph true (b / 16)) (digit_glyph true (b % 16)) ≡ Some b
digits_said b some small =
    ap (option_and_then (λ h. option_and_then (λ l. no_zero (h * 16 + l)) (upper_digit (digit_glyph true (b % 16))))) (glyph_said (b / 16) (omega arith))
    ∙ (ap (option_and_then (λ l. no_zero (b / 16 * 16 + l))) (glyph_said (b % 16) (omega arith))
    ∙ (ap no_zero {x = b / 16 * 16 + b % 16} {y = b} (omega arith) ∙ cond-false (b == 0) None (Some b) (ne_eqb b 0 (λ e. omega (arith, e)))))
