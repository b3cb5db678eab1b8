-- A level that is read is the level that stands there, and what stands there is read.
use Rattle.std.proofs.Common.{◌≡◌, ℕ, zero, suc, ◌+◌, ◌-◌, ◌*◌, ◌/◌, ◌%◌, ◌^◌, ◌<◌, ◌≤◌, inl, inr, true, false, ◌&&◌, eqb, leb, List, [], ◌∷◌, ◌++◌, Option, Some, None, refl, sym, ap, subst, ◌∙◌, arith}
use Rattle.std.specs.Prelude.{ℤ, pos, negsuc}
use Rattle.std.specs.List.{list_any}
use Rattle.std.specs.Fmt.{decimal, signed_decimal}
use Rattle.std.proofs.lemmas.Int.{ints}
use Rattle.std.proofs.lemmas.Bool.{cases_lt, cases_Bool, eqb-true, ne_eqb, leb-true, le-leb, and_from, and_parts, or_parts, or_from}
use Rattle.std.proofs.lemmas.Option.{cond_some}
use Rattle.std.proofs.lemmas.Fmt.{decimal_digit, decimal_step, decimal_by_steps, decimal_nonempty, length-decimal-le}
use Rattle.tcf_message.specs.Message.{is_zero, HasNoZero, IsLevel, is_first, is_digit, number_of, below_zero, from_zero, level_of}
use Rattle.tcf_message.specs.Fault.{IsDecimalToken}

-- ---- Numbers

digit_text : (a n : ℕ) → is_digit a ≡ true → a - 48 ≡ n → (a ∷ [] ≡ decimal n) × (n < 10)
digit_text a n h e =
    let p = and_parts (leb 48 a) (leb a 57) h in
    let low = leb-true 48 a p.0 in
    let high = leb-true a 57 p.1 in
    let small : n < 10 = omega arith in
    let same : a ≡ 48 + n = omega arith in
    (ap (λ (x : ℕ). x ∷ []) same ∙ sym (decimal_digit n small), small)

two_digits : (n : ℕ) → 10 ≤ n → n < 100 → decimal n ≡ (48 + n / 10) ∷ (48 + n % 10) ∷ []
two_digits n low high =
    let small : n / 10 < 10 = omega arith in
    decimal_step n low (omega arith) ∙ ap (λ (ds : List ℕ). ds ++ ((48 + n % 10) ∷ [])) (decimal_digit (n / 10) small)

hundred : decimal 100 ≡ 49 ∷ 48 ∷ 48 ∷ []
hundred = decimal_step 100 (omega arith) (omega arith) ∙ ap (λ (ds : List ℕ). ds ++ (48 ∷ [])) (two_digits 10 (omega arith) (omega arith))

number_takes : (ds : List ℕ) (n : ℕ) → number_of ds ≡ Some n → (ds ≡ decimal n) × (n ≤ 100)
unfolding number_of
number_takes [] n e = absurd cc
number_takes (a ∷ []) n e =
    let g = cond_some (is_digit a) (a - 48) n e in
    let t = digit_text a n g.0 g.1 in
    (t.0, omega (arith, t.1))
number_takes (a ∷ b ∷ []) n e =
    let g = cond_some (is_first a && is_digit b) (10 * (a - 48) + (b - 48)) n e in
    let t = and_parts (is_first a) (is_digit b) g.0 in
    let p = and_parts (leb 49 a) (leb a 57) t.0 in
    let q = and_parts (leb 48 b) (leb b 57) t.1 in
    let a_low = leb-true 49 a p.0 in
    let a_high = leb-true a 57 p.1 in
    let b_low = leb-true 48 b q.0 in
    let b_high = leb-true b 57 q.1 in
    let is = g.1 in
    let low : 10 ≤ n = omega arith in
    let high : n < 100 = omega arith in
    let front : a ≡ 48 + n / 10 = omega arith in
    let back : b ≡ 48 + n % 10 = omega arith in
    (ap (λ (x : ℕ). x ∷ b ∷ []) front ∙ ap (λ (y : ℕ). (48 + n / 10) ∷ y ∷ []) back ∙ sym (two_digits n low high), omega arith)
number_takes (a ∷ b ∷ c ∷ []) n e =
    let g = cond_some ((eqb a 49 && eqb b 48) && eqb c 48) 100 n e in
    let t = and_parts (eqb a 49 && eqb b 48) (eqb c 48) g.0 in
    let u = and_parts (eqb a 49) (eqb b 48) t.0 in
    let text : a ∷ b ∷ c ∷ [] ≡ 49 ∷ 48 ∷ 48 ∷ [] = rw (eqb-true a 49 u.0, eqb-true b 48 u.1, eqb-true c 48 t.1) refl in
    (text ∙ sym hundred ∙ ap decimal g.1, omega (arith, g.1))
number_takes (a ∷ b ∷ c ∷ d ∷ more) n e = absurd cc

number_again : (n : ℕ) → n ≤ 100 → number_of (decimal n) ≡ Some n
unfolding number_of
number_again n h =
    elim (cases_lt n 10) [
      | inl small ↦
          let right : is_digit (48 + n) ≡ true = and_from _ _ (le-leb 48 (48 + n) (omega arith)) (le-leb (48 + n) 57 (omega arith)) in
          let back : 48 + n - 48 ≡ n = omega arith in
          ap number_of (decimal_digit n small) ∙ rw (right, back) refl
      | inr low ↦ elim (cases_lt n 100) [
        | inl high ↦
            let first : is_first (48 + n / 10) ≡ true = and_from _ _ (le-leb 49 (48 + n / 10) (omega arith)) (le-leb (48 + n / 10) 57 (omega arith)) in
            let second : is_digit (48 + n % 10) ≡ true = and_from _ _ (le-leb 48 (48 + n % 10) (omega arith)) (le-leb (48 + n % 10) 57 (omega arith)) in
            let back : 10 * (48 + n / 10 - 48) + (48 + n % 10 - 48) ≡ n = omega arith in
            ap number_of (two_digits n low high) ∙ rw (first, second, back) refl
        | inr top ↦
            let is : n ≡ 100 = omega arith in
            rw is (ap number_of hundred)
      ]
    ]

-- ---- Levels

below_takes : (o : Option ℕ) (z : ℤ) → below_zero o ≡ Some z → (k : ℕ) × (o ≡ Some (suc k)) × (negsuc k ≡ z)
below_takes None z e = absurd cc
below_takes (Some zero) z e = absurd cc
below_takes (Some (suc k)) z e = (k, refl, cc)

from_takes : (o : Option ℕ) (z : ℤ) → from_zero o ≡ Some z → (n : ℕ) × (o ≡ Some n) × (pos n ≡ z)
from_takes None z e = absurd cc
from_takes (Some n) z e = (n, refl, cc)

not_minus : (text : List ℕ) (n : ℕ) → number_of (45 ∷ text) ≡ Some n → ⊥
unfolding number_of
not_minus [] n e = cc
not_minus (b ∷ []) n e = cc
not_minus (b ∷ c ∷ []) n e = cc
not_minus (b ∷ c ∷ d ∷ more) n e = cc

plain_level : (ds : List ℕ) (n : ℕ) → number_of ds ≡ Some n → level_of ds ≡ Some (pos n)
unfolding number_of level_of
plain_level [] n e = absurd cc
plain_level (a ∷ text) n e =
    elim (cases_Bool (eqb a 45)) [
      | inl minus ↦ absurd (not_minus text n (ap (λ (x : ℕ). number_of (x ∷ text)) (sym (eqb-true a 45 minus)) ∙ e))
      | inr other ↦ rw (other, e) refl
    ]

pub level_takes : (text : List ℕ) (z : ℤ) → level_of text ≡ Some z → IsLevel z × (text ≡ signed_decimal z)
unfolding level_of
level_takes [] z e = absurd cc
level_takes (a ∷ text) z e =
    elim (cases_Bool (eqb a 45)) [
      | inl minus ↦
          let b = below_takes (number_of text) z (rw minus at e) in
          let t = number_takes text (suc b.0) b.1 in
          let is : a ∷ text ≡ signed_decimal (negsuc b.0) = ap (λ (x : ℕ). x ∷ text) (eqb-true a 45 minus) ∙ ap (λ (x : List ℕ). 45 ∷ x) t.0 in
          let fits : IsLevel (negsuc b.0) = (omega (arith, ints, t.1), omega (arith, ints)) in
          subst (λ (y : ℤ). IsLevel y × (a ∷ text ≡ signed_decimal y)) b.2 (fits, is)
      | inr other ↦
          let b = from_takes (number_of (a ∷ text)) z (rw other at e) in
          let t = number_takes (a ∷ text) b.0 b.1 in
          let fits : IsLevel (pos b.0) = (omega (arith, ints), omega (arith, ints, t.1)) in
          subst (λ (y : ℤ). IsLevel y × (a ∷ text ≡ signed_decimal y)) b.2 (fits, t.0)
    ]

pub level_again : (z : ℤ) → IsLevel z → level_of (signed_decimal z) ≡ Some z
unfolding level_of
level_again (pos n) h = plain_level (decimal n) n (number_again n (omega (arith, ints, h.1)))
level_again (negsuc k) h = rw (number_again (suc k) (omega (arith, ints, h.0))) refl

-- what isn't read is no level
pub level_none : (text : List ℕ) → level_of text ≡ None → (z : ℤ) → IsLevel z → text ≡ signed_decimal z → ⊥
level_none text e z h is = let again = ap level_of is ∙ level_again z h in cc

pub no_level : (text : List ℕ) → ((z : ℤ) → IsLevel z → text ≡ signed_decimal z → ⊥) → level_of text ≡ None
no_level text h = go (level_of text) refl
  where
    go : (o : Option ℤ) → level_of text ≡ o → level_of text ≡ None
    go None e = e
    go (Some z) e = let t = level_takes text z e in absurd (h z t.0 t.1)

-- ---- The text has no zero

no_zero_push : (text : List ℕ) (b : ℕ) → HasNoZero text → eqb b 0 ≡ false → HasNoZero (text ++ b ∷ [])
no_zero_push [] b h e = or_from (eqb b 0) false e refl
no_zero_push (a ∷ text) b h e =
    let p = or_parts (eqb a 0) (list_any is_zero text) h in
    or_from (eqb a 0) (list_any is_zero (text ++ b ∷ [])) p.0 (no_zero_push text b p.1 e)

glyph_no_zero : (n : ℕ) → eqb (48 + n) 0 ≡ false
glyph_no_zero n = ne_eqb (48 + n) 0 (λ e. omega arith)

pub decimal_no_zero : (n : ℕ) → n < 2 ^ 64 → HasNoZero (decimal n)
decimal_no_zero n h =
    let one : (m : ℕ) → m < 10 → HasNoZero ((48 + m) ∷ []) = λ m lt. or_from (eqb (48 + m) 0) false (glyph_no_zero m) refl in
    let more : (m : ℕ) (ds : List ℕ) → 10 ≤ m → HasNoZero ds → HasNoZero (ds ++ ((48 + m % 10) ∷ [])) = λ m ds le none. no_zero_push ds (48 + m % 10) none (glyph_no_zero (m % 10)) in
    decimal_by_steps (λ (m : ℕ) (ds : List ℕ). HasNoZero ds) one more n h

pub level_no_zero : (z : ℤ) → IsLevel z → HasNoZero (signed_decimal z)
level_no_zero (pos n) h = decimal_no_zero n (omega (arith, ints, h.1))
level_no_zero (negsuc k) h = decimal_no_zero (suc k) (omega (arith, ints, h.0))

pub is_decimal_token : IsDecimalToken
is_decimal_token n h =
    let small : n < 10 ^ 20 = omega arith in
    let short = length-decimal-le 20 n (omega arith) small h in
    (decimal_no_zero n h, decimal_nonempty n h, omega arith)
