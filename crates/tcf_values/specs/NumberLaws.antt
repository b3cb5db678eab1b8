-- Numbers in decimal digits.
use Rattle.std.proofs.Common.{◌≡◌, ◌≢◌, ℕ, ◌<◌, ◌≤◌, ◌^◌, ◌&&◌, true, cond, List, [], ◌∷◌, get_or, sym, ◌∙◌, ap, arith, subst, inl, inr, lit<}
use Rattle.std.specs.Prelude.{Result, Ok, Err, Option, Some, None, IfSome, IfNone, decimal, IsUtf8, bytes_eq, nat_le, nat_lt}
use Rattle.std.specs.Result.{result_ok}
use Rattle.std.specs.Int.{is_in_range}
use Rattle.std.specs.Str.{IsAscii}
use Rattle.std.specs.Str.Parse.{AllDigits, ParsesUnsigned, IsNumeral, digits_value, without_leading_plus}
use Rattle.std.proofs.lemmas.Bool.{and_from, and_parts, le-leb, leb-true, lt-ltb, ltb-true, cases_eq, cases_Bool, cond-true, cond-false, false_from_ne_true}
use Rattle.std.proofs.lemmas.Fmt.{decimal_is_IsNumeral, decimal-digits_value, decimal_injective, first_decimal, parse-decimal, decimal_digit, IsAscii-decimal}
use Rattle.std.proofs.lemmas.Option.{none-some}
use Rattle.std.proofs.lemmas.Slice.Eq.{bytes_eq-Decides}
use Rattle.std.proofs.lemmas.Str.{IsUtf8-from_ascii}
use Rattle.std.proofs.lemmas.Str.Parse.{IsNumeralModel, numerals_by_value, tells_digits, digit_at, without_leading_plus_none}
use Rattle.tcf_values.specs.Number.{number_of}

-- the first digit of a number that isn't 0
pub front_of_decimal : (digits : List ℕ) (n : ℕ) → 1 ≤ n → n < 2 ^ 32 → digits ≡ decimal n → is_in_range 49 57 (get_or digits 0 0) ≡ true
front_of_decimal digits n low small is =
    let wide : n < 2 ^ 64 = omega arith in
    let numeral = (decimal_is_IsNumeral n wide).0 in
    let above : 48 < get_or (decimal n) 0 0 = first_decimal n (omega arith) wide in
    let within = digit_at (decimal n) 0 numeral.1 numeral.0 in
    ap (λ t. is_in_range 49 57 (get_or t 0 0)) is ∙ and_from _ _ (le-leb 49 (get_or (decimal n) 0 0) (omega arith)) (le-leb (get_or (decimal n) 0 0) 57 (omega (arith, within.1)))

own : IsNumeralModel (AllDigits 10) (digits_value 10)
own = numerals_by_value (AllDigits 10) tells_digits

front_above : (digits : List ℕ) → is_in_range 49 57 (get_or digits 0 0) ≡ true → 49 ≤ get_or digits 0 0
front_above digits front = leb-true 49 (get_or digits 0 0) (and_parts _ _ front).0

no_number : {E : Type 0} (e : E) (n : ℕ) → ◌≡◌ {A = Result ℕ E} (Err e) (Ok n) → ⊥
no_number e n same = cc

-- digits with such a front are the text of the number that is read from them
pub read_found : {E : Type 0} (digits : List ℕ) (r : Result ℕ E) → ParsesUnsigned 32 10 digits r → is_in_range 49 57 (get_or digits 0 0) ≡ true
    → IfSome (result_ok r) (λ n. digits ≡ decimal n)
read_found digits (Ok n) parses front =
    let above = front_above digits front in
    let plain : without_leading_plus digits ≡ digits = without_leading_plus_none digits (λ e. absurd (omega arith)) in
    let numeral : IsNumeral 10 digits = subst (IsNumeral 10) plain parses.0.0 in
    let small : digits_value 10 digits < 2 ^ 32 = subst (λ t. digits_value 10 t < 2 ^ 32) plain parses.0.1 in
    sym (ap decimal (parses.1 ∙ ap (digits_value 10) plain) ∙ decimal-digits_value own digits numeral.1 numeral.0 (λ e. absurd (omega arith)) (omega arith))
read_found digits (Err e) parses front = tt

-- text that isn't read is no number's
pub read_none : {E : Type 0} (digits : List ℕ) (r : Result ℕ E) → ParsesUnsigned 32 10 digits r
    → IfNone (result_ok r) ((n : ℕ) → 1 ≤ n → n < 2 ^ 32 → digits ≢ decimal n)
read_none digits (Ok n) parses = tt
read_none digits (Err e) parses = λ n low small is. no_number e n (parse-decimal 32 n digits (Err e) small (omega arith) is parses)

-- a number's text is ASCII
pub utf8_of_decimal : (digits : List ℕ) (n : ℕ) → n < 2 ^ 32 → digits ≡ decimal n → IsUtf8 digits
utf8_of_decimal digits n small is = IsUtf8-from_ascii digits (subst IsAscii (sym is) (IsAscii-decimal n (omega arith)))

-- the digit 0 is the text of 0
pub zero_found : (digits : List ℕ) → digits ≡ 48 ∷ [] → digits ≡ decimal 0
zero_found digits is = is ∙ sym (decimal_digit 0 (lit< tt))

-- a number is 0 or more
pub zero_or_more : (digits : List ℕ) → digits ≢ 48 ∷ [] → ((n : ℕ) → 1 ≤ n → n < 2 ^ 32 → digits ≢ decimal n)
    → (n : ℕ) → n < 2 ^ 32 → digits ≢ decimal n
zero_or_more digits other none n small is =
    elim (cases_eq n 0) [
      | inl zero_is ↦ other (is ∙ (ap decimal zero_is ∙ decimal_digit 0 (lit< tt)))
      | inr some ↦ none n (omega arith) small is
    ]

the_value : (digits : List ℕ) (n : ℕ) → n < 2 ^ 32 → digits ≡ decimal n → digits_value 10 digits ≡ n
the_value digits n small is = ap (digits_value 10) is ∙ (decimal_is_IsNumeral n (omega arith)).1

-- a number in the range is found
pub number_there : (low high : ℕ) (digits : List ℕ) (n : ℕ) → digits ≡ decimal n → low ≤ n → n ≤ high → n < 2 ^ 32 → number_of low high digits ≡ Some n
unfolding number_of
number_there low high digits n is above below small =
    ap (λ k. cond (bytes_eq digits (decimal k) && nat_le low k && nat_le k high && nat_lt k (2 ^ 32)) (Some k) None) (the_value digits n small is)
    ∙ cond-true _ _ _ (and_from _ _ (and_from _ _ (and_from _ _ ((bytes_eq-Decides digits (decimal n)).1 is) (le-leb low n above)) (le-leb n high below)) (lt-ltb n (2 ^ 32) small))

same_number : (k n : ℕ) → ◌≡◌ {A = Option ℕ} (Some k) (Some n) → k ≡ n
same_number k n same = cc

found_is : (low high : ℕ) (digits : List ℕ) (k n : ℕ) → k ≡ n → digits ≡ decimal k → low ≤ k → k ≤ high → k < 2 ^ 32
    → (digits ≡ decimal n) × (low ≤ n) × (n ≤ high) × (n < 2 ^ 32)
found_is low high digits k n one is above below small = (is ∙ ap decimal one, omega arith, omega arith, omega arith)

-- what is found is a number in the range
pub number_found : (low high : ℕ) (digits : List ℕ) (n : ℕ) → number_of low high digits ≡ Some n → (digits ≡ decimal n) × (low ≤ n) × (n ≤ high) × (n < 2 ^ 32)
unfolding number_of
number_found low high digits n found =
    let k : ℕ = digits_value 10 digits in
    elim (cases_Bool (bytes_eq digits (decimal k) && nat_le low k && nat_le k high && nat_lt k (2 ^ 32))) [
      | inl e ↦
          let all = and_parts _ _ e in let most = and_parts _ _ all.0 in let some = and_parts _ _ most.0 in
          let one : k ≡ n = same_number k n (sym (cond-true _ (Some k) None e) ∙ found) in
          found_is low high digits k n one ((bytes_eq-Decides digits (decimal k)).0 some.0) (leb-true low k some.1) (leb-true k high most.1) (ltb-true k (2 ^ 32) all.1)
      | inr e ↦ absurd (none-some n (sym (cond-false _ (Some k) None e) ∙ found))
    ]

-- where there is none in the range, none is found
pub number_missing : (low high : ℕ) (digits : List ℕ) → ((n : ℕ) → low ≤ n → n ≤ high → n < 2 ^ 32 → digits ≢ decimal n) → number_of low high digits ≡ None
unfolding number_of
number_missing low high digits none =
    let n : ℕ = digits_value 10 digits in
    cond-false (bytes_eq digits (decimal n) && nat_le low n && nat_le n high && nat_lt n (2 ^ 32)) (Some n) None (false_from_ne_true _ (λ e.
    let all = and_parts _ _ e in let most = and_parts _ _ all.0 in let some = and_parts _ _ most.0 in
    none n (leb-true low n some.1) (leb-true n high most.1) (ltb-true n (2 ^ 32) all.1) ((bytes_eq-Decides digits (decimal n)).0 some.0)))

-- digits of no number say none in the range
pub number_gone : (low high : ℕ) (digits : List ℕ) → ((n : ℕ) → n < 2 ^ 32 → digits ≢ decimal n) → number_of low high digits ≡ None
number_gone low high digits none = number_missing low high digits (λ n above below small is. none n small is)

-- digits of a number out of the range say none in it
pub number_out : (low high : ℕ) (digits : List ℕ) (m : ℕ) → digits ≡ decimal m → m < 2 ^ 32 → (low ≤ m → m ≤ high → ⊥) → number_of low high digits ≡ None
number_out low high digits m is small out = number_missing low high digits (λ n above below fits same.
    let one : m ≡ n = decimal_injective m n (omega arith) (omega arith) (sym is ∙ same) in out (omega arith) (omega arith))
