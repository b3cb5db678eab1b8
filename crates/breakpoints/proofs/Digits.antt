-- The digits of an address.
use Rattle.std.proofs.Common.{◌≡◌, ◌≢◌, ℕ, zero, suc, ◌<◌, ◌≤◌, ◌^◌, ◌%◌, true, List, [], ◌∷◌, get_or, refl, sym, ◌∙◌, ap, arith, subst}
use Rattle.std.specs.Prelude.{Result, Ok, Err, Option, Some, None, IsUtf8}
use Rattle.std.specs.Char.{digit_value, is_digit}
use Rattle.std.specs.List.{list_all}
use Rattle.std.specs.Result.{result_ok}
use Rattle.std.specs.Str.{IsAscii}
use Rattle.std.specs.Str.Parse.{AllDigits, IsNumeral, ParsesUnsigned, digits_value, without_leading_plus}
use Rattle.std.proofs.lemmas.Bool.{and_from, and_parts, lt-ltb, ltb-true, cond-true, cond-false, false_from_ne_true, eq-eqb}
use Rattle.std.proofs.lemmas.Bool.Decides.{nat_tests}
use Rattle.std.proofs.lemmas.Str.{IsUtf8-from_ascii}
use Rattle.std.proofs.lemmas.Str.Parse.{without_leading_plus_none}
use Rattle.breakpoints.specs.Address.{address_in, is_numeral, is_address}

-- ---- a numeral by its test and by its rule

all_from : (radix : ℕ) (digits : List ℕ) → list_all (λ d. is_digit d radix) digits ≡ true → AllDigits radix digits
all_from radix [] all = tt
all_from radix (d ∷ digits) all =
    let parts = and_parts _ _ all in (ltb-true (digit_value d) radix parts.0, all_from radix digits parts.1)

all_to : (radix : ℕ) (digits : List ℕ) → AllDigits radix digits → list_all (λ d. is_digit d radix) digits ≡ true
all_to radix [] all = refl
all_to radix (d ∷ digits) all = and_from _ _ (lt-ltb (digit_value d) radix all.0) (all_to radix digits all.1)

pub numeral_from : (radix : ℕ) (digits : List ℕ) → is_numeral radix digits ≡ true → IsNumeral radix digits
numeral_from radix [] is = cc
numeral_from radix (d ∷ digits) is = (omega arith, all_from radix (d ∷ digits) is)

pub numeral_to : (radix : ℕ) (digits : List ℕ) → IsNumeral radix digits → is_numeral radix digits ≡ true
numeral_to radix [] is = absurd (omega (arith, is.0))
numeral_to radix (d ∷ digits) is = all_to radix (d ∷ digits) is.1

-- ---- digits are ASCII

small_digit : (d radix : ℕ) → radix ≤ 36 → digit_value d < radix → d < 128
small_digit d radix most below = grind (arith, nat_tests)

ascii_digits : (radix : ℕ) (digits : List ℕ) → radix ≤ 36 → AllDigits radix digits → IsAscii digits
ascii_digits radix [] most all zero = omega arith
ascii_digits radix [] most all (suc i) = omega arith
ascii_digits radix (d ∷ digits) most all zero = small_digit d radix most all.0
ascii_digits radix (d ∷ digits) most all (suc i) = ascii_digits radix digits most all.1 i

-- ---- what is read

none_by : (radix : ℕ) (digits : List ℕ) → (is_numeral radix digits ≡ true → is_address (digits_value radix digits) ≡ true → ⊥) → address_in radix digits ≡ None
none_by radix digits never =
    cond-false _ _ _ (false_from_ne_true _ (λ e. let parts = and_parts _ _ e in never parts.0 parts.1))

-- bytes that are no text are no digits
pub address_of_no_text : (radix : ℕ) (digits : List ℕ) → radix ≤ 36 → (IsUtf8 digits → ⊥) → address_in radix digits ≡ None
address_of_no_text radix digits most other =
    none_by radix digits (λ numeral address. other (IsUtf8-from_ascii digits (ascii_digits radix digits most (numeral_from radix digits numeral).1)))

-- a text that isn't read is no address
pub address_gone : {E : Type 0} (radix : ℕ) (digits : List ℕ) (r : Result ℕ E) → get_or digits 0 0 ≢ 43 → ParsesUnsigned 32 radix digits r → result_ok r ≡ None → address_in radix digits ≡ None
address_gone radix digits (Ok n) plain parses gone = cc
address_gone radix digits (Err e) plain parses gone =
    none_by radix digits (λ numeral address.
    let same : without_leading_plus digits ≡ digits = without_leading_plus_none digits plain in
    let small : digits_value radix digits < 65536 = ltb-true _ _ (and_parts _ _ address).0 in
    let P : List ℕ → Type 0 = λ t. IsNumeral radix t × (digits_value radix t < 2 ^ 32) in
    parses (subst P (sym same) (numeral_from radix digits numeral, omega arith)))

same_number : (k n : ℕ) → ◌≡◌ {A = Option ℕ} (Some k) (Some n) → k ≡ n
same_number k n same = cc

-- a number that is read is the address, where it is one
pub address_read : {E : Type 0} (radix : ℕ) (digits : List ℕ) (r : Result ℕ E) (n : ℕ) → get_or digits 0 0 ≢ 43 → ParsesUnsigned 32 radix digits r → result_ok r ≡ Some n → n < 65536 → n % 4 ≡ 0 → address_in radix digits ≡ Some n
address_read radix digits (Err e) n plain parses is small multiple = cc
address_read radix digits (Ok k) n plain parses is small multiple =
    let same : without_leading_plus digits ≡ digits = without_leading_plus_none digits plain in
    let value : n ≡ digits_value radix digits = sym (same_number k n is) ∙ parses.1 ∙ ap (digits_value radix) same in
    let numeral : IsNumeral radix digits = subst (IsNumeral radix) same parses.0.0 in
    let below : digits_value radix digits < 65536 = omega arith in
    let address : is_address (digits_value radix digits) ≡ true =
    and_from _ _ (lt-ltb (digits_value radix digits) 65536 below) (eq-eqb _ 0 (ap (λ k. k % 4) (sym value) ∙ multiple)) in
    cond-true _ _ _ (and_from _ _ (numeral_to radix digits numeral) address) ∙ ap Some (sym value)
