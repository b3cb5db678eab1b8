-- A number below 2^64 in decimal digits.
use Rattle.std.proofs.Common.{◌≡◌, ◌≢◌, ℕ, ◌<◌, ◌^◌, ◌&&◌, cond, List, ap, sym, subst, ◌∙◌}
use Rattle.std.specs.Prelude.{Result, Ok, Err, Some, None, decimal, bytes_eq, nat_lt, IsUtf8}
use Rattle.std.specs.Str.{IsAscii}
use Rattle.std.specs.Str.Parse.{ParsesUnsigned, digits_value}
use Rattle.std.proofs.lemmas.Bool.{and_from, and_parts, lt-ltb, ltb-true, cond-true, cond-false, false_from_ne_true}
use Rattle.std.proofs.lemmas.Fmt.{decimal_is_IsNumeral, parse-decimal, IsAscii-decimal}
use Rattle.std.proofs.lemmas.Str.{IsUtf8-from_ascii}
use Rattle.std.proofs.lemmas.Slice.Eq.{bytes_eq-Decides}
use Rattle.tcf_text.specs.Said.{long_number_of}

-- digits of such a number say it
pub number_said : (digits : List ℕ) (n : ℕ) → n < 2 ^ 64 → digits ≡ decimal n → long_number_of digits ≡ Some n
unfolding long_number_of
number_said digits n small is =
    ap (λ k. cond (bytes_eq digits (decimal k) && nat_lt k (2 ^ 64)) (Some k) None) (ap (digits_value 10) is ∙ (decimal_is_IsNumeral n small).1)
    ∙ cond-true _ _ _ (and_from _ _ ((bytes_eq-Decides digits (decimal n)).1 is) (lt-ltb n (2 ^ 64) small))

-- others say none
pub number_unsaid : (digits : List ℕ) → ((n : ℕ) → n < 2 ^ 64 → digits ≢ decimal n) → long_number_of digits ≡ None
unfolding long_number_of
number_unsaid digits none =
    let n : ℕ = digits_value 10 digits in
    cond-false (bytes_eq digits (decimal n) && nat_lt n (2 ^ 64)) (Some n) None (false_from_ne_true _ (λ e.
    let both = and_parts _ _ e in none n (ltb-true n (2 ^ 64) both.1) ((bytes_eq-Decides digits (decimal n)).0 both.0)))

no_number : {E : Type 0} (r : Result ℕ E) (e : E) (n : ℕ) → r ≡ Err e → r ≡ Ok n → ⊥
no_number r e n is same = cc

same_number : {E : Type 0} (r : Result ℕ E) (k n : ℕ) → r ≡ Ok k → r ≡ Ok n → k ≡ n
same_number r k n is same = cc

-- digits that aren't read as a number, or as another one than they are the text of
pub unread_says_none : {E : Type 0} (r : Result ℕ E) (e : E) (digits : List ℕ) → ParsesUnsigned 64 10 digits r → r ≡ Err e → long_number_of digits ≡ None
unread_says_none r e digits parses read = number_unsaid digits (λ n small is. no_number r e n read (parse-decimal 64 n digits r small small is parses))

pub other_says_none : {E : Type 0} (r : Result ℕ E) (k : ℕ) (digits : List ℕ) → ParsesUnsigned 64 10 digits r → r ≡ Ok k → decimal k ≢ digits → long_number_of digits ≡ None
other_says_none r k digits parses read other =
    number_unsaid digits (λ n small is. other (ap decimal (same_number r k n read (parse-decimal 64 n digits r small small is parses)) ∙ sym is))

-- bytes that are no text say none
pub bytes_say_none : (digits : List ℕ) → (IsUtf8 digits → ⊥) → long_number_of digits ≡ None
bytes_say_none digits not = number_unsaid digits (λ n small is. not (IsUtf8-from_ascii digits (subst IsAscii (sym is) (IsAscii-decimal n small))))
