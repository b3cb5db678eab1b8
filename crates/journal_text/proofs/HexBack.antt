-- The digits of some bytes.
use Rattle.std.proofs.Common.{◌≡◌, ℕ, zero, suc, ◌<◌, ◌*◌, ◌/◌, ◌%◌, true, false, List, [], ◌∷◌, length, refl, ◌∙◌, ap, arith}
use Rattle.std.specs.Prelude.{bytes_eq, slice_index}
use Rattle.std.specs.List.{AllByRecursion, list_all}
use Rattle.std.proofs.lemmas.Bool.{agree_below_at, and_from, cond-false, eq-eqb, false_from_ne_true, lt-ltb, or_right}
use Rattle.std.proofs.lemmas.Slice.Eq.{bytes_eq-Decides}
use Rattle.hex.specs.Hex.{IsBytes, decode_of, encode_lower, encode_with, lower_digits}
use Rattle.hex.proofs.HexLemmas.{decode_of-encode_lower, length-encode_with}
use Rattle.tcf_schedules.specs.Words.{bytes_of, bytes_or_none, dash_word, is_hex_word, is_low_hex}
use Rattle.tcf_text.specs.Said.{IsByte}
use Rattle.journal_text.specs.Written.{hex_text}

abbrev digit : ℕ → ℕ
digit d = slice_index lower_digits d

low : (d : ℕ) → d < 16 → is_low_hex (digit d) ≡ true
low d small = agree_below_at (λ k. is_low_hex (digit k)) (λ k. true) 16 d refl small

pub all_low : (bytes : List ℕ) → AllByRecursion IsByte bytes → list_all is_low_hex (encode_lower bytes) ≡ true
unfolding encode_with
all_low [] are = refl
all_low (b ∷ bytes) are =
    let small : b < 256 = are.0 in
    and_from (is_low_hex (digit (b / 16))) _ (low (b / 16) (omega arith)) (and_from (is_low_hex (digit (b % 16))) _ (low (b % 16) (omega arith)) (all_low bytes are.1))

-- they are digits, two for each byte, and no byte is `-`
pub hex_is_word : (bytes : List ℕ) → AllByRecursion IsByte bytes → is_hex_word (hex_text bytes) ≡ true
unfolding dash_word
hex_is_word [] are = refl
hex_is_word (b ∷ bytes) are =
    let two : length (encode_lower (b ∷ bytes)) ≡ 2 * length (b ∷ bytes) = length-encode_with lower_digits (b ∷ bytes) in
    or_right (bytes_eq (encode_lower (b ∷ bytes)) dash_word) _
    (and_from _ _ (and_from _ _ (lt-ltb 0 (length (encode_lower (b ∷ bytes))) (omega arith)) (eq-eqb (length (encode_lower (b ∷ bytes)) % 2) 0 (omega arith))) (all_low (b ∷ bytes) are))

indexed : (bytes : List ℕ) → AllByRecursion IsByte bytes → IsBytes bytes
indexed [] are i = omega arith
indexed (b ∷ bytes) are zero = are.0
indexed (b ∷ bytes) are (suc i) = indexed bytes are.1 i

no_dash : (digits : List ℕ) (n : ℕ) → length digits ≡ 2 * n → bytes_eq digits dash_word ≡ false
unfolding dash_word
no_dash digits n two =
    false_from_ne_true _ (λ e. let one : length digits ≡ 1 = ap length ((bytes_eq-Decides digits dash_word).0 e) in omega arith)

-- the bytes that they say
pub hex_back : (bytes : List ℕ) → AllByRecursion IsByte bytes → bytes_of (hex_text bytes) ≡ bytes
unfolding dash_word
hex_back [] are = refl
hex_back (b ∷ bytes) are =
    cond-false (bytes_eq (encode_lower (b ∷ bytes)) dash_word) [] (bytes_or_none (decode_of (encode_lower (b ∷ bytes))))
    (no_dash (encode_lower (b ∷ bytes)) (length (b ∷ bytes)) (length-encode_with lower_digits (b ∷ bytes)))
    ∙ ap bytes_or_none (decode_of-encode_lower (b ∷ bytes) (indexed (b ∷ bytes) are))
