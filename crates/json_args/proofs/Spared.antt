-- The values that are read without the reader.
use Rattle.std.proofs.Common.{◌≡◌, ℕ, zero, suc, ◌+◌, ◌-◌, ◌<◌, ◌≤◌, ◌^◌, List, [], ◌∷◌, ◌++◌, length, take, drop, get_or, true, Some, inl, inr, refl, sym, ap, ap₂, ◌∙◌, subst, arith}
use Rattle.std.specs.Prelude.{decimal, option_map, IsUtf8, nat_le}
use Rattle.std.specs.Int.{is_in_range}
use Rattle.std.specs.List.{AllByRecursion, list_all}
use Rattle.std.proofs.lemmas.Bool.{and_parts, leb-true, or_cases}
use Rattle.std.proofs.lemmas.Fmt.{IsAscii-decimal}
use Rattle.std.proofs.lemmas.List.{drop_all, drop_more, take-append-drop}
use Rattle.std.specs.Str.{IsAscii}
use Rattle.std.proofs.lemmas.Str.{IsUtf8-from_ascii, is_utf8-from_IsUtf8}
use Rattle.json.specs.Print.{escape}
use Rattle.json.proofs.Printed.Decimals.{IsNumber-decimal}
use Rattle.json.proofs.Printed.Strings.{escape_byte_plain}
use Rattle.serde_json.specs.Data.{number, string, unsigned}
use Rattle.serde_json.proofs.Numbers.{number_of-decimal}
use Rattle.serde_json.specs.Written.{compact_text}
use Rattle.tcf_values.specs.Number.{number_of}
use Rattle.tcf_values.specs.NumberLaws.{number_found}
use Rattle.json_args.specs.Kinds.{json_of}
use Rattle.json_args.specs.Unescaped.{is_unescaped}
use Rattle.json_args.proofs.ReadBack.{IsClean, clean_reads, read_there}

decimal_is : (n : ℕ) → n < 2 ^ 32 → json_of (decimal n) ≡ Some (number (unsigned n))
decimal_is n small =
    let wide : n < 2 ^ 64 = omega arith in
    let clean : IsClean (number (unsigned n)) = record { numbers = IsNumber-decimal n wide; reads = ap (option_map number) (number_of-decimal n wide) } in
    read_there (number (unsigned n)) (clean_reads (number (unsigned n)) clean (omega arith)) (is_utf8-from_IsUtf8 (decimal n) (IsUtf8-from_ascii (decimal n) (IsAscii-decimal n wide)))

-- digits alone are their number
pub number_is : (part : List ℕ) (n : ℕ) → number_of 0 4294967295 part ≡ Some n → json_of part ≡ Some (number (unsigned n))
number_is part n found =
    let is = number_found 0 4294967295 part n found in
    ap json_of is.0 ∙ decimal_is n is.3

-- ---- strings

abbrev StandsForItself : ℕ → Type 0
StandsForItself b = (b ≡ 34 → ⊥) × (b ≡ 92 → ⊥) × (32 ≤ b) × (b < 128)

between : (low high b : ℕ) → is_in_range low high b ≡ true → (low ≤ b) × (b ≤ high)
between low high b in_range = let both = and_parts (nat_le low b) (nat_le b high) in_range in (leb-true low b both.0, leb-true b high both.1)

first_range : (b : ℕ) → (32 ≤ b) × (b ≤ 33) → StandsForItself b
first_range b h = (λ e. absurd (omega (arith, h.1)), λ e. absurd (omega (arith, h.1)), h.0, omega (arith, h.1))

second_range : (b : ℕ) → (35 ≤ b) × (b ≤ 91) → StandsForItself b
second_range b h = (λ e. absurd (omega (arith, h.0)), λ e. absurd (omega (arith, h.1)), omega (arith, h.0), omega (arith, h.1))

third_range : (b : ℕ) → (93 ≤ b) × (b ≤ 126) → StandsForItself b
third_range b h = (λ e. absurd (omega (arith, h.0)), λ e. absurd (omega (arith, h.0)), omega (arith, h.0), omega (arith, h.1))

stands : (b : ℕ) → is_unescaped b ≡ true → StandsForItself b
stands b h =
    elim (or_cases _ (is_in_range 93 126 b) h) [
      | inl low ↦
          elim (or_cases (is_in_range 32 33 b) (is_in_range 35 91 b) low) [
            | inl e ↦ first_range b (between 32 33 b e)
            | inr e ↦ second_range b (between 35 91 b e)
          ]
      | inr e ↦ third_range b (between 93 126 b e)
    ]

all_stand : (text : List ℕ) → list_all is_unescaped text ≡ true → AllByRecursion StandsForItself text
all_stand [] h = tt
all_stand (b ∷ text) h = let both = and_parts (is_unescaped b) (list_all is_unescaped text) h in (stands b both.0, all_stand text both.1)

same_escaped : (text : List ℕ) → AllByRecursion StandsForItself text → escape text ≡ text
same_escaped [] h = refl
same_escaped (b ∷ text) h = ap₂ (λ front rest. front ++ rest) (escape_byte_plain b h.0.0 h.0.1 h.0.2) (same_escaped text h.1)

-- the text and the quote behind it
ascii_on : (text : List ℕ) → AllByRecursion StandsForItself text → IsAscii (text ++ 34 ∷ [])
ascii_on [] h zero = omega arith
ascii_on [] h (suc i) = omega arith
ascii_on (b ∷ text) h zero = h.0.3
ascii_on (b ∷ text) h (suc i) = ascii_on text h.1 i

ascii_quoted : (text : List ℕ) → AllByRecursion StandsForItself text → IsAscii (34 ∷ (text ++ 34 ∷ []))
ascii_quoted text h zero = omega arith
ascii_quoted text h (suc i) = ascii_on text h i

unescaped_is : (text : List ℕ) → AllByRecursion StandsForItself text → json_of (34 ∷ (text ++ 34 ∷ [])) ≡ Some (string text)
unescaped_is text h =
    let same : 34 ∷ (text ++ 34 ∷ []) ≡ compact_text (string text) = ap (λ t. 34 ∷ (t ++ 34 ∷ [])) (sym (same_escaped text h)) in
    let clean : IsClean (string text) = record { numbers = tt; reads = refl } in
    ap json_of same ∙ read_there (string text) (clean_reads (string text) clean (omega arith)) (is_utf8-from_IsUtf8 (compact_text (string text)) (subst IsUtf8 same (IsUtf8-from_ascii (34 ∷ (text ++ 34 ∷ [])) (ascii_quoted text h))))

-- a list ends with its last element
last_apart : (bs : List ℕ) → 1 ≤ length bs → bs ≡ take (length bs - 1) bs ++ get_or bs (length bs - 1) 0 ∷ []
last_apart bs some =
    let at = length bs - 1 in
    let end : drop at bs ≡ get_or bs at 0 ∷ [] = drop_more bs at 0 (omega arith) ∙ ap (λ rest. get_or bs at 0 ∷ rest) (drop_all (at + 1) bs (omega arith)) in
    sym (take-append-drop at bs) ∙ ap (λ rest. take at bs ++ rest) end

between_quotes : (part text : List ℕ) → 2 ≤ length part → get_or part 0 0 ≡ 34 → get_or part (length part - 1) 0 ≡ 34 → text ≡ take (length part - 1 - 1) (drop 1 part)
    → part ≡ 34 ∷ (text ++ 34 ∷ [])
between_quotes [] text long first last is = absurd (omega (arith, long))
between_quotes (b ∷ []) text long first last is = absurd (omega (arith, long))
between_quotes (b ∷ c ∷ bs) text long first last is =
    let at : length (b ∷ c ∷ bs) - 1 ≡ length (c ∷ bs) = omega arith in
    let front : take (length (c ∷ bs) - 1) (c ∷ bs) ≡ text = sym (is ∙ ap (λ n. take (n - 1) (c ∷ bs)) at) in
    let one : length (c ∷ bs) ≡ suc (length (c ∷ bs) - 1) = omega arith in
    let end : get_or (c ∷ bs) (length (c ∷ bs) - 1) 0 ≡ 34 = sym (ap (λ n. get_or (b ∷ c ∷ bs) n 0) (at ∙ one)) ∙ last in
    ap₂ (λ x rest. x ∷ rest) first (last_apart (c ∷ bs) (omega arith) ∙ ap₂ (λ x y. x ++ y ∷ []) front end)

-- a string of characters that stand for themselves has them as its text
pub string_is : (part text : List ℕ) → 2 ≤ length part → get_or part 0 0 ≡ 34 → get_or part (length part - 1) 0 ≡ 34 → text ≡ take (length part - 1 - 1) (drop 1 part)
    → list_all is_unescaped text ≡ true → json_of part ≡ Some (string text)
string_is part text long first last is plain = ap json_of (between_quotes part text long first last is) ∙ unescaped_is text (all_stand text plain)
