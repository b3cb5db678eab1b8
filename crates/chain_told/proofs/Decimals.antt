-- Decimal texts: they have no zero byte, and those of two numbers differ where the numbers are small, or one behind the other.
use Rattle.std.proofs.Common.{◌≡◌, ℕ, zero, suc, ◌+◌, ◌/◌, ◌%◌, ◌^◌, ◌<◌, ◌==◌, nat_lt, Bool, true, false, cond, List, [], ◌∷◌, ◌++◌, refl, sym, ap, ◌∙◌, arith, lt-ltb, ne_eqb}
use Rattle.std.specs.Fmt.{decimal, digit_glyph, digits, digits_onto}
use Rattle.std.specs.Str.Parse.{digits_value}
use Rattle.std.proofs.lemmas.Fmt.{decimal_is_IsNumeral_wide}
use Rattle.tcf_message.specs.Message.{HasNoZero, is_zero}

-- ---- No zero

glyph_plain : (d : ℕ) (bytes : List ℕ) → HasNoZero bytes → HasNoZero (digit_glyph false d ∷ bytes)
glyph_plain d bytes none = by_flag (nat_lt d 10)
  where
    by_flag : (flag : Bool) → HasNoZero (cond flag (48 + d) (87 + d) ∷ bytes)
    by_flag true = let isnt : is_zero (48 + d) ≡ false = ne_eqb (48 + d) 0 (λ is. omega arith) in rw isnt none
    by_flag false = let isnt : is_zero (87 + d) ≡ false = ne_eqb (87 + d) 0 (λ is. omega arith) in rw isnt none

onto_plain : (k n : ℕ) (bytes : List ℕ) → HasNoZero bytes → HasNoZero (digits_onto k 10 false n bytes)
onto_plain zero n bytes none = none
onto_plain (suc k) n bytes none = by_flag (n / 10 == 0) (glyph_plain (n % 10) bytes none) (onto_plain k (n / 10) (digit_glyph false (n % 10) ∷ bytes) (glyph_plain (n % 10) bytes none))
  where
    by_flag : (flag : Bool) → HasNoZero (digit_glyph false (n % 10) ∷ bytes) → HasNoZero (digits_onto k 10 false (n / 10) (digit_glyph false (n % 10) ∷ bytes))
        → HasNoZero (cond flag (digit_glyph false (n % 10) ∷ bytes) (digits_onto k 10 false (n / 10) (digit_glyph false (n % 10) ∷ bytes)))
    by_flag true here there = here
    by_flag false here there = there

pub decimal_plain : (n : ℕ) → HasNoZero (decimal n)
unfolding digits
decimal_plain n = onto_plain 64 n [] refl

-- ---- Small numbers

pub decimal_one : (m n : ℕ) → m < 10 ^ 64 → n < 10 ^ 64 → decimal m ≡ decimal n → m ≡ n
decimal_one m n small other same = sym (decimal_is_IsNumeral_wide m small).1 ∙ ap (digits_value 10) same ∙ (decimal_is_IsNumeral_wide n other).1

-- ---- One number behind the other: they end in different digits

pub last_same : {A : Type 0} → (xs ys : List A) (x y : A) → xs ++ x ∷ [] ≡ ys ++ y ∷ [] → x ≡ y
last_same [] [] x y same = cc
last_same [] (b ∷ []) x y same = absurd cc
last_same [] (b ∷ c ∷ ys) x y same = absurd cc
last_same (a ∷ []) [] x y same = absurd cc
last_same (a ∷ c ∷ xs) [] x y same = absurd cc
last_same (a ∷ xs) (b ∷ ys) x y same = let whole : a ∷ (xs ++ x ∷ []) ≡ b ∷ (ys ++ y ∷ []) = same in let tails : xs ++ x ∷ [] ≡ ys ++ y ∷ [] = cc in last_same xs ys x y tails

record EndsIn (bytes : List ℕ) (byte : ℕ) : Type 0 where
  front : List ℕ
  are : bytes ≡ front ++ byte ∷ []

onto_ends : (k n : ℕ) (bytes : List ℕ) (byte : ℕ) → EndsIn (digits_onto k 10 false n (bytes ++ byte ∷ [])) byte
onto_ends zero n bytes byte = record { front = bytes; are = refl }
onto_ends (suc k) n bytes byte = by_flag (n / 10 == 0) (onto_ends k (n / 10) (digit_glyph false (n % 10) ∷ bytes) byte)
  where
    by_flag : (flag : Bool) → EndsIn (digits_onto k 10 false (n / 10) (digit_glyph false (n % 10) ∷ (bytes ++ byte ∷ []))) byte
        → EndsIn (cond flag (digit_glyph false (n % 10) ∷ (bytes ++ byte ∷ [])) (digits_onto k 10 false (n / 10) (digit_glyph false (n % 10) ∷ (bytes ++ byte ∷ [])))) byte
    by_flag true rest = record { front = digit_glyph false (n % 10) ∷ bytes; are = refl }
    by_flag false rest = rest

some_digits : (k n : ℕ) → 0 < k → EndsIn (digits_onto k 10 false n []) (digit_glyph false (n % 10))
some_digits zero n some = absurd (omega arith)
some_digits (suc k) n some = by_flag (n / 10 == 0) (onto_ends k (n / 10) [] (digit_glyph false (n % 10)))
  where
    by_flag : (flag : Bool) → EndsIn (digits_onto k 10 false (n / 10) (digit_glyph false (n % 10) ∷ [])) (digit_glyph false (n % 10))
        → EndsIn (cond flag (digit_glyph false (n % 10) ∷ []) (digits_onto k 10 false (n / 10) (digit_glyph false (n % 10) ∷ []))) (digit_glyph false (n % 10))
    by_flag true rest = record { front = []; are = refl }
    by_flag false rest = rest

decimal_ends : (n : ℕ) → EndsIn (decimal n) (digit_glyph false (n % 10))
unfolding digits
decimal_ends n = some_digits 64 n (omega arith)

glyph_is : (d : ℕ) → d < 10 → digit_glyph false d ≡ 48 + d
glyph_is d small = ap (λ b. cond b (48 + d) (87 + d)) (lt-ltb d 10 small)

pub decimal_next : (n : ℕ) → decimal n ≡ decimal (n + 1) → ⊥
decimal_next n same =
    let one = decimal_ends n in
    let two = decimal_ends (n + 1) in
    let last : digit_glyph false (n % 10) ≡ digit_glyph false ((n + 1) % 10) = last_same one.front two.front (digit_glyph false (n % 10)) (digit_glyph false ((n + 1) % 10)) (sym one.are ∙ same ∙ two.are) in
    let first : 48 + n % 10 ≡ 48 + (n + 1) % 10 = sym (glyph_is (n % 10) (omega arith)) ∙ last ∙ glyph_is ((n + 1) % 10) (omega arith) in
    omega arith
