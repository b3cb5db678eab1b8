-- Rows with rising tokens: the one that a token names, and those that are left without it.
use Rattle.std.proofs.Common.{◌≡◌, ◌≢◌, ℕ, zero, suc, ◌+◌, ◌<◌, ◌≤◌, Bool, true, false, not, cond, ◌||◌, nat_lt, List, [], ◌∷◌, length, map, Some, None, refl, sym, ap, ◌∙◌, subst, arith, one-add}
use Rattle.std.specs.Prelude.{bytes_eq, decimal, position, remove, slice_get}
use Rattle.std.specs.List.{filter, position_or_len, range_with_len}
use Rattle.std.proofs.lemmas.Fmt.{decimal_is_IsNumeral}
use Rattle.std.specs.Str.Parse.{digits_value}
use Rattle.std.proofs.lemmas.Slice.Eq.{bytes_eq-Decides}
use Rattle.std.proofs.lemmas.Bool.{ltb-true}
use Rattle.channel_core.specs.Sending.{last_token}

-- the token is this row's
abbrev pub names : {T : Type 0} → List ℕ → ℕ × T → Bool
names token row = bytes_eq token (decimal row.0)

abbrev pub unnamed : {T : Type 0} → List ℕ → ℕ × T → Bool
unnamed token row = not (names token row)

pub named_is : (token : List ℕ) (n : ℕ) → bytes_eq token (decimal n) ≡ true → token ≡ decimal n
named_is token n is = (bytes_eq-Decides token (decimal n)).0 is

-- no two numbers of 64 bits have the same digits
pub decimal_one : (m n : ℕ) → m ≤ last_token → n ≤ last_token → decimal m ≡ decimal n → m ≡ n
decimal_one m n low high is =
    let first = (decimal_is_IsNumeral m (omega arith)).1 in
    let second = (decimal_is_IsNumeral n (omega arith)).1 in
    sym first ∙ ap (digits_value 10) is ∙ second

pub not_named : (m n : ℕ) → m ≤ last_token → n ≤ last_token → m ≢ n → bytes_eq (decimal m) (decimal n) ≡ false
not_named m n low high other = by_flag (bytes_eq (decimal m) (decimal n)) refl
  where
    by_flag : (flag : Bool) → bytes_eq (decimal m) (decimal n) ≡ flag → bytes_eq (decimal m) (decimal n) ≡ false
    by_flag true is = absurd (other (decimal_one m n low high (named_is (decimal m) n is)))
    by_flag false is = is

-- ---- Rising tokens, above the one number and not above the other

abbrev pub IsRising : {T : Type 0} → ℕ → ℕ → List (ℕ × T) → Type 0
IsRising low high [] = Unit {0}
IsRising low high (row ∷ rows) = (low < row.0) × (row.0 ≤ high) × IsRising row.0 high rows

pub rising_of : {T : Type 0} → (low n high : ℕ) (rows : List (ℕ × T)) → map (λ row. row.0) rows ≡ range_with_len (low + 1) n → low + n ≤ high → IsRising low high rows
rising_of low n high [] is within = tt
rising_of low zero high (row ∷ rows) is within = absurd cc
rising_of low (suc n) high (row ∷ rows) is within =
    let first : row.0 ≡ low + 1 = cc in
    let rest : map (λ r. r.0) rows ≡ range_with_len ((low + 1) + 1) n = cc in
    (omega arith, omega arith, rising_of row.0 n high rows (rest ∙ ap (λ m. range_with_len (m + 1) n) (sym first)) (omega arith))

pub rising_from : {T : Type 0} → (low lower high : ℕ) (rows : List (ℕ × T)) → lower ≤ low → IsRising low high rows → IsRising lower high rows
rising_from low lower high [] less r = tt
rising_from low lower high (row ∷ rows) less r = (let first = r.0 in omega arith, r.1, r.2)

pub rising_filter : {T : Type 0} → (test : ℕ × T → Bool) (low high : ℕ) (rows : List (ℕ × T)) → IsRising low high rows → IsRising low high (filter test rows)
rising_filter test low high [] r = tt
rising_filter test low high (row ∷ rows) r = by_flag (test row) (rising_filter test row.0 high rows r.2)
  where
    by_flag : (flag : Bool) → IsRising row.0 high (filter test rows) → IsRising low high (cond flag (row ∷ filter test rows) (filter test rows))
    by_flag true rest = (r.0, r.1, rest)
    by_flag false rest = let first = r.0 in rising_from row.0 low high (filter test rows) (omega arith) rest

-- ---- The row that a token names

-- rows above a number aren't named by its digits
none_named : {T : Type 0} → (number low high : ℕ) (rows : List (ℕ × T)) → number ≤ low → number ≤ last_token → high ≤ last_token → IsRising low high rows
    → filter (unnamed (decimal number)) rows ≡ rows
none_named number low high [] under least most r = refl
none_named number low high (row ∷ rows) under least most r =
    let first = r.0 in
    let second = r.1 in
    let isnt : bytes_eq (decimal number) (decimal row.0) ≡ false = not_named number row.0 least (omega arith) (λ is. omega arith) in
    rw isnt (ap (λ rs. row ∷ rs) (none_named number row.0 high rows (omega arith) least most r.2))

-- without it the others are left
pub removed : {T : Type 0} → (token : List ℕ) (low high : ℕ) (rows : List (ℕ × T)) → high ≤ last_token → IsRising low high rows → position_or_len (names token) rows < length rows
    → remove rows (position_or_len (names token) rows) ≡ filter (unnamed token) rows
removed token low high [] most r found = absurd (omega arith)
removed token low high (row ∷ rows) most r found = by_flag (names token row) refl found (removed token row.0 high rows most r.2)
  where
    by_flag : (flag : Bool) → names token row ≡ flag → cond (not flag) (1 + position_or_len (names token) rows) 0 < length (row ∷ rows)
        → (position_or_len (names token) rows < length rows → remove rows (position_or_len (names token) rows) ≡ filter (unnamed token) rows)
        → remove (row ∷ rows) (cond (not flag) (1 + position_or_len (names token) rows) 0) ≡ cond (not flag) (row ∷ filter (unnamed token) rows) (filter (unnamed token) rows)
    by_flag true is found rest =
        let named : token ≡ decimal row.0 = named_is token row.0 is in
        let second = r.1 in
        let P : List ℕ → Type 0 = λ text. rows ≡ filter (unnamed text) rows in
        subst P (sym named) (sym (none_named row.0 row.0 high rows (omega arith) (omega arith) most r.2))
    by_flag false is found rest = rw one-add (ap (λ rs. row ∷ rs) (rest (omega arith)))

-- it is named
pub found_named : {T : Type 0} → (token : List ℕ) (rows : List (ℕ × T)) (row : ℕ × T) → slice_get rows (position_or_len (names token) rows) ≡ Some row → names token row ≡ true
found_named token [] row is = absurd cc
found_named token (first ∷ rows) row is = by_flag (names token first) refl is (found_named token rows row)
  where
    by_flag : (flag : Bool) → names token first ≡ flag → slice_get (first ∷ rows) (cond (not flag) (1 + position_or_len (names token) rows) 0) ≡ Some row
        → (slice_get rows (position_or_len (names token) rows) ≡ Some row → names token row ≡ true) → names token row ≡ true
    by_flag true named is rest = let same : first ≡ row = cc in ap (names token) (sym same) ∙ named
    by_flag false named is rest = rest (rw one-add at is)

chosen : (flag : Bool) (m n : ℕ) → cond flag (Some m) None ≡ Some n → (flag ≡ true) × (m ≡ n)
chosen true m n is = (refl, cc)
chosen false m n is = absurd cc

-- its place
pub record IsPlace {T : Type 0} (token : List ℕ) (rows : List (ℕ × T)) (place : ℕ) : Type 0 where
  pub within : position_or_len (names token) rows < length rows
  pub place_is : position_or_len (names token) rows ≡ place

pub placed : {T : Type 0} → (token : List ℕ) (rows : List (ℕ × T)) (place : ℕ) → position (names token) rows ≡ Some place → IsPlace token rows place
placed token rows place is =
    let c = chosen (nat_lt (position_or_len (names token) rows) (length rows)) (position_or_len (names token) rows) place is in
    record { within = ltb-true (position_or_len (names token) rows) (length rows) c.0; place_is = c.1 }

-- ---- One filter after the other

pub filter_two : {A : Type 0} → (one two both : A → Bool) → ((x : A) → both x ≡ (one x || two x)) → (xs : List A) → filter (λ x. not (both x)) xs ≡ filter (λ x. not (two x)) (filter (λ x. not (one x)) xs)
filter_two one two both each [] = refl
filter_two one two both each (x ∷ xs) = by_flag (one x) (both x) (each x) (filter_two one two both each xs)
  where
    by_flag : (first all : Bool) → all ≡ (first || two x) → filter (λ y. not (both y)) xs ≡ filter (λ y. not (two y)) (filter (λ y. not (one y)) xs)
        → cond (not all) (x ∷ filter (λ y. not (both y)) xs) (filter (λ y. not (both y)) xs) ≡ filter (λ y. not (two y)) (cond (not first) (x ∷ filter (λ y. not (one y)) xs) (filter (λ y. not (one y)) xs))
    by_flag true all same rest = rw same rest
    by_flag false all same rest = rw same (ap (λ ys. cond (not (two x)) (x ∷ ys) ys) rest)
