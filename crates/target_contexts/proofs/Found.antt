-- A process is found exactly where its number is a live one, and then the number is above 0.
use Rattle.std.proofs.Common.{◌≡◌, ℕ, zero, suc, ◌<◌, nat_eq, false, List, [], ◌∷◌, length, get_or, slice_get, slice_set, Option, Some, None, option_map, IsSome, refl, sym, ◌∙◌, ap, arith, eqb-true, nat_lt, if◌then◌else◌}
use Rattle.std.specs.List.{position_or_len}
use Rattle.std.proofs.lemmas.List.Quantifiers.{position-Some}
use Rattle.std.proofs.lemmas.List.{get_or_default}
use Rattle.std.proofs.lemmas.List.Sums.{fails_before_first}
use Rattle.std.proofs.lemmas.Option.{slice_get_read}
use Rattle.target_contexts.specs.Live.{IsLive, IsOrderly, numbers_of, place_of, process_at, process_of, with_at, with_process, with_row, Rise}
use Rattle.target_contexts.specs.ProcessValue.{ProcessValue}

-- the row at the place of a number has that number
pub number_there : (number : ℕ) (rows : List (ℕ × ProcessValue)) (place : ℕ) (row : ℕ × ProcessValue) → place_of number rows ≡ Some place → row ≡ get_or rows place row → row.0 ≡ number
number_there number rows place row found there =
    let facts = position-Some (λ (r : ℕ × ProcessValue). nat_eq r.0 number) rows place row found in
    ap (λ (r : ℕ × ProcessValue). r.0) there ∙ eqb-true (get_or rows place row).0 number facts.1

pub inside : (number : ℕ) (rows : List (ℕ × ProcessValue)) (place : ℕ) (row : ℕ × ProcessValue) → place_of number rows ≡ Some place → place < length rows
inside number rows place row found = (position-Some (λ (r : ℕ × ProcessValue). nat_eq r.0 number) rows place row found).0

live_by : (number : ℕ) (rows : List (ℕ × ProcessValue)) (o : Option ℕ) → place_of number rows ≡ o → IsSome o → IsLive number rows
live_by number rows None found some = cc
live_by number [] (Some place) found some = cc
live_by number (first ∷ rest) (Some place) found some =
    let row : ℕ × ProcessValue = get_or (first ∷ rest) place first in
    let there : row ≡ get_or (first ∷ rest) place row = get_or_default (first ∷ rest) place first row (inside number (first ∷ rest) place first found) in
    (place, row, inside number (first ∷ rest) place row found, sym there, number_there number (first ∷ rest) place row found there)

-- a test that fails before a place, and holds below the length, finds a place below it
some_by : (place k length number n : ℕ) → (k < place → nat_eq n number ≡ false) → n ≡ number → k < length → IsSome (if nat_lt place length then Some place else None)
some_by place k length number n fails same below = grind arith

some_from : (number : ℕ) (rows : List (ℕ × ProcessValue)) → IsLive number rows → IsSome (place_of number rows)
some_from number rows (k, row, below, there, same) =
    some_by (position_or_len (λ (r : ℕ × ProcessValue). nat_eq r.0 number) rows) k (length rows) number (get_or rows k row).0
    (fails_before_first (λ (r : ℕ × ProcessValue). nat_eq r.0 number) rows k row) (ap (λ (r : ℕ × ProcessValue). r.0) there ∙ same) below

-- where there is a place, the number is a live one; where there is none, it isn't
pub live_at : (number : ℕ) (rows : List (ℕ × ProcessValue)) (place : ℕ) → place_of number rows ≡ Some place → IsLive number rows
live_at number rows place found = live_by number rows (Some place) found refl

pub not_live : (number : ℕ) (rows : List (ℕ × ProcessValue)) → place_of number rows ≡ None → IsLive number rows → ⊥
not_live number rows missing live = let some : IsSome (place_of number rows) = some_from number rows live in cc

-- the process at the place of its number
pub process_there : (number : ℕ) (rows : List (ℕ × ProcessValue)) (place : ℕ) (row : ℕ × ProcessValue) → place_of number rows ≡ Some place → row ≡ get_or rows place row → process_of number rows ≡ Some row.1
process_there number rows place row found there =
    let read : slice_get rows place ≡ Some row = slice_get_read rows (length rows) place row refl (inside number rows place row found) there in
    ap (λ (o : Option ℕ). process_at rows o) found ∙ ap (λ (o : Option (ℕ × ProcessValue)). option_map (λ (r : ℕ × ProcessValue). r.1) o) read

-- every number is above the lower bound
pub above : (rows : List (ℕ × ProcessValue)) (low next place : ℕ) (row : ℕ × ProcessValue) → Rise low (numbers_of rows) next → place < length rows → row ≡ get_or rows place row → low < row.0
above [] low next place row rising inside there = absurd (omega arith)
above (first ∷ rows) low next zero row rising inside there = let e : row.0 ≡ first.0 = ap (λ (r : ℕ × ProcessValue). r.0) there in omega (arith, rising.0)
above (first ∷ rows) low next (suc place) row rising inside there =
    let more : first.0 < row.0 = above rows first.0 next place row rising.1 (omega arith) there in
    omega (arith, rising.0)

pub positive_there : (number : ℕ) (rows : List (ℕ × ProcessValue)) (next place : ℕ) (row : ℕ × ProcessValue) → IsOrderly rows next → place_of number rows ≡ Some place → row ≡ get_or rows place row → 0 < number
positive_there number rows next place row orderly found there =
    let more : 0 < row.0 = above rows 0 next place row orderly.rising (inside number rows place row found) there in
    omega (arith, number_there number rows place row found there)

-- a process written into the row at the place of its number is the process of that number
pub written_there : (number : ℕ) (rows : List (ℕ × ProcessValue)) (place : ℕ) (row : ℕ × ProcessValue) (process : ProcessValue) → place_of number rows ≡ Some place → row ≡ get_or rows place row → with_process number process rows ≡ slice_set rows place (row.0, process)
written_there number rows place row process found there =
    let read : slice_get rows place ≡ Some row = slice_get_read rows (length rows) place row refl (inside number rows place row found) there in
    ap (λ (o : Option ℕ). with_at process rows o) found ∙ ap (λ (o : Option (ℕ × ProcessValue)). with_row process rows place o) read

-- every number is below the next
pub below : (rows : List (ℕ × ProcessValue)) (low next : ℕ) → Rise low (numbers_of rows) next → low < next
below [] low next rising = rising
below (row ∷ rows) low next rising = omega (arith, rising.0, below rows row.0 next rising.1)

below_next : (rows : List (ℕ × ProcessValue)) (low next place : ℕ) (row : ℕ × ProcessValue) → Rise low (numbers_of rows) next → place < length rows → get_or rows place row ≡ row → row.0 < next
below_next [] low next place row rising inside there = absurd (omega arith)
below_next (first ∷ rows) low next zero row rising inside there = let e : first.0 ≡ row.0 = ap (λ (r : ℕ × ProcessValue). r.0) there in omega (arith, below rows first.0 next rising.1)
below_next (first ∷ rows) low next (suc place) row rising inside there = below_next rows first.0 next place row rising.1 (omega arith) there

-- the next number is no live one
pub next_unused : (rows : List (ℕ × ProcessValue)) (next : ℕ) → IsOrderly rows next → IsLive next rows → ⊥
next_unused rows next orderly (place, row, inside, there, same) =
    let low : row.0 < next = below_next rows 0 next place row orderly.rising inside there in
    omega arith
