-- The live processes: each stands beside its number, in the order of the numbers.
use Rattle.std.specs.Prelude.{ℕ, ◌≡◌, ◌^◌, ◌<◌, ◌≤◌, ◌==◌, List, [], ◌∷◌, length, map, position, remove, slice_get, slice_set, Any, Option, Some, None, option_map}
use Rattle.target_contexts.specs.ProcessValue.{ProcessValue}

abbrev pub numbers_of : List (ℕ × ProcessValue) → List ℕ
numbers_of rows = map (λ row. row.0) rows

-- some live process has this number
abbrev pub IsLive : ℕ → List (ℕ × ProcessValue) → Type 0
IsLive number rows = Any (λ row. row.0 ≡ number) rows

-- where the process of this number stands
abbrev pub place_of : ℕ → List (ℕ × ProcessValue) → Option ℕ
place_of number rows = position (λ row. row.0 == number) rows

abbrev pub process_at : List (ℕ × ProcessValue) → Option ℕ → Option ProcessValue
process_at rows (Some place) = option_map (λ row. row.1) (slice_get rows place)
process_at rows None = None

-- the live process of this number
abbrev pub process_of : ℕ → List (ℕ × ProcessValue) → Option ProcessValue
process_of number rows = process_at rows (place_of number rows)

abbrev pub without_at : List (ℕ × ProcessValue) → Option ℕ → List (ℕ × ProcessValue)
without_at rows (Some place) = remove rows place
without_at rows None = rows

-- the others, in their order
abbrev pub without : ℕ → List (ℕ × ProcessValue) → List (ℕ × ProcessValue)
without number rows = without_at rows (place_of number rows)

abbrev pub with_row : ProcessValue → List (ℕ × ProcessValue) → ℕ → Option (ℕ × ProcessValue) → List (ℕ × ProcessValue)
with_row process rows place (Some row) = slice_set rows place (row.0, process)
with_row process rows place None = rows

abbrev pub with_at : ProcessValue → List (ℕ × ProcessValue) → Option ℕ → List (ℕ × ProcessValue)
with_at process rows (Some place) = with_row process rows place (slice_get rows place)
with_at process rows None = rows

-- the process of this number is now this one; the others and all numbers stay
abbrev pub with_process : ℕ → ProcessValue → List (ℕ × ProcessValue) → List (ℕ × ProcessValue)
with_process number process rows = with_at process rows (place_of number rows)

-- each number lies above the one before it, the first above `low`, and all below `next`
abbrev pub Rise : ℕ → List ℕ → ℕ → Type 0
Rise low [] next = low < next
Rise low (number ∷ numbers) next = (low < number) × Rise number numbers next

-- what always holds of the live processes and the next number: at most 64, and numbers from 1 on that rise strictly
-- and lie below the next, which is at most 2^32
pub record IsOrderly (rows : List (ℕ × ProcessValue)) (next : ℕ) : Type 0 where
  pub few : length rows ≤ 64
  pub rising : Rise 0 (numbers_of rows) next
  pub bounded : next ≤ 2 ^ 32
