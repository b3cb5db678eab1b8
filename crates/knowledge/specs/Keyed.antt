-- Rows that stand under keys.
use Rattle.std.specs.Prelude.{ℕ, ◌==◌, List, map, slice_get, bytes_eq, Option, option_and_then}
use Rattle.std.specs.Global.{Vec}
use Rattle.std.specs.Map.{lookup}

-- what stands under a text
abbrev pub under : {A : Type 0} → List ℕ → List (List ℕ × A) → Option A
under id rows = lookup (λ key. bytes_eq id key) rows

-- what stands under a number
abbrev pub of_number : {A : Type 0} → ℕ → List (ℕ × A) → Option A
of_number number rows = lookup (λ key. number == key) rows

-- what stands under a thread: among the rows of its process, under its own number
abbrev pub of_thread : {A : Type 0} → ℕ → ℕ → List (ℕ × List (ℕ × A)) → Option A
of_thread process thread rows = option_and_then (of_number thread) (of_number process rows)

-- what is known of the register at an index
abbrev pub at_index : ℕ → List (Option ℕ) → Option ℕ
at_index index values = option_and_then (λ value. value) (slice_get values index)

-- the register of a thread at an index
abbrev pub register_in : ℕ → ℕ → ℕ → List (ℕ × List (ℕ × List (Option ℕ))) → Option ℕ
register_in process thread index rows = option_and_then (at_index index) (of_thread process thread rows)

-- the rows of a map, each under the bytes of its key
abbrev pub text_rows : {A : Type 0} → List (Vec ℕ × A) → List (List ℕ × A)
text_rows entries = map (λ entry. (entry.0.items, entry.1)) entries
