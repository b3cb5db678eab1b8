-- How the map keeps the list: each breakpoint stands under its ID.
use Rattle.std.specs.Prelude.{ℕ, ◌≡◌, false, List, map, bytes_eq}
use Rattle.std.specs.List.{AllByRecursion, list_any}
use Rattle.std.specs.Global.{Vec}
use Rattle.std.specs.Map.{values_of}
use Rattle.breakpoints.specs.Placed.{Placed}
use Rattle.breakpoints.specs.Rows.{IsOrderly}

abbrev pub AreKeyed : List (Vec ℕ × Placed) → Type 0
AreKeyed entries = AllByRecursion (λ entry. entry.0.items ≡ entry.1.props.id) entries

pub record IsKept (entries : List (Vec ℕ × Placed)) : Type 0 where
  pub keyed : AreKeyed entries
  pub orderly : IsOrderly (values_of entries)

-- what each entry holds is changed, and the keys stay
abbrev pub with_values : (Placed → Placed) → List (Vec ℕ × Placed) → List (Vec ℕ × Placed)
with_values change entries = map (λ entry. (entry.0, change entry.1)) entries

-- no entry of fresh has a key of these
abbrev pub AreApart : List (Vec ℕ × Placed) → List (Vec ℕ × Placed) → Type 0
AreApart fresh entries = AllByRecursion (λ new. list_any (λ entry. bytes_eq new.0.items entry.0.items) entries ≡ false) fresh
