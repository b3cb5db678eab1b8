-- Rows of a key and an item, in the order of their list.
use Rattle.std.specs.Prelude.{◌≢◌, ℕ, ◌==◌, if◌then◌else◌, Bool, false, not, List, [], ◌∷◌, filter, find, slice_get, Option, None, Some, is_none, option_map}

module _ {T : Type 0} where
  -- the item with this key
  abbrev pub item_at : ℕ → List (ℕ × T) → Option T
  item_at key rows = option_map (λ row. row.1) (find (λ row. row.0 == key) rows)

  -- all rows but that of the key, in their order
  abbrev pub without : ℕ → List (ℕ × T) → List (ℕ × T)
  without key rows = filter (λ row. not (row.0 == key)) rows

  -- all rows but those whose keys stand in the first list
  abbrev pub without_all : List (ℕ × T) → List (ℕ × T) → List (ℕ × T)
  without_all gone rows = filter (λ row. is_none (item_at row.0 gone)) rows

  abbrev pub first_key : List (ℕ × T) → Option ℕ
  first_key rows = option_map (λ row. row.0) (slice_get rows 0)

  -- the key that stands behind this one
  abbrev pub key_after : ℕ → List (ℕ × T) → Option ℕ
  key_after key [] = None
  key_after key (row ∷ rows) = if row.0 == key then first_key rows else key_after key rows

  abbrev pub begins_with : ℕ → List (ℕ × T) → Bool
  begins_with key [] = false
  begins_with key (row ∷ rows) = row.0 == key

  -- the key that stands before this one
  abbrev pub key_before : ℕ → List (ℕ × T) → Option ℕ
  key_before key [] = None
  key_before key (row ∷ rows) = if begins_with key rows then Some row.0 else key_before key rows

  -- no row has the key
  abbrev pub Absent : ℕ → List (ℕ × T) → Type 0
  Absent key [] = Unit {0}
  Absent key (row ∷ rows) = (row.0 ≢ key) × Absent key rows

  -- no two rows have the same key
  abbrev pub Distinct : List (ℕ × T) → Type 0
  Distinct [] = Unit {0}
  Distinct (row ∷ rows) = Absent row.0 rows × Distinct rows
