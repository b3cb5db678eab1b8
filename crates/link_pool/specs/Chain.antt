-- Rows that stand one behind another over slots, each with the keys beside it. No public clause cites this module.
use Rattle.std.specs.Prelude.{◌≡◌, ℕ, zero, suc, List, [], ◌∷◌, Option, Some, None, slice_index_or, is_some, count_by}
use Rattle.link_pool.specs.Rows.{Absent, Distinct}

-- an item with the keys beside it in one list
pub record Linked (T : Type 0) : Type 0 where
  pub item : T
  pub before : Option ℕ
  pub next : Option ℕ

-- what stands at an end once the row beside it is gone
abbrev pub picked : Option ℕ → Option ℕ → Option ℕ → Option ℕ
picked None end other = other
picked (Some key) end other = end

module _ {T : Type 0} where
  abbrev pub slot_at : List (Option (Linked T)) → ℕ → Option (Linked T)
  slot_at slots key = slice_index_or slots key None

  abbrev pub first_of : List (ℕ × T) → Option ℕ → Option ℕ
  first_of [] after = after
  first_of (row ∷ rows) after = Some row.0

  abbrev pub last_of : Option ℕ → List (ℕ × T) → Option ℕ
  last_of before [] = before
  last_of before (row ∷ rows) = last_of (Some row.0) rows

  -- the rows stand one behind another, between the keys before and after them
  abbrev pub Chain : List (Option (Linked T)) → Option ℕ → List (ℕ × T) → Option ℕ → Type 0
  Chain slots before [] after = Unit {0}
  Chain slots before (row ∷ rows) after =
      (slot_at slots row.0 ≡ Some (record { item = row.1; before = before; next = first_of rows after }))
      × Chain slots (Some row.0) rows after

  abbrev pub visit : ℕ → Option (Linked T) → (Option ℕ → List (ℕ × T)) → List (ℕ × T)
  visit key None rest = []
  visit key (Some node) rest = (key, node.item) ∷ rest node.next

  -- the rows that are met from a key on, within so many steps
  abbrev pub walk : ℕ → List (Option (Linked T)) → Option ℕ → List (ℕ × T)
  walk zero slots at = []
  walk (suc n) slots None = []
  walk (suc n) slots (Some key) = visit key (slot_at slots key) (walk n slots)

  -- all rows from a key on
  abbrev pub seen : List (Option (Linked T)) → Option ℕ → List (ℕ × T)
  seen slots first = walk (count_by is_some slots) slots first

  -- the slots are these rows, between these ends, and nothing else
  pub record Holds (slots : List (Option (Linked T))) (rows : List (ℕ × T)) (first last : Option ℕ) : Type 0 where
    pub chained : Chain slots None rows None
    pub distinct : Distinct rows
    pub complete : (key : ℕ) → Absent key rows → slot_at slots key ≡ None
    pub begins : first ≡ first_of rows None
    pub ends : last ≡ last_of None rows
