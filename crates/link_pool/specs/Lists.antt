-- The lists of a pool: an item in two lists stands in both, under one key.
use Rattle.std.specs.Prelude.{◌≡◌, ℕ, ◌==◌, if◌then◌else◌, List, [], ◌∷◌, ◌++◌, map, slice_index_or, slice_set, Option, None, Some}
use Rattle.std.specs.Option.{option_or}
use Rattle.link_pool.specs.Rows.{Distinct, item_at, without, without_all}

module _ {T : Type 0} where
  -- the rows of a list, none where it isn't there
  abbrev pub rows_of : ℕ → List (List (ℕ × T)) → List (ℕ × T)
  rows_of list lists = slice_index_or lists list []

  -- the item with this key, in whichever list
  abbrev pub item_of : ℕ → List (List (ℕ × T)) → Option T
  item_of key [] = None
  item_of key (rows ∷ lists) = option_or (item_at key rows) (item_of key lists)

  -- the lists with a row more, last in one of them
  abbrev pub put_last : ℕ → ℕ × T → List (List (ℕ × T)) → List (List (ℕ × T))
  put_last list row lists = slice_set lists list (rows_of list lists ++ row ∷ [])

  -- and last in a second one, where that is another list
  abbrev pub put_second : ℕ → Option ℕ → ℕ × T → List (List (ℕ × T)) → List (List (ℕ × T))
  put_second list None row lists = lists
  put_second list (Some second) row lists = if second == list then lists else put_last second row lists

  abbrev pub pushed : ℕ → Option ℕ → ℕ × T → List (List (ℕ × T)) → List (List (ℕ × T))
  pushed list second row lists = put_second list second row (put_last list row lists)

  -- the lists without an item
  abbrev pub unlinked : ℕ → List (List (ℕ × T)) → List (List (ℕ × T))
  unlinked key lists = map (without key) lists

  -- without all items of one of them
  abbrev pub cleared : ℕ → List (List (ℕ × T)) → List (List (ℕ × T))
  cleared list lists = map (without_all (rows_of list lists)) lists

  abbrev pub put_behind : ℕ → ℕ → Option T → List (List (ℕ × T)) → List (List (ℕ × T))
  put_behind list key None lists = lists
  put_behind list key (Some item) lists =
      slice_set lists list (without key (rows_of list lists) ++ (key, item) ∷ [])

  -- with an item last in one list, where it stands in it
  abbrev pub moved_last : ℕ → ℕ → List (List (ℕ × T)) → List (List (ℕ × T))
  moved_last list key lists = put_behind list key (item_at key (rows_of list lists)) lists

  -- what holds of the lists of every pool: within a list keys differ, and a key has one item
  pub record IsWhole (lists : List (List (ℕ × T))) : Type 0 where
    pub distinct : (list : ℕ) → Distinct (rows_of list lists)
    pub same : (list key : ℕ) (item : T) → item_at key (rows_of list lists) ≡ Some item → item_of key lists ≡ Some item
