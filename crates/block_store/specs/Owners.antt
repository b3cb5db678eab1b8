-- What always holds of the pool of a store, and which process its lists are of. No public clause cites this module.
use Rattle.std.specs.Prelude.{◌≡◌, ◌<◌, ◌≤◌, ◌+◌, ◌⊎◌, ℕ, ◌==◌, Bool, false, List, [], ◌∷◌, length, reverse, Option, None, Some}
use Rattle.link_pool.specs.Value.{PoolValue}
use Rattle.link_pool.specs.Rows.{Distinct, without}
use Rattle.link_pool.specs.Lists.{rows_of, unlinked}
use Rattle.block_store.specs.Filed.{IsIn, blocks_of, owned, rows_for}
use Rattle.block_store.specs.Store.{IsKept, added}
use Rattle.block_store.specs.declared.block.Block.{Block}

-- the blocks of list 0 as contracts see them, the last one first
abbrev pub turned : List (ℕ × Block) → List Block
turned rows = reverse (blocks_of rows)

-- the process of the first row
abbrev pub owner_of : List (ℕ × Block) → Option ℕ
owner_of [] = None
owner_of (row ∷ rows) = Some row.1.process

abbrev pub is_owner : ℕ → Option ℕ → Bool
is_owner process None = false
is_owner process (Some owner) = owner == process

-- the list is one of the 65, and has the blocks of the process as they stand in list 0
pub record IsListOf (process list : ℕ) (lists : List (List (ℕ × Block))) : Type 0 where
  pub first : 0 < list
  pub last : list < 66
  pub rows : rows_of list lists ≡ rows_for process (rows_of 0 lists)

-- each list is of one process or of none, no item stands in two of them, and a process with blocks has one
pub record HasOwners (lists : List (List (ℕ × Block))) : Type 0 where
  pub many : length lists ≡ 66
  pub distinct : Distinct (rows_of 0 lists)
  pub each : (list : ℕ) → 0 < list → (owner : Option ℕ) × (rows_of list lists ≡ owned owner (rows_of 0 lists))
  pub once : (one other key : ℕ) → 0 < one → 0 < other → IsIn key one lists → IsIn key other lists → one ≡ other
  pub placed : (process : ℕ) → (rows_for process (rows_of 0 lists) ≡ []) ⊎ ((list : ℕ) × IsListOf process list lists)

-- the rows, and the lists, once an item is gone
abbrev pub left_by : Option ℕ → List (ℕ × Block) → List (ℕ × Block)
left_by None rows = rows
left_by (Some key) rows = without key rows

abbrev pub lists_left_by : Option ℕ → List (List (ℕ × Block)) → List (List (ℕ × Block))
lists_left_by None lists = lists
lists_left_by (Some key) lists = unlinked key lists

abbrev pub count_after : ℕ → Option ℕ → ℕ
count_after count None = count + 1
count_after count (Some key) = count

-- once this item is gone, a new block and the others are what adding it makes of the store
abbrev pub MakesRoom : Block → Option ℕ → List (ℕ × Block) → Type 0
MakesRoom block gone rows = added block (turned rows) ≡ block ∷ turned (left_by gone rows)

-- how many blocks there are, and can be with no more memory
abbrev pub places : PoolValue Block → ℕ
places pool = pool.room + length (rows_of 0 pool.lists)

-- so many blocks stand in the pool of a store, with room for 65
pub record IsStored (lists : List (List (ℕ × Block))) (room count : ℕ) : Type 0 where
  pub owners : HasOwners lists
  pub kept : IsKept (turned (rows_of 0 lists))
  pub counted : count ≡ length (rows_of 0 lists)
  pub spare : 65 ≤ room + count
