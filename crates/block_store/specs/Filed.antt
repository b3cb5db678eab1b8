-- The pool in which a store keeps its blocks: all of them by use in list 0, and each once more in the list of its process.
use Rattle.std.specs.Prelude.{◌≡◌, ◌<◌, ◌↔◌, ℕ, ◌==◌, List, [], filter, map, length, Option, None, Some, IsSome}
use Rattle.link_pool.specs.Rows.{item_at}
use Rattle.link_pool.specs.Lists.{rows_of}
use Rattle.block_store.specs.declared.block.Block.{Block}

-- the blocks of some rows, in their order
abbrev pub blocks_of : List (ℕ × Block) → List Block
blocks_of rows = map (λ row. row.1) rows

-- the rows of the blocks of a process, in their order
abbrev pub rows_for : ℕ → List (ℕ × Block) → List (ℕ × Block)
rows_for process rows = filter (λ row. row.1.process == process) rows

-- the rows of a list that is of this process, or of none
abbrev pub owned : Option ℕ → List (ℕ × Block) → List (ℕ × Block)
owned None rows = []
owned (Some process) rows = rows_for process rows

-- the block with this key stands in the list
abbrev pub IsIn : ℕ → ℕ → List (List (ℕ × Block)) → Type 0
IsIn key list lists = IsSome (item_at key (rows_of list lists))

-- it stands in one list besides list 0
abbrev pub IsInOne : ℕ → List (List (ℕ × Block)) → Type 0
IsInOne key lists =
    (list : ℕ) × (0 < list) × IsIn key list lists × ((other : ℕ) → 0 < other → IsIn key other lists → other ≡ list)

pub record IsFiled (lists : List (List (ℕ × Block))) : Type 0 where
  -- list 0 and 65 lists for processes
  pub many : length lists ≡ 66
  -- each of these is of one process, and has its blocks as they stand in list 0, or is of none and empty
  pub each : (list : ℕ) → 0 < list → (owner : Option ℕ) × (rows_of list lists ≡ owned owner (rows_of 0 lists))
  -- each block stands in one of them
  pub once : (key : ℕ) → IsIn key 0 lists → IsInOne key lists
  -- and two blocks share it exactly where their process is the same
  pub shared : (list one other : ℕ) (block next : Block) → 0 < list → item_at one (rows_of 0 lists) ≡ Some block → item_at other (rows_of 0 lists) ≡ Some next → IsIn one list lists → (IsIn other list lists ↔ (block.process ≡ next.process))
