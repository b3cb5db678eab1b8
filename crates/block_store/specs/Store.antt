-- The store of blocks, the most recently used first.
use Rattle.std.specs.Prelude.{ℕ, ◌≡◌, ◌<◌, ◌≤◌, ◌==◌, false, not, List, ◌∷◌, ◌++◌, length, filter, find, position, take, drop, Option, Some, None, option_map}
use Rattle.std.specs.List.{All, AllPairs, remove}
use Rattle.block_store.specs.Blocks.{has_range, is_same, overlaps, part}
use Rattle.block_store.specs.declared.block.Block.{Block}

-- the new block stands first, and one like it is gone; no more than 64 stay
abbrev pub added : Block → List Block → List Block
added block blocks = take 64 (block ∷ filter (λ other. not (is_same block other)) blocks)

-- the bytes of a range, from the first block that has the whole range
abbrev pub covered : ℕ → ℕ → ℕ → List Block → Option (List ℕ)
covered process addr size blocks = option_map (part addr size) (find (has_range process addr size) blocks)

-- the block at a place first, and the others in their order
abbrev pub moved_first : Option ℕ → List Block → List Block
moved_first None blocks = blocks
moved_first (Some at) blocks = take 1 (drop at blocks) ++ remove blocks at

-- the first block that has the whole range is moved first
abbrev pub touched : ℕ → ℕ → ℕ → List Block → List Block
touched process addr size blocks = moved_first (position (has_range process addr size) blocks) blocks

-- the blocks of all other processes
abbrev pub without_process : ℕ → List Block → List Block
without_process process blocks = filter (λ block. not (block.process == process)) blocks

-- the blocks that have no byte of the range
abbrev pub without_range : ℕ → ℕ → ℕ → List Block → List Block
without_range process addr size blocks = filter (λ block. not (overlaps process addr size block)) blocks

-- at most 64 blocks, and no two of the same process, address and length
pub record IsSmall (blocks : List Block) : Type 0 where
  pub few : length blocks ≤ 64
  pub differ : AllPairs (λ one other. is_same one other ≡ false) blocks

-- what holds of every store: it is small, and each block has a byte
pub record IsKept (blocks : List Block) : Type 0 where
  pub small : IsSmall blocks
  pub filled : All (λ block. 0 < length block.bytes) blocks
