-- The laws of the store.
use Rattle.std.specs.Prelude.{ℕ, ◌≡◌, ◌+◌, ◌<◌, ◌≤◌, false, List, [], ◌∷◌, length, Some, None}
use Rattle.std.specs.List.{list_any}
use Rattle.block_store.specs.Blocks.{overlaps}
use Rattle.block_store.specs.Store.{IsSmall, added, covered, touched, without_process, without_range}
use Rattle.block_store.specs.declared.block.Block.{Block}

-- what can be done to a store
pub data Step : Type 0 where
  adding : Block → Step
  touching : ℕ → ℕ → ℕ → Step
  dropping_process : ℕ → Step
  dropping_range : ℕ → ℕ → ℕ → Step
  clearing : Step

abbrev pub blocks_after : Step → List Block → List Block
blocks_after (adding block) blocks = added block blocks
blocks_after (touching process addr size) blocks = touched process addr size blocks
blocks_after (dropping_process process) blocks = without_process process blocks
blocks_after (dropping_range process addr size) blocks = without_range process addr size blocks
blocks_after clearing blocks = []

-- the blocks after these steps, one after another
abbrev pub blocks_after_all : List Step → List Block → List Block
blocks_after_all [] blocks = blocks
blocks_after_all (step ∷ steps) blocks = blocks_after_all steps (blocks_after step blocks)

-- after any steps there are at most 64 blocks, and no two of the same process, address and length
abbrev pub StaysSmall : Type 0
StaysSmall = (steps : List Step) → IsSmall (blocks_after_all steps [])

-- a block that was added covers its range with its bytes
abbrev pub AddedIsCovered : Type 0
AddedIsCovered = (block : Block) (blocks : List Block) →
    covered block.process block.addr (length block.bytes) (added block blocks) ≡ Some block.bytes

-- once a range is dropped, no block has a byte of it
abbrev pub DroppedIsGone : Type 0
DroppedIsGone = (process addr size : ℕ) (blocks : List Block) →
    list_any (overlaps process addr size) (without_range process addr size blocks) ≡ false

-- then no range with a byte of it is read
abbrev pub DroppedIsUnread : Type 0
DroppedIsUnread = (process addr size : ℕ) (blocks : List Block) (first count byte : ℕ) →
    addr ≤ byte → byte < addr + size → first ≤ byte → byte < first + count →
    covered process first count (without_range process addr size blocks) ≡ None
