-- A cache: rows under keys, and the blocks of memory, of which there are never many.
use Rattle.std.specs.Prelude.{ℕ, ◌≡◌, ◌==◌, Bool, true, ◌&&◌, List, [], ◌∷◌, Option, if◌then◌else◌}
use Rattle.std.specs.List.{list_any}
use Rattle.block_store.specs.Store.{added, without_process, without_range}
use Rattle.block_store.specs.declared.block.Block.{Block}
use Rattle.tcf_values.specs.declared.values.BpProps.{BpProps}
use Rattle.tcf_values.specs.declared.values.BpStatus.{BpStatus}
use Rattle.tcf_values.specs.declared.values.ContextData.{ContextData}
use Rattle.knowledge.specs.Changes.{Change, all_gone, bytes_gone, bytes_read, range_gone, after, after_all, has_byte, is_still}
use Rattle.knowledge.specs.Facts.{AreSame, Facts}
use Rattle.knowledge.specs.Keyed.{of_number, of_thread, register_in, under}
use Rattle.knowledge.specs.Learning.{Message, changes_of, learned}
use Rattle.knowledge.specs.declared.state.StateFact.{StateFact}

pub record KnowledgeValue : Type 0 where
  -- under their IDs
  pub contexts : List (List ℕ × ContextData)
  -- the IDs of the threads of each process, under its number
  pub threads : List (ℕ × List (List ℕ))
  -- under the numbers of their processes, and there under their own
  pub states : List (ℕ × List (ℕ × StateFact))
  -- under their threads, and there by their indexes
  pub registers : List (ℕ × List (ℕ × List (Option ℕ)))
  -- the most recently used first
  pub blocks : List Block
  -- under the IDs of their breakpoints
  pub properties : List (List ℕ × BpProps)
  pub statuses : List (List ℕ × BpStatus)

abbrev pub empty : KnowledgeValue
empty = record { contexts = []; threads = []; states = []; registers = []; blocks = []; properties = []; statuses = [] }

-- one of the blocks has the byte
abbrev pub has_block_byte : List Block → ℕ → ℕ → ℕ → Bool
has_block_byte blocks process place byte = list_any (λ block. (block.process == process) && has_byte block.addr block.bytes place byte) blocks

-- the facts of a cache
abbrev pub facts_of : KnowledgeValue → Facts
facts_of value = record {
  contexts = λ id. under id value.contexts;
  threads = λ process. of_number process value.threads;
  states = λ process thread. of_thread process thread value.states;
  registers = λ process thread index. register_in process thread index value.registers;
  bytes = has_block_byte value.blocks;
  properties = λ id. under id value.properties;
  statuses = λ id. under id value.statuses;
}

-- what a change makes of the blocks: bytes that were read are one more block, and a block of which a byte is gone is
-- gone whole
abbrev pub blocks_after : Change → Facts → List Block → List Block
blocks_after all_gone known blocks = []
blocks_after (bytes_read process addr bytes) known blocks =
    if is_still process known then added (record { process = process; addr = addr; bytes = bytes }) blocks else blocks
blocks_after (bytes_gone process) known blocks = without_process process blocks
blocks_after (range_gone process addr size) known blocks = without_range process addr size blocks
blocks_after _ known blocks = blocks

abbrev pub blocks_after_all : List Change → Facts → List Block → List Block
blocks_after_all [] known blocks = blocks
blocks_after_all (change ∷ changes) known blocks = blocks_after_all changes (after change known) (blocks_after change known blocks)

-- these changes make the one cache of the other
pub record IsAfter (changes : List Change) (before now : KnowledgeValue) : Type 0 where
  -- the facts that aren't bytes
  pub facts : AreSame (facts_of now) (after_all changes (facts_of before))
  pub blocks : now.blocks ≡ blocks_after_all changes (facts_of before) before.blocks

-- the blocks after one more message
abbrev pub blocks_learned : Message → KnowledgeValue → List Block
blocks_learned message before = blocks_after_all (changes_of message) (facts_of before) before.blocks

-- the cache of a peer that has learned these messages: it has exactly the facts that they teach and that aren't
-- bytes, and each byte of its blocks is one of theirs
pub record IsCacheOf (messages : List Message) (value : KnowledgeValue) : Type 0 where
  pub facts : AreSame (facts_of value) (learned messages)
  pub bytes : (process place byte : ℕ) → has_block_byte value.blocks process place byte ≡ true → (learned messages).bytes process place byte ≡ true
