-- What is kept of the messages that were taken: all facts that they teach but for bytes, and of the bytes the blocks
-- that a bounded store keeps.
use Rattle.std.specs.Prelude.{◌≡◌, List, [], ◌∷◌, ◌++◌}
use Rattle.block_store.specs.declared.block.Block.{Block}
use Rattle.knowledge.specs.Facts.{AreSame, Facts, IsPart, nothing}
use Rattle.knowledge.specs.KnowledgeValue.{KnowledgeValue, blocks_after_all, blocks_learned, facts_of, has_block_byte}
use Rattle.knowledge.specs.Learning.{Message, changes_of, learn, learned}

-- the blocks after these messages, one after another, where this is known and these blocks are kept before them
abbrev pub blocks_from : List Message → Facts → List Block → List Block
blocks_from [] known blocks = blocks
blocks_from (message ∷ messages) known blocks = blocks_from messages (learn message known) (blocks_after_all (changes_of message) known blocks)

-- the blocks that are kept of these messages
abbrev pub kept_blocks : List Message → List Block
kept_blocks messages = blocks_from messages nothing []

-- the facts that are kept of these messages
abbrev pub kept : List Message → Facts
kept messages = record (learned messages) { bytes = has_block_byte (kept_blocks messages) }

-- the cache is the one of a peer that took exactly these messages
pub record Keeps (messages : List Message) (cache : KnowledgeValue) : Type 0 where
  pub facts : AreSame (facts_of cache) (learned messages)
  pub blocks : cache.blocks ≡ kept_blocks messages

-- the message makes the one cache of the other
pub record Learns (message : Message) (before now : KnowledgeValue) : Type 0 where
  pub facts : AreSame (facts_of now) (learn message (facts_of before))
  pub blocks : now.blocks ≡ blocks_learned message before

-- whatever messages the cache keeps, it keeps this one behind them too
abbrev pub KeepsToo : Message → KnowledgeValue → KnowledgeValue → Type 0
KeepsToo message before now = (messages : List Message) → Keeps messages before → Keeps (messages ++ message ∷ []) now

-- the law: what is kept of some messages was taught by them
abbrev pub KeptIsLearned : Type 0
KeptIsLearned = (messages : List Message) → IsPart (kept messages) (learned messages)
