-- The laws of what is known.
use Rattle.std.specs.Prelude.{ℕ, ◌≡◌, ◌+◌, ◌≤◌, true, false, List, slice_get, Some, None}
use Rattle.block_store.specs.Store.{covered}
use Rattle.block_store.specs.declared.block.Block.{Block}
use Rattle.tcf_values.specs.Storable.{stores}
use Rattle.tcf_values.specs.declared.command.Command.{Command}
use Rattle.knowledge.specs.Facts.{AreSame, Facts, IsGrounded, IsPart}
use Rattle.knowledge.specs.KnowledgeValue.{IsCacheOf, KnowledgeValue, blocks_after_all, has_block_byte}
use Rattle.knowledge.specs.Learning.{Message, changes_of, learn}
use Rattle.knowledge.specs.Reply.{answer_known, range_in}

-- who knows a part of what another knows still does when both take a message, where it knows registers of no thread
-- but those that it knows as suspended. Without that it isn't so: of an answer with a register's new value, who knows the
-- old value alone keeps that, and who knows the thread as suspended too has the new one
abbrev pub IsMonotone : Type 0
IsMonotone = (message : Message) (some more : Facts) → IsGrounded some → IsPart some more → IsPart (learn message some) (learn message more)

-- each byte of a range that is read is one of a block
abbrev pub ReadIsKnown : Type 0
ReadIsKnown = (process addr size : ℕ) (blocks : List Block) (bytes : List ℕ) (k byte : ℕ) →
    covered process addr size blocks ≡ Some bytes → slice_get bytes k ≡ Some byte → has_block_byte blocks process (addr + k) byte ≡ true

-- each byte of the blocks is one that is known
abbrev pub AreKnown : List Block → Facts → Type 0
AreKnown blocks known = (process place byte : ℕ) → has_block_byte blocks process place byte ≡ true → known.bytes process place byte ≡ true

-- the blocks after a message, where this is known and these blocks are kept before it
abbrev pub blocks_with : Message → Facts → List Block → List Block
blocks_with message known blocks = blocks_after_all (changes_of message) known blocks

-- where each byte of the blocks is one that is known, it is so after a message too
abbrev pub BlocksAreLearned : Type 0
BlocksAreLearned = (message : Message) (known : Facts) (blocks : List Block) → AreKnown blocks known →
    AreKnown (blocks_with message known blocks) (learn message known)

-- where the same is known but for bytes, a message leaves it so
abbrev pub FactsStaySame : Type 0
FactsStaySame = (message : Message) (known other : Facts) → AreSame known other → AreSame (learn message known) (learn message other)

-- and it makes the same of the blocks
abbrev pub BlocksStaySame : Type 0
BlocksStaySame = (message : Message) (known other : Facts) (blocks : List Block) → AreSame known other →
    blocks_with message known blocks ≡ blocks_with message other blocks

-- a range that a cache covers lies in the memory. So that a range out of it is never answered leaves nothing out
abbrev pub CoveredIsInside : Type 0
CoveredIsInside = (messages : List Message) (value : KnowledgeValue) (process addr size : ℕ) (bytes : List ℕ) → IsCacheOf messages value → 1 ≤ size →
    covered process addr size value.blocks ≡ Some bytes → addr + size ≤ 65536

-- no command is answered but those that are storable
abbrev pub OthersStayUnanswered : Type 0
OthersStayUnanswered = (command : Command) (known : Facts) (blocks : List Block) → stores command ≡ false → answer_known command known blocks ≡ None

-- where the same is known but for bytes and the same blocks are kept, the same is answered, and the same range is used
abbrev pub RepliesStaySame : Type 0
RepliesStaySame = (command : Command) (known other : Facts) (blocks : List Block) → AreSame known other →
    answer_known command known blocks ≡ answer_known command other blocks

abbrev pub RangesStaySame : Type 0
RangesStaySame = (command : Command) (known other : Facts) → AreSame known other → range_in command known ≡ range_in command other
