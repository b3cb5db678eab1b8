-- What a store learns, and what it answers.
use Rattle.std.specs.Prelude.{ℕ, nat_le, List, [], length, Option, Some, None, if◌then◌else◌}
use Rattle.cache_learning.specs.Lessons.{answer_message}
use Rattle.knowledge.specs.Facts.{AreSame}
use Rattle.knowledge.specs.KnowledgeValue.{blocks_after_all}
use Rattle.knowledge.specs.Laws.{AreKnown}
use Rattle.knowledge.specs.Learning.{Message, changes_of, learned, other_taken}
use Rattle.knowledge.specs.Reply.{answer_known, memory_used, range_in}
use Rattle.reply_tables.specs.Written.{answer_data}
use Rattle.tcf_values.specs.declared.answer.Answer.{Answer}
use Rattle.tcf_values.specs.declared.command.Command.{Command}
use Rattle.value_store.specs.Rows.{facts_in, learned_rows, no_rows}
use Rattle.value_store.specs.StoreValue.{StoreValue}

abbrev pub no_store : StoreValue
no_store = record { known = no_rows; blocks = []; mark = None }

-- a message teaches this
abbrev pub taught : Message → StoreValue → StoreValue
taught message s = record s {
  known = learned_rows message s.known;
  blocks = blocks_after_all (changes_of message) (facts_in s.known) s.blocks;
}

-- the position of a message, or the one before it where it has none
abbrev pub later_mark : Option ℕ → Option ℕ → Option ℕ
later_mark None before = before
later_mark (Some position) before = Some position

abbrev pub marked : Option ℕ → StoreValue → StoreValue
marked mark s = record s { mark = later_mark mark s.mark }

-- an answer is learned with its command, where that was read
abbrev pub lesson_of : Option Command → List ℕ → Message
lesson_of None body = other_taken
lesson_of (Some command) body = answer_message command body

-- ---- answers

-- so many bytes of data can be sent at most
abbrev pub most_data : ℕ
most_data = 1048576

abbrev pub fitting : List ℕ → Option (List ℕ)
fitting body = if nat_le (length body) most_data then Some body else None

abbrev pub data_of : Command → Option Answer → Option (List ℕ)
data_of command None = None
data_of command (Some answer) = fitting (answer_data command answer)

-- the data of what is answered of a command, if anything, and the store behind it: the block that is used is the most
-- recently used one then
abbrev pub stored_answer : Command → StoreValue → Option (List ℕ)
stored_answer command s = data_of command (answer_known command (facts_in s.known) s.blocks)

abbrev pub used_for : Command → StoreValue → StoreValue
used_for command s = record s { blocks = memory_used (range_in command (facts_in s.known)) s.blocks }

-- of a command that isn't read nothing is answered
abbrev pub answer_to : Option Command → StoreValue → Option (List ℕ)
answer_to None s = None
answer_to (Some command) s = stored_answer command s

abbrev pub used_by : Option Command → StoreValue → StoreValue
used_by None s = s
used_by (Some command) s = used_for command s

-- ---- what it knows

-- it knows what these messages teach, but of the bytes of memory a part
pub record IsStoreOf (messages : List Message) (s : StoreValue) : Type 0 where
  pub facts : AreSame (facts_in s.known) (learned messages)
  pub bytes : AreKnown s.blocks (learned messages)
