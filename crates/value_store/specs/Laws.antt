-- The laws of what the answers of a store teach, and of whose registers are known.
use Rattle.std.specs.Prelude.{ℕ, ◌≡◌, true, List, Some, is_some}
use Rattle.cache_learning.specs.Lessons.{answer_message}
use Rattle.knowledge.specs.Facts.{Facts, IsGrounded, IsPart}
use Rattle.knowledge.specs.Learning.{Message, learn, learned}
use Rattle.value_store.specs.Taken.{AreTaken}
use Rattle.tcf_values.specs.declared.command.Command.{Command}
use Rattle.value_store.specs.Learning.{IsStoreOf, stored_answer}
use Rattle.value_store.specs.StoreValue.{StoreValue}

-- who knows a part of what the messages of a store teach knows no more than a part when it takes an answer of that store
abbrev pub StoredAnswersTeachNothingNew : Type 0
StoredAnswersTeachNothingNew = (messages : List Message) (s : StoreValue) (command : Command) (body : List ℕ) (some : Facts) →
    AreTaken messages → IsStoreOf messages s → stored_answer command s ≡ Some body → IsPart some (learned messages) →
    IsPart (learn (answer_message command body) some) (learned messages)

-- registers are known of no thread but those of which it is known whether they run
abbrev pub HaveStates : Facts → Type 0
HaveStates known =
    (process thread index value : ℕ) → known.registers process thread index ≡ Some value → is_some (known.states process thread) ≡ true

-- it stays so, whatever is taken. That they are known of none but suspended threads doesn't: of a suspended thread an
-- answer may say that it runs
abbrev pub StatesStay : Type 0
StatesStay = (message : Message) (known : Facts) → HaveStates known → HaveStates (learn message known)

abbrev pub LearnedHaveStates : Type 0
LearnedHaveStates = (messages : List Message) → HaveStates (learned messages)

-- and whoever knows a part of what is grounded is grounded then
abbrev pub PartsAreGrounded : Type 0
PartsAreGrounded = (some more : Facts) → HaveStates some → IsPart some more → IsGrounded more → IsGrounded some
