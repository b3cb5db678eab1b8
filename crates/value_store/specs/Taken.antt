-- The messages that a peer takes: each is what is read of an event's service, name and data, or of an answer's command
-- and data, and the others teach nothing.
use Rattle.std.specs.Prelude.{ℕ, ◌≡◌, ◌⊎◌, List}
use Rattle.std.specs.List.{AllByRecursion}
use Rattle.cache_learning.specs.Lessons.{answer_message, event_message}
use Rattle.knowledge.specs.Learning.{Message, other_taken}
use Rattle.tcf_values.specs.declared.command.Command.{Command}

abbrev pub IsEventTaken : Message → Type 0
IsEventTaken message = (service : List ℕ) × (name : List ℕ) × (body : List ℕ) × (message ≡ event_message service name body)

abbrev pub IsAnswerTaken : Message → Type 0
IsAnswerTaken message = (command : Command) × (body : List ℕ) × (message ≡ answer_message command body)

abbrev pub IsTaken : Message → Type 0
IsTaken message = IsEventTaken message ⊎ (IsAnswerTaken message ⊎ (message ≡ other_taken))

abbrev pub AreTaken : List Message → Type 0
AreTaken messages = AllByRecursion IsTaken messages
