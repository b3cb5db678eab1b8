-- What a peer learns from the messages that it takes.
use Rattle.std.specs.Prelude.{Bool, true, false, List, [], ◌∷◌}
use Rattle.tcf_values.specs.declared.answer.Answer.{Answer}
use Rattle.tcf_values.specs.Storable.{stores}
use Rattle.tcf_values.specs.declared.command.Command.{Command}
use Rattle.tcf_values.specs.declared.command.Command.TheVariants.{GetChildren}
use Rattle.tcf_values.specs.declared.event.EventData.{EventData}
use Rattle.tcf_values.specs.declared.event.EventData.TheVariants.{Hello, CtxRemoved, BpRemoved, MemChanged, RegsChanged, Exited}
use Rattle.knowledge.specs.Changes.{Change, all_gone, after_all}
use Rattle.knowledge.specs.Facts.{Facts, nothing}
use Rattle.knowledge.specs.Rows.{answer_changes, event_changes}

-- a message that was taken
pub data Message : Type 0 where
  event_taken : EventData → Message
  -- an event of the services whose data doesn't read
  bad_event_taken : Message
  -- an answer, with the command that it answers
  answer_taken : Command → Answer → Message
  -- a foreign event, an answer that doesn't read, progress, and what is told of an unknown command
  other_taken : Message

-- what it makes of what is known
abbrev pub changes_of : Message → List Change
changes_of (event_taken event) = event_changes event
changes_of bad_event_taken = all_gone ∷ []
changes_of (answer_taken command answer) = answer_changes command answer
changes_of other_taken = []

-- what is known after one more message
abbrev pub learn : Message → Facts → Facts
learn message known = after_all (changes_of message) known

-- what is known after these messages, one after another
abbrev pub learn_all : List Message → Facts → Facts
learn_all [] known = known
learn_all (message ∷ messages) known = learn_all messages (learn message known)

abbrev pub learned : List Message → Facts
learned messages = learn_all messages nothing

-- the events that tell no fact, and after which no part of what is known has to be put again
abbrev pub only_drops : EventData → Bool
only_drops (Hello list) = true
only_drops (CtxRemoved list) = true
only_drops (BpRemoved list) = true
only_drops (MemChanged id list) = true
only_drops RegsChanged = true
only_drops (Exited id code) = true
only_drops _ = false

-- the commands whose answers tell something: those that are storable, and the one that asks for the threads of a process
abbrev pub teaches : Command → Bool
teaches (GetChildren id) = true
teaches command = stores command
