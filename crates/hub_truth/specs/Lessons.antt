-- What a lower channel of a hub is told, message by message, with what each message teaches there.
use Rattle.std.specs.Prelude.{ℕ, ◌==◌, Bool, false, not, ◌&&◌, ◌||◌, List, [], ◌∷◌, ◌++◌, Option, Some, None, Result, Ok, Err}
use Rattle.std.specs.Option.{option_or}
use Rattle.cache_learning.specs.Lessons.{event_message, final_message}
use Rattle.channel_core.specs.Wire.{said}
use Rattle.channel_core.specs.declared.held.Outgoing.{Outgoing}
use Rattle.command_tables.specs.Reading.{reading_of}
use Rattle.knowledge.specs.Learning.{Message, other_taken}
use Rattle.tcf_message.specs.Message.{MessageValue, command, event, final, flow, not_known, progress, reading}
use Rattle.tcf_message.specs.declared.message.MessageFault.{MessageFault}
use Rattle.hub_node.specs.Deeds.{Asked, Deed, answers, ends, forwards, hears, joins, leaves}
use Rattle.hub_node.specs.HubLaws.{if_of, under}
use Rattle.hub_node.specs.Redirects.{redirect_reply}
use Rattle.hub_node.specs.Runs.{only_if}

pub record Lesson : Type 0 where
  pub said : Outgoing
  pub message : Message

abbrev pub lesson : MessageValue → Option ℕ → Message → Lesson
lesson sent mark message = record { said = said sent mark; message = message }

-- an event, and what is told of a command of channel j, an answer as that of the command that it answers
abbrev pub lessons_in : ℕ → List Asked → Option ℕ → Result MessageValue MessageFault → List Lesson
lessons_in j commands mark (Ok (event service name body)) = lesson (event service name body) mark (event_message service name body) ∷ []
lessons_in j commands mark (Ok (final token body)) =
    if_of j (under 1 token commands) (λ c. lesson (final c.token body) mark (final_message (Some (reading_of c.service c.name c.body)) body))
lessons_in j commands mark (Ok (progress token body)) = if_of j (under 1 token commands) (λ c. lesson (progress c.token body) mark other_taken)
lessons_in j commands mark (Ok (not_known token)) = if_of j (under 1 token commands) (λ c. lesson (not_known c.token) mark other_taken)
lessons_in j commands mark (Ok (command token service name body)) = []
lessons_in j commands mark (Ok (flow level)) = []
lessons_in j commands mark (Err fault) = []

-- What channel j is told, where it is open or not before these deeds, and these commands were sent above. The hub's own answer
-- to a redirect tells nothing of the target
abbrev pub lessons_from : ℕ → Bool → List Asked → List Deed → List Lesson
lessons_from j is_open commands [] = []
lessons_from j is_open commands (joins i ∷ deeds) = lessons_from j (is_open || (i == j)) commands deeds
lessons_from j is_open commands (leaves i ∷ deeds) = lessons_from j (is_open && not (i == j)) commands deeds
lessons_from j is_open commands (forwards c ∷ deeds) = lessons_from j is_open (commands ++ c ∷ []) deeds
lessons_from j is_open commands (answers c ∷ deeds) =
    only_if (is_open && (c.channel == j)) (lesson (final c.token (redirect_reply c.service c.name c.body)) None other_taken ∷ []) ++ lessons_from j is_open commands deeds
lessons_from j is_open commands (hears incoming ∷ deeds) = only_if is_open (lessons_in j commands incoming.mark (reading incoming.raw)) ++ lessons_from j is_open commands deeds
lessons_from j is_open commands (ends ∷ deeds) = lessons_from j false commands deeds

-- the last mark in them, or this one
abbrev pub last_mark : Option ℕ → List Lesson → Option ℕ
last_mark mark [] = mark
last_mark mark (l ∷ lessons) = last_mark (option_or l.said.mark mark) lessons
