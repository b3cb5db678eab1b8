-- What a bound value-add does, in order: it sends a command above, answers one from its store, or hears a message from above and
-- passes that on.
use Rattle.std.specs.Prelude.{ℕ, ◌+◌, Bool, false, if◌then◌else◌, List, [], ◌∷◌, ◌++◌, bytes_eq, decimal, Option, Some, None, option_and_then, Result, Ok}
use Rattle.std.specs.List.{flat_map, list_any}
use Rattle.value_store.specs.Lessons.{event_message}
use Rattle.channel_core.specs.ReceivingLaws.{incoming_of}
use Rattle.channel_core.specs.Taking.{next_taken}
use Rattle.channel_core.specs.Wire.{Said, answers as answers_said, asks, goes_on, greets, said_in, tells}
use Rattle.channel_core.specs.declared.held.Incoming.{Incoming}
use Rattle.channel_core.specs.declared.taking.Taken.{Taken}
use Rattle.channel_core.specs.declared.taking.Taken.TheVariants as taken
use Rattle.knowledge.specs.Learning.{Message}
use Rattle.tcf_message.specs.Message.{MessageValue, command, event, final, not_known, reading}
use Rattle.tcf_message.specs.declared.message.MessageFault.{MessageFault}
use Rattle.tcf_values.specs.declared.command.Command.{Command}
use Rattle.value_node.specs.Asked.{Asked}
use Rattle.value_node.specs.ForwardedValue.{ForwardedValue}
use Rattle.value_node.specs.Runs.{Call, ValueRun, after_call, turns, next_above}
use Rattle.value_node.specs.Store.{answer_to, later_mark, lesson_of}
use Rattle.value_node.specs.Value.{command_of, is_free_to_answer, takes_below}
use Rattle.value_node.specs.declared.relay.Relay.{Relay}
use Rattle.value_node.specs.declared.states.Bind.{Bind}
use Rattle.value_node.specs.declared.states.Bind.TheVariants.{Unbound, Opening, Bound, Closed}
use Rattle.value_node.specs.declared.states.Side.TheVariants.{Below, Above}

pub data Deed : Type 0 where
  forwards : Asked → Deed
  answers : Asked → (reply : List ℕ) → (mark : Option ℕ) → Deed
  hears : Incoming → Deed

-- ---- what a call does

abbrev pub deed_for : Option (List ℕ) → Asked → Option ℕ → Deed
deed_for None c mark = forwards c
deed_for (Some reply) c mark = answers c reply mark

abbrev pub command_asked : Asked → Option Command
command_asked c = command_of c.service c.name c.body

-- what a bound one does with a command
abbrev pub deed_of : Asked → Relay → Deed
deed_of c v = deed_for (if is_free_to_answer v.upper then answer_to (command_asked c) v.store else None) c v.store.mark

abbrev pub asked_deeds : Option ℕ → Result MessageValue MessageFault → Relay → List Deed
asked_deeds mark (Ok (command token service name body)) v =
    deed_of (record { token = token; service = service; name = name; body = body; mark = mark }) v ∷ []
asked_deeds mark _ v = []

abbrev pub below_deeds : Option (Taken Unit) → Relay → List Deed
below_deeds (Some (taken.Command incoming)) v = asked_deeds incoming.mark (reading incoming.raw) v
below_deeds _ v = []

abbrev pub heard : Option (Taken ForwardedValue) → List Deed
heard None = []
heard (Some what) = flat_map (λ incoming. hears incoming ∷ []) (incoming_of what)

-- the Hello that binds it is the first that it hears
abbrev pub above_deeds : Bind → Option (Taken ForwardedValue) → List Deed
above_deeds Unbound what = []
above_deeds Opening (Some (taken.Hello incoming)) = hears incoming ∷ []
above_deeds Opening what = []
above_deeds Bound what = heard what
above_deeds Closed what = []

abbrev pub turn_below_deeds : Bind → Relay → List Deed
turn_below_deeds Bound v = if takes_below v.bind v.upper then below_deeds (next_taken v.lower).0 v else []
turn_below_deeds _ v = []

abbrev pub deeds_by : Call → Relay → List Deed
deeds_by (turns Below) v = turn_below_deeds v.bind v
deeds_by (turns Above) v = above_deeds v.bind (next_above v.upper)
deeds_by _ v = []

-- what it does in these calls, from this one on
abbrev pub deeds_from : List Call → ValueRun → List Deed
deeds_from [] r = []
deeds_from (call ∷ calls) r = deeds_by call r.value.relay ++ deeds_from calls (after_call call r)

-- ---- what was asked, sent above and heard

abbrev pub asked_by : Deed → List Asked
asked_by (forwards c) = c ∷ []
asked_by (answers c reply mark) = c ∷ []
asked_by (hears incoming) = []

abbrev pub asked_in : List Deed → List Asked
asked_in deeds = flat_map asked_by deeds

abbrev pub sent_by : Deed → List Asked
sent_by (forwards c) = c ∷ []
sent_by (answers c reply mark) = []
sent_by (hears incoming) = []

abbrev pub sent_in : List Deed → List Asked
sent_in deeds = flat_map sent_by deeds

abbrev pub heard_by : Deed → List Incoming
heard_by (forwards c) = []
heard_by (answers c reply mark) = []
heard_by (hears incoming) = incoming ∷ []

abbrev pub heard_in : List Deed → List Incoming
heard_in deeds = flat_map heard_by deeds

-- the command that was sent above under this token, where these were, under the tokens from this one on
abbrev pub sent_under : ℕ → List ℕ → List Asked → Option Asked
sent_under next token [] = None
sent_under next token (c ∷ commands) = if bytes_eq token (decimal next) then Some c else sent_under (next + 1) token commands

-- ---- what the messages that were heard teach, and the position of the last one since the last Hello

abbrev pub taught_in : List Asked → Result MessageValue MessageFault → List Message
taught_in commands (Ok (event service name body)) = event_message service name body ∷ []
taught_in commands (Ok (final token body)) = lesson_of (option_and_then command_asked (sent_under 1 token commands)) body ∷ []
taught_in commands _ = []

-- where these commands were sent above before
abbrev pub lessons_from : List Asked → List Deed → List Message
lessons_from commands [] = []
lessons_from commands (forwards c ∷ deeds) = lessons_from (commands ++ c ∷ []) deeds
lessons_from commands (answers c reply mark ∷ deeds) = lessons_from commands deeds
lessons_from commands (hears incoming ∷ deeds) = taught_in commands (reading incoming.raw) ++ lessons_from commands deeds

abbrev pub lessons_in : List Deed → List Message
lessons_in deeds = lessons_from [] deeds

-- a Hello begins the positions anew; a command from above isn't passed on, and its position isn't kept
abbrev pub mark_after : Said → Option ℕ → Option ℕ → Option ℕ
mark_after greets mark before = mark
mark_after tells mark before = later_mark mark before
mark_after asks mark before = before
mark_after (goes_on token) mark before = later_mark mark before
mark_after (answers_said token done) mark before = later_mark mark before

abbrev pub mark_by : Incoming → Option ℕ → Option ℕ
mark_by incoming before = mark_after (said_in incoming.raw) incoming.mark before

abbrev pub mark_of : List Incoming → Option ℕ → Option ℕ
mark_of [] before = before
mark_of (incoming ∷ heard) before = mark_of heard (mark_by incoming before)

abbrev pub mark_in : List Deed → Option ℕ
mark_in deeds = mark_of (heard_in deeds) None

-- ---- which commands were answered from above

abbrev pub ends_with : List ℕ → Result MessageValue MessageFault → Bool
ends_with token (Ok (final other body)) = bytes_eq other token
ends_with token (Ok (not_known other)) = bytes_eq other token
ends_with token _ = false

abbrev pub is_ended_in : ℕ → List Deed → Bool
is_ended_in number deeds = list_any (λ incoming. ends_with (decimal number) (reading incoming.raw)) (heard_in deeds)
