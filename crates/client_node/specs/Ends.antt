-- The calls that a client makes of its end, and that the end is what they make of a new one.
use Rattle.std.specs.Prelude.{ℕ, ◌≡◌, ◌+◌, if◌then◌else◌, List, [], ◌∷◌, ◌++◌, map, option_to_list, Option, Some, None, Result, Ok}
use Rattle.std.specs.List.{AllByRecursion, flat_map}
use Rattle.channel_core.specs.Beginning.{new_end}
use Rattle.channel_core.specs.Closing.{is_closed}
use Rattle.channel_core.specs.EndValue.{EndValue}
use Rattle.channel_core.specs.Runs.{Call as EndCall, Issued, Run as EndRun, Unheld, after_calls, an_answer, an_event, an_unknown, begun, closing, commanding, delivering, draining, ending, message_of, putting_out, sending, some_progress, taking}
use Rattle.channel_core.specs.Sending.{made}
use Rattle.channel_core.specs.Taking.{next_taken}
use Rattle.channel_core.specs.declared.held.Outgoing.{Outgoing}
use Rattle.channel_core.specs.declared.taking.Taken.{Taken}
use Rattle.channel_core.specs.declared.taking.Taken.TheVariants as taken
use Rattle.tcf_message.specs.Message.{HasNoZero, IsWellFormed, MessageValue, command, reading}
use Rattle.tcf_message.specs.declared.message.MessageFault.{MessageFault}
use Rattle.tcf_text.specs.Lines.{Accepted}
use Rattle.client_node.specs.Client.{client_services, given, new_client}
use Rattle.client_node.specs.ClientValue.{ClientValue}
use Rattle.client_node.specs.Runs.{Call, asks, bytes_end, called, closes, comes, gives, no_past, opens, past_of, run, sends, turns}

-- ---- the calls of its end that one call of a client makes

-- a command of the other side is answered as one that isn't recognised
abbrev pub unknown_to : Result MessageValue MessageFault → List Unheld
unknown_to (Ok (command token service name body)) = an_unknown token ∷ []
unknown_to m = []

abbrev pub answering : Result MessageValue MessageFault → List (EndCall ℕ)
answering m = map (λ message. sending message None) (unknown_to m)

-- each pending command of a closed end is taken from it
abbrev pub draining_all : List (ℕ × ℕ) → List (EndCall ℕ)
draining_all pending = map (λ row. draining) pending

-- behind what was taken, with these commands pending then
abbrev pub after_taking : Taken ℕ → List (ℕ × ℕ) → List (EndCall ℕ)
after_taking (taken.Command incoming) pending = answering (reading incoming.raw)
after_taking (taken.Closed cause) pending = draining_all pending
after_taking _ pending = []

abbrev pub after_turn : Option (Taken ℕ) → List (ℕ × ℕ) → List (EndCall ℕ)
after_turn None pending = []
after_turn (Some what) pending = after_taking what pending

abbrev pub calls_on : Call → EndValue ℕ → List (EndCall ℕ)
calls_on opens e = []
calls_on (sends service name body) e = commanding service name body (e.last + 1) None ∷ []
calls_on (comes piece mark) e = delivering piece mark ∷ []
calls_on bytes_end e = ending ∷ []
calls_on turns e = taking ∷ after_turn (next_taken e).0 (next_taken e).1.pending
calls_on closes e = if is_closed e.state then [] else closing ∷ draining_all e.pending
calls_on gives e = putting_out ∷ []
calls_on (asks what) e = []

-- before the opening there is no end
abbrev pub calls_from : Call → Option (EndValue ℕ) → List (EndCall ℕ)
calls_from call None = []
calls_from call (Some e) = calls_on call e

abbrev pub end_calls_by : Call → ClientValue → List (EndCall ℕ)
end_calls_by call c = calls_from call c.channel

-- ---- and those that a list of calls makes

abbrev pub end_calls : List Call → ClientValue → List (EndCall ℕ)
end_calls [] c = []
end_calls (call ∷ calls) c = end_calls_by call c ++ end_calls calls (called call c)

-- a new end of a client, after these calls of it
abbrev pub end_after : List (EndCall ℕ) → EndRun ℕ
end_after calls = after_calls calls (begun (new_end client_services None))

-- the run of the end of a new client
abbrev pub client_end : List Call → EndRun ℕ
client_end calls = end_after (end_calls calls new_client)

-- ---- what the calls gave out to be sent

abbrev pub given_by : Call → ClientValue → List Outgoing
given_by gives c = option_to_list (given c)
given_by call c = []

abbrev pub given_out : List Call → ClientValue → List Outgoing
given_out [] c = []
given_out (call ∷ calls) c = given_by call c ++ given_out calls (called call c)

-- ---- the law

-- the channel is what the calls make of a new end; before the opening there are none
abbrev pub IsEndAfter : Option (EndValue ℕ) → List (EndCall ℕ) → Type 0
IsEndAfter None calls = calls ≡ []
IsEndAfter (Some e) calls = e ≡ (end_after calls).end

-- an accepted command, as its end sends it: under its number, with the number as its tag
abbrev pub issued_as : Accepted → Issued ℕ
issued_as c = record { command = made c.number c.service c.name c.body None; tag = c.number }

-- the messages that a call of an end sends, but for commands
abbrev pub sent_by : EndCall ℕ → List Unheld
sent_by (sending message mark) = message ∷ []
sent_by call = []

-- the answers that are sent to what was taken
abbrev pub answers_to : Taken ℕ → List Unheld
answers_to (taken.Command incoming) = unknown_to (reading incoming.raw)
answers_to what = []

abbrev pub IsUnknown : Unheld → Type 0
IsUnknown (an_answer token body) = ⊥
IsUnknown (some_progress token body) = ⊥
IsUnknown (an_unknown token) = Unit {0}
IsUnknown (an_event service name body) = ⊥

-- what it sends, but for commands, is such an answer, and can be written
abbrev pub SendsUnknown : EndCall ℕ → Type 0
SendsUnknown (sending message mark) = IsUnknown message × (mark ≡ None) × IsWellFormed (message_of message)
SendsUnknown call = Unit {0}

-- the names of a command can be written
abbrev pub HasNames : Call → Type 0
HasNames (sends service name body) = HasNoZero service × HasNoZero name
HasNames call = Unit {0}

abbrev pub CommandsNames : EndCall ℕ → Type 0
CommandsNames (commanding service name body tag mark) = HasNoZero service × HasNoZero name
CommandsNames call = Unit {0}

-- the calls of a client are a run of its end, with the same past
pub record EndIsRun (calls : List Call) : Type 0 where
  pub end : IsEndAfter (run calls new_client).channel (end_calls calls new_client)
  pub taken : (past_of calls no_past).taken ≡ (client_end calls).past.taken
  pub commands : map issued_as (past_of calls no_past).commands ≡ (client_end calls).past.accepted
  pub given : given_out calls new_client ≡ (client_end calls).past.given
  pub answers : flat_map sent_by (end_calls calls new_client) ≡ flat_map answers_to (past_of calls no_past).taken
  pub sendings : AllByRecursion SendsUnknown (end_calls calls new_client)
  pub names : AllByRecursion HasNames calls → AllByRecursion CommandsNames (end_calls calls new_client)

-- Whatever the calls, and whatever bytes came, the channel of a client is a run of its end.
abbrev pub EndIsRunAfterAnyCalls : Type 0
EndIsRunAfterAnyCalls = (calls : List Call) → EndIsRun calls
