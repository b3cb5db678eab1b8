-- What a served client does with each event.
use Rattle.std.specs.Prelude.{ℕ, zero, suc, ◌==◌, Bool, true, false, ◌&&◌, List, [], ◌∷◌, fold, Option, None, Some, Ok, Err, option_map, if◌then◌else◌}
use Rattle.std.specs.List.{flat_map}
use Rattle.channel_core.specs.EndValue.{EndValue, unless_spent}
use Rattle.channel_core.specs.declared.held.Outgoing.{Outgoing}
use Rattle.channel_core.specs.declared.states.Cause.{Cause}
use Rattle.channel_core.specs.declared.states.Cause.TheVariants as causes
use Rattle.channel_core.specs.declared.states.EndState.{EndState}
use Rattle.channel_core.specs.declared.states.EndState.TheVariants.{Opening, Live, Reopening, Closed}
use Rattle.client_node.specs.Client.{came, closed as client_closed, ended as bytes_ended, new_client, opened, pending_on, turned, waiting_on}
use Rattle.client_node.specs.ClientValue.{ClientValue}
use Rattle.serving_wires.specs.Order.{closes, queues}
use Rattle.serving_wires.specs.Process.{Answer, Process, asks, done, tells}
use Rattle.serving_wires.specs.Program.{Behaviour, Program, program_of}
use Rattle.serving_wires.specs.declared.intake.Came.{Came}
use Rattle.serving_wires.specs.declared.intake.Came.TheVariants.{Piece, End}
use Rattle.tcf_schedules.specs.declared.script.ScriptLine.{ScriptLine}
use Rattle.tcf_wires.specs.declared.event.WireEvent.{WireEvent}
use Rattle.tcf_wires.specs.declared.event.WireEvent.TheVariants as events
use Rattle.client_serving.specs.Lines.{did_lines}
use Rattle.client_serving.specs.ServingValue.{ServingValue}
use Rattle.client_serving.specs.declared.end.ClientEnd.{ClientEnd}
use Rattle.client_serving.specs.declared.end.ClientEnd.TheVariants.{Done, Ended}

-- why a channel is closed
abbrev pub cause_in : EndState → Option Cause
cause_in Opening = None
cause_in Live = None
cause_in Reopening = None
cause_in (Closed cause) = Some cause

abbrev pub cause_of : Option (EndValue ℕ) → Option Cause
cause_of None = None
cause_of (Some e) = cause_in e.state

-- ---- lines are done; behind the last one, with nothing pending, the client closes, and the run is done

abbrev pub nothing_left : List ScriptLine → Bool
nothing_left [] = true
nothing_left (line ∷ later) = false

abbrev pub is_done : ServingValue → Bool
is_done s = nothing_left s.left && (pending_on s.client.channel == 0)

abbrev pub done_if_so : ServingValue → ServingValue
done_if_so s = if is_done s then record s { client = client_closed s.client; end = Some Done } else s

abbrev pub with_lines : ClientValue × List ScriptLine → ServingValue → ServingValue
with_lines result s = record s { client = result.0; left = result.1 }

unfoldable pub went_on : ServingValue → ServingValue
went_on s = done_if_so (with_lines (did_lines s.left s.client) s)

-- the run ends for a cause
abbrev pub ended_by : Cause → ServingValue → ServingValue
ended_by cause s = record s { end = Some (Ended cause) }

-- a run that has ended stays as it is
abbrev pub unless_ended : Option ClientEnd → ServingValue → ServingValue → ServingValue
unless_ended None s next = next
unless_ended (Some end) s next = s

abbrev pub stopped : ServingValue → ServingValue
stopped s = unless_ended s.end s (ended_by causes.Ended s)

-- ---- messages are taken: where the channel closes by one the run ends, and else the lines that nothing holds are done

abbrev pub after_message : Option Cause → ServingValue → ServingValue
after_message (Some cause) s = ended_by cause s
after_message None s = went_on s

abbrev pub after_turn : Bool × ClientValue → ServingValue → ServingValue
after_turn (false, c) s = record s { client = c }
after_turn (true, c) s = after_message (cause_of c.channel) (record s { client = c })

unfoldable pub one_taken : ServingValue → ServingValue
one_taken s = unless_ended s.end s (after_turn (turned s.client) s)

abbrev pub taken_so_many : ℕ → ServingValue → ServingValue
taken_so_many zero s = s
taken_so_many (suc count) s = taken_so_many count (one_taken s)

-- all that wait are taken
abbrev pub all_taken : ServingValue → ServingValue
all_taken s = taken_so_many (waiting_on s.client.channel) s

-- ---- something comes; nothing has a mark, and what comes on another channel is dropped

abbrev pub came_to : Came → ClientValue → ClientValue
came_to (Piece bytes) c = came bytes None c
came_to End c = bytes_ended c

abbrev pub is_its : ℕ → Option ℕ → Bool
is_its channel None = false
is_its channel (Some number) = channel == number

abbrev pub heard_on : ℕ → Came → ServingValue → ServingValue
heard_on channel what s = if is_its channel s.channel then all_taken (record s { client = came_to what s.client }) else s

-- an end in good order and a broken connection are one; `Stop` ends the run
unfoldable pub acted : WireEvent → ServingValue → ServingValue
acted (events.Opened channel) s = s
acted (events.Piece channel bytes) s = heard_on channel (Piece bytes) s
acted (events.Ended channel) s = heard_on channel End s
acted (events.Lost channel) s = heard_on channel End s
acted events.Idle s = s
acted events.Stop s = stopped s

-- ---- what the client has to send is queued, in order; behind a closed channel nothing more is

abbrev pub queue_of : Option (EndValue ℕ) → List Outgoing
queue_of None = []
queue_of (Some e) = unless_spent e [] e.queued

abbrev pub emptied : EndValue ℕ → EndValue ℕ
emptied e = unless_spent e e (record e { queued = [] })

abbrev pub client_emptied : ClientValue → ClientValue
client_emptied c = record c { channel = option_map emptied c.channel }

abbrev pub bytes_of : List Outgoing → List ℕ
bytes_of outs = flat_map (λ out. out.bytes) outs

-- each of these goes behind what is queued for the wire, and then it goes on
abbrev pub sends : ℕ → List Outgoing → Process ServingValue → Process ServingValue
sends channel [] next = next
sends channel (out ∷ outs) next = tells (queues channel out.bytes) (sends channel outs next)

-- the client as it stands then
unfoldable pub all_gathered : ServingValue → ServingValue
all_gathered s = record s { client = client_emptied s.client }

abbrev pub closed_for : Option Cause → ℕ → ServingValue → Process ServingValue
closed_for None channel s = done s
closed_for (Some cause) channel s = tells (closes channel) (done s)

abbrev pub told_on : Option ℕ → List Outgoing → ServingValue → Process ServingValue
told_on None outs s = done s
told_on (Some channel) outs s = sends channel outs (closed_for (cause_of s.client.channel) channel s)

-- all that it has
unfoldable pub told : ServingValue → Process ServingValue
told s = told_on s.channel (queue_of s.client.channel) (all_gathered s)

unfoldable pub handled : WireEvent → ServingValue → Process ServingValue
handled event s = told (acted event s)

-- ---- before it is connected, and then before the first event, and after some

abbrev pub unconnected : List ℕ → List ScriptLine → ServingValue
unconnected address script = record { peer = address; channel = None; client = new_client; left = script; end = None }

abbrev pub opened_with : List ℕ → ℕ → List ScriptLine → ServingValue
opened_with address channel script = record { peer = address; channel = Some channel; client = opened new_client; left = script; end = None }

abbrev pub begun : List ℕ → ℕ → List ScriptLine → ServingValue
begun address channel script = all_gathered (went_on (opened_with address channel script))

unfoldable pub after_event : WireEvent → ServingValue → ServingValue
after_event event s = all_gathered (acted event s)

abbrev pub after_all : List WireEvent → ServingValue → ServingValue
after_all events s = fold (λ now event. after_event event now) s events

abbrev pub after_events : List ℕ → ℕ → List ScriptLine → List WireEvent → ServingValue
after_events address channel script events = after_all events (begun address channel script)

-- ---- so it is a program: before the first event it asks for its connection, opens its end, and does the first lines

abbrev pub behaviour : Behaviour ServingValue
behaviour = record { peer = λ s. s.peer; handled = handled }

abbrev pub connected_as : Answer → List ℕ → List ScriptLine → Process ServingValue
connected_as (Ok channel) address script = told (went_on (opened_with address channel script))
connected_as (Err refusal) address script = done (unconnected address script)

abbrev pub served_client : List ℕ → List ScriptLine → Program ServingValue
served_client address script = program_of behaviour (unconnected address script) (asks (λ answer. connected_as answer address script))
