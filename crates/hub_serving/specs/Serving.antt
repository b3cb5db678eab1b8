-- What a served hub does with each event.
use Rattle.std.specs.Prelude.{ℕ, Bool, true, false, List, [], ◌∷◌, ◌++◌, filter, Option, None, Some, Ok, Err}
use Rattle.hub_node.specs.Hub.{new_hub, opened}
use Rattle.hub_node.specs.HubValue.{HubValue}
use Rattle.hub_node.specs.declared.side.HubSide.TheVariants.{Above, Below}
use Rattle.serving_wires.specs.Changes.{changed_on}
use Rattle.serving_wires.specs.Order.{closes, queues}
use Rattle.serving_wires.specs.Process.{Answer, Process, and_then, asks, done, tells}
use Rattle.serving_wires.specs.Program.{Behaviour, Program, program_of}
use Rattle.serving_wires.specs.Row.{Row}
use Rattle.serving_wires.specs.declared.intake.Came.{Came}
use Rattle.serving_wires.specs.declared.intake.Came.TheVariants.{Piece, End}
use Rattle.tcf_wires.specs.declared.event.WireEvent.{WireEvent}
use Rattle.tcf_wires.specs.declared.event.WireEvent.TheVariants as events
use Rattle.hub_serving.specs.Gathering.{gathered_rows, is_live_line}
use Rattle.hub_serving.specs.Lines.{new_line}
use Rattle.hub_serving.specs.Passing.{Lines, passed_on}
use Rattle.hub_serving.specs.ServingValue.{ServingValue}
use Rattle.hub_serving.specs.declared.line.Line.{Line}

-- ---- it connects to its peer, on whose wire the upper end of the hub is

abbrev pub new_serving : List ℕ → ServingValue
new_serving peer = record { peer = peer; hub = new_hub; lines = [] }

abbrev pub connected_on : ℕ → ServingValue → ServingValue
connected_on channel s = record s { lines = s.lines ++ (record { channel = channel; item = new_line Above channel }) ∷ [] }

abbrev pub connected : Answer → ServingValue → Process ServingValue
connected (Ok channel) s = done (connected_on channel s)
connected (Err refusal) s = done s

abbrev pub connecting : ServingValue → Process ServingValue
connecting s = asks (λ answer. connected answer s)

-- ---- a connection came: the hub opens a lower channel for it, and where it refuses that the end of the stream is all that is sent

abbrev pub opened_by : ℕ → Bool × HubValue → ServingValue → Process ServingValue
opened_by channel (true, h) s = done (record s { hub = h; lines = s.lines ++ (record { channel = channel; item = new_line (Below channel) channel }) ∷ [] })
opened_by channel (false, h) s = tells (queues channel (3 ∷ 2 ∷ [])) (tells (closes channel) (done (record s { hub = h })))

abbrev pub opened_on : ℕ → ServingValue → Process ServingValue
opened_on channel s = opened_by channel (opened channel s.hub) s

-- ---- something came on a channel, and waits behind what is there; on a channel of no line it is dropped

abbrev pub heard_more : Came → Line → Line
heard_more what line = record line { intake = line.intake ++ what ∷ [] }

unfoldable pub heard_on : ℕ → Came → ServingValue → ServingValue
heard_on channel what s = record s { lines = changed_on channel (heard_more what) s.lines }

-- ---- an event; an end in good order and a broken connection are one

unfoldable pub acted : WireEvent → ServingValue → Process ServingValue
acted (events.Opened channel) s = opened_on channel s
acted (events.Piece channel bytes) s = done (heard_on channel (Piece bytes) s)
acted (events.Ended channel) s = done (heard_on channel End s)
acted (events.Lost channel) s = done (heard_on channel End s)
acted events.Idle s = done s
acted events.Stop s = done s

-- then all messages are taken that can be, and what the hub has to send is queued; lines of sides that are closed are forgotten

abbrev pub with_passed : HubValue × Lines → ServingValue → ServingValue
with_passed passed s = record s { hub = passed.0; lines = passed.1 }

abbrev pub passed : ServingValue → ServingValue
passed s = with_passed (passed_on s.lines s.hub) s

abbrev pub live_alone : ServingValue → HubValue → ServingValue
live_alone s h = record s { hub = h; lines = filter (is_live_line h) s.lines }

abbrev pub gathered : ServingValue → Process ServingValue
gathered s = and_then (gathered_rows s.lines s.hub) (λ h. done (live_alone s h))

unfoldable pub handled : WireEvent → ServingValue → Process ServingValue
handled event s = and_then (acted event s) (λ next. gathered (passed next))

-- ---- so it is a program: before the first event it connects

abbrev pub behaviour : Behaviour ServingValue
behaviour = record { peer = λ s. s.peer; handled = handled }

abbrev pub hub_of : List ℕ → Program ServingValue
hub_of peer = program_of behaviour (new_serving peer) (connecting (new_serving peer))
