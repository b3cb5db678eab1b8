-- What the value-adds do with each event.
use Rattle.std.specs.Prelude.{ℕ, ◌==◌, Bool, true, false, List, [], ◌∷◌, ◌++◌, length, nat_lt, Option, None, Some, option_map, position, remove}
use Rattle.serving_wires.specs.Row.{Row}
use Rattle.serving_wires.specs.Rows.{item_at, place_of, with_item_at}
use Rattle.serving_wires.specs.declared.intake.Came.{Came}
use Rattle.serving_wires.specs.declared.intake.Came.TheVariants.{Piece, End}
use Rattle.tcf_wires.specs.declared.event.WireEvent.{WireEvent}
use Rattle.tcf_wires.specs.declared.event.WireEvent.TheVariants as events
use Rattle.value_node.specs.declared.states.Side.{Side}
use Rattle.value_node.specs.declared.states.Side.TheVariants.{Below, Above}
use Rattle.serving_wires.specs.Program.{Behaviour, Program, program_of}
use Rattle.value_serving.specs.Adds.{is_over, new_add}
use Rattle.serving_wires.specs.Order.{closes, queues}
use Rattle.value_serving.specs.Passing.{gathered, heard}
use Rattle.serving_wires.specs.Process.{Process, done, tells, and_then}
use Rattle.value_serving.specs.ServingValue.{ServingValue}
use Rattle.value_serving.specs.declared.add.Add.{Add}

abbrev pub new_serving : List ℕ → ServingValue
new_serving peer = record { peer = peer; adds = [] }

-- ---- a connection came: it has a value-add, which says its Hello; while there are 64 the end of the stream is all that is sent

abbrev pub opened_if : Bool → List ℕ → ℕ → List (Row Add) → Process (List (Row Add))
opened_if true peer channel adds = and_then (gathered (new_add peer channel)) (λ a. done (adds ++ (record { channel = channel; item = a }) ∷ []))
opened_if false peer channel adds = tells (queues channel (3 ∷ 2 ∷ [])) (tells (closes channel) (done adds))

unfoldable pub opened : List ℕ → ℕ → List (Row Add) → Process (List (Row Add))
opened peer channel adds = opened_if (nat_lt (length adds) 64) peer channel adds

-- ---- whose wire it is: the place of the value-add, and the side

abbrev pub is_number : ℕ → Option ℕ → Bool
is_number channel None = false
is_number channel (Some number) = number == channel

abbrev pub above_of : ℕ → List (Row Add) → Option ℕ
above_of channel adds = position (λ row. is_number channel row.item.above) adds

abbrev pub is_above_in : ℕ → Option Add → Bool
is_above_in channel None = false
is_above_in channel (Some a) = is_number channel a.above

abbrev pub is_above_at : ℕ → ℕ → List (Row Add) → Bool
is_above_at channel place adds = is_above_in channel (item_at place adds)

abbrev pub below_or : Option ℕ → Option ℕ → Option (ℕ × Side)
below_or (Some place) above = Some (place, Below)
below_or None above = option_map (λ place. (place, Above)) above

unfoldable pub wire_of : ℕ → List (Row Add) → Option (ℕ × Side)
wire_of channel adds = below_or (place_of channel adds) (above_of channel adds)

-- ---- something came on a channel: a value-add that is closed then is forgotten; on a channel of none it is dropped

abbrev pub is_over_in : Option Add → Bool
is_over_in None = false
is_over_in (Some a) = is_over Below a.node.relay.bind

abbrev pub is_over_at : ℕ → List (Row Add) → Bool
is_over_at place adds = is_over_in (item_at place adds)

abbrev pub kept_unless : Bool → ℕ → List (Row Add) → List (Row Add)
kept_unless true place adds = remove adds place
kept_unless false place adds = adds

abbrev pub unless_over : ℕ → List (Row Add) → Process (List (Row Add))
unless_over place adds = done (kept_unless (is_over_at place adds) place adds)

abbrev pub heard_by : ℕ → Side → Came → Option Add → List (Row Add) → Process (List (Row Add))
heard_by place side what None adds = done adds
heard_by place side what (Some a) adds = and_then (heard side what a) (λ next. done (with_item_at place next adds))

unfoldable pub heard_at : ℕ → Side → Came → List (Row Add) → Process (List (Row Add))
heard_at place side what adds = heard_by place side what (item_at place adds) adds

abbrev pub heard_where : Option (ℕ × Side) → Came → List (Row Add) → Process (List (Row Add))
heard_where None what adds = done adds
heard_where (Some (place, side)) what adds = and_then (heard_at place side what adds) (unless_over place)

unfoldable pub heard_on : ℕ → Came → List (Row Add) → Process (List (Row Add))
heard_on channel what adds = heard_where (wire_of channel adds) what adds

-- an event; an end in good order and a broken connection are one
abbrev pub with_adds : ServingValue → Process (List (Row Add)) → Process ServingValue
with_adds s p = and_then p (λ adds. done (record s { adds = adds }))

unfoldable pub handled : WireEvent → ServingValue → Process ServingValue
handled (events.Opened channel) s = with_adds s (opened s.peer channel s.adds)
handled (events.Piece channel bytes) s = with_adds s (heard_on channel (Piece bytes) s.adds)
handled (events.Ended channel) s = with_adds s (heard_on channel End s.adds)
handled (events.Lost channel) s = with_adds s (heard_on channel End s.adds)
handled events.Idle s = done s
handled events.Stop s = done s

-- ---- so they are a program: it does nothing before the first event

abbrev pub behaviour : Behaviour ServingValue
behaviour = record { peer = λ s. s.peer; handled = handled }

abbrev pub value_adds : List ℕ → Program ServingValue
value_adds peer = program_of behaviour (new_serving peer) (done (new_serving peer))
