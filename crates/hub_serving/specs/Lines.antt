-- The line of a wire, and what the hub is given of what came on it. Nothing that comes has a mark.
use Rattle.std.specs.Prelude.{ℕ, Bool, is_some, [], Option, None, Some}
use Rattle.hub_node.specs.Hub.{came, ended}
use Rattle.hub_node.specs.HubValue.{HubValue}
use Rattle.hub_node.specs.Relay.{is_live_at, waiting_at}
use Rattle.hub_node.specs.declared.side.HubSide.{HubSide}
use Rattle.serving_wires.specs.Intake.{left_for, next_for}
use Rattle.serving_wires.specs.declared.intake.Came.{Came}
use Rattle.serving_wires.specs.declared.intake.Came.TheVariants.{Piece, End}
use Rattle.hub_serving.specs.declared.line.Line.{Line}

-- nothing came yet
abbrev pub new_line : HubSide → ℕ → Line
new_line side channel = record { channel = channel; side = side; intake = [] }

-- how many messages of a side wait in the hub
abbrev pub waiting_on : HubSide → HubValue → ℕ
waiting_on side h = waiting_at side h.relay

-- the side is there, and isn't closed
abbrev pub is_live_on : HubSide → HubValue → Bool
is_live_on side h = is_live_at side h.relay

-- what waits first can be given to the hub
abbrev pub can_give : HubValue → Line → Bool
can_give h line = is_some (next_for (waiting_on line.side h) line.intake)

-- the hub with it
abbrev pub came_to : HubSide → Came → HubValue → HubValue
came_to side (Piece bytes) h = came side bytes None h
came_to side End h = ended side h

abbrev pub given_next : HubSide → Option Came → HubValue → HubValue
given_next side None h = h
given_next side (Some what) h = came_to side what h

abbrev pub given_of : Line → HubValue → HubValue
given_of line h = given_next line.side (next_for (waiting_on line.side h) line.intake) h

-- and the line without it
abbrev pub left_of : HubValue → Line → Line
left_of h line = record line { intake = left_for (waiting_on line.side h) line.intake }
