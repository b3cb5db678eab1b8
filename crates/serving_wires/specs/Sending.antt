-- What is to be put on the wires.
use Rattle.std.specs.Prelude.{ℕ, Bool, true, false, List, [], ◌∷◌, ◌++◌, Option, None, Some, Ok, Err, if◌then◌else◌}
use Rattle.serving_wires.specs.Outbox.{closed, left_behind, queued, unused_outbox}
use Rattle.serving_wires.specs.OutboxValue.{OutboxValue}
use Rattle.serving_wires.specs.Row.{Row}
use Rattle.tcf_wires.specs.declared.event.WireEvent.{WireEvent}
use Rattle.tcf_wires.specs.declared.event.WireEvent.TheVariants as events
use Rattle.serving_wires.specs.Changes.{changed_on}
use Rattle.serving_wires.specs.Order.{Order, channel_of, closes, leaves, queues}
use Rattle.serving_wires.specs.Process.{Answer}

abbrev pub queued_unless_closed : List ℕ → OutboxValue → OutboxValue
queued_unless_closed bytes o = if o.is_closed then o else queued bytes o

abbrev pub outbox_after : Order → OutboxValue → OutboxValue
outbox_after (queues channel bytes) o = queued_unless_closed bytes o
outbox_after (closes channel) o = closed o
outbox_after (leaves channel) o = left_behind o

abbrev pub ordered : Order → List (Row OutboxValue) → List (Row OutboxValue)
ordered order rows = changed_on (channel_of order) (outbox_after order) rows

-- a wire begins
abbrev pub begun : ℕ → List (Row OutboxValue) → List (Row OutboxValue)
begun channel rows = rows ++ (record { channel = channel; item = unused_outbox channel }) ∷ []

-- a connection that came, or was made, has a wire
abbrev pub opened_by : WireEvent → List (Row OutboxValue) → List (Row OutboxValue)
opened_by (events.Opened channel) rows = begun channel rows
opened_by (events.Piece channel bytes) rows = rows
opened_by (events.Ended channel) rows = rows
opened_by (events.Lost channel) rows = rows
opened_by events.Idle rows = rows
opened_by events.Stop rows = rows

abbrev pub begun_by : Answer → List (Row OutboxValue) → List (Row OutboxValue)
begun_by (Ok channel) rows = begun channel rows
begun_by (Err refusal) rows = rows

abbrev pub left_for : Option ℕ → List (Row OutboxValue) → List (Row OutboxValue)
left_for None rows = rows
left_for (Some earlier) rows = ordered (leaves earlier) rows

abbrev pub closed_if : Bool → ℕ → List (Row OutboxValue) → List (Row OutboxValue)
closed_if true channel rows = ordered (closes channel) rows
closed_if false channel rows = rows
