-- The status of breakpoints, as events (TCF service Breakpoints, status).
use Rattle.std.specs.Prelude.{ℕ, List, [], map}
use Rattle.tcf_values.specs.declared.event.EventData.{EventData}
use Rattle.tcf_values.specs.declared.event.EventData.TheVariants.{BpStatusIs}
use Rattle.tcf_values.specs.declared.values.BpProps.{BpProps}
use Rattle.breakpoints.specs.Status.{instances_of}
use Rattle.breakpoints.specs.Placed.{Placed}

abbrev pub counted_status : List ℕ → BpProps → List (ℕ × ℕ) → EventData
counted_status attached props counts = BpStatusIs props.id (record { instances = instances_of props counts attached })

-- of a breakpoint whose counts are all 0, as they are where it is new and where it was changed
abbrev pub status_event : List ℕ → BpProps → EventData
status_event attached props = counted_status attached props []

-- one for each of these breakpoints, in order, where these processes are attached
abbrev pub statuses_of : List ℕ → List Placed → List EventData
statuses_of attached rows = map (λ row. counted_status attached row.props row.counts) rows
