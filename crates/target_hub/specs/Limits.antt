-- The limits of what the target holds and of what it tells.
use Rattle.std.specs.Prelude.{◌≡◌, true, List}
use Rattle.std.specs.List.{AllByRecursion}
use Rattle.json_values.specs.Props.{is_bp}
use Rattle.reply_tables.specs.Events.{IsEvent}
use Rattle.breakpoints.specs.declared.breakpoints.BpDone.{BpDone}
use Rattle.breakpoints.specs.declared.breakpoints.BpDone.TheVariants.{Failed, Changed}
use Rattle.tcf_values.specs.declared.event.EventData.{EventData}
use Rattle.breakpoints.specs.declared.rows.Placed.{Placed}

-- the properties of each breakpoint are such that a command can give them
abbrev pub AreReadable : List Placed → Type 0
AreReadable rows = AllByRecursion (λ row. is_bp row.props ≡ true) rows

-- each event can be written
abbrev pub AreEvents : List EventData → Type 0
AreEvents told = AllByRecursion IsEvent told

-- every refusal of a change has the code 1
abbrev pub IsKnown : BpDone → Type 0
IsKnown (Failed code) = code ≡ 1
IsKnown (Changed removed added changed) = Unit {0}
