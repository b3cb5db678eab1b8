-- Which breakpoints a call takes out or tells.
use Rattle.std.specs.Prelude.{◌==◌, Bool, true, false, not, List, filter}
use Rattle.breakpoints.specs.Placed.{Placed}
use Rattle.breakpoints.specs.Rows.{is_among}
use Rattle.breakpoints.specs.declared.selection.Selection.{Selection}
use Rattle.breakpoints.specs.declared.selection.Selection.TheVariants.{Nothing, Everything, OwnedBy, Named}

abbrev pub selects : Selection → Placed → Bool
selects Nothing row = false
selects Everything row = true
selects (OwnedBy channel) row = row.channel == channel
selects (Named ids) row = is_among ids.now row.props.id

abbrev pub selected : Selection → List Placed → List Placed
selected selection rows = filter (selects selection) rows

abbrev pub unselected : Selection → List Placed → List Placed
unselected selection rows = filter (λ row. not (selects selection row)) rows
