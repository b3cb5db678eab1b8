use Rattle.std.proofs.Common.{List, length, sym, ap, ◌∙◌}
use Rattle.serving_wires.specs.Row.{Row}
use Rattle.serving_wires.specs.declared.roster.Place.{Place}
use Rattle.serving_wires.proofs.Found.{as_many}
use Rattle.serving_wires.proofs.roster.Roster.len.Goals as goal

pub returns : goal.returns
returns g c =
    ap (λ (ps : List Place). length ps) c.as_slice.ensures.value ∙ sym (as_many c.self.inside.slots c.self.inside.order.items c.self.invariant)
    ∙ ap (λ (rows : List (Row g.row.T.Denot)). length rows) c.self.view_is
