use Rattle.std.proofs.Common.{◌==◌, List, ap, ◌∙◌}
use Rattle.std.specs.Prelude.{position}
use Rattle.serving_wires.specs.Row.{Row}
use Rattle.serving_wires.specs.Rows.{place_of}
use Rattle.serving_wires.specs.declared.roster.Place.{Place}
use Rattle.serving_wires.proofs.Found.{same_place}
use Rattle.serving_wires.proofs.roster.Roster.place_of.Goals as goal

pub returns : goal.returns
returns g c =
    let channel = c.args.channel in
    c.find.ensures ∙ ap (λ (ps : List Place). position (λ place. place.channel == channel) ps) c.deref.ensures.value
    ∙ same_place c.self.inside.slots c.self.inside.order.items channel c.self.invariant ∙ ap (λ (rows : List (Row g.row.T.Denot)). place_of channel rows) c.self.view_is
