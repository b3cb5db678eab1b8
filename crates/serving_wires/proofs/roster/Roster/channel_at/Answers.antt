use Rattle.std.proofs.Common.{List, ap, ◌∙◌}
use Rattle.std.specs.Prelude.{option_map, slice_get}
use Rattle.serving_wires.specs.Row.{Row}
use Rattle.serving_wires.specs.Rows.{channel_at}
use Rattle.serving_wires.specs.declared.roster.Place.{Place}
use Rattle.serving_wires.proofs.Found.{channel_there}
use Rattle.serving_wires.proofs.roster.Roster.channel_at.Goals as goal

pub returns : goal.returns
returns g c =
    c.channel_of.ensures ∙ ap (λ (ps : List Place). option_map (λ place. place.channel) (slice_get ps c.args.place)) c.deref.ensures.value
    ∙ channel_there c.self.inside.slots c.self.inside.order.items c.args.place c.self.invariant ∙ ap (λ (rows : List (Row g.row.T.Denot)). channel_at c.args.place rows) c.self.view_is
