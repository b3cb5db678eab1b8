use Rattle.std.proofs.Common.{◌≡◌, List, None, Some, sym, ap, ◌∙◌}
use Rattle.serving_wires.specs.Row.{Row}
use Rattle.serving_wires.specs.Rows.{item_at}
use Rattle.serving_wires.specs.declared.roster.Place.{Place}
use Rattle.serving_wires.proofs.Found.{item_there, key_of, no_item}
use Rattle.serving_wires.proofs.roster.Roster.get.Goals as goal

pub returns-in-Some : goal.returns-in-Some
returns-in-Some g c =
    let places = c.self.inside.order.items in
    let key : key_of places c.args.place ≡ Some c.in-Some.key =
    ap (λ (ps : List Place). key_of ps c.args.place) (sym c.deref.ensures.value) ∙ sym c.key_at.ensures ∙ c.in-Some.is in
    c.get.ensures ∙ sym (item_there c.self.inside.slots places c.args.place c.in-Some.key c.self.invariant key)
    ∙ ap (λ (rows : List (Row g.row.T.Denot)). item_at c.args.place rows) c.self.view_is

pub returns-in-None : goal.returns-in-None
returns-in-None g c =
    let places = c.self.inside.order.items in
    let none : key_of places c.args.place ≡ None =
    ap (λ (ps : List Place). key_of ps c.args.place) (sym c.deref.ensures.value) ∙ sym c.key_at.ensures ∙ c.in-None.is in
    sym (no_item c.self.inside.slots places c.args.place c.self.invariant none) ∙ ap (λ (rows : List (Row g.row.T.Denot)). item_at c.args.place rows) c.self.view_is
