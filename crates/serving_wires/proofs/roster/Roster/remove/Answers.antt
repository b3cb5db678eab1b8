use Rattle.std.proofs.Common.{◌≡◌, List, None, Some, sym, ap, ◌∙◌, subst, remove}
use Rattle.std.specs.Prelude.{IsTrue}
use Rattle.serving_wires.specs.Row.{Row}
use Rattle.serving_wires.specs.Slots.{are_kept, rows_of}
use Rattle.serving_wires.specs.declared.roster.Place.{Place}
use Rattle.serving_wires.proofs.Changed.{kept_removed, none_removed, removed}
use Rattle.serving_wires.proofs.Found.{key_of}
use Rattle.serving_wires.proofs.roster.Roster.remove.Goals as goal

pub invariant_of-self : goal.invariant_of-self
invariant_of-self g c =
    let places = c.self.inside.order.items in
    let key : key_of places c.args.place ≡ Some c.in-Some.key =
    ap (λ (ps : List Place). key_of ps c.args.place) (sym c.deref.ensures.value) ∙ sym c.key_at.ensures ∙ c.in-Some.is in
    subst (λ (ps : List Place). IsTrue (are_kept c.forget.new.slots ps)) (sym c.remove.ensures.items)
    (kept_removed c.self.inside.slots c.forget.new.slots places c.args.place c.in-Some.key c.forget.ensures c.self.invariant key)

pub returns-in-Some : goal.returns-in-Some
returns-in-Some g c =
    let places = c.self.inside.order.items in
    let key : key_of places c.args.place ≡ Some c.in-Some.key =
    ap (λ (ps : List Place). key_of ps c.args.place) (sym c.deref.ensures.value) ∙ sym c.key_at.ensures ∙ c.in-Some.is in
    ap (λ (ps : List Place). rows_of c.forget.new.slots ps) c.remove.ensures.items
    ∙ removed c.self.inside.slots c.forget.new.slots places c.args.place c.in-Some.key c.forget.ensures c.self.invariant key
    ∙ ap (λ (rows : List (Row g.row.T.Denot)). remove rows c.args.place) c.self.view_is

pub returns-in_default : goal.returns-in_default
returns-in_default g c =
    let places = c.self.inside.order.items in
    let none : key_of places c.args.place ≡ None =
    ap (λ (ps : List Place). key_of ps c.args.place) (sym c.deref.ensures.value) ∙ sym c.key_at.ensures ∙ c.in_default.is in
    sym c.self.view_is ∙ none_removed c.self.inside.slots places c.args.place c.self.invariant none
    ∙ ap (λ (rows : List (Row g.row.T.Denot)). remove rows c.args.place) c.self.view_is
