use Rattle.std.proofs.Common.{◌≡◌, ◌++◌, ◌∷◌, [], List, sym, ap, ◌∙◌, subst}
use Rattle.std.specs.Prelude.{IsTrue}
use Rattle.serving_wires.specs.Row.{Row}
use Rattle.serving_wires.specs.Slots.{are_kept, rows_of}
use Rattle.serving_wires.specs.declared.roster.Place.{Place}
use Rattle.serving_wires.proofs.Changed.{kept_pushed, pushed}
use Rattle.serving_wires.proofs.roster.Roster.push.Goals as goal

pub invariant_of-self-2 : goal.invariant_of-self-2
invariant_of-self-2 g c =
    let slots = c.self.inside.slots in
    let places = c.self.inside.order.items in
    let place : Place = record { channel = c.args.channel; key = c.in_ok-key.key } in
    let order : c.push.new.self.items ≡ places ++ place ∷ [] = c.in_ok-push.ensures.items ∙ ap (λ (ps : List Place). ps ++ place ∷ []) c.in_ok-try_reserve.ensures.items in
    subst (λ (ps : List Place). IsTrue (are_kept c.insert.new.self ps)) (sym order)
    (kept_pushed slots c.insert.new.self places place c.args.item c.in_ok-key.ensures.updates c.in_ok-key.ensures.was_vacant c.self.invariant)

pub returns-clause-ok : goal.returns-clause-ok
returns-clause-ok g c =
    let slots = c.self.inside.slots in
    let places = c.self.inside.order.items in
    let place : Place = record { channel = c.args.channel; key = c.in_ok-key.key } in
    let order : c.push.new.self.items ≡ places ++ place ∷ [] = c.in_ok-push.ensures.items ∙ ap (λ (ps : List Place). ps ++ place ∷ []) c.in_ok-try_reserve.ensures.items in
    ap (λ (ps : List Place). rows_of c.insert.new.self ps) order
    ∙ pushed slots c.insert.new.self places place c.args.item c.in_ok-key.ensures.updates c.in_ok-key.ensures.was_vacant c.self.invariant
    ∙ ap (λ (rows : List (Row g.row.T.Denot)). rows ++ record { channel = c.args.channel; item = c.args.item } ∷ []) c.self.view_is
