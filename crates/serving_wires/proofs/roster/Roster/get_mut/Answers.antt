use Rattle.std.proofs.Common.{◌≡◌, List, None, Some, refl, sym, ap, ◌∙◌}
use mathlib.Core.Path.{fun_ext}
use borrow.Follows.Closed.{read_of}
use Rattle.std.specs.Option.{ghost_name_of}
use Rattle.slab.proofs.SlabLemmas.{Updates-with_value}
use Rattle.slab.specs.Slab.{ContainsKey, with_value}
use Rattle.serving_wires.specs.Row.{Row}
use Rattle.serving_wires.specs.Rows.{with_item_at}
use Rattle.serving_wires.specs.Slots.{rows_of}
use Rattle.serving_wires.specs.declared.roster.Place.{Place}
use Rattle.serving_wires.proofs.Changed.{kept_written, written}
use Rattle.serving_wires.proofs.Found.{item_kept, item_there, key_of, no_item}
use Rattle.serving_wires.proofs.roster.Roster.get_mut.Goals as goal

pub returns-in-Some : goal.returns-in-Some
returns-in-Some g c =
    let slots = c.self.inside.slots in
    let places = c.self.inside.order.items in
    let key : key_of places c.args.place ≡ Some c.in-Some.key =
    ap (λ (ps : List Place). key_of ps c.args.place) (sym c.deref.ensures.value) ∙ sym c.key_at.ensures ∙ c.in-Some.is in
    let there : ContainsKey slots c.in-Some.key = item_kept slots places c.args.place c.in-Some.key c.self.invariant key in
    let writes : (w : g.row.T.Denot) → rows_of (with_value slots c.in-Some.key w) places ≡ with_item_at c.args.place w (rows_of slots places) =
    λ w. written slots (with_value slots c.in-Some.key w) places c.args.place c.in-Some.key w (Updates-with_value slots c.in-Some.key w there) c.self.invariant key in
    rw (← c.self.view_is) (
      ap (λ (h : g.row.T.Denot → List (Row g.row.T.Denot)). read_of (ghost_name_of c.get_mut.result) h (rows_of slots places)) (fun_ext writes),
      record { writes_back = tt; value = c.get_mut.ensures.value ∙ sym (item_there slots places c.args.place c.in-Some.key c.self.invariant key) },
    )

pub returns-in-None : goal.returns-in-None
returns-in-None g c =
    let slots = c.self.inside.slots in
    let places = c.self.inside.order.items in
    let none : key_of places c.args.place ≡ None = ap (λ (ps : List Place). key_of ps c.args.place) (sym c.deref.ensures.value) ∙ sym c.key_at.ensures ∙ c.in-None.is in
    rw (← c.self.view_is) (refl, record { writes_back = tt; value = sym (no_item slots places c.args.place c.self.invariant none) })

pub invariant_of-self-lent : goal.invariant_of-self-lent
invariant_of-self-lent g c =
    let slots = c.self.inside.slots in
    let places = c.self.inside.order.items in
    let key : key_of places c.args.place ≡ Some c.in-Some.key =
    ap (λ (ps : List Place). key_of ps c.args.place) (sym c.deref.ensures.value) ∙ sym c.key_at.ensures ∙ c.in-Some.is in
    let there : ContainsKey slots c.in-Some.key = item_kept slots places c.args.place c.in-Some.key c.self.invariant key in
    λ lent. (
      λ w. kept_written slots (with_value slots c.in-Some.key w) places c.args.place c.in-Some.key w (Updates-with_value slots c.in-Some.key w there) c.self.invariant key,
      c.self.invariant,
    )
