use Rattle.std.proofs.Common.{◌≡◌, length, refl, sym, ap, subst, Some, None}
use Rattle.std.specs.Prelude.{OnOk, slice_get}
use Rattle.std.proofs.lemmas.Option.{slice_get_past, slice_get_read}
use Rattle.chain_route.specs.Passing.{carried}
use Rattle.chain_route.proofs.Lent.{carried_pair, lent_both, lent_one, ok_both}
use Rattle.chain_route.specs.Route.{with_carried}
use Rattle.chain_route.specs.contracts.route.Route.{the_view}
use Rattle.chain_route.proofs.route.Route.carry.Goals as goal
use Rattle.chain_route.proofs.route.Route.carry.Goals.{in-Some-get_mut, in-None}

pub returns : goal.returns
returns c =
    let adds = c.self.inside.adds.items in
    let hops = c.self.inside.hops.items in
    let v = c.in-Some.add.now in
    let place = c.beside.result in
    let next = the_view c.match-get_mut-2.self-inside in
    let now = c.args.self.now in
    let add_is : slice_get adds c.args.at ≡ Some v = slice_get_read adds (length adds) c.args.at v refl c.in-Some.ensures.item.3.0 c.in-Some.ensures.item.1 in
    elim c.match-get_mut-2.branch [
      | in-Some-get_mut w ↦
          let h = w.in-Some-get_mut.hop.now in
          let hop_is : slice_get hops place ≡ Some h = slice_get_read hops (length hops) place h refl w.in-Some-get_mut.ensures.item.3.0 w.in-Some-get_mut.ensures.item.1 in
          subst (λ r. OnOk r (next ≡ with_carried c.args.side c.args.at now)) (sym w.result-is)
          (ok_both w.carry.result
          (λ add hop. lent_both (carried c.args.side) c.args.side c.args.at place hops adds v w.carry.new.add h w.carry.new.hop now next c.beside.ensures add_is hop_is c.self.view_is
          (ap the_view w.self-inside-is) (carried_pair c.args.side v w.carry.new.add h w.carry.new.hop add hop))
          w.carry.ensures.add w.carry.ensures.hop)
      | in-None w ↦
          let none : slice_get hops place ≡ None = slice_get_past hops place w.in-None.ensures.item.3 in
          subst (λ r. OnOk r (next ≡ with_carried c.args.side c.args.at now)) (sym w.result-is)
          (lent_one (carried c.args.side) c.args.side c.args.at place hops adds v now next c.beside.ensures add_is none c.self.view_is (ap the_view w.self-inside-is))
    ]
