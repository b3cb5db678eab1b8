use Rattle.std.proofs.Common.{◌≡◌, length, refl, sym, ap, subst, Some, None}
use Rattle.std.specs.Prelude.{OnOk, slice_get}
use Rattle.std.proofs.lemmas.Option.{slice_get_past, slice_get_read}
use Rattle.std.proofs.lemmas.Result.{on_ok_weaker}
use Rattle.chain_route.specs.Passing.{all_delivered}
use Rattle.chain_route.proofs.Lent.{lent_both, lent_one}
use Rattle.chain_route.specs.Route.{all_delivered_at}
use Rattle.chain_route.specs.contracts.route.Route.{the_view}
use Rattle.chain_route.proofs.route.Route.deliver_all.Goals as goal
use Rattle.chain_route.proofs.route.Route.deliver_all.Goals.{in-Some-get_mut, in-None}

pub returns : goal.returns
returns c =
    let adds = c.self.inside.adds.items in
    let hops = c.self.inside.hops.items in
    let v = c.in-Some.add.now in
    let place = c.beside.result in
    let next = the_view c.match-get_mut-2.self-inside in
    let now = c.args.self.now in
    let add_is : slice_get adds c.args.at ≡ Some v = slice_get_read adds (length adds) c.args.at v refl c.in-Some.ensures.item.3.0 c.in-Some.ensures.item.1 in
    elim c.match-get_mut-2.branch [
      | in-Some-get_mut w ↦
          let h = w.in-Some-get_mut.hop.now in
          let hop_is : slice_get hops place ≡ Some h = slice_get_read hops (length hops) place h refl w.in-Some-get_mut.ensures.item.3.0 w.in-Some-get_mut.ensures.item.1 in
          subst (λ r. OnOk r (next ≡ all_delivered_at c.args.side c.args.at now)) (sym w.result-is)
          (on_ok_weaker w.deliver_all.result
          (lent_both (all_delivered c.args.side) c.args.side c.args.at place hops adds v w.deliver_all.new.add h w.deliver_all.new.hop now next c.beside.ensures add_is hop_is c.self.view_is
          (ap the_view w.self-inside-is)) w.deliver_all.ensures)
      | in-None w ↦
          let none : slice_get hops place ≡ None = slice_get_past hops place w.in-None.ensures.item.3 in
          subst (λ r. OnOk r (next ≡ all_delivered_at c.args.side c.args.at now)) (sym w.result-is)
          (lent_one (all_delivered c.args.side) c.args.side c.args.at place hops adds v now next c.beside.ensures add_is none c.self.view_is (ap the_view w.self-inside-is))
    ]
