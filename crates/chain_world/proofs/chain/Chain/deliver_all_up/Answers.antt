use Rattle.std.proofs.Common.{rules, ◌≡◌, ◌==◌, true, false, length}
use Rattle.chain_route.specs.Passing.{most_bytes}
use Rattle.chain_route.specs.Route.{flight_up}
use Rattle.chain_world.specs.Chain.{both, delivered_up, takes_up}
use Rattle.chain_world.proofs.Pieces.{all_up_on}
use Rattle.chain_world.proofs.chain.Chain.deliver_all_up.Goals as goal

pub loop-self-smaller : goal.loop-self-smaller
loop-self-smaller c =
    let k = c.in-Some.k in
    let chain = c.loop-self.self in
    let a = c.loop-self.agent in
    let next = c.deliver_up.new.self in
    let after = c.deliver_up.new.agent in
    let is : both next after ≡ delivered_up most_bytes chain a = search rules in
    let takes : takes_up k chain a ≡ true = search rules in
    let some : (length (flight_up chain.route) == 0) ≡ false = search rules in
    (all_up_on k chain next a after is c.loop-self.invariant.channel takes some).fewer
