use Rattle.std.proofs.Common.{◌≡◌}
use Rattle.chain_route.specs.Hop.{lane_to}
use Rattle.chain_route.specs.Lane.{size_in}
use Rattle.chain_route.specs.Passing.{all_delivered, pair}
use Rattle.chain_route.proofs.passing.deliver_all.Given as goal

abbrev pub invariant-loop-hop : goal.invariant-loop-hop
invariant-loop-hop l = all_delivered l.side (pair l.add l.hop) ≡ all_delivered l.side (pair l.initial.add l.initial.hop)

abbrev pub decreases-loop-hop : goal.decreases-loop-hop
decreases-loop-hop l = size_in (lane_to l.side l.hop)
