use Rattle.std.proofs.Common.{sym, ◌∙◌}
use Rattle.chain_route.proofs.Pieces.{all_on}
use Rattle.chain_route.proofs.passing.deliver_all.Goals as goal

pub loop-hop-smaller : goal.loop-hop-smaller
loop-hop-smaller c =
    (all_on c.args.side c.loop-hop.add c.deliver.new.add c.loop-hop.hop c.deliver.new.hop c.in_ok-deliver.ensures (sym c.takes.ensures ∙ c.loop-hop-test.true)
    (sym c.is_empty_to.ensures ∙ c.if-not-is_empty_to.true)).fewer
