use Rattle.breakpoints.proofs.Indexing.{covers_props}
use Rattle.breakpoints.proofs.breakpoints.Breakpoints.index_with_props.Goals as goal

pub loop-row-preserved : goal.loop-row-preserved
loop-row-preserved c =
    covers_props c.args.props.now c.loop-row.index c.add_changed.new.index c.in-Some.row.now c.loop-row.row-iterator c.next.new.self _ c.in-Some.ensures.steps c.loop-row.invariant c.in_ok-add_changed.ensures
