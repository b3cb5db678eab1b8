use Rattle.breakpoints.proofs.Indexing.{covers_flags}
use Rattle.breakpoints.proofs.breakpoints.Breakpoints.index_with_flags.Goals as goal

pub loop-row-preserved : goal.loop-row-preserved
loop-row-preserved c =
    covers_flags c.args.enabled c.args.ids.now c.loop-row.index c.add_switched.new.index c.in-Some.row.now c.loop-row.row-iterator c.next.new.self _ c.in-Some.ensures.steps c.loop-row.invariant c.in_ok-add_switched.ensures
