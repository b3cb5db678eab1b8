use Rattle.breakpoints.proofs.Indexing.{covers_staying}
use Rattle.breakpoints.proofs.breakpoints.Breakpoints.index_without.Goals as goal

pub loop-row-preserved : goal.loop-row-preserved
loop-row-preserved c =
    covers_staying c.args.leaving c.loop-row.index c.add_staying.new.index c.in-Some.row.now c.loop-row.row-iterator c.next.new.self _ c.in-Some.ensures.steps c.loop-row.invariant c.in_ok-add_staying.ensures
