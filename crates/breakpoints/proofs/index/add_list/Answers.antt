use Rattle.std.proofs.Common.{[]}
use Rattle.breakpoints.proofs.Indexing.{list_added}
use Rattle.breakpoints.proofs.index.add_list.Goals as goal

pub loop-props-preserved : goal.loop-props-preserved
loop-props-preserved c =
    λ channel. list_added c.args.index.now c.loop-props.index c.add_row.new.index channel c.args.list.now c.loop-props.props-index c.props-item.result
    c.loop-props-test.true c.props-item.is (c.loop-props.invariant channel) (c.in_ok-add_row.ensures channel [])
