use Rattle.hub_node.proofs.TheLaws.{are_runs}
use Rattle.hub_node.proofs.laws.the_ends_are_runs.Goals as goal

pub returns : goal.returns
returns c = are_runs
