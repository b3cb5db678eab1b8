use Rattle.client_node.proofs.TheLaws.{log_tells_past}
use Rattle.client_node.proofs.laws.the_log_tells_what_was_taken.Goals as goal

pub returns : goal.returns
returns c = log_tells_past
