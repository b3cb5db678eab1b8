use Rattle.client_node.proofs.TheLaws.{answered_once}
use Rattle.client_node.proofs.laws.each_command_is_answered_once.Goals as goal

pub returns : goal.returns
returns c = answered_once
