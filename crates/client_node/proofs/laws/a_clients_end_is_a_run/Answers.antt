use Rattle.client_node.proofs.TheLaws.{clients_end_is_a_run}
use Rattle.client_node.proofs.laws.a_clients_end_is_a_run.Goals as goal

pub returns : goal.returns
returns c = clients_end_is_a_run
