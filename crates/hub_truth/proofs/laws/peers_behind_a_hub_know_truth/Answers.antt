use Rattle.hub_truth.proofs.TheLaws.{peers_know_truth}
use Rattle.hub_truth.proofs.laws.peers_behind_a_hub_know_truth.Goals as goal

pub returns : goal.returns
returns c = peers_know_truth
