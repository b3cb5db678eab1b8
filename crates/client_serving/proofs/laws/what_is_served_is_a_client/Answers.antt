use Rattle.client_serving.proofs.TheLaws.{served_is_a_client}
use Rattle.client_serving.proofs.laws.what_is_served_is_a_client.Goals as goal

pub returns : goal.returns
returns c = served_is_a_client
