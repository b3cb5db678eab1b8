use Rattle.client_serving.proofs.Saying.{ends_say_so}
use Rattle.client_serving.proofs.laws.an_end_is_what_it_says.Goals as goal

pub returns : goal.returns
returns c = ends_say_so
