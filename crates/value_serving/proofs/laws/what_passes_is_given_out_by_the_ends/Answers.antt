use Rattle.value_serving.proofs.Agreeing.{passages_agree}
use Rattle.value_serving.proofs.laws.what_passes_is_given_out_by_the_ends.Goals as goal

pub returns : goal.returns
returns c = passages_agree
