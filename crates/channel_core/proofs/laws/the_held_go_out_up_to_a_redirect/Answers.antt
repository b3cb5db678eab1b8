use Rattle.channel_core.proofs.GoingOut.{goes_out}
use Rattle.channel_core.proofs.laws.the_held_go_out_up_to_a_redirect.Goals as goal

pub returns : goal.returns
returns g c = goes_out
