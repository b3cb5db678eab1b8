use Rattle.channel_core.proofs.Running.{all_loud_as_told}
use Rattle.channel_core.proofs.laws.the_level_told_fits_the_inbox.Goals as goal

pub returns : goal.returns
returns g c = all_loud_as_told
