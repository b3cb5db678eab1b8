use Rattle.data_services.proofs.TheLaws.{short_stays}
use Rattle.data_services.proofs.lengths.what_is_short_stays.Goals as goal

pub returns : goal.returns
returns c = short_stays
