use Rattle.channel_laws.proofs.Rest.Ending.{all_stay_over}
use Rattle.channel_laws.proofs.TheLaws.{over_at_its_end}
use Rattle.channel_laws.proofs.laws.an_end_that_is_over_stays_so.Goals as goal

pub returns-clause-stays : goal.returns-clause-stays
returns-clause-stays g c = all_stay_over

pub returns-clause-ended : goal.returns-clause-ended
returns-clause-ended g c = over_at_its_end
