use Rattle.breakpoints.proofs.TheLaws.{counts_tell_hits}
use Rattle.breakpoints.proofs.laws.a_count_is_the_number_of_hits.Goals as goal

pub returns : goal.returns
returns c = counts_tell_hits
