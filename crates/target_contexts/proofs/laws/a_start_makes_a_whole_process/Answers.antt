use Rattle.target_contexts.proofs.TheLaws.{begin_stays_whole, start_is_whole, start_stands}
use Rattle.target_contexts.proofs.laws.a_start_makes_a_whole_process.Goals as goal

pub returns : goal.returns
returns c = record { whole = start_is_whole; state = start_stands; thread = begin_stays_whole }
