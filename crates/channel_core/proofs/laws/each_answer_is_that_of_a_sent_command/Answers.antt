use Rattle.channel_core.proofs.Running.{all_own}
use Rattle.channel_core.proofs.TheLaws.{counts_answers}
use Rattle.channel_core.proofs.laws.each_answer_is_that_of_a_sent_command.Goals as goal

pub returns : goal.returns
returns g c = record { counted = counts_answers; own = all_own }
