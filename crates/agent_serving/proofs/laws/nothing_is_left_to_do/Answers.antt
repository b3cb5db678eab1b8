use Rattle.agent_serving.proofs.TheLaws.{goes_on_when_idle, nothing_is_left}
use Rattle.agent_serving.proofs.laws.nothing_is_left_to_do.Goals as goal

pub returns-clause-lines : goal.returns-clause-lines
returns-clause-lines c = nothing_is_left

pub returns-clause-idle : goal.returns-clause-idle
returns-clause-idle c = goes_on_when_idle
