use Rattle.client_serving.proofs.TheLaws.{once_whatever_came}
use Rattle.client_serving.proofs.laws.whatever_comes_each_command_is_answered_once.Goals as goal

pub returns : goal.returns
returns c = once_whatever_came
