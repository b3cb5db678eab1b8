use Rattle.chain_heard.proofs.TheLaws.{commands_are_few}
use Rattle.chain_heard.proofs.laws.commands_are_few.Goals as goal

pub returns : goal.returns
returns c = commands_are_few
