use Rattle.hub_node.proofs.TheLaws.{sends_its_commands}
use Rattle.hub_node.proofs.laws.a_hub_sends_its_commands.Goals as goal

pub returns : goal.returns
returns c = sends_its_commands
