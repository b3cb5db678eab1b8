use Rattle.value_node.proofs.TheLaws.{answers_itself, asks_nothing_below, connects_when_asked}
use Rattle.value_node.proofs.laws.a_value_add_answers_itself.Goals as goal

pub returns : goal.returns
returns c = record { answers = answers_itself; connects = connects_when_asked; asks_nothing = asks_nothing_below }
