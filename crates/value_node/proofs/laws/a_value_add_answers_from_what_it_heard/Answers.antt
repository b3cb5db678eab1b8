use Rattle.value_node.proofs.TheLaws.{answers_rightly, knows_what_it_heard}
use Rattle.value_node.proofs.laws.a_value_add_answers_from_what_it_heard.Goals as goal

pub returns : goal.returns
returns c = record { rightly = answers_rightly; knows = knows_what_it_heard }
