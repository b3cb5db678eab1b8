use Rattle.node_answers.proofs.TheLaws.{answers_what_it_can}
use Rattle.node_answers.proofs.laws.what_a_value_add_has_not_answered.Goals as goal

pub returns : goal.returns
returns c = answers_what_it_can
