use Rattle.node_answers.proofs.TheLaws.{answers_bound, answers_unbound}
use Rattle.node_answers.proofs.laws.a_value_add_answers_all.Goals as goal

pub returns-clause-unbound : goal.returns-clause-unbound
returns-clause-unbound c = answers_unbound

pub returns-clause-bound : goal.returns-clause-bound
returns-clause-bound c = answers_bound
