use Rattle.tcf_message.proofs.WholeLaws.{are_faults, is_one_answer, is_answered}
use Rattle.tcf_message.proofs.laws.faults.Goals as goal

pub returns-clause-exact : goal.returns-clause-exact
returns-clause-exact c = are_faults

pub returns-clause-one : goal.returns-clause-one
returns-clause-one c = is_one_answer

pub returns-clause-some : goal.returns-clause-some
returns-clause-some c = is_answered
