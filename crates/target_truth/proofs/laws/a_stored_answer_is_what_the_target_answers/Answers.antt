use Rattle.target_truth.proofs.Stored.Alike.{alike}
use Rattle.target_truth.proofs.TheLaws.{written_at}
use Rattle.target_truth.proofs.laws.a_stored_answer_is_what_the_target_answers.Goals as goal

pub returns-clause-alike : goal.returns-clause-alike
returns-clause-alike c = alike

pub returns-clause-written : goal.returns-clause-written
returns-clause-written c = written_at
