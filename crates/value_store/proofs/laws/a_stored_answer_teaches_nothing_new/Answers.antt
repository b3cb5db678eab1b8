use Rattle.value_store.proofs.TheLaws.{stored_answers_teach_nothing_new}
use Rattle.value_store.proofs.laws.a_stored_answer_teaches_nothing_new.Goals as goal

pub returns : goal.returns
returns c = stored_answers_teach_nothing_new
