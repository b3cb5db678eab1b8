-- The law of stored answers, as a term.
use Rattle.value_store.specs.Laws.{StoredAnswersTeachNothingNew}
use Rattle.value_store.proofs.Lessons.Stored.{nothing_new}

pub stored_answers_teach_nothing_new : StoredAnswersTeachNothingNew
stored_answers_teach_nothing_new = nothing_new
