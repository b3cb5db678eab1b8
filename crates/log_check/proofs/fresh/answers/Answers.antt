use Rattle.log_check.proofs.Freshness.{answer_is, asked_stays}
use Rattle.log_check.proofs.fresh.answers.Goals as goal

pub returns-clause-answers : goal.returns-clause-answers
returns-clause-answers c =
    answer_is c.args.command.now c.in_ok-reading.reading c.args.hub.now.target c.in_ok-done.done c.args.body.now c.is_answer.result c.requires.sort c.requires.storable c.in_ok-reading.ensures.reading
    c.in_ok-done.ensures.done c.is_answer.ensures

pub returns-clause-stays : goal.returns-clause-stays
returns-clause-stays c =
    asked_stays c.args.command.now c.in_ok-reading.reading c.args.hub.now c.execute.new.self c.asking_changes_nothing.ensures.nothing c.requires.sort c.requires.storable c.in_ok-reading.ensures.reading
    c.requires.fresh c.in_ok-done.ensures.after
