use Rattle.std.proofs.Common.{sym, ◌∙◌}
use Rattle.knowledge.specs.Learning.{answer_taken}
use Rattle.cache_learning.specs.Lessons.{answer_message}
use Rattle.cache_learning.proofs.Keeping.{answer_bad, answer_kept, answer_known, answer_learned, kept_as, kept_as_it_was, learned_as, learned_as_it_was}
use Rattle.cache_learning.proofs.Limits.{answer_within, answer_within_as}
use Rattle.cache_learning.proofs.hearing.hear_answer.Goals as goal

pub returns-in-Known-clause-kept : goal.returns-in-Known-clause-kept
returns-in-Known-clause-kept c =
    answer_kept c.learn_answer.result
    (answer_taken c.args.command.now c.in-Known.answer) (answer_message c.args.command.now c.args.body.now) c.args.cache.now c.learn_answer.new.self
    (answer_known c.args.command.now c.args.body.now c.in-Known.answer (sym c.in-Known.is ∙ c.in_ok-answer.ensures.value))
    c.learn_answer.ensures.facts c.learn_answer.ensures.blocks

pub returns-in-Known-clause-learned : goal.returns-in-Known-clause-learned
returns-in-Known-clause-learned c =
    answer_learned c.learn_answer.result
    (answer_taken c.args.command.now c.in-Known.answer) (answer_message c.args.command.now c.args.body.now) c.args.cache.now c.learn_answer.new.self
    (answer_known c.args.command.now c.args.body.now c.in-Known.answer (sym c.in-Known.is ∙ c.in_ok-answer.ensures.value))
    c.learn_answer.ensures.facts c.learn_answer.ensures.blocks

pub returns-in-Known-clause-within : goal.returns-in-Known-clause-within
returns-in-Known-clause-within c =
    answer_within c.learn_answer.result c.args.command.now c.in-Known.answer c.args.cache.now c.learn_answer.new.self
    (answer_within_as c.args.command.now c.in-Known.answer c.in-Known.is c.in_ok-answer.ensures.within)
    c.learn_answer.ensures.facts c.learn_answer.ensures.empty

pub returns-in-Bad-clause-kept : goal.returns-in-Bad-clause-kept
returns-in-Bad-clause-kept c =
    kept_as (answer_bad c.args.command.now c.args.body.now (sym c.in-Bad.is ∙ c.in_ok-answer.ensures.value)) (kept_as_it_was c.args.cache.now)

pub returns-in-Bad-clause-learned : goal.returns-in-Bad-clause-learned
returns-in-Bad-clause-learned c =
    learned_as (answer_bad c.args.command.now c.args.body.now (sym c.in-Bad.is ∙ c.in_ok-answer.ensures.value)) (learned_as_it_was c.args.cache.now)

pub returns-in-Bad-clause-within : goal.returns-in-Bad-clause-within
returns-in-Bad-clause-within c = λ within. within
