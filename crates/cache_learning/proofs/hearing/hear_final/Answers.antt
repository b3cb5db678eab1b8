use Rattle.std.proofs.Common.{Some, ap, ◌∙◌}
use Rattle.cache_learning.specs.Lessons.{final_message}
use Rattle.cache_learning.proofs.Keeping.{kept_as, kept_as_it_was, learned_as, learned_as_it_was, unread}
use Rattle.cache_learning.proofs.hearing.hear_final.Goals as goal

pub returns-in-Unknown-clause-kept : goal.returns-in-Unknown-clause-kept
returns-in-Unknown-clause-kept c =
    kept_as
    (unread c.in_ok-command.field-0 c.args.body.now c.in-Unknown.is ∙ ap (λ reading. final_message (Some reading) c.args.body.now) c.in_ok-command.ensures.reading)
    (kept_as_it_was c.args.cache.now)

pub returns-in-Unknown-clause-learned : goal.returns-in-Unknown-clause-learned
returns-in-Unknown-clause-learned c =
    learned_as
    (unread c.in_ok-command.field-0 c.args.body.now c.in-Unknown.is ∙ ap (λ reading. final_message (Some reading) c.args.body.now) c.in_ok-command.ensures.reading)
    (learned_as_it_was c.args.cache.now)

pub returns-in-Unknown-clause-within : goal.returns-in-Unknown-clause-within
returns-in-Unknown-clause-within c = λ within. within
