use Rattle.std.proofs.Common.{sym, ap, ◌∙◌}
use Rattle.knowledge.specs.Learning.{event_taken}
use Rattle.cache_learning.specs.Lessons.{message_by}
use Rattle.cache_learning.proofs.Keeping.{event_learned, kept_as, kept_as_it_was, kept_nothing, kept_too, learned_as, learned_as_it_was, learned_nothing}
use Rattle.cache_learning.proofs.Limits.{event_within_as, within_nothing, within_still}
use Rattle.cache_learning.proofs.hearing.hear_event.Goals as goal

pub returns-in_ok-learn_event-in-Known-clause-kept : goal.returns-in_ok-learn_event-in-Known-clause-kept
returns-in_ok-learn_event-in-Known-clause-kept c =
    kept_as (ap message_by (sym c.in-Known.is ∙ c.in_ok-event.ensures.value))
    (kept_too (event_taken c.in-Known.event) c.args.cache.now c.learn_event.new.self
    c.in_ok-learn_event-in-Known.ensures.facts c.in_ok-learn_event-in-Known.ensures.blocks)

pub returns-in_ok-learn_event-in-Known-clause-learned : goal.returns-in_ok-learn_event-in-Known-clause-learned
returns-in_ok-learn_event-in-Known-clause-learned c =
    learned_as (ap message_by (sym c.in-Known.is ∙ c.in_ok-event.ensures.value))
    (event_learned (event_taken c.in-Known.event) c.args.cache.now c.learn_event.new.self c.in_ok-learn_event-in-Known.ensures.facts c.in_ok-learn_event-in-Known.ensures.blocks)

pub returns-in_ok-learn_event-in-Known-clause-within : goal.returns-in_ok-learn_event-in-Known-clause-within
returns-in_ok-learn_event-in-Known-clause-within c =
    within_still (event_taken c.in-Known.event) c.args.cache.now c.learn_event.new.self (event_within_as c.in-Known.event c.in-Known.is c.in_ok-event.ensures.within)
    c.in_ok-learn_event-in-Known.ensures.facts

pub returns-in-Bad-clause-kept : goal.returns-in-Bad-clause-kept
returns-in-Bad-clause-kept c =
    kept_as (ap message_by (sym c.in-Bad.is ∙ c.in_ok-event.ensures.value)) (kept_nothing c.args.cache.now c.forget.new.self c.forget.ensures.empty)

pub returns-in-Bad-clause-learned : goal.returns-in-Bad-clause-learned
returns-in-Bad-clause-learned c =
    learned_as (ap message_by (sym c.in-Bad.is ∙ c.in_ok-event.ensures.value)) (learned_nothing c.args.cache.now c.forget.new.self c.forget.ensures.empty)

pub returns-in-Bad-clause-within : goal.returns-in-Bad-clause-within
returns-in-Bad-clause-within c = λ within. within_nothing c.forget.new.self c.forget.ensures.empty

pub returns-in-Foreign-clause-kept : goal.returns-in-Foreign-clause-kept
returns-in-Foreign-clause-kept c = kept_as (ap message_by (sym c.in-Foreign.is ∙ c.in_ok-event.ensures.value)) (kept_as_it_was c.args.cache.now)

pub returns-in-Foreign-clause-learned : goal.returns-in-Foreign-clause-learned
returns-in-Foreign-clause-learned c = learned_as (ap message_by (sym c.in-Foreign.is ∙ c.in_ok-event.ensures.value)) (learned_as_it_was c.args.cache.now)

pub returns-in-Foreign-clause-within : goal.returns-in-Foreign-clause-within
returns-in-Foreign-clause-within c = λ within. within
