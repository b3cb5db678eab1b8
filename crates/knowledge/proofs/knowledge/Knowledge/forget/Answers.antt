use Rattle.std.proofs.Common.{sym, subst, ◌∷◌, [], ◌++◌}
use Rattle.knowledge.specs.KnowledgeValue.{IsCacheOf, KnowledgeValue}
use Rattle.knowledge.specs.Learning.{bad_event_taken}
use Rattle.knowledge.proofs.Cache.{empty_cache}
use Rattle.knowledge.proofs.knowledge.Knowledge.forget.Goals as goal

pub returns-clause-cache : goal.returns-clause-cache
returns-clause-cache c = λ messages.
    subst (λ (value : KnowledgeValue). IsCacheOf (messages ++ bad_event_taken ∷ []) value) (sym c.drop_all.ensures.empty) (empty_cache messages)
