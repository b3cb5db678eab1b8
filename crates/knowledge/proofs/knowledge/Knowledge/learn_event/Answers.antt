use Rattle.knowledge.specs.Learning.{event_taken}
use Rattle.knowledge.proofs.Cache.{cache_after}
use Rattle.knowledge.proofs.knowledge.Knowledge.learn_event.Goals as goal

pub returns-in-Ok-clause-cache : goal.returns-in-Ok-clause-cache
returns-in-Ok-clause-cache c = λ messages cache.
    cache_after messages (event_taken c.args.event.now) c.args.self.now c.take_event.new.self c.in-Ok.ensures.after cache
