use Rattle.knowledge.specs.Learning.{answer_taken}
use Rattle.knowledge.proofs.Cache.{cache_after}
use Rattle.knowledge.proofs.knowledge.Knowledge.learn_answer.Goals as goal

pub returns-in-Ok-clause-cache : goal.returns-in-Ok-clause-cache
returns-in-Ok-clause-cache c = λ messages cache.
    cache_after messages (answer_taken c.args.command.now c.args.answer.now) c.args.self.now c.take_answer.new.self c.in-Ok.ensures.after cache
