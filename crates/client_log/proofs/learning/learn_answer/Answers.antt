use Rattle.std.proofs.Common.{subst}
use Rattle.cache_learning.specs.Kept.{KeepsToo}
use Rattle.cache_learning.specs.Lessons.{final_message}
use Rattle.client_log.specs.Lessons.{reading_as}
use Rattle.client_log.proofs.Keeping.{nothing_new}
use Rattle.client_log.proofs.learning.learn_answer.Goals as goal

pub returns-in-None : goal.returns-in-None
returns-in-None c =
    subst (λ command. KeepsToo (final_message (reading_as command) c.args.body.now) c.args.cache.now c.args.cache.now) c.in-None.ensures
    (nothing_new c.args.cache.now)
