use Rattle.client_log.proofs.Keeping.{nothing_new}
use Rattle.client_log.proofs.learning.learn.Goals as goal

pub returns-in-Progress : goal.returns-in-Progress
returns-in-Progress c = rw c.in-Progress.is (nothing_new c.args.cache.now)

pub returns-in-Unknown : goal.returns-in-Unknown
returns-in-Unknown c = rw c.in-Unknown.is (nothing_new c.args.cache.now)
