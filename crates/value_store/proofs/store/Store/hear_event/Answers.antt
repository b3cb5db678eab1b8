use Rattle.cache_learning.specs.Lessons.{event_message}
use Rattle.value_store.proofs.Learned.{heard_is}
use Rattle.value_store.proofs.store.Store.hear_event.Goals as goal

pub returns : goal.returns
returns c =
    heard_is c.hear_event.result
    (event_message c.args.service.now c.args.name.now c.args.body.now) c.self.inside.cache c.hear_event.new.cache c.self.inside.mark c.args.self.now c.self.view_is
    c.hear_event.ensures.learned
