use Rattle.std.proofs.Common.{◌≡◌, ◌∙◌, subst}
use Rattle.cache_learning.specs.Kept.{Keeps}
use Rattle.client_log.proofs.Asking.{shown_kept}
use Rattle.client_log.proofs.log.ClientLog.ask.Goals as goal
use Rattle.client_log.specs.Cached.{cached_value}
use Rattle.client_log.specs.Lessons.{lessons}

pub returns : goal.returns
returns c =
    let keeps : Keeps (lessons c.args.self.now) c.self.inside.cache =
    subst (λ lines. Keeps (lessons lines) c.self.inside.cache) c.self.view_is ((c.self.invariant c.if-self.false).1) in
    let value : c.in_ok-value.value ≡ cached_value c.args.what.now (lessons c.args.self.now) =
    c.in_ok-value.ensures ∙ shown_kept c.args.what.now (lessons c.args.self.now) c.self.inside.cache keeps in
    rw (value, c.in_ok-what.ensures) at c.push.ensures
