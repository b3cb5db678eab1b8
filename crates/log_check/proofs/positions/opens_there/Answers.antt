use Rattle.std.proofs.Common.{◌≡◌, sym, subst, true}
use Rattle.std.specs.Prelude.{◌↔◌}
use Rattle.log_check.specs.Placed.{OpensThere}
use Rattle.log_check.proofs.Opening.{opens_by}
use Rattle.log_check.proofs.positions.opens_there.Goals as goal

pub returns-in-Some : goal.returns-in-Some
returns-in-Some c =
    subst (λ mark. (c.is_some.result ≡ true) ↔ OpensThere c.args.inputs.now mark) (sym c.in-Some.is)
    (opens_by c.args.inputs.now c.in-Some.position c.channel_at.result c.is_some.result c.channel_at.ensures.some c.channel_at.ensures.none c.is_some.ensures)
