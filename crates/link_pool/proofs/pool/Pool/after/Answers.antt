use Rattle.std.proofs.Common.{ap, ◌∙◌}
use Rattle.link_pool.proofs.Whole.{next_of, link_after}
use Rattle.link_pool.proofs.pool.Pool.after.Goals as goal

pub returns-in_err-link : goal.returns-in_err-link
returns-in_err-link g c =
    rw c.from_residual.ensures (ap next_of c.in_err-link.ensures ∙ link_after c.args.list c.args.key c.args.self.now.lists)
