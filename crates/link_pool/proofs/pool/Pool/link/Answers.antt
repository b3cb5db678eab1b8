use Rattle.std.proofs.Common.{sym, ◌∙◌}
use Rattle.link_pool.proofs.Standing.{standing_as, lists_same}
use Rattle.link_pool.proofs.Whole.{free_link, node_link}
use Rattle.link_pool.proofs.pool.Pool.link.Goals as goal

pub returns-in_err-get : goal.returns-in_err-get
returns-in_err-get g c =
    let stands = standing_as _ _ _ c.self.invariant (lists_same _ _ c.self.view_is) in
    rw c.from_residual.ensures (sym (free_link c.self.inside.nodes c.self.inside.ends.items c.args.self.now.lists stands c.args.key c.args.list (sym c.in_err-get.ensures)))

pub returns : goal.returns
returns g c =
    let stands = standing_as _ _ _ c.self.invariant (lists_same _ _ c.self.view_is) in
    c.link.ensures ∙ node_link c.self.inside.nodes c.self.inside.ends.items c.args.self.now.lists stands c.args.key c.args.list c.in_ok-get.field-0.now (sym c.in_ok-get.ensures)
