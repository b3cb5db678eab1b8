use Rattle.std.proofs.Common.{sym}
use Rattle.link_pool.proofs.Standing.{standing_as, lists_same}
use Rattle.link_pool.proofs.Whole.{found_item, is_whole, no_item}
use Rattle.link_pool.proofs.pool.Pool.item.Goals as goal

pub returns-in_err-get-clause-value : goal.returns-in_err-get-clause-value
returns-in_err-get-clause-value g c =
    let stands = standing_as _ _ _ c.self.invariant (lists_same _ _ c.self.view_is) in
    rw c.from_residual.ensures (sym (no_item c.self.inside.nodes c.self.inside.ends.items c.args.self.now.lists stands c.args.key (sym c.in_err-get.ensures)))

pub returns-in_err-get-clause-whole : goal.returns-in_err-get-clause-whole
returns-in_err-get-clause-whole g c =
    is_whole c.self.inside.nodes c.self.inside.ends.items c.args.self.now.lists (standing_as _ _ _ c.self.invariant (lists_same _ _ c.self.view_is))

pub returns-clause-value : goal.returns-clause-value
returns-clause-value g c =
    let stands = standing_as _ _ _ c.self.invariant (lists_same _ _ c.self.view_is) in
    sym (found_item c.self.inside.nodes c.self.inside.ends.items c.args.self.now.lists stands c.args.key c.in_ok-get.field-0.now (sym c.in_ok-get.ensures))

pub returns-clause-whole : goal.returns-clause-whole
returns-clause-whole g c =
    is_whole c.self.inside.nodes c.self.inside.ends.items c.args.self.now.lists (standing_as _ _ _ c.self.invariant (lists_same _ _ c.self.view_is))
