use Rattle.std.proofs.Common.{ap, slice_get, ◌∙◌}
use Rattle.link_pool.proofs.Standing.{standing_as, lists_same}
use Rattle.link_pool.proofs.Whole.{first_there, first_past, is_whole}
use Rattle.link_pool.proofs.pool.Pool.first.Goals as goal

pub returns-in_err-ends_of-clause-value : goal.returns-in_err-ends_of-clause-value
returns-in_err-ends_of-clause-value g c =
    let stands = standing_as _ _ _ c.self.invariant (lists_same _ _ c.self.view_is) in
    rw c.from_residual.ensures
    (first_past c.self.inside.nodes c.self.inside.ends.items c.args.self.now.lists stands c.args.list (c.in_err-ends_of.ensures ∙ ap (λ all. slice_get all c.args.list) c.as_slice.ensures.value))

pub returns-in_err-ends_of-clause-whole : goal.returns-in_err-ends_of-clause-whole
returns-in_err-ends_of-clause-whole g c =
    let seen = lists_same _ _ c.self.view_is in
    is_whole c.self.inside.nodes c.self.inside.ends.items c.args.self.now.lists (standing_as _ _ _ c.self.invariant seen)

pub returns-clause-value : goal.returns-clause-value
returns-clause-value g c =
    let stands = standing_as _ _ _ c.self.invariant (lists_same _ _ c.self.view_is) in
    first_there c.self.inside.nodes c.self.inside.ends.items c.args.self.now.lists stands c.args.list c.in_ok-ends_of.field-0 (c.in_ok-ends_of.ensures ∙ ap (λ all. slice_get all c.args.list) c.as_slice.ensures.value)

pub returns-clause-whole : goal.returns-clause-whole
returns-clause-whole g c =
    let seen = lists_same _ _ c.self.view_is in
    is_whole c.self.inside.nodes c.self.inside.ends.items c.args.self.now.lists (standing_as _ _ _ c.self.invariant seen)
