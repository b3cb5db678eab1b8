use Rattle.link_pool.proofs.Standing.{standing_as, lists_same}
use Rattle.link_pool.proofs.Whole.{are_linked, is_whole}
use Rattle.link_pool.proofs.pool.Pool.nodes.Goals as goal

pub returns-clause-linked : goal.returns-clause-linked
returns-clause-linked g c =
    let seen = lists_same _ _ c.self.view_is in
    are_linked c.self.inside.nodes c.self.inside.ends.items c.args.self.now.lists (standing_as _ _ _ c.self.invariant seen)

pub returns-clause-whole : goal.returns-clause-whole
returns-clause-whole g c =
    let seen = lists_same _ _ c.self.view_is in
    is_whole c.self.inside.nodes c.self.inside.ends.items c.args.self.now.lists (standing_as _ _ _ c.self.invariant seen)
