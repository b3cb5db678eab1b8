use Rattle.std.proofs.Common.{◌≡◌, ◌+◌, sym, ap, subst, is_some, if◌then◌else◌, ◌∙◌}
use Rattle.indexmap.specs.IndexMap.{index_map_len}
use Rattle.link_pool.proofs.Indexing.{first_has, first_item, first_left, indexed_left}
use Rattle.link_pool.proofs.pending.Pending.take_first.Goals as goal

pub returns-in_err-token-clause-value : goal.returns-in_err-token-clause-value
returns-in_err-token-clause-value g c =
    let there = first_item c.self.inside.pool.lists c.self.inside.keys c.in_ok-key.key c.self.invariant c.in_ok-key.ensures.value in
    let none = ap is_some c.in_err-token.ensures.value in
    absurd (cc)

pub returns-in_err-token-clause-left : goal.returns-in_err-token-clause-left
returns-in_err-token-clause-left g c =
    let there = first_item c.self.inside.pool.lists c.self.inside.keys c.in_ok-key.key c.self.invariant c.in_ok-key.ensures.value in
    let none = ap is_some c.in_err-token.ensures.value in
    absurd (cc)

pub invariant_of-self-2 : goal.invariant_of-self-2
invariant_of-self-2 g c =
    let f = first_has c.self.inside.pool.lists c.self.inside.keys c.in_ok-token.token c.in_ok-key.key c.in_ok-token.item c.self.invariant c.first.ensures.whole c.in_ok-key.ensures.value c.in_ok-token.ensures.value in
    let less = subst (λ b. index_map_len c.swap_remove.new.self + (if b then 1 else 0) ≡ index_map_len c.self.inside.keys) (ap is_some (c.swap_remove.ensures.value ∙ f.mapped)) c.swap_remove.ensures.len in
    indexed_left c.self.inside.pool.lists c.unlink.new.self.lists c.self.inside.keys c.swap_remove.new.self c.in_ok-token.token c.in_ok-key.key c.self.invariant f.has c.unlink.ensures.left c.unlink.ensures.lists c.swap_remove.ensures.updates.0 less

pub returns-clause-value : goal.returns-clause-value
returns-clause-value g c =
    let f = first_has c.self.inside.pool.lists c.self.inside.keys c.in_ok-token.token c.in_ok-key.key c.in_ok-token.item c.self.invariant c.first.ensures.whole c.in_ok-key.ensures.value c.in_ok-token.ensures.value in
    rw (← c.self.view_is) (sym f.is)

pub returns-clause-left : goal.returns-clause-left
returns-clause-left g c =
    let f = first_has c.self.inside.pool.lists c.self.inside.keys c.in_ok-token.token c.in_ok-key.key c.in_ok-token.item c.self.invariant c.first.ensures.whole c.in_ok-key.ensures.value c.in_ok-token.ensures.value in
    rw (← c.self.view_is) (first_left c.self.inside.pool.lists c.unlink.new.self.lists c.in_ok-key.key f.left c.unlink.ensures.left)
