use Rattle.std.proofs.Common.{sym, ap, option_map, ◌∙◌}
use Rattle.link_pool.proofs.Indexing.{has_token, has_item, indexed_left, item_none, left_none, no_token, tokens_left}
use Rattle.link_pool.proofs.pending.Pending.take.Goals as goal

pub returns-in_err-key-clause-value : goal.returns-in_err-key-clause-value
returns-in_err-key-clause-value g c =
    rw (c.from_residual.ensures, ← c.self.view_is)
    (item_none c.args.token _ (no_token c.self.inside.pool.lists c.self.inside.keys c.args.token c.self.invariant c.in_err-key.ensures.value))

pub returns-in_err-key-clause-left : goal.returns-in_err-key-clause-left
returns-in_err-key-clause-left g c =
    rw (← c.self.view_is)
    (left_none c.args.token _ (no_token c.self.inside.pool.lists c.self.inside.keys c.args.token c.self.invariant c.in_err-key.ensures.value))

pub invariant_of-self-in_err-_token : goal.invariant_of-self-in_err-_token
invariant_of-self-in_err-_token g c =
    let h = has_token c.self.inside.pool.lists c.self.inside.keys c.args.token c.in_ok-key.key c.self.invariant c.unlink.ensures.whole c.in_ok-key.ensures.value in
    let there = has_item c.self.inside.pool.lists c.self.inside.keys c.args.token c.in_ok-key.key c.self.invariant h in
    let none = c.in_err-_token.ensures.value in
    absurd (cc)

pub returns-in_err-_token-clause-value : goal.returns-in_err-_token-clause-value
returns-in_err-_token-clause-value g c =
    let h = has_token c.self.inside.pool.lists c.self.inside.keys c.args.token c.in_ok-key.key c.self.invariant c.unlink.ensures.whole c.in_ok-key.ensures.value in
    let there = has_item c.self.inside.pool.lists c.self.inside.keys c.args.token c.in_ok-key.key c.self.invariant h in
    let none = c.in_err-_token.ensures.value in
    absurd (cc)

pub returns-in_err-_token-clause-left : goal.returns-in_err-_token-clause-left
returns-in_err-_token-clause-left g c =
    let h = has_token c.self.inside.pool.lists c.self.inside.keys c.args.token c.in_ok-key.key c.self.invariant c.unlink.ensures.whole c.in_ok-key.ensures.value in
    let there = has_item c.self.inside.pool.lists c.self.inside.keys c.args.token c.in_ok-key.key c.self.invariant h in
    let none = c.in_err-_token.ensures.value in
    absurd (cc)

pub invariant_of-self-2 : goal.invariant_of-self-2
invariant_of-self-2 g c =
    let h = has_token c.self.inside.pool.lists c.self.inside.keys c.args.token c.in_ok-key.key c.self.invariant c.unlink.ensures.whole c.in_ok-key.ensures.value in
    indexed_left c.self.inside.pool.lists c.unlink.new.self.lists c.self.inside.keys c.swap_remove.new.self c.args.token c.in_ok-key.key c.self.invariant h c.unlink.ensures.left c.unlink.ensures.lists c.swap_remove.ensures.updates.0 c.in_ok-key.ensures.len

pub returns-clause-value : goal.returns-clause-value
returns-clause-value g c =
    let h = has_token c.self.inside.pool.lists c.self.inside.keys c.args.token c.in_ok-key.key c.self.invariant c.unlink.ensures.whole c.in_ok-key.ensures.value in
    let there = has_item c.self.inside.pool.lists c.self.inside.keys c.args.token c.in_ok-key.key c.self.invariant h in
    rw (← c.self.view_is) (ap (option_map (λ row. row.1)) (c.in_ok-_token.ensures.value ∙ there) ∙ sym h.item_is)

pub returns-clause-left : goal.returns-clause-left
returns-clause-left g c =
    let h = has_token c.self.inside.pool.lists c.self.inside.keys c.args.token c.in_ok-key.key c.self.invariant c.unlink.ensures.whole c.in_ok-key.ensures.value in
    rw (← c.self.view_is) (tokens_left c.self.inside.pool.lists c.unlink.new.self.lists c.args.token c.in_ok-key.key h c.unlink.ensures.left)
