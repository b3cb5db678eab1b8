use Rattle.std.proofs.Common.{sym, ap, option_map, ◌∙◌}
use Rattle.link_pool.proofs.Indexing.{has_token, has_item, item_none, no_token}
use Rattle.link_pool.proofs.pending.Pending.find.Goals as goal

pub returns-in_err-key-clause-value : goal.returns-in_err-key-clause-value
returns-in_err-key-clause-value g c =
    rw (c.from_residual.ensures, ← c.self.view_is)
    (item_none c.args.token _ (no_token c.self.inside.pool.lists c.self.inside.keys c.args.token c.self.invariant c.in_err-key.ensures.value))

pub returns-in_err-item-clause-value : goal.returns-in_err-item-clause-value
returns-in_err-item-clause-value g c =
    let h = has_token c.self.inside.pool.lists c.self.inside.keys c.args.token c.in_ok-key.field-0.now c.self.invariant c.item.ensures.whole c.in_ok-key.ensures.value in
    let there = has_item c.self.inside.pool.lists c.self.inside.keys c.args.token c.in_ok-key.field-0.now c.self.invariant h in
    let none = c.in_err-item.ensures.value in
    absurd (cc)

pub returns-clause-value : goal.returns-clause-value
returns-clause-value g c =
    let h = has_token c.self.inside.pool.lists c.self.inside.keys c.args.token c.in_ok-key.field-0.now c.self.invariant c.item.ensures.whole c.in_ok-key.ensures.value in
    let there = has_item c.self.inside.pool.lists c.self.inside.keys c.args.token c.in_ok-key.field-0.now c.self.invariant h in
    rw (← c.self.view_is) (ap (option_map (λ row. row.1)) (c.in_ok-item.ensures.value ∙ there) ∙ sym h.item_is)
