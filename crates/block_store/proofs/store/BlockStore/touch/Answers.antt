use Rattle.std.proofs.Common.{sym, ap, is_some, ◌∙◌}
use Rattle.link_pool.specs.Lists.{rows_of}
use Rattle.block_store.specs.Store.{covered, touched}
use Rattle.block_store.proofs.Stored.{seen_used, stored_used, used}
use Rattle.block_store.proofs.Turned.{covered_nowhere, covered_there, touched_nowhere}
use Rattle.block_store.proofs.store.BlockStore.touch.Goals as goal

pub invariant_of-self : goal.invariant_of-self
invariant_of-self c =
    let u = used c.args.process c.args.addr c.args.size c.in-Some.place.key c.in-Some.place.list c.self.inside.pool.lists c.self.invariant.owners c.in-Some.ensures.list (sym c.in-Some.ensures.key) in
    stored_used c.args.process c.args.addr c.args.size c.in-Some.place.key c.in-Some.place.list c.self.inside.pool.room c.move_last-in-Some.new.self.room c.self.inside.count c.self.inside.pool.lists c.move_last.new.self.lists c.move_last-in-Some.new.self.lists
    c.self.invariant u c.move_last.ensures.moved c.move_last-in-Some.ensures.moved (c.move_last-in-Some.ensures.room ∙ c.move_last.ensures.room)

pub returns-in-Some-clause-there : goal.returns-in-Some-clause-there
returns-in-Some-clause-there c =
    let u = used c.args.process c.args.addr c.args.size c.in-Some.place.key c.in-Some.place.list c.self.inside.pool.lists c.self.invariant.owners c.in-Some.ensures.list (sym c.in-Some.ensures.key) in
    sym (ap (λ blocks. is_some (covered c.args.process c.args.addr c.args.size blocks)) (sym c.self.view_is)
    ∙ ap is_some (covered_there c.args.process c.args.addr c.args.size c.in-Some.place.key (rows_of 0 c.self.inside.pool.lists) u.one))

pub returns-in-Some-clause-moved : goal.returns-in-Some-clause-moved
returns-in-Some-clause-moved c =
    let u = used c.args.process c.args.addr c.args.size c.in-Some.place.key c.in-Some.place.list c.self.inside.pool.lists c.self.invariant.owners c.in-Some.ensures.list (sym c.in-Some.ensures.key) in
    seen_used c.args.process c.args.addr c.args.size c.in-Some.place.key c.in-Some.place.list c.self.inside.pool.lists c.move_last.new.self.lists c.move_last-in-Some.new.self.lists
    c.self.invariant.owners u c.move_last.ensures.moved c.move_last-in-Some.ensures.moved
    ∙ ap (touched c.args.process c.args.addr c.args.size) c.self.view_is

pub returns-in-None-clause-there : goal.returns-in-None-clause-there
returns-in-None-clause-there c =
    sym (ap (λ blocks. is_some (covered c.args.process c.args.addr c.args.size blocks)) (sym c.self.view_is)
    ∙ ap is_some (covered_nowhere c.args.process c.args.addr c.args.size (rows_of 0 c.self.inside.pool.lists) (sym c.in-None.ensures.key)))

pub returns-in-None-clause-moved : goal.returns-in-None-clause-moved
returns-in-None-clause-moved c =
    sym (ap (touched c.args.process c.args.addr c.args.size) (sym c.self.view_is)
    ∙ touched_nowhere c.args.process c.args.addr c.args.size (rows_of 0 c.self.inside.pool.lists) (sym c.in-None.ensures.key)
    ∙ c.self.view_is)
