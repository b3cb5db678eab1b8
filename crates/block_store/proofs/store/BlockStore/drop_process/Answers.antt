use Rattle.std.proofs.Common.{arith, not, nat_eq, sym, ap, ◌∙◌}
use Rattle.link_pool.specs.Lists.{rows_of}
use Rattle.block_store.specs.Store.{without_process}
use Rattle.block_store.proofs.Stored.{none_gone, owners_cleared, process_count, process_gone, seen_filtered, seen_kept, stored_filtered}
use Rattle.block_store.proofs.store.BlockStore.drop_process.Goals as goal

pub overflow_sub-self : goal.overflow_sub-self
overflow_sub-self c =
    let rows = process_gone c.args.process c.in-Some.list c.self.inside.pool.lists c.unlink_list.new.self.lists c.self.invariant.owners c.in-Some.ensures.list c.unlink_list.ensures.left in
    let many = process_count c.args.process c.in-Some.list c.self.inside.pool.lists c.unlink_list.new.self.lists c.in-Some.ensures.list rows in
    let counted = c.self.invariant.counted in
    omega (arith, many, counted, c.unlink_list.ensures.count)

pub invariant_of-self : goal.invariant_of-self
invariant_of-self c =
    let rows = process_gone c.args.process c.in-Some.list c.self.inside.pool.lists c.unlink_list.new.self.lists c.self.invariant.owners c.in-Some.ensures.list c.unlink_list.ensures.left in
    let many = process_count c.args.process c.in-Some.list c.self.inside.pool.lists c.unlink_list.new.self.lists c.in-Some.ensures.list rows in
    let counted = c.self.invariant.counted in
    stored_filtered (λ block. not (nat_eq block.process c.args.process)) c.self.inside.pool.lists c.unlink_list.new.self.lists c.self.inside.pool.room c.unlink_list.new.self.room c.self.inside.count _
    c.self.invariant (owners_cleared c.in-Some.list c.self.inside.pool.lists c.unlink_list.new.self.lists c.self.invariant.owners c.unlink_list.ensures.left) rows
    (omega (arith, many, counted, c.unlink_list.ensures.count)) (omega (arith, many, counted, c.unlink_list.ensures.count, c.unlink_list.ensures.room))

pub returns-in-Some : goal.returns-in-Some
returns-in-Some c =
    let rows = process_gone c.args.process c.in-Some.list c.self.inside.pool.lists c.unlink_list.new.self.lists c.self.invariant.owners c.in-Some.ensures.list c.unlink_list.ensures.left in
    seen_filtered (λ block. not (nat_eq block.process c.args.process)) c.self.inside.pool.lists c.unlink_list.new.self.lists rows ∙ ap (without_process c.args.process) c.self.view_is

pub returns-in_default : goal.returns-in_default
returns-in_default c =
    let none = c.in_default.ensures.none in
    sym c.self.view_is
    ∙ seen_kept (λ block. not (nat_eq block.process c.args.process)) c.self.inside.pool.lists (none_gone c.args.process (rows_of 0 c.self.inside.pool.lists) none)
    ∙ ap (without_process c.args.process) c.self.view_is
