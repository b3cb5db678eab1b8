use Rattle.std.proofs.Common.{arith, not, sym, ap, ◌∙◌}
use Rattle.std.proofs.lemmas.Bool.{and_parts}
use Rattle.link_pool.specs.Lists.{rows_of}
use Rattle.block_store.specs.Blocks.{overlaps}
use Rattle.block_store.specs.Store.{without_range}
use Rattle.block_store.proofs.Stored.{seen_filtered, seen_kept, stored_filtered}
use Rattle.block_store.proofs.Sweeps.{none_passing}
use Rattle.block_store.proofs.store.BlockStore.drop_range.Goals as goal

pub invariant_of-self : goal.invariant_of-self
invariant_of-self c =
    let counted = c.self.invariant.counted in
    let many = c.take_out_range.ensures.count in
    stored_filtered (λ block. not (overlaps c.args.process c.args.addr c.args.size block)) c.self.inside.pool.lists c.take_out_range.new.pool.lists c.self.inside.pool.room c.take_out_range.new.pool.room c.self.inside.count _
    c.self.invariant c.take_out_range.ensures.owners c.take_out_range.ensures.rows
    (omega (arith, many, counted)) (omega (arith, many, counted, c.take_out_range.ensures.room))

pub returns-in-Some : goal.returns-in-Some
returns-in-Some c =
    seen_filtered (λ block. not (overlaps c.args.process c.args.addr c.args.size block)) c.self.inside.pool.lists c.take_out_range.new.pool.lists c.take_out_range.ensures.rows
    ∙ ap (without_range c.args.process c.args.addr c.args.size) c.self.view_is

pub returns-in_default : goal.returns-in_default
returns-in_default c =
    let none = c.in_default.ensures.none in
    sym c.self.view_is
    ∙ seen_kept (λ block. not (overlaps c.args.process c.args.addr c.args.size block)) c.self.inside.pool.lists
    (none_passing (overlaps c.args.process c.args.addr c.args.size) c.args.process (λ block has. (and_parts _ _ (and_parts _ _ has).0).0) (rows_of 0 c.self.inside.pool.lists) none)
    ∙ ap (without_range c.args.process c.args.addr c.args.size) c.self.view_is
