use Rattle.std.proofs.Common.{◌≡◌, Some, List, ℕ, sym, ap, subst, true, ◌∙◌}
use Rattle.std.proofs.lemmas.Bool.{and_parts, leb-true}
use Rattle.link_pool.specs.Lists.{rows_of}
use Rattle.block_store.specs.Blocks.{has_range, part}
use Rattle.block_store.specs.Store.{covered}
use Rattle.block_store.proofs.Stored.{used, used_is}
use Rattle.block_store.proofs.Turned.{covered_nowhere, covered_there}
use Rattle.block_store.proofs.store.BlockStore.cover.Goals as goal

pub returns-in_err-place-clause-value : goal.returns-in_err-place-clause-value
returns-in_err-place-clause-value c =
    rw c.from_residual.ensures
    (sym (ap (covered c.args.process c.args.addr c.args.size) (sym c.self.view_is)
    ∙ covered_nowhere c.args.process c.args.addr c.args.size (rows_of 0 c.self.inside.pool.lists) (sym c.in_err-place.ensures.key)))

pub returns-in_err-block-clause-value : goal.returns-in_err-block-clause-value
returns-in_err-block-clause-value c =
    let u = used c.args.process c.args.addr c.args.size c.in_ok-place.place.key c.in_ok-place.place.list c.self.inside.pool.lists c.self.invariant.owners c.in_ok-place.ensures.list (sym c.in_ok-place.ensures.key) in
    let there = used_is c.args.process c.args.addr c.args.size c.in_ok-place.place.key c.in_ok-place.place.list c.self.inside.pool.lists c.in_err-block.ensures.whole u in
    let none = c.in_err-block.ensures.value in
    absurd (cc)

-- the block has the range
pub part-requires : goal.part-requires
part-requires c =
    let u = used c.args.process c.args.addr c.args.size c.in_ok-place.place.key c.in_ok-place.place.list c.self.inside.pool.lists c.self.invariant.owners c.in_ok-place.ensures.list (sym c.in_ok-place.ensures.key) in
    let there = c.in_ok-block.ensures.value ∙ used_is c.args.process c.args.addr c.args.size c.in_ok-place.place.key c.in_ok-place.place.list c.self.inside.pool.lists c.in_ok-block.ensures.whole u in
    let same : u.one.block ≡ c.in_ok-block.block.now = cc in
    let passes = subst (λ block. has_range c.args.process c.args.addr c.args.size block ≡ true) same u.one.passes in
    let parts = and_parts _ _ passes in
    record { starts = leb-true _ _ (and_parts _ _ parts.0).1; ends = leb-true _ _ parts.1 }

pub returns-clause-value : goal.returns-clause-value
returns-clause-value c =
    let u = used c.args.process c.args.addr c.args.size c.in_ok-place.place.key c.in_ok-place.place.list c.self.inside.pool.lists c.self.invariant.owners c.in_ok-place.ensures.list (sym c.in_ok-place.ensures.key) in
    let there = c.in_ok-block.ensures.value ∙ used_is c.args.process c.args.addr c.args.size c.in_ok-place.place.key c.in_ok-place.place.list c.self.inside.pool.lists c.in_ok-block.ensures.whole u in
    let same : c.in_ok-block.block.now ≡ u.one.block = cc in
    ap (λ (bytes : List ℕ). Some bytes) (c.part.ensures ∙ ap (part c.args.addr c.args.size) same)
    ∙ sym (ap (covered c.args.process c.args.addr c.args.size) (sym c.self.view_is)
    ∙ covered_there c.args.process c.args.addr c.args.size c.in_ok-place.place.key (rows_of 0 c.self.inside.pool.lists) u.one)
