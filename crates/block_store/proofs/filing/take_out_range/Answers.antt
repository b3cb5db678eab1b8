use Rattle.std.proofs.Common.{arith}
use Rattle.std.proofs.lemmas.Bool.{and_parts}
use Rattle.link_pool.specs.Lists.{rows_of}
use Rattle.block_store.specs.Blocks.{overlaps}
use Rattle.block_store.proofs.Spare.{none_by_cases}
use Rattle.block_store.proofs.Sweeps.{fewer_rows, sweeps_end, sweeps_less, sweeps_next, sweeps_room}
use Rattle.block_store.proofs.filing.take_out_range.Goals as goal

pub loop-at-preserved : goal.loop-at-preserved
loop-at-preserved c =
    sweeps_next (overlaps c.args.process c.args.addr c.args.size) c.args.process c.args.list c.loop-at.at c.after-at.result c.args.pool.now c.loop-at.pool c.take_out_wanted.new.pool c.in-Some.key
    c.loop-at.invariant c.take_out_wanted.ensures.whole c.in-Some.is c.after-at.ensures c.take_out_wanted.result c.take_out_wanted.ensures.gone c.take_out_wanted.ensures.left c.take_out_wanted.ensures.room

pub loop-at-smaller : goal.loop-at-smaller
loop-at-smaller c =
    sweeps_less (overlaps c.args.process c.args.addr c.args.size) c.args.process c.args.list c.loop-at.at c.after-at.result c.args.pool.now c.loop-at.pool c.take_out_wanted.new.pool c.in-Some.key
    c.loop-at.invariant c.take_out_wanted.ensures.whole c.in-Some.is c.after-at.ensures
    (sweeps_next (overlaps c.args.process c.args.addr c.args.size) c.args.process c.args.list c.loop-at.at c.after-at.result c.args.pool.now c.loop-at.pool c.take_out_wanted.new.pool c.in-Some.key
    c.loop-at.invariant c.take_out_wanted.ensures.whole c.in-Some.is c.after-at.ensures c.take_out_wanted.result c.take_out_wanted.ensures.gone c.take_out_wanted.ensures.left c.take_out_wanted.ensures.room)
    c.take_out_wanted.result c.take_out_wanted.ensures.left

pub returns-clause-rows : goal.returns-clause-rows
returns-clause-rows c =
    sweeps_end (overlaps c.args.process c.args.addr c.args.size) c.args.process c.args.list c.loop-at.at c.args.pool.now c.loop-at.pool (λ block has. (and_parts _ _ (and_parts _ _ has).0).0)
    c.loop-at.invariant (none_by_cases c.loop-at.at c.in_default.not-Some)

pub overflow_sub-result : goal.overflow_sub-result
overflow_sub-result c =
    let fewer = fewer_rows _ (rows_of 0 c.args.pool.now.lists) (rows_of 0 c.loop-at.pool.lists) (returns-clause-rows c) in
    let grown = sweeps_room (overlaps c.args.process c.args.addr c.args.size) c.args.process c.args.list c.loop-at.at c.args.pool.now c.loop-at.pool c.loop-at.invariant fewer in
    omega (arith, grown, c.room-before.ensures, c.room.ensures)

pub returns-clause-room : goal.returns-clause-room
returns-clause-room c =
    let fewer = fewer_rows _ (rows_of 0 c.args.pool.now.lists) (rows_of 0 c.loop-at.pool.lists) (returns-clause-rows c) in
    let grown = sweeps_room (overlaps c.args.process c.args.addr c.args.size) c.args.process c.args.list c.loop-at.at c.args.pool.now c.loop-at.pool c.loop-at.invariant fewer in
    omega (arith, grown, c.room-before.ensures, c.room.ensures)

pub returns-clause-count : goal.returns-clause-count
returns-clause-count c =
    let fewer = fewer_rows _ (rows_of 0 c.args.pool.now.lists) (rows_of 0 c.loop-at.pool.lists) (returns-clause-rows c) in
    let grown = sweeps_room (overlaps c.args.process c.args.addr c.args.size) c.args.process c.args.list c.loop-at.at c.args.pool.now c.loop-at.pool c.loop-at.invariant fewer in
    let sum = c.loop-at.invariant.room in
    omega (arith, grown, sum, c.room-before.ensures, c.room.ensures)
