use Rattle.std.proofs.Common.{arith}
use Rattle.link_pool.proofs.Clearing.{clears_end, clears_less, clears_next, clears_room}
use Rattle.link_pool.proofs.pool.Pool.unlink_list.Goals as goal

pub loop-key-smaller-in-Some : goal.loop-key-smaller-in-Some
loop-key-smaller-in-Some g c =
    clears_less c.args.list c.in-Some.key c.loop-key.self c.unlink.new.self c.in-Some.ensures.value c.unlink.ensures.whole c.unlink.ensures.left

pub loop-key-preserved-in-Some : goal.loop-key-preserved-in-Some
loop-key-preserved-in-Some g c =
    clears_next c.args.list c.in-Some.key c.args.self.now c.loop-key.self c.unlink.new.self c.loop-key.invariant c.in-Some.ensures.value c.unlink.ensures.whole c.unlink.ensures.left c.unlink.result c.unlink.ensures.value c.unlink.ensures.room

pub loop-key-smaller : goal.loop-key-smaller
loop-key-smaller g c =
    clears_less c.args.list c.in-Some.key c.loop-key.self c.unlink.new.self c.in-Some.ensures.value c.unlink.ensures.whole c.unlink.ensures.left

pub overflow_sub-result : goal.overflow_sub-result
overflow_sub-result g c =
    let grown = clears_room c.args.list c.args.self.now c.loop-key.self c.loop-key.invariant c.in_default.ensures.value in
    omega (arith, grown, c.room-before.ensures, c.room.ensures)

pub returns-clause-count : goal.returns-clause-count
returns-clause-count g c =
    let grown = clears_room c.args.list c.args.self.now c.loop-key.self c.loop-key.invariant c.in_default.ensures.value in
    omega (arith, grown, c.room-before.ensures, c.room.ensures)

pub returns-clause-left : goal.returns-clause-left
returns-clause-left g c = clears_end c.args.list c.args.self.now c.loop-key.self c.loop-key.invariant c.in_default.ensures.value

pub returns-clause-room : goal.returns-clause-room
returns-clause-room g c =
    let grown = clears_room c.args.list c.args.self.now c.loop-key.self c.loop-key.invariant c.in_default.ensures.value in
    omega (arith, grown, c.room-before.ensures, c.room.ensures)
