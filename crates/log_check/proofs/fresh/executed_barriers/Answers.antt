use Rattle.std.proofs.Common.{◌+◌, ap, arith, drop, length, refl}
use Rattle.std.specs.Prelude.{option_copied}
use Rattle.log_check.proofs.Ending.{barriers_first, barriers_last, barriers_next}
use Rattle.log_check.proofs.Running.{rest_read}
use Rattle.log_check.proofs.fresh.executed_barriers.Goals as goal

pub loop-input-init : goal.loop-input-init
loop-input-init c =
    record {
      so = λ log is. barriers_first log c.args.inputs.now c.args.channel c.args.commands.now c.new-found.result.items c.requires.sorted c.requires.executed c.new-found.ensures.items;
      read = c.requires.read;
      counted = omega arith;
    }

pub loop-input-preserved : goal.loop-input-preserved
loop-input-preserved c =
    let longer = ap length c.in-Some.ensures.some in
    record {
      so = λ log is.
          barriers_next log c.args.inputs.now c.loop-input.left.now c.in-Some.after.now c.args.channel c.args.commands.now (drop c.loop-input.done c.args.commands.now) (drop c.go_by-next.result.1 c.args.commands.now)
          c.loop-input.place (c.loop-input.place + 1) c.loop-input.found.items c.add_barrier.new.found.items c.in-Some.input.now (option_copied c.go_by-next.result.0) is (c.loop-input.invariant.so log is)
          c.in-Some.ensures.some c.go_by-next.ensures refl c.in_ok-add_barrier.ensures;
      read = rest_read c.loop-input.left.now c.in-Some.after.now c.in-Some.input.now c.loop-input.invariant.read c.in-Some.ensures.some;
      counted = omega (arith, longer, c.loop-input.invariant.counted);
    }

pub returns : goal.returns
returns c =
    λ log is. barriers_last log c.args.inputs.now c.loop-input.left.now c.args.channel c.args.commands.now (drop c.loop-input.done c.args.commands.now) c.loop-input.place c.loop-input.found.items
    (c.loop-input.invariant.so log is) c.in_default.ensures.none
