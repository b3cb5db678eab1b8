use Rattle.std.proofs.Common.{ℕ, drop, subst}
use Rattle.std.specs.Prelude.{Option, option_map}
use Rattle.log_check.specs.Matching.{AreFront, Matched, passing, through_by}
use Rattle.log_check.proofs.Running.{rest_read, through_last, through_next, through_not}
use Rattle.log_check.proofs.executed.are_through.Goals as goal

pub loop-input-preserved : goal.loop-input-preserved
loop-input-preserved c =
    let finds =
    subst (λ (r : Option ℕ). Matched AreFront (through_by c.args.channel c.in-Some.input.now) (passing (drop c.loop-input.done c.args.commands.now)) (option_map (λ n. passing (drop n c.args.commands.now)) r))
    c.in-Some-2.is c.in_ok-next.ensures in
    record {
      against = through_next c.args.channel c.args.inputs.now c.loop-input.left.now c.in-Some.after.now c.in-Some.input.now (passing c.args.commands.now) (passing (drop c.loop-input.done c.args.commands.now))
          (passing (drop c.in-Some-2.next c.args.commands.now)) c.loop-input.invariant.against c.in-Some.ensures.some finds;
      read = rest_read c.loop-input.left.now c.in-Some.after.now c.in-Some.input.now c.loop-input.invariant.read c.in-Some.ensures.some;
    }

pub returns-in-None : goal.returns-in-None
returns-in-None c =
    let misses =
    subst (λ (r : Option ℕ). Matched AreFront (through_by c.args.channel c.in-Some.input.now) (passing (drop c.loop-input.done c.args.commands.now)) (option_map (λ n. passing (drop n c.args.commands.now)) r))
    c.in-None.is c.in_ok-next.ensures in
    through_not c.args.channel c.args.inputs.now c.loop-input.left.now c.in-Some.after.now c.in-Some.input.now (passing c.args.commands.now) (passing (drop c.loop-input.done c.args.commands.now))
    c.loop-input.invariant.against c.in-Some.ensures.some misses

pub returns : goal.returns
returns c =
    through_last c.args.channel c.args.inputs.now c.loop-input.left.now (passing c.args.commands.now) (passing (drop c.loop-input.done c.args.commands.now)) c.loop-input.invariant.against
    c.in_default.ensures.none
