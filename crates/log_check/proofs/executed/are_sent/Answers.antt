use Rattle.std.proofs.Common.{ℕ, drop, subst}
use Rattle.std.specs.Prelude.{Option, option_map}
use Rattle.target_hub.specs.Sent.{executed_by}
use Rattle.log_check.specs.Matching.{AreLeft, Matched, as_read}
use Rattle.log_check.proofs.Running.{rest_read, sent_last, sent_next, sent_not}
use Rattle.log_check.proofs.executed.are_sent.Goals as goal

pub loop-input-preserved : goal.loop-input-preserved
loop-input-preserved c =
    let finds =
    subst (λ (r : Option ℕ). Matched AreLeft (executed_by c.args.channel c.in-Some.input.now) (as_read (drop c.loop-input.done c.args.commands.now)) (option_map (λ n. as_read (drop n c.args.commands.now)) r))
    c.in-Some-2.is c.in_ok-next.ensures in
    record {
      against = sent_next c.args.channel c.args.inputs.now c.loop-input.left.now c.in-Some.after.now c.in-Some.input.now (as_read c.args.commands.now) (as_read (drop c.loop-input.done c.args.commands.now))
          (as_read (drop c.in-Some-2.next c.args.commands.now)) c.loop-input.invariant.against c.in-Some.ensures.some finds;
      read = rest_read c.loop-input.left.now c.in-Some.after.now c.in-Some.input.now c.loop-input.invariant.read c.in-Some.ensures.some;
    }

pub returns-in-None : goal.returns-in-None
returns-in-None c =
    let misses =
    subst (λ (r : Option ℕ). Matched AreLeft (executed_by c.args.channel c.in-Some.input.now) (as_read (drop c.loop-input.done c.args.commands.now)) (option_map (λ n. as_read (drop n c.args.commands.now)) r))
    c.in-None.is c.in_ok-next.ensures in
    sent_not c.args.channel c.args.inputs.now c.loop-input.left.now c.in-Some.after.now c.in-Some.input.now (as_read c.args.commands.now) (as_read (drop c.loop-input.done c.args.commands.now))
    c.loop-input.invariant.against c.in-Some.ensures.some misses

pub returns : goal.returns
returns c =
    sent_last c.args.channel c.args.inputs.now c.loop-input.left.now (as_read c.args.commands.now) (as_read (drop c.loop-input.done c.args.commands.now)) c.loop-input.invariant.against
    c.in_default.ensures.none
