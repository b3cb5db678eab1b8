use Rattle.target_contexts.proofs.Running.{stood_walked}
use Rattle.target_contexts.proofs.targets.suspended_in.Goals as goal

-- one thread more
pub loop-place-preserved : goal.loop-place-preserved
loop-place-preserved c = record {
  same = stood_walked c.loop-place.place c.args.threads.now c.loop-place.numbers.items c.add_if_suspended.new.numbers.items
      c.in_ok-add_if_suspended.ensures.numbers c.loop-place.invariant.same;
  positive = c.in_ok-add_if_suspended.ensures.positive;
}
