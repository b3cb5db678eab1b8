use Rattle.std.proofs.Common.{arith}
use Rattle.target_contexts.specs.Starting.{first_state}
use Rattle.run_control.proofs.Loops.{states_more}
use Rattle.run_control.proofs.attaching.set_states.Goals as goal

-- one thread more has the state
pub loop-place-preserved : goal.loop-place-preserved
loop-place-preserved c =
    states_more (first_state c.args.attached) c.in_ok-state.state c.loop-place.place c.args.threads.now c.loop-place.threads c.set_one.new.threads (omega arith)
    c.in_ok-state.ensures c.set_one.ensures c.loop-place.invariant
