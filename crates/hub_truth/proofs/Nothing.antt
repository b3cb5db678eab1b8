-- Where nothing is known, nothing is false.
use Rattle.knowledge.specs.Facts.{Fact, IsGrounded, Knows, context_is, threads_are, state_is, register_is, byte_is, properties_are, status_is, nothing}
use Rattle.run_control.specs.TargetValue.{TargetValue}
use Rattle.target_truth.specs.Holds.{Holds, IsStill, IsTrueOf}

nothing_true : (target : TargetValue) (fact : Fact) → Knows nothing fact → IsTrueOf target fact
nothing_true target (context_is id context) knows = absurd cc
nothing_true target (threads_are process ids) knows = absurd cc
nothing_true target (state_is process thread state) knows = absurd cc
nothing_true target (register_is process thread index value) knows = absurd cc
nothing_true target (byte_is process addr byte) knows = absurd cc
nothing_true target (properties_are id properties) knows = absurd cc
nothing_true target (status_is id status) knows = absurd cc

nothing_grounded : IsGrounded nothing
nothing_grounded process thread index value knows = absurd cc

nothing_still : IsStill nothing
nothing_still process addr byte knows = absurd cc

pub nothing_holds : (target : TargetValue) → Holds nothing target
nothing_holds target = record { facts = nothing_true target; grounded = nothing_grounded; still = nothing_still }
