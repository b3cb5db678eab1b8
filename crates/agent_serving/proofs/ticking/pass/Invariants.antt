use Rattle.std.proofs.Common.{◌≡◌, drop}
use Rattle.agent_serving.specs.Ticking.{after_pass, left_by_pass}
use Rattle.agent_serving.proofs.ticking.pass.Given as goal

-- the threads so far and then the others come to the same
abbrev pub invariant-loop-thread : goal.invariant-loop-thread
invariant-loop-thread l = record {
  agent : after_pass l.threads l.initial.left l.initial.agent ≡ after_pass (drop l.thread-index l.threads) l.left l.agent;
  left : left_by_pass l.threads l.initial.left l.initial.agent ≡ left_by_pass (drop l.thread-index l.threads) l.left l.agent;
}
