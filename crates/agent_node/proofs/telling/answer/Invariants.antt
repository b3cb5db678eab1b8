use Rattle.std.proofs.Common.{◌≡◌}
use Rattle.agent_node.specs.Channels.{progress_queued}
use Rattle.agent_node.proofs.telling.answer.Given as goal

-- the progress that is left comes to the same
abbrev pub invariant-loop-address : goal.invariant-loop-address
invariant-loop-address l =
    progress_queued l.token l.address-iterator.rest.now l.position l.end ≡ progress_queued l.token l.initial.done.progress l.position l.initial.end
