use Rattle.std.proofs.Common.{◌≡◌}
use Rattle.agent_node.specs.Channels.{told_all}
use Rattle.target_hub.specs.Limits.{AreEvents}
use Rattle.target_hub.specs.Sendable.{AreSendable}
use Rattle.agent_node.proofs.telling.tell_all.Given as goal

-- the events that are left come to the same, and can be sent
abbrev pub invariant-loop-event : goal.invariant-loop-event
invariant-loop-event l = record {
  told : told_all l.event-iterator.rest.now l.position l.channels ≡ told_all l.initial.events l.position l.initial.channels;
  events : AreEvents l.event-iterator.rest.now;
  sendable : AreSendable l.event-iterator.rest.now;
}
