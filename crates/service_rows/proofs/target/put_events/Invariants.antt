use Rattle.target_hub.specs.Limits.{AreEvents}
use Rattle.service_rows.proofs.target.put_events.Given as goal

-- the events that are left can be written
abbrev pub invariant-loop-event : goal.invariant-loop-event
invariant-loop-event l = AreEvents l.event-iterator.rest.now
