use Rattle.channel_core.proofs.TheLaws.{ends_fairly, receives_in_order}
use Rattle.channel_core.proofs.laws.what_was_queued_is_received.Goals as goal

pub returns : goal.returns
returns g c = record { order = receives_in_order; causes = ends_fairly }
