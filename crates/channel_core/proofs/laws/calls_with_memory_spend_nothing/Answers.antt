use Rattle.channel_core.proofs.TheLaws.{spends_nothing}
use Rattle.channel_core.proofs.laws.calls_with_memory_spend_nothing.Goals as goal

pub returns : goal.returns
returns g c = spends_nothing
