use Rattle.block_store.proofs.Dropped.{dropped_is_gone}
use Rattle.block_store.proofs.laws.a_dropped_range_is_gone.Goals as goal

pub returns : goal.returns
returns c = dropped_is_gone
