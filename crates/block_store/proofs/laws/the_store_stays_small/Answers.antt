use Rattle.block_store.proofs.Kept.{stays_small}
use Rattle.block_store.proofs.laws.the_store_stays_small.Goals as goal

pub returns : goal.returns
returns c = stays_small
