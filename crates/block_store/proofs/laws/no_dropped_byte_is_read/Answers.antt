use Rattle.block_store.proofs.Dropped.{dropped_is_unread}
use Rattle.block_store.proofs.laws.no_dropped_byte_is_read.Goals as goal

pub returns : goal.returns
returns c = dropped_is_unread
