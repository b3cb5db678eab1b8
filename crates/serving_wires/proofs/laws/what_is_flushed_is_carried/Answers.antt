use Rattle.serving_wires.proofs.Carried.{carried, flushed, shut_is_flushed, stays_flushed, unused}
use Rattle.serving_wires.proofs.laws.what_is_flushed_is_carried.Goals as goal

pub returns : goal.returns
returns c = record { flushed = flushed; shut = shut_is_flushed; stays = stays_flushed; carried = carried; unused = unused }
