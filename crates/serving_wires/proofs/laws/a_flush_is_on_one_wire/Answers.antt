use Rattle.serving_wires.proofs.InPlace.{flush_on, flush_puts_once, give_up_on}
use Rattle.serving_wires.proofs.Spared.{aside}
use Rattle.serving_wires.proofs.laws.a_flush_is_on_one_wire.Goals as goal

pub returns : goal.returns
returns c = record { flushes = flush_on; gives_up = give_up_on; alone = aside; once = flush_puts_once }
