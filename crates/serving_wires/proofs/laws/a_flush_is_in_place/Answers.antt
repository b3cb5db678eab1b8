use Rattle.serving_wires.proofs.InPlace.{flush_in_place, give_up_in_place}
use Rattle.serving_wires.proofs.laws.a_flush_is_in_place.Goals as goal

pub returns : goal.returns
returns c = record { flushes = flush_in_place; gives_up = give_up_in_place }
