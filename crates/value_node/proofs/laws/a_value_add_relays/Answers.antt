use Rattle.value_node.proofs.HoldsEnded.{always_stops}
use Rattle.value_node.proofs.TheLaws.{ends_are_runs, forwards_in_order, passes_all_on}
use Rattle.value_node.proofs.laws.a_value_add_relays.Goals as goal

pub returns : goal.returns
returns c = record { runs = ends_are_runs; forwards = forwards_in_order; passes = passes_all_on; stops = always_stops }
