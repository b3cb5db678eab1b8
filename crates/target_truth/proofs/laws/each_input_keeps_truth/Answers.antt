use Rattle.target_truth.proofs.TheLaws.{each_input_keeps_truth, later_listeners_know_truth, listeners_know_truth}
use Rattle.target_truth.proofs.laws.each_input_keeps_truth.Goals as goal

pub returns-clause-one : goal.returns-clause-one
returns-clause-one c = each_input_keeps_truth

pub returns-clause-all : goal.returns-clause-all
returns-clause-all c = listeners_know_truth

pub returns-clause-later : goal.returns-clause-later
returns-clause-later c = later_listeners_know_truth
