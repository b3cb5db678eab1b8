use Rattle.target_contexts.proofs.TheLaws.{file_is_loaded, others_stand_at_zero, registers_are_zero}
use Rattle.target_contexts.proofs.laws.a_file_is_started_as_it_is_loaded.Goals as goal

pub returns-clause-file : goal.returns-clause-file
returns-clause-file c = file_is_loaded

pub returns-clause-others : goal.returns-clause-others
returns-clause-others c = others_stand_at_zero

pub returns-clause-registers : goal.returns-clause-registers
returns-clause-registers c = registers_are_zero
