use Rattle.tcf_app.proofs.Noting.{reads_one, reads_still}
use Rattle.tcf_app.proofs.reading.read_next.Goals as goal

pub returns-in-Ok-Longer-clause-part_noted : goal.returns-in-Ok-Longer-clause-part_noted
returns-in-Ok-Longer-clause-part_noted g c = reads_one _ _ _ c.in-Ok-Longer.ensures.noted

pub returns-in-Err-Failed-clause-part_noted : goal.returns-in-Err-Failed-clause-part_noted
returns-in-Err-Failed-clause-part_noted g c = reads_one _ _ _ (rw c.in-Err-Failed.field-0-is at c.in-Err-Failed.ensures.noted)

pub returns-in-Err-NoMemory-clause-part_noted : goal.returns-in-Err-NoMemory-clause-part_noted
returns-in-Err-NoMemory-clause-part_noted g c = reads_still _ _ _ (rw c.in-Err-NoMemory.field-0-is at c.in-Err-NoMemory.ensures.noted)

pub returns-in-Err-Failed-clause-failed_noted : goal.returns-in-Err-Failed-clause-failed_noted
returns-in-Err-Failed-clause-failed_noted g c = rw c.in-Err-Failed.field-0-is at c.in-Err-Failed.ensures.noted
