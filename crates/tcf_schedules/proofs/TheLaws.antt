-- The laws of what is read, as terms.
use Rattle.tcf_schedules.specs.Schedule.{ReadsWhatIsSaid, ReadsWithin}
use Rattle.tcf_schedules.proofs.Schedules as schedules

pub reads_what_is_said : ReadsWhatIsSaid
reads_what_is_said = schedules.reads_what_is_said

pub reads_within : ReadsWithin
reads_within = schedules.steps_within
