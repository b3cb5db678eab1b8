-- The laws of what is generated, as terms.
use Rattle.load_schedules.specs.Generated.{GeneratesWhatIsSaid, GeneratesWithin}
use Rattle.load_schedules.proofs.File as file

pub generates_what_is_said : GeneratesWhatIsSaid
generates_what_is_said = file.generates_what_is_said

pub generates_within : GeneratesWithin
generates_within = file.generates_within
