use Rattle.world_laws.proofs.Ends.{ends_rightly}
use Rattle.world_laws.proofs.Faithful.{coherent, faithful, fresh, hops_stand, unstuck}
use Rattle.world_laws.proofs.StepLines.{log_says_steps}
use Rattle.world_laws.proofs.laws.every_schedule.Goals as goal

pub returns : goal.returns
returns c = record { faithful = faithful; ends = ends_rightly; steps = log_says_steps; coherent = coherent; fresh = fresh; unstuck = unstuck; hops = hops_stand }
