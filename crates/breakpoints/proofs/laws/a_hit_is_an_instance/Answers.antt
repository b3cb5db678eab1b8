use Rattle.breakpoints.proofs.Instances.{hits_are_instances}
use Rattle.breakpoints.proofs.laws.a_hit_is_an_instance.Goals as goal

pub returns : goal.returns
returns c = hits_are_instances
