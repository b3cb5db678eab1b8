use Rattle.run_control.proofs.Touched.{ends_once}
use Rattle.run_control.proofs.laws.an_end_is_told_once.Goals as goal

pub returns : goal.returns
returns c = ends_once
