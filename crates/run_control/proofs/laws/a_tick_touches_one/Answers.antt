use Rattle.run_control.proofs.Touched.{touches_one}
use Rattle.run_control.proofs.laws.a_tick_touches_one.Goals as goal

pub returns : goal.returns
returns c = touches_one
