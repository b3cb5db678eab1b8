use Rattle.target_truth.proofs.TheLaws.{told_is_true}
use Rattle.target_truth.proofs.laws.what_is_told_is_true.Goals as goal

pub returns : goal.returns
returns c = told_is_true
