use Rattle.log_check.proofs.Truth.{true_logs}
use Rattle.log_check.proofs.judging.a_true_log_meets_the_rules.Goals as goal

pub returns : goal.returns
returns c = true_logs
