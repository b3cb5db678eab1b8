use Rattle.tcf_app.proofs.Outcomes.{each_is_shown, is_shown_once}
use Rattle.tcf_app.proofs.laws.one_outcome.Goals as goal

pub returns-clause-some : goal.returns-clause-some
returns-clause-some c = each_is_shown

pub returns-clause-once : goal.returns-clause-once
returns-clause-once c = is_shown_once
