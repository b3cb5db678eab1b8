use Rattle.knowledge.proofs.TheLaws.{others_stay_unanswered}
use Rattle.knowledge.proofs.laws.others_stay_unanswered.Goals as goal

pub returns : goal.returns
returns c = others_stay_unanswered
