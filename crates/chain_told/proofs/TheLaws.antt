-- The laws of what is told, as terms.
use Rattle.chain_told.specs.Sent.{TargetTellsRightly, TargetTellsWhatIsOwed}
use Rattle.chain_told.specs.TellsOn.{TellsOn}
use Rattle.chain_told.proofs.Agents.Owed.{owed}
use Rattle.chain_told.proofs.Agents.Rightly.{told_rightly}
use Rattle.chain_told.proofs.Walking.{tells_so}

pub value_add_tells_on : TellsOn
value_add_tells_on images history legal commands own deeds heard begins are hearing few rightly = tells_so images history legal commands own deeds heard begins are few rightly hearing

pub target_tells_rightly : TargetTellsRightly
target_tells_rightly = told_rightly

pub target_tells_what_is_owed : TargetTellsWhatIsOwed
target_tells_what_is_owed = owed
