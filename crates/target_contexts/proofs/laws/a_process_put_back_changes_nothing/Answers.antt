use Rattle.target_contexts.proofs.TheLaws.{put_back}
use Rattle.target_contexts.proofs.laws.a_process_put_back_changes_nothing.Goals as goal

pub returns : goal.returns
returns c = put_back
