use Rattle.cache_learning.proofs.TheLaws.{kept_is_learned}
use Rattle.cache_learning.proofs.laws.what_is_kept_was_learned.Goals as goal

pub returns : goal.returns
returns c = kept_is_learned
