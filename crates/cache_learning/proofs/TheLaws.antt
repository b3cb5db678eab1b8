-- The law of what is kept, as a term.
use Rattle.cache_learning.specs.Kept.{KeptIsLearned}
use Rattle.cache_learning.proofs.Keeping as keeping

pub kept_is_learned : KeptIsLearned
kept_is_learned = keeping.kept_is_learned
