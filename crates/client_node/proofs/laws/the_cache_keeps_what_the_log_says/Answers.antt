use Rattle.client_node.proofs.TheLaws.{shows_what_is_kept}
use Rattle.client_node.proofs.laws.the_cache_keeps_what_the_log_says.Goals as goal

pub returns : goal.returns
returns c = shows_what_is_kept
