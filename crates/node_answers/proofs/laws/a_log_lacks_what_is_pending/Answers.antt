use Rattle.node_answers.proofs.TheLaws.{answered_where_none_pends, ends_where_closed}
use Rattle.node_answers.proofs.laws.a_log_lacks_what_is_pending.Goals as goal

pub returns : goal.returns
returns c = record { answered = answered_where_none_pends; ended = ends_where_closed }
