-- The laws of what was heard, as terms.
use Rattle.chain_heard.specs.Coherent.{HeardIsCoherent, NoTargetHeardIsCoherent}
use Rattle.chain_heard.specs.Heard.{CommandsAreFew, HeardAmongIsOrdered, HeardIsFresh, NoTargetHeardIsFresh, NoTargetHeardIsOrdered}
use Rattle.chain_heard.proofs.Coherent.{heard_coherent, no_target_coherent}
use Rattle.chain_heard.proofs.Few.{commands_few}
use Rattle.chain_heard.proofs.Fresh.{heard_fresh, no_target_fresh}
use Rattle.chain_heard.proofs.Heard.{heard_among, no_target_ordered}

pub commands_are_few : CommandsAreFew
commands_are_few = commands_few

pub heard_among_is_ordered : HeardAmongIsOrdered
heard_among_is_ordered = heard_among

pub no_target_is_ordered : NoTargetHeardIsOrdered
no_target_is_ordered = no_target_ordered

pub heard_is_fresh : HeardIsFresh
heard_is_fresh = heard_fresh

pub no_target_is_fresh : NoTargetHeardIsFresh
no_target_is_fresh = no_target_fresh

pub heard_is_coherent : HeardIsCoherent
heard_is_coherent = heard_coherent

pub no_target_is_coherent : NoTargetHeardIsCoherent
no_target_is_coherent = no_target_coherent
