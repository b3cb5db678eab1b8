-- The laws of ids, as terms.
use Rattle.tcf_values.specs.Ids.{ContextRoundTrip, RegisterRoundTrip}
use Rattle.tcf_values.proofs.Contexts.{context_law}
use Rattle.tcf_values.proofs.Registers.{register_law}

pub context_round_trip : ContextRoundTrip
context_round_trip = context_law

pub register_round_trip : RegisterRoundTrip
register_round_trip = register_law
