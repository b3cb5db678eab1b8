-- The laws of a way at one moment, as terms.
use Rattle.chain_quiet.specs.Hops.{EachHopStands}
use Rattle.chain_quiet.specs.Stuck.{StillWaysAreUnstuck}
use Rattle.chain_quiet.proofs.Hops.Ways.{hops_stand}
use Rattle.chain_quiet.proofs.Rest.Ways.{none_stuck}

pub still_ways_are_unstuck : {T : Type 0} → StillWaysAreUnstuck T
still_ways_are_unstuck = none_stuck

pub each_hop_stands : {T : Type 0} → EachHopStands T
each_hop_stands = hops_stand
