use Rattle.chain_quiet.proofs.TheLaws.{still_ways_are_unstuck}
use Rattle.chain_quiet.proofs.laws.nothing_is_stuck.Goals as goal

pub returns : goal.returns
returns g c = still_ways_are_unstuck
