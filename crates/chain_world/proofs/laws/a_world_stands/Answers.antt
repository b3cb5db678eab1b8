use Rattle.chain_world.proofs.TheLaws.{world_is_played, world_stands, world_stands_by_its_past}
use Rattle.chain_world.proofs.laws.a_world_stands.Goals as goal

pub returns : goal.returns
returns c = record { stands = world_stands; played = world_is_played; past = world_stands_by_its_past }
