use Rattle.world_laws.proofs.TheLaws.{read_playable}
use Rattle.world_laws.proofs.laws.read_is_playable.Goals as goal

pub returns : goal.returns
returns c = read_playable
