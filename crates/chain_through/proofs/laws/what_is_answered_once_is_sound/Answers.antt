use Rattle.chain_through.proofs.TheLaws.{answered_is_sound, asked_is_sound}
use Rattle.chain_through.proofs.laws.what_is_answered_once_is_sound.Goals as goal

pub returns-clause-answered : goal.returns-clause-answered
returns-clause-answered g c = answered_is_sound

pub returns-clause-asked : goal.returns-clause-asked
returns-clause-asked g c = asked_is_sound
