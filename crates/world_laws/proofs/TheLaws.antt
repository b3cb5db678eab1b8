-- The laws of every schedule and of every file, as terms.
use Rattle.world_laws.specs.Playing.{CoherentOfEveryFile, EndsOfEveryFile, FreshOfEveryFile, HoldsOfEveryFile, ReadIsPlayable, StepsOfEveryFile, UnstuckOfEveryFile}
use Rattle.world_laws.proofs.Playable as playable

pub read_playable : ReadIsPlayable
read_playable = playable.read_playable

pub file_faithful : HoldsOfEveryFile
file_faithful = playable.file_faithful

pub file_ends : EndsOfEveryFile
file_ends = playable.file_ends

pub file_steps : StepsOfEveryFile
file_steps = playable.file_steps

pub file_coherent : CoherentOfEveryFile
file_coherent = playable.file_coherent

pub file_fresh : FreshOfEveryFile
file_fresh = playable.file_fresh

pub file_unstuck : UnstuckOfEveryFile
file_unstuck = playable.file_unstuck
