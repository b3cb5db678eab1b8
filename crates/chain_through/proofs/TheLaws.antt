-- The laws of what comes through, as terms.
use Rattle.chain_through.specs.Endings.{AnsweredIsSound, AskedIsSound, ComesToSoundEnds}
use Rattle.chain_through.specs.Through.{ComesThrough}
use Rattle.chain_through.proofs.Ends.{comes_to_sound_ends}
use Rattle.chain_through.proofs.Sound.{answered_sound, asked_sound}
use Rattle.chain_through.proofs.Through.{comes_through}

pub all_comes_through : ComesThrough
all_comes_through = comes_through

pub no_fault_comes_through : ComesToSoundEnds
no_fault_comes_through = comes_to_sound_ends

pub answered_is_sound : {T : Type 0} → AnsweredIsSound T
answered_is_sound = answered_sound

pub asked_is_sound : {T : Type 0} → AskedIsSound T
asked_is_sound = asked_sound
