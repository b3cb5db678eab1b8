-- The end of the stream is kept ready, so that closing takes no memory.
use Rattle.std.specs.Prelude.{ℕ, ◌≡◌, ◌≤◌, ◌+◌, Bool, true, false, List, [], ◌∷◌, Option, None}
use Rattle.std.specs.List.{AllByRecursion}
use Rattle.channel_core.specs.Closing.{is_closed}
use Rattle.channel_core.specs.Wire.{end_of_stream}
use Rattle.channel_core.specs.declared.held.Arrived.{Arrived}
use Rattle.channel_core.specs.declared.held.Held.{Held}
use Rattle.channel_core.specs.declared.held.Outgoing.{Outgoing}
use Rattle.channel_core.specs.declared.states.Cause.{Cause}
use Rattle.channel_core.specs.declared.states.EndState.{EndState}

-- what stands behind the queue: the end of the stream, where it is still to be sent
abbrev pub leaving_behind : Bool → List Outgoing
leaving_behind true = end_of_stream ∷ []
leaving_behind false = []

-- the tokens of what is held don't fall, from this number on
abbrev pub AreRising : ℕ → List Held → Type 0
AreRising low [] = Unit {0}
AreRising low (h ∷ held) = (low ≤ h.token) × AreRising h.token held

-- none of them is above the token behind the last one, which a command has while it is put there
abbrev pub AreWithin : ℕ → List Held → Type 0
AreWithin last held = AllByRecursion (λ h. h.token ≤ last + 1) held

-- what always holds of an end: one that isn't closed has it ready and isn't leaving, one that is leaving has it still, a
-- closed one has an empty inbox, no pending command has a token above the last one, and held commands stand in order
pub record IsReady {T : Type 0} (state : EndState) (inbox : List Arrived) (stop : Option Cause) (is_leaving : Bool) (ready : List ℕ) (pending : List (ℕ × T)) (last : ℕ)
    (held : List Held) : Type 0 where
  pub staying : is_closed state ≡ false → is_leaving ≡ false
  pub kept : is_closed state ≡ false → ready ≡ 3 ∷ 2 ∷ []
  pub leaving : is_leaving ≡ true → ready ≡ 3 ∷ 2 ∷ []
  pub emptied : is_closed state ≡ true → inbox ≡ []
  pub stopped : is_closed state ≡ true → stop ≡ None
  pub issued : AllByRecursion (λ row. row.0 ≤ last) pending
  pub rising : AreRising 0 held
  pub within : AreWithin last held
