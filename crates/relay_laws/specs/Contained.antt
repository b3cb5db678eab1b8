-- That whoever is below a relay learns no more than what the relay itself was taught, at each moment; and so
-- of two in a row.
use Rattle.std.specs.Prelude.{◌≡◌, ◌⊎◌, true, List, [], ◌∷◌, ◌++◌}
use Rattle.std.specs.List.{flat_map}
use Rattle.knowledge.specs.Facts.{IsPart}
use Rattle.knowledge.specs.Learning.{learned}
use Rattle.list_laws.specs.Fronts.{IsFront}
use Rattle.relay_laws.specs.Relay.{Crossing, HaveOwnTokens, IsRelay, asked_in, heard_in, sent_in, taught_above, taught_below, tells, told_in}

-- ---- one relay

-- what is learned of all that was sent below is a part of what is learned of all that was taken from above
abbrev pub IsContained : List Crossing → Type 0
IsContained done = IsPart (learned (taught_below done)) (learned (taught_above done))

-- so it is whenever a message has been sent below, where the commands that were taken there have tokens of
-- their own
abbrev pub KeepsContainment : Type 0
KeepsContainment = (traffic : List Crossing) → IsRelay traffic → HaveOwnTokens (asked_in traffic) →
    (done rest : List Crossing) (last : Crossing) → traffic ≡ done ++ last ∷ rest → tells last ≡ true →
    IsContained (done ++ last ∷ [])

-- ---- two of them, in one order of time

pub data Crossed : Type 0 where
  at_lower : Crossing → Crossed
  at_upper : Crossing → Crossed

abbrev pub lower_by : Crossed → List Crossing
lower_by (at_lower one) = one ∷ []
lower_by (at_upper one) = []

abbrev pub upper_by : Crossed → List Crossing
upper_by (at_lower one) = []
upper_by (at_upper one) = one ∷ []

abbrev pub lower_in : List Crossed → List Crossing
lower_in crossed = flat_map lower_by crossed

abbrev pub upper_in : List Crossed → List Crossing
upper_in crossed = flat_map upper_by crossed

-- the hop between them loses nothing but what comes last: at each moment what the one has taken from it is a
-- front of what the other has sent there
pub record IsJoined (crossed : List Crossed) : Type 0 where
  pub down : (done rest : List Crossed) → crossed ≡ done ++ rest →
      IsFront (heard_in (lower_in done)) (told_in (upper_in done))
  pub up : (done rest : List Crossed) → crossed ≡ done ++ rest →
      IsFront (asked_in (upper_in done)) (sent_in (lower_in done))

-- nothing crossed it yet, or the last was a message that was sent below
abbrev pub HasJustTold : List Crossing → Type 0
HasJustTold done =
    (done ≡ []) ⊎
    ((front : List Crossing) × (last : Crossing) × (done ≡ front ++ last ∷ []) × (tells last ≡ true))

-- what is learned of all that the lower one sent below is a part of what is learned of all that the upper one
-- had taken from above when it had sent the last of those messages that the lower one took
pub record IsContainedBy (lower upper : List Crossing) : Type 0 where
  pub then : List Crossing
  pub earlier : IsFront then upper
  pub just : HasJustTold then
  pub heard : told_in then ≡ heard_in lower
  pub part : IsPart (learned (taught_below lower)) (learned (taught_above then))

abbrev pub TwoKeepContainment : Type 0
TwoKeepContainment = (crossed : List Crossed) → IsRelay (lower_in crossed) → IsRelay (upper_in crossed) →
    IsJoined crossed → HaveOwnTokens (asked_in (lower_in crossed)) →
    (done rest : List Crossed) (last : Crossing) → crossed ≡ done ++ at_lower last ∷ rest →
    tells last ≡ true → IsContainedBy (lower_in (done ++ at_lower last ∷ [])) (upper_in done)
