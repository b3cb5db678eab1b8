-- What contracts see of an `Unescape`.
use Rattle.std.specs.Prelude.{◌≡◌, ℕ, ◌-◌, ◌^◌, ◌≤◌, min, [], ◌∷◌, length, Bool, true, false, Option, None}
use Rattle.stream_escape.specs.declared.stream.StreamFault.{StreamFault}
use Rattle.stream_escape.specs.Stream.{most_message, Ending, partly, ended}

-- a count of bytes, as far as a u64 counts
abbrev pub capped : ℕ → ℕ
capped count = min count (2 ^ 64 - 1)

-- how the bytes that were read end, the fault that was answered, and how many bytes were fed
pub record UnescapeValue : Type 0 where
  pub ending : Ending
  pub fault : Option StreamFault
  pub offset : ℕ

-- no message has begun, and nothing was refused
pub record IsBetween (unescape : UnescapeValue) : Type 0 where
  pub ending : unescape.ending ≡ partly [] false
  pub fault : unescape.fault ≡ None

-- a message that has begun is within the limit
abbrev pub IsWithin : Ending → Type 0
IsWithin (partly part escape) = length part ≤ most_message
IsWithin ended = Unit {0}

-- a message or an escape has begun and not ended
abbrev pub is_inside : Ending → Bool
is_inside (partly [] false) = false
is_inside (partly [] true) = true
is_inside (partly (byte ∷ part) escape) = true
is_inside ended = false
