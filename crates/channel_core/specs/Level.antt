-- How full an inbox is, and when the other side is told (flow control).
use Rattle.std.specs.Prelude.{ℕ, ◌-◌, ℤ, pos, neg_ℤ, int_lt, int_le, nat_lt, Bool, true, false, if◌then◌else◌, [], ◌∷◌, ◌++◌, length, None}
use Rattle.tcf_message.specs.Message.{flow}
use Rattle.channel_core.specs.EndValue.{EndValue}
use Rattle.channel_core.specs.Wire.{said}

-- the level of an inbox of so many messages: 100 less than their number, and 100 at the most
abbrev pub level_of : ℕ → ℤ
level_of n = if nat_lt 200 n then pos 100 else if nat_lt n 100 then neg_ℤ (pos (100 - n)) else pos (n - 100)

-- a level above 0 is told to the other side where the one that it was told last isn't, and then one of -50 or less
abbrev pub is_due : Bool → ℤ → Bool
is_due true level = int_le level (neg_ℤ (pos 50))
is_due false level = int_lt (pos 0) level

abbrev pub leveled_to : {T : Type 0} → ℤ → EndValue T → EndValue T
leveled_to level e =
    if is_due e.is_loud level
    then record e { queued = e.queued ++ said (flow level) None ∷ []; is_loud = int_lt (pos 0) level }
    else e

-- after a message entered the inbox or left it; a last entry doesn't count
abbrev pub leveled : {T : Type 0} → EndValue T → EndValue T
leveled e = leveled_to (level_of (length e.inbox)) e
