-- The bytes that come to an end, and the messages that a queue of the other side says with them.
use Rattle.std.specs.Prelude.{ℕ, ◌-◌, ℤ, nat_le, Bool, true, false, if◌then◌else◌, List, [], ◌∷◌, ◌++◌, length, map, filter, Option}
use Rattle.std.specs.List.{AllByRecursion, flat_map}
use Rattle.tcf_message.specs.Message.{MessageValue, flow, spelling, IsWellFormed}
use Rattle.channel_core.specs.Farewell.{leaving_behind}
use Rattle.channel_core.specs.Runs.{Call, delivering}
use Rattle.channel_core.specs.Wire.{said}
use Rattle.channel_core.specs.declared.held.Incoming.{Incoming}
use Rattle.channel_core.specs.declared.held.Outgoing.{Outgoing}

-- ---- bytes

-- a byte, and the mark beside the message or the piece that it is of
pub record Marked : Type 0 where
  pub byte : ℕ
  pub mark : Option ℕ

abbrev pub marked : List ℕ → Option ℕ → List Marked
marked bytes mark = map (λ byte. record { byte = byte; mark = mark }) bytes

-- all bytes of what is queued, in order
abbrev pub bytes_of : List Outgoing → List Marked
bytes_of queue = flat_map (λ o. marked o.bytes o.mark) queue

-- the bytes that come with a call
abbrev pub arrived_in : {T : Type 0} → Call T → List Marked
arrived_in (delivering piece mark) = marked piece mark
arrived_in _ = []

abbrev pub arrived : {T : Type 0} → List (Call T) → List Marked
arrived calls = flat_map arrived_in calls

-- ---- a queue that can be read

-- a message, and the mark beside it
pub record Spoken : Type 0 where
  pub message : MessageValue
  pub mark : Option ℕ

-- each message is well formed, so that it can be written and is read again
abbrev pub AreSpoken : List Spoken → Type 0
AreSpoken spoken = AllByRecursion (λ s. IsWellFormed s.message) spoken

-- messages as they are queued, and behind them perhaps the end of the stream
abbrev pub all_said : List Spoken → List Outgoing
all_said spoken = map (λ s. said s.message s.mark) spoken

abbrev pub queue_of : List Spoken → Bool → List Outgoing
queue_of spoken is_ended = all_said spoken ++ leaving_behind is_ended

-- and as they come
abbrev pub comes_as : Spoken → Incoming
comes_as s = record { raw = spelling s.message; mark = s.mark }

abbrev pub all_heard : List Spoken → List Incoming
all_heard spoken = map comes_as spoken

-- the messages that have come wholly with the first so many bytes
abbrev pub whole_in : ℕ → List Spoken → List Spoken
whole_in count [] = []
whole_in count (s ∷ spoken) =
    let size = length (said s.message s.mark).bytes in
    if nat_le size count then s ∷ whole_in (count - size) spoken else []

-- ---- what they are to an end

-- all but flow control enters the inbox
abbrev pub enters : MessageValue → Bool
enters (flow level) = false
enters _ = true

-- the messages that enter it, with their bytes and their marks
abbrev pub messages_in : List Spoken → List Incoming
messages_in spoken = map (λ s. record { raw = spelling s.message; mark = s.mark }) (filter (λ s. enters s.message) spoken)

-- the level that flow control tells, and the one before where the message is another
abbrev pub level_by : ℤ → MessageValue → ℤ
level_by level (flow next) = next
level_by level _ = level

-- the level that the last flow control among them tells, and the one before where there is none
abbrev pub level_after : ℤ → List Spoken → ℤ
level_after level [] = level
level_after level (s ∷ spoken) = level_after (level_by level s.message) spoken
