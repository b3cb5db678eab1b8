-- One direction of a hop: the messages in flight, the oldest first, each as its bytes with its mark; of the first one
-- those bytes that haven't arrived.
use Rattle.std.specs.Prelude.{ℕ, ◌+◌, ◌-◌, ◌==◌, ◌≡◌, ◌≤◌, if◌then◌else◌, nat_le, List, [], ◌∷◌, length, sum_by, take, drop, Option, Some, None}
use Rattle.channel_core.specs.declared.held.Outgoing.{Outgoing}

-- of the first message so many bytes have arrived
abbrev pub without_front : ℕ → List Outgoing → List Outgoing
without_front came [] = []
without_front came (out ∷ outs) = record out { bytes = drop came out.bytes } ∷ outs

-- they are some of its bytes
abbrev pub IsWithin : ℕ → List Outgoing → Type 0
IsWithin came [] = came ≡ 0
IsWithin came (out ∷ outs) = came ≤ length out.bytes

-- what comes first of all that is in flight, in at most so many bytes, and what stays: a part of one message, which keeps
-- the message's mark
abbrev pub next_part : ℕ → List Outgoing → Option Outgoing × List Outgoing
next_part most [] = (None, [])
next_part most (out ∷ outs) =
    if nat_le (length out.bytes) most then (Some out, outs)
    else (Some (record out { bytes = take most out.bytes }), record out { bytes = drop most out.bytes } ∷ outs)

-- the next so many bytes, or as many as there are, as one part for each message that they belong to
abbrev pub arriving : ℕ → List Outgoing → List Outgoing
arriving count [] = []
arriving count (out ∷ outs) =
    if count == 0 then []
    else if nat_le (length out.bytes) count then out ∷ arriving (count - length out.bytes) outs
    else record out { bytes = take count out.bytes } ∷ []

-- and what stays in flight
abbrev pub staying : ℕ → List Outgoing → List Outgoing
staying count [] = []
staying count (out ∷ outs) =
    if count == 0 then out ∷ outs
    else if nat_le (length out.bytes) count then staying (count - length out.bytes) outs
    else record out { bytes = drop count out.bytes } ∷ outs

-- more than there are bytes in flight, and messages: each piece has one of them at least
abbrev pub size_in : List Outgoing → ℕ
size_in outs = sum_by (λ out. length out.bytes + 1) outs
