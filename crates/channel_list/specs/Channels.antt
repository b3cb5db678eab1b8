-- Channels under numbers: one is found by its number, and what is told to all goes to each.
use Rattle.std.specs.Prelude.{ℕ, ◌==◌, Bool, not, ◌||◌, if◌then◌else◌, List, count_by, map, position, slice_get, slice_set, Option, Some, None}
use Rattle.channel_core.specs.Beginning.{new_end}
use Rattle.channel_core.specs.Closing.{closed_own, has_queued, is_closed}
use Rattle.channel_core.specs.EndValue.{EndValue, unless_spent}
use Rattle.channel_core.specs.Sending.{queued}
use Rattle.tcf_message.specs.Message.{MessageValue}
use Rattle.channel_list.specs.declared.channel.Channel.{Channel}

-- the end of a channel: no commands are sent there, so its tags say nothing
abbrev pub End : Type 0
End = EndValue Unit

-- ---- one channel

-- it opens with a Hello of this data and this mark
abbrev pub new_channel : ℕ → List ℕ → Option ℕ → Channel
new_channel number hello mark = record { number = number; end = new_end hello mark }

unfoldable pub is_open : Channel → Bool
is_open channel = not (is_closed channel.end.state)

-- it is live, or something is still to be sent
unfoldable pub is_kept : Channel → Bool
is_kept channel = is_open channel || has_queued channel.end

abbrev pub live_count : List Channel → ℕ
live_count channels = count_by is_open channels

abbrev pub place_of : ℕ → List Channel → Option ℕ
place_of number channels = position (λ channel. channel.number == number) channels

-- a closed end stays as it is
abbrev pub unless_closed : (End → End) → End → End
unless_closed change end = if is_closed end.state then end else change end

-- ---- the channel of a number

abbrev pub channel_at : Option ℕ → List Channel → Option Channel
channel_at None channels = None
channel_at (Some place) channels = slice_get channels place

abbrev pub end_in : Option Channel → Option End
end_in None = None
end_in (Some channel) = Some channel.end

abbrev pub channel_end : ℕ → List Channel → Option End
channel_end number channels = end_in (channel_at (place_of number channels) channels)

-- this channel stands at its place
abbrev pub with_channel_at : Option ℕ → Channel → List Channel → List Channel
with_channel_at None channel channels = channels
with_channel_at (Some place) channel channels = slice_set channels place channel

-- ---- changed; where there is none, nothing is

abbrev pub with_end : End → Channel → Channel
with_end end channel = record channel { end = end }

abbrev pub put_at : ℕ → (End → End) → List Channel → Option Channel → List Channel
put_at place change channels None = channels
put_at place change channels (Some channel) = slice_set channels place (with_end (change channel.end) channel)

abbrev pub changed_at : Option ℕ → (End → End) → List Channel → List Channel
changed_at None change channels = channels
changed_at (Some place) change channels = put_at place change channels (slice_get channels place)

abbrev pub changed : ℕ → (End → End) → List Channel → List Channel
changed number change channels = changed_at (place_of number channels) change channels

-- ---- told to all, and closed by this side; a closed end sends nothing

abbrev pub told : MessageValue → Option ℕ → Channel → Channel
told message mark channel = with_end (queued message mark channel.end) channel

abbrev pub told_to_all : MessageValue → Option ℕ → List Channel → List Channel
told_to_all message mark channels = map (told message mark) channels

abbrev pub left : Channel → Channel
left channel = with_end (unless_spent channel.end channel.end (closed_own channel.end)) channel

abbrev pub all_left : List Channel → List Channel
all_left channels = map left channels
