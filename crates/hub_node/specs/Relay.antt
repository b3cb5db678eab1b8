-- What a hub does with its ends: each command from below goes above, and what comes from above goes to all, or to whom it is
-- for.
use Rattle.std.specs.Prelude.{ℕ, ◌≡◌, ◌⊎◌, ◌+◌, ◌-◌, ◌^◌, ◌==◌, Bool, true, false, not, ◌||◌, ◌&&◌, if◌then◌else◌, nat_le, nat_lt, List, [], ◌∷◌, ◌++◌, codes, drop, filter, length, slice_get, slice_set, Option, Some, None, Result, Ok}
use Rattle.channel_core.specs.Beginning.{new_end, tag_of}
use Rattle.channel_core.specs.Closing.{closed_own, is_closed}
use Rattle.channel_core.specs.EndValue.{unless_spent}
use Rattle.channel_core.specs.Holding.{is_live}
use Rattle.channel_core.specs.Runs.{unless_refused}
use Rattle.channel_core.specs.Receiving.{delivered as end_delivered, ended as end_ended, waiting_in}
use Rattle.channel_core.specs.Sending.{commanded, queued, refusal_to}
use Rattle.channel_core.specs.Taking.{next_taken}
use Rattle.channel_core.specs.Wire.{is_redirect}
use Rattle.channel_core.specs.declared.held.Outgoing.{Outgoing}
use Rattle.channel_core.specs.declared.held.Incoming.{Incoming}
use Rattle.channel_core.specs.declared.taking.Taken.{Taken}
use Rattle.channel_core.specs.declared.taking.Taken.TheVariants as taken
use Rattle.channel_list.specs.Channels.{all_left, changed, channel_at, is_kept, is_open, live_count, new_channel, place_of, told_to_all, unless_closed, with_end}
use Rattle.channel_list.specs.Numbers.{has_number, no_numbers, with_number}
use Rattle.channel_list.specs.declared.channel.Channel.{Channel}
use Rattle.tcf_message.specs.Message.{MessageValue, command, event, final, not_known, progress, reading}
use Rattle.tcf_message.specs.declared.message.MessageFault.{MessageFault}
use Rattle.hub_node.specs.Board.{dropped, found, joined, kept, left, new_board}
use Rattle.hub_node.specs.Redirects.{redirect_reply}
use Rattle.hub_node.specs.RelayValue.{RelayValue}
use Rattle.hub_node.specs.WaitingValue.{WaitingValue}
use Rattle.hub_node.specs.declared.side.HubSide.{HubSide}
use Rattle.hub_node.specs.declared.side.HubSide.TheVariants.{Above, Below}
use Rattle.hub_node.specs.declared.waiting.Tag.{Tag}

-- above a hub has one service itself, and below it has those of the agent above
unfoldable pub upper_services : List ℕ
upper_services = codes "[\"Locator\"]" ++ 0 ∷ []

unfoldable pub hub_services : List ℕ
hub_services = codes "[\"Locator\",\"RunControl\",\"Breakpoints\",\"Memory\",\"Registers\",\"Processes\",\"Trace\"]" ++ 0 ∷ []

abbrev pub new_relay : RelayValue
new_relay = record { upper = new_end upper_services None; is_bound = false; lowers = []; numbers = no_numbers; board = new_board }

abbrev pub lower_of : ℕ → RelayValue → Option Channel
lower_of j r = channel_at (place_of j r.lowers) r.lowers

-- ---- a lower channel opens: its number is new, fewer than 64 are live, and the hub isn't closed; its Hello has no mark

abbrev pub is_refused : ℕ → RelayValue → Bool
is_refused j r = has_number j r.numbers || (nat_le 64 (live_count r.lowers) || is_closed r.upper.state)

unfoldable pub begun : ℕ → RelayValue → RelayValue
begun j r = record r {
  lowers = filter is_kept r.lowers ++ new_channel j hub_services None ∷ [];
  numbers = with_number j r.numbers;
  board = joined j r.board;
}

unfoldable pub opened_at : ℕ → RelayValue → Bool × RelayValue
opened_at j r = if is_refused j r then (false, r) else (true, begun j r)

-- ---- bytes come, or have ended

unfoldable pub came_at : HubSide → List ℕ → Option ℕ → RelayValue → RelayValue
came_at Above piece mark r = record r { upper = end_delivered piece mark r.upper }
came_at (Below j) piece mark r = record r { lowers = changed j (unless_closed (end_delivered piece mark)) r.lowers }

unfoldable pub ended_at : HubSide → RelayValue → RelayValue
ended_at Above r = record r { upper = unless_spent r.upper r.upper (end_ended r.upper) }
ended_at (Below j) r = record r { lowers = changed j (λ end. unless_spent end end (end_ended end)) r.lowers }

-- ---- all is closed

unfoldable pub all_closed : RelayValue → RelayValue
all_closed r = record r { upper = unless_spent r.upper r.upper (closed_own r.upper); lowers = all_left r.lowers }

-- ---- from below

-- the command goes above under a token of its own, which is its number
abbrev pub tag_for : ℕ → RelayValue → Tag
tag_for key r = record { key = key; serial = r.upper.last + 1 }

abbrev pub waits_as : ℕ → List ℕ → RelayValue → WaitingValue
waits_as j token r = record { serial = r.upper.last + 1; channel = j; token = token }

-- it is kept under this key
abbrev pub forwarded_as : ℕ → ℕ → List ℕ → List ℕ → List ℕ → List ℕ → Option ℕ → RelayValue → RelayValue
forwarded_as key j token service name body mark r = record r {
  upper = commanded service name body (tag_for key r) mark r.upper;
  board = kept key (waits_as j token r) r.board;
}

-- where it is refused, all is closed; so it is where no token is left
unfoldable pub forwarded : ℕ → ℕ → List ℕ → List ℕ → List ℕ → List ℕ → Option ℕ → RelayValue → RelayValue
forwarded key j token service name body mark r =
    if r.upper.last == 2 ^ 64 - 1 then all_closed r
    else unless_refused (refusal_to service name body r.upper)
    (all_closed (record r { board = kept key (waits_as j token r) r.board }))
    (forwarded_as key j token service name body mark r)

-- a redirect is answered by the hub itself, without a mark
unfoldable pub answered : ℕ → List ℕ → List ℕ → List ℕ → List ℕ → RelayValue → RelayValue
answered j token service name body r = record r { lowers = changed j (queued (final token (redirect_reply service name body)) None) r.lowers }

unfoldable pub asked : ℕ → ℕ → Option ℕ → Result MessageValue MessageFault → RelayValue → RelayValue
asked key j mark (Ok (command token service name body)) r =
    if is_redirect service name then answered j token service name body r else forwarded key j token service name body mark r
asked key j mark _ r = r

-- the channel's end is closed, and nothing is kept of its commands any more
unfoldable pub gone : ℕ → RelayValue → RelayValue
gone j r = record r { board = left j r.board }

unfoldable pub took_below : ℕ → ℕ → Taken Unit → RelayValue → RelayValue
took_below key j (taken.Hello incoming) r = r
took_below key j (taken.Command incoming) r = asked key j incoming.mark (reading incoming.raw) r
took_below key j (taken.Event incoming) r = r
took_below key j (taken.Progress token incoming) r = r
took_below key j (taken.Final tag incoming) r = r
took_below key j (taken.Closed cause) r = gone j r

-- something may be taken from below: the upper end is Live, and fewer than 1,024 commands are pending there
abbrev pub takes_below : RelayValue → Bool
takes_below r = is_live r.upper.state && nat_lt (length r.upper.pending) 1024

abbrev pub next_on : ℕ → Option Channel → RelayValue → Option (Taken Unit) × RelayValue
next_on place None r = (None, r)
next_on place (Some lower) r =
    let next = next_taken lower.end in (next.0, record r { lowers = slice_set r.lowers place (with_end next.1 lower) })

abbrev pub next_at : Option ℕ → RelayValue → Option (Taken Unit) × RelayValue
next_at None r = (None, r)
next_at (Some place) r = next_on place (slice_get r.lowers place) r

-- the oldest entry of the channel's inbox, where something may be taken from below
unfoldable pub next_below : ℕ → RelayValue → Option (Taken Unit) × RelayValue
next_below j r = if takes_below r then next_at (place_of j r.lowers) r else (None, r)

abbrev pub took_any_below : ℕ → ℕ → Option (Taken Unit) → RelayValue → Bool × RelayValue
took_any_below key j None r = (false, r)
took_any_below key j (Some what) r = (true, took_below key j what r)

abbrev pub turned_below : ℕ → ℕ → RelayValue → Bool × RelayValue
turned_below key j r = let next = next_below j r in took_any_below key j next.0 next.1

-- ---- from above

unfoldable pub event_told : Option ℕ → Result MessageValue MessageFault → RelayValue → RelayValue
event_told mark (Ok (event service name body)) r = record r { lowers = told_to_all (event service name body) mark r.lowers }
event_told mark _ r = r

-- the first Hello is for the hub alone
unfoldable pub greeted : Incoming → RelayValue → RelayValue
greeted incoming r = if r.is_bound then event_told incoming.mark (reading incoming.raw) r else record r { is_bound = true }

-- a command from above isn't recognised
unfoldable pub refused_above : Result MessageValue MessageFault → RelayValue → RelayValue
refused_above (Ok (command token service name body)) r = record r { upper = queued (not_known token) None r.upper }
refused_above _ r = r

-- what a command's channel is told, under its token there
abbrev pub told_one : WaitingValue → MessageValue → Option ℕ → RelayValue → RelayValue
told_one w message mark r = record r { lowers = changed w.channel (queued message mark) r.lowers }

unfoldable pub progress_told : Option WaitingValue → Option ℕ → Result MessageValue MessageFault → RelayValue → RelayValue
progress_told (Some w) mark (Ok (progress token body)) r = told_one w (progress w.token body) mark r
progress_told _ mark _ r = r

unfoldable pub final_told : Option WaitingValue → Option ℕ → Result MessageValue MessageFault → RelayValue → RelayValue
final_told (Some w) mark (Ok (final token body)) r = told_one w (final w.token body) mark r
final_told (Some w) mark (Ok (not_known token)) r = told_one w (not_known w.token) mark r
final_told _ mark _ r = r

-- what is kept of the command of a tag, if its channel is still there
abbrev pub found_by : Option Tag → RelayValue → Option WaitingValue
found_by None r = None
found_by (Some tag) r = found tag r.board

unfoldable pub finished : Tag → Incoming → RelayValue → RelayValue
finished tag incoming r = final_told (found tag r.board) incoming.mark (reading incoming.raw) (record r { board = dropped tag r.board })

unfoldable pub took_above : Taken Tag → RelayValue → RelayValue
took_above (taken.Hello incoming) r = greeted incoming r
took_above (taken.Command incoming) r = refused_above (reading incoming.raw) r
took_above (taken.Event incoming) r = event_told incoming.mark (reading incoming.raw) r
took_above (taken.Progress token incoming) r = progress_told (found_by (tag_of token r.upper.pending) r) incoming.mark (reading incoming.raw) r
took_above (taken.Final tag incoming) r = finished tag incoming r
took_above (taken.Closed cause) r = all_closed r

abbrev pub took_any_above : Option (Taken Tag) → RelayValue → Bool × RelayValue
took_any_above None r = (false, r)
took_any_above (Some what) r = (true, took_above what r)

unfoldable pub turned_above : RelayValue → Bool × RelayValue
turned_above r = let next = next_taken r.upper in took_any_above next.0 (record r { upper = next.1 })

-- a turn; what a command that is sent above in it is kept under is this key
abbrev pub turned_at : ℕ → HubSide → RelayValue → Bool × RelayValue
turned_at key Above r = turned_above r
turned_at key (Below j) r = turned_below key j r

-- ---- what goes out

abbrev pub first_of : Option Channel → Option Outgoing
first_of None = None
first_of (Some lower) = unless_spent lower.end None (slice_get lower.end.queued 0)

unfoldable pub given_at : HubSide → RelayValue → Option Outgoing
given_at Above r = unless_spent r.upper None (slice_get r.upper.queued 0)
given_at (Below j) r = first_of (lower_of j r)

unfoldable pub after_giving_at : HubSide → RelayValue → RelayValue
after_giving_at Above r = record r { upper = unless_spent r.upper r.upper (record r.upper { queued = drop 1 r.upper.queued }) }
after_giving_at (Below j) r = record r { lowers = changed j (λ end. unless_spent end end (record end { queued = drop 1 end.queued })) r.lowers }

-- ---- what can be asked

abbrev pub waiting_on : Option Channel → ℕ
waiting_on None = 0
waiting_on (Some lower) = waiting_in lower.end

abbrev pub waiting_at : HubSide → RelayValue → ℕ
waiting_at Above r = waiting_in r.upper
waiting_at (Below j) r = waiting_on (lower_of j r)

abbrev pub is_live_in : Option Channel → Bool
is_live_in None = false
is_live_in (Some lower) = is_open lower

abbrev pub is_live_at : HubSide → RelayValue → Bool
is_live_at Above r = not (is_closed r.upper.state)
is_live_at (Below j) r = is_live_in (lower_of j r)

-- nothing is taken of a side exactly then: no entry waits there, or, below, nothing is taken from there now
abbrev pub TakesNothing : HubSide → RelayValue → Type 0
TakesNothing Above r = waiting_at Above r ≡ 0
TakesNothing (Below j) r = (takes_below r ≡ false) ⊎ (waiting_at (Below j) r ≡ 0)
