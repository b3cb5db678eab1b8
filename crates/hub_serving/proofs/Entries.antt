-- How many entries stand in the inboxes of a hub: each that is taken is one fewer.
use Rattle.std.proofs.Common.{◌≡◌, ◌⊎◌, inl, inr, ℕ, zero, suc, ◌+◌, ◌-◌, ◌^◌, ◌<◌, ◌≤◌, ◌==◌, Bool, true, false, cond, ◌&&◌, nat_lt, List, [], ◌∷◌, map, length, Option, Some, None, Result, Ok, Err, refl, sym, ap, ◌∙◌, subst, arith}
use Rattle.std.specs.Prelude.{slice_get, slice_set}
use Rattle.channel_core.specs.Beginning.{tag_of}
use Rattle.channel_core.specs.Closing.{closed_own}
use Rattle.channel_core.specs.EndValue.{EndValue, unless_spent}
use Rattle.channel_core.specs.Sending.{commanded, queued, refusal_to}
use Rattle.channel_core.specs.Taking.{next_taken}
use Rattle.channel_core.specs.Wire.{is_redirect}
use Rattle.channel_core.specs.declared.held.Incoming.{Incoming}
use Rattle.channel_core.specs.declared.sending.SendRefusal.{SendRefusal}
use Rattle.channel_core.specs.declared.taking.Taken.{Taken}
use Rattle.channel_core.specs.declared.taking.Taken.TheVariants as taken
use Rattle.channel_laws.proofs.Entries.{Fewer, closed_entries, commanded_entries, next_fewer, queued_entries}
use Rattle.channel_list.specs.Channels.{End, all_left, changed, changed_at, left, place_of, put_at, told, told_to_all, with_end}
use Rattle.channel_list.specs.declared.channel.Channel.{Channel}
use Rattle.tcf_message.specs.Message.{MessageValue, command, event, final, flow, not_known, progress, reading}
use Rattle.tcf_message.specs.declared.message.MessageFault.{MessageFault}
use Rattle.hub_node.specs.Board.{dropped, found, kept}
use Rattle.hub_node.specs.Redirects.{redirect_reply}
use Rattle.channel_core.specs.Runs.{unless_refused}
use Rattle.hub_node.specs.Relay.{TakesNothing, all_closed, answered, asked, event_told, final_told, finished, forwarded, forwarded_as, found_by, gone, greeted, next_at, next_below, next_on, progress_told, refused_above, takes_below, tag_for, took_above, took_any_above, took_any_below, took_below, turned_above, turned_at, turned_below, waits_as}
use Rattle.hub_node.specs.RelayValue.{RelayValue}
use Rattle.hub_node.specs.WaitingValue.{WaitingValue}
use Rattle.hub_node.specs.declared.side.HubSide.{HubSide}
use Rattle.hub_node.specs.declared.side.HubSide.TheVariants.{Above, Below}
use Rattle.hub_node.specs.declared.waiting.Tag.{Tag}
use Rattle.hub_node.proofs.Idle.{takes_nothing, turn_stays}
use Rattle.hub_serving.specs.Passing.{entries, entries_in}

abbrev pub relay_entries : RelayValue → ℕ
relay_entries r = entries r.upper + entries_in r.lowers

-- ---- lower channels

set_entries : (place : ℕ) (lower : Channel) (end : End) (lowers : List Channel) → slice_get lowers place ≡ Some lower
    → entries_in (slice_set lowers place (with_end end lower)) + entries lower.end ≡ entries_in lowers + entries end
set_entries place lower end [] is = absurd cc
set_entries zero lower end (other ∷ lowers) is = let same : other ≡ lower = cc in rw (← same) (omega arith)
set_entries (suc place) lower end (other ∷ lowers) is = let rest = set_entries place lower end lowers is in omega (arith, rest)

abbrev Shrinking : (End → End) → Type 0
Shrinking change = (end : End) → entries (change end) ≤ entries end

put_entries : (place : ℕ) (change : End → End) (lowers : List Channel) (lower : Option Channel) → slice_get lowers place ≡ lower → Shrinking change → entries_in (put_at place change lowers lower) ≤ entries_in lowers
put_entries place change lowers None is so = omega arith
put_entries place change lowers (Some lower) is so = let s = set_entries place lower (change lower.end) lowers is in let few = so lower.end in omega (arith, s, few)

changed_entries_at : (place : Option ℕ) (change : End → End) (lowers : List Channel) → Shrinking change → entries_in (changed_at place change lowers) ≤ entries_in lowers
changed_entries_at None change lowers so = omega arith
changed_entries_at (Some place) change lowers so = put_entries place change lowers (slice_get lowers place) refl so

pub changed_entries : (j : ℕ) (change : End → End) (lowers : List Channel) → Shrinking change → entries_in (changed j change lowers) ≤ entries_in lowers
changed_entries j change lowers so = changed_entries_at (place_of j lowers) change lowers so

queued_shrinks : (message : MessageValue) (mark : Option ℕ) → Shrinking (queued message mark)
queued_shrinks message mark = λ end. (queued_entries message mark end).0

told_entries : (message : MessageValue) (mark : Option ℕ) (lowers : List Channel) → entries_in (told_to_all message mark lowers) ≤ entries_in lowers
told_entries message mark [] = omega arith
told_entries message mark (lower ∷ lowers) = let one = queued_shrinks message mark lower.end in let rest = told_entries message mark lowers in omega (arith, one, rest)

unless_entries : {T : Type 0} → (flag : Bool) (e : EndValue T) → entries (cond flag e (closed_own e)) ≤ entries e
unless_entries true e = omega arith
unless_entries false e = (closed_entries e).0

left_entries : (lowers : List Channel) → entries_in (all_left lowers) ≤ entries_in lowers
left_entries [] = omega arith
left_entries (lower ∷ lowers) = let one = unless_entries lower.end.is_spent lower.end in let rest = left_entries lowers in omega (arith, one, rest)

-- ---- what a turn does makes no more entries

abbrev pub NoMore : RelayValue → RelayValue → Type 0
NoMore r next = relay_entries next ≤ relay_entries r

closed_no_more : (r : RelayValue) → NoMore r (all_closed r)
unfolding all_closed
closed_no_more r = let one = unless_entries r.upper.is_spent r.upper in let rest = left_entries r.lowers in omega (arith, one, rest)

event_no_more : (mark : Option ℕ) (m : Result MessageValue MessageFault) (r : RelayValue) → NoMore r (event_told mark m r)
unfolding event_told
event_no_more mark (Ok (event service name body)) r = let few = told_entries (event service name body) mark r.lowers in omega (arith, few)
event_no_more mark (Ok (command token service name body)) r = omega arith
event_no_more mark (Ok (final token body)) r = omega arith
event_no_more mark (Ok (progress token body)) r = omega arith
event_no_more mark (Ok (not_known token)) r = omega arith
event_no_more mark (Ok (flow level)) r = omega arith
event_no_more mark (Err fault) r = omega arith

greeted_no_more : (incoming : Incoming) (r : RelayValue) → NoMore r (greeted incoming r)
unfolding greeted
greeted_no_more incoming r = by_flag r.is_bound
  where
    by_flag : (flag : Bool) → NoMore r (cond flag (event_told incoming.mark (reading incoming.raw) r) (record r { is_bound = true }))
    by_flag true = event_no_more incoming.mark (reading incoming.raw) r
    by_flag false = omega arith

refused_no_more : (m : Result MessageValue MessageFault) (r : RelayValue) → NoMore r (refused_above m r)
unfolding refused_above
refused_no_more (Ok (command token service name body)) r = let few = (queued_entries (not_known token) None r.upper).0 in omega (arith, few)
refused_no_more (Ok (event service name body)) r = omega arith
refused_no_more (Ok (final token body)) r = omega arith
refused_no_more (Ok (progress token body)) r = omega arith
refused_no_more (Ok (not_known token)) r = omega arith
refused_no_more (Ok (flow level)) r = omega arith
refused_no_more (Err fault) r = omega arith

one_no_more : (j : ℕ) (message : MessageValue) (mark : Option ℕ) (r : RelayValue) → NoMore r (record r { lowers = changed j (queued message mark) r.lowers })
one_no_more j message mark r = let few = changed_entries j (queued message mark) r.lowers (queued_shrinks message mark) in omega (arith, few)

progress_no_more : (w : Option WaitingValue) (mark : Option ℕ) (m : Result MessageValue MessageFault) (r : RelayValue) → NoMore r (progress_told w mark m r)
unfolding progress_told
progress_no_more (Some w) mark (Ok (progress token body)) r = one_no_more w.channel (progress w.token body) mark r
progress_no_more (Some w) mark (Ok (command token service name body)) r = omega arith
progress_no_more (Some w) mark (Ok (event service name body)) r = omega arith
progress_no_more (Some w) mark (Ok (final token body)) r = omega arith
progress_no_more (Some w) mark (Ok (not_known token)) r = omega arith
progress_no_more (Some w) mark (Ok (flow level)) r = omega arith
progress_no_more (Some w) mark (Err fault) r = omega arith
progress_no_more None mark m r = omega arith

final_no_more : (w : Option WaitingValue) (mark : Option ℕ) (m : Result MessageValue MessageFault) (r : RelayValue) → NoMore r (final_told w mark m r)
unfolding final_told
final_no_more (Some w) mark (Ok (final token body)) r = one_no_more w.channel (final w.token body) mark r
final_no_more (Some w) mark (Ok (not_known token)) r = one_no_more w.channel (not_known w.token) mark r
final_no_more (Some w) mark (Ok (command token service name body)) r = omega arith
final_no_more (Some w) mark (Ok (event service name body)) r = omega arith
final_no_more (Some w) mark (Ok (progress token body)) r = omega arith
final_no_more (Some w) mark (Ok (flow level)) r = omega arith
final_no_more (Some w) mark (Err fault) r = omega arith
final_no_more None mark m r = omega arith

above_no_more : (what : Taken Tag) (r : RelayValue) → NoMore r (took_above what r)
unfolding took_above finished
above_no_more (taken.Hello incoming) r = greeted_no_more incoming r
above_no_more (taken.Command incoming) r = refused_no_more (reading incoming.raw) r
above_no_more (taken.Event incoming) r = event_no_more incoming.mark (reading incoming.raw) r
above_no_more (taken.Progress token incoming) r = progress_no_more (found_by (tag_of token r.upper.pending) r) incoming.mark (reading incoming.raw) r
above_no_more (taken.Final tag incoming) r = final_no_more (found tag r.board) incoming.mark (reading incoming.raw) (record r { board = dropped tag r.board })
above_no_more (taken.Closed cause) r = closed_no_more r

forwarded_no_more : (key j : ℕ) (token service name body : List ℕ) (mark : Option ℕ) (r : RelayValue) → NoMore r (forwarded key j token service name body mark r)
unfolding forwarded
forwarded_no_more key j token service name body mark r = by_flag (r.upper.last == 2 ^ 64 - 1)
  where
    q : RelayValue
    q = record r { board = kept key (waits_as j token r) r.board }

    by_why : (why : Option SendRefusal) → NoMore r (unless_refused why (all_closed q) (forwarded_as key j token service name body mark r))
    by_why None = let few = (commanded_entries service name body (tag_for key r) mark r.upper).0 in omega (arith, few)
    by_why (Some why) = closed_no_more q

    by_flag : (flag : Bool) → NoMore r (cond flag (all_closed r) (unless_refused (refusal_to service name body r.upper) (all_closed q) (forwarded_as key j token service name body mark r)))
    by_flag true = closed_no_more r
    by_flag false = by_why (refusal_to service name body r.upper)

asked_no_more : (key j : ℕ) (mark : Option ℕ) (m : Result MessageValue MessageFault) (r : RelayValue) → NoMore r (asked key j mark m r)
unfolding asked answered
asked_no_more key j mark (Ok (command token service name body)) r = by_flag (is_redirect service name)
  where
    by_flag : (flag : Bool) → NoMore r (cond flag (answered j token service name body r) (forwarded key j token service name body mark r))
    by_flag true = one_no_more j (final token (redirect_reply service name body)) None r
    by_flag false = forwarded_no_more key j token service name body mark r
asked_no_more key j mark (Ok (event service name body)) r = omega arith
asked_no_more key j mark (Ok (final token body)) r = omega arith
asked_no_more key j mark (Ok (progress token body)) r = omega arith
asked_no_more key j mark (Ok (not_known token)) r = omega arith
asked_no_more key j mark (Ok (flow level)) r = omega arith
asked_no_more key j mark (Err fault) r = omega arith

below_no_more : (key j : ℕ) (what : Taken Unit) (r : RelayValue) → NoMore r (took_below key j what r)
unfolding took_below gone
below_no_more key j (taken.Hello incoming) r = omega arith
below_no_more key j (taken.Command incoming) r = asked_no_more key j incoming.mark (reading incoming.raw) r
below_no_more key j (taken.Event incoming) r = omega arith
below_no_more key j (taken.Progress token incoming) r = omega arith
below_no_more key j (taken.Final tag incoming) r = omega arith
below_no_more key j (taken.Closed cause) r = omega arith

-- ---- a turn: where something is taken there is one fewer

abbrev pub OneFewer : RelayValue → Bool × RelayValue → Type 0
OneFewer r (true, next) = relay_entries next < relay_entries r
OneFewer r (false, next) = Unit {0}

above_any : (r : RelayValue) (next : Option (Taken Tag) × EndValue Tag) → Fewer r.upper next → OneFewer r (took_any_above next.0 (record r { upper = next.1 }))
above_any r (None, next) fewer = tt
above_any r (Some what, next) fewer = let few = above_no_more what (record r { upper = next }) in let one = fewer.0 in omega (arith, few, one)

above_fewer : (r : RelayValue) → OneFewer r (turned_above r)
unfolding turned_above
above_fewer r = above_any r (next_taken r.upper) (next_fewer r.upper)

on_fewer : (key j place : ℕ) (lower : Channel) (r : RelayValue) (next : Option (Taken Unit) × End) → slice_get r.lowers place ≡ Some lower → Fewer lower.end next
    → OneFewer r (took_any_below key j next.0 (record r { lowers = slice_set r.lowers place (with_end next.1 lower) }))
on_fewer key j place lower r (None, next) is fewer = tt
on_fewer key j place lower r (Some what, next) is fewer =
    let few = below_no_more key j what (record r { lowers = slice_set r.lowers place (with_end next lower) }) in
    let one = fewer.0 in
    let s = set_entries place lower next r.lowers is in
    omega (arith, few, one, s)

place_fewer : (key j place : ℕ) (lower : Option Channel) (r : RelayValue) → slice_get r.lowers place ≡ lower → OneFewer r (took_any_below key j (next_on place lower r).0 (next_on place lower r).1)
place_fewer key j place None r is = tt
place_fewer key j place (Some lower) r is = on_fewer key j place lower r (next_taken lower.end) is (next_fewer lower.end)

at_fewer : (key j : ℕ) (place : Option ℕ) (r : RelayValue) → OneFewer r (took_any_below key j (next_at place r).0 (next_at place r).1)
at_fewer key j None r = tt
at_fewer key j (Some place) r = place_fewer key j place (slice_get r.lowers place) r refl

below_fewer : (key j : ℕ) (r : RelayValue) → OneFewer r (turned_below key j r)
unfolding next_below
below_fewer key j r = by_flag (takes_below r)
  where
    by_flag : (flag : Bool) → OneFewer r (took_any_below key j (cond flag (next_at (place_of j r.lowers) r) (None, r)).0 (cond flag (next_at (place_of j r.lowers) r) (None, r)).1)
    by_flag true = at_fewer key j (place_of j r.lowers) r
    by_flag false = tt

pub turn_fewer : (key : ℕ) (side : HubSide) (r : RelayValue) → OneFewer r (turned_at key side r)
turn_fewer key Above r = above_fewer r
turn_fewer key (Below j) r = below_fewer key j r

-- and where nothing is, nothing changes

pub off_below : (key j : ℕ) (r : RelayValue) → takes_below r ≡ false → turned_below key j r ≡ (false, r)
unfolding next_below
off_below key j r off = ap (λ (b : Bool). took_any_below key j (cond b (next_at (place_of j r.lowers) r) (None, r)).0 (cond b (next_at (place_of j r.lowers) r) (None, r)).1) off

nothing_stays : (key : ℕ) (side : HubSide) (r : RelayValue) → TakesNothing side r → turned_at key side r ≡ (false, r)
nothing_stays key Above r none = turn_stays key Above r none
nothing_stays key (Below j) r none = elim none as (λ _. turned_at key (Below j) r ≡ (false, r)) [
  | inl off ↦ off_below key j r off
  | inr empty ↦ turn_stays key (Below j) r empty
]

pub untaken_stays : (key : ℕ) (side : HubSide) (r : RelayValue) → (turned_at key side r).0 ≡ false → turned_at key side r ≡ (false, r)
untaken_stays key side r off = nothing_stays key side r ((takes_nothing key side r).0 off)
