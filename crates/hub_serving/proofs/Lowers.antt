-- What becomes of the lower channels in a turn: a message is queued on one of them or on all, or all are closed.
use Rattle.std.proofs.Common.{◌≡◌, ℕ, ◌-◌, ◌^◌, ◌==◌, Bool, true, false, cond, List, [], ◌∷◌, Option, Some, None, Result, Ok, Err, refl}
use Rattle.channel_core.specs.Beginning.{tag_of}
use Rattle.channel_core.specs.Sending.{queued, refusal_to}
use Rattle.channel_core.specs.Wire.{is_redirect}
use Rattle.channel_core.specs.declared.held.Incoming.{Incoming}
use Rattle.channel_core.specs.declared.sending.SendRefusal.{SendRefusal}
use Rattle.channel_core.specs.declared.taking.Taken.{Taken}
use Rattle.channel_core.specs.declared.taking.Taken.TheVariants as taken
use Rattle.channel_list.specs.Channels.{all_left, changed, told_to_all}
use Rattle.channel_list.specs.declared.channel.Channel.{Channel}
use Rattle.tcf_message.specs.Message.{MessageValue, command, event, final, flow, not_known, progress, reading}
use Rattle.tcf_message.specs.declared.message.MessageFault.{MessageFault}
use Rattle.hub_node.specs.Board.{dropped, found, kept}
use Rattle.hub_node.specs.Redirects.{redirect_reply}
use Rattle.channel_core.specs.Runs.{unless_refused}
use Rattle.hub_node.specs.Relay.{all_closed, answered, asked, event_told, final_told, finished, forwarded, forwarded_as, found_by, gone, greeted, progress_told, refused_above, took_above, took_below, waits_as}
use Rattle.hub_node.specs.RelayValue.{RelayValue}
use Rattle.hub_node.specs.WaitingValue.{WaitingValue}
use Rattle.hub_node.specs.declared.waiting.Tag.{Tag}

-- a relation that each of these keeps
pub record Steps (R : List Channel → List Channel → Type 0) : Type 0 where
  pub same : (cs : List Channel) → R cs cs
  pub told : (message : MessageValue) (mark : Option ℕ) (cs : List Channel) → R cs (told_to_all message mark cs)
  pub one : (j : ℕ) (message : MessageValue) (mark : Option ℕ) (cs : List Channel) → R cs (changed j (queued message mark) cs)
  pub left : (cs : List Channel) → R cs (all_left cs)

closed_by : (R : List Channel → List Channel → Type 0) → Steps R → (r : RelayValue) → R r.lowers (all_closed r).lowers
unfolding all_closed
closed_by R s r = s.left r.lowers

event_by : (R : List Channel → List Channel → Type 0) → Steps R → (mark : Option ℕ) (m : Result MessageValue MessageFault) (r : RelayValue) → R r.lowers (event_told mark m r).lowers
unfolding event_told
event_by R s mark (Ok (event service name body)) r = s.told (event service name body) mark r.lowers
event_by R s mark (Ok (command token service name body)) r = s.same r.lowers
event_by R s mark (Ok (final token body)) r = s.same r.lowers
event_by R s mark (Ok (progress token body)) r = s.same r.lowers
event_by R s mark (Ok (not_known token)) r = s.same r.lowers
event_by R s mark (Ok (flow level)) r = s.same r.lowers
event_by R s mark (Err fault) r = s.same r.lowers

greeted_by : (R : List Channel → List Channel → Type 0) → Steps R → (incoming : Incoming) (r : RelayValue) → R r.lowers (greeted incoming r).lowers
unfolding greeted
greeted_by R s incoming r = by_flag r.is_bound
  where
    by_flag : (flag : Bool) → R r.lowers (cond flag (event_told incoming.mark (reading incoming.raw) r) (record r { is_bound = true })).lowers
    by_flag true = event_by R s incoming.mark (reading incoming.raw) r
    by_flag false = s.same r.lowers

refused_by : (R : List Channel → List Channel → Type 0) → Steps R → (m : Result MessageValue MessageFault) (r : RelayValue) → R r.lowers (refused_above m r).lowers
unfolding refused_above
refused_by R s (Ok (command token service name body)) r = s.same r.lowers
refused_by R s (Ok (event service name body)) r = s.same r.lowers
refused_by R s (Ok (final token body)) r = s.same r.lowers
refused_by R s (Ok (progress token body)) r = s.same r.lowers
refused_by R s (Ok (not_known token)) r = s.same r.lowers
refused_by R s (Ok (flow level)) r = s.same r.lowers
refused_by R s (Err fault) r = s.same r.lowers

progress_by : (R : List Channel → List Channel → Type 0) → Steps R → (w : Option WaitingValue) (mark : Option ℕ) (m : Result MessageValue MessageFault) (r : RelayValue) → R r.lowers (progress_told w mark m r).lowers
unfolding progress_told
progress_by R s (Some w) mark (Ok (progress token body)) r = s.one w.channel (progress w.token body) mark r.lowers
progress_by R s (Some w) mark (Ok (command token service name body)) r = s.same r.lowers
progress_by R s (Some w) mark (Ok (event service name body)) r = s.same r.lowers
progress_by R s (Some w) mark (Ok (final token body)) r = s.same r.lowers
progress_by R s (Some w) mark (Ok (not_known token)) r = s.same r.lowers
progress_by R s (Some w) mark (Ok (flow level)) r = s.same r.lowers
progress_by R s (Some w) mark (Err fault) r = s.same r.lowers
progress_by R s None mark m r = s.same r.lowers

final_by : (R : List Channel → List Channel → Type 0) → Steps R → (w : Option WaitingValue) (mark : Option ℕ) (m : Result MessageValue MessageFault) (r : RelayValue) → R r.lowers (final_told w mark m r).lowers
unfolding final_told
final_by R s (Some w) mark (Ok (final token body)) r = s.one w.channel (final w.token body) mark r.lowers
final_by R s (Some w) mark (Ok (not_known token)) r = s.one w.channel (not_known w.token) mark r.lowers
final_by R s (Some w) mark (Ok (command token service name body)) r = s.same r.lowers
final_by R s (Some w) mark (Ok (event service name body)) r = s.same r.lowers
final_by R s (Some w) mark (Ok (progress token body)) r = s.same r.lowers
final_by R s (Some w) mark (Ok (flow level)) r = s.same r.lowers
final_by R s (Some w) mark (Err fault) r = s.same r.lowers
final_by R s None mark m r = s.same r.lowers

pub above_by : (R : List Channel → List Channel → Type 0) → Steps R → (what : Taken Tag) (r : RelayValue) → R r.lowers (took_above what r).lowers
unfolding took_above finished
above_by R s (taken.Hello incoming) r = greeted_by R s incoming r
above_by R s (taken.Command incoming) r = refused_by R s (reading incoming.raw) r
above_by R s (taken.Event incoming) r = event_by R s incoming.mark (reading incoming.raw) r
above_by R s (taken.Progress token incoming) r = progress_by R s (found_by (tag_of token r.upper.pending) r) incoming.mark (reading incoming.raw) r
above_by R s (taken.Final tag incoming) r = final_by R s (found tag r.board) incoming.mark (reading incoming.raw) (record r { board = dropped tag r.board })
above_by R s (taken.Closed cause) r = closed_by R s r

forwarded_by : (R : List Channel → List Channel → Type 0) → Steps R → (key j : ℕ) (token service name body : List ℕ) (mark : Option ℕ) (r : RelayValue)
    → R r.lowers (forwarded key j token service name body mark r).lowers
unfolding forwarded
forwarded_by R s key j token service name body mark r = by_flag (r.upper.last == 2 ^ 64 - 1)
  where
    q : RelayValue
    q = record r { board = kept key (waits_as j token r) r.board }

    by_why : (why : Option SendRefusal) → R r.lowers (unless_refused why (all_closed q) (forwarded_as key j token service name body mark r)).lowers
    by_why None = s.same r.lowers
    by_why (Some why) = closed_by R s q

    by_flag : (flag : Bool) → R r.lowers (cond flag (all_closed r) (unless_refused (refusal_to service name body r.upper) (all_closed q) (forwarded_as key j token service name body mark r))).lowers
    by_flag true = closed_by R s r
    by_flag false = by_why (refusal_to service name body r.upper)

asked_by : (R : List Channel → List Channel → Type 0) → Steps R → (key j : ℕ) (mark : Option ℕ) (m : Result MessageValue MessageFault) (r : RelayValue) → R r.lowers (asked key j mark m r).lowers
unfolding asked answered
asked_by R s key j mark (Ok (command token service name body)) r = by_flag (is_redirect service name)
  where
    by_flag : (flag : Bool) → R r.lowers (cond flag (answered j token service name body r) (forwarded key j token service name body mark r)).lowers
    by_flag true = s.one j (final token (redirect_reply service name body)) None r.lowers
    by_flag false = forwarded_by R s key j token service name body mark r
asked_by R s key j mark (Ok (event service name body)) r = s.same r.lowers
asked_by R s key j mark (Ok (final token body)) r = s.same r.lowers
asked_by R s key j mark (Ok (progress token body)) r = s.same r.lowers
asked_by R s key j mark (Ok (not_known token)) r = s.same r.lowers
asked_by R s key j mark (Ok (flow level)) r = s.same r.lowers
asked_by R s key j mark (Err fault) r = s.same r.lowers

pub below_by : (R : List Channel → List Channel → Type 0) → Steps R → (key j : ℕ) (what : Taken Unit) (r : RelayValue) → R r.lowers (took_below key j what r).lowers
unfolding took_below gone
below_by R s key j (taken.Hello incoming) r = s.same r.lowers
below_by R s key j (taken.Command incoming) r = asked_by R s key j incoming.mark (reading incoming.raw) r
below_by R s key j (taken.Event incoming) r = s.same r.lowers
below_by R s key j (taken.Progress token incoming) r = s.same r.lowers
below_by R s key j (taken.Final tag incoming) r = s.same r.lowers
below_by R s key j (taken.Closed cause) r = s.same r.lowers
