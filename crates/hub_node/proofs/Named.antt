-- The numbers of the lower channels stay as they are, whatever is called but an opening.
use Rattle.std.proofs.Common.{◌≡◌, ℕ, ◌==◌, Bool, true, false, cond, ◌||◌, List, [], ◌∷◌, map, drop, Option, Some, None, refl, sym, ap, subst, ◌∙◌}
use Rattle.std.specs.Prelude.{Result, Ok, Err}
use Rattle.std.specs.List.{list_any}
use Rattle.channel_core.specs.Runs.{unless_refused}
use Rattle.channel_core.specs.Beginning.{tag_of}
use Rattle.channel_core.specs.Closing.{closed_own}
use Rattle.channel_core.specs.EndValue.{unless_spent}
use Rattle.channel_core.specs.Receiving.{delivered as end_delivered, ended as end_ended}
use Rattle.channel_core.specs.Sending.{last_token, queued, refusal_to}
use Rattle.channel_core.specs.Taking.{next_taken}
use Rattle.channel_core.specs.Wire.{is_redirect}
use Rattle.channel_core.specs.declared.sending.SendRefusal.{SendRefusal}
use Rattle.channel_core.specs.declared.taking.Taken.{Taken}
use Rattle.channel_core.specs.declared.taking.Taken.TheVariants as taken
use Rattle.channel_list.specs.Channels.{End, changed, unless_closed}
use Rattle.channel_list.specs.NumbersValue.{NumbersValue}
use Rattle.channel_list.specs.declared.channel.Channel.{Channel}
use Rattle.channel_list.proofs.Differing.{Differ, has}
use Rattle.channel_list.proofs.Places.{at, changed_map, channel_number, next_end}
use Rattle.tcf_message.specs.Message.{MessageValue, command, event, final, flow, not_known, progress, reading}
use Rattle.tcf_message.specs.declared.message.MessageFault.{MessageFault}
use Rattle.hub_node.specs.Board.{dropped, found, kept}
use Rattle.hub_node.specs.Redirects.{redirect_reply}
use Rattle.hub_node.specs.Relay.{after_giving_at, all_closed, answered, asked, came_at, ended_at, event_told, final_told, finished, forwarded, forwarded_as, found_by, gone, greeted, next_below, progress_told, refused_above, takes_below, took_above, took_any_above, took_any_below, took_below, turned_above, turned_at, waits_as}
use Rattle.hub_node.specs.RelayValue.{RelayValue}
use Rattle.hub_node.specs.WaitingValue.{WaitingValue}
use Rattle.hub_node.specs.declared.side.HubSide.TheVariants.{Above, Below}
use Rattle.hub_node.specs.declared.waiting.Tag.{Tag}
use Rattle.hub_node.proofs.Lowers.{at_number, by}
use Rattle.hub_node.proofs.Stepping.{lowers_next, next_is}

abbrev pub numbers_of : List Channel → List ℕ
numbers_of cs = map channel_number cs

-- ---- what the numbers say

abbrev pub has_in : ℕ → List ℕ → Bool
has_in k ns = list_any (λ n. n == k) ns

has_numbers : (k : ℕ) (cs : List Channel) → has channel_number k cs ≡ has_in k (numbers_of cs)
has_numbers k [] = refl
has_numbers k (c ∷ cs) = ap (λ b. (c.number == k) || b) (has_numbers k cs)

abbrev pub Apart : List ℕ → Type 0
Apart [] = Unit {0}
Apart (n ∷ ns) = (has_in n ns ≡ false) × Apart ns

apart_of : (cs : List Channel) → Differ channel_number cs → Apart (numbers_of cs)
apart_of [] d = tt
apart_of (c ∷ cs) d = (sym (has_numbers c.number cs) ∙ d.0, apart_of cs d.1)

differ_of : (cs : List Channel) → Apart (numbers_of cs) → Differ channel_number cs
differ_of [] a = tt
differ_of (c ∷ cs) a = (has_numbers c.number cs ∙ a.0, differ_of cs a.1)

pub same_differ : (cs later : List Channel) → numbers_of later ≡ numbers_of cs → Differ channel_number cs → Differ channel_number later
same_differ cs later same d = differ_of later (subst Apart (sym same) (apart_of cs d))

pub same_has : (k : ℕ) (cs later : List Channel) → numbers_of later ≡ numbers_of cs → has channel_number k later ≡ has channel_number k cs
same_has k cs later same = has_numbers k later ∙ ap (has_in k) same ∙ sym (has_numbers k cs)

-- they, and those that were given
abbrev pub names : RelayValue → List ℕ × NumbersValue
names r = (numbers_of r.lowers, r.numbers)

lifted : (r : RelayValue) {ns : List ℕ} → ns ≡ numbers_of r.lowers → (ns, r.numbers) ≡ names r
lifted r same = ap (λ ns. (ns, r.numbers)) same

-- ---- one is changed, or all are

pub named_by : (f : End → End) (cs : List Channel) → numbers_of (map (by f) cs) ≡ numbers_of cs
named_by f [] = refl
named_by f (c ∷ cs) = ap (λ ns. c.number ∷ ns) (named_by f cs)

named_at : (i : ℕ) (f : End → End) (cs : List Channel) → numbers_of (map (at i f) cs) ≡ numbers_of cs
named_at i f [] = refl
named_at i f (c ∷ cs) = ap (λ n. n ∷ numbers_of (map (at i f) cs)) (at_number i f c) ∙ ap (λ ns. c.number ∷ ns) (named_at i f cs)

pub named_changed : (i : ℕ) (f : End → End) (cs : List Channel) → Differ channel_number cs → numbers_of (changed i f cs) ≡ numbers_of cs
named_changed i f cs d = ap numbers_of (changed_map i f cs d) ∙ named_at i f cs

-- ---- what was taken above

heard_named : (mark : Option ℕ) (m : Result MessageValue MessageFault) (r : RelayValue) → names (event_told mark m r) ≡ names r
unfolding event_told
heard_named mark (Ok (event service name body)) r = lifted r (named_by (queued (event service name body) mark) r.lowers)
heard_named mark (Ok (command token service name body)) r = refl
heard_named mark (Ok (final token body)) r = refl
heard_named mark (Ok (progress token body)) r = refl
heard_named mark (Ok (not_known token)) r = refl
heard_named mark (Ok (flow level)) r = refl
heard_named mark (Err fault) r = refl

progress_named : (w : Option WaitingValue) (mark : Option ℕ) (m : Result MessageValue MessageFault) (r : RelayValue) → Differ channel_number r.lowers → names (progress_told w mark m r) ≡ names r
unfolding progress_told
progress_named (Some w) mark (Ok (progress token body)) r d = lifted r (named_changed w.channel (queued (progress w.token body) mark) r.lowers d)
progress_named (Some w) mark (Ok (command token service name body)) r d = refl
progress_named (Some w) mark (Ok (final token body)) r d = refl
progress_named (Some w) mark (Ok (event service name body)) r d = refl
progress_named (Some w) mark (Ok (not_known token)) r d = refl
progress_named (Some w) mark (Ok (flow level)) r d = refl
progress_named (Some w) mark (Err fault) r d = refl
progress_named None mark m r d = refl

final_named : (w : Option WaitingValue) (mark : Option ℕ) (m : Result MessageValue MessageFault) (r : RelayValue) → Differ channel_number r.lowers → names (final_told w mark m r) ≡ names r
unfolding final_told
final_named (Some w) mark (Ok (final token body)) r d = lifted r (named_changed w.channel (queued (final w.token body) mark) r.lowers d)
final_named (Some w) mark (Ok (not_known token)) r d = lifted r (named_changed w.channel (queued (not_known w.token) mark) r.lowers d)
final_named (Some w) mark (Ok (command token service name body)) r d = refl
final_named (Some w) mark (Ok (progress token body)) r d = refl
final_named (Some w) mark (Ok (event service name body)) r d = refl
final_named (Some w) mark (Ok (flow level)) r d = refl
final_named (Some w) mark (Err fault) r d = refl
final_named None mark m r d = refl

refused_named : (m : Result MessageValue MessageFault) (r : RelayValue) → names (refused_above m r) ≡ names r
unfolding refused_above
refused_named (Ok (command token service name body)) r = refl
refused_named (Ok (final token body)) r = refl
refused_named (Ok (progress token body)) r = refl
refused_named (Ok (event service name body)) r = refl
refused_named (Ok (not_known token)) r = refl
refused_named (Ok (flow level)) r = refl
refused_named (Err fault) r = refl

closed_named : (r : RelayValue) → names (all_closed r) ≡ names r
unfolding all_closed
closed_named r = lifted r (named_by (λ e. unless_spent e e (closed_own e)) r.lowers)

above_named : (what : Option (Taken Tag)) (r : RelayValue) → Differ channel_number r.lowers → names (took_any_above what r).1 ≡ names r
unfolding took_above greeted finished
above_named None r d = refl
above_named (Some (taken.Hello incoming)) r d = by_flag r.is_bound
  where
    by_flag : (bound : Bool) → names (cond bound (event_told incoming.mark (reading incoming.raw) r) (record r { is_bound = true })) ≡ names r
    by_flag true = heard_named incoming.mark (reading incoming.raw) r
    by_flag false = refl
above_named (Some (taken.Command incoming)) r d = refused_named (reading incoming.raw) r
above_named (Some (taken.Event incoming)) r d = heard_named incoming.mark (reading incoming.raw) r
above_named (Some (taken.Progress token incoming)) r d = progress_named (found_by (tag_of token r.upper.pending) r) incoming.mark (reading incoming.raw) r d
above_named (Some (taken.Final tag incoming)) r d = final_named (found tag r.board) incoming.mark (reading incoming.raw) (record r { board = dropped tag r.board }) d
above_named (Some (taken.Closed cause)) r d = closed_named r

-- ---- what was taken below

next_named : (i : ℕ) (r : RelayValue) → Differ channel_number r.lowers → numbers_of (lowers_next i r) ≡ numbers_of r.lowers
next_named i r d = by_flag (takes_below r)
  where
    by_flag : (flag : Bool) → numbers_of (cond flag (changed i next_end r.lowers) r.lowers) ≡ numbers_of r.lowers
    by_flag true = named_changed i next_end r.lowers d
    by_flag false = refl

forwarded_named : (key i : ℕ) (token service name body : List ℕ) (mark : Option ℕ) (r : RelayValue) → names (forwarded key i token service name body mark r) ≡ names r
unfolding forwarded
forwarded_named key i token service name body mark r = by_flag (r.upper.last == last_token)
  where
    why : Option SendRefusal
    why = refusal_to service name body r.upper

    kept_so : RelayValue
    kept_so = record r { board = kept key (waits_as i token r) r.board }

    by_why : (o : Option SendRefusal) → names (unless_refused o (all_closed kept_so) (forwarded_as key i token service name body mark r)) ≡ names r
    by_why None = refl
    by_why (Some w) = closed_named kept_so

    by_flag : (flag : Bool)
        → names (cond flag (all_closed r) (unless_refused why (all_closed kept_so) (forwarded_as key i token service name body mark r))) ≡ names r
    by_flag true = closed_named r
    by_flag false = by_why why

asked_named : (key i : ℕ) (mark : Option ℕ) (m : Result MessageValue MessageFault) (r : RelayValue) → Differ channel_number r.lowers → names (asked key i mark m r) ≡ names r
unfolding asked answered
asked_named key i mark (Ok (command token service name body)) r d = by_flag (is_redirect service name)
  where
    by_flag : (own : Bool) → names (cond own (answered i token service name body r) (forwarded key i token service name body mark r)) ≡ names r
    by_flag true = lifted r (named_changed i (queued (final token (redirect_reply service name body)) None) r.lowers d)
    by_flag false = forwarded_named key i token service name body mark r
asked_named key i mark (Ok (final token body)) r d = refl
asked_named key i mark (Ok (progress token body)) r d = refl
asked_named key i mark (Ok (event service name body)) r d = refl
asked_named key i mark (Ok (not_known token)) r d = refl
asked_named key i mark (Ok (flow level)) r d = refl
asked_named key i mark (Err fault) r d = refl

below_named : (key i : ℕ) (what : Option (Taken Unit)) (r : RelayValue) → Differ channel_number r.lowers → names (took_any_below key i what r).1 ≡ names r
unfolding took_below gone
below_named key i None r d = refl
below_named key i (Some (taken.Hello incoming)) r d = refl
below_named key i (Some (taken.Command incoming)) r d = asked_named key i incoming.mark (reading incoming.raw) r d
below_named key i (Some (taken.Event incoming)) r d = refl
below_named key i (Some (taken.Progress token incoming)) r d = refl
below_named key i (Some (taken.Final tag incoming)) r d = refl
below_named key i (Some (taken.Closed cause)) r d = refl

-- ---- each call

pub came_named : (i : ℕ) (piece : List ℕ) (mark : Option ℕ) (r : RelayValue) → Differ channel_number r.lowers → names (came_at (Below i) piece mark r) ≡ names r
unfolding came_at
came_named i piece mark r d = lifted r (named_changed i (unless_closed (end_delivered piece mark)) r.lowers d)

pub ended_named : (i : ℕ) (r : RelayValue) → Differ channel_number r.lowers → names (ended_at (Below i) r) ≡ names r
unfolding ended_at
ended_named i r d = lifted r (named_changed i (λ e. unless_spent e e (end_ended e)) r.lowers d)

pub gave_named : (i : ℕ) (r : RelayValue) → Differ channel_number r.lowers → names (after_giving_at (Below i) r) ≡ names r
unfolding after_giving_at
gave_named i r d = lifted r (named_changed i (λ e. unless_spent e e (record e { queued = drop 1 e.queued })) r.lowers d)

pub turned_above_named : (key : ℕ) (r : RelayValue) → Differ channel_number r.lowers → names (turned_at key Above r).1 ≡ names r
unfolding turned_above
turned_above_named key r d = let next = next_taken r.upper in above_named next.0 (record r { upper = next.1 }) d

pub turned_below_named : (key i : ℕ) (r : RelayValue) → Differ channel_number r.lowers → names (turned_at key (Below i) r).1 ≡ names r
turned_below_named key i r d =
    let first = next_named i r d in
    ap (λ (x : RelayValue). names (took_any_below key i (next_below i r).0 x).1) (next_is i r)
    ∙ below_named key i (next_below i r).0 (record r { lowers = lowers_next i r }) (same_differ r.lowers (lowers_next i r) first d) ∙ lifted r first
