-- What a call of a hub makes of the end of a lower channel: what the calls make that are said of it.
use Rattle.std.proofs.Common.{◌≡◌, ℕ, ◌+◌, ◌==◌, Bool, true, false, cond, ◌&&◌, nat_le, nat_lt, List, [], ◌∷◌, ◌++◌, drop, length, Option, Some, None, option_map, refl, sym, ap, subst, ◌∙◌}
use Rattle.std.specs.Prelude.{Result, Ok, Err, slice_get}
use Rattle.channel_core.specs.Beginning.{tag_of}
use Rattle.channel_core.specs.Closing.{closed_own, is_closed}
use Rattle.channel_core.specs.EndValue.{EndValue, unless_spent}
use Rattle.channel_core.specs.Receiving.{delivered as end_delivered, ended as end_ended}
use Rattle.channel_core.specs.Runs.{Call as EndCall, an_answer, an_event, an_unknown, called, closing, delivering, ending, putting_out, sending, some_progress, taking, unless_refused}
use Rattle.channel_core.specs.Sending.{last_token, most_pending, queued, refusal_of, refusal_to}
use Rattle.channel_core.specs.Taking.{next_taken}
use Rattle.channel_core.specs.Wire.{is_redirect}
use Rattle.channel_core.specs.declared.sending.SendRefusal.{SendRefusal}
use Rattle.channel_core.specs.declared.sending.SendRefusal.TheVariants.{Full, NotOpen, TooLong, Spent}
use Rattle.channel_core.specs.declared.taking.Taken.{Taken}
use Rattle.channel_core.specs.declared.taking.Taken.TheVariants as taken
use Rattle.channel_list.specs.Channels.{End, changed, changed_at, channel_end, place_of, put_at, unless_closed}
use Rattle.channel_list.specs.declared.channel.Channel.{Channel}
use Rattle.channel_list.proofs.Differing.{Differ}
use Rattle.channel_list.proofs.Places.{channel_number, next_end}
use Rattle.tcf_message.specs.Message.{MessageValue, command, event, final, flow, most_body, not_known, progress, reading}
use Rattle.tcf_message.specs.declared.message.MessageFault.{MessageFault}
use Rattle.hub_node.specs.Board.{dropped, found, kept}
use Rattle.hub_node.specs.Calls.{comes, bytes_end, turns, gives}
use Rattle.hub_node.specs.Redirects.{redirect_reply}
use Rattle.hub_node.specs.Relay.{after_giving_at, all_closed, answered, asked, came_at, ended_at, event_told, final_told, finished, forwarded, forwarded_as, found_by, gone, greeted, next_at, next_below, next_on, progress_told, refused_above, takes_below, took_above, took_any_above, took_any_below, took_below, turned_above, turned_at, waits_as}
use Rattle.hub_node.specs.RelayValue.{RelayValue}
use Rattle.hub_node.specs.Runs.{answering, asked_calls, calls_of, delivering_to, going_on, hearing, only_if, took_for, took_of}
use Rattle.hub_node.specs.WaitingValue.{WaitingValue}
use Rattle.hub_node.specs.declared.side.HubSide.TheVariants.{Above, Below}
use Rattle.hub_node.specs.declared.waiting.Tag.{Tag}
use Rattle.hub_node.proofs.EndRuns.{ends, ends_append}
use Rattle.hub_node.proofs.Lowers.{differ_changed, end_changed, end_mapped}

-- memory isn't wanting at an end, whatever is called of it
abbrev pub IsFresh : Option End → Type 0
IsFresh None = Unit {0}
IsFresh (Some e) = (calls : List (EndCall Unit)) → (ends calls e).is_spent ≡ false

pub fresh_after : (calls : End → List (EndCall Unit)) (o : Option End) → IsFresh o → IsFresh (option_map (λ e. ends (calls e) e) o)
fresh_after calls None u = tt
fresh_after calls (Some e) u = λ more. ap (λ (x : End). x.is_spent) (sym (ends_append (calls e) more e)) ∙ u (calls e ++ more)

unspent_is : (e : End) (f : End → End) → e.is_spent ≡ false → unless_spent e e (f e) ≡ f e
unspent_is e f u = ap (λ b. cond b e (f e)) u

-- ---- one call of each end, of one of them, or of none

-- it does the same as the call
abbrev Does : (End → End) → EndCall Unit → Type 0
Does f call = (e : End) → e.is_spent ≡ false → f e ≡ called call e

none_called : (o : Option End) → o ≡ option_map (λ e. ends [] e) o
none_called None = refl
none_called (Some e) = refl

all_called : (f : End → End) (call : EndCall Unit) (o : Option End) → Does f call → IsFresh o → option_map f o ≡ option_map (λ e. ends (call ∷ []) e) o
all_called f call None does u = refl
all_called f call (Some e) does u = ap Some (does e (u []))

one_called : (flag : Bool) (f : End → End) (call : EndCall Unit) (o : Option End) → Does f call → IsFresh o → cond flag (option_map f o) o ≡ option_map (λ e. ends (only_if flag (call ∷ [])) e) o
one_called true f call o does u = all_called f call o does u
one_called false f call o does u = none_called o

-- ---- bytes come, or have ended, or go out

come_one : (flag : Bool) (piece : List ℕ) (mark : Option ℕ) (o : Option End)
    → cond flag (option_map (unless_closed (end_delivered piece mark)) o) o ≡ option_map (λ e. ends (only_if flag (delivering_to e piece mark)) e) o
come_one true piece mark None = refl
come_one true piece mark (Some e) = by_flag (is_closed e.state)
  where
    by_flag : (over : Bool) → Some (cond over e (end_delivered piece mark e)) ≡ Some (ends (cond over [] (delivering piece mark ∷ [])) e)
    by_flag true = refl
    by_flag false = refl
come_one false piece mark o = none_called o

-- ---- what was taken above

heard_lowers : (j : ℕ) (mark : Option ℕ) (m : Result MessageValue MessageFault) (r : RelayValue) → IsFresh (channel_end j r.lowers)
    → channel_end j (event_told mark m r).lowers ≡ option_map (λ e. ends (hearing mark m) e) (channel_end j r.lowers)
unfolding event_told
heard_lowers j mark (Ok (event service name body)) r u =
    end_mapped j (queued (event service name body) mark) r.lowers ∙ all_called (queued (event service name body) mark) (sending (an_event service name body) mark) (channel_end j r.lowers) (λ e f. refl) u
heard_lowers j mark (Ok (command token service name body)) r u = none_called (channel_end j r.lowers)
heard_lowers j mark (Ok (final token body)) r u = none_called (channel_end j r.lowers)
heard_lowers j mark (Ok (progress token body)) r u = none_called (channel_end j r.lowers)
heard_lowers j mark (Ok (not_known token)) r u = none_called (channel_end j r.lowers)
heard_lowers j mark (Ok (flow level)) r u = none_called (channel_end j r.lowers)
heard_lowers j mark (Err fault) r u = none_called (channel_end j r.lowers)

progress_lowers : (j : ℕ) (w : Option WaitingValue) (mark : Option ℕ) (m : Result MessageValue MessageFault) (r : RelayValue) → Differ channel_number r.lowers → IsFresh (channel_end j r.lowers)
    → channel_end j (progress_told w mark m r).lowers ≡ option_map (λ e. ends (going_on j w mark m) e) (channel_end j r.lowers)
unfolding progress_told
progress_lowers j (Some w) mark (Ok (progress token body)) r d u =
    end_changed w.channel j (queued (progress w.token body) mark) r.lowers d
    ∙ one_called (w.channel == j) (queued (progress w.token body) mark) (sending (some_progress w.token body) mark) (channel_end j r.lowers) (λ e f. refl) u
progress_lowers j (Some w) mark (Ok (command token service name body)) r d u = none_called (channel_end j r.lowers)
progress_lowers j (Some w) mark (Ok (final token body)) r d u = none_called (channel_end j r.lowers)
progress_lowers j (Some w) mark (Ok (event service name body)) r d u = none_called (channel_end j r.lowers)
progress_lowers j (Some w) mark (Ok (not_known token)) r d u = none_called (channel_end j r.lowers)
progress_lowers j (Some w) mark (Ok (flow level)) r d u = none_called (channel_end j r.lowers)
progress_lowers j (Some w) mark (Err fault) r d u = none_called (channel_end j r.lowers)
progress_lowers j None mark m r d u = none_called (channel_end j r.lowers)

final_lowers : (j : ℕ) (w : Option WaitingValue) (mark : Option ℕ) (m : Result MessageValue MessageFault) (r : RelayValue) → Differ channel_number r.lowers → IsFresh (channel_end j r.lowers)
    → channel_end j (final_told w mark m r).lowers ≡ option_map (λ e. ends (answering j w mark m) e) (channel_end j r.lowers)
unfolding final_told
final_lowers j (Some w) mark (Ok (final token body)) r d u =
    end_changed w.channel j (queued (final w.token body) mark) r.lowers d
    ∙ one_called (w.channel == j) (queued (final w.token body) mark) (sending (an_answer w.token body) mark) (channel_end j r.lowers) (λ e f. refl) u
final_lowers j (Some w) mark (Ok (not_known token)) r d u =
    end_changed w.channel j (queued (not_known w.token) mark) r.lowers d
    ∙ one_called (w.channel == j) (queued (not_known w.token) mark) (sending (an_unknown w.token) mark) (channel_end j r.lowers) (λ e f. refl) u
final_lowers j (Some w) mark (Ok (command token service name body)) r d u = none_called (channel_end j r.lowers)
final_lowers j (Some w) mark (Ok (progress token body)) r d u = none_called (channel_end j r.lowers)
final_lowers j (Some w) mark (Ok (event service name body)) r d u = none_called (channel_end j r.lowers)
final_lowers j (Some w) mark (Ok (flow level)) r d u = none_called (channel_end j r.lowers)
final_lowers j (Some w) mark (Err fault) r d u = none_called (channel_end j r.lowers)
final_lowers j None mark m r d u = none_called (channel_end j r.lowers)

pub refused_lowers : (m : Result MessageValue MessageFault) (r : RelayValue) → (refused_above m r).lowers ≡ r.lowers
unfolding refused_above
refused_lowers (Ok (command token service name body)) r = refl
refused_lowers (Ok (final token body)) r = refl
refused_lowers (Ok (progress token body)) r = refl
refused_lowers (Ok (event service name body)) r = refl
refused_lowers (Ok (not_known token)) r = refl
refused_lowers (Ok (flow level)) r = refl
refused_lowers (Err fault) r = refl

closed_lowers : (j : ℕ) (r : RelayValue) → IsFresh (channel_end j r.lowers) → channel_end j (all_closed r).lowers ≡ option_map (λ e. ends (closing ∷ []) e) (channel_end j r.lowers)
unfolding all_closed
closed_lowers j r u =
    end_mapped j (λ e. unless_spent e e (closed_own e)) r.lowers
    ∙ all_called (λ e. unless_spent e e (closed_own e)) closing (channel_end j r.lowers) (λ e f. unspent_is e closed_own f) u

above_lowers : (j : ℕ) (what : Option (Taken Tag)) (r : RelayValue) → Differ channel_number r.lowers → IsFresh (channel_end j r.lowers)
    → channel_end j (took_any_above what r).1.lowers ≡ option_map (λ e. ends (took_for j what r) e) (channel_end j r.lowers)
unfolding took_above greeted finished
above_lowers j None r d u = none_called (channel_end j r.lowers)
above_lowers j (Some (taken.Hello incoming)) r d u = by_flag r.is_bound
  where
    by_flag : (bound : Bool) → channel_end j (cond bound (event_told incoming.mark (reading incoming.raw) r) (record r { is_bound = true })).lowers
        ≡ option_map (λ e. ends (cond bound (hearing incoming.mark (reading incoming.raw)) []) e) (channel_end j r.lowers)
    by_flag true = heard_lowers j incoming.mark (reading incoming.raw) r u
    by_flag false = none_called (channel_end j r.lowers)
above_lowers j (Some (taken.Command incoming)) r d u = ap (channel_end j) (refused_lowers (reading incoming.raw) r) ∙ none_called (channel_end j r.lowers)
above_lowers j (Some (taken.Event incoming)) r d u = heard_lowers j incoming.mark (reading incoming.raw) r u
above_lowers j (Some (taken.Progress token incoming)) r d u = progress_lowers j (found_by (tag_of token r.upper.pending) r) incoming.mark (reading incoming.raw) r d u
above_lowers j (Some (taken.Final tag incoming)) r d u = final_lowers j (found tag r.board) incoming.mark (reading incoming.raw) (record r { board = dropped tag r.board }) d u
above_lowers j (Some (taken.Closed cause)) r d u = closed_lowers j r u

-- ---- what was taken below

next_on_is : (place : ℕ) (lower : Option Channel) (r : RelayValue) → (next_on place lower r).1 ≡ record r { lowers = put_at place next_end r.lowers lower }
next_on_is place None r = refl
next_on_is place (Some lower) r = refl

next_at_is : (place : Option ℕ) (r : RelayValue) → (next_at place r).1 ≡ record r { lowers = changed_at place next_end r.lowers }
next_at_is None r = refl
next_at_is (Some place) r = next_on_is place (slice_get r.lowers place) r

-- the channels behind it
abbrev pub lowers_next : ℕ → RelayValue → List Channel
lowers_next i r = cond (takes_below r) (changed i next_end r.lowers) r.lowers

pub next_is : (i : ℕ) (r : RelayValue) → (next_below i r).1 ≡ record r { lowers = lowers_next i r }
unfolding next_below
next_is i r = by_flag (takes_below r)
  where
    by_flag : (flag : Bool) → (cond flag (next_at (place_of i r.lowers) r) (None, r)).1 ≡ record r { lowers = cond flag (changed i next_end r.lowers) r.lowers }
    by_flag true = next_at_is (place_of i r.lowers) r
    by_flag false = refl

next_lowers : (i j : ℕ) (r : RelayValue) → Differ channel_number r.lowers → IsFresh (channel_end j r.lowers)
    → channel_end j (lowers_next i r) ≡ option_map (λ e. ends (only_if (i == j && takes_below r) (taking ∷ [])) e) (channel_end j r.lowers)
next_lowers i j r d u = by_flag (takes_below r)
  where
    both : (own : Bool) → cond own (option_map next_end (channel_end j r.lowers)) (channel_end j r.lowers) ≡ option_map (λ e. ends (only_if (own && true) (taking ∷ [])) e) (channel_end j r.lowers)
    both true = one_called true next_end taking (channel_end j r.lowers) (λ e f. refl) u
    both false = none_called (channel_end j r.lowers)

    neither : (own : Bool) → channel_end j r.lowers ≡ option_map (λ e. ends (only_if (own && false) (taking ∷ [])) e) (channel_end j r.lowers)
    neither true = none_called (channel_end j r.lowers)
    neither false = none_called (channel_end j r.lowers)

    by_flag : (flag : Bool) → channel_end j (cond flag (changed i next_end r.lowers) r.lowers) ≡ option_map (λ e. ends (only_if (i == j && flag) (taking ∷ [])) e) (channel_end j r.lowers)
    by_flag true = end_changed i j next_end r.lowers d ∙ both (i == j)
    by_flag false = neither (i == j)

pub differ_next : (i : ℕ) (r : RelayValue) → Differ channel_number r.lowers → Differ channel_number (lowers_next i r)
differ_next i r d = by_flag (takes_below r)
  where
    by_flag : (flag : Bool) → Differ channel_number (cond flag (changed i next_end r.lowers) r.lowers)
    by_flag true = differ_changed i next_end r.lowers d
    by_flag false = d

-- a command is forwarded, or refused above and all is closed
pub last_refused : {A T : Type 0} → (size : ℕ) (e : EndValue T) (x y : A) → (e.last == last_token) ≡ true → unless_refused (refusal_of size e) x y ≡ x
last_refused size e x y is = by_flags (is_closed e.state) (nat_lt most_body size) (nat_le most_pending (length e.pending))
  where
    by_flags : (over long full : Bool)
        → unless_refused (cond over (Some NotOpen) (cond long (Some TooLong) (cond full (Some Full) (cond (e.last == last_token) (Some Spent) None)))) x y ≡ x
    by_flags true long full = refl
    by_flags false true full = refl
    by_flags false false true = refl
    by_flags false false false = ap (λ b. unless_refused (cond b (Some Spent) None) x y) is

forwarded_lowers : (key i j : ℕ) (token service name body : List ℕ) (mark : Option ℕ) (r : RelayValue) → IsFresh (channel_end j r.lowers)
    → channel_end j (forwarded key i token service name body mark r).lowers ≡ option_map (λ e. ends (unless_refused (refusal_to service name body r.upper) (closing ∷ []) []) e) (channel_end j r.lowers)
unfolding forwarded
forwarded_lowers key i j token service name body mark r u = by_flag (r.upper.last == last_token) refl
  where
    why : Option SendRefusal
    why = refusal_to service name body r.upper

    kept_so : RelayValue
    kept_so = record r { board = kept key (waits_as i token r) r.board }

    by_why : (o : Option SendRefusal) → channel_end j (unless_refused o (all_closed kept_so) (forwarded_as key i token service name body mark r)).lowers
        ≡ option_map (λ e. ends (unless_refused o (closing ∷ []) []) e) (channel_end j r.lowers)
    by_why None = none_called (channel_end j r.lowers)
    by_why (Some w) = closed_lowers j kept_so u

    by_flag : (flag : Bool) → (r.upper.last == last_token) ≡ flag
        → channel_end j (cond flag (all_closed r) (unless_refused why (all_closed kept_so) (forwarded_as key i token service name body mark r))).lowers
        ≡ option_map (λ e. ends (unless_refused why (closing ∷ []) []) e) (channel_end j r.lowers)
    by_flag true is =
        let calls : List (EndCall Unit) = closing ∷ [] in
        closed_lowers j r u
        ∙ ap (λ cs. option_map (λ e. ends cs e) (channel_end j r.lowers)) (sym (last_refused (length service + length name + length body) r.upper calls [] is))
    by_flag false is = by_why why

asked_lowers : (key i j : ℕ) (mark : Option ℕ) (m : Result MessageValue MessageFault) (r : RelayValue) → Differ channel_number r.lowers → IsFresh (channel_end j r.lowers)
    → channel_end j (asked key i mark m r).lowers ≡ option_map (λ e. ends (asked_calls (i == j) m r.upper) e) (channel_end j r.lowers)
unfolding asked answered
asked_lowers key i j mark (Ok (command token service name body)) r d u = by_flag (is_redirect service name)
  where
    reply : MessageValue
    reply = final token (redirect_reply service name body)

    by_flag : (own : Bool) → channel_end j (cond own (answered i token service name body r) (forwarded key i token service name body mark r)).lowers
        ≡ option_map (λ e. ends (cond own (only_if (i == j) (sending (an_answer token (redirect_reply service name body)) None ∷ [])) (unless_refused (refusal_to service name body r.upper) (closing ∷ []) [])) e) (channel_end j r.lowers)
    by_flag true =
        end_changed i j (queued reply None) r.lowers d ∙ one_called (i == j) (queued reply None) (sending (an_answer token (redirect_reply service name body)) None) (channel_end j r.lowers) (λ e f. refl) u
    by_flag false = forwarded_lowers key i j token service name body mark r u
asked_lowers key i j mark (Ok (final token body)) r d u = none_called (channel_end j r.lowers)
asked_lowers key i j mark (Ok (progress token body)) r d u = none_called (channel_end j r.lowers)
asked_lowers key i j mark (Ok (event service name body)) r d u = none_called (channel_end j r.lowers)
asked_lowers key i j mark (Ok (not_known token)) r d u = none_called (channel_end j r.lowers)
asked_lowers key i j mark (Ok (flow level)) r d u = none_called (channel_end j r.lowers)
asked_lowers key i j mark (Err fault) r d u = none_called (channel_end j r.lowers)

below_lowers : (key i j : ℕ) (what : Option (Taken Unit)) (r : RelayValue) → Differ channel_number r.lowers → IsFresh (channel_end j r.lowers)
    → channel_end j (took_any_below key i what r).1.lowers ≡ option_map (λ e. ends (took_of (i == j) what r.upper) e) (channel_end j r.lowers)
unfolding took_below gone
below_lowers key i j None r d u = none_called (channel_end j r.lowers)
below_lowers key i j (Some (taken.Hello incoming)) r d u = none_called (channel_end j r.lowers)
below_lowers key i j (Some (taken.Command incoming)) r d u = asked_lowers key i j incoming.mark (reading incoming.raw) r d u
below_lowers key i j (Some (taken.Event incoming)) r d u = none_called (channel_end j r.lowers)
below_lowers key i j (Some (taken.Progress token incoming)) r d u = none_called (channel_end j r.lowers)
below_lowers key i j (Some (taken.Final tag incoming)) r d u = none_called (channel_end j r.lowers)
below_lowers key i j (Some (taken.Closed cause)) r d u = none_called (channel_end j r.lowers)

-- ---- calls that open no channel

pub came_lowers : (j i : ℕ) (piece : List ℕ) (mark : Option ℕ) (r : RelayValue) → Differ channel_number r.lowers
    → channel_end j (came_at (Below i) piece mark r).lowers ≡ option_map (λ e. ends (calls_of e j (comes (Below i) piece mark) r) e) (channel_end j r.lowers)
unfolding came_at
came_lowers j i piece mark r d = end_changed i j (unless_closed (end_delivered piece mark)) r.lowers d ∙ come_one (i == j) piece mark (channel_end j r.lowers)

pub ended_lowers : (j i : ℕ) (r : RelayValue) → Differ channel_number r.lowers → IsFresh (channel_end j r.lowers)
    → channel_end j (ended_at (Below i) r).lowers ≡ option_map (λ e. ends (calls_of e j (bytes_end (Below i)) r) e) (channel_end j r.lowers)
unfolding ended_at
ended_lowers j i r d u =
    end_changed i j (λ e. unless_spent e e (end_ended e)) r.lowers d
    ∙ one_called (i == j) (λ e. unless_spent e e (end_ended e)) ending (channel_end j r.lowers) (λ e f. unspent_is e end_ended f) u

pub gave_lowers : (j i : ℕ) (r : RelayValue) → Differ channel_number r.lowers → IsFresh (channel_end j r.lowers)
    → channel_end j (after_giving_at (Below i) r).lowers ≡ option_map (λ e. ends (calls_of e j (gives (Below i)) r) e) (channel_end j r.lowers)
unfolding after_giving_at
gave_lowers j i r d u =
    end_changed i j (λ e. unless_spent e e (record e { queued = drop 1 e.queued })) r.lowers d
    ∙ one_called (i == j) (λ e. unless_spent e e (record e { queued = drop 1 e.queued })) putting_out (channel_end j r.lowers)
    (λ e f. unspent_is e (λ x. record x { queued = drop 1 x.queued }) f) u

pub turned_above_lowers : (j key : ℕ) (r : RelayValue) → Differ channel_number r.lowers → IsFresh (channel_end j r.lowers)
    → channel_end j (turned_at key Above r).1.lowers ≡ option_map (λ e. ends (calls_of e j (turns key Above) r) e) (channel_end j r.lowers)
unfolding turned_above
turned_above_lowers j key r d u = let next = next_taken r.upper in above_lowers j next.0 (record r { upper = next.1 }) d u

joined : (first second : List (EndCall Unit)) (o : Option End) → option_map (λ e. ends second e) (option_map (λ e. ends first e) o) ≡ option_map (λ e. ends (first ++ second) e) o
joined first second None = refl
joined first second (Some e) = ap Some (sym (ends_append first second e))

pub turned_below_lowers : (j key i : ℕ) (r : RelayValue) → Differ channel_number r.lowers → IsFresh (channel_end j r.lowers)
    → channel_end j (turned_at key (Below i) r).1.lowers ≡ option_map (λ e. ends (calls_of e j (turns key (Below i)) r) e) (channel_end j r.lowers)
turned_below_lowers j key i r d u =
    ap (λ (x : RelayValue). channel_end j (took_any_below key i what x).1.lowers) (next_is i r)
    ∙ below_lowers key i j what (record r { lowers = lowers_next i r }) (differ_next i r d) (subst IsFresh (sym so) (fresh_after (λ e. first) (channel_end j r.lowers) u))
    ∙ ap (option_map (λ e. ends second e)) so ∙ joined first second (channel_end j r.lowers)
  where
    what : Option (Taken Unit)
    what = (next_below i r).0

    first : List (EndCall Unit)
    first = only_if (i == j && takes_below r) (taking ∷ [])

    second : List (EndCall Unit)
    second = took_of (i == j) what r.upper

    so : channel_end j (lowers_next i r) ≡ option_map (λ e. ends first e) (channel_end j r.lowers)
    so = next_lowers i j r d u
