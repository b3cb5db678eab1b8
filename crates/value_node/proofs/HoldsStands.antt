-- Where a value-add stands after each call its ends do: the lower one is open until it is Closed, and the upper one is while
-- it is Bound.
use Rattle.std.proofs.Common.{◌≡◌, ℕ, ◌+◌, Bool, true, false, ◌||◌, cond, List, length, Option, Some, None, Result, Ok, refl, ap, sym, ◌∙◌, subst}
use Rattle.std.specs.Prelude.{IfSome, IsSome, if◌then◌else◌, option_map}
use Rattle.std.proofs.lemmas.Bool.{and_parts}
use Rattle.channel_core.specs.Closing.{closed_for, closed_own, is_closed}
use Rattle.channel_core.specs.EndValue.{EndValue}
use Rattle.channel_core.specs.QueueLaws.{may_close}
use Rattle.channel_core.specs.Runs.{Call as EndCall, called as end_called, commanding, delivering, ending, putting_out, unless_refused}
use Rattle.channel_core.specs.Sending.{commanded, queued, refusal_of, refusal_to}
use Rattle.channel_core.specs.Taking.{closes, next_taken}
use Rattle.channel_core.specs.declared.sending.SendRefusal.{SendRefusal}
use Rattle.channel_core.specs.declared.states.Cause.TheVariants as causes
use Rattle.channel_core.specs.declared.taking.Taken.{Taken}
use Rattle.channel_core.specs.declared.taking.Taken.TheVariants as taken
use Rattle.tcf_message.specs.Message.{MessageValue, command, event, final, not_known, progress, reading}
use Rattle.tcf_message.specs.declared.message.MessageFault.{MessageFault}
use Rattle.value_node.specs.ForwardedValue.{ForwardedValue, tagged}
use Rattle.value_node.specs.Own.{own_reply, redirect_failed}
use Rattle.value_node.specs.Store.{StoreValue}
use Rattle.value_node.specs.Passing.{Lower, Upper, event_passed, final_passed, not_recognised, progress_passed}
use Rattle.value_node.specs.RelayLaws.{StandsWell}
use Rattle.value_node.specs.Runs.{Call, Past, stored_for, bytes_end, comes, connects, fails, gives, is_binding, turns, with_calls}
use Rattle.value_node.specs.Value.{answered, asked, awaits, answered_or_forwarded, command_of, has_room, is_free, is_opening, pending_above, redirect_answered, sent_unless, took_any_above, took_any_below, turned_above, turned_below, unbound_again, with_lower, with_upper}
use Rattle.value_node.specs.declared.own.Own.{Own}
use Rattle.value_node.specs.declared.own.Own.TheVariants as own
use Rattle.value_node.specs.declared.relay.Relay.{Relay}
use Rattle.value_node.specs.declared.states.Bind.{Bind}
use Rattle.value_node.specs.declared.states.Bind.TheVariants.{Unbound, Opening, Bound, Closed}
use Rattle.value_node.specs.declared.states.Side.TheVariants.{Below, Above}
use Rattle.value_node.specs.declared.states.ValueTurn.TheVariants.{Nothing}
use Rattle.value_node.proofs.Asking.{asked_bound_is, store_asked}
use Rattle.value_node.proofs.Holding.{Holds}
use Rattle.value_node.proofs.HoldsEnds.{KeepsClosed, lower_facts, upper_facts}
use Rattle.value_node.proofs.Steps.{relay, relay_called}
use Rattle.list_laws.proofs.Flags.{or_false, or_true}

-- ---- an end of which something is sent, or which is closed

state_if : {T : Type 0} → (flag : Bool) (one e : EndValue T) → one.state ≡ e.state → (cond flag e one).state ≡ e.state
state_if true one e same = refl
state_if false one e same = same

queued_state : {T : Type 0} → (m : MessageValue) (mark : Option ℕ) (e : EndValue T) → (queued m mark e).state ≡ e.state
queued_state m mark e = state_if (is_closed e.state) _ e refl

event_state : (mark : Option ℕ) (m : Result MessageValue MessageFault) (e : Lower) → (event_passed mark m e).state ≡ e.state
event_state mark (Ok (event service name body)) e = queued_state (event service name body) mark e
event_state mark m e = refl

progress_state : (forwarded : Option ForwardedValue) (mark : Option ℕ) (m : Result MessageValue MessageFault) (e : Lower) → (progress_passed forwarded mark m e).state ≡ e.state
progress_state (Some forwarded) mark (Ok (progress token body)) e = queued_state (progress forwarded.token body) mark e
progress_state forwarded mark m e = refl

final_state : (forwarded : ForwardedValue) (mark : Option ℕ) (m : Result MessageValue MessageFault) (e : Lower) → (final_passed forwarded mark m e).state ≡ e.state
final_state forwarded mark (Ok (final token body)) e = queued_state (final forwarded.token body) mark e
final_state forwarded mark (Ok (not_known token)) e = queued_state (not_known forwarded.token) mark e
final_state forwarded mark m e = refl

refused_state : (m : Result MessageValue MessageFault) (e : Upper) → (not_recognised m e).state ≡ e.state
refused_state (Ok (command token service name body)) e = queued_state (not_known token) None e
refused_state m e = refl

own_closed : {T : Type 0} → (e : EndValue T) → is_closed (closed_own e).state ≡ true
own_closed e = by_flag (is_closed e.state) refl
  where
    by_flag : (flag : Bool) → is_closed e.state ≡ flag → is_closed (cond flag e (closed_for causes.Own e)).state ≡ true
    by_flag true is = is
    by_flag false is = refl

own_free : (upper : Option Upper) → is_free (option_map closed_own upper) ≡ true
own_free None = refl
own_free (Some e) = own_closed e

-- ---- a later value-add and a later past stand well

abbrev Later : Bool → Relay → Past → Type 0
Later before next q = q.is_bound ≡ (before || is_binding next.bind) → StandsWell next.bind next q

-- where the call changes nothing of it
same_stands : (bind : Bind) (v next : Relay) (p q : Past) → is_closed next.lower.state ≡ is_closed v.lower.state → is_free next.upper ≡ is_free v.upper → next.redirect ≡ v.redirect
    → StandsWell bind v p → q.is_bound ≡ (p.is_bound || is_binding bind) → StandsWell bind next q
same_stands Unbound v next p q lower upper redirect stands is = (lower ∙ stands.0, upper ∙ stands.1, is ∙ or_false p.is_bound ∙ stands.2)
same_stands Opening v next p q lower upper redirect stands is =
    (lower ∙ stands.0, subst (λ (o : Option (List ℕ)). IsSome o) (sym redirect) stands.1, is ∙ or_false p.is_bound ∙ stands.2)
same_stands Bound v next p q lower upper redirect stands is = (lower ∙ stands.0, upper ∙ stands.1, is ∙ or_true p.is_bound)
same_stands Closed v next p q lower upper redirect stands is = (lower ∙ stands.0, upper ∙ stands.1)

-- ---- taking from below

-- of an unbound one, whose redirect isn't done
answered_stands : (token : List ℕ) (reply : Own) (v : Relay) (q : Past) (before : Bool) → v.bind ≡ Unbound → is_closed v.lower.state ≡ false → is_free v.upper ≡ true → before ≡ false
    → Later before (answered token reply v).1 q
answered_stands token own.Unknown v q before is unclosed free off =
    rw is (λ bound. (ap is_closed (queued_state (not_known token) None v.lower) ∙ unclosed, free, bound ∙ or_false before ∙ off))
answered_stands token (own.Result body) v q before is unclosed free off =
    rw is (λ bound. (ap is_closed (queued_state (final token body) None v.lower) ∙ unclosed, free, bound ∙ or_false before ∙ off))
answered_stands token own.Connect v q before is unclosed free off = λ bound. (unclosed, refl, bound ∙ or_false before ∙ off)

unbound_asked : (m : Result MessageValue MessageFault) (mark : Option ℕ) (store : StoreValue) (peer : List ℕ) (lower : Lower) (upper : Option Upper) (redirect : Option (List ℕ)) (q : Past) (before : Bool)
    → is_closed lower.state ≡ false → is_free upper ≡ true → before ≡ false → Later before (asked m mark (relay store peer Unbound lower upper redirect)).1 q
unbound_asked (Ok (command token service name body)) mark store peer lower upper redirect q before unclosed free off =
    answered_stands token (own_reply peer service name body) (relay store peer Unbound lower upper redirect) q before refl unclosed free off
unbound_asked m mark store peer lower upper redirect q before unclosed free off = λ bound. (unclosed, free, bound ∙ or_false before ∙ off)

unbound_took : (what : Option (Taken Unit)) (store : StoreValue) (peer : List ℕ) (lower : Lower) (upper : Option Upper) (redirect : Option (List ℕ)) (q : Past) (before : Bool)
    → is_closed lower.state ≡ closes what → is_free upper ≡ true → before ≡ false → Later before (took_any_below what (relay store peer Unbound lower upper redirect)).1 q
unbound_took None store peer lower upper redirect q before unclosed free off = λ bound. (unclosed, free, bound ∙ or_false before ∙ off)
unbound_took (Some (taken.Hello incoming)) store peer lower upper redirect q before unclosed free off = λ bound. (unclosed, free, bound ∙ or_false before ∙ off)
unbound_took (Some (taken.Command incoming)) store peer lower upper redirect q before unclosed free off = unbound_asked (reading incoming.raw) incoming.mark store peer lower upper redirect q before unclosed free off
unbound_took (Some (taken.Event incoming)) store peer lower upper redirect q before unclosed free off = λ bound. (unclosed, free, bound ∙ or_false before ∙ off)
unbound_took (Some (taken.Progress token incoming)) store peer lower upper redirect q before unclosed free off = λ bound. (unclosed, free, bound ∙ or_false before ∙ off)
unbound_took (Some (taken.Final tag incoming)) store peer lower upper redirect q before unclosed free off = λ bound. (unclosed, free, bound ∙ or_false before ∙ off)
unbound_took (Some (taken.Closed cause)) store peer lower upper redirect q before unclosed free off = λ bound. (own_closed lower, own_free upper)

-- of a bound one
forwarded_stands : (refusal : Option SendRefusal) (service name body : List ℕ) (forwarded : ForwardedValue) (mark : Option ℕ) (store : StoreValue) (peer : List ℕ) (lower : Lower) (e : Upper) (redirect : Option (List ℕ)) (q : Past) (before : Bool)
    → refusal_of (length service + length name + length body) e ≡ refusal → KeepsClosed e → is_closed lower.state ≡ false → is_closed e.state ≡ false
    → Later before (sent_unless refusal service name body forwarded mark e (relay store peer Bound lower (Some e) redirect)) q
forwarded_stands None service name body forwarded mark store peer lower e redirect q before is keeps unclosed live =
    let stays : is_closed (unless_refused (refusal_to service name body e) e (commanded service name body forwarded mark e)).state ≡ is_closed e.state =
    keeps.by_others (commanding service name body forwarded mark) refl in
    let sent : is_closed (commanded service name body forwarded mark e).state ≡ is_closed e.state =
    sym (ap (λ refusal. is_closed (unless_refused refusal e (commanded service name body forwarded mark e)).state) is) ∙ stays in
    λ bound. (unclosed, sent ∙ live, bound ∙ or_true before)
forwarded_stands (Some why) service name body forwarded mark store peer lower e redirect q before is keeps unclosed live = λ bound. (own_closed lower, own_closed e)

store_stands : (reply : Option (List ℕ)) (token service name body : List ℕ) (mark : Option ℕ) (store : StoreValue) (peer : List ℕ) (lower : Lower) (e : Upper) (redirect : Option (List ℕ)) (q : Past) (before : Bool)
    → KeepsClosed e → is_closed lower.state ≡ false → is_closed e.state ≡ false
    → Later before (answered_or_forwarded reply (command_of service name body) token service name body mark (relay store peer Bound lower (Some e) redirect)) q
store_stands None token service name body mark store peer lower e redirect q before keeps unclosed live =
    forwarded_stands (refusal_of (length service + length name + length body) e) service name body (tagged token (command_of service name body)) mark store peer lower e redirect q before refl keeps
    unclosed live
store_stands (Some reply) token service name body mark store peer lower e redirect q before keeps unclosed live =
    λ bound. (ap is_closed (queued_state (final token reply) store.mark lower) ∙ unclosed, live, bound ∙ or_true before)

bound_asked : (m : Result MessageValue MessageFault) (mark : Option ℕ) (store : StoreValue) (peer : List ℕ) (lower : Lower) (e : Upper) (redirect : Option (List ℕ)) (q : Past) (before : Bool)
    → KeepsClosed e → is_closed lower.state ≡ false → is_closed e.state ≡ false → Later before (asked m mark (relay store peer Bound lower (Some e) redirect)).1 q
bound_asked (Ok (command token service name body)) mark store peer lower e redirect q before keeps unclosed live =
    let v = relay store peer Bound lower (Some e) redirect in
    subst (λ (w : Relay). Later before w q) (sym (asked_bound_is token service name body mark v))
    (store_stands (stored_for service name body v) token service name body mark (store_asked service name body v) peer lower e redirect q before keeps unclosed live)
bound_asked m mark store peer lower e redirect q before keeps unclosed live = λ bound. (unclosed, live, bound ∙ or_true before)

bound_took : (what : Option (Taken Unit)) (store : StoreValue) (peer : List ℕ) (lower : Lower) (e : Upper) (redirect : Option (List ℕ)) (q : Past) (before : Bool)
    → KeepsClosed e → is_closed lower.state ≡ closes what → is_closed e.state ≡ false → Later before (took_any_below what (relay store peer Bound lower (Some e) redirect)).1 q
bound_took None store peer lower e redirect q before keeps unclosed live = λ bound. (unclosed, live, bound ∙ or_true before)
bound_took (Some (taken.Hello incoming)) store peer lower e redirect q before keeps unclosed live = λ bound. (unclosed, live, bound ∙ or_true before)
bound_took (Some (taken.Command incoming)) store peer lower e redirect q before keeps unclosed live = bound_asked (reading incoming.raw) incoming.mark store peer lower e redirect q before keeps unclosed live
bound_took (Some (taken.Event incoming)) store peer lower e redirect q before keeps unclosed live = λ bound. (unclosed, live, bound ∙ or_true before)
bound_took (Some (taken.Progress token incoming)) store peer lower e redirect q before keeps unclosed live = λ bound. (unclosed, live, bound ∙ or_true before)
bound_took (Some (taken.Final tag incoming)) store peer lower e redirect q before keeps unclosed live = λ bound. (unclosed, live, bound ∙ or_true before)
bound_took (Some (taken.Closed cause)) store peer lower e redirect q before keeps unclosed live = λ bound. (own_closed lower, own_closed e)

-- where nothing is taken all is as it was
below_if : (flag : Bool) (v : Relay) (p q : Past) → StandsWell v.bind v p → Later p.is_bound (took_any_below (next_taken v.lower).0 (with_lower (next_taken v.lower).1 v)).1 q
    → Later p.is_bound (if flag then took_any_below (next_taken v.lower).0 (with_lower (next_taken v.lower).1 v) else (Nothing, v)).1 q
below_if true v p q stands took = took
below_if false v p q stands took = same_stands v.bind v v p q refl refl refl stands

below_stands : (store : StoreValue) (peer : List ℕ) (bind : Bind) (lower : Lower) (upper : Option Upper) (redirect : Option (List ℕ)) (p q : Past) → KeepsClosed lower → IfSome upper KeepsClosed
    → StandsWell bind (relay store peer bind lower upper redirect) p → Later p.is_bound (turned_below (relay store peer bind lower upper redirect)).1 q
unfolding turned_below
below_stands store peer Unbound lower upper redirect p q low up stands =
    unbound_took (next_taken lower).0 store peer (next_taken lower).1 upper redirect q p.is_bound (low.by_taking stands.0) stands.1 stands.2
below_stands store peer Opening lower upper redirect p q low up stands = same_stands Opening (relay store peer Opening lower upper redirect) (relay store peer Opening lower upper redirect) p q refl refl refl stands
below_stands store peer Bound lower None redirect p q low up stands = absurd cc
below_stands store peer Bound lower (Some e) redirect p q low up stands =
    below_if (has_room (Some e)) (relay store peer Bound lower (Some e) redirect) p q stands
    (bound_took (next_taken lower).0 store peer (next_taken lower).1 e redirect q p.is_bound up (low.by_taking stands.0) stands.1)
below_stands store peer Closed lower upper redirect p q low up stands = same_stands Closed (relay store peer Closed lower upper redirect) (relay store peer Closed lower upper redirect) p q refl refl refl stands

-- ---- taking from above

-- with an entry that closes it the end is closed, and with another it isn't
abbrev ClosesSo : Option (Taken ForwardedValue) × Upper → Type 0
ClosesSo (None, e) = Unit {0}
ClosesSo (Some what, e) = is_closed e.state ≡ closes (Some what)

closes_so : (e : Upper) (next : Option (Taken ForwardedValue) × Upper) → KeepsClosed e → next_taken e ≡ next → ClosesSo next
closes_so e (None, later) keeps is = tt
closes_so e (Some what, later) keeps is = by_flag (is_closed e.state) refl
  where
    by_flag : (flag : Bool) → is_closed e.state ≡ flag → is_closed later.state ≡ closes (Some what)
    by_flag true closed =
        let none : next_taken e ≡ (None, e) = keeps.takes_none closed in
        let clash : None ≡ Some what = ap (λ (n : Option (Taken ForwardedValue) × Upper). n.0) (sym none ∙ is) in absurd cc
    by_flag false unclosed = ap (λ (n : Option (Taken ForwardedValue) × Upper). is_closed n.1.state) (sym is) ∙ keeps.by_taking unclosed ∙ ap (λ (n : Option (Taken ForwardedValue) × Upper). closes n.0) is

answered_keeps : (redirect : Option (List ℕ)) (body : List ℕ) (v : Relay)
    → (is_closed (redirect_answered redirect body v).lower.state ≡ is_closed v.lower.state) × ((redirect_answered redirect body v).upper ≡ v.upper)
answered_keeps None body v = (refl, refl)
answered_keeps (Some token) body v = (ap is_closed (queued_state (final token body) None v.lower), refl)

again_stands : (v : Relay) (q : Past) (before : Bool) → is_closed v.lower.state ≡ false → is_free v.upper ≡ true → before ≡ false → Later before (unbound_again v) q
again_stands v q before unclosed free off =
    let keeps = answered_keeps v.redirect redirect_failed v in
    λ bound. (keeps.0 ∙ unclosed, ap is_free keeps.1 ∙ free, bound ∙ or_false before ∙ off)

opening_took : (next : Option (Taken ForwardedValue) × Upper) (store : StoreValue) (peer : List ℕ) (lower : Lower) (upper : Option Upper) (redirect : Option (List ℕ)) (q : Past) (before : Bool)
    → ClosesSo next → is_closed lower.state ≡ false → IsSome redirect → before ≡ false → Later before (took_any_above next.0 (with_upper next.1 (relay store peer Opening lower upper redirect))).1 q
opening_took (None, e) store peer lower upper redirect q before so unclosed some off = λ bound. (unclosed, some, bound ∙ or_false before ∙ off)
opening_took (Some (taken.Hello incoming), e) store peer lower upper redirect q before so unclosed some off =
    let v = relay store peer Opening lower (Some e) redirect in
    let keeps = answered_keeps redirect _ v in
    λ bound. (ap is_closed (event_state incoming.mark (reading incoming.raw) _) ∙ keeps.0 ∙ unclosed, ap is_free keeps.1 ∙ so, bound ∙ or_true before)
opening_took (Some (taken.Command incoming), e) store peer lower upper redirect q before so unclosed some off = λ bound. (unclosed, some, bound ∙ or_false before ∙ off)
opening_took (Some (taken.Event incoming), e) store peer lower upper redirect q before so unclosed some off =
    λ bound. (ap is_closed (event_state incoming.mark (reading incoming.raw) lower) ∙ unclosed, some, bound ∙ or_false before ∙ off)
opening_took (Some (taken.Progress token incoming), e) store peer lower upper redirect q before so unclosed some off =
    λ bound. (ap is_closed (progress_state (pending_above token (Some e)) incoming.mark (reading incoming.raw) lower) ∙ unclosed, some, bound ∙ or_false before ∙ off)
opening_took (Some (taken.Final tag incoming), e) store peer lower upper redirect q before so unclosed some off =
    λ bound. (ap is_closed (final_state tag incoming.mark (reading incoming.raw) lower) ∙ unclosed, some, bound ∙ or_false before ∙ off)
opening_took (Some (taken.Closed cause), e) store peer lower upper redirect q before so unclosed some off = again_stands (relay store peer Opening lower (Some e) redirect) q before unclosed so off

bound_above : (next : Option (Taken ForwardedValue) × Upper) (store : StoreValue) (peer : List ℕ) (lower : Lower) (upper : Option Upper) (redirect : Option (List ℕ)) (q : Past) (before : Bool)
    → is_closed next.1.state ≡ closes next.0 → is_closed lower.state ≡ false → Later before (took_any_above next.0 (with_upper next.1 (relay store peer Bound lower upper redirect))).1 q
bound_above (None, e) store peer lower upper redirect q before so unclosed = λ bound. (unclosed, so, bound ∙ or_true before)
bound_above (Some (taken.Hello incoming), e) store peer lower upper redirect q before so unclosed =
    λ bound. (ap is_closed (event_state incoming.mark (reading incoming.raw) lower) ∙ unclosed, so, bound ∙ or_true before)
bound_above (Some (taken.Command incoming), e) store peer lower upper redirect q before so unclosed =
    λ bound. (unclosed, ap is_closed (refused_state (reading incoming.raw) e) ∙ so, bound ∙ or_true before)
bound_above (Some (taken.Event incoming), e) store peer lower upper redirect q before so unclosed =
    λ bound. (ap is_closed (event_state incoming.mark (reading incoming.raw) lower) ∙ unclosed, so, bound ∙ or_true before)
bound_above (Some (taken.Progress token incoming), e) store peer lower upper redirect q before so unclosed =
    λ bound. (ap is_closed (progress_state (pending_above token (Some e)) incoming.mark (reading incoming.raw) lower) ∙ unclosed, so, bound ∙ or_true before)
bound_above (Some (taken.Final tag incoming), e) store peer lower upper redirect q before so unclosed =
    λ bound. (ap is_closed (final_state tag incoming.mark (reading incoming.raw) lower) ∙ unclosed, so, bound ∙ or_true before)
bound_above (Some (taken.Closed cause), e) store peer lower upper redirect q before so unclosed = λ bound. (own_closed lower, own_closed e)

above_stands : (store : StoreValue) (peer : List ℕ) (bind : Bind) (lower : Lower) (upper : Option Upper) (redirect : Option (List ℕ)) (p q : Past) → IfSome upper KeepsClosed
    → StandsWell bind (relay store peer bind lower upper redirect) p → Later p.is_bound (turned_above (relay store peer bind lower upper redirect)).1 q
unfolding turned_above
above_stands store peer Unbound lower None redirect p q up stands = same_stands Unbound (relay store peer Unbound lower None redirect) (relay store peer Unbound lower None redirect) p q refl refl refl stands
above_stands store peer Unbound lower (Some e) redirect p q up stands =
    let v = relay store peer Unbound lower (Some e) redirect in
    subst (λ (next : Option (Taken ForwardedValue) × Upper). Later p.is_bound (took_any_above next.0 (with_upper next.1 v)).1 q) (sym (up.takes_none stands.1))
    (same_stands Unbound v v p q refl refl refl stands)
above_stands store peer Opening lower None redirect p q up stands = same_stands Opening (relay store peer Opening lower None redirect) (relay store peer Opening lower None redirect) p q refl refl refl stands
above_stands store peer Opening lower (Some e) redirect p q up stands =
    opening_took (next_taken e) store peer lower (Some e) redirect q p.is_bound (closes_so e (next_taken e) up refl) stands.0 stands.1 stands.2
above_stands store peer Bound lower None redirect p q up stands = absurd cc
above_stands store peer Bound lower (Some e) redirect p q up stands = bound_above (next_taken e) store peer lower (Some e) redirect q p.is_bound (up.by_taking stands.1) stands.0
above_stands store peer Closed lower upper redirect p q up stands = same_stands Closed (relay store peer Closed lower upper redirect) (relay store peer Closed lower upper redirect) p q refl refl refl stands

-- ---- the other calls

others_free : (call : EndCall ForwardedValue) (upper : Option Upper) → may_close call ≡ false → IfSome upper KeepsClosed → is_free (option_map (end_called call) upper) ≡ is_free upper
others_free call None may up = refl
others_free call (Some e) may up = up.by_others call may

failed_stands : (flag : Bool) (v : Relay) (p q : Past) → awaits v ≡ flag → StandsWell v.bind v p → Later p.is_bound (if flag then unbound_again v else v) q
failed_stands false v p q is stands = same_stands v.bind v v p q refl refl refl stands
failed_stands true v p q is stands =
    let parts = and_parts (is_opening v.bind) (is_free v.upper) is in
    let opening = was_opening v.bind parts.0 stands in
    again_stands v q p.is_bound opening.0 parts.1 opening.1
  where
    was_opening : (bind : Bind) → is_opening bind ≡ true → StandsWell bind v p → (is_closed v.lower.state ≡ false) × (p.is_bound ≡ false)
    was_opening Unbound on stood = absurd cc
    was_opening Opening on stood = (stood.0, stood.2)
    was_opening Bound on stood = absurd cc
    was_opening Closed on stood = absurd cc

call_stands : (call : Call) (v : Relay) (p q : Past) → KeepsClosed v.lower → IfSome v.upper KeepsClosed → (call ≡ connects → ⊥) → StandsWell v.bind v p → Later p.is_bound (relay_called call v) q
call_stands (comes Below piece mark) v p q low up other stands = same_stands v.bind v (relay_called (comes Below piece mark) v) p q (low.by_others (delivering piece mark) refl) refl refl stands
call_stands (comes Above piece mark) v p q low up other stands =
    same_stands v.bind v (relay_called (comes Above piece mark) v) p q refl (others_free (delivering piece mark) v.upper refl up) refl stands
call_stands (bytes_end Below) v p q low up other stands = same_stands v.bind v (relay_called (bytes_end Below) v) p q (low.by_others ending refl) refl refl stands
call_stands (bytes_end Above) v p q low up other stands = same_stands v.bind v (relay_called (bytes_end Above) v) p q refl (others_free ending v.upper refl up) refl stands
call_stands (turns Below) v p q low up other stands = below_stands v.store v.peer v.bind v.lower v.upper v.redirect p q low up stands
call_stands (turns Above) v p q low up other stands = above_stands v.store v.peer v.bind v.lower v.upper v.redirect p q up stands
call_stands connects v p q low up other stands = absurd (other refl)
call_stands fails v p q low up other stands = failed_stands (awaits v) v p q refl stands
call_stands (gives Below) v p q low up other stands = same_stands v.bind v (relay_called (gives Below) v) p q refl refl refl stands
call_stands (gives Above) v p q low up other stands = same_stands v.bind v (relay_called (gives Above) v) p q refl (others_free putting_out v.upper refl up) refl stands

pub stands_kept : (call : Call) (v : Relay) (p : Past) → (call ≡ connects → ⊥) → Holds v p
    → StandsWell (relay_called call v).bind (relay_called call v) (with_calls call v (relay_called call v) p)
stands_kept call v p other h =
    call_stands call v p (with_calls call v (relay_called call v) p) (lower_facts v p h) (upper_facts v p h) other h.stands refl
