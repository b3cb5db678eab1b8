-- What each call of a value-add is to its ends: both are what the calls that it makes of them make of them.
use Rattle.std.proofs.Common.{◌≡◌, ℕ, ◌+◌, Bool, true, false, List, [], ◌∷◌, ◌++◌, length, Option, Some, None, Result, Ok, refl, ap, sym, ◌∙◌}
use Rattle.std.specs.Prelude.{if◌then◌else◌, option_map}
use Rattle.std.proofs.lemmas.List.{append-nil}
use Rattle.channel_core.specs.Closing.{closed_own}
use Rattle.channel_core.specs.EndValue.{EndValue}
use Rattle.channel_core.specs.Runs.{Call as EndCall, Run, after_call, after_calls, called as end_called, commanding, taking, unless_refused}
use Rattle.channel_core.specs.Sending.{commanded, refusal_of}
use Rattle.channel_core.specs.Taking.{next_taken}
use Rattle.channel_core.specs.declared.sending.SendRefusal.{SendRefusal}
use Rattle.channel_core.specs.declared.taking.Taken.{Taken}
use Rattle.channel_core.specs.declared.taking.Taken.TheVariants as taken
use Rattle.tcf_message.specs.Message.{MessageValue, command, event, final, not_known, progress, reading}
use Rattle.tcf_message.specs.declared.message.MessageFault.{MessageFault}
use Rattle.value_node.specs.ForwardedValue.{ForwardedValue, tagged}
use Rattle.value_node.specs.Own.{own_reply, redirect_failed, redirect_done}
use Rattle.value_node.specs.Passing.{Lower, Upper, event_passed, final_passed, not_recognised, progress_passed}
use Rattle.value_node.specs.Runs.{Call, UpperCall, answering, asked_above, asked_above_in, bound_above, bound_below, stored_for, asked_below, asked_below_in, before_hello_below, bytes_end, called, closing_if, closing_in, comes, connects, ended_below, event_calls, fails, final_calls, gives, next_above, own_by, own_calls, passing_any, passing_by, passing_from, passing_on, progress_calls, refused_by, refusing, took_above_above, took_above_below, took_below_above, took_below_below, turns, upper_on}
use Rattle.value_node.specs.Value.{after_giving_at, answered, answered_or_forwarded, asked, asked_bound, asked_in, awaits, before_hello, came_at, command_of, connected_to, ended_at, ended_in, pending_above, redirect_answered, sent_above, sent_unless, takes_above, takes_below, took_above, took_any_above, took_any_below, turned_above, turned_at, turned_below, turned_on, unbound_again, with_lower, with_store, with_upper}
use Rattle.value_node.specs.Store.{StoreValue}
use Rattle.value_node.specs.ValueValue.{ValueValue}
use Rattle.value_node.specs.declared.own.Own.{Own}
use Rattle.value_node.specs.declared.own.Own.TheVariants as own
use Rattle.value_node.specs.declared.relay.Relay.{Relay}
use Rattle.value_node.specs.declared.states.Bind.{Bind}
use Rattle.value_node.specs.declared.states.Bind.TheVariants.{Unbound, Opening, Bound, Closed}
use Rattle.value_node.specs.declared.states.Side.TheVariants.{Below, Above}
use Rattle.value_node.specs.declared.states.ValueTurn.TheVariants.{Nothing}
use Rattle.value_node.proofs.Asking.{asked_bound_is, asked_mark, below_by_mark, store_asked}

-- ---- a value-add

abbrev pub relay : StoreValue → List ℕ → Bind → Lower → Option Upper → Option (List ℕ) → Relay
relay store peer bind lower upper redirect = record { peer = peer; bind = bind; lower = lower; upper = upper; redirect = redirect; store = store }

-- one for which memory was never wanting
abbrev pub whole : Relay → ValueValue
whole v = record { relay = v; is_spent = false }

abbrev pub relay_called : Call → Relay → Relay
relay_called (comes side piece mark) v = came_at side piece mark v
relay_called (bytes_end side) v = ended_at side v
relay_called (turns side) v = (turned_at side v).1
relay_called connects v = if awaits v then connected_to v else v
relay_called fails v = if awaits v then unbound_again v else v
relay_called (gives side) v = after_giving_at side v

whole_if : (flag : Bool) (one other : Relay) → (if flag then whole one else whole other) ≡ whole (if flag then one else other)
whole_if true one other = refl
whole_if false one other = refl

pub called_whole : (call : Call) (v : Relay) → called call (whole v) ≡ whole (relay_called call v)
called_whole (comes side piece mark) v = refl
called_whole (bytes_end side) v = refl
called_whole (turns side) v = refl
called_whole connects v = whole_if (awaits v) (connected_to v) v
called_whole fails v = whole_if (awaits v) (unbound_again v) v
called_whole (gives side) v = refl

-- ---- what calls make of an end

abbrev pub ran : {T : Type 0} → List (EndCall T) → EndValue T → EndValue T
ran [] e = e
ran (call ∷ calls) e = ran calls (end_called call e)

pub end_ran : {T : Type 0} → (calls : List (EndCall T)) (r : Run T) → (after_calls calls r).end ≡ ran calls r.end
end_ran [] r = refl
end_ran (call ∷ calls) r = end_ran calls (after_call call r)

pub ran_both : {T : Type 0} → (first second : List (EndCall T)) (e : EndValue T) → ran (first ++ second) e ≡ ran second (ran first e)
ran_both [] second e = refl
ran_both (call ∷ first) second e = ran_both first second (end_called call e)

-- ---- the lower end

event_lower : (mark : Option ℕ) (m : Result MessageValue MessageFault) (e : Lower) → event_passed mark m e ≡ ran (event_calls mark m) e
event_lower mark (Ok (event service name body)) e = refl
event_lower mark m e = refl

progress_lower : (forwarded : Option ForwardedValue) (mark : Option ℕ) (m : Result MessageValue MessageFault) (e : Lower) → progress_passed forwarded mark m e ≡ ran (progress_calls forwarded mark m) e
progress_lower (Some forwarded) mark (Ok (progress token body)) e = refl
progress_lower forwarded mark m e = refl

final_lower : (forwarded : ForwardedValue) (mark : Option ℕ) (m : Result MessageValue MessageFault) (e : Lower) → final_passed forwarded mark m e ≡ ran (final_calls forwarded mark m) e
final_lower forwarded mark (Ok (final token body)) e = refl
final_lower forwarded mark (Ok (not_known token)) e = refl
final_lower forwarded mark m e = refl

answering_lower : (redirect : Option (List ℕ)) (body : List ℕ) (v : Relay) → (redirect_answered redirect body v).lower ≡ ran (answering redirect body) v.lower
answering_lower None body v = refl
answering_lower (Some token) body v = refl

before_hello_lower : (bind : Bind) (e : Upper) (v : Relay) → (before_hello bind (with_upper e v)).lower ≡ ran (before_hello_below bind v) v.lower
before_hello_lower Unbound e v = refl
before_hello_lower Opening e v = answering_lower v.redirect redirect_done (with_upper e v)
before_hello_lower Bound e v = refl
before_hello_lower Closed e v = refl

ended_lower : (bind : Bind) (e : Upper) (v : Relay) → (ended_in bind (with_upper e v)).lower ≡ ran (closing_in bind) (ran (ended_below bind v) v.lower)
ended_lower Unbound e v = refl
ended_lower Opening e v = answering_lower v.redirect redirect_failed (with_upper e v)
ended_lower Bound e v = refl
ended_lower Closed e v = refl

took_above_lower : (what : Taken ForwardedValue) (e : Upper) (v : Relay) → (took_above what (with_upper e v)).lower ≡ ran (took_above_below (Some what) v ++ passing_on what e v.bind) v.lower
took_above_lower (taken.Hello incoming) e v =
    event_lower incoming.mark (reading incoming.raw) (before_hello v.bind (with_upper e v)).lower ∙ ap (ran (event_calls incoming.mark (reading incoming.raw))) (before_hello_lower v.bind e v)
    ∙ sym (ran_both (before_hello_below v.bind v) (event_calls incoming.mark (reading incoming.raw)) v.lower)
took_above_lower (taken.Command incoming) e v = refl
took_above_lower (taken.Event incoming) e v = event_lower incoming.mark (reading incoming.raw) v.lower
took_above_lower (taken.Progress token incoming) e v = progress_lower (pending_above token (Some e)) incoming.mark (reading incoming.raw) v.lower
took_above_lower (taken.Final forwarded incoming) e v = final_lower forwarded incoming.mark (reading incoming.raw) v.lower
took_above_lower (taken.Closed cause) e v = ended_lower v.bind e v ∙ sym (ran_both (ended_below v.bind v) (closing_in v.bind) v.lower)

own_lower : (token : List ℕ) (reply : Own) (v : Relay) → (answered token reply v).1.lower ≡ ran (own_calls token reply) v.lower
own_lower token own.Unknown v = refl
own_lower token (own.Result body) v = refl
own_lower token own.Connect v = refl

refused_lower : (refusal : Option SendRefusal) (service name body : List ℕ) (forwarded : ForwardedValue) (mark : Option ℕ) (e : Upper) (v : Relay)
    → (sent_unless refusal service name body forwarded mark e v).lower ≡ ran (closing_if refusal) v.lower
refused_lower None service name body forwarded mark e v = refl
refused_lower (Some why) service name body forwarded mark e v = refl

forwarded_lower : (upper : Option Upper) (service name body : List ℕ) (forwarded : ForwardedValue) (mark : Option ℕ) (v : Relay)
    → (sent_above upper service name body forwarded mark v).lower ≡ ran (refused_by upper service name body) v.lower
forwarded_lower None service name body forwarded mark v = refl
forwarded_lower (Some e) service name body forwarded mark v = refused_lower (refusal_of (length service + length name + length body) e) service name body forwarded mark e v

answered_lower : (reply : Option (List ℕ)) (token service name body : List ℕ) (mark : Option ℕ) (v : Relay)
    → (answered_or_forwarded reply (command_of service name body) token service name body mark v).lower ≡ ran (bound_below reply token service name body v) v.lower
answered_lower None token service name body mark v = forwarded_lower v.upper service name body (tagged token (command_of service name body)) mark v
answered_lower (Some reply) token service name body mark v = refl

bound_lower : (token service name body : List ℕ) (mark : Option ℕ) (e : Lower) (v : Relay)
    → (asked_bound token service name body mark (with_lower e v)).lower ≡ ran (bound_below (stored_for service name body v) token service name body v) e
bound_lower token service name body mark e v =
    let reply = stored_for service name body v in
    let w : Relay = with_store (store_asked service name body v) (with_lower e v) in
    ap (λ (x : Relay). x.lower) (asked_bound_is token service name body mark (with_lower e v)) ∙ answered_lower reply token service name body mark w
    ∙ ap (λ calls. ran calls e) (below_by_mark reply token service name body w v refl (asked_mark service name body v))

asked_in_lower : (bind : Bind) (token service name body : List ℕ) (mark : Option ℕ) (e : Lower) (v : Relay)
    → (asked_in bind token service name body mark (with_lower e v)).1.lower ≡ ran (asked_below_in bind token service name body v) e
asked_in_lower Unbound token service name body mark e v = own_lower token (own_reply v.peer service name body) (with_lower e v)
asked_in_lower Opening token service name body mark e v = refl
asked_in_lower Bound token service name body mark e v = bound_lower token service name body mark e v
asked_in_lower Closed token service name body mark e v = refl

asked_lower : (m : Result MessageValue MessageFault) (mark : Option ℕ) (e : Lower) (v : Relay) → (asked m mark (with_lower e v)).1.lower ≡ ran (asked_below m v) e
asked_lower (Ok (command token service name body)) mark e v = asked_in_lower v.bind token service name body mark e v
asked_lower m mark e v = refl

took_below_lower : (what : Option (Taken Unit)) (e : Lower) (v : Relay) → (took_any_below what (with_lower e v)).1.lower ≡ ran (took_below_below what v) e
took_below_lower None e v = refl
took_below_lower (Some (taken.Hello incoming)) e v = refl
took_below_lower (Some (taken.Command incoming)) e v = asked_lower (reading incoming.raw) incoming.mark e v
took_below_lower (Some (taken.Event incoming)) e v = refl
took_below_lower (Some (taken.Progress token incoming)) e v = refl
took_below_lower (Some (taken.Final tag incoming)) e v = refl
took_below_lower (Some (taken.Closed cause)) e v = refl

turned_below_lower : (flag : Bool) (v : Relay) → (if flag then took_any_below (next_taken v.lower).0 (with_lower (next_taken v.lower).1 v) else (Nothing, v)).1.lower
    ≡ ran ((if flag then taking ∷ took_below_below (next_taken v.lower).0 v else []) ++ []) v.lower
turned_below_lower true v =
    let next = next_taken v.lower in
    took_below_lower next.0 next.1 v ∙ ap (λ calls. ran calls next.1) (sym (append-nil (took_below_below next.0 v)))
turned_below_lower false v = refl

any_above_lower : (next : Option (Taken ForwardedValue) × Upper) (v : Relay) → (took_any_above next.0 (with_upper next.1 v)).1.lower ≡ ran (took_above_below next.0 v ++ passing_any next v.bind) v.lower
any_above_lower (None, e) v = refl
any_above_lower (Some what, e) v = took_above_lower what e v

on_above_lower : (upper : Option Upper) (v : Relay) → (turned_on upper v).1.lower ≡ ran (took_above_below (next_above upper) v ++ passing_from upper v.bind) v.lower
on_above_lower None v = refl
on_above_lower (Some e) v = any_above_lower (next_taken e) v

turned_above_lower : (flag : Bool) (v : Relay) → (if flag then turned_on v.upper v else (Nothing, v)).1.lower
    ≡ ran ((if flag then took_above_below (next_above v.upper) v else []) ++ (if flag then passing_from v.upper v.bind else [])) v.lower
turned_above_lower true v = on_above_lower v.upper v
turned_above_lower false v = refl

connected_lower : (flag : Bool) (v : Relay) → (if flag then connected_to v else v).lower ≡ v.lower
connected_lower true v = refl
connected_lower false v = refl

failed_lower : (flag : Bool) (v : Relay) → (if flag then unbound_again v else v).lower ≡ ran ((if flag then answering v.redirect redirect_failed else []) ++ []) v.lower
failed_lower true v = answering_lower v.redirect redirect_failed v ∙ ap (λ calls. ran calls v.lower) (sym (append-nil (answering v.redirect redirect_failed)))
failed_lower false v = refl

pub lower_runs : (call : Call) (v : Relay) → (relay_called call v).lower ≡ ran (own_by call v ++ passing_by call v) v.lower
unfolding turned_below turned_above
lower_runs (comes Below piece mark) v = refl
lower_runs (comes Above piece mark) v = refl
lower_runs (bytes_end Below) v = refl
lower_runs (bytes_end Above) v = refl
lower_runs (turns Below) v = turned_below_lower (takes_below v.bind v.upper) v
lower_runs (turns Above) v = turned_above_lower (takes_above v.bind) v
lower_runs connects v = connected_lower (awaits v) v
lower_runs fails v = failed_lower (awaits v) v
lower_runs (gives Below) v = refl
lower_runs (gives Above) v = refl

-- ---- the upper end, which begins anew with a connection

-- what these calls make of it
abbrev pub ran_by : (Upper → List UpperCall) → Option Upper → Option Upper
ran_by calls upper = option_map (λ e. ran (calls e) e) upper

none_ran : (upper : Option Upper) → upper ≡ ran_by (λ e. []) upper
none_ran None = refl
none_ran (Some e) = refl

sent_unless_upper : (refusal : Option SendRefusal) (service name body : List ℕ) (forwarded : ForwardedValue) (mark : Option ℕ) (e : Upper) (v : Relay)
    → refusal_of (length service + length name + length body) e ≡ refusal → v.upper ≡ Some e
    → (sent_unless refusal service name body forwarded mark e v).upper ≡ Some (ran (commanding service name body forwarded mark ∷ closing_if refusal) e)
sent_unless_upper None service name body forwarded mark e v is same =
    ap (λ refusal. Some (unless_refused refusal e (commanded service name body forwarded mark e))) (sym is)
sent_unless_upper (Some why) service name body forwarded mark e v is same =
    ap (option_map closed_own) same ∙ ap (λ refusal. Some (closed_own (unless_refused refusal e (commanded service name body forwarded mark e)))) (sym is)

sent_upper : (upper : Option Upper) (service name body : List ℕ) (forwarded : ForwardedValue) (mark : Option ℕ) (v : Relay) → v.upper ≡ upper
    → (sent_above upper service name body forwarded mark v).upper
    ≡ ran_by (λ e. commanding service name body forwarded mark ∷ closing_if (refusal_of (length service + length name + length body) e)) upper
sent_upper None service name body forwarded mark v same = ap (option_map closed_own) same
sent_upper (Some e) service name body forwarded mark v same =
    sent_unless_upper (refusal_of (length service + length name + length body) e) service name body forwarded mark e v refl same

answered_or_upper : (reply : Option (List ℕ)) (token service name body : List ℕ) (mark : Option ℕ) (v : Relay)
    → (answered_or_forwarded reply (command_of service name body) token service name body mark v).upper ≡ ran_by (bound_above reply token service name body mark) v.upper
answered_or_upper None token service name body mark v = sent_upper v.upper service name body (tagged token (command_of service name body)) mark v refl
answered_or_upper (Some reply) token service name body mark v = none_ran v.upper

bound_upper : (token service name body : List ℕ) (mark : Option ℕ) (e : Lower) (v : Relay)
    → (asked_bound token service name body mark (with_lower e v)).upper ≡ ran_by (bound_above (stored_for service name body v) token service name body mark) v.upper
bound_upper token service name body mark e v =
    ap (λ (x : Relay). x.upper) (asked_bound_is token service name body mark (with_lower e v))
    ∙ answered_or_upper (stored_for service name body v) token service name body mark (with_store (store_asked service name body v) (with_lower e v))

own_upper : (token : List ℕ) (reply : Own) (v : Relay) → (answered token reply v).1.upper ≡ v.upper
own_upper token own.Unknown v = refl
own_upper token (own.Result body) v = refl
own_upper token own.Connect v = refl

asked_in_upper : (bind : Bind) (token service name body : List ℕ) (mark : Option ℕ) (e : Lower) (v : Relay)
    → (asked_in bind token service name body mark (with_lower e v)).1.upper ≡ ran_by (asked_above_in bind token service name body mark v) v.upper
asked_in_upper Unbound token service name body mark e v = own_upper token (own_reply v.peer service name body) (with_lower e v) ∙ none_ran v.upper
asked_in_upper Opening token service name body mark e v = none_ran v.upper
asked_in_upper Bound token service name body mark e v = bound_upper token service name body mark e v
asked_in_upper Closed token service name body mark e v = none_ran v.upper

asked_upper : (m : Result MessageValue MessageFault) (mark : Option ℕ) (e : Lower) (v : Relay) → (asked m mark (with_lower e v)).1.upper ≡ ran_by (asked_above m mark v) v.upper
asked_upper (Ok (command token service name body)) mark e v = asked_in_upper v.bind token service name body mark e v
asked_upper m mark e v = none_ran v.upper

took_below_upper : (what : Option (Taken Unit)) (e : Lower) (v : Relay) → (took_any_below what (with_lower e v)).1.upper ≡ ran_by (took_below_above what v) v.upper
took_below_upper None e v = none_ran v.upper
took_below_upper (Some (taken.Hello incoming)) e v = none_ran v.upper
took_below_upper (Some (taken.Command incoming)) e v = asked_upper (reading incoming.raw) incoming.mark e v
took_below_upper (Some (taken.Event incoming)) e v = none_ran v.upper
took_below_upper (Some (taken.Progress token incoming)) e v = none_ran v.upper
took_below_upper (Some (taken.Final tag incoming)) e v = none_ran v.upper
took_below_upper (Some (taken.Closed cause)) e v = refl

turned_below_upper : (flag : Bool) (v : Relay) → (if flag then took_any_below (next_taken v.lower).0 (with_lower (next_taken v.lower).1 v) else (Nothing, v)).1.upper
    ≡ ran_by (λ e. if flag then took_below_above (next_taken v.lower).0 v e else []) v.upper
turned_below_upper true v = took_below_upper (next_taken v.lower).0 (next_taken v.lower).1 v
turned_below_upper false v = none_ran v.upper

answered_upper : (redirect : Option (List ℕ)) (body : List ℕ) (v : Relay) → (redirect_answered redirect body v).upper ≡ v.upper
answered_upper None body v = refl
answered_upper (Some token) body v = refl

before_hello_upper : (bind : Bind) (v : Relay) → (before_hello bind v).upper ≡ v.upper
before_hello_upper Unbound v = refl
before_hello_upper Opening v = answered_upper v.redirect redirect_done v
before_hello_upper Bound v = refl
before_hello_upper Closed v = refl

ended_upper : (bind : Bind) (e : Upper) (v : Relay) → (ended_in bind (with_upper e v)).upper ≡ Some (ran (closing_in bind) e)
ended_upper Unbound e v = refl
ended_upper Opening e v = answered_upper v.redirect redirect_failed (with_upper e v)
ended_upper Bound e v = refl
ended_upper Closed e v = refl

refusing_upper : (m : Result MessageValue MessageFault) (e : Upper) → not_recognised m e ≡ ran (refusing m) e
refusing_upper (Ok (command token service name body)) e = refl
refusing_upper m e = refl

took_above_upper : (what : Taken ForwardedValue) (e : Upper) (v : Relay) → (took_above what (with_upper e v)).upper ≡ Some (ran (took_above_above (Some what) v.bind) e)
took_above_upper (taken.Hello incoming) e v = before_hello_upper v.bind (with_upper e v)
took_above_upper (taken.Command incoming) e v = ap (λ end. Some end) (refusing_upper (reading incoming.raw) e)
took_above_upper (taken.Event incoming) e v = refl
took_above_upper (taken.Progress token incoming) e v = refl
took_above_upper (taken.Final forwarded incoming) e v = refl
took_above_upper (taken.Closed cause) e v = ended_upper v.bind e v

any_above_upper : (next : Option (Taken ForwardedValue) × Upper) (v : Relay) → (took_any_above next.0 (with_upper next.1 v)).1.upper ≡ Some (ran (took_above_above next.0 v.bind) next.1)
any_above_upper (None, e) v = refl
any_above_upper (Some what, e) v = took_above_upper what e v

on_above_upper : (upper : Option Upper) (v : Relay) → v.upper ≡ upper → (turned_on upper v).1.upper ≡ ran_by (λ e. taking ∷ took_above_above (next_taken e).0 v.bind) upper
on_above_upper None v same = same
on_above_upper (Some e) v same = any_above_upper (next_taken e) v

turned_above_upper : (flag : Bool) (v : Relay) → (if flag then turned_on v.upper v else (Nothing, v)).1.upper
    ≡ ran_by (λ e. if flag then taking ∷ took_above_above (next_taken e).0 v.bind else []) v.upper
turned_above_upper true v = on_above_upper v.upper v refl
turned_above_upper false v = none_ran v.upper

failed_upper : (flag : Bool) (v : Relay) → (if flag then unbound_again v else v).upper ≡ v.upper
failed_upper true v = answered_upper v.redirect redirect_failed v
failed_upper false v = refl

pub upper_runs : (call : Call) (v : Relay) → (call ≡ connects → ⊥) → (relay_called call v).upper ≡ ran_by (upper_on call v) v.upper
unfolding turned_below turned_above
upper_runs (comes Below piece mark) v other = none_ran v.upper
upper_runs (comes Above piece mark) v other = refl
upper_runs (bytes_end Below) v other = none_ran v.upper
upper_runs (bytes_end Above) v other = refl
upper_runs (turns Below) v other = turned_below_upper (takes_below v.bind v.upper) v
upper_runs (turns Above) v other = turned_above_upper (takes_above v.bind) v
upper_runs connects v other = absurd (other refl)
upper_runs fails v other = failed_upper (awaits v) v ∙ none_ran v.upper
upper_runs (gives Below) v other = none_ran v.upper
upper_runs (gives Above) v other = refl
