-- Once it is bound no call gives a value-add another redirect.
use Rattle.std.proofs.Common.{◌≡◌, ℕ, ◌+◌, Bool, true, false, List, length, Option, Some, None, Result, Ok, refl, ap, ◌∙◌}
use Rattle.std.specs.Prelude.{if◌then◌else◌}
use Rattle.channel_core.specs.Sending.{refusal_of}
use Rattle.channel_core.specs.Taking.{next_taken}
use Rattle.channel_core.specs.declared.sending.SendRefusal.{SendRefusal}
use Rattle.channel_core.specs.declared.taking.Taken.{Taken}
use Rattle.channel_core.specs.declared.taking.Taken.TheVariants as taken
use Rattle.tcf_message.specs.Message.{MessageValue, command, reading}
use Rattle.tcf_message.specs.declared.message.MessageFault.{MessageFault}
use Rattle.value_node.specs.ForwardedValue.{ForwardedValue, tagged}
use Rattle.value_node.specs.Store.{StoreValue}
use Rattle.value_node.specs.Passing.{Lower, Upper}
use Rattle.value_node.specs.Runs.{Call, stored_for, bytes_end, comes, connects, fails, gives, turns}
use Rattle.value_node.specs.Value.{asked, awaits, connected_to, answered_or_forwarded, command_of, has_room, sent_above, sent_unless, took_any_above, took_any_below, turned_above, turned_below, turned_on, with_lower, with_store}
use Rattle.value_node.specs.declared.relay.Relay.{Relay}
use Rattle.value_node.specs.declared.states.Bind.{Bind}
use Rattle.value_node.specs.declared.states.Bind.TheVariants.{Unbound, Opening, Bound, Closed}
use Rattle.value_node.specs.declared.states.Side.TheVariants.{Below, Above}
use Rattle.value_node.specs.declared.states.ValueTurn.TheVariants.{Nothing}
use Rattle.value_node.proofs.Asking.{asked_bound_is, store_asked}
use Rattle.value_node.proofs.OwnSilence.{IsPast}
use Rattle.value_node.proofs.Steps.{relay, relay_called}

-- ---- from below

unless_redirect : (refusal : Option SendRefusal) (service name body : List ℕ) (forwarded : ForwardedValue) (mark : Option ℕ) (e : Upper) (v : Relay)
    → (sent_unless refusal service name body forwarded mark e v).redirect ≡ v.redirect
unless_redirect None service name body forwarded mark e v = refl
unless_redirect (Some why) service name body forwarded mark e v = refl

forwarded_redirect : (upper : Option Upper) (service name body : List ℕ) (forwarded : ForwardedValue) (mark : Option ℕ) (v : Relay)
    → (sent_above upper service name body forwarded mark v).redirect ≡ v.redirect
forwarded_redirect None service name body forwarded mark v = refl
forwarded_redirect (Some e) service name body forwarded mark v = unless_redirect (refusal_of (length service + length name + length body) e) service name body forwarded mark e v

answered_redirect : (reply : Option (List ℕ)) (token service name body : List ℕ) (mark : Option ℕ) (v : Relay)
    → (answered_or_forwarded reply (command_of service name body) token service name body mark v).redirect ≡ v.redirect
answered_redirect None token service name body mark v = forwarded_redirect v.upper service name body (tagged token (command_of service name body)) mark v
answered_redirect (Some reply) token service name body mark v = refl

asked_redirect : (m : Result MessageValue MessageFault) (mark : Option ℕ) (store : StoreValue) (peer : List ℕ) (lower : Lower) (upper : Option Upper) (redirect : Option (List ℕ))
    → (asked m mark (relay store peer Bound lower upper redirect)).1.redirect ≡ redirect
asked_redirect (Ok (command token service name body)) mark store peer lower upper redirect =
    let v = relay store peer Bound lower upper redirect in
    ap (λ (w : Relay). w.redirect) (asked_bound_is token service name body mark v)
    ∙ answered_redirect (stored_for service name body v) token service name body mark (with_store (store_asked service name body v) v)
asked_redirect m mark store peer lower upper redirect = refl

took_redirect : (what : Option (Taken Unit)) (store : StoreValue) (peer : List ℕ) (lower : Lower) (upper : Option Upper) (redirect : Option (List ℕ))
    → (took_any_below what (relay store peer Bound lower upper redirect)).1.redirect ≡ redirect
took_redirect None store peer lower upper redirect = refl
took_redirect (Some (taken.Hello incoming)) store peer lower upper redirect = refl
took_redirect (Some (taken.Command incoming)) store peer lower upper redirect = asked_redirect (reading incoming.raw) incoming.mark store peer lower upper redirect
took_redirect (Some (taken.Event incoming)) store peer lower upper redirect = refl
took_redirect (Some (taken.Progress token incoming)) store peer lower upper redirect = refl
took_redirect (Some (taken.Final tag incoming)) store peer lower upper redirect = refl
took_redirect (Some (taken.Closed cause)) store peer lower upper redirect = refl

room_redirect : (flag : Bool) (store : StoreValue) (peer : List ℕ) (lower : Lower) (upper : Option Upper) (redirect : Option (List ℕ))
    → (if flag then took_any_below (next_taken lower).0 (with_lower (next_taken lower).1 (relay store peer Bound lower upper redirect)) else (Nothing, relay store peer Bound lower upper redirect)).1.redirect ≡ redirect
room_redirect true store peer lower upper redirect = took_redirect (next_taken lower).0 store peer (next_taken lower).1 upper redirect
room_redirect false store peer lower upper redirect = refl

below_redirect : (store : StoreValue) (peer : List ℕ) (bind : Bind) (lower : Lower) (upper : Option Upper) (redirect : Option (List ℕ)) → IsPast bind → (turned_below (relay store peer bind lower upper redirect)).1.redirect ≡ redirect
unfolding turned_below
below_redirect store peer Unbound lower upper redirect past = absurd past
below_redirect store peer Opening lower upper redirect past = absurd past
below_redirect store peer Bound lower upper redirect past = room_redirect (has_room upper) store peer lower upper redirect
below_redirect store peer Closed lower upper redirect past = refl

-- ---- from above

any_redirect : (what : Option (Taken ForwardedValue)) (store : StoreValue) (peer : List ℕ) (lower : Lower) (upper : Option Upper) (redirect : Option (List ℕ))
    → (took_any_above what (relay store peer Bound lower upper redirect)).1.redirect ≡ redirect
any_redirect None store peer lower upper redirect = refl
any_redirect (Some (taken.Hello incoming)) store peer lower upper redirect = refl
any_redirect (Some (taken.Command incoming)) store peer lower upper redirect = refl
any_redirect (Some (taken.Event incoming)) store peer lower upper redirect = refl
any_redirect (Some (taken.Progress token incoming)) store peer lower upper redirect = refl
any_redirect (Some (taken.Final tag incoming)) store peer lower upper redirect = refl
any_redirect (Some (taken.Closed cause)) store peer lower upper redirect = refl

on_redirect : (upper : Option Upper) (store : StoreValue) (peer : List ℕ) (lower : Lower) (other : Option Upper) (redirect : Option (List ℕ)) → (turned_on upper (relay store peer Bound lower other redirect)).1.redirect ≡ redirect
on_redirect None store peer lower other redirect = refl
on_redirect (Some e) store peer lower other redirect = any_redirect (next_taken e).0 store peer lower (Some (next_taken e).1) redirect

above_redirect : (store : StoreValue) (peer : List ℕ) (bind : Bind) (lower : Lower) (upper : Option Upper) (redirect : Option (List ℕ)) → IsPast bind → (turned_above (relay store peer bind lower upper redirect)).1.redirect ≡ redirect
unfolding turned_above
above_redirect store peer Unbound lower upper redirect past = absurd past
above_redirect store peer Opening lower upper redirect past = absurd past
above_redirect store peer Bound lower upper redirect past = on_redirect upper store peer lower upper redirect
above_redirect store peer Closed lower upper redirect past = refl

-- ---- every call

connected_redirect : (flag : Bool) (v : Relay) → (if flag then connected_to v else v).redirect ≡ v.redirect
connected_redirect true v = refl
connected_redirect false v = refl

fails_redirect : (store : StoreValue) (peer : List ℕ) (bind : Bind) (lower : Lower) (upper : Option Upper) (redirect : Option (List ℕ)) → IsPast bind → (relay_called fails (relay store peer bind lower upper redirect)).redirect ≡ redirect
fails_redirect store peer Unbound lower upper redirect past = absurd past
fails_redirect store peer Opening lower upper redirect past = absurd past
fails_redirect store peer Bound lower upper redirect past = refl
fails_redirect store peer Closed lower upper redirect past = refl

pub redirect_stays : (call : Call) (v : Relay) → IsPast v.bind → (relay_called call v).redirect ≡ v.redirect
redirect_stays (comes Below piece mark) v past = refl
redirect_stays (comes Above piece mark) v past = refl
redirect_stays (bytes_end Below) v past = refl
redirect_stays (bytes_end Above) v past = refl
redirect_stays (turns Below) v past = below_redirect v.store v.peer v.bind v.lower v.upper v.redirect past
redirect_stays (turns Above) v past = above_redirect v.store v.peer v.bind v.lower v.upper v.redirect past
redirect_stays connects v past = connected_redirect (awaits v) v
redirect_stays fails v past = fails_redirect v.store v.peer v.bind v.lower v.upper v.redirect past
redirect_stays (gives Below) v past = refl
redirect_stays (gives Above) v past = refl
