-- No redirect is being done while a value-add is unbound or bound.
use Rattle.std.proofs.Common.{◌≡◌, ℕ, ◌+◌, Bool, true, false, List, [], ◌∷◌, length, Option, Some, None, Result, Ok, refl, sym, subst}
use Rattle.std.specs.Prelude.{if◌then◌else◌}
use Rattle.channel_core.specs.Sending.{refusal_of}
use Rattle.channel_core.specs.Taking.{next_taken}
use Rattle.channel_core.specs.declared.sending.SendRefusal.{SendRefusal}
use Rattle.channel_core.specs.declared.taking.Taken.{Taken}
use Rattle.channel_core.specs.declared.taking.Taken.TheVariants as taken
use Rattle.tcf_message.specs.Message.{MessageValue, command, reading}
use Rattle.tcf_message.specs.declared.message.MessageFault.{MessageFault}
use Rattle.value_node.specs.ForwardedValue.{ForwardedValue, tagged}
use Rattle.value_node.specs.Own.{own_reply, redirect_done, redirect_failed}
use Rattle.value_node.specs.Passing.{Lower, Upper}
use Rattle.value_node.specs.Runs.{Call, Past, after_all, bytes_end, comes, connects, fails, gives, no_calls, no_past, remembered, stored_for, turns}
use Rattle.value_node.specs.Store.{StoreValue}
use Rattle.value_node.specs.Value.{answered, answered_or_forwarded, asked, awaits, command_of, connected_to, has_room, new_relay, redirect_answered, sent_above, sent_unless, took_any_above, took_any_below, turned_above, turned_below, turned_on, unbound_again, with_lower}
use Rattle.value_node.specs.ValueValue.{ValueValue}
use Rattle.value_node.specs.declared.own.Own.{Own}
use Rattle.value_node.specs.declared.own.Own.TheVariants as own
use Rattle.value_node.specs.declared.relay.Relay.{Relay}
use Rattle.value_node.specs.declared.states.Bind.{Bind}
use Rattle.value_node.specs.declared.states.Bind.TheVariants.{Unbound, Opening, Bound, Closed}
use Rattle.value_node.specs.declared.states.Side.TheVariants.{Below, Above}
use Rattle.value_node.specs.declared.states.ValueTurn.TheVariants.{Nothing}
use Rattle.value_node.proofs.Asking.{asked_bound_is, store_asked}
use Rattle.value_node.proofs.Steps.{called_whole, relay, relay_called, whole}

abbrev pub SettlesWith : Bind → Option (List ℕ) → Type 0
SettlesWith Unbound redirect = redirect ≡ None
SettlesWith Opening redirect = Unit {0}
SettlesWith Bound redirect = redirect ≡ None
SettlesWith Closed redirect = Unit {0}

abbrev pub IsSettled : Bind → Relay → Type 0
IsSettled bind v = SettlesWith bind v.redirect

abbrev Settles : Relay → Type 0
Settles v = IsSettled v.bind v

-- ---- from below

own_settles : (token : List ℕ) (reply : Own) (store : StoreValue) (peer : List ℕ) (lower : Lower) (upper : Option Upper) → Settles (answered token reply (relay store peer Unbound lower upper None)).1
own_settles token own.Unknown store peer lower upper = refl
own_settles token (own.Result body) store peer lower upper = refl
own_settles token own.Connect store peer lower upper = tt

unless_settles : (refusal : Option SendRefusal) (service name body : List ℕ) (forwarded : ForwardedValue) (mark : Option ℕ) (e : Upper) (store : StoreValue) (peer : List ℕ) (lower : Lower) (upper : Option Upper)
    → Settles (sent_unless refusal service name body forwarded mark e (relay store peer Bound lower upper None))
unless_settles None service name body forwarded mark e store peer lower upper = refl
unless_settles (Some why) service name body forwarded mark e store peer lower upper = tt

forwarded_settles : (to : Option Upper) (service name body : List ℕ) (forwarded : ForwardedValue) (mark : Option ℕ) (store : StoreValue) (peer : List ℕ) (lower : Lower) (upper : Option Upper)
    → Settles (sent_above to service name body forwarded mark (relay store peer Bound lower upper None))
forwarded_settles None service name body forwarded mark store peer lower upper = tt
forwarded_settles (Some e) service name body forwarded mark store peer lower upper =
    unless_settles (refusal_of (length service + length name + length body) e) service name body forwarded mark e store peer lower upper

bound_settles : (reply : Option (List ℕ)) (token service name body : List ℕ) (mark : Option ℕ) (store : StoreValue) (peer : List ℕ) (lower : Lower) (upper : Option Upper)
    → Settles (answered_or_forwarded reply (command_of service name body) token service name body mark (relay store peer Bound lower upper None))
bound_settles None token service name body mark store peer lower upper = forwarded_settles upper service name body (tagged token (command_of service name body)) mark store peer lower upper
bound_settles (Some reply) token service name body mark store peer lower upper = refl

asked_settles : (m : Result MessageValue MessageFault) (mark : Option ℕ) (store : StoreValue) (peer : List ℕ) (lower : Lower) (upper : Option Upper) → Settles (asked m mark (relay store peer Bound lower upper None)).1
asked_settles (Ok (command token service name body)) mark store peer lower upper =
    let v = relay store peer Bound lower upper None in
    subst Settles (sym (asked_bound_is token service name body mark v))
    (bound_settles (stored_for service name body v) token service name body mark (store_asked service name body v) peer lower upper)
asked_settles m mark store peer lower upper = refl

unbound_asked : (m : Result MessageValue MessageFault) (mark : Option ℕ) (store : StoreValue) (peer : List ℕ) (lower : Lower) (upper : Option Upper) → Settles (asked m mark (relay store peer Unbound lower upper None)).1
unbound_asked (Ok (command token service name body)) mark store peer lower upper = own_settles token (own_reply peer service name body) store peer lower upper
unbound_asked m mark store peer lower upper = refl

unbound_below : (what : Option (Taken Unit)) (store : StoreValue) (peer : List ℕ) (lower : Lower) (upper : Option Upper) → Settles (took_any_below what (relay store peer Unbound lower upper None)).1
unbound_below None store peer lower upper = refl
unbound_below (Some (taken.Hello incoming)) store peer lower upper = refl
unbound_below (Some (taken.Command incoming)) store peer lower upper = unbound_asked (reading incoming.raw) incoming.mark store peer lower upper
unbound_below (Some (taken.Event incoming)) store peer lower upper = refl
unbound_below (Some (taken.Progress token incoming)) store peer lower upper = refl
unbound_below (Some (taken.Final tag incoming)) store peer lower upper = refl
unbound_below (Some (taken.Closed cause)) store peer lower upper = tt

bound_below : (what : Option (Taken Unit)) (store : StoreValue) (peer : List ℕ) (lower : Lower) (upper : Option Upper) → Settles (took_any_below what (relay store peer Bound lower upper None)).1
bound_below None store peer lower upper = refl
bound_below (Some (taken.Hello incoming)) store peer lower upper = refl
bound_below (Some (taken.Command incoming)) store peer lower upper = asked_settles (reading incoming.raw) incoming.mark store peer lower upper
bound_below (Some (taken.Event incoming)) store peer lower upper = refl
bound_below (Some (taken.Progress token incoming)) store peer lower upper = refl
bound_below (Some (taken.Final tag incoming)) store peer lower upper = refl
bound_below (Some (taken.Closed cause)) store peer lower upper = tt

room_below : (flag : Bool) (store : StoreValue) (peer : List ℕ) (lower : Lower) (upper : Option Upper)
    → Settles (if flag then took_any_below (next_taken lower).0 (with_lower (next_taken lower).1 (relay store peer Bound lower upper None)) else (Nothing, relay store peer Bound lower upper None)).1
room_below true store peer lower upper = bound_below (next_taken lower).0 store peer (next_taken lower).1 upper
room_below false store peer lower upper = refl

below_settles : (store : StoreValue) (peer : List ℕ) (bind : Bind) (lower : Lower) (upper : Option Upper) (redirect : Option (List ℕ)) → SettlesWith bind redirect
    → Settles (turned_below (relay store peer bind lower upper redirect)).1
unfolding turned_below
below_settles store peer Unbound lower upper None is = unbound_below (next_taken lower).0 store peer (next_taken lower).1 upper
below_settles store peer Unbound lower upper (Some token) is = absurd cc
below_settles store peer Opening lower upper redirect is = tt
below_settles store peer Bound lower upper None is = room_below (has_room upper) store peer lower upper
below_settles store peer Bound lower upper (Some token) is = absurd cc
below_settles store peer Closed lower upper redirect is = tt

-- ---- from above

-- a redirect that is answered is done
answered_settles : (redirect : Option (List ℕ)) (body : List ℕ) (v : Relay) → v.redirect ≡ redirect → (redirect_answered redirect body v).redirect ≡ None
answered_settles None body v is = is
answered_settles (Some token) body v is = refl

unbound_above : (what : Option (Taken ForwardedValue)) (store : StoreValue) (peer : List ℕ) (lower : Lower) (upper : Option Upper) (redirect : Option (List ℕ)) → redirect ≡ None
    → Settles (took_any_above what (relay store peer Unbound lower upper redirect)).1
unbound_above None store peer lower upper redirect is = is
unbound_above (Some (taken.Hello incoming)) store peer lower upper redirect is = is
unbound_above (Some (taken.Command incoming)) store peer lower upper redirect is = is
unbound_above (Some (taken.Event incoming)) store peer lower upper redirect is = is
unbound_above (Some (taken.Progress token incoming)) store peer lower upper redirect is = is
unbound_above (Some (taken.Final tag incoming)) store peer lower upper redirect is = is
unbound_above (Some (taken.Closed cause)) store peer lower upper redirect is = is

opening_above : (what : Option (Taken ForwardedValue)) (store : StoreValue) (peer : List ℕ) (lower : Lower) (upper : Option Upper) (redirect : Option (List ℕ))
    → Settles (took_any_above what (relay store peer Opening lower upper redirect)).1
opening_above None store peer lower upper redirect = tt
opening_above (Some (taken.Hello incoming)) store peer lower upper redirect = answered_settles redirect redirect_done (relay store peer Opening lower upper redirect) refl
opening_above (Some (taken.Command incoming)) store peer lower upper redirect = tt
opening_above (Some (taken.Event incoming)) store peer lower upper redirect = tt
opening_above (Some (taken.Progress token incoming)) store peer lower upper redirect = tt
opening_above (Some (taken.Final tag incoming)) store peer lower upper redirect = tt
opening_above (Some (taken.Closed cause)) store peer lower upper redirect = answered_settles redirect redirect_failed (relay store peer Opening lower upper redirect) refl

bound_above : (what : Option (Taken ForwardedValue)) (store : StoreValue) (peer : List ℕ) (lower : Lower) (upper : Option Upper) (redirect : Option (List ℕ)) → redirect ≡ None
    → Settles (took_any_above what (relay store peer Bound lower upper redirect)).1
bound_above None store peer lower upper redirect is = is
bound_above (Some (taken.Hello incoming)) store peer lower upper redirect is = is
bound_above (Some (taken.Command incoming)) store peer lower upper redirect is = is
bound_above (Some (taken.Event incoming)) store peer lower upper redirect is = is
bound_above (Some (taken.Progress token incoming)) store peer lower upper redirect is = is
bound_above (Some (taken.Final tag incoming)) store peer lower upper redirect is = is
bound_above (Some (taken.Closed cause)) store peer lower upper redirect is = tt

closed_above : (what : Option (Taken ForwardedValue)) (store : StoreValue) (peer : List ℕ) (lower : Lower) (upper : Option Upper) (redirect : Option (List ℕ))
    → Settles (took_any_above what (relay store peer Closed lower upper redirect)).1
closed_above None store peer lower upper redirect = tt
closed_above (Some (taken.Hello incoming)) store peer lower upper redirect = tt
closed_above (Some (taken.Command incoming)) store peer lower upper redirect = tt
closed_above (Some (taken.Event incoming)) store peer lower upper redirect = tt
closed_above (Some (taken.Progress token incoming)) store peer lower upper redirect = tt
closed_above (Some (taken.Final tag incoming)) store peer lower upper redirect = tt
closed_above (Some (taken.Closed cause)) store peer lower upper redirect = tt

on_settles : (of : Option Upper) (store : StoreValue) (peer : List ℕ) (bind : Bind) (lower : Lower) (upper : Option Upper) (redirect : Option (List ℕ)) → SettlesWith bind redirect
    → Settles (turned_on of (relay store peer bind lower upper redirect)).1
on_settles None store peer bind lower upper redirect is = is
on_settles (Some e) store peer Unbound lower upper redirect is = unbound_above (next_taken e).0 store peer lower (Some (next_taken e).1) redirect is
on_settles (Some e) store peer Opening lower upper redirect is = opening_above (next_taken e).0 store peer lower (Some (next_taken e).1) redirect
on_settles (Some e) store peer Bound lower upper redirect is = bound_above (next_taken e).0 store peer lower (Some (next_taken e).1) redirect is
on_settles (Some e) store peer Closed lower upper redirect is = closed_above (next_taken e).0 store peer lower (Some (next_taken e).1) redirect

above_settles : (store : StoreValue) (peer : List ℕ) (bind : Bind) (lower : Lower) (upper : Option Upper) (redirect : Option (List ℕ)) → SettlesWith bind redirect
    → Settles (turned_above (relay store peer bind lower upper redirect)).1
unfolding turned_above
above_settles store peer Unbound lower upper redirect is = on_settles upper store peer Unbound lower upper redirect is
above_settles store peer Opening lower upper redirect is = on_settles upper store peer Opening lower upper redirect is
above_settles store peer Bound lower upper redirect is = on_settles upper store peer Bound lower upper redirect is
above_settles store peer Closed lower upper redirect is = tt

-- ---- every call

connected_settles : (flag : Bool) (v : Relay) → Settles v → Settles (if flag then connected_to v else v)
connected_settles true v is = is
connected_settles false v is = is

failed_settles : (flag : Bool) (v : Relay) → Settles v → Settles (if flag then unbound_again v else v)
failed_settles true v is = answered_settles v.redirect redirect_failed v refl
failed_settles false v is = is

settled_called : (call : Call) (v : Relay) → Settles v → Settles (relay_called call v)
settled_called (comes Below piece mark) v is = is
settled_called (comes Above piece mark) v is = is
settled_called (bytes_end Below) v is = is
settled_called (bytes_end Above) v is = is
settled_called (turns Below) v is = below_settles v.store v.peer v.bind v.lower v.upper v.redirect is
settled_called (turns Above) v is = above_settles v.store v.peer v.bind v.lower v.upper v.redirect is
settled_called connects v is = connected_settles (awaits v) v is
settled_called fails v is = failed_settles (awaits v) v is
settled_called (gives Below) v is = is
settled_called (gives Above) v is = is

-- ---- after any calls

settled_from : (calls : List Call) (v : Relay) (p : Past) → Settles v → Settles (after_all calls (record { value = whole v; past = p })).value.relay
settled_from [] v p is = is
settled_from (call ∷ calls) v p is =
    let next = relay_called call v in
    subst (λ (value : ValueValue). Settles (after_all calls (record { value = value; past = remembered call v value.relay p })).value.relay) (sym (called_whole call v))
    (settled_from calls next (remembered call v next p) (settled_called call v is))

pub waits_for_nothing : (peer : List ℕ) (calls : List Call) → IsSettled (after_all calls (no_calls peer)).value.relay.bind (after_all calls (no_calls peer)).value.relay
waits_for_nothing peer calls = settled_from calls (new_relay peer) no_past refl
