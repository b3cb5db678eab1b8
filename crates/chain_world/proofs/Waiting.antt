-- An unbound value-add has no open upper end: so one that is to connect waits for that.
use Rattle.std.proofs.Common.{◌≡◌, ℕ, Bool, true, false, ◌&&◌, cond, List, [], ◌∷◌, Option, Some, None, Result, Ok, Err, refl, sym, ap, subst}
use Rattle.std.specs.Prelude.{option_map}
use Rattle.channel_core.specs.Beginning.{new_end}
use Rattle.channel_core.specs.Receiving.{delivered as end_delivered, ended as end_ended}
use Rattle.channel_core.specs.Sending.{refusal_of}
use Rattle.channel_core.specs.Taking.{next_taken}
use Rattle.channel_core.specs.declared.held.Incoming.{Incoming}
use Rattle.channel_core.specs.declared.held.Outgoing.{Outgoing}
use Rattle.channel_core.specs.declared.sending.SendRefusal.{SendRefusal}
use Rattle.channel_core.specs.declared.taking.Taken.{Taken}
use Rattle.channel_core.specs.declared.taking.Taken.TheVariants as taken
use Rattle.tcf_message.specs.Message.{MessageValue, command, event, final, flow, not_known, progress, reading}
use Rattle.tcf_message.specs.declared.message.MessageFault.{MessageFault}
use Rattle.tcf_values.specs.declared.command.Command.{Command}
use Rattle.value_node.specs.ForwardedValue.{ForwardedValue, tagged}
use Rattle.value_node.specs.Own.{own_reply, redirect_failed}
use Rattle.value_node.specs.Passing.{Upper, not_recognised}
use Rattle.value_node.specs.Store.{answer_to, used_by}
use Rattle.value_node.specs.Value.{answered, answered_or_forwarded, asked, asked_bound, asked_in, asked_of_store, awaits, before_hello, both_closed, came as value_came, came_at, command_of, connected as value_connected, connected_to, ended as value_ended, ended_at, ended_in, forwarded_as, hello_taken, is_free, is_free_to_answer, is_opening, new_relay, redirect_answered, sent_above, sent_unless, takes_above, takes_below, took_any_above, took_any_below, took_below, turned_above, turned_at, turned_below, turned_on, value_services, with_lower, with_relay, with_upper}
use Rattle.value_node.specs.ValueValue.{ValueValue}
use Rattle.value_node.specs.declared.own.Own.{Own}
use Rattle.value_node.specs.declared.own.Own.TheVariants as own
use Rattle.value_node.specs.declared.relay.Relay.{Relay}
use Rattle.value_node.specs.declared.states.Bind.{Bind}
use Rattle.value_node.specs.declared.states.Bind.TheVariants.{Unbound, Opening, Bound, Closed}
use Rattle.value_node.specs.declared.states.Side.{Side}
use Rattle.value_node.specs.declared.states.Side.TheVariants.{Below, Above}
use Rattle.value_node.specs.declared.states.ValueTurn.{ValueTurn}
use Rattle.value_node.specs.declared.states.ValueTurn.TheVariants.{Nothing, Took, Connect}
use Rattle.chain_route.specs.Passing.{emptied, emptied_on, parts_came, without_queue}
use Rattle.chain_world.proofs.Shut.{IsShut, ShutBy, delivered_shut, ended_shut, from_shut, refused_shut, shut_takes}
use Rattle.chain_route.proofs.Settled.{still_free}

-- ---- A value-add that isn't bound

abbrev IsShutAbove : Option Upper → Type 0
IsShutAbove None = Unit {0}
IsShutAbove (Some e) = IsShut e

abbrev IsReadyIn : Bind → Option Upper → Type 0
IsReadyIn Unbound upper = IsShutAbove upper
IsReadyIn Opening upper = Unit {0}
IsReadyIn Bound upper = Unit {0}
IsReadyIn Closed upper = Unit {0}

abbrev pub IsReady : Relay → Type 0
IsReady v = IsReadyIn v.bind v.upper

free_above : (upper : Option Upper) → IsShutAbove upper → is_free upper ≡ true
free_above None s = refl
free_above (Some e) s = s.closed

ready_in : (bind : Bind) (upper next : Option Upper) → (IsShutAbove upper → IsShutAbove next) → IsReadyIn bind upper → IsReadyIn bind next
ready_in Unbound upper next keeps ready = keeps ready
ready_in Opening upper next keeps ready = tt
ready_in Bound upper next keeps ready = tt
ready_in Closed upper next keeps ready = tt

mapped_shut : (change : Upper → Upper) → ((e : Upper) → IsShut e → IsShut (change e)) → (upper : Option Upper) → IsShutAbove upper → IsShutAbove (option_map change upper)
mapped_shut change keeps None s = tt
mapped_shut change keeps (Some e) s = keeps e s

-- ---- It takes an entry

pub record Turns (turn : ValueTurn × Relay) : Type 0 where
  pub ready : IsReady turn.1
  pub waits : turn.0 ≡ Connect → awaits turn.1 ≡ true

took_so : (v : Relay) → IsReady v → Turns (Took, v)
took_so v ready = record { ready = ready; waits = λ is. absurd cc }

nothing_so : (v : Relay) → IsReady v → Turns (Nothing, v)
nothing_so v ready = record { ready = ready; waits = λ is. absurd cc }

answered_turns : (token : List ℕ) (what : Own) (v : Relay) → v.bind ≡ Unbound → IsReady v → Turns (answered token what v)
answered_turns token own.Unknown v is ready = took_so (with_lower _ v) ready
answered_turns token (own.Result body) v is ready = took_so (with_lower _ v) ready
answered_turns token own.Connect v is ready = record { ready = tt; waits = λ _. free_above v.upper (subst (λ b. IsReadyIn b v.upper) is ready) }

bound_ready : (bind : Bind) (upper : Option Upper) → bind ≡ Bound → IsReadyIn bind upper
bound_ready Unbound upper is = absurd cc
bound_ready Opening upper is = tt
bound_ready Bound upper is = tt
bound_ready Closed upper is = tt

unless_turns : (why : Option SendRefusal) (service name body : List ℕ) (forwarded : ForwardedValue) (mark : Option ℕ) (e : Upper) (v : Relay) → v.bind ≡ Bound
    → Turns (Took, sent_unless why service name body forwarded mark e v)
unless_turns None service name body forwarded mark e v is = took_so _ (bound_ready v.bind _ is)
unless_turns (Some why) service name body forwarded mark e v is = took_so (both_closed v) tt

sent_turns : (upper : Option Upper) (service name body : List ℕ) (forwarded : ForwardedValue) (mark : Option ℕ) (v : Relay) → v.bind ≡ Bound → Turns (Took, sent_above upper service name body forwarded mark v)
sent_turns None service name body forwarded mark v is = took_so (both_closed v) tt
sent_turns (Some e) service name body forwarded mark v is = unless_turns (refusal_of _ e) service name body forwarded mark e v is

stored_turns : (reply : Option (List ℕ)) (known : Option Command) (token service name body : List ℕ) (mark : Option ℕ) (v : Relay) → v.bind ≡ Bound
    → Turns (Took, answered_or_forwarded reply known token service name body mark v)
stored_turns None known token service name body mark v is = sent_turns v.upper service name body (tagged token known) mark v is
stored_turns (Some reply) known token service name body mark v is = took_so _ (bound_ready v.bind v.upper is)

bound_turns : (token service name body : List ℕ) (mark : Option ℕ) (v : Relay) → v.bind ≡ Bound → Turns (Took, asked_bound token service name body mark v)
bound_turns token service name body mark v is = by_flag (is_free_to_answer v.upper) (command_of service name body)
  where
    by_flag : (flag : Bool) (known : Option Command) → Turns (Took, cond flag (asked_of_store known token service name body mark v) (forwarded_as known token service name body mark v))
    by_flag true known = stored_turns (answer_to known v.store) known token service name body mark (record v { store = used_by known v.store }) is
    by_flag false known = sent_turns v.upper service name body (tagged token known) mark v is

in_turns : (bind : Bind) (token service name body : List ℕ) (mark : Option ℕ) (v : Relay) → v.bind ≡ bind → IsReady v → Turns (asked_in bind token service name body mark v)
in_turns Unbound token service name body mark v is ready = answered_turns token (own_reply v.peer service name body) v is ready
in_turns Opening token service name body mark v is ready = took_so v ready
in_turns Bound token service name body mark v is ready = bound_turns token service name body mark v is
in_turns Closed token service name body mark v is ready = took_so v ready

asked_turns : (what : Result MessageValue MessageFault) (mark : Option ℕ) (v : Relay) → IsReady v → Turns (asked what mark v)
asked_turns (Ok (command token service name body)) mark v ready = in_turns v.bind token service name body mark v refl ready
asked_turns (Ok (final token body)) mark v ready = took_so v ready
asked_turns (Ok (progress token body)) mark v ready = took_so v ready
asked_turns (Ok (not_known token)) mark v ready = took_so v ready
asked_turns (Ok (event service name body)) mark v ready = took_so v ready
asked_turns (Ok (flow level)) mark v ready = took_so v ready
asked_turns (Err fault) mark v ready = took_so v ready

below_took : (what : Taken Unit) (v : Relay) → IsReady v → Turns (took_below what v)
below_took (taken.Hello incoming) v ready = took_so v ready
below_took (taken.Command incoming) v ready = asked_turns (reading incoming.raw) incoming.mark v ready
below_took (taken.Event incoming) v ready = took_so v ready
below_took (taken.Progress token incoming) v ready = took_so v ready
below_took (taken.Final tag incoming) v ready = took_so v ready
below_took (taken.Closed cause) v ready = took_so (both_closed v) tt

below_any : (what : Option (Taken Unit)) (v : Relay) → IsReady v → Turns (took_any_below what v)
below_any None v ready = nothing_so v ready
below_any (Some what) v ready = below_took what v ready

below_turns : (v : Relay) → IsReady v → Turns (turned_below v)
unfolding turned_below
below_turns v ready = by_flag (takes_below v.bind v.upper)
  where
    by_flag : (flag : Bool) → Turns (cond {A = ValueTurn × Relay} flag (took_any_below (next_taken v.lower).0 (with_lower (next_taken v.lower).1 v)) (Nothing, v))
    by_flag true = below_any (next_taken v.lower).0 (with_lower (next_taken v.lower).1 v) ready
    by_flag false = nothing_so v ready

-- ---- from above

hello_ready : (bind : Bind) (incoming : Incoming) (v : Relay) → IsReady v → IsReady (hello_taken incoming (before_hello bind v))
hello_ready Unbound incoming v ready = ready
hello_ready Opening incoming v ready = tt
hello_ready Bound incoming v ready = ready
hello_ready Closed incoming v ready = ready

answered_upper : (token : Option (List ℕ)) (body : List ℕ) (v : Relay) → (redirect_answered token body v).upper ≡ v.upper
answered_upper None body v = refl
answered_upper (Some token) body v = refl

gone_ready : (bind : Bind) (v : Relay) → IsReady v → IsShutAbove v.upper → IsReady (ended_in bind v)
gone_ready Unbound v ready shut = ready
gone_ready Opening v ready shut = subst IsShutAbove (sym (answered_upper v.redirect redirect_failed v)) shut
gone_ready Bound v ready shut = tt
gone_ready Closed v ready shut = ready

above_took : (next : Option (Taken ForwardedValue) × Upper) (v : Relay) → ShutBy next → IsReadyIn v.bind (Some next.1) → Turns (took_any_above next.0 (with_upper next.1 v))
above_took (None, e) v shut ready = nothing_so (with_upper e v) ready
above_took (Some (taken.Hello incoming), e) v shut ready = took_so _ (hello_ready v.bind incoming (with_upper e v) ready)
above_took (Some (taken.Command incoming), e) v shut ready = took_so _ (ready_in v.bind (Some e) (Some (not_recognised (reading incoming.raw) e)) (refused_shut (reading incoming.raw) e) ready)
above_took (Some (taken.Event incoming), e) v shut ready = took_so _ ready
above_took (Some (taken.Progress token incoming), e) v shut ready = took_so _ ready
above_took (Some (taken.Final tag incoming), e) v shut ready = took_so _ ready
above_took (Some (taken.Closed cause), e) v shut ready = took_so _ (gone_ready v.bind (with_upper e v) ready shut)

next_ready : (bind : Bind) (e : Upper) → IsReadyIn bind (Some e) → IsReadyIn bind (Some (next_taken e).1)
next_ready bind e ready = ready_in bind (Some e) (Some (next_taken e).1) (λ s. subst (λ (next : Option (Taken ForwardedValue) × Upper). IsShut next.1) (sym (shut_takes e s)) s) ready

on_turns : (upper : Option Upper) (v : Relay) → v.upper ≡ upper → IsReady v → Turns (turned_on upper v)
on_turns None v is ready = nothing_so v ready
on_turns (Some e) v is ready = above_took (next_taken e) v (from_shut e.inbox e) (next_ready v.bind e (subst (IsReadyIn v.bind) is ready))

above_turns : (v : Relay) → IsReady v → Turns (turned_above v)
unfolding turned_above
above_turns v ready = by_flag (takes_above v.bind)
  where
    by_flag : (flag : Bool) → Turns (cond {A = ValueTurn × Relay} flag (turned_on v.upper v) (Nothing, v))
    by_flag true = on_turns v.upper v refl ready
    by_flag false = nothing_so v ready

pub turns_so : (side : Side) (v : Relay) → IsReady v → Turns (turned_at side v)
turns_so Below v ready = below_turns v ready
turns_so Above v ready = above_turns v ready

-- ---- What else is done with a value-add

abbrev pub IsReadyAdd : ValueValue → Type 0
IsReadyAdd value = IsReady value.relay

pub new_ready : (peer : List ℕ) → IsReady (new_relay peer)
new_ready peer = tt

came_ready : (side : Side) (piece : List ℕ) (mark : Option ℕ) (v : Relay) → IsReady v → IsReady (came_at side piece mark v)
came_ready Below piece mark v ready = ready
came_ready Above piece mark v ready = ready_in v.bind v.upper (option_map (end_delivered piece mark) v.upper) (mapped_shut (end_delivered piece mark) (delivered_shut piece mark) v.upper) ready

pub parts_ready : (side : Side) (parts : List Outgoing) (value : ValueValue) → IsReadyAdd value → IsReadyAdd (parts_came side parts value)
parts_ready side [] value ready = ready
parts_ready side (part ∷ parts) value ready = parts_ready side parts (value_came side part.bytes part.mark value) (came_ready side part.bytes part.mark value.relay ready)

gone_at : (side : Side) (v : Relay) → IsReady v → IsReady (ended_at side v)
gone_at Below v ready = ready
gone_at Above v ready = ready_in v.bind v.upper (option_map end_ended v.upper) (mapped_shut end_ended ended_shut v.upper) ready

pub ended_ready : (side : Side) (value : ValueValue) → IsReadyAdd value → IsReadyAdd (value_ended side value)
ended_ready side value ready = by_flag value.is_spent
  where
    by_flag : (flag : Bool) → IsReadyAdd (cond flag value (with_relay (ended_at side value.relay) value))
    by_flag true = ready
    by_flag false = gone_at side value.relay ready

emptied_at : (side : Side) (v : Relay) → IsReady v → IsReady (emptied_on side v)
emptied_at Below v ready = ready
emptied_at Above v ready =
    ready_in v.bind v.upper (option_map without_queue v.upper) (mapped_shut without_queue (λ e s. record { closed = s.closed; inbox = s.inbox; stop = s.stop }) v.upper) ready

pub emptied_ready : (side : Side) (value : ValueValue) → IsReadyAdd value → IsReadyAdd (emptied side value)
emptied_ready side value ready = by_flag value.is_spent
  where
    by_flag : (flag : Bool) → IsReadyAdd (cond flag value (record value { relay = emptied_on side value.relay }))
    by_flag true = ready
    by_flag false = emptied_at side value.relay ready

opening_ready : (bind : Bind) (upper : Option Upper) (other : Bool) → (is_opening bind && other) ≡ true → IsReadyIn bind upper
opening_ready Unbound upper other is = absurd cc
opening_ready Opening upper other is = tt
opening_ready Bound upper other is = tt
opening_ready Closed upper other is = tt

pub connected_ready : (value : ValueValue) → IsReadyAdd value → IsReadyAdd (value_connected value)
connected_ready value ready = by_flag (awaits value.relay) refl
  where
    by_flag : (flag : Bool) → awaits value.relay ≡ flag → IsReadyAdd (cond flag (with_relay (connected_to value.relay) value) value)
    by_flag true is = opening_ready value.relay.bind (Some (new_end value_services None)) (is_free value.relay.upper) is
    by_flag false is = ready

-- ---- One that waits goes on waiting while what it queued goes out

awaits_on : (side : Side) (v : Relay) → awaits (emptied_on side v) ≡ awaits v
awaits_on Below v = refl
awaits_on Above v = ap (λ b. is_opening v.bind && b) (still_free v.upper)

pub awaits_emptied : (side : Side) (value : ValueValue) → awaits (emptied side value).relay ≡ awaits value.relay
awaits_emptied side value = by_flag value.is_spent
  where
    by_flag : (flag : Bool) → awaits (cond flag value (record value { relay = emptied_on side value.relay })).relay ≡ awaits value.relay
    by_flag true = refl
    by_flag false = awaits_on side value.relay
