-- What a value-add does. Unbound, it answers itself; a redirect to its peer makes it Opening; the Hello from above binds it,
-- and then it passes on all that comes, but for what it can answer from what it has learned, until either side ends.
use Rattle.std.specs.Prelude.{ℕ, ◌≡◌, ◌⊎◌, ◌+◌, nat_lt, Bool, true, false, not, ◌&&◌, if◌then◌else◌, List, [], ◌∷◌, ◌++◌, codes, drop, length, slice_get, Option, Some, None, option_map, option_and_then, Result, Ok}
use Rattle.channel_core.specs.Beginning.{new_end, tag_of}
use Rattle.channel_core.specs.Closing.{closed_own, is_closed}
use Rattle.channel_core.specs.EndValue.{EndValue}
use Rattle.channel_core.specs.Receiving.{delivered as end_delivered, ended as end_ended, waiting_in}
use Rattle.channel_core.specs.Sending.{commanded, most_pending, queued, refusal_of}
use Rattle.channel_core.specs.Taking.{next_taken}
use Rattle.channel_core.specs.declared.held.Incoming.{Incoming}
use Rattle.channel_core.specs.declared.held.Outgoing.{Outgoing}
use Rattle.channel_core.specs.declared.sending.SendRefusal.{SendRefusal}
use Rattle.channel_core.specs.declared.taking.Taken.{Taken}
use Rattle.channel_core.specs.declared.taking.Taken.TheVariants as taken
use Rattle.command_tables.specs.Reading.{reading_of}
use Rattle.tcf_message.specs.Message.{MessageValue, command, final, not_known, reading}
use Rattle.tcf_message.specs.declared.message.MessageFault.{MessageFault}
use Rattle.tcf_values.specs.declared.command.Command.{Command}
use Rattle.value_node.specs.Barriers.{command_in, is_barred}
use Rattle.value_node.specs.ForwardedValue.{ForwardedValue, tagged}
use Rattle.value_node.specs.Own.{own_reply, redirect_done, redirect_failed}
use Rattle.value_node.specs.Passing.{Lower, Upper, event_passed, final_passed, not_recognised, progress_passed}
use Rattle.value_node.specs.Store.{StoreValue, answer_to, event_heard, final_heard, hello_heard, no_store, progress_heard, used_by}
use Rattle.value_node.specs.ValueValue.{ValueValue}
use Rattle.value_node.specs.declared.own.Own.{Own}
use Rattle.value_node.specs.declared.own.Own.TheVariants as own
use Rattle.value_node.specs.declared.relay.Relay.{Relay}
use Rattle.value_node.specs.declared.states.Bind.{Bind}
use Rattle.value_node.specs.declared.states.Bind.TheVariants.{Unbound, Opening, Bound, Closed}
use Rattle.value_node.specs.declared.states.Side.{Side}
use Rattle.value_node.specs.declared.states.Side.TheVariants.{Below, Above}
use Rattle.value_node.specs.declared.states.ValueTurn.{ValueTurn}
use Rattle.value_node.specs.declared.states.ValueTurn.TheVariants.{Nothing, Took, Connect}

-- ---- a new one: unbound, with its Hello below, which names the one service that it has itself

unfoldable pub value_services : List ℕ
value_services = codes "[\"Locator\"]" ++ 0 ∷ []

abbrev pub new_relay : List ℕ → Relay
new_relay peer = record { peer = peer; bind = Unbound; lower = new_end value_services None; upper = None; redirect = None; store = no_store }

abbrev pub with_lower : Lower → Relay → Relay
with_lower e v = record v { lower = e }

abbrev pub with_upper : Upper → Relay → Relay
with_upper e v = record v { upper = Some e }

-- ---- closing: each side that isn't closed yet is, with the end of its stream

abbrev pub both_closed : Relay → Relay
both_closed v = record v { bind = Closed; lower = closed_own v.lower; upper = option_map closed_own v.upper }

-- ---- an unbound value-add answers itself, without a mark; a redirect to its peer waits for that

abbrev pub answered : List ℕ → Own → Relay → ValueTurn × Relay
answered token own.Unknown v = (Took, with_lower (queued (not_known token) None v.lower) v)
answered token (own.Result body) v = (Took, with_lower (queued (final token body) None v.lower) v)
answered token own.Connect v = (Connect, record v { bind = Opening; redirect = Some token })

-- ---- a bound one sends a command above, with its data and its mark; its token below and what it is read as are kept. Where
-- the upper end has no token left, both sides are closed

abbrev pub command_of : List ℕ → List ℕ → List ℕ → Option Command
command_of service name body = command_in (reading_of service name body)

abbrev pub sent_unless : Option SendRefusal → List ℕ → List ℕ → List ℕ → ForwardedValue → Option ℕ → Upper → Relay → Relay
sent_unless None service name body forwarded mark e v = with_upper (commanded service name body forwarded mark e) v
sent_unless (Some why) service name body forwarded mark e v = both_closed v

abbrev pub sent_above : Option Upper → List ℕ → List ℕ → List ℕ → ForwardedValue → Option ℕ → Relay → Relay
sent_above None service name body forwarded mark v = both_closed v
sent_above (Some e) service name body forwarded mark v =
    sent_unless (refusal_of (length service + length name + length body) e) service name body forwarded mark e v

abbrev pub forwarded_as : Option Command → List ℕ → List ℕ → List ℕ → List ℕ → Option ℕ → Relay → Relay
forwarded_as known token service name body mark v = sent_above v.upper service name body (tagged token known) mark v

-- ---- or it answers it from the store, at the position that came last from above, while no barrier is pending there. The store
-- is asked only then

abbrev pub is_free_to_answer : Option Upper → Bool
is_free_to_answer None = false
is_free_to_answer (Some e) = not (is_barred e.pending)

abbrev pub answered_or_forwarded : Option (List ℕ) → Option Command → List ℕ → List ℕ → List ℕ → List ℕ → Option ℕ → Relay → Relay
answered_or_forwarded None known token service name body mark v = forwarded_as known token service name body mark v
answered_or_forwarded (Some reply) known token service name body mark v = with_lower (queued (final token reply) v.store.mark v.lower) v

abbrev pub asked_of_store : Option Command → List ℕ → List ℕ → List ℕ → List ℕ → Option ℕ → Relay → Relay
asked_of_store known token service name body mark v =
    answered_or_forwarded (answer_to known v.store) known token service name body mark (record v { store = used_by known v.store })

abbrev pub asked_bound : List ℕ → List ℕ → List ℕ → List ℕ → Option ℕ → Relay → Relay
asked_bound token service name body mark v =
    if is_free_to_answer v.upper
    then asked_of_store (command_of service name body) token service name body mark v
    else forwarded_as (command_of service name body) token service name body mark v

-- whether it is answered so, and the value-add then
abbrev pub answered_by : Option (List ℕ) → List ℕ → Relay → Bool × Relay
answered_by None token v = (false, v)
answered_by (Some reply) token v = (true, with_lower (queued (final token reply) v.store.mark v.lower) v)

abbrev pub answered_stored : List ℕ → Option Command → Relay → Bool × Relay
answered_stored token known v =
    if is_free_to_answer v.upper
    then answered_by (answer_to known v.store) token (record v { store = used_by known v.store })
    else (false, v)

-- ---- taking from below

abbrev pub asked_in : Bind → List ℕ → List ℕ → List ℕ → List ℕ → Option ℕ → Relay → ValueTurn × Relay
asked_in Unbound token service name body mark v = answered token (own_reply v.peer service name body) v
asked_in Opening token service name body mark v = (Took, v)
asked_in Bound token service name body mark v = (Took, asked_bound token service name body mark v)
asked_in Closed token service name body mark v = (Took, v)

abbrev pub asked : Result MessageValue MessageFault → Option ℕ → Relay → ValueTurn × Relay
asked (Ok (command token service name body)) mark v = asked_in v.bind token service name body mark v
asked _ mark v = (Took, v)

-- events are ignored
abbrev pub took_below : Taken Unit → Relay → ValueTurn × Relay
took_below (taken.Hello incoming) v = (Took, v)
took_below (taken.Command incoming) v = asked (reading incoming.raw) incoming.mark v
took_below (taken.Event incoming) v = (Took, v)
took_below (taken.Progress token incoming) v = (Took, v)
took_below (taken.Final tag incoming) v = (Took, v)
took_below (taken.Closed cause) v = (Took, both_closed v)

-- nothing is taken while a redirect is being done, nor while 1,024 commands are pending above
abbrev pub has_room : Option Upper → Bool
has_room None = false
has_room (Some e) = nat_lt (length e.pending) most_pending

abbrev pub takes_below : Bind → Option Upper → Bool
takes_below Unbound upper = true
takes_below Opening upper = false
takes_below Bound upper = has_room upper
takes_below Closed upper = false

abbrev pub took_any_below : Option (Taken Unit) → Relay → ValueTurn × Relay
took_any_below None v = (Nothing, v)
took_any_below (Some what) v = took_below what v

unfoldable pub turned_below : Relay → ValueTurn × Relay
turned_below v =
    if takes_below v.bind v.upper
    then (let next = next_taken v.lower in took_any_below next.0 (with_lower next.1 v))
    else (Nothing, v)

-- ---- taking from above

-- the redirect that is being done is answered, without a mark
abbrev pub redirect_answered : Option (List ℕ) → List ℕ → Relay → Relay
redirect_answered None body v = v
redirect_answered (Some token) body v = record v { lower = queued (final token body) None v.lower; redirect = None }

abbrev pub unbound_again : Relay → Relay
unbound_again v = record (redirect_answered v.redirect redirect_failed v) { bind = Unbound }

abbrev pub redirect_is_done : Relay → Relay
redirect_is_done v = record (redirect_answered v.redirect redirect_done v) { bind = Bound }

-- the Hello of a peer that is opened goes below behind the redirect's result
abbrev pub before_hello : Bind → Relay → Relay
before_hello Unbound v = v
before_hello Opening v = redirect_is_done v
before_hello Bound v = v
before_hello Closed v = v

-- what is kept of the command that the upper end has pending under this token
abbrev pub pending_above : ℕ → Option Upper → Option ForwardedValue
pending_above token upper = option_and_then (λ e. tag_of token e.pending) upper

-- what is passed on is learned too

abbrev pub with_store : StoreValue → Relay → Relay
with_store s v = record v { store = s }

abbrev pub event_taken : Incoming → Relay → Relay
event_taken incoming v =
    with_store (event_heard incoming.mark (reading incoming.raw) v.store) (with_lower (event_passed incoming.mark (reading incoming.raw) v.lower) v)

abbrev pub hello_taken : Incoming → Relay → Relay
hello_taken incoming v =
    with_store (hello_heard incoming.mark (reading incoming.raw) v.store) (with_lower (event_passed incoming.mark (reading incoming.raw) v.lower) v)

abbrev pub progress_taken : ℕ → Incoming → Relay → Relay
progress_taken token incoming v =
    with_store (progress_heard incoming.mark (reading incoming.raw) v.store)
    (with_lower (progress_passed (pending_above token v.upper) incoming.mark (reading incoming.raw) v.lower) v)

abbrev pub final_taken : ForwardedValue → Incoming → Relay → Relay
final_taken forwarded incoming v =
    with_store (final_heard forwarded.command incoming.mark (reading incoming.raw) v.store)
    (with_lower (final_passed forwarded incoming.mark (reading incoming.raw) v.lower) v)

abbrev pub ended_in : Bind → Relay → Relay
ended_in Unbound v = v
ended_in Opening v = unbound_again v
ended_in Bound v = both_closed v
ended_in Closed v = v

abbrev pub took_above : Taken ForwardedValue → Relay → Relay
took_above (taken.Hello incoming) v = hello_taken incoming (before_hello v.bind v)
took_above (taken.Command incoming) v = record v { upper = option_map (not_recognised (reading incoming.raw)) v.upper }
took_above (taken.Event incoming) v = event_taken incoming v
took_above (taken.Progress token incoming) v = progress_taken token incoming v
took_above (taken.Final forwarded incoming) v = final_taken forwarded incoming v
took_above (taken.Closed cause) v = ended_in v.bind v

abbrev pub took_any_above : Option (Taken ForwardedValue) → Relay → ValueTurn × Relay
took_any_above None v = (Nothing, v)
took_any_above (Some what) v = (Took, took_above what v)

abbrev pub turned_on : Option Upper → Relay → ValueTurn × Relay
turned_on None v = (Nothing, v)
turned_on (Some e) v = let next = next_taken e in took_any_above next.0 (with_upper next.1 v)

abbrev pub takes_above : Bind → Bool
takes_above Unbound = true
takes_above Opening = true
takes_above Bound = true
takes_above Closed = false

unfoldable pub turned_above : Relay → ValueTurn × Relay
turned_above v = if takes_above v.bind then turned_on v.upper v else (Nothing, v)

abbrev pub turned_at : Side → Relay → ValueTurn × Relay
turned_at Below v = turned_below v
turned_at Above v = turned_above v

abbrev pub waiting_on : Option Upper → ℕ
waiting_on None = 0
waiting_on (Some e) = waiting_in e

-- nothing is taken of a side exactly then: it isn't taken from now, or no entry waits
abbrev pub TakesNothing : Side → Relay → Type 0
TakesNothing Below v = (takes_below v.bind v.upper ≡ false) ⊎ (waiting_in v.lower ≡ 0)
TakesNothing Above v = (takes_above v.bind ≡ false) ⊎ (waiting_on v.upper ≡ 0)

-- ---- the connection to the peer, or that there is none

-- the upper end begins anew, and what an earlier one had to send is dropped
abbrev pub connected_to : Relay → Relay
connected_to v = record v { upper = Some (new_end value_services None) }

-- no upper end, or a closed one
abbrev pub is_free : Option Upper → Bool
is_free None = true
is_free (Some e) = is_closed e.state

-- ---- what comes

abbrev pub came_at : Side → List ℕ → Option ℕ → Relay → Relay
came_at Below piece mark v = with_lower (end_delivered piece mark v.lower) v
came_at Above piece mark v = record v { upper = option_map (end_delivered piece mark) v.upper }

abbrev pub ended_at : Side → Relay → Relay
ended_at Below v = with_lower (end_ended v.lower) v
ended_at Above v = record v { upper = option_map end_ended v.upper }

-- ---- what goes out

abbrev pub first_of : {T : Type 0} → EndValue T → Option Outgoing
first_of e = slice_get e.queued 0

abbrev pub without_first : {T : Type 0} → EndValue T → EndValue T
without_first e = record e { queued = drop 1 e.queued }

abbrev pub given_at : Side → Relay → Option Outgoing
given_at Below v = first_of v.lower
given_at Above v = option_and_then first_of v.upper

abbrev pub after_giving_at : Side → Relay → Relay
after_giving_at Below v = with_lower (without_first v.lower) v
after_giving_at Above v = record v { upper = option_map without_first v.upper }

-- ---- what can be asked

abbrev pub waiting_at : Side → Relay → ℕ
waiting_at Below v = waiting_in v.lower
waiting_at Above v = waiting_on v.upper

abbrev pub pending_on : Option Upper → ℕ
pending_on None = 0
pending_on (Some e) = length e.pending

-- ---- the value-add; after want of memory nothing is done any more

abbrev pub new_value : List ℕ → ValueValue
new_value peer = record { relay = new_relay peer; is_spent = false }

abbrev pub with_relay : Relay → ValueValue → ValueValue
with_relay v value = record value { relay = v }

abbrev pub came : Side → List ℕ → Option ℕ → ValueValue → ValueValue
came side piece mark value = with_relay (came_at side piece mark value.relay) value

abbrev pub ended : Side → ValueValue → ValueValue
ended side value = if value.is_spent then value else with_relay (ended_at side value.relay) value

abbrev pub turned : Side → ValueValue → ValueTurn × ValueValue
turned side value = let turn = turned_at side value.relay in (turn.0, with_relay turn.1 value)

abbrev pub is_opening : Bind → Bool
is_opening Unbound = false
is_opening Opening = true
is_opening Bound = false
is_opening Closed = false

-- it waits for a connection
abbrev pub awaits : Relay → Bool
awaits v = is_opening v.bind && is_free v.upper

-- where it doesn't wait for a connection, nothing happens
abbrev pub connected : ValueValue → ValueValue
connected value = if awaits value.relay then with_relay (connected_to value.relay) value else value

abbrev pub connect_failed : ValueValue → ValueValue
connect_failed value = if awaits value.relay then with_relay (unbound_again value.relay) value else value

abbrev pub given : Side → ValueValue → Option Outgoing
given side value = if value.is_spent then None else given_at side value.relay

abbrev pub after_giving : Side → ValueValue → ValueValue
after_giving side value = if value.is_spent then value else with_relay (after_giving_at side value.relay) value
