-- A value-add that doesn't wait for a connection goes on so, until it is to connect.
use Rattle.std.proofs.Common.{◌≡◌, ℕ, Bool, true, false, ◌&&◌, cond, List, [], ◌∷◌, Option, Some, None, Result, Ok, Err, refl, sym, ap, ◌∙◌}
use Rattle.std.specs.Prelude.{option_map}
use Rattle.channel_core.specs.Receiving.{delivered as end_delivered, ended as end_ended}
use Rattle.channel_core.specs.Sending.{commanded, refusal_of}
use Rattle.channel_core.specs.Taking.{closes, next_taken}
use Rattle.channel_core.specs.declared.held.Incoming.{Incoming}
use Rattle.channel_core.specs.declared.held.Outgoing.{Outgoing}
use Rattle.channel_core.specs.declared.sending.SendRefusal.{SendRefusal}
use Rattle.channel_core.specs.declared.taking.Taken.{Taken}
use Rattle.channel_core.specs.declared.taking.Taken.TheVariants as taken
use Rattle.tcf_message.specs.Message.{MessageValue, command, event, final, flow, not_known, progress, reading}
use Rattle.tcf_message.specs.declared.message.MessageFault.{MessageFault}
use Rattle.tcf_values.specs.declared.command.Command.{Command}
use Rattle.value_node.specs.ForwardedValue.{ForwardedValue, tagged}
use Rattle.value_node.specs.Own.{own_reply}
use Rattle.value_node.specs.Passing.{Upper, not_recognised}
use Rattle.value_node.specs.Store.{answer_to, used_by}
use Rattle.value_node.specs.Value.{answered, answered_or_forwarded, asked, asked_bound, asked_in, asked_of_store, awaits, before_hello, came as value_came, came_at, command_of, connected as value_connected, connected_to, ended as value_ended, ended_at, ended_in, forwarded_as, hello_taken, is_free, is_free_to_answer, is_opening, sent_above, sent_unless, takes_above, takes_below, took_any_above, took_any_below, took_below, turned_above, turned_at, turned_below, turned_on, with_lower, with_relay, with_upper}
use Rattle.value_node.specs.ValueValue.{ValueValue}
use Rattle.value_node.specs.declared.own.Own.{Own}
use Rattle.value_node.specs.declared.own.Own.TheVariants as own
use Rattle.value_node.specs.declared.relay.Relay.{Relay}
use Rattle.value_node.specs.declared.states.Bind.{Bind}
use Rattle.value_node.specs.declared.states.Bind.TheVariants.{Unbound, Opening, Bound, Closed}
use Rattle.value_node.specs.declared.states.Side.{Side}
use Rattle.value_node.specs.declared.states.Side.TheVariants.{Below, Above}
use Rattle.value_node.specs.declared.states.ValueTurn.{ValueTurn}
use Rattle.value_node.specs.declared.states.ValueTurn.TheVariants.{Nothing, Connect}
use Rattle.chain_route.specs.Passing.{emptied, parts_came}
use Rattle.chain_world.proofs.Opened.{ended_open, open_takes, refused_open}
use Rattle.chain_world.proofs.Waiting.{awaits_emptied}
use Rattle.channel_core.proofs.ClosingSo.{delivered_open}

abbrev pub IsSettled : Relay → Type 0
IsSettled v = awaits v ≡ false

abbrev IsSettledIn : Bind → Option Upper → Type 0
IsSettledIn bind upper = (is_opening bind && is_free upper) ≡ false

settled_in : (bind : Bind) (upper next : Option Upper) → (is_free upper ≡ false → is_free next ≡ false) → IsSettledIn bind upper → IsSettledIn bind next
settled_in Unbound upper next keeps s = refl
settled_in Opening upper next keeps s = keeps s
settled_in Bound upper next keeps s = refl
settled_in Closed upper next keeps s = refl

-- ---- It takes an entry

abbrev pub SettlesSo : ValueTurn × Relay → Type 0
SettlesSo turn = (turn.0 ≡ Connect → ⊥) → IsSettled turn.1

answered_settles : (token : List ℕ) (what : Own) (v : Relay) → IsSettled v → SettlesSo (answered token what v)
answered_settles token own.Unknown v s isnt = s
answered_settles token (own.Result body) v s isnt = s
answered_settles token own.Connect v s isnt = absurd (isnt refl)

bound_settled : (bind : Bind) (upper : Option Upper) → bind ≡ Bound → IsSettledIn bind upper
bound_settled Unbound upper is = refl
bound_settled Opening upper is = absurd cc
bound_settled Bound upper is = refl
bound_settled Closed upper is = refl

unless_settled : (why : Option SendRefusal) (service name body : List ℕ) (forwarded : ForwardedValue) (mark : Option ℕ) (e : Upper) (v : Relay) → v.bind ≡ Bound
    → IsSettled (sent_unless why service name body forwarded mark e v)
unless_settled None service name body forwarded mark e v is = bound_settled v.bind (Some (commanded service name body forwarded mark e)) is
unless_settled (Some why) service name body forwarded mark e v is = refl

sent_settled : (upper : Option Upper) (service name body : List ℕ) (forwarded : ForwardedValue) (mark : Option ℕ) (v : Relay) → v.bind ≡ Bound → IsSettled (sent_above upper service name body forwarded mark v)
sent_settled None service name body forwarded mark v is = refl
sent_settled (Some e) service name body forwarded mark v is = unless_settled (refusal_of _ e) service name body forwarded mark e v is

stored_settled : (reply : Option (List ℕ)) (known : Option Command) (token service name body : List ℕ) (mark : Option ℕ) (v : Relay) → v.bind ≡ Bound
    → IsSettled (answered_or_forwarded reply known token service name body mark v)
stored_settled None known token service name body mark v is = sent_settled v.upper service name body (tagged token known) mark v is
stored_settled (Some reply) known token service name body mark v is = bound_settled v.bind v.upper is

bound_settles : (token service name body : List ℕ) (mark : Option ℕ) (v : Relay) → v.bind ≡ Bound → IsSettled (asked_bound token service name body mark v)
bound_settles token service name body mark v is = by_flag (is_free_to_answer v.upper) (command_of service name body)
  where
    by_flag : (flag : Bool) (known : Option Command) → IsSettled (cond flag (asked_of_store known token service name body mark v) (forwarded_as known token service name body mark v))
    by_flag true known = stored_settled (answer_to known v.store) known token service name body mark (record v { store = used_by known v.store }) is
    by_flag false known = sent_settled v.upper service name body (tagged token known) mark v is

in_settles : (bind : Bind) (token service name body : List ℕ) (mark : Option ℕ) (v : Relay) → v.bind ≡ bind → IsSettled v → SettlesSo (asked_in bind token service name body mark v)
in_settles Unbound token service name body mark v is s isnt = answered_settles token (own_reply v.peer service name body) v s isnt
in_settles Opening token service name body mark v is s isnt = s
in_settles Bound token service name body mark v is s isnt = bound_settles token service name body mark v is
in_settles Closed token service name body mark v is s isnt = s

asked_settles : (what : Result MessageValue MessageFault) (mark : Option ℕ) (v : Relay) → IsSettled v → SettlesSo (asked what mark v)
asked_settles (Ok (command token service name body)) mark v s isnt = in_settles v.bind token service name body mark v refl s isnt
asked_settles (Ok (final token body)) mark v s isnt = s
asked_settles (Ok (progress token body)) mark v s isnt = s
asked_settles (Ok (not_known token)) mark v s isnt = s
asked_settles (Ok (event service name body)) mark v s isnt = s
asked_settles (Ok (flow level)) mark v s isnt = s
asked_settles (Err fault) mark v s isnt = s

below_took : (what : Taken Unit) (v : Relay) → IsSettled v → SettlesSo (took_below what v)
below_took (taken.Hello incoming) v s isnt = s
below_took (taken.Command incoming) v s isnt = asked_settles (reading incoming.raw) incoming.mark v s isnt
below_took (taken.Event incoming) v s isnt = s
below_took (taken.Progress token incoming) v s isnt = s
below_took (taken.Final tag incoming) v s isnt = s
below_took (taken.Closed cause) v s isnt = refl

below_any : (what : Option (Taken Unit)) (v : Relay) → IsSettled v → SettlesSo (took_any_below what v)
below_any None v s isnt = s
below_any (Some what) v s isnt = below_took what v s isnt

below_settles : (v : Relay) → IsSettled v → SettlesSo (turned_below v)
unfolding turned_below
below_settles v s = by_flag (takes_below v.bind v.upper)
  where
    by_flag : (flag : Bool) → SettlesSo (cond {A = ValueTurn × Relay} flag (took_any_below (next_taken v.lower).0 (with_lower (next_taken v.lower).1 v)) (Nothing, v))
    by_flag true = below_any (next_taken v.lower).0 (with_lower (next_taken v.lower).1 v) s
    by_flag false = λ isnt. s

-- ---- from above

hello_settled : (bind : Bind) (incoming : Incoming) (v : Relay) → IsSettled v → IsSettled (hello_taken incoming (before_hello bind v))
hello_settled Unbound incoming v s = s
hello_settled Opening incoming v s = refl
hello_settled Bound incoming v s = s
hello_settled Closed incoming v s = s

gone_settled : (bind : Bind) (v : Relay) → v.bind ≡ bind → IsSettled (ended_in bind v)
gone_settled Unbound v is = ap (λ b. is_opening b && is_free v.upper) is
gone_settled Opening v is = refl
gone_settled Bound v is = refl
gone_settled Closed v is = ap (λ b. is_opening b && is_free v.upper) is

above_took : (next : Option (Taken ForwardedValue) × Upper) (v : Relay) → (closes next.0 ≡ false → IsSettledIn v.bind (Some next.1)) → IsSettled (took_any_above next.0 (with_upper next.1 v)).1
above_took (None, e) v s = s refl
above_took (Some (taken.Hello incoming), e) v s = hello_settled v.bind incoming (with_upper e v) (s refl)
above_took (Some (taken.Command incoming), e) v s = settled_in v.bind (Some e) (Some (not_recognised (reading incoming.raw) e)) (refused_open (reading incoming.raw) e) (s refl)
above_took (Some (taken.Event incoming), e) v s = s refl
above_took (Some (taken.Progress token incoming), e) v s = s refl
above_took (Some (taken.Final tag incoming), e) v s = s refl
above_took (Some (taken.Closed cause), e) v s = gone_settled v.bind (with_upper e v) refl

on_settles : (upper : Option Upper) (v : Relay) → v.upper ≡ upper → IsSettled v → IsSettled (turned_on upper v).1
on_settles None v is s = s
on_settles (Some e) v is s =
    let here : IsSettledIn v.bind (Some e) = ap (λ u. is_opening v.bind && is_free u) (sym is) ∙ s in
    above_took (next_taken e) v (λ goes_on. settled_in v.bind (Some e) (Some (next_taken e).1) (λ opened. open_takes e opened ∙ goes_on) here)

above_settles : (v : Relay) → IsSettled v → SettlesSo (turned_above v)
unfolding turned_above
above_settles v s = by_flag (takes_above v.bind)
  where
    by_flag : (flag : Bool) → SettlesSo (cond {A = ValueTurn × Relay} flag (turned_on v.upper v) (Nothing, v))
    by_flag true = λ isnt. on_settles v.upper v refl s
    by_flag false = λ isnt. s

pub turn_settles : (side : Side) (v : Relay) → IsSettled v → SettlesSo (turned_at side v)
turn_settles Below v s = below_settles v s
turn_settles Above v s = above_settles v s

-- ---- What else is done with a value-add

abbrev pub IsSettledAdd : ValueValue → Type 0
IsSettledAdd value = IsSettled value.relay

mapped_free : (change : Upper → Upper) → ((e : Upper) → is_free (Some e) ≡ false → is_free (Some (change e)) ≡ false) → (upper : Option Upper) → is_free upper ≡ false → is_free (option_map change upper) ≡ false
mapped_free change keeps None opened = opened
mapped_free change keeps (Some e) opened = keeps e opened

came_settled : (side : Side) (piece : List ℕ) (mark : Option ℕ) (v : Relay) → IsSettled v → IsSettled (came_at side piece mark v)
came_settled Below piece mark v s = s
came_settled Above piece mark v s = settled_in v.bind v.upper (option_map (end_delivered piece mark) v.upper) (mapped_free (end_delivered piece mark) (delivered_open piece mark) v.upper) s

pub parts_settled : (side : Side) (parts : List Outgoing) (value : ValueValue) → IsSettledAdd value → IsSettledAdd (parts_came side parts value)
parts_settled side [] value s = s
parts_settled side (part ∷ parts) value s = parts_settled side parts (value_came side part.bytes part.mark value) (came_settled side part.bytes part.mark value.relay s)

gone_at : (side : Side) (v : Relay) → IsSettled v → IsSettled (ended_at side v)
gone_at Below v s = s
gone_at Above v s = settled_in v.bind v.upper (option_map end_ended v.upper) (mapped_free end_ended ended_open v.upper) s

pub ended_settled : (side : Side) (value : ValueValue) → IsSettledAdd value → IsSettledAdd (value_ended side value)
ended_settled side value s = by_flag value.is_spent
  where
    by_flag : (flag : Bool) → IsSettledAdd (cond flag value (with_relay (ended_at side value.relay) value))
    by_flag true = s
    by_flag false = gone_at side value.relay s

pub emptied_settled : (side : Side) (value : ValueValue) → IsSettledAdd value → IsSettledAdd (emptied side value)
emptied_settled side value s = awaits_emptied side value ∙ s

-- one that is connected waits no more
opening_or : (bind : Bind) → (is_opening bind && false) ≡ false
opening_or Unbound = refl
opening_or Opening = refl
opening_or Bound = refl
opening_or Closed = refl

pub connected_settled : (value : ValueValue) → IsSettledAdd (value_connected value)
connected_settled value = by_flag (awaits value.relay) refl
  where
    by_flag : (flag : Bool) → awaits value.relay ≡ flag → IsSettledAdd (cond flag (with_relay (connected_to value.relay) value) value)
    by_flag true is = opening_or value.relay.bind
    by_flag false is = is
