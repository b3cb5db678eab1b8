-- A value-add begins to wait for a connection only when it takes a redirect: nothing else that it does makes it wait.
use Rattle.std.proofs.Common.{◌≡◌, ℕ, ◌+◌, ◌&&◌, Bool, true, false, cond, List, [], ◌∷◌, ◌++◌, length, Option, Some, None, refl, sym, ap, ◌∙◌, subst}
use Rattle.std.specs.Prelude.{Err, Ok, Result, option_map}
use Rattle.std.proofs.lemmas.Bool.{and_parts, and_from}
use Rattle.channel_core.specs.Closing.{is_closed}
use Rattle.channel_core.specs.Receiving.{delivered}
use Rattle.channel_core.specs.Runs.{delivering}
use Rattle.channel_core.specs.Sending.{queued, refusal_of}
use Rattle.channel_core.specs.Taking.{closes, next_taken}
use Rattle.channel_core.specs.Wire.{said}
use Rattle.channel_core.specs.declared.held.Outgoing.{Outgoing}
use Rattle.channel_core.specs.declared.sending.SendRefusal.{SendRefusal}
use Rattle.channel_core.specs.declared.taking.Taken.{Taken}
use Rattle.channel_core.specs.declared.taking.Taken.TheVariants as taken
use Rattle.tcf_message.specs.Message.{MessageValue, command, event, final, flow, not_known, progress, reading}
use Rattle.tcf_message.specs.declared.message.MessageFault.{MessageFault}
use Rattle.tcf_values.specs.declared.command.Command.{Command}
use Rattle.value_node.specs.ForwardedValue.{ForwardedValue, tagged}
use Rattle.value_node.specs.Own.{own_reply}
use Rattle.value_node.specs.Passing.{Lower, Upper, not_recognised}
use Rattle.value_node.specs.Runs.{UpperCall, comes, upper_after}
use Rattle.value_node.specs.Store.{answer_to, used_by}
use Rattle.value_node.specs.Value.{answered, answered_or_forwarded, asked, asked_bound, asked_in, asked_of_store, awaits, came, command_of, forwarded_as, is_free, is_free_to_answer, is_opening, sent_above, sent_unless, takes_above, takes_below, took_any_above, took_any_below, turned, turned_above, turned_below, turned_on, value_services, with_lower, with_upper}
use Rattle.value_node.specs.declared.own.Own.{Own}
use Rattle.value_node.specs.declared.own.Own.TheVariants as own
use Rattle.value_node.specs.declared.relay.Relay.{Relay}
use Rattle.value_node.specs.declared.states.Bind.{Bind}
use Rattle.value_node.specs.declared.states.Bind.TheVariants.{Unbound, Opening, Bound, Closed}
use Rattle.value_node.specs.declared.states.Side.{Side}
use Rattle.value_node.specs.declared.states.Side.TheVariants.{Below, Above}
use Rattle.value_node.specs.declared.states.ValueTurn.{ValueTurn}
use Rattle.value_node.specs.declared.states.ValueTurn.TheVariants.{Nothing, Connect}
use Rattle.chain_route.specs.Carrying.{Made, past_of, value_of}
use Rattle.chain_route.specs.Passing.{parts_came}
use Rattle.channel_core.proofs.TheLaws.{closes_only_so}
use Rattle.chain_route.proofs.Adds.{facts_of, with_call}
use Rattle.chain_route.proofs.Moving.{call_value}
use Rattle.list_laws.proofs.Flags.{not_both}

-- ---- How its upper end closes

pub record ClosesSo (e : Upper) : Type 0 where
  pub by_taking : is_closed e.state ≡ false → is_closed (next_taken e).1.state ≡ closes (next_taken e).0
  pub by_coming : (piece : List ℕ) (mark : Option ℕ) → is_closed (delivered piece mark e).state ≡ is_closed e.state

closes_so : (m : Made) (e : Upper) → (value_of m).relay.upper ≡ Some e → ClosesSo e
closes_so m e is = by_connection (past_of m).connection ((facts_of m).upper)
  where
    by_connection : (connection : Option (List UpperCall)) → (value_of m).relay.upper ≡ option_map (λ calls. (upper_after calls).end) connection → ClosesSo e
    by_connection None has = let none : None ≡ Some e = sym has ∙ is in absurd cc
    by_connection (Some calls) has =
        let some : Some (upper_after calls).end ≡ Some e = sym has ∙ is in
        let same : (upper_after calls).end ≡ e = cc in
        let so = closes_only_so value_services None calls in
        subst ClosesSo same (record { by_taking = so.by_taking; by_coming = λ piece mark. so.by_others (delivering piece mark) refl })

-- ---- Bytes come

came_waits : (side : Side) (piece : List ℕ) (mark : Option ℕ) (m : Made) → awaits (came side piece mark (value_of m)).relay ≡ awaits (value_of m).relay
came_waits Below piece mark m = refl
came_waits Above piece mark m = ap (λ b. is_opening (value_of m).relay.bind && b) (by_upper (value_of m).relay.upper refl)
  where
    by_upper : (upper : Option Upper) → (value_of m).relay.upper ≡ upper → is_free (option_map (delivered piece mark) upper) ≡ is_free upper
    by_upper None is = refl
    by_upper (Some e) is = (closes_so m e is).by_coming piece mark

pub parts_wait : (parts : List Outgoing) (side : Side) (m : Made) → awaits (parts_came side parts (value_of m)).relay ≡ awaits (value_of m).relay
parts_wait [] side m = refl
parts_wait (part ∷ parts) side m =
    let call = comes side part.bytes part.mark in
    ap (λ v. awaits (parts_came side parts v).relay) (sym (call_value call m))
    ∙ parts_wait parts side (with_call call m)
    ∙ ap (λ v. awaits v.relay) (call_value call m)
    ∙ came_waits side part.bytes part.mark m

-- ---- It takes from below: only a redirect makes it wait

-- it waited before
abbrev Waited : ValueTurn × Relay → Relay → Type 0
Waited next v = (next.0 ≡ Connect → ⊥) → awaits next.1 ≡ true → awaits v ≡ true

abbrev IsUnopened : Relay → Type 0
IsUnopened v = is_opening v.bind ≡ false

abbrev bound : Relay → Relay
bound v = record v { bind = Bound }

unless_unopened : (why : Option SendRefusal) (service name body : List ℕ) (forwarded : ForwardedValue) (mark : Option ℕ) (e : Upper) (v : Relay) → IsUnopened (sent_unless why service name body forwarded mark e (bound v))
unless_unopened None service name body forwarded mark e v = refl
unless_unopened (Some why) service name body forwarded mark e v = refl

above_unopened : (upper : Option Upper) (service name body : List ℕ) (forwarded : ForwardedValue) (mark : Option ℕ) (v : Relay) → IsUnopened (sent_above upper service name body forwarded mark (bound v))
above_unopened None service name body forwarded mark v = refl
above_unopened (Some e) service name body forwarded mark v = unless_unopened (refusal_of (length service + length name + length body) e) service name body forwarded mark e v

forwarded_unopened : (known : Option Command) (token service name body : List ℕ) (mark : Option ℕ) (v : Relay) → IsUnopened (forwarded_as known token service name body mark (bound v))
forwarded_unopened known token service name body mark v = above_unopened v.upper service name body (tagged token known) mark v

answered_unopened : (reply : Option (List ℕ)) (known : Option Command) (token service name body : List ℕ) (mark : Option ℕ) (v : Relay) → IsUnopened (answered_or_forwarded reply known token service name body mark (bound v))
answered_unopened None known token service name body mark v = forwarded_unopened known token service name body mark v
answered_unopened (Some reply) known token service name body mark v = refl

bound_unopened : (token service name body : List ℕ) (mark : Option ℕ) (v : Relay) → IsUnopened (asked_bound token service name body mark (bound v))
bound_unopened token service name body mark v = by_flag (is_free_to_answer v.upper)
  where
    known : Option Command
    known = command_of service name body

    by_flag : (flag : Bool) → IsUnopened (cond flag (asked_of_store known token service name body mark (bound v)) (forwarded_as known token service name body mark (bound v)))
    by_flag true = answered_unopened (answer_to known v.store) known token service name body mark (record v { store = used_by known v.store })
    by_flag false = forwarded_unopened known token service name body mark v

answered_keeps : (token : List ℕ) (o : Own) (v : Relay) → Waited (answered token o (record v { bind = Unbound })) (record v { bind = Unbound })
answered_keeps token own.Unknown v unless is = absurd cc
answered_keeps token (own.Result body) v unless is = absurd cc
answered_keeps token own.Connect v unless is = absurd (unless refl)

in_keeps : (bind : Bind) (token service name body : List ℕ) (mark : Option ℕ) (v : Relay) → Waited (asked_in bind token service name body mark (record v { bind = bind })) (record v { bind = bind })
in_keeps Unbound token service name body mark v unless is = answered_keeps token (own_reply v.peer service name body) v unless is
in_keeps Opening token service name body mark v unless is = is
in_keeps Bound token service name body mark v unless is =
    let next = asked_bound token service name body mark (bound v) in
    absurd (not_both (and_parts (is_opening next.bind) (is_free next.upper) is).0 (bound_unopened token service name body mark v))
in_keeps Closed token service name body mark v unless is = is

asked_keeps : (m : Result MessageValue MessageFault) (mark : Option ℕ) (v : Relay) → Waited (asked m mark v) v
asked_keeps (Ok (command token service name body)) mark v unless is = in_keeps v.bind token service name body mark v unless is
asked_keeps (Ok (final token body)) mark v unless is = is
asked_keeps (Ok (progress token body)) mark v unless is = is
asked_keeps (Ok (not_known token)) mark v unless is = is
asked_keeps (Ok (event service name body)) mark v unless is = is
asked_keeps (Ok (flow level)) mark v unless is = is
asked_keeps (Err fault) mark v unless is = is

any_keeps : (what : Option (Taken Unit)) (v : Relay) → Waited (took_any_below what v) v
any_keeps None v unless is = is
any_keeps (Some (taken.Hello incoming)) v unless is = is
any_keeps (Some (taken.Command incoming)) v unless is = asked_keeps (reading incoming.raw) incoming.mark v unless is
any_keeps (Some (taken.Event incoming)) v unless is = is
any_keeps (Some (taken.Progress token incoming)) v unless is = is
any_keeps (Some (taken.Final tag incoming)) v unless is = is
any_keeps (Some (taken.Closed cause)) v unless is = absurd cc

below_keeps : (v : Relay) → Waited (turned_below v) v
unfolding turned_below
below_keeps v unless is = by_flag (takes_below v.bind v.upper) unless is
  where
    next : Option (Taken Unit) × Lower
    next = next_taken v.lower

    by_flag : (flag : Bool) → Waited (cond flag (took_any_below next.0 (with_lower next.1 v)) (Nothing, v)) v
    by_flag true unless is = any_keeps next.0 (with_lower next.1 v) unless is
    by_flag false unless is = is

-- ---- It takes from above: where it waits then, it was opening, its end was free, and the entry didn't close that

record Waits (what : Option (Taken ForwardedValue)) (bind : Bind) (v : Relay) : Type 0 where
  opening : is_opening bind ≡ true
  free : is_free v.upper ≡ true
  unclosed : closes what ≡ false

-- nothing but the end of it changes
as_before : (what : Option (Taken ForwardedValue)) (bind : Bind) (v : Relay) → closes what ≡ false → awaits (record v { bind = bind }) ≡ true → Waits what bind v
as_before what bind v unclosed is = let parts = and_parts (is_opening bind) (is_free v.upper) is in record { opening = parts.0; free = parts.1; unclosed = unclosed }

queued_free : (m : MessageValue) (mark : Option ℕ) (e : Upper) → is_closed (queued m mark e).state ≡ is_closed e.state
queued_free m mark e = by_flag (is_closed e.state)
  where
    by_flag : (flag : Bool) → is_closed (cond flag e (record e { queued = e.queued ++ said m mark ∷ [] })).state ≡ is_closed e.state
    by_flag true = refl
    by_flag false = refl

recognised_free : (m : Result MessageValue MessageFault) (upper : Option Upper) → is_free (option_map (not_recognised m) upper) ≡ is_free upper
recognised_free m None = refl
recognised_free (Ok (command token service name body)) (Some e) = queued_free (not_known token) None e
recognised_free (Ok (final token body)) (Some e) = refl
recognised_free (Ok (progress token body)) (Some e) = refl
recognised_free (Ok (not_known token)) (Some e) = refl
recognised_free (Ok (event service name body)) (Some e) = refl
recognised_free (Ok (flow level)) (Some e) = refl
recognised_free (Err fault) (Some e) = refl

above_waits : (what : Option (Taken ForwardedValue)) (bind : Bind) (v : Relay) → awaits (took_any_above what (record v { bind = bind })).1 ≡ true → Waits what bind v
above_waits None bind v is = as_before None bind v refl is
above_waits (Some (taken.Hello incoming)) Unbound v is = absurd cc
above_waits (Some (taken.Hello incoming)) Opening v is = absurd cc
above_waits (Some (taken.Hello incoming)) Bound v is = absurd cc
above_waits (Some (taken.Hello incoming)) Closed v is = absurd cc
above_waits (Some (taken.Command incoming)) bind v is =
    as_before (Some (taken.Command incoming)) bind v refl (sym (ap (λ b. is_opening bind && b) (recognised_free (reading incoming.raw) v.upper)) ∙ is)
above_waits (Some (taken.Event incoming)) bind v is = as_before (Some (taken.Event incoming)) bind v refl is
above_waits (Some (taken.Progress token incoming)) bind v is = as_before (Some (taken.Progress token incoming)) bind v refl is
above_waits (Some (taken.Final forwarded incoming)) bind v is = as_before (Some (taken.Final forwarded incoming)) bind v refl is
above_waits (Some (taken.Closed cause)) Unbound v is = absurd cc
above_waits (Some (taken.Closed cause)) Opening v is = absurd cc
above_waits (Some (taken.Closed cause)) Bound v is = absurd cc
above_waits (Some (taken.Closed cause)) Closed v is = absurd cc

on_keeps : (upper : Option Upper) (v : Relay) → v.upper ≡ upper → ((e : Upper) → upper ≡ Some e → ClosesSo e) → awaits (turned_on upper v).1 ≡ true → awaits v ≡ true
on_keeps None v has so is = is
on_keeps (Some e) v has so is = by_flag (is_closed e.state) refl
  where
    next : Option (Taken ForwardedValue) × Upper
    next = next_taken e

    waits : Waits next.0 v.bind (with_upper next.1 v)
    waits = above_waits next.0 v.bind (with_upper next.1 v) is

    by_flag : (flag : Bool) → is_closed e.state ≡ flag → awaits v ≡ true
    by_flag true closed = and_from (is_opening v.bind) (is_free v.upper) waits.opening (ap is_free has ∙ closed)
    by_flag false opened = absurd (not_both waits.free ((so e refl).by_taking opened ∙ waits.unclosed))

above_keeps : (v : Relay) → ((e : Upper) → v.upper ≡ Some e → ClosesSo e) → awaits (turned_above v).1 ≡ true → awaits v ≡ true
unfolding turned_above
above_keeps v so is = by_flag (takes_above v.bind) is
  where
    by_flag : (flag : Bool) → awaits (cond flag (turned_on v.upper v) (Nothing, v)).1 ≡ true → awaits v ≡ true
    by_flag true is = on_keeps v.upper v refl so is
    by_flag false is = is

-- ---- A turn

pub turn_keeps : (side : Side) (m : Made)
    → ((turned side (value_of m)).0 ≡ Connect → ⊥) → awaits (turned side (value_of m)).1.relay ≡ true → awaits (value_of m).relay ≡ true
turn_keeps Below m unless is = below_keeps (value_of m).relay unless is
turn_keeps Above m unless is = above_keeps (value_of m).relay (closes_so m) is
