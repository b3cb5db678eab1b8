-- A value-add that takes an entry from a side has fewer there, or takes nothing from there any more.
use Rattle.std.proofs.Common.{◌≡◌, ℕ, suc, ◌<◌, ◌≤◌, Bool, true, false, cond, List, Option, Some, None, ◌⊎◌, inl, inr, refl, sym, ap, ◌∙◌, subst, arith}
use Rattle.std.specs.Prelude.{Err, Ok, Result, ◌+◌, ◌-◌, ◌^◌, length, option_map}
use Rattle.std.proofs.lemmas.Bool.{and_parts}
use Rattle.chain_route.specs.Passing.{emptied, emptied_on, without_queue}
use Rattle.channel_core.specs.Closing.{closed_own}
use Rattle.channel_core.specs.Sending.{queued, refusal_of}
use Rattle.channel_core.specs.Taking.{next_taken}
use Rattle.channel_core.specs.declared.sending.SendRefusal.{SendRefusal}
use Rattle.channel_core.specs.declared.taking.Taken.{Taken}
use Rattle.channel_core.specs.declared.taking.Taken.TheVariants as taken
use Rattle.tcf_message.specs.Message.{MessageValue, command, event, final, flow, not_known, progress, reading}
use Rattle.tcf_message.specs.declared.message.MessageFault.{MessageFault}
use Rattle.tcf_values.specs.declared.command.Command.{Command}
use Rattle.value_node.specs.ForwardedValue.{ForwardedValue, tagged}
use Rattle.value_node.specs.Own.{own_reply, redirect_done, redirect_failed}
use Rattle.value_node.specs.Passing.{Lower, Upper, not_recognised}
use Rattle.value_node.specs.Store.{answer_to, used_by}
use Rattle.value_node.specs.Value.{answered, answered_or_forwarded, asked, asked_bound, asked_in, asked_of_store, awaits, before_hello, command_of, connected as value_connected, connected_to, ended_in, forwarded_as, is_free, is_free_to_answer, is_opening, redirect_answered, sent_above, sent_unless, takes_above, takes_below, took_above, took_any_above, took_any_below, took_below, turned, turned_above, turned_below, turned_on, waiting_at, waiting_on, with_lower, with_relay, with_upper}
use Rattle.value_node.specs.ValueValue.{ValueValue}
use Rattle.value_node.specs.declared.own.Own.{Own}
use Rattle.value_node.specs.declared.own.Own.TheVariants as own
use Rattle.value_node.specs.declared.relay.Relay.{Relay}
use Rattle.value_node.specs.declared.states.Bind.{Bind}
use Rattle.value_node.specs.declared.states.Bind.TheVariants.{Unbound, Opening, Bound, Closed}
use Rattle.value_node.specs.declared.states.Side.{Side}
use Rattle.value_node.specs.declared.states.Side.TheVariants.{Below, Above}
use Rattle.value_node.specs.declared.states.ValueTurn.{ValueTurn}
use Rattle.value_node.specs.declared.states.ValueTurn.TheVariants.{Nothing}
use Rattle.chain_world.specs.Until.{TakesNoMore}
use Rattle.chain_world.proofs.Inboxes.{TakesOne, closed_entries, counted, entries, next_one, queued_rest, same_entries}

-- ---- The entries that wait at a side

abbrev upper_entries : Option Upper → ℕ
upper_entries None = 0
upper_entries (Some e) = entries e

abbrev pub entries_at : Side → Relay → ℕ
entries_at Below v = entries v.lower
entries_at Above v = upper_entries v.upper

abbrev pub takes_at : Side → Relay → Bool
takes_at Below v = takes_below v.bind v.upper
takes_at Above v = takes_above v.bind

-- it takes nothing from there, or so many wait there at most
abbrev pub HasAtMost : ℕ → Side → ValueValue → Type 0
HasAtMost n side v = (takes_at side v.relay ≡ false) ⊎ (entries_at side v.relay ≤ n)

le_same : {a b : ℕ} → a ≡ b → a ≤ b
le_same {a = a} is = subst (λ n. a ≤ n) is (omega arith)

le_then : (a b c : ℕ) → a ≤ b → suc b ≤ c → (n : ℕ) → c ≤ suc n → a ≤ n
le_then a b c p q n r = omega (arith, p, q, r)

none_within : (a n : ℕ) → a ≤ 0 → a ≤ n
none_within a n none = omega (arith, none)

-- ---- What is done with an entry from below leaves as many below

sent_lower : (why : Option SendRefusal) (service name body : List ℕ) (forwarded : ForwardedValue) (mark : Option ℕ) (e : Upper) (v : Relay) → entries (sent_unless why service name body forwarded mark e v).lower ≤ entries v.lower
sent_lower None service name body forwarded mark e v = omega arith
sent_lower (Some why) service name body forwarded mark e v = closed_entries v.lower

above_lower : (upper : Option Upper) (service name body : List ℕ) (forwarded : ForwardedValue) (mark : Option ℕ) (v : Relay) → entries (sent_above upper service name body forwarded mark v).lower ≤ entries v.lower
above_lower None service name body forwarded mark v = closed_entries v.lower
above_lower (Some e) service name body forwarded mark v = sent_lower (refusal_of (length service + length name + length body) e) service name body forwarded mark e v

reply_lower : (reply : Option (List ℕ)) (known : Option Command) (token service name body : List ℕ) (mark : Option ℕ) (v : Relay) → entries (answered_or_forwarded reply known token service name body mark v).lower ≤ entries v.lower
reply_lower None known token service name body mark v = above_lower v.upper service name body (tagged token known) mark v
reply_lower (Some reply) known token service name body mark v =
    let message = final token reply in same_entries (queued message v.store.mark v.lower) v.lower (queued_rest message v.store.mark v.lower)

bound_lower : (token service name body : List ℕ) (mark : Option ℕ) (v : Relay) → entries (asked_bound token service name body mark v).lower ≤ entries v.lower
bound_lower token service name body mark v = by_flag (is_free_to_answer v.upper)
  where
    known : Option Command
    known = command_of service name body

    by_flag : (flag : Bool) → entries (cond flag (asked_of_store known token service name body mark v) (forwarded_as known token service name body mark v)).lower ≤ entries v.lower
    by_flag true = reply_lower (answer_to known v.store) known token service name body mark (record v { store = used_by known v.store })
    by_flag false = above_lower v.upper service name body (tagged token known) mark v

answered_lower : (token : List ℕ) (o : Own) (v : Relay) → entries (answered token o v).1.lower ≤ entries v.lower
answered_lower token own.Unknown v = same_entries (queued (not_known token) None v.lower) v.lower (queued_rest (not_known token) None v.lower)
answered_lower token (own.Result body) v = same_entries (queued (final token body) None v.lower) v.lower (queued_rest (final token body) None v.lower)
answered_lower token own.Connect v = omega arith

asked_in_lower : (bind : Bind) (token service name body : List ℕ) (mark : Option ℕ) (v : Relay) → entries (asked_in bind token service name body mark v).1.lower ≤ entries v.lower
asked_in_lower Unbound token service name body mark v = answered_lower token (own_reply v.peer service name body) v
asked_in_lower Opening token service name body mark v = omega arith
asked_in_lower Bound token service name body mark v = bound_lower token service name body mark v
asked_in_lower Closed token service name body mark v = omega arith

asked_lower : (m : Result MessageValue MessageFault) (mark : Option ℕ) (v : Relay) → entries (asked m mark v).1.lower ≤ entries v.lower
asked_lower (Ok (command token service name body)) mark v = asked_in_lower v.bind token service name body mark v
asked_lower (Ok (final token body)) mark v = omega arith
asked_lower (Ok (progress token body)) mark v = omega arith
asked_lower (Ok (not_known token)) mark v = omega arith
asked_lower (Ok (event service name body)) mark v = omega arith
asked_lower (Ok (flow level)) mark v = omega arith
asked_lower (Err fault) mark v = omega arith

took_lower : (what : Taken Unit) (v : Relay) → entries (took_below what v).1.lower ≤ entries v.lower
took_lower (taken.Hello incoming) v = omega arith
took_lower (taken.Command incoming) v = asked_lower (reading incoming.raw) incoming.mark v
took_lower (taken.Event incoming) v = omega arith
took_lower (taken.Progress token incoming) v = omega arith
took_lower (taken.Final tag incoming) v = omega arith
took_lower (taken.Closed cause) v = closed_entries v.lower

-- ---- And from above, above

redirect_upper : (redirect : Option (List ℕ)) (body : List ℕ) (v : Relay) → (redirect_answered redirect body v).upper ≡ v.upper
redirect_upper None body v = refl
redirect_upper (Some token) body v = refl

hello_upper : (bind : Bind) (v : Relay) → (before_hello bind v).upper ≡ v.upper
hello_upper Unbound v = refl
hello_upper Opening v = redirect_upper v.redirect redirect_done v
hello_upper Bound v = refl
hello_upper Closed v = refl

unrecognised : (m : Result MessageValue MessageFault) (e : Upper) → entries (not_recognised m e) ≤ entries e
unrecognised (Ok (command token service name body)) e = same_entries (queued (not_known token) None e) e (queued_rest (not_known token) None e)
unrecognised (Ok (final token body)) e = omega arith
unrecognised (Ok (progress token body)) e = omega arith
unrecognised (Ok (not_known token)) e = omega arith
unrecognised (Ok (event service name body)) e = omega arith
unrecognised (Ok (flow level)) e = omega arith
unrecognised (Err fault) e = omega arith

asked_upper : (m : Result MessageValue MessageFault) (upper : Option Upper) → upper_entries (option_map (not_recognised m) upper) ≤ upper_entries upper
asked_upper m None = omega arith
asked_upper m (Some e) = unrecognised m e

closed_upper : (upper : Option Upper) → upper_entries (option_map closed_own upper) ≤ upper_entries upper
closed_upper None = omega arith
closed_upper (Some e) = closed_entries e

ended_upper : (bind : Bind) (v : Relay) → upper_entries (ended_in bind v).upper ≤ upper_entries v.upper
ended_upper Unbound v = omega arith
ended_upper Opening v = le_same (ap upper_entries (redirect_upper v.redirect redirect_failed v))
ended_upper Bound v = closed_upper v.upper
ended_upper Closed v = omega arith

took_upper : (what : Taken ForwardedValue) (v : Relay) → upper_entries (took_above what v).upper ≤ upper_entries v.upper
took_upper (taken.Hello incoming) v = le_same (ap upper_entries (hello_upper v.bind v))
took_upper (taken.Command incoming) v = asked_upper (reading incoming.raw) v.upper
took_upper (taken.Event incoming) v = omega arith
took_upper (taken.Progress token incoming) v = omega arith
took_upper (taken.Final forwarded incoming) v = omega arith
took_upper (taken.Closed cause) v = ended_upper v.bind v

-- ---- A turn

few_of : (flag : Bool) (a n : ℕ) → (flag ≡ false) ⊎ (a ≤ n) → flag ≡ true → a ≤ n
few_of flag a n (inl none) is = let no : true ≡ false = sym is ∙ none in absurd cc
few_of flag a n (inr few) is = few

turn_below : (n : ℕ) (v : Relay) → (takes_below v.bind v.upper ≡ false) ⊎ (entries v.lower ≤ suc n)
    → (takes_below (turned_below v).1.bind (turned_below v).1.upper ≡ false) ⊎ (entries (turned_below v).1.lower ≤ n)
unfolding turned_below
turn_below n v has = by_flag (takes_below v.bind v.upper) refl
  where
    HasLess : Relay → Type 0
    HasLess x = (takes_below x.bind x.upper ≡ false) ⊎ (entries x.lower ≤ n)

    by_next : (x : Option (Taken Unit) × Lower) → TakesOne v.lower x → entries v.lower ≤ suc n → HasLess (took_any_below x.0 (with_lower x.1 v)).1
    by_next (None, e) one few = inr (subst (λ end. entries end ≤ n) (sym one.0) (none_within (entries v.lower) n one.1))
    by_next (Some what, e) one few =
        let next = with_lower e v in
        inr (le_then (entries (took_below what next).1.lower) (entries e) (entries v.lower) (took_lower what next) one n few)

    by_flag : (flag : Bool) → takes_below v.bind v.upper ≡ flag
        → HasLess (cond {A = ValueTurn × Relay} flag (took_any_below (next_taken v.lower).0 (with_lower (next_taken v.lower).1 v)) (Nothing, v)).1
    by_flag true is = by_next (next_taken v.lower) (next_one v.lower) (few_of (takes_below v.bind v.upper) (entries v.lower) (suc n) has is)
    by_flag false is = inl is

turn_above : (n : ℕ) (v : Relay) → (takes_above v.bind ≡ false) ⊎ (upper_entries v.upper ≤ suc n)
    → (takes_above (turned_above v).1.bind ≡ false) ⊎ (upper_entries (turned_above v).1.upper ≤ n)
unfolding turned_above
turn_above n v has = by_flag (takes_above v.bind) refl
  where
    HasLess : Relay → Type 0
    HasLess x = (takes_above x.bind ≡ false) ⊎ (upper_entries x.upper ≤ n)

    by_next : (e : Upper) (x : Option (Taken ForwardedValue) × Upper) → TakesOne e x → entries e ≤ suc n → HasLess (took_any_above x.0 (with_upper x.1 v)).1
    by_next e (None, next) one few = inr (subst (λ end. entries end ≤ n) (sym one.0) (none_within (entries e) n one.1))
    by_next e (Some what, next) one few =
        let left = with_upper next v in
        inr (le_then (upper_entries (took_above what left).upper) (entries next) (entries e) (took_upper what left) one n few)

    by_upper : (upper : Option Upper) → v.upper ≡ upper → upper_entries v.upper ≤ suc n → HasLess (turned_on upper v).1
    by_upper None is few = inr (subst (λ u. upper_entries u ≤ n) (sym is) (omega arith))
    by_upper (Some e) is few = by_next e (next_taken e) (next_one e) (subst (λ u. upper_entries u ≤ suc n) is few)

    by_flag : (flag : Bool) → takes_above v.bind ≡ flag → HasLess (cond {A = ValueTurn × Relay} flag (turned_on v.upper v) (Nothing, v)).1
    by_flag true is = by_upper v.upper refl (few_of (takes_above v.bind) (upper_entries v.upper) (suc n) has is)
    by_flag false is = inl is

pub turn_has : (n : ℕ) (side : Side) (v : ValueValue) → HasAtMost (suc n) side v → HasAtMost n side (turned side v).1
turn_has n Below v has = turn_below n v.relay has
turn_has n Above v has = turn_above n v.relay has

-- ---- What it queued goes out, and it connects

takes_emptied : (bind : Bind) (upper : Option Upper) → takes_below bind (option_map without_queue upper) ≡ takes_below bind upper
takes_emptied Unbound upper = refl
takes_emptied Opening upper = refl
takes_emptied Bound None = refl
takes_emptied Bound (Some e) = refl
takes_emptied Closed upper = refl

upper_emptied : (upper : Option Upper) → upper_entries (option_map without_queue upper) ≡ upper_entries upper
upper_emptied None = refl
upper_emptied (Some e) = refl

either_has : (n : ℕ) (side : Side) (flag : Bool) (one other : ValueValue) → HasAtMost n side one → HasAtMost n side other → HasAtMost n side (cond flag one other)
either_has n side true one other has also = has
either_has n side false one other has also = also

on_side : (n : ℕ) (side gone : Side) (v : ValueValue) → HasAtMost n side v → HasAtMost n side (record v { relay = emptied_on gone v.relay })
on_side n Below Below v has = has
on_side n Below Above v (inl none) = inl (takes_emptied v.relay.bind v.relay.upper ∙ none)
on_side n Below Above v (inr few) = inr few
on_side n Above Below v has = has
on_side n Above Above v (inl none) = inl none
on_side n Above Above v (inr few) = inr (subst (λ m. m ≤ n) (sym (upper_emptied v.relay.upper)) few)

pub emptied_has : (n : ℕ) (side gone : Side) (v : ValueValue) → HasAtMost n side v → HasAtMost n side (emptied gone v)
emptied_has n side gone v has = either_has n side v.is_spent v (record v { relay = emptied_on gone v.relay }) has (on_side n side gone v has)

opening_takes : (bind : Bind) (upper : Option Upper) → is_opening bind ≡ true → takes_below bind upper ≡ false
opening_takes Unbound upper is = absurd cc
opening_takes Opening upper is = refl
opening_takes Bound upper is = absurd cc
opening_takes Closed upper is = absurd cc

connected_by : (n : ℕ) (side : Side) (v : ValueValue) → awaits v.relay ≡ true → HasAtMost n side (with_relay (connected_to v.relay) v)
connected_by n Below v is = inl (opening_takes v.relay.bind (connected_to v.relay).upper (and_parts (is_opening v.relay.bind) (is_free v.relay.upper) is).0)
connected_by n Above v is = inr (omega arith)

pub connected_has : (n : ℕ) (side : Side) (v : ValueValue) → HasAtMost n side v → HasAtMost n side (value_connected v)
connected_has n side v has = by_flag (awaits v.relay) refl
  where
    by_flag : (flag : Bool) → awaits v.relay ≡ flag → HasAtMost n side (cond flag (with_relay (connected_to v.relay) v) v)
    by_flag true is = connected_by n side v is
    by_flag false is = has

-- ---- At first, and in the end

pub all_has : (side : Side) (v : ValueValue) → waiting_at side v.relay < 2 ^ 64 - 1 → HasAtMost (waiting_at side v.relay) side v
all_has Below v few = inr (counted v.relay.lower few)
all_has Above v few = inr (by_upper v.relay.upper few)
  where
    by_upper : (upper : Option Upper) → waiting_on upper < 2 ^ 64 - 1 → upper_entries upper ≤ waiting_on upper
    by_upper None less = omega arith
    by_upper (Some e) less = counted e less

none_below : (v : Relay) → (takes_below v.bind v.upper ≡ false) ⊎ (entries v.lower ≤ 0) → (turned_below v).0 ≡ Nothing
unfolding turned_below
none_below v has = by_flag (takes_below v.bind v.upper) refl
  where
    by_next : (x : Option (Taken Unit) × Lower) → TakesOne v.lower x → entries v.lower ≤ 0 → (took_any_below x.0 (with_lower x.1 v)).0 ≡ Nothing
    by_next (None, e) one few = refl
    by_next (Some what, e) one few = absurd (none_left (entries e) (entries v.lower) one few)
      where
        none_left : (a b : ℕ) → suc a ≤ b → b ≤ 0 → ⊥
        none_left a b p q = omega (arith, p, q)

    by_flag : (flag : Bool) → takes_below v.bind v.upper ≡ flag
        → (cond {A = ValueTurn × Relay} flag (took_any_below (next_taken v.lower).0 (with_lower (next_taken v.lower).1 v)) (Nothing, v)).0 ≡ Nothing
    by_flag true is = by_next (next_taken v.lower) (next_one v.lower) (few_of (takes_below v.bind v.upper) (entries v.lower) 0 has is)
    by_flag false is = refl

none_above : (v : Relay) → (takes_above v.bind ≡ false) ⊎ (upper_entries v.upper ≤ 0) → (turned_above v).0 ≡ Nothing
unfolding turned_above
none_above v has = by_flag (takes_above v.bind) refl
  where
    by_next : (e : Upper) (x : Option (Taken ForwardedValue) × Upper) → TakesOne e x → entries e ≤ 0 → (took_any_above x.0 (with_upper x.1 v)).0 ≡ Nothing
    by_next e (None, next) one few = refl
    by_next e (Some what, next) one few = absurd (none_left (entries next) (entries e) one few)
      where
        none_left : (a b : ℕ) → suc a ≤ b → b ≤ 0 → ⊥
        none_left a b p q = omega (arith, p, q)

    by_upper : (upper : Option Upper) → v.upper ≡ upper → upper_entries v.upper ≤ 0 → (turned_on upper v).0 ≡ Nothing
    by_upper None is few = refl
    by_upper (Some e) is few = by_next e (next_taken e) (next_one e) (subst (λ u. upper_entries u ≤ 0) is few)

    by_flag : (flag : Bool) → takes_above v.bind ≡ flag → (cond {A = ValueTurn × Relay} flag (turned_on v.upper v) (Nothing, v)).0 ≡ Nothing
    by_flag true is = by_upper v.upper refl (few_of (takes_above v.bind) (upper_entries v.upper) 0 has is)
    by_flag false is = refl

pub none_has : (side : Side) (v : ValueValue) → HasAtMost 0 side v → TakesNoMore side v
none_has Below v has = none_below v.relay has
none_has Above v has = none_above v.relay has
