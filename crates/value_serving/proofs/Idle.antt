-- A turn of a value-add: nothing is taken where nothing may be, and else one entry fewer waits.
use Rattle.std.proofs.Common.{◌≡◌, ℕ, ◌+◌, ◌<◌, ◌≤◌, Bool, true, false, List, [], ◌∷◌, ◌++◌, length, Option, Some, None, Result, Ok, refl, ap, sym, ◌∙◌, subst, arith}
use Rattle.std.specs.Prelude.{if◌then◌else◌}
use Rattle.channel_core.specs.EndValue.{EndValue}
use Rattle.channel_core.specs.Runs.{Call as EndCall, called as end_called, closing, commanding, delivering, draining, ending, putting_out, sending, taking, message_of, unless_refused}
use Rattle.channel_core.specs.Sending.{commanded, refusal_to}
use Rattle.channel_core.specs.Taking.{next_taken}
use Rattle.channel_core.specs.declared.sending.SendRefusal.{SendRefusal}
use Rattle.channel_core.specs.declared.taking.Taken.{Taken}
use Rattle.channel_core.specs.declared.taking.Taken.TheVariants as taken_as
use Rattle.tcf_message.specs.Message.{MessageValue, command, reading}
use Rattle.tcf_message.specs.declared.message.MessageFault.{MessageFault}
use Rattle.channel_laws.proofs.Entries.{Fewer, Shrinks, closed_entries, commanded_entries, entries, next_fewer, queued_entries}
use Rattle.std.proofs.lemmas.Bool.{false≢true}
use Rattle.list_laws.proofs.AllLists.{all_append}
use Rattle.value_node.specs.ForwardedValue.{ForwardedValue}
use Rattle.value_node.specs.Own.{own_reply}
use Rattle.value_node.specs.Passing.{Lower, Upper}
use Rattle.value_node.specs.Runs.{LowerCall, UpperCall, connects, fails, own_by, passing_by, took_above_above, took_below_below, turns, upper_on}
use Rattle.value_node.specs.Value.{answered, asked, asked_in, awaits, connect_failed, connected, connected_to, takes_above, takes_below, took_any_above, took_any_below, turned, turned_above, turned_below, turned_on, unbound_again, with_lower, with_upper}
use Rattle.value_node.specs.ValueValue.{ValueValue}
use Rattle.value_node.specs.declared.own.Own.{Own}
use Rattle.value_node.specs.declared.own.Own.TheVariants as own
use Rattle.value_node.specs.declared.relay.Relay.{Relay}
use Rattle.value_node.specs.declared.states.Bind.{Bind}
use Rattle.value_node.specs.declared.states.Bind.TheVariants.{Unbound, Opening, Bound, Closed}
use Rattle.value_node.specs.declared.states.Side.{Side}
use Rattle.value_node.specs.declared.states.Side.TheVariants.{Below, Above}
use Rattle.value_node.specs.declared.states.ValueTurn.{ValueTurn}
use Rattle.value_node.specs.declared.states.ValueTurn.TheVariants.{Nothing, Took, Connect}
use Rattle.value_node.proofs.Steps.{lower_runs, ran, ran_by, relay_called, upper_runs}
use Rattle.value_serving.specs.Adds.{else_below, one_taken}
use Rattle.value_serving.proofs.Giving.{AllAct, above_acts, acts, below_acts, failing_acts}

-- ---- calls of an end that bring nothing

shrinks_none : {T : Type 0} → (e : EndValue T) → Shrinks e e
shrinks_none e = (omega arith, omega arith)

pub shrinks_both : {T : Type 0} → (e mid next : EndValue T) → Shrinks e mid → Shrinks mid next → Shrinks e next
shrinks_both e mid next first second = (omega (arith, first.0, second.0), omega (arith, first.1, second.1))

next_shrinks : {T : Type 0} → (e : EndValue T) (p : Option (Taken T) × EndValue T) → Fewer e p → Shrinks e p.1
next_shrinks e (None, next) fewer = subst (λ x. Shrinks e x) (sym fewer.1) (shrinks_none e)
next_shrinks e (Some what, next) fewer = (omega (arith, fewer.0), fewer.1)

unless_shrinks : {T : Type 0} → (refusal : Option SendRefusal) (e next : EndValue T) → Shrinks e next → Shrinks e (unless_refused refusal e next)
unless_shrinks None e next s = s
unless_shrinks (Some why) e next s = shrinks_none e

act_shrinks : {T : Type 0} → (call : EndCall T) (e : EndValue T) → acts call ≡ true → Shrinks e (end_called call e)
act_shrinks taking e on = next_shrinks e (next_taken e) (next_fewer e)
act_shrinks (commanding service name body tag mark) e on =
    unless_shrinks (refusal_to service name body e) e (commanded service name body tag mark e) (commanded_entries service name body tag mark e)
act_shrinks (sending message mark) e on = queued_entries (message_of message) mark e
act_shrinks closing e on = closed_entries e
act_shrinks (delivering piece mark) e on = absurd cc
act_shrinks ending e on = absurd cc
act_shrinks putting_out e on = absurd cc
act_shrinks draining e on = absurd cc

ran_shrinks : {T : Type 0} → (calls : List (EndCall T)) (e : EndValue T) → AllAct calls → Shrinks e (ran calls e)
ran_shrinks [] e all = shrinks_none e
ran_shrinks (call ∷ calls) e all = shrinks_both e (end_called call e) (ran calls (end_called call e)) (act_shrinks call e all.0) (ran_shrinks calls (end_called call e) all.1)

-- ---- the two inboxes

abbrev pub high_entries : Option Upper → ℕ
high_entries None = 0
high_entries (Some e) = entries e

abbrev pub high_inbox : Option Upper → ℕ
high_inbox None = 0
high_inbox (Some e) = length e.inbox

abbrev pub total : Relay → ℕ
total v = high_entries v.upper + entries v.lower

-- neither inbox gets more messages
abbrev pub Shrunk : Relay → Relay → Type 0
Shrunk v w = (length w.lower.inbox ≤ length v.lower.inbox) × (high_inbox w.upper ≤ high_inbox v.upper)

-- nothing that may be taken is there
abbrev pub IsIdle : Relay → Type 0
IsIdle v = (takes_above v.bind ≡ true → high_entries v.upper ≡ 0) × (takes_below v.bind v.upper ≡ true → entries v.lower ≡ 0)

up_by : (calls : Upper → List UpperCall) (upper : Option Upper) → ((e : Upper) → AllAct (calls e))
    → (high_entries (ran_by calls upper) ≤ high_entries upper) × (high_inbox (ran_by calls upper) ≤ high_inbox upper)
up_by calls None all = (omega arith, omega arith)
up_by calls (Some e) all = ran_shrinks (calls e) e (all e)

other_turn : (side : Side) → turns side ≡ connects → ⊥
other_turn side is = cc

low_turn : (side : Side) (v : Relay) → Shrinks v.lower (relay_called (turns side) v).lower
low_turn side v =
    subst (λ (e : Lower). Shrinks v.lower e) (sym (lower_runs (turns side) v)) (ran_shrinks (own_by (turns side) v ++ passing_by (turns side) v) v.lower (below_acts side v))

high_turn : (side : Side) (v : Relay) → (high_entries (relay_called (turns side) v).upper ≤ high_entries v.upper) × (high_inbox (relay_called (turns side) v).upper ≤ high_inbox v.upper)
high_turn side v =
    subst (λ (u : Option Upper). (high_entries u ≤ high_entries v.upper) × (high_inbox u ≤ high_inbox v.upper)) (sym (upper_runs (turns side) v (other_turn side)))
    (up_by (upper_on (turns side) v) v.upper (λ e. above_acts side v e))

-- ---- from above

data AboveTurn (v : Relay) : Type 0 where
  above_rests : turned_above v ≡ (Nothing, v) → (takes_above v.bind ≡ true → high_entries v.upper ≡ 0) → AboveTurn v
  above_takes : (turned_above v).0 ≡ Took → takes_above v.bind ≡ true → 0 < high_entries v.upper → total (turned_above v).1 < total v → AboveTurn v

above_is : (v : Relay) → turned_above v ≡ (if takes_above v.bind then turned_on v.upper v else (Nothing, v))
unfolding turned_above
above_is v = refl

above_any : (v : Relay) (e : Upper) (p : Option (Taken ForwardedValue) × Upper) → v.upper ≡ Some e → takes_above v.bind ≡ true → turned_above v ≡ took_any_above p.0 (with_upper p.1 v)
    → p ≡ next_taken e → Fewer e p → AboveTurn v
above_any v e (None, next) same on eq is fewer =
    above_rests (eq ∙ ap (λ (u : Option Upper). (Nothing, record v { upper = u })) (ap (λ (x : Upper). Some x) fewer.1 ∙ sym same)) (λ so. ap high_entries same ∙ fewer.0)
above_any v e (Some what, next) same on eq is fewer =
    let rest = took_above_above (next_taken e).0 v.bind in
    let calls_are : upper_on (turns Above) v e ≡ taking ∷ rest = ap (λ (b : Bool). if b then taking ∷ rest else []) on in
    let acts_rest = (subst AllAct calls_are (above_acts Above v e)).1 in
    let upper_is : (turned_above v).1.upper ≡ Some (ran rest (next_taken e).1) =
    upper_runs (turns Above) v (other_turn Above) ∙ ap (ran_by (upper_on (turns Above) v)) same ∙ ap (λ (cs : List UpperCall). Some (ran cs e)) calls_are in
    let high : high_entries (turned_above v).1.upper ≡ entries (ran rest (next_taken e).1) = ap high_entries upper_is in
    let few = ran_shrinks rest (next_taken e).1 acts_rest in
    let next_is : entries (next_taken e).1 ≡ entries next = ap (λ (q : Option (Taken ForwardedValue) × Upper). entries q.1) (sym is) in
    let first : high_entries v.upper ≡ entries e = ap high_entries same in
    let low = low_turn Above v in
    above_takes (ap (λ (t : ValueTurn × Relay). t.0) eq) on (omega (arith, first, fewer.0)) (omega (arith, high, few.0, next_is, fewer.0, low.0, first))

above_turn : (v : Relay) → AboveTurn v
above_turn v = by_flag (takes_above v.bind) refl
  where
    by_upper : (upper : Option Upper) → v.upper ≡ upper → takes_above v.bind ≡ true → turned_above v ≡ turned_on v.upper v → AboveTurn v
    by_upper None same on eq = above_rests (eq ∙ ap (λ (u : Option Upper). turned_on u v) same) (λ so. ap high_entries same)
    by_upper (Some e) same on eq = above_any v e (next_taken e) same on (eq ∙ ap (λ (u : Option Upper). turned_on u v) same) refl (next_fewer e)

    by_flag : (flag : Bool) → takes_above v.bind ≡ flag → AboveTurn v
    by_flag true is = by_upper v.upper refl is (above_is v ∙ ap (λ (b : Bool). if b then turned_on v.upper v else (Nothing, v)) is)
    by_flag false is = above_rests (above_is v ∙ ap (λ (b : Bool). if b then turned_on v.upper v else (Nothing, v)) is) (λ on. absurd (false≢true (sym is ∙ on)))

-- ---- from below

data BelowTurn (v : Relay) : Type 0 where
  below_rests : turned_below v ≡ (Nothing, v) → (takes_below v.bind v.upper ≡ true → entries v.lower ≡ 0) → BelowTurn v
  below_takes : ((turned_below v).0 ≡ Nothing → ⊥) → takes_below v.bind v.upper ≡ true → 0 < entries v.lower → total (turned_below v).1 < total v → BelowTurn v

below_is : (v : Relay)
    → turned_below v ≡ (if takes_below v.bind v.upper then took_any_below (next_taken v.lower).0 (with_lower (next_taken v.lower).1 v) else (Nothing, v))
unfolding turned_below
below_is v = refl

own_something : (token : List ℕ) (reply : Own) (v : Relay) → (answered token reply v).0 ≡ Nothing → ⊥
own_something token own.Unknown v is = absurd cc
own_something token (own.Result body) v is = absurd cc
own_something token own.Connect v is = absurd cc

in_something : (bind : Bind) (token service name body : List ℕ) (mark : Option ℕ) (v : Relay) → (asked_in bind token service name body mark v).0 ≡ Nothing → ⊥
in_something Unbound token service name body mark v is = own_something token (own_reply v.peer service name body) v is
in_something Opening token service name body mark v is = absurd cc
in_something Bound token service name body mark v is = absurd cc
in_something Closed token service name body mark v is = absurd cc

asked_something : (m : Result MessageValue MessageFault) (mark : Option ℕ) (v : Relay) → (asked m mark v).0 ≡ Nothing → ⊥
asked_something (Ok (command token service name body)) mark v is = in_something v.bind token service name body mark v is
asked_something m mark v is = absurd cc

took_something : (what : Taken Unit) (v : Relay) → (took_any_below (Some what) v).0 ≡ Nothing → ⊥
took_something (taken_as.Hello incoming) v is = absurd cc
took_something (taken_as.Command incoming) v is = asked_something (reading incoming.raw) incoming.mark v is
took_something (taken_as.Event incoming) v is = absurd cc
took_something (taken_as.Progress token incoming) v is = absurd cc
took_something (taken_as.Final tag incoming) v is = absurd cc
took_something (taken_as.Closed cause) v is = absurd cc

below_any : (v : Relay) (p : Option (Taken Unit) × Lower) → takes_below v.bind v.upper ≡ true → turned_below v ≡ took_any_below p.0 (with_lower p.1 v)
    → p ≡ next_taken v.lower → Fewer v.lower p → BelowTurn v
below_any v (None, next) on eq is fewer = below_rests (eq ∙ ap (λ (e : Lower). (Nothing, with_lower e v)) fewer.1) (λ so. fewer.0)
below_any v (Some what, next) on eq is fewer =
    let rest = took_below_below (next_taken v.lower).0 v in
    let calls_are : own_by (turns Below) v ++ passing_by (turns Below) v ≡ taking ∷ (rest ++ []) = ap (λ (b : Bool). (if b then taking ∷ rest else []) ++ []) on in
    let acts_rest = (subst AllAct calls_are (below_acts Below v)).1 in
    let lower_is : (turned_below v).1.lower ≡ ran (rest ++ []) (next_taken v.lower).1 = lower_runs (turns Below) v ∙ ap (λ (cs : List LowerCall). ran cs v.lower) calls_are in
    let low : entries (turned_below v).1.lower ≡ entries (ran (rest ++ []) (next_taken v.lower).1) = ap entries lower_is in
    let few = ran_shrinks (rest ++ []) (next_taken v.lower).1 acts_rest in
    let next_is : entries (next_taken v.lower).1 ≡ entries next = ap (λ (q : Option (Taken Unit) × Lower). entries q.1) (sym is) in
    let high = high_turn Below v in
    below_takes (λ nothing. took_something what (with_lower next v) (sym (ap (λ (t : ValueTurn × Relay). t.0) eq) ∙ nothing)) on (omega (arith, fewer.0))
    (omega (arith, low, few.0, next_is, fewer.0, high.0))

below_turn : (v : Relay) → BelowTurn v
below_turn v = by_flag (takes_below v.bind v.upper) refl
  where
    tries : Bool → ValueTurn × Relay
    tries b = if b then took_any_below (next_taken v.lower).0 (with_lower (next_taken v.lower).1 v) else (Nothing, v)

    by_flag : (flag : Bool) → takes_below v.bind v.upper ≡ flag → BelowTurn v
    by_flag true is = below_any v (next_taken v.lower) is (below_is v ∙ ap tries is) refl (next_fewer v.lower)
    by_flag false is = below_rests (below_is v ∙ ap tries is) (λ on. absurd (false≢true (sym is ∙ on)))

-- ---- of a value-add

pub data OneTurn (v : ValueValue) (t : ValueTurn × ValueValue) : Type 0 where
  idles : t ≡ (Nothing, v) → IsIdle v.relay → OneTurn v t
  took : (t.0 ≡ Nothing → ⊥) → (IsIdle v.relay → ⊥) → total t.1.relay < total v.relay → Shrunk v.relay t.1.relay → OneTurn v t

turned_is : (v : ValueValue) (t : ValueTurn × Relay) → t ≡ (Nothing, v.relay) → ◌≡◌ {A = ValueTurn × ValueValue} (t.0, record v { relay = t.1 }) (Nothing, v)
turned_is v t eq = ap (λ (x : ValueTurn × Relay). (x.0, record v { relay = x.1 })) eq

else_took : (t : ValueTurn × ValueValue) → t.0 ≡ Took → else_below t ≡ t
else_took (Nothing, v) is = absurd cc
else_took (Took, v) is = refl
else_took (Connect, v) is = refl

no_entry : (n : ℕ) → 0 < n → n ≡ 0 → ⊥
no_entry n some none = absurd (omega (arith, some, none))

took_nothing : Took ≡ Nothing → ⊥
took_nothing is = cc

below_one : (v : ValueValue) → (takes_above v.relay.bind ≡ true → high_entries v.relay.upper ≡ 0) → BelowTurn v.relay → OneTurn v (turned Below v)
below_one v none (below_rests eq empty) = idles (turned_is v (turned_below v.relay) eq) (none, empty)
below_one v none (below_takes something on some less) =
    took something (λ idle. no_entry (entries v.relay.lower) some (idle.1 on)) less ((low_turn Below v.relay).1, (high_turn Below v.relay).1)

above_one : (v : ValueValue) → AboveTurn v.relay → OneTurn v (else_below (turned Above v))
above_one v (above_rests eq none) =
    subst (λ (t : ValueTurn × ValueValue). OneTurn v (else_below t)) (sym (turned_is v (turned_above v.relay) eq)) (below_one v none (below_turn v.relay))
above_one v (above_takes is on some less) =
    subst (λ (t : ValueTurn × ValueValue). OneTurn v t) (sym (else_took (turned Above v) is))
    (took (λ nothing. took_nothing (sym is ∙ nothing)) (λ idle. no_entry (high_entries v.relay.upper) some (idle.0 on)) less ((low_turn Above v.relay).1, (high_turn Above v.relay).1))

pub one_turn : (v : ValueValue) → OneTurn v (one_taken v)
unfolding one_taken
one_turn v = above_one v (above_turn v.relay)

idle_by : (v : ValueValue) (t : ValueTurn × ValueValue) → OneTurn v t → IsIdle v.relay → t ≡ (Nothing, v)
idle_by v t (idles eq idle) now = eq
idle_by v t (took something busy less shrunk) now = absurd (busy now)

pub idle_turn : (v : ValueValue) → IsIdle v.relay → one_taken v ≡ (Nothing, v)
idle_turn v idle = idle_by v (one_taken v) (one_turn v) idle

-- ---- the answer of a connect

pub record Answered (v next : Relay) : Type 0 where
  pub fewer : total next ≤ total v
  pub shrunk : Shrunk v next

same_answered : (v : Relay) → Answered v v
same_answered v = record { fewer = omega arith; shrunk = (omega arith, omega arith) }

connected_by : (flag : Bool) (v : ValueValue) → Answered v.relay (if flag then record v { relay = connected_to v.relay } else v).relay
connected_by true v = record { fewer = omega arith; shrunk = (omega arith, omega arith) }
connected_by false v = same_answered v.relay

pub connected_answered : (v : ValueValue) → Answered v.relay (connected v).relay
connected_answered v = connected_by (awaits v.relay) v

fails_other : fails ≡ connects → ⊥
fails_other is = cc

none_done : (upper : Option Upper) → ran_by (λ e. []) upper ≡ upper
none_done None = refl
none_done (Some e) = refl

failed_relay : (v : Relay) → Answered v (relay_called fails v)
failed_relay v =
    let low : Shrinks v.lower (relay_called fails v).lower =
    subst (λ (e : Lower). Shrinks v.lower e) (sym (lower_runs fails v)) (ran_shrinks (own_by fails v ++ []) v.lower (all_append (λ call. acts call ≡ true) (own_by fails v) [] (failing_acts v) tt)) in
    let high : (relay_called fails v).upper ≡ v.upper = upper_runs fails v fails_other ∙ none_done v.upper in
    let few : high_entries (relay_called fails v).upper ≡ high_entries v.upper = ap high_entries high in
    let inbox : high_inbox (relay_called fails v).upper ≡ high_inbox v.upper = ap high_inbox high in
    record { fewer = omega (arith, low.0, few); shrunk = (low.1, omega (arith, inbox)) }

failed_by : (flag : Bool) (v : ValueValue) → (if flag then record v { relay = unbound_again v.relay } else v).relay ≡ (if flag then unbound_again v.relay else v.relay)
failed_by true v = refl
failed_by false v = refl

pub failed_answered : (v : ValueValue) → Answered v.relay (connect_failed v).relay
failed_answered v = subst (Answered v.relay) (sym (failed_by (awaits v.relay) v)) (failed_relay v.relay)
