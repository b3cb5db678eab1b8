-- The Hello from above is what binds a value-add, and before that nothing is passed on.
use Rattle.std.proofs.Common.{◌≡◌, ◌⊎◌, inl, inr, ℕ, Bool, true, false, ◌||◌, List, [], ◌++◌, Option, Some, None, Result, Ok, refl, ap, sym, ◌∙◌, subst}
use Rattle.std.specs.Prelude.{IfSome, if◌then◌else◌, option_map, unwrap_or}
use Rattle.std.specs.List.{flat_map, list_any}
use Rattle.std.proofs.lemmas.List.Folds.{list_any-append}
use Rattle.std.proofs.lemmas.Bool.{or_parts}
use Rattle.channel_core.specs.Closing.{is_closed}
use Rattle.channel_core.specs.Greeting.{is_greeting}
use Rattle.channel_core.specs.Laws.{listed}
use Rattle.channel_core.specs.ReceivingLaws.{incoming_of}
use Rattle.channel_core.specs.Runs.{Run}
use Rattle.channel_core.specs.Taking.{next_taken}
use Rattle.channel_core.specs.declared.states.EndState.{EndState}
use Rattle.channel_core.specs.declared.states.EndState.TheVariants as states
use Rattle.channel_core.specs.declared.taking.Taken.{Taken}
use Rattle.channel_core.specs.declared.taking.Taken.TheVariants as taken
use Rattle.tcf_message.specs.Message.{MessageValue, command, reading}
use Rattle.tcf_message.specs.declared.message.MessageFault.{MessageFault}
use Rattle.value_node.specs.ForwardedValue.{ForwardedValue}
use Rattle.value_node.specs.Own.{own_reply, redirect_failed}
use Rattle.value_node.specs.Store.{StoreValue, no_store}
use Rattle.value_node.specs.Passing.{Lower, Upper}
use Rattle.value_node.specs.Deeds.{Deed, above_deeds, deeds_by, turn_below_deeds}
use Rattle.value_node.specs.RelayLaws.{StandsWell}
use Rattle.value_node.specs.Runs.{Call, LowerCall, Past, UpperCall, above, bytes_end, comes, connects, fails, gives, is_binding, only_if, own_by, passing_any, passing_by, took_above_above, turns, upper_after, upper_by, with_calls}
use Rattle.value_node.specs.Value.{answered, asked, asked_in, awaits, connected_to, is_free, takes_below, took_any_above, took_any_below, turned_above, turned_below, unbound_again, value_services, with_lower, with_upper}
use Rattle.value_node.specs.declared.own.Own.{Own}
use Rattle.value_node.specs.declared.own.Own.TheVariants as own
use Rattle.value_node.specs.declared.relay.Relay.{Relay}
use Rattle.value_node.specs.declared.states.Bind.{Bind}
use Rattle.value_node.specs.declared.states.Bind.TheVariants.{Unbound, Opening, Bound, Closed}
use Rattle.value_node.specs.declared.states.Side.TheVariants.{Below, Above}
use Rattle.value_node.specs.declared.states.ValueTurn.TheVariants.{Nothing}
use Rattle.value_node.proofs.Holding.{Holds, WaitsOrIsClosed, above_more}
use Rattle.value_node.proofs.HoldsEnds.{KeepsClosed, upper_facts, upper_is}
use Rattle.value_node.proofs.HoldsWaiting.{only_waits}
use Rattle.value_node.proofs.Pasts.{taken_in, taken_more}
use Rattle.value_node.proofs.Steps.{relay, relay_called}
use Rattle.value_node.proofs.Taken.{IsFirstAny, next_first}
use Rattle.value_node.proofs.StoreStays.{others_keep, redirect_store}
use Rattle.value_node.proofs.TakenAbove.{others_take}

-- ---- what is taken before the Hello

first_in : (state : EndState) (e : Upper) → e.state ≡ state → WaitsOrIsClosed state → KeepsClosed e → IsFirstAny (next_taken e).0
first_in states.Opening e is w keeps = next_first e is
first_in states.Live e is w keeps = absurd w
first_in states.Reopening e is w keeps = absurd w
first_in (states.Closed cause) e is w keeps = let none : next_taken e ≡ (None, e) = keeps.takes_none (ap is_closed is) in rw none tt

pub first_on : (upper : Option Upper) → IfSome upper (λ e. WaitsOrIsClosed e.state) → IfSome upper KeepsClosed → IfSome upper (λ e. IsFirstAny (next_taken e).0)
first_on None w keeps = tt
first_on (Some e) w keeps = first_in e.state e refl w keeps

pub idle_on : (upper : Option Upper) → IfSome upper KeepsClosed → is_free upper ≡ true → IfSome upper (λ e. next_taken e ≡ (None, e))
idle_on None keeps free = tt
idle_on (Some e) keeps free = keeps.takes_none free

pub free_where : (bind : Bind) (v : Relay) (p : Past) → StandsWell bind v p → bind ≡ Unbound → is_free v.upper ≡ true
free_where Unbound v p stands is = stands.1
free_where Opening v p stands is = absurd cc
free_where Bound v p stands is = absurd cc
free_where Closed v p stands is = absurd cc

pub not_binding : (bind : Bind) (v : Relay) (p : Past) → StandsWell bind v p → p.is_bound ≡ false → is_binding bind ≡ false
not_binding Unbound v p stands off = refl
not_binding Opening v p stands off = refl
not_binding Bound v p stands off = let on : p.is_bound ≡ true = stands.2 in absurd cc
not_binding Closed v p stands off = refl

-- ---- a call before the Hello: whether that comes with it, and that else nothing is passed on

pub record FirstCall (call : Call) (v : Relay) (upper : Upper) : Type 0 where
  pub greets : list_any is_greeting (taken_in (upper_by call v) upper) ≡ is_binding (relay_called call v).bind
  pub passes : is_binding (relay_called call v).bind ≡ false → passing_by call v ≡ []
  pub does : is_binding (relay_called call v).bind ≡ false → deeds_by call v ≡ []
  pub keeps : is_binding (relay_called call v).bind ≡ false → (relay_called call v).store ≡ v.store

abbrev FirstTurn : Bind → Option (Taken ForwardedValue) × Upper → Relay → Type 0
FirstTurn bind next v =
    (list_any is_greeting (listed next.0 ++ taken_in (took_above_above next.0 bind) next.1) ≡ is_binding (took_any_above next.0 (with_upper next.1 v)).1.bind)
    × (is_binding (took_any_above next.0 (with_upper next.1 v)).1.bind ≡ false → passing_any next bind ≡ [])
    × (is_binding (took_any_above next.0 (with_upper next.1 v)).1.bind ≡ false → above_deeds bind next.0 ≡ [])
    × (is_binding (took_any_above next.0 (with_upper next.1 v)).1.bind ≡ false → (took_any_above next.0 (with_upper next.1 v)).1.store ≡ v.store)

opening_turn : (store : StoreValue) (peer : List ℕ) (lower : Lower) (upper : Option Upper) (redirect : Option (List ℕ)) (next : Option (Taken ForwardedValue) × Upper) → IsFirstAny next.0 → FirstTurn Opening next (relay store peer Opening lower upper redirect)
opening_turn store peer lower upper redirect (None, e) first = (refl, λ off. refl, λ off. refl, λ off. refl)
opening_turn store peer lower upper redirect (Some (taken.Hello incoming), e) first = (refl, λ off. absurd cc, λ off. absurd cc, λ off. absurd cc)
opening_turn store peer lower upper redirect (Some (taken.Closed cause), e) first =
    (refl, λ off. refl, λ off. refl, λ off. redirect_store redirect redirect_failed (relay store peer Opening lower (Some e) redirect))
opening_turn store peer lower upper redirect (Some (taken.Command incoming), e) first = absurd first
opening_turn store peer lower upper redirect (Some (taken.Event incoming), e) first = absurd first
opening_turn store peer lower upper redirect (Some (taken.Progress token incoming), e) first = absurd first
opening_turn store peer lower upper redirect (Some (taken.Final tag incoming), e) first = absurd first

first_turn : (store : StoreValue) (peer : List ℕ) (bind : Bind) (lower : Lower) (upper : Option Upper) (redirect : Option (List ℕ)) (end : Upper) → is_binding bind ≡ false
    → IfSome upper (λ e. e ≡ end) → IfSome upper (λ e. IsFirstAny (next_taken e).0) → (bind ≡ Unbound → IfSome upper (λ e. next_taken e ≡ (None, e)))
    → FirstCall (turns Above) (relay store peer bind lower upper redirect) end
unfolding turned_above
first_turn store peer Unbound lower None redirect end off same first idle = record { greets = refl; passes = λ isnt. refl; does = λ isnt. refl; keeps = λ isnt. refl }
first_turn store peer Unbound lower (Some e) redirect end off same first idle =
    let turn : FirstTurn Unbound (next_taken e) (relay store peer Unbound lower (Some e) redirect) =
    subst (λ (next : Option (Taken ForwardedValue) × Upper). FirstTurn Unbound next (relay store peer Unbound lower (Some e) redirect)) (sym (idle refl)) (refl, λ isnt. refl, λ isnt. refl, λ isnt. refl) in
    rw (sym same) (record { greets = turn.0; passes = turn.1; does = turn.2; keeps = turn.3 })
first_turn store peer Opening lower None redirect end off same first idle = record { greets = refl; passes = λ isnt. refl; does = λ isnt. refl; keeps = λ isnt. refl }
first_turn store peer Opening lower (Some e) redirect end off same first idle =
    let turn = opening_turn store peer lower (Some e) redirect (next_taken e) first in
    rw (sym same) (record { greets = turn.0; passes = turn.1; does = turn.2; keeps = turn.3 })
first_turn store peer Bound lower upper redirect end off same first idle = absurd cc
first_turn store peer Closed lower None redirect end off same first idle = record { greets = refl; passes = λ isnt. refl; does = λ isnt. refl; keeps = λ isnt. refl }
first_turn store peer Closed lower (Some e) redirect end off same first idle = record { greets = refl; passes = λ isnt. refl; does = λ isnt. refl; keeps = λ isnt. refl }

-- ---- other calls pass nothing on, and don't bind

pub others_pass : (call : Call) (v : Relay) → (call ≡ turns Above → ⊥) → passing_by call v ≡ []
others_pass (comes side piece mark) v other = refl
others_pass (bytes_end side) v other = refl
others_pass (turns Below) v other = refl
others_pass (turns Above) v other = absurd (other refl)
others_pass connects v other = refl
others_pass fails v other = refl
others_pass (gives side) v other = refl

idle_below : (bind : Bind) (v : Relay) → is_binding bind ≡ false → turn_below_deeds bind v ≡ []
idle_below Unbound v off = refl
idle_below Opening v off = refl
idle_below Bound v off = absurd cc
idle_below Closed v off = refl

-- nor do they do anything
pub others_idle : (call : Call) (v : Relay) → (call ≡ turns Above → ⊥) → is_binding v.bind ≡ false → deeds_by call v ≡ []
others_idle (comes side piece mark) v other off = refl
others_idle (bytes_end side) v other off = refl
others_idle (turns Below) v other off = idle_below v.bind v off
others_idle (turns Above) v other off = absurd (other refl)
others_idle connects v other off = refl
others_idle fails v other off = refl
others_idle (gives side) v other off = refl

answered_bind : (token : List ℕ) (reply : Own) (v : Relay) → is_binding v.bind ≡ false → is_binding (answered token reply v).1.bind ≡ false
answered_bind token own.Unknown v off = off
answered_bind token (own.Result body) v off = off
answered_bind token own.Connect v off = refl

asked_in_bind : (bind : Bind) (token service name body : List ℕ) (mark : Option ℕ) (v : Relay) → is_binding bind ≡ false → is_binding v.bind ≡ false
    → is_binding (asked_in bind token service name body mark v).1.bind ≡ false
asked_in_bind Unbound token service name body mark v is off = answered_bind token (own_reply v.peer service name body) v off
asked_in_bind Opening token service name body mark v is off = off
asked_in_bind Bound token service name body mark v is off = absurd cc
asked_in_bind Closed token service name body mark v is off = off

asked_bind : (m : Result MessageValue MessageFault) (mark : Option ℕ) (v : Relay) → is_binding v.bind ≡ false → is_binding (asked m mark v).1.bind ≡ false
asked_bind (Ok (command token service name body)) mark v off = asked_in_bind v.bind token service name body mark v off off
asked_bind m mark v off = off

took_bind : (what : Option (Taken Unit)) (v : Relay) → is_binding v.bind ≡ false → is_binding (took_any_below what v).1.bind ≡ false
took_bind None v off = off
took_bind (Some (taken.Hello incoming)) v off = off
took_bind (Some (taken.Command incoming)) v off = asked_bind (reading incoming.raw) incoming.mark v off
took_bind (Some (taken.Event incoming)) v off = off
took_bind (Some (taken.Progress token incoming)) v off = off
took_bind (Some (taken.Final tag incoming)) v off = off
took_bind (Some (taken.Closed cause)) v off = refl

turned_bind : (flag : Bool) (v : Relay) → is_binding v.bind ≡ false
    → is_binding (if flag then took_any_below (next_taken v.lower).0 (with_lower (next_taken v.lower).1 v) else (Nothing, v)).1.bind ≡ false
turned_bind true v off = took_bind (next_taken v.lower).0 (with_lower (next_taken v.lower).1 v) off
turned_bind false v off = off

connected_bind : (flag : Bool) (v : Relay) → is_binding v.bind ≡ false → is_binding (if flag then connected_to v else v).bind ≡ false
connected_bind true v off = off
connected_bind false v off = off

failed_bind : (flag : Bool) (v : Relay) → is_binding v.bind ≡ false → is_binding (if flag then unbound_again v else v).bind ≡ false
failed_bind true v off = refl
failed_bind false v off = off

pub stays_unbound : (call : Call) (v : Relay) → (call ≡ turns Above → ⊥) → is_binding v.bind ≡ false → is_binding (relay_called call v).bind ≡ false
unfolding turned_below
stays_unbound (comes Below piece mark) v other off = off
stays_unbound (comes Above piece mark) v other off = off
stays_unbound (bytes_end Below) v other off = off
stays_unbound (bytes_end Above) v other off = off
stays_unbound (turns Below) v other off = turned_bind (takes_below v.bind v.upper) v off
stays_unbound (turns Above) v other off = absurd (other refl)
stays_unbound connects v other off = connected_bind (awaits v) v off
stays_unbound fails v other off = failed_bind (awaits v) v off
stays_unbound (gives Below) v other off = off
stays_unbound (gives Above) v other off = off

pub turn_or_not : (call : Call) → (call ≡ turns Above) ⊎ (call ≡ turns Above → ⊥)
turn_or_not (comes side piece mark) = inr (λ is. absurd cc)
turn_or_not (bytes_end side) = inr (λ is. absurd cc)
turn_or_not (turns Below) = inr (λ is. absurd cc)
turn_or_not (turns Above) = inl refl
turn_or_not connects = inr (λ is. absurd cc)
turn_or_not fails = inr (λ is. absurd cc)
turn_or_not (gives side) = inr (λ is. absurd cc)

pub first_call : (call : Call) (v : Relay) (p : Past) → Holds v p → p.is_bound ≡ false → FirstCall call v (above p).end
first_call call v p h off =
    let keeps = upper_facts v p h in
    let bind_off : is_binding v.bind ≡ false = not_binding v.bind v p h.stands off in
    elim (turn_or_not call) as (λ _. FirstCall call v (above p).end) [
      | inl is ↦ subst (λ c. FirstCall c v (above p).end) (sym is)
          (first_turn v.store v.peer v.bind v.lower v.upper v.redirect (above p).end bind_off (upper_is v.upper p.connection h.upper) (first_on v.upper (h.waits off) keeps)
          (λ unbound. idle_on v.upper keeps (free_where v.bind v p h.stands unbound)))
      | inr other ↦ record {
        greets = ap (list_any is_greeting) (others_take call v v.upper (above p).end other) ∙ sym (stays_unbound call v other bind_off);
        passes = λ isnt. others_pass call v other;
        does = λ isnt. others_idle call v other bind_off;
        keeps = λ isnt. others_keep call v other bind_off;
      }
    ]

-- ---- what is kept

or_same : (b x y : Bool) → (b ≡ false → x ≡ y) → (b || x) ≡ (b || y)
or_same true x y so = refl
or_same false x y so = so refl

pub heard_kept : (call : Call) (v : Relay) (p : Past) → Holds v p
    → list_any is_greeting (above (with_calls call v (relay_called call v) p)).past.taken ≡ (p.is_bound || is_binding (relay_called call v).bind)
heard_kept call v p h =
    let next = relay_called call v in
    let more = taken_in (upper_by call v) (above p).end in
    ap (λ (r : Run ForwardedValue). list_any is_greeting r.past.taken) (above_more call v next p h.upper)
    ∙ ap (list_any is_greeting) (taken_more (upper_by call v) (above p))
    ∙ list_any-append is_greeting (above p).past.taken more
    ∙ ap (λ b. b || list_any is_greeting more) h.heard
    ∙ or_same p.is_bound (list_any is_greeting more) (is_binding next.bind) (λ off. (first_call call v p h off).greets)

since_none : (flag : Bool) (since own pass : List LowerCall) → flag ≡ false → since ≡ [] → pass ≡ [] → since ++ (only_if flag own ++ pass) ≡ []
since_none true since own pass off none nothing = absurd cc
since_none false since own pass off none nothing = ap (λ calls. calls ++ pass) none ∙ nothing

none_done : (deeds more : List Deed) → deeds ≡ [] → more ≡ [] → deeds ++ more ≡ []
none_done deeds more none nothing = ap (λ ds. ds ++ more) none ∙ nothing

pub idle_kept : (call : Call) (v : Relay) (p : Past) (h : Holds v p) → (p.is_bound || is_binding (relay_called call v).bind) ≡ false → h.deeds ++ deeds_by call v ≡ []
idle_kept call v p h off =
    let parts = or_parts p.is_bound (is_binding (relay_called call v).bind) off in
    none_done h.deeds (deeds_by call v) (h.idle parts.0) ((first_call call v p h parts.0).does parts.1)

pub fresh_kept : (call : Call) (v : Relay) (p : Past) → Holds v p → (p.is_bound || is_binding (relay_called call v).bind) ≡ false → (relay_called call v).store ≡ no_store
fresh_kept call v p h off =
    let parts = or_parts p.is_bound (is_binding (relay_called call v).bind) off in
    (first_call call v p h parts.0).keeps parts.1 ∙ h.fresh parts.0

pub unbound_kept : (call : Call) (v : Relay) (p : Past) → Holds v p
    → (p.is_bound || is_binding (relay_called call v).bind) ≡ false → (with_calls call v (relay_called call v) p).since_bound ≡ []
unbound_kept call v p h off =
    let parts = or_parts p.is_bound (is_binding (relay_called call v).bind) off in
    since_none p.is_bound p.since_bound (own_by call v) (passing_by call v) parts.0 (h.unbound parts.0) ((first_call call v p h parts.0).passes parts.1)

waits_on : (connection : Option (List UpperCall)) → list_any is_greeting (upper_after (unwrap_or connection [])).past.taken ≡ false
    → IfSome (option_map (λ calls. (upper_after calls).end) connection) (λ e. WaitsOrIsClosed e.state)
waits_on None off = tt
waits_on (Some calls) off = (only_waits value_services None calls off).waits

-- of any past
pub waits_of : (v : Relay) (p : Past) → v.upper ≡ option_map (λ calls. (upper_after calls).end) p.connection → list_any is_greeting (above p).past.taken ≡ false
    → IfSome v.upper (λ e. WaitsOrIsClosed e.state)
waits_of v p upper off = subst (λ (o : Option Upper). IfSome o (λ e. WaitsOrIsClosed e.state)) (sym upper) (waits_on p.connection off)

pub quiet_of : (p : Past) → list_any is_greeting (above p).past.taken ≡ false → flat_map incoming_of (above p).past.taken ≡ []
quiet_of p off = (only_waits value_services None (unwrap_or p.connection []) off).quiet
