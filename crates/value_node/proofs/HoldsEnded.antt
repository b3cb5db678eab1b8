-- Once the end from above was taken of a bound value-add, the end of the stream is said below, and nothing after it.
use Rattle.std.proofs.Common.{◌≡◌, inl, inr, ℕ, Bool, true, false, ◌||◌, ◌&&◌, true≢false, cond, List, [], ◌∷◌, ◌++◌, Option, Some, None, refl, ap, sym, ◌∙◌, subst}
use Rattle.std.specs.Prelude.{option_map, unwrap_or}
use Rattle.std.specs.List.{list_any}
use Rattle.std.proofs.lemmas.List.{append-nil}
use Rattle.std.proofs.lemmas.List.Folds.{list_any-append}
use Rattle.std.proofs.lemmas.Bool.{and_parts}
use Rattle.channel_core.specs.Beginning.{new_end}
use Rattle.channel_core.specs.Closing.{closed_for, closed_own, is_closed}
use Rattle.channel_core.specs.EndValue.{EndValue}
use Rattle.channel_core.specs.Laws.{listed}
use Rattle.channel_core.specs.QueueLaws.{ClosesOnlySo, TakesNothingClosed}
use Rattle.channel_core.specs.Runs.{Call as EndCall, Run, after_call, after_calls, begun, closing, commanding, delivering, draining, ending, putting_out, sending, taking}
use Rattle.channel_core.specs.RunLaws.{EndsAs, EndsOnce, IsAsItWas}
use Rattle.channel_core.specs.Taking.{closes, next_taken}
use Rattle.channel_core.specs.Wire.{end_of_stream}
use Rattle.channel_core.specs.declared.held.Outgoing.{Outgoing}
use Rattle.channel_core.specs.declared.states.Cause.TheVariants as causes
use Rattle.channel_core.specs.declared.states.EndState.{EndState}
use Rattle.channel_core.specs.declared.states.EndState.TheVariants as states
use Rattle.channel_core.specs.declared.taking.Taken.{Taken}
use Rattle.channel_core.specs.declared.taking.Taken.TheVariants as taken
use Rattle.value_node.specs.ForwardedValue.{ForwardedValue}
use Rattle.value_node.specs.Store.{StoreValue}
use Rattle.value_node.specs.Deeds.{Deed}
use Rattle.value_node.specs.Passing.{Lower, Upper}
use Rattle.value_node.specs.RelayLaws.{AfterAllCalls, HasEnded, StandsWell, StopsAfterTheEnd, is_ending}
use Rattle.value_node.specs.Runs.{Call, Past, UpperCall, ValueRun, above, after_all, below, bytes_end, comes, connects, fails, gives, is_binding, no_past, own_by, passing_by, reconnected, remembered, turns, upper_after, upper_by, with_calls}
use Rattle.value_node.specs.Value.{awaits, is_free, new_relay, took_any_above, turned_above, value_services, with_upper}
use Rattle.value_node.specs.ValueValue.{ValueValue}
use Rattle.value_node.specs.declared.relay.Relay.{Relay}
use Rattle.value_node.specs.declared.states.Bind.{Bind}
use Rattle.value_node.specs.declared.states.Bind.TheVariants.{Unbound, Opening, Bound, Closed}
use Rattle.value_node.specs.declared.states.Side.TheVariants.{Above}
use Rattle.channel_core.proofs.TheLaws.{closes_only_so, ends_once, stays_closed, takes_nothing_closed}
use Rattle.value_node.proofs.Holding.{Holds, above_more, below_more, holds_first}
use Rattle.value_node.proofs.HoldsCalled.{IsHeld, always_held, holds_called}
use Rattle.value_node.proofs.HoldsHello.{turn_or_not}
use Rattle.value_node.proofs.Pasts.{taken_in, taken_more}
use Rattle.value_node.proofs.Steps.{called_whole, relay, relay_called, whole}
use Rattle.value_node.proofs.TakenAbove.{others_take}

-- ---- an end that took an ending is closed

abbrev pub EndsClosed : {T : Type 0} → Run T → Type 0
EndsClosed r = list_any is_ending r.past.taken ≡ true → is_closed r.end.state ≡ true

ending_closes : {T : Type 0} → (what : Option (Taken T)) → list_any is_ending (listed what) ≡ closes what
ending_closes None = refl
ending_closes (Some (taken.Hello incoming)) = refl
ending_closes (Some (taken.Command incoming)) = refl
ending_closes (Some (taken.Event incoming)) = refl
ending_closes (Some (taken.Progress token incoming)) = refl
ending_closes (Some (taken.Final tag incoming)) = refl
ending_closes (Some (taken.Closed cause)) = refl

take_ends : {T : Type 0} → (r : Run T) → TakesNothingClosed r → ClosesOnlySo r → EndsClosed r → EndsClosed (after_call taking r)
take_ends {T} r none so before on = by_closed (is_closed r.end.state) refl
  where
    what : List (Taken T)
    what = listed (next_taken r.end).0

    by_ended : (flag : Bool) → list_any is_ending r.past.taken ≡ flag → is_closed r.end.state ≡ false → is_closed (next_taken r.end).1.state ≡ true
    by_ended true was live = let shut : is_closed r.end.state ≡ true = before was in absurd cc
    by_ended false was live =
        let here : list_any is_ending what ≡ true = sym (list_any-append is_ending r.past.taken what ∙ ap (λ b. b || list_any is_ending what) was) ∙ on in
        so.by_taking live ∙ sym (ending_closes (next_taken r.end).0) ∙ here

    by_closed : (flag : Bool) → is_closed r.end.state ≡ flag → is_closed (next_taken r.end).1.state ≡ true
    by_closed true shut = ap (λ (n : Option (Taken T) × EndValue T). is_closed n.1.state) (none shut) ∙ shut
    by_closed false live = by_ended (list_any is_ending r.past.taken) refl live

call_ends : {T : Type 0} → (call : EndCall T) (r : Run T) → TakesNothingClosed r → ClosesOnlySo r → EndsClosed r → EndsClosed (after_call call r)
call_ends (delivering piece mark) r none so before = λ on. so.by_others (delivering piece mark) refl ∙ before on
call_ends ending r none so before = λ on. so.by_others ending refl ∙ before on
call_ends taking r none so before = take_ends r none so before
call_ends (commanding service name body tag mark) r none so before = λ on. so.by_others (commanding service name body tag mark) refl ∙ before on
call_ends (sending message mark) r none so before = λ on. so.by_others (sending message mark) refl ∙ before on
call_ends putting_out r none so before = λ on. so.by_others putting_out refl ∙ before on
call_ends closing r none so before = λ on. so.by_own
call_ends draining r none so before = λ on. so.by_others draining refl ∙ before on

calls_end : {T : Type 0} → (calls : List (EndCall T)) (r : Run T) → ((more : List (EndCall T)) → TakesNothingClosed (after_calls more r)) → ((more : List (EndCall T)) → ClosesOnlySo (after_calls more r))
    → EndsClosed r → EndsClosed (after_calls calls r)
calls_end [] r none so before = before
calls_end (call ∷ calls) r none so before = calls_end calls (after_call call r) (λ more. none (call ∷ more)) (λ more. so (call ∷ more)) (call_ends call r (none []) (so []) before)

above_ends : (p : Past) → EndsClosed (above p)
above_ends p =
    calls_end (unwrap_or p.connection []) (begun (new_end value_services None)) (λ more. takes_nothing_closed value_services None more) (λ more. closes_only_so value_services None more) (λ on. absurd cc)

-- ---- so the value-add is Closed

closed_is_free : (upper : Option Upper) (connection : Option (List UpperCall)) → upper ≡ option_map (λ calls. (upper_after calls).end) connection
    → is_closed (upper_after (unwrap_or connection [])).end.state ≡ true → is_free upper ≡ true
closed_is_free upper None same shut = ap is_free same
closed_is_free upper (Some calls) same shut = ap is_free same ∙ shut

ended_closed : (v : Relay) (p : Past) → Holds v p → HasEnded p → v.bind ≡ Closed
ended_closed v p h ended = by_bind v.bind refl h.stands
  where
    by_bind : (bind : Bind) → v.bind ≡ bind → StandsWell bind v p → v.bind ≡ Closed
    by_bind Unbound is stands = absurd (true≢false (sym ended.0 ∙ stands.2))
    by_bind Opening is stands = absurd (true≢false (sym ended.0 ∙ stands.2))
    by_bind Bound is stands =
        let busy : is_free v.upper ≡ false = stands.1 in
        let free : is_free v.upper ≡ true = closed_is_free v.upper p.connection h.upper (above_ends p ended.1) in absurd cc
    by_bind Closed is stands = is

-- ---- its lower end was closed by its own side

abbrev IsStopped : Past → Type 0
IsStopped p = HasEnded p → (below p).end.state ≡ states.Closed causes.Own

-- what is called of a closed one changes nothing
below_as_it_was : (call : Call) (v next : Relay) (p : Past) → Holds v p → is_closed (below p).end.state ≡ true → IsAsItWas (below p) (below (with_calls call v next p))
below_as_it_was call v next p h shut =
    subst (λ (r : Run Unit). IsAsItWas (below p) r) (sym (below_more call v next p h.unbound))
    (stays_closed value_services None (p.until_bound ++ p.since_bound) (own_by call v ++ passing_by call v) shut)

own_state : (e : Lower) → is_closed e.state ≡ false → (closed_own e).state ≡ states.Closed causes.Own
own_state e live = by_flag (is_closed e.state) live
  where
    by_flag : (flag : Bool) → flag ≡ false → (cond flag e (closed_for causes.Own e)).state ≡ states.Closed causes.Own
    by_flag true off = absurd cc
    by_flag false off = refl

took_stops : (next : Option (Taken ForwardedValue) × Upper) (store : StoreValue) (peer : List ℕ) (lower : Lower) (upper : Option Upper) (redirect : Option (List ℕ)) → is_closed lower.state ≡ false
    → (took_any_above next.0 (with_upper next.1 (relay store peer Bound lower upper redirect))).1.bind ≡ Closed
    → (took_any_above next.0 (with_upper next.1 (relay store peer Bound lower upper redirect))).1.lower.state ≡ states.Closed causes.Own
took_stops (None, e) store peer lower upper redirect live is = absurd cc
took_stops (Some (taken.Hello incoming), e) store peer lower upper redirect live is = absurd cc
took_stops (Some (taken.Command incoming), e) store peer lower upper redirect live is = absurd cc
took_stops (Some (taken.Event incoming), e) store peer lower upper redirect live is = absurd cc
took_stops (Some (taken.Progress token incoming), e) store peer lower upper redirect live is = absurd cc
took_stops (Some (taken.Final tag incoming), e) store peer lower upper redirect live is = absurd cc
took_stops (Some (taken.Closed cause), e) store peer lower upper redirect live is = own_state lower live

turn_stops : (store : StoreValue) (peer : List ℕ) (bind : Bind) (lower : Lower) (upper : Option Upper) (redirect : Option (List ℕ)) → bind ≡ Bound → is_closed lower.state ≡ false
    → (relay_called (turns Above) (relay store peer bind lower upper redirect)).bind ≡ Closed → (relay_called (turns Above) (relay store peer bind lower upper redirect)).lower.state ≡ states.Closed causes.Own
unfolding turned_above
turn_stops store peer Bound lower None redirect was live is = absurd cc
turn_stops store peer Bound lower (Some e) redirect was live is = took_stops (next_taken e) store peer lower (Some e) redirect live is
turn_stops store peer Unbound lower upper redirect was live is = absurd cc
turn_stops store peer Opening lower upper redirect was live is = absurd cc
turn_stops store peer Closed lower upper redirect was live is = absurd cc

closed_turn_takes : (store : StoreValue) (peer : List ℕ) (bind : Bind) (lower : Lower) (upper : Option Upper) (redirect : Option (List ℕ)) (end : Upper) → bind ≡ Closed
    → taken_in (upper_by (turns Above) (relay store peer bind lower upper redirect)) end ≡ []
closed_turn_takes store peer bind lower None redirect end is = refl
closed_turn_takes store peer bind lower (Some e) redirect end is = rw is refl

closed_takes : (call : Call) (v : Relay) (end : Upper) → v.bind ≡ Closed → taken_in (upper_by call v) end ≡ []
closed_takes call v end is =
    elim (turn_or_not call) as (λ _. taken_in (upper_by call v) end ≡ []) [
      | inl turn ↦ subst (λ c. taken_in (upper_by c v) end ≡ []) (sym turn) (closed_turn_takes v.store v.peer v.bind v.lower v.upper v.redirect end is)
      | inr other ↦ others_take call v v.upper end other
    ]

nothing_ended : (call : Call) (v next : Relay) (p : Past) → Holds v p → taken_in (upper_by call v) (above p).end ≡ []
    → list_any is_ending (above p).past.taken ≡ list_any is_ending (above (with_calls call v next p)).past.taken
nothing_ended call v next p h none =
    sym (ap (λ (r : Run ForwardedValue). list_any is_ending r.past.taken) (above_more call v next p h.upper)
    ∙ ap (list_any is_ending) (taken_more (upper_by call v) (above p) ∙ ap (λ ts. (above p).past.taken ++ ts) none ∙ append-nil (above p).past.taken))

stopped_more : (call : Call) (v : Relay) (p : Past) → Holds v p → Holds (relay_called call v) (with_calls call v (relay_called call v) p) → IsStopped p
    → IsStopped (with_calls call v (relay_called call v) p)
stopped_more call v p h later before ended = by_flag (p.is_bound && list_any is_ending (above p).past.taken) refl
  where
    next : Relay
    next = relay_called call v

    q : Past
    q = with_calls call v next p

    shut : next.bind ≡ Closed
    shut = ended_closed next q later ended

    was_bound : p.is_bound ≡ true
    was_bound = by (p.is_bound) refl
      where
        by : (flag : Bool) → p.is_bound ≡ flag → p.is_bound ≡ true
        by true on = on
        by false off =
            let no : (p.is_bound || is_binding next.bind) ≡ false = ap (λ b. b || is_binding next.bind) off ∙ ap is_binding shut in
            absurd (true≢false (sym ended.0 ∙ no))

    -- nothing was taken of the upper end
    was_ended : taken_in (upper_by call v) (above p).end ≡ [] → (p.is_bound && list_any is_ending (above p).past.taken) ≡ true
    was_ended none = ap (λ b. b && list_any is_ending (above p).past.taken) was_bound ∙ nothing_ended call v next p h none ∙ ended.1

    by_bind : (bind : Bind) → v.bind ≡ bind → StandsWell bind v p → (p.is_bound && list_any is_ending (above p).past.taken) ≡ false → (below q).end.state ≡ states.Closed causes.Own
    by_bind Unbound is stands off = absurd (true≢false (sym was_bound ∙ stands.2))
    by_bind Opening is stands off = absurd (true≢false (sym was_bound ∙ stands.2))
    by_bind Bound is stands off =
        elim (turn_or_not call) as (λ _. (below q).end.state ≡ states.Closed causes.Own) [
          | inl turn ↦ sym (ap (λ (e : Lower). e.state) later.lower)
              ∙ subst (λ c. (relay_called c v).bind ≡ Closed → (relay_called c v).lower.state ≡ states.Closed causes.Own) (sym turn)
              (turn_stops v.store v.peer v.bind v.lower v.upper v.redirect is stands.0) shut
          | inr other ↦ absurd (true≢false (sym (was_ended (others_take call v v.upper (above p).end other)) ∙ off))
        ]
    by_bind Closed is stands off = absurd (true≢false (sym (was_ended (closed_takes call v (above p).end is)) ∙ off))

    by_flag : (flag : Bool) → (p.is_bound && list_any is_ending (above p).past.taken) ≡ flag → (below q).end.state ≡ states.Closed causes.Own
    by_flag true on =
        let old = before (and_parts p.is_bound (list_any is_ending (above p).past.taken) on) in
        (below_as_it_was call v next p h (ap is_closed old)).state ∙ old
    by_flag false off = by_bind v.bind refl h.stands off

stopped_if : (flag : Bool) (p : Past) → IsStopped p → IsStopped (cond flag (reconnected p) p)
stopped_if true p before = λ ended. absurd cc
stopped_if false p before = before

stopped_called : (call : Call) (v : Relay) (p : Past) → Holds v p → IsStopped p → IsStopped (remembered call v (relay_called call v) p)
stopped_called (comes side piece mark) v p h before = stopped_more (comes side piece mark) v p h (holds_called (comes side piece mark) v p h).holds before
stopped_called (bytes_end side) v p h before = stopped_more (bytes_end side) v p h (holds_called (bytes_end side) v p h).holds before
stopped_called (turns side) v p h before = stopped_more (turns side) v p h (holds_called (turns side) v p h).holds before
stopped_called connects v p h before = stopped_if (awaits v) p before
stopped_called fails v p h before = stopped_more fails v p h (holds_called fails v p h).holds before
stopped_called (gives side) v p h before = stopped_more (gives side) v p h (holds_called (gives side) v p h).holds before

stopped_from : (calls : List Call) (v : Relay) (p : Past) → Holds v p → IsStopped p → IsStopped (after_all calls (record { value = whole v; past = p })).past
stopped_from [] v p h before = before
stopped_from (call ∷ calls) v p h before =
    let next = relay_called call v in
    subst (λ (value : ValueValue). IsStopped (after_all calls (record { value = value; past = remembered call v value.relay p })).past) (sym (called_whole call v))
    (stopped_from calls next (remembered call v next p) (holds_called call v p h).holds (stopped_called call v p h before))

-- ---- and nothing is said below later

quiet_if : (flag : Bool) (p : Past) → IsAsItWas (below p) (below (cond flag (reconnected p) p))
quiet_if true p = record { state = refl; queued = refl }
quiet_if false p = record { state = refl; queued = refl }

quiet_call : (call : Call) (v : Relay) (p : Past) → Holds v p → is_closed (below p).end.state ≡ true → IsAsItWas (below p) (below (remembered call v (relay_called call v) p))
quiet_call (comes side piece mark) v p h shut = below_as_it_was (comes side piece mark) v (relay_called (comes side piece mark) v) p h shut
quiet_call (bytes_end side) v p h shut = below_as_it_was (bytes_end side) v (relay_called (bytes_end side) v) p h shut
quiet_call (turns side) v p h shut = below_as_it_was (turns side) v (relay_called (turns side) v) p h shut
quiet_call connects v p h shut = quiet_if (awaits v) p
quiet_call fails v p h shut = below_as_it_was fails v (relay_called fails v) p h shut
quiet_call (gives side) v p h shut = below_as_it_was (gives side) v (relay_called (gives side) v) p h shut

quiet_from : (calls : List Call) (v : Relay) (p : Past) → Holds v p → is_closed (below p).end.state ≡ true
    → (below (after_all calls (record { value = whole v; past = p })).past).past.queued ≡ (below p).past.queued
quiet_from [] v p h shut = refl
quiet_from (call ∷ calls) v p h shut =
    let next = relay_called call v in
    let kept = quiet_call call v p h shut in
    subst (λ (value : ValueValue). (below (after_all calls (record { value = value; past = remembered call v value.relay p })).past).past.queued ≡ (below p).past.queued) (sym (called_whole call v))
    (quiet_from calls next (remembered call v next p) (holds_called call v p h).holds (ap is_closed kept.state ∙ shut) ∙ kept.queued)

-- ---- the law

told_last : (state : EndState) (queued : List Outgoing) → state ≡ states.Closed causes.Own → EndsAs state queued → (front : List Outgoing) × (queued ≡ front ++ end_of_stream ∷ [])
told_last state queued is ends = let own : EndsAs (states.Closed causes.Own) queued = subst (λ s. EndsAs s queued) is ends in (own.0, own.1)

stops : (r : ValueRun) (deeds : List Deed) → IsHeld r deeds → IsStopped r.past → StopsAfterTheEnd r
stops r deeds held stopped =
    let p = r.past in
    let v = r.value.relay in
    let once : EndsOnce (below p) = ends_once value_services None (p.until_bound ++ p.since_bound) in
    let same : r.value ≡ whole v = ap (λ (spent : Bool). record { relay = v; is_spent = spent }) held.unspent in
    record {
      closed = λ ended. ended_closed v p held.holds ended;
      last = λ ended. told_last (below p).end.state (below p).past.queued (stopped ended) once.ends;
      stays = λ calls ended.
          subst (λ (value : ValueValue). (below (after_all calls (record { value = value; past = p })).past).past.queued ≡ (below p).past.queued) (sym same)
          (quiet_from calls v p held.holds (ap is_closed (stopped ended)));
    }

pub always_stops : AfterAllCalls StopsAfterTheEnd
always_stops peer calls = stops _ _ (always_held peer calls) (stopped_from calls (new_relay peer) no_past (holds_first peer) (λ ended. absurd cc))
