-- A value-add closes its lower end by its own side only where its upper end ended since it was bound.
use Rattle.std.proofs.Common.{◌≡◌, ℕ, ◌+◌, ◌^◌, ◌<◌, ◌≤◌, Bool, true, false, cond, not, ⊎_elim, inl, inr, List, [], ◌∷◌, ◌++◌, length, Option, Some, None, option_map, Result, Ok, Err, refl, sym, ap, ◌∙◌, subst, arith, append_assoc, append-nil}
use Rattle.std.specs.Prelude.{Contains, unwrap_or}
use Rattle.std.specs.List.{list_any}
use Rattle.std.proofs.lemmas.Bool.{and_left, or_cases, or_left}
use Rattle.std.proofs.lemmas.List.Elements.{Contains-append_left, Contains-append_right}
use Rattle.std.proofs.lemmas.List.Folds.{list_any-append}
use Rattle.tcf_message.specs.Message.{MessageValue, command, event, final, flow, most_body, not_known, progress, reading}
use Rattle.tcf_message.specs.declared.message.MessageFault.{MessageFault}
use Rattle.list_laws.specs.Fronts.{IsFront}
use Rattle.list_laws.proofs.Fronts.{front_then}
use Rattle.channel_core.specs.Beginning.{new_end}
use Rattle.channel_core.specs.Closing.{is_closed}
use Rattle.channel_core.specs.Laws.{listed}
use Rattle.channel_core.specs.ReceivingLaws.{EndsFor}
use Rattle.channel_core.specs.Runs.{after_calls, begun, closing, taking}
use Rattle.channel_core.specs.Taking.{next_taken}
use Rattle.channel_core.specs.declared.states.Cause.{Cause}
use Rattle.channel_core.specs.declared.states.Cause.TheVariants.{Own}
use Rattle.channel_core.specs.declared.states.EndState.TheVariants.{Closed as IsClosed}
use Rattle.channel_core.specs.declared.taking.Taken.{Taken}
use Rattle.channel_core.specs.declared.taking.Taken.TheVariants as taken
use Rattle.channel_laws.specs.Faults.{is_closing}
use Rattle.value_node.specs.Deeds.{deeds_from}
use Rattle.value_node.specs.ForwardedValue.{ForwardedValue}
use Rattle.value_node.specs.Own.{own_reply, redirect_failed}
use Rattle.value_node.specs.OwnLaws.{asked_until}
use Rattle.value_node.specs.Passing.{Upper}
use Rattle.value_node.specs.RelayLaws.{EndsAreRuns, StandsWell, asked_since}
use Rattle.value_node.specs.Runs.{Call, LowerCall, Past, UpperCall, ValueRun, above, after_all, after_call, answering, asked_below, asked_below_in, before_hello_below, below, bound_below, bytes_end, comes, connects, ended_below, event_calls, fails, final_calls, gives, is_binding, lower_after, next_above, no_calls, only_if, own_by, own_calls, passing_any, passing_by, passing_from, progress_calls, reconnected, stored_for, took_above_above, took_above_below, took_below_below, turns, upper_after, upper_by, upper_from, with_calls}
use Rattle.value_node.specs.Value.{awaits, is_free, is_opening, pending_above, takes_above, takes_below, value_services}
use Rattle.value_node.specs.declared.own.Own.TheVariants as own
use Rattle.value_node.specs.declared.own.Own.{Own as OwnReply}
use Rattle.value_node.specs.declared.relay.Relay.{Relay}
use Rattle.value_node.specs.declared.states.Bind.{Bind}
use Rattle.value_node.specs.declared.states.Bind.TheVariants.{Bound, Closed, Opening, Unbound}
use Rattle.value_node.specs.declared.states.Side.TheVariants.{Above, Below}
use Rattle.chain_route.specs.Carrying.{past_after}
use Rattle.channel_core.proofs.TheLaws.{closes_only_so, stays_closed}
use Rattle.channel_laws.proofs.TheLaws.{ends_by_its_calls}
use Rattle.tcf_message.proofs.TheLaws.{read_back}
use Rattle.value_node.proofs.TheLaws.{answers_itself, ends_are_runs, forwards_in_order}
use Rattle.chain_through.proofs.Accepting.{has_upper, none_refused}
use Rattle.chain_through.proofs.OwnClosing.{takes_closing, takes_no_own, uncalled}
use Rattle.chain_through.proofs.Taking.{taken_split}
use Rattle.chain_route.proofs.Adds.{all_more, lower_calls as calls_below}
use Rattle.chain_route.proofs.EndCalls.{calls_more}

-- ---- The calls of the lower end

abbrev added : Call → Relay → List LowerCall
added call v = own_by call v ++ passing_by call v

split_calls : (bound : Bool) (until since own passing : List LowerCall) → (bound ≡ false → since ≡ []) → (until ++ only_if (not bound) own) ++ (since ++ (only_if bound own ++ passing)) ≡ (until ++ since) ++ (own ++ passing)
split_calls true until since own passing none = ap (λ xs. xs ++ (since ++ (own ++ passing))) (append-nil until) ∙ sym (append_assoc until since (own ++ passing))
split_calls false until since own passing none =
    ap (λ xs. (until ++ own) ++ (xs ++ passing)) (none refl) ∙ append_assoc until own passing
    ∙ ap (λ xs. xs ++ (own ++ passing)) (sym (append-nil until) ∙ ap (λ xs. until ++ xs) (sym (none refl)))

connected_calls : (flag : Bool) (p : Past) → calls_below (cond flag (reconnected p) p) ≡ calls_below p
connected_calls true p = refl
connected_calls false p = refl

calls_added : (call : Call) (r : ValueRun) → (r.past.is_bound ≡ false → r.past.since_bound ≡ []) → calls_below (after_call call r).past ≡ calls_below r.past ++ added call r.value.relay
calls_added connects r none = connected_calls (awaits r.value.relay) r.past ∙ sym (append-nil (calls_below r.past))
calls_added (comes side piece mark) r none =
    let call = comes side piece mark in split_calls r.past.is_bound r.past.until_bound r.past.since_bound (own_by call r.value.relay) (passing_by call r.value.relay) none
calls_added (bytes_end side) r none = let call = bytes_end side in split_calls r.past.is_bound r.past.until_bound r.past.since_bound (own_by call r.value.relay) (passing_by call r.value.relay) none
calls_added (turns side) r none = let call = turns side in split_calls r.past.is_bound r.past.until_bound r.past.since_bound (own_by call r.value.relay) (passing_by call r.value.relay) none
calls_added fails r none = split_calls r.past.is_bound r.past.until_bound r.past.since_bound (own_by fails r.value.relay) (passing_by fails r.value.relay) none
calls_added (gives side) r none = let call = gives side in split_calls r.past.is_bound r.past.until_bound r.past.since_bound (own_by call r.value.relay) (passing_by call r.value.relay) none

-- ---- Calls that close nothing

abbrev NoneCloses : List LowerCall → Type 0
NoneCloses calls = list_any is_closing calls ≡ false

answering_open : (redirect : Option (List ℕ)) (body : List ℕ) → NoneCloses (answering redirect body)
answering_open None body = refl
answering_open (Some token) body = refl

own_open : (token : List ℕ) (what : OwnReply) → NoneCloses (own_calls token what)
own_open token own.Unknown = refl
own_open token (own.Result body) = refl
own_open token own.Connect = refl

hello_open : (bind : Bind) (v : Relay) → NoneCloses (before_hello_below bind v)
hello_open Unbound v = refl
hello_open Opening v = answering_open v.redirect _
hello_open Bound v = refl
hello_open Closed v = refl

ended_open : (bind : Bind) (v : Relay) → NoneCloses (ended_below bind v)
ended_open Unbound v = refl
ended_open Opening v = answering_open v.redirect _
ended_open Bound v = refl
ended_open Closed v = refl

above_open : (what : Option (Taken ForwardedValue)) (v : Relay) → NoneCloses (took_above_below what v)
above_open None v = refl
above_open (Some (taken.Hello incoming)) v = hello_open v.bind v
above_open (Some (taken.Command incoming)) v = refl
above_open (Some (taken.Event incoming)) v = refl
above_open (Some (taken.Progress token incoming)) v = refl
above_open (Some (taken.Final tag incoming)) v = refl
above_open (Some (taken.Closed cause)) v = ended_open v.bind v

event_open : (mark : Option ℕ) (r : Result MessageValue MessageFault) → NoneCloses (event_calls mark r)
event_open mark (Ok (command token service name body)) = refl
event_open mark (Ok (final token body)) = refl
event_open mark (Ok (progress token body)) = refl
event_open mark (Ok (not_known token)) = refl
event_open mark (Ok (event service name body)) = refl
event_open mark (Ok (flow level)) = refl
event_open mark (Err fault) = refl

progress_open : (forwarded : Option ForwardedValue) (mark : Option ℕ) (r : Result MessageValue MessageFault) → NoneCloses (progress_calls forwarded mark r)
progress_open None mark r = refl
progress_open (Some forwarded) mark (Ok (command token service name body)) = refl
progress_open (Some forwarded) mark (Ok (final token body)) = refl
progress_open (Some forwarded) mark (Ok (progress token body)) = refl
progress_open (Some forwarded) mark (Ok (not_known token)) = refl
progress_open (Some forwarded) mark (Ok (event service name body)) = refl
progress_open (Some forwarded) mark (Ok (flow level)) = refl
progress_open (Some forwarded) mark (Err fault) = refl

final_open : (forwarded : ForwardedValue) (mark : Option ℕ) (r : Result MessageValue MessageFault) → NoneCloses (final_calls forwarded mark r)
final_open forwarded mark (Ok (command token service name body)) = refl
final_open forwarded mark (Ok (final token body)) = refl
final_open forwarded mark (Ok (progress token body)) = refl
final_open forwarded mark (Ok (not_known token)) = refl
final_open forwarded mark (Ok (event service name body)) = refl
final_open forwarded mark (Ok (flow level)) = refl
final_open forwarded mark (Err fault) = refl

either_open : (flag : Bool) (calls : List LowerCall) → NoneCloses calls → NoneCloses (cond flag calls [])
either_open true calls none = none
either_open false calls none = refl

either_closes : (flag : Bool) (calls : List LowerCall) → list_any is_closing (cond flag calls []) ≡ true → (flag ≡ true) × (list_any is_closing calls ≡ true)
either_closes true calls some = (refl, some)
either_closes false calls some = absurd cc

-- ---- The upper end ended

-- since the value-add was bound, and not by its own side
pub record IsEndedAbove (p : Past) : Type 0 where
  pub bound : p.is_bound ≡ true
  pub cause : Cause
  pub among : Contains (above p).past.taken (taken.Closed cause)
  pub other : cause ≡ Own → ⊥

taken_more : (connection : Option (List UpperCall)) (more : List UpperCall) (what : Taken ForwardedValue) → Contains (upper_after (unwrap_or connection [])).past.taken what
    → Contains (upper_after (unwrap_or (option_map (λ calls. calls ++ more) connection) [])).past.taken what
taken_more None more what among = among
taken_more (Some calls) more what among =
    let start = begun (new_end {T = ForwardedValue} value_services None) in
    subst (λ entries. Contains entries what) (sym (taken_split calls more start)) (Contains-append_left (upper_after calls).past.taken (after_calls more (begun (upper_after calls).end)).past.taken what among)

kept_ended : (call : Call) (before after : Relay) (p : Past) → IsEndedAbove p → IsEndedAbove (with_calls call before after p)
kept_ended call before after p e = record {
  bound = or_left p.is_bound (is_binding after.bind) e.bound;
  cause = e.cause;
  among = taken_more p.connection (upper_by call before) (taken.Closed e.cause) e.among;
  other = e.other;
}

stays_ended : (call : Call) (r : ValueRun) → is_opening r.value.relay.bind ≡ false → IsEndedAbove r.past → IsEndedAbove (after_call call r).past
stays_ended connects r isnt e =
    let v = r.value.relay in
    let same : cond (awaits v) (reconnected r.past) r.past ≡ r.past = ap (λ flag. cond flag (reconnected r.past) r.past) (and_left (is_opening v.bind) (is_free v.upper) isnt) in
    subst IsEndedAbove (sym same) e
stays_ended (comes side piece mark) r isnt e = kept_ended (comes side piece mark) r.value.relay (after_call (comes side piece mark) r).value.relay r.past e
stays_ended (bytes_end side) r isnt e = kept_ended (bytes_end side) r.value.relay (after_call (bytes_end side) r).value.relay r.past e
stays_ended (turns side) r isnt e = kept_ended (turns side) r.value.relay (after_call (turns side) r).value.relay r.past e
stays_ended fails r isnt e = kept_ended fails r.value.relay (after_call fails r).value.relay r.past e
stays_ended (gives side) r isnt e = kept_ended (gives side) r.value.relay (after_call (gives side) r).value.relay r.past e

-- a value-add whose lower end is closed waits for nothing
closed_bind : (bind : Bind) (v : Relay) (p : Past) → StandsWell bind v p → is_closed v.lower.state ≡ true → is_opening bind ≡ false
closed_bind Unbound v p stands closed = refl
closed_bind Opening v p stands closed = let opened : is_closed v.lower.state ≡ false = stands.0 in absurd cc
closed_bind Bound v p stands closed = refl
closed_bind Closed v p stands closed = refl

-- ---- An entry from above closes it

passes_closing : (what : Option (Taken ForwardedValue)) (e : Upper) (bind : Bind) → list_any is_closing (passing_any (what, e) bind) ≡ true → (bind ≡ Bound) × (cause : Cause) × (what ≡ Some (taken.Closed cause))
passes_closing None e bind some = absurd cc
passes_closing (Some (taken.Hello incoming)) e bind some = let none = event_open incoming.mark (reading incoming.raw) in absurd cc
passes_closing (Some (taken.Command incoming)) e bind some = absurd cc
passes_closing (Some (taken.Event incoming)) e bind some = let none = event_open incoming.mark (reading incoming.raw) in absurd cc
passes_closing (Some (taken.Progress token incoming)) e bind some = let none = progress_open (pending_above token (Some e)) incoming.mark (reading incoming.raw) in absurd cc
passes_closing (Some (taken.Final forwarded incoming)) e bind some = let none = final_open forwarded incoming.mark (reading incoming.raw) in absurd cc
passes_closing (Some (taken.Closed cause)) e Unbound some = absurd cc
passes_closing (Some (taken.Closed cause)) e Opening some = absurd cc
passes_closing (Some (taken.Closed cause)) e Bound some = (refl, cause, refl)
passes_closing (Some (taken.Closed cause)) e Closed some = absurd cc

takes_ended : (calls rest : List UpperCall) (cause : Cause) → (next_taken (upper_after calls).end).0 ≡ Some (taken.Closed cause) → Contains (upper_after (calls ++ taking ∷ rest)).past.taken (taken.Closed cause)
takes_ended calls rest cause took =
    let start = begun (new_end {T = ForwardedValue} value_services None) in
    let e = (upper_after calls).end in
    let first : Contains (listed (next_taken e).0) (taken.Closed cause) = subst (λ (what : Option (Taken ForwardedValue)). Contains (listed what) (taken.Closed cause)) (sym took) (0, omega arith, refl) in
    let later : Contains (after_calls (taking ∷ rest) (begun e)).past.taken (taken.Closed cause) =
    subst (λ entries. Contains entries (taken.Closed cause)) (sym (taken_split (taking ∷ []) rest (begun e)))
    (Contains-append_left (listed (next_taken e).0) (after_calls rest (begun (after_calls (taking ∷ []) (begun e)).end)).past.taken (taken.Closed cause) first) in
    subst (λ entries. Contains entries (taken.Closed cause)) (sym (taken_split calls (taking ∷ rest) start))
    (Contains-append_right (upper_after calls).past.taken (after_calls (taking ∷ rest) (begun e)).past.taken (taken.Closed cause) later)

turned_above : (r : ValueRun) → EndsAreRuns r → list_any is_closing (added (turns Above) r.value.relay) ≡ true → IsEndedAbove (after_call (turns Above) r).past
turned_above r runs some =
    let v = r.value.relay in
    ⊎_elim
    (λ one. let none = either_open (takes_above v.bind) (took_above_below (next_above v.upper) v) (above_open (next_above v.upper) v) in absurd cc)
    (λ one. let both = either_closes (takes_above v.bind) (passing_from v.upper v.bind) one in by_upper v.upper refl both.0 both.1)
    (or_cases (list_any is_closing (own_by (turns Above) v)) (list_any is_closing (passing_by (turns Above) v)) (sym (list_any-append is_closing (own_by (turns Above) v) (passing_by (turns Above) v)) ∙ some))
  where
    by_upper : (upper : Option Upper) → r.value.relay.upper ≡ upper → takes_above r.value.relay.bind ≡ true → list_any is_closing (passing_from upper r.value.relay.bind) ≡ true → IsEndedAbove (after_call (turns Above) r).past
    by_upper None is takes some = absurd cc
    by_upper (Some e) is takes some =
        let v = r.value.relay in
        let p = passes_closing (next_taken e).0 (next_taken e).1 v.bind some in
        let stands : StandsWell Bound v r.past = subst (λ bind. StandsWell bind v r.past) p.0 runs.stands in
        let u = has_upper r runs stands.1 in
        let end = (upper_after u.calls).end in
        let both : Some e ≡ Some end = sym is ∙ u.upper_is in
        let same : e ≡ end = cc in
        let took : (next_taken end).0 ≡ Some (taken.Closed p.1) = ap (λ (x : Upper). (next_taken x).0) (sym same) ∙ p.2 in
        let rest = took_above_above (next_taken end).0 v.bind in
        let more : upper_by (turns Above) v ≡ taking ∷ rest = ap (upper_from (turns Above) v) u.upper_is ∙ ap (λ flag. cond flag (taking ∷ rest) []) takes in
        let connection : option_map (λ calls. calls ++ upper_by (turns Above) v) r.past.connection ≡ Some (u.calls ++ taking ∷ rest) =
        ap (option_map (λ calls. calls ++ upper_by (turns Above) v)) u.connection_is ∙ ap (λ calls. Some (u.calls ++ calls)) more in
        record {
          bound = or_left r.past.is_bound (is_binding (after_call (turns Above) r).value.relay.bind) stands.2;
          cause = p.1;
          among = subst (λ c. Contains (upper_after (unwrap_or c [])).past.taken (taken.Closed p.1)) (sym connection) (takes_ended u.calls rest p.1 took);
          other = takes_no_own value_services None u.calls u.opened p.1 took;
        }

-- ---- One from below doesn't

-- so few commands were taken
abbrev IsFew : Past → Type 0
IsFew p = length (asked_until p) + length (asked_since p) < 2 ^ 64

module _ (peer : List ℕ) (before : List Call) (few : IsFew (past_after peer before)) where
  abbrev run : ValueRun
  run = after_all before (no_calls peer)

  abbrev relay : Relay
  relay = run.value.relay

  quiet_asked : (token service name body : List ℕ) → takes_below relay.bind relay.upper ≡ true → length service + length name + length body ≤ most_body → (bind : Bind) → relay.bind ≡ bind
      → NoneCloses (asked_below_in bind token service name body relay)
  quiet_asked token service name body takes short Unbound is = own_open token (own_reply relay.peer service name body)
  quiet_asked token service name body takes short Opening is = refl
  quiet_asked token service name body takes short Bound is = by_store (stored_for service name body relay)
    where
      by_store : (stored : Option (List ℕ)) → NoneCloses (bound_below stored token service name body relay)
      by_store None = none_refused run (deeds_from before (no_calls peer)) (ends_are_runs peer before) (forwards_in_order peer before) (answers_itself peer before) is takes few service name body short
      by_store (Some reply) = refl
  quiet_asked token service name body takes short Closed is = refl

  quiet_read : (raw : List ℕ) → takes_below relay.bind relay.upper ≡ true → (read : Result MessageValue MessageFault) → reading raw ≡ read → NoneCloses (asked_below read relay)
  quiet_read raw takes (Ok (command token service name body)) is =
      let says = (read_back.0 raw (command token service name body)).0 is in quiet_asked token service name body takes says.0.1 relay.bind refl
  quiet_read raw takes (Ok (final token body)) is = refl
  quiet_read raw takes (Ok (progress token body)) is = refl
  quiet_read raw takes (Ok (not_known token)) is = refl
  quiet_read raw takes (Ok (event service name body)) is = refl
  quiet_read raw takes (Ok (flow level)) is = refl
  quiet_read raw takes (Err fault) is = refl

  abbrev lower : List LowerCall
  lower = calls_below run.past

  -- what is closed by an entry from below isn't closed by its own side
  turned_taking : is_closed (lower_after lower).end.state ≡ false → takes_below relay.bind relay.upper ≡ true → (what : Option (Taken Unit)) → (next_taken relay.lower).0 ≡ what
      → (after_calls (taking ∷ took_below_below what relay) (lower_after lower)).end.state ≡ IsClosed Own → list_any is_closing (took_below_below what relay) ≡ true → ⊥
  turned_taking opened takes None is closed some = absurd cc
  turned_taking opened takes (Some (taken.Hello incoming)) is closed some = absurd cc
  turned_taking opened takes (Some (taken.Command incoming)) is closed some = let none = quiet_read incoming.raw takes (reading incoming.raw) refl in absurd cc
  turned_taking opened takes (Some (taken.Event incoming)) is closed some = absurd cc
  turned_taking opened takes (Some (taken.Progress token incoming)) is closed some = absurd cc
  turned_taking opened takes (Some (taken.Final tag incoming)) is closed some = absurd cc
  turned_taking opened takes (Some (taken.Closed cause)) is closed some =
      let same = (ends_are_runs peer before).lower in
      let took : (next_taken (lower_after lower).end).0 ≡ Some (taken.Closed cause) = ap (λ e. (next_taken e).0) (sym same) ∙ is in
      takes_closing value_services None lower (closes_only_so value_services None lower) opened cause took (closing ∷ []) closed

  turned_below : is_closed (lower_after lower).end.state ≡ false → (takes : Bool) → takes_below relay.bind relay.upper ≡ takes
      → (after_calls (cond takes (taking ∷ took_below_below (next_taken relay.lower).0 relay) []) (lower_after lower)).end.state ≡ IsClosed Own
      → list_any is_closing (cond takes (taking ∷ took_below_below (next_taken relay.lower).0 relay) []) ≡ true → ⊥
  turned_below opened true takes closed some = turned_taking opened takes (next_taken relay.lower).0 refl closed some
  turned_below opened false takes closed some = absurd cc

  -- ---- Each call

  -- by which an open lower end is closed by its own side
  closed_by : (call : Call) → is_closed (lower_after lower).end.state ≡ false → (after_calls (added call relay) (lower_after lower)).end.state ≡ IsClosed Own → list_any is_closing (added call relay) ≡ true
      → IsEndedAbove (after_call call run).past
  closed_by connects opened closed some = absurd cc
  closed_by (comes Below piece mark) opened closed some = absurd cc
  closed_by (comes Above piece mark) opened closed some = absurd cc
  closed_by (bytes_end Below) opened closed some = absurd cc
  closed_by (bytes_end Above) opened closed some = absurd cc
  closed_by (turns Below) opened closed some =
      let calls = own_by (turns Below) relay in
      let all : calls ++ [] ≡ calls = append-nil calls in
      absurd (turned_below opened (takes_below relay.bind relay.upper) refl (subst (λ cs. (after_calls cs (lower_after lower)).end.state ≡ IsClosed Own) all closed) (sym (ap (list_any is_closing) all) ∙ some))
  closed_by (turns Above) opened closed some = turned_above run (ends_are_runs peer before) some
  closed_by fails opened closed some =
      let calls = own_by fails relay in
      let none : list_any is_closing (calls ++ []) ≡ false = ap (list_any is_closing) (append-nil calls) ∙ either_open (awaits relay) (answering relay.redirect redirect_failed) (answering_open relay.redirect redirect_failed) in
      absurd cc
  closed_by (gives Below) opened closed some = absurd cc
  closed_by (gives Above) opened closed some = absurd cc

  abbrev ClosesSo : Past → Type 0
  ClosesSo p = (below p).end.state ≡ IsClosed Own → IsEndedAbove p

  step_closes : (call : Call) → ClosesSo run.past → ClosesSo (after_call call run).past
  step_closes call so closed = by_flag (is_closed (lower_after lower).end.state) refl
    where
      calls_are : calls_below (after_call call run).past ≡ lower ++ added call relay
      calls_are = calls_added call run (ends_are_runs peer before).unbound

      closed_now : (lower_after (lower ++ added call relay)).end.state ≡ IsClosed Own
      closed_now = subst (λ cs. (lower_after cs).end.state ≡ IsClosed Own) calls_are closed

      closed_then : (after_calls (added call relay) (lower_after lower)).end.state ≡ IsClosed Own
      closed_then = ap (λ x. x.end.state) (sym (calls_more lower (added call relay) (begun (new_end value_services None)))) ∙ closed_now

      by_flag : (flag : Bool) → is_closed (lower_after lower).end.state ≡ flag → IsEndedAbove (after_call call run).past
      by_flag true is =
          let runs = ends_are_runs peer before in
          let still = stays_closed value_services None lower (added call relay) is in
          let isnt = closed_bind relay.bind relay run.past runs.stands (ap (λ e. is_closed e.state) runs.lower ∙ is) in
          stays_ended call run isnt (so (sym still.state ∙ closed_then))
      by_flag false is =
          let ends_for : EndsFor (lower_after (lower ++ added call relay)) Own = inr (inl closed_now) in
          let any : list_any is_closing (lower ++ added call relay) ≡ true = (ends_by_its_calls value_services None (lower ++ added call relay)).own ends_for in
          let none = uncalled value_services None lower is in
          let some : list_any is_closing (added call relay) ≡ true =
          ⊎_elim (λ one. absurd cc) (λ one. one) (or_cases (list_any is_closing lower) (list_any is_closing (added call relay)) (sym (list_any-append is_closing lower (added call relay)) ∙ any)) in
          closed_by call is closed_then some

-- ---- After all calls

abbrev pub AreFew : List ℕ → List Call → Type 0
AreFew peer calls = (first rest : List Call) → calls ≡ first ++ rest → length (asked_until (past_after peer first)) + length (asked_since (past_after peer first)) < 2 ^ 64

closes_from : (peer : List ℕ) (before calls : List Call) → AreFew peer (before ++ calls) → ((below (past_after peer before)).end.state ≡ IsClosed Own → IsEndedAbove (past_after peer before))
    → (below (past_after peer (before ++ calls))).end.state ≡ IsClosed Own → IsEndedAbove (past_after peer (before ++ calls))
closes_from peer before [] few so =
    subst (λ cs. (below (past_after peer cs)).end.state ≡ IsClosed Own → IsEndedAbove (past_after peer cs)) (sym (append-nil before)) so
closes_from peer before (call ∷ calls) few so =
    let all : (before ++ call ∷ []) ++ calls ≡ before ++ call ∷ calls = append_assoc before (call ∷ []) calls in
    let next = step_closes peer before (few before (call ∷ calls) refl) call so in
    let later = subst (λ r. (below r.past).end.state ≡ IsClosed Own → IsEndedAbove r.past) (sym (all_more before (call ∷ []) (no_calls peer))) next in
    subst (λ cs. (below (past_after peer cs)).end.state ≡ IsClosed Own → IsEndedAbove (past_after peer cs)) all
    (closes_from peer (before ++ call ∷ []) calls (λ first rest is. few first rest (sym all ∙ is)) later)

pub closed_so : (peer : List ℕ) (calls : List Call) → AreFew peer calls → (below (past_after peer calls)).end.state ≡ IsClosed Own → IsEndedAbove (past_after peer calls)
closed_so peer calls few = closes_from peer [] calls few (λ is. absurd cc)

-- what came to it before is a front of what comes to it
pub calls_front : (peer : List ℕ) (before calls : List Call) → IsFront (calls_below (past_after peer before)) (calls_below (past_after peer (before ++ calls)))
calls_front peer before [] = ([], ap (λ cs. calls_below (past_after peer cs)) (append-nil before) ∙ sym (append-nil (calls_below (past_after peer before))))
calls_front peer before (call ∷ calls) =
    let r = after_all before (no_calls peer) in
    let all : (before ++ call ∷ []) ++ calls ≡ before ++ call ∷ calls = append_assoc before (call ∷ []) calls in
    let one : IsFront (calls_below r.past) (calls_below (past_after peer (before ++ call ∷ []))) =
    (added call r.value.relay, ap (λ x. calls_below x.past) (all_more before (call ∷ []) (no_calls peer)) ∙ calls_added call r (ends_are_runs peer before).unbound) in
    let more = subst (λ cs. IsFront (calls_below (past_after peer (before ++ call ∷ []))) (calls_below (past_after peer cs))) all (calls_front peer (before ++ call ∷ []) calls) in
    front_then (calls_below r.past) (calls_below (past_after peer (before ++ call ∷ []))) (calls_below (past_after peer (before ++ call ∷ calls))) one more
