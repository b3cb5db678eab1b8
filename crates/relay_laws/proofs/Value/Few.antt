-- A value-add forwards at most 2^64 commands: those that were accepted have tokens of 64 bits, and the last one may be refused.
use Rattle.std.proofs.Common.{◌≡◌, ℕ, ◌+◌, ◌-◌, ◌^◌, ◌<◌, ◌≤◌, Bool, true, false, cond, List, [], ◌∷◌, ◌++◌, length, Option, Some, None, Result, Ok, Err, refl, sym, ap, ◌∙◌, subst, arith, append_assoc, append-nil, length-append}
use Rattle.channel_core.specs.Taking.{next_taken}
use Rattle.channel_core.specs.declared.taking.Taken.{Taken}
use Rattle.channel_core.specs.declared.taking.Taken.TheVariants as taken
use Rattle.tcf_message.specs.Message.{MessageValue, command, event, final, flow, not_known, progress, reading}
use Rattle.tcf_message.specs.declared.message.MessageFault.{MessageFault}
use Rattle.value_node.specs.Asked.{Asked}
use Rattle.value_node.specs.Deeds.{Deed, above_deeds, asked_deeds, below_deeds, deed_for, deeds_by, deeds_from, heard, sent_in, turn_below_deeds}
use Rattle.value_node.specs.ForwardedValue.{ForwardedValue}
use Rattle.value_node.specs.Runs.{Call, ValueRun, above, after_all, after_call, bytes_end, comes, connects, fails, gives, next_above, no_calls, turns}
use Rattle.value_node.specs.Value.{takes_below}
use Rattle.value_node.specs.declared.relay.Relay.{Relay}
use Rattle.value_node.specs.declared.states.Bind.{Bind}
use Rattle.value_node.specs.declared.states.Bind.TheVariants.{Unbound, Opening, Bound, Closed}
use Rattle.value_node.specs.declared.states.Side.TheVariants.{Below, Above}
use Rattle.chain_told.proofs.Doing.{sent_append}
use Rattle.value_node.proofs.Holding.{issued_length}
use Rattle.value_node.proofs.HoldsCalled.{always_held}

-- ---- More calls

pub run_more : (calls more : List Call) (r : ValueRun) → after_all (calls ++ more) r ≡ after_all more (after_all calls r)
run_more [] more r = refl
run_more (call ∷ calls) more r = run_more calls more (after_call call r)

pub deeds_more : (calls more : List Call) (r : ValueRun) → deeds_from (calls ++ more) r ≡ deeds_from calls r ++ deeds_from more (after_all calls r)
deeds_more [] more r = refl
deeds_more (call ∷ calls) more r =
    ap (λ ds. deeds_by call r.value.relay ++ ds) (deeds_more calls more (after_call call r))
    ∙ sym (append_assoc (deeds_by call r.value.relay) (deeds_from calls (after_call call r)) (deeds_from more (after_all calls (after_call call r))))

-- ---- What one call forwards

deed_sends : (reply : Option (List ℕ)) (c : Asked) (mark : Option ℕ) → length (sent_in (deed_for reply c mark ∷ [])) ≤ 1
deed_sends None c mark = omega arith
deed_sends (Some reply) c mark = omega arith

asked_sends : (mark : Option ℕ) (m : Result MessageValue MessageFault) (v : Relay) → length (sent_in (asked_deeds mark m v)) ≤ 1
asked_sends mark (Ok (command token service name body)) v = deed_sends _ _ _
asked_sends mark (Ok (final token body)) v = omega arith
asked_sends mark (Ok (progress token body)) v = omega arith
asked_sends mark (Ok (not_known token)) v = omega arith
asked_sends mark (Ok (event service name body)) v = omega arith
asked_sends mark (Ok (flow level)) v = omega arith
asked_sends mark (Err fault) v = omega arith

below_sends : (what : Option (Taken Unit)) (v : Relay) → length (sent_in (below_deeds what v)) ≤ 1
below_sends None v = omega arith
below_sends (Some (taken.Hello incoming)) v = omega arith
below_sends (Some (taken.Command incoming)) v = asked_sends incoming.mark (reading incoming.raw) v
below_sends (Some (taken.Event incoming)) v = omega arith
below_sends (Some (taken.Progress token incoming)) v = omega arith
below_sends (Some (taken.Final tag incoming)) v = omega arith
below_sends (Some (taken.Closed cause)) v = omega arith

either_sends : (flag : Bool) (deeds : List Deed) → length (sent_in deeds) ≤ 1 → length (sent_in (cond flag deeds [])) ≤ 1
either_sends true deeds few = few
either_sends false deeds few = omega arith

turn_sends : (bind : Bind) (v : Relay) → length (sent_in (turn_below_deeds bind v)) ≤ 1
turn_sends Unbound v = omega arith
turn_sends Opening v = omega arith
turn_sends Bound v = either_sends (takes_below v.bind v.upper) (below_deeds (next_taken v.lower).0 v) (below_sends (next_taken v.lower).0 v)
turn_sends Closed v = omega arith

heard_sends : (what : Option (Taken ForwardedValue)) → sent_in (heard what) ≡ []
heard_sends None = refl
heard_sends (Some (taken.Hello incoming)) = refl
heard_sends (Some (taken.Command incoming)) = refl
heard_sends (Some (taken.Event incoming)) = refl
heard_sends (Some (taken.Progress token incoming)) = refl
heard_sends (Some (taken.Final tag incoming)) = refl
heard_sends (Some (taken.Closed cause)) = refl

above_sends : (bind : Bind) (what : Option (Taken ForwardedValue)) → sent_in (above_deeds bind what) ≡ []
above_sends Unbound what = refl
above_sends Opening None = refl
above_sends Opening (Some (taken.Hello incoming)) = refl
above_sends Opening (Some (taken.Command incoming)) = refl
above_sends Opening (Some (taken.Event incoming)) = refl
above_sends Opening (Some (taken.Progress token incoming)) = refl
above_sends Opening (Some (taken.Final tag incoming)) = refl
above_sends Opening (Some (taken.Closed cause)) = refl
above_sends Bound what = heard_sends what
above_sends Closed what = refl

call_sends : (call : Call) (v : Relay) → length (sent_in (deeds_by call v)) ≤ 1
call_sends (comes side piece mark) v = omega arith
call_sends (bytes_end side) v = omega arith
call_sends (turns Below) v = turn_sends v.bind v
call_sends (turns Above) v = let none : length (sent_in (above_deeds v.bind (next_above v.upper))) ≡ 0 = ap length (above_sends v.bind (next_above v.upper)) in omega arith
call_sends connects v = omega arith
call_sends fails v = omega arith
call_sends (gives side) v = omega arith

-- and one that isn't bound forwards nothing
turn_sends_none : (bind : Bind) (v : Relay) → (bind ≡ Bound → ⊥) → sent_in (turn_below_deeds bind v) ≡ []
turn_sends_none Unbound v other = refl
turn_sends_none Opening v other = refl
turn_sends_none Bound v other = absurd (other refl)
turn_sends_none Closed v other = refl

call_sends_none : (call : Call) (v : Relay) → (v.bind ≡ Bound → ⊥) → sent_in (deeds_by call v) ≡ []
call_sends_none (comes side piece mark) v other = refl
call_sends_none (bytes_end side) v other = refl
call_sends_none (turns Below) v other = turn_sends_none v.bind v other
call_sends_none (turns Above) v other = above_sends v.bind (next_above v.upper)
call_sends_none connects v other = refl
call_sends_none fails v other = refl
call_sends_none (gives side) v other = refl

-- ---- After any calls

module _ (peer : List ℕ) where
  abbrev deeds_of : List Call → List Deed
  deeds_of calls = deeds_from calls (no_calls peer)

  bound_few : (calls : List Call) → (after_all calls (no_calls peer)).value.relay.bind ≡ Bound → length (sent_in (deeds_of calls)) ≤ 2 ^ 64 - 1
  bound_few calls bound =
      let held = always_held peer calls in
      let h = held.holds in
      let a = h.accepted in
      let are : sent_in (deeds_of calls) ≡ a.sent = ap sent_in (sym held.does) ∙ a.whole ∙ ap (λ cs. a.sent ++ cs) (a.all bound) ∙ append-nil a.sent in
      let many : length (above (after_all calls (no_calls peer)).past).past.accepted ≡ length a.sent = ap length a.issued ∙ issued_length 1 a.sent in
      let most : length (above (after_all calls (no_calls peer)).past).past.accepted ≤ 2 ^ 64 - 1 = h.few in
      subst (λ cs. length cs ≤ 2 ^ 64 - 1) (sym are) (subst (λ n. n ≤ 2 ^ 64 - 1) many most)

  next_few : (calls : List Call) (call : Call) → length (sent_in (deeds_of calls)) ≤ 2 ^ 64 → length (sent_in (deeds_of (calls ++ call ∷ []))) ≤ 2 ^ 64
  next_few calls call before = by_bind v.bind refl
    where
      v : Relay
      v = (after_all calls (no_calls peer)).value.relay

      sent_are : sent_in (deeds_of (calls ++ call ∷ [])) ≡ sent_in (deeds_of calls) ++ sent_in (deeds_by call v)
      sent_are = ap sent_in (deeds_more calls (call ∷ []) (no_calls peer) ∙ ap (λ ds. deeds_of calls ++ ds) (append-nil (deeds_by call v))) ∙ sent_append (deeds_of calls) (deeds_by call v)

      by_none : sent_in (deeds_by call v) ≡ [] → length (sent_in (deeds_of (calls ++ call ∷ []))) ≤ 2 ^ 64
      by_none none =
          let same : sent_in (deeds_of (calls ++ call ∷ [])) ≡ sent_in (deeds_of calls) = sent_are ∙ ap (λ cs. sent_in (deeds_of calls) ++ cs) none ∙ append-nil (sent_in (deeds_of calls)) in
          subst (λ cs. length cs ≤ 2 ^ 64) (sym same) before

      by_bind : (bind : Bind) → v.bind ≡ bind → length (sent_in (deeds_of (calls ++ call ∷ []))) ≤ 2 ^ 64
      by_bind Bound is =
          let few : length (sent_in (deeds_of calls)) ≤ 2 ^ 64 - 1 = bound_few calls is in
          let one : length (sent_in (deeds_by call v)) ≤ 1 = call_sends call v in
          let many : length (sent_in (deeds_of (calls ++ call ∷ []))) ≡ length (sent_in (deeds_of calls)) + length (sent_in (deeds_by call v)) =
          ap length sent_are ∙ length-append (sent_in (deeds_of calls)) (sent_in (deeds_by call v)) in
          omega arith
      by_bind Unbound is = by_none (call_sends_none call v (λ bound. let no : Unbound ≡ Bound = sym is ∙ bound in absurd cc))
      by_bind Opening is = by_none (call_sends_none call v (λ bound. let no : Opening ≡ Bound = sym is ∙ bound in absurd cc))
      by_bind Closed is = by_none (call_sends_none call v (λ bound. let no : Closed ≡ Bound = sym is ∙ bound in absurd cc))

  few_from : (more calls : List Call) → length (sent_in (deeds_of calls)) ≤ 2 ^ 64 → length (sent_in (deeds_of (calls ++ more))) ≤ 2 ^ 64
  few_from [] calls before = subst (λ cs. length (sent_in (deeds_of cs)) ≤ 2 ^ 64) (sym (append-nil calls)) before
  few_from (call ∷ more) calls before =
      subst (λ cs. length (sent_in (deeds_of cs)) ≤ 2 ^ 64) (append_assoc calls (call ∷ []) more) (few_from more (calls ++ call ∷ []) (next_few calls call before))

  pub few_sent : (calls : List Call) → length (sent_in (deeds_of calls)) < 10 ^ 64
  few_sent calls = let few : length (sent_in (deeds_of calls)) ≤ 2 ^ 64 = few_from calls [] (omega arith) in omega arith
