-- The ends of a value-add are runs: each is what the calls that it got make of a new one.
use Rattle.std.proofs.Common.{◌≡◌, true, false, List, [], ◌++◌, Option, Some, None, refl, ap, sym, ◌∙◌, subst}
use Rattle.std.specs.Prelude.{IfSome, option_map, unwrap_or}
use Rattle.channel_core.specs.Closing.{is_closed}
use Rattle.channel_core.specs.EndValue.{EndValue}
use Rattle.channel_core.specs.QueueLaws.{ClosesOnlySo, TakesNothingClosed, may_close}
use Rattle.channel_core.specs.Runs.{Call as EndCall, Run, called as end_called}
use Rattle.channel_core.specs.Taking.{closes, next_taken}
use Rattle.value_node.specs.ForwardedValue.{ForwardedValue}
use Rattle.value_node.specs.Passing.{Lower, Upper}
use Rattle.value_node.specs.Runs.{Call, Past, UpperCall, below, connects, own_by, passing_by, upper_after, upper_from, upper_on, with_calls}
use Rattle.value_node.specs.Value.{value_services}
use Rattle.value_node.specs.declared.relay.Relay.{Relay}
use Rattle.channel_core.proofs.TheLaws.{closes_only_so, takes_nothing_closed}
use Rattle.value_node.proofs.Holding.{Holds, below_more}
use Rattle.value_node.proofs.Pasts.{after_both}
use Rattle.value_node.proofs.Steps.{end_ran, lower_runs, ran, ran_by, relay_called, upper_runs}

-- ---- an end after any calls, as far as its closing goes

pub record KeepsClosed {T : Type 0} (e : EndValue T) : Type 0 where
  pub takes_none : is_closed e.state ≡ true → next_taken e ≡ (None, e)
  pub by_taking : is_closed e.state ≡ false → is_closed (next_taken e).1.state ≡ closes (next_taken e).0
  pub by_others : (call : EndCall T) → may_close call ≡ false → is_closed (end_called call e).state ≡ is_closed e.state

facts_of : {T : Type 0} → (r : Run T) → TakesNothingClosed r → ClosesOnlySo r → KeepsClosed r.end
facts_of r none so = record { takes_none = none; by_taking = so.by_taking; by_others = so.by_others }

pub lower_facts : (v : Relay) (p : Past) → Holds v p → KeepsClosed v.lower
lower_facts v p h =
    let calls = p.until_bound ++ p.since_bound in
    subst (λ (e : Lower). KeepsClosed e) (sym h.lower) (facts_of (below p) (takes_nothing_closed value_services None calls) (closes_only_so value_services None calls))

upper_by_facts : (upper : Option Upper) (connection : Option (List UpperCall)) → upper ≡ option_map (λ calls. (upper_after calls).end) connection → IfSome upper KeepsClosed
upper_by_facts upper None same = subst (λ (o : Option Upper). IfSome o KeepsClosed) (sym same) tt
upper_by_facts upper (Some calls) same =
    subst (λ (o : Option Upper). IfSome o KeepsClosed) (sym same)
    (facts_of (upper_after calls) (takes_nothing_closed value_services None calls) (closes_only_so value_services None calls))

pub upper_facts : (v : Relay) (p : Past) → Holds v p → IfSome v.upper KeepsClosed
upper_facts v p h = upper_by_facts v.upper p.connection h.upper

pub upper_is : (upper : Option Upper) (connection : Option (List UpperCall)) → upper ≡ option_map (λ calls. (upper_after calls).end) connection
    → IfSome upper (λ e. e ≡ (upper_after (unwrap_or connection [])).end)
upper_is None connection same = tt
upper_is (Some e) None same = absurd cc
upper_is (Some e) (Some calls) same = cc

-- ---- the ends are runs

pub lower_kept : (call : Call) (v : Relay) (p : Past) → Holds v p → (relay_called call v).lower ≡ (below (with_calls call v (relay_called call v) p)).end
lower_kept call v p h =
    let calls = own_by call v ++ passing_by call v in
    lower_runs call v ∙ ap (ran calls) h.lower ∙ sym (end_ran calls (below p))
    ∙ sym (ap (λ (r : Run Unit). r.end) (below_more call v (relay_called call v) p h.unbound))

upper_more : (call : Call) (v : Relay) (upper : Option Upper) (connection : Option (List UpperCall)) → upper ≡ option_map (λ calls. (upper_after calls).end) connection
    → ran_by (upper_on call v) upper ≡ option_map (λ calls. (upper_after calls).end) (option_map (λ calls. calls ++ upper_from call v upper) connection)
upper_more call v None None same = refl
upper_more call v (Some e) None same = absurd cc
upper_more call v None (Some calls) same = absurd cc
upper_more call v (Some e) (Some calls) same =
    let more = upper_on call v e in
    let is : e ≡ (upper_after calls).end = cc in
    ap (λ x. Some x) (ap (ran more) is ∙ sym (end_ran more (upper_after calls)) ∙ sym (ap (λ (r : Run ForwardedValue). r.end) (after_both calls more (upper_after []))))

pub upper_kept : (call : Call) (v : Relay) (p : Past) → (call ≡ connects → ⊥) → Holds v p
    → (relay_called call v).upper ≡ option_map (λ calls. (upper_after calls).end) (with_calls call v (relay_called call v) p).connection
upper_kept call v p other h = upper_runs call v other ∙ upper_more call v v.upper p.connection h.upper
