-- Each call of a value-add keeps what holds of it and its past, so that holds after any calls.
use Rattle.std.proofs.Common.{◌≡◌, false, List, [], ◌∷◌, ◌++◌, refl, sym, ap, ap₂, ◌∙◌, subst}
use Rattle.std.proofs.lemmas.List.{append-nil, append_assoc}
use Rattle.value_node.specs.Deeds.{Deed, answers, deeds_by, deeds_from}
use Rattle.value_node.specs.RelayLaws.{AfterAllCalls, AfterAllDeeds, AnswersRightly, EndsAreRuns, KnowsWhatItHeard}
use Rattle.value_node.specs.Runs.{Call, Past, ValueRun, after_all, bytes_end, comes, connects, fails, gives, no_calls, no_past, remembered, turns, with_calls}
use Rattle.value_node.specs.Value.{new_relay}
use Rattle.value_node.specs.ValueValue.{ValueValue}
use Rattle.value_node.specs.declared.relay.Relay.{Relay}
use Rattle.value_node.specs.declared.states.Bind.TheVariants.{Bound}
use Rattle.value_node.proofs.CallAdds.{asked_now, call_asks}
use Rattle.value_node.proofs.DeedLists.{asked_both, right_at}
use Rattle.value_node.proofs.Holding.{Holds, first_does, holds_first}
use Rattle.value_node.proofs.HoldsConnected.{connected_does, holds_connected}
use Rattle.value_node.proofs.HoldsEnds.{lower_kept, upper_kept}
use Rattle.value_node.proofs.HoldsHeard.{messages_kept}
use Rattle.value_node.proofs.HoldsHello.{fresh_kept, heard_kept, idle_kept, quiet_of, unbound_kept, waits_of}
use Rattle.value_node.proofs.HoldsIssued.{accepted_kept, few_kept}
use Rattle.value_node.proofs.HoldsKnows.{knows_kept}
use Rattle.value_node.proofs.HoldsPassed.{names_more, passed_more, upper_tokens}
use Rattle.value_node.proofs.HoldsRight.{right_kept}
use Rattle.value_node.proofs.HoldsStands.{stands_kept}
use Rattle.value_node.proofs.Knowing.{Knows}
use Rattle.value_node.proofs.NoCommandBelow.{uncommanding_more}
use Rattle.value_node.proofs.Readable.{above_readable_more, below_readable_more}
use Rattle.value_node.proofs.Redirects.{redirect_called}
use Rattle.value_node.proofs.Steps.{called_whole, relay_called, whole}
use Rattle.value_node.proofs.Undrained.{undrained_kept}

-- of every call but a connection
pub record IsKept (next : Relay) (past : Past) (deeds : List Deed) : Type 0 where
  pub holds : Holds next past
  pub does : holds.deeds ≡ deeds

holds_more : (call : Call) (v : Relay) (p : Past) → (call ≡ connects → ⊥) → (h : Holds v p)
    → IsKept (relay_called call v) (with_calls call v (relay_called call v) p) (h.deeds ++ deeds_by call v)
holds_more call v p other h =
    let next = relay_called call v in
    let q = with_calls call v next p in
    let kept : Holds next q = record {
      deeds = h.deeds ++ deeds_by call v;
      lower = lower_kept call v p h;
      upper = upper_kept call v p other h;
      stands = stands_kept call v p other h;
      unbound = unbound_kept call v p h;
      heard = heard_kept call v p h;
      waits = λ off. waits_of next q (upper_kept call v p other h) (heard_kept call v p h ∙ off);
      quiet = λ off. quiet_of q (heard_kept call v p h ∙ off);
      earlier = h.earlier;
      idle = idle_kept call v p h;
      asked = asked_now call v next p h ∙ ap₂ (λ xs ys. xs ++ ys) h.asked (call_asks call v p h) ∙ sym (asked_both h.deeds (deeds_by call v));
      messages = messages_kept call v next p h;
      passed = passed_more call v next p h;
      accepted = accepted_kept call v p h;
      undrained = undrained_kept call v next p h;
      right = right_kept v p h call;
      fresh = fresh_kept call v p h;
      knows = knows_kept call v p h;
      few = few_kept call v p h;
      named = names_more call v p h next;
      below_readable = below_readable_more call v next p h.redirect (upper_tokens call v p h) h.below_readable;
      above_readable = above_readable_more call v next p h.above_readable;
      redirect = redirect_called call v h.redirect;
      uncommanding = uncommanding_more call v next p h.uncommanding;
    } in
    record { holds = kept; does = refl }

pub holds_called : (call : Call) (v : Relay) (p : Past) (h : Holds v p) → IsKept (relay_called call v) (remembered call v (relay_called call v) p) (h.deeds ++ deeds_by call v)
holds_called (comes side piece mark) v p h = holds_more (comes side piece mark) v p (λ is. absurd cc) h
holds_called (bytes_end side) v p h = holds_more (bytes_end side) v p (λ is. absurd cc) h
holds_called (turns side) v p h = holds_more (turns side) v p (λ is. absurd cc) h
holds_called connects v p h = record { holds = holds_connected v p h; does = connected_does v p h ∙ sym (append-nil h.deeds) }
holds_called fails v p h = holds_more fails v p (λ is. absurd cc) h
holds_called (gives side) v p h = holds_more (gives side) v p (λ is. absurd cc) h

-- ---- after any calls

pub record IsHeld (r : ValueRun) (deeds : List Deed) : Type 0 where
  pub unspent : r.value.is_spent ≡ false
  pub holds : Holds r.value.relay r.past
  pub does : holds.deeds ≡ deeds

abbrev run_of : Relay → Past → ValueRun
run_of v p = record { value = whole v; past = p }

held_from : (calls : List Call) (v : Relay) (p : Past) (h : Holds v p) → IsHeld (after_all calls (run_of v p)) (h.deeds ++ deeds_from calls (run_of v p))
held_from [] v p h = record { unspent = refl; holds = h; does = sym (append-nil h.deeds) }
held_from (call ∷ calls) v p h =
    let next = relay_called call v in
    let q = remembered call v next p in
    let kept = holds_called call v p h in
    let later = deeds_from calls (run_of next q) in
    let deeds_are : kept.holds.deeds ++ later ≡ h.deeds ++ (deeds_by call v ++ later) = ap (λ ds. ds ++ later) kept.does ∙ append_assoc h.deeds (deeds_by call v) later in
    subst (λ (value : ValueValue). IsHeld (after_all calls (record { value = value; past = remembered call v value.relay p }))
    (h.deeds ++ (deeds_by call v ++ deeds_from calls (record { value = value; past = remembered call v value.relay p })))) (sym (called_whole call v))
    (subst (IsHeld (after_all calls (run_of next q))) deeds_are (held_from calls next q kept.holds))

pub always_held : AfterAllDeeds IsHeld
always_held peer calls =
    subst (λ ds. IsHeld (after_all calls (no_calls peer)) (ds ++ deeds_from calls (no_calls peer))) (first_does peer) (held_from calls (new_relay peer) no_past (holds_first peer))

-- ---- the law of the ends

ends_are_runs : (r : ValueRun) (deeds : List Deed) → IsHeld r deeds → EndsAreRuns r
ends_are_runs r deeds held =
    let h = held.holds in
    record {
      unspent = held.unspent;
      lower = h.lower;
      upper = h.upper;
      stands = h.stands;
      unbound = h.unbound;
      heard = h.heard;
      earlier = h.earlier;
      below_readable = h.below_readable;
      above_readable = h.above_readable;
    }

pub always_runs : AfterAllCalls EndsAreRuns
always_runs peer calls = ends_are_runs _ _ (always_held peer calls)

-- ---- and those of the store

answers_rightly : (r : ValueRun) (deeds : List Deed) → IsHeld r deeds → AnswersRightly r deeds
answers_rightly r deeds held = λ before rest c reply mark whole. right_at held.holds.deeds before rest (answers c reply mark) held.holds.right (held.does ∙ whole)

pub always_rightly : AfterAllDeeds AnswersRightly
always_rightly peer calls = answers_rightly _ _ (always_held peer calls)

knows_what_it_heard : (r : ValueRun) (deeds : List Deed) → IsHeld r deeds → KnowsWhatItHeard r deeds
knows_what_it_heard r deeds held =
    let knows : r.value.relay.bind ≡ Bound → Knows deeds r.value.relay.store = λ bound. subst (λ ds. Knows ds r.value.relay.store) held.does (held.holds.knows bound) in
    record { known = λ bound. (knows bound).known; marked = λ bound. (knows bound).marked }

pub always_knows : AfterAllDeeds KnowsWhatItHeard
always_knows peer calls = knows_what_it_heard _ _ (always_held peer calls)
