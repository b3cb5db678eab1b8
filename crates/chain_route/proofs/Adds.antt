-- What a call of a value-add adds to what its two ends gave, and to what came to them.
use Rattle.std.proofs.Common.{◌≡◌, Bool, true, false, List, [], ◌∷◌, ◌++◌, Option, Some, None, refl, sym, ap, ◌∙◌, subst, append_assoc, append-nil}
use Rattle.std.specs.Prelude.{IsSome, is_some, not, option_map, unwrap_or}
use Rattle.channel_core.specs.Beginning.{new_end}
use Rattle.value_node.specs.RelayLaws.{EndsAreRuns}
use Rattle.value_node.specs.Runs.{Call, LowerCall, Past, UpperCall, ValueRun, after_all, after_call, no_calls, only_if, own_by, passing_by, upper_by, with_calls}
use Rattle.value_node.specs.Value.{value_services}
use Rattle.chain_route.specs.Carrying.{End, Made, end_above, end_below, past_of}
use Rattle.value_node.proofs.TheLaws.{ends_are_runs}
use Rattle.chain_route.proofs.EndCalls.{AreIdle, end_by, idle_end}
use Rattle.chain_route.proofs.Flows.{Tip, used}

-- ---- One call more

pub all_more : (calls more : List Call) (r : ValueRun) → after_all (calls ++ more) r ≡ after_all more (after_all calls r)
all_more [] more r = refl
all_more (call ∷ calls) more r = all_more calls more (after_call call r)

abbrev pub run_of : Made → ValueRun
run_of m = after_all m.calls (no_calls m.peer)

abbrev pub with_call : Call → Made → Made
with_call call m = record m { calls = m.calls ++ call ∷ [] }

pub call_run : (call : Call) (m : Made) → run_of (with_call call m) ≡ after_call call (run_of m)
call_run call m = all_more m.calls (call ∷ []) (no_calls m.peer)

-- all calls but a connection
abbrev pub Adds : Call → ValueRun → Type 0
Adds call r = (after_call call r).past ≡ with_calls call r.value.relay (after_call call r).value.relay r.past

-- ---- The calls of its lower end

abbrev pub lower_calls : Past → List LowerCall
lower_calls p = p.until_bound ++ p.since_bound

lower_by : (bound : Bool) (until since own passing : List LowerCall) → (bound ≡ false → since ≡ [])
    → (until ++ only_if (not bound) own) ++ (since ++ (only_if bound own ++ passing)) ≡ (until ++ since) ++ (own ++ passing)
lower_by true until since own passing unbound =
    ap (λ xs. xs ++ (since ++ (own ++ passing))) (append-nil until) ∙ sym (append_assoc until since (own ++ passing))
lower_by false until since own passing unbound =
    let none : since ≡ [] = unbound refl in
    ap (λ xs. (until ++ own) ++ (xs ++ passing)) none
    ∙ append_assoc until own passing
    ∙ ap (λ xs. xs ++ (own ++ passing)) (sym (append-nil until))
    ∙ ap (λ xs. (until ++ xs) ++ (own ++ passing)) (sym none)

abbrev pub lower_added : Call → ValueRun → List LowerCall
lower_added call r = own_by call r.value.relay ++ passing_by call r.value.relay

lower_more : (call : Call) (r : ValueRun) → (r.past.is_bound ≡ false → r.past.since_bound ≡ []) → Adds call r
    → lower_calls (after_call call r).past ≡ lower_calls r.past ++ lower_added call r
lower_more call r unbound adds =
    ap lower_calls adds
    ∙ lower_by r.past.is_bound r.past.until_bound r.past.since_bound (own_by call r.value.relay) (passing_by call r.value.relay) unbound

abbrev pub lower_end : List LowerCall → End
lower_end calls = end_by (new_end value_services None) calls

abbrev pub upper_end : List UpperCall → End
upper_end calls = end_by (new_end value_services None) calls

-- ---- The calls of its upper end, where it has one

abbrev pub ConnectedWith : Past → List UpperCall → Type 0
ConnectedWith p calls = p.connection ≡ Some calls

upper_more : (call : Call) (r : ValueRun) (calls : List UpperCall) → ConnectedWith r.past calls → Adds call r
    → ConnectedWith (after_call call r).past (calls ++ upper_by call r.value.relay)
upper_more call r calls is adds =
    ap (λ p. p.connection) adds ∙ ap (option_map (λ xs. xs ++ upper_by call r.value.relay)) is

upper_none : (call : Call) (r : ValueRun) → r.past.connection ≡ None → Adds call r → (after_call call r).past.connection ≡ None
upper_none call r is adds =
    ap (λ p. p.connection) adds ∙ ap (option_map (λ xs. xs ++ upper_by call r.value.relay)) is

-- the end above it, which is used once it has connected
abbrev tip_with : Option (List UpperCall) → Tip
tip_with connection = record { end = upper_end (unwrap_or connection []); is_used = is_some connection }

abbrev pub tip_of : Past → Tip
tip_of p = record { end = end_above p; is_used = is_some p.connection }

abbrev pub tip_above : Made → Tip
tip_above m = tip_of (past_of m)

pub end_of_calls : (p : Past) (calls : List UpperCall) → ConnectedWith p calls → tip_of p ≡ used (upper_end calls)
end_of_calls p calls is = ap tip_with is

pub end_of_none : (p : Past) → p.connection ≡ None → end_above p ≡ upper_end []
end_of_none p is = ap (λ c. upper_end (unwrap_or c [])) is

-- its end above with the calls that were added, whichever it has
above_by : (connection : Option (List UpperCall)) (more : List UpperCall) → AreIdle more
    → tip_with (option_map (λ xs. xs ++ more) connection) ≡ tip_with connection
above_by None more idle = refl
above_by (Some calls) more idle = ap used (idle_end (new_end value_services None) calls more idle)

-- a connection stays
some_by : (connection : Option (List UpperCall)) (more : List UpperCall) → IsSome connection → IsSome (option_map (λ xs. xs ++ more) connection)
some_by None more is = is
some_by (Some calls) more is = is

-- ---- Both ends, with one call more

pub facts_of : (m : Made) → EndsAreRuns (run_of m)
facts_of m = ends_are_runs m.peer m.calls

pub below_added : (call : Call) (m : Made) → Adds call (run_of m) → end_below (past_of (with_call call m)) ≡ lower_end (lower_calls (past_of m) ++ lower_added call (run_of m))
below_added call m adds =
    ap (λ r. end_below r.past) (call_run call m) ∙ ap lower_end (lower_more call (run_of m) (facts_of m).unbound adds)

pub above_added : (call : Call) (m : Made) (calls : List UpperCall) → ConnectedWith (past_of m) calls → Adds call (run_of m)
    → tip_above (with_call call m) ≡ used (upper_end (calls ++ upper_by call (run_of m).value.relay))
above_added call m calls is adds =
    ap (λ r. tip_of r.past) (call_run call m)
    ∙ end_of_calls (after_call call (run_of m)).past (calls ++ upper_by call (run_of m).value.relay) (upper_more call (run_of m) calls is adds)

pub still_connected : (call : Call) (m : Made) → Adds call (run_of m) → IsSome (past_of m).connection → IsSome (past_of (with_call call m)).connection
still_connected call m adds is =
    subst (λ p. IsSome p.connection) (sym (ap (λ r. r.past) (call_run call m) ∙ adds)) (some_by (past_of m).connection (upper_by call (run_of m).value.relay) is)

pub still_unconnected : (call : Call) (m : Made) → Adds call (run_of m) → (past_of m).connection ≡ None → (past_of (with_call call m)).connection ≡ None
still_unconnected call m adds is = ap (λ r. r.past.connection) (call_run call m) ∙ upper_none call (run_of m) is adds

pub below_same : (call : Call) (m : Made) → Adds call (run_of m) → AreIdle (lower_added call (run_of m)) → end_below (past_of (with_call call m)) ≡ end_below (past_of m)
below_same call m adds idle =
    below_added call m adds ∙ idle_end (new_end value_services None) (lower_calls (past_of m)) (lower_added call (run_of m)) idle

pub above_same : (call : Call) (m : Made) → Adds call (run_of m) → AreIdle (upper_by call (run_of m).value.relay) → tip_above (with_call call m) ≡ tip_above m
above_same call m adds idle =
    ap (λ r. tip_of r.past) (call_run call m) ∙ ap tip_of adds
    ∙ above_by (past_of m).connection (upper_by call (run_of m).value.relay) idle
