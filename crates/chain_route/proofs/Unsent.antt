-- Until it takes a Hello from above, a value-add sends nothing above but its own Hello.
use Rattle.std.proofs.Common.{◌≡◌, ℕ, ◌+◌, Bool, true, false, cond, List, [], ◌∷◌, ◌++◌, length, Option, Some, None, Result, Ok, Err, refl, sym, ap, ◌∙◌, subst, append-nil, append_assoc}
use Rattle.std.specs.Prelude.{option_map}
use Rattle.std.specs.List.{AllByRecursion, flat_map, list_any}
use Rattle.std.proofs.lemmas.Bool.{or_parts}
use Rattle.std.proofs.lemmas.List.Concat.{flat_map-append}
use Rattle.std.proofs.lemmas.List.Folds.{list_any-append}
use Rattle.channel_core.specs.Beginning.{new_end}
use Rattle.channel_core.specs.Greeting.{is_greeting}
use Rattle.channel_core.specs.Laws.{listed}
use Rattle.channel_core.specs.QueueLaws.{sent_in}
use Rattle.channel_core.specs.ReceivingLaws.{incoming_of}
use Rattle.channel_core.specs.Runs.{Call as EndCall, Run, after_call as after_end_call, after_calls, begun, called, closing, commanding, delivering, draining, ending, putting_out, sending, taking}
use Rattle.channel_core.specs.Sending.{refusal_of}
use Rattle.channel_core.specs.Taking.{next_taken}
use Rattle.channel_core.specs.declared.held.Incoming.{Incoming}
use Rattle.channel_core.specs.declared.sending.SendRefusal.{SendRefusal}
use Rattle.channel_core.specs.declared.taking.Taken.{Taken}
use Rattle.channel_core.specs.declared.taking.Taken.TheVariants as taken
use Rattle.tcf_message.specs.Message.{MessageValue, command, event, final, flow, not_known, progress, reading}
use Rattle.tcf_message.specs.declared.message.MessageFault.{MessageFault}
use Rattle.value_node.specs.ForwardedValue.{ForwardedValue}
use Rattle.value_node.specs.Passing.{Upper}
use Rattle.value_node.specs.RelayLaws.{EndsAreRuns}
use Rattle.value_node.specs.Runs.{Call, Past, UpperCall, ValueRun, after_all, after_call, asked_above, bytes_end, closing_if, comes, connects, fails, gives, no_calls, reconnected, took_above_above, took_below_above, turns, upper_after, upper_from, upper_on, asked_above_in, bound_above, stored_for}
use Rattle.value_node.specs.Value.{awaits, takes_above, takes_below, value_services}
use Rattle.value_node.specs.declared.relay.Relay.{Relay}
use Rattle.value_node.specs.declared.states.Bind.{Bind}
use Rattle.value_node.specs.declared.states.Bind.TheVariants.{Bound, Closed, Opening, Unbound}
use Rattle.value_node.specs.declared.states.Side.TheVariants.{Above, Below}
use Rattle.value_node.proofs.TheLaws.{ends_are_runs}
use Rattle.chain_route.proofs.EndCalls.{calls_more}
use Rattle.chain_route.proofs.Ungreeted.{none_taken}
use Rattle.list_laws.proofs.AllLists.{all_append}

-- ---- Calls that send no message

abbrev IsUnsent : {T : Type 0} → EndCall T → Type 0
IsUnsent (sending message mark) = ⊥
IsUnsent _ = Unit {0}

abbrev AreUnsent : List UpperCall → Type 0
AreUnsent calls = AllByRecursion IsUnsent calls

none_sent : (calls : List UpperCall) (e : Upper) → AreUnsent calls → sent_in calls e ≡ []
none_sent [] e each = refl
none_sent (delivering piece mark ∷ calls) e each = none_sent calls (called (delivering piece mark) e) each.1
none_sent (ending ∷ calls) e each = none_sent calls (called ending e) each.1
none_sent (taking ∷ calls) e each = none_sent calls (called taking e) each.1
none_sent (commanding service name body tag mark ∷ calls) e each = none_sent calls (called (commanding service name body tag mark) e) each.1
none_sent (sending message mark ∷ calls) e each = absurd each.0
none_sent (putting_out ∷ calls) e each = none_sent calls (called putting_out e) each.1
none_sent (closing ∷ calls) e each = none_sent calls (called closing e) each.1
none_sent (draining ∷ calls) e each = none_sent calls (called draining e) each.1

-- ---- What was taken stays

unheard_before : (calls : List UpperCall) (r : Run ForwardedValue) → list_any is_greeting (after_calls calls r).past.taken ≡ false → list_any is_greeting r.past.taken ≡ false
unheard_before [] r none = none
unheard_before (delivering piece mark ∷ calls) r none = unheard_before calls (after_end_call (delivering piece mark) r) none
unheard_before (ending ∷ calls) r none = unheard_before calls (after_end_call ending r) none
unheard_before (taking ∷ calls) r none =
    (or_parts (list_any is_greeting r.past.taken) (list_any is_greeting (listed (next_taken r.end).0))
    (sym (list_any-append is_greeting r.past.taken (listed (next_taken r.end).0)) ∙ unheard_before calls (after_end_call taking r) none)).0
unheard_before (commanding service name body tag mark ∷ calls) r none = unheard_before calls (after_end_call (commanding service name body tag mark) r) none
unheard_before (sending message mark ∷ calls) r none = unheard_before calls (after_end_call (sending message mark) r) none
unheard_before (putting_out ∷ calls) r none = unheard_before calls (after_end_call putting_out r) none
unheard_before (closing ∷ calls) r none = unheard_before calls (after_end_call closing r) none
unheard_before (draining ∷ calls) r none = unheard_before calls (after_end_call draining r) none

-- ---- The calls of the upper end that one call of the value-add is

abbrev IsNoCommand : Option (Taken ForwardedValue) → Type 0
IsNoCommand what = (incoming : Incoming) → what ≡ Some (taken.Command incoming) → ⊥

above_unsent : (what : Option (Taken ForwardedValue)) (bind : Bind) → IsNoCommand what → AreUnsent (took_above_above what bind)
above_unsent None bind none = tt
above_unsent (Some (taken.Command incoming)) bind none = absurd (none incoming refl)
above_unsent (Some (taken.Hello incoming)) bind none = tt
above_unsent (Some (taken.Event incoming)) bind none = tt
above_unsent (Some (taken.Progress token incoming)) bind none = tt
above_unsent (Some (taken.Final tag incoming)) bind none = tt
above_unsent (Some (taken.Closed cause)) Unbound none = tt
above_unsent (Some (taken.Closed cause)) Opening none = tt
above_unsent (Some (taken.Closed cause)) Bound none = (tt, tt)
above_unsent (Some (taken.Closed cause)) Closed none = tt

below_unsent : (what : Option (Taken Unit)) (v : Relay) (e : Upper) → AreUnsent (took_below_above what v e)
below_unsent None v e = tt
below_unsent (Some (taken.Command incoming)) v e = by_reading (reading incoming.raw)
  where
    by_refusal : (refusal : Option SendRefusal) → AreUnsent (closing_if refusal)
    by_refusal None = tt
    by_refusal (Some why) = (tt, tt)

    by_answer : (reply : Option (List ℕ)) (token service name body : List ℕ) → AreUnsent (bound_above reply token service name body incoming.mark e)
    by_answer None token service name body = (tt, by_refusal (refusal_of (length service + length name + length body) e))
    by_answer (Some reply) token service name body = tt

    by_bind : (bind : Bind) (token service name body : List ℕ) → AreUnsent (asked_above_in bind token service name body incoming.mark v e)
    by_bind Unbound token service name body = tt
    by_bind Opening token service name body = tt
    by_bind Bound token service name body = by_answer (stored_for service name body v) token service name body
    by_bind Closed token service name body = tt

    by_reading : (r : Result MessageValue MessageFault) → AreUnsent (asked_above r incoming.mark v e)
    by_reading (Ok (command token service name body)) = by_bind v.bind token service name body
    by_reading (Ok (final token body)) = tt
    by_reading (Ok (progress token body)) = tt
    by_reading (Ok (not_known token)) = tt
    by_reading (Ok (event service name body)) = tt
    by_reading (Ok (flow level)) = tt
    by_reading (Err fault) = tt
below_unsent (Some (taken.Hello incoming)) v e = tt
below_unsent (Some (taken.Event incoming)) v e = tt
below_unsent (Some (taken.Progress token incoming)) v e = tt
below_unsent (Some (taken.Final tag incoming)) v e = tt
below_unsent (Some (taken.Closed cause)) v e = (tt, tt)

unsent_if : (flag : Bool) (calls : List UpperCall) → (flag ≡ true → AreUnsent calls) → AreUnsent (cond flag calls [])
unsent_if true calls each = each refl
unsent_if false calls each = tt

-- where nothing is taken but a Hello or a closing
abbrev TakesNoCommand : Call → Relay → Upper → Type 0
TakesNoCommand (turns Above) v e = takes_above v.bind ≡ true → IsNoCommand (next_taken e).0
TakesNoCommand call v e = Unit {0}

on_unsent : (call : Call) (v : Relay) (e : Upper) → TakesNoCommand call v e → AreUnsent (upper_on call v e)
on_unsent (comes Below piece mark) v e none = tt
on_unsent (comes Above piece mark) v e none = (tt, tt)
on_unsent (bytes_end Below) v e none = tt
on_unsent (bytes_end Above) v e none = (tt, tt)
on_unsent (turns Below) v e none = unsent_if (takes_below v.bind v.upper) (took_below_above (next_taken v.lower).0 v e) (λ takes. below_unsent (next_taken v.lower).0 v e)
on_unsent (turns Above) v e none = unsent_if (takes_above v.bind) (taking ∷ took_above_above (next_taken e).0 v.bind) (λ takes. (tt, above_unsent (next_taken e).0 v.bind (none takes)))
on_unsent connects v e none = tt
on_unsent fails v e none = tt
on_unsent (gives Below) v e none = tt
on_unsent (gives Above) v e none = (tt, tt)

-- ---- After every call

abbrev IsQuiet : Option (List UpperCall) → Type 0
IsQuiet None = Unit {0}
IsQuiet (Some calls) = list_any is_greeting (upper_after calls).past.taken ≡ false → AreUnsent calls

-- what is taken next is no command, where no Hello is taken with it
no_command : (calls : List UpperCall) → list_any is_greeting (upper_after calls).past.taken ≡ false → IsNoCommand (next_taken (upper_after calls).end).0
no_command calls unheard incoming is =
    let r = upper_after calls in
    let more : upper_after (calls ++ taking ∷ []) ≡ after_end_call taking r = calls_more calls (taking ∷ []) (begun (new_end value_services None)) in
    let took : (upper_after (calls ++ taking ∷ [])).past.taken ≡ r.past.taken ++ taken.Command incoming ∷ [] = ap (λ x. x.past.taken) more ∙ ap (λ o. r.past.taken ++ listed o) is in
    let still : list_any is_greeting (upper_after (calls ++ taking ∷ [])).past.taken ≡ false =
    ap (list_any is_greeting) took ∙ list_any-append is_greeting r.past.taken (taken.Command incoming ∷ []) ∙ rw unheard refl in
    let none : flat_map incoming_of (upper_after (calls ++ taking ∷ [])).past.taken ≡ [] = none_taken value_services None (calls ++ taking ∷ []) still in
    no_last (flat_map incoming_of r.past.taken) incoming (sym (flat_map-append incoming_of r.past.taken (taken.Command incoming ∷ [])) ∙ ap (flat_map incoming_of) (sym took) ∙ none)
  where
    no_last : (xs : List Incoming) (x : Incoming) → xs ++ x ∷ [] ≡ [] → ⊥
    no_last [] x none = absurd cc
    no_last (y ∷ xs) x none = absurd cc

takes_no_command : (call : Call) (v : Relay) (calls : List UpperCall) → list_any is_greeting (upper_after calls).past.taken ≡ false → TakesNoCommand call v (upper_after calls).end
takes_no_command (comes side piece mark) v calls unheard = tt
takes_no_command (bytes_end side) v calls unheard = tt
takes_no_command (turns Below) v calls unheard = tt
takes_no_command (turns Above) v calls unheard = λ takes. no_command calls unheard
takes_no_command connects v calls unheard = tt
takes_no_command fails v calls unheard = tt
takes_no_command (gives side) v calls unheard = tt

called_quiet : (call : Call) (v : Relay) (connection : Option (List UpperCall)) (upper : Option Upper) → upper ≡ option_map (λ calls. (upper_after calls).end) connection → IsQuiet connection
    → IsQuiet (option_map (λ calls. calls ++ upper_from call v upper) connection)
called_quiet call v None upper is quiet = tt
called_quiet call v (Some calls) upper is quiet =
    subst (λ u. IsQuiet (Some (calls ++ upper_from call v u))) (sym is)
    (λ unheard.
    let more = upper_on call v (upper_after calls).end in
    let before : list_any is_greeting (upper_after calls).past.taken ≡ false =
    unheard_before more (upper_after calls) (ap (λ r. list_any is_greeting r.past.taken) (sym (calls_more calls more (begun (new_end value_services None)))) ∙ unheard) in
    all_append IsUnsent calls more (quiet before) (on_unsent call v (upper_after calls).end (takes_no_command call v calls before)))

connected_quiet : (flag : Bool) (p : Past) → IsQuiet p.connection → IsQuiet (cond flag (reconnected p) p).connection
connected_quiet true p quiet = λ unheard. tt
connected_quiet false p quiet = quiet

step_quiet : (call : Call) (r : ValueRun) → EndsAreRuns r → IsQuiet r.past.connection → IsQuiet (after_call call r).past.connection
step_quiet connects r runs quiet = connected_quiet (awaits r.value.relay) r.past quiet
step_quiet (comes side piece mark) r runs quiet = called_quiet (comes side piece mark) r.value.relay r.past.connection r.value.relay.upper runs.upper quiet
step_quiet (bytes_end side) r runs quiet = called_quiet (bytes_end side) r.value.relay r.past.connection r.value.relay.upper runs.upper quiet
step_quiet (turns side) r runs quiet = called_quiet (turns side) r.value.relay r.past.connection r.value.relay.upper runs.upper quiet
step_quiet fails r runs quiet = called_quiet fails r.value.relay r.past.connection r.value.relay.upper runs.upper quiet
step_quiet (gives side) r runs quiet = called_quiet (gives side) r.value.relay r.past.connection r.value.relay.upper runs.upper quiet

run_more : (calls more : List Call) (r : ValueRun) → after_all (calls ++ more) r ≡ after_all more (after_all calls r)
run_more [] more r = refl
run_more (call ∷ calls) more r = run_more calls more (after_call call r)

quiet_from : (peer : List ℕ) (before calls : List Call) → IsQuiet (after_all before (no_calls peer)).past.connection → IsQuiet (after_all (before ++ calls) (no_calls peer)).past.connection
quiet_from peer before [] quiet = subst (λ cs. IsQuiet (after_all cs (no_calls peer)).past.connection) (sym (append-nil before)) quiet
quiet_from peer before (call ∷ calls) quiet =
    let r = after_all before (no_calls peer) in
    let next = step_quiet call r (ends_are_runs peer before) quiet in
    subst (λ cs. IsQuiet (after_all cs (no_calls peer)).past.connection) (append_assoc before (call ∷ []) calls)
    (quiet_from peer (before ++ call ∷ []) calls (subst (λ x. IsQuiet x.past.connection) (sym (run_more before (call ∷ []) (no_calls peer))) next))

-- the calls of its upper end since the last connection
pub unsent_above : (peer : List ℕ) (all : List Call) (calls : List UpperCall) → (after_all all (no_calls peer)).past.connection ≡ Some calls → list_any is_greeting (upper_after calls).past.taken ≡ false
    → sent_in calls (new_end value_services None) ≡ []
unsent_above peer all calls is unheard =
    let quiet : IsQuiet (Some calls) = subst IsQuiet is (quiet_from peer [] all tt) in none_sent calls (new_end value_services None) (quiet unheard)
