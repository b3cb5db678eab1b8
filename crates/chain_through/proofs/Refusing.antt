-- A value-add sends nothing above but commands and the answers to commands from above: where none comes from above, it sends
-- commands alone.
use Rattle.std.proofs.Common.{◌≡◌, ℕ, ◌+◌, Bool, true, false, cond, List, [], ◌∷◌, ◌++◌, length, Option, Some, None, option_map, Result, Ok, Err, refl, sym, ap, ◌∙◌, subst, append_assoc, append-nil}
use Rattle.std.specs.Prelude.{unwrap_or}
use Rattle.std.specs.List.{AllByRecursion, flat_map}
use Rattle.std.proofs.lemmas.List.Concat.{flat_map-append}
use Rattle.tcf_message.specs.Message.{MessageValue, command, event, final, flow, not_known, progress, reading}
use Rattle.tcf_message.specs.declared.message.MessageFault.{MessageFault}
use Rattle.channel_core.specs.Beginning.{new_end}
use Rattle.channel_core.specs.EndValue.{EndValue}
use Rattle.channel_core.specs.Laws.{listed}
use Rattle.channel_core.specs.QueueLaws.{sent_in}
use Rattle.channel_core.specs.ReceivingLaws.{incoming_of}
use Rattle.channel_core.specs.Runs.{Call as EndCall, Run, Unheld, after_call as after_end_call, after_calls, an_unknown, begun, called, closing, commanding, delivering, draining, ending, putting_out, sending, taking}
use Rattle.channel_core.specs.Sending.{refusal_of}
use Rattle.channel_core.specs.Taking.{next_taken}
use Rattle.channel_core.specs.declared.sending.SendRefusal.{SendRefusal}
use Rattle.channel_core.specs.declared.taking.Taken.{Taken}
use Rattle.channel_core.specs.declared.taking.Taken.TheVariants as taken
use Rattle.value_node.specs.ForwardedValue.{ForwardedValue}
use Rattle.value_node.specs.Passing.{Upper}
use Rattle.value_node.specs.RelayLaws.{EndsAreRuns}
use Rattle.value_node.specs.Runs.{Call, Past, UpperCall, ValueRun, above, after_all, after_call, asked_above, asked_above_in, bound_above, bytes_end, closing_if, comes, connects, fails, gives, no_calls, reconnected, refusing, stored_for, took_above_above, took_below_above, turns, upper_after, upper_from, upper_on}
use Rattle.value_node.specs.Value.{awaits, takes_above, takes_below, value_services}
use Rattle.value_node.specs.declared.relay.Relay.{Relay}
use Rattle.value_node.specs.declared.states.Bind.{Bind}
use Rattle.value_node.specs.declared.states.Bind.TheVariants.{Bound, Closed, Opening, Unbound}
use Rattle.value_node.specs.declared.states.Side.TheVariants.{Above, Below}
use Rattle.value_node.proofs.TheLaws.{ends_are_runs}
use Rattle.chain_through.proofs.Taking.{taken_split}
use Rattle.chain_route.proofs.Adds.{all_more}

-- ---- What is sent, commands aside, and the answers to commands that were taken

abbrev pub sent_with : {T : Type 0} → EndCall T → List Unheld
sent_with (sending message mark) = message ∷ []
sent_with _ = []

abbrev pub refused_in : Result MessageValue MessageFault → List Unheld
refused_in (Ok (command token service name body)) = an_unknown token ∷ []
refused_in _ = []

abbrev pub refused_by : Taken ForwardedValue → List Unheld
refused_by (taken.Command incoming) = refused_in (reading incoming.raw)
refused_by _ = []

-- the upper end over these calls sends what answers the commands that it takes
abbrev SendsRefusals : List UpperCall → Run ForwardedValue → Type 0
SendsRefusals calls r = flat_map sent_with calls ≡ flat_map refused_by r.past.taken

-- ---- Calls that neither send nor take

abbrev IsQuiet : UpperCall → Type 0
IsQuiet taking = ⊥
IsQuiet (sending message mark) = ⊥
IsQuiet _ = Unit {0}

abbrev AreQuiet : List UpperCall → Type 0
AreQuiet calls = AllByRecursion IsQuiet calls

quiet_sends : (calls : List UpperCall) → AreQuiet calls → flat_map sent_with calls ≡ []
quiet_sends [] quiet = refl
quiet_sends (delivering piece mark ∷ calls) quiet = quiet_sends calls quiet.1
quiet_sends (ending ∷ calls) quiet = quiet_sends calls quiet.1
quiet_sends (taking ∷ calls) quiet = absurd quiet.0
quiet_sends (commanding service name body tag mark ∷ calls) quiet = quiet_sends calls quiet.1
quiet_sends (sending message mark ∷ calls) quiet = absurd quiet.0
quiet_sends (putting_out ∷ calls) quiet = quiet_sends calls quiet.1
quiet_sends (closing ∷ calls) quiet = quiet_sends calls quiet.1
quiet_sends (draining ∷ calls) quiet = quiet_sends calls quiet.1

abbrev IsUntaking : UpperCall → Type 0
IsUntaking taking = ⊥
IsUntaking _ = Unit {0}

untaken : (calls : List UpperCall) (r : Run ForwardedValue) → AllByRecursion IsUntaking calls → (after_calls calls r).past.taken ≡ r.past.taken
untaken [] r each = refl
untaken (delivering piece mark ∷ calls) r each = untaken calls (after_end_call (delivering piece mark) r) each.1
untaken (ending ∷ calls) r each = untaken calls (after_end_call ending r) each.1
untaken (taking ∷ calls) r each = absurd each.0
untaken (commanding service name body tag mark ∷ calls) r each = untaken calls (after_end_call (commanding service name body tag mark) r) each.1
untaken (sending message mark ∷ calls) r each = untaken calls (after_end_call (sending message mark) r) each.1
untaken (putting_out ∷ calls) r each = untaken calls (after_end_call putting_out r) each.1
untaken (closing ∷ calls) r each = untaken calls (after_end_call closing r) each.1
untaken (draining ∷ calls) r each = untaken calls (after_end_call draining r) each.1

quiet_untaking : (calls : List UpperCall) → AreQuiet calls → AllByRecursion IsUntaking calls
quiet_untaking [] quiet = tt
quiet_untaking (delivering piece mark ∷ calls) quiet = (tt, quiet_untaking calls quiet.1)
quiet_untaking (ending ∷ calls) quiet = (tt, quiet_untaking calls quiet.1)
quiet_untaking (taking ∷ calls) quiet = absurd quiet.0
quiet_untaking (commanding service name body tag mark ∷ calls) quiet = (tt, quiet_untaking calls quiet.1)
quiet_untaking (sending message mark ∷ calls) quiet = absurd quiet.0
quiet_untaking (putting_out ∷ calls) quiet = (tt, quiet_untaking calls quiet.1)
quiet_untaking (closing ∷ calls) quiet = (tt, quiet_untaking calls quiet.1)
quiet_untaking (draining ∷ calls) quiet = (tt, quiet_untaking calls quiet.1)

-- ---- The calls of the upper end that one call of the value-add is

-- they send what answers the commands that they take
abbrev SendsFor : List UpperCall → Upper → Type 0
SendsFor calls e = SendsRefusals calls (after_calls calls (begun e))

quiet_for : (calls : List UpperCall) (e : Upper) → AreQuiet calls → SendsFor calls e
quiet_for calls e quiet = quiet_sends calls quiet ∙ sym (ap (flat_map refused_by) (untaken calls (begun e) (quiet_untaking calls quiet)))

below_quiet : (what : Option (Taken Unit)) (v : Relay) (e : Upper) → AreQuiet (took_below_above what v e)
below_quiet None v e = tt
below_quiet (Some (taken.Command incoming)) v e = by_reading (reading incoming.raw)
  where
    by_refusal : (refusal : Option SendRefusal) → AreQuiet (closing_if refusal)
    by_refusal None = tt
    by_refusal (Some why) = (tt, tt)

    by_store : (stored : Option (List ℕ)) (token service name body : List ℕ) → AreQuiet (bound_above stored token service name body incoming.mark e)
    by_store None token service name body = (tt, by_refusal (refusal_of (length service + length name + length body) e))
    by_store (Some reply) token service name body = tt

    by_bind : (bind : Bind) (token service name body : List ℕ) → AreQuiet (asked_above_in bind token service name body incoming.mark v e)
    by_bind Unbound token service name body = tt
    by_bind Opening token service name body = tt
    by_bind Bound token service name body = by_store (stored_for service name body v) token service name body
    by_bind Closed token service name body = tt

    by_reading : (r : Result MessageValue MessageFault) → AreQuiet (asked_above r incoming.mark v e)
    by_reading (Ok (command token service name body)) = by_bind v.bind token service name body
    by_reading (Ok (final token body)) = tt
    by_reading (Ok (progress token body)) = tt
    by_reading (Ok (not_known token)) = tt
    by_reading (Ok (event service name body)) = tt
    by_reading (Ok (flow level)) = tt
    by_reading (Err fault) = tt
below_quiet (Some (taken.Hello incoming)) v e = tt
below_quiet (Some (taken.Event incoming)) v e = tt
below_quiet (Some (taken.Progress token incoming)) v e = tt
below_quiet (Some (taken.Final tag incoming)) v e = tt
below_quiet (Some (taken.Closed cause)) v e = (tt, tt)

-- behind an entry that was taken
record AnswersIt (calls : List UpperCall) (what : Option (Taken ForwardedValue)) : Type 0 where
  sends : flat_map sent_with calls ≡ flat_map refused_by (listed what)
  takes_none : AllByRecursion IsUntaking calls

refuses : (r : Result MessageValue MessageFault) → (flat_map sent_with (refusing r) ≡ refused_in r ++ []) × AllByRecursion IsUntaking (refusing r)
refuses (Ok (command token service name body)) = (refl, (tt, tt))
refuses (Ok (final token body)) = (refl, tt)
refuses (Ok (progress token body)) = (refl, tt)
refuses (Ok (not_known token)) = (refl, tt)
refuses (Ok (event service name body)) = (refl, tt)
refuses (Ok (flow level)) = (refl, tt)
refuses (Err fault) = (refl, tt)

above_answers : (what : Option (Taken ForwardedValue)) (bind : Bind) → AnswersIt (took_above_above what bind) what
above_answers None bind = record { sends = refl; takes_none = tt }
above_answers (Some (taken.Command incoming)) bind = let both = refuses (reading incoming.raw) in record { sends = both.0; takes_none = both.1 }
above_answers (Some (taken.Hello incoming)) bind = record { sends = refl; takes_none = tt }
above_answers (Some (taken.Event incoming)) bind = record { sends = refl; takes_none = tt }
above_answers (Some (taken.Progress token incoming)) bind = record { sends = refl; takes_none = tt }
above_answers (Some (taken.Final tag incoming)) bind = record { sends = refl; takes_none = tt }
above_answers (Some (taken.Closed cause)) Unbound = record { sends = refl; takes_none = tt }
above_answers (Some (taken.Closed cause)) Opening = record { sends = refl; takes_none = tt }
above_answers (Some (taken.Closed cause)) Bound = record { sends = refl; takes_none = (tt, tt) }
above_answers (Some (taken.Closed cause)) Closed = record { sends = refl; takes_none = tt }

above_sends : (bind : Bind) (e : Upper) → SendsFor (taking ∷ took_above_above (next_taken e).0 bind) e
above_sends bind e =
    let calls = took_above_above (next_taken e).0 bind in
    let a = above_answers (next_taken e).0 bind in
    a.sends ∙ sym (ap (flat_map refused_by) (untaken calls (after_calls (taking ∷ []) (begun e)) a.takes_none))

upper_sends : (call : Call) (v : Relay) (e : Upper) → SendsFor (upper_on call v e) e
upper_sends (comes Below piece mark) v e = refl
upper_sends (comes Above piece mark) v e = refl
upper_sends (bytes_end Below) v e = refl
upper_sends (bytes_end Above) v e = refl
upper_sends (turns Below) v e = by_flag (takes_below v.bind v.upper) (quiet_for (took_below_above (next_taken v.lower).0 v e) e (below_quiet (next_taken v.lower).0 v e))
  where
    by_flag : (flag : Bool) → SendsFor (took_below_above (next_taken v.lower).0 v e) e → SendsFor (cond flag (took_below_above (next_taken v.lower).0 v e) []) e
    by_flag true sends = sends
    by_flag false sends = refl
upper_sends (turns Above) v e = by_flag (takes_above v.bind) (above_sends v.bind e)
  where
    by_flag : (flag : Bool) → SendsFor (taking ∷ took_above_above (next_taken e).0 v.bind) e → SendsFor (cond flag (taking ∷ took_above_above (next_taken e).0 v.bind) []) e
    by_flag true sends = sends
    by_flag false sends = refl
upper_sends connects v e = refl
upper_sends fails v e = refl
upper_sends (gives Below) v e = refl
upper_sends (gives Above) v e = refl

-- ---- After every call

-- since the last connection
abbrev Refuses : Option (List UpperCall) → Type 0
Refuses connection = SendsRefusals (unwrap_or connection []) (upper_after (unwrap_or connection []))

sends_more : (calls more : List UpperCall) → SendsRefusals calls (upper_after calls) → SendsFor more (upper_after calls).end → SendsRefusals (calls ++ more) (upper_after (calls ++ more))
sends_more calls more sends next =
    let r = upper_after calls in
    flat_map-append sent_with calls more ∙ ap (λ xs. xs ++ flat_map sent_with more) sends ∙ ap (λ xs. flat_map refused_by r.past.taken ++ xs) next
    ∙ sym (flat_map-append refused_by r.past.taken (after_calls more (begun r.end)).past.taken)
    ∙ ap (flat_map refused_by) (sym (taken_split calls more (begun (new_end value_services None))))

called_refuses : (call : Call) (v : Relay) (connection : Option (List UpperCall)) (upper : Option Upper) → upper ≡ option_map (λ calls. (upper_after calls).end) connection → Refuses connection
    → Refuses (option_map (λ calls. calls ++ upper_from call v upper) connection)
called_refuses call v None upper is sends = sends
called_refuses call v (Some calls) upper is sends =
    subst (λ u. SendsRefusals (calls ++ upper_from call v u) (upper_after (calls ++ upper_from call v u))) (sym is)
    (sends_more calls (upper_on call v (upper_after calls).end) sends (upper_sends call v (upper_after calls).end))

connected_refuses : (flag : Bool) (p : Past) → Refuses p.connection → Refuses (cond flag (reconnected p) p).connection
connected_refuses true p sends = refl
connected_refuses false p sends = sends

step_refuses : (call : Call) (r : ValueRun) → EndsAreRuns r → Refuses r.past.connection → Refuses (after_call call r).past.connection
step_refuses connects r runs sends = connected_refuses (awaits r.value.relay) r.past sends
step_refuses (comes side piece mark) r runs sends = called_refuses (comes side piece mark) r.value.relay r.past.connection r.value.relay.upper runs.upper sends
step_refuses (bytes_end side) r runs sends = called_refuses (bytes_end side) r.value.relay r.past.connection r.value.relay.upper runs.upper sends
step_refuses (turns side) r runs sends = called_refuses (turns side) r.value.relay r.past.connection r.value.relay.upper runs.upper sends
step_refuses fails r runs sends = called_refuses fails r.value.relay r.past.connection r.value.relay.upper runs.upper sends
step_refuses (gives side) r runs sends = called_refuses (gives side) r.value.relay r.past.connection r.value.relay.upper runs.upper sends

refuses_from : (peer : List ℕ) (before calls : List Call) → Refuses (after_all before (no_calls peer)).past.connection → Refuses (after_all (before ++ calls) (no_calls peer)).past.connection
refuses_from peer before [] sends = subst (λ cs. Refuses (after_all cs (no_calls peer)).past.connection) (sym (append-nil before)) sends
refuses_from peer before (call ∷ calls) sends =
    let r = after_all before (no_calls peer) in
    let next = step_refuses call r (ends_are_runs peer before) sends in
    subst (λ cs. Refuses (after_all cs (no_calls peer)).past.connection) (append_assoc before (call ∷ []) calls)
    (refuses_from peer (before ++ call ∷ []) calls (subst (λ x. Refuses x.past.connection) (sym (all_more before (call ∷ []) (no_calls peer))) next))

pub sends_refusals : (peer : List ℕ) (calls : List Call) → flat_map sent_with (unwrap_or (after_all calls (no_calls peer)).past.connection []) ≡ flat_map refused_by (above (after_all calls (no_calls peer)).past).past.taken
sends_refusals peer calls = refuses_from peer [] calls refl

-- ---- Where it sends nothing but commands

pub none_sent : {T : Type 0} → (calls : List (EndCall T)) (e : EndValue T) → flat_map sent_with calls ≡ [] → sent_in calls e ≡ []
none_sent [] e none = refl
none_sent (delivering piece mark ∷ calls) e none = none_sent calls (called (delivering piece mark) e) none
none_sent (ending ∷ calls) e none = none_sent calls (called ending e) none
none_sent (taking ∷ calls) e none = none_sent calls (called taking e) none
none_sent (commanding service name body tag mark ∷ calls) e none = none_sent calls (called (commanding service name body tag mark) e) none
none_sent (sending message mark ∷ calls) e none = absurd cc
none_sent (putting_out ∷ calls) e none = none_sent calls (called putting_out e) none
none_sent (closing ∷ calls) e none = none_sent calls (called closing e) none
none_sent (draining ∷ calls) e none = none_sent calls (called draining e) none

-- it took no command
pub none_refused : (entries : List (Taken ForwardedValue)) → AllByRecursion (λ i. refused_in (reading i.raw) ≡ []) (flat_map incoming_of entries) → flat_map refused_by entries ≡ []
none_refused [] none = refl
none_refused (taken.Command incoming ∷ entries) none = ap (λ xs. xs ++ flat_map refused_by entries) none.0 ∙ none_refused entries none.1
none_refused (taken.Hello incoming ∷ entries) none = none_refused entries none.1
none_refused (taken.Event incoming ∷ entries) none = none_refused entries none.1
none_refused (taken.Progress token incoming ∷ entries) none = none_refused entries none.1
none_refused (taken.Final tag incoming ∷ entries) none = none_refused entries none.1
none_refused (taken.Closed cause ∷ entries) none = none_refused entries none
