-- The bytes of the upper end of a value-add have ended only where those above it have.
use Rattle.std.proofs.Common.{◌≡◌, ℕ, Bool, true, false, cond, ◌⊎◌, inl, inr, ⊎_elim, List, [], ◌∷◌, ◌++◌, Option, Some, None, option_map, Result, Ok, Err, refl, sym, ap, ◌∙◌}
use Rattle.std.specs.Prelude.{unwrap_or}
use Rattle.std.specs.List.{list_any}
use Rattle.std.proofs.lemmas.Bool.{or_cases, or_left, or_right}
use Rattle.std.proofs.lemmas.List.Folds.{list_any-append}
use Rattle.tcf_message.specs.Message.{MessageValue, command, event, final, flow, not_known, progress, reading}
use Rattle.tcf_message.specs.declared.message.MessageFault.{MessageFault}
use Rattle.channel_core.specs.Sending.{refusal_of}
use Rattle.channel_core.specs.Taking.{next_taken}
use Rattle.channel_core.specs.declared.sending.SendRefusal.{SendRefusal}
use Rattle.channel_core.specs.declared.taking.Taken.{Taken}
use Rattle.channel_core.specs.declared.taking.Taken.TheVariants as taken
use Rattle.channel_laws.specs.Faults.{is_ending}
use Rattle.value_node.specs.ForwardedValue.{ForwardedValue}
use Rattle.value_node.specs.Passing.{Upper}
use Rattle.value_node.specs.Runs.{Call, Past, UpperCall, ValueRun, after_all, after_call, asked_above, asked_above_in, bound_above, bytes_end, closing_if, closing_in, comes, connects, fails, gives, reconnected, refusing, stored_for, took_above_above, took_below_above, turns, upper_by, upper_from}
use Rattle.value_node.specs.Value.{awaits, takes_above, takes_below}
use Rattle.value_node.specs.declared.relay.Relay.{Relay}
use Rattle.value_node.specs.declared.states.Bind.{Bind}
use Rattle.value_node.specs.declared.states.Bind.TheVariants.{Bound, Closed, Opening, Unbound}
use Rattle.value_node.specs.declared.states.Side.TheVariants.{Above, Below}
use Rattle.chain_route.specs.Carrying.{loses_above}

-- ---- Calls of the upper end by which its bytes don't end

abbrev AreGoing : List UpperCall → Type 0
AreGoing calls = list_any is_ending calls ≡ false

either_going : (flag : Bool) (calls : List UpperCall) → AreGoing calls → AreGoing (cond flag calls [])
either_going true calls going = going
either_going false calls going = refl

refusal_going : (refusal : Option SendRefusal) → AreGoing (closing_if refusal)
refusal_going None = refl
refusal_going (Some why) = refl

stored_going : (stored : Option (List ℕ)) (token service name body : List ℕ) (mark : Option ℕ) (e : Upper) → AreGoing (bound_above stored token service name body mark e)
stored_going None token service name body mark e = refusal_going (refusal_of _ e)
stored_going (Some reply) token service name body mark e = refl

bind_going : (bind : Bind) (token service name body : List ℕ) (mark : Option ℕ) (v : Relay) (e : Upper) → AreGoing (asked_above_in bind token service name body mark v e)
bind_going Unbound token service name body mark v e = refl
bind_going Opening token service name body mark v e = refl
bind_going Bound token service name body mark v e = stored_going (stored_for service name body v) token service name body mark e
bind_going Closed token service name body mark v e = refl

asked_going : (r : Result MessageValue MessageFault) (mark : Option ℕ) (v : Relay) (e : Upper) → AreGoing (asked_above r mark v e)
asked_going (Ok (command token service name body)) mark v e = bind_going v.bind token service name body mark v e
asked_going (Ok (final token body)) mark v e = refl
asked_going (Ok (progress token body)) mark v e = refl
asked_going (Ok (not_known token)) mark v e = refl
asked_going (Ok (event service name body)) mark v e = refl
asked_going (Ok (flow level)) mark v e = refl
asked_going (Err fault) mark v e = refl

below_going : (what : Option (Taken Unit)) (v : Relay) (e : Upper) → AreGoing (took_below_above what v e)
below_going None v e = refl
below_going (Some (taken.Hello incoming)) v e = refl
below_going (Some (taken.Command incoming)) v e = asked_going (reading incoming.raw) incoming.mark v e
below_going (Some (taken.Event incoming)) v e = refl
below_going (Some (taken.Progress token incoming)) v e = refl
below_going (Some (taken.Final tag incoming)) v e = refl
below_going (Some (taken.Closed cause)) v e = refl

refusing_going : (r : Result MessageValue MessageFault) → AreGoing (refusing r)
refusing_going (Ok (command token service name body)) = refl
refusing_going (Ok (final token body)) = refl
refusing_going (Ok (progress token body)) = refl
refusing_going (Ok (not_known token)) = refl
refusing_going (Ok (event service name body)) = refl
refusing_going (Ok (flow level)) = refl
refusing_going (Err fault) = refl

closing_going : (bind : Bind) → AreGoing (closing_in bind)
closing_going Unbound = refl
closing_going Opening = refl
closing_going Bound = refl
closing_going Closed = refl

above_going : (what : Option (Taken ForwardedValue)) (bind : Bind) → AreGoing (took_above_above what bind)
above_going None bind = refl
above_going (Some (taken.Hello incoming)) bind = refl
above_going (Some (taken.Command incoming)) bind = refusing_going (reading incoming.raw)
above_going (Some (taken.Event incoming)) bind = refl
above_going (Some (taken.Progress token incoming)) bind = refl
above_going (Some (taken.Final tag incoming)) bind = refl
above_going (Some (taken.Closed cause)) bind = closing_going bind

calls_going : (call : Call) (v : Relay) (upper : Option Upper) → loses_above call ≡ false → AreGoing (upper_from call v upper)
calls_going call v None none = refl
calls_going (comes Below piece mark) v (Some e) none = refl
calls_going (comes Above piece mark) v (Some e) none = refl
calls_going (bytes_end Below) v (Some e) none = refl
calls_going (bytes_end Above) v (Some e) none = absurd cc
calls_going (turns Below) v (Some e) none = either_going (takes_below v.bind v.upper) (took_below_above (next_taken v.lower).0 v e) (below_going (next_taken v.lower).0 v e)
calls_going (turns Above) v (Some e) none = either_going (takes_above v.bind) _ (above_going (next_taken e).0 v.bind)
calls_going connects v (Some e) none = refl
calls_going fails v (Some e) none = refl
calls_going (gives Below) v (Some e) none = refl
calls_going (gives Above) v (Some e) none = refl

-- ---- After every call

abbrev have_ended : Option (List UpperCall) → Bool
have_ended connection = list_any is_ending (unwrap_or connection [])

more_ended : (lost : Bool) (connection : Option (List UpperCall)) (more : List UpperCall) → (lost ≡ false → AreGoing more) → have_ended (option_map (λ calls. calls ++ more) connection) ≡ true → (have_ended connection ≡ true) ⊎ (lost ≡ true)
more_ended true connection more going is = inr refl
more_ended false None more going is = inl is
more_ended false (Some calls) more going is = ⊎_elim
    (λ one. inl one)
    (λ one. let none : list_any is_ending more ≡ false = going refl in absurd cc)
    (or_cases (list_any is_ending calls) (list_any is_ending more) (sym (list_any-append is_ending calls more) ∙ is))

connected_ended : (flag : Bool) (p : Past) → have_ended (cond flag (reconnected p) p).connection ≡ true → have_ended p.connection ≡ true
connected_ended true p is = absurd cc
connected_ended false p is = is

step_ended : (call : Call) (r : ValueRun) → have_ended (after_call call r).past.connection ≡ true → (have_ended r.past.connection ≡ true) ⊎ (loses_above call ≡ true)
step_ended connects r is = inl (connected_ended (awaits r.value.relay) r.past is)
step_ended (comes side piece mark) r is = let call = comes side piece mark in more_ended (loses_above call) r.past.connection (upper_by call r.value.relay) (calls_going call r.value.relay r.value.relay.upper) is
step_ended (bytes_end side) r is = let call = bytes_end side in more_ended (loses_above call) r.past.connection (upper_by call r.value.relay) (calls_going call r.value.relay r.value.relay.upper) is
step_ended (turns side) r is = let call = turns side in more_ended (loses_above call) r.past.connection (upper_by call r.value.relay) (calls_going call r.value.relay r.value.relay.upper) is
step_ended fails r is = more_ended (loses_above fails) r.past.connection (upper_by fails r.value.relay) (calls_going fails r.value.relay r.value.relay.upper) is
step_ended (gives side) r is = let call = gives side in more_ended (loses_above call) r.past.connection (upper_by call r.value.relay) (calls_going call r.value.relay r.value.relay.upper) is

ended_from : (calls : List Call) (r : ValueRun) → have_ended (after_all calls r).past.connection ≡ true → (have_ended r.past.connection ≡ true) ⊎ (list_any loses_above calls ≡ true)
ended_from [] r is = inl is
ended_from (call ∷ calls) r is = ⊎_elim
    (λ one. ⊎_elim (λ two. inl two) (λ two. inr (or_left (loses_above call) (list_any loses_above calls) two)) (step_ended call r one))
    (λ one. inr (or_right (loses_above call) (list_any loses_above calls) one))
    (ended_from calls (after_call call r) is)

-- it has no connection at first
pub ended_lost : (calls : List Call) (r : ValueRun) → r.past.connection ≡ None → have_ended (after_all calls r).past.connection ≡ true → list_any loses_above calls ≡ true
ended_lost calls r first is = ⊎_elim (λ one. let none : have_ended r.past.connection ≡ false = ap have_ended first in absurd cc) (λ one. one) (ended_from calls r is)
