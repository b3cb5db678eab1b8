-- No call of a value-add drains its upper end.
use Rattle.std.proofs.Common.{◌≡◌, ℕ, ◌+◌, Bool, true, false, List, [], ◌∷◌, length, Option, Some, None, Result, Ok, refl, ap, ◌∙◌}
use Rattle.std.specs.List.{AllByRecursion}
use Rattle.channel_core.specs.Runs.{Call as EndCall, Run, after_call, after_calls, closing, commanding, delivering, draining, ending, putting_out, sending, taking}
use Rattle.channel_core.specs.Sending.{refusal_of}
use Rattle.channel_core.specs.Taking.{next_taken}
use Rattle.channel_core.specs.declared.sending.SendRefusal.{SendRefusal}
use Rattle.channel_core.specs.declared.taking.Taken.{Taken}
use Rattle.channel_core.specs.declared.taking.Taken.TheVariants as taken
use Rattle.tcf_message.specs.Message.{MessageValue, command, reading}
use Rattle.tcf_message.specs.declared.message.MessageFault.{MessageFault}
use Rattle.value_node.specs.ForwardedValue.{ForwardedValue}
use Rattle.value_node.specs.Passing.{Upper}
use Rattle.value_node.specs.Runs.{Call, Past, UpperCall, above, asked_above, asked_above_in, bound_above, bytes_end, closing_if, closing_in, comes, connects, fails, gives, refusing, stored_for, took_above_above, took_below_above, turns, upper_by, upper_from, upper_on, with_calls}
use Rattle.value_node.specs.Value.{takes_above, takes_below}
use Rattle.value_node.specs.declared.relay.Relay.{Relay}
use Rattle.value_node.specs.declared.states.Bind.{Bind}
use Rattle.value_node.specs.declared.states.Bind.TheVariants.{Unbound, Opening, Bound, Closed}
use Rattle.value_node.specs.declared.states.Side.TheVariants.{Below, Above}
use Rattle.value_node.proofs.Holding.{Holds, above_more}
use Rattle.value_node.proofs.Lists.{all_if}

abbrev drains : {T : Type 0} → EndCall T → Bool
drains draining = true
drains _ = false

once_drained : (call : UpperCall) (r : Run ForwardedValue) → drains call ≡ false → (after_call call r).past.drained ≡ r.past.drained
once_drained (delivering piece mark) r off = refl
once_drained ending r off = refl
once_drained taking r off = refl
once_drained (commanding service name body tag mark) r off = refl
once_drained (sending message mark) r off = refl
once_drained putting_out r off = refl
once_drained closing r off = refl
once_drained draining r off = absurd cc

abbrev DrainNone : List UpperCall → Type 0
DrainNone calls = AllByRecursion (λ call. drains call ≡ false) calls

drained_after : (calls : List UpperCall) (r : Run ForwardedValue) → DrainNone calls → (after_calls calls r).past.drained ≡ r.past.drained
drained_after [] r all = refl
drained_after (call ∷ calls) r all = drained_after calls (after_call call r) all.1 ∙ once_drained call r all.0

-- ---- its calls

closing_if_drains : (refusal : Option SendRefusal) → DrainNone (closing_if refusal)
closing_if_drains None = tt
closing_if_drains (Some why) = (refl, tt)

closing_drains : (bind : Bind) → DrainNone (closing_in bind)
closing_drains Unbound = tt
closing_drains Opening = tt
closing_drains Bound = (refl, tt)
closing_drains Closed = tt

refusing_drains : (m : Result MessageValue MessageFault) → DrainNone (refusing m)
refusing_drains (Ok (command token service name body)) = (refl, tt)
refusing_drains m = tt

bound_drains : (reply : Option (List ℕ)) (token service name body : List ℕ) (mark : Option ℕ) (e : Upper) → DrainNone (bound_above reply token service name body mark e)
bound_drains None token service name body mark e = (refl, closing_if_drains (refusal_of (length service + length name + length body) e))
bound_drains (Some reply) token service name body mark e = tt

asked_in_drains : (bind : Bind) (token service name body : List ℕ) (mark : Option ℕ) (v : Relay) (e : Upper) → DrainNone (asked_above_in bind token service name body mark v e)
asked_in_drains Bound token service name body mark v e = bound_drains (stored_for service name body v) token service name body mark e
asked_in_drains bind token service name body mark v e = tt

asked_drains : (m : Result MessageValue MessageFault) (mark : Option ℕ) (v : Relay) (e : Upper) → DrainNone (asked_above m mark v e)
asked_drains (Ok (command token service name body)) mark v e = asked_in_drains v.bind token service name body mark v e
asked_drains m mark v e = tt

below_drains : (what : Option (Taken Unit)) (v : Relay) (e : Upper) → DrainNone (took_below_above what v e)
below_drains (Some (taken.Command incoming)) v e = asked_drains (reading incoming.raw) incoming.mark v e
below_drains (Some (taken.Closed cause)) v e = (refl, tt)
below_drains what v e = tt

above_drains : (what : Option (Taken ForwardedValue)) (bind : Bind) → DrainNone (took_above_above what bind)
above_drains (Some (taken.Command incoming)) bind = refusing_drains (reading incoming.raw)
above_drains (Some (taken.Closed cause)) bind = closing_drains bind
above_drains what bind = tt

on_drains : (call : Call) (v : Relay) (e : Upper) → DrainNone (upper_on call v e)
on_drains (comes Below piece mark) v e = tt
on_drains (comes Above piece mark) v e = (refl, tt)
on_drains (bytes_end Below) v e = tt
on_drains (bytes_end Above) v e = (refl, tt)
on_drains (turns Below) v e =
    all_if (λ call. drains call ≡ false) (takes_below v.bind v.upper) (took_below_above (next_taken v.lower).0 v e) (below_drains (next_taken v.lower).0 v e)
on_drains (turns Above) v e =
    all_if (λ call. drains call ≡ false) (takes_above v.bind) (taking ∷ took_above_above (next_taken e).0 v.bind) (refl, above_drains (next_taken e).0 v.bind)
on_drains connects v e = tt
on_drains fails v e = tt
on_drains (gives Below) v e = tt
on_drains (gives Above) v e = (refl, tt)

from_drains : (call : Call) (v : Relay) (upper : Option Upper) → DrainNone (upper_from call v upper)
from_drains call v None = tt
from_drains call v (Some e) = on_drains call v e

pub undrained_kept : (call : Call) (v after : Relay) (p : Past) → Holds v p → (above (with_calls call v after p)).past.drained ≡ []
undrained_kept call v after p h =
    ap (λ (r : Run ForwardedValue). r.past.drained) (above_more call v after p h.upper)
    ∙ drained_after (upper_by call v) (above p) (from_drains call v v.upper) ∙ h.undrained
