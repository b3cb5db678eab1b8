-- A turn of a value-add brings nothing to its ends and gives nothing out.
use Rattle.std.proofs.Common.{ℕ, ◌+◌, Bool, true, false, cond, List, [], ◌∷◌, ◌++◌, length, Option, Some, None}
use Rattle.std.specs.Prelude.{Result, Ok, Err}
use Rattle.channel_core.specs.Sending.{refusal_of}
use Rattle.channel_core.specs.Taking.{next_taken}
use Rattle.channel_core.specs.declared.sending.SendRefusal.{SendRefusal}
use Rattle.channel_core.specs.declared.taking.Taken.{Taken}
use Rattle.channel_core.specs.declared.taking.Taken.TheVariants as taken
use Rattle.tcf_message.specs.Message.{MessageValue, command, event, final, flow, not_known, progress, reading}
use Rattle.tcf_message.specs.declared.message.MessageFault.{MessageFault}
use Rattle.value_node.specs.ForwardedValue.{ForwardedValue}
use Rattle.value_node.specs.Own.{own_reply, redirect_done, redirect_failed}
use Rattle.value_node.specs.Passing.{Upper}
use Rattle.value_node.specs.Runs.{LowerCall, UpperCall, answering, asked_above, asked_above_in, asked_below, asked_below_in, before_hello_below, bound_above, bound_below, closing_if, closing_in, ended_below, event_calls, final_calls, own_by, own_calls, passing_any, passing_by, passing_from, passing_on, progress_calls, refused_by, refusing, stored_for, took_above_above, took_above_below, took_below_above, took_below_below, turns, upper_by, upper_from}
use Rattle.value_node.specs.Value.{pending_above, takes_above, takes_below}
use Rattle.value_node.specs.declared.own.Own.{Own}
use Rattle.value_node.specs.declared.own.Own.TheVariants as own
use Rattle.value_node.specs.declared.relay.Relay.{Relay}
use Rattle.value_node.specs.declared.states.Bind.{Bind}
use Rattle.value_node.specs.declared.states.Bind.TheVariants.{Unbound, Opening, Bound, Closed}
use Rattle.value_node.specs.declared.states.Side.{Side}
use Rattle.value_node.specs.declared.states.Side.TheVariants.{Below, Above}
use Rattle.chain_route.proofs.EndCalls.{AreIdle, IsIdle}
use Rattle.list_laws.proofs.AllLists.{all_append}

if_idle : {T : Type 0} → (flag : Bool) (calls : List _) → AreIdle {T = T} calls → AreIdle {T = T} (cond flag calls [])
if_idle true calls idle = idle
if_idle false calls idle = tt

-- ---- Its lower end, when it takes from below

own_idle : (token : List ℕ) (o : Own) → AreIdle (own_calls token o)
own_idle token own.Unknown = (tt, tt)
own_idle token (own.Result body) = (tt, tt)
own_idle token own.Connect = tt

closing_idle : (T : Type 0) (why : Option SendRefusal) → AreIdle (closing_if {T = T} why)
closing_idle T None = tt
closing_idle T (Some why) = (tt, tt)

refused_idle : (upper : Option Upper) (service name body : List ℕ) → AreIdle (refused_by upper service name body)
refused_idle None service name body = (tt, tt)
refused_idle (Some e) service name body = closing_idle Unit (refusal_of (length service + length name + length body) e)

bound_idle : (reply : Option (List ℕ)) (token service name body : List ℕ) (v : Relay) → AreIdle (bound_below reply token service name body v)
bound_idle None token service name body v = refused_idle v.upper service name body
bound_idle (Some reply) token service name body v = (tt, tt)

asked_in_idle : (bind : Bind) (token service name body : List ℕ) (v : Relay) → AreIdle (asked_below_in bind token service name body v)
asked_in_idle Unbound token service name body v = own_idle token (own_reply v.peer service name body)
asked_in_idle Opening token service name body v = tt
asked_in_idle Bound token service name body v = bound_idle (stored_for service name body v) token service name body v
asked_in_idle Closed token service name body v = tt

asked_idle : (m : Result MessageValue MessageFault) (v : Relay) → AreIdle (asked_below m v)
asked_idle (Ok (command token service name body)) v = asked_in_idle v.bind token service name body v
asked_idle (Ok (final token body)) v = tt
asked_idle (Ok (progress token body)) v = tt
asked_idle (Ok (not_known token)) v = tt
asked_idle (Ok (event service name body)) v = tt
asked_idle (Ok (flow level)) v = tt
asked_idle (Err fault) v = tt

below_below : (what : Option (Taken Unit)) (v : Relay) → AreIdle (took_below_below what v)
below_below None v = tt
below_below (Some (taken.Hello incoming)) v = tt
below_below (Some (taken.Command incoming)) v = asked_idle (reading incoming.raw) v
below_below (Some (taken.Event incoming)) v = tt
below_below (Some (taken.Progress token incoming)) v = tt
below_below (Some (taken.Final tag incoming)) v = tt
below_below (Some (taken.Closed cause)) v = (tt, tt)

-- ---- and from above

answering_idle : (redirect : Option (List ℕ)) (body : List ℕ) → AreIdle (answering redirect body)
answering_idle None body = tt
answering_idle (Some token) body = (tt, tt)

hello_idle : (bind : Bind) (v : Relay) → AreIdle (before_hello_below bind v)
hello_idle Unbound v = tt
hello_idle Opening v = answering_idle v.redirect redirect_done
hello_idle Bound v = tt
hello_idle Closed v = tt

ended_idle : (bind : Bind) (v : Relay) → AreIdle (ended_below bind v)
ended_idle Unbound v = tt
ended_idle Opening v = answering_idle v.redirect redirect_failed
ended_idle Bound v = tt
ended_idle Closed v = tt

above_below : (what : Option (Taken ForwardedValue)) (v : Relay) → AreIdle (took_above_below what v)
above_below None v = tt
above_below (Some (taken.Hello incoming)) v = hello_idle v.bind v
above_below (Some (taken.Command incoming)) v = tt
above_below (Some (taken.Event incoming)) v = tt
above_below (Some (taken.Progress token incoming)) v = tt
above_below (Some (taken.Final tag incoming)) v = tt
above_below (Some (taken.Closed cause)) v = ended_idle v.bind v

event_idle : (mark : Option ℕ) (m : Result MessageValue MessageFault) → AreIdle (event_calls mark m)
event_idle mark (Ok (command token service name body)) = tt
event_idle mark (Ok (final token body)) = tt
event_idle mark (Ok (progress token body)) = tt
event_idle mark (Ok (not_known token)) = tt
event_idle mark (Ok (event service name body)) = (tt, tt)
event_idle mark (Ok (flow level)) = tt
event_idle mark (Err fault) = tt

progress_idle : (forwarded : Option ForwardedValue) (mark : Option ℕ) (m : Result MessageValue MessageFault) → AreIdle (progress_calls forwarded mark m)
progress_idle None mark m = tt
progress_idle (Some forwarded) mark (Ok (command token service name body)) = tt
progress_idle (Some forwarded) mark (Ok (final token body)) = tt
progress_idle (Some forwarded) mark (Ok (progress token body)) = (tt, tt)
progress_idle (Some forwarded) mark (Ok (not_known token)) = tt
progress_idle (Some forwarded) mark (Ok (event service name body)) = tt
progress_idle (Some forwarded) mark (Ok (flow level)) = tt
progress_idle (Some forwarded) mark (Err fault) = tt

final_idle : (forwarded : ForwardedValue) (mark : Option ℕ) (m : Result MessageValue MessageFault) → AreIdle (final_calls forwarded mark m)
final_idle forwarded mark (Ok (command token service name body)) = tt
final_idle forwarded mark (Ok (final token body)) = (tt, tt)
final_idle forwarded mark (Ok (progress token body)) = tt
final_idle forwarded mark (Ok (not_known token)) = (tt, tt)
final_idle forwarded mark (Ok (event service name body)) = tt
final_idle forwarded mark (Ok (flow level)) = tt
final_idle forwarded mark (Err fault) = tt

in_idle : (T : Type 0) (bind : Bind) → AreIdle (closing_in {T = T} bind)
in_idle T Unbound = tt
in_idle T Opening = tt
in_idle T Bound = (tt, tt)
in_idle T Closed = tt

passing_idle : (what : Taken ForwardedValue) (e : Upper) (bind : Bind) → AreIdle (passing_on what e bind)
passing_idle (taken.Hello incoming) e bind = event_idle incoming.mark (reading incoming.raw)
passing_idle (taken.Command incoming) e bind = tt
passing_idle (taken.Event incoming) e bind = event_idle incoming.mark (reading incoming.raw)
passing_idle (taken.Progress token incoming) e bind = progress_idle (pending_above token (Some e)) incoming.mark (reading incoming.raw)
passing_idle (taken.Final forwarded incoming) e bind = final_idle forwarded incoming.mark (reading incoming.raw)
passing_idle (taken.Closed cause) e bind = in_idle Unit bind

any_idle : (next : Option (Taken ForwardedValue) × Upper) (bind : Bind) → AreIdle (passing_any next bind)
any_idle (None, e) bind = tt
any_idle (Some what, e) bind = passing_idle what e bind

from_idle : (upper : Option Upper) (bind : Bind) → AreIdle (passing_from upper bind)
from_idle None bind = tt
from_idle (Some e) bind = any_idle (next_taken e) bind

-- ---- Its upper end

bound_above_idle : (reply : Option (List ℕ)) (token service name body : List ℕ) (mark : Option ℕ) (e : Upper) → AreIdle (bound_above reply token service name body mark e)
bound_above_idle None token service name body mark e = (tt, closing_idle ForwardedValue (refusal_of (length service + length name + length body) e))
bound_above_idle (Some reply) token service name body mark e = tt

above_in_idle : (bind : Bind) (token service name body : List ℕ) (mark : Option ℕ) (v : Relay) (e : Upper) → AreIdle (asked_above_in bind token service name body mark v e)
above_in_idle Unbound token service name body mark v e = tt
above_in_idle Opening token service name body mark v e = tt
above_in_idle Bound token service name body mark v e = bound_above_idle (stored_for service name body v) token service name body mark e
above_in_idle Closed token service name body mark v e = tt

above_idle : (m : Result MessageValue MessageFault) (mark : Option ℕ) (v : Relay) (e : Upper) → AreIdle (asked_above m mark v e)
above_idle (Ok (command token service name body)) mark v e = above_in_idle v.bind token service name body mark v e
above_idle (Ok (final token body)) mark v e = tt
above_idle (Ok (progress token body)) mark v e = tt
above_idle (Ok (not_known token)) mark v e = tt
above_idle (Ok (event service name body)) mark v e = tt
above_idle (Ok (flow level)) mark v e = tt
above_idle (Err fault) mark v e = tt

below_above : (what : Option (Taken Unit)) (v : Relay) (e : Upper) → AreIdle (took_below_above what v e)
below_above None v e = tt
below_above (Some (taken.Hello incoming)) v e = tt
below_above (Some (taken.Command incoming)) v e = above_idle (reading incoming.raw) incoming.mark v e
below_above (Some (taken.Event incoming)) v e = tt
below_above (Some (taken.Progress token incoming)) v e = tt
below_above (Some (taken.Final tag incoming)) v e = tt
below_above (Some (taken.Closed cause)) v e = (tt, tt)

refusing_idle : (m : Result MessageValue MessageFault) → AreIdle (refusing m)
refusing_idle (Ok (command token service name body)) = (tt, tt)
refusing_idle (Ok (final token body)) = tt
refusing_idle (Ok (progress token body)) = tt
refusing_idle (Ok (not_known token)) = tt
refusing_idle (Ok (event service name body)) = tt
refusing_idle (Ok (flow level)) = tt
refusing_idle (Err fault) = tt

above_above : (what : Option (Taken ForwardedValue)) (bind : Bind) → AreIdle (took_above_above what bind)
above_above None bind = tt
above_above (Some (taken.Hello incoming)) bind = tt
above_above (Some (taken.Command incoming)) bind = refusing_idle (reading incoming.raw)
above_above (Some (taken.Event incoming)) bind = tt
above_above (Some (taken.Progress token incoming)) bind = tt
above_above (Some (taken.Final tag incoming)) bind = tt
above_above (Some (taken.Closed cause)) bind = in_idle ForwardedValue bind

-- ---- A turn

lower_turn : (side : Side) (v : Relay) → AreIdle (own_by (turns side) v ++ passing_by (turns side) v)
lower_turn Below v =
    all_append IsIdle (own_by (turns Below) v) []
    (if_idle (takes_below v.bind v.upper) (_ ∷ took_below_below (next_taken v.lower).0 v) (tt, below_below (next_taken v.lower).0 v)) tt
lower_turn Above v =
    all_append IsIdle (own_by (turns Above) v) (passing_by (turns Above) v)
    (if_idle (takes_above v.bind) (took_above_below _ v) (above_below _ v)) (if_idle (takes_above v.bind) (passing_from v.upper v.bind) (from_idle v.upper v.bind))

upper_turn : (side : Side) (v : Relay) (upper : Option Upper) → AreIdle (upper_from (turns side) v upper)
upper_turn side v None = tt
upper_turn Below v (Some e) = if_idle (takes_below v.bind v.upper) (took_below_above (next_taken v.lower).0 v e) (below_above (next_taken v.lower).0 v e)
upper_turn Above v (Some e) = if_idle (takes_above v.bind) (_ ∷ took_above_above (next_taken e).0 v.bind) (tt, above_above (next_taken e).0 v.bind)

pub record IsQuiet (lower : List LowerCall) (upper : List UpperCall) : Type 0 where
  pub below : AreIdle lower
  pub above : AreIdle upper

pub turn_is_quiet : (side : Side) (v : Relay) → IsQuiet (own_by (turns side) v ++ passing_by (turns side) v) (upper_by (turns side) v)
turn_is_quiet side v = record { below = lower_turn side v; above = upper_turn side v v.upper }
