-- No call of a value-add sends a command below.
use Rattle.std.proofs.Common.{◌≡◌, ℕ, ◌+◌, Bool, false, not, List, ◌∷◌, ◌++◌, length, Option, Some, None, Result, Ok, refl}
use Rattle.std.specs.List.{AllByRecursion}
use Rattle.channel_core.specs.QueueLaws.{is_commanding}
use Rattle.channel_core.specs.Runs.{taking}
use Rattle.channel_core.specs.Sending.{refusal_of}
use Rattle.channel_core.specs.Taking.{next_taken}
use Rattle.channel_core.specs.declared.sending.SendRefusal.{SendRefusal}
use Rattle.channel_core.specs.declared.taking.Taken.{Taken}
use Rattle.channel_core.specs.declared.taking.Taken.TheVariants as taken
use Rattle.tcf_message.specs.Message.{MessageValue, command, event, final, not_known, progress, reading}
use Rattle.tcf_message.specs.declared.message.MessageFault.{MessageFault}
use Rattle.value_node.specs.ForwardedValue.{ForwardedValue}
use Rattle.value_node.specs.Own.{own_reply, redirect_done, redirect_failed}
use Rattle.value_node.specs.Passing.{Upper}
use Rattle.value_node.specs.Runs.{Call, LowerCall, Past, answering, asked_below, asked_below_in, before_hello_below, bound_below, bytes_end, closing_if, closing_in, comes, connects, ended_below, event_calls, fails, final_calls, gives, next_above, only_if, own_by, own_calls, passing_any, passing_by, passing_from, passing_on, progress_calls, refused_by, stored_for, took_above_below, took_below_below, turns, with_calls}
use Rattle.value_node.specs.Value.{awaits, pending_above, takes_above, takes_below}
use Rattle.value_node.specs.declared.own.Own.{Own}
use Rattle.value_node.specs.declared.own.Own.TheVariants as own
use Rattle.value_node.specs.declared.relay.Relay.{Relay}
use Rattle.value_node.specs.declared.states.Bind.{Bind}
use Rattle.value_node.specs.declared.states.Bind.TheVariants.{Unbound, Opening, Bound, Closed}
use Rattle.value_node.specs.declared.states.Side.TheVariants.{Below, Above}
use Rattle.value_node.proofs.Lists.{all_if, all_only}
use Rattle.list_laws.proofs.AllLists.{all_append, all_left, all_right}

abbrev pub IsOther : LowerCall → Type 0
IsOther call = is_commanding call ≡ false

answering_other : (redirect : Option (List ℕ)) (body : List ℕ) → AllByRecursion IsOther (answering redirect body)
answering_other None body = tt
answering_other (Some token) body = (refl, tt)

own_other : (token : List ℕ) (reply : Own) → AllByRecursion IsOther (own_calls token reply)
own_other token own.Unknown = (refl, tt)
own_other token (own.Result body) = (refl, tt)
own_other token own.Connect = tt

closing_if_other : (refusal : Option SendRefusal) → AllByRecursion IsOther (closing_if refusal)
closing_if_other None = tt
closing_if_other (Some why) = (refl, tt)

refused_other : (upper : Option Upper) (service name body : List ℕ) → AllByRecursion IsOther (refused_by upper service name body)
refused_other None service name body = (refl, tt)
refused_other (Some e) service name body = closing_if_other (refusal_of (length service + length name + length body) e)

bound_other : (reply : Option (List ℕ)) (token service name body : List ℕ) (v : Relay) → AllByRecursion IsOther (bound_below reply token service name body v)
bound_other None token service name body v = refused_other v.upper service name body
bound_other (Some reply) token service name body v = (refl, tt)

asked_in_other : (bind : Bind) (token service name body : List ℕ) (v : Relay) → AllByRecursion IsOther (asked_below_in bind token service name body v)
asked_in_other Unbound token service name body v = own_other token (own_reply v.peer service name body)
asked_in_other Opening token service name body v = tt
asked_in_other Bound token service name body v = bound_other (stored_for service name body v) token service name body v
asked_in_other Closed token service name body v = tt

asked_other : (m : Result MessageValue MessageFault) (v : Relay) → AllByRecursion IsOther (asked_below m v)
asked_other (Ok (command token service name body)) v = asked_in_other v.bind token service name body v
asked_other m v = tt

below_other : (what : Option (Taken Unit)) (v : Relay) → AllByRecursion IsOther (took_below_below what v)
below_other (Some (taken.Command incoming)) v = asked_other (reading incoming.raw) v
below_other (Some (taken.Closed cause)) v = (refl, tt)
below_other what v = tt

hello_other : (bind : Bind) (v : Relay) → AllByRecursion IsOther (before_hello_below bind v)
hello_other Opening v = answering_other v.redirect redirect_done
hello_other bind v = tt

ended_other : (bind : Bind) (v : Relay) → AllByRecursion IsOther (ended_below bind v)
ended_other Opening v = answering_other v.redirect redirect_failed
ended_other bind v = tt

above_other : (what : Option (Taken ForwardedValue)) (v : Relay) → AllByRecursion IsOther (took_above_below what v)
above_other (Some (taken.Hello incoming)) v = hello_other v.bind v
above_other (Some (taken.Closed cause)) v = ended_other v.bind v
above_other what v = tt

own_by_other : (call : Call) (v : Relay) → AllByRecursion IsOther (own_by call v)
own_by_other (comes Below piece mark) v = (refl, tt)
own_by_other (comes Above piece mark) v = tt
own_by_other (bytes_end Below) v = (refl, tt)
own_by_other (bytes_end Above) v = tt
own_by_other (turns Below) v = all_if IsOther (takes_below v.bind v.upper) (taking ∷ took_below_below (next_taken v.lower).0 v) (refl, below_other (next_taken v.lower).0 v)
own_by_other (turns Above) v = all_if IsOther (takes_above v.bind) (took_above_below (next_above v.upper) v) (above_other (next_above v.upper) v)
own_by_other connects v = tt
own_by_other fails v = all_if IsOther (awaits v) (answering v.redirect redirect_failed) (answering_other v.redirect redirect_failed)
own_by_other (gives Below) v = (refl, tt)
own_by_other (gives Above) v = tt

event_other : (mark : Option ℕ) (m : Result MessageValue MessageFault) → AllByRecursion IsOther (event_calls mark m)
event_other mark (Ok (event service name body)) = (refl, tt)
event_other mark m = tt

progress_other : (forwarded : Option ForwardedValue) (mark : Option ℕ) (m : Result MessageValue MessageFault) → AllByRecursion IsOther (progress_calls forwarded mark m)
progress_other (Some forwarded) mark (Ok (progress token body)) = (refl, tt)
progress_other forwarded mark m = tt

final_other : (forwarded : ForwardedValue) (mark : Option ℕ) (m : Result MessageValue MessageFault) → AllByRecursion IsOther (final_calls forwarded mark m)
final_other forwarded mark (Ok (final token body)) = (refl, tt)
final_other forwarded mark (Ok (not_known token)) = (refl, tt)
final_other forwarded mark m = tt

closing_other : (bind : Bind) → AllByRecursion IsOther (closing_in bind)
closing_other Unbound = tt
closing_other Opening = tt
closing_other Bound = (refl, tt)
closing_other Closed = tt

passing_on_other : (what : Taken ForwardedValue) (e : Upper) (bind : Bind) → AllByRecursion IsOther (passing_on what e bind)
passing_on_other (taken.Hello incoming) e bind = event_other incoming.mark (reading incoming.raw)
passing_on_other (taken.Command incoming) e bind = tt
passing_on_other (taken.Event incoming) e bind = event_other incoming.mark (reading incoming.raw)
passing_on_other (taken.Progress token incoming) e bind = progress_other (pending_above token (Some e)) incoming.mark (reading incoming.raw)
passing_on_other (taken.Final forwarded incoming) e bind = final_other forwarded incoming.mark (reading incoming.raw)
passing_on_other (taken.Closed cause) e bind = closing_other bind

any_other : (next : Option (Taken ForwardedValue) × Upper) (bind : Bind) → AllByRecursion IsOther (passing_any next bind)
any_other (None, e) bind = tt
any_other (Some what, e) bind = passing_on_other what e bind

from_other : (upper : Option Upper) (bind : Bind) → AllByRecursion IsOther (passing_from upper bind)
from_other None bind = tt
from_other (Some e) bind = any_other (next_taken e) bind

passing_other : (call : Call) (v : Relay) → AllByRecursion IsOther (passing_by call v)
passing_other (turns Above) v = all_if IsOther (takes_above v.bind) (passing_from v.upper v.bind) (from_other v.upper v.bind)
passing_other call v = tt

both_other : (flag : Bool) (until since own pass : List LowerCall) → AllByRecursion IsOther (until ++ since) → AllByRecursion IsOther own → AllByRecursion IsOther pass
    → AllByRecursion IsOther ((until ++ only_if (not flag) own) ++ (since ++ (only_if flag own ++ pass)))
both_other flag until since own pass all mine on =
    let first = only_if (not flag) own in
    let second = only_if flag own in
    all_append IsOther (until ++ first) (since ++ (second ++ pass))
    (all_append IsOther until first (all_left IsOther until since all) (all_only IsOther (not flag) own mine))
    (all_append IsOther since (second ++ pass) (all_right IsOther until since all) (all_append IsOther second pass (all_only IsOther flag own mine) on))

abbrev CommandsNone : Past → Type 0
CommandsNone p = AllByRecursion IsOther (p.until_bound ++ p.since_bound)

pub uncommanding_more : (call : Call) (v after : Relay) (p : Past) → CommandsNone p → CommandsNone (with_calls call v after p)
uncommanding_more call v after p all =
    both_other p.is_bound p.until_bound p.since_bound (own_by call v) (passing_by call v) all (own_by_other call v) (passing_other call v)
