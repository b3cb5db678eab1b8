-- What the calls of a value-add are to its ends: a turn takes, sends and closes, and only a message that is given out is taken
-- from what is queued.
use Rattle.std.proofs.Common.{◌≡◌, ℕ, ◌+◌, Bool, true, false, List, [], ◌∷◌, ◌++◌, length, Option, Some, None, Result, Ok, refl, ap, ◌∙◌}
use Rattle.std.specs.Prelude.{if◌then◌else◌, option_map}
use Rattle.std.specs.List.{AllByRecursion}
use Rattle.list_laws.proofs.AllLists.{all_append}
use Rattle.channel_core.specs.Runs.{Call as EndCall, Run, after_call, after_calls, closing, commanding, delivering, draining, ending, putting_out, sending, taking}
use Rattle.channel_core.specs.Sending.{refusal_of}
use Rattle.channel_core.specs.Taking.{next_taken}
use Rattle.channel_core.specs.declared.sending.SendRefusal.{SendRefusal}
use Rattle.channel_core.specs.declared.taking.Taken.{Taken}
use Rattle.channel_core.specs.declared.taking.Taken.TheVariants as taken
use Rattle.tcf_message.specs.Message.{MessageValue, command, event, final, not_known, progress, reading}
use Rattle.tcf_message.specs.declared.message.MessageFault.{MessageFault}
use Rattle.value_node.specs.ForwardedValue.{ForwardedValue}
use Rattle.value_node.specs.Own.{own_reply, redirect_done, redirect_failed}
use Rattle.value_node.specs.Passing.{Upper}
use Rattle.value_node.specs.Runs.{Call, Past, above, answering, asked_above, asked_above_in, asked_below, asked_below_in, before_hello_below, below, bound_above, bound_below, bytes_end, closing_if, closing_in, comes, connects, ended_below, event_calls, fails, final_calls, gives, next_above, own_by, own_calls, passing_any, passing_by, passing_from, passing_on, progress_calls, refused_by, refusing, stored_for, took_above_above, took_above_below, took_below_above, took_below_below, turns, upper_after, upper_by, upper_from, upper_on, with_calls}
use Rattle.value_node.specs.Value.{awaits, pending_above, takes_above, takes_below}
use Rattle.value_node.specs.declared.own.Own.{Own}
use Rattle.value_node.specs.declared.own.Own.TheVariants as own
use Rattle.value_node.specs.declared.relay.Relay.{Relay}
use Rattle.value_node.specs.declared.states.Bind.{Bind}
use Rattle.value_node.specs.declared.states.Bind.TheVariants.{Unbound, Opening, Bound, Closed}
use Rattle.value_node.specs.declared.states.Side.{Side}
use Rattle.value_node.specs.declared.states.Side.TheVariants.{Below, Above}
use Rattle.value_node.proofs.Holding.{above_more, below_more}

-- ---- calls that take, send or close

abbrev pub acts : {T : Type 0} → EndCall T → Bool
acts taking = true
acts (commanding service name body tag mark) = true
acts (sending message mark) = true
acts closing = true
acts (delivering piece mark) = false
acts ending = false
acts putting_out = false
acts draining = false

abbrev pub AllAct : {T : Type 0} → List (EndCall T) → Type 0
AllAct calls = AllByRecursion (λ call. acts call ≡ true) calls

act_if : {T : Type 0} → (flag : Bool) (calls : List (EndCall T)) → AllAct calls → AllAct (if flag then calls else [])
act_if true calls all = all
act_if false calls all = tt

closing_if_acts : (T : Type 0) (refusal : Option SendRefusal) → AllAct {T = T} (closing_if refusal)
closing_if_acts T None = tt
closing_if_acts T (Some why) = (refl, tt)

closing_acts : (T : Type 0) (bind : Bind) → AllAct {T = T} (closing_in bind)
closing_acts T Unbound = tt
closing_acts T Opening = tt
closing_acts T Bound = (refl, tt)
closing_acts T Closed = tt

-- ---- those of the lower end

answering_acts : (redirect : Option (List ℕ)) (body : List ℕ) → AllAct (answering redirect body)
answering_acts None body = tt
answering_acts (Some token) body = (refl, tt)

own_acts : (token : List ℕ) (reply : Own) → AllAct (own_calls token reply)
own_acts token own.Unknown = (refl, tt)
own_acts token (own.Result body) = (refl, tt)
own_acts token own.Connect = tt

refused_acts : (upper : Option Upper) (service name body : List ℕ) → AllAct (refused_by upper service name body)
refused_acts None service name body = (refl, tt)
refused_acts (Some e) service name body = closing_if_acts Unit (refusal_of (length service + length name + length body) e)

bound_acts : (reply : Option (List ℕ)) (token service name body : List ℕ) (v : Relay) → AllAct (bound_below reply token service name body v)
bound_acts None token service name body v = refused_acts v.upper service name body
bound_acts (Some reply) token service name body v = (refl, tt)

asked_in_acts : (bind : Bind) (token service name body : List ℕ) (v : Relay) → AllAct (asked_below_in bind token service name body v)
asked_in_acts Unbound token service name body v = own_acts token (own_reply v.peer service name body)
asked_in_acts Opening token service name body v = tt
asked_in_acts Bound token service name body v = bound_acts (stored_for service name body v) token service name body v
asked_in_acts Closed token service name body v = tt

asked_acts : (m : Result MessageValue MessageFault) (v : Relay) → AllAct (asked_below m v)
asked_acts (Ok (command token service name body)) v = asked_in_acts v.bind token service name body v
asked_acts m v = tt

took_below_acts : (what : Option (Taken Unit)) (v : Relay) → AllAct (took_below_below what v)
took_below_acts (Some (taken.Command incoming)) v = asked_acts (reading incoming.raw) v
took_below_acts (Some (taken.Closed cause)) v = (refl, tt)
took_below_acts what v = tt

hello_acts : (bind : Bind) (v : Relay) → AllAct (before_hello_below bind v)
hello_acts Opening v = answering_acts v.redirect redirect_done
hello_acts bind v = tt

ended_acts : (bind : Bind) (v : Relay) → AllAct (ended_below bind v)
ended_acts Opening v = answering_acts v.redirect redirect_failed
ended_acts bind v = tt

took_above_acts : (what : Option (Taken ForwardedValue)) (v : Relay) → AllAct (took_above_below what v)
took_above_acts (Some (taken.Hello incoming)) v = hello_acts v.bind v
took_above_acts (Some (taken.Closed cause)) v = ended_acts v.bind v
took_above_acts what v = tt

event_acts : (mark : Option ℕ) (m : Result MessageValue MessageFault) → AllAct (event_calls mark m)
event_acts mark (Ok (event service name body)) = (refl, tt)
event_acts mark m = tt

progress_acts : (forwarded : Option ForwardedValue) (mark : Option ℕ) (m : Result MessageValue MessageFault) → AllAct (progress_calls forwarded mark m)
progress_acts (Some forwarded) mark (Ok (progress token body)) = (refl, tt)
progress_acts forwarded mark m = tt

final_acts : (forwarded : ForwardedValue) (mark : Option ℕ) (m : Result MessageValue MessageFault) → AllAct (final_calls forwarded mark m)
final_acts forwarded mark (Ok (final token body)) = (refl, tt)
final_acts forwarded mark (Ok (not_known token)) = (refl, tt)
final_acts forwarded mark m = tt

on_acts : (what : Taken ForwardedValue) (e : Upper) (bind : Bind) → AllAct (passing_on what e bind)
on_acts (taken.Hello incoming) e bind = event_acts incoming.mark (reading incoming.raw)
on_acts (taken.Command incoming) e bind = tt
on_acts (taken.Event incoming) e bind = event_acts incoming.mark (reading incoming.raw)
on_acts (taken.Progress token incoming) e bind = progress_acts (pending_above token (Some e)) incoming.mark (reading incoming.raw)
on_acts (taken.Final forwarded incoming) e bind = final_acts forwarded incoming.mark (reading incoming.raw)
on_acts (taken.Closed cause) e bind = closing_acts Unit bind

any_acts : (next : Option (Taken ForwardedValue) × Upper) (bind : Bind) → AllAct (passing_any next bind)
any_acts (None, e) bind = tt
any_acts (Some what, e) bind = on_acts what e bind

from_acts : (upper : Option Upper) (bind : Bind) → AllAct (passing_from upper bind)
from_acts None bind = tt
from_acts (Some e) bind = any_acts (next_taken e) bind

own_turn_acts : (side : Side) (v : Relay) → AllAct (own_by (turns side) v)
own_turn_acts Below v = act_if (takes_below v.bind v.upper) (taking ∷ took_below_below (next_taken v.lower).0 v) (refl, took_below_acts (next_taken v.lower).0 v)
own_turn_acts Above v = act_if (takes_above v.bind) (took_above_below (next_above v.upper) v) (took_above_acts (next_above v.upper) v)

passing_turn_acts : (side : Side) (v : Relay) → AllAct (passing_by (turns side) v)
passing_turn_acts Below v = tt
passing_turn_acts Above v = act_if (takes_above v.bind) (passing_from v.upper v.bind) (from_acts v.upper v.bind)

pub below_acts : (side : Side) (v : Relay) → AllAct (own_by (turns side) v ++ passing_by (turns side) v)
below_acts side v = all_append (λ call. acts call ≡ true) (own_by (turns side) v) (passing_by (turns side) v) (own_turn_acts side v) (passing_turn_acts side v)

pub failing_acts : (v : Relay) → AllAct (own_by fails v)
failing_acts v = act_if (awaits v) (answering v.redirect redirect_failed) (answering_acts v.redirect redirect_failed)

-- ---- those of the upper end

bound_above_acts : (reply : Option (List ℕ)) (token service name body : List ℕ) (mark : Option ℕ) (e : Upper) → AllAct (bound_above reply token service name body mark e)
bound_above_acts None token service name body mark e = (refl, closing_if_acts ForwardedValue (refusal_of (length service + length name + length body) e))
bound_above_acts (Some reply) token service name body mark e = tt

asked_above_in_acts : (bind : Bind) (token service name body : List ℕ) (mark : Option ℕ) (v : Relay) (e : Upper) → AllAct (asked_above_in bind token service name body mark v e)
asked_above_in_acts Bound token service name body mark v e = bound_above_acts (stored_for service name body v) token service name body mark e
asked_above_in_acts bind token service name body mark v e = tt

asked_above_acts : (m : Result MessageValue MessageFault) (mark : Option ℕ) (v : Relay) (e : Upper) → AllAct (asked_above m mark v e)
asked_above_acts (Ok (command token service name body)) mark v e = asked_above_in_acts v.bind token service name body mark v e
asked_above_acts m mark v e = tt

upper_below_acts : (what : Option (Taken Unit)) (v : Relay) (e : Upper) → AllAct (took_below_above what v e)
upper_below_acts (Some (taken.Command incoming)) v e = asked_above_acts (reading incoming.raw) incoming.mark v e
upper_below_acts (Some (taken.Closed cause)) v e = (refl, tt)
upper_below_acts what v e = tt

refusing_acts : (m : Result MessageValue MessageFault) → AllAct (refusing m)
refusing_acts (Ok (command token service name body)) = (refl, tt)
refusing_acts m = tt

upper_above_acts : (what : Option (Taken ForwardedValue)) (bind : Bind) → AllAct (took_above_above what bind)
upper_above_acts (Some (taken.Command incoming)) bind = refusing_acts (reading incoming.raw)
upper_above_acts (Some (taken.Closed cause)) bind = closing_acts ForwardedValue bind
upper_above_acts what bind = tt

pub above_acts : (side : Side) (v : Relay) (e : Upper) → AllAct (upper_on (turns side) v e)
above_acts Below v e = act_if (takes_below v.bind v.upper) (took_below_above (next_taken v.lower).0 v e) (upper_below_acts (next_taken v.lower).0 v e)
above_acts Above v e = act_if (takes_above v.bind) (taking ∷ took_above_above (next_taken e).0 v.bind) (refl, upper_above_acts (next_taken e).0 v.bind)

-- ---- what they leave where it is

abbrev puts_out : {T : Type 0} → EndCall T → Bool
puts_out putting_out = true
puts_out (delivering piece mark) = false
puts_out ending = false
puts_out taking = false
puts_out (commanding service name body tag mark) = false
puts_out (sending message mark) = false
puts_out closing = false
puts_out draining = false

abbrev PutNone : {T : Type 0} → List (EndCall T) → Type 0
PutNone calls = AllByRecursion (λ call. puts_out call ≡ false) calls

once_given : {T : Type 0} → (call : EndCall T) (r : Run T) → puts_out call ≡ false → (after_call call r).past.given ≡ r.past.given
once_given (delivering piece mark) r off = refl
once_given ending r off = refl
once_given taking r off = refl
once_given (commanding service name body tag mark) r off = refl
once_given (sending message mark) r off = refl
once_given putting_out r off = absurd cc
once_given closing r off = refl
once_given draining r off = refl

pub given_after : {T : Type 0} → (calls : List (EndCall T)) (r : Run T) → PutNone calls → (after_calls calls r).past.given ≡ r.past.given
given_after [] r all = refl
given_after (call ∷ calls) r all = given_after calls (after_call call r) all.1 ∙ once_given call r all.0

act_puts : {T : Type 0} → (call : EndCall T) → acts call ≡ true → puts_out call ≡ false
act_puts taking on = refl
act_puts (commanding service name body tag mark) on = refl
act_puts (sending message mark) on = refl
act_puts closing on = refl
act_puts (delivering piece mark) on = refl
act_puts ending on = refl
act_puts putting_out on = absurd cc
act_puts draining on = refl

acts_put : {T : Type 0} → (calls : List (EndCall T)) → AllAct calls → PutNone calls
acts_put [] all = tt
acts_put (call ∷ calls) all = (act_puts call all.0, acts_put calls all.1)

-- ---- the calls of a value-add that give nothing out, and make no connection

abbrev pub IsQuiet : Call → Type 0
IsQuiet (comes side piece mark) = Unit {0}
IsQuiet (bytes_end side) = Unit {0}
IsQuiet (turns side) = Unit {0}
IsQuiet connects = ⊥
IsQuiet fails = Unit {0}
IsQuiet (gives side) = ⊥

lower_puts : (call : Call) (v : Relay) → IsQuiet call → PutNone (own_by call v ++ passing_by call v)
lower_puts (comes Below piece mark) v quiet = (refl, tt)
lower_puts (comes Above piece mark) v quiet = tt
lower_puts (bytes_end Below) v quiet = (refl, tt)
lower_puts (bytes_end Above) v quiet = tt
lower_puts (turns side) v quiet = acts_put (own_by (turns side) v ++ passing_by (turns side) v) (below_acts side v)
lower_puts connects v quiet = absurd quiet
lower_puts fails v quiet = all_append (λ call. puts_out call ≡ false) (own_by fails v) [] (acts_put (own_by fails v) (failing_acts v)) tt
lower_puts (gives side) v quiet = absurd quiet

pub upper_puts : (call : Call) (v : Relay) (upper : Option Upper) → IsQuiet call → PutNone (upper_from call v upper)
upper_puts call v None quiet = tt
upper_puts (comes Below piece mark) v (Some e) quiet = tt
upper_puts (comes Above piece mark) v (Some e) quiet = (refl, tt)
upper_puts (bytes_end Below) v (Some e) quiet = tt
upper_puts (bytes_end Above) v (Some e) quiet = (refl, tt)
upper_puts (turns side) v (Some e) quiet = acts_put (upper_on (turns side) v e) (above_acts side v e)
upper_puts connects v (Some e) quiet = absurd quiet
upper_puts fails v (Some e) quiet = tt
upper_puts (gives side) v (Some e) quiet = absurd quiet

pub lower_given : (call : Call) (v next : Relay) (p : Past) → IsQuiet call → (p.is_bound ≡ false → p.since_bound ≡ []) → (below (with_calls call v next p)).past.given ≡ (below p).past.given
lower_given call v next p quiet unbound =
    ap (λ (r : Run Unit). r.past.given) (below_more call v next p unbound) ∙ given_after (own_by call v ++ passing_by call v) (below p) (lower_puts call v quiet)

pub upper_given : (call : Call) (v next : Relay) (p : Past) → IsQuiet call → v.upper ≡ option_map (λ calls. (upper_after calls).end) p.connection
    → (above (with_calls call v next p)).past.given ≡ (above p).past.given
upper_given call v next p quiet upper =
    ap (λ (r : Run ForwardedValue). r.past.given) (above_more call v next p upper) ∙ given_after (upper_by call v) (above p) (upper_puts call v v.upper quiet)
