-- Of the calls of the lower end only the taking takes: what is passed on and what is answered take nothing.
use Rattle.std.proofs.Common.{◌≡◌, ℕ, ◌+◌, Bool, true, false, List, [], length, Option, Some, None, Result, Ok, refl}
use Rattle.std.specs.Prelude.{if◌then◌else◌}
use Rattle.channel_core.specs.Sending.{refusal_of}
use Rattle.channel_core.specs.Taking.{next_taken}
use Rattle.channel_core.specs.declared.sending.SendRefusal.{SendRefusal}
use Rattle.channel_core.specs.declared.taking.Taken.{Taken}
use Rattle.channel_core.specs.declared.taking.Taken.TheVariants as taken
use Rattle.tcf_message.specs.Message.{MessageValue, command, event, final, not_known, progress, reading}
use Rattle.tcf_message.specs.declared.message.MessageFault.{MessageFault}
use Rattle.value_node.specs.ForwardedValue.{ForwardedValue}
use Rattle.value_node.specs.Own.{own_reply, redirect_done, redirect_failed}
use Rattle.value_node.specs.Passing.{Lower, Upper}
use Rattle.value_node.specs.Runs.{Call, answering, asked_below, asked_below_in, before_hello_below, bound_below, bytes_end, closing_if, closing_in, comes, connects, ended_below, event_calls, fails, final_calls, gives, next_above, own_by, own_calls, passing_any, passing_by, passing_from, passing_on, progress_calls, refused_by, stored_for, took_above_below, took_below_below, turns}
use Rattle.value_node.specs.Value.{awaits, pending_above, takes_above}
use Rattle.value_node.specs.declared.own.Own.{Own}
use Rattle.value_node.specs.declared.own.Own.TheVariants as own
use Rattle.value_node.specs.declared.relay.Relay.{Relay}
use Rattle.value_node.specs.declared.states.Bind.{Bind}
use Rattle.value_node.specs.declared.states.Bind.TheVariants.{Unbound, Opening, Bound, Closed}
use Rattle.value_node.specs.declared.states.Side.TheVariants.{Below, Above}
use Rattle.value_node.proofs.Pasts.{taken_in}

-- ---- what is passed on

event_takes : (mark : Option ℕ) (m : Result MessageValue MessageFault) (e : Lower) → taken_in (event_calls mark m) e ≡ []
event_takes mark (Ok (event service name body)) e = refl
event_takes mark m e = refl

progress_takes : (forwarded : Option ForwardedValue) (mark : Option ℕ) (m : Result MessageValue MessageFault) (e : Lower) → taken_in (progress_calls forwarded mark m) e ≡ []
progress_takes (Some forwarded) mark (Ok (progress token body)) e = refl
progress_takes forwarded mark m e = refl

final_takes : (forwarded : ForwardedValue) (mark : Option ℕ) (m : Result MessageValue MessageFault) (e : Lower) → taken_in (final_calls forwarded mark m) e ≡ []
final_takes forwarded mark (Ok (final token body)) e = refl
final_takes forwarded mark (Ok (not_known token)) e = refl
final_takes forwarded mark m e = refl

closing_takes : (bind : Bind) (e : Lower) → taken_in (closing_in bind) e ≡ []
closing_takes Unbound e = refl
closing_takes Opening e = refl
closing_takes Bound e = refl
closing_takes Closed e = refl

on_takes : (what : Taken ForwardedValue) (upper : Upper) (bind : Bind) (e : Lower) → taken_in (passing_on what upper bind) e ≡ []
on_takes (taken.Hello incoming) upper bind e = event_takes incoming.mark (reading incoming.raw) e
on_takes (taken.Command incoming) upper bind e = refl
on_takes (taken.Event incoming) upper bind e = event_takes incoming.mark (reading incoming.raw) e
on_takes (taken.Progress token incoming) upper bind e = progress_takes (pending_above token (Some upper)) incoming.mark (reading incoming.raw) e
on_takes (taken.Final tag incoming) upper bind e = final_takes tag incoming.mark (reading incoming.raw) e
on_takes (taken.Closed cause) upper bind e = closing_takes bind e

any_takes : (next : Option (Taken ForwardedValue) × Upper) (bind : Bind) (e : Lower) → taken_in (passing_any next bind) e ≡ []
any_takes (None, upper) bind e = refl
any_takes (Some what, upper) bind e = on_takes what upper bind e

above_takes : (flag : Bool) (upper : Option Upper) (bind : Bind) (e : Lower) → taken_in (if flag then passing_from upper bind else []) e ≡ []
above_takes false upper bind e = refl
above_takes true None bind e = refl
above_takes true (Some upper) bind e = any_takes (next_taken upper) bind e

pub passing_takes : (call : Call) (v : Relay) (e : Lower) → taken_in (passing_by call v) e ≡ []
passing_takes (comes side piece mark) v e = refl
passing_takes (bytes_end side) v e = refl
passing_takes (turns Below) v e = refl
passing_takes (turns Above) v e = above_takes (takes_above v.bind) v.upper v.bind e
passing_takes connects v e = refl
passing_takes fails v e = refl
passing_takes (gives side) v e = refl

-- ---- what is done behind the taking

answering_takes : (redirect : Option (List ℕ)) (body : List ℕ) (e : Lower) → taken_in (answering redirect body) e ≡ []
answering_takes None body e = refl
answering_takes (Some token) body e = refl

own_takes : (token : List ℕ) (reply : Own) (e : Lower) → taken_in (own_calls token reply) e ≡ []
own_takes token own.Unknown e = refl
own_takes token (own.Result body) e = refl
own_takes token own.Connect e = refl

closing_if_takes : (refusal : Option SendRefusal) (e : Lower) → taken_in (closing_if refusal) e ≡ []
closing_if_takes None e = refl
closing_if_takes (Some why) e = refl

refused_takes : (upper : Option Upper) (service name body : List ℕ) (e : Lower) → taken_in (refused_by upper service name body) e ≡ []
refused_takes None service name body e = refl
refused_takes (Some upper) service name body e = closing_if_takes (refusal_of (length service + length name + length body) upper) e

bound_takes : (reply : Option (List ℕ)) (token service name body : List ℕ) (v : Relay) (e : Lower) → taken_in (bound_below reply token service name body v) e ≡ []
bound_takes None token service name body v e = refused_takes v.upper service name body e
bound_takes (Some reply) token service name body v e = refl

asked_below_takes : (bind : Bind) (token service name body : List ℕ) (v : Relay) (e : Lower) → taken_in (asked_below_in bind token service name body v) e ≡ []
asked_below_takes Unbound token service name body v e = own_takes token (own_reply v.peer service name body) e
asked_below_takes Opening token service name body v e = refl
asked_below_takes Bound token service name body v e = bound_takes (stored_for service name body v) token service name body v e
asked_below_takes Closed token service name body v e = refl

read_below_takes : (m : Result MessageValue MessageFault) (v : Relay) (e : Lower) → taken_in (asked_below m v) e ≡ []
read_below_takes (Ok (command token service name body)) v e = asked_below_takes v.bind token service name body v e
read_below_takes m v e = refl

pub behind_takes : (what : Option (Taken Unit)) (v : Relay) (e : Lower) → taken_in (took_below_below what v) e ≡ []
behind_takes None v e = refl
behind_takes (Some (taken.Hello incoming)) v e = refl
behind_takes (Some (taken.Command incoming)) v e = read_below_takes (reading incoming.raw) v e
behind_takes (Some (taken.Event incoming)) v e = refl
behind_takes (Some (taken.Progress token incoming)) v e = refl
behind_takes (Some (taken.Final tag incoming)) v e = refl
behind_takes (Some (taken.Closed cause)) v e = refl

-- ---- the other calls

hello_takes : (bind : Bind) (v : Relay) (e : Lower) → taken_in (before_hello_below bind v) e ≡ []
hello_takes Unbound v e = refl
hello_takes Opening v e = answering_takes v.redirect redirect_done e
hello_takes Bound v e = refl
hello_takes Closed v e = refl

ended_takes : (bind : Bind) (v : Relay) (e : Lower) → taken_in (ended_below bind v) e ≡ []
ended_takes Unbound v e = refl
ended_takes Opening v e = answering_takes v.redirect redirect_failed e
ended_takes Bound v e = refl
ended_takes Closed v e = refl

above_asks : (flag : Bool) (what : Option (Taken ForwardedValue)) (v : Relay) (e : Lower) → taken_in (if flag then took_above_below what v else []) e ≡ []
above_asks false what v e = refl
above_asks true None v e = refl
above_asks true (Some (taken.Hello incoming)) v e = hello_takes v.bind v e
above_asks true (Some (taken.Command incoming)) v e = refl
above_asks true (Some (taken.Event incoming)) v e = refl
above_asks true (Some (taken.Progress token incoming)) v e = refl
above_asks true (Some (taken.Final tag incoming)) v e = refl
above_asks true (Some (taken.Closed cause)) v e = ended_takes v.bind v e

failed_asks : (flag : Bool) (redirect : Option (List ℕ)) (body : List ℕ) (e : Lower) → taken_in (if flag then answering redirect body else []) e ≡ []
failed_asks false redirect body e = refl
failed_asks true redirect body e = answering_takes redirect body e

pub others_ask : (call : Call) (v : Relay) (e : Lower) → (call ≡ turns Below → ⊥) → taken_in (own_by call v) e ≡ []
others_ask (comes Below piece mark) v e other = refl
others_ask (comes Above piece mark) v e other = refl
others_ask (bytes_end Below) v e other = refl
others_ask (bytes_end Above) v e other = refl
others_ask (turns Below) v e other = absurd (other refl)
others_ask (turns Above) v e other = above_asks (takes_above v.bind) (next_above v.upper) v e
others_ask connects v e other = refl
others_ask fails v e other = failed_asks (awaits v) v.redirect redirect_failed e
others_ask (gives Below) v e other = refl
others_ask (gives Above) v e other = refl
