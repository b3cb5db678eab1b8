-- The token of the redirect that is being done is one.
use Rattle.std.proofs.Common.{◌≡◌, ℕ, ◌+◌, Bool, true, false, List, length, Option, Some, None, Result, Ok, refl, sym, subst}
use Rattle.std.specs.Prelude.{IfSome, if◌then◌else◌}
use Rattle.channel_core.specs.Sending.{refusal_of}
use Rattle.channel_core.specs.Taking.{next_taken}
use Rattle.channel_core.specs.declared.sending.SendRefusal.{SendRefusal}
use Rattle.channel_core.specs.declared.taking.Taken.{Taken}
use Rattle.channel_core.specs.declared.taking.Taken.TheVariants as taken
use Rattle.tcf_message.specs.Message.{IsToken, MessageValue, command, reading}
use Rattle.tcf_message.specs.declared.message.MessageFault.{MessageFault}
use Rattle.value_node.specs.ForwardedValue.{ForwardedValue, tagged}
use Rattle.value_node.specs.Own.{own_reply, redirect_done, redirect_failed}
use Rattle.value_node.specs.Passing.{Upper}
use Rattle.value_node.specs.Runs.{Call, stored_for, bytes_end, comes, connects, fails, gives, turns}
use Rattle.value_node.specs.Value.{answered, asked, asked_in, awaits, before_hello, connected_to, ended_in, answered_or_forwarded, command_of, redirect_answered, sent_above, sent_unless, takes_above, takes_below, took_above, took_any_above, took_any_below, took_below, turned_above, turned_below, turned_on, unbound_again, with_lower, with_store, with_upper}
use Rattle.value_node.specs.declared.own.Own.{Own}
use Rattle.value_node.specs.declared.own.Own.TheVariants as own
use Rattle.value_node.specs.declared.relay.Relay.{Relay}
use Rattle.value_node.specs.declared.states.Bind.{Bind}
use Rattle.value_node.specs.declared.states.Bind.TheVariants.{Unbound, Opening, Bound, Closed}
use Rattle.value_node.specs.declared.states.Side.TheVariants.{Below, Above}
use Rattle.value_node.specs.declared.states.ValueTurn.TheVariants.{Nothing as NoTurn}
use Rattle.value_node.proofs.Asking.{asked_bound_is, store_asked}
use Rattle.value_node.proofs.Steps.{relay_called}
use Rattle.value_node.proofs.OwnReadable.{well_read}

abbrev HasToken : Relay → Type 0
HasToken v = IfSome v.redirect IsToken

answered_token : (redirect : Option (List ℕ)) (body : List ℕ) (v : Relay) → HasToken v → HasToken (redirect_answered redirect body v)
answered_token None body v is = is
answered_token (Some token) body v is = tt

hello_token : (bind : Bind) (v : Relay) → HasToken v → HasToken (before_hello bind v)
hello_token Opening v is = answered_token v.redirect redirect_done v is
hello_token Unbound v is = is
hello_token Bound v is = is
hello_token Closed v is = is

ended_token : (bind : Bind) (v : Relay) → HasToken v → HasToken (ended_in bind v)
ended_token Opening v is = answered_token v.redirect redirect_failed v is
ended_token Unbound v is = is
ended_token Bound v is = is
ended_token Closed v is = is

above_token : (what : Taken ForwardedValue) (v : Relay) → HasToken v → HasToken (took_above what v)
above_token (taken.Hello incoming) v is = hello_token v.bind v is
above_token (taken.Command incoming) v is = is
above_token (taken.Event incoming) v is = is
above_token (taken.Progress token incoming) v is = is
above_token (taken.Final forwarded incoming) v is = is
above_token (taken.Closed cause) v is = ended_token v.bind v is

any_above_token : (what : Option (Taken ForwardedValue)) (v : Relay) → HasToken v → HasToken (took_any_above what v).1
any_above_token None v is = is
any_above_token (Some what) v is = above_token what v is

on_token : (upper : Option Upper) (v : Relay) → HasToken v → HasToken (turned_on upper v).1
on_token None v is = is
on_token (Some e) v is = any_above_token (next_taken e).0 (with_upper (next_taken e).1 v) is

turned_above_token : (flag : Bool) (v : Relay) → HasToken v → HasToken (if flag then turned_on v.upper v else (NoTurn, v)).1
turned_above_token true v is = on_token v.upper v is
turned_above_token false v is = is

own_token : (token : List ℕ) (reply : Own) (v : Relay) → IsToken token → HasToken v → HasToken (answered token reply v).1
own_token token own.Unknown v new is = is
own_token token (own.Result body) v new is = is
own_token token own.Connect v new is = new

unless_token : (refusal : Option SendRefusal) (service name body : List ℕ) (forwarded : ForwardedValue) (mark : Option ℕ) (e : Upper) (v : Relay) → HasToken v
    → HasToken (sent_unless refusal service name body forwarded mark e v)
unless_token None service name body forwarded mark e v is = is
unless_token (Some why) service name body forwarded mark e v is = is

forwarded_token : (upper : Option Upper) (service name body : List ℕ) (forwarded : ForwardedValue) (mark : Option ℕ) (v : Relay) → HasToken v
    → HasToken (sent_above upper service name body forwarded mark v)
forwarded_token None service name body forwarded mark v is = is
forwarded_token (Some e) service name body forwarded mark v is = unless_token (refusal_of (length service + length name + length body) e) service name body forwarded mark e v is

answered_or_token : (reply : Option (List ℕ)) (token service name body : List ℕ) (mark : Option ℕ) (v : Relay) → HasToken v
    → HasToken (answered_or_forwarded reply (command_of service name body) token service name body mark v)
answered_or_token None token service name body mark v is = forwarded_token v.upper service name body (tagged token (command_of service name body)) mark v is
answered_or_token (Some reply) token service name body mark v is = is

asked_in_token : (bind : Bind) (token service name body : List ℕ) (mark : Option ℕ) (v : Relay) → IsToken token → HasToken v → HasToken (asked_in bind token service name body mark v).1
asked_in_token Unbound token service name body mark v new is = own_token token (own_reply v.peer service name body) v new is
asked_in_token Opening token service name body mark v new is = is
asked_in_token Bound token service name body mark v new is =
    subst HasToken (sym (asked_bound_is token service name body mark v))
    (answered_or_token (stored_for service name body v) token service name body mark (with_store (store_asked service name body v) v) is)
asked_in_token Closed token service name body mark v new is = is

asked_token : (raw : List ℕ) (m : Result MessageValue MessageFault) (mark : Option ℕ) (v : Relay) → reading raw ≡ m → HasToken v → HasToken (asked m mark v).1
asked_token raw (Ok (command token service name body)) mark v read is =
    asked_in_token v.bind token service name body mark v (well_read raw (command token service name body) read).0.0 is
asked_token raw m mark v read is = is

below_token : (what : Taken Unit) (v : Relay) → HasToken v → HasToken (took_below what v).1
below_token (taken.Hello incoming) v is = is
below_token (taken.Command incoming) v is = asked_token incoming.raw (reading incoming.raw) incoming.mark v refl is
below_token (taken.Event incoming) v is = is
below_token (taken.Progress token incoming) v is = is
below_token (taken.Final tag incoming) v is = is
below_token (taken.Closed cause) v is = is

any_below_token : (what : Option (Taken Unit)) (v : Relay) → HasToken v → HasToken (took_any_below what v).1
any_below_token None v is = is
any_below_token (Some what) v is = below_token what v is

turned_below_token : (flag : Bool) (v : Relay) → HasToken v → HasToken (if flag then took_any_below (next_taken v.lower).0 (with_lower (next_taken v.lower).1 v) else (NoTurn, v)).1
turned_below_token true v is = any_below_token (next_taken v.lower).0 (with_lower (next_taken v.lower).1 v) is
turned_below_token false v is = is

connected_token : (flag : Bool) (v : Relay) → HasToken v → HasToken (if flag then connected_to v else v)
connected_token true v is = is
connected_token false v is = is

failed_token : (flag : Bool) (v : Relay) → HasToken v → HasToken (if flag then unbound_again v else v)
failed_token true v is = answered_token v.redirect redirect_failed v is
failed_token false v is = is

pub redirect_called : (call : Call) (v : Relay) → HasToken v → HasToken (relay_called call v)
unfolding turned_below turned_above
redirect_called (comes Below piece mark) v is = is
redirect_called (comes Above piece mark) v is = is
redirect_called (bytes_end Below) v is = is
redirect_called (bytes_end Above) v is = is
redirect_called (turns Below) v is = turned_below_token (takes_below v.bind v.upper) v is
redirect_called (turns Above) v is = turned_above_token (takes_above v.bind) v is
redirect_called connects v is = connected_token (awaits v) v is
redirect_called fails v is = failed_token (awaits v) v is
redirect_called (gives Below) v is = is
redirect_called (gives Above) v is = is
