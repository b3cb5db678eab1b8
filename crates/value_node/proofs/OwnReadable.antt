-- What a value-add says itself can be read.
use Rattle.std.proofs.Common.{◌≡◌, ℕ, ◌+◌, Bool, true, false, List, ◌∷◌, length, lit≤, leb-true, nat_le, Option, Some, None, Result, Ok, refl, subst}
use Rattle.std.specs.Prelude.{IfSome, if◌then◌else◌}
use Rattle.channel_core.specs.ReceivingLaws.{SaysReadable, SendsReadable}
use Rattle.channel_core.specs.Runs.{taking}
use Rattle.channel_core.specs.Sending.{refusal_of}
use Rattle.channel_core.specs.Taking.{next_taken}
use Rattle.channel_core.specs.declared.sending.SendRefusal.{SendRefusal}
use Rattle.channel_core.specs.declared.taking.Taken.{Taken}
use Rattle.channel_core.specs.declared.taking.Taken.TheVariants as taken
use Rattle.tcf_message.specs.Message.{IsToken, IsWellFormed, MessageValue, command, reading}
use Rattle.tcf_message.specs.declared.message.MessageFault.{MessageFault}
use Rattle.value_node.specs.ForwardedValue.{ForwardedValue}
use Rattle.value_node.specs.Own.{Fits, IsSendable, own_reply, redirect_done, redirect_failed}
use Rattle.value_node.specs.Passing.{Upper}
use Rattle.knowledge.specs.Reply.{answer_known}
use Rattle.reply_tables.specs.Written.{answer_data}
use Rattle.tcf_values.specs.declared.answer.Answer.{Answer}
use Rattle.tcf_values.specs.declared.command.Command.{Command}
use Rattle.value_store.specs.Learning.{data_of, most_data}
use Rattle.value_store.specs.Rows.{facts_in}
use Rattle.value_node.specs.Store.{StoreValue, answer_to}
use Rattle.value_node.specs.Runs.{Call, answering, asked_below, asked_below_in, before_hello_below, bound_below, bytes_end, closing_if, comes, connects, ended_below, fails, gives, next_above, own_by, own_calls, refused_by, stored_for, took_above_below, took_below_below, turns}
use Rattle.value_node.specs.Value.{awaits, command_of, is_free_to_answer, takes_above, takes_below}
use Rattle.value_node.specs.declared.own.Own.{Own}
use Rattle.value_node.specs.declared.own.Own.TheVariants as own
use Rattle.value_node.specs.declared.relay.Relay.{Relay}
use Rattle.value_node.specs.declared.states.Bind.{Bind}
use Rattle.value_node.specs.declared.states.Bind.TheVariants.{Unbound, Opening, Bound, Closed}
use Rattle.value_node.specs.declared.states.Side.TheVariants.{Below, Above}
use Rattle.tcf_message.proofs.TheLaws.{read_back}
use Rattle.value_node.proofs.Lists.{all_if}
use Rattle.value_node.proofs.Sendable.{done_fits, failed_fits, reply_sendable}

pub well_read : (raw : List ℕ) (m : MessageValue) → reading raw ≡ Ok m → IsWellFormed m
well_read raw m is = ((read_back.0 raw m).0 is).0

own_reads : (token : List ℕ) (reply : Own) → IsToken token → IsSendable reply → SendsReadable (own_calls token reply)
own_reads token own.Unknown is fits = ((is, lit≤ tt), tt)
own_reads token (own.Result body) is fits = ((is, fits), tt)
own_reads token own.Connect is fits = tt

answering_reads : (redirect : Option (List ℕ)) (body : List ℕ) → IfSome redirect IsToken → Fits body → SendsReadable (answering redirect body)
answering_reads None body is fits = tt
answering_reads (Some token) body is fits = ((is, fits), tt)

closing_reads : (refusal : Option SendRefusal) → SendsReadable {T = Unit} (closing_if refusal)
closing_reads None = tt
closing_reads (Some why) = (tt, tt)

refused_reads : (upper : Option Upper) (service name body : List ℕ) → SendsReadable (refused_by upper service name body)
refused_reads None service name body = (tt, tt)
refused_reads (Some e) service name body = closing_reads (refusal_of (length service + length name + length body) e)

-- what is answered from the store can be sent
fitting_fits : (flag : Bool) (body reply : List ℕ) → nat_le (length body) most_data ≡ flag → (if flag then Some body else None) ≡ Some reply → Fits reply
fitting_fits true body reply low is = let same : body ≡ reply = cc in subst Fits same (leb-true (length body) most_data low)
fitting_fits false body reply low is = absurd cc

known_fits : (asked : Command) (answer : Option Answer) (reply : List ℕ) → data_of asked answer ≡ Some reply → Fits reply
known_fits asked None reply is = absurd cc
known_fits asked (Some answer) reply is = fitting_fits (nat_le (length (answer_data asked answer)) most_data) (answer_data asked answer) reply refl is

answer_fits : (asked : Option Command) (store : StoreValue) (reply : List ℕ) → answer_to asked store ≡ Some reply → Fits reply
answer_fits None store reply is = absurd cc
answer_fits (Some asked) store reply is = known_fits asked (answer_known asked (facts_in store.known) store.blocks) reply is

stored_if : (free : Bool) (asked : Option Command) (store : StoreValue) (reply : List ℕ) → (if free then answer_to asked store else None) ≡ Some reply → Fits reply
stored_if true asked store reply is = answer_fits asked store reply is
stored_if false asked store reply is = absurd cc

bound_reads : (reply : Option (List ℕ)) (token service name body : List ℕ) (v : Relay) → stored_for service name body v ≡ reply → IsToken token
    → SendsReadable (bound_below reply token service name body v)
bound_reads None token service name body v is formed = refused_reads v.upper service name body
bound_reads (Some reply) token service name body v is formed = ((formed, stored_if (is_free_to_answer v.upper) (command_of service name body) v.store reply is), tt)

asked_in_reads : (bind : Bind) (token service name body : List ℕ) (v : Relay) → IsToken token → SendsReadable (asked_below_in bind token service name body v)
asked_in_reads Unbound token service name body v is = own_reads token (own_reply v.peer service name body) is (reply_sendable v.peer service name body)
asked_in_reads Opening token service name body v is = tt
asked_in_reads Bound token service name body v is = bound_reads (stored_for service name body v) token service name body v refl is
asked_in_reads Closed token service name body v is = tt

asked_reads : (raw : List ℕ) (m : Result MessageValue MessageFault) (v : Relay) → reading raw ≡ m → SendsReadable (asked_below m v)
asked_reads raw (Ok (command token service name body)) v is = asked_in_reads v.bind token service name body v (well_read raw (command token service name body) is).0.0
asked_reads raw m v is = tt

below_reads : (what : Option (Taken Unit)) (v : Relay) → SendsReadable (took_below_below what v)
below_reads (Some (taken.Command incoming)) v = asked_reads incoming.raw (reading incoming.raw) v refl
below_reads (Some (taken.Closed cause)) v = (tt, tt)
below_reads what v = tt

hello_reads : (bind : Bind) (v : Relay) → IfSome v.redirect IsToken → SendsReadable (before_hello_below bind v)
hello_reads Opening v is = answering_reads v.redirect redirect_done is done_fits
hello_reads bind v is = tt

ended_reads : (bind : Bind) (v : Relay) → IfSome v.redirect IsToken → SendsReadable (ended_below bind v)
ended_reads Opening v is = answering_reads v.redirect redirect_failed is failed_fits
ended_reads bind v is = tt

above_reads : (what : Option (Taken ForwardedValue)) (v : Relay) → IfSome v.redirect IsToken → SendsReadable (took_above_below what v)
above_reads (Some (taken.Hello incoming)) v is = hello_reads v.bind v is
above_reads (Some (taken.Closed cause)) v is = ended_reads v.bind v is
above_reads what v is = tt

pub own_by_reads : (call : Call) (v : Relay) → IfSome v.redirect IsToken → SendsReadable (own_by call v)
own_by_reads (comes Below piece mark) v is = (tt, tt)
own_by_reads (comes Above piece mark) v is = tt
own_by_reads (bytes_end Below) v is = (tt, tt)
own_by_reads (bytes_end Above) v is = tt
own_by_reads (turns Below) v is =
    all_if SaysReadable (takes_below v.bind v.upper) (taking ∷ took_below_below (next_taken v.lower).0 v) (tt, below_reads (next_taken v.lower).0 v)
own_by_reads (turns Above) v is =
    all_if SaysReadable (takes_above v.bind) (took_above_below (next_above v.upper) v) (above_reads (next_above v.upper) v is)
own_by_reads connects v is = tt
own_by_reads fails v is = all_if SaysReadable (awaits v) (answering v.redirect redirect_failed) (answering_reads v.redirect redirect_failed is failed_fits)
own_by_reads (gives Below) v is = (tt, tt)
own_by_reads (gives Above) v is = tt
