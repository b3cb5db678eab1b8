-- What a call takes of the upper end: an entry, with a turn from above, and else nothing.
use Rattle.std.proofs.Common.{◌≡◌, ℕ, ◌+◌, Bool, true, false, List, [], ◌∷◌, ◌++◌, length, Option, Some, None, Result, Ok, refl, ap, ◌∙◌}
use Rattle.std.specs.Prelude.{if◌then◌else◌, option_map, unwrap_or}
use Rattle.std.proofs.lemmas.List.{append-nil}
use Rattle.channel_core.specs.Laws.{listed}
use Rattle.channel_core.specs.Runs.{taking}
use Rattle.channel_core.specs.Sending.{refusal_of}
use Rattle.channel_core.specs.Taking.{next_taken}
use Rattle.channel_core.specs.declared.sending.SendRefusal.{SendRefusal}
use Rattle.channel_core.specs.declared.taking.Taken.{Taken}
use Rattle.channel_core.specs.declared.taking.Taken.TheVariants as taken
use Rattle.tcf_message.specs.Message.{MessageValue, command, reading}
use Rattle.tcf_message.specs.declared.message.MessageFault.{MessageFault}
use Rattle.value_node.specs.ForwardedValue.{ForwardedValue}
use Rattle.value_node.specs.Passing.{Upper}
use Rattle.value_node.specs.Runs.{Call, Past, UpperCall, above, asked_above, asked_above_in, bound_above, bytes_end, closing_if, closing_in, comes, connects, fails, gives, next_above, refusing, stored_for, took_above_above, took_below_above, turns, upper_after, upper_by, upper_from, upper_on, with_calls}
use Rattle.value_node.specs.Value.{takes_above, takes_below}
use Rattle.value_node.specs.declared.relay.Relay.{Relay}
use Rattle.value_node.specs.declared.states.Bind.{Bind}
use Rattle.value_node.specs.declared.states.Bind.TheVariants.{Unbound, Opening, Bound, Closed}
use Rattle.value_node.specs.declared.states.Side.TheVariants.{Below, Above}
use Rattle.value_node.proofs.Holding.{above_more}
use Rattle.value_node.proofs.Pasts.{taken_in, taken_more}

abbrev pub entries_from : Call → Relay → Option Upper → List (Taken ForwardedValue)
entries_from (turns Above) v upper = if takes_above v.bind then listed (next_above upper) else []
entries_from call v upper = []

if_none : {A : Type 0} → (flag : Bool) (xs : List A) → xs ≡ [] → xs ≡ (if flag then xs else [])
if_none true xs none = refl
if_none false xs none = none

none_entries : (call : Call) (v : Relay) → [] ≡ entries_from call v None
none_entries (turns Above) v = if_none (takes_above v.bind) [] refl
none_entries call v = refl

closing_if_takes : (refusal : Option SendRefusal) (e : Upper) → taken_in (closing_if refusal) e ≡ []
closing_if_takes None e = refl
closing_if_takes (Some why) e = refl

bound_takes : (reply : Option (List ℕ)) (token service name body : List ℕ) (mark : Option ℕ) (of e : Upper) → taken_in (bound_above reply token service name body mark of) e ≡ []
bound_takes None token service name body mark of e = closing_if_takes (refusal_of (length service + length name + length body) of) _
bound_takes (Some reply) token service name body mark of e = refl

asked_in_takes : (bind : Bind) (token service name body : List ℕ) (mark : Option ℕ) (v : Relay) (of e : Upper) → taken_in (asked_above_in bind token service name body mark v of) e ≡ []
asked_in_takes Bound token service name body mark v of e = bound_takes (stored_for service name body v) token service name body mark of e
asked_in_takes bind token service name body mark v of e = refl

asked_takes : (m : Result MessageValue MessageFault) (mark : Option ℕ) (v : Relay) (of e : Upper) → taken_in (asked_above m mark v of) e ≡ []
asked_takes (Ok (command token service name body)) mark v of e = asked_in_takes v.bind token service name body mark v of e
asked_takes m mark v of e = refl

below_takes : (what : Option (Taken Unit)) (v : Relay) (of e : Upper) → taken_in (took_below_above what v of) e ≡ []
below_takes (Some (taken.Command incoming)) v of e = asked_takes (reading incoming.raw) incoming.mark v of e
below_takes (Some (taken.Closed cause)) v of e = refl
below_takes what v of e = refl

refusing_takes : (m : Result MessageValue MessageFault) (e : Upper) → taken_in (refusing m) e ≡ []
refusing_takes (Ok (command token service name body)) e = refl
refusing_takes m e = refl

closing_takes : (bind : Bind) (e : Upper) → taken_in (closing_in bind) e ≡ []
closing_takes Unbound e = refl
closing_takes Opening e = refl
closing_takes Bound e = refl
closing_takes Closed e = refl

above_takes : (what : Option (Taken ForwardedValue)) (bind : Bind) (e : Upper) → taken_in (took_above_above what bind) e ≡ []
above_takes (Some (taken.Command incoming)) bind e = refusing_takes (reading incoming.raw) e
above_takes (Some (taken.Closed cause)) bind e = closing_takes bind e
above_takes what bind e = refl

below_if : (flag : Bool) (calls : List UpperCall) (e : Upper) → taken_in calls e ≡ [] → taken_in (if flag then calls else []) e ≡ []
below_if true calls e none = none
below_if false calls e none = refl

pub others_take : (call : Call) (v : Relay) (upper : Option Upper) (end : Upper) → (call ≡ turns Above → ⊥) → taken_in (upper_from call v upper) end ≡ []
others_take call v None end other = refl
others_take (comes Below piece mark) v (Some e) end other = refl
others_take (comes Above piece mark) v (Some e) end other = refl
others_take (bytes_end Below) v (Some e) end other = refl
others_take (bytes_end Above) v (Some e) end other = refl
others_take (turns Below) v (Some e) end other = below_if (takes_below v.bind v.upper) (took_below_above (next_taken v.lower).0 v e) end (below_takes (next_taken v.lower).0 v e end)
others_take (turns Above) v (Some e) end other = absurd (other refl)
others_take connects v (Some e) end other = refl
others_take fails v (Some e) end other = refl
others_take (gives Below) v (Some e) end other = refl
others_take (gives Above) v (Some e) end other = refl

above_if : (flag : Bool) (bind : Bind) (e : Upper)
    → taken_in (if flag then taking ∷ took_above_above (next_taken e).0 bind else []) e ≡ (if flag then listed (next_taken e).0 else [])
above_if true bind e = ap (λ ts. listed (next_taken e).0 ++ ts) (above_takes (next_taken e).0 bind (next_taken e).1) ∙ append-nil (listed (next_taken e).0)
above_if false bind e = refl

on_entries : (call : Call) (v : Relay) (e : Upper) → taken_in (upper_on call v e) e ≡ entries_from call v (Some e)
on_entries (comes Below piece mark) v e = refl
on_entries (comes Above piece mark) v e = refl
on_entries (bytes_end Below) v e = refl
on_entries (bytes_end Above) v e = refl
on_entries (turns Below) v e = below_if (takes_below v.bind v.upper) (took_below_above (next_taken v.lower).0 v e) e (below_takes (next_taken v.lower).0 v e e)
on_entries (turns Above) v e = above_if (takes_above v.bind) v.bind e
on_entries connects v e = refl
on_entries fails v e = refl
on_entries (gives Below) v e = refl
on_entries (gives Above) v e = refl

from_entries : (call : Call) (v : Relay) (upper : Option Upper) (connection : Option (List UpperCall)) → upper ≡ option_map (λ calls. (upper_after calls).end) connection
    → taken_in (upper_from call v upper) (upper_after (unwrap_or connection [])).end ≡ entries_from call v upper
from_entries call v None connection same = none_entries call v
from_entries call v (Some e) None same = absurd cc
from_entries call v (Some e) (Some calls) same =
    let there : (upper_after calls).end ≡ e = cc in ap (taken_in (upper_on call v e)) there ∙ on_entries call v e

pub above_taken : (call : Call) (v after : Relay) (p : Past) → v.upper ≡ option_map (λ calls. (upper_after calls).end) p.connection
    → (above (with_calls call v after p)).past.taken ≡ (above p).past.taken ++ entries_from call v v.upper
above_taken call v after p upper =
    ap (λ r. r.past.taken) (above_more call v after p upper) ∙ taken_more (upper_by call v) (above p)
    ∙ ap (λ ts. (above p).past.taken ++ ts) (from_entries call v v.upper p.connection upper)
