-- A value-add over any calls, and the calls that these are of its ends.
use Rattle.std.specs.Prelude.{ℕ, ◌+◌, Bool, true, false, not, ◌||◌, if◌then◌else◌, List, [], ◌∷◌, ◌++◌, length, option_to_list, unwrap_or, Option, Some, None, option_map, Result, Ok}
use Rattle.channel_core.specs.Beginning.{new_end}
use Rattle.channel_core.specs.Runs.{Call as EndCall, Run, after_calls, an_answer, an_event, an_unknown, begun, closing, commanding, delivering, ending, putting_out, sending, some_progress, taking}
use Rattle.channel_core.specs.Sending.{refusal_of}
use Rattle.channel_core.specs.Taking.{next_taken}
use Rattle.channel_core.specs.declared.sending.SendRefusal.{SendRefusal}
use Rattle.channel_core.specs.declared.taking.Taken.{Taken}
use Rattle.channel_core.specs.declared.taking.Taken.TheVariants as taken
use Rattle.tcf_message.specs.Message.{MessageValue, command, event, final, not_known, progress, reading}
use Rattle.tcf_message.specs.declared.message.MessageFault.{MessageFault}
use Rattle.value_node.specs.ForwardedValue.{ForwardedValue, tagged}
use Rattle.value_node.specs.Own.{own_reply, redirect_done, redirect_failed}
use Rattle.value_node.specs.Passing.{Upper}
use Rattle.value_node.specs.Store.{answer_to}
use Rattle.value_node.specs.Value.{after_giving, awaits, came, command_of, connect_failed, connected, ended, is_free_to_answer, new_value, pending_above, takes_above, takes_below, turned, value_services}
use Rattle.value_node.specs.ValueValue.{ValueValue}
use Rattle.value_node.specs.declared.own.Own.{Own}
use Rattle.value_node.specs.declared.own.Own.TheVariants as own
use Rattle.value_node.specs.declared.relay.Relay.{Relay}
use Rattle.value_node.specs.declared.states.Bind.{Bind}
use Rattle.value_node.specs.declared.states.Bind.TheVariants.{Unbound, Opening, Bound, Closed}
use Rattle.value_node.specs.declared.states.Side.{Side}
use Rattle.value_node.specs.declared.states.Side.TheVariants.{Below, Above}

abbrev pub LowerCall : Type 0
LowerCall = EndCall Unit

abbrev pub UpperCall : Type 0
UpperCall = EndCall ForwardedValue

-- ---- the calls that change a value-add

pub data Call : Type 0 where
  comes : (side : Side) (piece : List ℕ) (mark : Option ℕ) → Call
  bytes_end : (side : Side) → Call
  turns : (side : Side) → Call
  connects : Call  -- a connection to the peer was made
  fails : Call  -- none was
  gives : (side : Side) → Call

abbrev pub called : Call → ValueValue → ValueValue
called (comes side piece mark) value = came side piece mark value
called (bytes_end side) value = ended side value
called (turns side) value = (turned side value).1
called connects value = connected value
called fails value = connect_failed value
called (gives side) value = after_giving side value

abbrev pub run : List Call → ValueValue → ValueValue
run [] value = value
run (call ∷ calls) value = run calls (called call value)

-- ---- the calls of its lower end that one call is: those by which it does its own, and behind them those by which it passes on

-- the redirect that is being done is answered
abbrev pub answering : Option (List ℕ) → List ℕ → List LowerCall
answering None body = []
answering (Some token) body = sending (an_answer token body) None ∷ []

-- what it does itself with a command
abbrev pub own_calls : List ℕ → Own → List LowerCall
own_calls token own.Unknown = sending (an_unknown token) None ∷ []
own_calls token (own.Result body) = sending (an_answer token body) None ∷ []
own_calls token own.Connect = []

-- a command that is refused above closes both sides
abbrev pub closing_if : {T : Type 0} → Option SendRefusal → List (EndCall T)
closing_if None = []
closing_if (Some why) = closing ∷ []

abbrev pub refused_by : Option Upper → List ℕ → List ℕ → List ℕ → List LowerCall
refused_by None service name body = closing ∷ []
refused_by (Some e) service name body = closing_if (refusal_of (length service + length name + length body) e)

-- a bound one answers a command from its store, or sends it above
abbrev pub stored_for : List ℕ → List ℕ → List ℕ → Relay → Option (List ℕ)
stored_for service name body v = if is_free_to_answer v.upper then answer_to (command_of service name body) v.store else None

abbrev pub bound_below : Option (List ℕ) → List ℕ → List ℕ → List ℕ → List ℕ → Relay → List LowerCall
bound_below None token service name body v = refused_by v.upper service name body
bound_below (Some reply) token service name body v = sending (an_answer token reply) v.store.mark ∷ []

abbrev pub asked_below_in : Bind → List ℕ → List ℕ → List ℕ → List ℕ → Relay → List LowerCall
asked_below_in Unbound token service name body v = own_calls token (own_reply v.peer service name body)
asked_below_in Opening token service name body v = []
asked_below_in Bound token service name body v = bound_below (stored_for service name body v) token service name body v
asked_below_in Closed token service name body v = []

abbrev pub asked_below : Result MessageValue MessageFault → Relay → List LowerCall
asked_below (Ok (command token service name body)) v = asked_below_in v.bind token service name body v
asked_below _ v = []

abbrev pub took_below_below : Option (Taken Unit) → Relay → List LowerCall
took_below_below (Some (taken.Command incoming)) v = asked_below (reading incoming.raw) v
took_below_below (Some (taken.Closed cause)) v = closing ∷ []
took_below_below _ v = []

abbrev pub before_hello_below : Bind → Relay → List LowerCall
before_hello_below Opening v = answering v.redirect redirect_done
before_hello_below _ v = []

abbrev pub ended_below : Bind → Relay → List LowerCall
ended_below Opening v = answering v.redirect redirect_failed
ended_below _ v = []

abbrev pub took_above_below : Option (Taken ForwardedValue) → Relay → List LowerCall
took_above_below (Some (taken.Hello incoming)) v = before_hello_below v.bind v
took_above_below (Some (taken.Closed cause)) v = ended_below v.bind v
took_above_below _ v = []

-- what the upper end takes next
abbrev pub next_above : Option Upper → Option (Taken ForwardedValue)
next_above None = None
next_above (Some e) = (next_taken e).0

abbrev pub own_by : Call → Relay → List LowerCall
own_by (comes Below piece mark) v = delivering piece mark ∷ []
own_by (comes Above piece mark) v = []
own_by (bytes_end Below) v = ending ∷ []
own_by (bytes_end Above) v = []
own_by (turns Below) v = if takes_below v.bind v.upper then taking ∷ took_below_below (next_taken v.lower).0 v else []
own_by (turns Above) v = if takes_above v.bind then took_above_below (next_above v.upper) v else []
own_by connects v = []
own_by fails v = if awaits v then answering v.redirect redirect_failed else []
own_by (gives Below) v = putting_out ∷ []
own_by (gives Above) v = []

abbrev pub event_calls : Option ℕ → Result MessageValue MessageFault → List LowerCall
event_calls mark (Ok (event service name body)) = sending (an_event service name body) mark ∷ []
event_calls mark _ = []

abbrev pub progress_calls : Option ForwardedValue → Option ℕ → Result MessageValue MessageFault → List LowerCall
progress_calls (Some forwarded) mark (Ok (progress token body)) = sending (some_progress forwarded.token body) mark ∷ []
progress_calls _ mark _ = []

abbrev pub final_calls : ForwardedValue → Option ℕ → Result MessageValue MessageFault → List LowerCall
final_calls forwarded mark (Ok (final token body)) = sending (an_answer forwarded.token body) mark ∷ []
final_calls forwarded mark (Ok (not_known token)) = sending (an_unknown forwarded.token) mark ∷ []
final_calls forwarded mark _ = []

-- the end from above closes the lower side of a bound value-add
abbrev pub closing_in : {T : Type 0} → Bind → List (EndCall T)
closing_in Unbound = []
closing_in Opening = []
closing_in Bound = closing ∷ []
closing_in Closed = []

abbrev pub passing_on : Taken ForwardedValue → Upper → Bind → List LowerCall
passing_on (taken.Hello incoming) e bind = event_calls incoming.mark (reading incoming.raw)
passing_on (taken.Command incoming) e bind = []
passing_on (taken.Event incoming) e bind = event_calls incoming.mark (reading incoming.raw)
passing_on (taken.Progress token incoming) e bind = progress_calls (pending_above token (Some e)) incoming.mark (reading incoming.raw)
passing_on (taken.Final forwarded incoming) e bind = final_calls forwarded incoming.mark (reading incoming.raw)
passing_on (taken.Closed cause) e bind = closing_in bind

-- with the upper end as it is when that is taken
abbrev pub passing_any : Option (Taken ForwardedValue) × Upper → Bind → List LowerCall
passing_any (None, e) bind = []
passing_any (Some what, e) bind = passing_on what e bind

abbrev pub passing_from : Option Upper → Bind → List LowerCall
passing_from None bind = []
passing_from (Some e) bind = passing_any (next_taken e) bind

abbrev pub passing_by : Call → Relay → List LowerCall
passing_by (turns Above) v = if takes_above v.bind then passing_from v.upper v.bind else []
passing_by _ v = []

-- ---- the calls of its upper end that one call is

abbrev pub bound_above : Option (List ℕ) → List ℕ → List ℕ → List ℕ → List ℕ → Option ℕ → Upper → List UpperCall
bound_above None token service name body mark e =
    commanding service name body (tagged token (command_of service name body)) mark ∷ closing_if (refusal_of (length service + length name + length body) e)
bound_above (Some reply) token service name body mark e = []

abbrev pub asked_above_in : Bind → List ℕ → List ℕ → List ℕ → List ℕ → Option ℕ → Relay → Upper → List UpperCall
asked_above_in Unbound token service name body mark v e = []
asked_above_in Opening token service name body mark v e = []
asked_above_in Bound token service name body mark v e = bound_above (stored_for service name body v) token service name body mark e
asked_above_in Closed token service name body mark v e = []

abbrev pub asked_above : Result MessageValue MessageFault → Option ℕ → Relay → Upper → List UpperCall
asked_above (Ok (command token service name body)) mark v e = asked_above_in v.bind token service name body mark v e
asked_above _ mark v e = []

abbrev pub took_below_above : Option (Taken Unit) → Relay → Upper → List UpperCall
took_below_above (Some (taken.Command incoming)) v e = asked_above (reading incoming.raw) incoming.mark v e
took_below_above (Some (taken.Closed cause)) v e = closing ∷ []
took_below_above _ v e = []

abbrev pub refusing : Result MessageValue MessageFault → List UpperCall
refusing (Ok (command token service name body)) = sending (an_unknown token) None ∷ []
refusing _ = []

abbrev pub took_above_above : Option (Taken ForwardedValue) → Bind → List UpperCall
took_above_above (Some (taken.Command incoming)) bind = refusing (reading incoming.raw)
took_above_above (Some (taken.Closed cause)) bind = closing_in bind
took_above_above _ bind = []

abbrev pub upper_on : Call → Relay → Upper → List UpperCall
upper_on (comes Below piece mark) v e = []
upper_on (comes Above piece mark) v e = delivering piece mark ∷ []
upper_on (bytes_end Below) v e = []
upper_on (bytes_end Above) v e = ending ∷ []
upper_on (turns Below) v e = if takes_below v.bind v.upper then took_below_above (next_taken v.lower).0 v e else []
upper_on (turns Above) v e = if takes_above v.bind then taking ∷ took_above_above (next_taken e).0 v.bind else []
upper_on connects v e = []
upper_on fails v e = []
upper_on (gives Below) v e = []
upper_on (gives Above) v e = putting_out ∷ []

abbrev pub upper_from : Call → Relay → Option Upper → List UpperCall
upper_from call v None = []
upper_from call v (Some e) = upper_on call v e

abbrev pub upper_by : Call → Relay → List UpperCall
upper_by call v = upper_from call v v.upper

-- ---- the past of a value-add

pub record Past : Type 0 where
  pub is_bound : Bool  -- the Hello from above that bound it was taken
  pub until_bound : List LowerCall  -- the calls of its lower end until that Hello went below
  pub since_bound : List LowerCall  -- and those since
  pub connection : Option (List UpperCall)  -- the calls of its upper end since the last connection; none before the first
  pub earlier : List (List UpperCall)  -- those of the upper ends before that one, in order

abbrev pub no_past : Past
no_past = record { is_bound = false; until_bound = []; since_bound = []; connection = None; earlier = [] }

abbrev pub is_binding : Bind → Bool
is_binding Unbound = false
is_binding Opening = false
is_binding Bound = true
is_binding Closed = false

abbrev pub only_if : {A : Type 0} → Bool → List A → List A
only_if true xs = xs
only_if false xs = []

-- a connection begins with no call; what was called of the upper end before it is kept
abbrev pub reconnected : Past → Past
reconnected p = record p { connection = Some []; earlier = p.earlier ++ option_to_list p.connection }

abbrev pub with_calls : Call → Relay → Relay → Past → Past
with_calls call before after p = record p {
  is_bound = p.is_bound || is_binding after.bind;
  until_bound = p.until_bound ++ only_if (not p.is_bound) (own_by call before);
  since_bound = p.since_bound ++ (only_if p.is_bound (own_by call before) ++ passing_by call before);
  connection = option_map (λ calls. calls ++ upper_by call before) p.connection;
}

-- what a call of the value-add, which leaves it so, adds to its past
abbrev pub remembered : Call → Relay → Relay → Past → Past
remembered connects before after p = if awaits before then reconnected p else p
remembered call before after p = with_calls call before after p

pub record ValueRun : Type 0 where
  pub value : ValueValue
  pub past : Past

abbrev pub no_calls : List ℕ → ValueRun
no_calls peer = record { value = new_value peer; past = no_past }

abbrev pub after_call : Call → ValueRun → ValueRun
after_call call r = let next = called call r.value in record { value = next; past = remembered call r.value.relay next.relay r.past }

abbrev pub after_all : List Call → ValueRun → ValueRun
after_all [] r = r
after_all (call ∷ calls) r = after_all calls (after_call call r)

-- ---- what its ends were given, took and queued

abbrev pub lower_after : List LowerCall → Run Unit
lower_after calls = after_calls calls (begun (new_end value_services None))

abbrev pub upper_after : List UpperCall → Run ForwardedValue
upper_after calls = after_calls calls (begun (new_end value_services None))

-- the lower end since the value-add was made, until it was bound, and since
abbrev pub below : Past → Run Unit
below p = lower_after (p.until_bound ++ p.since_bound)

abbrev pub below_until_bound : Past → Run Unit
below_until_bound p = lower_after p.until_bound

abbrev pub below_since_bound : Past → Run Unit
below_since_bound p = after_calls p.since_bound (begun (below_until_bound p).end)

-- the upper end since its last connection; before the first, one of which nothing was called
abbrev pub above : Past → Run ForwardedValue
above p = upper_after (unwrap_or p.connection [])
