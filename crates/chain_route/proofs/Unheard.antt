-- An end that took no Hello gave no command, so a value-add to whose lower end its bytes came has not connected.
use Rattle.std.proofs.Common.{◌≡◌, ℕ, Bool, true, false, cond, List, [], ◌∷◌, ◌++◌, map, filter, Option, Some, None, refl, sym, ap, ◌∙◌, subst, arith, append_assoc, append-nil}
use Rattle.std.specs.Prelude.{IfSome, Ok, unwrap_or}
use Rattle.std.specs.List.{AllByRecursion, flat_map, list_any}
use Rattle.channel_core.specs.Arrivals.{AreSpoken, Spoken, arrived, bytes_of, enters, marked, messages_in, queue_of}
use Rattle.channel_core.specs.Beginning.{new_end}
use Rattle.channel_core.specs.Farewell.{leaving_behind}
use Rattle.channel_core.specs.Greeting.{is_greeting}
use Rattle.channel_core.specs.Laws.{listed}
use Rattle.channel_core.specs.ReceivingLaws.{SendsReadable, incoming_of, received}
use Rattle.channel_core.specs.RunLaws.{is_command}
use Rattle.channel_core.specs.Runs.{Call, Run, after_call, after_calls, begun, closing, commanding, delivering, draining, ending, putting_out, sending, taking}
use Rattle.channel_core.specs.Taking.{next_taken}
use Rattle.channel_core.specs.Wire.{hello, locator, said}
use Rattle.channel_core.specs.declared.held.Incoming.{Incoming}
use Rattle.channel_core.specs.declared.held.Outgoing.{Outgoing}
use Rattle.channel_core.specs.declared.taking.Taken.{Taken}
use Rattle.channel_core.specs.declared.taking.Taken.TheVariants as taken
use Rattle.tcf_message.specs.Message.{IsWellFormed, MessageValue, command, event, final, flow, not_known, progress, reading, spelling}
use Rattle.value_node.specs.RelayLaws.{asked_by, asked_in}
use Rattle.value_node.specs.Runs.{UpperCall, above, below, below_until_bound, upper_after}
use Rattle.value_node.specs.Value.{value_services}
use Rattle.chain_route.specs.Carrying.{Made, end_above, end_below, past_of}
use Rattle.channel_core.proofs.TheLaws.{queues_in_order, queues_readable, receives_in_order, waits_for_hello}
use Rattle.tcf_message.proofs.TheLaws.{read_back}
use Rattle.value_node.proofs.TheLaws.{connects_when_asked}
use Rattle.chain_route.proofs.Adds.{facts_of}
use Rattle.list_laws.specs.Fronts.{IsFront}
use Rattle.list_laws.proofs.Fronts.{front_each, front_flat, front_same, front_then}
use Rattle.chain_route.proofs.EndCalls.{calls_more}

pub value_hello : IsWellFormed (event locator hello value_services)
unfolding locator hello value_services
value_hello = ((refl, refl), omega arith)

-- ---- What is said in a queue with no command

abbrev IsNoCommand : MessageValue → Type 0
IsNoCommand (command token service name body) = ⊥
IsNoCommand _ = Unit {0}

none_said : (m : MessageValue) (mark : Option ℕ) (rest : List Outgoing) → filter is_command (said m mark ∷ rest) ≡ [] → IsNoCommand m × (filter is_command rest ≡ [])
none_said (command token service name body) mark rest none = absurd cc
none_said (final token body) mark rest none = (tt, none)
none_said (progress token body) mark rest none = (tt, none)
none_said (not_known token) mark rest none = (tt, none)
none_said (event service name body) mark rest none = (tt, none)
none_said (flow level) mark rest none = (tt, none)

abbrev SaysNone : Spoken → Type 0
SaysNone s = IsNoCommand s.message

none_spoken : (spoken : List Spoken) (rest : List Outgoing) → filter is_command (map (λ s. said s.message s.mark) spoken ++ rest) ≡ [] → AllByRecursion SaysNone spoken
none_spoken [] rest none = tt
none_spoken (s ∷ spoken) rest none =
    let first = none_said s.message s.mark (map (λ x. said x.message x.mark) spoken ++ rest) none in (first.0, none_spoken spoken rest first.1)

-- ---- It is taken as no command

abbrev IsUnasked : Incoming → Type 0
IsUnasked incoming = asked_in incoming.mark (reading incoming.raw) ≡ []

unasked : (m : MessageValue) (mark : Option ℕ) → IsNoCommand m → asked_in mark (Ok m) ≡ []
unasked (command token service name body) mark none = absurd none
unasked (final token body) mark none = refl
unasked (progress token body) mark none = refl
unasked (not_known token) mark none = refl
unasked (event service name body) mark none = refl
unasked (flow level) mark none = refl

messages_unasked : (spoken : List Spoken) → AreSpoken spoken → AllByRecursion SaysNone spoken → AllByRecursion IsUnasked (messages_in spoken)
messages_unasked [] formed none = tt
messages_unasked (s ∷ spoken) formed none = by_flag (enters s.message) (messages_unasked spoken formed.1 none.1)
  where
    first : IsUnasked (record { raw = spelling s.message; mark = s.mark })
    first = ap (asked_in s.mark) (read_back.1 s.message formed.0) ∙ unasked s.message s.mark none.0

    into : Spoken → Incoming
    into x = record { raw = spelling x.message; mark = x.mark }

    by_flag : (flag : Bool) → AllByRecursion IsUnasked (messages_in spoken) → AllByRecursion IsUnasked (map into (cond flag (s ∷ filter (λ x. enters x.message) spoken) (filter (λ x. enters x.message) spoken)))
    by_flag true rest = (first, rest)
    by_flag false rest = rest

none_asked : (entries : List (Taken Unit)) → AllByRecursion IsUnasked (flat_map incoming_of entries) → flat_map asked_by entries ≡ []
none_asked [] none = refl
none_asked (taken.Hello incoming ∷ entries) none = none_asked entries none.1
none_asked (taken.Command incoming ∷ entries) none = ap (λ cs. cs ++ flat_map asked_by entries) none.0 ∙ none_asked entries none.1
none_asked (taken.Event incoming ∷ entries) none = none_asked entries none.1
none_asked (taken.Progress token incoming ∷ entries) none = none_asked entries none.1
none_asked (taken.Final tag incoming ∷ entries) none = none_asked entries none.1
none_asked (taken.Closed cause ∷ entries) none = none_asked entries none

-- ---- What was taken is a front of what is taken in the end

front_push : {A : Type 0} → (xs ys zs : List A) → IsFront (xs ++ ys) zs → IsFront xs zs
front_push xs ys zs p = (ys ++ p.0, p.1 ∙ append_assoc xs ys p.0)

taken_by : {T : Type 0} → (call : Call T) (calls : List (Call T)) (r : Run T) → IsFront (after_call call r).past.taken (after_calls calls (after_call call r)).past.taken
    → IsFront r.past.taken (after_calls calls (after_call call r)).past.taken
taken_by (delivering piece mark) calls r p = p
taken_by ending calls r p = p
taken_by taking calls r p = front_push r.past.taken (listed (next_taken r.end).0) (after_calls calls (after_call taking r)).past.taken p
taken_by (commanding service name body tag mark) calls r p = p
taken_by (sending message mark) calls r p = p
taken_by putting_out calls r p = p
taken_by closing calls r p = p
taken_by draining calls r p = p

taken_front : {T : Type 0} → (calls : List (Call T)) (r : Run T) → IsFront r.past.taken (after_calls calls r).past.taken
taken_front [] r = ([], sym (append-nil r.past.taken))
taken_front (call ∷ calls) r = taken_by call calls r (taken_front calls (after_call call r))

-- ---- So it hasn't connected

pub readable_by : (connection : Option (List UpperCall)) → IfSome connection SendsReadable → SendsReadable (unwrap_or connection [])
readable_by None is = tt
readable_by (Some calls) is = is

-- no message of what it queued is a command
pub record SaysNoCommand (m : Made) : Type 0 where
  pub spoken : List Spoken
  pub is_ended : Bool
  pub formed : AreSpoken spoken
  pub given : IsFront (bytes_of (end_above (past_of m)).gave) (bytes_of (queue_of spoken is_ended))
  pub none : AllByRecursion SaysNone spoken

says_none : (m : Made) → list_any is_greeting (above (past_of m)).past.taken ≡ false → SaysNoCommand m
says_none m unheard =
    let calls = unwrap_or (past_of m).connection [] in
    let r = upper_after calls in
    let read = queues_readable value_services None calls value_hello (readable_by (past_of m).connection (facts_of m).above_readable) in
    let order : r.past.given ++ r.end.queued ≡ r.past.queued = queues_in_order value_services None calls in
    let gave : IsFront r.past.given r.past.queued = (r.end.queued, sym order) in
    let queue = queue_of read.spoken read.is_ended in
    record {
      spoken = read.spoken;
      is_ended = read.is_ended;
      formed = read.well_formed;
      given = front_same (bytes_of r.past.given) (bytes_of r.past.queued) (bytes_of queue) (ap bytes_of read.queue)
          (front_flat (λ o. marked o.bytes o.mark) r.past.given r.past.queued gave);
      none = none_spoken read.spoken (leaving_behind read.is_ended) (sym (ap (filter is_command) read.queue) ∙ waits_for_hello value_services None calls unheard);
    }

-- what it took until it was bound is a front of what it received
until_front : (m : Made) → IsFront (flat_map incoming_of (below_until_bound (past_of m)).past.taken) (received (below (past_of m)))
until_front m =
    let p = past_of m in
    let first = below_until_bound p in
    let later : IsFront first.past.taken (below p).past.taken =
    subst (λ r. IsFront first.past.taken r.past.taken) (sym (calls_more p.until_bound p.since_bound (begun (new_end value_services None)))) (taken_front p.since_bound first) in
    front_then (flat_map incoming_of first.past.taken) (flat_map incoming_of (below p).past.taken) (received (below p))
    (front_flat incoming_of first.past.taken (below p).past.taken later) (map (λ a. a.incoming) (below p).end.inbox, refl)

pub unheard_unconnected : (m other : Made) → list_any is_greeting (above (past_of m)).past.taken ≡ false
    → IsFront (end_below (past_of other)).came (bytes_of (end_above (past_of m)).gave) → (past_of other).connection ≡ None
unheard_unconnected m other unheard front =
    let said_none = says_none m unheard in
    let p = past_of other in
    let calls = p.until_bound ++ p.since_bound in
    let queue = queue_of said_none.spoken said_none.is_ended in
    let came : IsFront (arrived calls) (bytes_of queue) = front_then (arrived calls) (bytes_of (end_above (past_of m)).gave) (bytes_of queue) front said_none.given in
    let order = receives_in_order value_services None calls said_none.spoken said_none.is_ended said_none.formed came in
    let all : AllByRecursion IsUnasked (messages_in said_none.spoken) = messages_unasked said_none.spoken said_none.formed said_none.none in
    let got : AllByRecursion IsUnasked (received (below p)) = front_each IsUnasked (received (below p)) (messages_in said_none.spoken) order.front all in
    let until : AllByRecursion IsUnasked (flat_map incoming_of (below_until_bound p).past.taken) =
    front_each IsUnasked (flat_map incoming_of (below_until_bound p).past.taken) (received (below p)) (until_front other) got in
    (connects_when_asked other.peer other.calls).unconnected (none_asked (below_until_bound p).past.taken until)
