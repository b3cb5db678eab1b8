-- What the upper end of a value-add gives is a Hello and the commands that it took since it was bound, where nothing from
-- above asks; and what its lower end gives asks nothing.
use Rattle.std.proofs.Common.{◌≡◌, ℕ, ◌+◌, Bool, false, List, [], ◌∷◌, ◌++◌, map, None, Ok, refl, sym, ap, ◌∙◌, subst, append_assoc, append-nil}
use Rattle.std.specs.Prelude.{decimal}
use Rattle.std.specs.List.{AllByRecursion, filter, flat_map}
use Rattle.tcf_message.specs.Message.{MessageValue, command, event, final, flow, not_known, progress, reading}
use Rattle.channel_core.specs.Arrivals.{AreSpoken, Spoken, arrived, bytes_of, marked, messages_in, queue_of}
use Rattle.channel_core.specs.Beginning.{new_end}
use Rattle.channel_core.specs.QueueLaws.{is_message, is_plain}
use Rattle.channel_core.specs.ReceivingLaws.{incoming_of}
use Rattle.channel_core.specs.RunLaws.{is_command}
use Rattle.channel_core.specs.Runs.{Call, Run, after_call, after_calls, begun}
use Rattle.channel_core.specs.Wire.{hello, locator, said}
use Rattle.channel_core.specs.declared.held.Outgoing.{Outgoing}
use Rattle.value_node.specs.Asked.{Asked}
use Rattle.value_node.specs.Deeds.{asked_in, sent_in}
use Rattle.value_node.specs.RelayLaws.{held_in, sent_above}
use Rattle.value_node.specs.Runs.{above, below, below_since_bound}
use Rattle.value_node.specs.Value.{value_services}
use Rattle.chain_route.specs.Carrying.{AllCarry, End, HopCarries, IsUnused, Made, end_above, end_below, past_of}
use Rattle.chain_route.specs.declared.hop.Hop.{Hop}
use Rattle.chain_through.specs.Calling.{AskNothing, Calls, Says, all_asking, asks, entering, greeting}
use Rattle.chain_told.proofs.Decimals.{decimal_plain}
use Rattle.channel_core.proofs.TheLaws.{queues_in_order, queues_no_command, queues_what_is_sent, receives_in_order}
use Rattle.tcf_message.proofs.TheLaws.{read_back}
use Rattle.value_node.proofs.TheLaws.{asks_nothing_below, forwards_in_order}
use Rattle.chain_through.proofs.Doing.{all_sent}
use Rattle.chain_through.proofs.Facts.{above_read, below_read, calls_above, deeds_of}
use Rattle.chain_through.proofs.Queues.{GreetsFirst, commanding, entering_formed, greets_first, nothing_asked, queue_commands, queue_messages, queue_plain}
use Rattle.chain_through.proofs.Refusing.{none_refused, none_sent, refused_in, sends_refusals, sent_with}
use Rattle.chain_through.proofs.Spelling.{AreSpelled, IsSpelled, front_said, said_so}
use Rattle.chain_through.proofs.Taking.{IsWritten, all_written, come_as, received_front}
use Rattle.list_laws.specs.Fronts.{IsFront}
use Rattle.list_laws.proofs.Fronts.{front_each, front_flat, front_then}
use Rattle.chain_route.proofs.Adds.{run_of}

-- ---- What can be read

unasked : (m : MessageValue) → asks m ≡ false → refused_in (Ok m) ≡ []
unasked (command token service name body) none = absurd cc
unasked (final token body) none = refl
unasked (progress token body) none = refl
unasked (not_known token) none = refl
unasked (event service name body) none = refl
unasked (flow level) none = refl

none_asked : (spoken : List Spoken) → AreSpoken spoken → AskNothing spoken → AllByRecursion (λ i. refused_in (reading i.raw) ≡ []) (map come_as spoken)
none_asked [] formed quiet = tt
none_asked (s ∷ spoken) formed quiet = (ap refused_in (read_back.1 s.message formed.0) ∙ unasked s.message quiet.0, none_asked spoken formed.1 quiet.1)

-- ---- Commands as they are sent

sent_asking : (n : ℕ) (commands : List Asked) → sent_above n commands ≡ map said_so (all_asking n commands)
sent_asking n [] = refl
sent_asking n (c ∷ commands) = ap (λ os. said (command (decimal n) c.service c.name c.body) c.mark ∷ os) (sent_asking (n + 1) commands)

asking_spelled : (n : ℕ) (commands : List Asked) → AllByRecursion IsWritten commands → AreSpelled (all_asking n commands)
asking_spelled n [] written = tt
asking_spelled n (c ∷ commands) written = ((decimal_plain n, written.0.0.1, written.0.0.2), asking_spelled (n + 1) commands written.1)

greeting_spelled : (services : List ℕ) → IsSpelled (event locator hello services)
unfolding locator hello
greeting_spelled services = (refl, refl)

-- ---- The Hello is queued first

pub queued_more : {T : Type 0} → (calls : List (Call T)) (r : Run T) → IsFront r.past.queued (after_calls calls r).past.queued
queued_more [] r = ([], sym (append-nil r.past.queued))
queued_more (call ∷ calls) r =
    let next = after_call call r in
    front_then r.past.queued next.past.queued (after_calls calls next).past.queued (_, refl) (queued_more calls next)

pub hello_enters : (services : List ℕ) (more : List Outgoing) → filter is_message (said_so (greeting services) ∷ more) ≡ said_so (greeting services) ∷ filter is_message more
hello_enters services more = refl

-- it is the one plain message that is queued
greets_so : (spoken : List Spoken) (is_ended : Bool) (queued : List Outgoing) (services : List ℕ) → queued ≡ queue_of spoken is_ended → IsFront (said_so (greeting services) ∷ []) queued
    → filter is_plain queued ≡ said_so (greeting services) ∷ [] → GreetsFirst spoken (said_so (greeting services))
greets_so spoken is_ended queued services is front alone =
    greets_first spoken services (filter is_message front.0)
    (sym (queue_messages spoken is_ended) ∙ ap (filter is_message) (sym is) ∙ ap (filter is_message) front.1 ∙ hello_enters services front.0)
    (sym (queue_plain spoken is_ended) ∙ ap (filter is_plain) (sym is) ∙ alone)

-- and behind it are these commands
calls_so : (spoken : List Spoken) (services : List ℕ) (commands : List Asked) → AreSpoken spoken → AllByRecursion IsWritten commands → GreetsFirst spoken (said_so (greeting services))
    → IsFront (map said_so (commanding spoken)) (map said_so (all_asking 1 commands)) → IsFront (entering spoken) (greeting services ∷ all_asking 1 commands)
calls_so spoken services commands formed written g front =
    let fronts : IsFront (map said_so (g.greets ∷ commanding spoken)) (map said_so (greeting services ∷ all_asking 1 commands)) =
    (front.0, ap (λ o. o ∷ map said_so (all_asking 1 commands)) (sym g.said_is) ∙ ap (λ os. said_so g.greets ∷ os) front.1) in
    let one = front_said (g.greets ∷ commanding spoken) (greeting services ∷ all_asking 1 commands) (subst AreSpoken g.are (entering_formed spoken formed))
    (greeting_spelled services, asking_spelled 1 commands written) fronts in
    (one.0, one.1 ∙ ap (λ xs. xs ++ one.0) (sym g.are))

none_mapped : (spoken : List Spoken) → map said_so spoken ≡ [] → spoken ≡ []
none_mapped [] none = refl
none_mapped (s ∷ spoken) none = absurd cc

-- ---- The ends of a value-add

pub record CallsUp (m : Made) : Type 0 where
  pub calls : Calls (sent_in (deeds_of m)) (end_above (past_of m)).gave

pub record SaysNothing (m : Made) : Type 0 where
  pub down : List Spoken
  pub says : Says down (end_below (past_of m)).gave
  pub quiet : AskNothing down

pub below_gives : (m : Made) → IsFront (end_below (past_of m)).gave (queue_of (below_read m).spoken (below_read m).is_ended)
below_gives m =
    let r = below (past_of m) in
    let can = below_read m in
    let order : r.past.given ++ r.end.queued ≡ r.past.queued = queues_in_order value_services None ((past_of m).until_bound ++ (past_of m).since_bound) in
    (r.end.queued, sym can.queue ∙ sym order)

above_gives : (m : Made) → IsFront (end_above (past_of m)).gave (queue_of (above_read m).spoken (above_read m).is_ended)
above_gives m =
    let r = above (past_of m) in
    let can = above_read m in
    let order : r.past.given ++ r.end.queued ≡ r.past.queued = queues_in_order value_services None (calls_above m) in
    (r.end.queued, sym can.queue ∙ sym order)

pub says_nothing : (m : Made) → SaysNothing m
says_nothing m =
    let can = below_read m in
    let none : commanding can.spoken ≡ [] = none_mapped (commanding can.spoken)
    (sym (queue_commands can.spoken can.is_ended) ∙ ap (filter is_command) (sym can.queue) ∙ queues_no_command value_services None ((past_of m).until_bound ++ (past_of m).since_bound) (asks_nothing_below m.peer m.calls)) in
    record {
      down = entering can.spoken;
      says = record { spoken = can.spoken; is_ended = can.is_ended; formed = can.well_formed; front = below_gives m; says = refl };
      quiet = nothing_asked can.spoken none;
    }

-- it takes no command from above
none_above : (m : Made) (next : Hop) (upper : End) (said : List Spoken) → HopCarries next (end_above (past_of m)) upper → Says said upper.gave → AskNothing said
    → flat_map sent_with (calls_above m) ≡ []
none_above m next upper said carries says quiet =
    let r = above (past_of m) in
    let queue = queue_of says.spoken says.is_ended in
    let gave : IsFront (bytes_of upper.gave) (bytes_of queue) = front_flat (λ o. marked o.bytes o.mark) upper.gave queue says.front in
    let came : IsFront (arrived (calls_above m)) (bytes_of queue) = front_then (arrived (calls_above m)) (bytes_of upper.gave) (bytes_of queue) carries.down_front gave in
    let order = receives_in_order value_services None (calls_above m) says.spoken says.is_ended says.formed came in
    let got : IsFront (flat_map incoming_of r.past.taken) (messages_in says.spoken) = received_front r (messages_in says.spoken) order.front in
    let each = none_asked (entering says.spoken) (entering_formed says.spoken says.formed) (subst AskNothing (sym says.says) quiet) in
    sends_refusals m.peer m.calls
    ∙ none_refused r.past.taken (front_each (λ i. refused_in (reading i.raw) ≡ []) (flat_map incoming_of r.past.taken) (messages_in says.spoken) got each)

pub asked_written : (m : Made) → AllByRecursion IsWritten (asked_in (deeds_of m))
asked_written m = subst (AllByRecursion IsWritten) (forwards_in_order m.peer m.calls).asked (all_written (below_since_bound (past_of m)).past.taken)

pub sent_written : (m : Made) → AllByRecursion IsWritten (sent_in (deeds_of m))
sent_written m = all_sent IsWritten (deeds_of m) (asked_written m)

-- the commands that it queues
forwarded : (m : Made) → IsFront (map said_so (commanding (above_read m).spoken)) (map said_so (all_asking 1 (sent_in (deeds_of m))))
forwarded m =
    let r = above (past_of m) in
    let can = above_read m in
    let held = map (λ h. h.outgoing) (held_in (run_of m).value.relay.upper) in
    let sent : filter is_command r.past.queued ≡ map said_so (commanding can.spoken) = ap (filter is_command) can.queue ∙ queue_commands can.spoken can.is_ended in
    let f = (forwards_in_order m.peer m.calls).front in (
      held ++ f.0,
      sym (sent_asking 1 (sent_in (deeds_of m))) ∙ f.1 ∙ append_assoc (filter is_command r.past.queued) held f.0 ∙ ap (λ os. os ++ (held ++ f.0)) sent,
    )

calls_up : (m : Made) (next : Hop) (upper : End) (said : List Spoken) → HopCarries next (end_above (past_of m)) upper → Says said upper.gave → AskNothing said → CallsUp m
calls_up m next upper said carries says quiet =
    let can = above_read m in
    let alone : filter is_plain (above (past_of m)).past.queued ≡ said_so (greeting value_services) ∷ [] =
    queues_what_is_sent value_services None (calls_above m)
    ∙ ap (λ os. said_so (greeting value_services) ∷ os) (none_sent (calls_above m) (new_end value_services None) (none_above m next upper said carries says quiet)) in
    let greets = greets_so can.spoken can.is_ended (above (past_of m)).past.queued value_services can.queue (queued_more (calls_above m) (begun (new_end value_services None))) alone in
    record {
      calls = record {
        spoken = can.spoken;
        is_ended = can.is_ended;
        formed = can.well_formed;
        front = above_gives m;
        services = value_services;
        says = calls_so can.spoken value_services (sent_in (deeds_of m)) can.well_formed (sent_written m) greets (forwarded m);
      };
    }

calls_unused : (m : Made) → IsUnused (end_above (past_of m)) → CallsUp m
calls_unused m unused =
    record {
      calls = record {
        spoken = [];
        is_ended = false;
        formed = tt;
        front = ([], sym (append-nil (end_above (past_of m)).gave ∙ unused.0));
        services = [];
        says = (greeting [] ∷ all_asking 1 (sent_in (deeds_of m)), refl);
      };
    }

pub calls_on : (m : Made) (hops : List Hop) (made : List Made) (agent : End) (said : List Spoken) → AllCarry (end_above (past_of m)) hops made agent → Says said agent.gave → AskNothing said → CallsUp m
calls_on m [] made agent said carry says quiet = absurd carry
calls_on m (hop ∷ hops) (n ∷ made) agent said carry says quiet = let n_says = says_nothing n in calls_up m hop (end_below (past_of n)) n_says.down carry.0 n_says.says n_says.quiet
calls_on m (hop ∷ []) [] agent said carry says quiet = calls_up m hop agent said carry says quiet
calls_on m (hop ∷ next ∷ hops) [] agent said carry says quiet = calls_unused m carry.0
