-- What comes down to a client asks it nothing, whatever it says itself.
use Rattle.std.proofs.Common.{◌≡◌, Bool, false, List, [], ◌∷◌, ◌++◌, map, None, Ok, sym, ap, ◌∙◌, subst, append-nil}
use Rattle.std.specs.List.{AllByRecursion, filter, flat_map}
use Rattle.tcf_message.specs.Message.{IsWellFormed, MessageValue, command, event, final, flow, not_known, progress, reading, spelling}
use Rattle.channel_core.specs.Arrivals.{AreSpoken, Marked, Spoken, arrived, bytes_of, messages_in, queue_of, comes_as}
use Rattle.channel_core.specs.ReceivingLaws.{CanBeRead, incoming_of}
use Rattle.channel_core.specs.RunLaws.{is_command}
use Rattle.channel_core.specs.Runs.{Run}
use Rattle.client_node.specs.Client.{client_services, new_client}
use Rattle.client_node.specs.Ends.{client_end, end_calls, unknown_to}
use Rattle.client_node.specs.Runs.{Call as ClientCall}
use Rattle.chain_route.proofs.Unheard.{value_hello}
use Rattle.chain_route.specs.Carrying.{AllCarry, End, Made, end_below, past_of}
use Rattle.chain_route.specs.declared.hop.Hop.{Hop}
use Rattle.chain_through.specs.Calling.{AskNothing, Says, asks, entering}
use Rattle.value_node.specs.RelayLaws.{EndsAreRuns}
use Rattle.value_node.specs.Runs.{LowerCall, after_all, lower_after, no_calls}
use Rattle.value_node.specs.Value.{value_services}
use Rattle.chain_through.proofs.Queues.{commanding, entering_formed, nothing_asked, queue_commands}
use Rattle.chain_through.proofs.Spelling.{said_so}
use Rattle.chain_through.proofs.Taking.{received_front}
use Rattle.channel_core.proofs.TheLaws.{queues_in_order, queues_no_command, queues_readable, receives_in_order}
use Rattle.tcf_message.proofs.TheLaws.{read_back}
use Rattle.value_node.proofs.TheLaws.{asks_nothing_below, ends_are_runs}
use Rattle.world_laws.proofs.Sending.{AsksNothing}
use Rattle.world_laws.proofs.Spoken.{front_bytes}
use Rattle.list_laws.specs.Fronts.{IsFront}
use Rattle.list_laws.proofs.Fronts.{front_each, front_then}
use Rattle.list_laws.proofs.Lists.{none_mapped}

-- what comes is of messages that ask nothing
pub record ComesQuietly (came : List Marked) : Type 0 where
  pub spoken : List Spoken
  pub is_ended : Bool
  pub formed : AreSpoken spoken
  pub quiet : AskNothing (entering spoken)
  pub front : IsFront came (bytes_of (queue_of spoken is_ended))

nothing_came : (came : List Marked) → came ≡ [] → ComesQuietly came
nothing_came came none = record { spoken = []; is_ended = false; formed = tt; quiet = tt; front = ([], sym (append-nil came ∙ none)) }

-- from the lower end of a value-add
below_can : (m : Made) → CanBeRead (lower_after ((past_of m).until_bound ++ (past_of m).since_bound))
below_can m =
    let r : EndsAreRuns (after_all m.calls (no_calls m.peer)) = ends_are_runs m.peer m.calls in
    queues_readable value_services None ((past_of m).until_bound ++ (past_of m).since_bound) value_hello r.below_readable

below_quiet : (m : Made) → AskNothing (entering (below_can m).spoken)
below_quiet m =
    let calls : List LowerCall = (past_of m).until_bound ++ (past_of m).since_bound in
    let can = below_can m in
    let none : filter is_command (lower_after calls).past.queued ≡ [] = queues_no_command value_services None calls (asks_nothing_below m.peer m.calls) in
    let said : map said_so (commanding can.spoken) ≡ [] = sym (queue_commands can.spoken can.is_ended) ∙ ap (filter is_command) (sym can.queue) ∙ none in
    nothing_asked can.spoken (none_mapped said_so (commanding can.spoken) said)

below_comes : (m : Made) (came : List Marked) → IsFront came (bytes_of (end_below (past_of m)).gave) → ComesQuietly came
below_comes m came front =
    let calls : List LowerCall = (past_of m).until_bound ++ (past_of m).since_bound in
    let r : Run Unit = lower_after calls in
    let can = below_can m in
    let order : r.past.given ++ r.end.queued ≡ r.past.queued = queues_in_order value_services None calls in
    let gave : IsFront r.past.given (queue_of can.spoken can.is_ended) = (r.end.queued, sym can.queue ∙ sym order) in
    record {
      spoken = can.spoken;
      is_ended = can.is_ended;
      formed = can.well_formed;
      quiet = below_quiet m;
      front = front_then came (bytes_of r.past.given) (bytes_of (queue_of can.spoken can.is_ended)) front (front_bytes r.past.given (queue_of can.spoken can.is_ended) gave);
    }

-- from the agent
agent_comes : (agent : End) (said : List Spoken) (came : List Marked) → Says said agent.gave → AskNothing said → IsFront came (bytes_of agent.gave) → ComesQuietly came
agent_comes agent said came says quiet front = record {
  spoken = says.spoken;
  is_ended = says.is_ended;
  formed = says.formed;
  quiet = subst AskNothing (sym says.says) quiet;
  front = front_then came (bytes_of agent.gave) (bytes_of (queue_of says.spoken says.is_ended)) front (front_bytes agent.gave (queue_of says.spoken says.is_ended) says.front);
}

pub comes_quietly : (lower agent : End) (hops : List Hop) (made : List Made) (said : List Spoken) → AllCarry lower hops made agent → Says said agent.gave → AskNothing said → ComesQuietly lower.came
comes_quietly lower agent [] made said carry says quiet = absurd carry
comes_quietly lower agent (hop ∷ hops) (m ∷ made) said carry says quiet = below_comes m lower.came carry.0.down_front
comes_quietly lower agent (hop ∷ []) [] said carry says quiet = agent_comes agent said lower.came says quiet carry.down_front
comes_quietly lower agent (hop ∷ next ∷ hops) [] said carry says quiet = nothing_came lower.came carry.0.1

-- ---- So what was taken asks nothing

taken_one : (m : MessageValue) → IsWellFormed m → reading (spelling m) ≡ Ok m → asks m ≡ false → unknown_to (reading (spelling m)) ≡ []
taken_one (command token service name body) formed read is = absurd cc
taken_one (final token body) formed read is = ap (λ r. unknown_to r) read
taken_one (progress token body) formed read is = ap (λ r. unknown_to r) read
taken_one (not_known token) formed read is = ap (λ r. unknown_to r) read
taken_one (event service name body) formed read is = ap (λ r. unknown_to r) read
taken_one (flow level) formed read is = ap (λ r. unknown_to r) read

messages_quiet : (spoken : List Spoken) → AreSpoken spoken → AskNothing spoken → AllByRecursion AsksNothing (map comes_as spoken)
messages_quiet [] formed quiet = tt
messages_quiet (s ∷ spoken) formed quiet = (taken_one s.message formed.0 (read_back.1 s.message formed.0) quiet.0, messages_quiet spoken formed.1 quiet.1)

pub takes_quietly : (calls : List ClientCall) → ComesQuietly (arrived (end_calls calls new_client)) → AllByRecursion AsksNothing (flat_map incoming_of (client_end calls).past.taken)
takes_quietly calls c =
    let r = client_end calls in
    let rec = receives_in_order client_services None (end_calls calls new_client) c.spoken c.is_ended c.formed c.front in
    front_each AsksNothing (flat_map incoming_of r.past.taken) (messages_in c.spoken) (received_front r (messages_in c.spoken) rec.front) (messages_quiet (entering c.spoken) (entering_formed c.spoken c.formed) c.quiet)
