-- The channels that a chain had earlier execute nothing: what came to them was given by an end that took no Hello.
use Rattle.std.proofs.Common.{◌≡◌, ℕ, ◌++◌, List, [], ◌∷◌, map, Option, Some, None, refl, sym, ap, ◌∙◌}
use Rattle.std.specs.List.{AllByRecursion, filter}
use Rattle.agent_node.specs.AgentLaws.{AgentFollowsHistory, FollowsHistory, asked, read as agent_read}
use Rattle.agent_node.specs.Runs.{AgentRun, Past, run_of}
use Rattle.chain_route.proofs.Unheard.{value_hello}
use Rattle.chain_route.specs.Carrying.{IsGoneBy}
use Rattle.chain_route.specs.Runs.{Past as WayPast}
use Rattle.chain_through.specs.Calling.{AskNothing, entering}
use Rattle.chain_world.proofs.Pasts.{at_all}
use Rattle.chain_world.specs.Standing.{Talked, came_to, past_at, unmarked}
use Rattle.channel_core.specs.Arrivals.{arrived, bytes_of, queue_of}
use Rattle.channel_core.specs.ReceivingLaws.{CanBeRead}
use Rattle.channel_core.specs.RunLaws.{is_command}
use Rattle.channel_core.specs.Runs.{Run}
use Rattle.channel_core.specs.declared.held.Outgoing.{Outgoing}
use Rattle.target_contexts.specs.declared.process.Image.{Image}
use Rattle.target_hub.specs.Sent.{executed_on}
use Rattle.value_node.specs.ForwardedValue.{ForwardedValue}
use Rattle.value_node.specs.Runs.{UpperCall, upper_after}
use Rattle.value_node.specs.Value.{value_services}
use Rattle.chain_through.proofs.Queues.{commanding, nothing_asked, queue_commands}
use Rattle.chain_through.proofs.Spelling.{said_so}
use Rattle.channel_core.proofs.TheLaws.{queues_in_order, queues_readable, waits_for_hello}
use Rattle.world_laws.proofs.Silent.{at_number, unopened_silent}
use Rattle.world_laws.proofs.Spoken.{front_bytes, front_unmarked}
use Rattle.world_laws.proofs.Taking.{asked_front, asks_of, quiet_none}
use Rattle.list_laws.specs.Fronts.{IsFront}
use Rattle.list_laws.proofs.Fronts.{front_none, front_same, front_then}
use Rattle.list_laws.proofs.Lists.{none_mapped}
use Rattle.list_laws.proofs.AllLists.{all_contains as all_in}

none_asked : (past : Past) (got : List Outgoing) → IsGoneBy got → IsFront (arrived past.calls) (unmarked got) → asked (run_of past) ≡ []
none_asked past got gone came =
    let calls : List UpperCall = gone.calls in
    let r : Run ForwardedValue = upper_after calls in
    let can : CanBeRead r = queues_readable value_services None calls value_hello gone.readable in
    let order : r.past.given ++ r.end.queued ≡ r.past.queued = queues_in_order value_services None calls in
    let queue : List Outgoing = queue_of can.spoken can.is_ended in
    let gave : IsFront r.past.given queue = (r.end.queued, sym can.queue ∙ sym order) in
    let bytes : IsFront (bytes_of got) (bytes_of queue) = front_then (bytes_of got) (bytes_of r.past.given) (bytes_of queue) gone.front (front_bytes r.past.given queue gave) in
    let all : IsFront (arrived past.calls) (unmarked queue) = front_then (arrived past.calls) (unmarked got) (unmarked queue) came (front_unmarked got queue bytes) in
    let none : filter is_command r.past.queued ≡ [] = waits_for_hello value_services None calls gone.gone.unheard in
    let said : map said_so (commanding can.spoken) ≡ [] = sym (queue_commands can.spoken can.is_ended) ∙ ap (filter is_command) (sym can.queue) ∙ none in
    let quiet : AskNothing (entering can.spoken) = nothing_asked can.spoken (none_mapped said_so (commanding can.spoken) said) in
    front_none (asked (run_of past))
    (front_same (asked (run_of past)) (asks_of (entering can.spoken)) [] (quiet_none (entering can.spoken) quiet) (asked_front past can.spoken can.is_ended can.well_formed all))

module _ (images : List Image) (r : AgentRun) (follows : AgentFollowsHistory images r) (p : WayPast) (gone : AllByRecursion IsGoneBy p.earlier) where
  one_silent : (k : ℕ) → Talked p r.channels k → executed_on k r.history ≡ []
  one_silent k talked = by_past (past_at k r.channels) refl talked.front
    where
      by_past : (there : Option Past) → past_at k r.channels ≡ there → IsFront (came_to there) (unmarked talked.got) → executed_on k r.history ≡ []
      by_past None is came = unopened_silent images r k follows is
      by_past (Some past) is came =
          let follow : FollowsHistory images r.history past = at_all (FollowsHistory images r.history) k r.channels past follows.channels is in
          let none : asked (run_of past) ≡ [] = none_asked past talked.got (all_in IsGoneBy p.earlier talked.got gone talked.earlier) came in
          ap (λ n. executed_on n r.history) (sym (at_number k r.channels past is)) ∙ follow.executed ∙ ap (map agent_read) none

  pub all_silent : (earlier : List ℕ) → AllByRecursion (Talked p r.channels) earlier → AllByRecursion (λ k. executed_on k r.history ≡ []) earlier
  all_silent [] talked = tt
  all_silent (k ∷ earlier) talked = (one_silent k talked.0, all_silent earlier talked.1)
