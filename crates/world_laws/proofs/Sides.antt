-- The two ends of a chain's way at one moment: its client's, and its channel's on the agent.
use Rattle.std.proofs.Common.{◌≡◌, ℕ, inl, inr, not, Bool, true, false, List, map, Option, Some, None, option_map, IfSome, refl, ap, ◌∙◌, subst, sym}
use Rattle.std.specs.List.{AllByRecursion}
use Rattle.agent_node.specs.Runs.{Past}
use Rattle.node_answers.specs.AgentAnswering.{ServesAll}
use Rattle.chain_quiet.specs.Hops.{IsAgentSide}
use Rattle.chain_quiet.proofs.Hops.Connections.{last_lives}
use Rattle.chain_quiet.specs.Stuck.{IsChannel, IsReadable, end_of_side, last_is_live}
use Rattle.chain_route.specs.Carrying.{AllCarry, Carries, agent_end, end_of, value_of}
use Rattle.chain_route.specs.Making.{made_after}
use Rattle.chain_route.specs.Route.{is_live, last_of}
use Rattle.chain_route.specs.Runs.{Past as WayPast, RouteRun, Talk, after_all as way_after, no_calls as way_begun}
use Rattle.chain_world.proofs.Pasts.{at_all}
use Rattle.chain_world.specs.ChainValue.{ChainValue}
use Rattle.chain_world.specs.Standing.{ChainStands, Talks, TalksOn, past_at}
use Rattle.channel_core.specs.Arrivals.{Marked, arrived, bytes_of}
use Rattle.channel_core.specs.declared.held.Outgoing.{Outgoing}
use Rattle.channel_laws.specs.Meeting.{Side, run_of}
use Rattle.client_node.specs.Client.{new_client}
use Rattle.client_node.specs.Ends.{IsEndAfter, end_calls}
use Rattle.tcf_schedules.specs.Plan.{Plan}
use Rattle.world_laws.specs.HopLaws.{channel_past, side_of_channel, side_of_client}
use Rattle.chain_route.proofs.TheLaws.{each_hop_carries, each_hop_carries_by_calls}
use Rattle.client_node.proofs.TheLaws.{clients_end_is_a_run}
use Rattle.world_laws.proofs.Sending.{all_readable, client_hello}

-- ---- The agent's end

is_channel : (past : Past) (talk : Talk) → ServesAll past → Talks (Some past) talk → IsChannel (side_of_channel past) talk
is_channel past talk all talks = record {
  opened = talks.refused;
  gave = talks.gave;
  given = talks.given;
  came = λ opened. talks.came (ap not opened);
  front = talks.front;
  lost = talks.lost;
  sends = record { formed = all.formed; readable = all.readable };
  answers = all.answers;
}

-- whether its hop is live or not
channel_by : (pasts : List Past) → AllByRecursion ServesAll pasts → (channel : Option ℕ) (p : WayPast) → TalksOn channel p pasts → IfSome (option_map side_of_channel (channel_past channel pasts)) (λ a. IsChannel a p.agent)
channel_by pasts serves None p talks = tt
channel_by pasts serves (Some k) p talks = by_past (past_at k pasts) refl talks.1
  where
    by_past : (there : Option Past) → past_at k pasts ≡ there → Talks there p.agent → IfSome (option_map side_of_channel there) (λ a. IsChannel a p.agent)
    by_past None none talk = tt
    by_past (Some past) some talk = is_channel past p.agent (at_all ServesAll k pasts past serves some) talk

-- where its hop is live
agent_by : (pasts : List Past) → AllByRecursion ServesAll pasts → (channel : Option ℕ) (p : WayPast) (live : Bool) → TalksOn channel p pasts → (p.is_reached ≡ false → live ≡ false) → live ≡ true
    → IsAgentSide (option_map side_of_channel (channel_past channel pasts)) p.agent
agent_by pasts serves None p live (inl never) unreached is = let dead : live ≡ false = unreached never.0 in absurd cc
agent_by pasts serves None p live (inr gave) unreached is = gave
agent_by pasts serves (Some k) p live talks unreached is = by_past (past_at k pasts) talks.1 (channel_by pasts serves (Some k) p talks)
  where
    by_past : (there : Option Past) → Talks there p.agent → IfSome (option_map side_of_channel there) (λ a. IsChannel a p.agent) → IsAgentSide (option_map side_of_channel there) p.agent
    by_past None talk opened = (talk.refused, talk.gave)
    by_past (Some past) talk opened = opened

-- ---- The chain at this moment

module _ (pasts : List Past) (plans : List Plan) (at adds : ℕ) (chain : ChainValue) (s : ChainStands plans pasts at adds chain) where
  abbrev pub way : RouteRun
  way = way_after s.ways (way_begun adds)

  abbrev pub way_carries : Carries s.ways way
  way_carries = each_hop_carries adds s.ways

  -- by the value-adds that these calls made
  pub made_is : way_carries.made ≡ made_after adds s.ways
  made_is = (each_hop_carries_by_calls adds s.ways).are

  -- the client's end, by its calls
  abbrev pub client_side : Side ℕ
  client_side = side_of_client s.calls

  pub client_is : end_of way.past.client ≡ end_of_side client_side
  client_is =
      let talk = way.past.client in
      let gave : talk.gave ≡ (run_of client_side).past.given = s.gave ∙ (clients_end_is_a_run s.calls).given in
      ap (λ (outs : List Outgoing). record { gave = outs; came = bytes_of talk.got; is_lost = talk.is_lost; is_refused = false }) gave
      ∙ ap (λ (bytes : List Marked). record { gave = (run_of client_side).past.given; came = bytes; is_lost = talk.is_lost; is_refused = false }) s.got
      ∙ ap (λ (lost : Bool). record { gave = (run_of client_side).past.given; came = arrived (end_calls s.calls new_client); is_lost = lost; is_refused = false }) s.lost

  pub client_readable : IsReadable client_side
  client_readable = record { formed = client_hello; readable = all_readable (end_calls s.calls new_client) (clients_end_is_a_run s.calls).sendings }

  pub client_end_is : IsEndAfter chain.client.channel (end_calls s.calls new_client)
  client_end_is = subst (λ c. IsEndAfter c.channel (end_calls s.calls new_client)) (sym s.client) (clients_end_is_a_run s.calls).end

  pub adds_are : chain.route.adds ≡ map value_of way_carries.made
  adds_are = ap (λ route. route.adds) s.way ∙ way_carries.adds

  pub hops_carry : AllCarry (end_of_side client_side) way.route.hops way_carries.made (agent_end way.past.agent)
  hops_carry = subst (λ e. AllCarry e way.route.hops way_carries.made (agent_end way.past.agent)) client_is way_carries.hops

  pub agent_channel : AllByRecursion ServesAll pasts → IfSome (option_map side_of_channel (channel_past chain.channel pasts)) (λ a. IsChannel a way.past.agent)
  agent_channel serves = channel_by pasts serves chain.channel way.past s.talks

  pub agent_is : AllByRecursion ServesAll pasts → last_is_live way.route.hops ≡ true → IsAgentSide (option_map side_of_channel (channel_past chain.channel pasts)) way.past.agent
  agent_is serves is = agent_by pasts serves chain.channel way.past (is_live (last_of way.route) way.route) s.talks way_carries.unreached (last_lives way.route.hops ∙ is)
