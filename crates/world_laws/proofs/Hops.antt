-- The hops of a chain, at any moment: each stands between two ends, and what is said down it is told rightly.
use Rattle.std.proofs.Common.{◌≡◌, ℕ, true, false, List, [], ◌∷◌, map, Option, Some, None, option_map, IfSome, is_some, refl, sym, ap, ◌∙◌, subst}
use Rattle.std.specs.List.{AllByRecursion}
use Rattle.agent_node.specs.AgentLaws.{AgentFollowsHistory, FollowsHistory, IsEndOf}
use Rattle.agent_node.specs.Channels.{channel_end}
use Rattle.agent_node.specs.Runs.{AgentRun, Past}
use Rattle.node_answers.specs.AgentAnswering.{ServesAll}
use Rattle.chain_quiet.proofs.Hops.Connections.{connected_to_last}
use Rattle.chain_quiet.specs.Hops.{HopsStand, IsWay}
use Rattle.chain_quiet.specs.Stuck.{end_of_side}
use Rattle.chain_route.specs.Carrying.{GivesAll, Made, value_of}
use Rattle.chain_route.specs.Making.{made_after}
use Rattle.chain_route.specs.Runs.{Call as WayCall, Talk}
use Rattle.chain_route.specs.declared.hop.Hop.{Hop}
use Rattle.chain_through.specs.Through.{AllTold}
use Rattle.chain_world.proofs.Agents.{none_any}
use Rattle.chain_world.proofs.Pasts.{at_all}
use Rattle.chain_world.specs.ChainValue.{ChainValue}
use Rattle.chain_world.specs.Past.{ChainPast}
use Rattle.chain_world.specs.Remembering.{ChainStandsBy}
use Rattle.chain_world.specs.Standing.{ChainStands, past_at}
use Rattle.channel_core.specs.Arrivals.{Spoken}
use Rattle.channel_core.specs.EndValue.{EndValue}
use Rattle.channel_laws.specs.Meeting.{Side, run_of}
use Rattle.client_node.specs.Client.{new_client}
use Rattle.client_node.specs.Ends.{IsEndAfter, end_calls}
use Rattle.client_node.specs.Runs.{Call as ClientCall}
use Rattle.target_contexts.specs.declared.process.Image.{Image}
use Rattle.target_hub.specs.History.{was_opened}
use Rattle.tcf_schedules.specs.Plan.{Plan}
use Rattle.world_laws.specs.HopLaws.{ChainHopsStand, IsSaidOn, channel_past, side_of_channel, spoken_on}
use Rattle.chain_quiet.proofs.TheLaws.{each_hop_stands}
use Rattle.world_laws.proofs.Chains.{all_told}
use Rattle.world_laws.proofs.Serving.{told_queued}
use Rattle.world_laws.proofs.Sides.{adds_are, agent_channel, agent_is, client_end_is, client_is, client_readable, client_side, hops_carry, made_is, way, way_carries}
use Rattle.world_laws.proofs.Silent.{at_number}

all_give : (made : List Made) → AllByRecursion GivesAll (map value_of made) → AllByRecursion (λ m. GivesAll (value_of m)) made
all_give [] each = tt
all_give (m ∷ made) each = (each.0, all_give made each.1)

module _ (images : List Image) (r : AgentRun) (follows : AgentFollowsHistory images r) (serves : AllByRecursion ServesAll r.channels) (plans : List Plan) (at adds : ℕ) (chain : ChainValue)
    (s : ChainStands plans r.channels at adds chain) where
  -- the ends of the way
  abbrev client : Side ℕ
  client = client_side r.channels plans at adds chain s

  abbrev past : Option Past
  past = channel_past chain.channel r.channels

  abbrev agent : Option (Side Unit)
  agent = option_map side_of_channel past

  abbrev made : List Made
  made = (way_carries r.channels plans at adds chain s).made

  abbrev hops : List Hop
  hops = (way r.channels plans at adds chain s).route.hops

  abbrev talk : Talk
  talk = (way r.channels plans at adds chain s).past.agent

  abbrev said : List Spoken
  said = spoken_on images r.history past

  -- what an opened client queued was given
  given_by : (channel : Option (EndValue ℕ)) → is_some channel ≡ true → IfSome channel (λ e. e.queued ≡ []) → IsEndAfter channel (end_calls s.calls new_client) → (run_of client).end.queued ≡ []
  given_by None some given is = absurd cc
  given_by (Some e) some given is = ap (λ x. x.queued) (sym is) ∙ given

  is_way : is_some chain.client.channel ≡ true → IsWay client hops made agent talk
  is_way some =
      let run = way r.channels plans at adds chain s in
      let carries = way_carries r.channels plans at adds chain s in
      record {
        sends = client_readable r.channels plans at adds chain s;
        given = λ live. given_by chain.client.channel some s.given (client_end_is r.channels plans at adds chain s);
        adds = all_give made (subst (AllByRecursion GivesAll) carries.adds carries.given);
        carries = hops_carry r.channels plans at adds chain s;
        connected = connected_to_last made run.route run.past.is_reached carries.connected carries.unreached;
        channel = agent_channel r.channels plans at adds chain s serves;
        served = agent_is r.channels plans at adds chain s serves;
      }

  -- the channel on the agent, where it was opened
  channel_is : IfSome past (λ p. (chain.channel ≡ Some p.number) × IsEndOf (channel_end p.number r.agent.channels) p)
  channel_is = by_channel chain.channel
    where
      by_past : (k : ℕ) (there : Option Past) → past_at k r.channels ≡ there → IfSome there (λ p. (Some k ≡ Some p.number) × IsEndOf (channel_end p.number r.agent.channels) p)
      by_past k None none = tt
      by_past k (Some p) some =
          (ap Some (sym (at_number k r.channels p some)), at_all (λ p. IsEndOf (channel_end p.number r.agent.channels) p) k r.channels p follows.ends some)

      by_channel : (channel : Option ℕ) → IfSome (channel_past channel r.channels) (λ p. (channel ≡ Some p.number) × IsEndOf (channel_end p.number r.agent.channels) p)
      by_channel None = tt
      by_channel (Some k) = by_past k (past_at k r.channels) refl

  -- or it was refused
  refused_is : past ≡ None → IfSome chain.channel (λ k. was_opened k r.history ≡ false)
  refused_is none = by_channel chain.channel none
    where
      by_channel : (channel : Option ℕ) → channel_past channel r.channels ≡ None → IfSome channel (λ k. was_opened k r.history ≡ false)
      by_channel None none = tt
      by_channel (Some k) none = follows.opened k ∙ none_any k r.channels none

  -- what is said on it, and down the way
  says_so : IsSaidOn past said
  says_so = by_channel chain.channel
    where
      by_past : (k : ℕ) (there : Option Past) → past_at k r.channels ≡ there → IsSaidOn there (spoken_on images r.history there)
      by_past k None none = refl
      by_past k (Some p) some = told_queued images r.history p (at_all (FollowsHistory images r.history) k r.channels p follows.channels some)

      by_channel : (channel : Option ℕ) → IsSaidOn (channel_past channel r.channels) (spoken_on images r.history (channel_past channel r.channels))
      by_channel None = refl
      by_channel (Some k) = by_past k (past_at k r.channels) refl

  told_so : AllTold images r.history (end_of_side client) made said
  told_so = subst (λ lower. AllTold images r.history lower made said) (client_is r.channels plans at adds chain s) (all_told images r follows serves plans at adds chain s)

  -- by these value-adds
  record StandBy (them : List Made) : Type 0 where
    are : chain.route.adds ≡ map value_of them
    stand : is_some chain.client.channel ≡ true → HopsStand client chain.route.hops them agent
    tell : AllTold images r.history (end_of_side client) them said

  by_calls : StandBy (made_after adds s.ways)
  by_calls = subst StandBy (made_is r.channels plans at adds chain s) (record {
    are = adds_are r.channels plans at adds chain s;
    stand = λ some. subst (λ route. HopsStand client route.hops made agent) (sym s.way) (each_hop_stands client hops made agent talk (is_way some));
    tell = told_so;
  })

  chain_hops : ChainHopsStand images r.history r.agent adds chain (record { calls = s.calls; ways = s.ways }) past
  chain_hops = record { client = s.client; way = s.way; adds = by_calls.are; channel = channel_is; refused = refused_is; hops = by_calls.stand; says = says_so; told = by_calls.tell }

-- ---- By the past of the chain

module _ (images : List Image) (r : AgentRun) (follows : AgentFollowsHistory images r) (serves : AllByRecursion ServesAll r.channels) (plans : List Plan) (at adds : ℕ) (chain : ChainValue) (own : ChainPast) where
  abbrev Stand : List ClientCall → List WayCall → Type 0
  Stand calls ways = ChainHopsStand images r.history r.agent adds chain (record { calls = calls; ways = ways }) (channel_past chain.channel r.channels)

  pub hops_by_past : ChainStandsBy plans r.channels at adds chain own → ChainHopsStand images r.history r.agent adds chain own (channel_past chain.channel r.channels)
  hops_by_past known =
      let s = known.stands in
      let hops : Stand s.calls s.ways = chain_hops images r follows serves plans at adds chain s in
      subst (λ calls. Stand calls own.ways) known.calls (subst (Stand s.calls) known.ways hops)
