-- The hops of a world's chains, at any moment, by the world's past.
use Rattle.std.specs.Prelude.{ℕ, ◌≡◌, true, false, List, [], ◌∷◌, filter, map, Option, None, Some, IfSome, is_some, option_map}
use Rattle.std.specs.List.{AllByRecursion}
use Rattle.agent_node.specs.AgentLaws.{IsEndOf, asked, messages_told, tokens}
use Rattle.agent_node.specs.AgentValue.{AgentValue}
use Rattle.agent_node.specs.Channels.{channel_end}
use Rattle.agent_node.specs.Runs.{Past, after_all as agent_after, no_calls as agent_begun, run_of}
use Rattle.chain_quiet.specs.Hops.{HopsStand}
use Rattle.chain_quiet.specs.Stuck.{end_of_side}
use Rattle.chain_route.specs.Carrying.{value_of}
use Rattle.chain_route.specs.Making.{made_after}
use Rattle.chain_route.specs.Runs.{after_all as way_after, no_calls as way_begun}
use Rattle.chain_through.specs.Through.{AllTold}
use Rattle.chain_world.specs.ChainValue.{ChainValue}
use Rattle.chain_world.specs.Past.{ChainPast, Past as WorldPast, past_of}
use Rattle.chain_world.specs.Standing.{past_at}
use Rattle.chain_world.specs.World.{IsPlayable, new_world, run}
use Rattle.chain_world.specs.WorldValue.{WorldValue}
use Rattle.channel_core.specs.Arrivals.{Spoken, all_said}
use Rattle.channel_core.specs.QueueLaws.{is_message}
use Rattle.channel_laws.specs.Meeting.{Side}
use Rattle.client_node.specs.Client.{client_services, new_client}
use Rattle.client_node.specs.Ends.{end_calls}
use Rattle.client_node.specs.Runs.{Call as ClientCall, run as client_run}
use Rattle.target_contexts.specs.declared.process.Image.{Image}
use Rattle.target_hub.specs.History.{was_opened}
use Rattle.target_hub.specs.Sent.{agent_services, sent}
use Rattle.target_hub.specs.declared.input.Input.{Input}
use Rattle.tcf_schedules.specs.Plan.{Plan}

-- the end of a client, and that of a channel of the agent, by their calls
abbrev pub side_of_client : List ClientCall → Side ℕ
side_of_client calls = record { hello = client_services; mark = None; calls = end_calls calls new_client }

abbrev pub side_of_channel : Past → Side Unit
side_of_channel past = record { hello = agent_services; mark = Some past.position; calls = past.calls }

-- the past of the channel that a chain has on the agent, where that has opened it
abbrev pub channel_past : Option ℕ → List Past → Option Past
channel_past None pasts = None
channel_past (Some k) pasts = past_at k pasts

-- what a channel is told by the history, each answer under the token of its own command; and nothing where it wasn't opened
abbrev pub spoken_on : List Image → List Input → Option Past → List Spoken
spoken_on images history None = []
spoken_on images history (Some p) =
    map (λ m. record { message = m.0; mark = m.1 }) (messages_told (tokens (asked (run_of p))) (sent images p.number history))

-- the messages that a channel says, all of them; none where it wasn't opened
abbrev pub IsSaidOn : Option Past → List Spoken → Type 0
IsSaidOn None said = said ≡ []
IsSaidOn (Some p) said = filter is_message (run_of p).past.queued ≡ all_said said

-- By its past, with so many value-adds, and by that of its channel on the agent, which the agent opened or refused: the client, the
-- way, each value-add and the channel are what their calls made of new ones, and each hop of a chain that was opened stands between
-- two ends of theirs. And all that is said down a hop, whatever of it came, is told rightly.
pub record ChainHopsStand (images : List Image) (history : List Input) (agent : AgentValue) (n : ℕ) (chain : ChainValue) (own : ChainPast) (past : Option Past)
    : Type 0 where
  pub client : chain.client ≡ client_run own.calls new_client
  pub way : chain.route ≡ (way_after own.ways (way_begun n)).route
  pub adds : chain.route.adds ≡ map value_of (made_after n own.ways)
  pub channel : IfSome past (λ p. (chain.channel ≡ Some p.number) × IsEndOf (channel_end p.number agent.channels) p)
  pub refused : past ≡ None → IfSome chain.channel (λ k. was_opened k history ≡ false)
  pub hops : is_some chain.client.channel ≡ true →
      HopsStand (side_of_client own.calls) chain.route.hops (made_after n own.ways) (option_map side_of_channel past)
  pub says : IsSaidOn past (spoken_on images history past)
  pub told : AllTold images history (end_of_side (side_of_client own.calls)) (made_after n own.ways) (spoken_on images history past)

-- so do those of all chains, each by the number of its value-adds and its past, and by those of the agent's channels
abbrev pub AllHopsStand : List Image → List Input → AgentValue → List Past → List ℕ → List ChainValue → List ChainPast → Type 0
AllHopsStand images history agent pasts [] [] past = Unit {0}
AllHopsStand images history agent pasts [] (chain ∷ chains) past = ⊥
AllHopsStand images history agent pasts (n ∷ adds) [] past = ⊥
AllHopsStand images history agent pasts (n ∷ adds) (chain ∷ chains) [] = ⊥
AllHopsStand images history agent pasts (n ∷ adds) (chain ∷ chains) (own ∷ past) =
    ChainHopsStand images history agent n chain own (channel_past chain.channel pasts) × AllHopsStand images history agent pasts adds chains past

-- a world's, by its past
abbrev pub WorldHopsStand : List Image → List ℕ → WorldValue → WorldPast → Type 0
WorldHopsStand images adds w past =
    AllHopsStand images w.history w.agent (agent_after past.agent (agent_begun images)).channels adds w.chains past.chains

-- Whatever the steps of these chains are, with so many value-adds each: the hops of the world that they bring about stand, by the
-- past that they write down.
abbrev pub HopsStandAfterEverySchedule : Type 0
HopsStandAfterEverySchedule = (images : List Image) (adds : List ℕ) (plans : List Plan) → AllByRecursion IsPlayable plans →
    WorldHopsStand images adds (run plans (new_world images adds)) (past_of images adds plans)
