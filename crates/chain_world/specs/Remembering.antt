-- How a world stands with its past: each node is what the calls of its past make of a new one.
use Rattle.std.specs.Prelude.{ℕ, ◌≡◌, suc, List, [], ◌∷◌}
use Rattle.std.specs.List.{AllByRecursion, flat_map}
use Rattle.agent_node.specs.Runs.{Past as ChannelPast, after_all as agent_after, no_calls as agent_begun}
use Rattle.chain_route.specs.Runs.{after_all as way_after, no_calls as way_begun}
use Rattle.client_node.specs.Client.{new_client}
use Rattle.client_node.specs.Runs.{run}
use Rattle.target_contexts.specs.declared.process.Image.{Image}
use Rattle.tcf_schedules.specs.Plan.{Plan}
use Rattle.chain_world.specs.Chain.{channels_of}
use Rattle.chain_world.specs.ChainValue.{ChainValue}
use Rattle.chain_world.specs.Past.{ChainPast, Past, past_of}
use Rattle.chain_world.specs.Standing.{AreNumbered, ChainStands}
use Rattle.chain_world.specs.World.{IsPlayable, new_world, run as played}
use Rattle.chain_world.specs.WorldValue.{WorldValue}

-- a chain, at this place, which these steps brought about: it stands by the calls of its past
pub record ChainStandsBy (plans : List Plan) (pasts : List ChannelPast) (at adds : ℕ) (chain : ChainValue) (past : ChainPast) : Type 0 where
  pub client : chain.client ≡ run past.calls new_client
  pub route : chain.route ≡ (way_after past.ways (way_begun adds)).route
  pub stands : ChainStands plans pasts at adds chain
  pub calls : stands.calls ≡ past.calls
  pub ways : stands.ways ≡ past.ways

-- the chains from this place on, each by the number of its value-adds and its past
abbrev pub AllStandBy : List Plan → List ChannelPast → ℕ → List ℕ → List ChainValue → List ChainPast → Type 0
AllStandBy plans pasts at [] [] past = Unit {0}
AllStandBy plans pasts at [] (chain ∷ chains) past = ⊥
AllStandBy plans pasts at (n ∷ adds) [] past = ⊥
AllStandBy plans pasts at (n ∷ adds) (chain ∷ chains) [] = ⊥
AllStandBy plans pasts at (n ∷ adds) (chain ∷ chains) (own ∷ past) =
    ChainStandsBy plans pasts at n chain own × AllStandBy plans pasts (suc at) adds chains past

pub record StandsBy (plans : List Plan) (images : List Image) (adds : List ℕ) (w : WorldValue) (past : Past) : Type 0 where
  pub agent : (agent_after past.agent (agent_begun images)).agent ≡ w.agent
  pub history : (agent_after past.agent (agent_begun images)).history ≡ w.history
  pub chains : AllStandBy plans (agent_after past.agent (agent_begun images)).channels 0 adds w.chains past.chains
  pub numbered : AreNumbered w.next (agent_after past.agent (agent_begun images)).channels (flat_map channels_of w.chains)

-- Whatever the steps of these chains are, the world stands by the past that these steps write down.
abbrev pub StandsByItsPast : Type 0
StandsByItsPast = (images : List Image) (adds : List ℕ) (plans : List Plan) → AllByRecursion IsPlayable plans →
    StandsBy plans images adds (played plans (new_world images adds)) (past_of images adds plans)
