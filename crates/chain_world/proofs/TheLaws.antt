-- The laws of whole chains, as terms.
use Rattle.std.proofs.Common.{ℕ, suc, List, [], ◌∷◌}
use Rattle.agent_node.specs.Runs.{Past as ChannelPast, after_all as agent_after, no_calls as agent_begun}
use Rattle.tcf_schedules.specs.Plan.{Plan}
use Rattle.chain_world.specs.ChainValue.{ChainValue}
use Rattle.chain_world.specs.Past.{ChainPast, WorldIsPlayed, past_of}
use Rattle.chain_world.specs.Remembering.{AllStandBy, StandsByItsPast}
use Rattle.chain_world.specs.Standing.{AllStand, StandsAfterEverySchedule}
use Rattle.chain_world.specs.Until.{RoundsGoOn}
use Rattle.chain_world.specs.World.{new_world, run as played}
use Rattle.chain_world.proofs.AddsUntil.{add_took_all}
use Rattle.chain_world.proofs.AgentUntil.{agent_took_all}
use Rattle.chain_world.proofs.Following as following
use Rattle.chain_world.proofs.Playing.{always_stands}
use Rattle.chain_world.proofs.Until.{arrived_down, arrived_up, client_took_all}

pub world_is_played : WorldIsPlayed
world_is_played = following.world_is_played

pub world_stands_by_its_past : StandsByItsPast
world_stands_by_its_past = always_stands

-- so it stands by some calls
all_stand : (plans : List Plan) (pasts : List ChannelPast) (at : ℕ) (adds : List ℕ) (chains : List ChainValue) (past : List ChainPast) → AllStandBy plans pasts at adds chains past → AllStand plans pasts at adds chains
all_stand plans pasts at [] [] past all = tt
all_stand plans pasts at [] (chain ∷ chains) past all = absurd all
all_stand plans pasts at (n ∷ adds) [] past all = absurd all
all_stand plans pasts at (n ∷ adds) (chain ∷ chains) [] all = absurd all
all_stand plans pasts at (n ∷ adds) (chain ∷ chains) (own ∷ past) all = (all.0.stands, all_stand plans pasts (suc at) adds chains past all.1)

pub world_stands : StandsAfterEverySchedule
world_stands images adds plans playable =
    let s = world_stands_by_its_past images adds plans playable in
    record {
      calls = (past_of images adds plans).agent;
      agent = s.agent;
      history = s.history;
      chains = all_stand plans (agent_after (past_of images adds plans).agent (agent_begun images)).channels 0 adds (played plans (new_world images adds)).chains (past_of images adds plans).chains s.chains;
      numbered = s.numbered;
    }

pub rounds_go_on : RoundsGoOn
rounds_go_on = record { down = arrived_down; up = arrived_up; client = client_took_all; adds = add_took_all; agent = agent_took_all }
