-- A turn of an agent, by the channel of its number.
use Rattle.std.proofs.Common.{◌≡◌, ℕ, cond, Option, Some, None, map, refl, ap, ◌∙◌}
use Rattle.std.specs.Prelude.{slice_get}
use Rattle.agent_node.specs.Agent.{is_full, took_any, turned, turned_at, turned_on}
use Rattle.agent_node.specs.AgentValue.{AgentValue}
use Rattle.agent_node.specs.declared.agent.Turned.TheVariants.{Nothing}
use Rattle.channel_list.specs.Channels.{changed, changed_at, channel_at, place_of, put_at}
use Rattle.channel_list.specs.declared.channel.Channel.{Channel}
use Rattle.channel_list.proofs.Differing.{Differ}
pub use Rattle.channel_list.proofs.Places.{at, changed_behind, changed_map, channel_number, first_place, found, next_end, none_found, place_found, put_behind, taken_of, within}

turned_there : (k place : ℕ) (there : Option Channel) (a : AgentValue) → turned_on k place there a ≡ took_any k (taken_of there) (record a { channels = put_at place next_end a.channels there })
turned_there k place None a = refl
turned_there k place (Some channel) a = refl

turned_placed : (k : ℕ) (place : Option ℕ) (a : AgentValue) → turned_at k place a ≡ took_any k (taken_of (channel_at place a.channels)) (record a { channels = changed_at place next_end a.channels })
turned_placed k None a = refl
turned_placed k (Some place) a = turned_there k place (slice_get a.channels place) a

pub turned_is : (k : ℕ) (a : AgentValue) → Differ channel_number a.channels
    → turned k a ≡ cond (is_full a) (Nothing, a) (took_any k (taken_of (found k a.channels)) (record a { channels = map (at k next_end) a.channels }))
unfolding turned
turned_is k a d =
    ap (λ p. cond (is_full a) (Nothing, a) p)
    (turned_placed k (place_of k a.channels) a
    ∙ ap (λ o. took_any k (taken_of o) (record a { channels = changed k next_end a.channels })) (place_found k a.channels)
    ∙ ap (λ cs. took_any k (taken_of (found k a.channels)) (record a { channels = cs })) (changed_map k next_end a.channels d))
