-- The hops of a way of any length.
use Rattle.std.proofs.Common.{◌||◌, Bool, false, List, [], ◌∷◌, Option, ap}
use Rattle.std.specs.List.{list_any}
use Rattle.channel_laws.specs.Meeting.{Side}
use Rattle.chain_quiet.specs.Hops.{EachHopStands, IsWay}
use Rattle.chain_quiet.proofs.Rest.AddHop.{above_readable}
use Rattle.chain_quiet.specs.Stuck.{last_is_live, side_above}
use Rattle.chain_route.specs.Carrying.{Made, agent_end, end_above, past_of}
use Rattle.chain_route.specs.Runs.{Talk}
use Rattle.chain_route.specs.declared.hop.Hop.{Hop}
use Rattle.chain_quiet.proofs.Hops.AddHop.{above_given, add_hop}
use Rattle.chain_quiet.proofs.Hops.Connections.{connected_above, connected_later}
use Rattle.chain_quiet.proofs.Hops.CutHop.{cut_to_add, cut_to_agent}
use Rattle.chain_quiet.proofs.Hops.LastHop.{last_hop}

abbrev lives : List Hop → Bool
lives hops = list_any (λ hop. hop.is_live) hops

-- above a value-add there is a way again
way_above : {T : Type 0} → (s : Side T) (hop next : Hop) (hops : List Hop) (m : Made) (made : List Made) (agent : Option (Side Unit)) (talk : Talk) → IsWay s (hop ∷ next ∷ hops) (m ∷ made) agent talk
    → IsWay (side_above m) (next ∷ hops) made agent talk
way_above s hop next hops m made agent talk way = record {
  sends = above_readable m;
  given = λ live. above_given m way.adds.0 (connected_above m made (next ∷ hops) (end_above (past_of m)) (agent_end talk) way.carries.1 way.connected live);
  adds = way.adds.1;
  carries = way.carries.1;
  connected = connected_later m made (last_is_live (next ∷ hops)) way.connected;
  channel = way.channel;
  served = way.served;
}

pub hops_stand : {T : Type 0} → EachHopStands T
hops_stand s [] made agent talk way = tt
hops_stand s (hop ∷ []) [] agent talk way = (
  λ live. last_hop s hop talk way.sends way.carries (way.given (ap (λ flag. flag || false) live)) live agent (way.served live),
  λ dead. cut_to_agent s hop talk way.sends way.carries dead agent way.channel,
)
hops_stand s (hop ∷ next ∷ hops) [] agent talk way = way.carries
hops_stand s (hop ∷ []) (m ∷ made) agent talk way = absurd way.carries.1
hops_stand s (hop ∷ next ∷ hops) (m ∷ made) agent talk way = (
  (
    λ live. add_hop s hop m way.sends way.adds.0 way.carries.0 (way.given (ap (λ flag. flag || lives (next ∷ hops)) live)) live,
    cut_to_add s hop m way.sends way.carries.0,
  ),
  hops_stand (side_above m) (next ∷ hops) made agent talk (way_above s hop next hops m made agent talk way),
)
