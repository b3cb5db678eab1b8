-- Nothing is stuck on a way of any length.
use Rattle.std.proofs.Common.{List, [], ◌∷◌}
use Rattle.channel_laws.specs.Meeting.{Side}
use Rattle.chain_quiet.specs.Stuck.{IsWayStill, StillWaysAreUnstuck, end_of_side, side_above}
use Rattle.chain_route.specs.Carrying.{IsUnused, Made}
use Rattle.chain_route.specs.Runs.{Talk}
use Rattle.chain_route.specs.declared.hop.Hop.{Hop}
use Rattle.chain_quiet.proofs.Rest.AddHop.{above_readable, add_rests}
use Rattle.chain_quiet.proofs.Rest.Facts.{not_unused}
use Rattle.chain_quiet.proofs.Rest.LastHop.{last_rests}
use Rattle.chain_quiet.proofs.Rest.Resting.{Rests}

-- an end that was never used isn't there
unused_rests : {T : Type 0} → (s : Side T) (talk : Talk) → IsUnused (end_of_side s) → Rests s [] talk
unused_rests s talk unused = record {
  unstuck = record {
    adds = tt;
    free = λ still opened. absurd (not_unused s still unused);
    all_taken = λ still opened bound said formed is. absurd (not_unused s still unused);
  };
  greeted = λ still opened. absurd (not_unused s still unused);
}

way_rests : {T : Type 0} → (s : Side T) (hops : List Hop) (made : List Made) (talk : Talk) → IsWayStill s hops made talk → Rests s made talk
way_rests s [] made talk way = absurd way.carries
way_rests s (hop ∷ []) [] talk way = last_rests s hop talk way.sends way.hops_are.0 way.carries way.served
way_rests s (hop ∷ next ∷ hops) [] talk way = unused_rests s talk way.carries.0
way_rests s (hop ∷ []) (m ∷ made) talk way = absurd way.carries.1
way_rests s (hop ∷ next ∷ hops) (m ∷ made) talk way =
    let rest : IsWayStill (side_above m) (next ∷ hops) made talk =
    record { sends = above_readable m; hops_are = way.hops_are.1; adds = way.adds.1; carries = way.carries.1; served = way.served } in
    add_rests s hop m made talk way.sends way.hops_are.0 way.adds.0 way.carries.0 (way_rests (side_above m) (next ∷ hops) made talk rest)

pub none_stuck : {T : Type 0} → StillWaysAreUnstuck T
none_stuck s hops made talk way = (way_rests s hops made talk way).unstuck
