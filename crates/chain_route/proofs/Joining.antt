-- The client connects, and the agent is reached: a way carries on.
use Rattle.std.proofs.Common.{◌≡◌, ℕ, ◌-◌, ◌<◌, nat_lt, Bool, true, false, cond, List, [], ◌∷◌, length, refl, sym, ap, ◌∙◌, subst, arith, ltb-true}
use Rattle.std.specs.List.{AllByRecursion}
use Rattle.value_node.specs.ValueValue.{ValueValue}
use Rattle.value_node.specs.declared.states.Side.{Side}
use Rattle.value_node.specs.declared.states.Side.TheVariants.{Below}
use Rattle.chain_route.specs.Carrying.{IsDead, Made, end_of}
use Rattle.chain_route.specs.Hop.{connected as hop_connected}
use Rattle.chain_route.specs.Making as making
use Rattle.chain_route.specs.Making.{fresh_made, giving, made_anew}
use Rattle.chain_route.specs.Passing.{carried}
use Rattle.chain_route.specs.Route.{connected, joined, last_of, made_at, on_hop, peer_of, with_carried}
use Rattle.chain_route.specs.RouteValue.{RouteValue}
use Rattle.chain_route.specs.Runs.{Call, Past, RouteRun, joined_by}
use Rattle.chain_route.specs.declared.hop.Hop.{Hop}
use Rattle.chain_route.proofs.Each.{EachCarries}
use Rattle.chain_route.proofs.Anew.{dead_above}
use Rattle.chain_route.proofs.Flows.{HopHolds, begun_carries, fresh_end, used}
use Rattle.chain_route.proofs.Holding.{Holds, agent_tip, client_tip, on_pair_holds, unreached_agent, with_route}
use Rattle.chain_route.proofs.Stepping.{carried_step}

pub carried_holds : {made : List Made} → (side : Side) (at : ℕ) (calls : List Call) (r : RouteRun) → Holds calls r made
    → Holds calls (with_route (with_carried side at r.route) r) (making.carried side at r.route made)
carried_holds side at calls r h = on_pair_holds side at (carried side) calls (λ v hop. giving side v) r (λ m hop has_end. carried_step side m hop) h

-- ---- The client connects

abbrev wants : Past → Past
wants p = record p { is_wanted = true }

abbrev joins_now : Past → Past
joins_now p = record p { is_joined = true }

-- to the agent: a channel is wanted
wanted_holds : {made : List Made} → (calls : List Call) (r : RouteRun) → r.past.is_joined ≡ false → Holds calls r made → Holds calls (record { route = r.route; past = wants r.past }) made
wanted_holds calls r none h = record {
  adds = h.adds;
  way = h.way;
  unmade = h.unmade;
  unjoined = h.unjoined;
  unreached = h.unreached;
  none_earlier = h.none_earlier;
  wanted = λ is. none;
  unstarted = h.unstarted;
  started = h.started;
  earlier = h.earlier;
  losses = h.losses;
}

-- to a value-add, which is made
first_made : {made : List Made} → (calls : List Call) (hops : List Hop) (adds : List ValueValue) (p : Past) → p.is_joined ≡ false → p.is_wanted ≡ false → 0 < length hops - 1
    → Holds calls (record { route = record { hops = hops; adds = adds }; past = p }) made
    → Holds calls (record { route = joined 0 (made_at 0 (record { hops = hops; adds = adds })); past = joins_now p }) (fresh_made (peer_of 0 (record { hops = hops; adds = adds })) ∷ [])
first_made calls [] adds p none unwanted more h = absurd h.way.all
first_made calls (x ∷ []) adds p none unwanted more h = absurd (omega (arith, more))
first_made calls (x ∷ g ∷ hops) adds p none unwanted more h =
    let route : RouteValue = record { hops = x ∷ g ∷ hops; adds = adds } in
    let unreached : p.is_reached ≡ false = h.unstarted none in
    let no_client : end_of p.client ≡ fresh_end = ap end_of (h.unjoined none) in
    let no_agent = unreached_agent calls (record { route = route; past = p }) h unreached in
    let dead : AllByRecursion IsDead (x ∷ g ∷ hops) = subst (λ ms. EachCarries (client_tip p) (x ∷ g ∷ hops) ms (agent_tip p)) (h.unmade none) h.way.all in
    record {
      adds = refl;
      way = record {
        all = subst (λ e. EachCarries (used (end_of p.client)) (hop_connected [] ∷ g ∷ hops) (fresh_made (peer_of 0 route) ∷ []) e) (sym no_agent)
            (subst (λ e. HopHolds (hop_connected []) (used e) (used fresh_end)) (sym no_client) begun_carries, dead_above g hops dead.1);
        connected = λ is. absurd (both is unreached);
        reached = λ is. absurd (both is unreached);
        unreached = h.way.unreached;
        unconnected = λ more. refl;
      };
      unmade = λ is. absurd cc;
      unjoined = λ is. absurd cc;
      unreached = h.unreached;
      none_earlier = h.none_earlier;
      wanted = λ is. absurd (both is unwanted);
      unstarted = λ is. absurd cc;
      started = λ is more. omega arith;
      earlier = h.earlier;
      losses = (λ is. absurd cc, tt);
    }
  where
    both : {b : Bool} → b ≡ true → b ≡ false → ⊥
    both is isnt = let no : true ≡ false = sym is ∙ isnt in cc

pub joins_kept : {made : List Made} → (calls : List Call) (r : RouteRun) → r.past.is_joined ≡ false → r.past.is_wanted ≡ false → Holds calls r made
    → Holds calls (joined_by (connected 0 r.route) r.past) (making.connected 0 r.route made)
joins_kept {made = made} calls r none unwanted h = by_flag (nat_lt 0 (last_of r.route)) refl
  where
    r1 : RouteRun
    r1 = record { route = joined 0 (made_at 0 r.route); past = joins_now r.past }

    anew : List Made
    anew = making.upper_below 0 (on_hop (λ h. hop_connected []) 0 (made_at 0 r.route)) (made_anew 0 r.route made)

    by_flag : (flag : Bool) → nat_lt 0 (last_of r.route) ≡ flag
        → Holds calls (joined_by (cond flag (false, with_carried Below 0 (joined 0 (made_at 0 r.route))) (true, r.route)) r.past) (cond flag (making.carried Below 0 (joined 0 (made_at 0 r.route)) anew) made)
    by_flag true is = carried_holds Below 0 calls r1 (first_made calls r.route.hops r.route.adds r.past none unwanted (ltb-true 0 (last_of r.route) is) h)
    by_flag false is = wanted_holds calls r none h
