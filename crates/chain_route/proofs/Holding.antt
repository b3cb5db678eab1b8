-- What holds of a way after any calls: each hop carries, and what else each call needs to keep it. The calls that it speaks of
-- are all those of a run, of which the way has had a front.
use Rattle.std.proofs.Common.{◌≡◌, ◌<◌, ℕ, zero, suc, Bool, true, false, List, [], ◌∷◌, length, map, Option, Some, None, refl, sym, ap, ◌∙◌, subst, arith}
use Rattle.std.specs.Prelude.{slice_get, slice_set}
use Rattle.std.specs.List.{AllByRecursion}
use Rattle.value_node.specs.Runs as value
use Rattle.value_node.specs.ValueValue.{ValueValue}
use Rattle.value_node.specs.declared.states.Side.{Side}
use Rattle.chain_route.specs.Carrying.{AllLoseByCuts, IsGoneBy, IsUnused, LosesByCut, Made, agent_end, end_of, value_of}
use Rattle.chain_route.specs.Making.{called_at, pair_called, receiving, with_calls}
use Rattle.chain_route.specs.Making as making
use Rattle.chain_route.specs.Passing.{Pair, delivered, pair}
use Rattle.chain_route.specs.Route.{beside, delivered_at, pair_put, with_pair}
use Rattle.chain_route.specs.RouteValue.{RouteValue}
use Rattle.chain_route.specs.Runs.{Call, Past, RouteRun, no_talk}
use Rattle.chain_route.specs.declared.hop.Hop.{Hop}
use Rattle.chain_route.proofs.Flows.{Tip, fresh_end, unused_tip}
use Rattle.chain_route.proofs.Stepping.{IsOpenAt, delivered_step}
use Rattle.chain_route.proofs.Losses.{loses_same, losses_set}
use Rattle.chain_route.proofs.Moving.{Moves, Step}
use Rattle.chain_route.proofs.Ways.{IsMapped, Way, get_mapped, is_open, set_mapped, way_moved}
use Rattle.list_laws.proofs.Lists.{set_length}

-- the client's end
abbrev pub client_tip : Past → Tip
client_tip p = record { end = end_of p.client; is_used = p.is_joined }

-- and the agent's
abbrev pub agent_tip : Past → Tip
agent_tip p = record { end = agent_end p.agent; is_used = p.is_reached }

-- with these value-adds
pub record Holds (calls : List Call) (r : RouteRun) (made : List Made) : Type 0 where
  pub adds : r.route.adds ≡ map value_of made
  pub way : Way (client_tip r.past) r.route.hops made (agent_tip r.past)
  pub unmade : r.past.is_joined ≡ false → made ≡ []
  pub unjoined : r.past.is_joined ≡ false → r.past.client ≡ no_talk
  pub unreached : r.past.is_reached ≡ false → r.past.agent ≡ no_talk
  pub none_earlier : r.past.is_reached ≡ false → r.past.earlier ≡ []
  pub wanted : r.past.is_wanted ≡ true → r.past.is_joined ≡ false
  pub unstarted : r.past.is_joined ≡ false → r.past.is_reached ≡ false
  pub started : r.past.is_joined ≡ true → 1 < length r.route.hops → 0 < length made  -- the client's first value-add was made
  pub earlier : AllByRecursion IsGoneBy r.past.earlier
  pub losses : AllLoseByCuts calls 0 made

-- the client used its end for nothing before
pub idle_client : {made : List Made} → (calls : List Call) (r : RouteRun) (h : Holds calls r made) → r.past.is_joined ≡ false → IsUnused (end_of r.past.client)
idle_client calls r h is = let talk = h.unjoined is in subst (λ t. IsUnused (end_of t)) (sym talk) (refl, refl)

pub unused_client : {made : List Made} → (calls : List Call) (r : RouteRun) (h : Holds calls r made) → length made ≡ 0 → 1 < length r.route.hops → IsUnused (end_of r.past.client)
unused_client calls r h none more = by_flag r.past.is_joined refl
  where
    by_flag : (flag : Bool) → r.past.is_joined ≡ flag → IsUnused (end_of r.past.client)
    by_flag true is = let some = h.started is more in absurd (omega (arith, none, some))
    by_flag false is = idle_client calls r h is

-- nothing was said to the agent before it was reached
pub unreached_agent : {made : List Made} → (calls : List Call) (r : RouteRun) (h : Holds calls r made) → r.past.is_reached ≡ false → agent_tip r.past ≡ unused_tip
unreached_agent calls r h is =
    ap (λ talk. record { end = agent_end talk; is_used = r.past.is_reached }) (h.unreached is) ∙ ap (λ flag. record { end = fresh_end; is_used = flag }) is

pub idle_agent : {made : List Made} → (calls : List Call) (r : RouteRun) (h : Holds calls r made) → r.past.is_reached ≡ false → IsUnused (agent_end r.past.agent)
idle_agent calls r h is = subst (λ t. IsUnused t.end) (sym (unreached_agent calls r h is)) (refl, refl)

-- ---- Calls of the value-add at a place

pub called_there : (at : ℕ) (calls : List value.Call) (made : List Made) (m : Made) → slice_get made at ≡ Some m → called_at at calls made ≡ slice_set made at (with_calls calls m)
called_there at calls [] m there = absurd cc
called_there zero calls (x ∷ made) m there = let is : x ≡ m = cc in ap (λ y. with_calls calls y ∷ made) is
called_there (suc at) calls (x ∷ made) m there = ap (λ ms. x ∷ ms) (called_there at calls made m there)

-- ---- A value-add and a hop beside it change

abbrev pub with_route : RouteValue → RouteRun → RouteRun
with_route route r = record r { route = route }

module _ {made : List Made} (side : Side) (at : ℕ) (calls : List Call) (r : RouteRun) (h : Holds calls r made) where
  moved_holds : (m next : Made) (hop after : Hop) → slice_get made at ≡ Some m → slice_get r.route.hops (beside side at) ≡ Some hop → Moves side m next hop after
      → (LosesByCut calls at m → LosesByCut calls at next) → Holds calls (with_route (with_pair side at (pair (value_of next) after) r.route) r) (slice_set made at next)
  moved_holds m next hop after there hop_is moves loses = record {
    adds = ap (λ vs. slice_set vs at (value_of next)) h.adds ∙ set_mapped value_of at made next;
    way = way_moved side at (client_tip r.past) r.route.hops made (agent_tip r.past) m next hop after there hop_is moves h.way;
    unmade = λ is. ap (λ ms. slice_set ms at next) (h.unmade is);
    unjoined = h.unjoined;
    unreached = h.unreached;
    none_earlier = h.none_earlier;
    wanted = h.wanted;
    unstarted = h.unstarted;
    started = λ is more. omega (arith, set_length at made next, h.started is (omega (arith, more, set_length (beside side at) r.route.hops after)));
    earlier = h.earlier;
    losses = losses_set calls at made m next there loses h.losses;
  }

module _ (side : Side) (at : ℕ) (change : Pair → Pair) (calls : List Call) where
  pair_holds : {made : List Made} → (r : RouteRun) (h : Holds calls r made) (m next : Made) (hop : Hop) → slice_get made at ≡ Some m → slice_get r.route.hops (beside side at) ≡ Some hop
      → Step side m hop next (change (pair (value_of m) hop)) → Holds calls (with_route (with_pair side at (change (pair (value_of m) hop)) r.route) r) (slice_set made at next)
  pair_holds {made = made} r h m next hop there hop_is step =
      let p = change (pair (value_of m) hop) in
      subst (λ v. Holds calls (with_route (with_pair side at (pair v p.hop) r.route) r) (slice_set made at next)) step.value
      (moved_holds side at calls r h m next hop p.hop there hop_is step.moves (loses_same calls at m next step.lost))

  -- with what is called of the value-add
  pub on_pair_holds : {made : List Made} → (asks : ValueValue → Hop → List value.Call) (r : RouteRun)
      → ((m : Made) (hop : Hop) → (hop.is_live ≡ true → IsOpenAt side m) → Step side m hop (with_calls (asks (value_of m) hop) m) (change (pair (value_of m) hop)))
      → Holds calls r made
      → Holds calls (with_route (pair_put change side at (slice_get r.route.adds at) (slice_get r.route.hops (beside side at)) r.route) r)
      (pair_called asks at (slice_get r.route.adds at) (slice_get r.route.hops (beside side at)) made)
  on_pair_holds {made = made} asks r steps h = by_parts (slice_get r.route.adds at) (slice_get r.route.hops (beside side at)) refl refl
    where
      by_made : (v : ValueValue) (hop : Hop) → IsMapped value_of made at v → slice_get r.route.hops (beside side at) ≡ Some hop
          → Holds calls (with_route (with_pair side at (change (pair v hop)) r.route) r) (called_at at (asks v hop) made)
      by_made v hop m hop_is =
          let has_end = is_open side at (client_tip r.past) r.route.hops made (agent_tip r.past) m.from hop m.there hop_is h.way in
          let asked = asks (value_of m.from) hop in
          let changed : RouteRun = with_route (with_pair side at (change (pair (value_of m.from) hop)) r.route) r in
          subst (λ x. Holds calls (with_route (with_pair side at (change (pair x hop)) r.route) r) (called_at at (asks x hop) made)) m.value
          (subst (Holds calls changed) (sym (called_there at asked made m.from m.there)) (pair_holds r h m.from (with_calls asked m.from) hop m.there hop_is (steps m.from hop has_end)))

      by_parts : (add : Option ValueValue) (hop : Option Hop) → slice_get r.route.adds at ≡ add → slice_get r.route.hops (beside side at) ≡ hop
          → Holds calls (with_route (pair_put change side at add hop r.route) r) (pair_called asks at add hop made)
      by_parts None None add_is hop_is = h
      by_parts None (Some hop) add_is hop_is = h
      by_parts (Some v) None add_is hop_is = h
      by_parts (Some v) (Some hop) add_is hop_is =
          by_made v hop (get_mapped value_of at made v (sym (ap (λ vs. slice_get vs at) h.adds) ∙ add_is)) hop_is

-- ---- Bytes arrive at a value-add

pub delivers_holds : {made : List Made} → (side : Side) (at count : ℕ) (calls : List Call) (r : RouteRun) → Holds calls r made
    → Holds calls (with_route (delivered_at side at count r.route) r) (making.delivered side count at r.route made)
delivers_holds side at count calls r h = on_pair_holds side at (delivered side count) calls (receiving side count) r (λ m hop has_end. delivered_step side count m hop has_end) h
