-- A value-add that waits connects to one that is made anew: a way carries on.
use Rattle.std.proofs.Common.{◌≡◌, ℕ, zero, suc, ◌+◌, ◌-◌, ◌==◌, nat_lt, Bool, true, false, cond, List, [], ◌∷◌, ◌++◌, map, take, Some, refl, sym, ap, ◌∙◌, subst, arith, ne_eqb, length-append, ltb-true}
use Rattle.std.specs.Prelude.{IsSome, slice_get, slice_set}
use Rattle.std.proofs.lemmas.List.{map-append}
use Rattle.value_node.specs.Runs.{called, connects}
use Rattle.value_node.specs.Value.{connected as value_connected, new_value}
use Rattle.value_node.specs.ValueValue.{ValueValue}
use Rattle.value_node.specs.declared.states.Side.TheVariants.{Below, Above}
use Rattle.chain_route.specs.Carrying.{HaveConnected, Made, past_of, value_of}
use Rattle.chain_route.specs.Hop.{connected as hop_connected}
use Rattle.chain_route.specs.Making as making
use Rattle.chain_route.specs.Making.{called_at, fresh_made, made_anew}
use Rattle.chain_route.specs.Route.{add_put, connected, hop_put, joined, last_of, made_at, on_hop, peer_of, upper_below, with_carried, with_upper}
use Rattle.chain_route.specs.RouteValue.{RouteValue}
use Rattle.chain_route.specs.Runs.{Call, RouteRun}
use Rattle.chain_route.specs.declared.hop.Hop.{Hop}
use Rattle.chain_route.proofs.Each.{EachCarries, last_anew}
use Rattle.chain_route.proofs.Anew.{AreDeadBehind}
use Rattle.chain_route.proofs.Behind.{EndsBehind, ends_behind}
use Rattle.chain_route.proofs.Bytes.{take_mapped}
use Rattle.chain_route.proofs.Holding.{Holds, agent_tip, called_there, client_tip, unreached_agent, with_route}
use Rattle.chain_route.proofs.Joining.{carried_holds}
use Rattle.chain_route.proofs.Losses.{loses_same, losses_anew, losses_set, lost_same}
use Rattle.chain_route.proofs.Moving.{call_value}
use Rattle.chain_route.proofs.Reaching.{Awaits, above_anew, anew, below_anew, connected_anew, turned_anew}
use Rattle.chain_route.proofs.Ways.{LastDead, Way, set_mapped}
use Rattle.list_laws.proofs.Lists.{set_length}

-- ---- Lists, and the hops behind

last_behind : (k : ℕ) (hops : List Hop) (x : Hop) → AreDeadBehind k hops → LastDead hops → LastDead (slice_set hops k x)
last_behind k [] x dead last = absurd dead
last_behind zero (h ∷ []) x dead last = absurd dead
last_behind zero (h ∷ g ∷ hops) x dead last = last
last_behind (suc k) (h ∷ []) x dead last = absurd dead
last_behind (suc zero) (h ∷ g ∷ hops) x dead last = last_behind zero (g ∷ hops) x dead last
last_behind (suc (suc k)) (h ∷ g ∷ hops) x dead last = last_behind (suc k) (g ∷ hops) x dead last

pub record HasAt {A : Type 0} (xs : List A) (i : ℕ) : Type 0 where
  pub x : A
  pub there : slice_get xs i ≡ Some x

hop_at : (k : ℕ) (hops : List Hop) → AreDeadBehind k hops → HasAt hops k
hop_at k [] dead = absurd dead
hop_at zero (h ∷ hops) dead = record { x = h; there = refl }
hop_at (suc k) (h ∷ hops) dead = let rest = hop_at k hops dead in record { x = rest.x; there = rest.there }

taken_at : {A : Type 0} → (at : ℕ) (xs ys : List A) (x : A) → slice_get xs at ≡ Some x → slice_get (take (suc at) xs ++ ys) at ≡ Some x
taken_at at [] ys x there = absurd cc
taken_at zero (z ∷ xs) ys x there = there
taken_at (suc at) (z ∷ xs) ys x there = taken_at at xs ys x there

new_connected : (at : ℕ) (peer : List ℕ) (made : List Made) (is_reached : Bool) (m next : Made) → slice_get made at ≡ Some m → IsSome (past_of next).connection → is_reached ≡ false
    → HaveConnected made is_reached → HaveConnected (slice_set (take (suc at) made ++ fresh_made peer ∷ []) at next) is_reached
new_connected at peer [] is_reached m next there some none have = absurd cc
new_connected zero peer (x ∷ made) is_reached m next there some none have = (some, λ is. let no : true ≡ false = sym is ∙ none in absurd cc)
new_connected (suc at) peer (x ∷ []) is_reached m next there some none have = absurd cc
new_connected (suc zero) peer (x ∷ y ∷ made) is_reached m next there some none have = (have.0, new_connected zero peer (y ∷ made) is_reached m next there some none have.1)
new_connected (suc (suc at)) peer (x ∷ y ∷ made) is_reached m next there some none have = (have.0, new_connected (suc at) peer (y ∷ made) is_reached m next there some none have.1)

pub mapped_at : (i : ℕ) (made : List Made) (x : Made) → slice_get made i ≡ Some x → slice_get (map value_of made) i ≡ Some (value_of x)
mapped_at i [] x is = absurd cc
mapped_at zero (y ∷ made) x is = let same : y ≡ x = cc in ap (λ z. Some (value_of z)) same
mapped_at (suc i) (y ∷ made) x is = mapped_at i made x is

-- ---- A hop is connected above a value-add that waits

abbrev pub begun_at : Hop → ℕ → ValueValue → RouteValue → RouteValue
begun_at h at v route = record { hops = slice_set route.hops (suc at) h; adds = slice_set route.adds at (called connects v) }

pub begins_at : (h : Hop) (at : ℕ) (route : RouteValue) (v : ValueValue) → HasAt route.hops (suc at) → slice_get route.adds at ≡ Some v
    → upper_below (suc at) (on_hop (λ x. h) (suc at) route) ≡ with_carried Above at (begun_at h at v route)
begins_at h at route v hop add =
    let next = record route { hops = slice_set route.hops (suc at) h } in
    let on : on_hop (λ x. h) (suc at) route ≡ next = ap (λ o. hop_put (λ x. h) (suc at) o route) hop.there in
    let some : (suc at == 0) ≡ false = ne_eqb (suc at) 0 (λ is. absurd (omega (arith, is))) in
    let less : suc at - 1 ≡ at = omega arith in
    ap (λ y. cond (suc at == 0) y (with_upper (suc at - 1) y)) on
    ∙ ap (λ b. cond b next (with_upper (suc at - 1) next)) some
    ∙ ap (λ n. with_upper n next) less
    ∙ ap (λ o. with_carried Above at (add_put value_connected at o next)) add

-- and so it is called of the value-add
pub begins_made : (h : Hop) (at : ℕ) (route : RouteValue) (v : ValueValue) (made : List Made) (m : Made) → HasAt route.hops (suc at) → slice_get route.adds at ≡ Some v → slice_get made at ≡ Some m
    → making.upper_below (suc at) (on_hop (λ x. h) (suc at) route) made ≡ making.carried Above at (begun_at h at v route) (slice_set made at (anew m))
begins_made h at route v made m hop add there =
    let next = record route { hops = slice_set route.hops (suc at) h } in
    let on : on_hop (λ x. h) (suc at) route ≡ next = ap (λ o. hop_put (λ x. h) (suc at) o route) hop.there in
    let some : (suc at == 0) ≡ false = ne_eqb (suc at) 0 (λ is. absurd (omega (arith, is))) in
    let less : suc at - 1 ≡ at = omega arith in
    ap (λ y. cond (suc at == 0) made (making.with_upper (suc at - 1) y made)) on
    ∙ ap (λ b. cond b made (making.with_upper (suc at - 1) next made)) some
    ∙ ap (λ n. making.with_upper n next made) less
    ∙ ap (λ o. making.carried Above at (add_put value_connected at o next) (called_at at (connects ∷ []) made)) add
    ∙ ap (making.carried Above at (begun_at h at v route)) (called_there at (connects ∷ []) made m there)

-- ---- The hop begins anew, and so does the upper end below it; nothing is carried yet

module _ {made : List Made} (at : ℕ) (calls : List Call) (r : RouteRun) (h : Holds calls r made) (m : Made) (there : slice_get made at ≡ Some m) (waits : Awaits m) (behind : EndsBehind at r.route.hops r.past.is_reached) where
  abbrev peer : List ℕ
  peer = peer_of (suc at) r.route

  abbrev made_now : List Made
  made_now = slice_set (take (suc at) made ++ fresh_made peer ∷ []) at (anew m)

  abbrev begun : RouteValue
  begun = record {
    hops = slice_set r.route.hops (suc at) (hop_connected []);
    adds = slice_set (take (suc at) r.route.adds ++ new_value peer ∷ []) at (called connects (value_of m));
  }

  adds_now : begun.adds ≡ map value_of made_now
  adds_now =
      let front = take (suc at) made ++ fresh_made peer ∷ [] in
      ap (λ vs. slice_set (take (suc at) vs ++ new_value peer ∷ []) at (called connects (value_of m))) h.adds
      ∙ ap (λ vs. slice_set (vs ++ new_value peer ∷ []) at (called connects (value_of m))) (take_mapped value_of (suc at) made)
      ∙ ap (λ vs. slice_set vs at (called connects (value_of m))) (sym (map-append value_of (take (suc at) made) (fresh_made peer ∷ [])))
      ∙ ap (λ v. slice_set (map value_of front) at v) (sym (call_value connects m))
      ∙ set_mapped value_of at front (anew m)

  way_now : Way (client_tip r.past) begun.hops made_now (agent_tip r.past)
  way_now =
      let agent = unreached_agent calls r h behind.unreached in
      record {
        all = subst (λ e. EachCarries (client_tip r.past) begun.hops made_now e) (sym agent)
            (turned_anew at peer (client_tip r.past) r.route.hops made m (anew m) there behind.dead (below_anew m waits) (above_anew m waits)
            (subst (λ e. EachCarries (client_tip r.past) r.route.hops made e) agent h.way.all));
        connected = new_connected at peer made r.past.is_reached m (anew m) there (connected_anew m waits) behind.unreached h.way.connected;
        reached = λ is. let no : true ≡ false = sym is ∙ behind.unreached in absurd cc;
        unreached = λ is. last_behind (suc at) r.route.hops (hop_connected []) behind.dead (h.way.unreached is);
        unconnected = λ more. last_anew at made m (anew m) (fresh_made peer) there refl;
      }

  begun_holds : Holds calls (with_route begun r) made_now
  begun_holds = record {
    adds = adds_now;
    way = way_now;
    unmade = λ is. let none : slice_get [] at ≡ Some m = sym (ap (λ ms. slice_get ms at) (h.unmade is)) ∙ there in absurd cc;
    unjoined = h.unjoined;
    unreached = h.unreached;
    none_earlier = h.none_earlier;
    wanted = h.wanted;
    unstarted = h.unstarted;
    started = λ is more.
        let front = take (suc at) made ++ fresh_made peer ∷ [] in
        omega (arith, set_length at front (anew m), length-append (take (suc at) made) (fresh_made peer ∷ []));
    earlier = h.earlier;
    losses = losses_set calls at (take (suc at) made ++ fresh_made peer ∷ []) m (anew m) (taken_at at made (fresh_made peer ∷ []) m there)
        (loses_same calls at m (anew m) (lost_same connects m refl)) (losses_anew calls 0 (suc at) peer made h.losses);
  }

  -- the route is that, with the Hello of the upper end on its way
  joined_is : joined (suc at) (made_at (suc at) r.route) ≡ with_carried Above at begun
  joined_is =
      begins_at (hop_connected []) at (made_at (suc at) r.route) (value_of m) (hop_at (suc at) r.route.hops behind.dead)
      (taken_at at r.route.adds (new_value peer ∷ []) (value_of m) (ap (λ vs. slice_get vs at) h.adds ∙ mapped_at at made m there))

  -- and the value-adds are those, with what is called of the one that connects
  joined_made : making.upper_below (suc at) (on_hop (λ x. hop_connected []) (suc at) (made_at (suc at) r.route)) (made_anew (suc at) r.route made) ≡ making.carried Above at begun made_now
  joined_made =
      begins_made (hop_connected []) at (made_at (suc at) r.route) (value_of m) (made_anew (suc at) r.route made) m (hop_at (suc at) r.route.hops behind.dead)
      (taken_at at r.route.adds (new_value peer ∷ []) (value_of m) (ap (λ vs. slice_get vs at) h.adds ∙ mapped_at at made m there))
      (taken_at at made (fresh_made peer ∷ []) m there)

  joined_holds : Holds calls (with_route (with_carried Below (suc at) (joined (suc at) (made_at (suc at) r.route))) r)
      (making.carried Below (suc at) (joined (suc at) (made_at (suc at) r.route)) (making.upper_below (suc at) (on_hop (λ x. hop_connected []) (suc at) (made_at (suc at) r.route)) (made_anew (suc at) r.route made)))
  joined_holds =
      let up : Holds calls (with_route (with_carried Above at begun) r) (making.carried Above at begun made_now) = carried_holds Above at calls (with_route begun r) begun_holds in
      carried_holds Below (suc at) calls (with_route (joined (suc at) (made_at (suc at) r.route)) r)
      (subst (Holds calls (with_route (joined (suc at) (made_at (suc at) r.route)) r)) (sym joined_made)
      (subst (λ route. Holds calls (with_route route r) (making.carried Above at begun made_now)) (sym joined_is) up))

-- to the agent, when the caller has it open a channel; else to a value-add that is made anew
pub connects_kept : {made : List Made} → (at : ℕ) (calls : List Call) (r : RouteRun) (h : Holds calls r made) (m : Made) → slice_get made at ≡ Some m → Awaits m
    → Holds calls (with_route (connected (at + 1) r.route).1 r) (making.connected (at + 1) r.route made)
connects_kept {made = made} at calls r h m there waits =
    let one : suc at ≡ at + 1 = omega arith in
    subst (λ k. Holds calls (with_route (connected k r.route).1 r) (making.connected k r.route made)) one (by_flag (nat_lt (suc at) (last_of r.route)) refl)
  where
    anew_made : List Made
    anew_made = making.upper_below (suc at) (on_hop (λ x. hop_connected []) (suc at) (made_at (suc at) r.route)) (made_anew (suc at) r.route made)

    by_flag : (flag : Bool) → nat_lt (suc at) (last_of r.route) ≡ flag
        → Holds calls (with_route (cond {A = Bool × RouteValue} flag (false, with_carried Below (suc at) (joined (suc at) (made_at (suc at) r.route))) (true, r.route)).1 r)
        (cond flag (making.carried Below (suc at) (joined (suc at) (made_at (suc at) r.route)) anew_made) made)
    by_flag true is =
        let less = ltb-true (suc at) (last_of r.route) is in
        let behind = ends_behind at (client_tip r.past) r.route.hops made (agent_tip r.past) m there waits (omega (arith, less)) h.way in
        joined_holds at calls r h m there waits behind
    by_flag false is = h
