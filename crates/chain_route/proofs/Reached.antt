-- The agent is reached, or refuses: a way carries on.
use Rattle.std.proofs.Common.{◌≡◌, ℕ, zero, suc, ◌+◌, ◌-◌, ◌==◌, ◌<◌, Bool, true, false, cond, List, [], ◌∷◌, ◌++◌, length, map, Some, refl, sym, ap, ◌∙◌, subst, arith, ne_eqb}
use Rattle.std.specs.Prelude.{IsSome, slice_get, slice_set}
use Rattle.std.specs.List.{AllByRecursion}
use Rattle.channel_core.specs.Arrivals.{bytes_of}
use Rattle.value_node.specs.Runs.{called, connects}
use Rattle.value_node.specs.ValueValue.{ValueValue}
use Rattle.value_node.specs.declared.states.Side.TheVariants.{Above}
use Rattle.chain_route.specs.Carrying.{HaveConnected, IsGoneBy, Made, end_above, end_of, past_of, value_of}
use Rattle.chain_route.specs.Hop as hop
use Rattle.chain_route.specs.Hop.{connected}
use Rattle.chain_route.specs.Making as making
use Rattle.chain_route.specs.Making.{opened_hop}
use Rattle.chain_route.specs.Route.{last_of, on_hop, reached, upper_below, with_carried}
use Rattle.chain_route.specs.RouteValue.{RouteValue}
use Rattle.chain_route.specs.Runs.{Call, Past, RouteRun, awaits_of, earlier_of, is_waiting, reached_past}
use Rattle.chain_route.specs.declared.hop.Hop.{Hop}
use Rattle.chain_route.proofs.Each.{EachCarries}
use Rattle.chain_route.proofs.Adds.{tip_above}
use Rattle.chain_route.proofs.Connecting.{HasAt, begins_at, begins_made, begun_at, mapped_at}
use Rattle.chain_route.proofs.Flows.{HopHolds, Tip, fresh_end, used}
use Rattle.chain_route.proofs.Holding.{Holds, agent_tip, client_tip}
use Rattle.chain_route.proofs.Joining.{carried_holds}
use Rattle.chain_route.proofs.Losses.{loses_same, losses_set, lost_same}
use Rattle.chain_route.proofs.Moving.{call_value}
use Rattle.chain_route.proofs.Reaching.{Awaits, above_anew, anew, below_anew, connected_anew, gone_by, opened_carries, reached_all, waits_in}
use Rattle.chain_route.proofs.Ways.{made_size, set_mapped}
use Rattle.list_laws.proofs.AllLists.{all_append}
use Rattle.list_laws.proofs.Lists.{get_within as some_within, set_length}
use Rattle.list_laws.specs.Fronts.{IsFront}

-- ---- Straight from the client: nothing was said on the hop, and the agent wasn't reached

opened_way : {made : List Made} → (calls : List Call) (did : Bool) (x after : Hop) (adds : List ValueValue) (p : Past) → p.is_wanted ≡ true → HopHolds after (used fresh_end) (agent_tip (reached_past did p))
    → Holds calls (record { route = record { hops = x ∷ []; adds = adds }; past = p }) made
    → Holds calls (record { route = record { hops = after ∷ []; adds = adds }; past = reached_past did p }) made
opened_way calls did x after adds p wanted carries h =
    let none : p.is_joined ≡ false = h.wanted wanted in
    let client : end_of p.client ≡ fresh_end = ap end_of (h.unjoined none) in
    let earlier : earlier_of p ≡ p.earlier = ap (λ b. cond b (p.earlier ++ p.agent.got ∷ []) p.earlier) (h.unstarted none) in
    subst (Holds calls (record { route = record { hops = after ∷ []; adds = adds }; past = reached_past did p })) (sym (h.unmade none))
    (record {
      adds = h.adds ∙ ap (map value_of) (h.unmade none);
      way = record {
        all = subst (λ e. HopHolds after (used e) (agent_tip (reached_past did p))) (sym client) carries;
        connected = tt;
        reached = λ is. refl;
        unreached = λ is. absurd cc;
        unconnected = λ more. absurd (omega (arith, more));
      };
      unmade = λ is. absurd cc;
      unjoined = λ is. absurd cc;
      unreached = λ is. absurd cc;
      none_earlier = λ is. absurd cc;
      wanted = λ is. absurd cc;
      unstarted = λ is. absurd cc;
      started = λ is more. absurd (omega (arith, more));
      earlier = subst (AllByRecursion IsGoneBy) (sym earlier) h.earlier;
      losses = tt;
    })

wanted_reached : {made : List Made} → (calls : List Call) (did : Bool) (x : Hop) (adds : List ValueValue) (p : Past) → p.is_wanted ≡ true → Holds calls (record { route = record { hops = x ∷ []; adds = adds }; past = p }) made
    → Holds calls (record { route = reached did (record { hops = x ∷ []; adds = adds }); past = reached_past did p }) made
wanted_reached calls true x adds p wanted h = opened_way calls true x (connected []) adds p wanted (opened_carries true) h
wanted_reached calls false x adds p wanted h = opened_way calls false x hop.refused adds p wanted (opened_carries false) h

-- ---- By the last value-add

-- all value-adds were made
all_connected : (at : ℕ) (made : List Made) (is_reached : Bool) (m next : Made) → slice_get made at ≡ Some m → length made ≡ at + 1 → IsSome (past_of next).connection
    → HaveConnected made is_reached → HaveConnected (slice_set made at next) true
all_connected at [] is_reached m next there size some have = absurd cc
all_connected zero (x ∷ []) is_reached m next there size some have = λ is. some
all_connected zero (x ∷ y ∷ made) is_reached m next there size some have = absurd (omega (arith, size))
all_connected (suc at) (x ∷ []) is_reached m next there size some have = absurd cc
all_connected (suc zero) (x ∷ y ∷ made) is_reached m next there size some have = (have.0, all_connected zero (y ∷ made) is_reached m next there (omega (arith, size)) some have.1)
all_connected (suc (suc at)) (x ∷ y ∷ made) is_reached m next there size some have = (have.0, all_connected (suc at) (y ∷ made) is_reached m next there (omega (arith, size)) some have.1)

-- what came to the channel that it takes the place of was given by an end that took no Hello
earlier_gone : {made : List Made} → (calls : List Call) (r : RouteRun) (h : Holds calls r made) (at : ℕ) (m : Made) → slice_get made at ≡ Some m → length r.route.hops ≡ at + 2 → Awaits m
    → AllByRecursion IsGoneBy (earlier_of r.past)
earlier_gone {made = made} calls r h at m there size waits = by_flag r.past.is_reached refl
  where
    last_connected : (i : ℕ) (made : List Made) → slice_get made i ≡ Some m → length made ≡ i + 1 → HaveConnected made true → IsSome (past_of m).connection
    last_connected i [] is few have = absurd cc
    last_connected zero (x ∷ []) is few have = let same : x ≡ m = cc in subst (λ y. IsSome (past_of y).connection) same (have refl)
    last_connected zero (x ∷ y ∷ made) is few have = absurd (omega (arith, few))
    last_connected (suc i) (x ∷ []) is few have = absurd cc
    last_connected (suc i) (x ∷ y ∷ made) is few have = last_connected i (y ∷ made) is (omega (arith, few)) have.1

    last_front : (i : ℕ) (lower : Tip) (hops : List Hop) (made : List Made) → slice_get made i ≡ Some m → length hops ≡ i + 2 → EachCarries lower hops made (agent_tip r.past)
        → IsFront (bytes_of r.past.agent.got) (bytes_of (end_above (past_of m)).gave)
    last_front i lower [] made is few all = absurd all
    last_front i lower (h ∷ hops) [] is few all = absurd cc
    last_front i lower (h ∷ []) (x ∷ made) is few all = absurd all.1
    last_front zero lower (h ∷ g ∷ f ∷ hops) (x ∷ made) is few all = absurd (omega (arith, few))
    last_front zero lower (h ∷ g ∷ []) (x ∷ y ∷ made) is few all = absurd all.1.1
    last_front zero lower (h ∷ g ∷ []) (x ∷ []) is few all =
        let same : x ≡ m = cc in
        let carries : HopHolds g (tip_above x) (agent_tip r.past) = all.1 in
        subst (λ y. IsFront (bytes_of r.past.agent.got) (bytes_of (end_above (past_of y)).gave)) same carries.up_front
    last_front (suc i) lower (h ∷ g ∷ hops) (x ∷ made) is few all = last_front i (tip_above x) (g ∷ hops) made is (omega (arith, few)) all.1

    count : length made ≡ at + 1
    count =
        let most = made_size (client_tip r.past) r.route.hops made (agent_tip r.past) h.way.all in
        let least = some_within at made m there in
        omega (arith, most, least, size)

    by_flag : (flag : Bool) → r.past.is_reached ≡ flag → AllByRecursion IsGoneBy (cond flag (r.past.earlier ++ r.past.agent.got ∷ []) r.past.earlier)
    by_flag true is =
        let some = last_connected at made there count (subst (λ b. HaveConnected made b) is h.way.connected) in
        let front = last_front at (client_tip r.past) r.route.hops made there size h.way.all in
        all_append IsGoneBy r.past.earlier (r.past.agent.got ∷ []) h.earlier (gone_by m waits some r.past.agent.got front, tt)
    by_flag false is = h.earlier

-- the upper end of it begins anew, and its Hello goes up where the agent didn't refuse; else it is dropped
module _ {made : List Made} (did : Bool) (calls : List Call) (r : RouteRun) (h : Holds calls r made) (at : ℕ) (m : Made) (there : slice_get made at ≡ Some m) (size : length r.route.hops ≡ at + 2) (waits : Awaits m) where
  abbrev begun : RouteValue
  begun = begun_at (opened_hop did) at (value_of m) r.route

  abbrev p : Past
  p = reached_past did r.past

  abbrev made_now : List Made
  made_now = slice_set made at (anew m)

  count : length made ≡ at + 1
  count =
      let most = made_size (client_tip r.past) r.route.hops made (agent_tip r.past) h.way.all in
      let least = some_within at made m there in
      omega (arith, most, least, size)

  -- the client has connected
  has_joined : r.past.is_joined ≡ true
  has_joined = by_flag r.past.is_joined refl
    where
      by_flag : (flag : Bool) → r.past.is_joined ≡ flag → r.past.is_joined ≡ true
      by_flag true is = is
      by_flag false is = let none : slice_get [] at ≡ Some m = sym (ap (λ ms. slice_get ms at) (h.unmade is)) ∙ there in absurd cc

  used_way : EachCarries (used (end_of r.past.client)) r.route.hops made (agent_tip r.past)
  used_way = subst (λ b. EachCarries (record { end = end_of r.past.client; is_used = b }) r.route.hops made (agent_tip r.past)) has_joined h.way.all

  begun_holds : Holds calls (record { route = begun; past = p }) made_now
  begun_holds = record {
    adds = ap (λ vs. slice_set vs at (called connects (value_of m))) h.adds
        ∙ ap (λ v. slice_set (map value_of made) at v) (sym (call_value connects m)) ∙ set_mapped value_of at made (anew m);
    way = record {
      all = reached_all at (used (end_of r.past.client)) r.route.hops made (agent_tip r.past) (agent_tip p) m (anew m) (opened_hop did) there size (below_anew m waits) (above_anew m waits)
          (opened_carries did) used_way;
      connected = all_connected at made r.past.is_reached m (anew m) there count (connected_anew m waits) h.way.connected;
      reached = λ is. omega (arith, made_count, hops_count);
      unreached = λ is. absurd cc;
      unconnected = λ more. absurd (omega (arith, more, made_count, hops_count));
    };
    unmade = λ is. absurd cc;
    unjoined = λ is. absurd cc;
    unreached = λ is. absurd cc;
    none_earlier = λ is. absurd cc;
    wanted = λ is. absurd cc;
    unstarted = λ is. absurd cc;
    started = λ is more. omega (arith, made_count);
    earlier = earlier_gone calls r h at m there size waits;
    losses = losses_set calls at made m (anew m) there (loses_same calls at m (anew m) (lost_same connects m refl)) h.losses;
  }
    where
      made_count : length made_now ≡ at + 1
      made_count = set_length at made (anew m) ∙ count

      hops_count : length (slice_set r.route.hops (suc at) (opened_hop did)) ≡ at + 2
      hops_count = set_length (suc at) r.route.hops (opened_hop did) ∙ size

  abbrev carried_up : RouteValue
  carried_up = with_carried Above at begun

  up_holds : Holds calls (record { route = carried_up; past = p }) (making.carried Above at begun made_now)
  up_holds = carried_holds Above at calls (record { route = begun; past = p }) begun_holds

  has_at : {A : Type 0} → (i : ℕ) (xs : List A) → i < length xs → HasAt xs i
  has_at i [] less = absurd (omega (arith, less))
  has_at zero (x ∷ xs) less = record { x = x; there = refl }
  has_at (suc i) (x ∷ xs) less = let rest = has_at i xs (omega (arith, less)) in record { x = rest.x; there = rest.there }

  -- the hop begins so
  begun_is : upper_below (last_of r.route) (on_hop (λ x. opened_hop did) (last_of r.route) r.route) ≡ carried_up
  begun_is =
      let last : last_of r.route ≡ suc at = omega (arith, size) in
      ap (λ k. upper_below k (on_hop (λ x. opened_hop did) k r.route)) last
      ∙ begins_at (opened_hop did) at r.route (value_of m) (has_at (suc at) r.route.hops (omega (arith, size))) (ap (λ vs. slice_get vs at) h.adds ∙ mapped_at at made m there)

  -- and so does the value-add below it
  begun_made : making.reached did r.route made ≡ making.carried Above at begun made_now
  begun_made =
      let last : last_of r.route ≡ suc at = omega (arith, size) in
      ap (λ k. making.upper_below k (on_hop (λ x. opened_hop did) k r.route) made) last
      ∙ begins_made (opened_hop did) at r.route (value_of m) made m (has_at (suc at) r.route.hops (omega (arith, size))) (ap (λ vs. slice_get vs at) h.adds ∙ mapped_at at made m there) there

  abbrev reached_route : RouteValue
  reached_route = upper_below (last_of r.route) (on_hop (λ x. opened_hop did) (last_of r.route) r.route)

  reached_now : Holds calls (record { route = reached_route; past = p }) (making.reached did r.route made)
  reached_now =
      subst (Holds calls (record { route = reached_route; past = p })) (sym begun_made)
      (subst (λ route. Holds calls (record { route = route; past = p }) (making.carried Above at begun made_now)) (sym begun_is) up_holds)

last_reached : {made : List Made} → (did : Bool) (calls : List Call) (r : RouteRun) (h : Holds calls r made) (at : ℕ) (m : Made) → slice_get made at ≡ Some m → length r.route.hops ≡ at + 2 → Awaits m
    → Holds calls (record { route = reached did r.route; past = reached_past did r.past }) (making.reached did r.route made)
last_reached true calls r h at m there size waits = reached_now true calls r h at m there size waits
last_reached false calls r h at m there size waits = reached_now false calls r h at m there size waits

-- ---- Both

reaches_by : {made : List Made} → (did : Bool) (calls : List Call) (hops : List Hop) (adds : List ValueValue) (p : Past) → is_waiting (record { route = record { hops = hops; adds = adds }; past = p }) ≡ true
    → Holds calls (record { route = record { hops = hops; adds = adds }; past = p }) made
    → Holds calls (record { route = reached did (record { hops = hops; adds = adds }); past = reached_past did p }) (making.reached did (record { hops = hops; adds = adds }) made)
reaches_by did calls [] adds p waiting h = absurd h.way.all
reaches_by did calls (x ∷ []) adds p waiting h = wanted_reached calls did x adds p waiting h
reaches_by {made = made} did calls (x ∷ g ∷ hops) adds p waiting h =
    let at = length hops in
    let r : RouteRun = record { route = record { hops = x ∷ g ∷ hops; adds = adds }; past = p } in
    let last : last_of r.route ≡ suc at = omega arith in
    let less : last_of r.route - 1 ≡ at = omega arith in
    let some : (last_of r.route == 0) ≡ false = ne_eqb (last_of r.route) 0 (λ is. absurd (omega (arith, is, last))) in
    let waits : awaits_of (slice_get adds at) ≡ true =
    ap (λ n. awaits_of (slice_get adds n)) (sym less)
    ∙ sym (ap (λ b. cond b p.is_wanted (awaits_of (slice_get adds (last_of r.route - 1)))) some) ∙ waiting in
    let w = waits_in at made (sym (ap (λ vs. awaits_of (slice_get vs at)) h.adds) ∙ waits) in
    last_reached did calls r h at w.m w.there (omega arith) w.waits

pub reaches_kept : {made : List Made} → (did : Bool) (calls : List Call) (r : RouteRun) → is_waiting r ≡ true → Holds calls r made
    → Holds calls (record { route = reached did r.route; past = reached_past did r.past }) (making.reached did r.route made)
reaches_kept did calls r waiting h = reaches_by did calls r.route.hops r.route.adds r.past waiting h
