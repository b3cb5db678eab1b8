-- A call of a value-add that neither brings bytes nor gives any out, and a hop that is cut: a way carries on.
use Rattle.std.proofs.Common.{◌≡◌, ℕ, zero, suc, ◌+◌, ◌-◌, ◌==◌, ◌&&◌, Bool, true, false, cond, List, [], ◌∷◌, ◌++◌, length, map, Option, Some, None, refl, sym, ap, ◌∙◌, subst, arith, add-one, eq-eqb, ne_eqb}
use Rattle.std.specs.Prelude.{IsSome, slice_get, slice_set}
use Rattle.std.specs.List.{AllByRecursion, list_any}
use Rattle.std.proofs.lemmas.Bool.{eqb-true}
use Rattle.channel_core.specs.Beginning.{new_end}
use Rattle.value_node.specs.Passing.{Upper}
use Rattle.value_node.specs.Runs.{Call, bytes_end, called, upper_by, upper_from}
use Rattle.value_node.specs.Value.{ended, value_services}
use Rattle.value_node.specs.ValueValue.{ValueValue}
use Rattle.value_node.specs.declared.relay.Relay.{Relay}
use Rattle.value_node.specs.declared.states.Side.{Side}
use Rattle.value_node.specs.declared.states.Side.TheVariants.{Below, Above}
use Rattle.chain_route.specs.Carrying.{AllLoseByCuts, HaveConnected, IsDead, LosesByCut, Made, agent_end, end_below, end_of, is_cut_of, past_of, value_of}
use Rattle.chain_route.specs.Hop as hop
use Rattle.chain_route.specs.Hop.{no_hop}
use Rattle.chain_route.specs.Making as making
use Rattle.chain_route.specs.Making.{called_at}
use Rattle.chain_route.specs.Route.{cut, ended_below, hop_put, last_of, live_of, on_add}
use Rattle.chain_route.specs.RouteValue.{RouteValue}
use Rattle.chain_route.specs.Runs.{Call as RouteCall, Past, RouteRun, cut_past, loses_if, no_talk}
use Rattle.chain_route.specs.declared.hop.Hop.{Hop}
use Rattle.chain_route.proofs.Adds.{Adds, above_added, above_same, below_added, below_same, end_of_calls, lower_added, lower_calls, run_of, still_connected, still_unconnected, tip_above, upper_end, with_call}
use Rattle.chain_route.proofs.Connecting.{HasAt}
use Rattle.chain_route.proofs.CutRoutes.{both_ended, changed_at, cut_route, ended_at}
use Rattle.chain_route.proofs.Each.{EachCarries, LastUnconnected, last_kept}
use Rattle.chain_route.proofs.EndCalls.{AreIdle, lost_end}
use Rattle.chain_route.proofs.Flows.{HopHolds, Tip, cut_carries, grown, losing, used}
use Rattle.chain_route.proofs.Holding.{Holds, agent_tip, client_tip}
use Rattle.chain_route.proofs.Idle.{IsQuiet}
use Rattle.chain_route.proofs.Losses.{loses_same, losses_set, lost_same}
use Rattle.chain_route.proofs.Moving.{call_value, has_upper}
use Rattle.chain_route.proofs.Places.{last_is, same_ends}
use Rattle.chain_route.proofs.Ways.{LastDead, Way, above_live, all_dead, connected_set, last_dead, last_set, made_size, not_live, set_mapped}
use Rattle.list_laws.proofs.Lists.{get_within as some_within, set_length}

abbrev pub with_add : ℕ → ValueValue → RouteRun → RouteRun
with_add at v r = record r { route = record r.route { adds = slice_set r.route.adds at v } }

-- ---- What stands at the ends of a hop that is live

dead_in : (i : ℕ) (hops : List Hop) (x : Hop) → slice_get hops i ≡ Some x → AllByRecursion IsDead hops → IsDead x
dead_in i [] x there dead = absurd cc
dead_in zero (h ∷ hops) x there dead = let is : h ≡ x = cc in subst IsDead is dead.0
dead_in (suc i) (h ∷ hops) x there dead = dead_in i hops x there dead.1

-- the value-add below it was made
made_below : (at : ℕ) (lower : Tip) (hops : List Hop) (made : List Made) (agent : Tip) (x : Hop) → slice_get hops (suc at) ≡ Some x → x.is_live ≡ true
    → EachCarries lower hops made agent → HasAt made at
made_below at lower [] made agent x there live all = absurd all
made_below at lower (h ∷ []) made agent x there live all = absurd cc
made_below at lower (h ∷ g ∷ hops) [] agent x there live all = absurd (not_live x live (dead_in (suc at) (h ∷ g ∷ hops) x there all))
made_below zero lower (h ∷ g ∷ hops) (m ∷ made) agent x there live all = record { x = m; there = refl }
made_below (suc at) lower (h ∷ g ∷ hops) (m ∷ made) agent x there live all =
    let rest = made_below at (tip_above m) (g ∷ hops) made agent x there live all.1 in record { x = rest.x; there = rest.there }

-- where no value-add above it was made it is the last one
none_above : (at : ℕ) (lower : Tip) (hops : List Hop) (made : List Made) (agent : Tip) (x : Hop) → slice_get hops at ≡ Some x → x.is_live ≡ true → slice_get made at ≡ None
    → EachCarries lower hops made agent → length hops ≡ at + 1
none_above at lower [] made agent x there live none all = absurd all
none_above at lower (h ∷ g ∷ hops) [] agent x there live none all = absurd (not_live x live (dead_in at (h ∷ g ∷ hops) x there all))
none_above zero lower (h ∷ []) [] agent x there live none all = refl
none_above zero lower (h ∷ hops) (m ∷ made) agent x there live none all = absurd cc
none_above (suc at) lower (h ∷ []) [] agent x there live none all = absurd cc
none_above (suc at) lower (h ∷ hops) (m ∷ made) agent x there live none all =
    let rest = none_above at (tip_above m) hops made agent x there live none all.1 in omega (arith, rest)

-- and then the agent was reached
reached_live : {calls : List RouteCall} {made : List Made} (at : ℕ) (hops : List Hop) (x : Hop) → at ≡ length hops - 1 → slice_get hops at ≡ Some x → x.is_live ≡ true
    → (r : RouteRun) (h : Holds calls r made) → r.route.hops ≡ hops → r.past.is_reached ≡ true
reached_live at [] x last there live r h is = absurd cc
reached_live at (y ∷ hops) x last there live r h is = by_flag r.past.is_reached refl
  where
    by_flag : (flag : Bool) → r.past.is_reached ≡ flag → r.past.is_reached ≡ true
    by_flag true reached = reached
    by_flag false unreached =
        absurd (not_live x live (last_dead (y ∷ hops) x (sym (ap (slice_get (y ∷ hops)) (last ∙ last_is y hops)) ∙ there) (subst LastDead is (h.way.unreached unreached))))

-- the client has connected
joined_live : {calls : List RouteCall} {made : List Made} (at : ℕ) (x : Hop) (r : RouteRun) (h : Holds calls r made) → slice_get r.route.hops at ≡ Some x → x.is_live ≡ true → r.past.is_joined ≡ true
joined_live at x r h there live = by_flag r.past.is_joined refl
  where
    by_flag : (flag : Bool) → r.past.is_joined ≡ flag → r.past.is_joined ≡ true
    by_flag true is = is
    by_flag false none =
        let way : Way (client_tip r.past) r.route.hops [] (agent_tip r.past) = subst (λ ms. Way (client_tip r.past) r.route.hops ms (agent_tip r.past)) (h.unmade none) h.way in
        absurd (not_live x live (dead_in at r.route.hops x there (all_dead (client_tip r.past) r.route.hops (agent_tip r.past) (h.unstarted none) way)))

-- ---- What was made, where the bytes end at both ends of a hop

abbrev ends_at : Side → ℕ → List Made → List Made
ends_at side at made = called_at at (bytes_end side ∷ []) made

abbrev cut_made : ℕ → List Made → List Made
cut_made at made = making.ended at made

ends_values : (side : Side) (at : ℕ) (made : List Made) → changed_at (ended side) at (map value_of made) ≡ map value_of (ends_at side at made)
ends_values side at [] = refl
ends_values side zero (m ∷ made) = ap (λ v. v ∷ map value_of made) (sym (call_value (bytes_end side) m))
ends_values side (suc at) (m ∷ made) = ap (λ vs. value_of m ∷ vs) (ends_values side at made)

cut_values : (at : ℕ) (made : List Made) → ended_at at (map value_of made) ≡ map value_of (cut_made at made)
cut_values zero made = ends_values Below zero made
cut_values (suc at) made = ap (changed_at (ended Above) at) (ends_values Below (suc at) made) ∙ ends_values Above at (ends_at Below (suc at) made)

none_ends : (side : Side) (at : ℕ) (made : List Made) → slice_get made at ≡ None → ends_at side at made ≡ made
none_ends side at [] none = refl
none_ends side zero (m ∷ made) none = absurd cc
none_ends side (suc at) (m ∷ made) none = ap (λ ms. m ∷ ms) (none_ends side at made none)

one_ends : (side : Side) (at : ℕ) (made : List Made) (m : Made) → slice_get made at ≡ Some m → ends_at side at made ≡ slice_set made at (with_call (bytes_end side) m)
one_ends side at [] m there = absurd cc
one_ends side zero (x ∷ made) m there = let is : x ≡ m = cc in ap (λ y. with_call (bytes_end side) y ∷ made) is
one_ends side (suc at) (x ∷ made) m there = ap (λ ms. x ∷ ms) (one_ends side at made m there)

-- ---- Its ends, of which the one above is the agent's where no value-add was made there

abbrev cut_below : ℕ → Tip → Tip
cut_below zero lower = grown losing lower
cut_below (suc at) lower = lower

abbrev cut_above : Option Made → Tip → Tip
cut_above None agent = grown losing agent
cut_above (Some m) agent = agent

client_cut : (at : ℕ) (p : Past) → record { end = end_of (loses_if (at == 0) p.client); is_used = p.is_joined } ≡ cut_below at (client_tip p)
client_cut at p = by_place at
  where
    client : Bool → Tip
    client flag = record { end = end_of (loses_if flag p.client); is_used = p.is_joined }

    by_place : (i : ℕ) → client (i == 0) ≡ cut_below i (client_tip p)
    by_place zero = ap client (eq-eqb zero 0 refl)
    by_place (suc i) = ap client (ne_eqb (suc i) 0 (λ is. absurd (omega (arith, is))))

agent_cut : {calls : List RouteCall} {made : List Made} (at : ℕ) (x : Hop) (r : RouteRun) (h : Holds calls r made) → slice_get r.route.hops at ≡ Some x → x.is_live ≡ true
    → record { end = agent_end (loses_if (at == last_of r.route) r.past.agent); is_used = r.past.is_reached } ≡ cut_above (slice_get made at) (agent_tip r.past)
agent_cut {made = made} at x r h there live = by_made (slice_get made at) refl
  where
    agent : Bool → Tip
    agent flag = record { end = agent_end (loses_if flag r.past.agent); is_used = r.past.is_reached }

    by_made : (m : Option Made) → slice_get made at ≡ m → agent (at == last_of r.route) ≡ cut_above m (agent_tip r.past)
    by_made None none =
        let size = none_above at (client_tip r.past) r.route.hops made (agent_tip r.past) x there live none h.way.all in
        ap agent (eq-eqb at (last_of r.route) (omega (arith, size)))
    by_made (Some m) is =
        let most = made_size (client_tip r.past) r.route.hops made (agent_tip r.past) h.way.all in
        let least = some_within at made m is in
        ap agent (ne_eqb at (last_of r.route) (λ last. absurd (omega (arith, last, most, least))))

module _ (calls : List RouteCall) where
  -- ---- A quiet call of a value-add

  pub quiet_holds : {made : List Made} → (call : Call) (at : ℕ) (r : RouteRun) (h : Holds calls r made) (m : Made) → slice_get made at ≡ Some m → Adds call (run_of m)
      → IsQuiet (lower_added call (run_of m)) (upper_by call (run_of m).value.relay) → (LosesByCut calls at m → LosesByCut calls at (with_call call m)) → Holds calls (with_add at (called call (value_of m)) r) (slice_set made at (with_call call m))
  quiet_holds {made = made} call at r h m there adds quiet loses =
      let next = with_call call m in
      record {
        adds = ap (λ vs. slice_set vs at (called call (value_of m))) h.adds
            ∙ ap (λ v. slice_set (map value_of made) at v) (sym (call_value call m)) ∙ set_mapped value_of at made next;
        way = record {
          all = same_ends at (client_tip r.past) r.route.hops made (agent_tip r.past) m next there (below_same call m adds quiet.below) (above_same call m adds quiet.above) h.way.all;
          connected = connected_set at made r.past.is_reached m next there (still_connected call m adds) h.way.connected;
          reached = λ is. h.way.reached is ∙ ap (λ n. n + 1) (sym (set_length at made next));
          unreached = h.way.unreached;
          unconnected = λ more. last_kept at made m next there (still_unconnected call m adds) (h.way.unconnected (omega (arith, more, set_length at made next)));
        };
        unmade = λ is. ap (λ ms. slice_set ms at next) (h.unmade is);
        unjoined = h.unjoined;
        unreached = h.unreached;
        none_earlier = h.none_earlier;
        wanted = h.wanted;
        unstarted = h.unstarted;
        started = λ is more. omega (arith, set_length at made next, h.started is more);
        earlier = h.earlier;
        losses = losses_set calls at made m next there loses h.losses;
      }

  -- ---- The end of the bytes at a side of a value-add

  idle_above : (v : Relay) (upper : Option Upper) → AreIdle (upper_from (bytes_end Below) v upper)
  idle_above v None = tt
  idle_above v (Some e) = tt

  -- above it, where it has connected
  above_ends : (m : Made) → IsSome (past_of m).connection → tip_above (with_call (bytes_end Above) m) ≡ grown losing (tip_above m)
  above_ends m some =
      let has = has_upper m some in
      above_added (bytes_end Above) m has.calls has.connection refl
      ∙ ap (λ u. used (upper_end (has.calls ++ upper_from (bytes_end Above) (value_of m).relay u))) has.upper
      ∙ ap used (lost_end (new_end value_services None) has.calls)
      ∙ ap (grown losing) (sym (end_of_calls (past_of m) has.calls has.connection))

  -- below it
  below_ends : (m : Made) → end_below (past_of (with_call (bytes_end Below) m)) ≡ losing (end_below (past_of m))
  below_ends m = below_added (bytes_end Below) m refl ∙ lost_end (new_end value_services None) (lower_calls (past_of m))

  -- ---- A hop that is live is cut, and lost to both its ends

  -- the first one
  first_cut : (lower : Tip) (x : Hop) (hops : List Hop) (made : List Made) (agent : Tip) → x.is_live ≡ true → EachCarries lower (x ∷ hops) made agent
      → EachCarries (grown losing lower) (no_hop ∷ hops) (ends_at Below zero made) (cut_above (slice_get made zero) agent)
  first_cut lower x hops (m ∷ made) agent live all =
      let v = (value_of m).relay in (
        subst (λ e. HopHolds no_hop (grown losing lower) (used e)) (sym (below_ends m)) (cut_carries x lower (used (end_below (past_of m))) all.0),
        subst (λ t. EachCarries t hops made agent) (sym (above_same (bytes_end Below) m refl (idle_above v v.upper))) all.1,
      )
  first_cut lower x [] [] agent live all = cut_carries x lower agent all
  first_cut lower x (h ∷ hops) [] agent live all = absurd (not_live x live all.0)

  -- one above a value-add
  next_cut : (at : ℕ) (lower : Tip) (hops : List Hop) (made : List Made) (agent : Tip) (m : Made) (x : Hop) → slice_get made at ≡ Some m → slice_get hops (suc at) ≡ Some x → x.is_live ≡ true
      → IsSome (past_of m).connection → EachCarries lower hops made agent
      → EachCarries lower (slice_set hops (suc at) no_hop) (cut_made (suc at) made) (cut_above (slice_get made (suc at)) agent)
  next_cut at lower [] made agent m x there hop_is live some all = absurd all
  next_cut at lower (h ∷ hops) [] agent m x there hop_is live some all = absurd cc
  next_cut at lower (h ∷ []) (y ∷ made) agent m x there hop_is live some all = absurd all.1
  next_cut zero lower (h ∷ g ∷ hops) (y ∷ made) agent m x there hop_is live some all =
      let is_m : m ≡ y = cc in
      let is_hop : g ≡ x = cc in
      let connected = subst (λ z. IsSome (past_of z).connection) is_m some in (
        subst (λ e. HopHolds h lower (used e)) (sym (below_same (bytes_end Above) y refl tt)) all.0,
        subst (λ t. EachCarries t (no_hop ∷ hops) (ends_at Below zero made) (cut_above (slice_get made zero) agent)) (sym (above_ends y connected))
            (first_cut (tip_above y) g hops made agent (ap (λ z. z.is_live) is_hop ∙ live) all.1),
      )
  next_cut (suc at) lower (h ∷ g ∷ hops) (y ∷ made) agent m x there hop_is live some all = (all.0, next_cut at (tip_above y) (g ∷ hops) made agent m x there hop_is live some all.1)

  each_cut : (at : ℕ) (lower : Tip) (hops : List Hop) (made : List Made) (agent : Tip) (x : Hop) → slice_get hops at ≡ Some x → x.is_live ≡ true → Way lower hops made agent
      → EachCarries (cut_below at lower) (slice_set hops at no_hop) (cut_made at made) (cut_above (slice_get made at) agent)
  each_cut at lower [] made agent x there live way = absurd way.all
  each_cut zero lower (h ∷ hops) made agent x there live way = let is : h ≡ x = cc in first_cut lower h hops made agent (ap (λ z. z.is_live) is ∙ live) way.all
  each_cut (suc at) lower (h ∷ hops) made agent x there live way =
      let m = made_below at lower (h ∷ hops) made agent x there live way.all in
      next_cut at lower (h ∷ hops) made agent m.x x m.there there live (above_live at lower (h ∷ hops) made agent m.x x m.there there live way) way.all

  -- ---- What else holds of the value-adds that were made

  record Keeps (is_reached : Bool) (made next : List Made) : Type 0 where
    size : length next ≡ length made
    connected : HaveConnected made is_reached → HaveConnected next is_reached
    unconnected : LastUnconnected made → LastUnconnected next
    losses : AllLoseByCuts calls 0 made → AllLoseByCuts calls 0 next

  ends_keep : (is_reached : Bool) (side : Side) (at : ℕ) (made : List Made) → ((m : Made) → LosesByCut calls at m → LosesByCut calls at (with_call (bytes_end side) m)) → Keeps is_reached made (ends_at side at made)
  ends_keep is_reached side at made loses = by_made (slice_get made at) refl
    where
      by_made : (m : Option Made) → slice_get made at ≡ m → Keeps is_reached made (ends_at side at made)
      by_made None none = subst (Keeps is_reached made) (sym (none_ends side at made none)) (record { size = refl; connected = λ have. have; unconnected = λ last. last; losses = λ all. all })
      by_made (Some m) is =
          let next = with_call (bytes_end side) m in
          subst (Keeps is_reached made) (sym (one_ends side at made m is)) (record {
            size = set_length at made next;
            connected = connected_set at made is_reached m next is (still_connected (bytes_end side) m refl);
            unconnected = last_kept at made m next is (still_unconnected (bytes_end side) m refl);
            losses = losses_set calls at made m next is (loses m);
          })

  cut_keeps : (is_reached : Bool) (at : ℕ) (made : List Made) → list_any (is_cut_of at) calls ≡ true → Keeps is_reached made (cut_made at made)
  cut_keeps is_reached at made cuts = by_place at cuts
    where
      lower : (i : ℕ) → Keeps is_reached made (ends_at Below i made)
      lower i = ends_keep is_reached Below i made (λ m loses. loses_same calls i m (with_call (bytes_end Below) m) (lost_same (bytes_end Below) m refl) loses)

      by_place : (i : ℕ) → list_any (is_cut_of i) calls ≡ true → Keeps is_reached made (cut_made i made)
      by_place zero so = lower zero
      by_place (suc i) so =
          let first = lower (suc i) in
          let then = ends_keep is_reached Above i (ends_at Below (suc i) made) (λ m loses lost. subst (λ k. list_any (is_cut_of k) calls ≡ true) (sym (add-one i)) so) in
          record {
            size = then.size ∙ first.size;
            connected = λ have. then.connected (first.connected have);
            unconnected = λ last. then.unconnected (first.unconnected last);
            losses = λ all. then.losses (first.losses all);
          }

  -- ---- All of it

  live_cut : {made : List Made} → (at : ℕ) (r : RouteRun) (x : Hop) → slice_get r.route.hops at ≡ Some x → x.is_live ≡ true → list_any (is_cut_of at) calls ≡ true → Holds calls r made
      → Holds calls (record {
        route = ended_below at (on_add (ended Below) at (cut_route at r.route));
        past = record r.past { client = loses_if (at == 0) r.past.client; agent = loses_if (at == last_of r.route) r.past.agent };
      }) (cut_made at made)
  live_cut {made = made} at r x there live cuts h =
      let keeps = cut_keeps r.past.is_reached at made cuts in
      let hops = slice_set r.route.hops at no_hop in
      let size : length hops ≡ length r.route.hops = set_length at r.route.hops no_hop in
      let agent = cut_above (slice_get made at) (agent_tip r.past) in
      subst (λ route. Holds calls (record { route = route; past = p }) (cut_made at made)) (sym (both_ended at (cut_route at r.route))) (record {
        adds = ap (ended_at at) h.adds ∙ cut_values at made;
        way = record {
          all = subst (λ t. EachCarries (client_tip p) hops (cut_made at made) t) (sym (agent_cut at x r h there live))
              (subst (λ t. EachCarries t hops (cut_made at made) agent) (sym (client_cut at r.past))
              (each_cut at (client_tip r.past) r.route.hops made (agent_tip r.past) x there live h.way));
          connected = keeps.connected h.way.connected;
          reached = λ is. size ∙ h.way.reached is ∙ ap (λ n. n + 1) (sym keeps.size);
          unreached = λ is. last_set at r.route.hops x no_hop there (λ dead. refl) (h.way.unreached is);
          unconnected = λ more. keeps.unconnected (h.way.unconnected (omega (arith, more, keeps.size, size)));
        };
        unmade = λ none. absurd (both (joined_live at x r h there live) none);
        unjoined = λ none. absurd (both (joined_live at x r h there live) none);
        unreached = unreached (at == last_of r.route) refl;
        none_earlier = h.none_earlier;
        wanted = h.wanted;
        unstarted = h.unstarted;
        started = λ is more. omega (arith, keeps.size, h.started is (omega (arith, more, size)));
        earlier = h.earlier;
        losses = keeps.losses h.losses;
      })
    where
      p : Past
      p = record r.past { client = loses_if (at == 0) r.past.client; agent = loses_if (at == last_of r.route) r.past.agent }

      both : {b : Bool} → b ≡ true → b ≡ false → ⊥
      both is isnt = let no : true ≡ false = sym is ∙ isnt in cc

      unreached : (flag : Bool) → (at == last_of r.route) ≡ flag → r.past.is_reached ≡ false → loses_if flag r.past.agent ≡ no_talk
      unreached true last none = absurd (both (reached_live at r.route.hops x (eqb-true at (last_of r.route) last) there live r h refl) none)
      unreached false last none = h.unreached none

  pub cuts_holds : {made : List Made} → (at : ℕ) (r : RouteRun) → list_any (is_cut_of at) calls ≡ true → Holds calls r made
      → Holds calls (record { route = (cut at r.route).1; past = cut_past at r.route r.past }) (making.cut at r.route made)
  cuts_holds {made = made} at r cuts h = by_hop (slice_get r.route.hops at) refl
    where
      after : Bool → RouteValue → RouteRun
      after flag cut_on = record {
        route = (cond {A = Bool × RouteValue} flag (true, ended_below at (on_add (ended Below) at cut_on)) (false, r.route)).1;
        past = record r.past { client = loses_if (flag && (at == 0)) r.past.client; agent = loses_if (flag && (at == last_of r.route)) r.past.agent };
      }

      by_flag : (x : Hop) (flag : Bool) → slice_get r.route.hops at ≡ Some x → x.is_live ≡ flag → Holds calls (after flag (cut_route at r.route)) (cond flag (cut_made at made) made)
      by_flag x true there is = live_cut at r x there is cuts h
      by_flag x false there is = h

      by_hop : (x : Option Hop) → slice_get r.route.hops at ≡ x → Holds calls (after (live_of x) (hop_put hop.cut at x r.route)) (cond (live_of x) (cut_made at made) made)
      by_hop None is = h
      by_hop (Some x) is = by_flag x x.is_live is refl
