-- After every list of calls a way carries.
use Rattle.std.proofs.Common.{◌≡◌, ℕ, zero, suc, ◌||◌, Bool, true, false, cond, List, [], ◌∷◌, refl, arith, eq-eqb}
use Rattle.std.specs.List.{AllByRecursion, list_any}
use Rattle.std.proofs.lemmas.Bool.{or_left, or_right}
use Rattle.channel_core.specs.declared.held.Outgoing.{Outgoing}
use Rattle.value_node.specs.declared.states.Side.{Side}
use Rattle.chain_route.specs.Carrying.{IsDead, Made, is_cut_of}
use Rattle.chain_route.specs.Hop.{no_hop}
use Rattle.chain_route.specs.Making as making
use Rattle.chain_route.specs.Making.{CarriesBy, CarriesByItsCalls, made_after, made_by, made_from}
use Rattle.chain_route.specs.Route.{connected, hops_of, more_hops, reached, sent_down, sent_up}
use Rattle.chain_route.specs.Runs.{Call, RouteRun, after_all, after_call, arrives_down, arrives_up, cuts, delivers, gives, is_waiting, joined_by, joins, no_calls, reached_past, reaches, sends_down, sends_up, turns, with_agent, with_client}
use Rattle.chain_route.specs.declared.hop.Hop.{Hop}
use Rattle.chain_route.proofs.Anew.{dead_above}
use Rattle.chain_route.proofs.CallSettles.{IsSettled, call_settled, carries_of}
use Rattle.chain_route.proofs.Cutting.{cuts_holds}
use Rattle.chain_route.proofs.Ended.{arrives_down_holds, arrives_up_holds, sends_down_holds, sends_up_holds}
use Rattle.chain_route.proofs.Holding.{Holds, delivers_holds}
use Rattle.chain_route.proofs.Joining.{joins_kept}
use Rattle.chain_route.proofs.Reached.{reaches_kept}
use Rattle.chain_route.proofs.Turned.{turns_kept}
use Rattle.chain_route.proofs.Ways.{LastDead}

-- ---- A new way

more_dead : (n : ℕ) → AllByRecursion IsDead (more_hops n)
more_dead zero = tt
more_dead (suc n) = (refl, more_dead n)

last_of_dead : (hops : List Hop) → AllByRecursion IsDead hops → LastDead hops
last_of_dead [] dead = tt
last_of_dead (h ∷ []) dead = dead.0
last_of_dead (h ∷ g ∷ hops) dead = last_of_dead (g ∷ hops) dead.1

new_holds : (calls : List Call) (adds : ℕ) → Holds calls (no_calls adds) []
new_holds calls adds =
    let dead : AllByRecursion IsDead (hops_of adds) = (refl, more_dead adds) in
    record {
      adds = refl;
      way = record {
        all = dead_above no_hop (more_hops adds) dead;
        connected = tt;
        reached = λ is. absurd cc;
        unreached = λ is. last_of_dead (hops_of adds) dead;
        unconnected = λ more. tt;
      };
      unmade = λ is. refl;
      unjoined = λ is. refl;
      unreached = λ is. refl;
      none_earlier = λ is. refl;
      wanted = λ is. absurd cc;
      unstarted = λ is. refl;
      started = λ is. absurd cc;
      earlier = tt;
      losses = tt;
    }

new_settled : (adds : ℕ) → IsSettled (no_calls adds)
new_settled adds = record { fits = omega arith; each = λ i v there. absurd cc }

-- ---- Each call of them

module _ (calls : List Call) where
  joins_holds : {made : List Made} → (r : RouteRun) → Holds calls r made → Holds calls (after_call joins r) (made_by joins r made)
  joins_holds {made = made} r h = by_flags r.past.is_wanted r.past.is_joined refl refl
    where
      by_flags : (wanted joined : Bool) → r.past.is_wanted ≡ wanted → r.past.is_joined ≡ joined → Holds calls (cond (wanted || joined) r (joined_by (connected 0 r.route) r.past)) (cond (wanted || joined) made (making.connected 0 r.route made))
      by_flags true joined is also = h
      by_flags false true is also = h
      by_flags false false is also = joins_kept calls r also is h

  reaches_holds : {made : List Made} → (did : Bool) (r : RouteRun) → Holds calls r made → Holds calls (after_call (reaches did) r) (made_by (reaches did) r made)
  reaches_holds {made = made} did r h = by_flag (is_waiting r) refl
    where
      by_flag : (flag : Bool) → is_waiting r ≡ flag → Holds calls (cond flag (record { route = reached did r.route; past = reached_past did r.past }) r) (cond flag (making.reached did r.route made) made)
      by_flag true is = reaches_kept did calls r is h
      by_flag false is = h

  turns_holds : {made : List Made} → (side : Side) (at : ℕ) (r : RouteRun) → Holds calls r made → Holds calls (after_call (turns side at) r) (made_by (turns side at) r made)
  turns_holds side at r h = turns_kept side at calls r h

  sends_up_kept : {made : List Made} → (outs : List Outgoing) (r : RouteRun) → Holds calls r made → Holds calls (after_call (sends_up outs) r) made
  sends_up_kept {made = made} outs r h = by_flag r.past.is_joined refl
    where
      by_flag : (flag : Bool) → r.past.is_joined ≡ flag → Holds calls (cond flag (record { route = sent_up outs r.route; past = with_client (gives outs r.past.client) r.past }) r) made
      by_flag true is = sends_up_holds outs calls r.route.hops r.route.adds r.past is h
      by_flag false is = h

  sends_down_kept : {made : List Made} → (outs : List Outgoing) (r : RouteRun) → Holds calls r made → Holds calls (after_call (sends_down outs) r) made
  sends_down_kept {made = made} outs r h = by_flag r.past.is_reached refl
    where
      by_flag : (flag : Bool) → r.past.is_reached ≡ flag → Holds calls (cond flag (record { route = sent_down outs r.route; past = with_agent (gives outs r.past.agent) r.past }) r) made
      by_flag true is = sends_down_holds outs calls r.route.hops r.route.adds r.past is h
      by_flag false is = h

  call_holds : {made : List Made} → (call : Call) (r : RouteRun) → ((hop : ℕ) → is_cut_of hop call ≡ true → list_any (is_cut_of hop) calls ≡ true) → Holds calls r made → Holds calls (after_call call r) (made_by call r made)
  call_holds joins r among h = joins_holds r h
  call_holds (reaches did) r among h = reaches_holds did r h
  call_holds (sends_up outs) r among h = sends_up_kept outs r h
  call_holds (sends_down outs) r among h = sends_down_kept outs r h
  call_holds (arrives_up count) r among h = arrives_up_holds count calls r.route.hops r.route.adds r.past h
  call_holds (arrives_down count) r among h = arrives_down_holds count calls r.route.hops r.route.adds r.past h
  call_holds (delivers side at count) r among h = delivers_holds side at count calls r h
  call_holds (turns side at) r among h = turns_holds side at r h
  call_holds (cuts hop) r among h = cuts_holds calls hop r (among hop (eq-eqb hop hop refl)) h

  -- it holds, and nothing is left queued
  record Stands (r : RouteRun) (made : List Made) : Type 0 where
    holds : Holds calls r made
    settled : IsSettled r

  all_hold : {made : List Made} → (rest : List Call) (r : RouteRun) → ((hop : ℕ) → list_any (is_cut_of hop) rest ≡ true → list_any (is_cut_of hop) calls ≡ true) → Stands r made → Stands (after_all rest r) (made_from rest r made)
  all_hold [] r among s = s
  all_hold {made = made} (call ∷ rest) r among s =
      all_hold {made = made_by call r made} rest (after_call call r) (λ hop is. among hop (or_right (is_cut_of hop call) (list_any (is_cut_of hop) rest) is))
      (record {
        holds = call_holds call r (λ hop is. among hop (or_left (is_cut_of hop call) (list_any (is_cut_of hop) rest) is)) s.holds;
        settled = call_settled r s.holds s.settled call;
      })

  carries_after : (adds : ℕ) → CarriesBy (made_after adds calls) calls (after_all calls (no_calls adds))
  carries_after adds =
      let s : Stands (after_all calls (no_calls adds)) (made_after adds calls) = all_hold {made = []} calls (no_calls adds) (λ hop is. is) (record { holds = new_holds calls adds; settled = new_settled adds }) in
      carries_of calls (after_all calls (no_calls adds)) s.holds s.settled

pub carries_by_its_calls : CarriesByItsCalls
carries_by_its_calls adds calls = carries_after calls adds
