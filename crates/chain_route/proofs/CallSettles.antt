-- Each call leaves nothing queued and none that waits, but the last value-add for the agent; and what a way carries by that.
use Rattle.std.proofs.Common.{◌≡◌, ℕ, suc, ◌-◌, ◌==◌, ◌||◌, Bool, true, false, cond, List, [], ◌∷◌, length, Some, None, refl, sym, ap, ◌∙◌, subst, arith, ne_eqb}
use Rattle.std.specs.Prelude.{slice_get}
use Rattle.std.specs.List.{AllByRecursion}
use Rattle.value_node.specs.Value.{awaits, turned as value_turned}
use Rattle.value_node.specs.ValueValue.{ValueValue}
use Rattle.value_node.specs.declared.states.Side.{Side}
use Rattle.value_node.specs.declared.states.ValueTurn.TheVariants.{Connect}
use Rattle.chain_route.specs.Carrying.{GivesAll, Made, NoneAwaits, value_of}
use Rattle.chain_route.specs.Hop as hop
use Rattle.chain_route.specs.Lane.{staying}
use Rattle.chain_route.specs.Making.{CarriesBy}
use Rattle.chain_route.specs.Passing.{delivered, pair, parts_came}
use Rattle.chain_route.specs.Route.{connected, last_of, live_of, reached, sent_down, sent_up}
use Rattle.chain_route.specs.RouteValue.{RouteValue}
use Rattle.chain_route.specs.Runs.{Call, Past, RouteRun, after_call, arrives_down, arrives_up, awaits_of, cuts, delivers, is_waiting, joined_by, joins, reached_past, reaches, sends_down, sends_up, turns}
use Rattle.chain_route.specs.declared.hop.Hop.{Hop}
use Rattle.chain_route.proofs.Each.{all_carry}
use Rattle.chain_route.proofs.Holding.{Holds, agent_tip, client_tip, idle_agent, idle_client, unused_client}
use Rattle.chain_route.proofs.Places.{has_last, last_is}
use Rattle.chain_route.proofs.Settled.{Settled, delivered_settled, nowhere}
use Rattle.chain_route.proofs.Settling.{AllSettled, cuts_settled, delivers_settled, hop_settled, joins_settled, reaches_settled, turns_settled}
use Rattle.chain_route.proofs.Waits.{parts_wait, turn_keeps}
use Rattle.chain_route.proofs.Ways.{IsMapped, LastDead, get_mapped, last_dead}

abbrev pub IsSettled : RouteRun → Type 0
IsSettled r = AllSettled None None None r.route

if_settled : (flag : Bool) (other r : RouteRun) → IsSettled other → IsSettled r → IsSettled (cond flag other r)
if_settled true other r is same = is
if_settled false other r is same = same

joined_route : (next : Bool × RouteValue) (p : Past) → (joined_by next p).route ≡ next.1
joined_route (true, route) p = refl
joined_route (false, route) p = refl

unless_settled : (flag : Bool) (other r : RouteRun) → IsSettled other → IsSettled r → IsSettled (cond flag r other)
unless_settled true other r is same = same
unless_settled false other r is same = is

-- ---- Each call

module _ {calls : List Call} {made : List Made} (r : RouteRun) (h : Holds calls r made) (all : IsSettled r) where
  -- the value-add at a place is one that was made
  made_at : (at : ℕ) (v : ValueValue) → slice_get r.route.adds at ≡ Some v → IsMapped value_of made at v
  made_at at v is = get_mapped value_of at made v (sym (ap (λ vs. slice_get vs at) h.adds) ∙ is)

  delivered_at : (side : Side) (count at : ℕ) (v : ValueValue) (x : Hop) → slice_get r.route.adds at ≡ Some v → Settled (length r.route.hops) None None None at v
      → Settled (length r.route.hops) None None None at (delivered side count (pair v x)).add
  delivered_at side count at v x is s =
      let m = made_at at v is in
      delivered_settled side count (length r.route.hops) at v x
      (λ parts. subst (λ w. awaits (parts_came side parts w).relay ≡ awaits w.relay) m.value (parts_wait parts side m.from)) s

  keeps_at : (side : Side) (at : ℕ) (v : ValueValue) → slice_get r.route.adds at ≡ Some v → ((value_turned side v).0 ≡ Connect → ⊥) → awaits (value_turned side v).1.relay ≡ true → awaits v.relay ≡ true
  keeps_at side at v is =
      let m = made_at at v is in
      subst (λ w. ((value_turned side w).0 ≡ Connect → ⊥) → awaits (value_turned side w).1.relay ≡ true → awaits w.relay ≡ true) m.value (turn_keeps side m.from)

  pub call_settled : (call : Call) → IsSettled (after_call call r)
  call_settled joins =
      let next = connected 0 r.route in
      unless_settled (r.past.is_wanted || r.past.is_joined) (joined_by next r.past) r
      (subst (AllSettled None None None) (sym (joined_route next r.past)) (joins_settled r.route all)) all
  call_settled (reaches did) =
      if_settled (is_waiting r) (record { route = reached did r.route; past = reached_past did r.past }) r (reaches_settled did r.route all) all
  call_settled (sends_up outs) =
      if_settled r.past.is_joined (record { route = sent_up outs r.route; past = _ }) r (hop_settled None None None (hop.sent_up outs) 0 r.route all) all
  call_settled (sends_down outs) =
      if_settled r.past.is_reached (record { route = sent_down outs r.route; past = _ }) r (hop_settled None None None (hop.sent_down outs) (last_of r.route) r.route all) all
  call_settled (arrives_up count) = hop_settled None None None (λ x. record x { up = staying count x.up }) (last_of r.route) r.route all
  call_settled (arrives_down count) = hop_settled None None None (λ x. record x { down = staying count x.down }) 0 r.route all
  call_settled (delivers side at count) = delivers_settled side at count r.route (λ v x is s. delivered_at side count at v x is s) all
  call_settled (turns side at) = turns_settled side at r.route (λ v is. keeps_at side at v is) all
  call_settled (cuts at) = cuts_settled at r.route all

-- ---- So all was given, and none awaits

each_of : {A : Type 0} → (P : A → Type 0) (xs : List A) → ((i : ℕ) (x : A) → slice_get xs i ≡ Some x → P x) → AllByRecursion P xs
each_of P [] is = tt
each_of P (x ∷ xs) is = (is 0 x refl, each_of P xs (λ i y there. is (suc i) y there))

all_given : (r : RouteRun) → IsSettled r → AllByRecursion GivesAll r.route.adds
all_given r all = each_of GivesAll r.route.adds (λ i v there. let s = all.each i v there in record { below = s.below nowhere; above = s.above nowhere })

none_waits : (r : RouteRun) → IsSettled r → NoneAwaits r
none_waits r all free = each_of (λ v. awaits v.relay ≡ false) r.route.adds (λ i v there. by_flag i v there (awaits v.relay) refl)
  where
    by_flag : (i : ℕ) (v : ValueValue) → slice_get r.route.adds i ≡ Some v → (flag : Bool) → awaits v.relay ≡ flag → awaits v.relay ≡ false
    by_flag i v there false is = is
    by_flag i v there true is =
        let place = (all.each i v there).waits nowhere is in
        let last : last_of r.route - 1 ≡ i = omega (arith, place) in
        let some : (last_of r.route == 0) ≡ false = ne_eqb (last_of r.route) 0 (λ none. absurd (omega (arith, place, none))) in
        let waiting : is_waiting r ≡ true =
        ap (λ b. cond b r.past.is_wanted (awaits_of (slice_get r.route.adds (last_of r.route - 1)))) some
        ∙ ap (λ k. awaits_of (slice_get r.route.adds k)) last ∙ ap awaits_of there ∙ is in
        let no : true ≡ false = sym waiting ∙ free in absurd cc

-- ---- The last hop isn't live while the agent isn't reached

last_unlive : (hops : List Hop) → LastDead hops → live_of (slice_get hops (length hops - 1)) ≡ false
last_unlive [] dead = refl
last_unlive (x ∷ hops) dead =
    let last = has_last x hops in
    ap (λ k. live_of (slice_get (x ∷ hops) k)) (last_is x hops) ∙ ap live_of last.there ∙ ap (λ y. y.is_live) (last_dead (x ∷ hops) last.last last.there dead)

-- ---- All that a way carries

pub carries_of : {made : List Made} → (calls : List Call) (r : RouteRun) → Holds calls r made → IsSettled r → CarriesBy made calls r
carries_of {made = made} calls r h all = record {
  carries = record {
    made = made;
    adds = h.adds;
    hops = all_carry (client_tip r.past) r.route.hops made (agent_tip r.past) (idle_client calls r h) (idle_agent calls r h) (unused_client calls r h) h.way.unconnected h.way.all;
    connected = h.way.connected;
    reached = h.way.reached;
    earlier = h.earlier;
    losses = h.losses;
    given = all_given r all;
    none_awaits = none_waits r all;
    unreached = λ is. last_unlive r.route.hops (h.way.unreached is);
  };
  are = refl;
}
