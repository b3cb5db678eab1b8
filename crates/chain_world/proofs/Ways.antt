-- What holds of a way after any calls: its value-adds have their places, each is ready, and before the client's hop was
-- connected there is none. So one that connects to the agent is the last one, and waits.
use Rattle.std.proofs.Common.{◌≡◌, ℕ, ◌+◌, ◌-◌, ◌<◌, ◌≤◌, ◌==◌, ◌||◌, Bool, true, false, cond, nat_lt, List, [], ◌∷◌, length, Option, Some, None, refl, sym, ap, ◌∙◌, arith, ne_eqb, ltb-false}
use Rattle.std.specs.Prelude.{slice_get, slice_set}
use Rattle.value_node.specs.Value.{turned as value_turned}
use Rattle.value_node.specs.ValueValue.{ValueValue}
use Rattle.value_node.specs.declared.states.Side.{Side}
use Rattle.value_node.specs.declared.states.Side.TheVariants.{Below, Above}
use Rattle.value_node.specs.declared.states.ValueTurn.{ValueTurn}
use Rattle.value_node.specs.declared.states.ValueTurn.TheVariants.{Nothing, Took, Connect}
use Rattle.chain_route.specs.Hop as hop
use Rattle.chain_route.specs.Lane.{staying}
use Rattle.chain_route.specs.Passing.{carried, delivered, pair}
use Rattle.chain_route.specs.Route.{beside, connected, connected_after, is_live, joined, last_of, made_at, pair_put, reached, turn_put, turned, with_carried}
use Rattle.chain_route.specs.RouteValue.{RouteValue}
use Rattle.chain_route.specs.Runs.{Call, Past, RouteRun, after_all, after_call, arrives_down, arrives_up, awaits_of, cuts, delivers, is_waiting, joined_by, joins, no_calls, reached_past, reaches, sends_down, sends_up, turns}
use Rattle.chain_route.specs.declared.hop.Hop.{Hop}
use Rattle.chain_world.proofs.Lists.{all_at, get_beyond}
use Rattle.chain_world.proofs.Steady.{HasPlaces, IsQuiet, after_turn, cut_quiet, delivered_keeps, down_live, hop_quiet, pair_quiet, places_connected, places_steady, places_turned, reached_steady, turn_steady, up_live}
use Rattle.chain_world.proofs.Waiting.{IsReadyAdd, awaits_emptied, turns_so}
use Rattle.list_laws.proofs.Lists.{get_set, get_within}

-- ---- After any calls

pub record WayHolds (x : RouteRun) : Type 0 where
  pub places : HasPlaces x.route
  pub none : x.past.is_joined ≡ false → length x.route.adds ≡ 0
  pub dead : x.past.is_joined ≡ false → is_live 0 x.route ≡ false

quiet_holds : (x : RouteRun) (next : RouteValue) (past : Past) → past.is_joined ≡ x.past.is_joined → IsQuiet x.route next → WayHolds x → WayHolds (record { route = next; past = past })
quiet_holds x next past same q w = record {
  places = places_steady x.route next q.steady w.places;
  none = λ no. q.steady.made ∙ w.none (sym same ∙ no);
  dead = λ no. q.live (w.dead (sym same ∙ no));
}

joined_holds : (route : RouteValue) (past : Past) → past.is_joined ≡ true → HasPlaces route → WayHolds (record { route = route; past = past })
joined_holds route past is places = record { places = places; none = λ no. absurd (true_false (sym is ∙ no)); dead = λ no. absurd (true_false (sym is ∙ no)) }
  where
    true_false : true ≡ false → ⊥
    true_false same = cc

joins_holds : (x : RouteRun) → WayHolds x → WayHolds (joined_by (connected 0 x.route) x.past)
joins_holds x w = by_flag (nat_lt 0 (last_of x.route)) refl (places_connected 0 x.route w.places)
  where
    next : RouteValue
    next = with_carried Below 0 (joined 0 (made_at 0 x.route))

    by_flag : (flag : Bool) → nat_lt 0 (last_of x.route) ≡ flag → HasPlaces (cond {A = Bool × RouteValue} flag (false, next) (true, x.route)).1
        → WayHolds (joined_by (cond flag (false, next) (true, x.route)) x.past)
    by_flag true is places = joined_holds next (record x.past { is_joined = true }) refl places
    by_flag false is places = record { places = places; none = w.none; dead = w.dead }

either_holds : (flag : Bool) (x next : RouteRun) → WayHolds next → WayHolds x → WayHolds (cond flag next x)
either_holds true x next one other = one
either_holds false x next one other = other

turned_none : (side : Side) (at : ℕ) (r : RouteValue) → length r.adds ≡ 0 → turned side at r ≡ (false, r)
turned_none side at r none = ap (λ there. turn_put side at there r) (get_beyond at r.adds none)

call_holds : (call : Call) (x : RouteRun) → WayHolds x → WayHolds (after_call call x)
call_holds joins x w = either_holds (x.past.is_wanted || x.past.is_joined) (joined_by (connected 0 x.route) x.past) x w (joins_holds x w)
call_holds (reaches did) x w =
    either_holds (is_waiting x) x (record { route = reached did x.route; past = reached_past did x.past })
    (joined_holds (reached did x.route) (reached_past did x.past) refl (places_steady x.route (reached did x.route) (reached_steady did x.route) w.places)) w
call_holds (sends_up outs) x w =
    either_holds x.past.is_joined x _ (quiet_holds x _ _ refl (hop_quiet (hop.sent_up outs) 0 x.route (λ h dead. up_live outs h ∙ dead)) w) w
call_holds (sends_down outs) x w =
    either_holds x.past.is_reached x _ (quiet_holds x _ _ refl (hop_quiet (hop.sent_down outs) (last_of x.route) x.route (λ h dead. down_live outs h ∙ dead)) w) w
call_holds (arrives_up count) x w = quiet_holds x _ _ refl (hop_quiet (λ h. record h { up = staying count h.up }) (last_of x.route) x.route (λ h dead. dead)) w
call_holds (arrives_down count) x w = quiet_holds x _ _ refl (hop_quiet (λ h. record h { down = staying count h.down }) 0 x.route (λ h dead. dead)) w
call_holds (delivers side at count) x w = quiet_holds x _ _ refl (pair_quiet (delivered side count) side at x.route (delivered_keeps side count)) w
call_holds (turns side at) x w = record {
  places = places_turned side at x.route w.places;
  none = λ no. ap (λ (p : Bool × RouteValue). length p.1.adds) (turned_none side at x.route (w.none no)) ∙ w.none no;
  dead = λ no. ap (λ (p : Bool × RouteValue). is_live 0 p.1) (turned_none side at x.route (w.none no)) ∙ w.dead no;
}
call_holds (cuts hop) x w = quiet_holds x _ _ refl (cut_quiet hop x.route) w

calls_hold : (calls : List Call) (x : RouteRun) → WayHolds x → WayHolds (after_all calls x)
calls_hold [] x w = w
calls_hold (call ∷ calls) x w = calls_hold calls (after_call call x) (call_holds call x w)

pub way_holds : (adds : ℕ) (calls : List Call) → WayHolds (after_all calls (no_calls adds))
way_holds adds calls =
    calls_hold calls (no_calls adds) (record { places = record { ready = tt; made = omega arith }; none = λ no. refl; dead = λ no. refl })

-- ---- Where a value-add connects to the agent, that is awaited

carried_waits : (side : Side) (at : ℕ) (add : Option ValueValue) (there : Option Hop) (r : RouteValue) → slice_get r.adds at ≡ add → awaits_of add ≡ true → awaits_of (slice_get (pair_put (carried side) side at add there r).adds at) ≡ true
carried_waits side at None None r is waits = absurd cc
carried_waits side at None (Some h) r is waits = absurd cc
carried_waits side at (Some v) None r is waits = ap awaits_of is ∙ waits
carried_waits side at (Some v) (Some h) r is waits =
    let next = (carried side (pair v h)).add in ap awaits_of (get_set at r.adds next v is) ∙ awaits_emptied side v ∙ waits

still_waits : (side : Side) (at : ℕ) (r : RouteValue) → awaits_of (slice_get r.adds at) ≡ true → awaits_of (slice_get (with_carried side at r).adds at) ≡ true
still_waits side at r waits = carried_waits side at (slice_get r.adds at) (slice_get r.hops (beside side at)) r refl waits

abbrev AwaitsThen : RouteRun → Bool × RouteValue → Type 0
AwaitsThen x p = p.0 ≡ true → is_waiting (record x { route = p.1 }) ≡ true

pub turned_waits : (side : Side) (at : ℕ) (x : RouteRun) → WayHolds x → (turned side at x.route).0 ≡ true → is_waiting (after_call (turns side at) x) ≡ true
turned_waits side at x w = by_add (slice_get x.route.adds at) refl
  where
    last_waits : (v : ValueValue) → slice_get x.route.adds at ≡ Some v → (value_turned side v).0 ≡ Connect → nat_lt (at + 1) (last_of (after_turn side at v x.route)) ≡ false
        → is_waiting (record x { route = after_turn side at v x.route }) ≡ true
    last_waits v there asked beyond =
        let r = x.route in
        let taken = value_turned side v in
        let one : RouteValue = record r { adds = slice_set r.adds at taken.1 } in
        let next = after_turn side at v r in
        let steady = turn_steady side at v r there in
        let within : at < length r.adds = get_within at r.adds v there in
        let few : length r.adds ≤ last_of r = w.places.made in
        let same : last_of next ≡ last_of r = steady.last in
        let most : last_of next ≤ at + 1 = ltb-false (at + 1) (last_of next) beyond in
        let place : last_of next - 1 ≡ at = omega (arith, within, few, same, most) in
        let some : (last_of next == 0) ≡ false = ne_eqb (last_of next) 0 (λ is. absurd (omega (arith, within, few, same, is))) in
        let ready : IsReadyAdd v = all_at IsReadyAdd at r.adds v there w.places.ready in
        let begins : awaits_of (slice_get one.adds at) ≡ true = ap awaits_of (get_set at r.adds taken.1 v there) ∙ (turns_so side v.relay ready).waits asked in
        ap (λ b. cond b x.past.is_wanted (awaits_of (slice_get next.adds (last_of next - 1)))) some
        ∙ ap (λ n. awaits_of (slice_get next.adds n)) place
        ∙ still_waits Above at (with_carried Below at one) (still_waits Below at one begins)

    by_end : (flag : Bool) (v : ValueValue) → slice_get x.route.adds at ≡ Some v → (value_turned side v).0 ≡ Connect → nat_lt (at + 1) (last_of (after_turn side at v x.route)) ≡ flag
        → AwaitsThen x (cond flag (false, with_carried Below (at + 1) (joined (at + 1) (made_at (at + 1) (after_turn side at v x.route)))) (true, after_turn side at v x.route))
    by_end true v there asked is did = absurd cc
    by_end false v there asked is did = last_waits v there asked is

    by_turn : (turn : ValueTurn) (v : ValueValue) → slice_get x.route.adds at ≡ Some v → (value_turned side v).0 ≡ turn → AwaitsThen x (connected_after turn at (after_turn side at v x.route))
    by_turn Nothing v there is did = absurd cc
    by_turn Took v there is did = absurd cc
    by_turn Connect v there is did = by_end (nat_lt (at + 1) (last_of (after_turn side at v x.route))) v there is refl did

    by_add : (there : Option ValueValue) → slice_get x.route.adds at ≡ there → AwaitsThen x (turn_put side at there x.route)
    by_add None is did = absurd cc
    by_add (Some v) is did = by_turn (value_turned side v).0 v is refl did

-- the client's hop was connected then
pub turned_joined : (side : Side) (at : ℕ) (x : RouteRun) → WayHolds x → (turned side at x.route).0 ≡ true → x.past.is_joined ≡ true
turned_joined side at x w did = by_flag x.past.is_joined refl
  where
    by_flag : (flag : Bool) → x.past.is_joined ≡ flag → x.past.is_joined ≡ true
    by_flag true is = is
    by_flag false is = let none : false ≡ true = sym (ap (λ (p : Bool × RouteValue). p.0) (turned_none side at x.route (w.none is))) ∙ did in absurd cc

-- where the client connects to the agent there is no value-add between them
pub connected_last : (r : RouteValue) → (connected 0 r).0 ≡ true → connected 0 r ≡ (true, r)
connected_last r did = by_flag (nat_lt 0 (last_of r)) did
  where
    by_flag : (flag : Bool) → (cond {A = Bool × RouteValue} flag (false, with_carried Below 0 (joined 0 (made_at 0 r))) (true, r)).0 ≡ true
        → cond {A = Bool × RouteValue} flag (false, with_carried Below 0 (joined 0 (made_at 0 r))) (true, r) ≡ (true, r)
    by_flag true is = absurd cc
    by_flag false is = refl

pub joined_waits : (x : RouteRun) → (connected 0 x.route).0 ≡ true → is_waiting (record { route = x.route; past = record x.past { is_wanted = true } }) ≡ true
joined_waits x did = by_flag (nat_lt 0 (last_of x.route)) refl did
  where
    by_flag : (flag : Bool) → nat_lt 0 (last_of x.route) ≡ flag → (cond {A = Bool × RouteValue} flag (false, with_carried Below 0 (joined 0 (made_at 0 x.route))) (true, x.route)).0 ≡ true
        → is_waiting (record { route = x.route; past = record x.past { is_wanted = true } }) ≡ true
    by_flag true is did = absurd cc
    by_flag false is did =
        let none : last_of x.route ≡ 0 = omega (arith, ltb-false 0 (last_of x.route) is) in
        let first : (last_of x.route == 0) ≡ true = ap (λ n. n == 0) none in
        ap (λ b. cond b true (awaits_of (slice_get x.route.adds (last_of x.route - 1)))) first
