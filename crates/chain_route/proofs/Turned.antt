-- A value-add takes an entry, and connects where it is redirected: a way carries on.
use Rattle.std.proofs.Common.{◌≡◌, ℕ, ◌&&◌, Bool, true, false, cond, List, [], ◌∷◌, Option, Some, None, refl, sym, ap, ◌∙◌, subst}
use Rattle.std.specs.Prelude.{Err, Ok, Result, slice_get, slice_set}
use Rattle.channel_core.specs.Taking.{next_taken}
use Rattle.channel_core.specs.declared.taking.Taken.{Taken}
use Rattle.channel_core.specs.declared.taking.Taken.TheVariants as taken
use Rattle.tcf_message.specs.Message.{MessageValue, command, event, final, flow, not_known, progress, reading}
use Rattle.tcf_message.specs.declared.message.MessageFault.{MessageFault}
use Rattle.value_node.specs.ForwardedValue.{ForwardedValue}
use Rattle.value_node.specs.Own.{own_reply}
use Rattle.value_node.specs.Passing.{Lower, Upper}
use Rattle.value_node.specs.RelayLaws.{StandsWell}
use Rattle.value_node.specs.Runs as value
use Rattle.value_node.specs.Runs.{Past}
use Rattle.value_node.specs.Value.{answered, asked, asked_in, awaits, is_free, is_opening, takes_above, takes_below, took_any_above, took_any_below, turned as value_turned, turned_above, turned_below, turned_on, with_lower, with_upper}
use Rattle.value_node.specs.ValueValue.{ValueValue}
use Rattle.value_node.specs.declared.own.Own.{Own}
use Rattle.value_node.specs.declared.own.Own.TheVariants as own
use Rattle.value_node.specs.declared.relay.Relay.{Relay}
use Rattle.value_node.specs.declared.states.Bind.{Bind}
use Rattle.value_node.specs.declared.states.Bind.TheVariants.{Unbound, Opening, Bound, Closed}
use Rattle.value_node.specs.declared.states.Side.{Side}
use Rattle.value_node.specs.declared.states.Side.TheVariants.{Below, Above}
use Rattle.value_node.specs.declared.states.ValueTurn.{ValueTurn}
use Rattle.value_node.specs.declared.states.ValueTurn.TheVariants.{Nothing, Took, Connect}
use Rattle.chain_route.specs.Carrying.{Made, past_of, value_of}
use Rattle.chain_route.specs.Making as making
use Rattle.chain_route.specs.Making.{called_at}
use Rattle.chain_route.specs.Passing.{carried, emptied}
use Rattle.chain_route.specs.Route.{beside, connected_after, pair_put, turn_put, turned, with_carried}
use Rattle.chain_route.specs.RouteValue.{RouteValue}
use Rattle.chain_route.specs.Runs.{Call, RouteRun, awaits_of}
use Rattle.chain_route.specs.declared.hop.Hop.{Hop}
use Rattle.chain_route.proofs.Adds.{facts_of, run_of, with_call}
use Rattle.chain_route.proofs.Connecting.{connects_kept}
use Rattle.chain_route.proofs.Cutting.{quiet_holds, with_add}
use Rattle.chain_route.proofs.Holding.{Holds, called_there, with_route}
use Rattle.chain_route.proofs.Idle.{turn_is_quiet}
use Rattle.chain_route.proofs.Joining.{carried_holds}
use Rattle.chain_route.proofs.Losses.{loses_same, lost_same}
use Rattle.chain_route.proofs.Reaching.{waits_in}
use Rattle.chain_route.proofs.Settled.{still_free}
use Rattle.chain_route.proofs.Ways.{IsMapped, get_mapped}
use Rattle.list_laws.proofs.Lists.{get_set}

-- ---- What is carried leaves it waiting

waits_by : (side : Side) (spent : Bool) (v : Relay) → awaits (emptied side (record { relay = v; is_spent = spent })).relay ≡ awaits v
waits_by side true v = refl
waits_by Below false v = refl
waits_by Above false v = ap (λ b. is_opening v.bind && b) (still_free v.upper)

emptied_waits : (side : Side) (v : ValueValue) → awaits (emptied side v).relay ≡ awaits v.relay
emptied_waits side v = waits_by side v.is_spent v.relay

-- ---- The value-add at a place waits

abbrev WaitsAt : ℕ → RouteValue → Type 0
WaitsAt at r = awaits_of (slice_get r.adds at) ≡ true

set_waits : (at : ℕ) (r : RouteValue) (v next : ValueValue) → slice_get r.adds at ≡ Some v → awaits next.relay ≡ true → awaits_of (slice_get (slice_set r.adds at next) at) ≡ true
set_waits at r v next there is = ap awaits_of (get_set at r.adds next v there) ∙ is

carried_waits : (side : Side) (at : ℕ) (r : RouteValue) → WaitsAt at r → WaitsAt at (with_carried side at r)
carried_waits side at r waits = by_parts (slice_get r.adds at) (slice_get r.hops (beside side at)) refl
  where
    by_parts : (add : Option ValueValue) (hop : Option Hop) → slice_get r.adds at ≡ add → WaitsAt at (pair_put (carried side) side at add hop r)
    by_parts None None there = waits
    by_parts None (Some hop) there = waits
    by_parts (Some v) None there = waits
    by_parts (Some v) (Some hop) there =
        set_waits at r v (emptied side v) there (emptied_waits side v ∙ sym (ap awaits_of there) ∙ waits)

-- ---- A redirect that was taken makes it wait: an unbound value-add has no upper end that is open

abbrev IsFreeIn : Bind → Relay → Type 0
IsFreeIn bind v = bind ≡ Unbound → is_free v.upper ≡ true

answered_waits : (token : List ℕ) (o : Own) (v : Relay) → is_free v.upper ≡ true → (answered token o v).0 ≡ Connect → awaits (answered token o v).1 ≡ true
answered_waits token own.Unknown v free is = absurd cc
answered_waits token (own.Result body) v free is = absurd cc
answered_waits token own.Connect v free is = free

asked_in_waits : (bind : Bind) (token service name body : List ℕ) (mark : Option ℕ) (v : Relay) → IsFreeIn bind v → (asked_in bind token service name body mark v).0 ≡ Connect
    → awaits (asked_in bind token service name body mark v).1 ≡ true
asked_in_waits Unbound token service name body mark v free is = answered_waits token (own_reply v.peer service name body) v (free refl) is
asked_in_waits Opening token service name body mark v free is = absurd cc
asked_in_waits Bound token service name body mark v free is = absurd cc
asked_in_waits Closed token service name body mark v free is = absurd cc

asked_waits : (m : Result MessageValue MessageFault) (mark : Option ℕ) (v : Relay) → IsFreeIn v.bind v → (asked m mark v).0 ≡ Connect → awaits (asked m mark v).1 ≡ true
asked_waits (Ok (command token service name body)) mark v free is = asked_in_waits v.bind token service name body mark v free is
asked_waits (Ok (final token body)) mark v free is = absurd cc
asked_waits (Ok (progress token body)) mark v free is = absurd cc
asked_waits (Ok (not_known token)) mark v free is = absurd cc
asked_waits (Ok (event service name body)) mark v free is = absurd cc
asked_waits (Ok (flow level)) mark v free is = absurd cc
asked_waits (Err fault) mark v free is = absurd cc

any_waits : (what : Option (Taken Unit)) (v : Relay) → IsFreeIn v.bind v → (took_any_below what v).0 ≡ Connect → awaits (took_any_below what v).1 ≡ true
any_waits None v free is = absurd cc
any_waits (Some (taken.Hello incoming)) v free is = absurd cc
any_waits (Some (taken.Command incoming)) v free is = asked_waits (reading incoming.raw) incoming.mark v free is
any_waits (Some (taken.Event incoming)) v free is = absurd cc
any_waits (Some (taken.Progress token incoming)) v free is = absurd cc
any_waits (Some (taken.Final tag incoming)) v free is = absurd cc
any_waits (Some (taken.Closed cause)) v free is = absurd cc

below_waits : (v : Relay) → IsFreeIn v.bind v → (turned_below v).0 ≡ Connect → awaits (turned_below v).1 ≡ true
unfolding turned_below
below_waits v free is = by_flag (takes_below v.bind v.upper) is
  where
    next : Option (Taken Unit) × Lower
    next = next_taken v.lower

    turn : Bool → ValueTurn × Relay
    turn flag = cond flag (took_any_below next.0 (with_lower next.1 v)) (Nothing, v)

    by_flag : (flag : Bool) → (turn flag).0 ≡ Connect → awaits (turn flag).1 ≡ true
    by_flag true is = any_waits next.0 (with_lower next.1 v) free is
    by_flag false is = absurd cc

-- nothing that is taken from above makes it wait
above_turns : (v : Relay) → (turned_above v).0 ≡ Connect → ⊥
unfolding turned_above
above_turns v is = by_flag (takes_above v.bind) is
  where
    by_next : (next : Option (Taken ForwardedValue) × Upper) → (took_any_above next.0 (with_upper next.1 v)).0 ≡ Connect → ⊥
    by_next (None, e) is = absurd cc
    by_next (Some what, e) is = absurd cc

    by_upper : (upper : Option Upper) → (turned_on upper v).0 ≡ Connect → ⊥
    by_upper None is = absurd cc
    by_upper (Some e) is = by_next (next_taken e) is

    by_flag : (flag : Bool) → (cond flag (turned_on v.upper v) (Nothing, v)).0 ≡ Connect → ⊥
    by_flag true is = by_upper v.upper is
    by_flag false is = absurd cc

stands_free : (bind : Bind) (v : Relay) (p : Past) → StandsWell bind v p → IsFreeIn bind v
stands_free Unbound v p stands is = stands.1
stands_free Opening v p stands is = absurd cc
stands_free Bound v p stands is = absurd cc
stands_free Closed v p stands is = absurd cc

turn_waits : (side : Side) (m : Made) → (value_turned side (value_of m)).0 ≡ Connect → awaits (value_turned side (value_of m)).1.relay ≡ true
turn_waits Below m is = let v = (value_of m).relay in below_waits v (stands_free v.bind v (past_of m) (facts_of m).stands) is
turn_waits Above m is = absurd (above_turns (value_of m).relay is)

-- ---- A turn

after_turn : {made : List Made} → (turn : ValueTurn) (at : ℕ) (calls : List Call) (r : RouteRun) → (turn ≡ Connect → WaitsAt at r.route) → Holds calls r made
    → Holds calls (with_route (connected_after turn at r.route).1 r) (making.connected_after turn at r.route made)
after_turn Nothing at calls r waits h = h
after_turn Took at calls r waits h = h
after_turn {made = made} Connect at calls r waits h =
    let w = waits_in at made (sym (ap (λ vs. awaits_of (slice_get vs at)) h.adds) ∙ waits refl) in connects_kept at calls r h w.m w.there w.waits

made_turns : {made : List Made} → (side : Side) (at : ℕ) (calls : List Call) (r : RouteRun) (h : Holds calls r made) (m : Made) → slice_get made at ≡ Some m → slice_get r.route.adds at ≡ Some (value_of m)
    → Holds calls (with_route (turn_put side at (Some (value_of m)) r.route).1 r) (making.turned_of side at (Some (value_of m)) r.route made)
made_turns {made = made} side at calls r h m there add_is =
    let next = value_turned side (value_of m) in
    let call = value.turns side in
    let r1 = with_add at next.1 r in
    let h1 : Holds calls r1 (called_at at (call ∷ []) made) =
    subst (Holds calls r1) (sym (called_there at (call ∷ []) made m there))
    (quiet_holds calls call at r h m there refl (turn_is_quiet side (run_of m).value.relay) (loses_same calls at m (with_call call m) (lost_same call m refl))) in
    let r2 = with_route (with_carried Below at r1.route) r1 in
    let r3 = with_route (with_carried Above at r2.route) r2 in
    after_turn next.0 at calls r3
    (λ is. carried_waits Above at r2.route (carried_waits Below at r1.route (set_waits at r.route (value_of m) next.1 add_is (turn_waits side m is))))
    (carried_holds Above at calls r2 (carried_holds Below at calls r1 h1))

pub turns_kept : {made : List Made} → (side : Side) (at : ℕ) (calls : List Call) (r : RouteRun) → Holds calls r made
    → Holds calls (with_route (turned side at r.route).1 r) (making.turned side at r.route made)
turns_kept {made = made} side at calls r h = by_add (slice_get r.route.adds at) refl
  where
    by_made : (v : ValueValue) → slice_get r.route.adds at ≡ Some v → IsMapped value_of made at v
        → Holds calls (with_route (turn_put side at (Some v) r.route).1 r) (making.turned_of side at (Some v) r.route made)
    by_made v is m =
        subst (λ x. Holds calls (with_route (turn_put side at (Some x) r.route).1 r) (making.turned_of side at (Some x) r.route made)) m.value
        (made_turns side at calls r h m.from m.there (is ∙ ap Some (sym m.value)))

    by_add : (add : Option ValueValue) → slice_get r.route.adds at ≡ add → Holds calls (with_route (turn_put side at add r.route).1 r) (making.turned_of side at add r.route made)
    by_add None is = h
    by_add (Some v) is = by_made v is (get_mapped value_of at made v (sym (ap (λ vs. slice_get vs at) h.adds) ∙ is))
