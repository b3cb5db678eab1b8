-- A value-add and the hop on a side of it: what the value-add queued goes out, bytes arrive, and the hop carries on.
use Rattle.std.proofs.Common.{◌≡◌, ℕ, Bool, true, false, cond, List, [], ◌∷◌, ◌++◌, Option, Some, None, refl, sym, ap, ◌∙◌, subst}
use Rattle.std.specs.Prelude.{IsSome, option_map, slice_get}
use Rattle.channel_core.specs.Beginning.{new_end}
use Rattle.channel_core.specs.declared.held.Outgoing.{Outgoing}
use Rattle.value_node.specs.Passing.{Upper}
use Rattle.value_node.specs.Runs.{Call, UpperCall, below, called, comes, gives, upper_after, upper_from}
use Rattle.value_node.specs.Value.{given, value_services}
use Rattle.value_node.specs.ValueValue.{ValueValue}
use Rattle.value_node.specs.declared.relay.Relay.{Relay}
use Rattle.value_node.specs.declared.states.Side.{Side}
use Rattle.value_node.specs.declared.states.Side.TheVariants.{Below, Above}
use Rattle.chain_route.specs.Carrying.{End, IsDead, Made, end_below, past_of, value_of, was_lost_above}
use Rattle.chain_route.specs.Hop.{sent_from}
use Rattle.chain_route.specs.Passing.{Pair, queue_of, queued_at, queued_on}
use Rattle.chain_route.specs.declared.hop.Hop.{Hop}
use Rattle.chain_route.proofs.Adds.{above_added, above_same, below_added, below_same, call_run, end_of_calls, facts_of, lower_calls, still_connected, still_unconnected, tip_above, upper_end, with_call}
use Rattle.chain_route.proofs.EndCalls.{AreIdle, put_end}
use Rattle.chain_route.proofs.Each.{IsUnconnected}
use Rattle.chain_route.proofs.Flows.{CarriesAt, Tip, dead_given, gave_more, grown, side_given, used}
use Rattle.chain_route.proofs.Towers.{IsMoved, end_at}

-- the end on the other side is as it was
abbrev pub RestsAt : Side → Made → Made → Type 0
RestsAt Below m next = tip_above next ≡ tip_above m
RestsAt Above m next = end_below (past_of next) ≡ end_below (past_of m)

pub record Moves (side : Side) (m next : Made) (hop after : Hop) : Type 0 where
  pub moved : IsMoved side m next hop after
  pub rests : RestsAt side m next
  pub connected : IsSome (past_of m).connection → IsSome (past_of next).connection
  pub unconnected : IsUnconnected m → IsUnconnected next

pub moves_still : (side : Side) (m : Made) (hop : Hop) → Moves side m m hop hop
moves_still Below m hop = record { moved = record { carries = λ other h. h; dead = λ d. d }; rests = refl; connected = λ is. is; unconnected = λ none. none }
moves_still Above m hop = record { moved = record { carries = λ other h. h; dead = λ d. d }; rests = refl; connected = λ is. is; unconnected = λ none. none }

pub rests_on : (side : Side) (m next last : Made) → RestsAt side m next → RestsAt side next last → RestsAt side m last
rests_on Below m next last p q = q ∙ p
rests_on Above m next last p q = q ∙ p

pub moves_on : (side : Side) (m next last : Made) (hop after end : Hop) → Moves side m next hop after → Moves side next last after end → Moves side m last hop end
moves_on side m next last hop after end p q = record {
  moved = record { carries = λ other h. q.moved.carries other (p.moved.carries other h); dead = λ d. q.moved.dead (p.moved.dead d) };
  rests = rests_on side m next last p.rests q.rests;
  connected = λ is. q.connected (p.connected is);
  unconnected = λ none. q.unconnected (p.unconnected none);
}

pub moved_by : (side : Side) (m next : Made) (hop after : Hop) (more : End → End) → end_at side next ≡ grown more (end_at side m)
    → ((own other : Tip) → CarriesAt side hop own other → CarriesAt side after (grown more own) other) → (IsDead hop → IsDead after) → IsMoved side m next hop after
moved_by side m next hop after more is carries dead = record {
  carries = λ other h. subst (λ e. CarriesAt side after e other) (sym is) (carries (end_at side m) other h);
  dead = dead;
}

-- what both come to, with the value-add that was made so
pub record Step (side : Side) (m : Made) (hop : Hop) (next : Made) (p : Pair) : Type 0 where
  pub value : value_of next ≡ p.add
  pub moves : Moves side m next hop p.hop
  pub lost : was_lost_above next ≡ was_lost_above m

pub step_on : (side : Side) (m next last : Made) (hop after : Hop) (p : Pair) → Moves side m next hop after → was_lost_above next ≡ was_lost_above m → Step side next after last p
    → Step side m hop last p
step_on side m next last hop after p moves lost step = record {
  value = step.value;
  moves = moves_on side m next last hop after p.hop moves step.moves;
  lost = step.lost ∙ lost;
}

pub call_value : (call : Call) (m : Made) → value_of (with_call call m) ≡ called call (value_of m)
call_value call m = ap (λ r. r.value) (call_run call m)

-- ---- Its queue

given_by : (side : Side) (spent : Bool) (v : Relay) → given side (record { relay = v; is_spent = spent }) ≡ slice_get (queued_at side (record { relay = v; is_spent = spent })) 0
given_by side true v = refl
given_by Below false v = refl
given_by Above false v = by_upper v.upper
  where
    by_upper : (upper : Option Upper) → given Above (record { relay = record v { upper = upper }; is_spent = false }) ≡ slice_get (queue_of upper) 0
    by_upper None = refl
    by_upper (Some e) = refl

pub given_is : (side : Side) (v : ValueValue) (queue : List Outgoing) → queued_at side v ≡ queue → given side v ≡ slice_get queue 0
given_is side v queue is = given_by side v.is_spent v.relay ∙ ap (λ q. slice_get q 0) is

fresh_queue : (side : Side) (v : ValueValue) → v.is_spent ≡ false → queued_on side v.relay ≡ queued_at side v
fresh_queue side v fresh = sym (ap (λ b. cond b [] (queued_on side v.relay)) fresh)

-- nothing is called of the end on the other side
give_below : (v : Relay) (upper : Option Upper) → AreIdle (upper_from (gives Below) v upper)
give_below v None = tt
give_below v (Some e) = tt

pub come_below : (piece : List ℕ) (mark : Option ℕ) (v : Relay) (upper : Option Upper) → AreIdle (upper_from (comes Below piece mark) v upper)
come_below piece mark v None = tt
come_below piece mark v (Some e) = tt

-- an upper end with what is queued there has a connection
pub record HasUpper (m : Made) : Type 0 where
  pub calls : List UpperCall
  pub connection : (past_of m).connection ≡ Some calls
  pub upper : (value_of m).relay.upper ≡ Some (upper_after calls).end

pub has_upper : (m : Made) → IsSome (past_of m).connection → HasUpper m
has_upper m is = by_connection (past_of m).connection refl is
  where
    by_connection : (connection : Option (List UpperCall)) → (past_of m).connection ≡ connection → IsSome connection → HasUpper m
    by_connection None has is = absurd cc
    by_connection (Some calls) has is = record {
      calls = calls;
      connection = has;
      upper = (facts_of m).upper ∙ ap (option_map (λ xs. (upper_after xs).end)) has;
    }

queue_has_upper : (m : Made) (out : Outgoing) (rest : List Outgoing) → queue_of (value_of m).relay.upper ≡ out ∷ rest → HasUpper m
queue_has_upper m out rest is = by_connection (past_of m).connection refl
  where
    by_connection : (connection : Option (List UpperCall)) → (past_of m).connection ≡ connection → HasUpper m
    by_connection None has =
        let none : (value_of m).relay.upper ≡ None = (facts_of m).upper ∙ ap (option_map (λ xs. (upper_after xs).end)) has in
        let empty : [] ≡ out ∷ rest = sym (ap queue_of none) ∙ is in absurd cc
    by_connection (Some calls) has = has_upper m (subst IsSome (sym has) refl)

-- ---- A message goes out

pub gives_moves : (side : Side) (m : Made) (hop : Hop) (out : Outgoing) (rest : List Outgoing) → queued_at side (value_of m) ≡ out ∷ rest
    → Moves side m (with_call (gives side) m) hop (sent_from side (out ∷ []) hop)
gives_moves Below m hop out rest is =
    let next = with_call (gives Below) m in
    let v = (value_of m).relay in
    let queue : (below (past_of m)).end.queued ≡ out ∷ rest = sym (ap (λ e. e.queued) (facts_of m).lower) ∙ fresh_queue Below (value_of m) (facts_of m).unspent ∙ is in
    let more : end_at Below next ≡ grown (gave_more (out ∷ [])) (end_at Below m) =
    ap used (below_added (gives Below) m refl ∙ put_end (new_end value_services None) (lower_calls (past_of m)) out rest queue) in
    record {
      moved = moved_by Below m next hop (sent_from Below (out ∷ []) hop) (gave_more (out ∷ [])) more (side_given Below (out ∷ []) hop) (dead_given Below (out ∷ []) hop);
      rests = above_same (gives Below) m refl (give_below v v.upper);
      connected = still_connected (gives Below) m refl;
      unconnected = still_unconnected (gives Below) m refl;
    }
gives_moves Above m hop out rest is =
    let next = with_call (gives Above) m in
    let v = (value_of m).relay in
    let on : queue_of v.upper ≡ out ∷ rest = fresh_queue Above (value_of m) (facts_of m).unspent ∙ is in
    let has = queue_has_upper m out rest on in
    let queue : (upper_after has.calls).end.queued ≡ out ∷ rest = sym (ap queue_of has.upper) ∙ on in
    let more : end_at Above next ≡ grown (gave_more (out ∷ [])) (end_at Above m) =
    above_added (gives Above) m has.calls has.connection refl
    ∙ ap (λ u. used (upper_end (has.calls ++ upper_from (gives Above) v u))) has.upper
    ∙ ap used (put_end (new_end value_services None) has.calls out rest queue)
    ∙ ap (grown (gave_more (out ∷ []))) (sym (end_of_calls (past_of m) has.calls has.connection)) in
    record {
      moved = moved_by Above m next hop (sent_from Above (out ∷ []) hop) (gave_more (out ∷ [])) more (side_given Above (out ∷ []) hop) (dead_given Above (out ∷ []) hop);
      rests = below_same (gives Above) m refl tt;
      connected = still_connected (gives Above) m refl;
      unconnected = still_unconnected (gives Above) m refl;
    }
