-- What a value-add and a hop beside it come to when its queue goes out, and when bytes arrive.
use Rattle.std.proofs.Common.{◌≡◌, ℕ, Bool, true, false, ◌&&◌, cond, nat_lt, List, [], ◌∷◌, ◌++◌, drop, map, Option, None, refl, sym, ap, ◌∙◌, subst, append_assoc, append-nil}
use Rattle.std.specs.Prelude.{IsSome}
use Rattle.channel_core.specs.Arrivals.{Marked, bytes_of, marked}
use Rattle.channel_core.specs.Beginning.{new_end}
use Rattle.channel_core.specs.declared.held.Outgoing.{Outgoing}
use Rattle.value_node.specs.Runs.{Call, comes, gives, upper_from}
use Rattle.value_node.specs.Value.{after_giving, value_services, waiting_at}
use Rattle.value_node.specs.declared.states.Side.{Side}
use Rattle.value_node.specs.declared.states.Side.TheVariants.{Below, Above}
use Rattle.chain_route.specs.Carrying.{Made, past_of, value_of, was_lost_above}
use Rattle.chain_route.specs.Hop.{arrived_at, lane_to, sent_from}
use Rattle.chain_route.specs.Lane.{arriving}
use Rattle.chain_route.specs.Making.{coming, giving, receiving, with_calls}
use Rattle.chain_route.specs.Passing.{Pair, carried, came, delivered, emptied, most_waiting, pair, parts_came, queued_at, takes}
use Rattle.chain_route.specs.declared.hop.Hop.{Hop}
use Rattle.chain_route.proofs.Adds.{above_added, above_same, below_added, below_same, end_of_calls, lower_calls, still_connected, still_unconnected, upper_end, with_call}
use Rattle.chain_route.proofs.Carried.{add_goes_on, add_is_empty, none_sent, sent_on}
use Rattle.chain_route.proofs.Each.{IsUnconnected}
use Rattle.chain_route.proofs.EndCalls.{come_end}
use Rattle.chain_route.proofs.Flows.{Tip, came_more, dead_came, grown, side_came, used}
use Rattle.chain_route.proofs.Losses.{lost_same}
use Rattle.chain_route.proofs.Moving.{Moves, RestsAt, Step, call_value, come_below, given_is, gives_moves, has_upper, moved_by, moves_still, rests_on, step_on}
use Rattle.chain_route.proofs.Towers.{end_at}

-- a side to which bytes may come: it has an end
abbrev pub IsOpenAt : Side → Made → Type 0
IsOpenAt Below m = Unit {0}
IsOpenAt Above m = IsSome (past_of m).connection

-- with these bytes come
abbrev with_came : Tip → List Marked → Tip
with_came t came = record t { end = record t.end { came = came } }

tail_is : (out x : Outgoing) (rest xs : List Outgoing) → out ∷ rest ≡ x ∷ xs → rest ≡ xs
tail_is out x rest xs is = ap (drop 1) is

-- ---- More calls

pub with_none : (m : Made) → with_calls [] m ≡ m
with_none m = ap (λ calls. record m { calls = calls }) (append-nil m.calls)

pub with_then : (first more : List Call) (m : Made) → with_calls more (with_calls first m) ≡ with_calls (first ++ more) m
with_then first more m = ap (λ calls. record m { calls = calls }) (append_assoc m.calls first more)

-- ---- Its queue goes out

none_step : (side : Side) (m : Made) (hop : Hop) → queued_at side (value_of m) ≡ [] → Step side m hop m (carried side (pair (value_of m) hop))
none_step side m hop is =
    let v = value_of m in
    let empty = add_is_empty side v (given_is side v [] is) in
    record {
      value = sym empty.1;
      moves = subst (λ h. Moves side m m hop h) (sym (ap (λ q. sent_from side q hop) is ∙ none_sent side hop)) (moves_still side m hop);
      lost = refl;
    }

queue_step : (queue : List Outgoing) (side : Side) (m : Made) (hop : Hop) → queued_at side (value_of m) ≡ queue → Step side m hop (with_calls (map (λ out. gives side) queue) m) (carried side (pair (value_of m) hop))
queue_step [] side m hop is = subst (λ next. Step side m hop next (carried side (pair (value_of m) hop))) (sym (with_none m)) (none_step side m hop is)
queue_step (out ∷ rest) side m hop is =
    let v = value_of m in
    let goes = add_goes_on side v out (given_is side v (out ∷ rest) is) in
    let m1 = with_call (gives side) m in
    let hop1 = sent_from side (out ∷ []) hop in
    let value : value_of m1 ≡ after_giving side v = call_value (gives side) m in
    let left : queued_at side (after_giving side v) ≡ rest = sym (tail_is out out rest (queued_at side (after_giving side v)) (sym is ∙ goes.queue)) in
    let more = map (λ out. gives side) rest in
    let last = with_calls more m1 in
    let step : Step side m1 hop1 last (carried side (pair (value_of m1) hop1)) = queue_step rest side m1 hop1 (ap (queued_at side) value ∙ left) in
    let same : carried side (pair (value_of m1) hop1) ≡ carried side (pair v hop) =
    ap (λ x. carried side (pair x hop1)) value
    ∙ ap (λ x. pair x (sent_from side (queued_at side (after_giving side v)) hop1)) goes.same
    ∙ ap (pair (emptied side v)) (sent_on side out (queued_at side (after_giving side v)) hop)
    ∙ ap (λ q. pair (emptied side v) (sent_from side q hop)) (sym goes.queue) in
    let all : Step side m hop last (carried side (pair (value_of m) hop)) =
    subst (Step side m hop last) same (step_on side m m1 last hop hop1 (carried side (pair (value_of m1) hop1)) (gives_moves side m hop out rest is) (lost_same (gives side) m refl) step) in
    subst (λ next. Step side m hop next (carried side (pair (value_of m) hop))) (with_then (gives side ∷ []) more m) all

pub carried_step : (side : Side) (m : Made) (hop : Hop) → Step side m hop (with_calls (giving side (value_of m)) m) (carried side (pair (value_of m) hop))
carried_step side m hop = queue_step (queued_at side (value_of m)) side m hop refl

-- ---- Bytes arrive

comes_end : (side : Side) (piece : List ℕ) (mark : Option ℕ) (m : Made) → IsOpenAt side m
    → end_at side (with_call (comes side piece mark) m) ≡ grown (came_more (marked piece mark)) (end_at side m)
comes_end Below piece mark m has_end =
    ap used (below_added (comes Below piece mark) m refl ∙ come_end (new_end value_services None) (lower_calls (past_of m)) piece mark)
comes_end Above piece mark m has_end =
    let has = has_upper m has_end in
    above_added (comes Above piece mark) m has.calls has.connection refl
    ∙ ap (λ u. used (upper_end (has.calls ++ upper_from (comes Above piece mark) (value_of m).relay u))) has.upper
    ∙ ap used (come_end (new_end value_services None) has.calls piece mark)
    ∙ ap (grown (came_more (marked piece mark))) (sym (end_of_calls (past_of m) has.calls has.connection))

comes_rests : (side : Side) (piece : List ℕ) (mark : Option ℕ) (m : Made) → RestsAt side m (with_call (comes side piece mark) m)
comes_rests Below piece mark m = above_same (comes Below piece mark) m refl (come_below piece mark (value_of m).relay (value_of m).relay.upper)
comes_rests Above piece mark m = below_same (comes Above piece mark) m refl tt

-- so many parts, one after the other
record Came (side : Side) (parts : List Outgoing) (m next : Made) : Type 0 where
  value : value_of next ≡ parts_came side parts (value_of m)
  more : end_at side next ≡ grown (came_more (bytes_of parts)) (end_at side m)
  rests : RestsAt side m next
  connected : IsSome (past_of m).connection → IsSome (past_of next).connection
  unconnected : IsUnconnected m → IsUnconnected next
  lost : was_lost_above next ≡ was_lost_above m

still_open : (side : Side) (piece : List ℕ) (mark : Option ℕ) (m : Made) → IsOpenAt side m → IsOpenAt side (with_call (comes side piece mark) m)
still_open Below piece mark m has_end = tt
still_open Above piece mark m has_end = still_connected (comes Above piece mark) m refl has_end

rests_same : (side : Side) (m : Made) → RestsAt side m m
rests_same Below m = refl
rests_same Above m = refl

none_came : (side : Side) (m : Made) → Came side [] m m
none_came side m = record {
  value = refl;
  more = ap (with_came (end_at side m)) (sym (append-nil (end_at side m).end.came));
  rests = rests_same side m;
  connected = λ is. is;
  unconnected = λ none. none;
  lost = refl;
}

parts_came_to : (parts : List Outgoing) (side : Side) (m : Made) → IsOpenAt side m → Came side parts m (with_calls (coming side parts) m)
parts_came_to [] side m has_end = subst (Came side [] m) (sym (with_none m)) (none_came side m)
parts_came_to (part ∷ parts) side m has_end =
    let call = comes side part.bytes part.mark in
    let m1 = with_call call m in
    let rest = parts_came_to parts side m1 (still_open side part.bytes part.mark m has_end) in
    let front = marked part.bytes part.mark in
    let last = with_calls (coming side parts) m1 in
    let all : Came side (part ∷ parts) m last = record {
      value = rest.value ∙ ap (parts_came side parts) (call_value call m);
      more = rest.more ∙ ap (grown (came_more (bytes_of parts))) (comes_end side part.bytes part.mark m has_end)
          ∙ ap (with_came (end_at side m)) (append_assoc (end_at side m).end.came front (bytes_of parts));
      rests = rests_on side m m1 last (comes_rests side part.bytes part.mark m) rest.rests;
      connected = λ is. rest.connected (still_connected call m refl is);
      unconnected = λ none. rest.unconnected (still_unconnected call m refl none);
      lost = rest.lost ∙ lost_same call m refl;
    } in
    subst (Came side (part ∷ parts) m) (with_then (call ∷ []) (coming side parts) m) all

came_step : (side : Side) (count : ℕ) (m : Made) (hop : Hop) → IsOpenAt side m → Step side m hop (with_calls (coming side (arriving count (lane_to side hop))) m) (came side count (pair (value_of m) hop))
came_step side count m hop has_end =
    let parts = arriving count (lane_to side hop) in
    let c = parts_came_to parts side m has_end in
    record {
      value = c.value;
      moves = record {
        moved = moved_by side m (with_calls (coming side parts) m) hop (arrived_at side count hop) (came_more (bytes_of parts)) c.more (side_came side count hop) (dead_came side count hop);
        rests = c.rests;
        connected = c.connected;
        unconnected = c.unconnected;
      };
      lost = c.lost;
    }

-- as one piece, and the end may answer with a level
pub delivered_step : (side : Side) (count : ℕ) (m : Made) (hop : Hop) → (hop.is_live ≡ true → IsOpenAt side m)
    → Step side m hop (with_calls (receiving side count (value_of m) hop) m) (delivered side count (pair (value_of m) hop))
delivered_step side count m hop has_end = by_flag (takes side (value_of m) hop) refl
  where
    p : Pair
    p = pair (value_of m) hop

    parts : List Outgoing
    parts = arriving count (lane_to side hop)

    one : Made
    one = with_calls (coming side parts) m

    more : List Call
    more = giving side (parts_came side parts (value_of m))

    live : (a b : Bool) → (a && b) ≡ true → a ≡ true
    live true b is = refl
    live false b is = is

    by_flag : (flag : Bool) → takes side (value_of m) hop ≡ flag → Step side m hop (with_calls (cond flag (coming side parts ++ more) []) m) (cond flag (carried side (came side count p)) p)
    by_flag true is =
        let first = came_step side count m hop (has_end (live hop.is_live (nat_lt (waiting_at side (value_of m).relay) most_waiting) is)) in
        let after = (came side count p).hop in
        let then : Step side one after (with_calls (giving side (value_of one)) one) (carried side (pair (value_of one) after)) = carried_step side one after in
        let all : Step side m hop (with_calls more one) (carried side (came side count p)) =
        step_on side m one (with_calls more one) hop after (carried side (came side count p)) first.moves first.lost
        (subst (λ x. Step side one after (with_calls (giving side x) one) (carried side (pair x after))) first.value then) in
        subst (λ next. Step side m hop next (carried side (came side count p))) (with_then (coming side parts) more m) all
    by_flag false is = subst (λ next. Step side m hop next p) (sym (with_none m)) (record { value = refl; moves = moves_still side m hop; lost = refl })
