-- All that is in flight to a side of a value-add arrives: as many pieces as there are bytes and messages are enough, and more
-- change nothing.
use Rattle.std.proofs.Common.{◌≡◌, ℕ, zero, suc, ◌<◌, ◌≤◌, ◌==◌, Bool, true, false, cond, List, [], ◌∷◌, length, Option, Some, None, refl, sym, ap, ◌∙◌, subst, arith, inl, inr, ◌⊎◌, ne_eqb}
use Rattle.std.proofs.lemmas.Bool.{false≢true}
use Rattle.channel_core.specs.EndValue.{EndValue}
use Rattle.channel_core.specs.declared.held.Outgoing.{Outgoing}
use Rattle.value_node.specs.ForwardedValue.{ForwardedValue}
use Rattle.value_node.specs.ValueValue.{ValueValue}
use Rattle.value_node.specs.declared.relay.Relay.{Relay}
use Rattle.value_node.specs.declared.states.Side.{Side}
use Rattle.value_node.specs.declared.states.Side.TheVariants.{Below, Above}
use Rattle.chain_route.specs.Hop.{lane_to, sent_from}
use Rattle.chain_route.specs.Lane.{size_in, staying}
use Rattle.chain_route.specs.Passing.{Pair, all_delivered, came, carried, delivered, emptied, most_bytes, pair, pieces, queued_at, takes}
use Rattle.chain_route.specs.declared.hop.Hop.{Hop}
use Rattle.chain_route.proofs.Carried.{none_sent}
use Rattle.chain_route.proofs.Resting.{Fewer, Goes, again, enough, rests, stays_fewer}
use Rattle.list_laws.proofs.Numbers.{below_zero}

-- ---- What is carried has nothing queued, and stays

twice_above : (upper : Option (EndValue ForwardedValue)) (v : Relay) → emptied Above (emptied Above (record { relay = record v { upper = upper }; is_spent = false })) ≡ emptied Above (record { relay = record v { upper = upper }; is_spent = false })
twice_above None v = refl
twice_above (Some e) v = refl

twice_by : (side : Side) (spent : Bool) (v : Relay) → emptied side (emptied side (record { relay = v; is_spent = spent })) ≡ emptied side (record { relay = v; is_spent = spent })
twice_by side true v = refl
twice_by Below false v = refl
twice_by Above false v = twice_above v.upper v

none_above : (upper : Option (EndValue ForwardedValue)) (v : Relay) → queued_at Above (emptied Above (record { relay = record v { upper = upper }; is_spent = false })) ≡ []
none_above None v = refl
none_above (Some e) v = refl

none_by : (side : Side) (spent : Bool) (v : Relay) → queued_at side (emptied side (record { relay = v; is_spent = spent })) ≡ []
none_by side true v = refl
none_by Below false v = refl
none_by Above false v = none_above v.upper v

carried_twice : (side : Side) (p : Pair) → carried side (carried side p) ≡ carried side p
carried_twice side p =
    let v = emptied side p.add in
    let h = sent_from side (queued_at side p.add) p.hop in
    ap (λ x. pair x (sent_from side (queued_at side v) h)) (twice_by side p.add.is_spent p.add.relay)
    ∙ ap (λ q. pair v (sent_from side q h)) (none_by side p.add.is_spent p.add.relay)
    ∙ ap (pair v) (none_sent side h)

-- what goes out doesn't touch what comes
abbrev hop_of : (live shut : Bool) → List Outgoing → List Outgoing → Hop
hop_of live shut up down = record { is_live = live; is_refused = shut; up = up; down = down }

lane_by : (side : Side) (live shut : Bool) (up down outs : List Outgoing) → lane_to side (sent_from side outs (hop_of live shut up down)) ≡ lane_to side (hop_of live shut up down)
lane_by Below true shut up down outs = refl
lane_by Below false shut up down outs = refl
lane_by Above true true up down outs = refl
lane_by Above true false up down outs = refl
lane_by Above false shut up down outs = refl

pub lane_kept : (side : Side) (outs : List Outgoing) (h : Hop) → lane_to side (sent_from side outs h) ≡ lane_to side h
lane_kept side outs h = lane_by side h.is_live h.is_refused h.up h.down outs

pub lane_left : (side : Side) (count : ℕ) (p : Pair) → lane_to side (came side count p).hop ≡ staying count (lane_to side p.hop)
lane_left Below count p = refl
lane_left Above count p = refl

-- ---- One piece

abbrev IsCarried : Side → Pair → Type 0
IsCarried side p = carried side p ≡ p

abbrev size_to : Side → Pair → ℕ
size_to side p = size_in (lane_to side p.hop)

abbrev may : Side → Pair → Bool
may side p = takes side p.add p.hop

pub piece_taken : (side : Side) (count : ℕ) (p : Pair) → may side p ≡ true → delivered side count p ≡ carried side (came side count p)
piece_taken side count p is = ap (λ b. cond b (carried side (came side count p)) p) is

pub piece_still : (side : Side) (count : ℕ) (p : Pair) → may side p ≡ false → delivered side count p ≡ p
piece_still side count p is = ap (λ b. cond b (carried side (came side count p)) p) is

-- where a piece arrives, the queue is carried then, and less is in flight
piece_fewer : (side : Side) (count : ℕ) (p : Pair) (out : Outgoing) (outs : List Outgoing) → 0 < count → may side p ≡ true → lane_to side p.hop ≡ out ∷ outs → Fewer (delivered side count) (size_to side) (IsCarried side) p
piece_fewer side count p out outs more takes is =
    let step = piece_taken side count p takes in
    let after = came side count p in
    record {
      keeps = subst (IsCarried side) (sym step) (carried_twice side after);
      fewer =
          let left : size_to side (delivered side count p) ≡ size_in (staying count (lane_to side p.hop)) =
          ap (size_to side) step ∙ ap size_in (lane_kept side (queued_at side after.add) after.hop ∙ lane_left side count p) in
          let here : size_in (staying count (out ∷ outs)) < size_in (out ∷ outs) = stays_fewer count out outs more in
          let less : size_in (staying count (lane_to side p.hop)) < size_in (lane_to side p.hop) = subst (λ xs. size_in (staying count xs) < size_in xs) (sym is) here in
          rw left less;
    }

nothing_came : (side : Side) (count : ℕ) (p : Pair) → lane_to side p.hop ≡ [] → came side count p ≡ p
nothing_came Below count p is =
    let pair_of : List Outgoing → Pair = λ xs. record p { hop = record p.hop { up = xs } } in
    ap (λ xs. came Below count (pair_of xs)) is ∙ sym (ap pair_of is)
nothing_came Above count p is =
    let pair_of : List Outgoing → Pair = λ xs. record p { hop = record p.hop { down = xs } } in
    ap (λ xs. came Above count (pair_of xs)) is ∙ sym (ap pair_of is)

piece_goes : (side : Side) (count : ℕ) → 0 < count → Goes (delivered side count) (size_to side) (IsCarried side)
piece_goes side count more p settled = by_flag (may side p) refl
  where
    by_flight : (flight : List Outgoing) → lane_to side p.hop ≡ flight → may side p ≡ true → (delivered side count p ≡ p) ⊎ Fewer (delivered side count) (size_to side) (IsCarried side) p
    by_flight [] is takes = inl (piece_taken side count p takes ∙ ap (carried side) (nothing_came side count p is) ∙ settled)
    by_flight (out ∷ outs) is takes = inr (piece_fewer side count p out outs more takes is)

    by_flag : (flag : Bool) → may side p ≡ flag → (delivered side count p ≡ p) ⊎ Fewer (delivered side count) (size_to side) (IsCarried side) p
    by_flag true is = by_flight (lane_to side p.hop) refl is
    by_flag false is = inl (piece_still side count p is)

-- ---- All pieces

pub pieces_again : (n : ℕ) (side : Side) (p : Pair) → pieces n side p ≡ again (delivered side most_bytes) n p
pieces_again zero side p = refl
pieces_again (suc n) side p = pieces_again n side (delivered side most_bytes p)

-- one piece and then all
pub record Onward (side : Side) (p next : Pair) : Type 0 where
  pub fewer : size_in (lane_to side next.hop) < size_in (lane_to side p.hop)
  pub all : all_delivered side next ≡ all_delivered side p

onward : (side : Side) (p : Pair) → may side p ≡ true → (length (lane_to side p.hop) == 0) ≡ false → Onward side p (delivered side most_bytes p)
onward side p takes some = by_flight (lane_to side p.hop) refl
  where
    step : Pair → Pair
    step = delivered side most_bytes

    by_fuel : (n : ℕ) → size_to side p ≡ n → Fewer step (size_to side) (IsCarried side) p → all_delivered side (step p) ≡ all_delivered side p
    by_fuel zero is f = absurd (below_zero (subst (λ n. size_to side (step p) < n) is f.fewer))
    by_fuel (suc n) is f =
        let more : 0 < most_bytes = omega arith in
        let few : size_to side (step p) ≤ n = omega (arith, f.fewer, is) in
        let self : size_to side (step p) ≤ size_to side (step p) = omega arith in
        pieces_again (size_to side (step p)) side (step p)
        ∙ enough step (size_to side) (IsCarried side) (piece_goes side most_bytes more) (size_to side (step p)) n (step p) f.keeps self few
        ∙ sym (ap (λ m. pieces m side p) is ∙ pieces_again n side (step p))

    by_flight : (flight : List Outgoing) → lane_to side p.hop ≡ flight → Onward side p (step p)
    by_flight [] is = absurd (false≢true (sym some ∙ ap (λ xs. length xs == 0) is))
    by_flight (out ∷ outs) is =
        let more : 0 < most_bytes = omega arith in
        let f = piece_fewer side most_bytes p out outs more takes is in record { fewer = f.fewer; all = by_fuel (size_to side p) refl f }

pub all_on : (side : Side) (v w : ValueValue) (h g : Hop) → pair w g ≡ delivered side most_bytes (pair v h) → takes side v h ≡ true → (length (lane_to side h) == 0) ≡ false → Onward side (pair v h) (pair w g)
all_on side v w h g is takes some = subst (Onward side (pair v h)) (sym is) (onward side (pair v h) takes some)

-- none where nothing may arrive, or nothing is in flight
pub all_still : (side : Side) (v : ValueValue) (h : Hop) → takes side v h ≡ false → all_delivered side (pair v h) ≡ pair v h
all_still side v h none =
    let p = pair v h in pieces_again (size_to side p) side p ∙ rests (delivered side most_bytes) (size_to side p) p (piece_still side most_bytes p none)

pub not_empty : (out : Outgoing) (outs : List Outgoing) → (length (out ∷ outs) == 0) ≡ false
not_empty out outs = ne_eqb (length (out ∷ outs)) 0 (λ same. absurd (omega (arith, same)))

pub all_none : (side : Side) (v : ValueValue) (h : Hop) → (length (lane_to side h) == 0) ≡ true → all_delivered side (pair v h) ≡ pair v h
all_none side v h none = by_flight (lane_to side h) refl
  where
    by_flight : (flight : List Outgoing) → lane_to side h ≡ flight → all_delivered side (pair v h) ≡ pair v h
    by_flight [] is = ap (λ xs. pieces (size_in xs) side (pair v h)) is
    by_flight (out ∷ outs) is = absurd (false≢true (sym (not_empty out outs) ∙ sym (ap (λ xs. length xs == 0) is) ∙ none))
