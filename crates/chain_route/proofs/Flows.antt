-- What happens on a hop: it carries on.
use Rattle.std.proofs.Common.{◌≡◌, ℕ, Bool, true, false, not, ◌&&◌, cond, List, [], ◌++◌, refl, sym, ap, ◌∙◌, subst, append_assoc, append-nil}
use Rattle.std.proofs.lemmas.Bool.{and_parts}
use Rattle.channel_core.specs.Arrivals.{Marked, bytes_of}
use Rattle.channel_core.specs.declared.held.Outgoing.{Outgoing}
use Rattle.value_node.specs.declared.states.Side.{Side}
use Rattle.value_node.specs.declared.states.Side.TheVariants.{Below, Above}
use Rattle.chain_route.specs.Carrying.{End, IsDead}
use Rattle.chain_route.specs.Hop.{arrived_at, connected, goes_up, lane_to, no_hop, sent_down, sent_from, sent_up}
use Rattle.chain_route.specs.Lane.{arriving, staying}
use Rattle.chain_route.specs.declared.hop.Hop.{Hop}
use Rattle.chain_route.proofs.Bytes.{arrives_first, bytes_more}
use Rattle.list_laws.proofs.Flags.{not_both, not_true}
use Rattle.list_laws.specs.Fronts.{IsFront}
use Rattle.list_laws.proofs.Fronts.{front_more, front_same}

abbrev pub fresh_end : End
fresh_end = record { gave = []; came = []; is_lost = false; is_refused = false }

abbrev pub gave_more : List Outgoing → End → End
gave_more outs e = record e { gave = e.gave ++ outs }

abbrev pub came_more : List Marked → End → End
came_more bytes e = record e { came = e.came ++ bytes }

-- the hop was lost to it
abbrev pub losing : End → End
losing e = record e { is_lost = true }

-- ---- an end of a hop, and whether it was connected

pub record Tip : Type 0 where
  pub end : End
  pub is_used : Bool

abbrev pub used : End → Tip
used e = record { end = e; is_used = true }

abbrev pub unused_tip : Tip
unused_tip = record { end = fresh_end; is_used = false }

abbrev pub grown : (End → End) → Tip → Tip
grown more t = record t { end = more t.end }

-- ---- a hop, from the end below it to the one above it, of which each was connected or not: it carries, and where it isn't live
-- it was lost to each end that was connected

pub record HopHolds (hop : Hop) (lower upper : Tip) : Type 0 where
  pub up : hop.is_live ≡ true → upper.end.is_refused ≡ false → bytes_of lower.end.gave ≡ upper.end.came ++ bytes_of hop.up
  pub up_front : IsFront upper.end.came (bytes_of lower.end.gave)
  pub refuses : hop.is_live ≡ true → hop.is_refused ≡ upper.end.is_refused
  pub refused : upper.end.is_refused ≡ true → (upper.end.came ≡ []) × (hop.up ≡ [])
  pub down : hop.is_live ≡ true → bytes_of upper.end.gave ≡ lower.end.came ++ bytes_of hop.down
  pub down_front : IsFront lower.end.came (bytes_of upper.end.gave)
  pub dead : hop.is_live ≡ false → hop ≡ no_hop
  pub lasting : hop.is_live ≡ true → (lower.end.is_lost ≡ false) × (upper.end.is_lost ≡ false)
  pub lost : hop.is_live ≡ false → lower.is_used ≡ true → lower.end.is_lost ≡ true
  pub lost_above : hop.is_live ≡ false → upper.is_used ≡ true → upper.end.is_lost ≡ true

-- what is given behind what was given
more_given : (e : End) (outs : List Outgoing) → bytes_of (e.gave ++ outs) ≡ bytes_of e.gave ++ bytes_of outs
more_given e outs = bytes_more (λ mark. mark) e.gave outs

front_given : (came : List Marked) (e : End) (outs : List Outgoing) → IsFront came (bytes_of e.gave) → IsFront came (bytes_of (e.gave ++ outs))
front_given came e outs front =
    front_same came (bytes_of e.gave ++ bytes_of outs) (bytes_of (e.gave ++ outs)) (sym (more_given e outs)) (front_more came (bytes_of e.gave) (bytes_of outs) front)

lane_given : (came : List Marked) (e : End) (outs flight : List Outgoing) → bytes_of e.gave ≡ came ++ bytes_of flight → bytes_of (e.gave ++ outs) ≡ came ++ bytes_of (flight ++ outs)
lane_given came e outs flight is =
    more_given e outs ∙ ap (λ bs. bs ++ bytes_of outs) is ∙ append_assoc came (bytes_of flight) (bytes_of outs)
    ∙ ap (λ bs. came ++ bs) (sym (bytes_more (λ mark. mark) flight outs))

-- ---- a node gives

pub up_given : (outs : List Outgoing) (hop : Hop) (lower upper : Tip) → HopHolds hop lower upper → HopHolds (sent_up outs hop) (grown (gave_more outs) lower) upper
up_given outs hop lower upper h = by_flag (goes_up hop) refl
  where
    by_flag : (flag : Bool) → goes_up hop ≡ flag → HopHolds (cond flag (record hop { up = hop.up ++ outs }) hop) (grown (gave_more outs) lower) upper
    by_flag true is =
        let live : hop.is_live ≡ true = (and_parts hop.is_live (not hop.is_refused) is).0 in
        let free : upper.end.is_refused ≡ false = sym (h.refuses live) ∙ not_true hop.is_refused (and_parts hop.is_live (not hop.is_refused) is).1 in
        record {
          up = λ _ _. lane_given upper.end.came lower.end outs hop.up (h.up live free);
          up_front = front_given upper.end.came lower.end outs h.up_front;
          refuses = h.refuses;
          refused = λ shut. absurd (not_both shut free);
          down = h.down;
          down_front = h.down_front;
          dead = λ none. absurd (not_both live none);
          lasting = h.lasting;
          lost = λ none. absurd (not_both live none);
          lost_above = λ none. absurd (not_both live none);
        }
    by_flag false dropped = record {
      up = λ live free. absurd (not_both (ap (λ b. b && not hop.is_refused) live ∙ ap not (h.refuses live ∙ free)) dropped);
      up_front = front_given upper.end.came lower.end outs h.up_front;
      refuses = h.refuses;
      refused = h.refused;
      down = h.down;
      down_front = h.down_front;
      dead = h.dead;
      lasting = h.lasting;
      lost = h.lost;
      lost_above = h.lost_above;
    }

pub down_given : (outs : List Outgoing) (hop : Hop) (lower upper : Tip) → HopHolds hop lower upper → HopHolds (sent_down outs hop) lower (grown (gave_more outs) upper)
down_given outs hop lower upper h = by_flag hop.is_live refl
  where
    by_flag : (flag : Bool) → hop.is_live ≡ flag → HopHolds (cond flag (record hop { down = hop.down ++ outs }) hop) lower (grown (gave_more outs) upper)
    by_flag true live = record {
      up = h.up;
      up_front = h.up_front;
      refuses = h.refuses;
      refused = h.refused;
      down = λ _. lane_given lower.end.came upper.end outs hop.down (h.down live);
      down_front = front_given lower.end.came upper.end outs h.down_front;
      dead = λ none. absurd (not_both live none);
      lasting = h.lasting;
      lost = λ none. absurd (not_both live none);
      lost_above = λ none. absurd (not_both live none);
    }
    by_flag false dead = record {
      up = h.up;
      up_front = h.up_front;
      refuses = h.refuses;
      refused = h.refused;
      down = λ live. absurd (not_both live dead);
      down_front = front_given lower.end.came upper.end outs h.down_front;
      dead = h.dead;
      lasting = h.lasting;
      lost = h.lost;
      lost_above = h.lost_above;
    }

-- ---- bytes arrive

split_flight : (count : ℕ) (flight : List Outgoing) (came gave : List Marked) → gave ≡ came ++ bytes_of flight → gave ≡ (came ++ bytes_of (arriving count flight)) ++ bytes_of (staying count flight)
split_flight count flight came gave is =
    is ∙ ap (λ bs. came ++ bs) (arrives_first (λ mark. mark) count flight)
    ∙ sym (append_assoc came (bytes_of (arriving count flight)) (bytes_of (staying count flight)))

none_more : (came all : List Marked) → IsFront came all → IsFront (came ++ []) all
none_more came all p = subst (λ bs. IsFront bs all) (sym (append-nil came)) p

-- a hop that isn't live has nothing in flight, and one whose channel was refused nothing that goes up
pub up_came : (count : ℕ) (hop : Hop) (lower upper : Tip) → HopHolds hop lower upper → HopHolds (record hop { up = staying count hop.up }) lower (grown (came_more (bytes_of (arriving count hop.up))) upper)
up_came count hop lower upper h = by_flags hop.is_live upper.end.is_refused refl refl
  where
    After : Hop → Type 0
    After x = HopHolds (record x { up = staying count x.up }) lower (grown (came_more (bytes_of (arriving count x.up))) upper)

    nothing : upper.end.is_refused ≡ true → (upper.end.came ++ [] ≡ []) × (staying count [] ≡ [])
    nothing shut = (append-nil upper.end.came ∙ (h.refused shut).0, refl)

    by_flags : (flag shut : Bool) → hop.is_live ≡ flag → upper.end.is_refused ≡ shut → After hop
    by_flags true false live free =
        let split = split_flight count hop.up upper.end.came (bytes_of lower.end.gave) (h.up live free) in
        record {
          up = λ _ _. split;
          up_front = (bytes_of (staying count hop.up), split);
          refuses = h.refuses;
          refused = λ shut. absurd (not_both shut free);
          down = h.down;
          down_front = h.down_front;
          dead = λ none. absurd (not_both live none);
          lasting = h.lasting;
          lost = λ none. absurd (not_both live none);
          lost_above = λ none. absurd (not_both live none);
        }
    by_flags true true live shut =
        let With : List Outgoing → Type 0 = λ flight. HopHolds (record hop { up = staying count flight }) lower (grown (came_more (bytes_of (arriving count flight))) upper) in
        subst With (sym (h.refused shut).1) (record {
          up = λ _ free. absurd (not_both shut free);
          up_front = none_more upper.end.came (bytes_of lower.end.gave) h.up_front;
          refuses = h.refuses;
          refused = nothing;
          down = h.down;
          down_front = h.down_front;
          dead = λ none. absurd (not_both live none);
          lasting = h.lasting;
          lost = λ none. absurd (not_both live none);
          lost_above = λ none. absurd (not_both live none);
        })
    by_flags false shut dead is = subst After (sym (h.dead dead)) (record {
      up = λ live. absurd cc;
      up_front = none_more upper.end.came (bytes_of lower.end.gave) h.up_front;
      refuses = λ live. absurd cc;
      refused = nothing;
      down = λ live. absurd cc;
      down_front = h.down_front;
      dead = λ _. refl;
      lasting = λ live. absurd cc;
      lost = λ _. h.lost dead;
      lost_above = λ _. h.lost_above dead;
    })

pub down_came : (count : ℕ) (hop : Hop) (lower upper : Tip) → HopHolds hop lower upper → HopHolds (record hop { down = staying count hop.down }) (grown (came_more (bytes_of (arriving count hop.down))) lower) upper
down_came count hop lower upper h = by_flag hop.is_live refl
  where
    After : Hop → Type 0
    After x = HopHolds (record x { down = staying count x.down }) (grown (came_more (bytes_of (arriving count x.down))) lower) upper

    by_flag : (flag : Bool) → hop.is_live ≡ flag → After hop
    by_flag true live =
        let split = split_flight count hop.down lower.end.came (bytes_of upper.end.gave) (h.down live) in
        record {
          up = h.up;
          up_front = h.up_front;
          refuses = h.refuses;
          refused = h.refused;
          down = λ _. split;
          down_front = (bytes_of (staying count hop.down), split);
          dead = λ none. absurd (not_both live none);
          lasting = h.lasting;
          lost = λ none. absurd (not_both live none);
          lost_above = λ none. absurd (not_both live none);
        }
    by_flag false dead = subst After (sym (h.dead dead)) (record {
      up = λ live. absurd cc;
      up_front = h.up_front;
      refuses = λ live. absurd cc;
      refused = λ shut. ((h.refused shut).0, refl);
      down = λ live. absurd cc;
      down_front = none_more lower.end.came (bytes_of upper.end.gave) h.down_front;
      dead = λ _. refl;
      lasting = λ live. absurd cc;
      lost = λ _. h.lost dead;
      lost_above = λ _. h.lost_above dead;
    })

-- ---- it is cut, or begins anew

-- it is lost to both its ends
pub cut_carries : (hop : Hop) (lower upper : Tip) → HopHolds hop lower upper → HopHolds no_hop (grown losing lower) (grown losing upper)
cut_carries hop lower upper h = record {
  up = λ live. absurd cc;
  up_front = h.up_front;
  refuses = λ live. absurd cc;
  refused = λ shut. ((h.refused shut).0, refl);
  down = λ live. absurd cc;
  down_front = h.down_front;
  dead = λ _. refl;
  lasting = λ live. absurd cc;
  lost = λ _ _. refl;
  lost_above = λ _ _. refl;
}

pub begun_carries : HopHolds (connected []) (used fresh_end) (used fresh_end)
begun_carries = record {
  up = λ _ _. refl;
  up_front = ([], refl);
  refuses = λ _. refl;
  refused = λ shut. absurd cc;
  down = λ _. refl;
  down_front = ([], refl);
  dead = λ none. absurd cc;
  lasting = λ _. (refl, refl);
  lost = λ none. absurd cc;
  lost_above = λ none. absurd cc;
}

-- ---- at a side of a value-add

abbrev pub CarriesAt : Side → Hop → Tip → Tip → Type 0
CarriesAt Below hop own other = HopHolds hop other own
CarriesAt Above hop own other = HopHolds hop own other

pub side_given : (side : Side) (outs : List Outgoing) (hop : Hop) (own other : Tip) → CarriesAt side hop own other → CarriesAt side (sent_from side outs hop) (grown (gave_more outs) own) other
side_given Below outs hop own other h = down_given outs hop other own h
side_given Above outs hop own other h = up_given outs hop own other h

pub side_came : (side : Side) (count : ℕ) (hop : Hop) (own other : Tip) → CarriesAt side hop own other → CarriesAt side (arrived_at side count hop) (grown (came_more (bytes_of (arriving count (lane_to side hop)))) own) other
side_came Below count hop own other h = up_came count hop other own h
side_came Above count hop own other h = down_came count hop own other h

pub dead_given : (side : Side) (outs : List Outgoing) (hop : Hop) → IsDead hop → IsDead (sent_from side outs hop)
dead_given Below outs hop dead = let P : Hop → Type 0 = λ x. sent_from Below outs x ≡ no_hop in subst P (sym dead) refl
dead_given Above outs hop dead = let P : Hop → Type 0 = λ x. sent_from Above outs x ≡ no_hop in subst P (sym dead) refl

pub dead_came : (side : Side) (count : ℕ) (hop : Hop) → IsDead hop → IsDead (arrived_at side count hop)
dead_came Below count hop dead = let P : Hop → Type 0 = λ x. arrived_at Below count x ≡ no_hop in subst P (sym dead) refl
dead_came Above count hop dead = let P : Hop → Type 0 = λ x. arrived_at Above count x ≡ no_hop in subst P (sym dead) refl
