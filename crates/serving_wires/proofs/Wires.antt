-- What was queued for each wire and came on it, by its channel: an order and a piece change their own wire alone, and a new
-- wire none that was there.
use Rattle.std.proofs.Common.{◌≡◌, ℕ, ◌==◌, Bool, true, false, cond, List, [], ◌∷◌, ◌++◌, Option, Some, None, refl, ap, sym, ◌∙◌, subst, append-nil, eqb-true}
use Rattle.std.specs.Prelude.{if◌then◌else◌}
use Rattle.std.proofs.lemmas.Option.{none-some, same_Some}
use Rattle.list_laws.proofs.Numbers.{number_itself}
use Rattle.serving_wires.specs.Row.{Row}
use Rattle.serving_wires.specs.Rows.{with_item}
use Rattle.serving_wires.proofs.Rows.{change_first, changed_here, changed_later, changed_nowhere, changed_numbers, first_changed, found, found_here, found_later, numbers}
use Rattle.serving_wires.specs.Order.{Order, channel_of, closes, leaves, queues}
use Rattle.serving_wires.specs.Standing.{Wire, sent_after, sent_with, unused_wire, wires_with, with_piece, with_wire}
use Rattle.tcf_wires.specs.declared.event.WireEvent.{WireEvent}
use Rattle.tcf_wires.specs.declared.event.WireEvent.TheVariants as events

abbrev pub Wires : Type 0
Wires = List (Row Wire)

-- ---- what is found behind a change

found_other : (channel other : ℕ) (change : Wire → Wire) (rows : Wires) → (other == channel) ≡ false → found channel (first_changed other change rows) ≡ found channel rows
found_other channel other change [] off = refl
found_other channel other change (row ∷ rows) off = by_flag (row.channel == other) refl (found_other channel other change rows off)
  where
    by_flag : (flag : Bool) → (row.channel == other) ≡ flag → found channel (first_changed other change rows) ≡ found channel rows
        → found channel (first_changed other change (row ∷ rows)) ≡ found channel (row ∷ rows)
    by_flag true is rest =
        let away : (row.channel == channel) ≡ false = ap (λ (n : ℕ). n == channel) (eqb-true row.channel other is) ∙ off in
        ap (λ (rs : Wires). found channel rs) (changed_here other change row rows is)
        ∙ found_later channel (with_item (change row.item) row) rows away ∙ sym (found_later channel row rows away)
    by_flag false is rest =
        ap (λ (rs : Wires). found channel rs) (changed_later other change row rows is) ∙ ap (λ (o : Option Wire). cond (row.channel == channel) (Some row.item) o) rest

found_own : (channel : ℕ) (change : Wire → Wire) (rows : Wires) (wire : Wire) → found channel rows ≡ Some wire → found channel (first_changed channel change rows) ≡ Some (change wire)
found_own channel change [] wire is = absurd cc
found_own channel change (row ∷ rows) wire is = by_flag (row.channel == channel) refl (found_own channel change rows wire)
  where
    by_flag : (flag : Bool) → (row.channel == channel) ≡ flag → (found channel rows ≡ Some wire → found channel (first_changed channel change rows) ≡ Some (change wire))
        → found channel (first_changed channel change (row ∷ rows)) ≡ Some (change wire)
    by_flag true here rest =
        ap (λ (rs : Wires). found channel rs) (changed_here channel change row rows here)
        ∙ found_here channel (with_item (change row.item) row) rows here
        ∙ ap (λ (w : Wire). Some (change w)) (same_Some row.item wire (sym (found_here channel row rows here) ∙ is))
    by_flag false away rest =
        ap (λ (rs : Wires). found channel rs) (changed_later channel change row rows away)
        ∙ found_later channel row (first_changed channel change rows) away ∙ rest (sym (found_later channel row rows away) ∙ is)

pub found_push : (channel : ℕ) (rows more : Wires) (wire : Wire) → found channel rows ≡ Some wire → found channel (rows ++ more) ≡ Some wire
found_push channel [] more wire is = absurd cc
found_push channel (row ∷ rows) more wire is = by_flag (row.channel == channel) refl (found_push channel rows more wire)
  where
    by_flag : (flag : Bool) → (row.channel == channel) ≡ flag → (found channel rows ≡ Some wire → found channel (rows ++ more) ≡ Some wire) → found channel (row ∷ (rows ++ more)) ≡ Some wire
    by_flag true here rest = found_here channel row (rows ++ more) here ∙ sym (found_here channel row rows here) ∙ is
    by_flag false away rest = found_later channel row (rows ++ more) away ∙ rest (sym (found_later channel row rows away) ∙ is)

pub found_new : (channel : ℕ) (rows : Wires) → found channel rows ≡ None → found channel (with_wire channel rows) ≡ Some unused_wire
found_new channel [] missing = ap (λ (b : Bool). cond b (Some unused_wire) None) (number_itself channel)
found_new channel (row ∷ rows) missing = by_flag (row.channel == channel) refl (found_new channel rows)
  where
    by_flag : (flag : Bool) → (row.channel == channel) ≡ flag → (found channel rows ≡ None → found channel (with_wire channel rows) ≡ Some unused_wire)
        → found channel (row ∷ with_wire channel rows) ≡ Some unused_wire
    by_flag true here rest = absurd (none-some row.item (sym missing ∙ found_here channel row rows here))
    by_flag false away rest = found_later channel row (with_wire channel rows) away ∙ rest (sym (found_later channel row rows away) ∙ missing)

-- ---- an order

pub wire_own : (order : Order) (sent : Wires) (wire : Wire) → found (channel_of order) sent ≡ Some wire → found (channel_of order) (sent_with order sent) ≡ Some (sent_after order wire)
wire_own order sent wire is =
    ap (λ (rs : Wires). found (channel_of order) rs) (change_first Wire (channel_of order) (sent_after order) sent) ∙ found_own (channel_of order) (sent_after order) sent wire is

pub wire_other : (order : Order) (channel : ℕ) (sent : Wires) → (channel_of order == channel) ≡ false → found channel (sent_with order sent) ≡ found channel sent
wire_other order channel sent off =
    ap (λ (rs : Wires). found channel rs) (change_first Wire (channel_of order) (sent_after order) sent) ∙ found_other channel (channel_of order) (sent_after order) sent off

-- it leaves what came
pub order_came : (order : Order) (wire : Wire) → (sent_after order wire).came ≡ wire.came
order_came (queues channel bytes) wire = by_flag wire.is_closed
  where
    by_flag : (flag : Bool) → (if flag then wire else record wire { queued = wire.queued ++ bytes }).came ≡ wire.came
    by_flag true = refl
    by_flag false = refl
order_came (closes channel) wire = refl
order_came (leaves channel) wire = refl

-- ---- a piece

pub piece_first : (channel : ℕ) (bytes : List ℕ) (sent : Wires) → wires_with (events.Piece channel bytes) sent ≡ first_changed channel (with_piece bytes) sent
piece_first channel bytes sent = change_first Wire channel (with_piece bytes) sent

pub piece_own : (channel : ℕ) (bytes : List ℕ) (sent : Wires) (wire : Wire) → found channel sent ≡ Some wire
    → found channel (wires_with (events.Piece channel bytes) sent) ≡ Some (with_piece bytes wire)
piece_own channel bytes sent wire is = ap (λ (rs : Wires). found channel rs) (piece_first channel bytes sent) ∙ found_own channel (with_piece bytes) sent wire is

pub piece_other : (channel other : ℕ) (bytes : List ℕ) (sent : Wires) → (channel == other) ≡ false
    → found other (wires_with (events.Piece channel bytes) sent) ≡ found other sent
piece_other channel other bytes sent off = ap (λ (rs : Wires). found other rs) (piece_first channel bytes sent) ∙ found_other other channel (with_piece bytes) sent off

-- on a channel that has no wire it changes nothing
pub piece_nowhere : (channel : ℕ) (bytes : List ℕ) (sent : Wires) → found channel sent ≡ None → wires_with (events.Piece channel bytes) sent ≡ sent
piece_nowhere channel bytes sent missing = piece_first channel bytes sent ∙ changed_nowhere channel (with_piece bytes) sent missing

pub piece_numbers : (channel : ℕ) (bytes : List ℕ) (sent : Wires) → numbers (wires_with (events.Piece channel bytes) sent) ≡ numbers sent
piece_numbers channel bytes sent = ap (λ (rs : Wires). numbers rs) (piece_first channel bytes sent) ∙ changed_numbers channel (with_piece bytes) sent

-- ---- what was queued stays, and what came

pub record StaysQueued (channel : ℕ) (wire : Wire) (later : Wires) : Type 0 where
  pub now : Wire
  pub there : found channel later ≡ Some now
  pub queued : now.queued ≡ wire.queued
  pub came : now.came ≡ wire.came

abbrev pub Grows : Wires → Wires → Type 0
Grows sent later = (channel : ℕ) (wire : Wire) → found channel sent ≡ Some wire → StaysQueued channel wire later

pub grows_none : (sent : Wires) → Grows sent sent
grows_none sent = λ channel wire is. record { now = wire; there = is; queued = refl; came = refl }

pub grows_wire : (sent later : Wires) (new : ℕ) → Grows sent later → Grows sent (with_wire new later)
grows_wire sent later new g = λ channel wire is.
    let s = g channel wire is in record { now = s.now; there = found_push channel later _ s.now s.there; queued = s.queued; came = s.came }

leaves_by : (flag : Bool) (earlier channel : ℕ) (wire : Wire) (later : Wires) → (earlier == channel) ≡ flag → StaysQueued channel wire later → StaysQueued channel wire (sent_with (leaves earlier) later)
leaves_by true earlier channel wire later same s =
    let at : earlier ≡ channel = eqb-true earlier channel same in
    record {
      now = sent_after (leaves earlier) s.now;
      there = subst (λ (k : ℕ). found k (sent_with (leaves earlier) later) ≡ Some (sent_after (leaves earlier) s.now)) at
          (wire_own (leaves earlier) later s.now (ap (λ (k : ℕ). found k later) at ∙ s.there));
      queued = s.queued;
      came = s.came;
    }
leaves_by false earlier channel wire later away s = record { now = s.now; there = wire_other (leaves earlier) channel later away ∙ s.there; queued = s.queued; came = s.came }

pub grows_leaving : (sent later : Wires) (earlier : ℕ) → Grows sent later → Grows sent (sent_with (leaves earlier) later)
grows_leaving sent later earlier g = λ channel wire is. leaves_by (earlier == channel) earlier channel wire later refl (g channel wire is)

-- ---- an event: what was queued stays, and more may have come

pub record Gains (channel : ℕ) (wire : Wire) (later : Wires) : Type 0 where
  pub now : Wire
  pub there : found channel later ≡ Some now
  pub queued : now.queued ≡ wire.queued
  pub more : List ℕ
  pub came : now.came ≡ wire.came ++ more

abbrev pub AllGain : Wires → Wires → Type 0
AllGain sent later = (channel : ℕ) (wire : Wire) → found channel sent ≡ Some wire → Gains channel wire later

gains_none : (sent : Wires) → AllGain sent sent
gains_none sent = λ channel wire is. record { now = wire; there = is; queued = refl; more = []; came = sym (append-nil wire.came) }

gains_piece : (on : ℕ) (bytes : List ℕ) (sent : Wires) → AllGain sent (wires_with (events.Piece on bytes) sent)
gains_piece on bytes sent channel wire is = by_flag (on == channel) refl
  where
    by_flag : (flag : Bool) → (on == channel) ≡ flag → Gains channel wire (wires_with (events.Piece on bytes) sent)
    by_flag true same =
        let at : on ≡ channel = eqb-true on channel same in
        record {
          now = with_piece bytes wire;
          there = subst (λ (k : ℕ). found k (wires_with (events.Piece on bytes) sent) ≡ Some (with_piece bytes wire)) at
              (piece_own on bytes sent wire (ap (λ (k : ℕ). found k sent) at ∙ is));
          queued = refl;
          more = bytes;
          came = refl;
        }
    by_flag false away = record { now = wire; there = piece_other on channel bytes sent away ∙ is; queued = refl; more = []; came = sym (append-nil wire.came) }

pub gains_event : (event : WireEvent) (sent : Wires) → AllGain sent (wires_with event sent)
gains_event (events.Opened new) sent = λ channel wire is.
    record { now = wire; there = found_push channel sent _ wire is; queued = refl; more = []; came = sym (append-nil wire.came) }
gains_event (events.Piece channel bytes) sent = gains_piece channel bytes sent
gains_event (events.Ended channel) sent = gains_none sent
gains_event (events.Lost channel) sent = gains_none sent
gains_event events.Idle sent = gains_none sent
gains_event events.Stop sent = gains_none sent

pub gains_then : (sent before later : Wires) → AllGain sent before → Grows before later → AllGain sent later
gains_then sent before later gains grows = λ channel wire is.
    let g = gains channel wire is in
    let s = grows channel g.now g.there in
    record { now = s.now; there = s.there; queued = s.queued ∙ g.queued; more = g.more; came = s.came ∙ g.came }

-- one that is there isn't the new one
pub not_new : (new channel : ℕ) (sent : Wires) (wire : Wire) → found new sent ≡ None → found channel sent ≡ Some wire → (new == channel) ≡ false
not_new new channel sent wire missing is = by_flag (new == channel) refl
  where
    by_flag : (flag : Bool) → (new == channel) ≡ flag → flag ≡ false
    by_flag true same = absurd (none-some wire (sym missing ∙ ap (λ (k : ℕ). found k sent) (eqb-true new channel same) ∙ is))
    by_flag false away = refl
