-- What each turn keeps, and each thing that is given, is kept while what came passes through the hub.
use Rattle.std.proofs.Common.{◌≡◌, ℕ, zero, suc, ◌+◌, Bool, true, false, cond, List, [], ◌∷◌, drop, Option, Some, None, refl, sym, subst}
use Rattle.std.specs.Prelude.{is_some}
use Rattle.hub_node.specs.HubValue.{HubValue}
use Rattle.hub_node.specs.declared.side.HubSide.{HubSide}
use Rattle.serving_wires.specs.Intake.{next_for}
use Rattle.serving_wires.specs.Rows.{item_at}
use Rattle.serving_wires.specs.declared.intake.Came.{Came}
use Rattle.hub_serving.specs.Lines.{came_to, given_next, waiting_on}
use Rattle.hub_serving.specs.Numbered.{turned}
use Rattle.hub_serving.specs.Passing.{Lines, after_room, all_unread, first_to_give, given_at, given_in, given_so_many, if_given, if_some_taken, if_taken, next_place, or_else, passed_on, room_made, taken, taken_once, turned_from, turned_on}
use Rattle.hub_serving.specs.declared.line.Line.{Line}

-- ---- turns

abbrev pub KeepsTurns : (HubValue → Type 0) → Type 0
KeepsTurns P = (side : HubSide) (h : HubValue) → P h → P (turned side h).1

taken_same : (next : ℕ) (t : Bool × HubValue) → (if_taken next t).1 ≡ t.1
taken_same next (true, h) = refl
taken_same next (false, h) = refl

on_keeps : (P : HubValue → Type 0) → KeepsTurns P → (side : HubSide) (place : ℕ) (h : HubValue) → P h → P (turned_on side place h).1
on_keeps P each side place h p = subst P (sym (taken_same (next_place side place) (turned side h))) (each side h p)

or_keeps : (P : HubValue → Type 0) (one : Option ℕ × HubValue) (later : HubValue → Option ℕ × HubValue) → P one.1 → ((h : HubValue) → P h → P (later h).1) → P (or_else one later).1
or_keeps P (None, h) later first rest = rest h first
or_keeps P (Some next, h) later first rest = first

from_keeps : (P : HubValue → Type 0) → KeepsTurns P → (place : ℕ) (rows : Lines) (h : HubValue) → P h → P (turned_from place rows h).1
from_keeps P each place [] h p = p
from_keeps P each place (row ∷ rows) h p =
    or_keeps P (turned_on row.item.side place h) (λ next. turned_from (place + 1) rows next) (on_keeps P each row.item.side place h p) (λ next q. from_keeps P each (place + 1) rows next q)

once_keeps : (P : HubValue → Type 0) → KeepsTurns P → (next : ℕ) (lines : Lines) (h : HubValue) → P h → P (taken_once next lines h).1
once_keeps P each next lines h p =
    or_keeps P (turned_from next (drop next lines) h) (λ after. turned_from 0 lines after) (from_keeps P each next (drop next lines) h p) (λ after q. from_keeps P each 0 lines after q)

some_keeps : (P : HubValue → Type 0) (next : ℕ) (one : Option ℕ × HubValue) (later : ℕ → HubValue → ℕ × HubValue) → P one.1 → ((place : ℕ) (x : HubValue) → P x → P (later place x).1)
    → P (if_some_taken next one later).1
some_keeps P next (None, after) later first rest = first
some_keeps P next (Some place, after) later first rest = rest place after first

taken_keeps : (P : HubValue → Type 0) → KeepsTurns P → (count next : ℕ) (lines : Lines) (h : HubValue) → P h → P (taken count next lines h).1
taken_keeps P each zero next lines h p = p
taken_keeps P each (suc count) next lines h p = by_flag (is_some (first_to_give h lines)) (λ place after q. taken_keeps P each count place lines after q)
  where
    by_flag : (flag : Bool) → ((place : ℕ) (after : HubValue) → P after → P (taken count place lines after).1) → P (cond flag (next, h) (if_some_taken next (taken_once next lines h) (λ place after. taken count place lines after))).1
    by_flag true rest = p
    by_flag false rest = some_keeps P next (taken_once next lines h) (λ place after. taken count place lines after) (once_keeps P each next lines h p) rest

pub room_keeps : (P : HubValue → Type 0) → KeepsTurns P → (next : ℕ) (lines : Lines) (h : HubValue) → P h → P (room_made next lines h).1
unfolding room_made
room_keeps P each next lines h p = taken_keeps P each _ next lines h p

-- ---- what is given

pub room_then : (R : HubValue × Lines → Type 0) (S : HubValue → Type 0) (t : ℕ × HubValue) (lines : Lines) (later : ℕ → Lines → HubValue → HubValue × Lines) → S t.1
    → ((next : ℕ) (h : HubValue) → S h → R (later next lines h)) → R (after_room t lines later)
room_then R S (next, h) lines later s so = so next h s

abbrev pub KeepsGiven : (HubValue → Type 0) → Type 0
KeepsGiven P = (side : HubSide) (what : Came) (h : HubValue) → P h → P (came_to side what h)

next_keeps : (P : HubValue → Type 0) → KeepsGiven P → (side : HubSide) (what : Option Came) (h : HubValue) → P h → P (given_next side what h)
next_keeps P each side None h p = p
next_keeps P each side (Some what) h p = each side what h p

in_keeps : (P : HubValue → Type 0) → KeepsGiven P → (place : ℕ) (here : Option Line) (lines : Lines) (h : HubValue) → P h → P (given_in place here lines h).0
in_keeps P each place None lines h p = p
in_keeps P each place (Some line) lines h p = next_keeps P each line.side (next_for (waiting_on line.side h) line.intake) h p

pub at_keeps : (P : HubValue → Type 0) → KeepsGiven P → (place : ℕ) (lines : Lines) (h : HubValue) → P h → P (given_at place lines h).0
unfolding given_at
at_keeps P each place lines h p = in_keeps P each place (item_at place lines) lines h p

many_keeps : (P : HubValue → Type 0) → KeepsTurns P → KeepsGiven P → (count next : ℕ) (lines : Lines) (h : HubValue) → P h → P (given_so_many count next lines h).0
many_keeps P turns gives zero next lines h p = p
many_keeps P turns gives (suc count) next lines h p = by_place (first_to_give h lines) (λ last rows after q. many_keeps P turns gives count last rows after q)
  where
    First : HubValue × Lines → Type 0
    First t = P t.0

    by_place : (place : Option ℕ) → ((last : ℕ) (rows : Lines) (after : HubValue) → P after → P (given_so_many count last rows after).0) → P (if_given place lines h (λ given. after_room (room_made next given.1 given.0) given.1 (λ last rows after. given_so_many count last rows after))).0
    by_place None rest = p
    by_place (Some place) rest =
        let t = given_at place lines h in
        room_then First P (room_made next t.1 t.0) t.1 (λ last rows after. given_so_many count last rows after) (room_keeps P turns next t.1 t.0 (at_keeps P gives place lines h p))
        (λ last after q. rest last t.1 after q)

pub passing_keeps : (P : HubValue → Type 0) → KeepsTurns P → KeepsGiven P → (lines : Lines) (h : HubValue) → P h → P (passed_on lines h).0
unfolding passed_on
passing_keeps P turns gives lines h p =
    room_then First P (room_made 0 lines h) lines (λ next rows after. given_so_many (all_unread rows) next rows after) (room_keeps P turns 0 lines h p)
    (λ next after q. many_keeps P turns gives (all_unread lines) next lines after q)
  where
    First : HubValue × Lines → Type 0
    First t = P t.0
