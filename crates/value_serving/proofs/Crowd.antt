-- No more than 64 value-adds stand.
use Rattle.std.proofs.Common.{◌≡◌, ℕ, ◌≤◌, Bool, true, false, List, [], ◌∷◌, ◌++◌, length, nat_lt, Option, Some, None, refl, sym, ap, subst, arith, length-append}
use Rattle.std.specs.List.{AllByRecursion}
use Rattle.std.proofs.lemmas.Bool.{ltb-true}
use Rattle.serving_wires.specs.Row.{Row}
use Rattle.serving_wires.specs.Rows.{item_at, with_item_at}
use Rattle.serving_wires.specs.declared.intake.Came.{Came}
use Rattle.serving_wires.specs.declared.intake.Came.TheVariants.{Piece, End}
use Rattle.tcf_wires.specs.declared.event.WireEvent.{WireEvent}
use Rattle.tcf_wires.specs.declared.event.WireEvent.TheVariants as events
use Rattle.value_node.specs.declared.states.Side.{Side}
use Rattle.value_serving.specs.Adds.{new_add}
use Rattle.value_serving.specs.Limits.{NoMoreThan64Stand}
use Rattle.value_serving.specs.Passing.{gathered, heard as heard_on_side}
use Rattle.serving_wires.specs.Process.{Process, and_then, asks, done, tells}
use Rattle.value_serving.specs.Serving.{handled, heard_at, heard_by, heard_on, heard_where, is_over_at, is_over_in, kept_unless, opened, opened_if, unless_over, value_adds, wire_of, with_adds}
use Rattle.serving_wires.specs.Standing.{Heard}
use Rattle.value_serving.specs.ServingValue.{ServingValue}
use Rattle.value_serving.specs.declared.add.Add.{Add}
use Rattle.value_serving.proofs.ServedAdds.{IsAt, at_place}
use Rattle.serving_wires.proofs.Coming.{ComesTo, comes_then, stands_so}

abbrev Rows : Type 0
Rows = List (Row Add)

abbrev AreFew : Rows → Type 0
AreFew rows = length rows ≤ 64

abbrev IsAny : Add → Type 0
IsAny a = Unit {0}

comes_any : (p : Process Add) → ComesTo IsAny p
comes_any (done a) = tt
comes_any (tells order p) = comes_any p
comes_any (asks next) = λ answer. comes_any (next answer)

kept_few : (over : Bool) (place : ℕ) (adds : Rows) (a b : Add) (at : IsAt place adds a) → AreFew adds → AreFew (kept_unless over place (at.front ++ record { channel = at.channel; item = b } ∷ at.rear))
kept_few true place adds a b at few =
    let whole = ap (λ (rs : Rows). length rs) at.whole in
    let left = ap (λ (rs : Rows). length rs) (at.without b) in
    omega (arith, few, whole, left, length-append at.front at.rear, length-append at.front (record { channel = at.channel; item = a } ∷ at.rear))
kept_few false place adds a b at few =
    let whole = ap (λ (rs : Rows). length rs) at.whole in
    omega (arith, few, whole, length-append at.front (record { channel = at.channel; item = a } ∷ at.rear), length-append at.front (record { channel = at.channel; item = b } ∷ at.rear))

none_kept : (over : Bool) (place : ℕ) (adds : Rows) → over ≡ false → AreFew adds → AreFew (kept_unless over place adds)
none_kept true place adds off few = absurd cc
none_kept false place adds off few = few

heard_few : (place : ℕ) (side : Side) (what : Came) (found_item : Option Add) (adds : Rows) → item_at place adds ≡ found_item → AreFew adds
    → ComesTo AreFew (and_then (heard_by place side what found_item adds) (unless_over place))
heard_few place side what None adds is few = none_kept (is_over_at place adds) place adds (ap is_over_in is) few
heard_few place side what (Some a) adds is few =
    let at = at_place place adds a is in
    let Placed : Rows → Type 0 = λ rows. AreFew (kept_unless (is_over_at place rows) place rows) in
    comes_then Placed AreFew (and_then (heard_on_side side what a) (λ next. done (with_item_at place next adds))) (unless_over place)
    (comes_then IsAny Placed (heard_on_side side what a) (λ next. done (with_item_at place next adds)) (comes_any (heard_on_side side what a))
    (λ b any.
    subst Placed (sym (at.changed b)) (kept_few (is_over_at place (at.front ++ record { channel = at.channel; item = b } ∷ at.rear)) place adds a b at few)))
    (λ rows placed. placed)

where_few : (wire : Option (ℕ × Side)) (what : Came) (adds : Rows) → AreFew adds → ComesTo AreFew (heard_where wire what adds)
unfolding heard_at
where_few None what adds few = few
where_few (Some (place, side)) what adds few = heard_few place side what (item_at place adds) adds refl few

on_few : (channel : ℕ) (what : Came) (adds : Rows) → AreFew adds → ComesTo AreFew (heard_on channel what adds)
unfolding heard_on
on_few channel what adds few = where_few (wire_of channel adds) what adds few

opened_few : (flag : Bool) (peer : List ℕ) (channel : ℕ) (adds : Rows) → nat_lt (length adds) 64 ≡ flag → AreFew adds → ComesTo AreFew (opened_if flag peer channel adds)
opened_few true peer channel adds is few =
    let less = ltb-true (length adds) 64 is in
    comes_then IsAny AreFew (gathered (new_add peer channel)) (λ a. done (adds ++ (record { channel = channel; item = a }) ∷ [])) (comes_any (gathered (new_add peer channel)))
    (λ a any. omega (arith, less, length-append adds ((record { channel = channel; item = a }) ∷ [])))
opened_few false peer channel adds is few = few

with_few : (v : ServingValue) (p : Process Rows) → ComesTo AreFew p → ComesTo (λ w. AreFew w.adds) (with_adds v p)
with_few v p comes = comes_then AreFew (λ w. AreFew w.adds) p (λ adds. done (record v { adds = adds })) comes (λ adds all. all)

event_few : (event : WireEvent) (v : ServingValue) → AreFew v.adds → ComesTo (λ w. AreFew w.adds) (handled event v)
unfolding handled opened
event_few (events.Opened channel) v few = with_few v (opened v.peer channel v.adds) (opened_few (nat_lt (length v.adds) 64) v.peer channel v.adds refl few)
event_few (events.Piece channel bytes) v few = with_few v (heard_on channel (Piece bytes) v.adds) (on_few channel (Piece bytes) v.adds few)
event_few (events.Ended channel) v few = with_few v (heard_on channel End v.adds) (on_few channel End v.adds few)
event_few (events.Lost channel) v few = with_few v (heard_on channel End v.adds) (on_few channel End v.adds few)
event_few events.Idle v few = few
event_few events.Stop v few = few

all_can : (heard : List Heard) → AllByRecursion (λ (h : Heard). Unit {0}) heard
all_can [] = tt
all_can (h ∷ heard) = (tt, all_can heard)

pub no_more_than_64 : NoMoreThan64Stand
no_more_than_64 peer heard =
    stands_so (value_adds peer) (λ v. AreFew v.adds) (λ (h : Heard). Unit {0}) (λ event v fits few. event_few event v few) (omega arith) (omega arith) heard (all_can heard)
