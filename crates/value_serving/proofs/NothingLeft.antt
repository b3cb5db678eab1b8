-- Nothing is left to do for the value-adds that stand.
use Rattle.std.proofs.Common.{◌≡◌, ℕ, Bool, true, false, List, [], ◌∷◌, ◌++◌, length, nat_le, nat_lt, Option, Some, None, refl, sym, ap, subst}
use Rattle.std.specs.Prelude.{IsTrue}
use Rattle.std.specs.List.{AllByRecursion}
use Rattle.std.proofs.lemmas.Bool.{leb-true, and_parts}
use Rattle.list_laws.proofs.AllLists.{all_append, all_at, all_left, all_push, all_right, all_weaker}
use Rattle.serving_wires.specs.Row.{Row}
use Rattle.serving_wires.specs.Rows.{item_at, with_item_at}
use Rattle.serving_wires.specs.declared.intake.Came.{Came}
use Rattle.serving_wires.specs.declared.intake.Came.TheVariants.{Piece, End}
use Rattle.tcf_wires.specs.Event.{can_come}
use Rattle.tcf_wires.specs.declared.event.WireEvent.{WireEvent}
use Rattle.tcf_wires.specs.declared.event.WireEvent.TheVariants as events
use Rattle.value_node.specs.declared.states.Side.{Side}
use Rattle.value_serving.specs.Adds.{new_add}
use Rattle.value_serving.specs.Left.{CanBeHeard, LeavesNothing, NothingLeft}
use Rattle.value_serving.specs.Passing.{gathered, heard as heard_on_side}
use Rattle.serving_wires.specs.Process.{Process, and_then, done}
use Rattle.value_serving.specs.Serving.{handled, heard_at, heard_by, heard_on, heard_where, is_over_at, is_over_in, kept_unless, opened, opened_if, unless_over, value_adds, wire_of, with_adds}
use Rattle.serving_wires.specs.Standing.{after, standing_in}
use Rattle.value_serving.specs.ServingValue.{ServingValue}
use Rattle.value_serving.specs.declared.add.Add.{Add}
use Rattle.serving_wires.proofs.Coming.{ComesTo, comes_then, stands_so}
use Rattle.value_serving.proofs.ServedAdds.{IsAt, at_place}
use Rattle.value_serving.proofs.UntilNothing.{Fits, Good, gathered_comes, good_left, heard_comes, new_good}

abbrev Rows : Type 0
Rows = List (Row Add)

abbrev IsGood : Row Add → Type 0
IsGood row = Good row.item

abbrev AllGood : Rows → Type 0
AllGood rows = AllByRecursion IsGood rows

-- ---- one hears something, and is forgotten once it is closed

kept_good : (over : Bool) (place : ℕ) (adds : Rows) (a b : Add) (at : IsAt place adds a) → Good b → AllGood (at.front ++ at.rear)
    → AllGood (kept_unless over place (at.front ++ record { channel = at.channel; item = b } ∷ at.rear))
kept_good true place adds a b at good rest = subst AllGood (sym (at.without b)) rest
kept_good false place adds a b at good rest = all_append IsGood at.front (record { channel = at.channel; item = b } ∷ at.rear) (all_left IsGood at.front at.rear rest) (good, all_right IsGood at.front at.rear rest)

none_kept : (over : Bool) (place : ℕ) (adds : Rows) → over ≡ false → AllGood adds → AllGood (kept_unless over place adds)
none_kept true place adds off all = absurd cc
none_kept false place adds off all = all

heard_rows : (place : ℕ) (side : Side) (what : Came) (found_item : Option Add) (adds : Rows) → item_at place adds ≡ found_item → Fits what → AllGood adds
    → ComesTo AllGood (and_then (heard_by place side what found_item adds) (unless_over place))
heard_rows place side what None adds is fits all = none_kept (is_over_at place adds) place adds (ap is_over_in is) all
heard_rows place side what (Some a) adds is fits all =
    let at = at_place place adds a is in
    let row : Row Add = record { channel = at.channel; item = a } in
    let whole : AllGood (at.front ++ row ∷ at.rear) = subst AllGood at.whole all in
    let rest : AllGood (at.front ++ at.rear) = all_append IsGood at.front at.rear (all_left IsGood at.front (row ∷ at.rear) whole) (all_right IsGood at.front (row ∷ at.rear) whole).1 in
    let Placed : Rows → Type 0 = λ rows. AllGood (kept_unless (is_over_at place rows) place rows) in
    comes_then Placed AllGood (and_then (heard_on_side side what a) (λ next. done (with_item_at place next adds))) (unless_over place)
    (comes_then Good Placed (heard_on_side side what a) (λ next. done (with_item_at place next adds)) (heard_comes side what a fits (all_at IsGood at.front at.rear row whole))
    (λ b good.
    subst Placed (sym (at.changed b)) (kept_good (is_over_at place (at.front ++ record { channel = at.channel; item = b } ∷ at.rear)) place adds a b at good rest)))
    (λ rows placed. placed)

where_rows : (wire : Option (ℕ × Side)) (what : Came) (adds : Rows) → Fits what → AllGood adds → ComesTo AllGood (heard_where wire what adds)
unfolding heard_at
where_rows None what adds fits all = all
where_rows (Some (place, side)) what adds fits all = heard_rows place side what (item_at place adds) adds refl fits all

on_rows : (channel : ℕ) (what : Came) (adds : Rows) → Fits what → AllGood adds → ComesTo AllGood (heard_on channel what adds)
unfolding heard_on
on_rows channel what adds fits all = where_rows (wire_of channel adds) what adds fits all

opened_rows : (flag : Bool) (peer : List ℕ) (channel : ℕ) (adds : Rows) → AllGood adds → ComesTo AllGood (opened_if flag peer channel adds)
opened_rows true peer channel adds all =
    comes_then Good AllGood (gathered (new_add peer channel)) (λ a. done (adds ++ (record { channel = channel; item = a }) ∷ [])) (gathered_comes (new_add peer channel) (new_good peer channel))
    (λ a good. all_push IsGood adds (record { channel = channel; item = a }) all good)
opened_rows false peer channel adds all = all

-- ---- an event

with_good : (v : ServingValue) (p : Process Rows) → ComesTo AllGood p → ComesTo (λ w. AllGood w.adds) (with_adds v p)
with_good v p comes = comes_then AllGood (λ w. AllGood w.adds) p (λ adds. done (record v { adds = adds })) comes (λ adds all. all)

event_rows : (event : WireEvent) (v : ServingValue) → IsTrue (can_come 0 event) → AllGood v.adds → ComesTo (λ w. AllGood w.adds) (handled event v)
unfolding handled opened
event_rows (events.Opened channel) v can all = with_good v (opened v.peer channel v.adds) (opened_rows (nat_lt (length v.adds) 64) v.peer channel v.adds all)
event_rows (events.Piece channel bytes) v can all =
    with_good v (heard_on channel (Piece bytes) v.adds)
    (on_rows channel (Piece bytes) v.adds (leb-true (length bytes) 65536 (and_parts (nat_lt 0 (length bytes)) (nat_le (length bytes) 65536) can).1) all)
event_rows (events.Ended channel) v can all = with_good v (heard_on channel End v.adds) (on_rows channel End v.adds tt all)
event_rows (events.Lost channel) v can all = with_good v (heard_on channel End v.adds) (on_rows channel End v.adds tt all)
event_rows events.Idle v can all = all
event_rows events.Stop v can all = all

pub leaves_nothing : LeavesNothing
leaves_nothing peer heard can =
    all_weaker IsGood (λ row. NothingLeft row.item) (standing_in (after (value_adds peer) heard)).served.adds (λ row good. good_left row.item good)
    (stands_so (value_adds peer) (λ v. AllGood v.adds) CanBeHeard (λ event v fits all. event_rows event v fits all) tt tt heard can)
