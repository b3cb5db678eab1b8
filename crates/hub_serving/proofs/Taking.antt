-- Messages are taken of the lines, one after the other.
use Rattle.std.proofs.Common.{◌≡◌, ℕ, zero, suc, ◌+◌, ◌<◌, ◌≤◌, Bool, true, false, cond, List, [], ◌∷◌, drop, length, Option, Some, None, refl, sym, ap, ◌∙◌, subst, arith, add-one}
use Rattle.std.specs.Prelude.{is_some, slice_get}
use Rattle.hub_node.specs.HubValue.{HubValue}
use Rattle.hub_node.specs.RelayValue.{RelayValue}
use Rattle.hub_node.specs.Relay.{turned_at}
use Rattle.hub_node.specs.declared.side.HubSide.{HubSide}
use Rattle.serving_wires.specs.Row.{Row}
use Rattle.serving_wires.specs.Rows.{item_at}
use Rattle.hub_serving.specs.Lines.{can_give}
use Rattle.hub_serving.specs.Numbered.{number_next, turned}
use Rattle.hub_serving.specs.Passing.{Lines, all_entries, first_to_give, if_some_taken, if_taken, next_place, or_else, room_made, taken, taken_once, turned_from, turned_of, turned_on}
use Rattle.hub_serving.specs.declared.line.Line.{Line}
use Rattle.hub_serving.proofs.Entries.{OneFewer, turn_fewer, untaken_stays}

-- ---- from a place on

abbrev pub from_place : ℕ → Lines → HubValue → Option ℕ × HubValue
from_place place lines h = turned_from place (drop place lines) h

-- a line stands at a place
pub at_place : (place : ℕ) (lines : Lines) (line : Line) → item_at place lines ≡ Some line → (row : Row Line) × (drop place lines ≡ row ∷ drop (place + 1) lines) × (row.item ≡ line)
at_place place [] line is = absurd cc
at_place zero (row ∷ rows) line is = (row, refl, cc)
at_place (suc place) (row ∷ rows) line is =
    let rest = at_place place rows line is in
    (rest.0, rest.1 ∙ ap {B = Lines} (λ (n : ℕ). rest.0 ∷ drop n rows) (add-one place) ∙ ap {B = Lines} (λ (n : ℕ). rest.0 ∷ drop n (row ∷ rows)) (sym (add-one (suc place))), rest.2)

pub past_place : (place : ℕ) (lines : Lines) → length lines ≤ place → drop place lines ≡ []
past_place zero [] past = refl
past_place zero (row ∷ rows) past = absurd (omega (arith, past))
past_place (suc place) [] past = refl
past_place (suc place) (row ∷ rows) past = past_place place rows (omega (arith, past))

none_there : (place : ℕ) (lines : Lines) → place < length lines → item_at place lines ≡ None → ⊥
none_there place [] within none = omega (arith, within)
none_there zero (row ∷ rows) within none = cc
none_there (suc place) (row ∷ rows) within none = none_there place rows (omega (arith, within)) none

one_place : (place : ℕ) (lines : Lines) (line : Line) (h : HubValue) → item_at place lines ≡ Some line
    → from_place place lines h ≡ or_else (turned_on line.side place h) (λ after. from_place (place + 1) lines after)
one_place place lines line h is =
    let a = at_place place lines line is in
    ap (λ (rows : Lines). turned_from place rows h) a.1
    ∙ ap (λ (l : Line). or_else (turned_on l.side place h) (λ after. from_place (place + 1) lines after)) a.2

by_item : (place : ℕ) (lines : Lines) (found : Option Line) (h : HubValue) → item_at place lines ≡ found → place < length lines
    → from_place place lines h ≡ or_else (turned_of place found h) (λ after. from_place (place + 1) lines after)
by_item place lines None h is within = absurd (none_there place lines within is)
by_item place lines (Some line) h is within = one_place place lines line h is

pub next_line : (place : ℕ) (lines : Lines) (h : HubValue) → place < length lines
    → from_place place lines h ≡ or_else (turned_of place (item_at place lines) h) (λ after. from_place (place + 1) lines after)
next_line place lines h within = by_item place lines (item_at place lines) h refl within

pub no_line : (place : ℕ) (lines : Lines) (h : HubValue) → length lines ≤ place → from_place place lines h ≡ (None, h)
no_line place lines h past = ap (λ (rows : Lines). turned_from place rows h) (past_place place lines past)

-- as the code goes on
pub goes_on : (place end : ℕ) (lines : Lines) (h next : HubValue) (one : Option ℕ) (whole : Option ℕ × HubValue) → end ≡ length lines → place < end → (one, next) ≡ turned_of place (item_at place lines) h
    → is_some one ≡ false → whole ≡ from_place place lines h → whole ≡ from_place (place + 1) lines next
goes_on place end lines h next None whole all within is none so =
    so ∙ next_line place lines h (omega (arith, all, within)) ∙ ap (λ t. or_else t (λ after. from_place (place + 1) lines after)) (sym is)
goes_on place end lines h next (Some other) whole all within is none so = absurd cc

pub stops_there : (place end : ℕ) (lines : Lines) (h next : HubValue) (one : Option ℕ) (whole : Option ℕ × HubValue) → end ≡ length lines → place < end → (one, next) ≡ turned_of place (item_at place lines) h
    → is_some one ≡ true → whole ≡ from_place place lines h → (one, next) ≡ whole
stops_there place end lines h next None whole all within is some so = absurd cc
stops_there place end lines h next (Some other) whole all within is some so =
    sym (so ∙ next_line place lines h (omega (arith, all, within)) ∙ ap (λ t. or_else t (λ after. from_place (place + 1) lines after)) (sym is))

pub ends_there : (place end : ℕ) (lines : Lines) (h : HubValue) (whole : Option ℕ × HubValue) → end ≡ length lines → end ≤ place → whole ≡ from_place place lines h → (None, h) ≡ whole
ends_there place end lines h whole all past so = sym (so ∙ no_line place lines h (omega (arith, all, past)))

-- ---- what is taken is one entry fewer

abbrev pub Fewer : HubValue → Option ℕ × HubValue → Type 0
Fewer h (Some next, after) = all_entries after < all_entries h
Fewer h (None, after) = after ≡ h

of_turn : (key next : ℕ) (side : HubSide) (h : HubValue) (t : Bool × RelayValue) → turned_at key side h.relay ≡ t → OneFewer h.relay t → (t.0 ≡ false → t ≡ (false, h.relay))
    → Fewer h (if_taken next (t.0, record h { relay = t.1 }))
of_turn key next side h (true, r) is fewer stays = fewer
of_turn key next side h (false, r) is fewer stays = ap (λ (x : Bool × RelayValue). record h { relay = x.1 }) (stays refl)

pub turned_fewer : (side : HubSide) (place : ℕ) (h : HubValue) → Fewer h (turned_on side place h)
turned_fewer side place h =
    let key = number_next h in
    of_turn key (next_place side place) side h (turned_at key side h.relay) refl (turn_fewer key side h.relay) (λ off. untaken_stays key side h.relay off)

or_fewer : (h : HubValue) (one : Option ℕ × HubValue) (later : HubValue → Option ℕ × HubValue) → Fewer h one → ((next : HubValue) → Fewer next (later next)) → Fewer h (or_else one later)
or_fewer h (Some next, after) later fewer rest = fewer
or_fewer h (None, after) later same rest = subst (λ (x : HubValue). Fewer x (later after)) same (rest after)

pub from_fewer : (place : ℕ) (rows : Lines) (h : HubValue) → Fewer h (turned_from place rows h)
from_fewer place [] h = refl
from_fewer place (row ∷ rows) h = or_fewer h (turned_on row.item.side place h) (λ after. turned_from (place + 1) rows after) (turned_fewer row.item.side place h) (λ after. from_fewer (place + 1) rows after)

pub once_fewer : (next : ℕ) (lines : Lines) (h : HubValue) → Fewer h (taken_once next lines h)
once_fewer next lines h = or_fewer h (turned_from next (drop next lines) h) (λ after. turned_from 0 lines after) (from_fewer next (drop next lines) h) (λ after. from_fewer 0 lines after)

pub fewer_left : (next place : ℕ) (lines : Lines) (h after : HubValue) (one : Option ℕ) → (one, after) ≡ taken_once next lines h → one ≡ Some place → all_entries after < all_entries h
fewer_left next place lines h after one is some =
    subst (λ t. Fewer h t) (sym is ∙ ap {B = Option ℕ × HubValue} (λ (o : Option ℕ). (o, after)) some) (once_fewer next lines h)

-- ---- room is made, as the code goes on

pub record MakesRoom (first : ℕ) (lines : Lines) (begun : HubValue) (next : ℕ) (h : HubValue) : Type 0 where
  pub count : ℕ
  pub enough : all_entries h ≤ count
  pub goes : room_made first lines begun ≡ taken count next lines h

pub room_begins : (first : ℕ) (lines : Lines) (h : HubValue) → MakesRoom first lines h first h
unfolding room_made
room_begins first lines h = record { count = all_entries h; enough = omega arith; goes = refl }

taken_next : (count next : ℕ) (lines : Lines) (h : HubValue) → first_to_give h lines ≡ None
    → taken (suc count) next lines h ≡ if_some_taken next (taken_once next lines h) (λ place after. taken count place lines after)
taken_next count next lines h none =
    ap (λ (o : Option ℕ). cond (is_some o) (next, h) (if_some_taken next (taken_once next lines h) (λ place after. taken count place lines after))) none

none_of : (o : Option ℕ) → is_some o ≡ false → o ≡ None
none_of None is = refl
none_of (Some place) is = absurd cc

pub room_next : (first next place : ℕ) (lines : Lines) (begun h after : HubValue) (one found : Option ℕ) → found ≡ first_to_give h lines → is_some found ≡ false → (one, after) ≡ taken_once next lines h
    → one ≡ Some place → MakesRoom first lines begun next h → MakesRoom first lines begun place after
room_next first next place lines begun h after one found here none is some m = by_count m.count m.enough m.goes
  where
    fewer : all_entries after < all_entries h
    fewer = fewer_left next place lines h after one is some

    by_count : (count : ℕ) → all_entries h ≤ count → room_made first lines begun ≡ taken count next lines h → MakesRoom first lines begun place after
    by_count zero enough goes = absurd (omega (arith, fewer, enough))
    by_count (suc count) enough goes =
        record {
          count = count;
          enough = omega (arith, fewer, enough);
          goes = goes ∙ taken_next count next lines h (sym here ∙ none_of found none)
              ∙ ap (λ t. if_some_taken next t (λ place after. taken count place lines after)) (sym is)
              ∙ ap (λ (o : Option ℕ). if_some_taken next (o, after) (λ place after. taken count place lines after)) some;
        }

-- nothing can be taken any more, which is so at once where there is no entry
pub room_ends : (first next : ℕ) (lines : Lines) (begun h after : HubValue) (one found : Option ℕ) → found ≡ first_to_give h lines → is_some found ≡ false → (one, after) ≡ taken_once next lines h
    → one ≡ None → MakesRoom first lines begun next h → (next, after) ≡ room_made first lines begun
room_ends first next lines begun h after one found here none is off m = by_count m.count m.goes
  where
    so : taken_once next lines h ≡ (None, after)
    so = sym is ∙ ap {B = Option ℕ × HubValue} (λ (o : Option ℕ). (o, after)) off

    same : after ≡ h
    same = subst (λ t. Fewer h t) so (once_fewer next lines h)

    by_count : (count : ℕ) → room_made first lines begun ≡ taken count next lines h → (next, after) ≡ room_made first lines begun
    by_count zero goes = ap {B = ℕ × HubValue} (λ (x : HubValue). (next, x)) same ∙ sym goes
    by_count (suc count) goes =
        sym (goes ∙ taken_next count next lines h (sym here ∙ none_of found none) ∙ ap (λ t. if_some_taken next t (λ place rest. taken count place lines rest)) so)

-- something that waits can be given
pub room_stops : (first next : ℕ) (lines : Lines) (begun h : HubValue) (found : Option ℕ) → found ≡ first_to_give h lines → is_some found ≡ true → MakesRoom first lines begun next h
    → (next, h) ≡ room_made first lines begun
room_stops first next lines begun h found here some m = by_count m.count m.goes
  where
    by_count : (count : ℕ) → room_made first lines begun ≡ taken count next lines h → (next, h) ≡ room_made first lines begun
    by_count zero goes = sym goes
    by_count (suc count) goes =
        sym (goes
        ∙ ap (λ (b : Bool). cond b (next, h) (if_some_taken next (taken_once next lines h) (λ place after. taken count place lines after))) (ap is_some (sym here) ∙ some))
