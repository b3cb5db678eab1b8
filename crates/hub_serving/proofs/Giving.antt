-- What waits is given, one after the other: behind each fewer wait.
use Rattle.std.proofs.Common.{◌≡◌, ℕ, zero, suc, ◌+◌, ◌<◌, ◌≤◌, Bool, true, false, cond, nat_lt, List, [], ◌∷◌, length, Option, Some, None, Result, Ok, Err, refl, sym, ap, ◌∙◌, subst, arith}
use Rattle.std.specs.Prelude.{OnOk, is_some, slice_get, slice_set}
use Rattle.std.specs.declared.alloc.AllocError.{AllocError}
use Rattle.hub_node.specs.HubValue.{HubValue}
use Rattle.serving_wires.proofs.Rows.{with_behind}
use Rattle.serving_wires.specs.Intake.{left_for, next_for}
use Rattle.serving_wires.specs.Row.{Row}
use Rattle.serving_wires.specs.Rows.{item_at, with_item, with_item_at}
use Rattle.serving_wires.specs.declared.intake.Came.{Came}
use Rattle.serving_wires.specs.declared.intake.Came.TheVariants.{Piece, End}
use Rattle.hub_serving.specs.Lines.{can_give, given_of, left_of, waiting_on}
use Rattle.hub_serving.specs.Passing.{Lines, after_room, all_unread, can_give_at, can_give_in, first_to_give, given_at, given_in, given_so_many, if_given, passed_on, room_made}
use Rattle.hub_serving.specs.declared.line.Line.{Line}
use Rattle.hub_serving.proofs.Searching.{gives_at}

-- ---- what is given waits no more

piece_given : (flag : Bool) (bytes : List ℕ) (later : List Came) → is_some (cond flag (Some (Piece bytes)) None) ≡ true
    → length (cond flag later (Piece bytes ∷ later)) < length (Piece bytes ∷ later)
piece_given true bytes later is = omega arith
piece_given false bytes later is = absurd cc

one_shorter : (inbox : ℕ) (waiting : List Came) → is_some (next_for inbox waiting) ≡ true → length (left_for inbox waiting) < length waiting
one_shorter inbox [] is = absurd cc
one_shorter inbox (Piece bytes ∷ later) is = piece_given (nat_lt inbox 200) bytes later is
one_shorter inbox (End ∷ later) is = omega arith

with_unread : (place : ℕ) (lines : Lines) (line next : Line) → item_at place lines ≡ Some line
    → all_unread (with_item_at place next lines) + length line.intake ≡ all_unread lines + length next.intake
with_unread place [] line next is = absurd cc
with_unread zero (row ∷ rows) line next is = let same : row.item ≡ line = cc in rw (← same) (omega arith)
with_unread (suc place) (row ∷ rows) line next is =
    rw (with_behind place next row rows) (let rest = with_unread place rows line next is in omega (arith, rest))

at_unread : (place : ℕ) (h : HubValue) (lines : Lines) (found : Option Line) → item_at place lines ≡ found → can_give_at place h lines ≡ true → all_unread (given_in place found lines h).1 < all_unread lines
at_unread place h lines None is gives = absurd (let off : can_give_at place h lines ≡ false = ap (λ (o : Option Line). can_give_in h o) is in let both : true ≡ false = sym gives ∙ off in cc)
at_unread place h lines (Some line) is gives =
    let can : can_give h line ≡ true = sym (ap (λ (o : Option Line). can_give_in h o) is) ∙ gives in
    let fewer = one_shorter (waiting_on line.side h) line.intake can in
    let w = with_unread place lines line (left_of h line) is in
    omega (arith, fewer, w)

pub fewer_unread : (place : ℕ) (h : HubValue) (lines : Lines) → first_to_give h lines ≡ Some place → all_unread (given_at place lines h).1 < all_unread lines
unfolding given_at
fewer_unread place h lines is = at_unread place h lines (item_at place lines) refl (gives_at h lines place is)

-- ---- as the code goes on

pub gives_there : (result : Result (Unit {0}) AllocError) (place : ℕ) (line next : Line) (lines : Lines) (h after : HubValue) → item_at place lines ≡ Some line
    → OnOk result (after ≡ given_of line h) → OnOk result (next ≡ left_of h line) → OnOk result ((after, with_item_at place next lines) ≡ given_at place lines h)
unfolding given_at
gives_there (Ok made) place line next lines h after is hub left =
    ap {B = HubValue × Lines} (λ (x : HubValue). (x, with_item_at place next lines)) hub
    ∙ ap {B = HubValue × Lines} (λ (l : Line). (given_of line h, with_item_at place l lines)) left ∙ sym (ap (λ (o : Option Line). given_in place o lines h) is)
gives_there (Err why) place line next lines h after is hub left = tt

pub gives_nowhere : (place : ℕ) (lines : Lines) (h : HubValue) → item_at place lines ≡ None → (h, lines) ≡ given_at place lines h
unfolding given_at
gives_nowhere place lines h is = sym (ap (λ (o : Option Line). given_in place o lines h) is)

pub record Gives (firsts : Lines) (first : HubValue) (next : ℕ) (lines : Lines) (h : HubValue) : Type 0 where
  pub count : ℕ
  pub enough : all_unread lines ≤ count
  pub goes : passed_on firsts first ≡ given_so_many count next lines h

pub gives_first : (next : ℕ) (lines : Lines) (h after : HubValue) → (next, after) ≡ room_made 0 lines h → Gives lines h next lines after
unfolding passed_on
gives_first next lines h after room =
    record {
      count = all_unread lines;
      enough = omega arith;
      goes = ap (λ (t : ℕ × HubValue). after_room t lines (λ place rows hub. given_so_many (all_unread rows) place rows hub)) (sym room);
    }

abbrev rest_of : ℕ → HubValue × Lines → ℕ → HubValue × Lines
rest_of count given next = after_room (room_made next given.1 given.0) given.1 (λ place rows after. given_so_many count place rows after)

given_next : (count next place : ℕ) (lines : Lines) (h : HubValue) → first_to_give h lines ≡ Some place → given_so_many (suc count) next lines h ≡ rest_of count (given_at place lines h) next
given_next count next place lines h is = ap (λ (o : Option ℕ). if_given o lines h (λ given. rest_of count given next)) is

pub gives_next : (next place last : ℕ) (firsts lines rows : Lines) (first h given after : HubValue) (found : Option ℕ) → found ≡ first_to_give h lines → found ≡ Some place → (given, rows) ≡ given_at place lines h
    → (last, after) ≡ room_made next rows given → Gives firsts first next lines h → Gives firsts first last rows after
gives_next next place last firsts lines rows first h given after found here is made room g = by_count g.count g.enough g.goes
  where
    so : first_to_give h lines ≡ Some place
    so = sym here ∙ is

    fewer : all_unread rows < all_unread lines
    fewer = subst (λ (t : HubValue × Lines). all_unread t.1 < all_unread lines) (sym made) (fewer_unread place h lines so)

    by_count : (count : ℕ) → all_unread lines ≤ count → passed_on firsts first ≡ given_so_many count next lines h → Gives firsts first last rows after
    by_count zero enough goes = absurd (omega (arith, fewer, enough))
    by_count (suc count) enough goes =
        record {
          count = count;
          enough = omega (arith, fewer, enough);
          goes = goes ∙ given_next count next place lines h so ∙ ap (λ (t : HubValue × Lines). rest_of count t next) (sym made)
              ∙ ap (λ (t : ℕ × HubValue). after_room t rows (λ place rest hub. given_so_many count place rest hub)) (sym room);
        }

pub fewer_wait : (next place : ℕ) (lines rows : Lines) (h given : HubValue) (found : Option ℕ) → found ≡ first_to_give h lines → found ≡ Some place → (given, rows) ≡ given_at place lines h
    → all_unread rows < all_unread lines
fewer_wait next place lines rows h given found here is made =
    subst (λ (t : HubValue × Lines). all_unread t.1 < all_unread lines) (sym made) (fewer_unread place h lines (sym here ∙ is))

pub gives_last : (next : ℕ) (firsts lines : Lines) (first h : HubValue) (found : Option ℕ) → found ≡ first_to_give h lines → found ≡ None → Gives firsts first next lines h
    → (h, lines) ≡ passed_on firsts first
gives_last next firsts lines first h found here is g = by_count g.count g.goes
  where
    by_count : (count : ℕ) → passed_on firsts first ≡ given_so_many count next lines h → (h, lines) ≡ passed_on firsts first
    by_count zero goes = sym goes
    by_count (suc count) goes = sym (goes ∙ ap (λ (o : Option ℕ). if_given o lines h (λ given. rest_of count given next)) (sym here ∙ is))
