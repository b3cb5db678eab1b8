-- What is served is a hub, after any events.
use Rattle.std.proofs.Common.{◌≡◌, ◌⊎◌, inl, inr, ℕ, zero, suc, ◌+◌, ◌==◌, Bool, true, false, not, cond, ◌||◌, ◌&&◌, List, [], ◌∷◌, ◌++◌, drop, length, Option, Some, None, refl, sym, ap, ◌∙◌, subst, append-nil, append_assoc, eqb-true}
use Rattle.std.specs.Prelude.{Ok, Err, filter, fold, is_some, option_to_list, slice_get}
use Rattle.std.specs.List.{AllByRecursion, IsDistinct, flat_map}
use Rattle.std.proofs.lemmas.Bool.{eq-eqb, or_parts}
use Rattle.std.proofs.lemmas.Grind.{flat_map-append}
use Rattle.std.proofs.lemmas.List.{map-append}
use Rattle.list_laws.proofs.AllLists.{all_append, all_at, all_left, all_right, all_weaker}
use Rattle.list_laws.proofs.Numbers.{number_itself, other_number}
use Rattle.channel_core.specs.declared.held.Outgoing.{Outgoing}
use Rattle.hub_node.specs.Calls.{Call, bytes_end, comes, gives, opens, turns}
use Rattle.hub_node.specs.Hub.{after_giving, came as hub_came, ended, given, new_hub, opened}
use Rattle.hub_node.specs.HubValue.{HubValue}
use Rattle.hub_node.specs.declared.side.HubSide.{HubSide}
use Rattle.hub_node.specs.declared.side.HubSide.TheVariants.{Above, Below}
use Rattle.serving_wires.proofs.Rows.{change_first, changed_here, changed_later, first_changed, found, is_among, item_found, missing_if, numbers, with_behind}
use Rattle.serving_wires.proofs.Waiting.{next_and_left}
use Rattle.serving_wires.proofs.Wired.{OnWire, end_got, is_wired, piece_got, wire_begins, wire_ends, wire_hears, wire_spared}
use Rattle.serving_wires.proofs.Wires.{Wires, found_new, found_push, piece_nowhere, piece_other, piece_own, wire_other, wire_own}
use Rattle.serving_wires.specs.Changes.{changed_on, item_on}
use Rattle.serving_wires.specs.Intake.{left_for, next_for}
use Rattle.serving_wires.specs.Order.{Order, channel_of, closes, queues}
use Rattle.serving_wires.specs.Process.{Process, and_then, asks, done, tells}
use Rattle.serving_wires.specs.Row.{Row}
use Rattle.serving_wires.specs.Rows.{item_at, with_item, with_item_at}
use Rattle.serving_wires.specs.Standing.{Heard, Standing, State, Wire, after, after_one, answered, at_first, came, landed, rests, sent_after, sent_in, sent_with, unused_wire, waits, wires_with, with_piece, with_wire}
use Rattle.serving_wires.specs.declared.intake.Came.{Came}
use Rattle.serving_wires.specs.declared.intake.Came.TheVariants.{Piece, End}
use Rattle.hub_serving.specs.Gathering.{bytes_for, emptied, queue_on}
use Rattle.hub_serving.specs.Lines.{came_to, given_next, given_of, is_live_on, left_of, new_line, waiting_on}
use Rattle.hub_serving.specs.Numbered.{turned}
use Rattle.hub_serving.specs.Passing.{Lines, after_room, all_unread, first_to_give, given_at, given_in, given_so_many, if_given, passed_on as all_passed, room_made}
use Rattle.hub_serving.specs.Served.{IsLine, IsSent, Passed, ServedIsAHub, bytes_of, is_number, nothing_passed, passed_by, passed_on, queued_for, same_side, side_of, with_given, with_got}
use Rattle.hub_serving.specs.ServingValue.{ServingValue}
use Rattle.hub_serving.specs.declared.line.Line.{Line}
use Rattle.hub_serving.proofs.Emptying.{hub_last, hub_next}
use Rattle.hub_serving.proofs.Passes.{room_keeps, room_then}
use Rattle.hub_serving.proofs.Made.{Made, came_elsewhere, came_here, gave_elsewhere, gave_here, made_came, made_ended, made_first, made_gave, made_opened, made_turn, passes_more}

-- ---- sides

number_is : (k : ℕ) (upper : Option ℕ) → is_number k upper ≡ true → upper ≡ Some k
number_is k None is = absurd cc
number_is k (Some number) is = ap Some (eqb-true number k is)

-- those of two channels differ
pub sides_apart : (upper : Option ℕ) (c d : ℕ) → (c == d) ≡ false → same_side (side_of upper c) (side_of upper d) ≡ false
sides_apart upper c d off = by_flags (is_number c upper) refl (is_number d upper) refl
  where
    by_flags : (one : Bool) → is_number c upper ≡ one → (other : Bool) → is_number d upper ≡ other → same_side (cond one Above (Below c)) (cond other Above (Below d)) ≡ false
    by_flags true is true also =
        let both : Some c ≡ Some d = sym (number_is c upper is) ∙ number_is d upper also in
        let same : c ≡ d = cc in
        absurd (let no : true ≡ false = sym (eq-eqb c d same) ∙ off in cc)
    by_flags true is false also = refl
    by_flags false is true also = refl
    by_flags false is false also = off

pub side_below : (upper : Option ℕ) (k : ℕ) → is_number k upper ≡ false → side_of upper k ≡ Below k
side_below upper k is = ap (λ (b : Bool). cond b Above (Below k)) is

-- ---- what stands, by some calls of a new hub

-- a line, by what passed on its side; more may be queued for its wire, and its channel wasn't refused
pub record OnLine (upper : Option ℕ) (sent : Wires) (p : Passed) (row : Row Line) : Type 0 where
  pub on : OnWire row.channel p.got (bytes_of p.gave) row.item.intake sent
  pub open_still : on.wire.is_closed ≡ false
  pub its : (bytes : List ℕ) → queued_for (is_number row.channel upper) p.is_opened bytes ≡ bytes

pub record LineOn (upper : Option ℕ) (sent : Wires) (calls : List Call) (row : Row Line) : Type 0 where
  pub number : row.item.channel ≡ row.channel
  pub side : row.item.side ≡ side_of upper row.channel
  pub line : OnLine upper sent (passed_on row.item.side calls) row

abbrev pub Apart : Lines → Type 0
Apart [] = Unit {0}
Apart (row ∷ rows) = (is_among row.channel (numbers rows) ≡ false) × Apart rows

abbrev pub AllSent : Option ℕ → List Call → Wires → Type 0
AllSent upper calls sent = (k : ℕ) (wire : Wire) → found k sent ≡ Some wire → IsSent upper calls k wire

-- a channel without a wire is none of the hub's
abbrev pub Unborn : Option ℕ → List Call → Wires → Type 0
Unborn upper calls sent = (k : ℕ) → found k sent ≡ None → (is_number k upper ≡ false) × (passed_on (Below k) calls ≡ nothing_passed)

pub record Stands (upper : Option ℕ) (lines : Lines) (h : HubValue) (sent : Wires) : Type 0 where
  pub calls : List Call
  pub made : Made calls h
  pub all : AllByRecursion (LineOn upper sent calls) lines
  pub apart : Apart lines
  pub sent_so : AllSent upper calls sent
  pub unborn : Unborn upper calls sent

-- ---- calls by which nothing passes

abbrev SamePassed : List Call → List Call → Type 0
SamePassed calls later = (on : HubSide) → passed_on on later ≡ passed_on on calls

line_same : (upper : Option ℕ) (sent : Wires) (calls later : List Call) (row : Row Line) → SamePassed calls later → LineOn upper sent calls row → LineOn upper sent later row
line_same upper sent calls later row same l =
    record { number = l.number; side = l.side; line = subst (λ (p : Passed). OnLine upper sent p row) (sym (same row.item.side)) l.line }

stands_same : (upper : Option ℕ) (lines : Lines) (h next : HubValue) (sent : Wires) (s : Stands upper lines h sent) (later : List Call) → Made later next → SamePassed s.calls later → Stands upper lines next sent
stands_same upper lines h next sent s later made same =
    record {
      calls = later;
      made = made;
      all = all_weaker (LineOn upper sent s.calls) (LineOn upper sent later) lines (λ row l. line_same upper sent s.calls later row same l) s.all;
      apart = s.apart;
      sent_so = λ k wire is.
          subst (λ (p : Passed). wire.queued ≡ queued_for (is_number k upper) p.is_opened (bytes_of p.gave)) (sym (same (side_of upper k))) (s.sent_so k wire is);
      unborn = λ k none. let u = s.unborn k none in (u.0, same (Below k) ∙ u.1);
    }

-- ---- turns

turn_stands : (upper : Option ℕ) (lines : Lines) (side : HubSide) (h : HubValue) (sent : Wires) → Stands upper lines h sent → Stands upper lines (turned side h).1 sent
turn_stands upper lines side h sent s =
    let t = made_turn s.calls side h s.made in
    stands_same upper lines h (turned side h).1 sent s (s.calls ++ turns t.key side ∷ []) t.made (λ on. passes_more on s.calls (turns t.key side) h s.made)

abbrev StandsBy : Option ℕ → Lines → Wires → HubValue → Type 0
StandsBy upper lines sent h = Stands upper lines h sent

room_stands : (upper : Option ℕ) (lines : Lines) (next : ℕ) (h : HubValue) (sent : Wires) → Stands upper lines h sent → Stands upper lines (room_made next lines h).1 sent
room_stands upper lines next h sent s = room_keeps (StandsBy upper lines sent) (λ side hub stands. turn_stands upper lines side hub sent stands) next lines h s

-- ---- one line among the others

-- of the rows behind a channel that is none of theirs
among_off : (k : ℕ) (front rear : Lines) (row : Row Line) → is_among k (numbers (front ++ row ∷ rear)) ≡ false → (k == row.channel) ≡ false
among_off k [] rear row none = other_number row.channel k (or_parts (row.channel == k) (is_among k (numbers rear)) none).0
among_off k (other ∷ front) rear row none = among_off k front rear row (or_parts (other.channel == k) (is_among k (numbers (front ++ row ∷ rear))) none).1

pub split_apart : (front rear : Lines) (row : Row Line) → Apart (front ++ row ∷ rear) → (is_among row.channel (numbers front) ≡ false) × (is_among row.channel (numbers rear) ≡ false)
split_apart [] rear row a = (refl, a.0)
split_apart (first ∷ front) rear row a =
    let rest = split_apart front rear row a.1 in
    let off : (first.channel == row.channel) ≡ false = among_off first.channel front rear row a.0 in
    (ap (λ (b : Bool). b || is_among row.channel (numbers front)) off ∙ rest.0, rest.1)

numbers_same : (front rear : Lines) (row other : Row Line) → other.channel ≡ row.channel → numbers (front ++ other ∷ rear) ≡ numbers (front ++ row ∷ rear)
numbers_same [] rear row other same = ap {B = List ℕ} (λ (k : ℕ). k ∷ numbers rear) same
numbers_same (first ∷ front) rear row other same = ap (λ (ks : List ℕ). first.channel ∷ ks) (numbers_same front rear row other same)

pub same_numbers : (front rear : Lines) (row other : Row Line) → other.channel ≡ row.channel → Apart (front ++ row ∷ rear) → Apart (front ++ other ∷ rear)
same_numbers [] rear row other same a = (ap (λ (k : ℕ). is_among k (numbers rear)) same ∙ a.0, a.1)
same_numbers (first ∷ front) rear row other same a =
    (ap (is_among first.channel) (numbers_same front rear row other same) ∙ a.0, same_numbers front rear row other same a.1)

fewer_among : (k : ℕ) (front rear : Lines) (row : Row Line) → is_among k (numbers (front ++ row ∷ rear)) ≡ false → is_among k (numbers (front ++ rear)) ≡ false
fewer_among k [] rear row none = (or_parts (row.channel == k) (is_among k (numbers rear)) none).1
fewer_among k (other ∷ front) rear row none =
    let parts = or_parts (other.channel == k) (is_among k (numbers (front ++ row ∷ rear))) none in
    ap (λ (b : Bool). b || is_among k (numbers (front ++ rear))) parts.0 ∙ fewer_among k front rear row parts.1

pub without_apart : (front rear : Lines) (row : Row Line) → Apart (front ++ row ∷ rear) → Apart (front ++ rear)
without_apart [] rear row a = a.1
without_apart (first ∷ front) rear row a = (fewer_among first.channel front rear row a.0, without_apart front rear row a.1)

-- what holds of lines of other channels
pub all_others : (P Q : Row Line → Type 0) (k : ℕ) (rows : Lines) → is_among k (numbers rows) ≡ false → ((row : Row Line) → (row.channel == k) ≡ false → P row → Q row) → AllByRecursion P rows → AllByRecursion Q rows
all_others P Q k [] none each all = tt
all_others P Q k (row ∷ rows) none each all =
    let parts = or_parts (row.channel == k) (is_among k (numbers rows)) none in (each row parts.0 all.0, all_others P Q k rows parts.1 each all.1)

-- a line stands at a place
record IsAt (place : ℕ) (lines : Lines) (line : Line) : Type 0 where
  front : Lines
  channel : ℕ
  rear : Lines
  whole : lines ≡ front ++ record { channel = channel; item = line } ∷ rear
  changed : (next : Line) → with_item_at place next lines ≡ front ++ record { channel = channel; item = next } ∷ rear

line_at : (place : ℕ) (lines : Lines) (line : Line) → item_at place lines ≡ Some line → IsAt place lines line
line_at place [] line is = absurd cc
line_at zero (row ∷ rows) line is =
    let same : row.item ≡ line = cc in
    record { front = []; channel = row.channel; rear = rows; whole = ap {B = Lines} (λ (l : Line). record { channel = row.channel; item = l } ∷ rows) same; changed = λ next. refl }
line_at (suc place) (row ∷ rows) line is =
    let rest = line_at place rows line is in
    record {
      front = row ∷ rest.front;
      channel = rest.channel;
      rear = rest.rear;
      whole = ap (λ (rs : Lines). row ∷ rs) rest.whole;
      changed = λ next. with_behind place next row rows ∙ ap (λ (rs : Lines). row ∷ rs) (rest.changed next);
    }

-- ---- something that waits is given

came_gives : (on side : HubSide) (piece : List ℕ) (calls : List Call) (h : HubValue) → Made calls h
    → ((passed_on on (calls ++ comes side piece None ∷ [])).gave ≡ (passed_on on calls).gave) × ((passed_on on (calls ++ comes side piece None ∷ [])).is_opened ≡ (passed_on on calls).is_opened)
came_gives on side piece calls h m =
    let so = passes_more on calls (comes side piece None) h m in
    let f = flags (same_side on side) in (ap (λ (p : Passed). p.gave) so ∙ f.0, ap (λ (p : Passed). p.is_opened) so ∙ f.1)
  where
    flags : (flag : Bool) → ((cond flag (with_got piece (passed_on on calls)) (passed_on on calls)).gave ≡ (passed_on on calls).gave)
        × ((cond flag (with_got piece (passed_on on calls)) (passed_on on calls)).is_opened ≡ (passed_on on calls).is_opened)
    flags true = (refl, refl)
    flags false = (refl, refl)

-- the side of a line is no side of another channel
pub line_apart : (upper : Option ℕ) (sent : Wires) (calls : List Call) (row : Row Line) (k : ℕ) (side : HubSide) → side ≡ side_of upper k → (row.channel == k) ≡ false → LineOn upper sent calls row
    → same_side row.item.side side ≡ false
line_apart upper sent calls row k side is off l =
    ap (λ (s : HubSide). same_side s side) l.side ∙ ap (same_side (side_of upper row.channel)) is ∙ sides_apart upper row.channel k off

pub unborn_apart : (upper : Option ℕ) (k channel : ℕ) (wire : Wire) (sent : Wires) → found k sent ≡ None → found channel sent ≡ Some wire → is_number k upper ≡ false → same_side (Below k) (side_of upper channel) ≡ false
unborn_apart upper k channel wire sent none there is =
    ap (λ (s : HubSide). same_side s (side_of upper channel)) (sym (side_below upper k is)) ∙ sides_apart upper k channel (differ (k == channel) refl)
  where
    differ : (flag : Bool) → (k == channel) ≡ flag → (k == channel) ≡ false
    differ true is = let same : k ≡ channel = eqb-true k channel is in absurd (let both : Some wire ≡ None = sym there ∙ ap (λ (n : ℕ). found n sent) (sym same) ∙ none in cc)
    differ false is = is

piece_stands : (upper : Option ℕ) (front rear : Lines) (channel : ℕ) (line : Line) (bytes : List ℕ) (left : List Came) (h : HubValue) (sent : Wires) → line.intake ≡ Piece bytes ∷ left
    → Stands upper (front ++ record { channel = channel; item = line } ∷ rear) h sent
    → Stands upper (front ++ record { channel = channel; item = record line { intake = left } } ∷ rear) (hub_came line.side bytes None h) sent
piece_stands upper front rear channel line bytes left h sent is s =
    record {
      calls = later;
      made = made_came s.calls side bytes h s.made;
      all = all_append (LineOn upper sent later) front (next ∷ rear)
          (all_others (LineOn upper sent s.calls) (LineOn upper sent later) channel front among.0 others (all_left (LineOn upper sent s.calls) front (row ∷ rear) s.all))
          (own, all_others (LineOn upper sent s.calls) (LineOn upper sent later) channel rear among.1 others (all_right (LineOn upper sent s.calls) front (row ∷ rear) s.all).1);
      apart = same_numbers front rear row next refl s.apart;
      sent_so = λ k wire there.
          let g = came_gives (side_of upper k) side bytes s.calls h s.made in
          s.sent_so k wire there ∙ ap (λ (b : Bool). queued_for (is_number k upper) b (bytes_of (passed_on (side_of upper k) s.calls).gave)) (sym g.1)
          ∙ ap (λ (outs : List Outgoing). queued_for (is_number k upper) (passed_on (side_of upper k) later).is_opened (bytes_of outs)) (sym g.0);
      unborn = λ k none.
          let u = s.unborn k none in
          (u.0, came_elsewhere side (Below k) bytes s.calls h s.made (ap (same_side (Below k)) l.side ∙ unborn_apart upper k channel l.line.on.wire sent none l.line.on.there u.0) ∙ u.1);
    }
  where
    side : HubSide
    side = line.side

    later : List Call
    later = s.calls ++ comes side bytes None ∷ []

    row : Row Line
    row = record { channel = channel; item = line }

    next : Row Line
    next = record { channel = channel; item = record line { intake = left } }

    among : (is_among channel (numbers front) ≡ false) × (is_among channel (numbers rear) ≡ false)
    among = split_apart front rear row s.apart

    l : LineOn upper sent s.calls row
    l = all_at (LineOn upper sent s.calls) front rear row s.all

    others : (other : Row Line) → (other.channel == channel) ≡ false → LineOn upper sent s.calls other → LineOn upper sent later other
    others other off o =
        record {
          number = o.number;
          side = o.side;
          line = subst (λ (p : Passed). OnLine upper sent p other) (sym (came_elsewhere side other.item.side bytes s.calls h s.made (line_apart upper sent s.calls other channel side l.side off o))) o.line;
        }

    got : OnWire channel ((passed_on side s.calls).got ++ bytes) (bytes_of (passed_on side s.calls).gave) left sent
    got = piece_got channel bytes (passed_on side s.calls).got (bytes_of (passed_on side s.calls).gave) left sent
        (subst (λ (waiting : List Came). OnWire channel (passed_on side s.calls).got (bytes_of (passed_on side s.calls).gave) waiting sent) is l.line.on)

    still_open : got.wire.is_closed ≡ false
    still_open = let same : Some got.wire ≡ Some l.line.on.wire = sym got.there ∙ l.line.on.there in let wires : got.wire ≡ l.line.on.wire = cc in ap (λ (w : Wire). w.is_closed) wires ∙ l.line.open_still

    own : LineOn upper sent later next
    own =
        record {
          number = l.number;
          side = l.side;
          line = subst (λ (p : Passed). OnLine upper sent p next) (sym (came_here side bytes s.calls h s.made)) (record { on = got; open_still = still_open; its = l.line.its });
        }

ended_passes : (on side : HubSide) (calls : List Call) (h : HubValue) → Made calls h → passed_on on (calls ++ bytes_end side ∷ []) ≡ passed_on on calls
ended_passes on side calls h m = passes_more on calls (bytes_end side) h m

end_stands : (upper : Option ℕ) (front rear : Lines) (channel : ℕ) (line : Line) (left : List Came) (h : HubValue) (sent : Wires) → line.intake ≡ End ∷ left
    → Stands upper (front ++ record { channel = channel; item = line } ∷ rear) h sent
    → Stands upper (front ++ record { channel = channel; item = record line { intake = left } } ∷ rear) (ended line.side h) sent
unfolding stands_same
end_stands upper front rear channel line left h sent is s =
    let row : Row Line = record { channel = channel; item = line } in
    let next : Row Line = record { channel = channel; item = record line { intake = left } } in
    let later : List Call = s.calls ++ bytes_end line.side ∷ [] in
    let moved : Stands upper (front ++ row ∷ rear) (ended line.side h) sent =
    stands_same upper (front ++ row ∷ rear) h (ended line.side h) sent s later (made_ended s.calls line.side h s.made) (λ on. ended_passes on line.side s.calls h s.made) in
    let l = all_at (LineOn upper sent later) front rear row moved.all in
    let p = passed_on line.side later in
    let on : OnWire channel p.got (bytes_of p.gave) left sent =
    end_got channel p.got (bytes_of p.gave) left sent (subst (λ (waiting : List Came). OnWire channel p.got (bytes_of p.gave) waiting sent) is l.line.on) in
    let wires : on.wire ≡ l.line.on.wire = (let same : Some on.wire ≡ Some l.line.on.wire = sym on.there ∙ l.line.on.there in cc) in
    record {
      calls = later;
      made = moved.made;
      all = all_append (LineOn upper sent later) front (next ∷ rear) (all_left (LineOn upper sent later) front (row ∷ rear) moved.all) (
        record { number = l.number; side = l.side; line = record { on = on; open_still = ap (λ (w : Wire). w.is_closed) wires ∙ l.line.open_still; its = l.line.its } },
        (all_right (LineOn upper sent later) front (row ∷ rear) moved.all).1,
      );
      apart = same_numbers front rear row next refl s.apart;
      sent_so = moved.sent_so;
      unborn = moved.unborn;
    }

give_stands : (upper : Option ℕ) (front rear : Lines) (channel : ℕ) (line : Line) (next : Option Came) (left : List Came) (h : HubValue) (sent : Wires) → line.intake ≡ option_to_list next ++ left
    → Stands upper (front ++ record { channel = channel; item = line } ∷ rear) h sent
    → Stands upper (front ++ record { channel = channel; item = record line { intake = left } } ∷ rear) (given_next line.side next h) sent
give_stands upper front rear channel line None left h sent is s =
    subst (λ (waiting : List Came). Stands upper (front ++ record { channel = channel; item = record line { intake = waiting } } ∷ rear) h sent) is s
give_stands upper front rear channel line (Some (Piece bytes)) left h sent is s = piece_stands upper front rear channel line bytes left h sent is s
give_stands upper front rear channel line (Some End) left h sent is s = end_stands upper front rear channel line left h sent is s

at_stands : (upper : Option ℕ) (place : ℕ) (lines : Lines) (here : Option Line) (h : HubValue) (sent : Wires) → item_at place lines ≡ here → Stands upper lines h sent
    → Stands upper (given_in place here lines h).1 (given_in place here lines h).0 sent
at_stands upper place lines None h sent is s = s
at_stands upper place lines (Some line) h sent is s =
    let at = line_at place lines line is in
    let inbox = waiting_on line.side h in
    subst (λ (rows : Lines). Stands upper rows (given_of line h) sent) (sym (at.changed (left_of h line)))
    (give_stands upper at.front at.rear at.channel line (next_for inbox line.intake) (left_for inbox line.intake) h sent (next_and_left inbox line.intake)
    (subst (λ (rows : Lines). Stands upper rows h sent) at.whole s))

given_stands : (upper : Option ℕ) (place : ℕ) (lines : Lines) (h : HubValue) (sent : Wires) → Stands upper lines h sent → Stands upper (given_at place lines h).1 (given_at place lines h).0 sent
unfolding given_at
given_stands upper place lines h sent s = at_stands upper place lines (item_at place lines) h sent refl s

abbrev PassedStands : Option ℕ → Wires → HubValue × Lines → Type 0
PassedStands upper sent t = Stands upper t.1 t.0 sent

many_stand : (upper : Option ℕ) (count next : ℕ) (lines : Lines) (h : HubValue) (sent : Wires) → Stands upper lines h sent → PassedStands upper sent (given_so_many count next lines h)
many_stand upper zero next lines h sent s = s
many_stand upper (suc count) next lines h sent s = by_place (first_to_give h lines) (λ last rows after stands. many_stand upper count last rows after sent stands)
  where
    by_place : (place : Option ℕ) → ((last : ℕ) (rows : Lines) (after : HubValue) → Stands upper rows after sent → PassedStands upper sent (given_so_many count last rows after))
        → PassedStands upper sent (if_given place lines h (λ given. after_room (room_made next given.1 given.0) given.1 (λ last rows after. given_so_many count last rows after)))
    by_place None rest = s
    by_place (Some place) rest =
        let t = given_at place lines h in
        room_then (PassedStands upper sent) (StandsBy upper t.1 sent) (room_made next t.1 t.0) t.1 (λ last rows after. given_so_many count last rows after)
        (room_stands upper t.1 next t.0 sent (given_stands upper place lines h sent s)) (λ last after stands. rest last t.1 after stands)

pub passing_stands : (upper : Option ℕ) (lines : Lines) (h : HubValue) (sent : Wires) → Stands upper lines h sent → PassedStands upper sent (all_passed lines h)
unfolding all_passed
passing_stands upper lines h sent s =
    room_then (PassedStands upper sent) (StandsBy upper lines sent) (room_made 0 lines h) lines (λ next rows after. given_so_many (all_unread rows) next rows after)
    (room_stands upper lines 0 h sent s) (λ next after stands. many_stand upper (all_unread lines) next lines after sent stands)
