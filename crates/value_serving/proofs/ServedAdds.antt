-- What is served are value-adds, after any events and answers of connects.
use Rattle.std.proofs.Common.{◌≡◌, ℕ, zero, suc, ◌==◌, Bool, true, false, List, [], ◌∷◌, ◌++◌, length, nat_lt, Option, Some, None, refl, ap, sym, ◌∙◌, subst, append-nil}
use Rattle.std.specs.Prelude.{remove}
use Rattle.std.specs.List.{AllByRecursion}
use Rattle.list_laws.proofs.AllLists.{all_append, all_at, all_left, all_right, all_weaker}
use Rattle.list_laws.proofs.Numbers.{other_number}
use Rattle.serving_wires.specs.Row.{Row}
use Rattle.serving_wires.specs.Rows.{item_at, with_item_at}
use Rattle.serving_wires.proofs.Rows.{found, with_behind}
use Rattle.serving_wires.specs.declared.intake.Came.{Came}
use Rattle.serving_wires.specs.declared.intake.Came.TheVariants.{Piece, End}
use Rattle.tcf_wires.specs.declared.event.WireEvent.{WireEvent}
use Rattle.tcf_wires.specs.declared.event.WireEvent.TheVariants as events
use Rattle.value_node.specs.Passing.{Upper}
use Rattle.value_node.specs.ValueValue.{ValueValue}
use Rattle.value_node.specs.declared.states.Side.{Side}
use Rattle.value_node.specs.declared.states.Side.TheVariants.{Below, Above}
use Rattle.value_serving.specs.Adds.{is_over, new_add, queue_of, queue_on}
use Rattle.serving_wires.specs.Order.{closes, queues}
use Rattle.value_serving.specs.Passing.{gathered, heard}
use Rattle.serving_wires.specs.Process.{Answer, Process, and_then, asks, done, tells}
use Rattle.value_serving.specs.Served.{AreValueAdds, IsValueAdd, IsWiredAbove, IsWiredSide, Passage, Passed, ServedAreValueAdds, bytes_of, nothing_passed}
use Rattle.value_serving.specs.Serving.{handled, heard_at, heard_by, heard_on, heard_where, is_number, is_over_at, is_over_in, kept_unless, opened, opened_if, unless_over, value_adds, wire_of, with_adds}
use Rattle.serving_wires.specs.Wired.{IsWired}
use Rattle.serving_wires.specs.Standing.{Heard, State, after, after_one, answered, at_first, came, landed, rests, sent_with, waits, wires_after, wires_with, with_wire}
use Rattle.value_serving.specs.ServingValue.{ServingValue}
use Rattle.value_serving.specs.declared.add.Add.{Add}
use Rattle.serving_wires.proofs.Holding.{IsFresh, IsNew, IsNewIn, keeps_all}
use Rattle.value_serving.proofs.Making.{made_new}
use Rattle.value_serving.proofs.Arriving.{came_on, nowhere_spares, side_hears, side_spares}
use Rattle.value_serving.proofs.Rested.{Forgotten, HasNothing, Rested, Settled, gathered_leads, heard_leads, queue_by}
use Rattle.serving_wires.proofs.Wired.{OnWire, is_wired, wire_begins, wired_yet}
use Rattle.serving_wires.proofs.Wires.{Grows, Wires, found_push, gains_event, gains_then, not_new}
use Rattle.value_serving.proofs.Sparing.{IsFree, Spares, spares_low, spares_none}
use Rattle.value_serving.proofs.WhoseWire.{IsAway, IsItsOwn, IsWireOf, OnSide, wire_is}
use Rattle.value_serving.proofs.Working.{Leads, UpWorks, Works, leads_then, leads_weaker}

-- ---- the wires of two value-adds differ

abbrev Rows : Type 0
Rows = List (Row Add)

-- none of the wires of b is one of these
abbrev UpFree : Option ℕ → ℕ → Option ℕ → Type 0
UpFree None low up = Unit {0}
UpFree (Some channel) low up = IsFree channel low up

abbrev IsOff : ℕ → Option ℕ → Row Add → Type 0
IsOff low up row = IsFree row.item.below low up × UpFree row.item.above low up

both_ways : (low up : ℕ) → (low == up) ≡ false → (up == low) ≡ false
both_ways low up off = other_number low up off

off_by : (low1 low2 : ℕ) (up1 up2 : Option ℕ) → IsFree low1 low2 up2 → UpFree up1 low2 up2 → IsFree low2 low1 up1 × UpFree up2 low1 up1
off_by low1 low2 None None low high = ((both_ways low2 low1 low.0, refl), tt)
off_by low1 low2 None (Some k2) low high = ((both_ways low2 low1 low.0, refl), (both_ways k2 low1 low.1, refl))
off_by low1 low2 (Some k1) None low high = ((both_ways low2 low1 low.0, both_ways low2 k1 high.0), tt)
off_by low1 low2 (Some k1) (Some k2) low high = ((both_ways low2 low1 low.0, both_ways low2 k1 high.0), (both_ways k2 low1 low.1, both_ways k2 k1 high.1))

off_both : (one other : Row Add) → IsOff other.item.below other.item.above one → IsOff one.item.below one.item.above other
off_both one other off = off_by one.item.below other.item.below one.item.above other.item.above off.0 off.1

abbrev AllOff : ℕ → Option ℕ → Rows → Type 0
AllOff low up rows = AllByRecursion (IsOff low up) rows

abbrev Apart : Rows → Type 0
Apart [] = Unit {0}
Apart (row ∷ rows) = AllOff row.item.below row.item.above rows × Apart rows

-- one of them is taken out, and put in
apart_out : (front rear : Rows) (row : Row Add) → Apart (front ++ row ∷ rear) → Apart (front ++ rear) × AllOff row.item.below row.item.above (front ++ rear)
apart_out [] rear row all = (all.1, all.0)
apart_out (x ∷ front) rear row all =
    let rest = apart_out front rear row all.1 in
    let off = IsOff x.item.below x.item.above in (
      (all_append off front rear (all_left off front (row ∷ rear) all.0) (all_right off front (row ∷ rear) all.0).1, rest.0),
      (off_both row x (all_at off front rear row all.0), rest.1),
    )

apart_in : (front rear : Rows) (row : Row Add) → Apart (front ++ rear) → AllOff row.item.below row.item.above (front ++ rear) → Apart (front ++ row ∷ rear)
apart_in [] rear row all off = (off, all)
apart_in (x ∷ front) rear row all off =
    let from = IsOff x.item.below x.item.above in (
      all_append from front (row ∷ rear) (all_left from front rear all.0) (off_both x row off.0, all_right from front rear all.0),
      apart_in front rear row all.1 off.1,
    )

-- ---- the value-adds that stand

abbrev IsSettled : List ℕ → Wires → Row Add → Type 0
IsSettled peer sent row = Settled peer sent row.item × IsItsOwn row

pub record Stands (peer : List ℕ) (adds : Rows) (sent : Wires) : Type 0 where
  pub all : AllByRecursion (IsSettled peer sent) adds
  pub apart : Apart adds

-- others stay as they are
up_spared : (up : Option ℕ) (low low1 low2 : ℕ) (up1 up2 : Option ℕ) (upper : Option Upper) (waiting : List Came) (high : Option Passed) (sent later : Wires) → UpFree up low1 up1
    → Spares low1 up1 sent low2 up2 later → UpWorks up low upper waiting high sent → UpWorks up low upper waiting high later × UpFree up low2 up2
up_spared None low low1 low2 up1 up2 upper waiting high sent later free spares w = (w, tt)
up_spared (Some channel) low low1 low2 up1 up2 upper waiting high sent later free spares w =
    let s = spares channel w.on.wire free w.on.there in (
      record {
        passed = w.passed;
        linked = w.linked;
        on = record { wire = w.on.wire; there = s.0; queued = w.on.queued; came = w.on.came };
        silent = w.silent;
        apart = w.apart;
      },
      s.1,
    )

settled_spared : (peer : List ℕ) (low1 low2 : ℕ) (up1 up2 : Option ℕ) (sent later : Wires) (row : Row Add) → IsOff low1 up1 row → Spares low1 up1 sent low2 up2 later
    → IsSettled peer sent row → IsSettled peer later row × IsOff low2 up2 row
settled_spared peer low1 low2 up1 up2 sent later row off spares its =
    let s = its.0 in
    let w = s.works in
    let a = row.item in
    let low = spares a.below w.lower.wire off.0 w.lower.there in
    let high = up_spared a.above a.below low1 low2 up1 up2 a.node.relay.upper a.upper w.high sent later off.1 spares w.upper in (
      (
        record {
          works = record {
            low = w.low;
            high = w.high;
            made = w.made;
            lower = record { wire = w.lower.wire; there = low.0; queued = w.lower.queued; came = w.lower.came };
            open_yet = w.open_yet;
            upper = high.0;
          };
          low_empty = s.low_empty;
          up_empty = s.up_empty;
        },
        its.1,
      ),
      (low.1, high.1),
    )

all_spared : (peer : List ℕ) (low1 low2 : ℕ) (up1 up2 : Option ℕ) (sent later : Wires) (rows : Rows) → AllOff low1 up1 rows → Spares low1 up1 sent low2 up2 later
    → AllByRecursion (IsSettled peer sent) rows → AllByRecursion (IsSettled peer later) rows × AllOff low2 up2 rows
all_spared peer low1 low2 up1 up2 sent later [] off spares all = (tt, tt)
all_spared peer low1 low2 up1 up2 sent later (row ∷ rows) off spares all =
    let one = settled_spared peer low1 low2 up1 up2 sent later row off.0 spares all.0 in
    let rest = all_spared peer low1 low2 up1 up2 sent later rows off.1 spares all.1 in
    ((one.0, rest.0), (one.1, rest.1))

-- ---- the value-add at a place

pub record IsAt (place : ℕ) (adds : Rows) (a : Add) : Type 0 where
  pub front : Rows
  pub rear : Rows
  pub channel : ℕ
  pub whole : adds ≡ front ++ record { channel = channel; item = a } ∷ rear
  pub changed : (b : Add) → with_item_at place b adds ≡ front ++ record { channel = channel; item = b } ∷ rear
  pub there : (b : Add) → item_at place (front ++ record { channel = channel; item = b } ∷ rear) ≡ Some b
  pub without : (b : Add) → remove (front ++ record { channel = channel; item = b } ∷ rear) place ≡ front ++ rear

pub at_place : (place : ℕ) (adds : Rows) (a : Add) → item_at place adds ≡ Some a → IsAt place adds a
at_place zero [] a is = absurd cc
at_place zero (row ∷ rows) a is =
    let same : row.item ≡ a = cc in
    record {
      front = [];
      rear = rows;
      channel = row.channel;
      whole = ap (λ (i : Add). record { channel = row.channel; item = i } ∷ rows) same;
      changed = λ b. refl;
      there = λ b. refl;
      without = λ b. refl;
    }
at_place (suc place) [] a is = absurd cc
at_place (suc place) (row ∷ rows) a is =
    let rest = at_place place rows a is in
    record {
      front = row ∷ rest.front;
      rear = rest.rear;
      channel = rest.channel;
      whole = ap (λ (rs : Rows). row ∷ rs) rest.whole;
      changed = λ b. with_behind place b row rows ∙ ap (λ (rs : Rows). row ∷ rs) (rest.changed b);
      there = λ b. rest.there b;
      without = λ b. ap (λ (rs : Rows). row ∷ rs) (rest.without b);
    }

-- ---- it hears something, and is forgotten once it is closed

abbrev Others : List ℕ → Rows → Wires → ℕ → Option ℕ → Type 0
Others peer rows sent low up = (AllByRecursion (IsSettled peer sent) rows) × (Apart rows × AllOff low up rows)

stands_in : (peer : List ℕ) (front rear : Rows) (row : Row Add) (sent : Wires) → IsSettled peer sent row → Others peer (front ++ rear) sent row.item.below row.item.above
    → Stands peer (front ++ row ∷ rear) sent
stands_in peer front rear row sent s others =
    record {
      all = all_append (IsSettled peer sent) front (row ∷ rear) (all_left (IsSettled peer sent) front rear others.0) (s, all_right (IsSettled peer sent) front rear others.0);
      apart = apart_in front rear row others.1.0 others.1.1;
    }

kept_stands : (over : Bool) (peer : List ℕ) (place channel : ℕ) (front rear : Rows) (b : Add) (sent : Wires) → is_over Below b.node.relay.bind ≡ over
    → remove (front ++ record { channel = channel; item = b } ∷ rear) place ≡ front ++ rear → channel ≡ b.below → (is_over Below b.node.relay.bind ≡ false → Settled peer sent b)
    → Others peer (front ++ rear) sent b.below b.above → Stands peer (kept_unless over place (front ++ record { channel = channel; item = b } ∷ rear)) sent
kept_stands true peer place channel front rear b sent is without own settled others =
    subst (λ (rs : Rows). Stands peer rs sent) (sym without) (record { all = others.0; apart = others.1.0 })
kept_stands false peer place channel front rear b sent is without own settled others =
    stands_in peer front rear (record { channel = channel; item = b }) sent (settled is, own) others

abbrev Lands : List ℕ → Wires → Process Rows → Wires → Type 0
Lands peer before p sent = Leads (Grows before) (Stands peer) p sent

heard_lands : (peer : List ℕ) (channel place : ℕ) (side : Side) (what : Came) (a : Add) (adds : Rows) (old : Wires) → item_at place adds ≡ Some a → OnSide side channel a → Stands peer adds old
    → Lands peer (came_on channel what old) (and_then (heard_by place side what (Some a) adds) (unless_over place)) (came_on channel what old)
heard_lands peer channel place side what a adds old is on stands =
    let sent = came_on channel what old in
    let at = at_place place adds a is in
    let row : Row Add = record { channel = at.channel; item = a } in
    let all : AllByRecursion (IsSettled peer old) (at.front ++ row ∷ at.rear) = subst (AllByRecursion (IsSettled peer old)) at.whole stands.all in
    let out = apart_out at.front at.rear row (subst Apart at.whole stands.apart) in
    let its : IsSettled peer old row = all_at (IsSettled peer old) at.front at.rear row all in
    let rest : AllByRecursion (IsSettled peer old) (at.front ++ at.rear) =
    all_append (IsSettled peer old) at.front at.rear (all_left (IsSettled peer old) at.front (row ∷ at.rear) all) (all_right (IsSettled peer old) at.front (row ∷ at.rear) all).1 in
    let first = all_spared peer a.below a.below a.above a.above old sent (at.front ++ at.rear) out.1 (side_spares side what channel a old on) rest in
    let Placed : Rows → Wires → Type 0 = λ rows s. Stands peer (kept_unless (is_over_at place rows) place rows) s in
    leads_then (Grows sent) Placed (Stands peer) (and_then (heard side what a) (λ next. done (with_item_at place next adds))) (unless_over place) sent
    (leads_then (Grows sent) (Forgotten peer a sent) Placed (heard side what a) (λ next. done (with_item_at place next adds)) sent
    (heard_leads peer side what a sent (side_hears peer side what channel a old on its.0.works))
    (λ b s forgotten.
    let spared = all_spared peer a.below b.below a.above b.above sent s (at.front ++ at.rear) first.1 forgotten.spares first.0 in
    let now : Rows = at.front ++ record { channel = at.channel; item = b } ∷ at.rear in
    subst (λ (rs : Rows). Placed rs s) (sym (at.changed b))
    (subst (λ (over : Bool). Stands peer (kept_unless over place now) s) (sym (ap is_over_in (at.there b)))
    (kept_stands (is_over Below b.node.relay.bind) peer place at.channel at.front at.rear b s refl (at.without b) (its.1 ∙ sym forgotten.low_is) forgotten.settled (spared.0, (out.0, spared.1))))))
    (λ rows s placed. placed)

-- on the wire of none it is dropped
away_off : (channel low : ℕ) (up : Option ℕ) → (low == channel) ≡ false → is_number channel up ≡ false → IsFree low channel None × UpFree up channel None
away_off channel low None away off = ((both_ways low channel away, refl), tt)
away_off channel low (Some number) away off = ((both_ways low channel away, refl), (both_ways number channel off, refl))

all_off : (channel : ℕ) (rows : Rows) → AllByRecursion (IsAway channel) rows → AllOff channel None rows
all_off channel rows away = all_weaker (IsAway channel) (IsOff channel None) rows (λ row is. away_off channel row.item.below row.item.above is.0 is.1) away

where_lands : (peer : List ℕ) (channel : ℕ) (wire : Option (ℕ × Side)) (what : Came) (adds : Rows) (old : Wires) → IsWireOf channel adds wire → Stands peer adds old
    → Lands peer (came_on channel what old) (heard_where wire what adds) (came_on channel what old)
unfolding heard_at
where_lands peer channel None what adds old away stands =
    record {
      all = (all_spared peer channel channel None None old (came_on channel what old) adds (all_off channel adds away) (nowhere_spares what channel old) stands.all).0;
      apart = stands.apart;
    }
where_lands peer channel (Some (place, side)) what adds old its stands =
    subst (λ (o : Option Add). Lands peer (came_on channel what old) (and_then (heard_by place side what o adds) (unless_over place)) (came_on channel what old)) (sym its.1)
    (heard_lands peer channel place side what its.0 adds old its.1 its.2 stands)

on_lands : (peer : List ℕ) (channel : ℕ) (what : Came) (adds : Rows) (old : Wires) → Stands peer adds old
    → Lands peer (came_on channel what old) (heard_on channel what adds) (came_on channel what old)
unfolding heard_on
on_lands peer channel what adds old stands =
    where_lands peer channel (wire_of channel adds) what adds old
    (wire_is channel adds (all_weaker (IsSettled peer old) IsItsOwn adds (λ row its. its.1) stands.all)) stands

-- ---- a connection comes

up_new : (up : Option ℕ) (low new : ℕ) (upper : Option Upper) (waiting : List Came) (high : Option Passed) (sent : Wires) → found new sent ≡ None
    → UpWorks up low upper waiting high sent → UpWorks up low upper waiting high (with_wire new sent) × UpFree up new None
up_new None low new upper waiting high sent missing w = (w, tt)
up_new (Some channel) low new upper waiting high sent missing w = (
  record {
    passed = w.passed;
    linked = w.linked;
    on = record { wire = w.on.wire; there = found_push channel sent _ w.on.wire w.on.there; queued = w.on.queued; came = w.on.came };
    silent = w.silent;
    apart = w.apart;
  },
  (not_new new channel sent w.on.wire missing w.on.there, refl),
)

settled_new : (peer : List ℕ) (new : ℕ) (sent : Wires) (row : Row Add) → found new sent ≡ None → IsSettled peer sent row → IsSettled peer (with_wire new sent) row × IsOff new None row
settled_new peer new sent row missing its =
    let s = its.0 in
    let w = s.works in
    let a = row.item in
    let high = up_new a.above a.below new a.node.relay.upper a.upper w.high sent missing w.upper in (
      (
        record {
          works = record {
            low = w.low;
            high = w.high;
            made = w.made;
            lower = record { wire = w.lower.wire; there = found_push a.below sent _ w.lower.wire w.lower.there; queued = w.lower.queued; came = w.lower.came };
            open_yet = w.open_yet;
            upper = high.0;
          };
          low_empty = s.low_empty;
          up_empty = s.up_empty;
        },
        its.1,
      ),
      ((not_new new a.below sent w.lower.wire missing w.lower.there, refl), high.1),
    )

all_new : (peer : List ℕ) (new : ℕ) (sent : Wires) (rows : Rows) → found new sent ≡ None → AllByRecursion (IsSettled peer sent) rows
    → AllByRecursion (IsSettled peer (with_wire new sent)) rows × AllOff new None rows
all_new peer new sent [] missing all = (tt, tt)
all_new peer new sent (row ∷ rows) missing all =
    let one = settled_new peer new sent row missing all.0 in
    let rest = all_new peer new sent rows missing all.1 in
    ((one.0, rest.0), (one.1, rest.1))

new_works : (peer : List ℕ) (channel : ℕ) (sent : Wires) → found channel sent ≡ None → Works peer (new_add peer channel) (with_wire channel sent)
new_works peer channel sent missing =
    record {
      low = nothing_passed;
      high = None;
      made = made_new peer;
      lower = wire_begins channel sent missing;
      open_yet = refl;
      upper = refl;
    }

opened_lands : (flag : Bool) (peer : List ℕ) (channel : ℕ) (adds : Rows) (sent : Wires) → found channel sent ≡ None → Stands peer adds sent
    → Lands peer (with_wire channel sent) (opened_if flag peer channel adds) (with_wire channel sent)
opened_lands true peer channel adds sent missing stands =
    let first : Add = new_add peer channel in
    let before = with_wire channel sent in
    let others = all_new peer channel sent adds missing stands.all in
    leads_then (Grows before) (Rested peer first before first.node.relay.bind) (Stands peer) (gathered first) (λ a. done (adds ++ (record { channel = channel; item = a }) ∷ [])) before
    (gathered_leads peer first before (Grows before) first before (new_works peer channel sent missing) refl (spares_none channel None before))
    (λ a s rested.
    let spared = all_spared peer channel a.below None a.above before s adds others.1 rested.spares others.0 in
    stands_in peer adds [] (record { channel = channel; item = a }) s (rested.settled refl, sym rested.low_is)
    (subst (λ (rs : Rows). Others peer rs s a.below a.above) (sym (append-nil adds)) (spared.0, (stands.apart, spared.1))))
opened_lands false peer channel adds sent missing stands =
    let before = with_wire channel sent in
    let others = all_new peer channel sent adds missing stands.all in
    let first = sent_with (queues channel (3 ∷ 2 ∷ [])) before in
    let one = all_spared peer channel channel None None before first adds others.1 (spares_low (queues channel (3 ∷ 2 ∷ [])) channel None before refl) others.0 in
    let two = all_spared peer channel channel None None first (sent_with (closes channel) first) adds one.1 (spares_low (closes channel) channel None first refl) one.0 in
    record { all = two.0; apart = stands.apart }

-- ---- an event

-- the peer stays
abbrev StandsSo : List ℕ → ServingValue → Wires → Type 0
StandsSo peer v sent = (v.peer ≡ peer) × Stands peer v.adds sent

with_lands : (peer : List ℕ) (v : ServingValue) (before : Wires) (p : Process Rows) (sent : Wires) → v.peer ≡ peer → Lands peer before p sent
    → Leads (Grows before) (StandsSo peer) (with_adds v p) sent
with_lands peer v before p sent same lands =
    leads_then (Grows before) (Stands peer) (StandsSo peer) p (λ adds. done (record v { adds = adds })) sent lands (λ adds s stands. (same, stands))

event_lands : (peer : List ℕ) (event : WireEvent) (v : ServingValue) (sent : Wires) → IsFresh event sent → StandsSo peer v sent
    → Leads (Grows (wires_with event sent)) (StandsSo peer) (handled event v) (wires_with event sent)
unfolding handled opened
event_lands peer (events.Opened channel) v sent fresh stands =
    with_lands peer v (with_wire channel sent) (opened_if (nat_lt (length v.adds) 64) v.peer channel v.adds) (with_wire channel sent) stands.0
    (subst (λ (to : List ℕ). Lands peer (with_wire channel sent) (opened_if (nat_lt (length v.adds) 64) to channel v.adds) (with_wire channel sent)) (sym stands.0)
    (opened_lands (nat_lt (length v.adds) 64) peer channel v.adds sent fresh stands.1))
event_lands peer (events.Piece channel bytes) v sent fresh stands =
    let now = wires_with (events.Piece channel bytes) sent in
    with_lands peer v now (heard_on channel (Piece bytes) v.adds) now stands.0 (on_lands peer channel (Piece bytes) v.adds sent stands.1)
event_lands peer (events.Ended channel) v sent fresh stands = with_lands peer v sent (heard_on channel End v.adds) sent stands.0 (on_lands peer channel End v.adds sent stands.1)
event_lands peer (events.Lost channel) v sent fresh stands = with_lands peer v sent (heard_on channel End v.adds) sent stands.0 (on_lands peer channel End v.adds sent stands.1)
event_lands peer events.Idle v sent fresh stands = stands
event_lands peer events.Stop v sent fresh stands = stands

-- ---- so they are value-adds

abbrev AreWired : Bool → Wires → Wires → Type 0
AreWired is_resting sent later = (channel : ℕ) (got gave : List ℕ) (waiting : List Came) → OnWire channel got gave waiting sent → IsWired channel later got gave waiting is_resting

above_wired : (up : Option ℕ) (low : ℕ) (upper : Option Upper) (waiting : List Came) (high : Option Passed) (is_resting : Bool) (sent later : Wires) → AreWired is_resting sent later
    → UpWorks up low upper waiting high sent → IsWiredAbove up later high waiting is_resting
above_wired None low upper waiting high is_resting sent later wired w = subst (λ (s : Option Passed). IsWiredAbove None later s waiting is_resting) (sym w) tt
above_wired (Some channel) low upper waiting high is_resting sent later wired w =
    subst (λ (s : Option Passed). IsWiredAbove (Some channel) later s waiting is_resting) (sym w.linked) (wired channel w.passed.got (bytes_of w.passed.gave) waiting w.on)

no_queue : (upper : Option Upper) → HasNothing upper → queue_of upper ≡ []
no_queue None none = refl
no_queue (Some e) none = none

nothing_on : (side : Side) (node : ValueValue) → node.relay.lower.queued ≡ [] → HasNothing node.relay.upper → queue_on side node ≡ []
nothing_on Below node low up = queue_by node.is_spent node.relay.lower.queued low
nothing_on Above node low up = queue_by node.is_spent (queue_of node.relay.upper) (no_queue node.relay.upper up)

is_value_add : (peer : List ℕ) (is_resting : Bool) (sent later : Wires) (a : Add) → AreWired is_resting sent later → Settled peer sent a → IsValueAdd peer later is_resting a
is_value_add peer is_resting sent later a wired s =
    let w = s.works in
    let is = w.made.is in
    record {
      calls = w.made.calls;
      node = ap (λ (p : Passage). p.node) (sym is);
      lower = subst (λ (p : Passage). IsWiredSide a.below later p.below a.lower is_resting) (sym is) (wired a.below w.low.got (bytes_of w.low.gave) a.lower w.lower);
      upper = subst (λ (p : Passage). IsWiredAbove a.above later p.above a.upper is_resting) (sym is)
          (above_wired a.above a.below a.node.relay.upper a.upper w.high is_resting sent later wired w.upper);
      whole = λ side. nothing_on side a.node s.low_empty s.up_empty;
    }

abbrev AllAdds : List ℕ → Bool → Rows → Wires → Type 0
AllAdds peer is_resting adds sent = AllByRecursion (λ row. IsValueAdd peer sent is_resting row.item) adds

all_adds : (peer : List ℕ) (is_resting : Bool) (sent later : Wires) (adds : Rows) → AreWired is_resting sent later → AllByRecursion (IsSettled peer sent) adds → AllAdds peer is_resting adds later
all_adds peer is_resting sent later adds wired all =
    all_weaker (IsSettled peer sent) (λ row. IsValueAdd peer later is_resting row.item) adds (λ row its. is_value_add peer is_resting sent later row.item wired its.0) all

-- ---- the state

abbrev KeepsState : List ℕ → State ServingValue → Type 0
KeepsState peer (rests s) = StandsSo peer s.served s.sent
KeepsState peer (waits s next) =
    AllAdds peer false s.served.adds s.sent
    × ((answer : Answer) → IsNew answer s.sent → Leads (AllAdds peer false s.served.adds) (StandsSo peer) (next answer) (wires_after answer s.sent))

landed_keeps : (peer : List ℕ) (v : ServingValue) (sent : Wires) (p : Process ServingValue) → Leads (AllAdds peer false v.adds) (StandsSo peer) p sent → KeepsState peer (landed v sent p)
landed_keeps peer v sent (done new) leads = leads
landed_keeps peer v sent (tells order p) leads = landed_keeps peer v (sent_with order sent) p leads
landed_keeps peer v sent (asks next) leads = leads

one_keeps : (peer : List ℕ) (state : State ServingValue) (heard : Heard) → IsNewIn state heard → KeepsState peer state → KeepsState peer (after_one (value_adds peer) state heard)
one_keeps peer (rests s) (came event) new keeps =
    let before = wires_with event s.sent in
    landed_keeps peer s.served before (handled event s.served)
    (leads_weaker (Grows before) (AllAdds peer false s.served.adds) (StandsSo peer) (StandsSo peer) (handled event s.served) before
    (λ later grows.
    all_adds peer false s.sent later s.served.adds
    (λ channel got gave waiting on. wired_yet channel got gave waiting s.sent later (gains_then s.sent before later (gains_event event s.sent) grows) on) keeps.1.all)
    (λ v later stands. stands)
    (event_lands peer event s.served s.sent new keeps))
one_keeps peer (rests s) (answered answer) new keeps = keeps
one_keeps peer (waits s next) (came event) new keeps = keeps
one_keeps peer (waits s next) (answered answer) new keeps = landed_keeps peer s.served (wires_after answer s.sent) (next answer) (keeps.1 answer new)

state_adds : (peer : List ℕ) (state : State ServingValue) → KeepsState peer state → AreValueAdds peer state
state_adds peer (rests s) keeps =
    all_adds peer true s.sent s.sent s.served.adds (λ channel got gave waiting on. is_wired channel got gave waiting s.sent on) keeps.1.all
state_adds peer (waits s next) keeps = keeps.0

pub serves_value_adds : ServedAreValueAdds
serves_value_adds peer heard apart =
    state_adds peer (after (value_adds peer) heard)
    (keeps_all (value_adds peer) (KeepsState peer) (one_keeps peer) heard (at_first (value_adds peer)) apart (refl, record { all = tt; apart = tt }))
