-- What the hub has to send is queued for its wires, and an event is heeded: it stands then as well.
use Rattle.std.proofs.Common.{◌≡◌, ℕ, zero, suc, ◌==◌, Bool, true, false, not, cond, ◌||◌, ◌&&◌, List, [], ◌∷◌, ◌++◌, Option, Some, None, refl, sym, ap, ◌∙◌, subst, append-nil, append_assoc, eqb-true}
use Rattle.std.specs.Prelude.{Ok, Err, filter, fold, option_map, option_to_list, slice_get}
use Rattle.std.specs.List.{AllByRecursion, IsDistinct, flat_map}
use Rattle.std.proofs.lemmas.Bool.{eq-eqb, or_parts}
use Rattle.std.proofs.lemmas.Grind.{flat_map-append}
use Rattle.std.proofs.lemmas.List.{map-append}
use Rattle.list_laws.proofs.AllLists.{all_append, all_at, all_left, all_right, all_weaker}
use Rattle.list_laws.proofs.Numbers.{number_itself, other_number}
use Rattle.channel_core.specs.Closing.{is_closed}
use Rattle.channel_core.specs.EndValue.{EndValue, unless_spent}
use Rattle.channel_core.specs.declared.held.Outgoing.{Outgoing}
use Rattle.channel_list.specs.Channels.{End, changed, is_open}
use Rattle.channel_list.specs.declared.channel.Channel.{Channel}
use Rattle.hub_node.specs.Calls.{Call, gives, opens}
use Rattle.hub_node.specs.Hub.{after_giving, given, new_hub, opened}
use Rattle.hub_node.specs.HubValue.{HubValue}
use Rattle.hub_node.specs.Relay.{first_of, given_at, is_live_at, is_live_in, lower_of}
use Rattle.hub_node.specs.RelayValue.{RelayValue}
use Rattle.hub_node.specs.declared.side.HubSide.{HubSide}
use Rattle.hub_node.specs.declared.side.HubSide.TheVariants.{Above, Below}
use Rattle.serving_wires.proofs.Apart.{landed_numbers, same_channel}
use Rattle.serving_wires.proofs.Rows.{change_first, changed_here, changed_later, changed_nowhere, changed_numbers, first_changed, found, found_here, found_later, is_among, item_found, missing_if, numbers}
use Rattle.serving_wires.proofs.Wired.{OnWire, is_wired, wire_begins, wire_ends, wire_hears, wire_spared}
use Rattle.serving_wires.proofs.Wires.{Wires, found_new, found_push, order_came, piece_nowhere, piece_numbers, piece_other, piece_own, wire_other, wire_own}
use Rattle.serving_wires.specs.Changes.{changed_on, item_on}
use Rattle.serving_wires.specs.Order.{Order, channel_of, closes, queues}
use Rattle.serving_wires.specs.Process.{Process, and_then, asks, done, tells}
use Rattle.serving_wires.specs.Row.{Row}
use Rattle.serving_wires.specs.Rows.{with_item}
use Rattle.serving_wires.specs.Standing.{Heard, Standing, State, Wire, after, after_one, answered, at_first, came, landed, rests, sent_after, sent_in, sent_with, standing_in, unused_wire, waits, wires_after, wires_with, with_piece, with_wire}
use Rattle.serving_wires.specs.declared.intake.Came.{Came}
use Rattle.serving_wires.specs.declared.intake.Came.TheVariants.{Piece, End as came_end}
use Rattle.tcf_wires.specs.declared.event.WireEvent.{WireEvent}
use Rattle.tcf_wires.specs.declared.event.WireEvent.TheVariants as events
use Rattle.hub_serving.specs.Gathering.{bytes_for, closing, emptied, emptied_at, emptied_end, gathered_rows, is_live_line, queue_at, queue_in, queue_of, queue_on, sent_then}
use Rattle.hub_serving.specs.Lines.{is_live_on, new_line}
use Rattle.hub_serving.specs.Passing.{Lines, passed_on as all_passed}
use Rattle.hub_serving.specs.Served.{IsHub, IsLine, IsSent, IsServedHub, Passed, ServedIsAHub, bytes_of, is_number, nothing_passed, passed_on, queued_for, same_side, side_of, upper_in, with_given}
use Rattle.hub_serving.specs.Serving.{acted, connected_on, gathered, handled, heard_more, heard_on, hub_of, live_alone, new_serving, opened_by, opened_on, passed, with_passed}
use Rattle.hub_serving.specs.ServingValue.{ServingValue}
use Rattle.hub_serving.specs.declared.line.Line.{Line}
use Rattle.hub_serving.proofs.Calm.{calm_rests, handled_calm}
use Rattle.hub_serving.proofs.Emptying.{hub_last, hub_next}
use Rattle.hub_serving.proofs.Firsts.{at_apart, found_at, mapped}
use Rattle.hub_serving.proofs.Made.{Made, gave_elsewhere, gave_here, made_first, made_gave, made_opened, passes_more}
use Rattle.hub_serving.proofs.ServedHub.{AllSent, Apart, LineOn, OnLine, Stands, Unborn, all_others, line_apart, passing_stands, same_numbers, side_below, sides_apart, split_apart, unborn_apart, without_apart}

-- ---- a side is emptied by calls

given_first_by : (spent : Bool) (side : HubSide) (h : HubValue) → given side (record h { is_spent = spent }) ≡ slice_get (queue_on side (record h { is_spent = spent })) 0
unfolding given_at
given_first_by true side h = refl
given_first_by false Above h = by_flag h.relay.upper.is_spent
  where
    by_flag : (flag : Bool) → cond flag None (slice_get h.relay.upper.queued 0) ≡ slice_get (cond flag [] h.relay.upper.queued) 0
    by_flag true = refl
    by_flag false = refl
given_first_by false (Below j) h = by_lower (lower_of j h.relay)
  where
    by_flag : (flag : Bool) (end : End) → cond flag None (slice_get end.queued 0) ≡ slice_get (cond flag [] end.queued) 0
    by_flag true end = refl
    by_flag false end = refl

    by_lower : (lower : Option Channel) → first_of lower ≡ slice_get (queue_in lower) 0
    by_lower None = refl
    by_lower (Some lower) = by_flag lower.end.is_spent lower.end

given_first : (side : HubSide) (h : HubValue) → given side h ≡ slice_get (queue_on side h) 0
given_first side h = given_first_by h.is_spent side h

pub record Emptied (calls : List Call) (side : HubSide) (h : HubValue) : Type 0 where
  pub later : List Call
  pub made : Made later (emptied side h)
  pub here : passed_on side later ≡ record (passed_on side calls) { gave = (passed_on side calls).gave ++ queue_on side h }
  pub elsewhere : (on : HubSide) → same_side on side ≡ false → passed_on on later ≡ passed_on on calls

empties : (queue : List Outgoing) (calls : List Call) (side : HubSide) (h : HubValue) → queue_on side h ≡ queue → Made calls h → Emptied calls side h
empties [] calls side h is m =
    let none : given side h ≡ None = given_first side h ∙ ap (λ (q : List Outgoing). slice_get q 0) is in
    let l = hub_last side h none in
    let p = passed_on side calls in
    record {
      later = calls ++ gives side ∷ [];
      made = subst (λ (x : HubValue). Made (calls ++ gives side ∷ []) x) l.same (made_gave calls side h m);
      here = gave_here side calls h m ∙ ap (λ (o : Option Outgoing). with_given o p) none ∙ ap (λ (q : List Outgoing). record p { gave = p.gave ++ q }) (sym is);
      elsewhere = λ on other. gave_elsewhere side on calls h m other;
    }
empties (out ∷ queue) calls side h is m =
    let some : given side h ≡ Some out = given_first side h ∙ ap (λ (q : List Outgoing). slice_get q 0) is in
    let n = hub_next side h out some in
    let next = after_giving side h in
    let rest_is : queue_on side next ≡ queue = (let whole : out ∷ queue_on side next ≡ out ∷ queue = sym n.queue ∙ is in cc) in
    let p = passed_on side calls in
    let mid = calls ++ gives side ∷ [] in
    let rest = empties queue mid side next rest_is (made_gave calls side h m) in
    let first : passed_on side mid ≡ record p { gave = p.gave ++ out ∷ [] } = gave_here side calls h m ∙ ap (λ (o : Option Outgoing). with_given o p) some in
    record {
      later = rest.later;
      made = subst (λ (x : HubValue). Made rest.later x) n.same rest.made;
      here = rest.here
          ∙ ap (λ (x : Passed). record x { gave = x.gave ++ queue_on side next }) first
          ∙ ap (λ (outs : List Outgoing). record p { gave = outs }) (append_assoc p.gave (out ∷ []) (queue_on side next) ∙ ap (λ (q : List Outgoing). p.gave ++ q) (sym n.queue));
      elsewhere = λ on other. rest.elsewhere on other ∙ gave_elsewhere side on calls h m other;
    }

bytes_more : (side : HubSide) (h : HubValue) (outs : List Outgoing) → bytes_of (outs ++ queue_on side h) ≡ bytes_of outs ++ bytes_for side h
unfolding bytes_for
bytes_more side h outs = flat_map-append (λ (out : Outgoing). out.bytes) outs (queue_on side h)

-- it leaves all sides live that are

end_state : {T : Type 0} → (flag : Bool) (e : EndValue T) → is_closed (cond flag e (record e { queued = [] })).state ≡ is_closed e.state
end_state true e = refl
end_state false e = refl

live_by : (lower : Option Channel) → is_live_in (mapped emptied_end lower) ≡ is_live_in lower
unfolding is_open
live_by None = refl
live_by (Some lower) = ap not (end_state lower.end.is_spent lower.end)

abbrev pub SameLive : HubValue → HubValue → Type 0
SameLive h next = (side : HubSide) → is_live_on side next ≡ is_live_on side h

lower_live : (flag : Bool) (i j : ℕ) (r : RelayValue) → (i == j) ≡ flag → is_live_in (lower_of j (record r { lowers = changed i emptied_end r.lowers })) ≡ is_live_in (lower_of j r)
lower_live true i j r is =
    let same : i ≡ j = eqb-true i j is in
    ap (λ (n : ℕ). is_live_in (lower_of j (record r { lowers = changed n emptied_end r.lowers }))) same ∙ ap is_live_in (found_at j emptied_end r.lowers) ∙ live_by (lower_of j r)
lower_live false i j r is = ap is_live_in (at_apart i j emptied_end r.lowers is)

live_at : (on side : HubSide) (r : RelayValue) → is_live_at on (emptied_at side r) ≡ is_live_at on r
live_at Above Above r = ap not (end_state r.upper.is_spent r.upper)
live_at Above (Below j) r = refl
live_at (Below j) Above r = refl
live_at (Below j) (Below i) r = lower_live (i == j) i j r refl

pub live_emptied : (side : HubSide) (h : HubValue) → SameLive h (emptied side h)
unfolding emptied
live_emptied side h = by_flag h.is_spent
  where
    by_flag : (flag : Bool) → (on : HubSide) → is_live_on on (cond flag h (record h { relay = emptied_at side h.relay })) ≡ is_live_on on h
    by_flag true = λ on. refl
    by_flag false = λ on. live_at on side h.relay

-- ---- a process that asks for no connection comes to this

abbrev pub Lands : {A : Type 0} → (A → Wires → Type 0) → Process A → Wires → Type 0
Lands Q (done a) sent = Q a sent
Lands Q (tells order p) sent = Lands Q p (sent_with order sent)
Lands Q (asks next) sent = ⊥

pub lands_then : {A B : Type 0} → (R : A → Wires → Type 0) (Q : B → Wires → Type 0) (p : Process A) (later : A → Process B) (sent : Wires) → Lands R p sent
    → ((a : A) (wires : Wires) → R a wires → Lands Q (later a) wires) → Lands Q (and_then p later) sent
lands_then R Q (done a) later sent lands so = so a sent lands
lands_then R Q (tells order p) later sent lands so = lands_then R Q p later (sent_with order sent) lands so
lands_then R Q (asks next) later sent lands so = absurd lands

pub lands_weaker : {A : Type 0} → (R Q : A → Wires → Type 0) (p : Process A) (sent : Wires) → ((a : A) (wires : Wires) → R a wires → Q a wires) → Lands R p sent → Lands Q p sent
lands_weaker R Q (done a) sent so lands = so a sent lands
lands_weaker R Q (tells order p) sent so lands = lands_weaker R Q p (sent_with order sent) so lands
lands_weaker R Q (asks next) sent so lands = lands

-- ---- what a side gave out is queued for its wire

queued_wire : (bytes : List ℕ) (channel : ℕ) (wire : Wire) → wire.is_closed ≡ false → sent_after (queues channel bytes) wire ≡ record wire { queued = wire.queued ++ bytes }
queued_wire bytes channel wire is = ap (λ (b : Bool). cond b wire (record wire { queued = wire.queued ++ bytes })) is

order_on : (order : Order) (sent : Wires) (k : ℕ) → found k (sent_with order sent) ≡ cond (channel_of order == k) (option_map (sent_after order) (found k sent)) (found k sent)
order_on order sent k = by_flag (channel_of order == k) refl
  where
    by_wire : (wire : Option Wire) → found (channel_of order) sent ≡ wire → found (channel_of order) (sent_with order sent) ≡ option_map (sent_after order) wire
    by_wire None none =
        ap (λ (rs : Wires). found (channel_of order) rs) (change_first Wire (channel_of order) (sent_after order) sent ∙ changed_nowhere (channel_of order) (sent_after order) sent none) ∙ none
    by_wire (Some wire) there = wire_own order sent wire there

    by_flag : (flag : Bool) → (channel_of order == k) ≡ flag → found k (sent_with order sent) ≡ cond flag (option_map (sent_after order) (found k sent)) (found k sent)
    by_flag true is =
        let same : channel_of order ≡ k = eqb-true (channel_of order) k is in
        subst (λ (n : ℕ). found n (sent_with order sent) ≡ option_map (sent_after order) (found n sent)) same (by_wire (found (channel_of order) sent) refl)
    by_flag false is = wire_other order k sent is

-- ---- one line is gathered

record Gathered (upper : Option ℕ) (front rear : Lines) (row : Row Line) (h : HubValue) (sent : Wires) : Type 0 where
  live : is_live_on row.item.side h ≡ true → Stands upper (front ++ row ∷ rear) (emptied row.item.side h) (sent_with (queues row.item.channel (bytes_for row.item.side h)) sent)
  over : is_live_on row.item.side h ≡ false → Stands upper (front ++ rear) (emptied row.item.side h) (sent_with (closes row.item.channel) (sent_with (queues row.item.channel (bytes_for row.item.side h)) sent))

-- an order for another wire changes nothing of a line
other_line : (upper : Option ℕ) (order : Order) (sent : Wires) (p : Passed) (row : Row Line) → (channel_of order == row.channel) ≡ false → OnLine upper sent p row → OnLine upper (sent_with order sent) p row
other_line upper order sent p row off l =
    record {
      on = record { wire = l.on.wire; there = wire_other order row.channel sent off ∙ l.on.there; queued = l.on.queued; came = l.on.came };
      open_still = l.open_still;
      its = l.its;
    }

-- what was queued for all, where an order changes one wire
all_sent_by : (upper : Option ℕ) (calls later : List Call) (channel : ℕ) (wire : Wire) (order : Order) (sent : Wires) → channel_of order ≡ channel → found channel sent ≡ Some wire
    → IsSent upper later channel (sent_after order wire) → ((k : ℕ) → (channel == k) ≡ false → passed_on (side_of upper k) later ≡ passed_on (side_of upper k) calls)
    → ((k : ℕ) (w : Wire) → (channel == k) ≡ false → found k sent ≡ Some w → IsSent upper calls k w) → AllSent upper later (sent_with order sent)
all_sent_by upper calls later channel wire order sent at there own others all = λ k w is. by_flag k w (channel == k) refl (sym (order_on order sent k) ∙ is)
  where
    by_flag : (k : ℕ) (w : Wire) (flag : Bool) → (channel == k) ≡ flag → cond (channel_of order == k) (option_map (sent_after order) (found k sent)) (found k sent) ≡ Some w → IsSent upper later k w
    by_flag k w true is so =
        let same : channel ≡ k = eqb-true channel k is in
        let here : found k sent ≡ Some wire = ap (λ (n : ℕ). found n sent) (sym same) ∙ there in
        let whole : Some (sent_after order wire) ≡ Some w =
        ap (λ (o : Option Wire). option_map (sent_after order) o) (sym here)
        ∙ ap (λ (b : Bool). cond b (option_map (sent_after order) (found k sent)) (found k sent)) (sym (ap (λ (n : ℕ). n == k) at ∙ is)) ∙ so in
        let its : sent_after order wire ≡ w = cc in
        subst (λ (x : Wire). IsSent upper later k x) its (subst (λ (n : ℕ). IsSent upper later n (sent_after order wire)) same own)
    by_flag k w false is so =
        let there : found k sent ≡ Some w = ap (λ (b : Bool). cond b (option_map (sent_after order) (found k sent)) (found k sent)) (sym (ap (λ (n : ℕ). n == k) at ∙ is)) ∙ so in
        subst (λ (p : Passed). w.queued ≡ queued_for (is_number k upper) p.is_opened (bytes_of p.gave)) (sym (others k is)) (all k w is there)

-- a channel that has no wire has none behind an order
none_before : (order : Order) (sent : Wires) (k : ℕ) → found k (sent_with order sent) ≡ None → found k sent ≡ None
none_before order sent k is = by_flag (channel_of order == k) (sym (order_on order sent k) ∙ is)
  where
    by_wire : (o : Option Wire) → option_map (sent_after order) o ≡ None → o ≡ None
    by_wire None none = refl
    by_wire (Some wire) none = absurd cc

    by_flag : (flag : Bool) → cond flag (option_map (sent_after order) (found k sent)) (found k sent) ≡ None → found k sent ≡ None
    by_flag true none = by_wire (found k sent) none
    by_flag false none = none

-- the wire of an order's channel
own_wire : (order : Order) (channel : ℕ) (sent : Wires) (wire : Wire) → channel_of order ≡ channel → found channel sent ≡ Some wire → found channel (sent_with order sent) ≡ Some (sent_after order wire)
own_wire order channel sent wire at there =
    subst (λ (k : ℕ). found k (sent_with order sent) ≡ Some (sent_after order wire)) at (wire_own order sent wire (ap (λ (k : ℕ). found k sent) at ∙ there))

gather_one : (upper : Option ℕ) (front rear : Lines) (row : Row Line) (h : HubValue) (sent : Wires) → Stands upper (front ++ row ∷ rear) h sent → Gathered upper front rear row h sent
gather_one upper front rear row h sent s =
    record {
      live = λ is. record {
        calls = e.later;
        made = e.made;
        all = all_append (LineOn upper sent1 e.later) front (row ∷ rear) fronts (record { number = l.number; side = l.side; line = own }, rears);
        apart = s.apart;
        sent_so = sent_so1;
        unborn = unborn1;
      };
      over = λ is. record {
        calls = e.later;
        made = e.made;
        all = all_append (LineOn upper sent2 e.later) front rear (all_weaker Both (LineOn upper sent2 e.later) front (λ other b. closed_line other b) (all_both front among.0 fronts))
            (all_weaker Both (LineOn upper sent2 e.later) rear (λ other b. closed_line other b) (all_both rear among.1 rears));
        apart = without_apart front rear row s.apart;
        sent_so = all_sent_by upper e.later e.later row.channel wire1 shut sent1 l.number there1 own_queued (λ k off. refl) (λ k w off found_so. sent_so1 k w found_so);
        unborn = λ k none. unborn1 k (none_before shut sent1 k none);
      };
    }
  where
    side : HubSide
    side = row.item.side

    l : LineOn upper sent s.calls row
    l = all_at (LineOn upper sent s.calls) front rear row s.all

    wire : Wire
    wire = l.line.on.wire

    e : Emptied s.calls side h
    e = empties (queue_on side h) s.calls side h refl s.made

    bytes : List ℕ
    bytes = bytes_for side h

    order : Order
    order = queues row.item.channel bytes

    shut : Order
    shut = closes row.item.channel

    sent1 : Wires
    sent1 = sent_with order sent

    sent2 : Wires
    sent2 = sent_with shut sent1

    wire1 : Wire
    wire1 = sent_after order wire

    there1 : found row.channel sent1 ≡ Some wire1
    there1 = own_wire order row.channel sent wire l.number l.line.on.there

    wire_is : wire1 ≡ record wire { queued = wire.queued ++ bytes }
    wire_is = queued_wire bytes row.item.channel wire l.line.open_still

    p : Passed
    p = passed_on side s.calls

    q : Passed
    q = record p { gave = p.gave ++ queue_on side h }

    all_bytes : wire1.queued ≡ bytes_of q.gave
    all_bytes = ap (λ (w : Wire). w.queued) wire_is ∙ ap (λ (bs : List ℕ). bs ++ bytes) l.line.on.queued ∙ sym (bytes_more side h p.gave)

    own : OnLine upper sent1 (passed_on side e.later) row
    own = subst (λ (x : Passed). OnLine upper sent1 x row) (sym e.here)
        (record {
          on = record { wire = wire1; there = there1; queued = all_bytes; came = order_came order wire ∙ l.line.on.came };
          open_still = ap (λ (w : Wire). w.is_closed) wire_is ∙ l.line.open_still;
          its = l.line.its;
        })

    own_queued : IsSent upper e.later row.channel wire1
    own_queued =
        subst (λ (on : HubSide). wire1.queued ≡ queued_for (is_number row.channel upper) (passed_on on e.later).is_opened (bytes_of (passed_on on e.later).gave)) l.side
        (subst (λ (x : Passed). wire1.queued ≡ queued_for (is_number row.channel upper) x.is_opened (bytes_of x.gave)) (sym e.here) (all_bytes ∙ sym (l.line.its (bytes_of q.gave))))

    among : (is_among row.channel (numbers front) ≡ false) × (is_among row.channel (numbers rear) ≡ false)
    among = split_apart front rear row s.apart

    away : (k : ℕ) → (k == row.channel) ≡ false → (row.item.channel == k) ≡ false
    away k off = ap (λ (n : ℕ). n == k) l.number ∙ other_number k row.channel off

    other_one : (other : Row Line) → (other.channel == row.channel) ≡ false → LineOn upper sent s.calls other → LineOn upper sent1 e.later other
    other_one other off o =
        record {
          number = o.number;
          side = o.side;
          line = subst (λ (x : Passed). OnLine upper sent1 x other) (sym (e.elsewhere other.item.side (line_apart upper sent s.calls other row.channel side l.side off o)))
              (other_line upper order sent (passed_on other.item.side s.calls) other (away other.channel off) o.line);
        }

    fronts : AllByRecursion (LineOn upper sent1 e.later) front
    fronts = all_others (LineOn upper sent s.calls) (LineOn upper sent1 e.later) row.channel front among.0 other_one (all_left (LineOn upper sent s.calls) front (row ∷ rear) s.all)

    rears : AllByRecursion (LineOn upper sent1 e.later) rear
    rears = all_others (LineOn upper sent s.calls) (LineOn upper sent1 e.later) row.channel rear among.1 other_one (all_right (LineOn upper sent s.calls) front (row ∷ rear) s.all).1

    Both : Row Line → Type 0
    Both other = ((other.channel == row.channel) ≡ false) × LineOn upper sent1 e.later other

    all_both : (rows : Lines) → is_among row.channel (numbers rows) ≡ false → AllByRecursion (LineOn upper sent1 e.later) rows → AllByRecursion Both rows
    all_both rows none all = all_others (LineOn upper sent1 e.later) Both row.channel rows none (λ other off o. (off, o)) all

    closed_line : (other : Row Line) → Both other → LineOn upper sent2 e.later other
    closed_line other b =
        record { number = b.1.number; side = b.1.side; line = other_line upper shut sent1 (passed_on other.item.side e.later) other (away other.channel b.0) b.1.line }

    sent_so1 : AllSent upper e.later sent1
    sent_so1 =
        all_sent_by upper s.calls e.later row.channel wire order sent l.number l.line.on.there own_queued
        (λ k off. e.elsewhere (side_of upper k) (ap (same_side (side_of upper k)) l.side ∙ sides_apart upper k row.channel (other_number row.channel k off))) (λ k w off found_so. s.sent_so k w found_so)

    unborn1 : Unborn upper e.later sent1
    unborn1 = λ k none.
        let before = none_before order sent k none in
        let u = s.unborn k before in
        (u.0, e.elsewhere (Below k) (ap (same_side (Below k)) l.side ∙ unborn_apart upper k row.channel wire sent before l.line.on.there u.0) ∙ u.1)

-- ---- all lines are

abbrev GatheredAll : Option ℕ → Lines → Lines → HubValue → HubValue → Wires → Type 0
GatheredAll upper front rows h next wires = Stands upper (front ++ filter (is_live_line next) rows) next wires × SameLive h next

pub live_then : (h mid next : HubValue) → SameLive h mid → SameLive mid next → SameLive h next
live_then h mid next first second = λ side. second side ∙ first side

rows_land : (upper : Option ℕ) (front rows : Lines) (h : HubValue) (sent : Wires) → Stands upper (front ++ rows) h sent → Lands (GatheredAll upper front rows h) (gathered_rows rows h) sent
rows_land upper front [] h sent s = (s, λ side. refl)
rows_land upper front (row ∷ rows) h sent s =
    by_live (is_live_on row.item.side h) refl (λ fronts hub wires stands. rows_land upper fronts rows hub wires stands)
  where
    Rest : Type 0
    Rest = (fronts : Lines) (hub : HubValue) (wires : Wires) → Stands upper (fronts ++ rows) hub wires → Lands (GatheredAll upper fronts rows hub) (gathered_rows rows hub) wires

    side : HubSide
    side = row.item.side

    next : HubValue
    next = emptied side h

    order : Order
    order = queues row.item.channel (bytes_for side h)

    g : Gathered upper front rows row h sent
    g = gather_one upper front rows row h sent s

    kept_row : (flag : Bool) (last : HubValue) (wires : Wires) → is_live_on side last ≡ flag → Stands upper (front ++ cond flag (row ∷ filter (is_live_line last) rows) (filter (is_live_line last) rows)) last wires
        → Stands upper (front ++ filter (is_live_line last) (row ∷ rows)) last wires
    kept_row flag last wires is stands =
        subst (λ (rs : Lines). Stands upper (front ++ rs) last wires) (sym (ap (λ (b : Bool). cond b (row ∷ filter (is_live_line last) rows) (filter (is_live_line last) rows)) is)) stands

    by_live : (flag : Bool) → is_live_on side h ≡ flag → Rest → Lands (GatheredAll upper front (row ∷ rows) h) (sent_then row.item h (gathered_rows rows next)) sent
    by_live true is rest =
        subst (λ (b : Bool). Lands (GatheredAll upper front (row ∷ rows) h) (closing (not b) row.item.channel (gathered_rows rows next)) (sent_with order sent)) (sym is)
        (lands_weaker (GatheredAll upper (front ++ row ∷ []) rows next) (GatheredAll upper front (row ∷ rows) h) (gathered_rows rows next) (sent_with order sent)
        (λ last wires r. (
          kept_row true last wires (r.1 side ∙ live_emptied side h side ∙ is)
              (subst (λ (rs : Lines). Stands upper rs last wires) (append_assoc front (row ∷ []) (filter (is_live_line last) rows)) r.0),
          live_then h next last (live_emptied side h) r.1,
        ))
        (rest (front ++ row ∷ []) next (sent_with order sent)
        (subst (λ (rs : Lines). Stands upper rs next (sent_with order sent)) (sym (append_assoc front (row ∷ []) rows)) (g.live is))))
    by_live false is rest =
        let wires1 : Wires = sent_with (closes row.item.channel) (sent_with order sent) in
        subst (λ (b : Bool). Lands (GatheredAll upper front (row ∷ rows) h) (closing (not b) row.item.channel (gathered_rows rows next)) (sent_with order sent)) (sym is)
        (lands_weaker (GatheredAll upper front rows next) (GatheredAll upper front (row ∷ rows) h) (gathered_rows rows next) wires1
        (λ last wires r. (kept_row false last wires (r.1 side ∙ live_emptied side h side ∙ is) r.0, live_then h next last (live_emptied side h) r.1))
        (rest front next wires1 (g.over is)))

abbrev pub StandsSo : Option ℕ → ServingValue → Wires → Type 0
StandsSo upper s sent = Stands upper s.lines s.hub sent

gathered_lands : (upper : Option ℕ) (s : ServingValue) (sent : Wires) → StandsSo upper s sent → Lands (StandsSo upper) (gathered s) sent
gathered_lands upper s sent stands =
    lands_then (GatheredAll upper [] s.lines s.hub) (StandsSo upper) (gathered_rows s.lines s.hub) (λ h. done (live_alone s h)) sent (rows_land upper [] s.lines s.hub sent stands) (λ h wires r. r.0)

-- ---- something comes

-- of what came on a wire
with_came : (upper : Option ℕ) (calls : List Call) (sent : Wires) (channel : ℕ) (bytes : List ℕ) → AllSent upper calls sent → AllSent upper calls (wires_with (events.Piece channel bytes) sent)
with_came upper calls sent channel bytes all = λ k wire is. by_flag k wire (channel == k) refl is
  where
    by_here : (k : ℕ) (wire : Wire) (o : Option Wire) → found k sent ≡ o → channel ≡ k → found k (wires_with (events.Piece channel bytes) sent) ≡ Some wire → IsSent upper calls k wire
    by_here k wire None none same is =
        let nowhere : wires_with (events.Piece channel bytes) sent ≡ sent = piece_nowhere channel bytes sent (ap (λ (n : ℕ). found n sent) same ∙ none) in
        absurd (let both : Some wire ≡ None = sym is ∙ ap (λ (rs : Wires). found k rs) nowhere ∙ none in cc)
    by_here k wire (Some old) there same is =
        let own : found k (wires_with (events.Piece channel bytes) sent) ≡ Some (with_piece bytes old) =
        subst (λ (n : ℕ). found n (wires_with (events.Piece channel bytes) sent) ≡ Some (with_piece bytes old)) same (piece_own channel bytes sent old (ap (λ (n : ℕ). found n sent) same ∙ there)) in
        let its : with_piece bytes old ≡ wire = (let both : Some (with_piece bytes old) ≡ Some wire = sym own ∙ is in cc) in
        subst (λ (w : Wire). IsSent upper calls k w) its (all k old there)

    by_flag : (k : ℕ) (wire : Wire) (flag : Bool) → (channel == k) ≡ flag → found k (wires_with (events.Piece channel bytes) sent) ≡ Some wire → IsSent upper calls k wire
    by_flag k wire true same is = by_here k wire (found k sent) refl (eqb-true channel k same) is
    by_flag k wire false off is = all k wire (sym (piece_other channel k bytes sent off) ∙ is)

came_none : (sent : Wires) (channel k : ℕ) (bytes : List ℕ) → found k (wires_with (events.Piece channel bytes) sent) ≡ None → found k sent ≡ None
came_none sent channel k bytes none = by_wire (found k sent) refl
  where
    by_flag : (old : Wire) (flag : Bool) → (channel == k) ≡ flag → found k sent ≡ Some old → found k sent ≡ None
    by_flag old true same there =
        let at : channel ≡ k = eqb-true channel k same in
        let own : found k (wires_with (events.Piece channel bytes) sent) ≡ Some (with_piece bytes old) =
        subst (λ (n : ℕ). found n (wires_with (events.Piece channel bytes) sent) ≡ Some (with_piece bytes old)) at (piece_own channel bytes sent old (ap (λ (n : ℕ). found n sent) at ∙ there)) in
        absurd (let both : Some (with_piece bytes old) ≡ None = sym own ∙ none in cc)
    by_flag old false off there = sym (piece_other channel k bytes sent off) ∙ none

    by_wire : (o : Option Wire) → found k sent ≡ o → found k sent ≡ None
    by_wire None is = is
    by_wire (Some old) is = by_flag old (channel == k) refl is

spared_line : (upper : Option ℕ) (sent : Wires) (channel : ℕ) (bytes : List ℕ) (p : Passed) (row : Row Line) → (channel == row.channel) ≡ false → OnLine upper sent p row
    → OnLine upper (wires_with (events.Piece channel bytes) sent) p row
spared_line upper sent channel bytes p row off l =
    let on = wire_spared channel row.channel bytes p.got (bytes_of p.gave) row.item.intake sent off l.on in
    record { on = on; open_still = l.open_still; its = l.its }

heard_line : (upper : Option ℕ) (sent : Wires) (bytes : List ℕ) (p : Passed) (row : Row Line) → OnLine upper sent p row
    → OnLine upper (wires_with (events.Piece row.channel bytes) sent) p (with_item (heard_more (Piece bytes) row.item) row)
heard_line upper sent bytes p row l =
    record { on = wire_hears row.channel bytes p.got (bytes_of p.gave) row.item.intake sent l.on; open_still = l.open_still; its = l.its }

piece_rows : (upper : Option ℕ) (sent : Wires) (calls : List Call) (channel : ℕ) (bytes : List ℕ) (rows : Lines) → Apart rows → AllByRecursion (LineOn upper sent calls) rows
    → AllByRecursion (LineOn upper (wires_with (events.Piece channel bytes) sent) calls) (first_changed channel (heard_more (Piece bytes)) rows)
piece_rows upper sent calls channel bytes [] apart all = tt
piece_rows upper sent calls channel bytes (row ∷ rows) apart all = by_flag (row.channel == channel) refl (piece_rows upper sent calls channel bytes rows apart.1 all.1)
  where
    wires : Wires
    wires = wires_with (events.Piece channel bytes) sent

    spared : (other : Row Line) → (other.channel == channel) ≡ false → LineOn upper sent calls other → LineOn upper wires calls other
    spared other off o =
        record { number = o.number; side = o.side; line = spared_line upper sent channel bytes (passed_on other.item.side calls) other (other_number other.channel channel off) o.line }

    by_flag : (flag : Bool) → (row.channel == channel) ≡ flag → AllByRecursion (LineOn upper wires calls) (first_changed channel (heard_more (Piece bytes)) rows)
        → AllByRecursion (LineOn upper wires calls) (cond flag (with_item (heard_more (Piece bytes) row.item) row ∷ rows) (row ∷ first_changed channel (heard_more (Piece bytes)) rows))
    by_flag true is rest =
        let same : row.channel ≡ channel = eqb-true row.channel channel is in
        let p = passed_on row.item.side calls in (
          record {
            number = all.0.number;
            side = all.0.side;
            line = subst (λ (k : ℕ). OnLine upper (wires_with (events.Piece k bytes) sent) p (with_item (heard_more (Piece bytes) row.item) row)) same (heard_line upper sent bytes p row all.0.line);
          },
          all_others (LineOn upper sent calls) (LineOn upper wires calls) channel rows (ap (λ (k : ℕ). is_among k (numbers rows)) (sym same) ∙ apart.0) spared all.1,
        )
    by_flag false off rest = (spared row off all.0, rest)

apart_by : (rows others : Lines) → numbers others ≡ numbers rows → Apart rows → Apart others
apart_by [] [] same a = tt
apart_by [] (other ∷ others) same a = absurd cc
apart_by (row ∷ rows) [] same a = absurd cc
apart_by (row ∷ rows) (other ∷ others) same a =
    let first : other.channel ≡ row.channel = cc in
    let rest : numbers others ≡ numbers rows = cc in
    (ap (λ (k : ℕ). is_among k (numbers others)) first ∙ ap (is_among row.channel) rest ∙ a.0, apart_by rows others rest a.1)

changed_apart : (channel : ℕ) (change : Line → Line) (rows : Lines) → Apart rows → Apart (first_changed channel change rows)
changed_apart channel change rows apart = apart_by rows (first_changed channel change rows) (changed_numbers channel change rows) apart

piece_heard : (upper : Option ℕ) (channel : ℕ) (bytes : List ℕ) (s : ServingValue) (sent : Wires) → StandsSo upper s sent
    → StandsSo upper (heard_on channel (Piece bytes) s) (wires_with (events.Piece channel bytes) sent)
unfolding heard_on
piece_heard upper channel bytes s sent stands =
    let change = heard_more (Piece bytes) in
    subst (λ (rows : Lines). Stands upper rows s.hub (wires_with (events.Piece channel bytes) sent)) (sym (change_first Line channel change s.lines))
    (record {
      calls = stands.calls;
      made = stands.made;
      all = piece_rows upper sent stands.calls channel bytes s.lines stands.apart stands.all;
      apart = changed_apart channel change s.lines stands.apart;
      sent_so = with_came upper stands.calls sent channel bytes stands.sent_so;
      unborn = λ k none. stands.unborn k (came_none sent channel k bytes none);
    })

end_rows : (upper : Option ℕ) (sent : Wires) (calls : List Call) (channel : ℕ) (rows : Lines) → AllByRecursion (LineOn upper sent calls) rows
    → AllByRecursion (LineOn upper sent calls) (first_changed channel (heard_more came_end) rows)
end_rows upper sent calls channel [] all = tt
end_rows upper sent calls channel (row ∷ rows) all = by_flag (row.channel == channel) (end_rows upper sent calls channel rows all.1)
  where
    p : Passed
    p = passed_on row.item.side calls

    by_flag : (flag : Bool) → AllByRecursion (LineOn upper sent calls) (first_changed channel (heard_more came_end) rows)
        → AllByRecursion (LineOn upper sent calls) (cond flag (with_item (heard_more came_end row.item) row ∷ rows) (row ∷ first_changed channel (heard_more came_end) rows))
    by_flag true rest = (
      record {
        number = all.0.number;
        side = all.0.side;
        line = record {
          on = wire_ends row.channel p.got (bytes_of p.gave) row.item.intake sent all.0.line.on;
          open_still = all.0.line.open_still;
          its = all.0.line.its;
        };
      },
      all.1,
    )
    by_flag false rest = (all.0, rest)

end_heard : (upper : Option ℕ) (channel : ℕ) (s : ServingValue) (sent : Wires) → StandsSo upper s sent → StandsSo upper (heard_on channel came_end s) sent
unfolding heard_on
end_heard upper channel s sent stands =
    subst (λ (rows : Lines). Stands upper rows s.hub sent) (sym (change_first Line channel (heard_more came_end) s.lines))
    (record {
      calls = stands.calls;
      made = stands.made;
      all = end_rows upper sent stands.calls channel s.lines stands.all;
      apart = changed_apart channel (heard_more came_end) s.lines stands.apart;
      sent_so = stands.sent_so;
      unborn = stands.unborn;
    })

-- ---- a connection comes

found_before : (channel k : ℕ) (sent : Wires) → found k (with_wire channel sent) ≡ None → found k sent ≡ None
found_before channel k [] none = refl
found_before channel k (row ∷ rows) none = by_flag (row.channel == k) none (λ rest. found_before channel k rows rest)
  where
    by_flag : (flag : Bool) → cond flag (Some row.item) (found k (with_wire channel rows)) ≡ None → (found k (with_wire channel rows) ≡ None → found k rows ≡ None)
        → cond flag (Some row.item) (found k rows) ≡ None
    by_flag true none so = absurd cc
    by_flag false none so = so none

-- another wire than the new one
found_old : (channel k : ℕ) (sent : Wires) → (channel == k) ≡ false → found k (with_wire channel sent) ≡ found k sent
found_old channel k [] off = ap (λ (b : Bool). cond b (Some unused_wire) None) off
found_old channel k (row ∷ rows) off = ap (λ (o : Option Wire). cond (row.channel == k) (Some row.item) o) (found_old channel k rows off)

-- the new channel is none of those that are there
fresh_rows : (upper : Option ℕ) (channel : ℕ) (sent : Wires) (calls : List Call) (rows : Lines) → found channel sent ≡ None → AllByRecursion (LineOn upper sent calls) rows → is_among channel (numbers rows) ≡ false
fresh_rows upper channel sent calls [] none all = refl
fresh_rows upper channel sent calls (row ∷ rows) none all =
    ap (λ (b : Bool). b || is_among channel (numbers rows)) (by_flag (row.channel == channel) refl) ∙ fresh_rows upper channel sent calls rows none all.1
  where
    by_flag : (flag : Bool) → (row.channel == channel) ≡ flag → flag ≡ false
    by_flag true is =
        let same : row.channel ≡ channel = eqb-true row.channel channel is in
        absurd (let both : Some all.0.line.on.wire ≡ None = sym all.0.line.on.there ∙ ap (λ (k : ℕ). found k sent) same ∙ none in cc)
    by_flag false is = refl

new_line_kept : (upper : Option ℕ) (channel : ℕ) (sent : Wires) (p : Passed) (row : Row Line) → OnLine upper sent p row → OnLine upper (with_wire channel sent) p row
new_line_kept upper channel sent p row l =
    record {
      on = record { wire = l.on.wire; there = found_push row.channel sent _ l.on.wire l.on.there; queued = l.on.queued; came = l.on.came };
      open_still = l.open_still;
      its = l.its;
    }

among_push : (k : ℕ) (rows : Lines) (row : Row Line) → is_among k (numbers rows) ≡ false → (row.channel == k) ≡ false → is_among k (numbers (rows ++ row ∷ [])) ≡ false
among_push k [] row none off = ap (λ (b : Bool). b || false) off
among_push k (other ∷ rows) row none off =
    let parts = or_parts (other.channel == k) (is_among k (numbers rows)) none in
    ap (λ (b : Bool). b || is_among k (numbers (rows ++ row ∷ []))) parts.0 ∙ among_push k rows row parts.1 off

push_apart : (rows : Lines) (row : Row Line) → is_among row.channel (numbers rows) ≡ false → Apart rows → Apart (rows ++ row ∷ [])
push_apart [] row none a = (refl, tt)
push_apart (first ∷ rows) row none a =
    let parts = or_parts (first.channel == row.channel) (is_among row.channel (numbers rows)) none in
    (among_push first.channel rows row a.0 (other_number first.channel row.channel parts.0), push_apart rows row parts.1 a.1)

and_false : (b : Bool) → (b && false) ≡ false
and_false true = refl
and_false false = refl

its_own : (b : Bool) (bytes : List ℕ) → queued_for b true bytes ≡ bytes
its_own true bytes = refl
its_own false bytes = refl

connection_lands : (upper : Option ℕ) (channel : ℕ) (s : ServingValue) (sent : Wires) → found channel sent ≡ None → StandsSo upper s sent → Lands (StandsSo upper) (opened_on channel s) (with_wire channel sent)
connection_lands upper channel s sent fresh stands = by_flag t.0 refl
  where
    t : Bool × HubValue
    t = opened channel s.hub

    later : List Call
    later = stands.calls ++ opens channel ∷ []

    wires : Wires
    wires = with_wire channel sent

    not_upper : is_number channel upper ≡ false
    not_upper = (stands.unborn channel fresh).0

    fresh_side : passed_on (Below channel) stands.calls ≡ nothing_passed
    fresh_side = (stands.unborn channel fresh).1

    made : Made later t.1
    made = made_opened stands.calls channel s.hub stands.made

    passes : (on : HubSide) → passed_on on later ≡ cond (same_side on (Below channel) && t.0) (record (passed_on on stands.calls) { is_opened = true }) (passed_on on stands.calls)
    passes on = passes_more on stands.calls (opens channel) s.hub stands.made

    elsewhere : (on : HubSide) → same_side on (Below channel) ≡ false → passed_on on later ≡ passed_on on stands.calls
    elsewhere on off = passes on ∙ ap (λ (b : Bool). cond (b && t.0) (record (passed_on on stands.calls) { is_opened = true }) (passed_on on stands.calls)) off

    other_side : (k : ℕ) → (channel == k) ≡ false → same_side (side_of upper k) (Below channel) ≡ false
    other_side k off = ap (same_side (side_of upper k)) (sym (side_below upper channel not_upper)) ∙ sides_apart upper k channel (other_number channel k off)

    others : (k : ℕ) → (channel == k) ≡ false → passed_on (side_of upper k) later ≡ passed_on (side_of upper k) stands.calls
    others k off = elsewhere (side_of upper k) (other_side k off)

    -- the lines that are there
    line_apart_new : (row : Row Line) → LineOn upper sent stands.calls row → (channel == row.channel) ≡ false
    line_apart_new row l = by_own (channel == row.channel) refl
      where
        by_own : (flag : Bool) → (channel == row.channel) ≡ flag → (channel == row.channel) ≡ false
        by_own true is =
            let same : channel ≡ row.channel = eqb-true channel row.channel is in
            absurd (let both : Some l.line.on.wire ≡ None = sym l.line.on.there ∙ ap (λ (k : ℕ). found k sent) (sym same) ∙ fresh in cc)
        by_own false is = is

    old_line : (row : Row Line) → LineOn upper sent stands.calls row → LineOn upper wires later row
    old_line row l =
        record {
          number = l.number;
          side = l.side;
          line = subst (λ (p : Passed). OnLine upper wires p row)
              (sym (elsewhere row.item.side (ap (λ (on : HubSide). same_side on (Below channel)) l.side ∙ other_side row.channel (line_apart_new row l))))
              (new_line_kept upper channel sent (passed_on row.item.side stands.calls) row l.line);
        }

    old_lines : AllByRecursion (LineOn upper wires later) s.lines
    old_lines = all_weaker (LineOn upper sent stands.calls) (LineOn upper wires later) s.lines (λ row l. old_line row l) stands.all

    old_sent : (k : ℕ) (w : Wire) → (channel == k) ≡ false → found k wires ≡ Some w → IsSent upper later k w
    old_sent k w off is =
        subst (λ (p : Passed). w.queued ≡ queued_for (is_number k upper) p.is_opened (bytes_of p.gave)) (sym (others k off)) (stands.sent_so k w (sym (found_old channel k sent off) ∙ is))

    none_there : (k : ℕ) → found k wires ≡ None → (channel == k) ≡ false
    none_there k none = by_own (channel == k) refl
      where
        by_own : (flag : Bool) → (channel == k) ≡ flag → (channel == k) ≡ false
        by_own true is =
            let same : channel ≡ k = eqb-true channel k is in
            absurd (let both : Some unused_wire ≡ None = sym (found_new channel sent fresh) ∙ ap (λ (n : ℕ). found n wires) same ∙ none in cc)
        by_own false is = is

    unborn : Unborn upper later wires
    unborn = λ k none.
        let u = stands.unborn k (found_before channel k sent none) in (u.0, elsewhere (Below k) (other_number channel k (none_there k none)) ∙ u.1)

    -- it is let in
    row : Row Line
    row = record { channel = channel; item = new_line (Below channel) channel }

    let_in : t.0 ≡ true → Stands upper (s.lines ++ row ∷ []) t.1 wires
    let_in did =
        let here : passed_on (Below channel) later ≡ record nothing_passed { is_opened = true } =
        passes (Below channel)
        ∙ ap (λ (b : Bool). cond (b && t.0) (record (passed_on (Below channel) stands.calls) { is_opened = true }) (passed_on (Below channel) stands.calls)) (eq-eqb channel channel refl)
        ∙ ap (λ (b : Bool). cond b (record (passed_on (Below channel) stands.calls) { is_opened = true }) (passed_on (Below channel) stands.calls)) did
        ∙ ap (λ (p : Passed). record p { is_opened = true }) fresh_side in
        record {
          calls = later;
          made = made;
          all = all_append (LineOn upper wires later) s.lines (row ∷ []) old_lines (
            record {
              number = refl;
              side = sym (side_below upper channel not_upper);
              line = subst (λ (p : Passed). OnLine upper wires p row) (sym here)
                  (record { on = wire_begins channel sent fresh; open_still = refl; its = λ bytes. its_own (is_number channel upper) bytes });
            },
            tt,
          );
          apart = push_apart s.lines row (fresh_rows upper channel sent stands.calls s.lines fresh stands.all) stands.apart;
          sent_so = λ k w is. sent_in_it here k w (channel == k) refl is;
          unborn = unborn;
        }
      where
        sent_in_it : passed_on (Below channel) later ≡ record nothing_passed { is_opened = true } → (k : ℕ) (w : Wire) (flag : Bool) → (channel == k) ≡ flag → found k wires ≡ Some w → IsSent upper later k w
        sent_in_it here k w true is there =
            let same : channel ≡ k = eqb-true channel k is in
            let its : unused_wire ≡ w = (let both : Some unused_wire ≡ Some w = sym (found_new channel sent fresh) ∙ ap (λ (n : ℕ). found n wires) same ∙ there in cc) in
            let side_is : passed_on (side_of upper channel) later ≡ record nothing_passed { is_opened = true } = ap (λ (on : HubSide). passed_on on later) (side_below upper channel not_upper) ∙ here in
            subst (λ (x : Wire). IsSent upper later k x) its
            (subst (λ (n : ℕ). IsSent upper later n unused_wire) same
            (subst (λ (p : Passed). [] ≡ queued_for (is_number channel upper) p.is_opened (bytes_of p.gave)) (sym side_is) (sym (its_own (is_number channel upper) []))))
        sent_in_it here k w false off there = old_sent k w off there

    -- or turned away
    order : Order
    order = queues channel (3 ∷ 2 ∷ [])

    shut : Order
    shut = closes channel

    wire1 : Wire
    wire1 = sent_after order unused_wire

    turned_away : t.0 ≡ false → Stands upper s.lines t.1 (sent_with shut (sent_with order wires))
    turned_away not =
        let same : (on : HubSide) → passed_on on later ≡ passed_on on stands.calls = λ on.
        passes on ∙ ap (λ (b : Bool). cond (same_side on (Below channel) && b) (record (passed_on on stands.calls) { is_opened = true }) (passed_on on stands.calls)) not
        ∙ ap (λ (b : Bool). cond b (record (passed_on on stands.calls) { is_opened = true }) (passed_on on stands.calls)) (and_false (same_side on (Below channel))) in
        let here : passed_on (side_of upper channel) later ≡ nothing_passed = ap (λ (on : HubSide). passed_on on later) (side_below upper channel not_upper) ∙ same (Below channel) ∙ fresh_side in
        let own : IsSent upper later channel wire1 =
        subst (λ (p : Passed). (3 ∷ 2 ∷ []) ≡ queued_for (is_number channel upper) p.is_opened (bytes_of p.gave)) (sym here) (ap (λ (b : Bool). queued_for b false []) (sym not_upper)) in
        let there1 : found channel (sent_with order wires) ≡ Some wire1 = own_wire order channel wires unused_wire refl (found_new channel sent fresh) in
        let sent1 : AllSent upper later (sent_with order wires) =
        all_sent_by upper later later channel unused_wire order wires refl (found_new channel sent fresh) own (λ k off. refl) old_sent in
        record {
          calls = later;
          made = made;
          all = all_weaker (LineOn upper sent stands.calls) (LineOn upper (sent_with shut (sent_with order wires)) later) s.lines (λ row l. two_orders row l) stands.all;
          apart = stands.apart;
          sent_so = all_sent_by upper later later channel wire1 shut (sent_with order wires) refl there1 own (λ k off. refl) (λ k w off found_so. sent1 k w found_so);
          unborn = λ k none. unborn k (none_before order wires k (none_before shut (sent_with order wires) k none));
        }
      where
        two_orders : (row : Row Line) → LineOn upper sent stands.calls row → LineOn upper (sent_with shut (sent_with order wires)) later row
        two_orders row l =
            let o = old_line row l in
            let off = line_apart_new row l in
            let p = passed_on row.item.side later in
            record { number = o.number; side = o.side; line = other_line upper shut (sent_with order wires) p row off (other_line upper order wires p row off o.line) }

    by_flag : (flag : Bool) → t.0 ≡ flag → Lands (StandsSo upper) (opened_by channel (flag, t.1) s) wires
    by_flag true is = let_in is
    by_flag false is = turned_away is

-- ---- an event

abbrev Fresh : WireEvent → Wires → Type 0
Fresh (events.Opened channel) sent = found channel sent ≡ None
Fresh (events.Piece channel bytes) sent = Unit {0}
Fresh (events.Ended channel) sent = Unit {0}
Fresh (events.Lost channel) sent = Unit {0}
Fresh events.Idle sent = Unit {0}
Fresh events.Stop sent = Unit {0}

acted_lands : (upper : Option ℕ) (event : WireEvent) (s : ServingValue) (sent : Wires) → Fresh event sent → StandsSo upper s sent → Lands (StandsSo upper) (acted event s) (wires_with event sent)
unfolding acted
acted_lands upper (events.Opened channel) s sent fresh stands = connection_lands upper channel s sent fresh stands
acted_lands upper (events.Piece channel bytes) s sent fresh stands = piece_heard upper channel bytes s sent stands
acted_lands upper (events.Ended channel) s sent fresh stands = end_heard upper channel s sent stands
acted_lands upper (events.Lost channel) s sent fresh stands = end_heard upper channel s sent stands
acted_lands upper events.Idle s sent fresh stands = stands
acted_lands upper events.Stop s sent fresh stands = stands

handled_lands : (upper : Option ℕ) (event : WireEvent) (s : ServingValue) (sent : Wires) → Fresh event sent → StandsSo upper s sent → Lands (StandsSo upper) (handled event s) (wires_with event sent)
unfolding handled
handled_lands upper event s sent fresh stands =
    lands_then (StandsSo upper) (StandsSo upper) (acted event s) (λ next. gathered (passed next)) (wires_with event sent) (acted_lands upper event s sent fresh stands)
    (λ next wires st. gathered_lands upper (passed next) wires (passing_stands upper next.lines next.hub wires st))

-- ---- any events

abbrev Rests : (ServingValue → Wires → Type 0) → State ServingValue → Type 0
Rests Q (rests s) = Q s.served s.sent
Rests Q (waits s next) = ⊥

landed_rests : (Q : ServingValue → Wires → Type 0) (a : ServingValue) (sent : Wires) (p : Process ServingValue) → Lands Q p sent → Rests Q (landed a sent p)
landed_rests Q a sent (done new) lands = lands
landed_rests Q a sent (tells order p) lands = landed_rests Q a (sent_with order sent) p lands
landed_rests Q a sent (asks next) lands = lands

abbrev IsNewIn : State ServingValue → Heard → Type 0
IsNewIn (rests s) (came event) = Fresh event s.sent
IsNewIn (rests s) (answered answer) = Unit {0}
IsNewIn (waits s next) heard = Unit {0}

one_rests : (peer : List ℕ) (upper : Option ℕ) (state : State ServingValue) (heard : Heard) → IsNewIn state heard → Rests (StandsSo upper) state → Rests (StandsSo upper) (after_one (hub_of peer) state heard)
one_rests peer upper (rests s) (came event) new stands =
    landed_rests (StandsSo upper) s.served (wires_with event s.sent) (handled event s.served) (handled_lands upper event s.served s.sent new stands)
one_rests peer upper (rests s) (answered answer) new stands = stands
one_rests peer upper (waits s next) heard new stands = absurd stands

-- the channels of the wires

distinct_front : (xs ys : List ℕ) → IsDistinct same_channel (xs ++ ys) → IsDistinct same_channel xs
unfolding IsDistinct
distinct_front [] ys all = tt
distinct_front (x ∷ xs) ys all = (all_left (λ y. (x == y) ≡ false) xs ys all.0, distinct_front xs ys all.1)

distinct_last : (xs : List ℕ) (y : ℕ) → IsDistinct same_channel (xs ++ y ∷ []) → is_among y xs ≡ false
unfolding IsDistinct
distinct_last [] y all = refl
distinct_last (x ∷ xs) y all = ap (λ (b : Bool). b || is_among y xs) (all_at (λ z. (x == z) ≡ false) xs [] y all.0) ∙ distinct_last xs y all.1

with_numbers : (channel : ℕ) (sent : Wires) → numbers (with_wire channel sent) ≡ numbers sent ++ channel ∷ []
with_numbers channel sent = map-append (λ (r : Row Wire). r.channel) sent _

abbrev AreMore : Wires → Wires → Type 0
AreMore sent later = (more : List ℕ) × (numbers later ≡ numbers sent ++ more)

no_more : (sent later : Wires) → numbers later ≡ numbers sent → AreMore sent later
no_more sent later same = ([], same ∙ sym (append-nil (numbers sent)))

one_more : (channel : ℕ) (sent : Wires) → AreMore sent (with_wire channel sent)
one_more channel sent = (channel ∷ [], with_numbers channel sent)

event_more : (event : WireEvent) (sent : Wires) → AreMore sent (wires_with event sent)
event_more (events.Opened channel) sent = one_more channel sent
event_more (events.Piece channel bytes) sent = no_more sent (wires_with (events.Piece channel bytes) sent) (piece_numbers channel bytes sent)
event_more (events.Ended channel) sent = no_more sent sent refl
event_more (events.Lost channel) sent = no_more sent sent refl
event_more events.Idle sent = no_more sent sent refl
event_more events.Stop sent = no_more sent sent refl

state_more : (peer : List ℕ) (s : Standing ServingValue) (heard : Heard) → AreMore s.sent (sent_in (after_one (hub_of peer) (rests s) heard))
state_more peer s (came event) =
    let m = event_more event s.sent in (m.0, landed_numbers s.served (wires_with event s.sent) (handled event s.served) ∙ m.1)
state_more peer s (answered answer) = no_more s.sent s.sent refl

abbrev Distinct : Wires → Type 0
Distinct sent = IsDistinct same_channel (numbers sent)

before_more : (sent later : Wires) → AreMore sent later → Distinct later → Distinct sent
before_more sent later more all = distinct_front (numbers sent) more.0 (subst (IsDistinct same_channel) more.1 all)

new_wire : (channel : ℕ) (sent : Wires) → Distinct (with_wire channel sent) → found channel sent ≡ None
new_wire channel sent all = missing_if channel sent (distinct_last (numbers sent) channel (subst (IsDistinct same_channel) (with_numbers channel sent) all))

event_new : (event : WireEvent) (sent : Wires) → Distinct (wires_with event sent) → Fresh event sent
event_new (events.Opened channel) sent all = new_wire channel sent all
event_new (events.Piece channel bytes) sent all = tt
event_new (events.Ended channel) sent all = tt
event_new (events.Lost channel) sent all = tt
event_new events.Idle sent all = tt
event_new events.Stop sent all = tt

-- a state that rests stays at rest, and its wires grow
rests_by : (Q : ServingValue → Wires → Type 0) (state : State ServingValue) → Rests Q state → (s : Standing ServingValue) × (state ≡ rests s)
rests_by Q (rests s) stands = (s, refl)
rests_by Q (waits s next) stands = absurd stands

distinct_before : (peer : List ℕ) (upper : Option ℕ) (heard : List Heard) (s : Standing ServingValue) → Distinct (sent_in (fold (after_one (hub_of peer)) (rests s) heard)) → Distinct s.sent
distinct_before peer upper [] s all = all
distinct_before peer upper (h ∷ heard) s all =
    let next = rest_of h in
    before_more s.sent next.0.sent (subst (λ (state : State ServingValue). AreMore s.sent (sent_in state)) next.1 (state_more peer s h))
    (distinct_before peer upper heard next.0 (subst (λ (state : State ServingValue). Distinct (sent_in (fold (after_one (hub_of peer)) state heard))) next.1 all))
  where
    rest_of : (h : Heard) → (x : Standing ServingValue) × (after_one (hub_of peer) (rests s) h ≡ rests x)
    rest_of (came event) = calm_rests s.served (wires_with event s.sent) (handled event s.served) (handled_calm event s.served)
    rest_of (answered answer) = (s, refl)

heard_new : (peer : List ℕ) (s : Standing ServingValue) (heard : Heard) → Distinct (sent_in (after_one (hub_of peer) (rests s) heard)) → IsNewIn (rests s) heard
heard_new peer s (came event) all =
    event_new event s.sent (subst (IsDistinct same_channel) (landed_numbers s.served (wires_with event s.sent) (handled event s.served)) all)
heard_new peer s (answered answer) all = tt

all_rest : (peer : List ℕ) (upper : Option ℕ) (heard : List Heard) (s : Standing ServingValue) → Distinct (sent_in (fold (after_one (hub_of peer)) (rests s) heard)) → StandsSo upper s.served s.sent
    → Rests (StandsSo upper) (fold (after_one (hub_of peer)) (rests s) heard)
all_rest peer upper [] s all stands = stands
all_rest peer upper (h ∷ heard) s all stands =
    let next = rest_of h in
    let all_then : Distinct (sent_in (fold (after_one (hub_of peer)) (rests next.0) heard)) =
    subst (λ (state : State ServingValue). Distinct (sent_in (fold (after_one (hub_of peer)) state heard))) next.1 all in
    let now : Distinct (sent_in (after_one (hub_of peer) (rests s) h)) =
    subst (λ (state : State ServingValue). Distinct (sent_in state)) (sym next.1) (distinct_before peer upper heard next.0 all_then) in
    let stands_then : StandsSo upper next.0.served next.0.sent =
    subst (λ (state : State ServingValue). Rests (StandsSo upper) state) next.1 (one_rests peer upper (rests s) h (heard_new peer s h now) stands) in
    subst (λ (state : State ServingValue). Rests (StandsSo upper) (fold (after_one (hub_of peer)) state heard)) (sym next.1) (all_rest peer upper heard next.0 all_then stands_then)
  where
    rest_of : (h : Heard) → (x : Standing ServingValue) × (after_one (hub_of peer) (rests s) h ≡ rests x)
    rest_of (came event) = calm_rests s.served (wires_with event s.sent) (handled event s.served) (handled_calm event s.served)
    rest_of (answered answer) = (s, refl)

-- ---- before the first connection, and from there

stands_first : (peer : List ℕ) (upper : Option ℕ) → ((k : ℕ) → is_number k upper ≡ false) → StandsSo upper (new_serving peer) []
stands_first peer upper none =
    record { calls = []; made = made_first; all = tt; apart = tt; sent_so = λ k wire is. absurd cc; unborn = λ k is. (none k, refl) }

upper_there : (channel k : ℕ) (wires : Wires) → found k (with_wire channel []) ≡ None → is_number k (Some channel) ≡ false
upper_there channel k wires none = by_flag (channel == k) none
  where
    by_flag : (flag : Bool) → cond flag (Some unused_wire) None ≡ None → flag ≡ false
    by_flag true some = absurd cc
    by_flag false some = refl

stands_connected : (peer : List ℕ) (channel : ℕ) → StandsSo (Some channel) (connected_on channel (new_serving peer)) (with_wire channel [])
stands_connected peer channel =
    let upper : Option ℕ = Some channel in
    let own : is_number channel upper ≡ true = eq-eqb channel channel refl in
    record {
      calls = [];
      made = made_first;
      all = (
        record {
          number = refl;
          side = sym (ap (λ (b : Bool). cond b Above (Below channel)) own);
          line = record {
            on = wire_begins channel [] refl;
            open_still = refl;
            its = λ bytes. ap (λ (b : Bool). queued_for b false bytes) own;
          };
        },
        tt,
      );
      apart = (refl, tt);
      sent_so = λ k wire is. first_sent k wire (channel == k) refl is;
      unborn = λ k none. (upper_there channel k [] none, refl);
    }
  where
    nothing_by : (side : HubSide) → passed_on side [] ≡ nothing_passed
    nothing_by side = refl

    first_sent : (k : ℕ) (wire : Wire) (flag : Bool) → (channel == k) ≡ flag → cond flag (Some unused_wire) None ≡ Some wire → IsSent (Some channel) [] k wire
    first_sent k wire true is there =
        let its : unused_wire ≡ wire = cc in
        subst (λ (w : Wire). IsSent (Some channel) [] k w) its (sym (ap (λ (b : Bool). queued_for b false []) is))
    first_sent k wire false is there = absurd cc

is_hub_so : (upper : Option ℕ) (s : ServingValue) (sent : Wires) → StandsSo upper s sent → IsHub upper s sent
is_hub_so upper s sent stands =
    record {
      calls = stands.calls;
      fits = stands.made.fits;
      node = stands.made.node;
      sent = λ channel wire there. stands.sent_so channel wire (sym (item_found Wire channel sent) ∙ there);
      lines = all_weaker (LineOn upper sent stands.calls) (IsLine upper stands.calls sent) s.lines
          (λ row l.
          let p = passed_on row.item.side stands.calls in
          record { side = l.side; wired = is_wired row.channel p.got (bytes_of p.gave) row.item.intake sent l.line.on }) stands.all;
    }

rests_hub : (upper : Option ℕ) (state : State ServingValue) → Rests (StandsSo upper) state → IsHub upper (standing_in state).served (standing_in state).sent
rests_hub upper (rests s) stands = is_hub_so upper s.served s.sent stands
rests_hub upper (waits s next) stands = absurd stands

from_first : (peer : List ℕ) (heard : List Heard) → Distinct (sent_in (fold (after_one (hub_of peer)) (at_first (hub_of peer)) heard)) → IsServedHub heard (fold (after_one (hub_of peer)) (at_first (hub_of peer)) heard)
from_first peer [] all = is_hub_so None (new_serving peer) [] (stands_first peer None (λ k. refl))
from_first peer (came event ∷ heard) all = from_first peer heard all
from_first peer (answered (Ok channel) ∷ heard) all =
    let s : Standing ServingValue = record { served = connected_on channel (new_serving peer); sent = with_wire channel [] } in
    rests_hub (Some channel) (fold (after_one (hub_of peer)) (rests s) heard) (all_rest peer (Some channel) heard s all (stands_connected peer channel))
from_first peer (answered (Err refusal) ∷ heard) all =
    let s : Standing ServingValue = record { served = new_serving peer; sent = [] } in
    rests_hub None (fold (after_one (hub_of peer)) (rests s) heard) (all_rest peer None heard s all (stands_first peer None (λ k. refl)))

pub serves_a_hub : ServedIsAHub
serves_a_hub peer heard apart = from_first peer heard apart
