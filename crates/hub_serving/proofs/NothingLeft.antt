-- Once an event is dealt with nothing is left to do.
use Rattle.std.proofs.Common.{◌≡◌, ◌⊎◌, inl, inr, ℕ, zero, suc, ◌+◌, ◌<◌, ◌≤◌, ◌==◌, Bool, true, false, not, cond, ◌&&◌, nat_lt, List, [], ◌∷◌, ◌++◌, drop, length, Option, Some, None, refl, sym, ap, ◌∙◌, subst, arith, eqb-true}
use Rattle.std.specs.Prelude.{Ok, Err, filter, fold, is_some, option_map, slice_get}
use Rattle.std.specs.List.{AllByRecursion}
use Rattle.channel_core.specs.EndValue.{EndValue}
use Rattle.channel_core.specs.Holding.{is_live}
use Rattle.channel_core.specs.Receiving.{waiting_in}
use Rattle.channel_core.specs.declared.held.Outgoing.{Outgoing}
use Rattle.channel_list.specs.Channels.{End, changed}
use Rattle.channel_list.specs.declared.channel.Channel.{Channel}
use Rattle.hub_node.specs.Hub.{with_relay}
use Rattle.hub_node.specs.HubValue.{HubValue}
use Rattle.hub_node.specs.Relay.{TakesNothing, lower_of, takes_below, turned_at, waiting_at, waiting_on as waiting_of}
use Rattle.hub_node.specs.RelayValue.{RelayValue}
use Rattle.hub_node.specs.declared.side.HubSide.{HubSide}
use Rattle.hub_node.specs.declared.side.HubSide.TheVariants.{Above, Below}
use Rattle.hub_node.specs.declared.waiting.Tag.{Tag}
use Rattle.hub_node.proofs.Idle.{takes_nothing}
use Rattle.serving_wires.proofs.Coming.{ComesTo, comes_then, comes_weaker}
use Rattle.serving_wires.proofs.Rows.{position_step}
use Rattle.serving_wires.specs.Intake.{next_for}
use Rattle.serving_wires.specs.Process.{Answer, Process, and_then, asks, done, tells}
use Rattle.serving_wires.specs.Row.{Row}
use Rattle.serving_wires.specs.Rows.{item_at}
use Rattle.serving_wires.specs.Standing.{Heard, State, Wire, after, after_one, answered, at_first, came, landed, rests, sent_with, standing_in, waits, wires_after, wires_with}
use Rattle.serving_wires.specs.declared.intake.Came.{Came}
use Rattle.tcf_wires.specs.declared.event.WireEvent.{WireEvent}
use Rattle.hub_serving.specs.Gathering.{closing, emptied, emptied_at, emptied_end, gathered_rows, is_live_line, queue_at, queue_in, queue_of, queue_on}
use Rattle.hub_serving.specs.Left.{HasNothingLeft, LeavesNothing, NothingLeft, may_take}
use Rattle.hub_serving.specs.Lines.{can_give, is_live_on, waiting_on}
use Rattle.hub_serving.specs.Numbered.{number_next, turned}
use Rattle.hub_serving.specs.Passing.{Lines, after_room, all_entries, all_unread, first_to_give, given_at, given_so_many, if_given, if_some_taken, if_taken, next_place, or_else, passed_on, room_made, taken, taken_once, turned_from, turned_on}
use Rattle.hub_serving.specs.Serving.{acted, connected, gathered, handled, hub_of, live_alone, new_serving, passed}
use Rattle.hub_serving.specs.ServingValue.{ServingValue}
use Rattle.hub_serving.specs.declared.line.Line.{Line}
use Rattle.hub_serving.proofs.Calm.{IsCalm, acted_calm, handled_calm}
use Rattle.hub_serving.proofs.Firsts.{at_apart, found_at, mapped}
use Rattle.hub_serving.proofs.Giving.{fewer_unread}
use Rattle.hub_serving.proofs.Passes.{room_then}
use Rattle.hub_serving.proofs.ServedSo.{SameLive, live_emptied, live_then}
use Rattle.hub_serving.proofs.Taking.{Fewer, from_fewer, once_fewer, turned_fewer}

-- ---- no message can be taken

abbrev Untaken : HubValue → Row Line → Type 0
Untaken h row = (turned row.item.side h).0 ≡ false

abbrev AllUntaken : Lines → HubValue → Type 0
AllUntaken lines h = AllByRecursion (Untaken h) lines

off_by : (next : ℕ) (t : Bool × HubValue) → (if_taken next t).0 ≡ None → t.0 ≡ false
off_by next (true, h) is = absurd cc
off_by next (false, h) is = refl

-- of the rows where no message was taken of any
rows_off : (place : ℕ) (rows : Lines) (h : HubValue) → (turned_from place rows h).0 ≡ None → AllUntaken rows h
rows_off place [] h is = tt
rows_off place (row ∷ rows) h is = by_one (turned_on row.item.side place h) refl (turned_fewer row.item.side place h) is (λ rest. rows_off (place + 1) rows h rest)
  where
    by_one : (one : Option ℕ × HubValue) → turned_on row.item.side place h ≡ one → Fewer h one → (or_else one (λ next. turned_from (place + 1) rows next)).0 ≡ None
        → ((turned_from (place + 1) rows h).0 ≡ None → AllUntaken rows h) → AllUntaken (row ∷ rows) h
    by_one (Some next, after) so fewer none rest = absurd cc
    by_one (None, after) so same none rest =
        let off : (turned row.item.side h).0 ≡ false = off_by (next_place row.item.side place) (turned row.item.side h) (ap (λ (t : Option ℕ × HubValue). t.0) so) in
        (off, rest (ap (λ (x : HubValue). (turned_from (place + 1) rows x).0) (sym same) ∙ none))

once_off : (next : ℕ) (lines : Lines) (h : HubValue) → (taken_once next lines h).0 ≡ None → AllUntaken lines h
once_off next lines h is = by_one (turned_from next (drop next lines) h) (from_fewer next (drop next lines) h) is
  where
    by_one : (one : Option ℕ × HubValue) → Fewer h one → (or_else one (λ after. turned_from 0 lines after)).0 ≡ None → AllUntaken lines h
    by_one (Some place, after) fewer none = absurd cc
    by_one (None, after) same none = rows_off 0 lines h (ap (λ (x : HubValue). (turned_from 0 lines x).0) (sym same) ∙ none)

-- without an entry none can
none_left : (lines : Lines) (next : ℕ) (h : HubValue) → all_entries h ≡ 0 → (taken_once next lines h).0 ≡ None
none_left lines next h none = by_one (taken_once next lines h) (once_fewer next lines h)
  where
    by_one : (one : Option ℕ × HubValue) → Fewer h one → one.0 ≡ None
    by_one (Some place, after) fewer = absurd (omega (arith, fewer, none))
    by_one (None, after) same = refl

-- ---- once room is made: unless something that waits can be given

abbrev IsRoomy : Lines → HubValue → Type 0
IsRoomy lines h = first_to_give h lines ≡ None → AllUntaken lines h

taken_roomy : (count next : ℕ) (lines : Lines) (h : HubValue) → all_entries h ≤ count → IsRoomy lines (taken count next lines h).1
taken_roomy zero next lines h enough = λ none. once_off next lines h (none_left lines next h (omega (arith, enough)))
taken_roomy (suc count) next lines h enough =
    by_place (first_to_give h lines) refl (λ place after less. taken_roomy count place lines after less)
  where
    Later : Type 0
    Later = (place : ℕ) (after : HubValue) → all_entries after ≤ count → IsRoomy lines (taken count place lines after).1

    Rest : ℕ → HubValue → ℕ × HubValue
    Rest place after = taken count place lines after

    by_once : (one : Option ℕ × HubValue) → taken_once next lines h ≡ one → Fewer h one → Later → IsRoomy lines (if_some_taken next one Rest).1
    by_once (None, late) is same later = λ none.
        subst (λ (x : HubValue). AllUntaken lines x) (sym same) (once_off next lines h (ap (λ (t : Option ℕ × HubValue). t.0) is))
    by_once (Some place, late) is fewer later = later place late (omega (arith, fewer, enough))

    by_place : (place : Option ℕ) → first_to_give h lines ≡ place → Later → IsRoomy lines (cond (is_some place) (next, h) (if_some_taken next (taken_once next lines h) Rest)).1
    by_place None is later = by_once (taken_once next lines h) refl (once_fewer next lines h) later
    by_place (Some place) is later = λ none. absurd (let both : Some place ≡ None = sym is ∙ none in cc)

room_roomy : (next : ℕ) (lines : Lines) (h : HubValue) → IsRoomy lines (room_made next lines h).1
unfolding room_made
room_roomy next lines h = taken_roomy (all_entries h) next lines h (omega arith)

-- ---- once all is passed on

abbrev Quiet : HubValue × Lines → Type 0
Quiet t = (first_to_give t.0 t.1 ≡ None) × AllUntaken t.1 t.0

nothing_waits : (lines : Lines) (h : HubValue) → all_unread lines ≤ 0 → first_to_give h lines ≡ None
nothing_waits lines h none = by_place (first_to_give h lines) refl
  where
    by_place : (place : Option ℕ) → first_to_give h lines ≡ place → place ≡ None
    by_place None is = refl
    by_place (Some place) is = absurd (let fewer = fewer_unread place h lines is in omega (arith, fewer, none))

many_quiet : (count next : ℕ) (lines : Lines) (h : HubValue) → all_unread lines ≤ count → IsRoomy lines h → Quiet (given_so_many count next lines h)
many_quiet zero next lines h enough roomy = let none = nothing_waits lines h enough in (none, roomy none)
many_quiet (suc count) next lines h enough roomy =
    by_place (first_to_give h lines) refl (λ last rows after less r. many_quiet count last rows after less r)
  where
    by_place : (place : Option ℕ) → first_to_give h lines ≡ place
        → ((last : ℕ) (rows : Lines) (after : HubValue) → all_unread rows ≤ count → IsRoomy rows after → Quiet (given_so_many count last rows after))
        → Quiet (if_given place lines h (λ given. after_room (room_made next given.1 given.0) given.1 (λ last rows after. given_so_many count last rows after)))
    by_place None is later = (is, roomy is)
    by_place (Some place) is later =
        let t = given_at place lines h in
        let fewer = fewer_unread place h lines is in
        room_then Quiet (IsRoomy t.1) (room_made next t.1 t.0) t.1 (λ last rows after. given_so_many count last rows after) (room_roomy next t.1 t.0)
        (λ last after r. later last t.1 after (omega (arith, fewer, enough)) r)

passing_quiet : (lines : Lines) (h : HubValue) → Quiet (passed_on lines h)
unfolding passed_on
passing_quiet lines h =
    room_then Quiet (IsRoomy lines) (room_made 0 lines h) lines (λ next rows after. given_so_many (all_unread rows) next rows after) (room_roomy 0 lines h)
    (λ next after r. many_quiet (all_unread lines) next lines after (omega arith) r)

-- ---- what is queued for the wires changes nothing of that

pub record Alike (h next : HubValue) : Type 0 where
  pub waiting : (side : HubSide) → waiting_on side next ≡ waiting_on side h
  pub takes : takes_below next.relay ≡ takes_below h.relay
  pub live : SameLive h next
  pub sent : (side : HubSide) → queue_on side h ≡ [] → queue_on side next ≡ []

alike_same : (h : HubValue) → Alike h h
alike_same h = record { waiting = λ side. refl; takes = refl; live = λ side. refl; sent = λ side is. is }

alike_then : (h mid next : HubValue) → Alike h mid → Alike mid next → Alike h next
alike_then h mid next first second =
    record {
      waiting = λ side. second.waiting side ∙ first.waiting side;
      takes = second.takes ∙ first.takes;
      live = live_then h mid next first.live second.live;
      sent = λ side is. second.sent side (first.sent side is);
    }

end_waiting : {T : Type 0} → (flag : Bool) (e : EndValue T) → waiting_in (cond flag e (record e { queued = [] })) ≡ waiting_in e
end_waiting true e = refl
end_waiting false e = refl

lower_waiting : (lower : Option Channel) → waiting_of (mapped emptied_end lower) ≡ waiting_of lower
lower_waiting None = refl
lower_waiting (Some lower) = end_waiting lower.end.is_spent lower.end

below_waiting : (flag : Bool) (i j : ℕ) (r : RelayValue) → (i == j) ≡ flag → waiting_of (lower_of j (record r { lowers = changed i emptied_end r.lowers })) ≡ waiting_of (lower_of j r)
below_waiting true i j r is =
    let same : i ≡ j = eqb-true i j is in
    ap (λ (n : ℕ). waiting_of (lower_of j (record r { lowers = changed n emptied_end r.lowers }))) same ∙ ap waiting_of (found_at j emptied_end r.lowers) ∙ lower_waiting (lower_of j r)
below_waiting false i j r is = ap waiting_of (at_apart i j emptied_end r.lowers is)

waiting_emptied : (on side : HubSide) (r : RelayValue) → waiting_at on (emptied_at side r) ≡ waiting_at on r
waiting_emptied Above Above r = end_waiting r.upper.is_spent r.upper
waiting_emptied Above (Below j) r = refl
waiting_emptied (Below j) Above r = refl
waiting_emptied (Below j) (Below i) r = below_waiting (i == j) i j r refl

takes_emptied : (side : HubSide) (r : RelayValue) → takes_below (emptied_at side r) ≡ takes_below r
takes_emptied Above r = by_flag r.upper.is_spent
  where
    by_flag : (flag : Bool) → takes_below (record r { upper = cond flag r.upper (record r.upper { queued = [] }) }) ≡ takes_below r
    by_flag true = refl
    by_flag false = refl
takes_emptied (Below j) r = refl

-- nothing is left to be sent
end_sent : {T : Type 0} → (spent : Bool) (queue : List Outgoing) (e : EndValue T) → queue_of (emptied_end (record e { queued = queue; is_spent = spent })) ≡ []
end_sent true queue e = refl
end_sent false queue e = refl

lower_sent : (lower : Option Channel) → queue_in (mapped emptied_end lower) ≡ []
lower_sent None = refl
lower_sent (Some lower) = end_sent lower.end.is_spent lower.end.queued lower.end

own_sent : (side : HubSide) (r : RelayValue) → queue_at side (emptied_at side r) ≡ []
own_sent Above r = end_sent r.upper.is_spent r.upper.queued r.upper
own_sent (Below j) r = ap queue_in (found_at j emptied_end r.lowers) ∙ lower_sent (lower_of j r)

other_sent : (on side : HubSide) (r : RelayValue) → queue_at on r ≡ [] → queue_at on (emptied_at side r) ≡ []
other_sent Above Above r is = own_sent Above r
other_sent Above (Below j) r is = is
other_sent (Below j) Above r is = is
other_sent (Below j) (Below i) r is = by_flag (i == j) refl
  where
    by_flag : (flag : Bool) → (i == j) ≡ flag → queue_at (Below j) (emptied_at (Below i) r) ≡ []
    by_flag true same =
        let at : i ≡ j = eqb-true i j same in subst (λ (n : ℕ). queue_at (Below j) (emptied_at (Below n) r) ≡ []) (sym at) (own_sent (Below j) r)
    by_flag false off = ap queue_in (at_apart i j emptied_end r.lowers off) ∙ is

alike_emptied : (side : HubSide) (h : HubValue) → Alike h (emptied side h)
unfolding emptied
alike_emptied side h = by_flag h.is_spent refl
  where
    next : HubValue
    next = with_relay (emptied_at side h.relay) h

    sent_by : (spent : Bool) → h.is_spent ≡ spent → (on : HubSide) → queue_on on h ≡ [] → queue_on on next ≡ []
    sent_by true is on none = ap (λ (b : Bool). cond b [] (queue_at on (emptied_at side h.relay))) is
    sent_by false is on none =
        ap (λ (b : Bool). cond b [] (queue_at on (emptied_at side h.relay))) is
        ∙ other_sent on side h.relay (ap (λ (b : Bool). cond b [] (queue_at on h.relay)) (sym is) ∙ none)

    by_flag : (spent : Bool) → h.is_spent ≡ spent → Alike h (cond spent h next)
    by_flag true is = alike_same h
    by_flag false is =
        record {
          waiting = λ on. waiting_emptied on side h.relay;
          takes = takes_emptied side h.relay;
          live = subst (λ (b : Bool). SameLive h (cond b h next)) is (live_emptied side h);
          sent = sent_by false is;
        }

sent_then : (side : HubSide) (h : HubValue) → queue_on side (emptied side h) ≡ []
unfolding emptied
sent_then side h = by_flag h.is_spent
  where
    by_flag : (spent : Bool) → queue_on side (cond spent (record h { is_spent = spent }) (with_relay (emptied_at side h.relay) (record h { is_spent = spent }))) ≡ []
    by_flag true = refl
    by_flag false = own_sent side h.relay

-- all lines are gathered
abbrev AllQueued : Lines → HubValue → HubValue → Type 0
AllQueued rows h next = Alike h next × AllByRecursion (λ row. queue_on row.item.side next ≡ []) rows

closing_comes : (Q : HubValue → Type 0) (flag : Bool) (channel : ℕ) (p : Process HubValue) → ComesTo Q p → ComesTo Q (closing flag channel p)
closing_comes Q true channel p comes = comes
closing_comes Q false channel p comes = comes

rows_queue : (rows : Lines) (h : HubValue) → ComesTo (AllQueued rows h) (gathered_rows rows h)
rows_queue [] h = (alike_same h, tt)
rows_queue (row ∷ rows) h =
    let side = row.item.side in
    let next = emptied side h in
    closing_comes (AllQueued (row ∷ rows) h) (not (is_live_on side h)) row.item.channel (gathered_rows rows next)
    (comes_weaker (AllQueued rows next) (AllQueued (row ∷ rows) h) (gathered_rows rows next)
    (λ last q. (alike_then h next last (alike_emptied side h) q.0, (q.0.sent side (sent_then side h), q.1))) (rows_queue rows next))

-- ---- so nothing is left

can_alike : (h next : HubValue) → Alike h next → (line : Line) → can_give next line ≡ can_give h line
can_alike h next a line = ap (λ (n : ℕ). is_some (next_for n line.intake)) (a.waiting line.side)

first_step : (h : HubValue) (row : Row Line) (rows : Lines) → first_to_give h (row ∷ rows) ≡ cond (can_give h row.item) (Some 0) (option_map suc (first_to_give h rows))
first_step h row rows = position_step (λ (r : Row Line). can_give h r.item) row rows

none_behind : (o : Option ℕ) → option_map suc o ≡ None → o ≡ None
none_behind None is = refl
none_behind (Some place) is = absurd cc

still_none : (h next : HubValue) → Alike h next → (rows : Lines) → first_to_give h rows ≡ None → first_to_give next (filter (is_live_line next) rows) ≡ None
still_none h next a [] none = refl
still_none h next a (row ∷ rows) none = by_flag (can_give h row.item) refl (λ so. still_none h next a rows so)
  where
    Rest : Type 0
    Rest = first_to_give h rows ≡ None → first_to_give next (filter (is_live_line next) rows) ≡ None

    by_live : (live : Bool) → can_give h row.item ≡ false → first_to_give h rows ≡ None → Rest → first_to_give next (cond live (row ∷ filter (is_live_line next) rows) (filter (is_live_line next) rows)) ≡ None
    by_live true off so rest =
        first_step next row (filter (is_live_line next) rows)
        ∙ ap (λ (b : Bool). cond b (Some 0) (option_map suc (first_to_give next (filter (is_live_line next) rows)))) (can_alike h next a row.item ∙ off)
        ∙ ap (λ (o : Option ℕ). option_map suc o) (rest so)
    by_live false off so rest = rest so

    by_flag : (flag : Bool) → can_give h row.item ≡ flag → Rest → first_to_give next (filter (is_live_line next) (row ∷ rows)) ≡ None
    by_flag true is rest =
        absurd (let both : Some 0 ≡ None = sym (first_step h row rows ∙ ap (λ (b : Bool). cond b (Some 0) (option_map suc (first_to_give h rows))) is) ∙ none in cc)
    by_flag false is rest =
        by_live (is_live_line next row) is
        (none_behind (first_to_give h rows) (sym (first_step h row rows ∙ ap (λ (b : Bool). cond b (Some 0) (option_map suc (first_to_give h rows))) is) ∙ none)) rest

takes_alike : (h next : HubValue) → Alike h next → (side : HubSide) → TakesNothing side h.relay → TakesNothing side next.relay
takes_alike h next a Above none = a.waiting Above ∙ none
takes_alike h next a (Below j) none = elim none as (λ _. TakesNothing (Below j) next.relay) [
  | inl off ↦ inl (a.takes ∙ off)
  | inr empty ↦ inr (a.waiting (Below j) ∙ empty)
]

empty_if : (side : HubSide) (h : HubValue) → TakesNothing side h.relay → may_take side h ≡ true → waiting_on side h ≡ 0
empty_if Above h none may = none
empty_if (Below j) h none may = elim none as (λ _. waiting_on (Below j) h ≡ 0) [
  | inl off ↦ let both : true ≡ false = sym may ∙ off in absurd cc
  | inr empty ↦ empty
]

line_left : (h next : HubValue) → Alike h next → (row : Row Line) → is_live_line next row ≡ true → Untaken h row → queue_on row.item.side next ≡ [] → HasNothingLeft next row.item
line_left h next a row live untaken sent =
    let side = row.item.side in
    let nothing : TakesNothing side next.relay = takes_alike h next a side ((takes_nothing (number_next h) side h.relay).0 untaken) in
    record { live = live; untaken = (takes_nothing (number_next next) side next.relay).1 nothing; emptied = empty_if side next nothing; sent = sent }

lines_left : (h next : HubValue) → Alike h next → (rows : Lines) → AllUntaken rows h → AllByRecursion (λ row. queue_on row.item.side next ≡ []) rows
    → AllByRecursion (λ row. HasNothingLeft next row.item) (filter (is_live_line next) rows)
lines_left h next a [] untaken sent = tt
lines_left h next a (row ∷ rows) untaken sent = by_flag (is_live_line next row) refl (lines_left h next a rows untaken.1 sent.1)
  where
    by_flag : (flag : Bool) → is_live_line next row ≡ flag → AllByRecursion (λ row. HasNothingLeft next row.item) (filter (is_live_line next) rows) → AllByRecursion (λ row. HasNothingLeft next row.item) (cond flag (row ∷ filter (is_live_line next) rows) (filter (is_live_line next) rows))
    by_flag true is rest = (line_left h next a row is untaken.0 sent.0, rest)
    by_flag false is rest = rest

gathered_left : (s : ServingValue) → Quiet (s.hub, s.lines) → ComesTo NothingLeft (gathered s)
gathered_left s quiet =
    comes_then (AllQueued s.lines s.hub) NothingLeft (gathered_rows s.lines s.hub) (λ h. done (live_alone s h)) (rows_queue s.lines s.hub)
    (λ h q. record { ungiven = still_none s.hub h q.0 s.lines quiet.0; lines = lines_left s.hub h q.0 s.lines quiet.1 q.1 })

abbrev Anyhow : ServingValue → Type 0
Anyhow s = Unit {0}

calm_comes : (p : Process ServingValue) → IsCalm p → ComesTo Anyhow p
calm_comes (done s) calm = tt
calm_comes (tells order p) calm = calm_comes p calm
calm_comes (asks next) calm = absurd calm

handled_left : (event : WireEvent) (s : ServingValue) → ComesTo NothingLeft (handled event s)
unfolding handled
handled_left event s =
    comes_then Anyhow NothingLeft (acted event s) (λ next. gathered (passed next)) (calm_comes (acted event s) (acted_calm event s))
    (λ next so. gathered_left (passed next) (passing_quiet next.lines next.hub))

-- ---- behind any event

first_left : (peer : List ℕ) → NothingLeft (new_serving peer)
first_left peer = record { ungiven = refl; lines = tt }

-- while the answer of the connect is waited for it is as it was at first
abbrev IsKnown : List ℕ → State ServingValue → Type 0
IsKnown peer (rests s) = Unit {0}
IsKnown peer (waits s next) = (s.served ≡ new_serving peer) × ((answer : Answer) → IsCalm (next answer))

calm_known : (peer : List ℕ) (a : ServingValue) (sent : List (Row Wire)) (p : Process ServingValue) → IsCalm p → IsKnown peer (landed a sent p)
calm_known peer a sent (done new) calm = tt
calm_known peer a sent (tells order p) calm = calm_known peer a (sent_with order sent) p calm
calm_known peer a sent (asks next) calm = absurd calm

one_known : (peer : List ℕ) (state : State ServingValue) (heard : Heard) → IsKnown peer state → IsKnown peer (after_one (hub_of peer) state heard)
one_known peer (rests s) (came event) known = calm_known peer s.served (wires_with event s.sent) (handled event s.served) (handled_calm event s.served)
one_known peer (rests s) (answered answer) known = tt
one_known peer (waits s next) (came event) known = known
one_known peer (waits s next) (answered answer) known = calm_known peer s.served (wires_after answer s.sent) (next answer) (known.1 answer)

all_known : (peer : List ℕ) (heard : List Heard) (state : State ServingValue) → IsKnown peer state → IsKnown peer (fold (after_one (hub_of peer)) state heard)
all_known peer [] state known = known
all_known peer (h ∷ heard) state known = all_known peer heard (after_one (hub_of peer) state h) (one_known peer state h known)

connected_calm : (peer : List ℕ) (answer : Answer) → IsCalm (connected answer (new_serving peer))
connected_calm peer (Ok channel) = tt
connected_calm peer (Err refusal) = tt

landed_left : (a : ServingValue) (sent : List (Row Wire)) (p : Process ServingValue) → IsCalm p → ComesTo NothingLeft p → NothingLeft (standing_in (landed a sent p)).served
landed_left a sent (done new) calm comes = comes
landed_left a sent (tells order p) calm comes = landed_left a (sent_with order sent) p calm comes
landed_left a sent (asks next) calm comes = absurd calm

event_left : (peer : List ℕ) (event : WireEvent) (state : State ServingValue) → IsKnown peer state → NothingLeft (standing_in (after_one (hub_of peer) state (came event))).served
event_left peer event (rests s) known = landed_left s.served (wires_with event s.sent) (handled event s.served) (handled_calm event s.served) (handled_left event s.served)
event_left peer event (waits s next) known = subst NothingLeft (sym known.0) (first_left peer)

fold_last : (peer : List ℕ) (heard : List Heard) (last : Heard) (state : State ServingValue)
    → fold (after_one (hub_of peer)) state (heard ++ last ∷ []) ≡ after_one (hub_of peer) (fold (after_one (hub_of peer)) state heard) last
fold_last peer [] last state = refl
fold_last peer (h ∷ heard) last state = fold_last peer heard last (after_one (hub_of peer) state h)

pub leaves_nothing : LeavesNothing
leaves_nothing peer heard event =
    let first = at_first (hub_of peer) in
    let before = fold (after_one (hub_of peer)) first heard in
    subst (λ (state : State ServingValue). NothingLeft (standing_in state).served) (sym (fold_last peer heard (came event) first))
    (event_left peer event before (all_known peer heard first (refl, λ answer. connected_calm peer answer)))
