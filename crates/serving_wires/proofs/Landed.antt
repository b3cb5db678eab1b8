-- The state that is meant goes on as the value-served do, with each event and each answer of a connect.
use Rattle.std.proofs.Common.{◌≡◌, ℕ, ◌+◌, ◌≤◌, ◌==◌, true, false, List, [], ◌∷◌, ◌++◌, Option, None, refl, sym, ap, ◌∙◌, subst, arith, append-nil, append_assoc, leb-true}
use Rattle.std.specs.Prelude.{Ok, Err, IfOk, fold}
use Rattle.std.specs.List.{list_any}
use Rattle.std.proofs.lemmas.Bool.{or_parts}
use Rattle.std.proofs.lemmas.List.{map-append}
use Rattle.std.proofs.lemmas.List.Folds.{list_any-append}
use Rattle.tcf_wires.specs.Event.{can_come, unused_after_connect, unused_after_next}
use Rattle.tcf_wires.specs.Told.{taken_on}
use Rattle.tcf_wires.specs.declared.call.WireCall.{WireCall}
use Rattle.tcf_wires.specs.declared.call.WireCall.TheVariants.{Connected}
use Rattle.tcf_wires.specs.declared.event.WireEvent.{WireEvent}
use Rattle.tcf_wires.specs.declared.event.WireEvent.TheVariants as events
use Rattle.serving_wires.proofs.Placing.{each_both, each_none, each_one}
use Rattle.serving_wires.specs.Calls.{events_in, put_on}
use Rattle.serving_wires.specs.Following.{Spares, is_on}
use Rattle.serving_wires.specs.Outbox.{unused_outbox}
use Rattle.serving_wires.specs.OutboxValue.{OutboxValue}
use Rattle.serving_wires.specs.Row.{Row}
use Rattle.serving_wires.specs.Serving.{AreFronts, EachBehind, breaks}
use Rattle.serving_wires.specs.Changes.{item_on}
use Rattle.serving_wires.specs.Going.{Goes, answered, here, told}
use Rattle.serving_wires.specs.Order.{Order, channel_of}
use Rattle.serving_wires.specs.Process.{Answer, Process, asks, done, tells}
use Rattle.serving_wires.specs.Program.{Program, peer_of}
use Rattle.serving_wires.specs.Sending.{begun, begun_by, opened_by, ordered, outbox_after}
use Rattle.serving_wires.specs.Serve.{IsInPlace}
use Rattle.serving_wires.specs.Standing.{State, Wire, after_one, answered as heard_answer, came, is_resting, landed, nodes_in, rests, sent_after, sent_in, sent_with, state_after, unused_wire, wire_in, wires_after, wires_with, with_wire}
use Rattle.serving_wires.specs.WireLaws.{WireLaws}
use Rattle.serving_wires.proofs.Spared.{none_of_both}
use Rattle.serving_wires.proofs.Placed.{state_with}
use Rattle.serving_wires.proofs.Rows.{Below, above_all, below_more, below_push, change_first, changed_numbers, first_changed, found, is_among, item_found, lacks_if, missing_if, numbers}
use Rattle.serving_wires.proofs.Turns.{gave}
use Rattle.serving_wires.proofs.Fronts.{IsFront}
use Rattle.serving_wires.proofs.Settled.{front}
use Rattle.serving_wires.proofs.Standing.{Stand, stand_more, stand_push}
use Rattle.serving_wires.proofs.Keeping.{keeps_new}
use Rattle.serving_wires.proofs.Ordered.{by_wires, stand_ordered, stand_pieced, wires_keep}
use Rattle.serving_wires.proofs.Wires.{piece_first, piece_numbers}
use Rattle.serving_wires.proofs.Leading.{Rows}

abbrev pub Sents : Type 0
Sents = List (Row Wire)

-- The outboxes by what was ever queued; no call is on a channel that hasn't a wire.
pub record Holds (unused : ℕ) (calls : List WireCall) (sent : Sents) (rows : Rows) : Type 0 where
  pub lines : Stand by_wires calls 0 sent rows
  pub below : Below unused (numbers sent)
  pub spares : (channel : ℕ) → found channel sent ≡ None → Spares channel calls

pub holds_more : WireLaws → (unused : ℕ) (calls more : List WireCall) (sent : Sents) (rows : Rows) → ((channel : ℕ) → Spares channel more) → Holds unused calls sent rows
    → Holds unused (calls ++ more) sent rows
holds_more laws unused calls more sent rows spares h =
    record {
      lines = stand_more by_wires (wires_keep laws) calls more 0 sent rows (λ channel above. spares channel) h.lines;
      below = h.below;
      spares = λ channel missing. none_of_both (is_on channel) calls more (h.spares channel missing) (spares channel);
    }

lacked_before : (channel new : ℕ) (sent : Sents) → found channel (with_wire new sent) ≡ None → found channel sent ≡ None
lacked_before channel new sent missing =
    let all : numbers (with_wire new sent) ≡ numbers sent ++ new ∷ [] = map-append (λ (r : Row Wire). r.channel) sent _ in
    let lacks : is_among channel (numbers sent ++ new ∷ []) ≡ false = ap (λ (ks : List ℕ). is_among channel ks) (sym all) ∙ lacks_if channel (with_wire new sent) missing in
    missing_if channel sent (or_parts (is_among channel (numbers sent)) (is_among channel (new ∷ [])) (sym (list_any-append (λ (k : ℕ). k == channel) (numbers sent) (new ∷ [])) ∙ lacks)).0

pub holds_push : WireLaws → (unused channel : ℕ) (calls : List WireCall) (sent : Sents) (rows : Rows) → unused ≤ channel → Holds unused calls sent rows
    → Holds (channel + 1) calls (with_wire channel sent) (begun channel rows)
holds_push laws unused channel calls sent rows above h =
    let below : Below channel (numbers sent) = below_more unused channel (numbers sent) above h.below in
    let unspoken : Spares channel calls = h.spares channel (missing_if channel sent (above_all channel (numbers sent) below)) in
    let all : numbers (with_wire channel sent) ≡ numbers sent ++ channel ∷ [] = map-append (λ (r : Row Wire). r.channel) sent _ in
    record {
      lines = stand_push by_wires calls 0 channel unused_wire (unused_outbox channel) sent rows (omega arith) below (keeps_new laws channel calls unspoken) h.lines;
      below = subst (λ (ks : List ℕ). Below (channel + 1) ks) (sym all) (below_push (channel + 1) channel (numbers sent) (omega arith) (below_more channel (channel + 1) (numbers sent) (omega arith) below));
      spares = λ other missing. h.spares other (lacked_before other channel sent missing);
    }

pub holds_order : WireLaws → (unused : ℕ) (calls : List WireCall) (order : Order) (sent : Sents) (rows : Rows) → Holds unused calls sent rows
    → Holds unused calls (sent_with order sent) (ordered order rows)
holds_order laws unused calls order sent rows h =
    let k = channel_of order in
    let ideal : sent_with order sent ≡ first_changed k (sent_after order) sent = change_first Wire k (sent_after order) sent in
    let real : ordered order rows ≡ first_changed k (outbox_after order) rows = change_first OutboxValue k (outbox_after order) rows in
    let same : numbers (sent_with order sent) ≡ numbers sent = ap (λ (s : Sents). numbers s) ideal ∙ changed_numbers k (sent_after order) sent in
    record {
      lines = subst (λ (s : Sents). Stand by_wires calls 0 s (ordered order rows)) (sym ideal)
          (subst (λ (rs : Rows). Stand by_wires calls 0 (first_changed k (sent_after order) sent) rs) (sym real) (stand_ordered laws calls order k 0 sent rows h.lines));
      below = subst (λ (ks : List ℕ). Below unused ks) (sym same) h.below;
      spares = λ channel missing.
          h.spares channel (missing_if channel sent (ap (λ (ks : List ℕ). is_among channel ks) (sym same) ∙ lacks_if channel (sent_with order sent) missing));
    }

pub holds_piece : (unused : ℕ) (calls : List WireCall) (channel : ℕ) (bytes : List ℕ) (sent : Sents) (rows : Rows) → Holds unused calls sent rows
    → Holds unused calls (wires_with (events.Piece channel bytes) sent) rows
holds_piece unused calls channel bytes sent rows h =
    let now = wires_with (events.Piece channel bytes) sent in
    let same : numbers now ≡ numbers sent = piece_numbers channel bytes sent in
    record {
      lines = subst (λ (s : Sents). Stand by_wires calls 0 s rows) (sym (piece_first channel bytes sent)) (stand_pieced calls bytes channel 0 sent rows h.lines);
      below = subst (λ (ks : List ℕ). Below unused ks) (sym same) h.below;
      spares = λ other missing. h.spares other (missing_if other sent (ap (λ (ks : List ℕ). is_among other ks) (sym same) ∙ lacks_if other now missing));
    }

-- ---- a process that goes on

pub record Landed {A : Type 0} (program : Program A) (served : A) (rows : Rows) (unused : ℕ) (calls : List WireCall) (p : Process A) : Type 0 where
  pub sent : Sents
  pub state : state_after program calls ≡ landed served sent p
  pub holds : Holds unused calls sent rows

told_keeps : {A : Type 0} → WireLaws → (program : Program A) (served : A) (rows : Rows) (unused : ℕ) (calls : List WireCall) (order : Order) (p : Process A)
    → Landed program served rows unused calls (tells order p) → Landed program served (ordered order rows) unused calls p
told_keeps laws program served rows unused calls order p l =
    record { sent = sent_with order l.sent; state = l.state; holds = holds_order laws unused calls order l.sent rows l.holds }

answer_holds : {A : Type 0} → WireLaws → (program : Program A) (answer : Answer) (unused : ℕ) (calls : List WireCall) (sent : Sents) (rows : Rows) → IfOk answer (λ channel. unused ≤ channel)
    → Holds unused (calls ++ Connected (peer_of program) answer ∷ []) sent rows
    → Holds (unused_after_connect answer unused) (calls ++ Connected (peer_of program) answer ∷ []) (wires_after answer sent) (begun_by answer rows)
answer_holds laws program (Ok channel) unused calls sent rows fits h = holds_push laws unused channel (calls ++ Connected (peer_of program) (Ok channel) ∷ []) sent rows fits h
answer_holds laws program (Err refusal) unused calls sent rows fits h = h

answer_keeps : {A : Type 0} → WireLaws → (program : Program A) (served : A) (rows : Rows) (unused : ℕ) (calls : List WireCall) (answer : Answer) (next : Answer → Process A)
    → IfOk answer (λ channel. unused ≤ channel) → Landed program served rows unused calls (asks next)
    → Landed program served (begun_by answer rows) (unused_after_connect answer unused) (calls ++ Connected (peer_of program) answer ∷ []) (next answer)
answer_keeps {A = A} laws program served rows unused calls answer next fits l =
    record {
      sent = wires_after answer l.sent;
      state = state_with program calls (Connected (peer_of program) answer) (heard_answer answer) refl ∙ ap (λ (s : State A). after_one program s (heard_answer answer)) l.state;
      holds = answer_holds laws program answer unused calls l.sent rows fits
          (holds_more laws unused calls (Connected (peer_of program) answer ∷ []) l.sent rows (λ channel. refl) l.holds);
    }

-- what the calls of a process come to
pub record HasGone {A : Type 0} (program : Program A) (served : A) (news : Rows) (later : ℕ) (calls more : List WireCall) (q : Process A) : Type 0 where
  pub landed : Landed program served news later (calls ++ more) q
  pub in_place : EachBehind (IsInPlace program) calls more
  pub no_event : events_in more ≡ []
  pub sound : list_any breaks more ≡ false
  pub puts : (before : List ℕ) → fold put_on before more ≡ before

waited_for : {A : Type 0} → (program : Program A) (served : A) (rows : Rows) (unused : ℕ) (calls : List WireCall) (answer : Answer) (next : Answer → Process A)
    → Landed program served rows unused calls (asks next) → EachBehind (IsInPlace program) calls (Connected (peer_of program) answer ∷ [])
waited_for {A = A} program served rows unused calls answer next l =
    each_one (IsInPlace program) calls (Connected (peer_of program) answer) (record { same = refl; waited_for = ap (λ (s : State A). is_resting s) l.state })

asked_first : {A : Type 0} → (program : Program A) (served : A) (news : Rows) (later : ℕ) (calls more : List WireCall) (answer : Answer) (q : Process A)
    → EachBehind (IsInPlace program) calls (Connected (peer_of program) answer ∷ []) → HasGone program served news later (calls ++ Connected (peer_of program) answer ∷ []) more q
    → HasGone program served news later calls (Connected (peer_of program) answer ∷ more) q
asked_first program served news later calls more answer q first h =
    record {
      landed = subst (λ (cs : List WireCall). Landed program served news later cs q) (append_assoc calls (Connected (peer_of program) answer ∷ []) more) h.landed;
      in_place = each_both (IsInPlace program) calls (Connected (peer_of program) answer ∷ []) more first h.in_place;
      no_event = h.no_event;
      sound = h.sound;
      puts = h.puts;
    }

pub goes_keeps : {A : Type 0} → WireLaws → (program : Program A) (served : A) (unused later : ℕ) (p q : Process A) (olds news : Rows) (calls more : List WireCall)
    → Goes (peer_of program) unused later p q olds news more → Landed program served olds unused calls p → HasGone program served news later calls more q
goes_keeps laws program served unused later p q olds news calls more (here n p2 rows) l =
    record {
      landed = subst (λ (cs : List WireCall). Landed program served olds unused cs p) (sym (append-nil calls)) l;
      in_place = each_none (IsInPlace program) calls;
      no_event = refl;
      sound = refl;
      puts = λ before. refl;
    }
goes_keeps laws program served unused later p q olds news calls more (told n m order p2 q2 os ns cs goes) l =
    goes_keeps laws program served unused later p2 q (ordered order olds) news calls more goes (told_keeps laws program served olds unused calls order p2 l)
goes_keeps laws program served unused later p q olds news calls more (answered n m answer next q2 os ns cs fits goes) l =
    asked_first program served news later calls cs answer q (waited_for program served olds unused calls answer next l)
    (goes_keeps laws program served (unused_after_connect answer unused) later (next answer) q (begun_by answer olds) news (calls ++ Connected (peer_of program) answer ∷ []) cs goes
    (answer_keeps laws program served olds unused calls answer next fits l))

-- ---- an event comes

event_holds : WireLaws → (event : WireEvent) (unused : ℕ) (calls : List WireCall) (sent : Sents) (rows : Rows) → can_come unused event ≡ true → Holds unused calls sent rows
    → Holds (unused_after_next (Ok event) unused) calls (wires_with event sent) (opened_by event rows)
event_holds laws (events.Opened channel) unused calls sent rows can h = holds_push laws unused channel calls sent rows (leb-true unused channel can) h
event_holds laws (events.Piece channel bytes) unused calls sent rows can h = holds_piece unused calls channel bytes sent rows h
event_holds laws (events.Ended channel) unused calls sent rows can h = h
event_holds laws (events.Lost channel) unused calls sent rows can h = h
event_holds laws events.Idle unused calls sent rows can h = h
event_holds laws events.Stop unused calls sent rows can h = h

pub event_keeps : {A : Type 0} → WireLaws → (program : Program A) (served : A) (sent : Sents) (rows : Rows) (unused : ℕ) (calls : List WireCall) (event : WireEvent) → can_come unused event ≡ true
    → state_after program calls ≡ rests (record { served = served; sent = sent }) → Holds unused calls sent rows
    → Landed program served (opened_by event rows) (unused_after_next (Ok event) unused) (calls ++ gave event ∷ []) (program.behaviour.handled event served)
event_keeps {A = A} laws program served sent rows unused calls event can stands h =
    record {
      sent = wires_with event sent;
      state = state_with program calls (gave event) (came event) refl ∙ ap (λ (s : State A). after_one program s (came event)) stands;
      holds = event_holds laws event unused (calls ++ gave event ∷ []) sent rows can (holds_more laws unused calls (gave event ∷ []) sent rows (λ channel. refl) h);
    }

-- ---- what was taken is a front of what is queued

pub holds_fronts : {A : Type 0} → WireLaws → (unused : ℕ) (calls : List WireCall) (sent : Sents) (rows : Rows) (state : State A) → sent_in state ≡ sent → Holds unused calls sent rows
    → AreFronts (nodes_in state) calls
holds_fronts laws unused calls sent rows state is h channel =
    subst (λ (s : Sents). IsFront (wire_in (item_on channel s)).queued (taken_on channel calls)) (sym is)
    (subst (λ (o : Option Wire). IsFront (wire_in o).queued (taken_on channel calls)) (sym (item_found Wire channel sent)) (front laws calls sent rows h.lines h.spares channel))

pub landed_fronts : {A : Type 0} → WireLaws → (program : Program A) (served : A) (rows : Rows) (unused : ℕ) (calls : List WireCall) (p : Process A)
    → Landed program served rows unused calls p → AreFronts (nodes_in (state_after program calls)) calls
landed_fronts {A = A} laws program served rows unused calls (done news) l = holds_fronts laws unused calls l.sent rows (state_after program calls) (ap (λ (s : State A). sent_in s) l.state) l.holds
landed_fronts laws program served rows unused calls (tells order p) l =
    landed_fronts laws program served (ordered order rows) unused calls p (told_keeps laws program served rows unused calls order p l)
landed_fronts {A = A} laws program served rows unused calls (asks next) l = holds_fronts laws unused calls l.sent rows (state_after program calls) (ap (λ (s : State A). sent_in s) l.state) l.holds
