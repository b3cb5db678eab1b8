-- A run goes on from turn to turn, and comes to its end.
use Rattle.std.proofs.Common.{◌≡◌, ◌≢◌, ℕ, ◌+◌, Bool, true, false, ◌||◌, List, [], ◌∷◌, ◌++◌, length, Option, refl, sym, ap, ◌∙◌, subst, append_assoc}
use Rattle.std.specs.Prelude.{IsTrue, Result, Ok, Err, fold}
use Rattle.std.specs.List.{list_all, list_any}
use Rattle.std.specs.List.Sorted.{IsStrictlyIncreasing}
use Rattle.std.proofs.lemmas.Bool.{and_parts, false≢true}
use Rattle.std.proofs.lemmas.List.Folds.{list_any-append}
use Rattle.std.proofs.lemmas.List.Sums.{fold-append}
use Rattle.tcf_wires.specs.Event.{can_come, unused_after_next}
use Rattle.tcf_wires.specs.declared.call.WireCall.{WireCall}
use Rattle.tcf_wires.specs.declared.call.WireCall.TheVariants.{Listened, Connected, Gave, Offered, Shut}
use Rattle.tcf_wires.specs.declared.event.WireEvent.{WireEvent}
use Rattle.tcf_wires.specs.declared.event.WireRefusal.{WireRefusal}
use Rattle.serving_wires.specs.Calls.{channels_put, events_in, put_on as put_on_wire}
use Rattle.serving_wires.specs.Following.{Spares, is_on}
use Rattle.serving_wires.specs.Serving.{AreFronts, EachBehind, fails, breaks, is_stop, reaches_out, stops}
use Rattle.list_laws.proofs.Flags.{or_false}
use Rattle.serving_wires.proofs.Placing.{each_both, each_more, each_none, each_one}
use Rattle.serving_wires.specs.Changes.{item_on}
use Rattle.serving_wires.specs.Flushing.{FlushesKept, its_own}
use Rattle.serving_wires.specs.Going.{Goes}
use Rattle.serving_wires.specs.Process.{done}
use Rattle.serving_wires.specs.Program.{Program, peer_of}
use Rattle.serving_wires.specs.Sending.{opened_by}
use Rattle.serving_wires.specs.Serve.{CarriesWire, IsInPlace, IsOpened, IsSettled, Rests, Serves, has_listened}
use Rattle.serving_wires.specs.Standing.{State, Wire, heard_in, is_resting, nodes_in, rests, sent_in, state_after, wire_in}
use Rattle.serving_wires.specs.Turn.{IsTurn, Now}
use Rattle.serving_wires.specs.WireLaws.{WireLaws}
use Rattle.serving_wires.proofs.Spared.{none_of_both, same_events}
use Rattle.serving_wires.proofs.Flushed.{AllFlushed, AreServed, filter_flushed, flush_keeps}
use Rattle.serving_wires.proofs.Landed.{Holds, Landed, event_keeps, goes_keeps, holds_fronts, holds_more, Sents}
use Rattle.serving_wires.proofs.Placed.{ArePuts, puts_heard, puts_placed, state_stays}
use Rattle.serving_wires.proofs.Rows.{item_found}
use Rattle.serving_wires.proofs.Turns.{gave, events_then, one_longer}
use Rattle.serving_wires.proofs.RisingPuts.{rising}
use Rattle.serving_wires.proofs.Settled.{carried}
use Rattle.serving_wires.proofs.Standing.{Stand, filter_keeps, none}
use Rattle.serving_wires.proofs.Ordered.{by_wires, wires_keep}
use Rattle.serving_wires.proofs.Leading.{Rows}

-- ---- the state between the turns

pub record Resting {A : Type 0} (program : Program A) (served : A) (sending : Rows) (unused : ℕ) (calls : List WireCall) : Type 0 where
  pub sent : Sents
  pub state : state_after program calls ≡ rests (record { served = served; sent = sent })
  pub holds : Holds unused calls sent sending

pub rests_so : {A : Type 0} → (program : Program A) (served : A) (sending : Rows) (unused : ℕ) (calls : List WireCall) → Resting program served sending unused calls → Rests program calls
rests_so {A = A} program served sending unused calls r = ap (λ (s : State A). is_resting s) r.state

pub settled : {A : Type 0} → WireLaws → (program : Program A) (served : A) (sending : Rows) (unused : ℕ) (calls : List WireCall) → Resting program served sending unused calls → AllFlushed its_own calls sending
    → IsStrictlyIncreasing (channels_put calls) → IsSettled program calls
settled {A = A} laws program served sending unused calls r all rise =
    record {
      carried = λ channel.
          subst (λ (s : State A). CarriesWire (wire_in (item_on channel (sent_in s))) channel calls) (sym r.state)
          (subst (λ (o : Option Wire). CarriesWire (wire_in o) channel calls) (sym (item_found Wire channel r.sent))
          (carried laws calls r.sent sending r.holds.lines all r.holds.spares channel));
      rising = rise;
    }

pub rests_fronts : {A : Type 0} → WireLaws → (program : Program A) (served : A) (sending : Rows) (unused : ℕ) (calls : List WireCall) → Resting program served sending unused calls
    → AreFronts (nodes_in (state_after program calls)) calls
rests_fronts {A = A} laws program served sending unused calls r = holds_fronts laws unused calls r.sent sending (state_after program calls) (ap (λ (s : State A). sent_in s) r.state) r.holds

-- Before an event is asked for: all that came is heeded, and all is put that can be.
pub record Running {A : Type 0} (program : Program A) (count : ℕ) (real : Now A) (unused : ℕ) (calls : List WireCall) : Type 0 where
  pub serves : Serves program calls
  pub peer_is : program.behaviour.peer real.served ≡ peer_of program
  pub stands : Resting program real.served real.sending unused calls
  pub flushed : events_in calls ≢ [] → AllFlushed its_own calls real.sending
  pub rises : IsStrictlyIncreasing (channels_put calls)
  pub counted : length (events_in calls) ≡ count
  pub goes_on : stops calls ≡ false
  pub sound : list_any breaks calls ≡ false

pub settles : {A : Type 0} → WireLaws → (program : Program A) (count : ℕ) (real : Now A) (unused : ℕ) (calls : List WireCall) → Running program count real unused calls
    → events_in calls ≢ [] → IsSettled program calls
settles laws program count real unused calls r some = settled laws program real.served real.sending unused calls r.stands (r.flushed some) r.rises

pub runs_fronts : {A : Type 0} → WireLaws → (program : Program A) (count : ℕ) (real : Now A) (unused : ℕ) (calls : List WireCall) → Running program count real unused calls
    → AreFronts (nodes_in (state_after program calls)) calls
runs_fronts laws program count real unused calls r = rests_fronts laws program real.served real.sending unused calls r.stands

-- ---- before the first event

record AreQuiet (calls : List WireCall) : Type 0 where
  heard : heard_in calls ≡ []
  no_event : events_in calls ≡ []
  spares : (channel : ℕ) → Spares channel calls
  sound : list_any breaks calls ≡ false
  puts : (before : List ℕ) → fold put_on_wire before calls ≡ before

quiet_first : (call : WireCall) (calls : List WireCall) → has_listened call ≡ true → AreQuiet calls → AreQuiet (call ∷ calls)
quiet_first (Listened address (Ok answer)) calls is q = record { heard = q.heard; no_event = q.no_event; spares = q.spares; sound = q.sound; puts = q.puts }
quiet_first (Listened address (Err refusal)) calls is q = absurd (false≢true is)
quiet_first (Connected peer answer) calls is q = absurd (false≢true is)
quiet_first (Gave answer) calls is q = absurd (false≢true is)
quiet_first (Offered channel piece answer) calls is q = absurd (false≢true is)
quiet_first (Shut channel) calls is q = absurd (false≢true is)

listening_quiet : (calls : List WireCall) → list_all has_listened calls ≡ true → AreQuiet calls
listening_quiet [] all = record { heard = refl; no_event = refl; spares = λ channel. refl; sound = refl; puts = λ before. refl }
listening_quiet (call ∷ calls) all =
    let parts = and_parts (has_listened call) (list_all has_listened calls) all in quiet_first call calls parts.0 (listening_quiet calls parts.1)

opened_places : {A : Type 0} → (program : Program A) (calls more : List WireCall) → events_in calls ≡ [] → list_all has_listened more ≡ true → EachBehind (IsInPlace program) calls more
opened_places program calls [] quiet_yet all = each_none (IsInPlace program) calls
opened_places program calls (call ∷ more) quiet_yet all =
    let parts = and_parts (has_listened call) (list_all has_listened more) all in
    let first = quiet_first call [] parts.0 (listening_quiet [] refl) in
    each_both (IsInPlace program) calls (call ∷ []) more (each_one (IsInPlace program) calls call (listens_in_place call quiet_yet parts.0))
    (opened_places program (calls ++ call ∷ []) more (same_events calls (call ∷ []) first.no_event ∙ quiet_yet) parts.1)
  where
    listens_in_place : (call : WireCall) → events_in calls ≡ [] → has_listened call ≡ true → IsInPlace program calls call
    listens_in_place (Listened address answer) quiet is = quiet
    listens_in_place (Connected peer answer) quiet is = absurd (false≢true is)
    listens_in_place (Gave answer) quiet is = absurd (false≢true is)
    listens_in_place (Offered channel piece answer) quiet is = absurd (false≢true is)
    listens_in_place (Shut channel) quiet is = absurd (false≢true is)

pub starts : {A : Type 0} → WireLaws → (program : Program A) (real : Now A) (unused : ℕ) (calls : List WireCall) → IsOpened program real unused calls → Running program 0 real unused calls
starts laws program real unused calls o =
    let begins : Landed program program.first [] o.earlier [] program.begins =
    record { sent = []; state = refl; holds = record { lines = none 0; below = tt; spares = λ channel missing. refl } } in
    let h = goes_keeps laws program program.first o.earlier unused program.begins (done real.served) [] real.sending [] o.connects o.goes begins in
    let q = listening_quiet o.addresses o.listened in
    let now : List WireCall = o.connects ++ o.addresses in
    let no_events : events_in now ≡ [] = same_events o.connects o.addresses q.no_event ∙ h.no_event in
    let no_puts : channels_put now ≡ [] = fold-append put_on_wire [] o.connects o.addresses ∙ q.puts (fold put_on_wire [] o.connects) ∙ h.puts [] in
    subst (λ (cs : List WireCall). Running program 0 real unused cs) (sym o.called)
    (record {
      serves = each_more (IsInPlace program) o.connects o.addresses h.in_place
          (opened_places program o.connects o.addresses h.no_event o.listened);
      peer_is = o.peer;
      stands = record {
        sent = h.landed.sent;
        state = state_stays program o.connects o.addresses q.heard ∙ h.landed.state;
        holds = holds_more laws unused o.connects o.addresses h.landed.sent real.sending q.spares h.landed.holds;
      };
      flushed = λ some. absurd (some no_events);
      rises = subst (λ (ks : List ℕ). IsStrictlyIncreasing ks) (sym no_puts) (rising 0 [] tt);
      counted = ap length no_events;
      goes_on = ap (λ (es : List WireEvent). list_any is_stop es) no_events;
      sound = none_of_both breaks o.connects o.addresses h.sound q.sound;
    })

-- none of the puts breaks a run
pub no_breaking_in : (calls : List WireCall) → list_any fails calls ≡ false → list_any breaks calls ≡ false
no_breaking_in [] sound = refl
no_breaking_in (Listened address (Ok answer) ∷ calls) sound = no_breaking_in calls sound
no_breaking_in (Listened address (Err refusal) ∷ calls) sound = absurd (false≢true (sym sound))
no_breaking_in (Connected peer (Ok answer) ∷ calls) sound = no_breaking_in calls sound
no_breaking_in (Connected peer (Err refusal) ∷ calls) sound = absurd (false≢true (sym sound))
no_breaking_in (Gave (Ok event) ∷ calls) sound = no_breaking_in calls sound
no_breaking_in (Gave (Err refusal) ∷ calls) sound = absurd (false≢true (sym sound))
no_breaking_in (Offered channel piece answer ∷ calls) sound = no_breaking_in calls sound
no_breaking_in (Shut channel ∷ calls) sound = no_breaking_in calls sound

-- ---- an event, and what the program do with it

pub event_in_place : {A : Type 0} → WireLaws → (program : Program A) (count : ℕ) (real : Now A) (unused : ℕ) (calls : List WireCall) (answer : Result WireEvent WireRefusal)
    → Running program count real unused calls → EachBehind (IsInPlace program) calls (Gave answer ∷ [])
event_in_place laws program count real unused calls answer r =
    each_one (IsInPlace program) calls (Gave answer)
    (record { rests = rests_so program real.served real.sending unused calls r.stands; settled = settles laws program count real unused calls r })

-- a run in the middle of a turn
pub record Heeding {A : Type 0} (program : Program A) (event : WireEvent) (calls now : List WireCall) : Type 0 where
  pub serves : Serves program now
  pub came : events_in now ≡ events_in calls ++ event ∷ []
  pub sound : list_any breaks now ≡ false
  pub puts : channels_put now ≡ []

pub heeding : {A : Type 0} → WireLaws → (program : Program A) (count : ℕ) (real : Now A) (unused : ℕ) (calls : List WireCall) (event : WireEvent)
    → Running program count real unused calls → Heeding program event calls (calls ++ gave event ∷ [])
heeding laws program count real unused calls event r =
    record {
      serves = each_more (IsInPlace program) calls (gave event ∷ []) r.serves (event_in_place laws program count real unused calls (Ok event) r);
      came = events_then calls event;
      sound = none_of_both breaks calls (gave event ∷ []) r.sound refl;
      puts = fold-append put_on_wire [] calls (gave event ∷ []);
    }

pub heeds_more : {A : Type 0} → (program : Program A) (event : WireEvent) (calls now more : List WireCall) → EachBehind (IsInPlace program) now more → events_in more ≡ [] → list_any breaks more ≡ false
    → ((before : List ℕ) → fold put_on_wire before more ≡ before) → Heeding program event calls now → Heeding program event calls (now ++ more)
heeds_more program event calls now more places quiet sound puts h =
    record {
      serves = each_more (IsInPlace program) now more h.serves places;
      came = same_events now more quiet ∙ h.came;
      sound = none_of_both breaks now more h.sound sound;
      puts = fold-append put_on_wire [] now more ∙ puts (fold put_on_wire [] now) ∙ h.puts;
    }

-- the connects of a turn, and then the program rest
pub record Heeded {A : Type 0} (program : Program A) (served : A) (sending : Rows) (unused : ℕ) (event : WireEvent) (calls now : List WireCall) : Type 0 where
  pub heeding : Heeding program event calls now
  pub stands : Resting program served sending unused now

abbrev pub with_event : List WireCall → WireEvent → List WireCall → List WireCall
with_event calls event connects = (calls ++ gave event ∷ []) ++ connects

pub heeded : {A : Type 0} → WireLaws → (program : Program A) (count : ℕ) (real : Now A) (unused later : ℕ) (calls : List WireCall) (event : WireEvent) (served : A) (sending : Rows) (connects : List WireCall)
    → IsTrue (can_come unused event) → Running program count real unused calls
    → Goes (peer_of program) (unused_after_next (Ok event) unused) later (program.behaviour.handled event real.served) (done served) (opened_by event real.sending) sending connects
    → Heeded program served sending later event calls (with_event calls event connects)
heeded laws program count real unused later calls event served sending connects can r goes =
    let at : List WireCall = calls ++ gave event ∷ [] in
    let h = goes_keeps laws program real.served (unused_after_next (Ok event) unused) later (program.behaviour.handled event real.served) (done served) (opened_by event real.sending) sending at connects goes
    (event_keeps laws program real.served r.stands.sent real.sending unused calls event can r.stands.state r.stands.holds) in
    record {
      heeding = heeds_more program event calls at connects h.in_place h.no_event h.sound h.puts (heeding laws program count real unused calls event r);
      stands = record { sent = h.landed.sent; state = h.landed.state; holds = h.landed.holds };
    }

-- ---- and the puts behind it

pub served_so : {A : Type 0} → (program : Program A) (served : A) (sending : Rows) (unused : ℕ) (calls : List WireCall) → (r : Resting program served sending unused calls)
    → AreServed by_wires (nodes_in (state_after program calls)) (events_in calls) r.sent
served_so {A = A} program served sending unused calls r channel s there =
    ap (λ (st : State A). (wire_in (item_on channel (sent_in st))).queued) r.state ∙ ap (λ (o : Option Wire). (wire_in o).queued) (item_found Wire channel r.sent ∙ there)

-- a run after one more turn
pub record Turned {A : Type 0} (program : Program A) (new : Now A) (unused : ℕ) (event : WireEvent) (calls now : List WireCall) : Type 0 where
  pub serves : Serves program now
  pub stands : Resting program new.served new.sending unused now
  pub flushed : AllFlushed its_own now new.sending
  pub rises : IsStrictlyIncreasing (channels_put now)
  pub came : events_in now ≡ events_in calls ++ event ∷ []
  pub sound : list_any breaks now ≡ false

-- puts alone, which leave all as it stands
pub record Put {A : Type 0} (program : Program A) (new : Now A) (unused : ℕ) (at now : List WireCall) : Type 0 where
  pub serves : Serves program now
  pub stands : Resting program new.served new.sending unused now
  pub flushed : AllFlushed its_own now new.sending
  pub rises : IsStrictlyIncreasing (channels_put now)
  pub came : events_in now ≡ events_in at
  pub inside : list_any reaches_out now ≡ list_any reaches_out at
  pub sound : list_any breaks now ≡ false

pub put_on : {A : Type 0} → WireLaws → (program : Program A) (new : Now A) (sending : Rows) (unused : ℕ) (at puts : List WireCall) → Serves program at → Resting program new.served sending unused at
    → channels_put at ≡ [] → list_any breaks at ≡ false → FlushesKept its_own sending new.sending puts → Put program new unused at (at ++ puts)
put_on laws program new sending unused at puts serves st unput sound flushes =
    let nodes = nodes_in (state_after program at) in
    let f = flush_keeps by_wires (wires_keep laws) nodes at puts 0 st.sent sending flushes.flushed (served_so program new.served sending unused at st) st.holds.lines flushes.flushes in
    let are : ArePuts puts = record { no_event = f.among.no_event; sound = f.among.sound; inside = f.among.inside } in
    let resting = rests_so program new.served sending unused at st in
    let placed = puts_placed program at puts are resting f.in_place in
    let put = f.rising [] in
    let channels : channels_put (at ++ puts) ≡ put.channels =
    fold-append put_on_wire [] at puts ∙ ap (λ (ks : List ℕ). fold put_on_wire ks puts) unput ∙ put.puts in
    let now : List WireCall = at ++ puts in
    record {
      serves = each_more (IsInPlace program) at puts serves placed;
      stands = record {
        sent = st.sent;
        state = state_stays program at puts (puts_heard puts are) ∙ st.state;
        holds = record {
          lines = subst (λ (rows : Rows). Stand by_wires now 0 st.sent rows) (sym flushes.kept) (filter_keeps by_wires now 0 st.sent flushes.flushed f.lines);
          below = st.holds.below;
          spares = λ channel missing. none_of_both (is_on channel) at puts (st.holds.spares channel missing) (f.among.spares channel missing);
        };
      };
      flushed = subst (λ (rows : Rows). AllFlushed its_own now rows) (sym flushes.kept) (filter_flushed its_own now flushes.flushed f.flushed);
      rises = subst (λ (ks : List ℕ). IsStrictlyIncreasing ks) (sym channels) (rising 0 put.channels put.rises);
      came = same_events at puts f.among.no_event;
      inside = list_any-append reaches_out at puts ∙ ap (λ (b : Bool). list_any reaches_out at || b) f.among.inside ∙ or_false (list_any reaches_out at);
      sound = none_of_both breaks at puts sound (no_breaking_in puts f.among.sound);
    }

put_behind : {A : Type 0} → WireLaws → (program : Program A) (new : Now A) (sending : Rows) (unused : ℕ) (event : WireEvent) (calls at puts : List WireCall)
    → Heeded program new.served sending unused event calls at → FlushesKept its_own sending new.sending puts → Turned program new unused event calls (at ++ puts)
put_behind laws program new sending unused event calls at puts h flushes =
    let p = put_on laws program new sending unused at puts h.heeding.serves h.stands h.heeding.puts h.heeding.sound flushes in
    record { serves = p.serves; stands = p.stands; flushed = p.flushed; rises = p.rises; came = p.came ∙ h.heeding.came; sound = p.sound }

pub turn_split : (calls : List WireCall) (event : WireEvent) (connects puts all : List WireCall) → all ≡ gave event ∷ (connects ++ puts)
    → (with_event calls event connects) ++ puts ≡ calls ++ all
turn_split calls event connects puts all is =
    append_assoc (calls ++ gave event ∷ []) connects puts ∙ append_assoc calls (gave event ∷ []) (connects ++ puts) ∙ ap (λ (cs : List WireCall). calls ++ cs) (sym is)

pub turned : {A : Type 0} → WireLaws → (program : Program A) (count : ℕ) (real new : Now A) (unused unused_then : ℕ) (is_last : Bool) (calls more : List WireCall)
    → Running program count real unused calls → (t : IsTurn program.behaviour real new unused unused_then is_last more) → Turned program new unused_then t.event calls (calls ++ more)
turned laws program count real new unused unused_then is_last calls more r t =
    subst (λ (cs : List WireCall). Turned program new unused_then t.event calls cs) (turn_split calls t.event t.connects t.puts more t.called)
    (put_behind laws program new t.sending unused_then t.event calls (with_event calls t.event t.connects) t.puts
    (heeded laws program count real unused unused_then calls t.event new.served t.sending t.connects t.can r
    (subst (λ (p : List ℕ). Goes p (unused_after_next (Ok t.event) unused) unused_then (program.behaviour.handled t.event real.served) (done new.served) (opened_by t.event real.sending) t.sending t.connects) r.peer_is t.goes))
    t.flushes)

pub runs_on : {A : Type 0} → WireLaws → (program : Program A) (count : ℕ) (real new : Now A) (unused unused_then : ℕ) (calls more : List WireCall)
    → Running program count real unused calls → IsTurn program.behaviour real new unused unused_then false more → Running program (count + 1) new unused_then (calls ++ more)
runs_on laws program count real new unused unused_then calls more r t =
    let then = turned laws program count real new unused unused_then false calls more r t in
    record {
      serves = then.serves;
      peer_is = t.peer ∙ r.peer_is;
      stands = then.stands;
      flushed = λ some. then.flushed;
      rises = then.rises;
      counted = one_longer (events_in calls) (events_in (calls ++ more)) t.event count then.came r.counted;
      goes_on = ap (λ (es : List WireEvent). list_any is_stop es) then.came ∙ list_any-append is_stop (events_in calls) (t.event ∷ [])
          ∙ ap (λ (b : Bool). b || (is_stop t.event || false)) r.goes_on ∙ ap (λ (b : Bool). b || false) (sym t.last);
      sound = then.sound;
    }
