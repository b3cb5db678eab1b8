-- What is served is a client: what it gave out is all that was queued for its wire, and it got all that came there.
use Rattle.std.proofs.Common.{◌≡◌, ℕ, ◌==◌, Bool, true, false, List, [], ◌∷◌, ◌++◌, Option, Some, None, refl, sym, ap, ◌∙◌, subst, append-nil, append_assoc, eqb-true}
use Rattle.std.specs.Prelude.{Ok, Err, cond, fold, if◌then◌else◌, option_to_list}
use Rattle.std.specs.List.{AllByRecursion}
use Rattle.std.proofs.lemmas.Bool.{false≢true}
use Rattle.std.proofs.lemmas.Grind.{flat_map-append}
use Rattle.list_laws.proofs.AllLists.{all_push}
use Rattle.channel_core.specs.Closing.{is_closed}
use Rattle.channel_core.specs.EndValue.{EndValue}
use Rattle.channel_core.specs.declared.held.Outgoing.{Outgoing}
use Rattle.channel_core.specs.declared.states.Cause.{Cause}
use Rattle.client_node.specs.Client.{after_giving, given, new_client}
use Rattle.client_node.specs.ClientValue.{ClientValue}
use Rattle.client_node.specs.Ends.{given_by, given_out}
use Rattle.client_node.specs.Runs.{Call, bytes_end, called, comes, gives, opens, run}
use Rattle.tcf_schedules.specs.declared.script.ScriptLine.{ScriptLine}
use Rattle.tcf_wires.specs.declared.event.WireEvent.{WireEvent}
use Rattle.tcf_wires.specs.declared.event.WireEvent.TheVariants as events
use Rattle.serving_wires.specs.Intake.{piece_bytes}
use Rattle.serving_wires.specs.Order.{Order, channel_of, closes, queues}
use Rattle.serving_wires.specs.Process.{Process}
use Rattle.serving_wires.specs.Row.{Row}
use Rattle.serving_wires.specs.Standing.{AreApart, Heard, Wire, State, after_one, answered as has_answered, at_first, came as has_come, is_resting, rests, sent_after, sent_in, sent_with, unused_wire, waits, wire_in, wires_with, with_piece, with_wire}
use Rattle.serving_wires.specs.declared.intake.Came.{Came}
use Rattle.serving_wires.specs.declared.intake.Came.TheVariants.{Piece, End}
use Rattle.serving_wires.proofs.Holding.{Holds, HoldsEach, LeadsTo, all_hold, all_rest, landed_holds, landed_rests}
use Rattle.serving_wires.proofs.Rows.{change_first, changed_here, changed_later, first_changed, found, item_found}
use Rattle.serving_wires.proofs.Wires.{Wires, found_new, found_push, piece_first, piece_other, piece_own, wire_own}
use Rattle.client_serving.specs.Client.{IsServed, IsWiredTo, ServesAClient, got, got_by}
use Rattle.client_serving.specs.Serving.{acted, after_all, after_event, after_events, all_gathered, all_taken, begun, bytes_of, came_to, cause_of, client_emptied, closed_for, handled, heard_on, is_its, opened_with, queue_of, sends, served_client, stopped, told, told_on, unconnected, went_on}
use Rattle.client_serving.specs.ServingValue.{ServingValue}
use Rattle.client_serving.specs.declared.end.ClientEnd.{ClientEnd}
use Rattle.client_serving.proofs.Ending.{Stands, StandsAt, acted_stands, gathered_stands, open_cause}
use Rattle.client_serving.proofs.Gathering.{with_end}
use Rattle.client_serving.proofs.Keeping.{Steps, acted_keeps, all_taken_keeps, stopped_keeps, went_on_keeps}
use Rattle.client_serving.proofs.Saying.{first_stands}
use Rattle.client_serving.proofs.Silence.{IsOver, SilentOn, acted_over, emptied_over, gathered_over, over_sends_none}
use Rattle.client_serving.proofs.Asking.{handled_never, told_never}

-- ---- one more call of a client

run_more : (calls : List Call) (call : Call) (c : ClientValue) → run (calls ++ call ∷ []) c ≡ called call (run calls c)
run_more [] call c = refl
run_more (first ∷ calls) call c = run_more calls call (called first c)

given_more : (calls : List Call) (call : Call) (c : ClientValue) → given_out (calls ++ call ∷ []) c ≡ given_out calls c ++ given_by call (run calls c)
given_more [] call c = append-nil (given_by call c)
given_more (first ∷ calls) call c =
    ap (λ outs. given_by first c ++ outs) (given_more calls call (called first c))
    ∙ sym (append_assoc (given_by first c) (given_out calls (called first c)) (given_by call (run calls (called first c))))

got_more : (calls : List Call) (call : Call) → got (calls ++ call ∷ []) ≡ got calls ++ got_by call
got_more calls call = flat_map-append got_by calls (call ∷ []) ∙ ap (λ (bs : List ℕ). got calls ++ bs) (append-nil (got_by call))

-- a client that gave out these bytes, and got these
record Gave (c : ClientValue) (bytes had : List ℕ) : Type 0 where
  calls : List Call
  client : c ≡ run calls new_client
  given_is : bytes ≡ bytes_of (given_out calls new_client)
  got_is : had ≡ got calls

called_more : (call : Call) (outs : List Outgoing) (c : ClientValue) (bytes had : List ℕ) → given_by call c ≡ outs → Gave c bytes had → Gave (called call c) (bytes ++ bytes_of outs) (had ++ got_by call)
called_more call outs c bytes had given_are old = record {
  calls = old.calls ++ call ∷ [];
  client = ap (called call) old.client ∙ sym (run_more old.calls call new_client);
  given_is =
      ap (λ bs. bs ++ bytes_of outs) old.given_is
      ∙ ap (λ os. bytes_of (given_out old.calls new_client) ++ bytes_of os) (sym given_are ∙ ap (given_by call) old.client)
      ∙ sym (flat_map-append (λ (out : Outgoing). out.bytes) (given_out old.calls new_client) (given_by call (run old.calls new_client)))
      ∙ ap bytes_of (sym (given_more old.calls call new_client));
  got_is = ap (λ bs. bs ++ got_by call) old.got_is ∙ sym (got_more old.calls call);
}

-- one that gives out nothing, and gets nothing
silent_gave : (call : Call) (c : ClientValue) (bytes had : List ℕ) → given_by call c ≡ [] → got_by call ≡ [] → Gave c bytes had → Gave (called call c) bytes had
silent_gave call c bytes had none nor old =
    let more = called_more call [] c bytes had none old in
    record { calls = more.calls; client = more.client; given_is = sym (append-nil bytes) ∙ more.given_is; got_is = sym (append-nil had) ∙ ap (λ bs. had ++ bs) (sym nor) ∙ more.got_is }

-- ---- lines and messages give out nothing, and get nothing; what comes it gets

gave_steps : (bytes had : List ℕ) → Steps (λ s. Gave s.client bytes had)
gave_steps bytes had = record { calls = λ call none nor s old. silent_gave call s.client bytes had (none s.client) nor old; apart = λ left end s old. old }

came_gave : (what : Came) (c : ClientValue) (bytes had : List ℕ) → Gave c bytes had → Gave (came_to what c) bytes (had ++ piece_bytes what)
came_gave (Piece piece) c bytes had old =
    subst (λ (bs : List ℕ). Gave (came_to (Piece piece) c) bs (had ++ piece)) (append-nil bytes) (called_more (comes piece None) [] c bytes had refl old)
came_gave End c bytes had old = subst (λ (bs : List ℕ). Gave (came_to End c) bytes bs) (sym (append-nil had)) (silent_gave bytes_end c bytes had refl refl old)

abbrev heard_bytes : Bool → Came → List ℕ
heard_bytes true what = piece_bytes what
heard_bytes false what = []

abbrev event_bytes : Option ℕ → WireEvent → List ℕ
event_bytes at (events.Opened channel) = []
event_bytes at (events.Piece channel bytes) = heard_bytes (is_its channel at) (Piece bytes)
event_bytes at (events.Ended channel) = heard_bytes (is_its channel at) End
event_bytes at (events.Lost channel) = heard_bytes (is_its channel at) End
event_bytes at events.Idle = []
event_bytes at events.Stop = []

heard_gave : (channel : ℕ) (what : Came) (bytes had : List ℕ) (s : ServingValue) → Gave s.client bytes had → Gave (heard_on channel what s).client bytes (had ++ heard_bytes (is_its channel s.channel) what)
heard_gave channel what bytes had s old = by_flag (is_its channel s.channel)
  where
    by_flag : (flag : Bool) → Gave (if flag then all_taken (record s { client = came_to what s.client }) else s).client bytes (had ++ heard_bytes flag what)
    by_flag true =
        all_taken_keeps (λ t. Gave t.client bytes (had ++ piece_bytes what)) (gave_steps bytes (had ++ piece_bytes what)) (record s { client = came_to what s.client }) (came_gave what s.client bytes had old)
    by_flag false = subst (λ (bs : List ℕ). Gave s.client bytes bs) (sym (append-nil had)) old

acted_gave : (event : WireEvent) (bytes had : List ℕ) (s : ServingValue) → Gave s.client bytes had → Gave (acted event s).client bytes (had ++ event_bytes s.channel event)
unfolding acted
acted_gave (events.Opened channel) bytes had s old = subst (λ (bs : List ℕ). Gave s.client bytes bs) (sym (append-nil had)) old
acted_gave (events.Piece channel piece) bytes had s old = heard_gave channel (Piece piece) bytes had s old
acted_gave (events.Ended channel) bytes had s old = heard_gave channel End bytes had s old
acted_gave (events.Lost channel) bytes had s old = heard_gave channel End bytes had s old
acted_gave events.Idle bytes had s old = subst (λ (bs : List ℕ). Gave s.client bytes bs) (sym (append-nil had)) old
acted_gave events.Stop bytes had s old =
    subst (λ (bs : List ℕ). Gave (stopped s).client bytes bs) (sym (append-nil had)) (stopped_keeps (λ t. Gave t.client bytes had) (gave_steps bytes had) s old)

-- ---- all that is queued is given out, one message after the other

record GivesFirst (c : ClientValue) (out : Outgoing) (outs : List Outgoing) : Type 0 where
  first : given c ≡ Some out
  rest : queue_of (after_giving c).channel ≡ outs
  same : client_emptied (after_giving c) ≡ client_emptied c

first_by : (spent : Bool) (queue : List Outgoing) (e : EndValue ℕ) (c : ClientValue) (out : Outgoing) (outs : List Outgoing) → queue_of (with_end spent queue e c).channel ≡ out ∷ outs
    → GivesFirst (with_end spent queue e c) out outs
first_by true queue e c out outs is = cc
first_by false [] e c out outs is = cc
first_by false (x ∷ xs) e c out outs is = let same : x ≡ out = cc in record { first = ap (λ y. Some y) same; rest = cc; same = refl }

first_from : (channel : Option (EndValue ℕ)) (c : ClientValue) (out : Outgoing) (outs : List Outgoing) → queue_of channel ≡ out ∷ outs → GivesFirst (record c { channel = channel }) out outs
first_from None c out outs is = cc
first_from (Some e) c out outs is = first_by e.is_spent e.queued e c out outs is

none_by : (spent : Bool) (queue : List Outgoing) (e : EndValue ℕ) (c : ClientValue) → queue_of (with_end spent queue e c).channel ≡ [] → client_emptied (with_end spent queue e c) ≡ with_end spent queue e c
none_by true queue e c is = refl
none_by false [] e c is = refl
none_by false (x ∷ xs) e c is = cc

none_from : (channel : Option (EndValue ℕ)) (c : ClientValue) → queue_of channel ≡ [] → client_emptied (record c { channel = channel }) ≡ record c { channel = channel }
none_from None c is = refl
none_from (Some e) c is = none_by e.is_spent e.queued e c is

emptied_gave : (outs : List Outgoing) (c : ClientValue) (bytes had : List ℕ) → queue_of c.channel ≡ outs → Gave c bytes had → Gave (client_emptied c) (bytes ++ bytes_of outs) had
emptied_gave [] c bytes had is old = subst (λ x. Gave x (bytes ++ []) had) (sym (none_from c.channel c is)) (subst (λ (bs : List ℕ). Gave c bs had) (sym (append-nil bytes)) old)
emptied_gave (out ∷ outs) c bytes had is old =
    let one = first_from c.channel c out outs is in
    let next : Gave (after_giving c) (bytes ++ bytes_of (out ∷ [])) (had ++ []) = called_more gives (out ∷ []) c bytes had (ap option_to_list one.first) old in
    let rest = emptied_gave outs (after_giving c) (bytes ++ bytes_of (out ∷ [])) had one.rest (subst (Gave (after_giving c) (bytes ++ bytes_of (out ∷ []))) (append-nil had) next) in
    subst (λ x. Gave x (bytes ++ bytes_of (out ∷ outs)) had) one.same
    (subst (λ (bs : List ℕ). Gave (client_emptied (after_giving c)) bs had)
    (append_assoc bytes (bytes_of (out ∷ [])) (bytes_of outs) ∙ ap (λ bs. bytes ++ bs) (sym (flat_map-append (λ (o : Outgoing). o.bytes) (out ∷ []) outs))) rest)

-- ---- after any events some calls make it

record GaveSome (c : ClientValue) : Type 0 where
  bytes : List ℕ
  had : List ℕ
  gave : Gave c bytes had

gathered_some : (s : ServingValue) → GaveSome s.client → GaveSome (all_gathered s).client
unfolding all_gathered
gathered_some s old =
    record { bytes = old.bytes ++ bytes_of (queue_of s.client.channel); had = old.had; gave = emptied_gave (queue_of s.client.channel) s.client old.bytes old.had refl old.gave }

first_gave : (address : List ℕ) (channel : ℕ) (script : List ScriptLine) → Gave (went_on (opened_with address channel script)).client [] []
first_gave address channel script =
    went_on_keeps (λ t. Gave t.client [] []) (gave_steps [] []) (opened_with address channel script)
    (silent_gave opens new_client [] [] refl refl (record { calls = []; client = refl; given_is = refl; got_is = refl }))

all_some : (events : List WireEvent) (s : ServingValue) → GaveSome s.client → GaveSome (after_all events s).client
unfolding after_event
all_some [] s old = old
all_some (event ∷ events) s old =
    all_some events (after_event event s) (gathered_some (acted event s) (record { bytes = old.bytes; had = old.had ++ event_bytes s.channel event; gave = acted_gave event old.bytes old.had s old.gave }))

pub some_calls : (address : List ℕ) (channel : ℕ) (script : List ScriptLine) (events : List WireEvent) → (calls : List Call) × ((after_events address channel script events).client ≡ run calls new_client)
some_calls address channel script events =
    let first = went_on (opened_with address channel script) in
    let g = all_some events (begun address channel script) (gathered_some first (record { bytes = []; had = []; gave = first_gave address channel script })) in
    (g.gave.calls, g.gave.client)

-- ---- its wire

record IsWire (bytes had : List ℕ) (shut : Bool) (there : Option Wire) : Type 0 where
  wire : Wire
  is : there ≡ Some wire
  queued : wire.queued ≡ bytes
  came : wire.came ≡ had
  closed : wire.is_closed ≡ shut

wire_queues : (channel : ℕ) (more bytes had : List ℕ) (sent : Wires) → IsWire bytes had false (found channel sent) → IsWire (bytes ++ more) had false (found channel (sent_with (queues channel more) sent))
wire_queues channel more bytes had sent w =
    let next : Wire = record w.wire { queued = w.wire.queued ++ more } in
    record {
      wire = next;
      is = wire_own (queues channel more) sent w.wire w.is ∙ ap (λ (b : Bool). Some (if b then w.wire else next)) w.closed;
      queued = ap (λ (bs : List ℕ). bs ++ more) w.queued;
      came = w.came;
      closed = w.closed;
    }

wire_closes : (channel : ℕ) (bytes had : List ℕ) (shut : Bool) (sent : Wires) → IsWire bytes had shut (found channel sent) → IsWire bytes had true (found channel (sent_with (closes channel) sent))
wire_closes channel bytes had shut sent w =
    record { wire = record w.wire { is_closed = true }; is = wire_own (closes channel) sent w.wire w.is; queued = w.queued; came = w.came; closed = refl }

wire_with : (more bytes had : List ℕ) (shut : Bool) (there : Option Wire) → more ≡ [] → IsWire bytes had shut there → IsWire bytes (had ++ more) shut there
wire_with more bytes had shut there none w =
    record { wire = w.wire; is = w.is; queued = w.queued; came = w.came ∙ sym (append-nil had) ∙ ap (λ (bs : List ℕ). had ++ bs) (sym none); closed = w.closed }

wire_piece : (flag : Bool) (on channel : ℕ) (piece bytes had : List ℕ) (shut : Bool) (sent : Wires) → (on == channel) ≡ flag → IsWire bytes had shut (found channel sent)
    → IsWire bytes (had ++ heard_bytes flag (Piece piece)) shut (found channel (wires_with (events.Piece on piece) sent))
wire_piece true on channel piece bytes had shut sent same w =
    let at : on ≡ channel = eqb-true on channel same in
    record {
      wire = with_piece piece w.wire;
      is = subst (λ (k : ℕ). found k (wires_with (events.Piece on piece) sent) ≡ Some (with_piece piece w.wire)) at (piece_own on piece sent w.wire (ap (λ (k : ℕ). found k sent) at ∙ w.is));
      queued = w.queued;
      came = ap (λ (bs : List ℕ). bs ++ piece) w.came;
      closed = w.closed;
    }
wire_piece false on channel piece bytes had shut sent away w =
    wire_with [] bytes had shut _ refl (record { wire = w.wire; is = piece_other on channel piece sent away ∙ w.is; queued = w.queued; came = w.came; closed = w.closed })

nothing_by : (flag : Bool) → heard_bytes flag End ≡ []
nothing_by true = refl
nothing_by false = refl

wire_event : (event : WireEvent) (channel : ℕ) (bytes had : List ℕ) (shut : Bool) (sent : Wires) → IsWire bytes had shut (found channel sent)
    → IsWire bytes (had ++ event_bytes (Some channel) event) shut (found channel (wires_with event sent))
wire_event (events.Opened new) channel bytes had shut sent w =
    wire_with [] bytes had shut _ refl (record { wire = w.wire; is = found_push channel sent _ w.wire w.is; queued = w.queued; came = w.came; closed = w.closed })
wire_event (events.Piece on piece) channel bytes had shut sent w = wire_piece (on == channel) on channel piece bytes had shut sent refl w
wire_event (events.Ended on) channel bytes had shut sent w = wire_with (heard_bytes (on == channel) End) bytes had shut _ (nothing_by (on == channel)) w
wire_event (events.Lost on) channel bytes had shut sent w = wire_with (heard_bytes (on == channel) End) bytes had shut _ (nothing_by (on == channel)) w
wire_event events.Idle channel bytes had shut sent w = wire_with [] bytes had shut _ refl w
wire_event events.Stop channel bytes had shut sent w = wire_with [] bytes had shut _ refl w

-- ---- no wire takes the place of another

abbrev NoneLeft : Wires → Type 0
NoneLeft sent = AllByRecursion (λ (r : Row Wire). r.item.is_left ≡ false) sent

none_changed : (channel : ℕ) (change : Wire → Wire) → ((w : Wire) → (change w).is_left ≡ w.is_left) → (sent : Wires) → NoneLeft sent → NoneLeft (first_changed channel change sent)
none_changed channel change same [] none = tt
none_changed channel change same (row ∷ rows) none = by_flag (row.channel == channel) refl (none_changed channel change same rows none.1)
  where
    by_flag : (flag : Bool) → (row.channel == channel) ≡ flag → NoneLeft (first_changed channel change rows) → NoneLeft (first_changed channel change (row ∷ rows))
    by_flag true is later = subst NoneLeft (sym (changed_here channel change row rows is)) (same row.item ∙ none.0, none.1)
    by_flag false is later = subst NoneLeft (sym (changed_later channel change row rows is)) (none.0, later)

none_found : (k : ℕ) (sent : Wires) → NoneLeft sent → (wire_in (found k sent)).is_left ≡ false
none_found k [] none = refl
none_found k (row ∷ rows) none = by_flag (row.channel == k) (none_found k rows none.1)
  where
    by_flag : (flag : Bool) → (wire_in (found k rows)).is_left ≡ false → (wire_in (cond flag (Some row.item) (found k rows))).is_left ≡ false
    by_flag true later = none.0
    by_flag false later = later

none_ordered : (order : Order) → ((w : Wire) → (sent_after order w).is_left ≡ w.is_left) → (sent : Wires) → NoneLeft sent → NoneLeft (sent_with order sent)
none_ordered order same sent none = subst NoneLeft (sym (change_first Wire (channel_of order) (sent_after order) sent)) (none_changed (channel_of order) (sent_after order) same sent none)

queues_leave : (channel : ℕ) (bytes : List ℕ) (w : Wire) → (sent_after (queues channel bytes) w).is_left ≡ w.is_left
queues_leave channel bytes w = by_flag w.is_closed
  where
    by_flag : (flag : Bool) → (if flag then w else record w { queued = w.queued ++ bytes }).is_left ≡ w.is_left
    by_flag true = refl
    by_flag false = refl

none_event : (event : WireEvent) (sent : Wires) → NoneLeft sent → NoneLeft (wires_with event sent)
none_event (events.Opened channel) sent none = all_push (λ (r : Row Wire). r.item.is_left ≡ false) sent _ none refl
none_event (events.Piece channel bytes) sent none = subst NoneLeft (sym (piece_first channel bytes sent)) (none_changed channel (with_piece bytes) (λ w. refl) sent none)
none_event (events.Ended channel) sent none = none
none_event (events.Lost channel) sent none = none
none_event events.Idle sent none = none
none_event events.Stop sent none = none

-- ---- connected on this channel, with its wires; for a wire that is closed it has nothing any more

record ServedOn (channel : ℕ) (s : ServingValue) (sent : Wires) : Type 0 where
  bytes : List ℕ
  had : List ℕ
  shut : Bool
  at : s.channel ≡ Some channel
  gave : Gave s.client bytes had
  wire : IsWire bytes had shut (found channel sent)
  kept : NoneLeft sent
  is_stopped : Bool
  stands : Stands s is_stopped
  over : shut ≡ true → IsOver s

acted_channel : (event : WireEvent) (at : Option ℕ) (s : ServingValue) → s.channel ≡ at → (acted event s).channel ≡ at
acted_channel event at s is = acted_keeps (λ t. t.channel ≡ at) (record { calls = λ call none nor t old. old; apart = λ left end t old. old }) (λ what t old. old) event s is

acted_on : (channel : ℕ) (event : WireEvent) (s : ServingValue) (sent : Wires) → ServedOn channel s sent → ServedOn channel (acted event s) (wires_with event sent)
acted_on channel event s sent q =
    record {
      bytes = q.bytes;
      had = q.had ++ event_bytes (Some channel) event;
      shut = q.shut;
      at = acted_channel event (Some channel) s q.at;
      gave = subst (λ (o : Option ℕ). Gave (acted event s).client q.bytes (q.had ++ event_bytes o event)) q.at (acted_gave event q.bytes q.had s q.gave);
      wire = wire_event event channel q.bytes q.had q.shut sent q.wire;
      kept = none_event event sent q.kept;
      is_stopped = _;
      stands = acted_stands event s q.is_stopped q.stands;
      over = λ is. acted_over event s (q.over is);
    }

-- ---- all that it has is queued

sends_lead : (R : ServingValue → Wires → Type 0) (channel : ℕ) (outs : List Outgoing) (next : Process ServingValue) (bytes had : List ℕ) (shut : Bool) (sent : Wires)
    → IsWire bytes had shut (found channel sent) → NoneLeft sent → (shut ≡ true → outs ≡ [])
    → ((now : Wires) → IsWire (bytes ++ bytes_of outs) had shut (found channel now) → NoneLeft now → LeadsTo R next now) → LeadsTo R (sends channel outs next) sent
sends_lead R channel [] next bytes had shut sent w none silent last = last sent (subst (λ (bs : List ℕ). IsWire bs had shut (found channel sent)) (sym (append-nil bytes)) w) none
sends_lead R channel (out ∷ outs) next bytes had true sent w none silent last = absurd (let no = silent refl in cc)
sends_lead R channel (out ∷ outs) next bytes had false sent w none silent last =
    sends_lead R channel outs next (bytes ++ out.bytes) had false (sent_with (queues channel out.bytes) sent) (wire_queues channel out.bytes bytes had sent w)
    (none_ordered (queues channel out.bytes) (queues_leave channel out.bytes) sent none) (λ is. absurd (false≢true is))
    (λ now whole kept. last now (subst (λ (bs : List ℕ). IsWire bs had false (found channel now)) (append_assoc bytes out.bytes (bytes_of outs)) whole) kept)

ended_by_stands : (end : Option ClientEnd) (left : List ScriptLine) (channel : Option (EndValue ℕ)) (is_stopped : Bool) (cause : Cause) → StandsAt end left channel is_stopped
    → cause_of channel ≡ Some cause → (last : ClientEnd) × (end ≡ Some last)
ended_by_stands None left channel is_stopped cause stands is = absurd (let open_yet = open_cause channel stands.open_yet in cc)
ended_by_stands (Some last) left channel is_stopped cause stands is = (last, refl)

close_leads : (cause : Option Cause) (channel : ℕ) (s : ServingValue) (now : Wires) → cause_of s.client.channel ≡ cause → ((found : Cause) → cause_of s.client.channel ≡ Some found → SilentOn s.client.channel)
    → ServedOn channel s now → LeadsTo (ServedOn channel) (closed_for cause channel s) now
close_leads None channel s now is silent q = q
close_leads (Some cause) channel s now is silent q =
    let ended = ended_by_stands s.end s.left s.client.channel q.is_stopped cause q.stands is in
    record {
      bytes = q.bytes;
      had = q.had;
      shut = true;
      at = q.at;
      gave = q.gave;
      wire = wire_closes channel q.bytes q.had q.shut now q.wire;
      kept = none_ordered (closes channel) (λ w. refl) now q.kept;
      is_stopped = q.is_stopped;
      stands = q.stands;
      over = λ on. record { end = ended.0; is = ended.1; silent = silent cause is };
    }

told_leads : (channel : ℕ) (s : ServingValue) (sent : Wires) → ServedOn channel s sent → LeadsTo (ServedOn channel) (told s) sent
unfolding told all_gathered
told_leads channel s sent q =
    let outs = queue_of s.client.channel in
    let next : ServingValue = record s { client = client_emptied s.client } in
    subst (λ (o : Option ℕ). LeadsTo (ServedOn channel) (told_on o outs next) sent) (sym q.at)
    (sends_lead (ServedOn channel) channel outs (closed_for (cause_of next.client.channel) channel next) q.bytes q.had q.shut sent q.wire q.kept (λ on. over_sends_none s (q.over on))
    (λ now wire kept. close_leads (cause_of next.client.channel) channel next now refl (λ cause is. emptied_over s.client.channel cause is)
    (record {
      bytes = q.bytes ++ bytes_of outs;
      had = q.had;
      shut = q.shut;
      at = q.at;
      gave = emptied_gave outs s.client q.bytes q.had refl q.gave;
      wire = wire;
      kept = kept;
      is_stopped = q.is_stopped;
      stands = gathered_stands s q.is_stopped q.stands;
      over = λ on. gathered_over s (q.over on);
    })))

served_each : (address : List ℕ) (script : List ScriptLine) (channel : ℕ) → HoldsEach (served_client address script) (ServedOn channel)
unfolding handled
served_each address script channel event s sent fresh q = told_leads channel (acted event s) (wires_with event sent) (acted_on channel event s sent q)

served_first : (address : List ℕ) (channel : ℕ) (script : List ScriptLine) → ServedOn channel (went_on (opened_with address channel script)) (with_wire channel [])
served_first address channel script =
    record {
      bytes = [];
      had = [];
      shut = false;
      at = went_on_keeps (λ t. t.channel ≡ Some channel) (record { calls = λ call none nor t old. old; apart = λ left end t old. old }) (opened_with address channel script) refl;
      gave = first_gave address channel script;
      wire = record { wire = unused_wire; is = found_new channel [] refl; queued = refl; came = refl; closed = refl };
      kept = (refl, tt);
      is_stopped = false;
      stands = first_stands address channel script;
      over = λ is. absurd (false≢true is);
    }

-- ---- where no connection was made, nothing is done

record IsUnconnected (s : ServingValue) (sent : Wires) : Type 0 where
  at : s.channel ≡ None
  client : s.client ≡ new_client
  kept : NoneLeft sent

unheard : (channel : ℕ) (what : Came) (s : ServingValue) → s.channel ≡ None → heard_on channel what s ≡ s
unheard channel what s is = ap (λ (o : Option ℕ). if is_its channel o then all_taken (record s { client = came_to what s.client }) else s) is

acted_alone : (event : WireEvent) (s : ServingValue) → s.channel ≡ None → (acted event s).client ≡ s.client
unfolding acted
acted_alone (events.Opened channel) s is = refl
acted_alone (events.Piece channel piece) s is = ap (λ (t : ServingValue). t.client) (unheard channel (Piece piece) s is)
acted_alone (events.Ended channel) s is = ap (λ (t : ServingValue). t.client) (unheard channel End s is)
acted_alone (events.Lost channel) s is = ap (λ (t : ServingValue). t.client) (unheard channel End s is)
acted_alone events.Idle s is = refl
acted_alone events.Stop s is = by_end s.end
  where
    by_end : (end : Option ClientEnd) → (stopped (record s { end = end })).client ≡ s.client
    by_end None = refl
    by_end (Some end) = refl

told_alone : (s : ServingValue) (sent : Wires) → IsUnconnected s sent → LeadsTo IsUnconnected (told s) sent
unfolding told all_gathered
told_alone s sent q =
    subst (λ (o : Option ℕ). LeadsTo IsUnconnected (told_on o (queue_of s.client.channel) (record s { client = client_emptied s.client })) sent) (sym q.at)
    (record { at = q.at; client = ap client_emptied q.client; kept = q.kept })

alone_each : (address : List ℕ) (script : List ScriptLine) → HoldsEach (served_client address script) IsUnconnected
unfolding handled
alone_each address script event s sent fresh q =
    told_alone (acted event s) (wires_with event sent)
    (record { at = acted_channel event None s q.at; client = acted_alone event s q.at ∙ q.client; kept = none_event event sent q.kept })

-- ---- so it is served

is_served : (channel : ℕ) (state : State ServingValue) → is_resting state ≡ true → Holds (ServedOn channel) state → IsServed state
is_served channel (rests s) resting q =
    record {
      calls = q.gave.calls;
      client = q.gave.client;
      wired = subst (λ (o : Option ℕ). IsWiredTo o s.sent q.gave.calls true) (sym q.at)
          (record {
            wire = q.wire.wire;
            there = item_found Wire channel s.sent ∙ q.wire.is;
            queued = q.wire.queued ∙ q.gave.given_is;
            unheard = [];
            came = q.wire.came ∙ q.gave.got_is ∙ sym (append-nil (got q.gave.calls));
            all = λ is. refl;
          });
      kept = λ k. ap (λ (o : Option Wire). (wire_in o).is_left) (item_found Wire k s.sent) ∙ none_found k s.sent q.kept;
    }
is_served channel (waits s next) resting q = absurd (false≢true resting)

is_alone : (state : State ServingValue) → is_resting state ≡ true → Holds IsUnconnected state → IsServed state
is_alone (rests s) resting q =
    record {
      calls = [];
      client = q.client;
      wired = subst (λ (o : Option ℕ). IsWiredTo o s.sent [] true) (sym q.at) tt;
      kept = λ k. ap (λ (o : Option Wire). (wire_in o).is_left) (item_found Wire k s.sent) ∙ none_found k s.sent q.kept;
    }
is_alone (waits s next) resting q = absurd (false≢true resting)

from_first : (address : List ℕ) (script : List ScriptLine) (heard : List Heard)
    → AreApart (sent_in (fold (after_one (served_client address script)) (at_first (served_client address script)) heard))
    → IsServed (fold (after_one (served_client address script)) (at_first (served_client address script)) heard)
from_first address script [] apart = record { calls = []; client = refl; wired = tt; kept = λ k. refl }
from_first address script (has_come event ∷ heard) apart = from_first address script heard apart
from_first address script (has_answered (Ok channel) ∷ heard) apart =
    let program = served_client address script in
    let state = after_one program (at_first program) (has_answered (Ok channel)) in
    let first = went_on (opened_with address channel script) in
    is_served channel (fold (after_one program) state heard)
    (all_rest program handled_never heard state (landed_rests (unconnected address script) (with_wire channel []) (told first) (told_never first)))
    (all_hold program (ServedOn channel) (served_each address script channel) heard state apart
    (landed_holds (ServedOn channel) (unconnected address script) (with_wire channel []) (told first) (told_leads channel first (with_wire channel []) (served_first address channel script))))
from_first address script (has_answered (Err refusal) ∷ heard) apart =
    let program = served_client address script in
    let state = after_one program (at_first program) (has_answered (Err refusal)) in
    is_alone (fold (after_one program) state heard) (all_rest program handled_never heard state refl)
    (all_hold program IsUnconnected (alone_each address script) heard state apart (record { at = refl; client = refl; kept = tt }))

pub serves_a_client : ServesAClient
serves_a_client address script heard apart = from_first address script heard apart
