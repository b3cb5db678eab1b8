-- Nothing is left to do for a client whose run has no end.
use Rattle.std.proofs.Common.{◌≡◌, ℕ, zero, suc, ◌+◌, ◌<◌, ◌≤◌, ◌==◌, Bool, true, false, ◌&&◌, ◌||◌, List, [], ◌∷◌, length, Option, Some, None, Result, Ok, refl, ap, sym, subst, arith, nat_lt, nat_le}
use Rattle.std.specs.Prelude.{if◌then◌else◌, IsTrue}
use Rattle.std.proofs.lemmas.Bool.{leb-true, ltb-true, and_parts}
use Rattle.list_laws.proofs.Numbers.{above_zero}
use Rattle.channel_laws.proofs.Entries.{Fewer, all_counted, closed_entries, commanded_entries, delivered_entries, ended_entries, entries, next_fewer, none_counted, none_next, queued_entries}
use Rattle.channel_core.specs.Closing.{closed_own, is_closed}
use Rattle.channel_core.specs.EndValue.{EndValue}
use Rattle.channel_core.specs.Receiving.{ended as bytes_ended}
use Rattle.channel_core.specs.Sending.{refusal_of}
use Rattle.channel_core.specs.Taking.{next_taken}
use Rattle.channel_core.specs.declared.sending.SendRefusal.{SendRefusal}
use Rattle.channel_core.specs.declared.states.Cause.{Cause}
use Rattle.channel_core.specs.declared.states.Cause.TheVariants.{Own}
use Rattle.channel_core.specs.declared.taking.Taken.{Taken}
use Rattle.channel_core.specs.declared.taking.Taken.TheVariants as taken
use Rattle.client_node.specs.Client.{closed as client_closed, closed_for, closed_on, noted, not_recognised, pending_on, refused_for, sent_by, sent_or_refused, took, turned_by, turned_on, waiting_on}
use Rattle.client_node.specs.ClientValue.{ClientValue}
use Rattle.client_node.specs.Lines.{event_line, final_line, hello_line, progress_line, why_of}
use Rattle.tcf_message.specs.Message.{MessageValue, command, not_known, reading}
use Rattle.tcf_message.specs.declared.message.MessageFault.{MessageFault}
use Rattle.tcf_text.specs.declared.log.LogLine.{LogLine}
use Rattle.tcf_text.specs.declared.log.RefusedWhy.{RefusedWhy}
use Rattle.tcf_schedules.specs.declared.script.ScriptLine.{ScriptLine}
use Rattle.tcf_schedules.specs.declared.script.ScriptLine.TheVariants.{Send, Wait, Cached, Close}
use Rattle.tcf_wires.specs.Event.{can_come}
use Rattle.tcf_wires.specs.declared.event.WireEvent.{WireEvent}
use Rattle.tcf_wires.specs.declared.event.WireEvent.TheVariants as events
use Rattle.serving_wires.specs.Serving.{is_stop}
use Rattle.serving_wires.specs.declared.intake.Came.{Came}
use Rattle.serving_wires.specs.declared.intake.Came.TheVariants.{Piece, End}
use Rattle.client_serving.specs.Left.{CanCome, IsHeldBack, LeavesNothing}
use Rattle.client_serving.specs.Lines.{did, did_lines, is_held}
use Rattle.client_serving.specs.Run.{SaysSo}
use Rattle.client_serving.specs.Serving.{acted, after_all, after_event, after_events, after_message, after_turn, all_gathered, all_taken, begun, came_to, cause_of, client_emptied, done_if_so, heard_on, is_done, is_its, nothing_left, one_taken, opened_with, stopped, taken_so_many, went_on, with_lines}
use Rattle.client_serving.specs.ServingValue.{ServingValue}
use Rattle.client_serving.specs.declared.end.ClientEnd.{ClientEnd}
use Rattle.client_serving.specs.declared.end.ClientEnd.TheVariants.{Done}
use Rattle.client_serving.proofs.Ending.{Stands, StandsAt, event_stands}
use Rattle.client_serving.proofs.Lining.{IsOpenOn}
use Rattle.client_serving.proofs.Saying.{begun_stands, ends_say_so}
use Rattle.client_serving.proofs.Standing.{delivered_open, ended_open}

abbrev entries_on : Option (EndValue ℕ) → ℕ
entries_on None = 0
entries_on (Some e) = entries e

-- the client with this channel
abbrev on : Option (EndValue ℕ) → ClientValue → ClientValue
on channel c = record c { channel = channel }

-- no more than so many entries wait, and the first line that is left is held
record Waits (most : ℕ) (s : ServingValue) : Type 0 where
  few : entries_on s.client.channel ≤ most
  held : IsHeldBack s.left (pending_on s.client.channel)

abbrev WaitsYet : ℕ → ServingValue → Type 0
WaitsYet most s = s.end ≡ None → Waits most s

-- ---- a line brings no entry

refused_few : (why : Option RefusedWhy) (c : ClientValue) → entries_on (refused_for why c).channel ≤ entries_on c.channel
refused_few None c = omega arith
refused_few (Some why) c = omega arith

or_refused_few : (refusal : Option SendRefusal) (e : EndValue ℕ) (c : ClientValue) (service name body : List ℕ)
    → entries_on (sent_or_refused refusal e service name body (on (Some e) c)).channel ≤ entries e
or_refused_few None e c service name body = (commanded_entries service name body (e.last + 1) None e).0
or_refused_few (Some why) e c service name body = refused_few (why_of why) (on (Some e) c)

sent_few : (channel : Option (EndValue ℕ)) (c : ClientValue) (service name body : List ℕ)
    → entries_on (sent_by channel service name body (on channel c)).channel ≤ entries_on channel
sent_few None c service name body = omega arith
sent_few (Some e) c service name body = or_refused_few (refusal_of (length service + length name + length body) e) e c service name body

closed_few : (channel : Option (EndValue ℕ)) (c : ClientValue) → entries_on (closed_on channel (on channel c)).channel ≤ entries_on channel
closed_few None c = omega arith
closed_few (Some e) c = by_flag (is_closed e.state)
  where
    by_flag : (flag : Bool) → entries_on (if flag then on (Some e) c else closed_for Own (closed_own e) (on (Some e) c)).channel ≤ entries e
    by_flag true = omega arith
    by_flag false = (closed_entries e).0

line_few : (line : ScriptLine) (c : ClientValue) → entries_on (did line c).channel ≤ entries_on c.channel
line_few (Send service name body) c = sent_few c.channel c service name body
line_few Wait c = omega arith
line_few (Cached what) c = omega arith
line_few Close c = closed_few c.channel c

-- lines are done until the first that is left is held
record AreDone (most : ℕ) (result : ClientValue × List ScriptLine) : Type 0 where
  few : entries_on result.0.channel ≤ most
  held : IsHeldBack result.1 (pending_on result.0.channel)

done_by : (flag : Bool) (most : ℕ) (line : ScriptLine) (later : List ScriptLine) (c : ClientValue) (goes : ClientValue × List ScriptLine)
    → is_held line (pending_on c.channel) ≡ flag → entries_on c.channel ≤ most → AreDone most goes → AreDone most (if flag then (c, line ∷ later) else goes)
done_by true most line later c goes is few all = record { few = few; held = is }
done_by false most line later c goes is few all = all

lines_done : (script : List ScriptLine) (most : ℕ) (c : ClientValue) → entries_on c.channel ≤ most → AreDone most (did_lines script c)
lines_done [] most c few = record { few = few; held = tt }
lines_done (line ∷ later) most c few =
    done_by (is_held line (pending_on c.channel)) most line later c (did_lines later (did line c)) refl few
    (let less = line_few line c in lines_done later most (did line c) (omega (arith, few, less)))

done_waits : (most : ℕ) (s : ServingValue) → AreDone most (s.client, s.left) → WaitsYet most (done_if_so s)
done_waits most s all = by_flag (is_done s)
  where
    by_flag : (flag : Bool) → WaitsYet most (if flag then record s { client = client_closed s.client; end = Some Done } else s)
    by_flag true = λ going. absurd cc
    by_flag false = λ going. record { few = all.few; held = all.held }

went_on_waits : (most : ℕ) (s : ServingValue) → entries_on s.client.channel ≤ most → WaitsYet most (went_on s)
unfolding went_on
went_on_waits most s few =
    let all = lines_done s.left most s.client few in
    done_waits most (with_lines (did_lines s.left s.client) s) (record { few = all.few; held = all.held })

-- ---- each message that is taken is one fewer

message_waits : (cause : Option Cause) (most : ℕ) (s : ServingValue) → entries_on s.client.channel ≤ most → WaitsYet most (after_message cause s)
message_waits None most s few = went_on_waits most s few
message_waits (Some cause) most s few = λ going. absurd cc

noted_few : (line : Option LogLine) (c : ClientValue) → entries_on (noted line c).channel ≤ entries_on c.channel
noted_few None c = omega arith
noted_few (Some line) c = omega arith

answered_few : (m : Result MessageValue MessageFault) (e : EndValue ℕ) → entries (not_recognised m e) ≤ entries e
answered_few (Ok (command token service name body)) e = (queued_entries (not_known token) None e).0
answered_few m e = omega arith

took_few : (what : Taken ℕ) (e : EndValue ℕ) (c : ClientValue) → entries_on (took what e c).channel ≤ entries e
took_few (taken.Hello incoming) e c = noted_few (hello_line incoming.mark (reading incoming.raw)) (on (Some e) c)
took_few (taken.Event incoming) e c = noted_few (event_line incoming.mark (reading incoming.raw)) (on (Some e) c)
took_few (taken.Command incoming) e c = answered_few (reading incoming.raw) e
took_few (taken.Progress number incoming) e c = noted_few (progress_line number incoming.mark (reading incoming.raw)) (on (Some e) c)
took_few (taken.Final number incoming) e c = noted_few (final_line number incoming.mark (reading incoming.raw)) (on (Some e) c)
took_few (taken.Closed cause) e c = omega arith

turned_waits : (most : ℕ) (e : EndValue ℕ) (p : Option (Taken ℕ) × EndValue ℕ) (s : ServingValue) → Fewer e p → entries_on s.client.channel ≡ entries e
    → entries e ≤ suc most → IsHeldBack s.left (pending_on s.client.channel) → WaitsYet most (after_turn (turned_by p s.client) s)
turned_waits most e (None, next) s none same few held = λ going. record { few = omega (arith, same, none.0); held = held }
turned_waits most e (Some what, next) s less same few held =
    let c = took what next s.client in
    let fewer = took_few what next s.client in
    message_waits (cause_of c.channel) most (record s { client = c }) (omega (arith, fewer, less.0, few))

turn_waits : (most : ℕ) (channel : Option (EndValue ℕ)) (s : ServingValue) → s.client.channel ≡ channel → entries_on channel ≤ suc most
    → IsHeldBack s.left (pending_on s.client.channel) → WaitsYet most (after_turn (turned_on channel s.client) s)
turn_waits most None s is few held = λ going. record { few = (let none = ap entries_on is in omega (arith, none)); held = held }
turn_waits most (Some e) s is few held = turned_waits most e (next_taken e) s (next_fewer e) (ap entries_on is) few held

one_waits : (most : ℕ) (end : Option ClientEnd) (s : ServingValue) → WaitsYet (suc most) (record s { end = end }) → WaitsYet most (one_taken (record s { end = end }))
unfolding one_taken
one_waits most None s old =
    let now : ServingValue = record s { end = None } in
    let w = old refl in turn_waits most s.client.channel now refl w.few w.held
one_waits most (Some end) s old = λ going. absurd cc

so_many_wait : (count : ℕ) (s : ServingValue) → WaitsYet count s → WaitsYet 0 (taken_so_many count s)
so_many_wait zero s old = old
so_many_wait (suc count) s old = so_many_wait count (one_taken s) (one_waits count s.end s old)

-- ---- something comes

abbrev Comes : Came → Type 0
Comes (Piece bytes) = length bytes ≤ 65536
Comes End = Unit {0}

spent_few : (flag : Bool) (e : EndValue ℕ) → entries (if flag then e else bytes_ended e) ≤ entries e + 1
spent_few true e = omega arith
spent_few false e = ended_entries e

came_few : (what : Came) (channel : Option (EndValue ℕ)) (c : ClientValue) → Comes what → entries_on (came_to what (on channel c)).channel ≤ entries_on channel + 65537
came_few (Piece bytes) None c can = omega arith
came_few (Piece bytes) (Some e) c can = let more = delivered_entries bytes None e in omega (arith, more, can)
came_few End None c can = omega arith
came_few End (Some e) c can = let more = spent_few e.is_spent e in omega (arith, more)

came_pending : (what : Came) (channel : Option (EndValue ℕ)) (c : ClientValue) → IsOpenOn channel → pending_on (came_to what (on channel c)).channel ≡ pending_on channel
came_pending what None c old = absurd old
came_pending (Piece bytes) (Some e) c old = ap length (delivered_open bytes None e old).pending
came_pending End (Some e) c old = ap length (ended_open e old).pending

counted : (channel : Option (EndValue ℕ)) → entries_on channel ≤ 65537 → waiting_on channel ≡ entries_on channel
counted None few = refl
counted (Some e) few = all_counted e (omega (arith, few))

open_while : (end : Option ClientEnd) (s : ServingValue) (is_stopped : Bool) → StandsAt end s.left s.client.channel is_stopped → end ≡ None → IsOpenOn s.client.channel
open_while None s is_stopped old going = old.open_yet
open_while (Some end) s is_stopped old going = absurd cc

came_waits : (what : Came) (s : ServingValue) (is_stopped : Bool) → Comes what → Stands s is_stopped → WaitsYet 0 s
    → WaitsYet (waiting_on (came_to what s.client).channel) (record s { client = came_to what s.client })
came_waits what s is_stopped can stands old = λ going.
    let w = old going in
    let more = came_few what s.client.channel s.client can in
    let same = came_pending what s.client.channel s.client (open_while s.end s is_stopped stands going) in
    let all = counted (came_to what s.client).channel (omega (arith, more, w.few)) in
    record { few = omega (arith, all); held = subst (IsHeldBack s.left) (sym same) w.held }

heard_waits : (channel : ℕ) (what : Came) (s : ServingValue) (is_stopped : Bool) → Comes what → Stands s is_stopped → WaitsYet 0 s → WaitsYet 0 (heard_on channel what s)
heard_waits channel what s is_stopped can stands old = by_flag (is_its channel s.channel)
  where
    by_flag : (flag : Bool) → WaitsYet 0 (if flag then all_taken (record s { client = came_to what s.client }) else s)
    by_flag true = so_many_wait (waiting_on (came_to what s.client).channel) (record s { client = came_to what s.client }) (came_waits what s is_stopped can stands old)
    by_flag false = old

stopped_waits : (end : Option ClientEnd) (s : ServingValue) → WaitsYet 0 (stopped (record s { end = end }))
stopped_waits None s = λ going. absurd cc
stopped_waits (Some end) s = λ going. absurd cc

acted_waits : (event : WireEvent) (s : ServingValue) (is_stopped : Bool) → IsTrue (can_come 0 event) → Stands s is_stopped → WaitsYet 0 s → WaitsYet 0 (acted event s)
unfolding acted
acted_waits (events.Opened channel) s is_stopped can stands old = old
acted_waits (events.Piece channel bytes) s is_stopped can stands old =
    heard_waits channel (Piece bytes) s is_stopped (leb-true (length bytes) 65536 (and_parts (nat_lt 0 (length bytes)) (nat_le (length bytes) 65536) can).1) stands old
acted_waits (events.Ended channel) s is_stopped can stands old = heard_waits channel End s is_stopped tt stands old
acted_waits (events.Lost channel) s is_stopped can stands old = heard_waits channel End s is_stopped tt stands old
acted_waits events.Idle s is_stopped can stands old = old
acted_waits events.Stop s is_stopped can stands old = stopped_waits s.end s

-- ---- what is queued leaves both as they are

emptied_entries : (flag : Bool) (e : EndValue ℕ) → entries (if flag then e else record e { queued = [] }) ≡ entries e
emptied_entries true e = refl
emptied_entries false e = refl

emptied_pending : (flag : Bool) (e : EndValue ℕ) → length (if flag then e else record e { queued = [] }).pending ≡ length e.pending
emptied_pending true e = refl
emptied_pending false e = refl

gathered_few : (channel : Option (EndValue ℕ)) (c : ClientValue) → entries_on (client_emptied (on channel c)).channel ≡ entries_on channel
gathered_few None c = refl
gathered_few (Some e) c = emptied_entries e.is_spent e

gathered_pending : (channel : Option (EndValue ℕ)) (c : ClientValue) → pending_on (client_emptied (on channel c)).channel ≡ pending_on channel
gathered_pending None c = refl
gathered_pending (Some e) c = emptied_pending e.is_spent e

gathered_waits : (most : ℕ) (s : ServingValue) → WaitsYet most s → WaitsYet most (all_gathered s)
unfolding all_gathered
gathered_waits most s old = λ going.
    let w = old going in
    let few = gathered_few s.client.channel s.client in
    record { few = omega (arith, few, w.few); held = subst (IsHeldBack s.left) (sym (gathered_pending s.client.channel s.client)) w.held }

event_waits : (event : WireEvent) (s : ServingValue) (is_stopped : Bool) → IsTrue (can_come 0 event) → Stands s is_stopped → WaitsYet 0 s → WaitsYet 0 (after_event event s)
unfolding after_event
event_waits event s is_stopped can stands old = gathered_waits 0 (acted event s) (acted_waits event s is_stopped can stands old)

all_wait : (events : List WireEvent) (s : ServingValue) (is_stopped : Bool) → CanCome events → Stands s is_stopped → WaitsYet 0 s → WaitsYet 0 (after_all events s)
all_wait [] s is_stopped can stands old = old
all_wait (event ∷ events) s is_stopped can stands old =
    all_wait events (after_event event s) (is_stopped || is_stop event) can.1 (event_stands event s is_stopped stands) (event_waits event s is_stopped can.0 stands old)

begun_waits : (address : List ℕ) (channel : ℕ) (script : List ScriptLine) → WaitsYet 0 (begun address channel script)
begun_waits address channel script =
    let first = opened_with address channel script in
    gathered_waits 0 (went_on first) (went_on_waits 0 first (omega arith))

-- ---- so nothing is left

not_taken : (p : Option (Taken ℕ) × EndValue ℕ) (c : ClientValue) → p.0 ≡ None → (turned_by p c).0 ≡ false
not_taken (None, next) c none = refl
not_taken (Some what, next) c none = absurd cc

none_taken : (channel : Option (EndValue ℕ)) (c : ClientValue) → entries_on channel ≡ 0 → (turned_on channel c).0 ≡ false
none_taken None c none = refl
none_taken (Some e) c none = not_taken (next_taken e) c (none_next e none)

none_waiting : (channel : Option (EndValue ℕ)) → entries_on channel ≡ 0 → waiting_on channel ≡ 0
none_waiting None none = refl
none_waiting (Some e) none = none_counted e none

none_done : (left : List ScriptLine) (c : ClientValue) → IsHeldBack left (pending_on c.channel) → did_lines left c ≡ (c, left)
none_done [] c held = refl
none_done (line ∷ later) c held = ap (λ (b : Bool). if b then (c, line ∷ later) else did_lines later (did line c)) held

still_pending : (left : List ScriptLine) (pending : ℕ) → IsHeldBack left pending → (nothing_left left && (pending == 0)) ≡ false → 0 < pending
still_pending [] pending held undone = above_zero pending undone
still_pending (Send service name body ∷ later) pending held undone = absurd cc
still_pending (Wait ∷ later) pending held undone = ltb-true 0 pending held
still_pending (Cached what ∷ later) pending held undone = absurd cc
still_pending (Close ∷ later) pending held undone = absurd cc

undone_while : (end : Option ClientEnd) (s : ServingValue) (events : List WireEvent) → SaysSo end s events → end ≡ None → is_done s ≡ false
undone_while None s events says going = says.1
undone_while (Some end) s events says going = absurd cc

pub leaves_nothing : LeavesNothing
leaves_nothing address channel script events can going =
    let last = after_events address channel script events in
    let w = all_wait events (begun address channel script) false can (begun_stands address channel script) (begun_waits address channel script) going in
    let none : entries_on last.client.channel ≡ 0 = omega (arith, w.few) in
    record {
      untaken = none_taken last.client.channel last.client none;
      none_waits = none_waiting last.client.channel none;
      held = w.held;
      undone = none_done last.left last.client w.held;
      pending = still_pending last.left (pending_on last.client.channel) w.held (undone_while last.end last events (ends_say_so address channel script events) going);
    }
