-- The end of a run says how the client and its script stand.
use Rattle.std.proofs.Common.{◌≡◌, ◌≢◌, ℕ, zero, suc, ◌==◌, Bool, true, false, ◌&&◌, ◌||◌, List, [], ◌∷◌, length, Option, Some, None, Result, Ok, Err, refl, ap, sym, subst, ◌∙◌}
use Rattle.std.specs.Prelude.{if◌then◌else◌, option_map}
use Rattle.channel_core.specs.Closing.{is_closed}
use Rattle.channel_core.specs.EndValue.{EndValue}
use Rattle.channel_core.specs.Receiving.{delivered, ended as bytes_ended}
use Rattle.channel_core.specs.Taking.{next_taken}
use Rattle.channel_core.specs.declared.states.Cause.{Cause}
use Rattle.channel_core.specs.declared.states.Cause.TheVariants as causes
use Rattle.channel_core.specs.declared.states.EndState.{EndState}
use Rattle.channel_core.specs.declared.states.EndState.TheVariants.{Closed, Live, Opening, Reopening}
use Rattle.channel_core.specs.declared.taking.Taken.{Taken}
use Rattle.channel_core.specs.declared.taking.Taken.TheVariants as taken
use Rattle.client_node.specs.Client.{closed as client_closed, noted, not_recognised, pending_on, took, turned_by, turned_on, waiting_on}
use Rattle.client_node.specs.ClientValue.{ClientValue}
use Rattle.client_node.specs.Lines.{event_line, final_line, hello_line, progress_line}
use Rattle.tcf_message.specs.Message.{MessageValue, command, event, final, flow, not_known, progress, reading}
use Rattle.tcf_message.specs.declared.message.MessageFault.{MessageFault}
use Rattle.tcf_text.specs.declared.log.LogLine.{LogLine}
use Rattle.tcf_schedules.specs.declared.script.ScriptLine.{ScriptLine}
use Rattle.tcf_wires.specs.declared.event.WireEvent.{WireEvent}
use Rattle.tcf_wires.specs.declared.event.WireEvent.TheVariants as events
use Rattle.serving_wires.specs.declared.intake.Came.{Came}
use Rattle.serving_wires.specs.declared.intake.Came.TheVariants.{Piece, End}
use Rattle.client_serving.specs.Lines.{did_lines}
use Rattle.serving_wires.specs.Serving.{is_stop}
use Rattle.client_serving.specs.Serving.{acted, after_event, after_message, after_turn, all_gathered, all_taken, came_to, cause_in, cause_of, done_if_so, emptied, heard_on, is_done, is_its, nothing_left, one_taken, stopped, taken_so_many, went_on, with_lines}
use Rattle.client_serving.specs.ServingValue.{ServingValue}
use Rattle.client_serving.specs.declared.end.ClientEnd.{ClientEnd}
use Rattle.client_serving.specs.declared.end.ClientEnd.TheVariants.{Done, Ended, Turns}
use Rattle.client_serving.proofs.Standing.{IsOpenEnd, IsShut, Leaves, Outcome, delivered_open, delivered_shut, emptied_open, emptied_shut, ended_open, ended_shut, next_gives, own_open, queued_open}
use Rattle.client_serving.proofs.Lining.{AfterLines, IsOpenOn, IsShutOn, closed_open, closed_shut, goes_on, is_over, lines_open, none_pending}
use Rattle.list_laws.proofs.Flags.{and_first}

-- ---- how the channel and the lines stand, by the end

pub data EndedFor (cause : Cause) (channel : Option (EndValue ℕ)) (is_stopped : Bool) : Type 0 where
  by_channel : IsShutOn cause channel → cause ≢ causes.Own → EndedFor cause channel is_stopped
  by_stop : IsOpenOn channel → cause ≡ causes.Ended → is_stopped ≡ true → EndedFor cause channel is_stopped

-- the run isn't done, and nothing has stopped it
pub record IsGoing (left : List ScriptLine) (channel : Option (EndValue ℕ)) (is_stopped : Bool) : Type 0 where
  pub open_yet : IsOpenOn channel
  pub undone : (nothing_left left && (pending_on channel == 0)) ≡ false
  pub unstopped : is_stopped ≡ false

pub record IsThrough (left : List ScriptLine) (channel : Option (EndValue ℕ)) : Type 0 where
  pub shut : IsShutOn causes.Own channel
  pub none : left ≡ []

abbrev pub StandsAt : Option ClientEnd → List ScriptLine → Option (EndValue ℕ) → Bool → Type 0
StandsAt None left channel is_stopped = IsGoing left channel is_stopped
StandsAt (Some Done) left channel is_stopped = IsThrough left channel
StandsAt (Some (Ended cause)) left channel is_stopped = EndedFor cause channel is_stopped
StandsAt (Some Turns) left channel is_stopped = ⊥

abbrev pub Stands : ServingValue → Bool → Type 0
Stands s is_stopped = StandsAt s.end s.left s.client.channel is_stopped

-- a run that goes on
abbrev going : ServingValue → ServingValue
going s = record s { end = None }

-- ---- lines are done

none_left : (left : List ScriptLine) → nothing_left left ≡ true → left ≡ []
none_left [] is = refl
none_left (line ∷ later) is = cc

through : (s : ServingValue) → AfterLines s.client.channel s.left → is_done s ≡ true → IsThrough s.left (client_closed s.client).channel
through s (goes_on p) is = record { shut = closed_open s.client.channel s.client p; none = none_left s.left (and_first (nothing_left s.left) (pending_on s.client.channel == 0) is) }
through s (is_over p none) is = record { shut = closed_shut causes.Own s.client.channel s.client p; none = none }

shut_is_done : (s : ServingValue) → IsShutOn causes.Own s.client.channel → s.left ≡ [] → is_done s ≡ true
shut_is_done s shut none = rw (none, none_pending causes.Own s.client.channel shut) refl

still : (s : ServingValue) → AfterLines s.client.channel s.left → is_done s ≡ false → IsGoing s.left s.client.channel false
still s (goes_on p) is = record { open_yet = p; undone = is; unstopped = refl }
still s (is_over p none) is = absurd (false_true (sym is ∙ shut_is_done s p none))
  where
    false_true : false ≡ true → ⊥
    false_true e = cc

done_stands : (s : ServingValue) → AfterLines s.client.channel s.left → Stands (done_if_so (going s)) false
done_stands s after = by_flag (is_done s) refl
  where
    by_flag : (flag : Bool) → is_done s ≡ flag → Stands (if flag then record s { client = client_closed s.client; end = Some Done } else going s) false
    by_flag true is = through s after is
    by_flag false is = still s after is

pub went_on_stands : (s : ServingValue) → IsOpenOn s.client.channel → Stands (went_on (going s)) false
unfolding went_on
went_on_stands s old = done_stands (with_lines (did_lines s.left s.client) s) (lines_open s.left s.client old)

-- ---- a message is taken

open_state : (state : EndState) → is_closed state ≡ false → cause_in state ≡ None
open_state Opening staying = refl
open_state Live staying = refl
open_state Reopening staying = refl
open_state (Closed cause) staying = cc

pub open_cause : (channel : Option (EndValue ℕ)) → IsOpenOn channel → cause_of channel ≡ None
open_cause None old = absurd old
open_cause (Some e) old = open_state e.state old.staying

pub shut_cause : (cause : Cause) (channel : Option (EndValue ℕ)) → IsShutOn cause channel → cause_of channel ≡ Some cause
shut_cause cause None old = absurd old
shut_cause cause (Some e) old = ap cause_in old.closed

-- the channel is open yet, and lines are done
message_open : (c : ClientValue) (s : ServingValue) → IsOpenOn c.channel → Stands (after_message (cause_of c.channel) (record s { client = c; end = None })) false
message_open c s old =
    subst (λ cause. Stands (after_message cause (record s { client = c; end = None })) false) (sym (open_cause c.channel old))
    (went_on_stands (record s { client = c }) old)

noted_open : (line : Option LogLine) (e : EndValue ℕ) (c : ClientValue) → IsOpenEnd e → IsOpenOn (noted line (record c { channel = Some e })).channel
noted_open None e c old = old
noted_open (Some line) e c old = old

answered_open : (m : Result MessageValue MessageFault) (e : EndValue ℕ) → IsOpenEnd e → IsOpenEnd (not_recognised m e)
answered_open (Ok (command token service name body)) e old = own_open _ (queued_open (not_known token) None e old)
answered_open (Ok (final token body)) e old = old
answered_open (Ok (progress token body)) e old = old
answered_open (Ok (not_known token)) e old = old
answered_open (Ok (event service name body)) e old = old
answered_open (Ok (flow level)) e old = old
answered_open (Err fault) e old = old

took_stands : (what : Taken ℕ) (e : EndValue ℕ) (c : ClientValue) (s : ServingValue) → Leaves what e
    → Stands (after_message (cause_of (took what e c).channel) (record s { client = took what e c; end = None })) false
took_stands (taken.Hello incoming) e c s old = message_open (took (taken.Hello incoming) e c) s (noted_open (hello_line incoming.mark (reading incoming.raw)) e c old)
took_stands (taken.Event incoming) e c s old = message_open (took (taken.Event incoming) e c) s (noted_open (event_line incoming.mark (reading incoming.raw)) e c old)
took_stands (taken.Command incoming) e c s old = message_open (took (taken.Command incoming) e c) s (answered_open (reading incoming.raw) e old)
took_stands (taken.Progress number incoming) e c s old = message_open (took (taken.Progress number incoming) e c) s (noted_open (progress_line number incoming.mark (reading incoming.raw)) e c old)
took_stands (taken.Final number incoming) e c s old = message_open (took (taken.Final number incoming) e c) s (noted_open (final_line number incoming.mark (reading incoming.raw)) e c old)
took_stands (taken.Closed cause) e c s old =
    let next : ServingValue = record s { client = took (taken.Closed cause) e c; end = None } in
    subst (λ found. Stands (after_message found next) false) (sym (ap cause_in old.closed))
    (by_channel (record { closed = old.closed; pending = refl }) old.other)

turned_stands : (p : Option (Taken ℕ) × EndValue ℕ) (s : ServingValue) → Outcome p.0 p.1 → Stands (going s) false → Stands (after_turn (turned_by p s.client) (going s)) false
turned_stands (None, e) s gives old = old
turned_stands (Some what, e) s gives old = took_stands what e s.client s gives

turn_stands : (channel : Option (EndValue ℕ)) (s : ServingValue) → IsOpenOn channel → Stands (going s) false → Stands (after_turn (turned_on channel s.client) (going s)) false
turn_stands None s open_yet old = absurd open_yet
turn_stands (Some e) s open_yet old = turned_stands (next_taken e) s (next_gives e open_yet) old

taken_by : (end : Option ClientEnd) (s : ServingValue) (is_stopped : Bool) → StandsAt end s.left s.client.channel is_stopped → Stands (one_taken (record s { end = end })) is_stopped
unfolding one_taken
taken_by None s is_stopped old =
    subst (λ b. Stands (after_turn (turned_on s.client.channel s.client) (going s)) b) (sym old.unstopped)
    (turn_stands s.client.channel s old.open_yet (record { open_yet = old.open_yet; undone = old.undone; unstopped = refl }))
taken_by (Some end) s is_stopped old = old

so_many : (count : ℕ) (s : ServingValue) (is_stopped : Bool) → Stands s is_stopped → Stands (taken_so_many count s) is_stopped
so_many zero s is_stopped old = old
so_many (suc count) s is_stopped old = so_many count (one_taken s) is_stopped (taken_by s.end s is_stopped old)

-- ---- what comes, and what is queued, changes neither the state of the channel nor what is pending

-- this change keeps open channels open, with what is pending, and closed ones closed
record Keeps (change : EndValue ℕ → EndValue ℕ) : Type 0 where
  opens : (e : EndValue ℕ) → IsOpenEnd e → IsOpenEnd (change e)
  rows : (e : EndValue ℕ) → IsOpenEnd e → (change e).pending ≡ e.pending
  shuts : (cause : Cause) (e : EndValue ℕ) → IsShut cause e → IsShut cause (change e)

kept : (change : EndValue ℕ → EndValue ℕ) → Keeps change → (end : Option ClientEnd) (left : List ScriptLine) (channel : Option (EndValue ℕ)) (is_stopped : Bool)
    → StandsAt end left channel is_stopped → StandsAt end left (option_map change channel) is_stopped
kept change k None left None is_stopped old = absurd old.open_yet
kept change k None left (Some e) is_stopped old = record {
  open_yet = k.opens e old.open_yet;
  undone = ap (λ (rows : List (ℕ × ℕ)). nothing_left left && (length rows == 0)) (k.rows e old.open_yet) ∙ old.undone;
  unstopped = old.unstopped;
}
kept change k (Some Done) left None is_stopped old = absurd old.shut
kept change k (Some Done) left (Some e) is_stopped old = record { shut = k.shuts causes.Own e old.shut; none = old.none }
kept change k (Some (Ended cause)) left None is_stopped (by_channel p other) = absurd p
kept change k (Some (Ended cause)) left None is_stopped (by_stop p is on) = absurd p
kept change k (Some (Ended cause)) left (Some e) is_stopped (by_channel p other) = by_channel (k.shuts cause e p) other
kept change k (Some (Ended cause)) left (Some e) is_stopped (by_stop p is on) = by_stop (k.opens e p) is on
kept change k (Some Turns) left channel is_stopped old = absurd old

delivering : (bytes : List ℕ) → Keeps (delivered bytes None)
delivering bytes = record {
  opens = λ e old. own_open _ (delivered_open bytes None e old);
  rows = λ e old. (delivered_open bytes None e old).pending;
  shuts = λ cause e old. delivered_shut cause bytes None e old;
}

ending : Keeps (λ e. if e.is_spent then e else bytes_ended e)
ending = record {
  opens = λ e old. own_open _ (ended_open e old);
  rows = λ e old. (ended_open e old).pending;
  shuts = λ cause e old. ended_shut cause e old;
}

emptying : Keeps emptied
emptying = record {
  opens = λ e old. own_open _ (emptied_open e old);
  rows = λ e old. (emptied_open e old).pending;
  shuts = λ cause e old. emptied_shut cause e old;
}

came_stands : (what : Came) (s : ServingValue) (is_stopped : Bool) → Stands s is_stopped → Stands (record s { client = came_to what s.client }) is_stopped
came_stands (Piece bytes) s is_stopped old = kept (delivered bytes None) (delivering bytes) s.end s.left s.client.channel is_stopped old
came_stands End s is_stopped old = kept (λ e. if e.is_spent then e else bytes_ended e) ending s.end s.left s.client.channel is_stopped old

pub gathered_stands : (s : ServingValue) (is_stopped : Bool) → Stands s is_stopped → Stands (all_gathered s) is_stopped
unfolding all_gathered
gathered_stands s is_stopped old = kept emptied emptying s.end s.left s.client.channel is_stopped old

-- ---- an event

heard_stands : (channel : ℕ) (what : Came) (s : ServingValue) (is_stopped : Bool) → Stands s is_stopped → Stands (heard_on channel what s) is_stopped
heard_stands channel what s is_stopped old = by_flag (is_its channel s.channel)
  where
    by_flag : (flag : Bool) → Stands (if flag then all_taken (record s { client = came_to what s.client }) else s) is_stopped
    by_flag true = so_many (waiting_on (came_to what s.client).channel) (record s { client = came_to what s.client }) is_stopped (came_stands what s is_stopped old)
    by_flag false = old

stop_stands : (end : Option ClientEnd) (s : ServingValue) (is_stopped : Bool) → StandsAt end s.left s.client.channel is_stopped → Stands (stopped (record s { end = end })) true
stop_stands None s is_stopped old = by_stop old.open_yet refl refl
stop_stands (Some Done) s is_stopped old = old
stop_stands (Some (Ended cause)) s is_stopped (by_channel p other) = by_channel p other
stop_stands (Some (Ended cause)) s is_stopped (by_stop p is on) = by_stop p is refl
stop_stands (Some Turns) s is_stopped old = old

unless_stop : (s : ServingValue) (is_stopped : Bool) → Stands s is_stopped → Stands s (is_stopped || false)
unless_stop s true old = old
unless_stop s false old = old

pub acted_stands : (what : WireEvent) (s : ServingValue) (is_stopped : Bool) → Stands s is_stopped → Stands (acted what s) (is_stopped || is_stop what)
unfolding acted
acted_stands (events.Opened channel) s is_stopped old = unless_stop s is_stopped old
acted_stands (events.Piece channel bytes) s is_stopped old = unless_stop (heard_on channel (Piece bytes) s) is_stopped (heard_stands channel (Piece bytes) s is_stopped old)
acted_stands (events.Ended channel) s is_stopped old = unless_stop (heard_on channel End s) is_stopped (heard_stands channel End s is_stopped old)
acted_stands (events.Lost channel) s is_stopped old = unless_stop (heard_on channel End s) is_stopped (heard_stands channel End s is_stopped old)
acted_stands events.Idle s is_stopped old = unless_stop s is_stopped old
acted_stands events.Stop s is_stopped old = subst (Stands (stopped s)) (sym (or_true is_stopped)) (stop_stands s.end s is_stopped old)
  where
    or_true : (b : Bool) → (b || true) ≡ true
    or_true true = refl
    or_true false = refl

pub event_stands : (what : WireEvent) (s : ServingValue) (is_stopped : Bool) → Stands s is_stopped → Stands (after_event what s) (is_stopped || is_stop what)
unfolding after_event
event_stands what s is_stopped old = gathered_stands (acted what s) (is_stopped || is_stop what) (acted_stands what s is_stopped old)
