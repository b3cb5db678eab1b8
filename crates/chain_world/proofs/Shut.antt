-- An end that is closed, with nothing in its inbox, stays so; and one that takes its last entry is such an end.
use Rattle.std.proofs.Common.{◌≡◌, ℕ, Bool, true, ◌||◌, cond, List, [], ◌∷◌, Option, Some, None, Result, Ok, Err, refl, sym, ap, ◌∙◌, subst}
use Rattle.std.specs.Prelude.{is_some, slice_get}
use Rattle.channel_core.specs.Closing.{closed_for, is_closed}
use Rattle.channel_core.specs.EndValue.{EndValue}
use Rattle.channel_core.specs.Receiving.{came_by, delivered as end_delivered, ended as end_ended, is_over, item_came, stopped_by, with_last}
use Rattle.channel_core.specs.Sending.{queued}
use Rattle.channel_core.specs.Taking.{finished, next_taken, number_at, progressed, stop_taken, taken_as, taken_from}
use Rattle.channel_core.specs.declared.held.Arrived.{Arrived}
use Rattle.channel_core.specs.declared.held.Incoming.{Incoming}
use Rattle.channel_core.specs.declared.states.Cause.{Cause}
use Rattle.channel_core.specs.declared.states.Cause.TheVariants.{Ended}
use Rattle.channel_core.specs.Judged.{Judged, TooEarly, Stray, Greets, Tells, Asks, GoesOn, Answers}
use Rattle.channel_core.specs.declared.taking.Taken.{Taken}
use Rattle.channel_core.specs.declared.taking.Taken.TheVariants as taken
use Rattle.stream_escape.specs.Fed.{fed}
use Rattle.stream_escape.specs.Value.{UnescapeValue}
use Rattle.stream_escape.specs.declared.stream.Item.{Item}
use Rattle.stream_escape.specs.declared.stream.StreamFault.{StreamFault}
use Rattle.tcf_message.specs.Message.{MessageValue, command, event, final, flow, not_known, progress}
use Rattle.tcf_message.specs.declared.message.MessageFault.{MessageFault}
use Rattle.value_node.specs.Passing.{not_recognised}

pub record IsShut {T : Type 0} (e : EndValue T) : Type 0 where
  pub closed : is_closed e.state ≡ true
  pub inbox : e.inbox ≡ []
  pub stop : e.stop ≡ None

-- it takes nothing
pub shut_takes : {T : Type 0} → (e : EndValue T) → IsShut e → next_taken e ≡ (None, e)
shut_takes e s = ap (λ inbox. taken_from inbox e) s.inbox ∙ ap (λ stop. stop_taken stop e) s.stop

-- what comes for it is dropped
came_shut : {T : Type 0} → (mark : Option ℕ) (items : List Item) (e : EndValue T) → is_closed e.state ≡ true → came_by mark items e ≡ e
came_shut mark [] e closed = refl
came_shut mark (item ∷ items) e closed =
    ap (λ b. came_by mark items (cond (b || is_some e.stop) e (item_came mark item e))) closed ∙ came_shut mark items e closed

stopped_shut : {T : Type 0} → (answer : Result Unit StreamFault) (e : EndValue T) → is_closed e.state ≡ true → stopped_by answer e ≡ e
stopped_shut (Ok done) e closed = refl
stopped_shut (Err fault) e closed = let over : is_over e ≡ true = ap (λ b. b || is_some e.stop) closed in rw over refl

with_stream : {T : Type 0} → (reader : UnescapeValue) (e : EndValue T) → IsShut e → IsShut (record e { stream = reader })
with_stream reader e s = record { closed = s.closed; inbox = s.inbox; stop = s.stop }

pub delivered_shut : {T : Type 0} → (piece : List ℕ) (mark : Option ℕ) (e : EndValue T) → IsShut e → IsShut (end_delivered piece mark e)
delivered_shut piece mark e s =
    let given = fed piece e.stream in
    let next = record e { stream = given.reader } in
    subst IsShut (sym (ap (stopped_by given.answer) (came_shut mark given.items next s.closed) ∙ stopped_shut given.answer next s.closed)) (with_stream given.reader e s)

pub ended_shut : {T : Type 0} → (e : EndValue T) → IsShut e → IsShut (end_ended e)
ended_shut e s = subst IsShut (sym (ap (λ b. cond (b || is_some e.stop) e (with_last Ended e)) s.closed)) s

queued_shut : {T : Type 0} → (message : MessageValue) (e : EndValue T) → IsShut e → IsShut (queued message None e)
queued_shut message e s = let same : queued message None e ≡ e = rw s.closed refl in subst IsShut (sym same) s

pub refused_shut : {T : Type 0} → (what : Result MessageValue MessageFault) (e : EndValue T) → IsShut e → IsShut (not_recognised what e)
refused_shut (Ok (command token service name body)) e s = queued_shut (not_known token) e s
refused_shut (Ok (final token body)) e s = s
refused_shut (Ok (progress token body)) e s = s
refused_shut (Ok (not_known token)) e s = s
refused_shut (Ok (event service name body)) e s = s
refused_shut (Ok (flow level)) e s = s
refused_shut (Err fault) e s = s

-- an end that takes its last entry is shut
abbrev pub ShutBy : {T : Type 0} → Option (Taken T) × EndValue T → Type 0
ShutBy (None, e) = Unit {0}
ShutBy (Some (taken.Hello incoming), e) = Unit {0}
ShutBy (Some (taken.Command incoming), e) = Unit {0}
ShutBy (Some (taken.Event incoming), e) = Unit {0}
ShutBy (Some (taken.Progress token incoming), e) = Unit {0}
ShutBy (Some (taken.Final tag incoming), e) = Unit {0}
ShutBy (Some (taken.Closed cause), e) = IsShut e

for_shut : {T : Type 0} → (cause : Cause) (e : EndValue T) → IsShut (closed_for cause e)
for_shut cause e = record { closed = refl; inbox = refl; stop = refl }

progressed_shut : {T : Type 0} → (number : ℕ) (incoming : Incoming) (token : Option ℕ) (e : EndValue T) → ShutBy (progressed number incoming token e)
progressed_shut number incoming None e = for_shut _ e
progressed_shut number incoming (Some token) e = tt

finished_shut : {T : Type 0} → (number : ℕ) (incoming : Incoming) (place : ℕ) (done : Bool) (row : Option (ℕ × T)) (e : EndValue T) → ShutBy (finished number incoming place done row e)
finished_shut number incoming place done None e = for_shut _ e
finished_shut number incoming place done (Some row) e = tt

as_shut : {T : Type 0} → (number : ℕ) (incoming : Incoming) (what : Judged) (e : EndValue T) → ShutBy (taken_as number incoming what e)
as_shut number incoming TooEarly e = for_shut _ e
as_shut number incoming Stray e = for_shut _ e
as_shut number incoming Greets e = tt
as_shut number incoming Tells e = tt
as_shut number incoming Asks e = tt
as_shut number incoming (GoesOn place) e = progressed_shut number incoming (number_at place e.pending) e
as_shut number incoming (Answers place done) e = finished_shut number incoming place done (slice_get e.pending place) e

stop_shut : {T : Type 0} → (stop : Option Cause) (e : EndValue T) → ShutBy (stop_taken stop e)
stop_shut None e = tt
stop_shut (Some cause) e = for_shut cause e

pub from_shut : {T : Type 0} → (inbox : List Arrived) (e : EndValue T) → ShutBy (taken_from inbox e)
from_shut [] e = stop_shut e.stop e
from_shut (arrived ∷ inbox) e = as_shut arrived.number arrived.incoming _ (record e { inbox = inbox })
