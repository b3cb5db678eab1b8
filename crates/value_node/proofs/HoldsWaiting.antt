-- An end that took no Hello waits for it or is closed, and took no message.
use Rattle.std.proofs.Common.{◌≡◌, ℕ, ◌+◌, Bool, true, false, ◌&&◌, cond, List, [], ◌∷◌, ◌++◌, length, Option, Some, None, Result, Ok, Err, refl, ap, sym, ◌∙◌}
use Rattle.std.specs.List.{flat_map, list_any}
use Rattle.std.proofs.lemmas.List.Concat.{flat_map-append}
use Rattle.std.proofs.lemmas.List.Folds.{list_any-append}
use Rattle.std.proofs.lemmas.Bool.{or_parts}
use Rattle.stream_escape.specs.Fed.{fed}
use Rattle.stream_escape.specs.declared.stream.Item.{Item}
use Rattle.stream_escape.specs.declared.stream.Item.TheVariants as items
use Rattle.stream_escape.specs.declared.stream.StreamFault.{StreamFault}
use Rattle.tcf_message.specs.Message.{MessageValue, command, event, final, flow, not_known, progress, reading}
use Rattle.tcf_message.specs.declared.message.MessageFault.{MessageFault}
use Rattle.channel_core.specs.Beginning.{new_end}
use Rattle.channel_core.specs.Closing.{closed_for, is_closed}
use Rattle.channel_core.specs.EndValue.{EndValue}
use Rattle.channel_core.specs.Greeting.{is_greeting}
use Rattle.channel_core.specs.Holding.{is_free, is_live, let_out, released, sent_out}
use Rattle.channel_core.specs.Laws.{listed}
use Rattle.channel_core.specs.Level.{is_due, level_of, leveled}
use Rattle.channel_core.specs.QueueLaws.{TakesNothingClosed}
use Rattle.channel_core.specs.Receiving.{came_by, counted, delivered, entered, heard, is_over, item_came, stopped_by, with_last}
use Rattle.channel_core.specs.ReceivingLaws.{incoming_of}
use Rattle.channel_core.specs.Runs.{Call as EndCall, Run, after_call, after_calls, begun, closing, commanding, delivering, draining, ending, putting_out, sending, taking, unless_refused}
use Rattle.channel_core.specs.RunLaws.{AfterAllCalls as AfterEndCalls}
use Rattle.channel_core.specs.Sending.{commanded, made, refusal_to}
use Rattle.channel_core.specs.Taking.{judged, next_taken, stop_taken, taken_as, taken_from}
use Rattle.channel_core.specs.Wire.{Said, answers, asks, goes_on, greets, said_in, tells}
use Rattle.channel_core.specs.declared.held.Arrived.{Arrived}
use Rattle.channel_core.specs.declared.held.Incoming.{Incoming}
use Rattle.channel_core.specs.declared.sending.SendRefusal.{SendRefusal}
use Rattle.channel_core.specs.declared.states.Cause.{Cause}
use Rattle.channel_core.specs.declared.states.Cause.TheVariants.{Ended, Own, Stream}
use Rattle.channel_core.specs.declared.states.EndState.{EndState}
use Rattle.channel_core.specs.declared.states.EndState.TheVariants.{Closed, Live, Opening, Reopening}
use Rattle.channel_core.specs.declared.taking.Taken.{Taken}
use Rattle.channel_core.proofs.TheLaws.{takes_nothing_closed}
use Rattle.value_node.proofs.Holding.{WaitsOrIsClosed}

-- where the one waits or is closed the other does or is
abbrev Stays : {T : Type 0} → EndValue T → EndValue T → Type 0
Stays e next = WaitsOrIsClosed e.state → WaitsOrIsClosed next.state

either_stays : {T : Type 0} → (flag : Bool) (one other e : EndValue T) → Stays e one → Stays e other → Stays e (cond flag one other)
either_stays true one other e is same = is
either_stays false one other e is same = same

off_stays : {T : Type 0} → (flag : Bool) (one other e : EndValue T) → flag ≡ false → Stays e other → Stays e (cond flag one other)
off_stays true one other e off same = absurd cc
off_stays false one other e off same = same

leveled_stays : {T : Type 0} → (e : EndValue T) → Stays e (leveled e)
leveled_stays e = either_stays (is_due e.is_loud (level_of (length e.inbox))) _ e e (λ w. w) (λ w. w)

-- no command goes out of it
never_free : (state : EndState) (quiet : Bool) → WaitsOrIsClosed state → (is_live state && quiet) ≡ false
never_free Opening quiet w = refl
never_free Live quiet w = absurd w
never_free Reopening quiet w = absurd w
never_free (Closed cause) quiet w = refl

released_stays : {T : Type 0} → (e : EndValue T) → Stays e (released e)
released_stays e = λ w. off_stays (is_free e) (let_out e.held e) e e (never_free e.state _ w) (λ same. same) w

-- ---- what comes

entered_stays : {T : Type 0} → (raw : List ℕ) (mark : Option ℕ) (e : EndValue T) → Stays e (entered raw mark e)
entered_stays raw mark e = leveled_stays (record e { inbox = e.inbox ++ record { number = e.came; incoming = record { raw = raw; mark = mark } } ∷ [] })

heard_stays : {T : Type 0} → (raw : List ℕ) (mark : Option ℕ) (message : Result MessageValue MessageFault) (e : EndValue T) → Stays e (heard raw mark message e)
heard_stays raw mark (Err fault) e = λ w. w
heard_stays raw mark (Ok (flow level)) e = released_stays (record e { told = level })
heard_stays raw mark (Ok (command token service name body)) e = entered_stays raw mark e
heard_stays raw mark (Ok (final token body)) e = entered_stays raw mark e
heard_stays raw mark (Ok (progress token body)) e = entered_stays raw mark e
heard_stays raw mark (Ok (not_known token)) e = entered_stays raw mark e
heard_stays raw mark (Ok (event service name body)) e = entered_stays raw mark e

item_stays : {T : Type 0} → (mark : Option ℕ) (item : Item) (e : EndValue T) → Stays e (item_came mark item e)
item_stays mark (items.Message raw) e = heard_stays raw mark (reading raw) (record e { came = counted e.came })
item_stays mark items.End e = λ w. w

came_stays : {T : Type 0} → (mark : Option ℕ) (list : List Item) (e : EndValue T) → Stays e (came_by mark list e)
came_stays mark [] e = λ w. w
came_stays mark (item ∷ list) e =
    let next = cond (is_over e) e (item_came mark item e) in
    λ w. came_stays mark list next (either_stays (is_over e) e (item_came mark item e) e (λ same. same) (item_stays mark item e) w)

stopped_stays : {T : Type 0} → (answer : Result Unit StreamFault) (e : EndValue T) → Stays e (stopped_by answer e)
stopped_stays (Ok done) e = λ w. w
stopped_stays (Err fault) e = either_stays (is_over e) e (with_last (Stream fault) e) e (λ w. w) (λ w. w)

delivered_stays : {T : Type 0} → (piece : List ℕ) (mark : Option ℕ) (e : EndValue T) → Stays e (delivered piece mark e)
delivered_stays piece mark e =
    let given = fed piece e.stream in
    let next = record e { stream = given.reader } in
    λ w. stopped_stays given.answer (came_by mark given.items next) (came_stays mark given.items next w)

commanded_stays : {T : Type 0} → (refusal : Option SendRefusal) (service name body : List ℕ) (tag : T) (mark : Option ℕ) (e : EndValue T)
    → Stays e (unless_refused refusal e (commanded service name body tag mark e))
commanded_stays (Some why) service name body tag mark e = λ w. w
commanded_stays None service name body tag mark e =
    let h = made (e.last + 1) service name body mark in
    λ w. off_stays (is_free e) (sent_out h e) (record e { held = e.held ++ h ∷ [] }) e (never_free e.state _ w) (λ same. same) w

-- ---- what is taken

-- where it isn't a Hello
abbrev FirstStays : {T : Type 0} → Option (Taken T) × EndValue T → Type 0
FirstStays next = list_any is_greeting (listed next.0) ≡ false → WaitsOrIsClosed next.1.state × (flat_map incoming_of (listed next.0) ≡ [])

said_stays : {T : Type 0} → (number : ℕ) (incoming : Incoming) (said : Said) (e : EndValue T) → e.state ≡ Opening → FirstStays (taken_as number incoming (judged said e) e)
said_stays number incoming greets e is = rw is (λ off. absurd cc)
said_stays number incoming tells e is = rw is (λ off. (tt, refl))
said_stays number incoming asks e is = rw is (λ off. (tt, refl))
said_stays number incoming (goes_on token) e is = rw is (λ off. (tt, refl))
said_stays number incoming (answers token done) e is = rw is (λ off. (tt, refl))

stop_stays : {T : Type 0} → (stop : Option Cause) (e : EndValue T) → e.state ≡ Opening → FirstStays (stop_taken stop e)
stop_stays None e is = λ off. (rw is tt, refl)
stop_stays (Some cause) e is = λ off. (tt, refl)

from_stays : {T : Type 0} → (inbox : List Arrived) (e : EndValue T) → e.state ≡ Opening → FirstStays (taken_from inbox e)
from_stays [] e is = stop_stays e.stop e is
from_stays (arrived ∷ inbox) e is = said_stays arrived.number arrived.incoming (said_in arrived.incoming.raw) (record e { inbox = inbox }) is

-- whether it waits or is closed
next_stays : {T : Type 0} → (state : EndState) (e : EndValue T) → e.state ≡ state → WaitsOrIsClosed state → (is_closed e.state ≡ true → next_taken e ≡ (None, e)) → FirstStays (next_taken e)
next_stays Opening e is w none = from_stays e.inbox e is
next_stays Live e is w none = absurd w
next_stays Reopening e is w none = absurd w
next_stays (Closed cause) e is w none = let same : next_taken e ≡ (None, e) = none (ap is_closed is) in rw same (λ off. (rw is tt, refl))

-- ---- every call

pub record Unheard {T : Type 0} (r : Run T) : Type 0 where
  pub waits : WaitsOrIsClosed r.end.state
  pub quiet : flat_map incoming_of r.past.taken ≡ []

abbrev pub OnlyWaits : {T : Type 0} → Run T → Type 0
OnlyWaits r = list_any is_greeting r.past.taken ≡ false → Unheard r

take_stays : {T : Type 0} → (r : Run T) → TakesNothingClosed r → OnlyWaits r → OnlyWaits (after_call taking r)
take_stays r none so =
    let what = listed (next_taken r.end).0 in
    λ off.
    let parts = or_parts (list_any is_greeting r.past.taken) (list_any is_greeting what) (sym (list_any-append is_greeting r.past.taken what) ∙ off) in
    let before = so parts.0 in
    let next = next_stays r.end.state r.end refl before.waits none parts.1 in
    record {
      waits = next.0;
      quiet = flat_map-append incoming_of r.past.taken what ∙ ap (λ is. is ++ flat_map incoming_of what) before.quiet ∙ next.1;
    }

call_stays : {T : Type 0} → (call : EndCall T) (r : Run T) → TakesNothingClosed r → OnlyWaits r → OnlyWaits (after_call call r)
call_stays (delivering piece mark) r none so = λ off. let before = so off in record { waits = delivered_stays piece mark r.end before.waits; quiet = before.quiet }
call_stays ending r none so =
    λ off. let before = so off in record { waits = either_stays (is_over r.end) r.end (with_last Ended r.end) r.end (λ w. w) (λ w. w) before.waits; quiet = before.quiet }
call_stays taking r none so = take_stays r none so
call_stays (commanding service name body tag mark) r none so =
    λ off. let before = so off in record { waits = commanded_stays (refusal_to service name body r.end) service name body tag mark r.end before.waits; quiet = before.quiet }
call_stays (sending message mark) r none so =
    λ off. let before = so off in record { waits = either_stays (is_closed r.end.state) r.end _ r.end (λ w. w) (λ w. w) before.waits; quiet = before.quiet }
call_stays putting_out r none so = λ off. let before = so off in record { waits = before.waits; quiet = before.quiet }
call_stays closing r none so =
    λ off. let before = so off in record { waits = either_stays (is_closed r.end.state) r.end (closed_for Own r.end) r.end (λ w. w) (λ w. tt) before.waits; quiet = before.quiet }
call_stays draining r none so =
    λ off. let before = so off in record { waits = either_stays (is_closed r.end.state) _ r.end r.end (λ w. w) (λ w. w) before.waits; quiet = before.quiet }

calls_stay : {T : Type 0} → (calls : List (EndCall T)) (r : Run T) → ((more : List (EndCall T)) → TakesNothingClosed (after_calls more r)) → OnlyWaits r → OnlyWaits (after_calls calls r)
calls_stay [] r none so = so
calls_stay (call ∷ calls) r none so = calls_stay calls (after_call call r) (λ more. none (call ∷ more)) (call_stays call r (none []) so)

pub only_waits : {T : Type 0} → AfterEndCalls {T = T} OnlyWaits
only_waits hello mark calls = calls_stay calls (begun (new_end hello mark)) (λ more. takes_nothing_closed hello mark more) (λ off. record { waits = tt; quiet = refl })
