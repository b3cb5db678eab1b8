-- No command is queued before a Hello is taken.
use Rattle.std.proofs.Common.{◌≡◌, ℕ, ◌+◌, ◌==◌, Bool, true, false, cond, not, ◌&&◌, List, [], ◌∷◌, ◌++◌, length, Option, Some, None, Result, Ok, Err, refl, sym, ap, ◌∙◌, subst, append-nil}
use Rattle.std.specs.Prelude.{pos, int_lt}
use Rattle.std.specs.List.{filter, list_any}
use Rattle.std.proofs.lemmas.Bool.{or_parts}
use Rattle.std.proofs.lemmas.List.Folds.{list_any-append}
use Rattle.stream_escape.specs.Fed.{fed}
use Rattle.stream_escape.specs.declared.stream.Item.{Item}
use Rattle.stream_escape.specs.declared.stream.Item.TheVariants as items
use Rattle.stream_escape.specs.declared.stream.StreamFault.{StreamFault}
use Rattle.tcf_message.specs.Message.{MessageValue, command, event, final, flow, not_known, progress, reading}
use Rattle.tcf_message.specs.declared.message.MessageFault.{MessageFault}
use Rattle.channel_core.specs.Beginning.{new_end}
use Rattle.channel_core.specs.Closing.{closed_for, farewell, is_closed}
use Rattle.channel_core.specs.EndValue.{EndValue}
use Rattle.channel_core.specs.Greeting.{WaitsForHello, is_greeting}
use Rattle.channel_core.specs.Holding.{is_free, is_live, let_out, released, sent_out}
use Rattle.channel_core.specs.Laws.{listed}
use Rattle.channel_core.specs.Level.{is_due, leveled, level_of}
use Rattle.channel_core.specs.Receiving.{came_by, counted, delivered, entered, heard, is_over, item_came, stopped_by}
use Rattle.channel_core.specs.RunLaws.{AfterAllCalls, is_command}
use Rattle.channel_core.specs.Runs.{Call, Run, after_call, after_calls, begun, closing, commanding, delivering, draining, ending, message_of, putting_out, sending, taking, unless_refused}
use Rattle.channel_core.specs.Sending.{commanded, made, sent_or_held, refusal_to}
use Rattle.channel_core.specs.Taking.{is_early, judged_by, message_taken, next_taken, stop_taken, taken_as, taken_from}
use Rattle.channel_core.specs.Wire.{Said, answers, asks, goes_on, greets, said, said_in, tells}
use Rattle.channel_core.specs.declared.held.Arrived.{Arrived}
use Rattle.channel_core.specs.declared.held.Held.{Held}
use Rattle.channel_core.specs.declared.held.Incoming.{Incoming}
use Rattle.channel_core.specs.declared.held.Outgoing.{Outgoing}
use Rattle.channel_core.specs.declared.sending.SendRefusal.{SendRefusal}
use Rattle.channel_core.specs.declared.states.Cause.{Cause}
use Rattle.channel_core.specs.declared.states.Cause.TheVariants.{Own}
use Rattle.channel_core.specs.declared.states.EndState.{EndState}
use Rattle.channel_core.specs.declared.states.EndState.TheVariants.{Closed, Live, Opening, Reopening}
use Rattle.channel_core.specs.Judged.{Judged, Greets, TooEarly}
use Rattle.channel_core.specs.declared.taking.Taken.{Taken}
use Rattle.channel_core.specs.declared.taking.Taken.TheVariants as taken
use Rattle.channel_core.proofs.Commands.{farewell_none, none_more, taken_out, unheld_none}
use Rattle.channel_core.proofs.Keeping.{either_keeps}
use Rattle.channel_core.proofs.Running.{Stands, stands_after, stands_at_first}

abbrev pub IsUngreeted : EndState → Type 0
IsUngreeted Opening = Unit {0}
IsUngreeted Live = ⊥
IsUngreeted Reopening = ⊥
IsUngreeted (Closed cause) = Unit {0}

record Waits {T : Type 0} (given : List Outgoing) (e : EndValue T) : Type 0 where
  ungreeted : IsUngreeted e.state
  none : filter is_command (given ++ e.queued) ≡ []

waits_more : {T : Type 0} → (given more : List Outgoing) (e next : EndValue T) → next.state ≡ e.state → next.queued ≡ e.queued ++ more → filter is_command more ≡ [] → Waits given e → Waits given next
waits_more given more e next state queued none w = record {
  ungreeted = subst IsUngreeted (sym state) w.ungreeted;
  none = ap (λ os. filter is_command (given ++ os)) queued ∙ none_more is_command given e.queued more none ∙ w.none;
}

waits_same : {T : Type 0} → (given : List Outgoing) (e next : EndValue T) → next.state ≡ e.state → next.queued ≡ e.queued → Waits given e → Waits given next
waits_same given e next state queued w = waits_more given [] e next state (queued ∙ sym (append-nil e.queued)) refl w

pub not_live : (state : EndState) → IsUngreeted state → is_live state ≡ false
not_live Opening is = refl
not_live Live is = absurd is
not_live Reopening is = absurd is
not_live (Closed cause) is = refl

not_free : {T : Type 0} → (e : EndValue T) → IsUngreeted e.state → is_free e ≡ false
not_free e is = ap (λ b. b && not (int_lt (pos 0) e.told)) (not_live e.state is)

waits_released : {T : Type 0} → (given : List Outgoing) (e : EndValue T) → Waits given e → Waits given (released e)
waits_released given e w = subst (Waits given) (sym (ap (λ b. cond b (let_out e.held e) e) (not_free e w.ungreeted))) w

waits_leveled : {T : Type 0} → (given : List Outgoing) (e : EndValue T) → Waits given e → Waits given (leveled e)
waits_leveled given e w =
    either_keeps (Waits given) (is_due e.is_loud (level_of (length e.inbox))) _ e (waits_more given (said (flow (level_of (length e.inbox))) None ∷ []) e _ refl refl refl w) w

waits_closed : {T : Type 0} → (given : List Outgoing) (cause : Cause) (e : EndValue T) → Waits given e → Waits given (closed_for cause e)
waits_closed given cause e w = record { ungreeted = tt; none = none_more is_command given e.queued (farewell cause) (farewell_none is_command cause refl) ∙ w.none }

-- ---- What comes

waits_entered : {T : Type 0} → (given : List Outgoing) (raw : List ℕ) (mark : Option ℕ) (e : EndValue T) → Waits given e → Waits given (entered raw mark e)
waits_entered given raw mark e w =
    let next = record e { inbox = e.inbox ++ record { number = e.came; incoming = record { raw = raw; mark = mark } } ∷ [] } in
    waits_leveled given next (waits_same given e next refl refl w)

waits_heard : {T : Type 0} → (given : List Outgoing) (raw : List ℕ) (mark : Option ℕ) (message : Result MessageValue MessageFault) (e : EndValue T) → Waits given e → Waits given (heard raw mark message e)
waits_heard given raw mark (Err fault) e w = waits_same given e _ refl refl w
waits_heard given raw mark (Ok (flow level)) e w = let next = record e { told = level } in waits_released given next (waits_same given e next refl refl w)
waits_heard given raw mark (Ok (command token service name body)) e w = waits_entered given raw mark e w
waits_heard given raw mark (Ok (final token body)) e w = waits_entered given raw mark e w
waits_heard given raw mark (Ok (progress token body)) e w = waits_entered given raw mark e w
waits_heard given raw mark (Ok (not_known token)) e w = waits_entered given raw mark e w
waits_heard given raw mark (Ok (event service name body)) e w = waits_entered given raw mark e w

waits_item : {T : Type 0} → (given : List Outgoing) (mark : Option ℕ) (item : Item) (e : EndValue T) → Waits given e → Waits given (item_came mark item e)
waits_item given mark (items.Message raw) e w = let next = record e { came = counted e.came } in waits_heard given raw mark (reading raw) next (waits_same given e next refl refl w)
waits_item given mark items.End e w = waits_same given e _ refl refl w

waits_came : {T : Type 0} → (given : List Outgoing) (mark : Option ℕ) (list : List Item) (e : EndValue T) → Waits given e → Waits given (came_by mark list e)
waits_came given mark [] e w = w
waits_came given mark (item ∷ list) e w =
    waits_came given mark list (cond (is_over e) e (item_came mark item e)) (either_keeps (Waits given) (is_over e) e _ w (waits_item given mark item e w))

waits_stopped : {T : Type 0} → (given : List Outgoing) (answer : Result Unit StreamFault) (e : EndValue T) → Waits given e → Waits given (stopped_by answer e)
waits_stopped given (Ok done) e w = w
waits_stopped given (Err fault) e w = either_keeps (Waits given) (is_over e) e _ w (waits_same given e _ refl refl w)

waits_delivered : {T : Type 0} → (given : List Outgoing) (piece : List ℕ) (mark : Option ℕ) (e : EndValue T) → Waits given e → Waits given (delivered piece mark e)
waits_delivered given piece mark e w =
    let came = fed piece e.stream in
    let next = record e { stream = came.reader } in
    waits_stopped given came.answer (came_by mark came.items next) (waits_came given mark came.items next (waits_same given e next refl refl w))

-- ---- What is taken: a Hello, or a closing

abbrev WaitsUnless : {T : Type 0} → List Outgoing → Option (Taken T) × EndValue T → Type 0
WaitsUnless given next = list_any is_greeting (listed next.0) ≡ false → Waits given next.1

waits_early : {T : Type 0} → (given : List Outgoing) (number : ℕ) (i : Incoming) (s : Said) (e : EndValue T) → e.state ≡ Opening → Waits given e → WaitsUnless given (message_taken number i s e)
waits_early given number i greets e opening w = by_flag (is_early e.state greets)
  where
    by_flag : (flag : Bool) → WaitsUnless given (taken_as number i (cond flag TooEarly Greets) e)
    by_flag true none = waits_closed given _ e w
    by_flag false none = absurd cc
waits_early {T = T} given number i tells e opening w =
    let P : Judged → Type 0 = λ what. WaitsUnless given (taken_as number i what e) in
    subst P (sym (ap (λ state. cond (is_early state tells) TooEarly (judged_by tells e)) opening)) (λ none. waits_closed given _ e w)
waits_early given number i asks e opening w =
    let P : Judged → Type 0 = λ what. WaitsUnless given (taken_as number i what e) in
    subst P (sym (ap (λ state. cond (is_early state asks) TooEarly (judged_by asks e)) opening)) (λ none. waits_closed given _ e w)
waits_early given number i (goes_on token) e opening w =
    let P : Judged → Type 0 = λ what. WaitsUnless given (taken_as number i what e) in
    subst P (sym (ap (λ state. cond (is_early state (goes_on token)) TooEarly (judged_by (goes_on token) e)) opening)) (λ none. waits_closed given _ e w)
waits_early given number i (answers token done) e opening w =
    let P : Judged → Type 0 = λ what. WaitsUnless given (taken_as number i what e) in
    subst P (sym (ap (λ state. cond (is_early state (answers token done)) TooEarly (judged_by (answers token done) e)) opening)) (λ none. waits_closed given _ e w)

waits_stop : {T : Type 0} → (given : List Outgoing) (stop : Option Cause) (e : EndValue T) → Waits given e → WaitsUnless given (stop_taken stop e)
waits_stop given None e w none = w
waits_stop given (Some cause) e w none = waits_closed given cause e w

pub opening_or : (state : EndState) → IsUngreeted state → is_closed state ≡ false → state ≡ Opening
opening_or Opening is open_yet = refl
opening_or Live is open_yet = absurd is
opening_or Reopening is open_yet = absurd is
opening_or (Closed cause) is open_yet = absurd cc

waits_taken : {T : Type 0} → (given : List Outgoing) (inbox : List Arrived) (e : EndValue T) → (is_closed e.state ≡ true → inbox ≡ []) → Waits given e → WaitsUnless given (taken_from inbox e)
waits_taken given [] e emptied w = waits_stop given e.stop e w
waits_taken given (arrived ∷ inbox) e emptied w = by_state (is_closed e.state) refl
  where
    by_state : (flag : Bool) → is_closed e.state ≡ flag → WaitsUnless given (taken_from (arrived ∷ inbox) e)
    by_state true closed = let empty : arrived ∷ inbox ≡ [] = emptied closed in absurd cc
    by_state false staying =
        let next = record e { inbox = inbox } in
        waits_early given arrived.number arrived.incoming (said_in arrived.incoming.raw) next (opening_or e.state w.ungreeted staying) (waits_same given e next refl refl w)

-- ---- Commands

waits_held : {T : Type 0} → (given : List Outgoing) (h : Held) (e : EndValue T) → Waits given e → Waits given (sent_or_held h e)
waits_held given h e w =
    subst (Waits given) (sym (ap (λ b. cond b (sent_out h e) (record e { held = e.held ++ h ∷ [] })) (not_free e w.ungreeted))) (waits_same given e _ refl refl w)

waits_commanded : {T : Type 0} → (refusal : Option SendRefusal) (given : List Outgoing) (service name body : List ℕ) (tag : T) (mark : Option ℕ) (e : EndValue T) → Waits given e
    → Waits given (unless_refused refusal e (commanded service name body tag mark e))
waits_commanded (Some why) given service name body tag mark e w = w
waits_commanded None given service name body tag mark e w =
    let h = made (e.last + 1) service name body mark in waits_same given (sent_or_held h e) _ refl refl (waits_held given h e w)

-- ---- Every call

abbrev IsWaiting : {T : Type 0} → Run T → Type 0
IsWaiting r = list_any is_greeting r.past.taken ≡ false → Waits r.past.given r.end

waiting_called : {T : Type 0} → (call : Call T) (r : Run T) → Stands r → IsWaiting r → IsWaiting (after_call call r)
waiting_called (delivering piece mark) r s i none = waits_delivered r.past.given piece mark r.end (i none)
waiting_called ending r s i none = either_keeps (Waits r.past.given) (is_over r.end) r.end _ (i none) (waits_same r.past.given r.end _ refl refl (i none))
waiting_called taking r s i none =
    let parts = or_parts (list_any is_greeting r.past.taken) (list_any is_greeting (listed (next_taken r.end).0)) (sym (list_any-append is_greeting r.past.taken (listed (next_taken r.end).0)) ∙ none) in
    waits_taken r.past.given r.end.inbox r.end s.tidy.emptied (i parts.0) parts.1
waiting_called (commanding service name body tag mark) r s i none = waits_commanded (refusal_to service name body r.end) r.past.given service name body tag mark r.end (i none)
waiting_called (sending message mark) r s i none =
    let e = r.end in
    either_keeps (Waits r.past.given) (is_closed e.state) e _ (i none)
    (waits_more r.past.given (said (message_of message) mark ∷ []) e _ refl refl (unheld_none (λ n. n == 67) message mark refl refl refl refl) (i none))
waiting_called putting_out r s i none = record { ungreeted = (i none).ungreeted; none = ap (filter is_command) (taken_out r.past.given r.end.queued) ∙ (i none).none }
waiting_called closing r s i none = either_keeps (Waits r.past.given) (is_closed r.end.state) r.end _ (i none) (waits_closed r.past.given Own r.end (i none))
waiting_called draining r s i none = either_keeps (Waits r.past.given) (is_closed r.end.state) _ r.end (waits_same r.past.given r.end _ refl refl (i none)) (i none)

waiting : {T : Type 0} → (calls : List (Call T)) (r : Run T) → Stands r → IsWaiting r → WaitsForHello (after_calls calls r)
waiting [] r s i none = ap (filter is_command) (sym s.order) ∙ (i none).none
waiting (call ∷ calls) r s i none = waiting calls (after_call call r) (stands_after call r s) (waiting_called call r s i) none

pub all_wait : {T : Type 0} → AfterAllCalls {T = T} WaitsForHello
all_wait hello mark calls = waiting calls (begun (new_end hello mark)) (stands_at_first hello mark) (λ none. record { ungreeted = tt; none = refl })
