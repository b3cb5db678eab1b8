-- Until a Hello is taken an end takes no message.
use Rattle.std.proofs.Common.{◌≡◌, ℕ, ◌+◌, Bool, true, false, cond, not, ◌&&◌, List, [], ◌∷◌, ◌++◌, length, Option, Some, None, Result, Ok, Err, refl, sym, ap, ◌∙◌, subst, append-nil, append_assoc}
use Rattle.std.specs.Prelude.{pos, int_lt}
use Rattle.std.specs.List.{flat_map, list_any}
use Rattle.std.proofs.lemmas.Bool.{or_parts}
use Rattle.std.proofs.lemmas.List.Concat.{flat_map-append}
use Rattle.std.proofs.lemmas.List.Folds.{list_any-append}
use Rattle.channel_core.specs.Beginning.{new_end}
use Rattle.channel_core.specs.Closing.{is_closed}
use Rattle.channel_core.specs.EndValue.{EndValue}
use Rattle.channel_core.specs.Greeting.{is_greeting}
use Rattle.channel_core.specs.Holding.{is_free, let_out, released, sent_out}
use Rattle.channel_core.specs.Laws.{listed}
use Rattle.channel_core.specs.Level.{is_due, level_of, leveled}
use Rattle.channel_core.specs.Receiving.{came_by, counted, delivered, entered, heard, is_over, item_came, stopped_by}
use Rattle.channel_core.specs.ReceivingLaws.{incoming_of}
use Rattle.channel_core.specs.RunLaws.{EndsOnce}
use Rattle.channel_core.specs.Runs.{Call, Run, after_call, after_calls, begun, closing, commanding, delivering, draining, ending, putting_out, sending, taking, unless_refused}
use Rattle.channel_core.specs.Sending.{commanded, made, sent_or_held, refusal_to}
use Rattle.channel_core.specs.Taking.{is_early, judged_by, message_taken, next_taken, stop_taken, taken_as, taken_from}
use Rattle.channel_core.specs.Wire.{Said, answers, asks, goes_on, greets, said_in, tells}
use Rattle.channel_core.specs.declared.held.Arrived.{Arrived}
use Rattle.channel_core.specs.declared.held.Held.{Held}
use Rattle.channel_core.specs.declared.held.Incoming.{Incoming}
use Rattle.channel_core.specs.declared.sending.SendRefusal.{SendRefusal}
use Rattle.channel_core.specs.declared.states.Cause.{Cause}
use Rattle.channel_core.specs.declared.states.EndState.TheVariants.{Opening}
use Rattle.channel_core.specs.Judged.{Judged, Greets, TooEarly}
use Rattle.channel_core.specs.declared.taking.Taken.{Taken}
use Rattle.stream_escape.specs.Fed.{fed}
use Rattle.stream_escape.specs.declared.stream.Item.{Item}
use Rattle.stream_escape.specs.declared.stream.Item.TheVariants as items
use Rattle.stream_escape.specs.declared.stream.StreamFault.{StreamFault}
use Rattle.tcf_message.specs.Message.{MessageValue, command, event, final, flow, not_known, progress, reading}
use Rattle.tcf_message.specs.declared.message.MessageFault.{MessageFault}
use Rattle.channel_core.proofs.TheLaws.{ends_once}
use Rattle.chain_route.proofs.EndCalls.{calls_more}
use Rattle.channel_core.proofs.Waiting.{IsUngreeted, not_live, opening_or}

abbrev Waits : {T : Type 0} → EndValue T → Type 0
Waits e = IsUngreeted e.state

either_waits : {T : Type 0} → (flag : Bool) (one other : EndValue T) → Waits one → Waits other → Waits (cond flag one other)
either_waits true one other i j = i
either_waits false one other i j = j

not_free : {T : Type 0} → (e : EndValue T) → Waits e → is_free e ≡ false
not_free e w = ap (λ b. b && not (int_lt (pos 0) e.told)) (not_live e.state w)

waits_released : {T : Type 0} → (e : EndValue T) → Waits e → Waits (released e)
waits_released {T = T} e w = let P : EndValue T → Type 0 = λ x. Waits x in subst P (sym (ap (λ b. cond b (let_out e.held e) e) (not_free e w))) w

waits_leveled : {T : Type 0} → (e : EndValue T) → Waits e → Waits (leveled e)
waits_leveled e w = either_waits (is_due e.is_loud (level_of (length e.inbox))) _ e w w

waits_entered : {T : Type 0} → (raw : List ℕ) (mark : Option ℕ) (e : EndValue T) → Waits e → Waits (entered raw mark e)
waits_entered raw mark e w = waits_leveled (record e { inbox = e.inbox ++ record { number = e.came; incoming = record { raw = raw; mark = mark } } ∷ [] }) w

-- ---- What comes

waits_heard : {T : Type 0} → (raw : List ℕ) (mark : Option ℕ) (message : Result MessageValue MessageFault) (e : EndValue T) → Waits e → Waits (heard raw mark message e)
waits_heard raw mark (Err fault) e w = w
waits_heard raw mark (Ok (flow level)) e w = waits_released (record e { told = level }) w
waits_heard raw mark (Ok (command token service name body)) e w = waits_entered raw mark e w
waits_heard raw mark (Ok (final token body)) e w = waits_entered raw mark e w
waits_heard raw mark (Ok (progress token body)) e w = waits_entered raw mark e w
waits_heard raw mark (Ok (not_known token)) e w = waits_entered raw mark e w
waits_heard raw mark (Ok (event service name body)) e w = waits_entered raw mark e w

waits_item : {T : Type 0} → (mark : Option ℕ) (item : Item) (e : EndValue T) → Waits e → Waits (item_came mark item e)
waits_item mark (items.Message raw) e w = waits_heard raw mark (reading raw) (record e { came = counted e.came }) w
waits_item mark items.End e w = w

waits_came : {T : Type 0} → (mark : Option ℕ) (list : List Item) (e : EndValue T) → Waits e → Waits (came_by mark list e)
waits_came mark [] e w = w
waits_came mark (item ∷ list) e w = waits_came mark list (cond (is_over e) e (item_came mark item e)) (either_waits (is_over e) e _ w (waits_item mark item e w))

waits_stopped : {T : Type 0} → (answer : Result Unit StreamFault) (e : EndValue T) → Waits e → Waits (stopped_by answer e)
waits_stopped (Ok done) e w = w
waits_stopped (Err fault) e w = either_waits (is_over e) e _ w w

waits_delivered : {T : Type 0} → (piece : List ℕ) (mark : Option ℕ) (e : EndValue T) → Waits e → Waits (delivered piece mark e)
waits_delivered piece mark e w =
    let came = fed piece e.stream in
    let next = record e { stream = came.reader } in
    waits_stopped came.answer (came_by mark came.items next) (waits_came mark came.items next w)

-- ---- What is taken: a Hello, or a closing

record TakesNone {T : Type 0} (next : Option (Taken T) × EndValue T) : Type 0 where
  none : flat_map incoming_of (listed next.0) ≡ []
  waits : Waits next.1

abbrev UnlessGreeted : {T : Type 0} → Option (Taken T) × EndValue T → Type 0
UnlessGreeted next = list_any is_greeting (listed next.0) ≡ false → TakesNone next

early_taken : {T : Type 0} → (number : ℕ) (i : Incoming) (s : Said) (e : EndValue T) → e.state ≡ Opening → UnlessGreeted (message_taken number i s e)
early_taken number i greets e opening = by_flag (is_early e.state greets)
  where
    by_flag : (flag : Bool) → UnlessGreeted (taken_as number i (cond flag TooEarly Greets) e)
    by_flag true none = record { none = refl; waits = tt }
    by_flag false none = absurd cc
early_taken {T = T} number i tells e opening =
    let P : Judged → Type 0 = λ what. UnlessGreeted (taken_as number i what e) in
    subst P (sym (ap (λ state. cond (is_early state tells) TooEarly (judged_by tells e)) opening)) (λ none. record { none = refl; waits = tt })
early_taken number i asks e opening =
    let P : Judged → Type 0 = λ what. UnlessGreeted (taken_as number i what e) in
    subst P (sym (ap (λ state. cond (is_early state asks) TooEarly (judged_by asks e)) opening)) (λ none. record { none = refl; waits = tt })
early_taken number i (goes_on token) e opening =
    let P : Judged → Type 0 = λ what. UnlessGreeted (taken_as number i what e) in
    subst P (sym (ap (λ state. cond (is_early state (goes_on token)) TooEarly (judged_by (goes_on token) e)) opening)) (λ none. record { none = refl; waits = tt })
early_taken number i (answers token done) e opening =
    let P : Judged → Type 0 = λ what. UnlessGreeted (taken_as number i what e) in
    subst P (sym (ap (λ state. cond (is_early state (answers token done)) TooEarly (judged_by (answers token done) e)) opening)) (λ none. record { none = refl; waits = tt })

stop_taken_so : {T : Type 0} → (stop : Option Cause) (e : EndValue T) → Waits e → UnlessGreeted (stop_taken stop e)
stop_taken_so None e w none = record { none = refl; waits = w }
stop_taken_so (Some cause) e w none = record { none = refl; waits = tt }

taken_so : {T : Type 0} → (inbox : List Arrived) (e : EndValue T) → (is_closed e.state ≡ true → inbox ≡ []) → Waits e → UnlessGreeted (taken_from inbox e)
taken_so [] e emptied w = stop_taken_so e.stop e w
taken_so (arrived ∷ inbox) e emptied w = by_state (is_closed e.state) refl
  where
    by_state : (flag : Bool) → is_closed e.state ≡ flag → UnlessGreeted (taken_from (arrived ∷ inbox) e)
    by_state true closed = let empty : arrived ∷ inbox ≡ [] = emptied closed in absurd cc
    by_state false staying = early_taken arrived.number arrived.incoming (said_in arrived.incoming.raw) (record e { inbox = inbox }) (opening_or e.state w staying)

-- ---- Every call

waits_held : {T : Type 0} → (h : Held) (e : EndValue T) → Waits e → Waits (sent_or_held h e)
waits_held {T = T} h e w = let P : EndValue T → Type 0 = λ x. Waits x in subst P (sym (ap (λ b. cond b (sent_out h e) (record e { held = e.held ++ h ∷ [] })) (not_free e w))) w

waits_commanded : {T : Type 0} → (refusal : Option SendRefusal) (service name body : List ℕ) (tag : T) (mark : Option ℕ) (e : EndValue T) → Waits e → Waits (unless_refused refusal e (commanded service name body tag mark e))
waits_commanded (Some why) service name body tag mark e w = w
waits_commanded None service name body tag mark e w = waits_held (made (e.last + 1) service name body mark) e w

record IsUnheard {T : Type 0} (r : Run T) : Type 0 where
  none : flat_map incoming_of r.past.taken ≡ []
  waits : Waits r.end

abbrev Unheard : {T : Type 0} → Run T → Type 0
Unheard r = list_any is_greeting r.past.taken ≡ false → IsUnheard r

same_taken : {T : Type 0} → (r next : Run T) → next.past.taken ≡ r.past.taken → (Waits r.end → Waits next.end) → Unheard r → Unheard next
same_taken r next same keeps u none =
    let is = u (ap (list_any is_greeting) (sym same) ∙ none) in record { none = ap (flat_map incoming_of) same ∙ is.none; waits = keeps is.waits }

unheard_called : {T : Type 0} → (call : Call T) (r : Run T) → EndsOnce r → Unheard r → Unheard (after_call call r)
unheard_called (delivering piece mark) r once u = same_taken r (after_call (delivering piece mark) r) refl (waits_delivered piece mark r.end) u
unheard_called ending r once u = same_taken r (after_call ending r) refl (λ w. either_waits (is_over r.end) r.end _ w w) u
unheard_called taking r once u = λ none.
    let next = next_taken r.end in
    let parts = or_parts (list_any is_greeting r.past.taken) (list_any is_greeting (listed next.0)) (sym (list_any-append is_greeting r.past.taken (listed next.0)) ∙ none) in
    let before = u parts.0 in
    let now = taken_so r.end.inbox r.end once.emptied before.waits parts.1 in
    record { none = flat_map-append incoming_of r.past.taken (listed next.0) ∙ ap (λ xs. xs ++ flat_map incoming_of (listed next.0)) before.none ∙ now.none; waits = now.waits }
unheard_called (commanding service name body tag mark) r once u =
    same_taken r (after_call (commanding service name body tag mark) r) refl (waits_commanded (refusal_to service name body r.end) service name body tag mark r.end) u
unheard_called (sending message mark) r once u = same_taken r (after_call (sending message mark) r) refl (λ w. either_waits (is_closed r.end.state) r.end _ w w) u
unheard_called putting_out r once u = same_taken r (after_call putting_out r) refl (λ w. w) u
unheard_called closing r once u = same_taken r (after_call closing r) refl (λ w. either_waits (is_closed r.end.state) r.end _ w tt) u
unheard_called draining r once u = same_taken r (after_call draining r) refl (λ w. either_waits (is_closed r.end.state) _ r.end w w) u

module _ {T : Type 0} (hello : List ℕ) (mark : Option ℕ) where
  abbrev run_of : List (Call T) → Run T
  run_of calls = after_calls calls (begun (new_end hello mark))

  unheard_from : (before calls : List (Call T)) → Unheard (run_of before) → Unheard (run_of (before ++ calls))
  unheard_from before [] u = subst (λ cs. Unheard (run_of cs)) (sym (append-nil before)) u
  unheard_from before (call ∷ calls) u =
      let next : Unheard (after_call call (run_of before)) = unheard_called call (run_of before) (ends_once hello mark before) u in
      subst (λ cs. Unheard (run_of cs)) (append_assoc before (call ∷ []) calls)
      (unheard_from (before ++ call ∷ []) calls (subst (λ r. Unheard r) (sym (calls_more before (call ∷ []) (begun (new_end hello mark)))) next))

  pub none_taken : (calls : List (Call T)) → list_any is_greeting (run_of calls).past.taken ≡ false → flat_map incoming_of (run_of calls).past.taken ≡ []
  none_taken calls none = (unheard_from [] calls (λ nothing. record { none = refl; waits = tt }) none).none
