-- What an end takes from its inbox can be read, and is no flow control.
use Rattle.std.proofs.Common.{◌≡◌, ℕ, Bool, true, false, cond, List, [], ◌∷◌, ◌++◌, Option, None, Result, Ok, Err, refl, sym, ap, ◌∙◌, subst, append-nil}
use Rattle.std.specs.Prelude.{unwrap_or}
use Rattle.std.specs.List.{AllByRecursion, flat_map}
use Rattle.std.proofs.lemmas.List.{map-append}
use Rattle.std.proofs.lemmas.List.Concat.{flat_map-append}
use Rattle.stream_escape.specs.Fed.{fed}
use Rattle.stream_escape.specs.declared.stream.Item.{Item}
use Rattle.stream_escape.specs.declared.stream.Item.TheVariants as items
use Rattle.stream_escape.specs.declared.stream.StreamFault.{StreamFault}
use Rattle.tcf_message.specs.Message.{MessageValue, command, event, final, flow, not_known, progress, reading}
use Rattle.tcf_message.specs.declared.message.MessageFault.{MessageFault}
use Rattle.channel_core.specs.Arrivals.{enters}
use Rattle.channel_core.specs.Beginning.{new_end}
use Rattle.channel_core.specs.Closing.{after_drain, closed_own, is_closed}
use Rattle.channel_core.specs.EndValue.{EndValue}
use Rattle.channel_core.specs.Receiving.{came_by, counted, delivered, ended, entered, heard, is_over, item_came, stopped_by, with_last}
use Rattle.channel_core.specs.ReceivingLaws.{incoming_of}
use Rattle.channel_core.specs.Runs.{Call, Run, after_call, after_calls, begun, closing, commanding, delivering, draining, ending, message_of, putting_out, sending, taking}
use Rattle.channel_core.specs.Sending.{queued, refusal_to}
use Rattle.channel_core.specs.declared.held.Arrived.{Arrived}
use Rattle.channel_core.specs.declared.held.Incoming.{Incoming}
use Rattle.channel_core.specs.declared.states.Cause.TheVariants.{Stream}
use Rattle.channel_core.specs.declared.taking.Taken.{Taken}
use Rattle.channel_core.specs.declared.taking.Taken.TheVariants.{Closed}
use Rattle.value_node.specs.Runs.{Past, above}
use Rattle.value_node.specs.Value.{value_services}
use Rattle.channel_core.proofs.Faces.{Change, Face, breaks, closed_change, closes, ended_change, ends, face, face_commanded, face_level, face_released, finishes, open_cause, stays, taken_change, takes}
use Rattle.channel_core.proofs.Keeping.{IsTidy, open_of}
use Rattle.channel_core.proofs.Running.{Stands, stands_after, stands_at_first}
use Rattle.list_laws.proofs.AllLists.{all_push}

abbrev pub IsWhole : Incoming → Type 0
IsWhole incoming = (m : MessageValue) × (reading incoming.raw ≡ Ok m) × (enters m ≡ true)

abbrev AreWhole : List Incoming → Type 0
AreWhole messages = AllByRecursion IsWhole messages

-- ---- What comes

abbrev Waits : {T : Type 0} → EndValue T → Type 0
Waits e = AreWhole (face e).waiting

same_waits : {T : Type 0} → (e next : EndValue T) → face next ≡ face e → Waits e → Waits next
same_waits e next same i = subst AreWhole (sym (ap (λ (f : Face). f.waiting) same)) i

entered_waits : {T : Type 0} → (raw : List ℕ) (mark : Option ℕ) (m : MessageValue) (e : EndValue T) → reading raw ≡ Ok m → enters m ≡ true → Waits e → Waits (entered raw mark e)
entered_waits raw mark m e is enter i =
    let a : Arrived = record { number = e.came; incoming = record { raw = raw; mark = mark } } in
    let same : (face (entered raw mark e)).waiting ≡ (face e).waiting ++ record { raw = raw; mark = mark } ∷ [] =
    ap (λ (f : Face). f.waiting) (face_level (record e { inbox = e.inbox ++ a ∷ [] })) ∙ map-append (λ (x : Arrived). x.incoming) e.inbox (a ∷ []) in
    subst AreWhole (sym same) (all_push IsWhole (face e).waiting (record { raw = raw; mark = mark }) i (m, is, enter))

heard_waits : {T : Type 0} → (raw : List ℕ) (mark : Option ℕ) (message : Result MessageValue MessageFault) (e : EndValue T) → reading raw ≡ message → is_closed e.state ≡ false
    → Waits e → Waits (heard raw mark message e)
heard_waits raw mark (Err fault) e is opened i = i
heard_waits raw mark (Ok (flow level)) e is opened i =
    same_waits (record e { told = level }) (heard raw mark (Ok (flow level)) e) (face_released (record e { told = level }) (open_cause e.state opened)) i
heard_waits raw mark (Ok (command token service name body)) e is opened i = entered_waits raw mark (command token service name body) e is refl i
heard_waits raw mark (Ok (final token body)) e is opened i = entered_waits raw mark (final token body) e is refl i
heard_waits raw mark (Ok (progress token body)) e is opened i = entered_waits raw mark (progress token body) e is refl i
heard_waits raw mark (Ok (not_known token)) e is opened i = entered_waits raw mark (not_known token) e is refl i
heard_waits raw mark (Ok (event service name body)) e is opened i = entered_waits raw mark (event service name body) e is refl i

item_waits : {T : Type 0} → (mark : Option ℕ) (item : Item) (e : EndValue T) → is_closed e.state ≡ false → Waits e → Waits (item_came mark item e)
item_waits mark (items.Message raw) e opened i = heard_waits raw mark (reading raw) (record e { came = counted e.came }) refl opened i
item_waits mark items.End e opened i = i

item_by : {T : Type 0} → (flag : Bool) (mark : Option ℕ) (item : Item) (e : EndValue T) → is_over e ≡ flag → Waits e → Waits (cond flag e (item_came mark item e))
item_by true mark item e over i = i
item_by false mark item e over i = item_waits mark item e (open_of e over) i

came_waits : {T : Type 0} → (mark : Option ℕ) (list : List Item) (e : EndValue T) → Waits e → Waits (came_by mark list e)
came_waits mark [] e i = i
came_waits mark (item ∷ list) e i = came_waits mark list (cond (is_over e) e (item_came mark item e)) (item_by (is_over e) mark item e refl i)

stop_by : {T : Type 0} → (flag : Bool) (fault : StreamFault) (e : EndValue T) → Waits e → Waits (cond flag e (with_last (Stream fault) e))
stop_by true fault e i = i
stop_by false fault e i = i

stopped_waits : {T : Type 0} → (answer : Result Unit StreamFault) (e : EndValue T) → Waits e → Waits (stopped_by answer e)
stopped_waits (Ok done) e i = i
stopped_waits (Err fault) e i = stop_by (is_over e) fault e i

delivered_waits : {T : Type 0} → (piece : List ℕ) (mark : Option ℕ) (e : EndValue T) → Waits e → Waits (delivered piece mark e)
delivered_waits piece mark e i =
    let given = fed piece e.stream in
    stopped_waits given.answer (came_by mark given.items (record e { stream = given.reader })) (came_waits mark given.items (record e { stream = given.reader }) i)

-- ---- What is taken

pub record Reads {T : Type 0} (taken : List (Taken T)) (f : Face) : Type 0 where
  pub gone : AreWhole (flat_map incoming_of taken)
  pub here : AreWhole f.waiting

reads_same : {T : Type 0} → (taken after : List (Taken T)) (f g : Face) → after ≡ taken → g.waiting ≡ f.waiting → Reads taken f → Reads after g
reads_same taken after f g one other r = record { gone = subst (λ ts. AreWhole (flat_map incoming_of ts)) (sym one) r.gone; here = subst AreWhole (sym other) r.here }

reads_none : {T : Type 0} → (taken after : List (Taken T)) (f g : Face) → flat_map incoming_of after ≡ flat_map incoming_of taken → g.waiting ≡ [] → Reads taken f → Reads after g
reads_none taken after f g one other r = record { gone = subst AreWhole (sym one) r.gone; here = subst AreWhole (sym other) tt }

reads_change : {T : Type 0} → (taken after : List (Taken T)) (f g : Face) → Change taken f after g → Reads taken f → Reads after g
reads_change taken after f g (stays one other) r = reads_same taken after f g one (ap (λ (x : Face). x.waiting) other) r
reads_change taken after f g (ends stop opened one other) r = reads_same taken after f g one (ap (λ (x : Face). x.waiting) other) r
reads_change taken after f g (takes t incoming waiting was is one other) r =
    let all : AreWhole (incoming ∷ waiting) = subst AreWhole was r.here in
    let are : flat_map incoming_of after ≡ flat_map incoming_of taken ++ incoming ∷ [] =
    ap (flat_map incoming_of) one ∙ flat_map-append incoming_of taken (t ∷ []) ∙ ap (λ xs. flat_map incoming_of taken ++ xs) (append-nil (incoming_of t) ∙ is) in
    record {
      gone = subst AreWhole (sym are) (all_push IsWhole (flat_map incoming_of taken) incoming r.gone all.0);
      here = subst AreWhole (sym (ap (λ (x : Face). x.waiting) other)) all.1;
    }
reads_change taken after f g (closes cause opened itself one other) r = reads_none taken after f g (ap (flat_map incoming_of) one) (ap (λ (x : Face). x.waiting) other) r
reads_change taken after f g (breaks cause opened itself one other) r =
    reads_none taken after f g (ap (flat_map incoming_of) one ∙ flat_map-append incoming_of taken (Closed cause ∷ []) ∙ append-nil (flat_map incoming_of taken)) (ap (λ (x : Face). x.waiting) other) r
reads_change taken after f g (finishes cause opened none stop one other) r =
    reads_none taken after f g (ap (flat_map incoming_of) one ∙ flat_map-append incoming_of taken (Closed cause ∷ []) ∙ append-nil (flat_map incoming_of taken)) (ap (λ (x : Face). x.waiting) other) r

-- ---- Each call

abbrev RunReads : {T : Type 0} → Run T → Type 0
RunReads r = Reads r.past.taken (face r.end)

reads_with : {T : Type 0} → (taken : List (Taken T)) (f g : Face) → g.waiting ≡ f.waiting → Reads taken f → Reads taken g
reads_with taken f g same r = reads_same taken taken f g refl same r

drained_face : {T : Type 0} → (flag : Bool) (one e : EndValue T) → face one ≡ face e → face (cond flag one e) ≡ face e
drained_face true one e same = same
drained_face false one e same = refl

queued_face : {T : Type 0} → (flag : Bool) (one e : EndValue T) → face one ≡ face e → face (cond flag e one) ≡ face e
queued_face true one e same = refl
queued_face false one e same = same

call_reads : {T : Type 0} → (call : Call T) (r : Run T) → IsTidy r.end → RunReads r → RunReads (after_call call r)
call_reads (delivering piece mark) r tidy i = record { gone = i.gone; here = delivered_waits piece mark r.end i.here }
call_reads ending r tidy i = reads_change r.past.taken r.past.taken (face r.end) (face (ended r.end)) (ended_change r.past.taken r.end) i
call_reads taking r tidy i = reads_change r.past.taken _ (face r.end) _ (taken_change r.past.taken r.end tidy) i
call_reads (commanding service name body tag mark) r tidy i =
    reads_with r.past.taken (face r.end) _ (ap (λ (x : Face). x.waiting) (face_commanded (refusal_to service name body r.end) service name body tag mark r.end refl)) i
call_reads (sending message mark) r tidy i =
    reads_with r.past.taken (face r.end) (face (queued (message_of message) mark r.end)) (ap (λ (x : Face). x.waiting) (queued_face (is_closed r.end.state) _ r.end refl)) i
call_reads putting_out r tidy i = record { gone = i.gone; here = i.here }
call_reads closing r tidy i = reads_change r.past.taken r.past.taken (face r.end) (face (closed_own r.end)) (closed_change r.past.taken r.end) i
call_reads draining r tidy i = reads_with r.past.taken (face r.end) (face (after_drain r.end)) (ap (λ (x : Face). x.waiting) (drained_face (is_closed r.end.state) _ r.end refl)) i

calls_read : {T : Type 0} → (calls : List (Call T)) (r : Run T) → Stands r → RunReads r → RunReads (after_calls calls r)
calls_read [] r s i = i
calls_read (call ∷ calls) r s i = calls_read calls (after_call call r) (stands_after call r s) (call_reads call r s.tidy i)

-- of the upper end of a value-add
pub above_reads : (p : Past) → AllByRecursion IsWhole (flat_map incoming_of (above p).past.taken)
above_reads p =
    let first = begun (new_end value_services None) in
    (calls_read (unwrap_or p.connection []) first (stands_at_first value_services None) (record { gone = tt; here = tt })).gone
