-- Where all bytes of a queue with the end of the stream have come, that was heard; and what is over stays so.
use Rattle.std.proofs.Common.{◌≡◌, ℕ, ◌+◌, Bool, true, false, cond, List, [], ◌∷◌, ◌++◌, length, Option, Some, None, is_some, refl, sym, ap, ◌∙◌, subst, append_assoc, append-nil}
use Rattle.std.specs.List.{list_any}
use Rattle.std.proofs.lemmas.Bool.{or_right}
use Rattle.std.proofs.lemmas.List.{append_cancel_left}
use Rattle.stream_escape.specs.Fed.{fed}
use Rattle.stream_escape.specs.Laws.{HasRead, fresh}
use Rattle.channel_core.specs.Arrivals.{AreSpoken, Marked, Spoken, arrived, arrived_in, bytes_of, marked, queue_of}
use Rattle.channel_core.specs.Beginning.{new_end}
use Rattle.channel_core.specs.Closing.{is_closed}
use Rattle.channel_core.specs.EndValue.{EndValue}
use Rattle.channel_core.specs.Receiving.{delivered, ended, is_over}
use Rattle.channel_core.specs.ReceivingLaws.{WhereAQueueComes}
use Rattle.channel_core.specs.RunLaws.{AfterAllCalls}
use Rattle.channel_core.specs.Runs.{Call, Run, after_call, after_calls, begun, closing, commanding, delivering, draining, ending, putting_out, sending, taking}
use Rattle.channel_core.specs.declared.held.Incoming.{Incoming}
use Rattle.channel_core.specs.declared.states.Cause.TheVariants.{Ended}
use Rattle.channel_core.specs.declared.taking.Taken.{Taken}
use Rattle.channel_core.proofs.Arriving.{delivered_end, delivered_over, delivered_whole}
use Rattle.channel_core.proofs.Faces.{Change, breaks, closed_change, closes, ended_change, ends, Face, face, face_commanded, face_either, finishes, is_finished, over_is, stays, taken_change, takes}
use Rattle.channel_core.proofs.Feeding.{FedTo, IsAt, at_first, fed_queue, to_end, within}
use Rattle.channel_core.proofs.Keeping.{IsTidy}
use Rattle.channel_core.proofs.Running.{always}
use Rattle.channel_core.proofs.Tidy.{tidy_called, tidy_open}
use Rattle.channel_laws.specs.Faults.{is_ending}
use Rattle.channel_laws.specs.Rest.{HearsTheEnd, IsOverAtItsEnd, StaysOver}
use Rattle.channel_core.proofs.Received.{none_left}
use Rattle.channel_core.specs.Sending.{refusal_to}
use Rattle.stream_escape.proofs.TheLaws.{begins_between}

-- the stream stands within the queue's next entry
record IsWithin (is_ended : Bool) (more : List Marked) (f : Face) : Type 0 where
  later : List Spoken
  front : List ℕ
  formed : AreSpoken later
  at : IsAt front (queue_of later is_ended) more
  read : HasRead front f.stream
  none : f.stop ≡ None
  opened : f.closed ≡ None

data Hears (is_ended : Bool) (more : List Marked) (f : Face) : Type 0 where
  going : IsWithin is_ended more f → Hears is_ended more f
  over : is_finished f ≡ true → Hears is_ended more f

moved : (is_ended : Bool) (more : List Marked) (f g : Face) → g ≡ f → Hears is_ended more f → Hears is_ended more g
moved is_ended more f g is h = let P : Face → Type 0 = λ x. Hears is_ended more x in subst P (sym is) h

waits_less : (is_ended : Bool) (more : List Marked) (waiting : List Incoming) (f : Face) → Hears is_ended more f → Hears is_ended more (record f { waiting = waiting })
waits_less is_ended more waiting f (going g) = going (record { later = g.later; front = g.front; formed = g.formed; at = g.at; read = g.read; none = g.none; opened = g.opened })
waits_less is_ended more waiting f (over is) = over is

change_hears : {T : Type 0} → (is_ended : Bool) (more : List Marked) (taken after : List (Taken T)) (f g : Face) → Change taken f after g → Hears is_ended more f → Hears is_ended more g
change_hears is_ended more taken after f g (stays taken_is face_is) h = moved is_ended more f g face_is h
change_hears is_ended more taken after f g (ends none opened taken_is face_is) h = over (ap is_finished face_is ∙ or_right (is_some f.closed) true refl)
change_hears is_ended more taken after f g (takes t incoming waiting is one taken_is face_is) h =
    moved is_ended more (record f { waiting = waiting }) g face_is (waits_less is_ended more waiting f h)
change_hears is_ended more taken after f g (closes cause opened itself taken_is face_is) h = over (ap is_finished face_is)
change_hears is_ended more taken after f g (breaks cause opened itself taken_is face_is) h = over (ap is_finished face_is)
change_hears is_ended more taken after f g (finishes cause opened empty is taken_is face_is) h = over (ap is_finished face_is)

-- ---- A piece

fed_hears : {T : Type 0} → (is_ended : Bool) (mark : Option ℕ) (piece : List ℕ) (more : List Marked) (e : EndValue T) → (g : IsWithin is_ended (marked piece mark ++ more) (face e))
    → FedTo g.later is_ended (length g.front + length piece) mark more (fed piece e.stream) → Hears is_ended more (face (delivered piece mark e))
fed_hears is_ended mark piece more e g (within whole later front split formed formed_later each items answer read at size) =
    moved is_ended more _ (face (delivered piece mark e)) (delivered_whole piece mark whole formed each e g.opened g.none items answer)
    (going (record { later = later; front = front; formed = formed_later; at = at; read = read; none = g.none; opened = g.opened }))
fed_hears is_ended mark piece more e g (to_end is each items answer) =
    moved is_ended more _ (face (delivered piece mark e)) (delivered_end piece mark g.later g.formed each e g.opened g.none items answer)
    (over (or_right (is_some (face e).closed) true refl))

piece_hears : {T : Type 0} → (is_ended : Bool) (mark : Option ℕ) (piece : List ℕ) (more : List Marked) (e : EndValue T) → Hears is_ended (marked piece mark ++ more) (face e)
    → Hears is_ended more (face (delivered piece mark e))
piece_hears is_ended mark piece more e (going g) = fed_hears is_ended mark piece more e g (fed_queue g.later is_ended mark more g.front piece e.stream g.formed g.read g.at)
piece_hears is_ended mark piece more e (over is) = moved is_ended more _ (face (delivered piece mark e)) (delivered_over piece mark e (over_is e ∙ is)) (over is)

-- ---- Every call

abbrev HearsRun : {T : Type 0} → Bool → List Marked → Run T → Type 0
HearsRun is_ended more r = Hears is_ended more (face r.end)

hears_called : {T : Type 0} → (is_ended : Bool) (call : Call T) (more : List Marked) (r : Run T) → IsTidy r.end → HearsRun is_ended (arrived_in call ++ more) r → HearsRun is_ended more (after_call call r)
hears_called is_ended (delivering piece mark) more r tidy h = piece_hears is_ended mark piece more r.end h
hears_called is_ended ending more r tidy h = change_hears is_ended more r.past.taken r.past.taken (face r.end) _ (ended_change r.past.taken r.end) h
hears_called is_ended taking more r tidy h = change_hears is_ended more r.past.taken _ (face r.end) _ (taken_change r.past.taken r.end tidy) h
hears_called is_ended (commanding service name body tag mark) more r tidy h =
    moved is_ended more (face r.end) _ (face_commanded (refusal_to service name body r.end) service name body tag mark r.end refl) h
hears_called is_ended (sending message mark) more r tidy h = moved is_ended more (face r.end) _ (face_either (is_closed r.end.state) r.end _ (face r.end) refl refl) h
hears_called is_ended putting_out more r tidy h = moved is_ended more (face r.end) _ refl h
hears_called is_ended closing more r tidy h = change_hears is_ended more r.past.taken r.past.taken (face r.end) _ (closed_change r.past.taken r.end) h
hears_called is_ended draining more r tidy h = moved is_ended more (face r.end) _ (face_either (is_closed r.end.state) _ r.end (face r.end) refl refl) h

hears_calls : {T : Type 0} → (is_ended : Bool) (calls : List (Call T)) (more : List Marked) (r : Run T) → IsTidy r.end → HearsRun is_ended (arrived calls ++ more) r → HearsRun is_ended more (after_calls calls r)
hears_calls is_ended [] more r tidy h = h
hears_calls {T = T} is_ended (call ∷ calls) more r tidy h =
    let Q : List Marked → Type 0 = λ bytes. HearsRun is_ended bytes r in
    hears_calls is_ended calls more (after_call call r) (tidy_called call r.end tidy)
    (hears_called is_ended call (arrived calls ++ more) r tidy (subst Q (append_assoc (arrived_in call) (arrived calls) more) h))

-- ---- The law

-- behind the end of the stream nothing is to come, and before it something is
never_within : (front : List ℕ) (later : List Spoken) → IsAt front (queue_of later true) [] → ⊥
never_within front [] at = none_left at.0 None [] at.2 at.3
never_within front (s ∷ later) at = none_left at.0 s.mark (bytes_of (queue_of later true)) at.2 at.3

heard : (is_ended : Bool) (f : Face) → is_ended ≡ true → Hears is_ended [] f → is_finished f ≡ true
heard is_ended f is (going g) = let P : Bool → Type 0 = λ b. IsAt g.front (queue_of g.later b) [] in absurd (never_within g.front g.later (subst P is g.at))
heard is_ended f is (over finished) = finished

pub all_hear : {T : Type 0} → WhereAQueueComes {T = T} HearsTheEnd
all_hear {T = T} body mark calls spoken is_ended all front ended complete =
    let first = begun (new_end {T = T} body mark) in
    let r = after_calls calls first in
    let more_is : front.0 ≡ [] = append_cancel_left (arrived calls) front.0 [] (sym front.1 ∙ sym complete ∙ sym (append-nil (arrived calls))) in
    let starts : HearsRun is_ended (bytes_of (queue_of spoken is_ended)) first = going (record {
      later = spoken;
      front = [];
      formed = all;
      at = at_first spoken is_ended;
      read = (begins_between fresh).0 (record { ending = refl; fault = refl });
      none = refl;
      opened = refl;
    }) in
    let Q : List Marked → Type 0 = λ bytes. HearsRun is_ended bytes first in
    let P : List Marked → Type 0 = λ bytes. HearsRun is_ended bytes r in
    let now = hears_calls is_ended calls front.0 first (tidy_open (new_end body mark) refl) (subst Q front.1 starts) in
    over_is r.end ∙ heard is_ended (face r.end) ended (subst P more_is now)

-- ---- What is over stays so

over_change : {T : Type 0} → (taken after : List (Taken T)) (f g : Face) → Change taken f after g → is_finished f ≡ true → is_finished g ≡ true
over_change taken after f g (stays taken_is face_is) is = ap is_finished face_is ∙ is
over_change taken after f g (ends none opened taken_is face_is) is = ap is_finished face_is ∙ or_right (is_some f.closed) true refl
over_change taken after f g (takes t incoming waiting empty one taken_is face_is) is = ap is_finished face_is ∙ is
over_change taken after f g (closes cause opened itself taken_is face_is) is = ap is_finished face_is
over_change taken after f g (breaks cause opened itself taken_is face_is) is = ap is_finished face_is
over_change taken after f g (finishes cause opened empty stop taken_is face_is) is = ap is_finished face_is

abbrev IsOverRun : {T : Type 0} → Run T → Type 0
IsOverRun r = is_finished (face r.end) ≡ true

over_called : {T : Type 0} → (call : Call T) (r : Run T) → IsTidy r.end → IsOverRun r → IsOverRun (after_call call r)
over_called (delivering piece mark) r tidy is = ap is_finished (delivered_over piece mark r.end (over_is r.end ∙ is)) ∙ is
over_called ending r tidy is = over_change r.past.taken r.past.taken (face r.end) _ (ended_change r.past.taken r.end) is
over_called taking r tidy is = over_change r.past.taken _ (face r.end) _ (taken_change r.past.taken r.end tidy) is
over_called (commanding service name body tag mark) r tidy is = ap is_finished (face_commanded (refusal_to service name body r.end) service name body tag mark r.end refl) ∙ is
over_called (sending message mark) r tidy is = ap is_finished (face_either (is_closed r.end.state) r.end _ (face r.end) refl refl) ∙ is
over_called putting_out r tidy is = is
over_called closing r tidy is = over_change r.past.taken r.past.taken (face r.end) _ (closed_change r.past.taken r.end) is
over_called draining r tidy is = ap is_finished (face_either (is_closed r.end.state) _ r.end (face r.end) refl refl) ∙ is

over_after : {T : Type 0} → (calls : List (Call T)) (r : Run T) → IsTidy r.end → IsOverRun r → IsOverRun (after_calls calls r)
over_after [] r tidy is = is
over_after (call ∷ calls) r tidy is = over_after calls (after_call call r) (tidy_called call r.end tidy) (over_called call r tidy is)

pub all_stay_over : {T : Type 0} → AfterAllCalls {T = T} StaysOver
all_stay_over {T = T} hello mark calls more so =
    let r = after_calls calls (begun (new_end {T = T} hello mark)) in
    over_is (after_calls more r).end ∙ over_after more r (always {T = T} hello mark calls).tidy (sym (over_is r.end) ∙ so)

ended_over : {T : Type 0} → (e : EndValue T) → is_finished (face (ended e)) ≡ true
ended_over e = by_flag (is_over e) refl
  where
    by_flag : (flag : Bool) → is_over e ≡ flag → is_finished (face (cond flag e (record e { stop = Some Ended }))) ≡ true
    by_flag true is = sym (over_is e) ∙ is
    by_flag false is = or_right (is_some (face e).closed) true refl

ends_over : {T : Type 0} → (calls : List (Call T)) (r : Run T) → IsTidy r.end → list_any is_ending calls ≡ true → IsOverRun (after_calls calls r)
ends_over [] r tidy is = absurd cc
ends_over (delivering piece mark ∷ calls) r tidy is = ends_over calls (after_call (delivering piece mark) r) (tidy_called (delivering piece mark) r.end tidy) is
ends_over (ending ∷ calls) r tidy is = over_after calls (after_call ending r) (tidy_called ending r.end tidy) (ended_over r.end)
ends_over (taking ∷ calls) r tidy is = ends_over calls (after_call taking r) (tidy_called taking r.end tidy) is
ends_over (commanding service name body tag mark ∷ calls) r tidy is =
    ends_over calls (after_call (commanding service name body tag mark) r) (tidy_called (commanding service name body tag mark) r.end tidy) is
ends_over (sending message mark ∷ calls) r tidy is = ends_over calls (after_call (sending message mark) r) (tidy_called (sending message mark) r.end tidy) is
ends_over (putting_out ∷ calls) r tidy is = ends_over calls (after_call putting_out r) (tidy_called putting_out r.end tidy) is
ends_over (closing ∷ calls) r tidy is = ends_over calls (after_call closing r) (tidy_called closing r.end tidy) is
ends_over (draining ∷ calls) r tidy is = ends_over calls (after_call draining r) (tidy_called draining r.end tidy) is

pub all_over_at_end : {T : Type 0} → IsOverAtItsEnd T
all_over_at_end {T = T} hello mark calls is =
    let first = begun (new_end {T = T} hello mark) in
    over_is (after_calls calls first).end ∙ ends_over calls first (tidy_open (new_end hello mark) refl) is
