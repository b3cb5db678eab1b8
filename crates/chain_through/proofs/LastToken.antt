-- The last token of an end is the number of the commands that it accepted.
use Rattle.std.proofs.Common.{◌≡◌, ℕ, ◌+◌, Bool, true, false, cond, List, [], ◌∷◌, ◌++◌, length, Option, Some, None, Result, Ok, Err, refl, sym, ap, ◌∙◌, append-nil, length-append}
use Rattle.std.specs.Prelude.{remove, slice_get}
use Rattle.stream_escape.specs.Fed.{fed}
use Rattle.stream_escape.specs.declared.stream.Item.{Item}
use Rattle.stream_escape.specs.declared.stream.Item.TheVariants as items
use Rattle.stream_escape.specs.declared.stream.StreamFault.{StreamFault}
use Rattle.tcf_message.specs.Message.{MessageValue, command, event, final, flow, not_known, progress, reading}
use Rattle.tcf_message.specs.declared.message.MessageFault.{MessageFault}
use Rattle.channel_core.specs.Closing.{is_closed}
use Rattle.channel_core.specs.EndValue.{EndValue}
use Rattle.channel_core.specs.Holding.{is_free, let_out, released, sent_out}
use Rattle.channel_core.specs.Level.{is_due, level_of, leveled}
use Rattle.channel_core.specs.Receiving.{came_by, counted, delivered, heard, is_over, item_came, stopped_by}
use Rattle.channel_core.specs.Runs.{Call, Issued, Run, after_call, after_calls, closing, commanding, delivering, draining, ending, issued, putting_out, sending, taking, unless_refused}
use Rattle.channel_core.specs.Sending.{commanded, refusal_to}
use Rattle.channel_core.specs.Taking.{answered, finished, greeted, is_of, judged, number_at, progressed, redirected, state_greeted, stop_taken, taken_as, taken_from}
use Rattle.channel_core.specs.Wire.{said_in}
use Rattle.channel_core.specs.declared.held.Arrived.{Arrived}
use Rattle.channel_core.specs.declared.held.Held.{Held}
use Rattle.channel_core.specs.declared.held.Incoming.{Incoming}
use Rattle.channel_core.specs.declared.sending.SendRefusal.{SendRefusal}
use Rattle.channel_core.specs.declared.states.Cause.{Cause}
use Rattle.channel_core.specs.declared.states.EndState.TheVariants.{Live}
use Rattle.channel_core.specs.Judged.{Judged, Answers, Asks, GoesOn, Greets, Stray, Tells, TooEarly}

-- ---- What leaves the last token as it is

abbrev Keeps : {T : Type 0} → EndValue T → EndValue T → Type 0
Keeps e next = next.last ≡ e.last

either : {T : Type 0} → (flag : Bool) (one other e : EndValue T) → Keeps e one → Keeps e other → Keeps e (cond flag one other)
either true one other e first second = first
either false one other e first second = second

levels : {T : Type 0} → (e : EndValue T) → Keeps e (leveled e)
levels e = either (is_due e.is_loud (level_of (length e.inbox))) _ e e refl refl

goes_out : {T : Type 0} → (h : Held) (e : EndValue T) → Keeps e (sent_out h e)
goes_out h e = either h.is_redirect _ _ e refl refl

lets_out : {T : Type 0} → (held : List Held) (e : EndValue T) → Keeps e (let_out held e)
lets_out [] e = refl
lets_out {T = T} (h ∷ held) e =
    let next : EndValue T = sent_out h (record e { held = held }) in
    let first : Keeps e next = goes_out h (record e { held = held }) in
    either h.is_redirect next (let_out held next) e first (lets_out held next ∙ first)

releases : {T : Type 0} → (e : EndValue T) → Keeps e (released e)
releases e = either (is_free e) (let_out e.held e) e e (lets_out e.held e) refl

-- ---- What comes

hears : {T : Type 0} → (raw : List ℕ) (mark : Option ℕ) (message : Result MessageValue MessageFault) (e : EndValue T) → Keeps e (heard raw mark message e)
hears raw mark (Err fault) e = refl
hears raw mark (Ok (flow level)) e = releases (record e { told = level })
hears raw mark (Ok (command token service name body)) e = levels (record e { inbox = e.inbox ++ record { number = e.came; incoming = record { raw = raw; mark = mark } } ∷ [] })
hears raw mark (Ok (final token body)) e = levels (record e { inbox = e.inbox ++ record { number = e.came; incoming = record { raw = raw; mark = mark } } ∷ [] })
hears raw mark (Ok (progress token body)) e = levels (record e { inbox = e.inbox ++ record { number = e.came; incoming = record { raw = raw; mark = mark } } ∷ [] })
hears raw mark (Ok (not_known token)) e = levels (record e { inbox = e.inbox ++ record { number = e.came; incoming = record { raw = raw; mark = mark } } ∷ [] })
hears raw mark (Ok (event service name body)) e = levels (record e { inbox = e.inbox ++ record { number = e.came; incoming = record { raw = raw; mark = mark } } ∷ [] })

item : {T : Type 0} → (mark : Option ℕ) (i : Item) (e : EndValue T) → Keeps e (item_came mark i e)
item mark (items.Message raw) e = hears raw mark (reading raw) (record e { came = counted e.came })
item mark items.End e = refl

comes : {T : Type 0} → (mark : Option ℕ) (list : List Item) (e : EndValue T) → Keeps e (came_by mark list e)
comes mark [] e = refl
comes {T = T} mark (i ∷ list) e =
    let next : EndValue T = cond (is_over e) e (item_came mark i e) in
    comes mark list next ∙ either (is_over e) e (item_came mark i e) e refl (item mark i e)

stops : {T : Type 0} → (answer : Result Unit StreamFault) (e : EndValue T) → Keeps e (stopped_by answer e)
stops (Ok done) e = refl
stops (Err fault) e = either (is_over e) e _ e refl refl

piece_comes : {T : Type 0} → (piece : List ℕ) (mark : Option ℕ) (e : EndValue T) → Keeps e (delivered piece mark e)
piece_comes {T = T} piece mark e =
    let given = fed piece e.stream in
    let next : EndValue T = record e { stream = given.reader } in
    stops given.answer (came_by mark given.items next) ∙ comes mark given.items next

-- ---- What is taken

greets : {T : Type 0} → (e : EndValue T) → Keeps e (greeted (leveled e))
greets {T = T} e =
    let told : EndValue T = leveled e in
    releases (record told { state = state_greeted told.state told.redirect }) ∙ levels e

redirects : {T : Type 0} → (done : Bool) (e : EndValue T) → Keeps e (redirected done e)
redirects true e = refl
redirects false e = releases (record e { redirect = None; state = Live })

answers_one : {T : Type 0} → (token : ℕ) (done : Bool) (e : EndValue T) → Keeps e (answered token done e)
answers_one token done e = either (is_of token e.redirect) (redirected done e) e e (redirects done e) refl

progresses : {T : Type 0} → (number : ℕ) (incoming : Incoming) (token : Option ℕ) (e : EndValue T) → Keeps e (progressed number incoming token e).1
progresses number incoming None e = refl
progresses number incoming (Some token) e = levels e

finishes : {T : Type 0} → (number : ℕ) (incoming : Incoming) (place : ℕ) (done : Bool) (row : Option (ℕ × T)) (e : EndValue T) → Keeps e (finished number incoming place done row e).1
finishes number incoming place done None e = refl
finishes {T = T} number incoming place done (Some row) e =
    let left : EndValue T = record e { pending = remove e.pending place } in
    answers_one row.0 done (leveled left) ∙ levels left

takes_as : {T : Type 0} → (number : ℕ) (incoming : Incoming) (what : Judged) (e : EndValue T) → Keeps e (taken_as number incoming what e).1
takes_as number incoming TooEarly e = refl
takes_as number incoming Stray e = refl
takes_as number incoming Greets e = greets e
takes_as number incoming Tells e = levels e
takes_as number incoming Asks e = levels e
takes_as number incoming (GoesOn place) e = progresses number incoming (number_at place e.pending) e
takes_as number incoming (Answers place done) e = finishes number incoming place done (slice_get e.pending place) e

takes_stop : {T : Type 0} → (stop : Option Cause) (e : EndValue T) → Keeps e (stop_taken stop e).1
takes_stop None e = refl
takes_stop (Some cause) e = refl

takes : {T : Type 0} → (inbox : List Arrived) (e : EndValue T) → Keeps e (taken_from inbox e).1
takes [] e = takes_stop e.stop e
takes {T = T} (arrived ∷ inbox) e =
    let next : EndValue T = record e { inbox = inbox } in
    takes_as arrived.number arrived.incoming (judged (said_in arrived.incoming.raw) next) next

-- ---- Each command that is accepted has the next one

abbrev Counts : {T : Type 0} → Run T → Type 0
Counts r = r.end.last ≡ length r.past.accepted

commands : {T : Type 0} → (refusal : Option SendRefusal) (service name body : List ℕ) (tag : T) (mark : Option ℕ) (e : EndValue T) (before : List (Issued T)) → e.last ≡ length before
    → (unless_refused refusal e (commanded service name body tag mark e)).last ≡ length (before ++ unless_refused refusal [] (issued service name body tag mark e ∷ []))
commands (Some why) service name body tag mark e before counts = counts ∙ ap length (sym (append-nil before))
commands None service name body tag mark e before counts =
    let many : length (before ++ issued service name body tag mark e ∷ []) ≡ length before + 1 = length-append before (issued service name body tag mark e ∷ []) in
    let next : e.last + 1 ≡ length before + 1 = ap (λ n. n + 1) counts in
    next ∙ sym many

counts_called : {T : Type 0} → (call : Call T) (r : Run T) → Counts r → Counts (after_call call r)
counts_called (delivering piece mark) r counts = piece_comes piece mark r.end ∙ counts
counts_called ending r counts = either (is_over r.end) r.end _ r.end refl refl ∙ counts
counts_called taking r counts = takes r.end.inbox r.end ∙ counts
counts_called (commanding service name body tag mark) r counts = commands (refusal_to service name body r.end) service name body tag mark r.end r.past.accepted counts
counts_called (sending message mark) r counts = either (is_closed r.end.state) r.end _ r.end refl refl ∙ counts
counts_called putting_out r counts = counts
counts_called closing r counts = either (is_closed r.end.state) r.end _ r.end refl refl ∙ counts
counts_called draining r counts = either (is_closed r.end.state) _ r.end r.end refl refl ∙ counts

pub last_counts : {T : Type 0} → (calls : List (Call T)) (r : Run T) → r.end.last ≡ length r.past.accepted → (after_calls calls r).end.last ≡ length (after_calls calls r).past.accepted
last_counts [] r counts = counts
last_counts (call ∷ calls) r counts = last_counts calls (after_call call r) (counts_called call r counts)
