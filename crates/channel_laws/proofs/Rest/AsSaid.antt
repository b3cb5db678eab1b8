-- What is taken is what its message says.
use Rattle.std.proofs.Common.{◌≡◌, ℕ, Bool, true, false, cond, not, ◌&&◌, ◌||◌, List, [], ◌∷◌, ◌++◌, Option, Some, None, refl, sym, ap, ◌∙◌}
use Rattle.std.specs.Prelude.{bytes_eq, decimal, slice_get}
use Rattle.std.specs.List.{AllByRecursion, flat_map, list_any}
use Rattle.channel_core.specs.Beginning.{new_end}
use Rattle.channel_core.specs.EndValue.{EndValue}
use Rattle.channel_core.specs.Laws.{listed}
use Rattle.channel_core.specs.Greeting.{is_greeting}
use Rattle.channel_core.specs.ReceivingLaws.{incoming_of}
use Rattle.channel_core.specs.RunLaws.{AfterAllCalls, is_answered, token_in}
use Rattle.channel_core.specs.Runs.{Call, Issued, Run, after_call, after_calls, begun, closing, commanding, delivering, draining, ending, putting_out, sending, taking}
use Rattle.channel_core.specs.Taking.{answer_judged, finished, is_early, judged, judged_by, next_taken, number_at, progress_judged, progressed, sent_place, stop_taken, taken_as, taken_from}
use Rattle.channel_core.specs.Wire.{Said, answers, asks, goes_on, greets, said_in, tells}
use Rattle.channel_core.specs.declared.held.Arrived.{Arrived}
use Rattle.channel_core.specs.declared.held.Incoming.{Incoming}
use Rattle.channel_core.specs.declared.states.Cause.{Cause}
use Rattle.channel_core.specs.Judged.{Judged, Answers, Asks, GoesOn, Greets, Stray, Tells, TooEarly}
use Rattle.channel_core.specs.declared.taking.Taken.{Taken}
use Rattle.channel_core.specs.declared.taking.Taken.TheVariants.{Closed, Command, Event, Final, Hello, Progress}
use Rattle.channel_laws.proofs.Redirects.Naming.{names_its_command}
use Rattle.channel_laws.specs.Rest.{IsAsSaid, TakesAsSaid, TellsAsMessages, answered_among, hello_among, is_done_for, is_hello, lacks_hello, lacks_hello_among}
use Rattle.list_laws.proofs.AllLists.{all_append}

-- what is judged so says so; of an answer the command that it names is known
abbrev JudgedAs : Judged → Said → Type 0
JudgedAs TooEarly message = Unit {0}
JudgedAs Stray message = Unit {0}
JudgedAs Greets message = message ≡ greets
JudgedAs Tells message = message ≡ tells
JudgedAs Asks message = message ≡ asks
JudgedAs (GoesOn place) message = (text : List ℕ) × (message ≡ goes_on text)
JudgedAs (Answers place done) message = Unit {0}

progress_as : (text : List ℕ) (found : Option ℕ) → JudgedAs (progress_judged found) (goes_on text)
progress_as text None = tt
progress_as text (Some place) = (text, refl)

answer_as : (token : List ℕ) (done : Bool) (found : Option ℕ) → JudgedAs (answer_judged done found) (answers token done)
answer_as token done None = tt
answer_as token done (Some place) = tt

said_as : {T : Type 0} → (message : Said) (e : EndValue T) → JudgedAs (judged_by message e) message
said_as greets e = refl
said_as tells e = refl
said_as asks e = refl
said_as (goes_on text) e = progress_as text (sent_place text e)
said_as (answers token done) e = answer_as token done (sent_place token e)

judged_as : {T : Type 0} → (message : Said) (e : EndValue T) → JudgedAs (judged message e) message
judged_as message e = by_flag (is_early e.state message)
  where
    by_flag : (flag : Bool) → JudgedAs (cond flag TooEarly (judged_by message e)) message
    by_flag true = tt
    by_flag false = said_as message e

-- ---- What is taken

abbrev AreAsSaid : {T : Type 0} → List (Taken T) → Type 0
AreAsSaid taken = AllByRecursion IsAsSaid taken

finished_as : {T : Type 0} → (number : ℕ) (incoming : Incoming) (place : ℕ) (done : Bool) (row : Option (ℕ × T)) (e : EndValue T) → slice_get e.pending place ≡ row
    → judged (said_in incoming.raw) e ≡ Answers place done → AreAsSaid (listed (finished number incoming place done row e).0)
finished_as number incoming place done None e at is = (tt, tt)
finished_as number incoming place done (Some row) e at is = ((row.0, done, names_its_command (said_in incoming.raw) e place done row is at), tt)

progressed_as : {T : Type 0} → (number : ℕ) (incoming : Incoming) (token : Option ℕ) (text : List ℕ) (e : EndValue T) → said_in incoming.raw ≡ goes_on text → AreAsSaid (listed (progressed number incoming token e).0)
progressed_as number incoming None text e is = (tt, tt)
progressed_as number incoming (Some token) text e is = ((text, is), tt)

message_as : {T : Type 0} → (number : ℕ) (incoming : Incoming) (what : Judged) (e : EndValue T) → judged (said_in incoming.raw) e ≡ what → JudgedAs what (said_in incoming.raw)
    → AreAsSaid (listed (taken_as number incoming what e).0)
message_as number incoming TooEarly e is so = (tt, tt)
message_as number incoming Stray e is so = (tt, tt)
message_as number incoming Greets e is so = (so, tt)
message_as number incoming Tells e is so = (so, tt)
message_as number incoming Asks e is so = (so, tt)
message_as number incoming (GoesOn place) e is so = progressed_as number incoming (number_at place e.pending) so.0 e so.1
message_as number incoming (Answers place done) e is so = finished_as number incoming place done (slice_get e.pending place) e refl is

stop_as : {T : Type 0} → (stop : Option Cause) (e : EndValue T) → AreAsSaid (listed (stop_taken stop e).0)
stop_as None e = tt
stop_as (Some cause) e = (tt, tt)

next_as : {T : Type 0} → (inbox : List Arrived) (e : EndValue T) → AreAsSaid (listed (taken_from inbox e).0)
next_as [] e = stop_as e.stop e
next_as (arrived ∷ inbox) e =
    let next = record e { inbox = inbox } in
    let message = said_in arrived.incoming.raw in
    message_as arrived.number arrived.incoming (judged message next) next refl (judged_as message next)

-- ---- Every call

said_called : {T : Type 0} → (call : Call T) (r : Run T) → TakesAsSaid r → TakesAsSaid (after_call call r)
said_called (delivering piece mark) r i = i
said_called ending r i = i
said_called taking r i = all_append IsAsSaid r.past.taken (listed (next_taken r.end).0) i (next_as r.end.inbox r.end)
said_called (commanding service name body tag mark) r i = i
said_called (sending message mark) r i = i
said_called putting_out r i = i
said_called closing r i = i
said_called draining r i = i

said_after : {T : Type 0} → (calls : List (Call T)) (r : Run T) → TakesAsSaid r → TakesAsSaid (after_calls calls r)
said_after [] r i = i
said_after (call ∷ calls) r i = said_after calls (after_call call r) (said_called call r i)

pub all_as_said : {T : Type 0} → AfterAllCalls {T = T} TakesAsSaid
all_as_said {T = T} hello mark calls = said_after calls (begun (new_end {T = T} hello mark)) tt

-- ---- The same by the messages

answered_as : {T : Type 0} → (taken : List (Taken T)) → AreAsSaid taken → (n : ℕ) → is_answered taken n ≡ answered_among (flat_map incoming_of taken) n
answered_as [] all n = refl
answered_as {T = T} (t ∷ taken) all n = by_entry t all.0 (answered_as taken all.1 n)
  where
    hits : Said → Bool
    hits message = list_any (λ text. bytes_eq text (decimal n)) (token_in message)

    messages : List Incoming
    messages = flat_map incoming_of taken

    by_entry : (x : Taken T) → IsAsSaid x → is_answered taken n ≡ answered_among messages n → is_answered (x ∷ taken) n ≡ answered_among (incoming_of x ++ messages) n
    by_entry (Hello incoming) is rest = rest ∙ sym (ap (λ m. hits m || answered_among messages n) is)
    by_entry (Command incoming) is rest = rest ∙ sym (ap (λ m. hits m || answered_among messages n) is)
    by_entry (Event incoming) is rest = rest ∙ sym (ap (λ m. hits m || answered_among messages n) is)
    by_entry (Progress token incoming) is rest = rest ∙ sym (ap (λ m. hits m || answered_among messages n) is.1)
    by_entry (Final tag incoming) is rest = ap (λ b. hits (said_in incoming.raw) || b) rest
    by_entry (Closed cause) is rest = rest

greeted_as : {T : Type 0} → (taken : List (Taken T)) → AreAsSaid taken → list_any is_greeting taken ≡ hello_among (flat_map incoming_of taken)
greeted_as [] all = refl
greeted_as {T = T} (t ∷ taken) all = by_entry t all.0 (greeted_as taken all.1)
  where
    messages : List Incoming
    messages = flat_map incoming_of taken

    by_entry : (x : Taken T) → IsAsSaid x → list_any is_greeting taken ≡ hello_among messages → list_any is_greeting (x ∷ taken) ≡ hello_among (incoming_of x ++ messages)
    by_entry (Hello incoming) is rest = sym (ap (λ m. is_hello m || hello_among messages) is)
    by_entry (Command incoming) is rest = rest ∙ sym (ap (λ m. is_hello m || hello_among messages) is)
    by_entry (Event incoming) is rest = rest ∙ sym (ap (λ m. is_hello m || hello_among messages) is)
    by_entry (Progress token incoming) is rest = rest ∙ sym (ap (λ m. is_hello m || hello_among messages) is.1)
    by_entry (Final tag incoming) is rest = rest ∙ sym (ap (λ m. is_hello m || hello_among messages) is.2)
    by_entry (Closed cause) is rest = rest

lacks_as : {T : Type 0} → (commands : List (Issued T)) (taken : List (Taken T)) → AreAsSaid taken → lacks_hello commands taken ≡ lacks_hello_among commands (flat_map incoming_of taken)
lacks_as commands [] all = refl
lacks_as {T = T} commands (t ∷ taken) all = by_entry t all.0 (greeted_as taken all.1) (lacks_as commands taken all.1)
  where
    messages : List Incoming
    messages = flat_map incoming_of taken

    first : Said → Bool
    first m = (is_done_for commands m && not (hello_among messages)) || lacks_hello_among commands messages

    by_entry : (x : Taken T) → IsAsSaid x → list_any is_greeting taken ≡ hello_among messages → lacks_hello commands taken ≡ lacks_hello_among commands messages
        → lacks_hello commands (x ∷ taken) ≡ lacks_hello_among commands (incoming_of x ++ messages)
    by_entry (Hello incoming) is same rest = rest ∙ sym (ap first is)
    by_entry (Command incoming) is same rest = rest ∙ sym (ap first is)
    by_entry (Event incoming) is same rest = rest ∙ sym (ap first is)
    by_entry (Progress token incoming) is same rest = rest ∙ sym (ap first is.1)
    by_entry (Final tag incoming) is same rest =
        ap (λ b. (is_done_for commands (said_in incoming.raw) && not b) || lacks_hello commands taken) same
        ∙ ap (λ b. (is_done_for commands (said_in incoming.raw) && not (hello_among messages)) || b) rest
    by_entry (Closed cause) is same rest = rest

pub all_tell : {T : Type 0} → AfterAllCalls {T = T} TellsAsMessages
all_tell {T = T} hello mark calls =
    let taken = (after_calls calls (begun (new_end {T = T} hello mark))).past.taken in
    let all = all_as_said {T = T} hello mark calls in
    record { answered = answered_as taken all; greeted = greeted_as taken all; lacks = λ commands. lacks_as commands taken all }
