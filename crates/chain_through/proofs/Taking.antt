-- What an end took: its messages, the commands among them, and those before and behind a moment.
use Rattle.std.proofs.Common.{◌≡◌, ℕ, Bool, true, false, cond, List, [], ◌∷◌, ◌++◌, map, Option, Some, None, Result, Ok, Err, refl, sym, ap, ◌∙◌, append_assoc, append-nil}
use Rattle.std.specs.Prelude.{slice_get}
use Rattle.std.specs.List.{AllByRecursion, flat_map}
use Rattle.std.proofs.lemmas.List.Concat.{flat_map-append}
use Rattle.tcf_message.specs.Message.{IsWellFormed, MessageValue, command, event, final, flow, not_known, progress, reading, spelling}
use Rattle.tcf_message.specs.declared.message.MessageFault.{MessageFault}
use Rattle.channel_core.specs.Arrivals.{AreSpoken, Spoken}
use Rattle.channel_core.specs.EndValue.{EndValue}
use Rattle.channel_core.specs.Laws.{listed}
use Rattle.channel_core.specs.ReceivingLaws.{incoming_of, received}
use Rattle.channel_core.specs.Runs.{Call, Past, Run, after_call, after_calls, begun, closing, commanding, delivering, draining, ending, putting_out, sending, taking}
use Rattle.channel_core.specs.Taking.{answer_judged, finished, is_early, judged, message_taken, next_taken, number_at, progress_judged, progressed, sent_place, stop_taken, taken_as, taken_from}
use Rattle.channel_core.specs.Wire.{Said, answers, asks, goes_on, greets, said_in, said_of, tells}
use Rattle.channel_core.specs.declared.held.Arrived.{Arrived}
use Rattle.channel_core.specs.declared.held.Incoming.{Incoming}
use Rattle.channel_core.specs.declared.states.Cause.{Cause}
use Rattle.channel_core.specs.Judged.{Judged}
use Rattle.channel_core.specs.Judged as judgements
use Rattle.channel_core.specs.declared.taking.Taken.{Taken}
use Rattle.channel_core.specs.declared.taking.Taken.TheVariants as taken
use Rattle.value_node.specs.Asked.{Asked}
use Rattle.value_node.specs.RelayLaws.{asked_by, asked_in}
use Rattle.list_laws.proofs.AllLists.{all_append}
use Rattle.chain_route.proofs.EndCalls.{calls_more}
use Rattle.list_laws.specs.Fronts.{IsFront}
use Rattle.tcf_message.proofs.TheLaws.{read_back}

-- ---- Calls, one list after the other

-- what is taken by them is taken behind what was taken before
takes_more : {T : Type 0} → (call : Call T) (before : List (Taken T)) (past other : Past T) (e : EndValue T) → past.taken ≡ before ++ other.taken
    → (after_call call (record { past = past; end = e })).past.taken ≡ before ++ (after_call call (record { past = other; end = e })).past.taken
takes_more (delivering piece mark) before past other e is = is
takes_more ending before past other e is = is
takes_more taking before past other e is = ap (λ ts. ts ++ listed (next_taken e).0) is ∙ append_assoc before other.taken (listed (next_taken e).0)
takes_more (commanding service name body tag mark) before past other e is = is
takes_more (sending message mark) before past other e is = is
takes_more putting_out before past other e is = is
takes_more closing before past other e is = is
takes_more draining before past other e is = is

taken_behind : {T : Type 0} → (calls : List (Call T)) (before : List (Taken T)) (past other : Past T) (e : EndValue T) → past.taken ≡ before ++ other.taken
    → (after_calls calls (record { past = past; end = e })).past.taken ≡ before ++ (after_calls calls (record { past = other; end = e })).past.taken
taken_behind [] before past other e is = is
taken_behind (call ∷ calls) before past other e is =
    let one = after_call call (record { past = past; end = e }) in
    let two = after_call call (record { past = other; end = e }) in
    taken_behind calls before one.past two.past one.end (takes_more call before past other e is)

pub taken_split : {T : Type 0} → (calls more : List (Call T)) (r : Run T)
    → (after_calls (calls ++ more) r).past.taken ≡ (after_calls calls r).past.taken ++ (after_calls more (begun (after_calls calls r).end)).past.taken
taken_split calls more r =
    let first = after_calls calls r in
    ap (λ x. x.past.taken) (calls_more calls more r) ∙ taken_behind more first.past.taken first.past (begun first.end).past first.end (sym (append-nil first.past.taken))

-- ---- The messages that were taken

pub received_front : {T : Type 0} → (r : Run T) (messages : List Incoming) → IsFront (received r) messages → IsFront (flat_map incoming_of r.past.taken) messages
received_front r messages p =
    let first = flat_map incoming_of r.past.taken in
    let waiting = map (λ a. a.incoming) r.end.inbox in
    (waiting ++ p.0, p.1 ∙ append_assoc first waiting p.0)

-- as they came
abbrev pub come_as : Spoken → Incoming
come_as s = record { raw = spelling s.message; mark = s.mark }

-- ---- The commands among them

abbrev pub commands_in : List Incoming → List Asked
commands_in messages = flat_map (λ i. asked_in i.mark (reading i.raw)) messages

abbrev pub asked_of : List Spoken → List Asked
asked_of spoken = flat_map (λ s. asked_in s.mark (Ok s.message)) spoken

pub commands_read : (spoken : List Spoken) → AreSpoken spoken → commands_in (map come_as spoken) ≡ asked_of spoken
commands_read [] each = refl
commands_read (s ∷ spoken) each =
    ap (λ r. asked_in s.mark r ++ commands_in (map come_as spoken)) (read_back.1 s.message each.0) ∙ ap (λ xs. asked_in s.mark (Ok s.message) ++ xs) (commands_read spoken each.1)

-- they were read, so they can be written
abbrev pub IsWritten : Asked → Type 0
IsWritten c = IsWellFormed (command c.token c.service c.name c.body)

read_written : (mark : Option ℕ) (raw : List ℕ) → AllByRecursion IsWritten (asked_in mark (reading raw))
read_written mark raw = by_reading (reading raw) refl
  where
    by_reading : (r : Result MessageValue MessageFault) → reading raw ≡ r → AllByRecursion IsWritten (asked_in mark r)
    by_reading (Ok (command token service name body)) is =
        let says = (read_back.0 raw (command token service name body)).0 is in (says.0, tt)
    by_reading (Ok (final token body)) is = tt
    by_reading (Ok (progress token body)) is = tt
    by_reading (Ok (not_known token)) is = tt
    by_reading (Ok (event service name body)) is = tt
    by_reading (Ok (flow level)) is = tt
    by_reading (Err fault) is = tt

pub all_written : {T : Type 0} → (entries : List (Taken T)) → AllByRecursion IsWritten (flat_map asked_by entries)
all_written [] = tt
all_written (taken.Command incoming ∷ entries) =
    all_append IsWritten (asked_in incoming.mark (reading incoming.raw)) (flat_map asked_by entries) (read_written incoming.mark incoming.raw) (all_written entries)
all_written (taken.Hello incoming ∷ entries) = all_written entries
all_written (taken.Event incoming ∷ entries) = all_written entries
all_written (taken.Progress token incoming ∷ entries) = all_written entries
all_written (taken.Final tag incoming ∷ entries) = all_written entries
all_written (taken.Closed cause ∷ entries) = all_written entries

-- ---- What was taken is what its message is

abbrev FitsAsked : Option (Taken Unit) → Type 0
FitsAsked None = Unit {0}
FitsAsked (Some what) = asked_by what ≡ commands_in (incoming_of what)

-- a message asks exactly where it is a command
none_asked : (i : Incoming) → ((said_in i.raw ≡ asks) → ⊥) → asked_in i.mark (reading i.raw) ≡ []
none_asked i isnt = by_reading (reading i.raw) refl
  where
    by_reading : (m : Result MessageValue MessageFault) → reading i.raw ≡ m → asked_in i.mark m ≡ []
    by_reading (Ok (command token service name body)) is = absurd (isnt (ap (λ x. said_of x) is))
    by_reading (Ok (final token body)) is = refl
    by_reading (Ok (progress token body)) is = refl
    by_reading (Ok (not_known token)) is = refl
    by_reading (Ok (event service name body)) is = refl
    by_reading (Ok (flow level)) is = refl
    by_reading (Err fault) is = refl

empty_more : (i : Incoming) → asked_in i.mark (reading i.raw) ≡ [] → [] ≡ commands_in (i ∷ [])
empty_more i none = sym (append-nil (asked_in i.mark (reading i.raw)) ∙ none)

-- as it is judged: what is judged as another message is none
taken_fits : (number : ℕ) (i : Incoming) (what : Judged) (e : EndValue Unit) → ((what ≡ judgements.Asks) → ⊥) → asked_in i.mark (reading i.raw) ≡ [] → FitsAsked (taken_as number i what e).0
taken_fits number i judgements.TooEarly e isnt none = refl
taken_fits number i judgements.Stray e isnt none = refl
taken_fits number i judgements.Greets e isnt none = empty_more i none
taken_fits number i judgements.Tells e isnt none = empty_more i none
taken_fits number i judgements.Asks e isnt none = absurd (isnt refl)
taken_fits number i (judgements.GoesOn place) e isnt none = by_token (number_at place e.pending)
  where
    by_token : (token : Option ℕ) → FitsAsked (progressed number i token e).0
    by_token None = refl
    by_token (Some token) = empty_more i none
taken_fits number i (judgements.Answers place done) e isnt none = by_row (slice_get e.pending place)
  where
    by_row : (row : Option (ℕ × Unit)) → FitsAsked (finished number i place done row e).0
    by_row None = refl
    by_row (Some row) = empty_more i none

not_asks : (early : Bool) (what : Judged) → ((what ≡ judgements.Asks) → ⊥) → (cond early judgements.TooEarly what ≡ judgements.Asks) → ⊥
not_asks true what isnt same = absurd cc
not_asks false what isnt same = isnt same

progress_not : (place : Option ℕ) → (progress_judged place ≡ judgements.Asks) → ⊥
progress_not None same = absurd cc
progress_not (Some place) same = absurd cc

answer_not : (done : Bool) (place : Option ℕ) → (answer_judged done place ≡ judgements.Asks) → ⊥
answer_not done None same = absurd cc
answer_not done (Some place) same = absurd cc

asks_fits : (number : ℕ) (i : Incoming) (early : Bool) (e : EndValue Unit) → FitsAsked (taken_as number i (cond early judgements.TooEarly judgements.Asks) e).0
asks_fits number i true e = refl
asks_fits number i false e = sym (append-nil (asked_in i.mark (reading i.raw)))

said_fits : (number : ℕ) (i : Incoming) (s : Said) (e : EndValue Unit) → said_in i.raw ≡ s → FitsAsked (message_taken number i s e).0
said_fits number i asks e is = asks_fits number i (is_early e.state asks) e
said_fits number i greets e is = taken_fits number i (judged greets e) e (not_asks (is_early e.state greets) judgements.Greets (λ same. absurd cc)) (none_asked i (λ other. absurd (kinds other)))
  where
    kinds : said_in i.raw ≡ asks → ⊥
    kinds other = let same : greets ≡ asks = sym is ∙ other in absurd cc
said_fits number i tells e is = taken_fits number i (judged tells e) e (not_asks (is_early e.state tells) judgements.Tells (λ same. absurd cc)) (none_asked i (λ other. absurd (kinds other)))
  where
    kinds : said_in i.raw ≡ asks → ⊥
    kinds other = let same : tells ≡ asks = sym is ∙ other in absurd cc
said_fits number i (goes_on token) e is =
    taken_fits number i (judged (goes_on token) e) e (not_asks (is_early e.state (goes_on token)) (progress_judged (sent_place token e)) (progress_not (sent_place token e))) (none_asked i (λ other. absurd (kinds other)))
  where
    kinds : said_in i.raw ≡ asks → ⊥
    kinds other = let same : goes_on token ≡ asks = sym is ∙ other in absurd cc
said_fits number i (answers token done) e is =
    taken_fits number i (judged (answers token done) e) e (not_asks (is_early e.state (answers token done)) (answer_judged done (sent_place token e)) (answer_not done (sent_place token e))) (none_asked i (λ other. absurd (kinds other)))
  where
    kinds : said_in i.raw ≡ asks → ⊥
    kinds other = let same : answers token done ≡ asks = sym is ∙ other in absurd cc

inbox_fits : (inbox : List Arrived) (e : EndValue Unit) → FitsAsked (taken_from inbox e).0
inbox_fits [] e = by_stop e.stop
  where
    by_stop : (stop : Option Cause) → FitsAsked (stop_taken stop e).0
    by_stop None = tt
    by_stop (Some cause) = refl
inbox_fits (arrived ∷ inbox) e = said_fits arrived.number arrived.incoming (said_in arrived.incoming.raw) (record e { inbox = inbox }) refl

-- the commands that a run took are those among the messages that it took
abbrev pub FitsRun : Run Unit → Type 0
FitsRun r = flat_map asked_by r.past.taken ≡ commands_in (flat_map incoming_of r.past.taken)

listed_fits : (what : Option (Taken Unit)) → FitsAsked what → flat_map asked_by (listed what) ≡ commands_in (flat_map incoming_of (listed what))
listed_fits None fits = refl
listed_fits (Some what) fits = append-nil (asked_by what) ∙ fits ∙ ap commands_in (sym (append-nil (incoming_of what)))

call_fits : (call : Call Unit) (r : Run Unit) → FitsRun r → FitsRun (after_call call r)
call_fits (delivering piece mark) r fits = fits
call_fits ending r fits = fits
call_fits (commanding service name body tag mark) r fits = fits
call_fits (sending message mark) r fits = fits
call_fits putting_out r fits = fits
call_fits closing r fits = fits
call_fits draining r fits = fits
call_fits taking r fits =
    let what = listed (next_taken r.end).0 in
    flat_map-append asked_by r.past.taken what ∙ ap (λ xs. xs ++ flat_map asked_by what) fits
    ∙ ap (λ xs. commands_in (flat_map incoming_of r.past.taken) ++ xs) (listed_fits (next_taken r.end).0 (inbox_fits r.end.inbox r.end))
    ∙ sym (flat_map-append (λ i. asked_in i.mark (reading i.raw)) (flat_map incoming_of r.past.taken) (flat_map incoming_of what))
    ∙ ap commands_in (sym (flat_map-append incoming_of r.past.taken what))

pub calls_fit : (calls : List (Call Unit)) (r : Run Unit) → FitsRun r → FitsRun (after_calls calls r)
calls_fit [] r fits = fits
calls_fit (call ∷ calls) r fits = calls_fit calls (after_call call r) (call_fits call r fits)
