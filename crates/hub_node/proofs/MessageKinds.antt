-- What is taken from an end is what its message says, and progress and an answer are those of a pending command.
use Rattle.std.proofs.Common.{◌≡◌, ℕ, Bool, true, false, List, [], ◌∷◌, length, Option, Some, None, Result, Ok, Err, refl, ap, sym, ◌∙◌}
use Rattle.std.specs.List.{Contains}
use Rattle.std.specs.Prelude.{bytes_eq, decimal, if◌then◌else◌, option_map, slice_get, slice_index_or}
use Rattle.std.proofs.lemmas.List.Quantifiers.{position-Some}
use Rattle.std.proofs.lemmas.Slice.Eq.{bytes_eq-Decides}
use Rattle.tcf_message.specs.Message.{MessageValue, command, event, final, flow, not_known, progress, reading}
use Rattle.tcf_message.specs.declared.message.MessageFault.{MessageFault}
use Rattle.channel_core.specs.Closing.{is_closed}
use Rattle.channel_core.specs.EndValue.{EndValue}
use Rattle.channel_core.specs.Level.{is_due, level_of, leveled}
use Rattle.channel_core.specs.Taking.{answer_judged, finished, is_early, is_held, judged, next_taken, place_of, progress_judged, progressed, sent_at, sent_place, stop_taken, taken_as, taken_from, unless_held}
use Rattle.channel_core.specs.Wire.{answers, asks, event_said, goes_on, greets, is_done, said_of, tells}
use Rattle.channel_core.specs.declared.held.Arrived.{Arrived}
use Rattle.channel_core.specs.declared.held.Held.{Held}
use Rattle.channel_core.specs.declared.held.Incoming.{Incoming}
use Rattle.channel_core.specs.declared.states.Cause.{Cause}
use Rattle.channel_core.specs.Judged.{Judged}
use Rattle.channel_core.specs.Judged as judges
use Rattle.channel_core.specs.declared.taking.Taken.{Taken}
use Rattle.channel_core.specs.declared.taking.Taken.TheVariants as taken
use Rattle.list_laws.proofs.Lists.{get_at, get_within}

-- ---- kinds of messages

abbrev pub IsEvent : Result MessageValue MessageFault → Type 0
IsEvent (Ok (event service name body)) = Unit {0}
IsEvent _ = ⊥

-- an event, or nothing that is passed on
abbrev pub IsTold : Result MessageValue MessageFault → Type 0
IsTold (Ok (event service name body)) = Unit {0}
IsTold (Ok (flow level)) = Unit {0}
IsTold (Err fault) = Unit {0}
IsTold _ = ⊥

abbrev pub IsCommand : Result MessageValue MessageFault → Type 0
IsCommand (Ok (command token service name body)) = Unit {0}
IsCommand _ = ⊥

abbrev pub IsProgressOf : ℕ → Result MessageValue MessageFault → Type 0
IsProgressOf number (Ok (progress token body)) = token ≡ decimal number
IsProgressOf number _ = ⊥

abbrev pub IsAnswerTo : ℕ → Result MessageValue MessageFault → Type 0
IsAnswerTo number (Ok (final token body)) = token ≡ decimal number
IsAnswerTo number (Ok (not_known token)) = token ≡ decimal number
IsAnswerTo number _ = ⊥

pub told_of : (m : Result MessageValue MessageFault) → IsEvent m → IsTold m
told_of (Ok (event service name body)) is = tt
told_of m is = absurd is

-- ---- what is taken

contains_get : {A : Type 0} → (xs : List A) (place : ℕ) (x : A) → slice_get xs place ≡ Some x → Contains xs x
contains_get xs place x is = (place, get_within place xs x is, get_at xs place x is)

pub record GoesOn {T : Type 0} (pending : List (ℕ × T)) (number : ℕ) (incoming : Incoming) (next : EndValue T) : Type 0 where
  pub message : IsProgressOf number (reading incoming.raw)
  pub tag : T
  pub there : Contains pending (number, tag)
  pub kept : next.pending ≡ pending

pub record Finishes {T : Type 0} (pending : List (ℕ × T)) (tag : T) (incoming : Incoming) : Type 0 where
  pub number : ℕ
  pub message : IsAnswerTo number (reading incoming.raw)
  pub there : Contains pending (number, tag)

-- with these commands pending before
abbrev pub Gives : {T : Type 0} → List (ℕ × T) → Taken T → EndValue T → Type 0
Gives pending (taken.Hello incoming) next = IsEvent (reading incoming.raw)
Gives pending (taken.Command incoming) next = IsCommand (reading incoming.raw)
Gives pending (taken.Event incoming) next = IsTold (reading incoming.raw)
Gives pending (taken.Progress number incoming) next = GoesOn pending number incoming next
Gives pending (taken.Final tag incoming) next = Finishes pending tag incoming
Gives pending (taken.Closed cause) next = is_closed next.state ≡ true

abbrev pub GivesAny : {T : Type 0} → List (ℕ × T) → Option (Taken T) × EndValue T → Type 0
GivesAny pending (None, next) = Unit {0}
GivesAny pending (Some what, next) = Gives pending what next

-- ---- the command that a token names

unheld : (flag : Bool) (place found : ℕ) → (if flag then None else Some place) ≡ Some found → place ≡ found
unheld true place found is = cc
unheld false place found is = cc

sent_there : {T : Type 0} → (place found : ℕ) (row : Option (ℕ × T)) (held : List Held) → unless_held place row held ≡ Some found → place ≡ found
sent_there place found None held is = cc
sent_there place found (Some row) held is = unheld (is_held row.0 held) place found is

placed : {T : Type 0} → (place : Option ℕ) (found : ℕ) (rows : List (ℕ × T)) (held : List Held) → sent_at place rows held ≡ Some found → place ≡ Some found
placed None found rows held is = cc
placed (Some place) found rows held is = ap (λ n. Some n) (sent_there place found (slice_get rows place) held is)

named : {T : Type 0} → (token : List ℕ) (e : EndValue T) (place : ℕ) (row : ℕ × T) → sent_place token e ≡ Some place → slice_get e.pending place ≡ Some row → token ≡ decimal row.0
named {T} token e place row found there =
    let test : ℕ × T → Bool = λ r. bytes_eq token (decimal r.0) in
    let position_is : place_of token e.pending ≡ Some place = placed (place_of token e.pending) place e.pending e.held found in
    let passes : test (slice_index_or e.pending place row) ≡ true = (position-Some test e.pending place row position_is).1 in
    let here : test row ≡ true = sym (ap test (get_at e.pending place row there)) ∙ passes in
    (bytes_eq-Decides token (decimal row.0)).0 here

leveled_by : {T : Type 0} → (flag : Bool) (one e : EndValue T) → one.pending ≡ e.pending → (if flag then one else e).pending ≡ e.pending
leveled_by true one e same = same
leveled_by false one e same = refl

leveled_pending : {T : Type 0} → (e : EndValue T) → (leveled e).pending ≡ e.pending
leveled_pending e = leveled_by (is_due e.is_loud (level_of (length e.inbox))) _ e refl

-- ---- what a message comes to

early_by : {T : Type 0} → (number : ℕ) (incoming : Incoming) (flag : Bool) (what : Judged) (e : EndValue T) → GivesAny e.pending (taken_as number incoming what e)
    → GivesAny e.pending (taken_as number incoming (if flag then judges.TooEarly else what) e)
early_by number incoming true what e gives = refl
early_by number incoming false what e gives = gives

event_gives : {T : Type 0} → (number : ℕ) (incoming : Incoming) (flag : Bool) (e : EndValue T) → IsEvent (reading incoming.raw) → IsTold (reading incoming.raw)
    → GivesAny e.pending (taken_as number incoming (judged (event_said flag) e) e)
event_gives number incoming true e one other = early_by number incoming (is_early e.state greets) judges.Greets e one
event_gives number incoming false e one other = early_by number incoming (is_early e.state tells) judges.Tells e other

progressed_gives : {T : Type 0} → (number : ℕ) (incoming : Incoming) (place : ℕ) (found : Option (ℕ × T)) (e : EndValue T) → slice_get e.pending place ≡ found
    → ((row : ℕ × T) → found ≡ Some row → IsProgressOf row.0 (reading incoming.raw)) → GivesAny e.pending (progressed number incoming (option_map (λ row. row.0) found) e)
progressed_gives number incoming place None e there fits = refl
progressed_gives number incoming place (Some row) e there fits = record {
  message = fits row refl;
  tag = row.1;
  there = contains_get e.pending place row there;
  kept = leveled_pending e;
}

progress_gives : {T : Type 0} → (number : ℕ) (incoming : Incoming) (token body : List ℕ) (place : Option ℕ) (e : EndValue T) → reading incoming.raw ≡ Ok (progress token body)
    → sent_place token e ≡ place → GivesAny e.pending (taken_as number incoming (progress_judged place) e)
progress_gives number incoming token body None e is sent = refl
progress_gives number incoming token body (Some place) e is sent =
    progressed_gives number incoming place (slice_get e.pending place) e refl (λ row found. rw is (named token e place row sent found))

finished_gives : {T : Type 0} → (number : ℕ) (incoming : Incoming) (place : ℕ) (done : Bool) (found : Option (ℕ × T)) (e : EndValue T) → slice_get e.pending place ≡ found
    → ((row : ℕ × T) → found ≡ Some row → IsAnswerTo row.0 (reading incoming.raw)) → GivesAny e.pending (finished number incoming place done found e)
finished_gives number incoming place done None e there fits = refl
finished_gives number incoming place done (Some row) e there fits = record { number = row.0; message = fits row refl; there = contains_get e.pending place row there }

answer_gives : {T : Type 0} → (number : ℕ) (incoming : Incoming) (token : List ℕ) (done : Bool) (place : Option ℕ) (e : EndValue T)
    → ((wanted : ℕ) → token ≡ decimal wanted → IsAnswerTo wanted (reading incoming.raw)) → sent_place token e ≡ place
    → GivesAny e.pending (taken_as number incoming (answer_judged done place) e)
answer_gives number incoming token done None e fits sent = refl
answer_gives number incoming token done (Some place) e fits sent =
    finished_gives number incoming place done (slice_get e.pending place) e refl (λ row found. fits row.0 (named token e place row sent found))

message_gives : {T : Type 0} → (number : ℕ) (incoming : Incoming) (m : Result MessageValue MessageFault) (e : EndValue T) → reading incoming.raw ≡ m
    → GivesAny e.pending (taken_as number incoming (judged (said_of m) e) e)
message_gives number incoming (Err fault) e is = early_by number incoming (is_early e.state tells) judges.Tells e (rw is tt)
message_gives number incoming (Ok (flow level)) e is = early_by number incoming (is_early e.state tells) judges.Tells e (rw is tt)
message_gives number incoming (Ok (command token service name body)) e is = early_by number incoming (is_early e.state asks) judges.Asks e (rw is tt)
message_gives number incoming (Ok (final token body)) e is =
    early_by number incoming (is_early e.state (answers token (is_done body))) (answer_judged (is_done body) (sent_place token e)) e
    (answer_gives number incoming token (is_done body) (sent_place token e) e (λ wanted own. rw is own) refl)
message_gives number incoming (Ok (progress token body)) e is =
    early_by number incoming (is_early e.state (goes_on token)) (progress_judged (sent_place token e)) e (progress_gives number incoming token body (sent_place token e) e is refl)
message_gives number incoming (Ok (not_known token)) e is =
    early_by number incoming (is_early e.state (answers token false)) (answer_judged false (sent_place token e)) e
    (answer_gives number incoming token false (sent_place token e) e (λ wanted own. rw is own) refl)
message_gives number incoming (Ok (event service name body)) e is = event_gives number incoming _ e (rw is tt) (rw is tt)

stop_gives : {T : Type 0} → (stop : Option Cause) (e : EndValue T) → GivesAny e.pending (stop_taken stop e)
stop_gives None e = tt
stop_gives (Some cause) e = refl

from_gives : {T : Type 0} → (inbox : List Arrived) (e : EndValue T) → GivesAny e.pending (taken_from inbox e)
from_gives [] e = stop_gives e.stop e
from_gives (arrived ∷ inbox) e = message_gives arrived.number arrived.incoming (reading arrived.incoming.raw) (record e { inbox = inbox }) refl

pub next_gives : {T : Type 0} → (e : EndValue T) → GivesAny e.pending (next_taken e)
next_gives e = from_gives e.inbox e
