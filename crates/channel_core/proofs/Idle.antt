-- Nothing is taken exactly where no entry waits.
use Rattle.std.proofs.Common.{◌≡◌, ℕ, List, [], ◌∷◌, length, Option, Some, None, refl, sym, ap, ◌∙◌, arith}
use Rattle.std.specs.Prelude.{◌↔◌, IfOk, Result, Ok, Err, ◌+◌, ◌^◌, ◌-◌, min, if◌then◌else◌, is_some, slice_get}
use Rattle.channel_core.specs.EndValue.{EndValue}
use Rattle.channel_core.specs.Receiving.{waiting_in}
use Rattle.channel_core.specs.Taking.{finished, judged, next_taken, number_at, progressed, stop_taken, taken_as, taken_from}
use Rattle.channel_core.specs.Wire.{said_in}
use Rattle.channel_core.specs.declared.held.Arrived.{Arrived}
use Rattle.channel_core.specs.declared.held.Incoming.{Incoming}
use Rattle.channel_core.specs.declared.states.Cause.{Cause}
use Rattle.channel_core.specs.Judged.{Judged, Answers, Asks, GoesOn, Greets, Stray, Tells, TooEarly}
use Rattle.channel_core.specs.declared.taking.Taken.{Taken}

-- of a message something is taken, whatever it is to the end
message_is_taken : {T : Type 0} → (number : ℕ) (incoming : Incoming) (what : Judged) (e : EndValue T) → (taken_as number incoming what e).0 ≡ None → ⊥
message_is_taken number incoming TooEarly e none = cc
message_is_taken number incoming Stray e none = cc
message_is_taken number incoming Greets e none = cc
message_is_taken number incoming Tells e none = cc
message_is_taken number incoming Asks e none = cc
message_is_taken {T = T} number incoming (GoesOn place) e none = by_number (number_at place e.pending) none
  where
    by_number : (token : Option ℕ) → (progressed number incoming token e).0 ≡ None → ⊥
    by_number None n = cc
    by_number (Some token) n = cc
message_is_taken {T = T} number incoming (Answers place done) e none = by_row (slice_get e.pending place) none
  where
    by_row : (row : Option (ℕ × T)) → (finished number incoming place done row e).0 ≡ None → ⊥
    by_row None n = cc
    by_row (Some row) n = cc

-- no message waits, and no last entry
abbrev pub WaitsForNothing : {T : Type 0} → EndValue T → Type 0
WaitsForNothing e = (e.inbox ≡ []) × (e.stop ≡ None)

waits_none : {T : Type 0} → (e : EndValue T) → (next_taken e).0 ≡ None → WaitsForNothing e
waits_none {T = T} e none = by_inbox e.inbox none
  where
    by_stop : (stop : Option Cause) → (stop_taken stop e).0 ≡ None → stop ≡ None
    by_stop None n = refl
    by_stop (Some cause) n = cc

    by_inbox : (inbox : List Arrived) → (taken_from inbox e).0 ≡ None → (inbox ≡ []) × (e.stop ≡ None)
    by_inbox [] n = (refl, by_stop e.stop n)
    by_inbox (arrived ∷ inbox) n =
        let rest : EndValue T = record e { inbox = inbox } in
        absurd (message_is_taken arrived.number arrived.incoming (judged (said_in arrived.incoming.raw) rest) rest n)

takes_nothing : {T : Type 0} → (e : EndValue T) → WaitsForNothing e → next_taken e ≡ (None, e)
takes_nothing e waits = ap (λ (inbox : List Arrived). taken_from inbox e) waits.0 ∙ ap (λ (stop : Option Cause). stop_taken stop e) waits.1

counts_none : {T : Type 0} → (e : EndValue T) → WaitsForNothing e → waiting_in e ≡ 0
counts_none e waits =
    ap (λ (inbox : List Arrived). min (length inbox + (if is_some e.stop then 1 else 0)) (2 ^ 64 - 1)) waits.0
    ∙ ap (λ (stop : Option Cause). min (0 + (if is_some stop then 1 else 0)) (2 ^ 64 - 1)) waits.1

none_counted : {T : Type 0} → (e : EndValue T) → waiting_in e ≡ 0 → WaitsForNothing e
none_counted e none = by_inbox e.inbox e.stop none
  where
    by_inbox : (inbox : List Arrived) (stop : Option Cause) → min (length inbox + (if is_some stop then 1 else 0)) (2 ^ 64 - 1) ≡ 0 → (inbox ≡ []) × (stop ≡ None)
    by_inbox [] None n = (refl, refl)
    by_inbox [] (Some cause) n = absurd (omega (arith, n))
    by_inbox (arrived ∷ inbox) None n = absurd (omega (arith, n))
    by_inbox (arrived ∷ inbox) (Some cause) n = absurd (omega (arith, n))

pub none_is_taken : {T : Type 0} → (e : EndValue T) → ((next_taken e).0 ≡ None) ↔ (waiting_in e ≡ 0)
none_is_taken e = (λ none. counts_none e (waits_none e none), λ none. ap (λ t. t.0) (takes_nothing e (none_counted e none)))

-- what is left of the end then
pub nothing_taken : {T : Type 0} → (e : EndValue T) → waiting_in e ≡ 0 → next_taken e ≡ (None, e)
nothing_taken e none = takes_nothing e (none_counted e none)

-- the inbox and the last entry of an end where nothing waits
pub inbox_is_empty : {T : Type 0} → (e : EndValue T) → waiting_in e ≡ 0 → e.inbox ≡ []
inbox_is_empty e none = (none_counted e none).0

pub has_no_stop : {T : Type 0} → (e : EndValue T) → waiting_in e ≡ 0 → e.stop ≡ None
has_no_stop e none = (none_counted e none).1

-- the same of what was taken, by the one equation of it and what is left
taken_is_none : {T : Type 0} → (e next : EndValue T) (what : Option (Taken T)) → (what, next) ≡ next_taken e → ((what ≡ None) ↔ (waiting_in e ≡ 0))
taken_is_none e next what is =
    let same : what ≡ (next_taken e).0 = ap (λ t. t.0) is in
    let both = none_is_taken e in
    (λ none. both.0 (sym same ∙ none), λ none. same ∙ both.1 none)

-- and of an answer, which may be want of memory
pub when_none_is_taken : {T E : Type 0} → (answer : Result (Option (Taken T)) E) (e next : EndValue T) → IfOk answer (λ what. (what, next) ≡ next_taken e)
    → IfOk answer (λ what. (what ≡ None) ↔ (waiting_in e ≡ 0))
when_none_is_taken (Ok what) e next is = taken_is_none e next what is
when_none_is_taken (Err error) e next is = tt
