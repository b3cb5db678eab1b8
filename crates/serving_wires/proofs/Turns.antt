-- What is called in a turn, and what comes of a call that failed.
use Rattle.std.proofs.Common.{◌≡◌, ℕ, ◌+◌, inl, Bool, true, List, [], ◌∷◌, ◌++◌, length, refl, sym, ap, ◌∙◌, subst, arith, length-append}
use Rattle.std.specs.Prelude.{Result, Ok, Err}
use Rattle.std.proofs.lemmas.Bool.{false≢true}
use Rattle.std.proofs.lemmas.Grind.{flat_map-append}
use Rattle.tcf_outside.specs.Faults.{Rose}
use Rattle.tcf_wires.specs.Told.{WiresSeen, faults_through, noted}
use Rattle.tcf_wires.specs.declared.call.WireCall.{WireCall}
use Rattle.tcf_wires.specs.declared.call.WireCall.TheVariants.{Listened, Gave}
use Rattle.tcf_wires.specs.declared.event.WireEvent.{WireEvent}
use Rattle.tcf_wires.specs.declared.event.WireEvent.TheVariants as events
use Rattle.tcf_wires.specs.declared.event.WireRefusal.{WireRefusal}
use Rattle.tcf_wires.specs.declared.event.WireRefusal.TheVariants as refusals
use Rattle.serving_wires.specs.Calls.{Makes, event_of, events_in}
use Rattle.serving_wires.specs.Ends.{end_of}
use Rattle.serving_wires.specs.Serving.{is_stop}
use Rattle.serving_wires.specs.declared.end.ServeEnd.TheVariants.{WireFault}
use Rattle.serving_wires.proofs.Making.{makes_both, makes_nothing, makes_one}
use Rattle.serving_wires.proofs.Rising.{last_rises, rose_raised}

-- ---- the address

abbrev pub heard : Unit {0} → Result (Unit {0}) WireRefusal
heard answer = Ok answer

abbrev pub unheard : WireRefusal → Result (Unit {0}) WireRefusal
unheard refusal = Err refusal

abbrev pub listened : List ℕ → Result Unit WireRefusal → List WireCall
listened address answer = Listened address answer ∷ []

pub listen_rose : (refusal : WireRefusal) (address : List ℕ) (seen seen_then : WiresSeen) → seen_then ≡ noted (unheard refusal) (Listened address (unheard refusal)) seen
    → end_of (Err refusal) ≡ WireFault → Rose seen.faults seen_then.faults
listen_rose refusals.Failed address seen seen_then fails ends =
    subst (λ (n : ℕ). Rose seen.faults n) (sym (ap (λ (s : WiresSeen). s.faults) fails)) (rose_raised seen.faults seen.faults (inl (omega arith)))
listen_rose refusals.NoMemory address seen seen_then fails ends = absurd cc

-- a fault behind the listening is one of the whole
pub rose_behind : (answer : Unit {0}) (address : List ℕ) (Ends : Type 0) (seen seen1 seen2 : WiresSeen) → seen1 ≡ noted (heard answer) (Listened address (heard answer)) seen
    → (Ends → Rose seen1.faults seen2.faults) → Ends → Rose seen.faults seen2.faults
rose_behind answer address Ends seen seen1 seen2 listens rose = λ ends. subst (λ (n : ℕ). Rose n seen2.faults) (ap (λ (s : WiresSeen). s.faults) listens) (rose ends)

-- ---- an event

abbrev pub came_next : WireEvent → Result WireEvent WireRefusal
came_next event = Ok event

abbrev pub gave : WireEvent → WireCall
gave event = Gave (Ok event)

pub events_then : (calls : List WireCall) (event : WireEvent) → events_in (calls ++ gave event ∷ []) ≡ events_in calls ++ event ∷ []
events_then calls event = flat_map-append event_of calls (gave event ∷ [])

pub one_longer : (earlier now : List WireEvent) (event : WireEvent) (count : ℕ) → now ≡ earlier ++ event ∷ [] → length earlier ≡ count → length now ≡ count + 1
one_longer earlier now event count came counted = ap (λ (es : List WireEvent). length es) came ∙ length-append earlier (event ∷ []) ∙ ap (λ (n : ℕ). n + 1) counted

pub is_the_stop : (event : WireEvent) → is_stop event ≡ true → event ≡ events.Stop
is_the_stop (events.Opened channel) is = absurd (false≢true is)
is_the_stop (events.Piece channel bytes) is = absurd (false≢true is)
is_the_stop (events.Ended channel) is = absurd (false≢true is)
is_the_stop (events.Lost channel) is = absurd (false≢true is)
is_the_stop events.Idle is = absurd (false≢true is)
is_the_stop events.Stop is = refl

abbrev pub IsGiven : WireEvent → List WireCall → Type 0
IsGiven event calls = calls ≡ gave event ∷ []

pub given_first : (event : WireEvent) (seen seen_mid : WiresSeen) → seen_mid ≡ noted (came_next event) (gave event) seen → Makes (IsGiven event) seen seen_mid
given_first event seen seen_mid came = makes_one (IsGiven event) (gave event) seen seen_mid refl came

-- ---- no event

abbrev pub failed_next : WireRefusal → Result WireEvent WireRefusal
failed_next refusal = Err refusal

abbrev pub failed : List WireCall
failed = Gave (Err refusals.Failed) ∷ []

pub not_given : (refusal : WireRefusal) (Turn : Result Bool WireRefusal → List WireCall → Type 0) (seen seen_then : WiresSeen)
    → Turn (Err refusals.Failed) failed → Turn (Err refusals.NoMemory) [] → seen_then ≡ noted (failed_next refusal) (Gave (failed_next refusal)) seen
    → Makes (Turn (Err refusal)) seen seen_then
not_given refusals.Failed Turn seen seen_then fails wants came =
    makes_one (Turn (Err refusals.Failed)) (Gave (Err refusals.Failed)) seen seen_then fails came
not_given refusals.NoMemory Turn seen seen_then fails wants came =
    makes_nothing (Turn (Err refusals.NoMemory)) seen seen_then wants came

pub turn_rose : (refusal : WireRefusal) (First : List WireCall → Type 0) (Turn : Result Bool WireRefusal → List WireCall → Type 0)
    (seen seen_mid seen_then : WiresSeen) → ((calls : List WireCall) → Turn (Err refusals.Failed) calls → calls ≡ failed)
    → Makes First seen seen_mid → Makes (Turn (Err refusal)) seen_mid seen_then → end_of (Err refusal) ≡ WireFault → Rose seen.faults seen_then.faults
turn_rose refusals.Failed First Turn seen seen_mid seen_then fails first turn ends =
    let m = makes_both First (Turn (Err refusals.Failed)) (λ calls. (earlier : List WireCall) × (calls ≡ earlier ++ failed))
    seen seen_mid seen_then (λ calls more r t. (calls, ap (λ (cs : List WireCall). calls ++ cs) (fails more t))) first turn in
    subst (λ (n : ℕ). Rose seen.faults n) (sym (ap (λ (s : WiresSeen). s.faults) m.seen ∙ ap (λ (cs : List WireCall). faults_through cs seen.faults) m.fits.1))
    (last_rises seen.faults m.fits.0 (Gave (Err refusals.Failed)) (λ n. refl))
turn_rose refusals.NoMemory First Turn seen seen_mid seen_then fails first turn ends = absurd cc
