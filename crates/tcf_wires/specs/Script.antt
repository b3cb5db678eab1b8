-- What is to come of wires, where it is known, and what each call takes of it.
use Rattle.std.specs.Prelude.{ℕ, ◌≡◌, ◌+◌, ◌^◌, ◌==◌, Bool, nat_lt, List, [], ◌∷◌, drop, min, max, Option, Some, None, Result, Ok, Err, if◌then◌else◌}
use Rattle.std.specs.List.{list_any}
use Rattle.tcf_wires.specs.declared.event.Put.{Put}
use Rattle.tcf_wires.specs.declared.event.Put.TheVariants.{Took, Lost, NoMemory as NoRoom}
use Rattle.tcf_wires.specs.declared.event.WireEvent.{WireEvent}
use Rattle.tcf_wires.specs.declared.event.WireEvent.TheVariants.{Idle, Stop}
use Rattle.tcf_wires.specs.declared.event.WireRefusal.{WireRefusal}
use Rattle.tcf_wires.specs.declared.event.WireRefusal.TheVariants.{Failed, NoMemory}
use Rattle.tcf_wires.specs.Event.{can_come}

-- what is to come, where it is known: the events, the answers of the connects, the most bytes that each put takes,
-- the numbers of the calls that fail, and the number of the next call
pub record Script : Type 0 where
  pub events : List WireEvent
  pub answers : List (Option ℕ)
  pub takes : List ℕ
  pub failing : List ℕ
  pub number : ℕ

-- the next call is one of those that fail
abbrev pub fails : Script → Bool
fails script = list_any (λ number. number == script.number) script.failing

-- the answer of a listen
abbrev pub listen_answer : Script → Result (Unit {0}) WireRefusal
listen_answer script = if fails script then Err Failed else Ok tt

-- a number, while there is one
abbrev pub within_numbers : ℕ → Result ℕ WireRefusal
within_numbers channel = if nat_lt channel (2 ^ 64) then Ok channel else Err Failed

-- the number that a connect gives: the next of the answers, or the least that was never given where that is above it
abbrev pub connect_number : List (Option ℕ) → ℕ → Result ℕ WireRefusal
connect_number [] unused = within_numbers unused
connect_number (None ∷ later) unused = Err Failed
connect_number (Some channel ∷ later) unused = within_numbers (max channel unused)

-- the answer of a connect
abbrev pub connect_answer : ℕ → Script → Result ℕ WireRefusal
connect_answer unused script = if fails script then Err Failed else connect_number script.answers unused

-- the next of the events; Idle in place of one that can't come, and Stop after the last
abbrev pub next_event : List WireEvent → ℕ → WireEvent
next_event [] unused = Stop
next_event (event ∷ later) unused = if can_come unused event then event else Idle

-- the answer of a next
abbrev pub next_answer : ℕ → Script → Result WireEvent WireRefusal
next_answer unused script = if fails script then Err Failed else Ok (next_event script.events unused)

-- how many bytes a put takes of so many: all of them where the script doesn't say
abbrev pub put_count : List ℕ → ℕ → ℕ
put_count [] offered = offered
put_count (most ∷ later) offered = min most offered

-- the answer of a put
abbrev pub put_answer : ℕ → Script → Put
put_answer offered script = if fails script then Lost else Took (put_count script.takes offered)

-- a call answers as the script says, or that it wants memory
abbrev pub Answers : {A : Type 0} → Result A WireRefusal → Result A WireRefusal → Type 0
Answers result answer = (result ≡ Err NoMemory → ⊥) → result ≡ answer

-- the same for a put
abbrev pub AnswersPut : Put → Put → Type 0
AnswersPut result answer = (result ≡ NoRoom → ⊥) → result ≡ answer

-- what is left of a list after a call that takes its first entry: a call that is made to fail takes nothing
abbrev pub left : {A : Type 0} → Script → List A → List A
left script entries = if fails script then entries else drop 1 entries

-- the script after each call
abbrev pub called : Script → Script
called script = record script { number = script.number + 1 }

abbrev pub connected : Script → Script
connected script = record script { answers = left script script.answers; number = script.number + 1 }

abbrev pub given : Script → Script
given script = record script { events = left script script.events; number = script.number + 1 }

abbrev pub offered : Script → Script
offered script = record script { takes = left script script.takes; number = script.number + 1 }

-- the script after a call with this answer: one that wanted memory changes nothing
abbrev pub passed : {A : Type 0} → Result A WireRefusal → (Script → Script) → Script → Script
passed (Err NoMemory) step script = script
passed answer step script = step script

abbrev pub passed_put : Put → (Script → Script) → Script → Script
passed_put NoRoom step script = script
passed_put answer step script = step script

abbrev pub passed_shut : {A : Type 0} → {E : Type 0} → Result A E → (Script → Script) → Script → Script
passed_shut (Ok answer) step script = step script
passed_shut (Err error) step script = script
