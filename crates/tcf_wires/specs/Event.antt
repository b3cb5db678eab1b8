-- Which events can come of wires, and what an answer does to their counts.
use Rattle.std.specs.Prelude.{ℕ, ◌+◌, ◌≤◌, Bool, true, ◌&&◌, nat_le, nat_lt, length, Result, Ok, Err}
use Rattle.tcf_outside.specs.Faults.{raised}
use Rattle.tcf_wires.specs.declared.event.Put.{Put}
use Rattle.tcf_wires.specs.declared.event.Put.TheVariants.{Took, Lost, NoMemory as NoRoom}
use Rattle.tcf_wires.specs.declared.event.WireEvent.{WireEvent}
use Rattle.tcf_wires.specs.declared.event.WireEvent.TheVariants.{Opened, Piece}
use Rattle.tcf_wires.specs.declared.event.WireRefusal.{WireRefusal}
use Rattle.tcf_wires.specs.declared.event.WireRefusal.TheVariants.{Failed, NoMemory}

-- what can come over wires of which no number from this one on was given yet: a new channel has a number that
-- was never given, and a piece has 1 to 65,536 bytes
abbrev pub can_come : ℕ → WireEvent → Bool
can_come unused (Opened channel) = nat_le unused channel
can_come unused (Piece channel bytes) = nat_lt 0 (length bytes) && nat_le (length bytes) 65536
can_come unused _ = true

-- the least number above all that were given, after this event
abbrev pub unused_after_next : Result WireEvent WireRefusal → ℕ → ℕ
unused_after_next (Ok (Opened channel)) unused = channel + 1
unused_after_next _ unused = unused

-- the same after the answer of a connect
abbrev pub unused_after_connect : Result ℕ WireRefusal → ℕ → ℕ
unused_after_connect (Ok channel) unused = channel + 1
unused_after_connect (Err refusal) unused = unused

-- the count of faults after an answer: only a failed call counts
abbrev pub faults_after : {A : Type 0} → Result A WireRefusal → ℕ → ℕ
faults_after (Ok answer) count = count
faults_after (Err Failed) count = raised count
faults_after (Err NoMemory) count = count

-- the count of faults after a put: only a lost one counts
abbrev pub faults_after_put : Put → ℕ → ℕ
faults_after_put (Took taken) count = count
faults_after_put Lost count = raised count
faults_after_put NoRoom count = count

-- a put takes at most so many bytes
abbrev pub IsWithin : ℕ → Put → Type 0
IsWithin most (Took taken) = taken ≤ most
IsWithin most _ = Unit {0}
