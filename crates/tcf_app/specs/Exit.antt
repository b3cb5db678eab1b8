-- The status of each exit, and which exits give a run up.
use Rattle.std.specs.Prelude.{ℕ, ◌≡◌, ◌⊎◌}
use Rattle.tcf_outside.specs.Faults.{raised}
use Rattle.tcf_outside.specs.Sink.{SinkSeen}
use Rattle.tcf_app.specs.declared.exit.Exit.{Exit}
use Rattle.tcf_app.specs.declared.exit.Exit.TheVariants.{Done, Usage, BadText, FileFault, SinkFault, WireFault, Turns, NoMemory, BadStream, Ended, TooLong, Differs}

-- the status with which the program ends
abbrev pub status_of : Exit → ℕ
status_of Done = 0
status_of Usage = 1
status_of (BadText line what) = 2
status_of FileFault = 3
status_of SinkFault = 4
status_of WireFault = 5
status_of Turns = 6
status_of NoMemory = 7
status_of (BadStream offset what) = 8
status_of (Ended cause) = 9
status_of (TooLong word) = 10
status_of (Differs rule) = 11

-- the run was given up, with no text of its own: a put was a fault, or memory was wanting
abbrev pub IsGivenUp : Exit → Type 0
IsGivenUp exit = (exit ≡ SinkFault) ⊎ (exit ≡ NoMemory)

-- the count of the sink's faults after a run: a fault ends it as such
abbrev pub faults_by : Exit → ℕ → ℕ
faults_by SinkFault count = raised count
faults_by exit count = count

-- a put that was a fault is answered as such, and as nothing else
abbrev pub TellsFault : Exit → SinkSeen → SinkSeen → Type 0
TellsFault exit before after = after.faults ≡ faults_by exit before.faults
