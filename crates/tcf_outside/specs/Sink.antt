-- What a sink takes, and what a put changes.
use Rattle.std.specs.Prelude.{ℕ, ◌≡◌, List, [], ◌++◌, take, length, Option, option_map, Result, Ok, Err, if◌then◌else◌, ◌==◌, ◌&&◌, nat_lt, Bool, true, false}
use Rattle.tcf_outside.specs.Faults.{raised}
use Rattle.tcf_outside.specs.declared.sink.SinkRefusal.{SinkRefusal}
use Rattle.tcf_outside.specs.declared.sink.SinkRefusal.TheVariants.{Failed, NoMemory}

-- what is seen of a sink
pub record SinkSeen : Type 0 where
  pub told : Option (List ℕ)  -- all bytes that were taken, where they are told
  pub faults : ℕ  -- how many puts failed or took nothing of what they were offered, as far as a u64 counts

-- what a sink tells after it took these bytes
abbrev pub added : List ℕ → Option (List ℕ) → Option (List ℕ)
added bytes told = option_map (λ before. before ++ bytes) told

-- a sink took these bytes
abbrev pub Took : List ℕ → SinkSeen → SinkSeen → Type 0
Took bytes before after = after.told ≡ added bytes before.told

-- or some of the first of them
abbrev pub TookFront : List ℕ → SinkSeen → SinkSeen → Type 0
TookFront bytes before after = (count : ℕ) × Took (take count bytes) before after

-- the bytes of a piece that a put took
abbrev pub taken : Result ℕ SinkRefusal → List ℕ → List ℕ
taken (Ok count) piece = take count piece
taken (Err refusal) piece = []

-- a put that failed, or that took nothing of a piece that has bytes
abbrev pub is_fault : Result ℕ SinkRefusal → List ℕ → Bool
is_fault (Ok count) piece = (count == 0) && nat_lt 0 (length piece)
is_fault (Err Failed) piece = true
is_fault (Err NoMemory) piece = false

-- the count of faults after a put
abbrev pub faults_after : Result ℕ SinkRefusal → List ℕ → ℕ → ℕ
faults_after result piece count = if is_fault result piece then raised count else count

-- the count of faults after a refusal: only a failure counts
abbrev pub faults_with : SinkRefusal → ℕ → ℕ
faults_with Failed count = raised count
faults_with NoMemory count = count

-- the count of faults after puts of which the last one may be a fault
abbrev pub faults_at_end : {A : Type 0} → Result A SinkRefusal → ℕ → ℕ
faults_at_end (Ok answer) count = count
faults_at_end (Err refusal) count = faults_with refusal count
