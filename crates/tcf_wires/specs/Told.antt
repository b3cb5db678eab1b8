-- What wires tell of their calls.
use Rattle.std.specs.Prelude.{ℕ, ◌==◌, List, [], ◌∷◌, ◌++◌, fold, take, Option, option_map, Result, Ok, Err, if◌then◌else◌}
use Rattle.tcf_wires.specs.Event.{faults_after, faults_after_put, unused_after_next, unused_after_connect}
use Rattle.tcf_wires.specs.declared.call.WireCall.{WireCall}
use Rattle.tcf_wires.specs.declared.call.WireCall.TheVariants.{Listened, Connected, Gave, Offered, Shut}
use Rattle.tcf_wires.specs.declared.event.Put.{Put}
use Rattle.tcf_wires.specs.declared.event.Put.TheVariants.{Took, NoMemory as NoRoom}
use Rattle.tcf_wires.specs.declared.event.WireRefusal.{WireRefusal}
use Rattle.tcf_wires.specs.declared.event.WireRefusal.TheVariants.{NoMemory}

-- what is seen of wires
pub record WiresSeen : Type 0 where
  pub told : Option (List WireCall)  -- the calls so far, in order, each with its arguments and its answer, where they are told
  pub faults : ℕ  -- how many calls failed, as far as a u64 counts
  pub unused : ℕ  -- the least number above all that channels were given so far

-- the count of faults after a call: a failed one and a lost put count
abbrev pub faults_by : ℕ → WireCall → ℕ
faults_by count (Listened address answer) = faults_after answer count
faults_by count (Connected peer answer) = faults_after answer count
faults_by count (Gave answer) = faults_after answer count
faults_by count (Offered channel piece answer) = faults_after_put answer count
faults_by count (Shut channel) = count

abbrev pub faults_through : List WireCall → ℕ → ℕ
faults_through calls count = fold faults_by count calls

-- the least number above all that were given, after a call: a connect and an opening give one
abbrev pub unused_by : ℕ → WireCall → ℕ
unused_by unused (Listened address answer) = unused
unused_by unused (Connected peer answer) = unused_after_connect answer unused
unused_by unused (Gave answer) = unused_after_next answer unused
unused_by unused (Offered channel piece answer) = unused
unused_by unused (Shut channel) = unused

abbrev pub unused_through : List WireCall → ℕ → ℕ
unused_through calls unused = fold unused_by unused calls

-- what is seen after these calls
abbrev pub with_calls : List WireCall → WiresSeen → WiresSeen
with_calls calls seen = record {
  told = option_map (λ earlier. earlier ++ calls) seen.told;
  faults = faults_through calls seen.faults;
  unused = unused_through calls seen.unused;
}

-- what is seen after a call with this answer: one that wanted memory changes nothing
abbrev pub noted : {A : Type 0} → Result A WireRefusal → WireCall → WiresSeen → WiresSeen
noted (Err NoMemory) call seen = seen
noted answer call seen = with_calls (call ∷ []) seen

-- the same after a put
abbrev pub noted_put : Put → WireCall → WiresSeen → WiresSeen
noted_put NoRoom call seen = seen
noted_put answer call seen = with_calls (call ∷ []) seen

-- the same after a shut, of which want of memory is the one refusal
abbrev pub noted_shut : {A : Type 0} → {E : Type 0} → Result A E → WireCall → WiresSeen → WiresSeen
noted_shut (Ok answer) call seen = with_calls (call ∷ []) seen
noted_shut (Err error) call seen = seen

-- the bytes that a call took on this channel
abbrev pub taken_by : WireCall → ℕ → List ℕ
taken_by (Offered number piece (Took count)) channel = if number == channel then take count piece else []
taken_by call channel = []

-- all bytes that these calls took on this channel
abbrev pub taken_on : ℕ → List WireCall → List ℕ
taken_on channel [] = []
taken_on channel (call ∷ calls) = taken_by call channel ++ taken_on channel calls
