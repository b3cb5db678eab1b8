-- The run of a program that is served, by its calls of the wires.
use Rattle.std.specs.Prelude.{ℕ, ◌≡◌, ◌≢◌, Bool, true, false, List, [], ◌++◌, Ok}
use Rattle.std.specs.List.{list_all, list_any}
use Rattle.std.specs.List.Sorted.{IsStrictlyIncreasing}
use Rattle.tcf_wires.specs.Told.{taken_on}
use Rattle.tcf_wires.specs.declared.call.WireCall.{WireCall}
use Rattle.tcf_wires.specs.declared.call.WireCall.TheVariants.{Listened, Connected, Gave, Offered, Shut}
use Rattle.serving_wires.specs.Calls.{channels_put, events_in, shut_count}
use Rattle.serving_wires.specs.Ends.{EndsSo}
use Rattle.serving_wires.specs.Going.{Goes}
use Rattle.serving_wires.specs.Process.{Process, done}
use Rattle.serving_wires.specs.Program.{Behaviour, Program, peer_of, program_of}
use Rattle.serving_wires.specs.Serving.{AreFronts, Each, IsCarried, IsOffer, breaks, listens}
use Rattle.serving_wires.specs.Standing.{AreApart, Wire, is_resting, nodes_in, sent_in, state_after, wire_on}
use Rattle.serving_wires.specs.Turn.{Now}
use Rattle.serving_wires.specs.declared.end.ServeEnd.{ServeEnd}
use Rattle.serving_wires.specs.declared.end.ServeEnd.TheVariants.{NoMemory}

-- ---- the wires, once all is put that can be

-- of a wire whose place another one took a front of what was queued was taken, and it was shut once
pub record IsLeftOff (queued : List ℕ) (channel : ℕ) (calls : List WireCall) : Type 0 where
  pub front : (rest : List ℕ) × (queued ≡ taken_on channel calls ++ rest)
  pub shut : shut_count channel calls ≡ 1

abbrev pub CarriesIf : Bool → Wire → ℕ → List WireCall → Type 0
CarriesIf true s channel calls = IsLeftOff s.queued channel calls
CarriesIf false s channel calls = IsCarried s.queued s.is_closed channel calls

abbrev pub CarriesWire : Wire → ℕ → List WireCall → Type 0
CarriesWire s channel calls = CarriesIf s.is_left s channel calls

-- since the last event the puts went in rising order of the channels
pub record IsSettled {A : Type 0} (program : Program A) (calls : List WireCall) : Type 0 where
  pub carried : (channel : ℕ) → CarriesWire (wire_on channel (state_after program calls)) channel calls
  pub rising : IsStrictlyIncreasing (channels_put calls)

-- ---- each call, by the calls before it

-- no answer of a connect is waited for
abbrev pub Rests : {A : Type 0} → Program A → List WireCall → Type 0
Rests program calls = is_resting (state_after program calls) ≡ true

-- there is a connect with the peer exactly where the program waits for one, and before all else
pub record AsksPeer {A : Type 0} (program : Program A) (to : List ℕ) (before : List WireCall) : Type 0 where
  pub same : to ≡ peer_of program
  pub waited_for : is_resting (state_after program before) ≡ false

-- an event is asked for once all is put
pub record AsksEvent {A : Type 0} (program : Program A) (before : List WireCall) : Type 0 where
  pub rests : Rests program before
  pub settled : events_in before ≢ [] → IsSettled program before

pub record Offers {A : Type 0} (program : Program A) (channel : ℕ) (piece : List ℕ) (before : List WireCall) : Type 0 where
  pub rests : Rests program before
  pub offer : IsOffer (nodes_in (state_after program before)) channel piece before

pub record ShutsOnce {A : Type 0} (program : Program A) (channel : ℕ) (before : List WireCall) : Type 0 where
  pub rests : Rests program before
  pub once : shut_count channel before ≡ 0

-- it listens before the first event alone
abbrev pub IsInPlace : {A : Type 0} → Program A → List WireCall → WireCall → Type 0
IsInPlace program before (Listened address answer) = events_in before ≡ []
IsInPlace program before (Connected to answer) = AsksPeer program to before
IsInPlace program before (Gave answer) = AsksEvent program before
IsInPlace program before (Offered channel piece answer) = Offers program channel piece before
IsInPlace program before (Shut channel) = ShutsOnce program channel before

abbrev pub Serves : {A : Type 0} → Program A → List WireCall → Type 0
Serves program calls = Each (IsInPlace program) calls

-- ---- the whole run

-- The program is served, and the serving ends so. Want of memory may come before an address is listened on, before a connect is
-- answered, and before all is put.
pub record Runs {A : Type 0} (program : Program A) (turns : ℕ) (end : ServeEnd) (calls : List WireCall) : Type 0 where
  pub serves : Serves program calls
  pub fronts : AreFronts (nodes_in (state_after program calls)) calls
  pub apart : AreApart (sent_in (state_after program calls))
  pub rests : end ≢ NoMemory → Rests program calls
  pub settled : end ≢ NoMemory → events_in calls ≢ [] → IsSettled program calls
  pub ends : EndsSo breaks turns end calls

-- ---- how it opens, and goes on from there

-- a call that listened on an address
abbrev pub has_listened : WireCall → Bool
has_listened (Listened address (Ok answer)) = true
has_listened call = false

-- The program did what it does before the first event, with the connects that it asked for, and then listened, if it was to.
pub record IsOpened {A : Type 0} (program : Program A) (now : Now A) (unused : ℕ) (calls : List WireCall) : Type 0 where
  pub peer : program.behaviour.peer now.served ≡ peer_of program
  pub earlier : ℕ  -- the least number that wasn't given yet, at first
  pub connects : List WireCall
  pub goes : Goes (peer_of program) earlier unused program.begins (done now.served) [] now.sending connects
  pub addresses : List WireCall
  pub listened : list_all has_listened addresses ≡ true
  pub called : calls ≡ connects ++ addresses

-- What stands so goes on by these calls, none of which listens: whatever program it is, if it was opened by the calls before,
-- these and those are a run of it.
pub record GoesOn {A : Type 0} (behaviour : Behaviour A) (now : Now A) (unused turns : ℕ) (end : ServeEnd) (calls : List WireCall) : Type 0 where
  pub inside : list_any listens calls ≡ false
  pub runs : (first : A) (begins : Process A) (before : List WireCall)
      → IsOpened (program_of behaviour first begins) now unused before → Runs (program_of behaviour first begins) turns end (before ++ calls)
