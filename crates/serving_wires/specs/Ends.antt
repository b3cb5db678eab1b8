-- How a serving ends, by its calls of the wires. Which calls that failed are meant differs: see `fails` and `breaks`.
use Rattle.std.specs.Prelude.{ℕ, ◌≡◌, ◌<◌, ◌≤◌, Bool, false, List, [], ◌∷◌, ◌++◌, length, Result, Ok, Err}
use Rattle.std.specs.List.{list_any}
use Rattle.tcf_wires.specs.declared.call.WireCall.{WireCall}
use Rattle.tcf_wires.specs.declared.call.WireCall.TheVariants.{Listened, Gave}
use Rattle.tcf_wires.specs.declared.event.WireEvent.{WireEvent}
use Rattle.tcf_wires.specs.declared.event.WireEvent.TheVariants as events
use Rattle.tcf_wires.specs.declared.event.WireRefusal.{WireRefusal}
use Rattle.tcf_wires.specs.declared.event.WireRefusal.TheVariants as refusals
use Rattle.serving_wires.specs.Calls.{events_in}
use Rattle.serving_wires.specs.Serving.{is_stop, listens, stops}
use Rattle.serving_wires.specs.declared.end.ServeEnd.{ServeEnd}
use Rattle.serving_wires.specs.declared.end.ServeEnd.TheVariants.{Stopped, Turns, WireFault, NoMemory}

-- a failed call ends the run
abbrev pub end_of : Result ServeEnd WireRefusal → ServeEnd
end_of (Ok end) = end
end_of (Err refusals.Failed) = WireFault
end_of (Err refusals.NoMemory) = NoMemory

-- Stop came as the last of so many events, within the turns
pub record IsStopped (ends_run : WireCall → Bool) (turns count : ℕ) (calls : List WireCall) : Type 0 where
  pub earlier : List WireEvent
  pub last : events_in calls ≡ earlier ++ events.Stop ∷ []
  pub first_stop : list_any is_stop earlier ≡ false
  pub counted : count ≡ length (events_in calls)
  pub within : count ≤ turns
  pub sound : list_any ends_run calls ≡ false

-- as many events came as there are turns, and none of them was Stop
pub record AreTaken (ends_run : WireCall → Bool) (turns : ℕ) (calls : List WireCall) : Type 0 where
  pub counted : length (events_in calls) ≡ turns
  pub goes_on : stops calls ≡ false
  pub sound : list_any ends_run calls ≡ false

-- the last call failed: the address couldn't be listened on, as the first one and before any event, or an event that was asked for within the turns didn't come
pub data IsLastCall (turns : ℕ) (earlier : List WireCall) : WireCall → Type 0 where
  no_listening : (address : List ℕ) → events_in earlier ≡ [] → list_any listens earlier ≡ false → IsLastCall turns earlier (Listened address (Err refusals.Failed))
  no_event : length (events_in earlier) < turns → IsLastCall turns earlier (Gave (Err refusals.Failed))

pub record IsBroken (ends_run : WireCall → Bool) (turns : ℕ) (calls : List WireCall) : Type 0 where
  pub earlier : List WireCall
  pub last : WireCall
  pub split : calls ≡ earlier ++ last ∷ []
  pub fails_last : IsLastCall turns earlier last
  pub goes_on : stops earlier ≡ false
  pub sound : list_any ends_run earlier ≡ false

abbrev pub EndsSo : (WireCall → Bool) → ℕ → ServeEnd → List WireCall → Type 0
EndsSo ends_run turns (Stopped count) calls = IsStopped ends_run turns count calls
EndsSo ends_run turns Turns calls = AreTaken ends_run turns calls
EndsSo ends_run turns WireFault calls = IsBroken ends_run turns calls
EndsSo ends_run turns NoMemory calls = list_any ends_run calls ≡ false
