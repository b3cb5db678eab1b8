-- The run of a client, by its calls of the wires.
use Rattle.std.specs.Prelude.{ℕ, ◌≡◌, ◌≢◌, ◌<◌, ◌≤◌, ◌⊎◌, true, false, List, [], ◌∷◌, ◌++◌, length, Option, None, Some, IsSome, Result, Ok, Err}
use Rattle.std.specs.List.{list_any}
use Rattle.channel_core.specs.declared.states.Cause.{Cause}
use Rattle.channel_core.specs.declared.states.Cause.TheVariants as causes
use Rattle.client_node.specs.Client.{pending_on}
use Rattle.tcf_schedules.specs.declared.script.ScriptLine.{ScriptLine}
use Rattle.tcf_wires.specs.declared.call.WireCall.{WireCall}
use Rattle.tcf_wires.specs.declared.call.WireCall.TheVariants.{Listened, Connected, Gave, Offered, Shut}
use Rattle.tcf_wires.specs.declared.event.WireEvent.{WireEvent}
use Rattle.tcf_wires.specs.declared.event.WireRefusal.{WireRefusal}
use Rattle.tcf_wires.specs.declared.event.WireRefusal.TheVariants.{Failed, NoMemory}
use Rattle.serving_wires.specs.Calls.{events_in}
use Rattle.serving_wires.specs.Serve.{IsSettled, Serves}
use Rattle.serving_wires.specs.Serving.{AreFronts, Each, fails, is_stop, reaches_out}
use Rattle.serving_wires.specs.Standing.{nodes_in, standing_in, state_after}
use Rattle.client_serving.specs.Client.{IsServed}
use Rattle.client_serving.specs.Serving.{after_events, begun, cause_of, is_done, served_client}
use Rattle.client_serving.specs.ServingValue.{ServingValue}
use Rattle.client_serving.specs.declared.end.ClientEnd.{ClientEnd}
use Rattle.client_serving.specs.declared.end.ClientEnd.TheVariants.{Done, Ended, Turns}
use Rattle.client_serving.specs.declared.end.ClientRun.{ClientRun}

-- ---- what an end says

-- the channel closed for this cause, which isn't the client's own closing; or it isn't closed, and `Stop` came
abbrev pub HasCause : Cause → Option Cause → List WireEvent → Type 0
HasCause cause (Some closed) events = (closed ≡ cause) × (cause ≢ causes.Own)
HasCause cause None events = (cause ≡ causes.Ended) × (list_any is_stop events ≡ true)

abbrev pub SaysSo : Option ClientEnd → ServingValue → List WireEvent → Type 0
SaysSo None s events = (cause_of s.client.channel ≡ None) × (is_done s ≡ false) × (list_any is_stop events ≡ false)
SaysSo (Some Done) s events = (s.left ≡ []) × (pending_on s.client.channel ≡ 0) × (cause_of s.client.channel ≡ Some causes.Own)
SaysSo (Some (Ended cause)) s events = HasCause cause (cause_of s.client.channel) events
SaysSo (Some Turns) s events = ⊥

-- Whatever the script, and whatever came: the end says how the client and its script stand, and whether `Stop` came.
abbrev pub EndsSaySo : Type 0
EndsSaySo = (address : List ℕ) (channel : ℕ) (script : List ScriptLine) (events : List WireEvent)
    → SaysSo (after_events address channel script events).end (after_events address channel script events) events

-- ---- the calls

-- before the first event nothing is put or shut, unless the script ends the run before it
abbrev pub PutsInRun : List ℕ → ℕ → List ScriptLine → List WireCall → Type 0
PutsInRun address channel script before = events_in before ≡ [] → IsSome (begun address channel script).end

-- a call, by the calls before it: no event is asked for once the run has an end
abbrev pub IsInRun : List ℕ → ℕ → List ScriptLine → List WireCall → WireCall → Type 0
IsInRun address channel script before (Listened to answer) = Unit {0}
IsInRun address channel script before (Connected to answer) = Unit {0}
IsInRun address channel script before (Gave answer) = (after_events address channel script (events_in before)).end ≡ None
IsInRun address channel script before (Offered number piece answer) = PutsInRun address channel script before
IsInRun address channel script before (Shut number) = PutsInRun address channel script before

-- a run ended so at the last of these events, within the turns; or all turns were taken, and it has no end
abbrev pub EndsBy : ℕ → ClientEnd → Option ClientEnd → List WireEvent → Type 0
EndsBy turns Done end events = (end ≡ Some Done) × (length events ≤ turns)
EndsBy turns (Ended cause) end events = (end ≡ Some (Ended cause)) × (length events ≤ turns)
EndsBy turns Turns end events = (end ≡ None) × (length events ≡ turns)

-- The run, and the client, are what the script and the events make of them, and all was put.
pub record HasRun (address : List ℕ) (channel : ℕ) (script : List ScriptLine) (turns : ℕ) (run : ClientRun) (calls : List WireCall) : Type 0 where
  pub client : run.client ≡ (after_events address channel script (events_in calls)).client
  pub ends : EndsBy turns run.end (after_events address channel script (events_in calls)).end (events_in calls)
  pub settled : (run.end ≢ Turns) ⊎ (events_in calls ≢ []) → IsSettled (served_client address script) calls
  pub sound : list_any fails calls ≡ false

-- an event that was asked for, within the turns and before the end of the run, didn't come
pub record IsBroken (address : List ℕ) (channel : ℕ) (script : List ScriptLine) (turns : ℕ) (calls : List WireCall) : Type 0 where
  pub earlier : List WireCall
  pub split : calls ≡ earlier ++ Gave (Err Failed) ∷ []
  pub within : length (events_in earlier) < turns
  pub goes_on : (after_events address channel script (events_in earlier)).end ≡ None
  pub sound : list_any fails earlier ≡ false

abbrev pub EndsSo : List ℕ → ℕ → List ScriptLine → ℕ → Result ClientRun WireRefusal → List WireCall → Type 0
EndsSo address channel script turns (Ok run) calls = HasRun address channel script turns run calls
EndsSo address channel script turns (Err Failed) calls = IsBroken address channel script turns calls
EndsSo address channel script turns (Err NoMemory) calls = list_any fails calls ≡ false

-- The calls over a connection on this channel. Behind the wires stands a client: what the script and the events make of it.
pub record ServesClient (address : List ℕ) (channel : ℕ) (script : List ScriptLine) (turns : ℕ) (result : Result ClientRun WireRefusal) (calls : List WireCall) : Type 0 where
  pub serves : Serves (served_client address script) calls
  pub fronts : AreFronts (nodes_in (state_after (served_client address script) calls)) calls
  pub client : IsServed (state_after (served_client address script) calls)
  pub stands : (standing_in (state_after (served_client address script) calls)).served ≡ after_events address channel script (events_in calls)
  pub in_run : Each (IsInRun address channel script) calls
  pub ends : EndsSo address channel script turns result calls

-- A client does this script at this address, and its run comes to this. It connects once, before all else; want of memory
-- may come before that, and before all is put.
pub data RunsClient (script : List ScriptLine) (address : List ℕ) (turns : ℕ) (result : Result ClientRun WireRefusal) (calls : List WireCall) : Type 0 where
  no_calls : result ≡ Err NoMemory → calls ≡ [] → RunsClient script address turns result calls
  not_connected : result ≡ Err Failed → calls ≡ Connected address (Err Failed) ∷ [] → RunsClient script address turns result calls
  connected : (channel : ℕ) (later : List WireCall)
      → calls ≡ Connected address (Ok channel) ∷ later → list_any reaches_out later ≡ false
      → ServesClient address channel script turns result calls → RunsClient script address turns result calls
