-- What is served is a client: what is queued for its wire is what it gave out, what came there is what it got, and its log answers
-- each command once.
use Rattle.std.specs.Prelude.{ℕ, ◌≡◌, Bool, false, List, [], Option, None, Some}
use Rattle.std.specs.List.{flat_map}
use Rattle.client_node.specs.Client.{new_client}
use Rattle.client_node.specs.Ends.{given_out}
use Rattle.client_node.specs.Runs.{Call, comes, run}
use Rattle.serving_wires.specs.Row.{Row}
use Rattle.serving_wires.specs.Standing.{AreApart, Heard, Wire, State, after, is_resting, sent_in, standing_in, wire_on}
use Rattle.serving_wires.specs.Wired.{IsWired}
use Rattle.tcf_schedules.specs.declared.script.ScriptLine.{ScriptLine}
use Rattle.tcf_text.specs.Once.{Once}
use Rattle.tcf_wires.specs.declared.event.WireEvent.{WireEvent}
use Rattle.client_serving.specs.Serving.{after_events, bytes_of, served_client}
use Rattle.client_serving.specs.ServingValue.{ServingValue}

-- the bytes that it got by these calls
abbrev pub got_by : Call → List ℕ
got_by (comes piece mark) = piece
got_by call = []

abbrev pub got : List Call → List ℕ
got calls = flat_map got_by calls

-- once it is connected: it gave out to be sent all that is queued for its wire, and got all that came on it
abbrev pub IsWiredTo : Option ℕ → List (Row Wire) → List Call → Bool → Type 0
IsWiredTo None wires calls is_resting = Unit {0}
IsWiredTo (Some channel) wires calls is_resting = IsWired channel wires (got calls) (bytes_of (given_out calls new_client)) [] is_resting

-- some calls of a new client make it
pub record IsServed (state : State ServingValue) : Type 0 where
  pub calls : List Call
  pub client : (standing_in state).served.client ≡ run calls new_client
  pub wired : IsWiredTo (standing_in state).served.channel (standing_in state).sent calls (is_resting state)
  -- no wire takes the place of another
  pub kept : (k : ℕ) → (wire_on k state).is_left ≡ false

-- Whatever the script, and whatever came, where each connection had a channel of its own.
abbrev pub ServesAClient : Type 0
ServesAClient = (address : List ℕ) (script : List ScriptLine) (heard : List Heard) → AreApart (sent_in (after (served_client address script) heard))
    → IsServed (after (served_client address script) heard)

-- Whatever the script, and whatever came, after each of its events: each command that was accepted has at most one final
-- answer, its own, and exactly one once the channel has ended.
abbrev pub OnceWhateverCame : Type 0
OnceWhateverCame = (address : List ℕ) (channel : ℕ) (script : List ScriptLine) (events : List WireEvent) → Once false (after_events address channel script events).client.log
