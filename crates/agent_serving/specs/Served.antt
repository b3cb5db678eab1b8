-- What is served is an agent: what is queued for each of its wires is what it gave out there, and what comes there is what it
-- gets.
use Rattle.std.specs.Prelude.{ℕ, ◌≡◌, ◌==◌, Bool, true, false, List, [], ◌∷◌, ◌++◌, filter, fold, option_to_list, if◌then◌else◌}
use Rattle.std.specs.List.{AllByRecursion, flat_map}
use Rattle.channel_core.specs.QueueLaws.{is_message}
use Rattle.channel_core.specs.declared.held.Outgoing.{Outgoing}
use Rattle.list_laws.specs.Fronts.{IsFront}
use Rattle.target_contexts.specs.declared.process.Image.{Image}
use Rattle.target_hub.specs.History.{IsLegal}
use Rattle.target_hub.specs.Sent.{sent}
use Rattle.tcf_wires.specs.Told.{taken_on}
use Rattle.tcf_wires.specs.declared.call.WireCall.{WireCall}
use Rattle.agent_node.specs.Agent.{given, new_agent, opened}
use Rattle.agent_node.specs.AgentLaws.{all_said, asked, messages_told, tokens}
use Rattle.agent_node.specs.AgentValue.{AgentValue}
use Rattle.agent_node.specs.Runs.{AgentRun, Call, Past, after_all, called, comes, gives, no_calls, opens, run_of}
use Rattle.serving_wires.specs.Standing.{AreApart, Heard, State, after, is_resting, sent_in, standing_in, state_after, wire_on}
use Rattle.serving_wires.specs.Wired.{IsWired}
use Rattle.serving_wires.specs.declared.intake.Came.{Came}
use Rattle.agent_serving.specs.Gathering.{bytes_of}
use Rattle.agent_serving.specs.Serving.{served_agent}
use Rattle.agent_serving.specs.ServingValue.{ServingValue}

-- ---- what calls of an agent give out on a channel and what it gets there, and how the agent answers its openings

abbrev pub given_by : ℕ → Call → AgentValue → List Outgoing
given_by k (gives j) a = if j == k then option_to_list (given j a) else []
given_by k _ a = []

abbrev pub given_out : ℕ → List Call → AgentValue → List Outgoing
given_out k [] a = []
given_out k (call ∷ calls) a = given_by k call a ++ given_out k calls (called call a)

-- what it gets on a channel
abbrev pub got_by : ℕ → Call → List ℕ
got_by k (comes j piece) = if j == k then piece else []
got_by k _ = []

abbrev pub got_on : ℕ → List Call → List ℕ
got_on k calls = flat_map (got_by k) calls

-- whether the channel was opened, or refused
abbrev pub answered_by : ℕ → Call → AgentValue → List Bool
answered_by k (opens j) a = if j == k then (opened j a).0 ∷ [] else []
answered_by k _ a = []

abbrev pub answers : ℕ → List Call → AgentValue → List Bool
answers k [] a = []
answers k (call ∷ calls) a = answered_by k call a ++ answers k calls (called call a)

-- ---- what is queued for the wire of a channel, if nothing is ever put

-- what was given out on it; where the first opening under this number was refused the end of the stream alone
abbrev pub queued_for : List Bool → List ℕ → List ℕ
queued_for [] bytes = []
queued_for (true ∷ later) bytes = bytes
queued_for (false ∷ later) bytes = 3 ∷ 2 ∷ []

-- by these calls of a new agent that has these images
abbrev pub wire_of : List Image → List Call → ℕ → List ℕ
wire_of images calls k =
    let a = new_agent images in queued_for (answers k calls a) (bytes_of (given_out k calls a))

-- ---- the agent that they make, and what they tell

abbrev pub after_calls : List Image → List Call → AgentValue
after_calls images calls = fold (λ a call. called call a) (new_agent images) calls

abbrev pub run_by : List Image → List Call → AgentRun
run_by images calls = after_all calls (no_calls images)

-- Of a channel that was opened: what was given out on it, and what is still to be given out, flow control and
-- the end of the stream aside, is what the history tells it, in order, each answer and its progress under the
-- token of its command.
abbrev pub GivesWhatIsTold : List Image → List Call → Past → Type 0
GivesWhatIsTold images calls past =
    let told = sent images past.number (run_by images calls).history in
    filter is_message (given_out past.number calls (new_agent images) ++ (run_of past).end.queued)
    ≡ all_said (messages_told (tokens (asked (run_of past))) told)

-- the run of these calls comes to that agent; the history of the inputs is legal, and so of each channel that was opened
pub record TellsItsHistory (images : List Image) (calls : List Call) : Type 0 where
  pub agent : (run_by images calls).agent ≡ after_calls images calls
  pub legal : IsLegal images (run_by images calls).history
  pub told : AllByRecursion (GivesWhatIsTold images calls) (run_by images calls).channels

-- ---- some calls of a new agent make what is served

-- of a channel that is open: what it gave out there is all that was queued for its wire; and what it got there, with what waits,
-- is all that came on it
abbrev pub IsWiredOn : List Image → List Call → State ServingValue → ℕ → List Came → Type 0
IsWiredOn images calls state k waiting =
    IsWired k (standing_in state).sent (got_on k calls) (bytes_of (given_out k calls (new_agent images))) waiting (is_resting state)

pub record IsServed (images : List Image) (state : State ServingValue) : Type 0 where
  pub calls : List Call
  pub agent : (standing_in state).served.agent ≡ after_calls images calls
  pub queued : (k : ℕ) → (wire_on k state).queued ≡ wire_of images calls k
  -- what it got on a channel is a front of what came on its wire, whether it is open or not
  pub got : (k : ℕ) → IsFront (got_on k calls) (wire_on k state).came
  pub wired : AllByRecursion (λ line. IsWiredOn images calls state line.channel line.item) (standing_in state).served.lines
  -- no wire takes the place of another
  pub kept : (k : ℕ) → (wire_on k state).is_left ≡ false
  pub tells : TellsItsHistory images calls

-- Whatever the images, and whatever came, where each connection had a channel of its own.
abbrev pub ServesAnAgent : Type 0
ServesAnAgent = (images : List Image) (heard : List Heard) → AreApart (sent_in (after (served_agent images) heard)) → IsServed images (after (served_agent images) heard)

-- It stands behind the wires: what they took on each channel is a front of what it gave out there.
pub record IsBehindWires (images : List Image) (wires : List WireCall) : Type 0 where
  pub served : IsServed images (state_after (served_agent images) wires)
  pub taken : (k : ℕ) → IsFront (taken_on k wires) (wire_of images served.calls k)
