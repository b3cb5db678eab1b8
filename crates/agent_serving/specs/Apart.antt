-- One wire touches another by the history of the target alone.
use Rattle.std.specs.Prelude.{ℕ, ◌≡◌, List, ◌++◌, filter}
use Rattle.std.specs.List.{flat_map}
use Rattle.channel_core.specs.QueueLaws.{is_message}
use Rattle.channel_core.specs.declared.held.Outgoing.{Outgoing}
use Rattle.target_contexts.specs.declared.process.Image.{Image}
use Rattle.target_hub.specs.Sent.{sent}
use Rattle.agent_node.specs.Agent.{new_agent}
use Rattle.agent_node.specs.AgentLaws.{all_said, messages_told, tokens}
use Rattle.agent_node.specs.Apart.{AreToldTheSame, asked_on, opened_as}
use Rattle.agent_node.specs.Runs.{AgentRun, Call, run_of}
use Rattle.agent_serving.specs.Served.{IsServed, given_out, run_by}
use Rattle.agent_serving.specs.Serving.{served_agent}
use Rattle.serving_wires.specs.Standing.{Heard, after}

-- ---- what is given out on the channel of a number

-- what is still to be given out on it
abbrev pub left_on : ℕ → AgentRun → List Outgoing
left_on k r = flat_map (λ past. (run_of past).end.queued) (opened_as k r)

-- what these calls of a new agent gave out on it, and what is still to be given out, flow control and the end of the
-- stream aside
abbrev pub messages_on : List Image → List Call → ℕ → List Outgoing
messages_on images calls k =
    filter is_message (given_out k calls (new_agent images) ++ left_on k (run_by images calls))

-- ---- the laws

-- that is what the history of the calls tells it, each answer under the token of its own command
abbrev pub GivesItsOwn : List Image → List Call → ℕ → Type 0
GivesItsOwn images calls k =
    let r = run_by images calls in
    messages_on images calls k ≡ all_said (messages_told (tokens (asked_on k r)) (sent images k r.history))

-- Whatever came over the wires, on this channel and on others, by the calls that made what is served.
abbrev pub EachIsGivenItsOwn : Type 0
EachIsGivenItsOwn = (images : List Image) (heard : List Heard) (served : IsServed images (after (served_agent images) heard)) →
    (k : ℕ) → GivesItsOwn images served.calls k

-- it was told the same, and where its commands had the same tokens the same is given out on it
pub record GiveTheSame (images : List Image) (calls others : List Call) (k : ℕ) : Type 0 where
  pub told : AreToldTheSame k (run_by images calls) (run_by images others)
  pub given : tokens (asked_on k (run_by images calls)) ≡ tokens (asked_on k (run_by images others)) → messages_on images calls k ≡ messages_on images others k

-- So of any two served agents with the same images, whatever came over the wires of either: where the histories are the
-- same, a wire can't tell them apart.
abbrev pub OneHistoryServesTheSame : Type 0
OneHistoryServesTheSame = (images : List Image) (heard others : List Heard) →
    (one : IsServed images (after (served_agent images) heard)) (other : IsServed images (after (served_agent images) others)) →
    (run_by images one.calls).history ≡ (run_by images other.calls).history →
    (k : ℕ) → GiveTheSame images one.calls other.calls k
