-- A channel sees its own calls and the inputs of the target, and of what comes on other channels nothing else.
use Rattle.std.specs.Prelude.{ℕ, ◌≡◌, ◌==◌, Bool, false, if◌then◌else◌, List, [], ◌∷◌, ◌++◌, map}
use Rattle.target_contexts.specs.declared.process.Image.{Image}
use Rattle.target_hub.specs.declared.input.Input.{Input}
use Rattle.agent_node.specs.Agent.{new_agent}
use Rattle.agent_node.specs.AgentValue.{AgentValue}
use Rattle.agent_node.specs.Apart.{agent_after, opened_as}
use Rattle.agent_node.specs.Runs.{Call, bytes_end, called, comes, gives, input_by, opens, ticks, turns}

-- what a channel sees: a call of its own, with the input that it was, if it was one; or the input that another call was
pub data Sight : Type 0 where
  own : (call : Call) (inputs : List Input) → Sight
  elsewhere : (made : Input) → Sight

abbrev pub is_on : ℕ → Call → Bool
is_on k (opens j) = j == k
is_on k (comes j piece) = j == k
is_on k (bytes_end j) = j == k
is_on k (turns j) = j == k
is_on k (ticks thread) = false
is_on k (gives j) = j == k

abbrev pub seen_of : Bool → Call → List Input → List Sight
seen_of is_own call inputs = if is_own then own call inputs ∷ [] else map (λ made. elsewhere made) inputs

-- what it sees of these calls, in order
abbrev pub seen_by : ℕ → List Call → AgentValue → List Sight
seen_by k [] a = []
seen_by k (call ∷ calls) a = seen_of (is_on k call) call (input_by call a) ++ seen_by k calls (called call a)

-- Of any two agents with the same images, whatever the calls of either, and whatever bytes came on other channels: where a
-- channel sees the same of them it was opened at the same position, or in neither, and its end had the same calls. So it is in
-- the same state, with the same inbox, and it took, was told and gave out the same, flow control and the end of the stream
-- with it.
abbrev pub SeesNothingElse : Type 0
SeesNothingElse = (images : List Image) (calls others : List Call) (k : ℕ) →
    seen_by k calls (new_agent images) ≡ seen_by k others (new_agent images) →
    opened_as k (agent_after images calls) ≡ opened_as k (agent_after images others)
