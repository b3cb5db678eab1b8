-- One channel touches another by the history of the target alone.
use Rattle.std.specs.Prelude.{ℕ, ◌≡◌, ◌==◌, Bool, List, filter, map}
use Rattle.std.specs.List.{flat_map, list_any}
use Rattle.channel_core.specs.QueueLaws.{is_message}
use Rattle.channel_core.specs.declared.held.Outgoing.{Outgoing}
use Rattle.target_contexts.specs.declared.process.Image.{Image}
use Rattle.target_hub.specs.History.{is_live}
use Rattle.target_hub.specs.Sent.{executed_on, sent}
use Rattle.agent_node.specs.AgentLaws.{Asked, all_said, asked, messages_told, read, tokens}
use Rattle.agent_node.specs.Openings.{lives}
use Rattle.agent_node.specs.Runs.{AgentRun, Call, Past, after_all, no_calls, run_of}

-- ---- what is seen on the channel of a number

-- the channel, if one was opened under the number
abbrev pub opened_as : ℕ → AgentRun → List Past
opened_as k r = filter (λ past. past.number == k) r.channels

-- it is live
abbrev pub lives_on : ℕ → AgentRun → Bool
lives_on k r = list_any lives (opened_as k r)

-- the commands that were taken from it, in order
abbrev pub asked_on : ℕ → AgentRun → List Asked
asked_on k r = flat_map (λ past. asked (run_of past)) (opened_as k r)

-- what was queued for it, in order and with marks, flow control and the end of the stream aside
abbrev pub told_on : ℕ → AgentRun → List Outgoing
told_on k r = flat_map (λ past. filter is_message (run_of past).past.queued) (opened_as k r)

-- ---- the laws

-- It is live where the history has it so, the history executes what was taken from it, and what it is told is what the
-- history tells it, each answer under the token of its own command.
pub record IsToldItsOwn (images : List Image) (k : ℕ) (r : AgentRun) : Type 0 where
  pub live : lives_on k r ≡ is_live k r.history
  pub executed : executed_on k r.history ≡ map read (asked_on k r)
  pub told : told_on k r ≡ all_said (messages_told (tokens (asked_on k r)) (sent images k r.history))

abbrev pub agent_after : List Image → List Call → AgentRun
agent_after images calls = after_all calls (no_calls images)

-- Whatever the calls, and whatever bytes came on this channel and on others.
abbrev pub EachIsToldItsOwn : Type 0
EachIsToldItsOwn = (images : List Image) (calls : List Call) (k : ℕ) → IsToldItsOwn images k (agent_after images calls)

-- It is live in both or in neither, the same commands were taken from it, and where their tokens were the same too, it is
-- told the same at the same positions.
pub record AreToldTheSame (k : ℕ) (one other : AgentRun) : Type 0 where
  pub live : lives_on k one ≡ lives_on k other
  pub executed : map read (asked_on k one) ≡ map read (asked_on k other)
  pub told : tokens (asked_on k one) ≡ tokens (asked_on k other) → told_on k one ≡ told_on k other

-- So of any two agents with the same images, whatever the calls of either, and whatever bytes came on any of their
-- channels: where their histories are the same, a channel can't tell them apart.
abbrev pub OneHistoryTellsTheSame : Type 0
OneHistoryTellsTheSame = (images : List Image) (calls others : List Call) →
    (agent_after images calls).history ≡ (agent_after images others).history →
    (k : ℕ) → AreToldTheSame k (agent_after images calls) (agent_after images others)
