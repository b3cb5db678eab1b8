-- How many channels of an agent are live at once, and under which numbers none is opened.
use Rattle.std.specs.Prelude.{ℕ, ◌≡◌, ◌-◌, ◌^◌, ◌≤◌, ◌⊎◌, ◌↔◌, Bool, true, false, not, List, length, count_by}
use Rattle.channel_core.specs.Closing.{is_closed}
use Rattle.target_contexts.specs.declared.process.Image.{Image}
use Rattle.target_hub.specs.History.{was_opened}
use Rattle.agent_node.specs.Agent.{opened}
use Rattle.agent_node.specs.Runs.{AgentRun, Call, Past, after_all, no_calls, run_of}

-- a channel is live until its end is closed
abbrev pub lives : Past → Bool
lives past = not (is_closed (run_of past).end.state)

-- how many of the channels that were opened are live
abbrev pub live_now : AgentRun → ℕ
live_now r = count_by lives r.channels

abbrev pub AtMost64AreLive : Type 0
AtMost64AreLive =
    (images : List Image) (calls : List Call) → live_now (after_all calls (no_calls images)) ≤ 64

-- a channel was opened under this number before, 64 are live, or the position is at its limit
abbrev pub MayNotOpen : ℕ → AgentRun → Type 0
MayNotOpen k r = (was_opened k r.history ≡ true) ⊎ (live_now r ≡ 64) ⊎ (length r.history ≡ 2 ^ 64 - 1)

-- exactly then none is opened
abbrev pub OpensWhereItMay : AgentRun → Type 0
OpensWhereItMay r = (k : ℕ) → ((opened k r.agent).0 ≡ false) ↔ MayNotOpen k r

abbrev pub EachOpensWhereItMay : Type 0
EachOpensWhereItMay =
    (images : List Image) (calls : List Call) → OpensWhereItMay (after_all calls (no_calls images))
