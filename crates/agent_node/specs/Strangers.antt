-- An agent has no channels but those that it opened.
use Rattle.std.specs.Prelude.{ℕ, ◌≡◌, ◌==◌, false, List, None}
use Rattle.std.specs.List.{list_any}
use Rattle.target_contexts.specs.declared.process.Image.{Image}
use Rattle.agent_node.specs.Channels.{channel_end}
use Rattle.agent_node.specs.Runs.{AgentRun, Call, after_all, no_calls}

-- under a number that none of its channels had it has none
abbrev pub HasNoStranger : AgentRun → Type 0
HasNoStranger r = (k : ℕ) → list_any (λ past. past.number == k) r.channels ≡ false → channel_end k r.agent.channels ≡ None

abbrev pub NoStrangersAfterAnyCalls : Type 0
NoStrangersAfterAnyCalls = (images : List Image) (calls : List Call) → HasNoStranger (after_all calls (no_calls images))
