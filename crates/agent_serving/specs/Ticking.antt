-- The running threads go on while nothing comes.
use Rattle.std.specs.Prelude.{ℕ, zero, suc, ◌-◌, ◌==◌, Bool, true, false, List, [], ◌∷◌, if◌then◌else◌}
use Rattle.agent_node.specs.Agent.{ticked}
use Rattle.agent_node.specs.AgentValue.{AgentValue}
use Rattle.target_hub.specs.Passing.{running_in}
use Rattle.tcf_values.specs.declared.ids.ContextId.{ContextId}

-- one instruction is one less that may still be executed
abbrev pub less_one : Bool → ℕ → ℕ
less_one true left = left - 1
less_one false left = left

-- The agent after a pass over these threads, of which so many instructions are executed at most, one of each thread; a
-- thread that doesn't run any more is passed over.
abbrev pub after_pass : List ContextId → ℕ → AgentValue → AgentValue
after_pass [] left a = a
after_pass (thread ∷ threads) left a =
    if left == 0 then a else after_pass threads (less_one (ticked thread a).0 left) (ticked thread a).1

-- how many may still be executed then
abbrev pub left_by_pass : List ContextId → ℕ → AgentValue → ℕ
left_by_pass [] left a = left
left_by_pass (thread ∷ threads) left a =
    if left == 0 then 0 else left_by_pass threads (less_one (ticked thread a).0 left) (ticked thread a).1

-- the threads that a pass goes over: those that run as it begins
abbrev pub threads_of : AgentValue → List ContextId
threads_of a = running_in a.target.contexts.processes

-- so many passes
unfoldable pub after_passes : ℕ → ℕ → AgentValue → AgentValue
after_passes zero left a = a
after_passes (suc passes) left a = after_passes passes (left_by_pass (threads_of a) left a) (after_pass (threads_of a) left a)

-- 256 instructions at most, so in 256 passes at most
unfoldable pub idled : AgentValue → AgentValue
idled a = after_passes 256 256 a
