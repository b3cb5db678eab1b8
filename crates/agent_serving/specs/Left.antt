-- After an event nothing is left to do: what came is given, all messages are taken, and what is told is queued.
use Rattle.std.specs.Prelude.{ℕ, ◌≡◌, ◌+◌, ◌⊎◌, true, false, IsTrue, List, [], None}
use Rattle.std.specs.List.{AllByRecursion}
use Rattle.target_contexts.specs.declared.process.Image.{Image}
use Rattle.target_hub.specs.Passing.{running_in}
use Rattle.tcf_wires.specs.Event.{can_come}
use Rattle.tcf_wires.specs.declared.event.WireEvent.TheVariants.{Idle}
use Rattle.agent_node.specs.Agent.{is_full, turned}
use Rattle.agent_node.specs.AgentValue.{AgentValue}
use Rattle.agent_node.specs.declared.agent.Turned.TheVariants.{Nothing}
use Rattle.serving_wires.specs.Intake.{next_for}
use Rattle.serving_wires.specs.Standing.{Heard, Standing, after, after_one, answered, came, rests, standing_in}
use Rattle.serving_wires.specs.declared.intake.Came.{Came}
use Rattle.agent_serving.specs.Gathering.{queue_on}
use Rattle.agent_serving.specs.Passing.{waiting_on}
use Rattle.agent_serving.specs.Serving.{served_agent}
use Rattle.agent_serving.specs.ServingValue.{ServingValue}

-- ---- a channel that is open, and what waits there

-- by the agent, which takes no further input where it is full
pub record HasNothingLeft (a : AgentValue) (k : ℕ) (waiting : List Came) : Type 0 where
  -- no message can be taken; and none waits, unless the agent is full
  pub taken : (turned k a).0 ≡ Nothing
  pub emptied : is_full a ≡ false → waiting_on k a ≡ 0
  -- nothing that came can be given; and nothing waits, unless the agent is full
  pub given : next_for (waiting_on k a) waiting ≡ None
  pub passed : is_full a ≡ false → waiting ≡ []
  -- what the agent has for it is queued
  pub told : queue_on k a ≡ []

-- wires can give this: a piece has 1 to 65,536 bytes
abbrev pub CanBeHeard : Heard → Type 0
CanBeHeard (came event) = IsTrue (can_come 0 event)
CanBeHeard (answered answer) = Unit {0}

abbrev pub HaveNothingLeft : ServingValue → Type 0
HaveNothingLeft s = AllByRecursion (λ line. HasNothingLeft s.agent line.channel line.item) s.lines

-- whatever came
abbrev pub LeavesNothing : Type 0
LeavesNothing = (images : List Image) (heard : List Heard) → AllByRecursion CanBeHeard heard → HaveNothingLeft (standing_in (after (served_agent images) heard)).served

-- ---- while nothing comes

-- 256 instructions were executed, each of which is an input, or no thread runs any more, or the agent is full
abbrev pub HasGoneOn : AgentValue → AgentValue → Type 0
HasGoneOn before after =
    (after.position ≡ before.position + 256)
    ⊎ (running_in after.target.contexts.processes ≡ []) ⊎ (is_full after ≡ true)

-- from whatever state
abbrev pub GoesOnWhileIdle : Type 0
GoesOnWhileIdle = (images : List Image) (s : Standing ServingValue) → HasGoneOn s.served.agent (standing_in (after_one (served_agent images) (rests s) (came Idle))).served.agent
