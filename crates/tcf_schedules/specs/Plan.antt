-- What a step means, and which steps a schedule of some chains can have.
use Rattle.std.specs.Prelude.{ℕ, ◌<◌, ◌≤◌, ◌+◌, Bool, true, false, List, map, sum_by, length, Option, Some, None}
use Rattle.std.specs.List.{AllByRecursion, slice_get}
use Rattle.tcf_values.specs.declared.ids.ContextId.{ContextId}
use Rattle.tcf_values.specs.declared.ids.ContextId.TheVariants.{Process, Thread}
use Rattle.tcf_values.specs.Spelling.{IsContext}
use Rattle.tcf_message.specs.Message.{HasNoZero}
use Rattle.cached_lines.specs.declared.what.CachedWhat.{CachedWhat}
use Rattle.cached_lines.specs.Asked.{IsAsked}
use Rattle.tcf_schedules.specs.declared.schedule.ChainHead.{ChainHead}
use Rattle.tcf_schedules.specs.declared.schedule.ScheduleStep.{ScheduleStep}
use Rattle.tcf_schedules.specs.declared.schedule.ScheduleStep.TheVariants.{Opens, Send, Deliver, Turn, Tick, Close, Cut, Cached, Rounds, Times'}

-- The meaning of a step. Steps are compared by it, since a step that is repeated stands in a place of its own, which
-- means nothing. A chain is given by its place in the header, from 0. Its nodes are its client, 0, its value-adds, and
-- behind them the agent, and hop h joins node h and node h + 1.
pub data Plan : Type 0 where
  opens : (chain : ℕ) → Plan
  send : (chain : ℕ) (service name body : List ℕ) → Plan
  deliver : (chain hop : ℕ) (up : Bool) (count : ℕ) → Plan
  turn : (chain node : ℕ) (up : Bool) → Plan
  tick : (thread : ContextId) → Plan
  close : (chain : ℕ) → Plan
  cut : (chain hop : ℕ) → Plan
  cached : (chain : ℕ) (what : CachedWhat) → Plan
  rounds : (count : ℕ) → Plan
  times : (count : ℕ) (plan : Plan) → Plan

abbrev pub plan_of : ScheduleStep → Plan
plan_of (Opens chain) = opens chain
plan_of (Send chain service name body) = send chain service name body
plan_of (Deliver chain hop up count) = deliver chain hop up count
plan_of (Turn chain node up) = turn chain node up
plan_of (Tick thread) = tick thread
plan_of (Close chain) = close chain
plan_of (Cut chain hop) = cut chain hop
plan_of (Cached chain what) = cached chain what
plan_of (Rounds count) = rounds count
plan_of (Times' count place step) = times count (plan_of step)

abbrev pub plans_of : List ScheduleStep → List Plan
plans_of steps = map plan_of steps

-- as how many steps a step counts: each round and each repetition is one
abbrev pub step_size : Plan → ℕ
step_size (rounds count) = count
step_size (times count plan) = count
step_size plan = 1

abbrev pub step_count : List Plan → ℕ
step_count plans = sum_by step_size plans

-- ---- The steps of a schedule

-- the value-adds of the chain at a place of the header; none where there is no chain
abbrev pub adds_in : Option ChainHead → ℕ
adds_in None = 0
adds_in (Some head) = head.adds

abbrev pub adds_at : List ChainHead → ℕ → ℕ
adds_at chains chain = adds_in (slice_get chains chain)

abbrev pub IsChain : List ChainHead → ℕ → Type 0
IsChain chains chain = chain < length chains

abbrev pub IsHop : List ChainHead → ℕ → ℕ → Type 0
IsHop chains chain hop = IsChain chains chain × (hop ≤ adds_at chains chain)

-- a node that takes what travels up is not the client, and one that takes what travels down is not the agent
abbrev pub IsTurn : List ChainHead → ℕ → ℕ → Bool → Type 0
IsTurn chains chain node true = IsChain chains chain × (1 ≤ node) × (node ≤ adds_at chains chain + 1)
IsTurn chains chain node false = IsChain chains chain × (node ≤ adds_at chains chain)

abbrev pub IsThread : ContextId → Type 0
IsThread (Process process) = ⊥
IsThread (Thread process thread) = IsContext (Thread process thread)

-- neither rounds nor a repetition
abbrev pub IsSingle : Plan → Type 0
IsSingle (rounds count) = ⊥
IsSingle (times count plan) = ⊥
IsSingle plan = Unit {0}

-- a step that these chains can have: its chain, its hop and its node are there, its numbers are in their ranges, the
-- words of a command have no zero byte, and what is asked of a cache has its form
abbrev pub IsStep : List ChainHead → Plan → Type 0
IsStep chains (opens chain) = IsChain chains chain
IsStep chains (send chain service name body) = IsChain chains chain × HasNoZero service × HasNoZero name
IsStep chains (deliver chain hop up count) = IsHop chains chain hop × (1 ≤ count) × (count ≤ 65536)
IsStep chains (turn chain node up) = IsTurn chains chain node up
IsStep chains (tick thread) = IsThread thread
IsStep chains (close chain) = IsChain chains chain
IsStep chains (cut chain hop) = IsHop chains chain hop
IsStep chains (cached chain what) = IsChain chains chain × IsAsked what
IsStep chains (rounds count) = (1 ≤ count) × (count ≤ 10000)
IsStep chains (times count plan) = (1 ≤ count) × (count ≤ 10000) × IsSingle plan × IsStep chains plan

-- the steps that a schedule of these chains can have: at most 1,000,000
abbrev pub AreSteps : List ChainHead → List Plan → Type 0
AreSteps chains plans = AllByRecursion (IsStep chains) plans × (step_count plans ≤ 1000000)
