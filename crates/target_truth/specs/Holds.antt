-- When what is known of a target is true of it.
use Rattle.std.specs.Prelude.{ℕ, ◌≡◌, ◌≤◌, true, List, slice_get, Option, Some, option_map, option_and_then}
use Rattle.breakpoints.specs.Rows.{props_of}
use Rattle.breakpoints.specs.Status.{status_of}
use Rattle.data_services.specs.Parts.{number_in}
use Rattle.knowledge.specs.Changes.{is_still}
use Rattle.knowledge.specs.Facts.{Fact, Facts, IsGrounded, Knows, context_is, threads_are, state_is, register_is, byte_is, properties_are, status_is}
use Rattle.knowledge.specs.declared.state.StateFact.{StateFact}
use Rattle.knowledge.specs.declared.state.StateFact.TheVariants as told
use Rattle.target_contexts.specs.Contexts.{context_of as data_of}
use Rattle.target_contexts.specs.Live.{process_of}
use Rattle.target_contexts.specs.Named.{attached_in}
use Rattle.target_contexts.specs.ProcessValue.{ProcessValue}
use Rattle.target_contexts.specs.Threads.{thread_count, thread_of}
use Rattle.target_contexts.specs.declared.process.ThreadState.{ThreadState}
use Rattle.target_contexts.specs.declared.process.ThreadState.TheVariants.{Running, Suspended}
use Rattle.target_contexts.specs.declared.threads.Thread.{Thread}
use Rattle.run_control.specs.Naming.{thread_ids}
use Rattle.run_control.specs.TargetValue.{TargetValue}
use Rattle.tcf_values.specs.Ids.{context_of}
use Rattle.tcf_values.specs.declared.values.ContextData.{ContextData}

-- ---- what is so of a target

-- the data of the live process or thread that a text spells
abbrev pub data_in : List ℕ → TargetValue → Option ContextData
data_in id target = option_and_then (λ context. data_of context target.contexts.processes) (context_of id)

-- the live process of a number
abbrev pub process_in : ℕ → TargetValue → Option ProcessValue
process_in number target = process_of number target.contexts.processes

-- the thread of a live process, by their numbers
abbrev pub thread_in : ℕ → ℕ → TargetValue → Option Thread
thread_in number n target = thread_of number n target.contexts.processes

-- the IDs of the threads of a process, in order
abbrev pub listed : ℕ → ProcessValue → List (List ℕ)
listed number process = thread_ids number (thread_count process)

-- whether a thread runs. How many instructions it has left to step is told nobody
abbrev pub state_fact : ThreadState → StateFact
state_fact (Running left) = told.Running
state_fact (Suspended reason hits) = told.Suspended reason hits

-- the byte that a process has at an address
abbrev pub byte_in : ℕ → ProcessValue → Option ℕ
byte_in addr process = slice_get process.memory addr

-- A fact is true. A list of threads has all threads of a live process, in order. Registers are x0 to x31 by their indexes,
-- and the pc at 32.
abbrev pub IsTrueOf : TargetValue → Fact → Type 0
IsTrueOf target (context_is id context) = data_in id target ≡ Some context
IsTrueOf target (threads_are process ids) = option_map (listed process) (process_in process target) ≡ Some ids
IsTrueOf target (state_is process thread state) = option_map (λ t. state_fact t.state) (thread_in process thread target) ≡ Some state
IsTrueOf target (register_is process thread index value) =
    (index ≤ 32) × (option_map (λ t. number_in index t.cpu) (thread_in process thread target) ≡ Some value)
IsTrueOf target (byte_is process addr byte) = option_and_then (byte_in addr) (process_in process target) ≡ Some byte
IsTrueOf target (properties_are id properties) = props_of id target.breakpoints ≡ Some properties
IsTrueOf target (status_is id status) = status_of id (attached_in target.contexts.processes) target.breakpoints ≡ Some status

-- ---- what is known holds

-- bytes are known of no process but those whose threads are known, and each of them as suspended
abbrev pub IsStill : Facts → Type 0
IsStill known = (process addr byte : ℕ) → known.bytes process addr byte ≡ true → is_still process known ≡ true

-- Each fact that is known is true of the target, and what can change without a word, registers of a thread that runs and
-- bytes of a process of which a thread runs, isn't known.
pub record Holds (known : Facts) (target : TargetValue) : Type 0 where
  pub facts : (fact : Fact) → Knows known fact → IsTrueOf target fact
  pub grounded : IsGrounded known
  pub still : IsStill known
