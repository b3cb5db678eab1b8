-- What can be known of a target: facts, each under a key, and single bytes of memory.
use Rattle.std.specs.Prelude.{ℕ, ◌≡◌, Bool, true, false, List, Option, Some, None, option_and_then}
use Rattle.tcf_values.specs.Ids.{context_of}
use Rattle.tcf_values.specs.declared.ids.ContextId.{ContextId}
use Rattle.tcf_values.specs.declared.ids.ContextId.TheVariants.{Process, Thread}
use Rattle.tcf_values.specs.declared.values.BpProps.{BpProps}
use Rattle.tcf_values.specs.declared.values.BpStatus.{BpStatus}
use Rattle.tcf_values.specs.declared.values.ContextData.{ContextData}
use Rattle.knowledge.specs.declared.state.StateFact.{StateFact}
use Rattle.knowledge.specs.declared.state.StateFact.TheVariants.{Running, Suspended}

-- one fact
pub data Fact : Type 0 where
  -- the context of this ID
  context_is : List ℕ → ContextData → Fact
  -- the threads of the process of this number are those of these IDs, in order
  threads_are : ℕ → List (List ℕ) → Fact
  -- whether the thread runs: the number of its process, and its own
  state_is : ℕ → ℕ → StateFact → Fact
  -- the register of the thread at an index, where 32 is the pc
  register_is : ℕ → ℕ → ℕ → ℕ → Fact
  -- the process has this byte at this address
  byte_is : ℕ → ℕ → ℕ → Fact
  -- the properties and the status of the breakpoint of this ID
  properties_are : List ℕ → BpProps → Fact
  status_is : List ℕ → BpStatus → Fact

-- a set of facts, with at most one under each key, but any number of bytes at an address
pub record Facts : Type 0 where
  pub contexts : List ℕ → Option ContextData
  pub threads : ℕ → Option (List (List ℕ))
  pub states : ℕ → ℕ → Option StateFact
  pub registers : ℕ → ℕ → ℕ → Option ℕ
  pub bytes : ℕ → ℕ → ℕ → Bool
  pub properties : List ℕ → Option BpProps
  pub statuses : List ℕ → Option BpStatus

-- the fact is in the set
abbrev pub Knows : Facts → Fact → Type 0
Knows known (context_is id context) = known.contexts id ≡ Some context
Knows known (threads_are process ids) = known.threads process ≡ Some ids
Knows known (state_is process thread state) = known.states process thread ≡ Some state
Knows known (register_is process thread index value) = known.registers process thread index ≡ Some value
Knows known (byte_is process addr byte) = known.bytes process addr byte ≡ true
Knows known (properties_are id properties) = known.properties id ≡ Some properties
Knows known (status_is id status) = known.statuses id ≡ Some status

-- each fact of the one set is in the other
abbrev pub IsPart : Facts → Facts → Type 0
IsPart some more = (fact : Fact) → Knows some fact → Knows more fact

abbrev pub nothing : Facts
nothing = record {
  contexts = λ id. None;
  threads = λ process. None;
  states = λ process thread. None;
  registers = λ process thread index. None;
  bytes = λ process addr byte. false;
  properties = λ id. None;
  statuses = λ id. None;
}

-- both have the same facts that aren't bytes
pub record AreSame (known other : Facts) : Type 0 where
  pub contexts : (id : List ℕ) → known.contexts id ≡ other.contexts id
  pub threads : (process : ℕ) → known.threads process ≡ other.threads process
  pub states : (process thread : ℕ) → known.states process thread ≡ other.states process thread
  pub registers : (process thread index : ℕ) → known.registers process thread index ≡ other.registers process thread index
  pub properties : (id : List ℕ) → known.properties id ≡ other.properties id
  pub statuses : (id : List ℕ) → known.statuses id ≡ other.statuses id

-- what is known of the thread is that it is suspended
abbrev pub is_suspended : Option StateFact → Bool
is_suspended None = false
is_suspended (Some Running) = false
is_suspended (Some (Suspended reason hits)) = true

-- what is known of a thread, by its ID
abbrev pub state_at : Facts → ContextId → Option StateFact
state_at known (Process process) = None
state_at known (Thread process thread) = known.states process thread

abbrev pub state_of : List ℕ → Facts → Option StateFact
state_of id known = option_and_then (state_at known) (context_of id)

-- registers are known of no thread but those that are known as suspended
abbrev pub IsGrounded : Facts → Type 0
IsGrounded known =
    (process thread index value : ℕ) → known.registers process thread index ≡ Some value → is_suspended (known.states process thread) ≡ true
