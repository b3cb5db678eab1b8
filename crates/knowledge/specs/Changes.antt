-- What one fact, or one kind of facts, that is told or drops out makes of what is known.
use Rattle.std.specs.Prelude.{ℕ, ◌+◌, ◌-◌, ◌==◌, nat_le, nat_lt, Bool, false, not, ◌&&◌, ◌||◌, List, [], ◌∷◌, ◌++◌, length, slice_get, bytes_eq, Option, Some, None, option_map, if◌then◌else◌}
use Rattle.std.specs.List.{list_all, list_any}
use Rattle.tcf_values.specs.declared.values.BpProps.{BpProps}
use Rattle.tcf_values.specs.declared.values.BpStatus.{BpStatus}
use Rattle.tcf_values.specs.declared.values.ContextData.{ContextData}
use Rattle.knowledge.specs.Facts.{Facts, is_suspended, nothing, state_of}
use Rattle.knowledge.specs.declared.state.StateFact.{StateFact}

pub data Change : Type 0 where
  all_gone : Change
  context_told : List ℕ → ContextData → Change
  context_gone : List ℕ → Change
  -- the threads of a process, all of them
  threads_told : ℕ → List (List ℕ) → Change
  -- a thread of a process, which counts only where the process's threads are known
  thread_joined : ℕ → List ℕ → Change
  -- that the threads of a process are known
  threads_gone : ℕ → Change
  -- the states and the registers of all threads of a process
  threads_stale : ℕ → Change
  state_told : ℕ → ℕ → StateFact → Change
  state_gone : ℕ → ℕ → Change
  -- a register of a thread, which counts only where the thread is known as suspended
  register_read : ℕ → ℕ → ℕ → ℕ → Change
  register_gone : ℕ → ℕ → ℕ → Change
  -- all registers of a thread, and those of all threads
  thread_registers_gone : ℕ → ℕ → Change
  registers_gone : Change
  -- bytes of a process from an address on, which count only where each of its threads is known as suspended
  bytes_read : ℕ → ℕ → List ℕ → Change
  -- all bytes of a process, and those of a range: an address, and how many
  bytes_gone : ℕ → Change
  range_gone : ℕ → ℕ → ℕ → Change
  properties_told : List ℕ → BpProps → Change
  properties_gone : List ℕ → Change
  status_told : List ℕ → BpStatus → Change
  status_gone : List ℕ → Change
  statuses_gone : Change

-- ---- what is known, with one place written

abbrev pub at_text : {A : Type 0} → List ℕ → Option A → (List ℕ → Option A) → List ℕ → Option A
at_text id value known other = if bytes_eq id other then value else known other

-- under a number
abbrev pub at_number : {A : Type 0} → ℕ → A → (ℕ → A) → ℕ → A
at_number number value known n = if number == n then value else known n

-- of the thread of a process
abbrev pub at_thread : {A : Type 0} → ℕ → ℕ → A → (ℕ → ℕ → A) → ℕ → ℕ → A
at_thread process thread value known p t = if (process == p) && (thread == t) then value else known p t

abbrev pub at_register : ℕ → ℕ → ℕ → Option ℕ → (ℕ → ℕ → ℕ → Option ℕ) → ℕ → ℕ → ℕ → Option ℕ
at_register process thread index value known p t i = if (process == p) && (thread == t) && (index == i) then value else known p t i

-- ---- the threads of a process

-- one thread more behind the others, where it isn't among them
abbrev pub with_id : List ℕ → List (List ℕ) → List (List ℕ)
with_id id ids = if list_any (λ other. bytes_eq id other) ids then ids else ids ++ id ∷ []

-- there are some, and each is known as suspended
abbrev pub are_still : Facts → Option (List (List ℕ)) → Bool
are_still known None = false
are_still known (Some ids) = nat_lt 0 (length ids) && list_all (λ id. is_suspended (state_of id known)) ids

-- the threads of the process are known, and each is known as suspended. So nothing but what is told changes its memory
abbrev pub is_still : ℕ → Facts → Bool
is_still process known = are_still known (known.threads process)

-- ---- bytes of memory

abbrev pub is_byte : ℕ → Option ℕ → Bool
is_byte byte None = false
is_byte byte (Some found) = found == byte

-- these bytes, which stand from an address on, have the byte at the place
abbrev pub has_byte : ℕ → List ℕ → ℕ → ℕ → Bool
has_byte addr bytes place byte = nat_le addr place && is_byte byte (slice_get bytes (place - addr))

abbrev pub is_within : ℕ → ℕ → ℕ → Bool
is_within addr size place = nat_le addr place && nat_lt place (addr + size)

-- ---- what is known after a change

abbrev pub after : Change → Facts → Facts
after all_gone known = nothing
after (context_told id context) known = record known { contexts = at_text id (Some context) known.contexts }
after (context_gone id) known = record known { contexts = at_text id None known.contexts }
after (threads_told process ids) known = record known { threads = at_number process (Some ids) known.threads }
after (thread_joined process id) known = record known { threads = at_number process (option_map (with_id id) (known.threads process)) known.threads }
after (threads_gone process) known = record known { threads = at_number process None known.threads }
after (threads_stale process) known = record known {
  states = λ p thread. if process == p then None else known.states p thread;
  registers = λ p thread index. if process == p then None else known.registers p thread index;
}
after (state_told process thread state) known = record known { states = at_thread process thread (Some state) known.states }
after (state_gone process thread) known = record known { states = at_thread process thread None known.states }
after (register_read process thread index value) known =
    record known { registers = if is_suspended (known.states process thread) then at_register process thread index (Some value) known.registers else known.registers }
after (register_gone process thread index) known = record known { registers = at_register process thread index None known.registers }
after (thread_registers_gone process thread) known = record known { registers = at_thread process thread (λ index. None) known.registers }
after registers_gone known = record known { registers = λ process thread index. None }
after (bytes_read process addr bytes) known =
    record known { bytes = λ p place byte. known.bytes p place byte || (is_still process known && (process == p) && has_byte addr bytes place byte) }
after (bytes_gone process) known = record known { bytes = λ p place byte. known.bytes p place byte && not (process == p) }
after (range_gone process addr size) known =
    record known { bytes = λ p place byte. known.bytes p place byte && not ((process == p) && is_within addr size place) }
after (properties_told id properties) known = record known { properties = at_text id (Some properties) known.properties }
after (properties_gone id) known = record known { properties = at_text id None known.properties }
after (status_told id status) known = record known { statuses = at_text id (Some status) known.statuses }
after (status_gone id) known = record known { statuses = at_text id None known.statuses }
after statuses_gone known = record known { statuses = λ id. None }

-- what is known after these changes, one after another
abbrev pub after_all : List Change → Facts → Facts
after_all [] known = known
after_all (change ∷ changes) known = after_all changes (after change known)

-- the changes that each item makes, one after another
abbrev pub of_each : {A : Type 0} → (A → List Change) → List A → List Change
of_each changes [] = []
of_each changes (item ∷ items) = changes item ++ of_each changes items
