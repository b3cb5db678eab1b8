-- The commands of the service Memory: their checks, what they give and what they change (TCF service Memory).
use Rattle.std.specs.Prelude.{ℕ, ℤ, pos, ◌+ℤ◌, int_lt, unsigned_abs, ◌==◌, Bool, not, ◌||◌, List, [], ◌∷◌, length, Option, Some, None, is_none, if◌then◌else◌}
use Rattle.tcf_values.specs.Spelling.{context_spelling}
use Rattle.tcf_values.specs.declared.event.EventData.{EventData}
use Rattle.tcf_values.specs.declared.event.EventData.TheVariants.{MemChanged}
use Rattle.tcf_values.specs.declared.ids.ContextId.TheVariants as ids
use Rattle.target_contexts.specs.TargetsValue.{TargetsValue}
use Rattle.target_contexts.specs.ProcessValue.{ProcessValue}
use Rattle.data_services.specs.Bytes.{part_of, with_part}
use Rattle.target_contexts.specs.Changes.{with_change_of}
use Rattle.tcf_values.specs.Faults.{first_fault}
use Rattle.target_contexts.specs.Named.{number_named}
use Rattle.data_services.specs.Named.{process_named}
use Rattle.tcf_values.specs.declared.faults.Fault.{Fault}
use Rattle.tcf_values.specs.declared.faults.Fault.TheVariants.{BadContext, BadSize, BadAddress}

-- the size is below 0 or above 65,536
abbrev pub is_no_size : ℤ → Bool
is_no_size size = int_lt size (pos 0) || int_lt (pos 65536) size

-- the range begins below 0, or ends above 65,536
abbrev pub is_outside : ℤ → ℤ → Bool
is_outside addr size = int_lt addr (pos 0) || int_lt (pos 65536) (addr +ℤ size)

-- ---- get: the bytes of the range

abbrev pub memory_get_fault : List ℕ → ℤ → ℤ → List (ℕ × ProcessValue) → Option Fault
memory_get_fault id addr size rows = first_fault (
    (is_none (process_named id rows), BadContext)
    ∷ (is_no_size size, BadSize)
    ∷ (is_outside addr size, BadAddress)
    ∷ [])

abbrev pub memory_bytes : ℤ → ℤ → Option ProcessValue → List ℕ
memory_bytes addr size None = []
memory_bytes addr size (Some process) = part_of (unsigned_abs addr) (unsigned_abs size) process.memory

-- ---- set: the bytes are put over those of the range, and where there are some, memoryChanged tells the process and
-- the range

-- a size that isn't negative is the number of bytes
abbrev pub memory_set_fault : List ℕ → ℤ → ℤ → List ℕ → List (ℕ × ProcessValue) → Option Fault
memory_set_fault id addr size bytes rows = first_fault (
    (is_none (process_named id rows), BadContext)
    ∷ (is_no_size size, BadSize)
    ∷ (not (length bytes == unsigned_abs size), BadSize)
    ∷ (is_outside addr size, BadAddress)
    ∷ [])

abbrev pub memory_events : Option ℕ → ℤ → ℤ → List EventData
memory_events None addr size = []
memory_events (Some number) addr size =
    if int_lt (pos 0) size
    then MemChanged (context_spelling (ids.Process number)) (record { addr = addr; size = size } ∷ []) ∷ []
    else []

abbrev pub with_memory : ℕ → List ℕ → ProcessValue → ProcessValue
with_memory first bytes process = record process { memory = with_part first bytes process.memory }

abbrev pub memory_after : List ℕ → ℤ → List ℕ → TargetsValue → TargetsValue
memory_after id addr bytes targets = with_change_of (with_memory (unsigned_abs addr) bytes) (number_named id) targets
