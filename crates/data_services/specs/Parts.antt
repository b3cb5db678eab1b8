-- Registers, and parts of them: some of a register's four bytes (TCF service Registers, getm and setm).
use Rattle.std.specs.Prelude.{ℕ, ◌+◌, ◌≤◌, ◌%◌, ◌==◌, nat_lt, unsigned_abs, Bool, false, not, ◌&&◌, List, [], ◌∷◌, take, drop, Option, Some, None, option_map, if◌then◌else◌}
use Rattle.std.specs.List.{filter_map, flat_map, list_any, sum_by}
use Rattle.tcf_values.specs.Ids.{register_of}
use Rattle.tcf_values.specs.declared.values.Location.{Location}
use Rattle.rv32i_core.specs.Registers.{register_of as number_of, with_register}
use Rattle.rv32i_core.specs.declared.registers.Cpu.{Cpu}
use Rattle.target_contexts.specs.TargetsValue.{TargetsValue}
use Rattle.target_contexts.specs.ProcessValue.{ProcessValue}
use Rattle.data_services.specs.Bytes.{part_of, with_part, word_bytes, word_of}
use Rattle.target_contexts.specs.Changes.{with_change}
use Rattle.target_contexts.specs.Threads.{in_thread}
use Rattle.target_contexts.specs.declared.threads.Thread.{Thread}
use Rattle.data_services.specs.Named.{thread_with}
use Rattle.data_services.specs.declared.parts.Part.{Part}

-- the number in a register: x0 to x31 by their indexes, of which x0 is always 0, and then the pc
abbrev pub number_in : ℕ → Cpu → ℕ
number_in index cpu = if nat_lt index 32 then number_of index cpu else cpu.pc

-- a number put into a register; x0 stays 0
abbrev pub with_number : ℕ → ℕ → Cpu → Cpu
with_number index number cpu = if nat_lt index 32 then with_register index number cpu else record cpu { pc = number }

-- ---- the parts that locations name

-- the part lies within the four bytes
abbrev pub IsInside : Part → Type 0
IsInside part = part.offset + part.size ≤ 4

abbrev pub part_named : Location → Option Part
part_named location =
    option_map (λ register. record { register = register; offset = unsigned_abs location.offset; size = unsigned_abs location.size })
    (register_of location.register)

abbrev pub parts_named : List Location → List Part
parts_named list = filter_map part_named list

-- ---- the bytes of parts, in order

abbrev pub bytes_in : Part → Option Thread → List ℕ
bytes_in part None = []
bytes_in part (Some thread) = part_of part.offset part.size (word_bytes (number_in part.register.index thread.cpu))

abbrev pub bytes_of : List (ℕ × ProcessValue) → List Part → List ℕ
bytes_of rows parts = flat_map (λ part. bytes_in part (thread_with rows part.register)) parts

-- ---- bytes put over parts, in order: each part takes as many of them as it has

abbrev pub sizes : List Part → ℕ
sizes parts = sum_by (λ part. part.size) parts

abbrev pub with_register_bytes : Part → List ℕ → Cpu → Cpu
with_register_bytes part bytes cpu =
    let index = part.register.index in
    with_number index (word_of (with_part part.offset bytes (word_bytes (number_in index cpu)))) cpu

abbrev pub with_bytes : Part → List ℕ → Thread → Thread
with_bytes part bytes thread = record thread { cpu = with_register_bytes part bytes thread.cpu }

-- in the thread of a part
abbrev pub with_part_bytes : Part → List ℕ → ProcessValue → ProcessValue
with_part_bytes part bytes process = in_thread (with_bytes part bytes) part.register.thread process

abbrev pub with_parts : List Part → List ℕ → TargetsValue → TargetsValue
with_parts [] bytes targets = targets
with_parts (part ∷ parts) bytes targets =
    with_parts parts (drop part.size bytes) (with_change (with_part_bytes part (take part.size bytes)) part.register.process targets)

-- the part is of a register of this thread
abbrev pub is_part_of : ℕ → ℕ → Part → Bool
is_part_of process thread part = (part.register.process == process) && (part.register.thread == thread)

-- what that leaves in the registers of one thread: the parts of other threads are passed over
abbrev pub cpu_after : ℕ → ℕ → List Part → List ℕ → Cpu → Cpu
cpu_after process thread [] bytes cpu = cpu
cpu_after process thread (part ∷ parts) bytes cpu =
    cpu_after process thread parts (drop part.size bytes)
    (if is_part_of process thread part then with_register_bytes part (take part.size bytes) cpu else cpu)

-- ---- a pc has to be a multiple of 4

abbrev pub is_off : Option Thread → Bool
is_off None = false
is_off (Some thread) = not (thread.cpu.pc % 4 == 0)

-- one of the parts is of a pc that is no multiple of 4
abbrev pub names_off : List (ℕ × ProcessValue) → List Part → Bool
names_off rows parts = list_any (λ part. (part.register.index == 32) && is_off (thread_with rows part.register)) parts
