-- What the commands of Memory and Registers leave is fit.
use Rattle.std.proofs.Common.{◌≡◌, ℕ, ℤ, pos, negsuc, ◌+◌, ◌<◌, ◌≤◌, ◌==◌, nat_lt, unsigned_abs, Bool, true, false, not, cond, is_none, List, [], ◌∷◌, ◌++◌, length, take, drop, Option, Some, None, refl, ◌∙◌, arith, length-append, length-take, length-drop}
use Rattle.std.proofs.lemmas.Bool.{eqb-true, ltb-false, or_parts}
use Rattle.command_tables.specs.Canonical.{AreBytes, IsReadable}
use Rattle.data_services.specs.Bytes.{with_part, word_bytes, word_of}
use Rattle.data_services.specs.Commands.{data_after, data_fault, data_left}
use Rattle.data_services.specs.MemoryRows.{is_no_size, is_outside, with_memory}
use Rattle.data_services.specs.Named.{process_named}
use Rattle.data_services.specs.Parts.{bytes_in, number_in, parts_named, with_bytes, with_number, with_part_bytes, with_parts, with_register_bytes}
use Rattle.data_services.specs.RegisterRows.{register_after, with_register_word, with_word}
use Rattle.rv32i_core.proofs.TheLaws.{writes_stay_within}
use Rattle.rv32i_core.proofs.Words.{byte_below}
use Rattle.rv32i_core.specs.Laws.{IsCpu, IsWord}
use Rattle.rv32i_core.specs.Registers.{with_register}
use Rattle.rv32i_core.specs.declared.registers.Cpu.{Cpu}
use Rattle.target_contexts.specs.Changes.{with_change, with_change_of}
use Rattle.target_contexts.specs.Named.{number_named}
use Rattle.target_contexts.specs.TargetsValue.{TargetsValue}
use Rattle.target_contexts.specs.Whole.{IsWhole}
use Rattle.target_contexts.specs.ProcessValue.{ProcessValue}
use Rattle.target_truth.proofs.Fit.{IsFit, change_fit}
use Rattle.target_truth.proofs.FitRun.{fault_fit, thread_whole}
use Rattle.tcf_values.specs.Faults.{first_fault}
use Rattle.tcf_values.specs.Ids.{register_of}
use Rattle.tcf_values.specs.declared.command.Command.{Command}
use Rattle.tcf_values.specs.declared.command.Command.TheVariants.{MemSet, RegSet, RegSetm}
use Rattle.tcf_values.specs.declared.faults.Fault.TheVariants.{BadAddress, BadContext, BadSize}
use Rattle.tcf_values.specs.declared.ids.RegisterId.{RegisterId}
use Rattle.list_laws.proofs.AllLists.{all_append, all_drop, all_take}
use Rattle.list_laws.proofs.Flags.{not_false}

-- ---- bytes

abbrev IsByte : ℕ → Type 0
IsByte byte = byte < 256

part_bytes : (first : ℕ) (part bytes : List ℕ) → AreBytes part → AreBytes bytes → AreBytes (with_part first part bytes)
part_bytes first part bytes are all =
    all_append IsByte (take first bytes) (part ++ drop (first + length part) bytes) (all_take IsByte first bytes all)
    (all_append IsByte part (drop (first + length part) bytes) are (all_drop IsByte (first + length part) bytes all))

-- ---- memory

part_length : (first : ℕ) (part bytes : List ℕ) → first + length part ≤ length bytes → length (with_part first part bytes) ≡ length bytes
part_length first part bytes within = simp (length-append, length-take, length-drop) (omega arith)

memory_whole : (first : ℕ) (bytes : List ℕ) (process : ProcessValue) → first + length bytes ≤ 65536 → AreBytes bytes → IsWhole process → IsWhole (with_memory first bytes process)
memory_whole first bytes process within are is = record {
  cpus = is.cpus;
  memory = record {
    size = part_length first bytes process.memory (omega (arith, is.memory.size)) ∙ is.memory.size;
    bytes = part_bytes first bytes process.memory are is.memory.bytes;
  };
}

named_fit : (change : ProcessValue → ProcessValue) (named : Option ℕ) (targets : TargetsValue) → IsFit targets → ((process : ProcessValue) → IsWhole process → IsWhole (change process))
    → IsFit (with_change_of change named targets)
named_fit change None targets fit keeps = fit
named_fit change (Some number) targets fit keeps = change_fit change number targets fit keeps

-- the checks of a set
checked : (missing sized whole outside : Bool) → first_fault ((missing, BadContext) ∷ (sized, BadSize) ∷ (whole, BadSize) ∷ (outside, BadAddress) ∷ []) ≡ None
    → (sized ≡ false) × (whole ≡ false) × (outside ≡ false)
checked true sized whole outside none = absurd cc
checked false true whole outside none = absurd cc
checked false false true outside none = absurd cc
checked false false false true none = absurd cc
checked false false false false none = (refl, refl, refl)

-- a range that isn't outside ends within memory
range_within : (addr size : ℤ) → is_no_size size ≡ false → is_outside addr size ≡ false → unsigned_abs addr + unsigned_abs size ≤ 65536
range_within (pos a) (pos n) sized inside = omega (arith, ltb-false 65536 (a + n) (or_parts (nat_lt a 0) (nat_lt 65536 (a + n)) inside).1)
range_within (pos a) (negsuc n) sized inside = absurd cc
range_within (negsuc a) size sized inside = absurd cc

-- ---- registers

word_is : (bytes : List ℕ) → AreBytes bytes → IsWord (word_of bytes)
unfolding word_of
word_is bytes are = omega (arith, byte_below bytes 0 are, byte_below bytes 1 are, byte_below bytes 2 are, byte_below bytes 3 are)

bytes_are : (number : ℕ) → AreBytes (word_bytes number)
unfolding word_bytes
bytes_are number = (omega arith, (omega arith, (omega arith, (omega arith, tt))))

number_by : (is_register : Bool) (index number : ℕ) (cpu : Cpu) → IsCpu cpu → IsWord number
    → IsCpu (cond is_register (with_register index number cpu) (record cpu { pc = number }))
number_by true index number cpu is below = writes_stay_within index number cpu is below
number_by false index number cpu is below = record { pc = below; count = is.count; registers = is.registers }

number_whole : (index number : ℕ) (cpu : Cpu) → IsCpu cpu → IsWord number → IsCpu (with_number index number cpu)
number_whole index number cpu is below = number_by (nat_lt index 32) index number cpu is below

register_fit : (register : Option RegisterId) (number : ℕ) (targets : TargetsValue) → IsFit targets → IsWord number → IsFit (register_after register number targets)
register_fit None number targets fit below = fit
register_fit (Some register) number targets fit below =
    change_fit (with_register_word register number) register.process targets fit
    (λ process is. thread_whole (with_word register.index number) register.thread process (λ thread whole. number_whole register.index number thread.cpu whole below) is)

-- the type of parts
abbrev DomainOf : {A B : Type 0} → (A → B) → Type 0
DomainOf {A = A} f = A

abbrev Part : Type 0
Part = DomainOf bytes_in

part_cpu : (part : Part) (bytes : List ℕ) (cpu : Cpu) → AreBytes bytes → IsCpu cpu → IsCpu (with_register_bytes part bytes cpu)
part_cpu part bytes cpu are is =
    let old = word_bytes (number_in part.register.index cpu) in
    number_whole part.register.index (word_of (with_part part.offset bytes old)) cpu is
    (word_is (with_part part.offset bytes old) (part_bytes part.offset bytes old are (bytes_are (number_in part.register.index cpu))))

part_whole : (part : Part) (bytes : List ℕ) (process : ProcessValue) → AreBytes bytes → IsWhole process → IsWhole (with_part_bytes part bytes process)
part_whole part bytes process are is =
    thread_whole (with_bytes part bytes) part.register.thread process (λ thread whole. part_cpu part bytes thread.cpu are whole) is

parts_fit : (parts : List Part) (bytes : List ℕ) (targets : TargetsValue) → AreBytes bytes → IsFit targets → IsFit (with_parts parts bytes targets)
parts_fit [] bytes targets are fit = fit
parts_fit (part ∷ parts) bytes targets are fit =
    parts_fit parts (drop part.size bytes) (with_change (with_part_bytes part (take part.size bytes)) part.register.process targets) (all_drop IsByte part.size bytes are)
    (change_fit (with_part_bytes part (take part.size bytes)) part.register.process targets fit
    (λ process is. part_whole part (take part.size bytes) process (all_take IsByte part.size bytes are) is))

-- ---- each command

data_left_fit : (command : Command) (targets : TargetsValue) → IsFit targets → IsReadable command → data_fault command targets ≡ None → IsFit (data_left command targets)
data_left_fit (MemSet id addr word size mode bytes) targets fit readable none =
    let passed = checked (is_none (process_named id targets.processes)) (is_no_size size) (not (length bytes == unsigned_abs size)) (is_outside addr size) none in
    let same : length bytes ≡ unsigned_abs size = eqb-true (length bytes) (unsigned_abs size) (not_false (length bytes == unsigned_abs size) passed.1) in
    let within : unsigned_abs addr + unsigned_abs size ≤ 65536 = range_within addr size passed.0 passed.2 in
    named_fit (with_memory (unsigned_abs addr) bytes) (number_named id) targets fit
    (λ process is. memory_whole (unsigned_abs addr) bytes process (omega arith) readable.4 is)
data_left_fit (RegSet id bytes) targets fit readable none = register_fit (register_of id) (word_of bytes) targets fit (word_is bytes readable)
data_left_fit (RegSetm list bytes) targets fit readable none = parts_fit (parts_named list) bytes targets readable.1 fit
data_left_fit _ targets fit readable none = fit

pub data_fit : (command : Command) (targets : TargetsValue) → IsFit targets → IsReadable command → IsFit (data_after command targets)
data_fit command targets fit readable = fault_fit (data_fault command targets) (data_left command targets) targets fit (data_left_fit command targets fit readable)
