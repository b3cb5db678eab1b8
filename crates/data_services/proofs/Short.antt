-- The threads of the processes stay few, and names, reasons and hits short, through each command.
use Rattle.std.proofs.Common.{ℕ, unsigned_abs, List, [], ◌∷◌, take, drop, Option, Some, None}
use Rattle.tcf_values.specs.Ids.{register_of}
use Rattle.tcf_values.specs.declared.command.Command.{Command}
use Rattle.tcf_values.specs.declared.command.Command.TheVariants.{MemSet, RegSet, RegSetm}
use Rattle.tcf_values.specs.declared.faults.Fault.{Fault}
use Rattle.tcf_values.specs.declared.ids.RegisterId.{RegisterId}
use Rattle.target_contexts.specs.Changes.{targets_by, with_change, with_change_of}
use Rattle.target_contexts.specs.Named.{number_named}
use Rattle.target_contexts.specs.Short.{AllShort, IsShort}
use Rattle.target_contexts.specs.TargetsValue.{TargetsValue}
use Rattle.target_contexts.specs.ProcessValue.{ProcessValue}
use Rattle.data_services.specs.Bytes.{word_of}
use Rattle.data_services.specs.Commands.{data_fault, data_left}
use Rattle.data_services.specs.MemoryRows.{with_memory}
use Rattle.data_services.specs.Parts.{parts_named, with_bytes, with_part_bytes, with_parts}
use Rattle.data_services.specs.RegisterRows.{register_after, with_register_word, with_word}
use Rattle.data_services.specs.Short.{ShortStays}
use Rattle.data_services.specs.declared.parts.Part.{Part}
use Rattle.target_contexts.proofs.TheLaws.{change_stays_short, thread_stays_short}

memory_short : (first : ℕ) (bytes : List ℕ) (process : ProcessValue) → IsShort process → IsShort (with_memory first bytes process)
memory_short first bytes process is = record { name = is.name; threads = is.threads; count = is.count }

word_short : (register : RegisterId) (number : ℕ) (process : ProcessValue) → IsShort process → IsShort (with_register_word register number process)
word_short register number process is = thread_stays_short (with_word register.index number) register.thread process (λ thread short. short) is

bytes_short : (part : Part) (bytes : List ℕ) (process : ProcessValue) → IsShort process → IsShort (with_part_bytes part bytes process)
bytes_short part bytes process is = thread_stays_short (with_bytes part bytes) part.register.thread process (λ thread short. short) is

named_short : (change : ProcessValue → ProcessValue) (named : Option ℕ) (targets : TargetsValue) → ((process : ProcessValue) → IsShort process → IsShort (change process)) → AllShort targets.processes
    → AllShort (with_change_of change named targets).processes
named_short change None targets keeps all = all
named_short change (Some number) targets keeps all = change_stays_short change number targets keeps all

register_short : (register : Option RegisterId) (word : ℕ) (targets : TargetsValue) → AllShort targets.processes → AllShort (register_after register word targets).processes
register_short None word targets all = all
register_short (Some register) word targets all = change_stays_short (with_register_word register word) register.process targets (word_short register word) all

parts_short : (parts : List Part) (bytes : List ℕ) (targets : TargetsValue) → AllShort targets.processes → AllShort (with_parts parts bytes targets).processes
parts_short [] bytes targets all = all
parts_short (part ∷ parts) bytes targets all =
    let change = with_part_bytes part (take part.size bytes) in
    parts_short parts (drop part.size bytes) (with_change change part.register.process targets)
    (change_stays_short change part.register.process targets (bytes_short part (take part.size bytes)) all)

left_short : (command : Command) (targets : TargetsValue) → AllShort targets.processes → AllShort (data_left command targets).processes
left_short (MemSet id addr word size mode bytes) targets all =
    named_short (with_memory (unsigned_abs addr) bytes) (number_named id) targets (memory_short (unsigned_abs addr) bytes) all
left_short (RegSet id bytes) targets all = register_short (register_of id) (word_of bytes) targets all
left_short (RegSetm list bytes) targets all = parts_short (parts_named list) bytes targets all
left_short _ targets all = all

kept_by : (fault : Option Fault) (left targets : TargetsValue) → AllShort left.processes → AllShort targets.processes → AllShort (targets_by fault left targets).processes
kept_by None left targets given all = given
kept_by (Some fault) left targets given all = all

pub short_stays : ShortStays
short_stays command targets all = kept_by (data_fault command targets) (data_left command targets) targets (left_short command targets all) all
