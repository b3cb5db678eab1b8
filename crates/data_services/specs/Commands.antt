-- What the commands of Memory and Registers give and what they change, in the order of the services' pages.
use Rattle.std.specs.Prelude.{Bool, true, false, [], ◌∷◌, Option, None}
use Rattle.tcf_values.specs.Ids.{register_of}
use Rattle.tcf_values.specs.declared.answer.Answer.TheVariants.{Blob, Nothing}
use Rattle.tcf_values.specs.declared.command.Command.{Command}
use Rattle.tcf_values.specs.declared.command.Command.TheVariants.{MemGet, MemSet, RegGet, RegSet, RegGetm, RegSetm}
use Rattle.tcf_values.specs.declared.effect.Effect.{Effect}
use Rattle.tcf_values.specs.declared.event.EventData.TheVariants.{RegChanged}
use Rattle.target_contexts.specs.TargetsValue.{TargetsValue}
use Rattle.data_services.specs.Bytes.{word_of}
use Rattle.tcf_values.specs.Effects.{effect_by, gives, tells}
use Rattle.data_services.specs.MemoryRows.{memory_get_fault, memory_bytes, memory_set_fault, memory_events, memory_after}
use Rattle.target_contexts.specs.Changes.{targets_by}
use Rattle.target_contexts.specs.Named.{number_named}
use Rattle.data_services.specs.Named.{process_named, holder_of}
use Rattle.data_services.specs.Parts.{bytes_of, parts_named}
use Rattle.data_services.specs.RegisterRows.{register_get_fault, register_bytes, register_set_fault, register_after, registers_get_fault, registers_set_fault, registers_events, registers_after}
use Rattle.tcf_values.specs.declared.faults.Fault.{Fault}

-- a command of Memory or Registers
abbrev pub is_data : Command → Bool
is_data (MemGet id addr word size mode) = true
is_data (MemSet id addr word size mode bytes) = true
is_data (RegGet id) = true
is_data (RegSet id bytes) = true
is_data (RegGetm list) = true
is_data (RegSetm list bytes) = true
is_data _ = false

-- the first check that fails
abbrev pub data_fault : Command → TargetsValue → Option Fault
data_fault (MemGet id addr word size mode) targets = memory_get_fault id addr size targets.processes
data_fault (MemSet id addr word size mode bytes) targets = memory_set_fault id addr size bytes targets.processes
data_fault (RegGet id) targets = register_get_fault id targets.processes
data_fault (RegSet id bytes) targets = register_set_fault id bytes targets.processes
data_fault (RegGetm list) targets = registers_get_fault list targets.processes
data_fault (RegSetm list bytes) targets = registers_set_fault list bytes targets
data_fault _ targets = None

-- what it gives where no check fails
abbrev pub data_given : Command → TargetsValue → Effect
data_given (MemGet id addr word size mode) targets =
    gives (Blob (memory_bytes addr size (process_named id targets.processes)))
data_given (MemSet id addr word size mode bytes) targets = tells (memory_events (number_named id) addr size) Nothing
data_given (RegGet id) targets = gives (Blob (register_bytes (register_of id) (holder_of id targets.processes)))
data_given (RegSet id bytes) targets = tells (RegChanged id ∷ []) Nothing
data_given (RegGetm list) targets = gives (Blob (bytes_of targets.processes (parts_named list)))
data_given (RegSetm list bytes) targets = tells (registers_events list) Nothing
data_given _ targets = gives Nothing

-- what it leaves where no check fails
abbrev pub data_left : Command → TargetsValue → TargetsValue
data_left (MemSet id addr word size mode bytes) targets = memory_after id addr bytes targets
data_left (RegSet id bytes) targets = register_after (register_of id) (word_of bytes) targets
data_left (RegSetm list bytes) targets = registers_after list bytes targets
data_left _ targets = targets

-- the events and the answer of a command
abbrev pub data_effect : Command → TargetsValue → Effect
data_effect command targets = effect_by (data_fault command targets) (data_given command targets)

-- the target after a command; a command that fails changes nothing
abbrev pub data_after : Command → TargetsValue → TargetsValue
data_after command targets = targets_by (data_fault command targets) (data_left command targets) targets
