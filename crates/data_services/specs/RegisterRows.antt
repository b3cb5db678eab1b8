-- The commands of the service Registers: their checks, what they give and what they change (TCF service Registers).
use Rattle.std.specs.Prelude.{ℕ, pos, ◌+ℤ◌, int_lt, ◌==◌, ◌%◌, nat_lt, Bool, false, not, ◌&&◌, List, [], ◌∷◌, length, slice_get, bytes_eq, Option, Some, None, is_none, if◌then◌else◌}
use Rattle.std.specs.List.{list_all}
use Rattle.std.specs.Option.{option_or}
use Rattle.tcf_values.specs.Ids.{register_of}
use Rattle.tcf_values.specs.declared.event.EventData.{EventData}
use Rattle.tcf_values.specs.declared.event.EventData.TheVariants.{RegChanged, RegsChanged}
use Rattle.tcf_values.specs.declared.ids.RegisterId.{RegisterId}
use Rattle.tcf_values.specs.declared.values.Location.{Location}
use Rattle.target_contexts.specs.TargetsValue.{TargetsValue}
use Rattle.target_contexts.specs.ProcessValue.{ProcessValue}
use Rattle.data_services.specs.Bytes.{word_bytes, word_of}
use Rattle.target_contexts.specs.Changes.{with_change}
use Rattle.tcf_values.specs.Faults.{first_fault}
use Rattle.target_contexts.specs.Named.{is_running}
use Rattle.target_contexts.specs.Threads.{in_thread}
use Rattle.target_contexts.specs.declared.threads.Thread.{Thread}
use Rattle.data_services.specs.Named.{holder_of}
use Rattle.data_services.specs.Parts.{number_in, with_number, parts_named, with_parts, names_off, sizes}
use Rattle.tcf_values.specs.declared.faults.Fault.{Fault}
use Rattle.tcf_values.specs.declared.faults.Fault.TheVariants.{BadContext, IsRunning, BadSize, BadAddress}

-- ---- get: the register's four bytes

abbrev pub register_get_fault : List ℕ → List (ℕ × ProcessValue) → Option Fault
register_get_fault id rows = first_fault (
    (is_none (holder_of id rows), BadContext)
    ∷ (is_running (holder_of id rows), IsRunning)
    ∷ [])

abbrev pub register_bytes : Option RegisterId → Option Thread → List ℕ
register_bytes (Some register) (Some thread) = word_bytes (number_in register.index thread.cpu)
register_bytes (Some register) None = []
register_bytes None thread = []

-- ---- set: the register has the number of four bytes; registerChanged tells which it is

abbrev pub is_pc : Option RegisterId → Bool
is_pc None = false
is_pc (Some register) = register.index == 32

abbrev pub register_set_fault : List ℕ → List ℕ → List (ℕ × ProcessValue) → Option Fault
register_set_fault id bytes rows = first_fault (
    (is_none (holder_of id rows), BadContext)
    ∷ (is_running (holder_of id rows), IsRunning)
    ∷ (not (length bytes == 4), BadSize)
    ∷ (is_pc (register_of id) && not (word_of bytes % 4 == 0), BadAddress)
    ∷ [])

abbrev pub with_word : ℕ → ℕ → Thread → Thread
with_word index number thread = record thread { cpu = with_number index number thread.cpu }

-- in the thread of the register
abbrev pub with_register_word : RegisterId → ℕ → ProcessValue → ProcessValue
with_register_word register number process = in_thread (with_word register.index number) register.thread process

abbrev pub register_after : Option RegisterId → ℕ → TargetsValue → TargetsValue
register_after None number targets = targets
register_after (Some register) number targets = with_change (with_register_word register number) register.process targets

-- ---- getm: the bytes of all locations, in order

abbrev pub location_fault : List (ℕ × ProcessValue) → Location → Option Fault
location_fault rows location = first_fault (
    (is_none (holder_of location.register rows), BadContext)
    ∷ (is_running (holder_of location.register rows), IsRunning)
    ∷ (int_lt location.offset (pos 0), BadSize)
    ∷ (int_lt location.size (pos 1), BadSize)
    ∷ (int_lt (pos 4) (location.offset +ℤ location.size), BadSize)
    ∷ [])

-- the fault of the first location that has one
abbrev pub locations_fault : List (ℕ × ProcessValue) → List Location → Option Fault
locations_fault rows [] = None
locations_fault rows (location ∷ list) = option_or (location_fault rows location) (locations_fault rows list)

abbrev pub registers_get_fault : List Location → List (ℕ × ProcessValue) → Option Fault
registers_get_fault list rows = if nat_lt 256 (length list) then Some BadSize else locations_fault rows list

-- ---- setm: the bytes go into the locations, in order; registerChanged tells the register where there is one, and
-- contextChanged stands for several

abbrev pub registers_set_fault : List Location → List ℕ → TargetsValue → Option Fault
registers_set_fault list bytes targets = option_or (registers_get_fault list targets.processes) (first_fault (
    (not (sizes (parts_named list) == length bytes), BadSize)
    ∷ (names_off (with_parts (parts_named list) bytes targets).processes (parts_named list), BadAddress)
    ∷ []))

-- all locations name the register of the first one. A register has one spelling, so texts that differ name others
abbrev pub name_one : List ℕ → List Location → Bool
name_one register list = list_all (λ location. bytes_eq location.register register) list

abbrev pub events_from : Option Location → List Location → List EventData
events_from None list = []
events_from (Some first) list = if name_one first.register list then RegChanged first.register ∷ [] else RegsChanged ∷ []

abbrev pub registers_events : List Location → List EventData
registers_events list = events_from (slice_get list 0) list

abbrev pub registers_after : List Location → List ℕ → TargetsValue → TargetsValue
registers_after list bytes targets = with_parts (parts_named list) bytes targets
