-- Laws of the commands of Memory and Registers, over every target.
use Rattle.std.specs.Prelude.{ℕ, ℤ, ◌≡◌, ◌≢◌, ◌==◌, ◌<◌, ◌&&◌, Bool, false, List, [], length, map, slice_index, Option, Some, None, option_map}
use Rattle.std.specs.List.{list_any}
use Rattle.tcf_values.specs.Changing.{changes}
use Rattle.tcf_values.specs.Ids.{register_of}
use Rattle.tcf_values.specs.declared.answer.Answer.TheVariants.{Blob, Failed, Nothing}
use Rattle.tcf_values.specs.declared.command.Command.{Command}
use Rattle.tcf_values.specs.declared.command.Command.TheVariants.{MemGet, MemSet, RegGet, RegSet, RegSetm}
use Rattle.tcf_values.specs.declared.errors.ErrorReport.{ErrorReport}
use Rattle.tcf_values.specs.declared.ids.RegisterId.{RegisterId}
use Rattle.target_contexts.specs.Live.{IsOrderly, process_of}
use Rattle.target_contexts.specs.TargetsValue.{TargetsValue}
use Rattle.target_contexts.specs.ProcessValue.{ProcessValue}
use Rattle.target_contexts.specs.Threads.{thread_of}
use Rattle.target_contexts.specs.declared.process.ThreadState.{ThreadState}
use Rattle.target_contexts.specs.declared.threads.Thread.{Thread}
use Rattle.data_services.specs.Commands.{data_after, data_effect}
use Rattle.tcf_values.specs.Effects.{gives}
use Rattle.target_contexts.specs.Named.{number_named}
use Rattle.data_services.specs.Named.{process_named, holder_of}
use Rattle.data_services.specs.Parts.{parts_named}

-- a command that an error answers changes nothing, and no event tells of it
abbrev pub FailureChangesNothing : Type 0
FailureChangesNothing = (command : Command) (targets : TargetsValue) (report : ErrorReport) → (data_effect command targets).answer ≡ Failed report →
    (data_after command targets ≡ targets) × ((data_effect command targets).events ≡ [])

-- a command that only asks changes nothing, and no event tells of it
abbrev pub AskingChangesNothing : Type 0
AskingChangesNothing = (command : Command) (targets : TargetsValue) → changes command ≡ false →
    (data_after command targets ≡ targets) × ((data_effect command targets).events ≡ [])

-- ---- the processes that a command can write

abbrev pub is_number : ℕ → Option ℕ → Bool
is_number number None = false
is_number number (Some named) = named == number

abbrev pub is_process : ℕ → Option RegisterId → Bool
is_process number None = false
is_process number (Some register) = register.process == number

-- the command sets memory of the process, or a register of one of its threads
abbrev pub writes : ℕ → Command → Bool
writes number (MemSet id addr word size mode bytes) = is_number number (number_named id)
writes number (RegSet id bytes) = is_process number (register_of id)
writes number (RegSetm list bytes) = list_any (λ part. part.register.process == number) (parts_named list)
writes number _ = false

-- every other process is as it was
abbrev pub OthersStay : Type 0
OthersStay = (command : Command) (targets : TargetsValue) (number : ℕ) → writes number command ≡ false →
    process_of number (data_after command targets).processes ≡ process_of number targets.processes

-- the command sets a register of the thread
abbrev pub is_thread : ℕ → ℕ → RegisterId → Bool
is_thread number n register = (register.process == number) && (register.thread == n)

abbrev pub is_some_thread : ℕ → ℕ → Option RegisterId → Bool
is_some_thread number n None = false
is_some_thread number n (Some register) = is_thread number n register

abbrev pub writes_thread : ℕ → ℕ → Command → Bool
writes_thread number n (RegSet id bytes) = is_some_thread number n (register_of id)
writes_thread number n (RegSetm list bytes) = list_any (λ part. is_thread number n part.register) (parts_named list)
writes_thread number n _ = false

-- every other thread is as it was
abbrev pub OtherThreadsStay : Type 0
OtherThreadsStay = (command : Command) (targets : TargetsValue) (number n : ℕ) → writes_thread number n command ≡ false →
    thread_of number n (data_after command targets).processes ≡ thread_of number n targets.processes

-- ---- threads go on as they are

abbrev pub thread_part : ProcessValue → List ThreadState × Bool
thread_part process = (map (λ thread. thread.state) process.threads, process.attached)

-- which threads there are and whether each runs, and whether their process is attached, stays
abbrev pub ThreadsStay : Type 0
ThreadsStay = (command : Command) (targets : TargetsValue) (number : ℕ) →
    option_map thread_part (process_of number (data_after command targets).processes) ≡ option_map thread_part (process_of number targets.processes)

-- the processes stay orderly
abbrev pub OrderStays : Type 0
OrderStays = (command : Command) (targets : TargetsValue) → IsOrderly targets.processes targets.next →
    IsOrderly (data_after command targets).processes (data_after command targets).next

-- ---- what is set is got

-- from the same range of the same process, whose memory has all its bytes
abbrev pub MemorySetIsGot : Type 0
MemorySetIsGot = (id : List ℕ) (addr word size mode : ℤ) (bytes : List ℕ) (targets : TargetsValue) (process : ProcessValue) →
    process_named id targets.processes ≡ Some process → length process.memory ≡ 65536 →
    let set = MemSet id addr word size mode bytes in
    (data_effect set targets).answer ≡ Nothing → data_effect (MemGet id addr word size mode) (data_after set targets) ≡ gives (Blob bytes)

-- from a register other than x0 of a thread that has its 32 registers; a byte is below 256
abbrev pub RegisterSetIsGot : Type 0
RegisterSetIsGot = (id bytes : List ℕ) (targets : TargetsValue) (register : RegisterId) (thread : Thread) →
    register_of id ≡ Some register → register.index ≢ 0 → holder_of id targets.processes ≡ Some thread → length thread.cpu.x ≡ 32 → ((i : ℕ) → slice_index bytes i < 256) →
    let set = RegSet id bytes in
    (data_effect set targets).answer ≡ Nothing → data_effect (RegGet id) (data_after set targets) ≡ gives (Blob bytes)
