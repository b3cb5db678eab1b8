-- A thread more in a process.
use Rattle.std.specs.Prelude.{ℕ, ◌+◌, ◌%◌, ◌==◌, nat_lt, Bool, ◌&&◌, if◌then◌else◌, List, [], ◌∷◌, ◌++◌, Option, Some, None, option_and_then}
use Rattle.rv32i_core.specs.Registers.{begun}
use Rattle.target_contexts.specs.Live.{process_of}
use Rattle.target_contexts.specs.ProcessValue.{ProcessValue}
use Rattle.target_contexts.specs.Threads.{thread_count}
use Rattle.target_contexts.specs.declared.process.ThreadState.TheVariants.{Running}
use Rattle.target_contexts.specs.declared.threads.Thread.{Thread}

-- the process has fewer than 8 threads, and the address is a multiple of 4
abbrev pub can_begin : ℕ → ProcessValue → Bool
can_begin pc process = nat_lt (thread_count process) 8 && (pc % 4 == 0)

-- it runs, without a count, from the address on, with the argument in x10; all other registers are 0
abbrev pub begun_thread : ℕ → ℕ → Thread
begun_thread pc argument = record { state = Running None; cpu = begun pc argument }

-- the number of the thread, where it can begin
abbrev pub begun_number : ℕ → ProcessValue → Option ℕ
begun_number pc process = if can_begin pc process then Some (thread_count process + 1) else None

-- the thread stands last, where it can begin
abbrev pub with_begun : ℕ → ℕ → ProcessValue → ProcessValue
with_begun pc argument process =
    if can_begin pc process then record process { threads = process.threads ++ begun_thread pc argument ∷ [] } else process

-- the number of the thread that begins in a live process
abbrev pub added_number : ℕ → ℕ → List (ℕ × ProcessValue) → Option ℕ
added_number number pc rows = option_and_then (begun_number pc) (process_of number rows)
