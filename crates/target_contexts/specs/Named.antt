-- What an ID names among the live processes (TCF services RunControl, Memory and Registers, where the agent chooses
-- IDs), and what is asked of a live process.
use Rattle.std.specs.Prelude.{ℕ, Bool, true, false, not, List, [], filter, length, map, Option, Some, None, option_and_then, option_map}
use Rattle.std.specs.List.{flat_map, list_any}
use Rattle.tcf_values.specs.Ids.{context_of}
use Rattle.tcf_values.specs.declared.ids.ContextId.{ContextId}
use Rattle.tcf_values.specs.declared.ids.ContextId.TheVariants as ids
use Rattle.target_contexts.specs.Live.{numbers_of, process_of}
use Rattle.target_contexts.specs.ProcessValue.{ProcessValue}
use Rattle.target_contexts.specs.ThreadList.{numbered}
use Rattle.target_contexts.specs.Threads.{holding, numbers_to, thread_numbers, thread_of}
use Rattle.target_contexts.specs.declared.process.ThreadState.{ThreadState}
use Rattle.target_contexts.specs.declared.process.ThreadState.TheVariants.{Running, Suspended}
use Rattle.target_contexts.specs.declared.threads.Thread.{Thread}

-- the process of a thread, and the thread's number in it
abbrev pub thread_for : ContextId → Option (ℕ × ℕ)
thread_for (ids.Process number) = None
thread_for (ids.Thread number n) = Some (number, n)

-- the process that an ID stands for: a thread's stands for its process
abbrev pub number_for : ContextId → ℕ
number_for (ids.Process number) = number
number_for (ids.Thread number n) = number

-- the number of a process that a text stands for, and the thread that it names, whether they live or not
abbrev pub number_named : List ℕ → Option ℕ
number_named id = option_map number_for (context_of id)

abbrev pub thread_named : List ℕ → Option (ℕ × ℕ)
thread_named id = option_and_then thread_for (context_of id)

-- the live process of a number, where there is a number
abbrev pub process_at_number : Option ℕ → List (ℕ × ProcessValue) → Option ProcessValue
process_at_number number rows = option_and_then (λ n. process_of n rows) number

-- the live process that an ID stands for; a thread's ID stands for it where it has that thread
abbrev pub holder_for : ContextId → List (ℕ × ProcessValue) → Option ProcessValue
holder_for (ids.Process number) rows = process_of number rows
holder_for (ids.Thread number n) rows = holding n (process_of number rows)

-- the live process that a text stands for
abbrev pub holder_named : List ℕ → List (ℕ × ProcessValue) → Option ProcessValue
holder_named id rows = option_and_then (λ context. holder_for context rows) (context_of id)

-- the thread of a live process, where one is named
abbrev pub thread_at_pair : Option (ℕ × ℕ) → List (ℕ × ProcessValue) → Option Thread
thread_at_pair named rows = option_and_then (λ pair. thread_of pair.0 pair.1 rows) named

-- the thread runs
abbrev pub runs : ThreadState → Bool
runs (Running left) = true
runs (Suspended reason hits) = false

-- ---- a thread of a live process, and a live process, where it is there

abbrev pub is_running : Option Thread → Bool
is_running None = false
is_running (Some thread) = runs thread.state

abbrev pub is_suspended : Option Thread → Bool
is_suspended None = false
is_suspended (Some thread) = not (runs thread.state)

-- the numbers of the threads that don't run, in order
abbrev pub stood_in : List Thread → List ℕ
stood_in threads = filter (λ n. is_suspended (numbered n threads)) (numbers_to (length threads))

abbrev pub stood_numbers : Option ProcessValue → List ℕ
stood_numbers None = []
stood_numbers (Some process) = stood_in process.threads

abbrev pub is_attached : Option ProcessValue → Bool
is_attached None = false
is_attached (Some process) = process.attached

abbrev pub is_unattached : Option ProcessValue → Bool
is_unattached None = false
is_unattached (Some process) = not process.attached

-- all threads, in the order of the processes and then of their numbers
abbrev pub threads_in : List (ℕ × ProcessValue) → List ContextId
threads_in rows = flat_map (λ row. map (ids.Thread row.0) (thread_numbers row.1)) rows

-- those that run, in this order
abbrev pub running_threads : List (ℕ × ProcessValue) → List ContextId
running_threads rows = filter (λ id. is_running (thread_at_pair (thread_for id) rows)) (threads_in rows)

-- the same by the rows, each of which has its process beside its number
abbrev pub running_row : ℕ → List Thread → List ContextId
running_row number threads =
    map (ids.Thread number) (filter (λ n. is_running (numbered n threads)) (numbers_to (length threads)))

abbrev pub running_rows : List (ℕ × ProcessValue) → List ContextId
running_rows rows = flat_map (λ row. running_row row.0 row.1.threads) rows

-- a thread of a process runs
abbrev pub some_runs : List Thread → Bool
some_runs threads = list_any (λ thread. runs thread.state) threads

-- a thread of one of the processes runs
abbrev pub has_running : List (ℕ × ProcessValue) → Bool
has_running rows = list_any (λ row. some_runs row.1.threads) rows

-- the numbers of the attached processes, in order
abbrev pub attached_in : List (ℕ × ProcessValue) → List ℕ
attached_in rows = filter (λ number. is_attached (process_of number rows)) (numbers_of rows)
