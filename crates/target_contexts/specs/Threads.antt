-- The threads of a process, by their numbers.
use Rattle.std.specs.Prelude.{ℕ, Bool, List, length, Option, Some, None, is_some, if◌then◌else◌, option_and_then}
use Rattle.std.specs.List.{range_with_len}
use Rattle.target_contexts.specs.Live.{process_of}
use Rattle.target_contexts.specs.ProcessValue.{ProcessValue}
use Rattle.target_contexts.specs.ThreadList.{changed_numbered, numbered, with_numbered}
use Rattle.target_contexts.specs.declared.threads.Thread.{Thread}

-- ---- in a process

abbrev pub thread_at : ℕ → ProcessValue → Option Thread
thread_at n process = numbered n process.threads

abbrev pub has_thread : ℕ → ProcessValue → Bool
has_thread n process = is_some (thread_at n process)

-- so many numbers, from 1 on
abbrev pub numbers_to : ℕ → List ℕ
numbers_to count = range_with_len 1 count

abbrev pub thread_count : ProcessValue → ℕ
thread_count process = length process.threads

-- how many threads a process has, where it is there
abbrev pub count_in : Option ProcessValue → ℕ
count_in None = 0
count_in (Some process) = thread_count process

-- in order
abbrev pub thread_numbers : ProcessValue → List ℕ
thread_numbers process = numbers_to (thread_count process)

-- the thread of this number is now this one; the others and all numbers stay
abbrev pub with_thread : ℕ → Thread → ProcessValue → ProcessValue
with_thread n thread process = record process { threads = with_numbered n thread process.threads }

-- the thread of this number is changed; where there is none, nothing is
abbrev pub in_thread : (Thread → Thread) → ℕ → ProcessValue → ProcessValue
in_thread change n process = record process { threads = changed_numbered change n process.threads }

-- ---- among the live processes

-- the process, where it has a thread of this number
abbrev pub holding : ℕ → Option ProcessValue → Option ProcessValue
holding n None = None
holding n (Some process) = if has_thread n process then Some process else None

-- the thread n of a live process
abbrev pub thread_of : ℕ → ℕ → List (ℕ × ProcessValue) → Option Thread
thread_of number n rows = option_and_then (thread_at n) (process_of number rows)
