-- Resume and suspend (TCF service RunControl): their checks, what they leave and what they tell.
use Rattle.std.specs.Prelude.{ℕ, ℤ, pos, int_lt, unsigned_abs, Bool, not, ◌&&◌, ◌||◌, if◌then◌else◌, List, [], ◌∷◌, Option, Some, None, is_none}
use Rattle.std.specs.Ordering.{int_eq}
use Rattle.tcf_values.specs.Faults.{first_fault}
use Rattle.tcf_values.specs.declared.event.EventData.{EventData}
use Rattle.tcf_values.specs.declared.faults.Fault.{Fault}
use Rattle.tcf_values.specs.declared.faults.Fault.TheVariants.{Other, AlreadyStopped, AlreadyRunning, BadContext, BadNumber, Unsupported}
use Rattle.target_contexts.specs.Changes.{with_change}
use Rattle.target_contexts.specs.Named.{is_running, is_suspended, is_unattached, number_named, process_at_number, thread_at_pair, thread_named}
use Rattle.target_contexts.specs.Starting.{suspended_text}
use Rattle.target_contexts.specs.TargetsValue.{TargetsValue}
use Rattle.target_contexts.specs.ProcessValue.{ProcessValue}
use Rattle.target_contexts.specs.Threads.{in_thread, thread_of}
use Rattle.target_contexts.specs.declared.process.ThreadState.{ThreadState}
use Rattle.target_contexts.specs.declared.process.ThreadState.TheVariants.{Running, Suspended}
use Rattle.target_contexts.specs.declared.threads.Thread.{Thread}
use Rattle.run_control.specs.Telling.{suspended_events}

-- the thread of a live process that a text names, and the live process of its number
abbrev pub thread_there : List ℕ → List (ℕ × ProcessValue) → Option Thread
thread_there id rows = thread_at_pair (thread_named id) rows

abbrev pub owner_there : List ℕ → List (ℕ × ProcessValue) → Option ProcessValue
owner_there id rows = process_at_number (number_named id) rows

abbrev pub with_state : ThreadState → Thread → Thread
with_state state thread = record thread { state = state }

-- a thread of a live process has another state
abbrev pub state_after : ThreadState → ℕ → ℕ → TargetsValue → TargetsValue
state_after state number n targets = with_change (in_thread (with_state state) n) number targets

-- ---- resume: mode 0 goes on, and mode 2 steps so many instructions

abbrev pub is_step : ℤ → Bool
is_step mode = int_eq mode (pos 2)

abbrev pub is_no_mode : ℤ → Bool
is_no_mode mode = not (int_eq mode (pos 0)) && not (is_step mode)

-- how many instructions there can be at most: mode 0 takes the count 1
abbrev pub most_steps : ℤ → ℤ
most_steps mode = if is_step mode then pos 64 else pos 1

abbrev pub is_no_count : ℤ → ℤ → Bool
is_no_count most count = int_lt count (pos 1) || int_lt most count

abbrev pub resume_fault : List ℕ → ℤ → ℤ → List (ℕ × ProcessValue) → Option Fault
resume_fault id mode count rows = first_fault (
    (is_none (thread_there id rows), BadContext)
    ∷ (is_no_mode mode, Unsupported)
    ∷ (is_no_count (most_steps mode) count, BadNumber)
    ∷ (is_running (thread_there id rows), AlreadyRunning)
    ∷ [])

-- how many instructions are left to execute, where they are counted
abbrev pub left_by : ℤ → ℤ → Option ℕ
left_by mode count = if is_step mode then Some (unsigned_abs count) else None

abbrev pub resume_after : Option ℕ → ℕ → ℕ → TargetsValue → TargetsValue
resume_after left number n targets = state_after (Running left) number n targets

-- ---- suspend

abbrev pub suspend_fault : List ℕ → List (ℕ × ProcessValue) → Option Fault
suspend_fault id rows = first_fault (
    (is_none (thread_there id rows), BadContext)
    ∷ (is_suspended (thread_there id rows), AlreadyStopped)
    ∷ (is_unattached (owner_there id rows), Other)
    ∷ [])

abbrev pub suspend_after : ℕ → ℕ → TargetsValue → TargetsValue
suspend_after number n targets = state_after (Suspended suspended_text []) number n targets

-- told of the target after it
abbrev pub suspend_events : ℕ → ℕ → TargetsValue → List EventData
suspend_events number n targets = suspended_events number n (thread_of number n targets.processes)
