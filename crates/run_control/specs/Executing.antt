-- One instruction of a thread, and what becomes of its process by it (RISC-V unprivileged manual, exceptions and
-- environment calls; TCF services RunControl, contextSuspended, and Processes, exited).
use Rattle.std.specs.Prelude.{ℕ, ℤ, pos, neg_ℤ, Bool, if◌then◌else◌, List, [], ◌∷◌, ◌++◌, codes, Option, Some, None, unwrap_or}
use Rattle.tcf_values.specs.declared.event.EventData.{EventData}
use Rattle.breakpoints.specs.declared.rows.Placed.{Placed}
use Rattle.rv32i_core.specs.Machine.{Step, goes_on, ends, excepts, machine, spawns}
use Rattle.rv32i_core.specs.Registers.{answered}
use Rattle.rv32i_core.specs.declared.registers.Cpu.{Cpu}
use Rattle.breakpoints.specs.Status.{hits_of}
use Rattle.target_contexts.specs.Live.{process_of}
use Rattle.target_contexts.specs.ProcessValue.{ProcessValue}
use Rattle.target_contexts.specs.Named.{runs}
use Rattle.target_contexts.specs.Spawning.{begun_number, with_begun}
use Rattle.target_contexts.specs.Threads.{in_thread, thread_at, thread_of}
use Rattle.target_contexts.specs.declared.process.ThreadState.{ThreadState}
use Rattle.target_contexts.specs.declared.process.ThreadState.TheVariants.{Suspended}
use Rattle.target_contexts.specs.declared.threads.Thread.{Thread}
use Rattle.run_control.specs.Ending.{end_after, end_events}
use Rattle.run_control.specs.Steering.{state_after}
use Rattle.run_control.specs.TargetValue.{TargetValue, with_contexts}
use Rattle.run_control.specs.Telling.{hit_events, made_events, suspended_events}
use Rattle.run_control.specs.declared.executing.Executed.{Executed}
use Rattle.run_control.specs.declared.executing.Executed.TheVariants.{Plain, Hit, Exit, Exception}
use Rattle.run_control.specs.declared.executing.Fate.{Fate}
use Rattle.run_control.specs.declared.executing.Fate.TheVariants.{Ends, Lives}

-- ---- one instruction

-- the number of the thread that is asked for, or 0 where none can begin, is the result of the call
abbrev pub result_for : ℕ → ProcessValue → ℕ
result_for entry process = unwrap_or (begun_number entry process) 0

abbrev pub with_result : ℕ → Thread → Thread
with_result number thread = record thread { cpu = answered number thread.cpu }

-- the thread that is asked for begins, where it can
abbrev pub spawned : ℕ → ℕ → ℕ → ProcessValue → ProcessValue
spawned n entry argument process = in_thread (with_result (result_for entry process)) n (with_begun entry argument process)

abbrev pub with_cpu : Cpu → Thread → Thread
with_cpu cpu thread = record thread { cpu = cpu }

-- the process after an instruction of its thread n; an exit and an exception change nothing
abbrev pub stepped_by : Step → ℕ → ProcessValue → ProcessValue
stepped_by (goes_on cpu memory) n process = record (in_thread (with_cpu cpu) n process) { memory = memory }
stepped_by (ends code) n process = process
stepped_by (spawns entry argument) n process = spawned n entry argument process
stepped_by excepts n process = process

-- a thread that isn't there executes nothing
abbrev pub stepped_at : ℕ → Option Thread → ProcessValue → ProcessValue
stepped_at n None process = process
stepped_at n (Some thread) process = stepped_by (machine thread.cpu process.memory) n process

abbrev pub stepped : ℕ → ProcessValue → ProcessValue
stepped n process = stepped_at n (thread_at n process) process

-- what comes of it: an exit, an exception, or nothing more
abbrev pub halt_by : Step → Executed
halt_by (goes_on cpu memory) = Plain
halt_by (ends code) = Exit code
halt_by (spawns entry argument) = Plain
halt_by excepts = Exception

abbrev pub halt_at : Option Thread → ProcessValue → Executed
halt_at None process = Plain
halt_at (Some thread) process = halt_by (machine thread.cpu process.memory)

abbrev pub halt_of : ℕ → ProcessValue → Executed
halt_of n process = halt_at (thread_at n process) process

-- where a thread stands
abbrev pub pc_in : Option Thread → ℕ
pc_in None = 0
pc_in (Some thread) = thread.cpu.pc

abbrev pub pc_at : ℕ → ProcessValue → ℕ
pc_at n process = pc_in (thread_at n process)

-- the breakpoints that it hits there
abbrev pub hits_in : List Placed → ℕ → Bool → Option Thread → List (List ℕ)
hits_in bps number attached None = []
hits_in bps number attached (Some thread) = hits_of number attached thread.cpu.pc bps

abbrev pub hits_at : List Placed → ℕ → ℕ → ProcessValue → List (List ℕ)
hits_at bps number n process = hits_in bps number process.attached (thread_at n process)

abbrev pub executed_with : List (List ℕ) → Executed
executed_with [] = Plain
executed_with (hit ∷ hits) = Hit (hit ∷ hits)

-- an executed instruction is followed by the test for breakpoints at the new pc, which has these hits
abbrev pub executed_by : List (List ℕ) → Step → Executed
executed_by hits (goes_on cpu memory) = executed_with hits
executed_by hits (ends code) = Exit code
executed_by hits (spawns entry argument) = executed_with hits
executed_by hits excepts = Exception

-- the instruction at the pc of a thread
abbrev pub executed_at : List (List ℕ) → Option Thread → ProcessValue → Executed
executed_at hits None process = Plain
executed_at hits (Some thread) process = executed_by hits (machine thread.cpu process.memory)

abbrev pub executed_of : List Placed → ℕ → ℕ → ProcessValue → Executed
executed_of bps number n process = executed_at (hits_at bps number n (stepped n process)) (thread_at n process) process

-- ---- what becomes of the process

unfoldable pub step_text : List ℕ
step_text = codes "Step"

unfoldable pub breakpoint_text : List ℕ
breakpoint_text = codes "Breakpoint"

unfoldable pub exception_text : List ℕ
exception_text = codes "Exception"

-- the code of a process that an exception ends
abbrev pub exception_code : ℤ
exception_code = neg_ℤ (pos 2)

-- the process lives on: its thread has this state, and hits the breakpoints of these IDs
abbrev pub lives : ThreadState → List (List ℕ) → Fate
lives state hits = Lives state hits

-- a hit suspends the thread, and so does an exception where the process is attached; else the exception ends it.
-- Where nothing of this comes, the thread has the plain state
abbrev pub fate_by : ThreadState → Bool → Executed → Fate
fate_by plain attached Plain = lives plain []
fate_by plain attached (Hit hits) = lives (Suspended breakpoint_text hits) hits
fate_by plain attached (Exit code) = Ends code
fate_by plain attached Exception = if attached then lives (Suspended exception_text []) [] else Ends exception_code

abbrev pub settled : ℕ → ℕ → Fate → TargetValue → TargetValue
settled number n (Ends code) target = end_after number target
settled number n (Lives state hits) target = with_contexts (state_after state number n) target

-- told of the target after it, where the process had so many threads before: the end, or contextAdded of the threads that
-- were made, where there is one, contextSuspended where the thread is suspended now, and what the breakpoints that are hit
-- come to
abbrev pub settled_events : ℕ → ℕ → ℕ → Fate → TargetValue → List EventData
settled_events number n before (Ends code) target = end_events number before code target
settled_events number n before (Lives state hits) target =
    (made_events number before (process_of number target.contexts.processes)
    ++ suspended_events number n (thread_of number n target.contexts.processes))
    ++ hit_events (runs state) hits target
