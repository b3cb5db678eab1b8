-- What the commands of RunControl, Processes and Trace, and ticks, leave is fit.
use Rattle.std.proofs.Common.{◌≡◌, ℕ, zero, suc, ◌+◌, ◌<◌, nat_lt, nat_le, Bool, true, false, cond, List, [], ◌∷◌, length, Option, Some, None, IfSome, option_map, refl, arith}
use Rattle.std.specs.Prelude.{unsigned_abs, unwrap_or}
use Rattle.std.specs.List.{AllByRecursion}
use Rattle.std.specs.Option.{option_map_or, option_or}
use Rattle.std.proofs.lemmas.Bool.{and_parts, ltb-true}
use Rattle.list_laws.proofs.AllLists.{all_map_then}
use Rattle.run_control.specs.Attaching.{attach_after, attached, detach_after, detached, start_fault_for, with_states}
use Rattle.run_control.specs.Commands.{left_of, run_after, run_fault, run_left}
use Rattle.run_control.specs.Ending.{end_after}
use Rattle.run_control.specs.Executing.{hits_at, result_for, settled, step_text, stepped, stepped_at, stepped_by, with_cpu, with_result}
use Rattle.run_control.specs.Naming.{is_empty, process_named}
use Rattle.run_control.specs.Steering.{left_by, resume_after, suspend_after, with_state}
use Rattle.run_control.specs.TargetValue.{TargetValue, target_by, with_contexts}
use Rattle.run_control.specs.Ticking.{counted_in, executed_after, running_pair, tick_after, ticked, ticked_at}
use Rattle.run_control.specs.Tracing.{last_of, next_at, next_by, next_of, run_from, states_of, trace_after, trace_of, traced_at, up_to_hit}
use Rattle.rv32i_core.proofs.TheLaws.{results_stay_within, steps_stay_within}
use Rattle.rv32i_core.specs.Laws.{IsCpu, IsWord, LeavesWhole}
use Rattle.rv32i_core.specs.Machine.{Step, ends, excepts, goes_on, machine, spawns}
use Rattle.target_contexts.specs.Changes.{targets_by, with_change}
use Rattle.target_contexts.specs.Images.{image_of, is_named}
use Rattle.target_contexts.specs.Live.{process_of}
use Rattle.target_contexts.specs.Named.{number_named, thread_named}
use Rattle.target_contexts.specs.Spawning.{can_begin, with_begun}
use Rattle.target_contexts.specs.Starting.{bytes_refusal, new_process, refusal_for, suspended_text, with_started}
use Rattle.target_contexts.specs.TargetsValue.{TargetsValue}
use Rattle.target_contexts.specs.Threads.{in_thread, thread_at, thread_count}
use Rattle.target_contexts.specs.Whole.{IsWhole}
use Rattle.target_contexts.specs.declared.process.Image.{Image}
use Rattle.target_contexts.specs.ProcessValue.{ProcessValue}
use Rattle.target_contexts.specs.declared.process.ThreadState.{ThreadState}
use Rattle.target_contexts.specs.declared.process.ThreadState.TheVariants.{Running, Suspended}
use Rattle.target_contexts.specs.declared.threads.Thread.{Thread}
use Rattle.target_contexts.specs.declared.targets.StartRefusal.{StartRefusal}
use Rattle.target_contexts.specs.declared.targets.StartRefusal.TheVariants.{Full, Numbers}
use Rattle.command_tables.specs.Canonical.{AreBytes}
use Rattle.target_contexts.proofs.TheLaws.{begin_stays_whole, start_is_whole}
use Rattle.target_contexts.proofs.ThreadLists.{each_thread_keeps, found_thread_is}
use Rattle.target_hub.proofs.Fates.{CoversAlone, tick_alone, trace_alone}
use Rattle.target_truth.proofs.Fit.{IsFit, change_fit, end_fit, found_whole, start_fit}
use Rattle.tcf_values.specs.declared.command.Command.{Command}
use Rattle.tcf_values.specs.declared.command.Command.TheVariants.{Resume, Suspend, Terminate, ProcStart, ProcAttach, ProcDetach, ProcTerminate, TraceRun}
use Rattle.tcf_values.specs.declared.faults.Fault.{Fault}
use Rattle.tcf_values.specs.declared.ids.ContextId.{ContextId}
use Rattle.breakpoints.specs.declared.rows.Placed.{Placed}

abbrev HasCpu : Thread → Type 0
HasCpu thread = IsCpu thread.cpu

-- ---- a thread, and what becomes of a process

-- a change of a thread that keeps its processor, or leaves another
pub thread_whole : (change : Thread → Thread) (n : ℕ) (process : ProcessValue) → ((thread : Thread) → IsCpu thread.cpu → IsCpu (change thread).cpu) → IsWhole process
    → IsWhole (in_thread change n process)
thread_whole change n process keeps is = record {
  cpus = each_thread_keeps HasCpu change n process (λ thread there whole. keeps thread whole) is.cpus;
  memory = is.memory;
}

pub cpu_found : (n : ℕ) (process : ProcessValue) (thread : Thread) → thread_at n process ≡ Some thread → IsWhole process → IsCpu thread.cpu
cpu_found n process thread there is = found_thread_is HasCpu n thread process there is.cpus

state_whole : (state : ThreadState) (n : ℕ) (process : ProcessValue) → IsWhole process → IsWhole (in_thread (with_state state) n process)
state_whole state n process is = thread_whole (with_state state) n process (λ thread whole. whole) is

all_whole : (state : ThreadState) (process : ProcessValue) → IsWhole process → AllByRecursion HasCpu (with_states state process).threads
all_whole state process is = all_map_then HasCpu HasCpu (with_state state) process.threads (λ thread whole. whole) is.cpus

pub attached_whole : (process : ProcessValue) → IsWhole process → IsWhole (attached process)
attached_whole process is = record { cpus = all_whole (Suspended suspended_text []) process is; memory = is.memory }

pub detached_whole : (process : ProcessValue) → IsWhole process → IsWhole (detached process)
detached_whole process is = record { cpus = all_whole (Running None) process is; memory = is.memory }

state_fit : (state : ThreadState) (number n : ℕ) (targets : TargetsValue) → IsFit targets → IsFit (with_change (in_thread (with_state state) n) number targets)
state_fit state number n targets fit = change_fit (in_thread (with_state state) n) number targets fit (state_whole state n)

-- whatever becomes of it
fate_covers : (number n : ℕ) (plain : ThreadState) (hits : List (List ℕ)) (target : TargetValue) → IsFit target.contexts → CoversAlone (λ fate. IsFit (settled number n fate target).contexts) plain hits
fate_covers number n plain hits target fit = record {
  plainly = state_fit plain number n target.contexts fit;
  passing = λ on. state_fit plain number n target.contexts fit;
  suspended = λ reason others. state_fit (Suspended reason others) number n target.contexts fit;
  ended = λ code whole. end_fit number target.contexts fit;
}

-- ---- one instruction

-- the number of a thread that begins, or 0, is a word
result_by : (can : Bool) (count : ℕ) → (can ≡ true → count < 8) → IsWord (unwrap_or (cond can (Some (count + 1)) None) 0)
result_by true count few = let less : count < 8 = few refl in omega (arith, less)
result_by false count few = omega arith

result_small : (entry : ℕ) (process : ProcessValue) → IsWord (result_for entry process)
result_small entry process =
    result_by (can_begin entry process) (thread_count process) (λ can. ltb-true (thread_count process) 8 (and_parts (nat_lt (thread_count process) 8) _ can).0)

step_whole : (n : ℕ) (step : Step) (process : ProcessValue) → LeavesWhole step → IsWhole process → IsWhole (stepped_by step n process)
step_whole n (goes_on cpu memory) process step is = record {
  cpus = (thread_whole (with_cpu cpu) n process (λ thread whole. step.0) is).cpus;
  memory = step.1;
}
step_whole n (ends code) process step is = is
step_whole n (spawns entry argument) process step is =
    thread_whole (with_result (result_for entry process)) n (with_begun entry argument process)
    (λ thread whole. results_stay_within (result_for entry process) thread.cpu whole (result_small entry process))
    (begin_stays_whole entry argument process step.0 step.1 is)
step_whole n excepts process step is = is

stepped_by_whole : (n : ℕ) (process : ProcessValue) (found : Option Thread) → thread_at n process ≡ found → IsWhole process → IsWhole (stepped_at n found process)
stepped_by_whole n process None there is = is
stepped_by_whole n process (Some thread) there is =
    step_whole n (machine thread.cpu process.memory) process (steps_stay_within thread.cpu process.memory (cpu_found n process thread there is) is.memory) is

pub one_whole : (n : ℕ) (process : ProcessValue) → IsWhole process → IsWhole (stepped n process)
one_whole n process is = stepped_by_whole n process (thread_at n process) refl is

ticked_fit : (number n : ℕ) (found : Option ProcessValue) (target : TargetValue) → IsFit target.contexts → IsFit (ticked_at number n found target).contexts
ticked_fit number n None target fit = fit
ticked_fit number n (Some process) target fit =
    let after : TargetValue = executed_after number n process target in
    tick_alone (λ fate. IsFit (settled number n fate after).contexts) target.breakpoints number n process
    (fate_covers number n (counted_in (thread_at n process)) (hits_at target.breakpoints number n (stepped n process)) after (change_fit (stepped n) number target.contexts fit (one_whole n)))

tick_by : (named : Option (ℕ × ℕ)) (target : TargetValue) → IsFit target.contexts → IsFit (option_map_or (λ pair. ticked pair.0 pair.1 target) named target).contexts
tick_by None target fit = fit
tick_by (Some pair) target fit = ticked_fit pair.0 pair.1 (process_of pair.0 target.contexts.processes) target fit

pub tick_fit : (thread : ContextId) (target : TargetValue) → IsFit target.contexts → IsFit (tick_after thread target).contexts
tick_fit thread target fit = tick_by (running_pair thread target.contexts.processes) target fit

-- ---- several

-- where the machine goes on, the next state is the one after the instruction
pub next_is : (P : ProcessValue → Type 0) (n : ℕ) (process : ProcessValue) → P (stepped n process) → IfSome (next_of n process) P
next_is P n process is = by (thread_at n process)
  where
    by_step : (step : Step) → IfSome (next_by step (stepped n process)) P
    by_step (goes_on cpu memory) = is
    by_step (ends code) = tt
    by_step (spawns entry argument) = is
    by_step excepts = tt

    by : (found : Option Thread) → IfSome (next_at n found process) P
    by None = is
    by (Some thread) = by_step (machine thread.cpu process.memory)

run_by : (next : Option ProcessValue) (run : ProcessValue → List ProcessValue) → IfSome next IsWhole → ((process : ProcessValue) → IsWhole process → AllByRecursion IsWhole (run process))
    → AllByRecursion IsWhole (option_map_or (λ process. process ∷ run process) next [])
run_by None run is all = tt
run_by (Some process) run is all = (is, all process is)

run_whole : (n count : ℕ) (process : ProcessValue) → IsWhole process → AllByRecursion IsWhole (run_from n count process)
run_whole n zero process is = tt
run_whole n (suc count) process is = run_by (next_of n process) (run_from n count) (next_is IsWhole n process (one_whole n process is)) (run_whole n count)

hit_by : (goes : Bool) (states : List ProcessValue) → AllByRecursion IsWhole states → AllByRecursion IsWhole (cond goes states [])
hit_by true states all = all
hit_by false states all = tt

hit_whole : (bps : List Placed) (number n : ℕ) (states : List ProcessValue) → AllByRecursion IsWhole states → AllByRecursion IsWhole (up_to_hit bps number n states)
hit_whole bps number n [] all = tt
hit_whole bps number n (state ∷ states) all = (all.0, hit_by (is_empty (hits_at bps number n state)) (up_to_hit bps number n states) (hit_whole bps number n states all.1))

last_whole : (process : ProcessValue) (states : List ProcessValue) → IsWhole process → AllByRecursion IsWhole states → IsWhole (last_of process states)
last_whole process [] is all = is
last_whole process (state ∷ states) is all = last_whole state states all.0 all.1

traced_fit : (number n count : ℕ) (found : Option ProcessValue) (target : TargetValue) → IsFit target.contexts → ((process : ProcessValue) → found ≡ Some process → IsWhole process)
    → IsFit (traced_at number n count found target).contexts
traced_fit number n count None target fit whole = fit
traced_fit number n count (Some process) target fit whole =
    let bps : List Placed = target.breakpoints in
    let trace = trace_of bps number n count process in
    let is : IsWhole trace.process = last_whole process (states_of bps number n count process) (whole process refl) (hit_whole bps number n (run_from n count process) (run_whole n count process (whole process refl))) in
    let after : TargetValue = with_contexts (with_change (λ _. trace.process) number) target in
    trace_alone (λ fate. IsFit (settled number n fate after).contexts) bps number n count process
    (fate_covers number n (Suspended step_text []) [] after (change_fit (λ _. trace.process) number target.contexts fit (λ _ _. is)))

trace_fit : (count number n : ℕ) (target : TargetValue) → IsFit target.contexts → IsFit (trace_after count number n target).contexts
trace_fit count number n target fit =
    traced_fit number n count (process_of number target.contexts.processes) target fit (λ process is. found_whole number target.contexts.processes process fit.processes is)

-- ---- a start

image_by : (is_it : Bool) (image : Image) (others : Option Image) → AreBytes image.bytes → IfSome others (λ found. AreBytes found.bytes)
    → IfSome (cond is_it (Some image) others) (λ found. AreBytes found.bytes)
image_by true image others are also = are
image_by false image others are also = also

pub found_image : (file : List ℕ) (images : List Image) → AllByRecursion (λ image. AreBytes image.bytes) images → IfSome (image_of file images) (λ image. AreBytes image.bytes)
found_image file [] all = tt
found_image file (image ∷ images) all = image_by (is_named file image) image (image_of file images) all.0 (found_image file images all.1)

bytes_by : (full : Bool) (refused : Option StartRefusal) (last : Bool) → option_map start_fault_for (cond full (Some Full) (option_or refused (cond last (Some Numbers) None))) ≡ None → refused ≡ None
bytes_by true refused last none = absurd cc
bytes_by false (Some refusal) last none = absurd cc
bytes_by false None last none = refl

started_fit : (attach : Bool) (targets : TargetsValue) (found : Option Image) → IsFit targets → IfSome found (λ image. AreBytes image.bytes)
    → option_map start_fault_for (refusal_for found (length targets.processes) targets.next) ≡ None → IsFit (with_started attach targets found)
started_fit attach targets None fit are none = fit
started_fit attach targets (Some image) fit are none =
    let free = bytes_by (nat_le 64 (length targets.processes)) (bytes_refusal image.bytes) (nat_lt 4294967295 targets.next) none in
    start_fit targets (new_process attach image) (targets.next + 1) fit (start_is_whole attach image are free)

-- ---- each command

left_fit : {A : Type 0} (change : A → TargetsValue → TargetsValue) (named : Option A) (targets : TargetsValue) → IsFit targets → ((one : A) → IsFit (change one targets)) → IsFit (left_of change named targets)
left_fit change None targets fit keeps = fit
left_fit change (Some one) targets fit keeps = keeps one

left_target : {A : Type 0} (change : A → TargetValue → TargetValue) (named : Option A) (target : TargetValue) → IsFit target.contexts → ((one : A) → IsFit (change one target).contexts)
    → IsFit (left_of change named target).contexts
left_target change None target fit keeps = fit
left_target change (Some one) target fit keeps = keeps one

run_left_fit : (command : Command) (target : TargetValue) → IsFit target.contexts → run_fault command target.contexts ≡ None → IsFit (run_left command target).contexts
run_left_fit (Resume id mode count) target fit none =
    let targets : TargetsValue = target.contexts in
    left_fit (λ pair. resume_after (left_by mode count) pair.0 pair.1) (thread_named id) targets fit (λ pair. state_fit (Running (left_by mode count)) pair.0 pair.1 targets fit)
run_left_fit (Suspend id) target fit none =
    let targets : TargetsValue = target.contexts in
    left_fit (λ pair. suspend_after pair.0 pair.1) (thread_named id) targets fit (λ pair. state_fit (Suspended suspended_text []) pair.0 pair.1 targets fit)
run_left_fit (Terminate id) target fit none = left_target end_after (number_named id) target fit (λ number. end_fit number target.contexts fit)
run_left_fit (ProcStart directory file args environment attach) target fit none =
    let targets : TargetsValue = target.contexts in
    started_fit attach targets (image_of file targets.images) fit (found_image file targets.images fit.images) none
run_left_fit (ProcAttach id) target fit none = left_target attach_after (process_named id) target fit (λ number. change_fit attached number target.contexts fit attached_whole)
run_left_fit (ProcDetach id) target fit none = left_target detach_after (process_named id) target fit (λ number. change_fit detached number target.contexts fit detached_whole)
run_left_fit (ProcTerminate id) target fit none = left_target end_after (process_named id) target fit (λ number. end_fit number target.contexts fit)
run_left_fit (TraceRun id count) target fit none =
    left_target (λ pair. trace_after (unsigned_abs count) pair.0 pair.1) (thread_named id) target fit (λ pair. trace_fit (unsigned_abs count) pair.0 pair.1 target fit)
run_left_fit _ target fit none = fit

pub fault_fit : (fault : Option Fault) (left targets : TargetsValue) → IsFit targets → (fault ≡ None → IsFit left) → IsFit (targets_by fault left targets)
fault_fit None left targets fit keeps = keeps refl
fault_fit (Some fault) left targets fit keeps = fit

fault_target : (fault : Option Fault) (left target : TargetValue) → IsFit target.contexts → (fault ≡ None → IsFit left.contexts) → IsFit (target_by fault left target).contexts
fault_target None left target fit keeps = keeps refl
fault_target (Some fault) left target fit keeps = fit

pub run_fit : (command : Command) (target : TargetValue) → IsFit target.contexts → IsFit (run_after command target).contexts
run_fit command target fit = fault_target (run_fault command target.contexts) (run_left command target) target fit (run_left_fit command target fit)
