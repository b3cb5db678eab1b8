-- The threads of the processes stay few, and names, reasons and hits short, through each command and each tick.
use Rattle.std.proofs.Common.{◌≡◌, ◌≤◌, ◌+◌, ◌-◌, ◌==◌, ℕ, zero, suc, ℤ, Bool, true, false, cond, List, [], ◌∷◌, filter, length, map, Option, Some, None, IfSome, refl, arith, lit≤}
use Rattle.std.specs.List.{AllByRecursion}
use Rattle.std.specs.Option.{option_map_or}
use Rattle.std.specs.Prelude.{unsigned_abs}
use Rattle.std.proofs.lemmas.List.{length-map}
use Rattle.tcf_values.specs.declared.command.Command.{Command}
use Rattle.tcf_values.specs.declared.command.Command.TheVariants.{Resume, Suspend, Terminate, ProcStart, ProcAttach, ProcDetach, ProcTerminate, TraceRun}
use Rattle.breakpoints.specs.declared.rows.Placed.{Placed}
use Rattle.rv32i_core.specs.Machine.{Step, goes_on, ends, excepts, machine, spawns}
use Rattle.breakpoints.specs.Rows.{ids_of}
use Rattle.breakpoints.specs.Status.{hits_of, is_hit}
use Rattle.target_contexts.specs.Changes.{with_change}
use Rattle.target_contexts.specs.Live.{process_of}
use Rattle.target_contexts.specs.Named.{number_named, thread_named}
use Rattle.target_contexts.specs.Short.{AllShort, AreShort, AreShortThreads, IsShort, IsShortState}
use Rattle.target_contexts.specs.Starting.{suspended_text}
use Rattle.target_contexts.specs.TargetsValue.{TargetsValue}
use Rattle.target_contexts.specs.ProcessValue.{ProcessValue}
use Rattle.target_contexts.specs.Spawning.{with_begun}
use Rattle.target_contexts.specs.Threads.{in_thread, thread_at}
use Rattle.target_contexts.specs.declared.threads.Thread.{Thread}
use Rattle.target_contexts.specs.declared.process.ThreadState.{ThreadState}
use Rattle.target_contexts.specs.declared.process.ThreadState.TheVariants.{Running, Suspended}
use Rattle.run_control.specs.Attaching.{attach_after, attached, detach_after, detached, with_states}
use Rattle.run_control.specs.Commands.{run_fault, run_left}
use Rattle.run_control.specs.Ending.{end_after}
use Rattle.run_control.specs.Executing.{breakpoint_text, exception_text, fate_by, halt_at, halt_by, halt_of, hits_at, hits_in, result_for, settled, step_text, stepped, stepped_at, stepped_by, with_cpu, with_result}
use Rattle.run_control.specs.Naming.{process_named}
use Rattle.run_control.specs.Short.{CommandsKeepShort, TicksKeepShort}
use Rattle.run_control.specs.Steering.{left_by, resume_after, suspend_after, with_state}
use Rattle.run_control.specs.TargetValue.{TargetValue, with_contexts}
use Rattle.run_control.specs.Ticking.{counted, counted_by, counted_in, executed_after, hit_state, is_stopped, running_pair, tick_fate, tick_fate_by, ticked, ticked_at, with_hits}
use Rattle.run_control.specs.Tracing.{Trace, last_hits, last_of, next_at, next_by, next_of, run_from, states_of, stop_by, trace_after, trace_fate, trace_of, traced_at, up_to_hit}
use Rattle.run_control.specs.declared.executing.Executed.{Executed}
use Rattle.run_control.specs.declared.executing.Executed.TheVariants.{Plain, Hit, Exit, Exception}
use Rattle.run_control.specs.declared.executing.Fate.{Fate}
use Rattle.run_control.specs.declared.executing.Fate.TheVariants.{Ends, Lives}
use Rattle.run_control.proofs.Left.{by_keeps, left_keeps}
use Rattle.target_contexts.proofs.TheLaws.{begin_stays_short, change_stays_short, end_stays_short, found_is_short, start_stays_short, thread_stays_short}
use Rattle.target_contexts.proofs.ThreadLists.{found_thread_is}
use Rattle.list_laws.proofs.AllLists.{all_map}

-- ---- what a thread hits

pub fewer : {A : Type 0} (test : Bool) (x : A) (xs : List A) (most : ℕ) → length xs ≤ most → length (cond test (x ∷ xs) xs) ≤ most + 1
fewer true x xs most few = omega arith
fewer false x xs most few = omega arith

pub filter_fewer : {A : Type 0} (p : A → Bool) (xs : List A) → length (filter p xs) ≤ length xs
filter_fewer p [] = omega arith
filter_fewer p (x ∷ xs) = omega (arith, fewer (p x) x (filter p xs) (length xs) (filter_fewer p xs))

ids_fewer : (rows : List Placed) → length (ids_of rows) ≡ length rows
ids_fewer [] = refl
ids_fewer (row ∷ rows) = omega (arith, ids_fewer rows)

abbrev AreIds : List (List ℕ) → Type 0
AreIds ids = AllByRecursion (λ text. length text ≤ 255) ids

either_ids : (test : Bool) (row : Placed) (rows : List Placed) → length row.props.id ≤ 255 → AreIds (ids_of rows) → AreIds (ids_of (cond test (row ∷ rows) rows))
either_ids true row rows short all = (short, all)
either_ids false row rows short all = all

filter_ids : (p : Placed → Bool) (rows : List Placed) → AreIds (ids_of rows) → AreIds (ids_of (filter p rows))
filter_ids p [] all = tt
filter_ids p (row ∷ rows) all = either_ids (p row) row (filter p rows) all.0 (filter_ids p rows all.1)

if_short : (test : Bool) (hits : List (List ℕ)) → AreShort hits → AreShort (cond test hits [])
if_short true hits short = short
if_short false hits short = (lit≤ tt, tt)

hits_short : (number : ℕ) (attached : Bool) (pc : ℕ) (bps : List Placed) → AreShort (ids_of bps) → AreShort (hits_of number attached pc bps)
hits_short number attached pc bps ids =
    let hit = λ (row : Placed). is_hit number pc row.props in
    if_short attached (ids_of (filter hit bps))
    (omega (arith, ids.0, ids_fewer bps, ids_fewer (filter hit bps), filter_fewer hit bps), filter_ids hit bps ids.1)

in_short : (bps : List Placed) (number : ℕ) (attached : Bool) (found : Option Thread) → AreShort (ids_of bps) → AreShort (hits_in bps number attached found)
in_short bps number attached None ids = (lit≤ tt, tt)
in_short bps number attached (Some thread) ids = hits_short number attached thread.cpu.pc bps ids

at_short : (bps : List Placed) (number n : ℕ) (process : ProcessValue) → AreShort (ids_of bps) → AreShort (hits_at bps number n process)
at_short bps number n process ids = in_short bps number process.attached (thread_at n process) ids

-- ---- what becomes of a process

abbrev IsShortFate : Fate → Type 0
IsShortFate (Ends code) = Unit {0}
IsShortFate (Lives state hits) = IsShortState state

abbrev IsShortEnd : Executed → Type 0
IsShortEnd Plain = Unit {0}
IsShortEnd (Hit hits) = AreShort hits
IsShortEnd (Exit code) = Unit {0}
IsShortEnd Exception = Unit {0}

step_short : IsShortState (Suspended step_text [])
unfolding step_text
step_short = (lit≤ tt, (lit≤ tt, tt))

suspended_short : IsShortState (Suspended suspended_text [])
unfolding suspended_text
suspended_short = (lit≤ tt, (lit≤ tt, tt))

hit_short : (hits : List (List ℕ)) → AreShort hits → IsShortState (Suspended breakpoint_text hits)
unfolding breakpoint_text
hit_short hits short = (lit≤ tt, short)

exception_short : (attached : Bool) (code : ℤ) → IsShortFate (cond attached (Lives (Suspended exception_text []) []) (Ends code))
unfolding exception_text
exception_short true code = (lit≤ tt, (lit≤ tt, tt))
exception_short false code = tt

fate_short : (plain : ThreadState) (attached : Bool) (executed : Executed) → IsShortState plain → IsShortEnd executed → IsShortFate (fate_by plain attached executed)
fate_short plain attached Plain short end = short
fate_short plain attached (Hit hits) short end = hit_short hits end
fate_short plain attached (Exit code) short end = tt
fate_short plain attached Exception short end = exception_short attached _

state_short : (state : ThreadState) (n : ℕ) (process : ProcessValue) → IsShortState state → IsShort process → IsShort (in_thread (with_state state) n process)
state_short state n process short is = thread_stays_short (with_state state) n process (λ thread was. short) is

settled_short : (number n : ℕ) (fate : Fate) (target : TargetValue) → IsShortFate fate → AllShort target.contexts.processes → AllShort (settled number n fate target).contexts.processes
settled_short number n (Ends code) target short all = end_stays_short target.contexts.processes number all
settled_short number n (Lives state hits) target short all =
    change_stays_short (in_thread (with_state state) n) number target.contexts (λ process is. state_short state n process short is) all

-- ---- a tick

counted_by_short : (left : Option ℕ) → IsShortState (counted_by left)
counted_by_short None = tt
counted_by_short (Some left) = by _
  where
    by : (test : Bool) → IsShortState (cond test (Running (Some (left - 1))) (Suspended step_text []))
    by true = tt
    by false = step_short

counted_short : (state : ThreadState) → IsShortState state → IsShortState (counted state)
counted_short (Running left) short = counted_by_short left
counted_short (Suspended reason hits) short = short

counted_in_short : (n : ℕ) (process : ProcessValue) (found : Option Thread) → thread_at n process ≡ found → AreShortThreads process.threads → IsShortState (counted_in found)
counted_in_short n process None there all = tt
counted_in_short n process (Some thread) there all =
    counted_short thread.state (found_thread_is (λ (t : Thread). IsShortState t.state) n thread process there all)

hits_state_short : (hits : List (List ℕ)) (plain : ThreadState) → AreShort hits → IsShortState plain → IsShortState (with_hits hits plain)
hits_state_short hits (Running left) short plain = tt
hits_state_short hits (Suspended reason others) short plain = (plain.0, short)

hit_state_short : (hits : List (List ℕ)) (stops : Bool) (plain : ThreadState) → AreShort hits → IsShortState plain → IsShortState (hit_state hits stops plain)
hit_state_short [] stops plain short is = is
hit_state_short (hit ∷ hits) true plain short is = hit_short (hit ∷ hits) short
hit_state_short (hit ∷ hits) false plain short is = hits_state_short (hit ∷ hits) plain short is

-- an instruction alone hits nothing
tick_by_short : (hits : List (List ℕ)) (stops : Bool) (plain : ThreadState) (attached : Bool) (executed : Executed) → AreShort hits → IsShortState plain → IsShortEnd executed → IsShortFate (tick_fate_by hits stops plain attached executed)
tick_by_short hits stops plain attached Plain short is end = hit_state_short hits stops plain short is
tick_by_short hits stops plain attached (Hit others) short is end = hit_short others end
tick_by_short hits stops plain attached (Exit code) short is end = tt
tick_by_short hits stops plain attached Exception short is end = exception_short attached _

halt_short : (step : Step) → IsShortEnd (halt_by step)
halt_short (goes_on cpu memory) = tt
halt_short (ends code) = tt
halt_short (spawns entry argument) = tt
halt_short excepts = tt

halt_at_short : (found : Option Thread) (last : ProcessValue) → IsShortEnd (halt_at found last)
halt_at_short None last = tt
halt_at_short (Some thread) last = halt_short (machine thread.cpu last.memory)

tick_fate_short : (bps : List Placed) (number n : ℕ) (process : ProcessValue) → AreShort (ids_of bps) → IsShort process → IsShortFate (tick_fate bps number n process)
tick_fate_short bps number n process ids is =
    let after : ProcessValue = stepped n process in
    tick_by_short (hits_at bps number n after) (is_stopped bps number n after) (counted_in (thread_at n process)) process.attached (halt_of n process)
    (at_short bps number n after ids) (counted_in_short n process (thread_at n process) refl is.threads) (halt_at_short (thread_at n process) process)

memory_short : (memory : List ℕ) (process : ProcessValue) → IsShort process → IsShort (record process { memory = memory })
memory_short memory process is = record { name = is.name; threads = is.threads; count = is.count }

stepped_by_short : (step : Step) (n : ℕ) (process : ProcessValue) → IsShort process → IsShort (stepped_by step n process)
stepped_by_short (goes_on cpu memory) n process is =
    memory_short memory (in_thread (with_cpu cpu) n process) (thread_stays_short (with_cpu cpu) n process (λ thread short. short) is)
stepped_by_short (ends code) n process is = is
stepped_by_short (spawns entry argument) n process is =
    thread_stays_short (with_result (result_for entry process)) n (with_begun entry argument process) (λ thread short. short) (begin_stays_short entry argument process is)
stepped_by_short excepts n process is = is

stepped_at_short : (n : ℕ) (found : Option Thread) (process : ProcessValue) → IsShort process → IsShort (stepped_at n found process)
stepped_at_short n None process is = is
stepped_at_short n (Some thread) process is = stepped_by_short (machine thread.cpu process.memory) n process is

stepped_short : (n : ℕ) (process : ProcessValue) → IsShort process → IsShort (stepped n process)
stepped_short n process is = stepped_at_short n (thread_at n process) process is

tick_at_short : (number n : ℕ) (found : Option ProcessValue) (target : TargetValue) → AreShort (ids_of target.breakpoints) → ((process : ProcessValue) → found ≡ Some process → IsShort process)
    → AllShort target.contexts.processes → AllShort (ticked_at number n found target).contexts.processes
tick_at_short number n None target ids each all = all
tick_at_short number n (Some process) target ids each all =
    settled_short number n (tick_fate target.breakpoints number n process) (executed_after number n process target)
    (tick_fate_short target.breakpoints number n process ids (each process refl))
    (change_stays_short (stepped n) number target.contexts (λ p is. stepped_short n p is) all)

tick_short : (pair : Option (ℕ × ℕ)) (target : TargetValue) → AreShort (ids_of target.breakpoints) → AllShort target.contexts.processes
    → AllShort (option_map_or (λ p. ticked p.0 p.1 target) pair target).contexts.processes
tick_short None target ids all = all
tick_short (Some pair) target ids all =
    let rows = target.contexts.processes in
    tick_at_short pair.0 pair.1 (process_of pair.0 rows) target ids (λ process there. found_is_short rows pair.0 process all there) all

pub ticks_short : TicksKeepShort
ticks_short thread target ids all = tick_short (running_pair thread target.contexts.processes) target ids all

-- ---- a trace

abbrev AreShortStates : List ProcessValue → Type 0
AreShortStates states = AllByRecursion IsShort states

next_by_short : (step : Step) (after : ProcessValue) → IsShort after → IfSome (next_by step after) IsShort
next_by_short (goes_on cpu memory) after is = is
next_by_short (ends code) after is = tt
next_by_short (spawns entry argument) after is = is
next_by_short excepts after is = tt

next_at_short : (n : ℕ) (found : Option Thread) (process : ProcessValue) → IsShort process → IfSome (next_at n found process) IsShort
next_at_short n None process is = stepped_short n process is
next_at_short n (Some thread) process is = next_by_short (machine thread.cpu process.memory) (stepped n process) (stepped_short n process is)

then_short : (found : Option ProcessValue) (rest : ProcessValue → List ProcessValue) → IfSome found IsShort → ((process : ProcessValue) → IsShort process → AreShortStates (rest process))
    → AreShortStates (option_map_or (λ next. next ∷ rest next) found [])
then_short None rest short each = tt
then_short (Some process) rest short each = (short, each process short)

run_short : (n count : ℕ) (process : ProcessValue) → IsShort process → AreShortStates (run_from n count process)
run_short n zero process is = tt
run_short n (suc count) process is =
    then_short (next_of n process) (run_from n count) (next_at_short n (thread_at n process) process is) (λ next short. run_short n count next short)

if_states : (test : Bool) (states : List ProcessValue) → AreShortStates states → AreShortStates (cond test states [])
if_states true states all = all
if_states false states all = tt

up_to_short : (bps : List Placed) (number n : ℕ) (states : List ProcessValue) → AreShortStates states → AreShortStates (up_to_hit bps number n states)
up_to_short bps number n [] all = tt
up_to_short bps number n (state ∷ states) all = (all.0, if_states _ (up_to_hit bps number n states) (up_to_short bps number n states all.1))

last_short : (process : ProcessValue) (states : List ProcessValue) → IsShort process → AreShortStates states → IsShort (last_of process states)
last_short process [] is all = is
last_short process (state ∷ states) is all = last_short state states all.0 all.1

last_hits_short : (bps : List Placed) (number n : ℕ) (process : ProcessValue) (states : List ProcessValue) → AreShort (ids_of bps) → AreShort (last_hits bps number n process states)
last_hits_short bps number n process [] ids = (lit≤ tt, tt)
last_hits_short bps number n process (state ∷ states) ids = at_short bps number n (last_of state states) ids

stop_short : (hits : List (List ℕ)) (all : Bool) (n : ℕ) (last : ProcessValue) → AreShort hits → IsShortEnd (stop_by hits all n last)
stop_short (hit ∷ hits) all n last short = short
stop_short [] true n last short = tt
stop_short [] false n last short = halt_at_short (thread_at n last) last

traced_short : (number n count : ℕ) (found : Option ProcessValue) (target : TargetValue) → AreShort (ids_of target.breakpoints) → ((process : ProcessValue) → found ≡ Some process → IsShort process)
    → AllShort target.contexts.processes → AllShort (traced_at number n count found target).contexts.processes
traced_short number n count None target ids each all = all
traced_short number n count (Some process) target ids each all =
    let bps : List Placed = target.breakpoints in
    let is = each process refl in
    let states = states_of bps number n count process in
    let trace : Trace = trace_of bps number n count process in
    let last : IsShort trace.process = last_short process states is (up_to_short bps number n (run_from n count process) (run_short n count process is)) in
    settled_short number n (trace_fate process trace) (with_contexts (with_change (λ _. trace.process) number) target)
    (fate_short (Suspended step_text []) process.attached trace.stop step_short (stop_short (last_hits bps number n process states) (length states == count) n (last_of process states) (last_hits_short bps number n process states ids)))
    (change_stays_short (λ _. trace.process) number target.contexts (λ p short. last) all)

-- ---- each command

abbrev ShortTargets : TargetsValue → Type 0
ShortTargets targets = AllShort targets.processes

abbrev ShortTarget : TargetValue → Type 0
ShortTarget target = AllShort target.contexts.processes

state_left : (state : ThreadState) (number n : ℕ) (targets : TargetsValue) → IsShortState state → AllShort targets.processes → AllShort (with_change (in_thread (with_state state) n) number targets).processes
state_left state number n targets short all = change_stays_short (in_thread (with_state state) n) number targets (λ process is. state_short state n process short is) all

-- all threads have another state
states_short : (state : ThreadState) (process : ProcessValue) → IsShortState state → IsShort process → IsShort (with_states state process)
states_short state process short is =
    let long : length (map (with_state state) process.threads) ≡ length process.threads = length-map process.threads (with_state state) in
    record {
      name = is.name;
      threads = all_map (λ (thread : Thread). IsShortState thread.state) (with_state state) process.threads (λ thread. short);
      count = record { some = omega (arith, long, is.count.some); few = omega (arith, long, is.count.few) };
    }

flag_short : (attached : Bool) (process : ProcessValue) → IsShort process → IsShort (record process { attached = attached })
flag_short attached process is = record { name = is.name; threads = is.threads; count = is.count }

run_left_short : (command : Command) (target : TargetValue) → AreShort (ids_of target.breakpoints) → AllShort target.contexts.processes → AllShort (run_left command target).contexts.processes
run_left_short (Resume id mode count) target ids all =
    left_keeps ShortTargets (λ pair. resume_after (left_by mode count) pair.0 pair.1) (thread_named id) target.contexts
    (λ pair is. state_left (Running (left_by mode count)) pair.0 pair.1 target.contexts tt all) all
run_left_short (Suspend id) target ids all =
    left_keeps ShortTargets (λ pair. suspend_after pair.0 pair.1) (thread_named id) target.contexts
    (λ pair is. state_left (Suspended suspended_text []) pair.0 pair.1 target.contexts suspended_short all) all
run_left_short (Terminate id) target ids all =
    left_keeps ShortTarget end_after (number_named id) target (λ n is. end_stays_short target.contexts.processes n all) all
run_left_short (ProcStart directory file args environment attach) target ids all = start_stays_short file attach target.contexts all
run_left_short (ProcAttach id) target ids all =
    left_keeps ShortTarget attach_after (process_named id) target (λ n named. change_stays_short attached n target.contexts
    (λ process is. flag_short true (with_states (Suspended suspended_text []) process) (states_short (Suspended suspended_text []) process suspended_short is)) all) all
run_left_short (ProcDetach id) target ids all =
    left_keeps ShortTarget detach_after (process_named id) target (λ n named. change_stays_short detached n target.contexts
    (λ process is. flag_short false (with_states (Running None) process) (states_short (Running None) process tt is)) all) all
run_left_short (ProcTerminate id) target ids all =
    left_keeps ShortTarget end_after (process_named id) target (λ n is. end_stays_short target.contexts.processes n all) all
run_left_short (TraceRun id count) target ids all =
    let rows = target.contexts.processes in
    left_keeps ShortTarget (λ pair. trace_after (unsigned_abs count) pair.0 pair.1) (thread_named id) target
    (λ pair is. traced_short pair.0 pair.1 (unsigned_abs count) (process_of pair.0 rows) target ids (λ process there. found_is_short rows pair.0 process all there) all) all
run_left_short command target ids all = all

pub commands_short : CommandsKeepShort
commands_short command target ids all =
    by_keeps ShortTarget (run_fault command target.contexts) (run_left command target) target (λ free. run_left_short command target ids all) all
