-- The target tells no Hello: it tells of its processes, its breakpoints, its memory and its registers.
use Rattle.std.proofs.Common.{ℕ, ℤ, pos, Bool, true, false, cond, List, [], ◌∷◌, ◌++◌, Option, Some, None, option_map}
use Rattle.std.specs.List.{flat_map}
use Rattle.std.specs.Prelude.{IfSome, int_lt, slice_get, unsigned_abs}
use Rattle.tcf_values.specs.declared.values.ContextData.{ContextData}
use Rattle.breakpoints.specs.Changes.{changes_list, done}
use Rattle.breakpoints.specs.Counting.{listed}
use Rattle.breakpoints.specs.Rows.{ids_of, owned_by}
use Rattle.breakpoints.specs.Statuses.{statuses_of}
use Rattle.breakpoints.specs.declared.breakpoints.BpDone.{BpDone}
use Rattle.breakpoints.specs.declared.breakpoints.BpDone.TheVariants.{Changed, Failed}
use Rattle.command_tables.specs.declared.reading.Reading.TheVariants as readings
use Rattle.data_services.specs.Commands.{data_effect, data_fault, data_given}
use Rattle.data_services.specs.MemoryRows.{memory_events}
use Rattle.data_services.specs.RegisterRows.{events_from, name_one}
use Rattle.run_control.specs.Attaching.{attach_events, detach_events, process_there, start_events}
use Rattle.run_control.specs.Commands.{events_of, run_effect, run_fault, run_given, run_left, terminate_code, terminate_events, trace_given}
use Rattle.run_control.specs.Ending.{end_events}
use Rattle.run_control.specs.Executing.{hits_at, settled_events, step_text, stepped}
use Rattle.run_control.specs.Naming.{process_named}
use Rattle.run_control.specs.Steering.{suspend_events}
use Rattle.run_control.specs.Telling.{added_events, all_resumed_events, all_suspended_events, changed_events, contexts_events, hit_events, made_events, resumed_event, resumed_events, several_events, statuses_among, statuses_in, stop_events, suspended_events}
use Rattle.run_control.specs.Ticking.{counted_in, running_pair, ticked, ticked_events, ticked_events_at}
use Rattle.run_control.specs.Tracing.{traced_events_at}
use Rattle.service_names.specs.Commands.{named_as}
use Rattle.service_names.specs.declared.commands.CommandName.{CommandName}
use Rattle.service_names.specs.declared.commands.CommandName.TheVariants as service
use Rattle.target_contexts.specs.Contexts.{threads_behind}
use Rattle.target_contexts.specs.Live.{process_of}
use Rattle.target_contexts.specs.Threads.{count_in, thread_at, thread_count, thread_numbers, thread_of}
use Rattle.target_contexts.specs.declared.threads.Thread.{Thread}
use Rattle.target_contexts.specs.Named.{attached_in, number_named, runs as is_run, thread_named}
use Rattle.target_contexts.specs.TargetsValue.{TargetsValue}
use Rattle.target_contexts.specs.ProcessValue.{ProcessValue}
use Rattle.target_contexts.specs.declared.process.ThreadState.{ThreadState}
use Rattle.target_contexts.specs.declared.process.ThreadState.TheVariants.{Running, Suspended}
use Rattle.target_hub.specs.BreakpointsRows as bp_rows
use Rattle.target_hub.specs.BreakpointsRows.{ask_answer, ask_fault, breakpoints_effect, effect_of, removed_events, status_events}
use Rattle.target_hub.specs.Execution.{effect_in, exec_effect}
use Rattle.target_hub.specs.Laws.{AreNoHello, ClosingsTellNoHello, CommandsTellNoHello, IsNoHello, TicksTellNoHello}
use Rattle.run_control.specs.TargetValue.{TargetValue}
use Rattle.tcf_values.specs.Effects.{effect_by, failed, gives}
use Rattle.tcf_values.specs.declared.command.Command.{Command}
use Rattle.tcf_values.specs.declared.command.Command.TheVariants.{GetContext, GetChildren, GetState, Resume, Suspend, Terminate, MemGet, MemSet, RegGet, RegSet, RegGetm, RegSetm, ProcContext, ProcChildren, ProcStart, ProcAttach, ProcDetach, ProcTerminate, TraceRun}
use Rattle.tcf_values.specs.declared.effect.Effect.{Effect}
use Rattle.tcf_values.specs.declared.event.EventData.{EventData}
use Rattle.tcf_values.specs.declared.faults.Fault.{Fault}
use Rattle.tcf_values.specs.declared.values.BpProps.{BpProps}
use Rattle.tcf_values.specs.declared.values.Location.{Location}
use Rattle.target_hub.proofs.Fates.{CoversAlone, tick_alone, trace_alone}
use Rattle.list_laws.proofs.AllLists.{all_append, all_map}
use Rattle.breakpoints.specs.declared.rows.Placed.{Placed}

-- ---- lists of events

three : (xs ys zs : List EventData) → AreNoHello xs → AreNoHello ys → AreNoHello zs → AreNoHello (xs ++ (ys ++ zs))
three xs ys zs first second third = all_append IsNoHello xs (ys ++ zs) first (all_append IsNoHello ys zs second third)

either : (test : Bool) (one other : List EventData) → AreNoHello one → AreNoHello other → AreNoHello (cond test one other)
either true one other first second = first
either false one other first second = second

of_one : {A : Type 0} → (events : A → List EventData) (named : Option A) → ((one : A) → AreNoHello (events one)) → AreNoHello (events_of events named)
of_one events None each = tt
of_one events (Some one) each = each one

-- a command that fails tells nothing
none_told : (fault : Fault) → AreNoHello (failed fault).events
unfolding failed
none_told fault = tt

by_fault : (fault : Option Fault) (given : Effect) → AreNoHello given.events → AreNoHello (effect_by fault given).events
by_fault None given all = all
by_fault (Some fault) given all = none_told fault

-- ---- of processes

statuses_all : (attached : List ℕ) (rows : List Placed) → AreNoHello (statuses_of attached rows)
statuses_all attached [] = tt
statuses_all attached (row ∷ rows) = (tt, statuses_all attached rows)

statuses_told : (target : TargetValue) → AreNoHello (statuses_in target)
statuses_told target = statuses_all (attached_in target.contexts.processes) target.breakpoints

added_told : (number : ℕ) (process : Option ProcessValue) → AreNoHello (added_events number process)
added_told number None = tt
added_told number (Some process) = (tt, tt)

contexts_told : (contexts : List ContextData) → AreNoHello (contexts_events contexts)
contexts_told [] = tt
contexts_told (context ∷ contexts) = (tt, tt)

changed_told : (number : ℕ) (process : Option ProcessValue) → AreNoHello (changed_events number process)
changed_told number None = tt
changed_told number (Some process) = (tt, tt)

stop_told : (number n pc : ℕ) (state : ThreadState) → AreNoHello (stop_events number n pc state)
stop_told number n pc (Running left) = tt
stop_told number n pc (Suspended reason hits) = (tt, tt)

suspended_told : (number n : ℕ) (thread : Option Thread) → AreNoHello (suspended_events number n thread)
suspended_told number n None = tt
suspended_told number n (Some thread) = stop_told number n thread.cpu.pc thread.state

flat_told : (told : ℕ → List EventData) (numbers : List ℕ) → ((n : ℕ) → AreNoHello (told n)) → AreNoHello (flat_map told numbers)
flat_told told [] each = tt
flat_told told (n ∷ numbers) each = all_append IsNoHello (told n) (flat_map told numbers) (each n) (flat_told told numbers each)

all_suspended_told : (number : ℕ) (process : Option ProcessValue) → AreNoHello (all_suspended_events number process)
all_suspended_told number None = tt
all_suspended_told number (Some process) =
    flat_told (λ n. suspended_events number n (thread_at n process)) (thread_numbers process) (λ n. suspended_told number n (thread_at n process))

resumed_told : (number n : ℕ) → AreNoHello (resumed_events number n)
resumed_told number n = (tt, tt)

all_resumed_told : (number : ℕ) (was : Option ProcessValue) → AreNoHello (all_resumed_events number was)
all_resumed_told number was = all_map IsNoHello (resumed_event number) _ (λ n. tt)

end_told : (number count : ℕ) (code : ℤ) (target : TargetValue) → AreNoHello (end_events number count code target)
end_told number count code target = (tt, (tt, statuses_told target))

started_told : (number : ℕ) (after : TargetValue) → AreNoHello (start_events number after)
started_told number after =
    let process = process_of number after.contexts.processes in
    three (added_events number process) (all_suspended_events number process) (statuses_in after)
    (added_told number process) (all_suspended_told number process) (statuses_told after)

attached_told : (after : TargetValue) (number : ℕ) → AreNoHello (attach_events number after)
attached_told after number =
    let process = process_of number after.contexts.processes in
    three (changed_events number process) (all_suspended_events number process) (statuses_in after)
    (changed_told number process) (all_suspended_told number process) (statuses_told after)

detached_told : (was : Option ProcessValue) (after : TargetValue) (number : ℕ) → AreNoHello (detach_events was number after)
detached_told was after number =
    let process = process_of number after.contexts.processes in
    three (changed_events number process) (all_resumed_events number was) (statuses_in after)
    (changed_told number process) (all_resumed_told number was) (statuses_told after)

-- ---- what becomes of a process after its instructions

several_told : (hits : List (List ℕ)) (bps : List Placed) → AreNoHello (several_events hits bps)
several_told [] bps = tt
several_told (hit ∷ []) bps = tt
several_told (hit ∷ other ∷ hits) bps = (tt, tt)

hits_told : (runs : Bool) (hits : List (List ℕ)) (target : TargetValue) → AreNoHello (hit_events runs hits target)
hits_told runs hits target =
    all_append IsNoHello (cond runs (several_events hits target.breakpoints) []) (statuses_among hits target)
    (either runs (several_events hits target.breakpoints) [] (several_told hits target.breakpoints) tt)
    (statuses_all (attached_in target.contexts.processes) (listed hits target.breakpoints))

fate_told : (number n before : ℕ) (plain : ThreadState) (hits : List (List ℕ)) (after : TargetValue) → CoversAlone (λ fate. AreNoHello (settled_events number n before fate after)) plain hits
fate_told number n before plain hits after =
    let made : List EventData = made_events number before (process_of number after.contexts.processes) in
    let stopped : List EventData = suspended_events number n (thread_of number n after.contexts.processes) in
    let lived = λ (runs : Bool) (others : List (List ℕ)).
    all_append IsNoHello (made ++ stopped) (hit_events runs others after)
    (all_append IsNoHello made stopped
    (contexts_told (threads_behind before number (process_of number after.contexts.processes))) (suspended_told number n (thread_of number n after.contexts.processes)))
    (hits_told runs others after) in
    record {
      plainly = lived (is_run plain) [];
      passing = λ now. lived (is_run plain) hits;
      suspended = λ reason others. lived false others;
      ended = λ code whole. end_told number before code after;
    }

traced_told : (bps : List Placed) (number n count : ℕ) (process : Option ProcessValue) (after : TargetValue) → AreNoHello (traced_events_at bps number n count process after)
traced_told bps number n count None after = tt
traced_told bps number n count (Some process) after =
    trace_alone (λ fate. AreNoHello (settled_events number n (thread_count process) fate after)) bps number n count process
    (fate_told number n (thread_count process) (Suspended step_text []) [] after)

trace_told : (count : ℕ) (named : Option (ℕ × ℕ)) (target after : TargetValue) → AreNoHello (trace_given count named target after).events
trace_told count None target after = tt
trace_told count (Some pair) target after = traced_told target.breakpoints pair.0 pair.1 count (process_of pair.0 target.contexts.processes) after

terminate_told : (target after : TargetValue) (number : ℕ) → AreNoHello (terminate_events number target after)
terminate_told target after number = end_told number (count_in (process_of number target.contexts.processes)) terminate_code after

run_all : (command : Command) (target after : TargetValue) → AreNoHello (run_given command target after).events
run_all (GetContext id) target after = tt
run_all (GetChildren id) target after = tt
run_all (GetState id) target after = tt
run_all (Resume id mode count) target after =
    of_one (λ pair. resumed_events pair.0 pair.1) (thread_named id) (λ pair. resumed_told pair.0 pair.1)
run_all (Suspend id) target after =
    of_one (λ pair. suspend_events pair.0 pair.1 after.contexts) (thread_named id) (λ pair. suspended_told pair.0 pair.1 (thread_of pair.0 pair.1 after.contexts.processes))
run_all (Terminate id) target after =
    of_one (λ number. terminate_events number target after) (number_named id) (terminate_told target after)
run_all (ProcContext id) target after = tt
run_all (ProcChildren id attached) target after = tt
run_all (ProcStart directory file args environment attach) target after = started_told target.contexts.next after
run_all (ProcAttach id) target after = of_one (λ number. attach_events number after) (process_named id) (attached_told after)
run_all (ProcDetach id) target after =
    let was = process_there id target.contexts.processes in
    of_one (λ number. detach_events was number after) (process_named id) (detached_told was after)
run_all (ProcTerminate id) target after =
    of_one (λ number. terminate_events number target after) (process_named id) (terminate_told target after)
run_all (TraceRun id count) target after = trace_told (unsigned_abs count) (thread_named id) target after
run_all _ target after = tt

run_told : (command : Command) (target : TargetValue) → AreNoHello (run_effect command target).events
run_told command target =
    let after = run_left command target in
    by_fault (run_fault command target.contexts) (run_given command target after) (run_all command target after)

-- ---- of memory and registers

memory_told : (named : Option ℕ) (addr size : ℤ) → AreNoHello (memory_events named addr size)
memory_told None addr size = tt
memory_told (Some number) addr size = either (int_lt (pos 0) size) (_ ∷ []) [] (tt, tt) tt

registers_told : (first : Option Location) (list : List Location) → AreNoHello (events_from first list)
registers_told None list = tt
registers_told (Some first) list = either (name_one first.register list) (EventData.RegChanged first.register ∷ []) (EventData.RegsChanged ∷ []) (tt, tt) (tt, tt)

data_all : (command : Command) (targets : TargetsValue) → AreNoHello (data_given command targets).events
data_all (MemGet id addr word size mode) targets = tt
data_all (MemSet id addr word size mode bytes) targets = memory_told (number_named id) addr size
data_all (RegGet id) targets = tt
data_all (RegSet id bytes) targets = (tt, tt)
data_all (RegGetm list) targets = tt
data_all (RegSetm list bytes) targets = registers_told (slice_get list 0) list
data_all _ targets = tt

data_told : (command : Command) (targets : TargetsValue) → AreNoHello (data_effect command targets).events
data_told command targets = by_fault (data_fault command targets) (data_given command targets) (data_all command targets)

-- ---- of breakpoints

removed_told : (ids : List (List ℕ)) → AreNoHello (removed_events ids)
removed_told [] = tt
removed_told (id ∷ ids) = (tt, tt)

new_told : (list : List BpProps) → AreNoHello (bp_rows.added_events list)
new_told [] = tt
new_told (props ∷ list) = (tt, tt)

other_told : (list : List BpProps) → AreNoHello (bp_rows.changed_events list)
other_told [] = tt
other_told (props ∷ list) = (tt, tt)

status_told : (attached : List ℕ) (list : List BpProps) → AreNoHello (status_events attached list)
status_told attached [] = tt
status_told attached (props ∷ list) = (tt, status_told attached list)

done_told : (attached : List ℕ) (done : BpDone) → AreNoHello (effect_of attached done).events
done_told attached (Failed code) = tt
done_told attached (Changed removed added changed) =
    three (removed_events removed) (bp_rows.added_events added) (bp_rows.changed_events changed ++ (status_events attached added ++ status_events attached changed))
    (removed_told removed) (new_told added)
    (three (bp_rows.changed_events changed) (status_events attached added) (status_events attached changed)
    (other_told changed) (status_told attached added) (status_told attached changed))

either_effect : (test : Bool) (one other : Effect) → AreNoHello one.events → AreNoHello other.events → AreNoHello (cond test one other).events
either_effect true one other first second = first
either_effect false one other first second = second

breakpoints_told : (channel : ℕ) (command : Command) (target : TargetValue) → AreNoHello (breakpoints_effect channel command target).events
breakpoints_told channel command target =
    let attached = attached_in target.contexts.processes in
    let answer = gives (ask_answer command attached target.breakpoints) in
    either_effect (changes_list command) (effect_of attached (done channel command target.breakpoints)) (effect_by (ask_fault command target) answer)
    (done_told attached (done channel command target.breakpoints)) (by_fault (ask_fault command target) answer tt)

-- ---- by every input

told_in : (name : CommandName) (channel : ℕ) (command : Command) (target : TargetValue) → AreNoHello (effect_in name channel command target).events
told_in (service.Locator name) channel command target = tt
told_in (service.RunControl name) channel command target = run_told command target
told_in (service.Breakpoints name) channel command target = breakpoints_told channel command target
told_in (service.Memory name) channel command target = data_told command target.contexts
told_in (service.Registers name) channel command target = data_told command target.contexts
told_in (service.Processes name) channel command target = run_told command target
told_in (service.Trace name) channel command target = run_told command target

exec_told : (channel : ℕ) (command : Command) (target : TargetValue) → AreNoHello (exec_effect channel command target).events
unfolding exec_effect
exec_told channel command target = told_in (named_as command) channel command target

pub commands_greetless : CommandsTellNoHello
commands_greetless channel service name (readings.Known command) target = exec_told channel command target
commands_greetless channel service name readings.Unknown target = tt
commands_greetless channel service name (readings.Bad index code) target = tt

ticked_told : (bps : List Placed) (number n : ℕ) (process : Option ProcessValue) (after : TargetValue) → AreNoHello (ticked_events_at bps number n process after)
ticked_told bps number n None after = tt
ticked_told bps number n (Some process) after =
    tick_alone (λ fate. AreNoHello (settled_events number n (thread_count process) fate after)) bps number n process
    (fate_told number n (thread_count process) (counted_in (thread_at n process)) (hits_at bps number n (stepped n process)) after)

tick_named : (target : TargetValue) (named : Option (ℕ × ℕ)) → IfSome (option_map (λ pair. ticked_events pair.0 pair.1 target) named) AreNoHello
tick_named target None = tt
tick_named target (Some pair) = ticked_told target.breakpoints pair.0 pair.1 (process_of pair.0 target.contexts.processes) (ticked pair.0 pair.1 target)

pub ticks_greetless : TicksTellNoHello
ticks_greetless thread target = tick_named target (running_pair thread target.contexts.processes)

pub closings_greetless : ClosingsTellNoHello
closings_greetless channel target = removed_told (ids_of (owned_by channel target.breakpoints))
