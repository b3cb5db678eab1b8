-- The events of each command can be written.
use Rattle.std.proofs.Common.{◌≡◌, ℕ, ℤ, pos, negsuc, ◌^◌, Bool, true, false, cond, List, [], ◌∷◌, ◌++◌, Option, Some, None, refl, slice_get, ◌+◌, ◌≤◌, arith, lit<}
use Rattle.std.proofs.lemmas.Bool.{ltb-false}
use Rattle.std.specs.Prelude.{int_lt, unsigned_abs}
use Rattle.std.specs.List.{AllByRecursion}
use Rattle.json_values.specs.Props.{is_bp}
use Rattle.json_values.specs.Ranges.{IsRange}
use Rattle.reply_tables.specs.Events.{IsEvent}
use Rattle.command_tables.specs.Canonical.{IsReadable}
use Rattle.service_names.specs.Commands.{named_as}
use Rattle.service_names.specs.declared.commands.CommandName.{CommandName}
use Rattle.service_names.specs.declared.commands.CommandName.TheVariants as service
use Rattle.tcf_values.specs.Effects.{effect_by, failed, gives}
use Rattle.tcf_values.specs.Faults.{first_fault}
use Rattle.tcf_values.specs.declared.command.Command.{Command}
use Rattle.tcf_values.specs.declared.command.Command.TheVariants.{GetContext, GetChildren, GetState, Resume, Suspend, Terminate, BpSet, BpAdd, BpChange, BpEnable, BpDisable, MemGet, MemSet, RegGet, RegSet, RegGetm, RegSetm, ProcContext, ProcChildren, ProcStart, ProcAttach, ProcDetach, ProcTerminate, TraceRun}
use Rattle.tcf_values.specs.declared.effect.Effect.{Effect}
use Rattle.tcf_values.specs.declared.event.EventData.{EventData}
use Rattle.tcf_values.specs.declared.event.EventData.TheVariants.{MemChanged, RegChanged, RegsChanged}
use Rattle.tcf_values.specs.declared.faults.Fault.{Fault}
use Rattle.tcf_values.specs.declared.values.BpProps.{BpProps}
use Rattle.tcf_values.specs.declared.values.Location.{Location}
use Rattle.target_contexts.specs.Live.{process_of}
use Rattle.target_contexts.specs.ProcessValue.{ProcessValue}
use Rattle.target_contexts.specs.Threads.{count_in, thread_of}
use Rattle.target_contexts.specs.Named.{attached_in, number_named, thread_named}
use Rattle.target_contexts.specs.TargetsValue.{TargetsValue}
use Rattle.breakpoints.specs.Changes.{added_by, changed_by, changes_list, done, is_refused, is_switched, removed_by, switched, with_flag}
use Rattle.breakpoints.specs.Rows.{IsOrderly as AreListed}
use Rattle.breakpoints.specs.Statuses.{status_event}
use Rattle.breakpoints.specs.declared.breakpoints.BpDone.{BpDone}
use Rattle.breakpoints.specs.declared.breakpoints.BpDone.TheVariants.{Failed, Changed}
use Rattle.data_services.specs.Commands.{data_effect, data_fault, data_given}
use Rattle.data_services.specs.MemoryRows.{is_no_size, is_outside, memory_events}
use Rattle.data_services.specs.RegisterRows.{events_from, name_one}
use Rattle.run_control.specs.Commands.{events_of, run_effect, run_fault, run_given, run_left, terminate_code, terminate_events, trace_given}
use Rattle.run_control.specs.Attaching.{attach_events, detach_events, process_there, start_events}
use Rattle.run_control.specs.Naming.{process_named}
use Rattle.run_control.specs.Steering.{suspend_events}
use Rattle.run_control.specs.Telling.{added_events, all_resumed_events, all_suspended_events, changed_events, resumed_events, statuses_in}
use Rattle.target_hub.specs.BreakpointsRows.{ask_answer, ask_fault, breakpoints_effect, effect_of, removed_events, status_events}
use Rattle.target_hub.specs.BreakpointsRows as bp_rows
use Rattle.target_hub.specs.Execution.{effect_in, exec_effect}
use Rattle.target_hub.specs.Limits.{AreEvents, AreReadable}
use Rattle.run_control.specs.TargetValue.{TargetValue}
use Rattle.target_hub.proofs.Lists.{all_mapped}
use Rattle.target_hub.proofs.Points.{ArePoints, unless_fault}
use Rattle.target_hub.proofs.Told.{added_fit, all_resumed_fit, all_suspended_fit, changed_fit, end_fits, run_points, status_fits, statuses_fit, suspended_fit, trace_fits}
use Rattle.list_laws.proofs.Flags.{second_false}
use Rattle.list_laws.proofs.AllLists.{all_append, all_filter, all_map}
use Rattle.breakpoints.specs.declared.rows.Placed.{Placed}

-- ---- a command that fails tells nothing

none_told : (fault : Fault) → AreEvents (failed fault).events
unfolding failed
none_told fault = tt

pub by_fault : (fault : Option Fault) (given : Effect) → (fault ≡ None → AreEvents given.events) → AreEvents (effect_by fault given).events
by_fault None given fit = fit refl
by_fault (Some fault) given fit = none_told fault

-- ---- RunControl, Processes and Trace

of_fit : {A : Type 0} → (events : A → List EventData) (named : Option A) → ((one : A) → AreEvents (events one)) → AreEvents (events_of events named)
of_fit events None each = tt
of_fit events (Some one) each = each one

test_fit : (test : Bool) (one other : List EventData) → AreEvents one → AreEvents other → AreEvents (cond test one other)
test_fit true one other fit also = fit
test_fit false one other fit also = also

three : (xs ys zs : List EventData) → AreEvents xs → AreEvents ys → AreEvents zs → AreEvents (xs ++ (ys ++ zs))
three xs ys zs first second third = all_append IsEvent xs (ys ++ zs) first (all_append IsEvent ys zs second third)

trace_fit : (count : ℕ) (named : Option (ℕ × ℕ)) (target after : TargetValue) → ArePoints after.breakpoints → AreEvents (trace_given count named target after).events
trace_fit count None target after are = tt
trace_fit count (Some pair) target after are = trace_fits count pair.0 pair.1 target after are

resumed_fit : (number n : ℕ) → AreEvents (resumed_events number n)
resumed_fit number n = (tt, tt)

ended_fit : (target after : TargetValue) (number : ℕ) → ArePoints after.breakpoints → AreEvents (terminate_events number target after)
ended_fit target after number are =
    end_fits number (count_in (process_of number target.contexts.processes)) terminate_code after (lit< {m = 0} {n = 2 ^ 63} tt) are

started_fit : (number : ℕ) (after : TargetValue) → ArePoints after.breakpoints → AreEvents (start_events number after)
started_fit number after are =
    let process = process_of number after.contexts.processes in
    three (added_events number process) (all_suspended_events number process) (statuses_in after)
    (added_fit number process) (all_suspended_fit number process) (statuses_fit (attached_in after.contexts.processes) after.breakpoints are)

attached_fit : (after : TargetValue) (number : ℕ) → ArePoints after.breakpoints → AreEvents (attach_events number after)
attached_fit after number are =
    let process = process_of number after.contexts.processes in
    three (changed_events number process) (all_suspended_events number process) (statuses_in after)
    (changed_fit number process) (all_suspended_fit number process) (statuses_fit (attached_in after.contexts.processes) after.breakpoints are)

detached_fit : (was : Option ProcessValue) (after : TargetValue) (number : ℕ) → ArePoints after.breakpoints → AreEvents (detach_events was number after)
detached_fit was after number are =
    let process = process_of number after.contexts.processes in
    three (changed_events number process) (all_resumed_events number was) (statuses_in after)
    (changed_fit number process) (all_resumed_fit number was) (statuses_fit (attached_in after.contexts.processes) after.breakpoints are)

run_fit : (command : Command) (target after : TargetValue) → ArePoints after.breakpoints → AreEvents (run_given command target after).events
run_fit (GetContext id) target after are = tt
run_fit (GetChildren id) target after are = tt
run_fit (GetState id) target after are = tt
run_fit (Resume id mode count) target after are = of_fit (λ pair. resumed_events pair.0 pair.1) (thread_named id) (λ pair. resumed_fit pair.0 pair.1)
run_fit (Suspend id) target after are =
    of_fit (λ pair. suspend_events pair.0 pair.1 after.contexts) (thread_named id) (λ pair. suspended_fit pair.0 pair.1 (thread_of pair.0 pair.1 after.contexts.processes))
run_fit (Terminate id) target after are = of_fit (λ number. terminate_events number target after) (number_named id) (λ number. ended_fit target after number are)
run_fit (ProcContext id) target after are = tt
run_fit (ProcChildren id attached) target after are = tt
run_fit (ProcStart directory file args environment attach) target after are = started_fit target.contexts.next after are
run_fit (ProcAttach id) target after are = of_fit (λ number. attach_events number after) (process_named id) (λ number. attached_fit after number are)
run_fit (ProcDetach id) target after are =
    let was = process_there id target.contexts.processes in
    of_fit (λ number. detach_events was number after) (process_named id) (λ number. detached_fit was after number are)
run_fit (ProcTerminate id) target after are = of_fit (λ number. terminate_events number target after) (process_named id) (λ number. ended_fit target after number are)
run_fit (TraceRun id count) target after are = trace_fit (unsigned_abs count) (thread_named id) target after are
run_fit _ target after are = tt

pub run_told : (command : Command) (target : TargetValue) → AreReadable target.breakpoints → AreListed target.breakpoints → AreEvents (run_effect command target).events
run_told command target readable orderly =
    let left : TargetValue = run_left command target in
    by_fault (run_fault command target.contexts) _ (λ free. run_fit command target left
    (unless_fault (λ (t : TargetValue). ArePoints t.breakpoints) (run_fault command target.contexts) left target (run_points command target readable orderly) free))

-- ---- Memory and Registers: a range that is set lies in memory

-- four checks, of which the second and the last pass
four_pass : (a b c d : Bool) (e f g h : Fault) → first_fault ((a, e) ∷ (b, f) ∷ (c, g) ∷ (d, h) ∷ []) ≡ None → (b ≡ false) × (d ≡ false)
four_pass true b c d e f g h none = absurd cc
four_pass false true c d e f g h none = absurd cc
four_pass false false true d e f g h none = absurd cc
four_pass false false false true e f g h none = absurd cc
four_pass false false false false e f g h none = (refl, refl)

range_whole : (addr size : ℤ) → is_no_size size ≡ false → is_outside addr size ≡ false → IsRange (record { addr = addr; size = size })
range_whole (negsuc a) size sized inside = absurd cc
range_whole (pos a) (negsuc n) sized inside = absurd cc
range_whole (pos a) (pos n) sized inside =
    let few : n ≤ 65536 = ltb-false 65536 n (second_false (int_lt (pos n) (pos 0)) (int_lt (pos 65536) (pos n)) sized) in
    let low : a + n ≤ 65536 = ltb-false 65536 (a + n) (second_false (int_lt (pos a) (pos 0)) (int_lt (pos 65536) (pos (a + n))) inside) in
    ((omega arith), (omega arith))

if_told : (test : Bool) (event : EventData) → IsEvent event → AreEvents (cond test (event ∷ []) [])
if_told true event fits = (fits, tt)
if_told false event fits = tt

memory_fit : (named : Option ℕ) (addr size : ℤ) → IsRange (record { addr = addr; size = size }) → AreEvents (memory_events named addr size)
memory_fit None addr size whole = tt
memory_fit (Some number) addr size whole = if_told _ (MemChanged _ _) (whole, tt)

several_fit : (first : Option Location) (list : List Location) → AreEvents (events_from first list)
several_fit None list = tt
several_fit (Some first) list = test_fit (name_one first.register list) (RegChanged first.register ∷ []) (RegsChanged ∷ []) (tt, tt) (tt, tt)

data_fit : (command : Command) (targets : TargetsValue) → data_fault command targets ≡ None → AreEvents (data_given command targets).events
data_fit (MemGet id addr word size mode) targets none = tt
data_fit (MemSet id addr word size mode bytes) targets none =
    let pass = four_pass _ _ _ _ _ _ _ _ none in memory_fit (number_named id) addr size (range_whole addr size pass.0 pass.1)
data_fit (RegGet id) targets none = tt
data_fit (RegSet id bytes) targets none = (tt, tt)
data_fit (RegGetm list) targets none = tt
data_fit (RegSetm list bytes) targets none = several_fit (slice_get list 0) list
data_fit _ targets none = tt

pub data_told : (command : Command) (targets : TargetsValue) → AreEvents (data_effect command targets).events
data_told command targets = by_fault (data_fault command targets) _ (data_fit command targets)

-- ---- Breakpoints

abbrev pub AreProps : List BpProps → Type 0
AreProps list = AllByRecursion (λ props. is_bp props ≡ true) list

pub removed_fit : (ids : List (List ℕ)) → AreEvents (removed_events ids)
removed_fit [] = tt
removed_fit (id ∷ ids) = (tt, tt)

new_fit : (list : List BpProps) → AreProps list → AreEvents (bp_rows.added_events list)
new_fit [] fit = tt
new_fit (props ∷ list) fit = (fit, tt)

other_fit : (list : List BpProps) → AreProps list → AreEvents (bp_rows.changed_events list)
other_fit [] fit = tt
other_fit (props ∷ list) fit = (fit, tt)

status_all : (attached : List ℕ) (list : List BpProps) → AreEvents (status_events attached list)
status_all attached list = all_map IsEvent (status_event attached) list (status_fits attached)

done_fit : (attached : List ℕ) (removed : List (List ℕ)) (added changed : List BpProps) → AreProps added → AreProps changed → AreEvents (effect_of attached (Changed removed added changed)).events
done_fit attached removed added changed new other =
    all_append IsEvent _ _ (removed_fit removed)
    (three _ _ _ (new_fit added new) (other_fit changed other)
    (all_append IsEvent _ _ (status_all attached added) (status_all attached changed)))

switched_fit : (enabled : Bool) (ids : List (List ℕ)) (rows : List Placed) → AreReadable rows → AreProps (switched enabled ids rows)
switched_fit enabled ids rows readable =
    all_mapped (λ (row : Placed). is_bp row.props ≡ true) (λ (props : BpProps). is_bp props ≡ true) (λ (row : Placed). with_flag enabled row.props) _ (λ row is. is)
    (all_filter (λ (row : Placed). is_bp row.props ≡ true) (is_switched enabled ids) rows readable)

pub added_readable : (command : Command) → IsReadable command → AreProps (added_by command)
added_readable (BpSet list) readable = readable
added_readable (BpAdd props) readable = (readable, tt)
added_readable _ readable = tt

pub changed_readable : (command : Command) (rows : List Placed) → IsReadable command → AreReadable rows → AreProps (changed_by command rows)
changed_readable (BpChange props) rows readable all = (readable, tt)
changed_readable (BpEnable ids) rows readable all = switched_fit true ids rows all
changed_readable (BpDisable ids) rows readable all = switched_fit false ids rows all
changed_readable _ rows readable all = tt

unless_refused : (attached : List ℕ) (refused : Bool) (other : BpDone) → AreEvents (effect_of attached other).events → AreEvents (effect_of attached (cond refused (Failed 1) other)).events
unless_refused attached true other fit = tt
unless_refused attached false other fit = fit

change_told : (channel : ℕ) (command : Command) (attached : List ℕ) (rows : List Placed) → IsReadable command → AreReadable rows → AreEvents (effect_of attached (done channel command rows)).events
change_told channel command attached rows readable all =
    let removed = removed_by channel command rows in
    let added = added_by command in
    let changed = changed_by command rows in
    unless_refused attached (is_refused channel command rows) (Changed removed added changed)
    (done_fit attached removed added changed (added_readable command readable) (changed_readable command rows readable all))

either_told : (test : Bool) (one other : Effect) → AreEvents one.events → AreEvents other.events → AreEvents (cond test one other).events
either_told true one other fit also = fit
either_told false one other fit also = also

pub breakpoints_told : (channel : ℕ) (command : Command) (target : TargetValue) → IsReadable command → AreReadable target.breakpoints → AreEvents (breakpoints_effect channel command target).events
breakpoints_told channel command target readable all =
    let attached = attached_in target.contexts.processes in
    let answer = gives (ask_answer command attached target.breakpoints) in
    either_told (changes_list command) (effect_of attached (done channel command target.breakpoints)) (effect_by (ask_fault command target) answer)
    (change_told channel command attached target.breakpoints readable all) (by_fault (ask_fault command target) answer (λ _. tt))

-- ---- every service

told_in : (name : CommandName) (channel : ℕ) (command : Command) (target : TargetValue) → IsReadable command → AreReadable target.breakpoints → AreListed target.breakpoints → AreEvents (effect_in name channel command target).events
told_in (service.Locator name) channel command target readable all orderly = tt
told_in (service.RunControl name) channel command target readable all orderly = run_told command target all orderly
told_in (service.Breakpoints name) channel command target readable all orderly = breakpoints_told channel command target readable all
told_in (service.Memory name) channel command target readable all orderly = data_told command target.contexts
told_in (service.Registers name) channel command target readable all orderly = data_told command target.contexts
told_in (service.Processes name) channel command target readable all orderly = run_told command target all orderly
told_in (service.Trace name) channel command target readable all orderly = run_told command target all orderly

pub exec_told : (channel : ℕ) (command : Command) (target : TargetValue) → IsReadable command → AreReadable target.breakpoints → AreListed target.breakpoints → AreEvents (exec_effect channel command target).events
unfolding exec_effect
exec_told channel command target readable all orderly = told_in (named_as command) channel command target readable all orderly
