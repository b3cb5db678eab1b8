-- The answer to each command is one of its row.
use Rattle.std.proofs.Common.{◌≡◌, ℕ, ◌<◌, ◌^◌, Bool, true, false, cond, List, [], ◌∷◌, Option, Some, None, option_map, option_and_then, IfSome, refl, bytes_eq, length, lit<}
use Rattle.std.specs.Prelude.{is_none, unsigned_abs}
use Rattle.json_values.specs.Contexts.{IsContext}
use Rattle.json_values.specs.Props.{is_bp}
use Rattle.reply_tables.specs.Limits.{IsAnswerTo, IsOfRow}
use Rattle.reply_tables.specs.declared.rows.Kind.{Kind}
use Rattle.reply_tables.specs.declared.rows.Row.{Row}
use Rattle.reply_tables.specs.declared.rows.Row.TheVariants.{ErrorAlone, ErrorNull, ErrorThen, ErrorState, BlobErrorNull}
use Rattle.tcf_values.specs.Effects.{effect_by, failed}
use Rattle.tcf_values.specs.Faults.{code_of, first_fault}
use Rattle.tcf_values.specs.Ids.{context_of}
use Rattle.tcf_values.specs.declared.command.Command.{Command}
use Rattle.tcf_values.specs.declared.command.Command.TheVariants.{Sync, GetPeers, Redirect, GetContext, GetChildren, GetState, Resume, Suspend, Terminate, BpSet, BpAdd, BpChange, BpEnable, BpDisable, BpRemove, BpIds, BpProperties, BpGetStatus, BpCapabilities, MemGet, MemSet, RegGet, RegSet, RegGetm, RegSetm, ProcContext, ProcChildren, ProcStart, ProcAttach, ProcDetach, ProcTerminate, TraceRun}
use Rattle.tcf_values.specs.declared.effect.Effect.{Effect}
use Rattle.tcf_values.specs.declared.faults.Fault.{Fault}
use Rattle.tcf_values.specs.declared.faults.Fault.TheVariants as faults
use Rattle.tcf_values.specs.declared.ids.ContextId.{ContextId}
use Rattle.tcf_values.specs.declared.ids.ContextId.TheVariants as ids
use Rattle.tcf_values.specs.declared.values.BpProps.{BpProps}
use Rattle.tcf_values.specs.declared.values.ContextData.{ContextData}
use Rattle.breakpoints.specs.Changes.{added_by, changed_by, done, is_refused, removed_by}
use Rattle.breakpoints.specs.Counts.{AreCounts}
use Rattle.breakpoints.specs.Rows.{IsOrderly as AreListed, props_of, row_of}
use Rattle.breakpoints.specs.Status.{instances_of}
use Rattle.breakpoints.specs.declared.breakpoints.BpDone.TheVariants.{Failed, Changed}
use Rattle.data_services.specs.Commands.{data_fault}
use Rattle.target_contexts.specs.Contexts.{context_of as data_of, process_data, thread_data}
use Rattle.target_contexts.specs.Images.{image_of}
use Rattle.target_contexts.specs.Live.{IsOrderly, process_of}
use Rattle.target_contexts.specs.Named.{attached_in, process_at_number, thread_named}
use Rattle.target_contexts.specs.Starting.{new_process, refusal_for, started, with_started}
use Rattle.target_contexts.specs.TargetsValue.{TargetsValue}
use Rattle.target_contexts.specs.Threads.{holding}
use Rattle.target_contexts.specs.declared.threads.Thread.{Thread}
use Rattle.target_contexts.specs.declared.process.Image.{Image}
use Rattle.target_contexts.specs.ProcessValue.{ProcessValue}
use Rattle.run_control.specs.Asking.{context_answer, data_named, process_answer, process_answer_of, state_answer}
use Rattle.run_control.specs.Attaching.{start_fault, start_fault_for}
use Rattle.run_control.specs.Commands.{run_fault, run_left, trace_given}
use Rattle.run_control.specs.Naming.{process_named}
use Rattle.run_control.specs.Steering.{thread_there}
use Rattle.target_hub.specs.BreakpointsRows.{ask_fault, effect_of, props_answer, status_answer}
use Rattle.target_hub.specs.Execution.{exec_effect}
use Rattle.target_hub.specs.Limits.{AreReadable}
use Rattle.run_control.specs.TargetValue.{TargetValue}
use Rattle.target_contexts.proofs.TheLaws.{starts_one}
use Rattle.target_hub.proofs.Points.{found_is}
use Rattle.target_hub.proofs.Told.{instances_fit, process_within, thread_within}
use Rattle.breakpoints.specs.declared.rows.Placed.{Placed}

-- ---- a command that fails is answered by a report

pub code_small : (fault : Fault) → code_of fault < 2 ^ 64
code_small faults.Other = lit< tt
code_small faults.AlreadyStopped = lit< tt
code_small faults.AlreadyRunning = lit< tt
code_small faults.AlreadyAttached = lit< tt
code_small faults.IsRunning = lit< tt
code_small faults.BadSize = lit< tt
code_small faults.BadContext = lit< tt
code_small faults.BadAddress = lit< tt
code_small faults.BadNumber = lit< tt
code_small faults.Unsupported = lit< tt

fails : (row : Row) (fault : Fault) → IsOfRow row (failed fault).answer
unfolding failed
fails row fault = code_small fault

by_fault : (row : Row) (fault : Option Fault) (given : Effect) → (fault ≡ None → IsOfRow row given.answer) → IsOfRow row (effect_by fault given).answer
by_fault row None given of_row = of_row refl
by_fault row (Some fault) given of_row = fails row fault

-- ---- contexts

abbrev pub IfContext : Option ContextData → Type 0
IfContext None = Unit {0}
IfContext (Some context) = IsContext context

process_context : (number : ℕ) (found : Option ProcessValue) → IfContext (option_map (λ process. process_data number process) found)
process_context number None = tt
process_context number (Some process) = process_within number process

thread_context : (number n : ℕ) (found : Option ProcessValue) → IfContext (option_map (λ process. thread_data number n process) found)
thread_context number n None = tt
thread_context number n (Some process) = thread_within number n process

data_within : (context : ContextId) (rows : List (ℕ × ProcessValue)) → IfContext (data_of context rows)
data_within (ids.Process number) rows = process_context number (process_of number rows)
data_within (ids.Thread number n) rows = thread_context number n (holding n (process_of number rows))

named_within : (rows : List (ℕ × ProcessValue)) (context : Option ContextId) → IfContext (option_and_then (λ c. data_of c rows) context)
named_within rows None = tt
named_within rows (Some context) = data_within context rows

context_row : (found : Option ContextData) → IfContext found → first_fault ((is_none found, faults.BadContext) ∷ []) ≡ None → IsOfRow (ErrorThen Kind.Context) (context_answer found)
context_row None within none = absurd cc
context_row (Some context) within none = (refl, within)

-- ---- states and processes

state_row : (found : Option Thread) → first_fault ((is_none found, faults.BadContext) ∷ []) ≡ None → IsOfRow ErrorState (state_answer found)
state_row None none = absurd cc
state_row (Some thread) none = tt

process_of_row : (number : ℕ) (found : Option ProcessValue) → first_fault ((is_none found, faults.BadContext) ∷ []) ≡ None → IsOfRow (ErrorThen Kind.Process) (process_answer_of number found)
process_of_row number None none = absurd cc
process_of_row number (Some process) none = refl

process_row : (named : Option ℕ) (rows : List (ℕ × ProcessValue)) → first_fault ((is_none (process_at_number named rows), faults.BadContext) ∷ []) ≡ None → IsOfRow (ErrorThen Kind.Process) (process_answer named rows)
process_row None rows none = absurd cc
process_row (Some number) rows none = process_of_row number (process_of number rows) none

there_row : (number : ℕ) (found : Option ProcessValue) (process : ProcessValue) → found ≡ Some process → IsOfRow (ErrorThen Kind.Process) (process_answer_of number found)
there_row number None process there = absurd cc
there_row number (Some other) process there = refl

start_row_of : (attach : Bool) (targets : TargetsValue) (image : Option Image) → IsOrderly targets.processes targets.next
    → option_map start_fault_for (refusal_for image (length targets.processes) targets.next) ≡ None
    → IsOfRow (ErrorThen Kind.Process) (process_answer (Some targets.next) (with_started attach targets image).processes)
start_row_of attach targets None orderly none = absurd cc
start_row_of attach targets (Some image) orderly none =
    there_row targets.next _ (new_process attach image) (starts_one targets.processes targets.next (new_process attach image) orderly).0

start_row : (file : List ℕ) (attach : Bool) (targets : TargetsValue) → IsOrderly targets.processes targets.next → start_fault file targets ≡ None
    → IsOfRow (ErrorThen Kind.Process) (process_answer (Some targets.next) (started file attach targets).processes)
start_row file attach targets orderly none = start_row_of attach targets (image_of file targets.images) orderly none

trace_row : (count : ℕ) (named : Option (ℕ × ℕ)) (target after : TargetValue) → IsOfRow (ErrorThen Kind.Count) (trace_given count named target after).answer
trace_row count None target after = refl
trace_row count (Some pair) target after = refl

-- ---- breakpoints

done_by : (attached : List ℕ) (refused : Bool) (removed : List (List ℕ)) (added changed : List BpProps) → IsOfRow ErrorAlone (effect_of attached (cond refused (Failed 1) (Changed removed added changed))).answer
done_by attached true removed added changed = lit< tt
done_by attached false removed added changed = tt

done_row : (channel : ℕ) (command : Command) (target : TargetValue) → IsOfRow ErrorAlone (effect_of (attached_in target.contexts.processes) (done channel command target.breakpoints)).answer
done_row channel command target =
    let rows = target.breakpoints in
    done_by (attached_in target.contexts.processes) (is_refused channel command rows) (removed_by channel command rows) (added_by command) (changed_by command rows)

abbrev pub IfReadable : Option BpProps → Type 0
IfReadable None = Unit {0}
IfReadable (Some props) = is_bp props ≡ true

found_by : (same : Bool) (row : Placed) (found : Option Placed) → is_bp row.props ≡ true → IfReadable (option_map (λ (r : Placed). r.props) found)
    → IfReadable (option_map (λ (r : Placed). r.props) (cond same (Some row) found))
found_by true row found readable other = readable
found_by false row found readable other = other

pub found_readable : (id : List ℕ) (rows : List Placed) → AreReadable rows → IfReadable (props_of id rows)
found_readable id [] all = tt
found_readable id (row ∷ rows) all = found_by (bytes_eq id row.props.id) row _ all.0 (found_readable id rows all.1)

props_row : (found : Option BpProps) → IfReadable found → first_fault ((is_none found, faults.Other) ∷ []) ≡ None → IsOfRow (ErrorThen Kind.Bp) (props_answer found)
props_row None readable none = absurd cc
props_row (Some props) readable none = (refl, readable)

abbrev AreCounted : Placed → Type 0
AreCounted row = AreCounts row.counts

status_row : (attached : List ℕ) (found : Option Placed) → IfSome found AreCounted → first_fault ((is_none (option_map (λ (row : Placed). row.props) found), faults.Other) ∷ []) ≡ None
    → IsOfRow (ErrorThen Kind.Status) (status_answer (option_map (λ row. record { instances = instances_of row.props row.counts attached }) found))
status_row attached None counted none = absurd cc
status_row attached (Some row) counted none = (refl, instances_fit row.props row.counts attached counted)

-- ---- every command

pub exec_answers : (channel : ℕ) (command : Command) (target : TargetValue) → IsOrderly target.contexts.processes target.contexts.next → AreReadable target.breakpoints → AreListed target.breakpoints
    → IsAnswerTo command (exec_effect channel command target).answer
unfolding exec_effect
exec_answers channel Sync target orderly all listed = tt
exec_answers channel GetPeers target orderly all listed = refl
exec_answers channel (Redirect peer) target orderly all listed = lit< tt
exec_answers channel (GetContext id) target orderly all listed =
    by_fault (ErrorThen Kind.Context) (run_fault (GetContext id) target.contexts) _ (context_row (data_named id target.contexts.processes) (named_within target.contexts.processes (context_of id)))
exec_answers channel (GetChildren id) target orderly all listed = by_fault (ErrorThen Kind.Ids) (run_fault (GetChildren id) target.contexts) _ (λ _. refl)
exec_answers channel (GetState id) target orderly all listed =
    by_fault ErrorState (run_fault (GetState id) target.contexts) _ (state_row (thread_there id target.contexts.processes))
exec_answers channel (Resume id mode count) target orderly all listed = by_fault ErrorAlone (run_fault (Resume id mode count) target.contexts) _ (λ _. tt)
exec_answers channel (Suspend id) target orderly all listed = by_fault ErrorAlone (run_fault (Suspend id) target.contexts) _ (λ _. tt)
exec_answers channel (Terminate id) target orderly all listed = by_fault ErrorAlone (run_fault (Terminate id) target.contexts) _ (λ _. tt)
exec_answers channel (BpSet list) target orderly all listed = done_row channel (BpSet list) target
exec_answers channel (BpAdd props) target orderly all listed = done_row channel (BpAdd props) target
exec_answers channel (BpChange props) target orderly all listed = done_row channel (BpChange props) target
exec_answers channel (BpEnable ids) target orderly all listed = done_row channel (BpEnable ids) target
exec_answers channel (BpDisable ids) target orderly all listed = done_row channel (BpDisable ids) target
exec_answers channel (BpRemove ids) target orderly all listed = done_row channel (BpRemove ids) target
exec_answers channel BpIds target orderly all listed = refl
exec_answers channel (BpProperties id) target orderly all listed =
    by_fault (ErrorThen Kind.Bp) (ask_fault (BpProperties id) target) _ (props_row (props_of id target.breakpoints) (found_readable id target.breakpoints all))
exec_answers channel (BpGetStatus id) target orderly all listed =
    by_fault (ErrorThen Kind.Status) (ask_fault (BpGetStatus id) target) _ (status_row (attached_in target.contexts.processes) (row_of id target.breakpoints) (found_is AreCounted id target.breakpoints listed.counted))
exec_answers channel (BpCapabilities id) target orderly all listed = by_fault (ErrorThen Kind.Capabilities) (ask_fault (BpCapabilities id) target) _ (λ _. refl)
exec_answers channel (MemGet id addr word size mode) target orderly all listed =
    by_fault BlobErrorNull (data_fault (MemGet id addr word size mode) target.contexts) _ (λ _. refl)
exec_answers channel (MemSet id addr word size mode bytes) target orderly all listed =
    by_fault ErrorNull (data_fault (MemSet id addr word size mode bytes) target.contexts) _ (λ _. tt)
exec_answers channel (RegGet id) target orderly all listed = by_fault (ErrorThen Kind.Blob) (data_fault (RegGet id) target.contexts) _ (λ _. refl)
exec_answers channel (RegSet id bytes) target orderly all listed = by_fault ErrorAlone (data_fault (RegSet id bytes) target.contexts) _ (λ _. tt)
exec_answers channel (RegGetm list) target orderly all listed = by_fault (ErrorThen Kind.Blob) (data_fault (RegGetm list) target.contexts) _ (λ _. refl)
exec_answers channel (RegSetm list bytes) target orderly all listed = by_fault ErrorAlone (data_fault (RegSetm list bytes) target.contexts) _ (λ _. tt)
exec_answers channel (ProcContext id) target orderly all listed =
    by_fault (ErrorThen Kind.Process) (run_fault (ProcContext id) target.contexts) _ (process_row (process_named id) target.contexts.processes)
exec_answers channel (ProcChildren id attached) target orderly all listed = by_fault (ErrorThen Kind.Ids) (run_fault (ProcChildren id attached) target.contexts) _ (λ _. refl)
exec_answers channel (ProcStart directory file args environment attach) target orderly all listed =
    by_fault (ErrorThen Kind.Process) (run_fault (ProcStart directory file args environment attach) target.contexts) _ (start_row file attach target.contexts orderly)
exec_answers channel (ProcAttach id) target orderly all listed = by_fault ErrorAlone (run_fault (ProcAttach id) target.contexts) _ (λ _. tt)
exec_answers channel (ProcDetach id) target orderly all listed = by_fault ErrorAlone (run_fault (ProcDetach id) target.contexts) _ (λ _. tt)
exec_answers channel (ProcTerminate id) target orderly all listed = by_fault ErrorAlone (run_fault (ProcTerminate id) target.contexts) _ (λ _. tt)
exec_answers channel (TraceRun id count) target orderly all listed = by_fault (ErrorThen Kind.Count) (run_fault (TraceRun id count) target.contexts) _
    (λ _. trace_row (unsigned_abs count) (thread_named id) target (run_left (TraceRun id count) target))
