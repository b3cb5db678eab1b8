-- What changes nothing and tells nothing.
use Rattle.std.proofs.Common.{◌≡◌, ℕ, Bool, true, false, cond, List, [], Option, Some, None, refl, subst}
use Rattle.std.specs.Prelude.{unsigned_abs}
use Rattle.tcf_values.specs.Effects.{effect_by, failed, gives}
use Rattle.tcf_values.specs.declared.answer.Answer.{Answer}
use Rattle.tcf_values.specs.declared.answer.Answer.TheVariants as answers
use Rattle.tcf_values.specs.declared.command.Command.{Command}
use Rattle.tcf_values.specs.declared.command.Command.TheVariants.{Sync, GetPeers, Redirect, GetContext, GetChildren, GetState, Resume, Suspend, Terminate, BpSet, BpAdd, BpChange, BpEnable, BpDisable, BpRemove, BpIds, BpProperties, BpGetStatus, BpCapabilities, MemGet, MemSet, RegGet, RegSet, RegGetm, RegSetm, ProcContext, ProcChildren, ProcStart, ProcAttach, ProcDetach, ProcTerminate, TraceRun}
use Rattle.tcf_values.specs.declared.effect.Effect.{Effect}
use Rattle.tcf_values.specs.declared.errors.ErrorReport.{ErrorReport}
use Rattle.tcf_values.specs.declared.faults.Fault.{Fault}
use Rattle.tcf_values.specs.declared.values.BpProps.{BpProps}
use Rattle.tcf_values.specs.declared.values.ContextData.{ContextData}
use Rattle.breakpoints.specs.Changes.{added_by, changed_by, done, is_refused, removed_by, rows_after}
use Rattle.breakpoints.specs.declared.breakpoints.BpDone.TheVariants.{Failed, Changed}
use Rattle.data_services.specs.Commands.{data_after, data_effect}
use Rattle.target_contexts.specs.Changes.{targets_by}
use Rattle.target_contexts.specs.Live.{process_of}
use Rattle.target_contexts.specs.declared.threads.Thread.{Thread}
use Rattle.target_contexts.specs.Named.{attached_in, thread_named}
use Rattle.target_contexts.specs.TargetsValue.{TargetsValue}
use Rattle.target_contexts.specs.ProcessValue.{ProcessValue}
use Rattle.run_control.specs.Asking.{context_answer, data_named, process_answer, process_answer_of, state_answer}
use Rattle.run_control.specs.Commands.{run_after, run_effect, run_fault, run_given, run_left, trace_given}
use Rattle.run_control.specs.Naming.{process_named}
use Rattle.run_control.specs.Steering.{thread_there}
use Rattle.target_hub.specs.BreakpointsRows.{ask_fault, breakpoints_after, effect_of}
use Rattle.target_hub.specs.Execution.{exec_after, exec_effect}
use Rattle.target_hub.specs.Laws.{AskingChangesNothing, AskingIsTheSame, FailureChangesNothing}
use Rattle.run_control.specs.TargetValue.{TargetValue, target_by}
use Rattle.data_services.proofs.TheLaws.{failure_changes_nothing}
use Rattle.breakpoints.specs.declared.rows.Placed.{Placed}

-- ---- a command that only asks

pub same_by : (fault : Option Fault) (targets : TargetsValue) → targets_by fault targets targets ≡ targets
same_by None targets = refl
same_by (Some fault) targets = refl

nothing_told : (fault : Fault) → (failed fault).events ≡ []
unfolding failed
nothing_told fault = refl

given_alone : (fault : Option Fault) (answer : Answer) → (effect_by fault (gives answer)).events ≡ []
given_alone None answer = refl
given_alone (Some fault) answer = nothing_told fault

with_same : (target : TargetValue) (contexts : TargetsValue) → contexts ≡ target.contexts → record target { contexts = contexts } ≡ target
with_same target contexts same = rw same

asked : (target : TargetValue) (fault : Option Fault) (answer : Answer) →
    (record target { contexts = targets_by fault target.contexts target.contexts } ≡ target) × ((effect_by fault (gives answer)).events ≡ [])
asked target fault answer = (with_same target _ (same_by fault target.contexts), given_alone fault answer)

pub same_target : (fault : Option Fault) (target : TargetValue) → target_by fault target target ≡ target
same_target None target = refl
same_target (Some fault) target = refl

run_asked : (target : TargetValue) (fault : Option Fault) (answer : Answer) → (target_by fault target target ≡ target) × ((effect_by fault (gives answer)).events ≡ [])
run_asked target fault answer = (same_target fault target, given_alone fault answer)

pub asking_nothing : AskingChangesNothing
unfolding exec_effect exec_after
asking_nothing channel Sync target asks = (refl, refl)
asking_nothing channel GetPeers target asks = (refl, refl)
asking_nothing channel (Redirect peer) target asks = absurd cc
asking_nothing channel (GetContext id) target asks = run_asked target _ _
asking_nothing channel (GetChildren id) target asks = run_asked target _ _
asking_nothing channel (GetState id) target asks = run_asked target _ _
asking_nothing channel (Resume id mode count) target asks = absurd cc
asking_nothing channel (Suspend id) target asks = absurd cc
asking_nothing channel (Terminate id) target asks = absurd cc
asking_nothing channel (BpSet list) target asks = absurd cc
asking_nothing channel (BpAdd props) target asks = absurd cc
asking_nothing channel (BpChange props) target asks = absurd cc
asking_nothing channel (BpEnable ids) target asks = absurd cc
asking_nothing channel (BpDisable ids) target asks = absurd cc
asking_nothing channel (BpRemove ids) target asks = absurd cc
asking_nothing channel BpIds target asks = (refl, refl)
asking_nothing channel (BpProperties id) target asks = (refl, given_alone (ask_fault (BpProperties id) target) _)
asking_nothing channel (BpGetStatus id) target asks = (refl, given_alone (ask_fault (BpGetStatus id) target) _)
asking_nothing channel (BpCapabilities id) target asks = (refl, given_alone (ask_fault (BpCapabilities id) target) _)
asking_nothing channel (MemGet id addr word size mode) target asks = asked target _ _
asking_nothing channel (MemSet id addr word size mode bytes) target asks = absurd cc
asking_nothing channel (RegGet id) target asks = asked target _ _
asking_nothing channel (RegSet id bytes) target asks = absurd cc
asking_nothing channel (RegGetm list) target asks = asked target _ _
asking_nothing channel (RegSetm list bytes) target asks = absurd cc
asking_nothing channel (ProcContext id) target asks = run_asked target _ _
asking_nothing channel (ProcChildren id attached) target asks = run_asked target _ _
asking_nothing channel (ProcStart directory file args environment attach) target asks = absurd cc
asking_nothing channel (ProcAttach id) target asks = absurd cc
asking_nothing channel (ProcDetach id) target asks = absurd cc
asking_nothing channel (ProcTerminate id) target asks = absurd cc
asking_nothing channel (TraceRun id count) target asks = absurd cc

pub asking_same : AskingIsTheSame
unfolding exec_effect
asking_same one other (BpSet list) target asks = absurd cc
asking_same one other (BpAdd props) target asks = refl
asking_same one other _ target asks = refl

-- ---- a command that an error answers

abbrev pub IsNoFailure : Answer → Type 0
IsNoFailure (answers.Failed report) = ⊥
IsNoFailure _ = Unit {0}

failed_is_none : (answer : Answer) (report : ErrorReport) → IsNoFailure answer → answer ≡ answers.Failed report → ⊥
failed_is_none answer report none same = subst IsNoFailure same none

context_none : (found : Option ContextData) → IsNoFailure (context_answer found)
context_none None = tt
context_none (Some context) = tt

state_none : (found : Option Thread) → IsNoFailure (state_answer found)
state_none None = tt
state_none (Some thread) = tt

there_none : (number : ℕ) (found : Option ProcessValue) → IsNoFailure (process_answer_of number found)
there_none number None = tt
there_none number (Some process) = tt

process_none : (named : Option ℕ) (rows : List (ℕ × ProcessValue)) → IsNoFailure (process_answer named rows)
process_none None rows = tt
process_none (Some number) rows = there_none number (process_of number rows)

trace_none : (count : ℕ) (named : Option (ℕ × ℕ)) (target after : TargetValue) → IsNoFailure (trace_given count named target after).answer
trace_none count None target after = tt
trace_none count (Some pair) target after = tt

run_none : (command : Command) (target after : TargetValue) → IsNoFailure (run_given command target after).answer
run_none (GetContext id) target after = context_none (data_named id target.contexts.processes)
run_none (GetState id) target after = state_none (thread_there id target.contexts.processes)
run_none (ProcContext id) target after = process_none (process_named id) target.contexts.processes
run_none (ProcStart directory file args environment attach) target after = process_none (Some target.contexts.next) after.contexts.processes
run_none (TraceRun id count) target after = trace_none (unsigned_abs count) (thread_named id) target after
run_none _ target after = tt

-- an error comes of a fault alone
by_fault : (target left : TargetValue) (fault : Option Fault) (given : Effect) (report : ErrorReport) → IsNoFailure given.answer → (effect_by fault given).answer ≡ answers.Failed report →
    (target_by fault left target ≡ target) × ((effect_by fault given).events ≡ [])
by_fault target left None given report none same = absurd (failed_is_none given.answer report none same)
by_fault target left (Some fault) given report none same = (refl, nothing_told fault)

run_nothing : (command : Command) (target : TargetValue) (report : ErrorReport) → (run_effect command target).answer ≡ answers.Failed report →
    (run_after command target ≡ target) × ((run_effect command target).events ≡ [])
run_nothing command target report same =
    let left : TargetValue = run_left command target in
    by_fault target left (run_fault command target.contexts) (run_given command target left) report (run_none command target left) same

data_nothing : (command : Command) (target : TargetValue) (report : ErrorReport) → (data_effect command target.contexts).answer ≡ answers.Failed report →
    (record target { contexts = data_after command target.contexts } ≡ target) × ((data_effect command target.contexts).events ≡ [])
data_nothing command target report same =
    let kept = failure_changes_nothing command target.contexts report same in (with_same target (data_after command target.contexts) kept.0, kept.1)

change_nothing : (target : TargetValue) (attached : List ℕ) (refused : Bool) (new : List Placed) (removed : List (List ℕ)) (added changed : List BpProps) (report : ErrorReport) →
    (effect_of attached (cond refused (Failed 1) (Changed removed added changed))).answer ≡ answers.Failed report →
    (record target { breakpoints = cond refused target.breakpoints new } ≡ target) × ((effect_of attached (cond refused (Failed 1) (Changed removed added changed))).events ≡ [])
change_nothing target attached true new removed added changed report same = (refl, refl)
change_nothing target attached false new removed added changed report same = absurd cc

changed_nothing : (channel : ℕ) (command : Command) (target : TargetValue) (report : ErrorReport) →
    (effect_of (attached_in target.contexts.processes) (done channel command target.breakpoints)).answer ≡ answers.Failed report →
    (breakpoints_after channel command target ≡ target) × ((effect_of (attached_in target.contexts.processes) (done channel command target.breakpoints)).events ≡ [])
changed_nothing channel command target report same =
    let rows = target.breakpoints in
    change_nothing target (attached_in target.contexts.processes) (is_refused channel command rows) (rows_after channel command rows)
    (removed_by channel command rows) (added_by command) (changed_by command rows) report same

pub failure_nothing : FailureChangesNothing
unfolding exec_effect exec_after
failure_nothing channel Sync target report same = (refl, refl)
failure_nothing channel GetPeers target report same = (refl, refl)
failure_nothing channel (Redirect peer) target report same = (refl, refl)
failure_nothing channel (GetContext id) target report same = run_nothing (GetContext id) target report same
failure_nothing channel (GetChildren id) target report same = run_nothing (GetChildren id) target report same
failure_nothing channel (GetState id) target report same = run_nothing (GetState id) target report same
failure_nothing channel (Resume id mode count) target report same = run_nothing (Resume id mode count) target report same
failure_nothing channel (Suspend id) target report same = run_nothing (Suspend id) target report same
failure_nothing channel (Terminate id) target report same = run_nothing (Terminate id) target report same
failure_nothing channel (BpSet list) target report same = changed_nothing channel (BpSet list) target report same
failure_nothing channel (BpAdd props) target report same = changed_nothing channel (BpAdd props) target report same
failure_nothing channel (BpChange props) target report same = changed_nothing channel (BpChange props) target report same
failure_nothing channel (BpEnable ids) target report same = changed_nothing channel (BpEnable ids) target report same
failure_nothing channel (BpDisable ids) target report same = changed_nothing channel (BpDisable ids) target report same
failure_nothing channel (BpRemove ids) target report same = changed_nothing channel (BpRemove ids) target report same
failure_nothing channel BpIds target report same = (refl, refl)
failure_nothing channel (BpProperties id) target report same = (refl, given_alone (ask_fault (BpProperties id) target) _)
failure_nothing channel (BpGetStatus id) target report same = (refl, given_alone (ask_fault (BpGetStatus id) target) _)
failure_nothing channel (BpCapabilities id) target report same = (refl, given_alone (ask_fault (BpCapabilities id) target) _)
failure_nothing channel (MemGet id addr word size mode) target report same = data_nothing (MemGet id addr word size mode) target report same
failure_nothing channel (MemSet id addr word size mode bytes) target report same = data_nothing (MemSet id addr word size mode bytes) target report same
failure_nothing channel (RegGet id) target report same = data_nothing (RegGet id) target report same
failure_nothing channel (RegSet id bytes) target report same = data_nothing (RegSet id bytes) target report same
failure_nothing channel (RegGetm list) target report same = data_nothing (RegGetm list) target report same
failure_nothing channel (RegSetm list bytes) target report same = data_nothing (RegSetm list bytes) target report same
failure_nothing channel (ProcContext id) target report same = run_nothing (ProcContext id) target report same
failure_nothing channel (ProcChildren id attached) target report same = run_nothing (ProcChildren id attached) target report same
failure_nothing channel (ProcStart directory file args environment attach) target report same =
    run_nothing (ProcStart directory file args environment attach) target report same
failure_nothing channel (ProcAttach id) target report same = run_nothing (ProcAttach id) target report same
failure_nothing channel (ProcDetach id) target report same = run_nothing (ProcDetach id) target report same
failure_nothing channel (ProcTerminate id) target report same = run_nothing (ProcTerminate id) target report same
failure_nothing channel (TraceRun id count) target report same = run_nothing (TraceRun id count) target report same
