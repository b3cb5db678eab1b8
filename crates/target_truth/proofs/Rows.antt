-- Each command: its events tell what it changes, and its answer is so of the target that it leaves.
use Rattle.std.proofs.Common.{ℕ, Option, Some, None, refl, sym, subst}
use Rattle.command_tables.specs.Canonical.{IsReadable}
use Rattle.data_services.specs.Commands.{data_fault}
use Rattle.knowledge.specs.Learning.{Message}
use Rattle.reply_tables.specs.Written.{answer_data}
use Rattle.run_control.specs.Commands.{run_fault}
use Rattle.target_contexts.specs.Changes.{targets_by}
use Rattle.target_contexts.specs.TargetsValue.{TargetsValue}
use Rattle.target_hub.specs.BreakpointsRows.{ask_fault}
use Rattle.target_hub.specs.Execution.{exec_after, exec_effect}
use Rattle.run_control.specs.TargetValue.{TargetValue, target_by}
use Rattle.target_truth.proofs.Answering.{unheard}
use Rattle.target_truth.proofs.Becoming.{with_contexts}
use Rattle.target_truth.proofs.Changes.{Moves}
use Rattle.target_truth.proofs.RowsAsk.{get_children, get_context, get_memory, get_properties, get_register, get_registers, get_state, get_status, reply}
use Rattle.target_truth.proofs.RowsBreakpoints.{add, change, disable, enable, remove, set}
use Rattle.target_truth.proofs.RowsData.{set_memory, set_register, set_registers}
use Rattle.target_truth.proofs.RowsRun.{Tells, attach, detach, resume, start, suspend, terminate, terminate_process}
use Rattle.target_truth.proofs.RowsTrace.{trace}
use Rattle.target_truth.proofs.Faults.{by_fault, run_by_fault}
use Rattle.target_truth.proofs.Tells.{Tell}
use Rattle.target_truth.proofs.Whole.{IsGood}
use Rattle.tcf_values.specs.Effects.{effect_by, failed, gives}
use Rattle.tcf_values.specs.declared.answer.Answer.{Answer}
use Rattle.tcf_values.specs.declared.command.Command.{Command}
use Rattle.tcf_values.specs.declared.command.Command.TheVariants.{Sync, GetPeers, Redirect, GetContext, GetChildren, GetState, Resume, Suspend, Terminate, BpSet, BpAdd, BpChange, BpEnable, BpDisable, BpRemove, BpIds, BpProperties, BpGetStatus, BpCapabilities, MemGet, MemSet, RegGet, RegSet, RegGetm, RegSetm, ProcContext, ProcChildren, ProcStart, ProcAttach, ProcDetach, ProcTerminate, TraceRun}
use Rattle.tcf_values.specs.declared.faults.Fault.{Fault}
use Rattle.target_hub.proofs.Unchanged.{same_by, same_target}

-- ---- events

-- a command that asks changes nothing and tells nothing
asks : (fault : Option Fault) (target : TargetValue) (answer : Answer) → Tell target (with_contexts (targets_by fault target.contexts target.contexts) target) (effect_by fault (gives answer)).events
asks fault target answer = by_fault fault target target.contexts (gives answer) (λ none fact knows. knows)

-- nor does one of run control
run_asks : (fault : Option Fault) (target : TargetValue) (answer : Answer) → Tell target (target_by fault target target) (effect_by fault (gives answer)).events
run_asks fault target answer = run_by_fault fault target target (gives answer) (λ none fact knows. knows)

quiet : (fault : Option Fault) (target : TargetValue) (answer : Answer) → Tell target target (effect_by fault (gives answer)).events
unfolding failed
quiet None target answer = λ fact knows. knows
quiet (Some fault) target answer = λ fact knows. knows

pub events_tell : (channel : ℕ) (command : Command) (target : TargetValue) → IsGood target → IsReadable command → Tells channel command target
unfolding exec_after exec_effect
events_tell channel Sync target good readable = λ fact knows. knows
events_tell channel GetPeers target good readable = λ fact knows. knows
events_tell channel (Redirect peer) target good readable = λ fact knows. knows
events_tell channel (GetContext id) target good readable = run_asks (run_fault (GetContext id) target.contexts) target _
events_tell channel (GetChildren id) target good readable = run_asks (run_fault (GetChildren id) target.contexts) target _
events_tell channel (GetState id) target good readable = run_asks (run_fault (GetState id) target.contexts) target _
events_tell channel (Resume id mode count) target good readable = resume channel id mode count target good
events_tell channel (Suspend id) target good readable = suspend channel id target good
events_tell channel (Terminate id) target good readable = terminate channel id target good
events_tell channel (BpSet list) target good readable = set channel list target good readable
events_tell channel (BpAdd props) target good readable = add channel props target good readable
events_tell channel (BpChange props) target good readable = change channel props target good readable
events_tell channel (BpEnable ids) target good readable = enable channel ids target good
events_tell channel (BpDisable ids) target good readable = disable channel ids target good
events_tell channel (BpRemove ids) target good readable = remove channel ids target good
events_tell channel BpIds target good readable = λ fact knows. knows
events_tell channel (BpProperties id) target good readable = quiet (ask_fault (BpProperties id) target) target _
events_tell channel (BpGetStatus id) target good readable = quiet (ask_fault (BpGetStatus id) target) target _
events_tell channel (BpCapabilities id) target good readable = quiet (ask_fault (BpCapabilities id) target) target _
events_tell channel (MemGet id addr word size mode) target good readable = asks (data_fault (MemGet id addr word size mode) target.contexts) target _
events_tell channel (MemSet id addr word size mode bytes) target good readable = set_memory channel id addr word size mode bytes target good readable
events_tell channel (RegGet id) target good readable = asks (data_fault (RegGet id) target.contexts) target _
events_tell channel (RegSet id bytes) target good readable = set_register channel id bytes target good
events_tell channel (RegGetm list) target good readable = asks (data_fault (RegGetm list) target.contexts) target _
events_tell channel (RegSetm list bytes) target good readable = set_registers channel list bytes target good
events_tell channel (ProcContext id) target good readable = run_asks (run_fault (ProcContext id) target.contexts) target _
events_tell channel (ProcChildren id attached) target good readable = run_asks (run_fault (ProcChildren id attached) target.contexts) target _
events_tell channel (ProcStart directory file args environment attach) target good readable = start channel directory file args environment attach target good
events_tell channel (ProcAttach id) target good readable = attach channel id target good
events_tell channel (ProcDetach id) target good readable = detach channel id target good
events_tell channel (ProcTerminate id) target good readable = terminate_process channel id target good
events_tell channel (TraceRun id count) target good readable = trace channel id count target good

-- ---- answers

-- of a command that asks, of the same target
asked : (fault : Option Fault) (target : TargetValue) (message : Message) → Moves target target message
    → Moves (with_contexts (targets_by fault target.contexts target.contexts) target) (with_contexts (targets_by fault target.contexts target.contexts) target) message
asked fault target message moves = subst (λ (contexts : TargetsValue). Moves (with_contexts contexts target) (with_contexts contexts target) message) (sym (same_by fault target.contexts)) moves

run_asked : (fault : Option Fault) (target : TargetValue) (message : Message) → Moves target target message → Moves (target_by fault target target) (target_by fault target target) message
run_asked fault target message moves = subst (λ (left : TargetValue). Moves left left message) (sym (same_target fault target)) moves

pub answers_so : (channel : ℕ) (command : Command) (target : TargetValue) → IsGood target → IsReadable command
    → Moves (exec_after channel command target) (exec_after channel command target) (reply channel command target)
unfolding exec_after
answers_so channel (GetContext id) target good readable = run_asked (run_fault (GetContext id) target.contexts) target _ (get_context channel id target good)
answers_so channel (GetChildren id) target good readable = run_asked (run_fault (GetChildren id) target.contexts) target _ (get_children channel id target good)
answers_so channel (GetState id) target good readable = run_asked (run_fault (GetState id) target.contexts) target _ (get_state channel id target good)
answers_so channel (BpProperties id) target good readable = get_properties channel id target good
answers_so channel (BpGetStatus id) target good readable = get_status channel id target good
answers_so channel (MemGet id addr word size mode) target good readable =
    asked (data_fault (MemGet id addr word size mode) target.contexts) target _ (get_memory channel id addr word size mode target good)
answers_so channel (RegGet id) target good readable = asked (data_fault (RegGet id) target.contexts) target _ (get_register channel id target good)
answers_so channel (RegGetm list) target good readable = asked (data_fault (RegGetm list) target.contexts) target _ (get_registers channel list target good readable)
answers_so channel command target good readable = unheard (exec_after channel command target) command (answer_data command (exec_effect channel command target).answer) (λ answer. refl)
