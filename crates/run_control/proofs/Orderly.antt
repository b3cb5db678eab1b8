-- The processes stay orderly through each command and each tick.
use Rattle.std.proofs.Common.{◌≡◌, ℕ, ◌^◌, ◌<◌, Bool, true, false, cond, [], length, nat_le, nat_lt, leb-false, Option, Some, None, option_map, refl, arith}
use Rattle.std.specs.Option.{option_map_or, option_or}
use Rattle.std.specs.Prelude.{unsigned_abs}
use Rattle.std.proofs.lemmas.Bool.{ltb-false}
use Rattle.tcf_values.specs.declared.command.Command.{Command}
use Rattle.tcf_values.specs.declared.command.Command.TheVariants.{Resume, Suspend, Terminate, ProcStart, ProcAttach, ProcDetach, ProcTerminate, TraceRun}
use Rattle.tcf_values.specs.declared.ids.ContextId.{ContextId}
use Rattle.target_contexts.specs.Changes.{with_change}
use Rattle.target_contexts.specs.Images.{image_of}
use Rattle.target_contexts.specs.Live.{IsOrderly, process_of}
use Rattle.target_contexts.specs.Named.{number_named, thread_named}
use Rattle.target_contexts.specs.Starting.{bytes_refusal, new_process, refusal_for, suspended_text, with_started}
use Rattle.target_contexts.specs.TargetsValue.{TargetsValue}
use Rattle.target_contexts.specs.declared.process.Image.{Image}
use Rattle.target_contexts.specs.ProcessValue.{ProcessValue}
use Rattle.target_contexts.specs.Threads.{in_thread}
use Rattle.target_contexts.specs.declared.process.ThreadState.TheVariants.{Running, Suspended}
use Rattle.target_contexts.specs.declared.targets.StartRefusal.{StartRefusal}
use Rattle.target_contexts.specs.declared.targets.StartRefusal.TheVariants.{Full, Numbers}
use Rattle.run_control.specs.Attaching.{attach_after, attached, detach_after, detached, start_fault_for}
use Rattle.run_control.specs.Commands.{run_after, run_fault, run_left}
use Rattle.run_control.specs.Ending.{end_after, ended}
use Rattle.run_control.specs.Executing.{settled, stepped}
use Rattle.run_control.specs.Naming.{process_named}
use Rattle.run_control.specs.Steering.{left_by, resume_after, suspend_after, with_state}
use Rattle.run_control.specs.TargetValue.{TargetValue, with_contexts}
use Rattle.run_control.specs.Ticking.{executed_after, running_pair, tick_after, tick_fate, ticked, ticked_at}
use Rattle.run_control.specs.Tracing.{Trace, trace_after, trace_fate, trace_of, traced_at}
use Rattle.run_control.specs.declared.executing.Fate.{Fate}
use Rattle.run_control.specs.declared.executing.Fate.TheVariants.{Ends, Lives}
use Rattle.target_contexts.proofs.TheLaws.{end_stays_orderly, start_stays_orderly}
use Rattle.run_control.proofs.Changed.{orderly_change}
use Rattle.run_control.proofs.Left.{by_keeps, left_keeps}

abbrev pub AreOrderly : TargetsValue → Type 0
AreOrderly targets = IsOrderly targets.processes targets.next

-- ---- an end, and what becomes of a process

end_orderly : (n : ℕ) (targets : TargetsValue) → AreOrderly targets → AreOrderly (ended n targets)
end_orderly n targets orderly = end_stays_orderly targets.processes targets.next n orderly

settled_orderly : (number n : ℕ) (fate : Fate) (target : TargetValue) → AreOrderly target.contexts → AreOrderly (settled number n fate target).contexts
settled_orderly number n (Ends code) target orderly = end_orderly number target.contexts orderly
settled_orderly number n (Lives state hits) target orderly = orderly_change (in_thread (with_state state) n) number target.contexts orderly

ticked_orderly : (number n : ℕ) (found : Option ProcessValue) (target : TargetValue) → AreOrderly target.contexts → AreOrderly (ticked_at number n found target).contexts
ticked_orderly number n None target orderly = orderly
ticked_orderly number n (Some process) target orderly =
    settled_orderly number n (tick_fate target.breakpoints number n process) (executed_after number n process target) (orderly_change (stepped n) number target.contexts orderly)

trace_orderly : (number n count : ℕ) (found : Option ProcessValue) (target : TargetValue) → AreOrderly target.contexts → AreOrderly (traced_at number n count found target).contexts
trace_orderly number n count None target orderly = orderly
trace_orderly number n count (Some process) target orderly =
    let trace : Trace = trace_of target.breakpoints number n count process in
    let change = λ (q : ProcessValue). trace.process in
    settled_orderly number n (trace_fate process trace) (with_contexts (with_change change number) target) (orderly_change change number target.contexts orderly)

-- ---- a start that isn't refused

no_fault : (refusal : Option StartRefusal) → option_map start_fault_for refusal ≡ None → refusal ≡ None
no_fault None free = refl
no_fault (Some refusal) free = absurd cc

room_by : (full : Bool) (refused : Option StartRefusal) (used : Bool) → cond full (Some Full) (option_or refused (cond used (Some Numbers) None)) ≡ None → (full ≡ false) × (used ≡ false)
room_by true refused used free = absurd cc
room_by false (Some refusal) used free = absurd cc
room_by false None true free = absurd cc
room_by false None false free = (refl, refl)

start_orderly : (attach : Bool) (targets : TargetsValue) (image : Option Image) → refusal_for image (length targets.processes) targets.next ≡ None → AreOrderly targets → AreOrderly (with_started attach targets image)
start_orderly attach targets None free orderly = orderly
start_orderly attach targets (Some image) free orderly =
    let room = room_by (nat_le 64 (length targets.processes)) (bytes_refusal image.bytes) (nat_lt 4294967295 targets.next) free in
    let few : length targets.processes < 64 = leb-false 64 (length targets.processes) room.0 in
    let small : targets.next < 2 ^ 32 = omega (arith, ltb-false 4294967295 targets.next room.1) in
    start_stays_orderly targets.processes targets.next (new_process attach image) orderly few small

-- ---- each command, and each tick

abbrev OrderlyTarget : TargetValue → Type 0
OrderlyTarget target = AreOrderly target.contexts

run_left_orderly : (command : Command) (target : TargetValue) → AreOrderly target.contexts → run_fault command target.contexts ≡ None → AreOrderly (run_left command target).contexts
run_left_orderly (Resume id mode count) target orderly free =
    left_keeps AreOrderly (λ pair. resume_after (left_by mode count) pair.0 pair.1) (thread_named id) target.contexts
    (λ pair is. orderly_change (in_thread (with_state (Running (left_by mode count))) pair.1) pair.0 target.contexts orderly) orderly
run_left_orderly (Suspend id) target orderly free =
    left_keeps AreOrderly (λ pair. suspend_after pair.0 pair.1) (thread_named id) target.contexts
    (λ pair is. orderly_change (in_thread (with_state (Suspended suspended_text [])) pair.1) pair.0 target.contexts orderly) orderly
run_left_orderly (Terminate id) target orderly free =
    left_keeps OrderlyTarget end_after (number_named id) target (λ n is. end_orderly n target.contexts orderly) orderly
run_left_orderly (ProcStart directory file args environment attach) target orderly free =
    let targets : TargetsValue = target.contexts in
    start_orderly attach targets (image_of file targets.images) (no_fault (refusal_for (image_of file targets.images) (length targets.processes) targets.next) free) orderly
run_left_orderly (ProcAttach id) target orderly free =
    left_keeps OrderlyTarget attach_after (process_named id) target (λ n is. orderly_change attached n target.contexts orderly) orderly
run_left_orderly (ProcDetach id) target orderly free =
    left_keeps OrderlyTarget detach_after (process_named id) target (λ n is. orderly_change detached n target.contexts orderly) orderly
run_left_orderly (ProcTerminate id) target orderly free =
    left_keeps OrderlyTarget end_after (process_named id) target (λ n is. end_orderly n target.contexts orderly) orderly
run_left_orderly (TraceRun id count) target orderly free =
    left_keeps OrderlyTarget (λ pair. trace_after (unsigned_abs count) pair.0 pair.1) (thread_named id) target
    (λ pair is. trace_orderly pair.0 pair.1 (unsigned_abs count) (process_of pair.0 target.contexts.processes) target orderly) orderly
run_left_orderly command target orderly free = orderly

pub run_orderly : (command : Command) (target : TargetValue) → AreOrderly target.contexts → AreOrderly (run_after command target).contexts
run_orderly command target orderly =
    by_keeps OrderlyTarget (run_fault command target.contexts) (run_left command target) target (run_left_orderly command target orderly) orderly

tick_named : (pair : Option (ℕ × ℕ)) (target : TargetValue) → AreOrderly target.contexts → AreOrderly (option_map_or (λ p. ticked p.0 p.1 target) pair target).contexts
tick_named None target orderly = orderly
tick_named (Some pair) target orderly = ticked_orderly pair.0 pair.1 (process_of pair.0 target.contexts.processes) target orderly

pub tick_orderly : (thread : ContextId) (target : TargetValue) → AreOrderly target.contexts → AreOrderly (tick_after thread target).contexts
tick_orderly thread target orderly = tick_named (running_pair thread target.contexts.processes) target orderly
