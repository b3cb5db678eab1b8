-- What each command leaves is sound where the target was.
use Rattle.std.proofs.Common.{◌≡◌, ℕ, zero, suc, ℤ, pos, Bool, true, false, cond, List, [], ◌∷◌, ◌++◌, Option, Some, None, is_none, option_and_then, option_map, refl, sym, ◌∙◌, ap, subst, inl, inr}
use Rattle.std.specs.Option.{option_map_or}
use Rattle.std.specs.Prelude.{unsigned_abs}
use Rattle.tcf_values.specs.Faults.{first_fault}
use Rattle.tcf_values.specs.Ids.{context_of}
use Rattle.tcf_values.specs.declared.ids.ContextId.{ContextId}
use Rattle.tcf_values.specs.declared.ids.ContextId.TheVariants as ids
use Rattle.tcf_values.specs.declared.command.Command.TheVariants.{Resume, Suspend, Terminate, ProcStart, ProcAttach, ProcDetach, ProcTerminate, TraceRun}
use Rattle.tcf_values.specs.declared.faults.Fault.{Fault}
use Rattle.tcf_values.specs.declared.faults.Fault.TheVariants.{Other, AlreadyStopped, AlreadyRunning, BadContext, BadNumber, Unsupported}
use Rattle.breakpoints.specs.declared.rows.Placed.{Placed}
use Rattle.rv32i_core.specs.Machine.{Step, goes_on, ends, excepts, machine, spawns}
use Rattle.target_contexts.specs.Changes.{with_change}
use Rattle.target_contexts.specs.Images.{image_of}
use Rattle.target_contexts.specs.Live.{IsOrderly, process_of}
use Rattle.target_contexts.specs.Named.{is_running, is_suspended, is_unattached, number_for, number_named, process_at_number, runs, thread_at_pair, thread_for, thread_named}
use Rattle.target_contexts.specs.Starting.{new_process, suspended_text, with_started}
use Rattle.target_contexts.specs.TargetsValue.{TargetsValue}
use Rattle.target_contexts.specs.declared.process.Image.{Image}
use Rattle.target_contexts.specs.ProcessValue.{ProcessValue}
use Rattle.target_contexts.specs.Threads.{in_thread, thread_at}
use Rattle.target_contexts.specs.declared.threads.Thread.{Thread}
use Rattle.target_contexts.specs.declared.process.ThreadState.{ThreadState}
use Rattle.target_contexts.specs.declared.process.ThreadState.TheVariants.{Running, Suspended}
use Rattle.run_control.specs.Attaching.{attach_after, attached, detach_after, detached}
use Rattle.run_control.specs.Commands.{run_fault, run_left}
use Rattle.run_control.specs.Ending.{end_after}
use Rattle.run_control.specs.Executing.{hits_at, step_text, stepped}
use Rattle.run_control.specs.Laws.{AreSound, CommandsKeepSound, IsSound, IsSoundThread, needs_debugger}
use Rattle.run_control.specs.Naming.{is_empty, process_named}
use Rattle.run_control.specs.Steering.{is_no_count, is_no_mode, left_by, most_steps, owner_there, resume_after, resume_fault, suspend_after, suspend_fault, thread_there, with_state}
use Rattle.run_control.specs.TargetValue.{TargetValue, with_contexts}
use Rattle.run_control.specs.Tracing.{Trace, last_of, next_at, next_by, next_of, run_from, trace_after, trace_fate, trace_fault, trace_of, traced_at, up_to_hit}
use Rattle.target_contexts.proofs.TheLaws.{starts_one}
use Rattle.target_contexts.proofs.ThreadLists.{found_thread_is}
use Rattle.run_control.proofs.Changed.{changed_process, orderly_change, same_or_other}
use Rattle.run_control.proofs.Left.{by_keeps, left_keeps}
use Rattle.run_control.proofs.Soundness.{FateSound, attached_sound, fate_sound, sound_change, sound_end, sound_settled, stepped_attached, thread_sound}
use Rattle.list_laws.proofs.AllLists.{all_map}
use Rattle.list_laws.proofs.Flags.{not_false}

-- ---- what the checks say

first : (a : Bool) (x : Fault) (rest : Option Fault) → cond a (Some x) rest ≡ None → a ≡ false
first true x rest free = absurd cc
first false x rest free = refl

third : (a b c : Bool) (x y z : Fault) → first_fault ((a, x) ∷ (b, y) ∷ (c, z) ∷ []) ≡ None → c ≡ false
third true b c x y z free = absurd cc
third false true c x y z free = absurd cc
third false false true x y z free = absurd cc
third false false false x y z free = refl

fourth : (a b c d : Bool) (w x y z : Fault) → first_fault ((a, w) ∷ (b, x) ∷ (c, y) ∷ (d, z) ∷ []) ≡ None → d ≡ false
fourth true b c d w x y z free = absurd cc
fourth false true c d w x y z free = absurd cc
fourth false false true d w x y z free = absurd cc
fourth false false false true w x y z free = absurd cc
fourth false false false false w x y z free = refl

resume_stands : (id : List ℕ) (mode count : ℤ) (rows : List (ℕ × ProcessValue)) → resume_fault id mode count rows ≡ None → is_running (thread_there id rows) ≡ false
resume_stands id mode count rows free =
    fourth (is_none (thread_there id rows)) (is_no_mode mode) (is_no_count (most_steps mode) count) (is_running (thread_there id rows)) BadContext Unsupported BadNumber AlreadyRunning free

suspend_attached : (id : List ℕ) (rows : List (ℕ × ProcessValue)) → suspend_fault id rows ≡ None → is_unattached (owner_there id rows) ≡ false
suspend_attached id rows free =
    third (is_none (thread_there id rows)) (is_suspended (thread_there id rows)) (is_unattached (owner_there id rows)) BadContext AlreadyStopped Other free

trace_stands : (id : List ℕ) (count : ℤ) (rows : List (ℕ × ProcessValue)) → trace_fault id count rows ≡ None → is_running (thread_there id rows) ≡ false
trace_stands id count rows free =
    third (is_none (thread_there id rows)) (is_no_count (pos 64) count) (is_running (thread_there id rows)) BadContext BadNumber AlreadyRunning free

trace_there : (id : List ℕ) (count : ℤ) (rows : List (ℕ × ProcessValue)) → trace_fault id count rows ≡ None → is_none (thread_there id rows) ≡ false
trace_there id count rows free = first (is_none (thread_there id rows)) BadContext _ free

runs_needs : (state : ThreadState) → runs state ≡ false → needs_debugger state ≡ true
runs_needs (Running left) stands = absurd cc
runs_needs (Suspended reason hits) stands = refl

-- a thread that doesn't run has an attached process
pair_same : (rows : List (ℕ × ProcessValue)) (named : Option (ℕ × ℕ)) (pair : ℕ × ℕ) (p : ProcessValue) → named ≡ Some pair → process_of pair.0 rows ≡ Some p → thread_at_pair named rows ≡ thread_at pair.1 p
pair_same rows named pair p is there =
    ap (λ (m : Option (ℕ × ℕ)). thread_at_pair m rows) is ∙ ap (λ (o : Option ProcessValue). option_and_then (thread_at pair.1) o) there

stands_attached : (rows : List (ℕ × ProcessValue)) (named : Option (ℕ × ℕ)) (pair : ℕ × ℕ) (p : ProcessValue) (t : Thread) → AreSound rows → is_running (thread_at_pair named rows) ≡ false → named ≡ Some pair → process_of pair.0 rows ≡ Some p
    → thread_at pair.1 p ≡ Some t → p.attached ≡ true
stands_attached rows named pair p t sound stands is there found =
    found_thread_is (IsSoundThread p.attached) pair.1 t p found (sound pair.0 p there)
    (runs_needs t.state (sym (ap is_running (pair_same rows named pair p is there ∙ found)) ∙ stands))

-- where it is there
stands_by : (rows : List (ℕ × ProcessValue)) (named : Option (ℕ × ℕ)) (pair : ℕ × ℕ) (p : ProcessValue) (found : Option Thread) → thread_at pair.1 p ≡ found → AreSound rows → is_none (thread_at_pair named rows) ≡ false
    → is_running (thread_at_pair named rows) ≡ false → named ≡ Some pair → process_of pair.0 rows ≡ Some p → p.attached ≡ true
stands_by rows named pair p None found sound some stands is there =
    let none : true ≡ false = sym (ap is_none (pair_same rows named pair p is there ∙ found)) ∙ some in absurd cc
stands_by rows named pair p (Some t) found sound some stands is there = stands_attached rows named pair p t sound stands is there found

-- the process of a thread's ID is that of the thread
same_number : (context : Option ContextId) (pair : ℕ × ℕ) → option_and_then thread_for context ≡ Some pair → option_map number_for context ≡ Some pair.0
same_number None pair is = absurd cc
same_number (Some (ids.Process number)) pair is = absurd cc
same_number (Some (ids.Thread number n)) pair is = let same : (number, n) ≡ pair = cc in ap (λ (q : ℕ × ℕ). Some q.0) same

not_unattached : (rows : List (ℕ × ProcessValue)) (named : Option ℕ) (n : ℕ) (p : ProcessValue) → is_unattached (process_at_number named rows) ≡ false → named ≡ Some n → process_of n rows ≡ Some p → p.attached ≡ true
not_unattached rows named n p checked is there =
    not_false p.attached (sym (ap is_unattached there) ∙ sym (ap (λ (m : Option ℕ). is_unattached (process_at_number m rows)) is) ∙ checked)

-- ---- a trace

next_by_attached : (step : Step) (after q : ProcessValue) → next_by step after ≡ Some q → after ≡ q
next_by_attached (goes_on cpu memory) after q is = cc
next_by_attached (ends code) after q is = absurd cc
next_by_attached (spawns entry argument) after q is = cc
next_by_attached excepts after q is = absurd cc

next_at_attached : (n : ℕ) (found : Option Thread) (p q : ProcessValue) → next_at n found p ≡ Some q → stepped n p ≡ q
next_at_attached n None p q is = cc
next_at_attached n (Some thread) p q is = next_by_attached (machine thread.cpu p.memory) (stepped n p) q is

next_attached : (n : ℕ) (p q : ProcessValue) → next_of n p ≡ Some q → q.attached ≡ p.attached
next_attached n p q is =
    sym (ap (λ (r : ProcessValue). r.attached) (next_at_attached n (thread_at n p) p q is)) ∙ stepped_attached n p

last_by : (bps : List Placed) (number n count : ℕ) (p q : ProcessValue) (quiet : Bool) → q.attached ≡ p.attached → ((r : ProcessValue) → (last_of r (up_to_hit bps number n (run_from n count r))).attached ≡ r.attached) → (last_of p (q ∷ cond quiet (up_to_hit bps number n (run_from n count q)) [])).attached ≡ p.attached
last_by bps number n count p q true same rest = rest q ∙ same
last_by bps number n count p q false same rest = same

last_next : (bps : List Placed) (number n count : ℕ) (p : ProcessValue) (next : Option ProcessValue) → ((q : ProcessValue) → next ≡ Some q → q.attached ≡ p.attached) → ((r : ProcessValue) → (last_of r (up_to_hit bps number n (run_from n count r))).attached ≡ r.attached) → (last_of p (up_to_hit bps number n (option_map_or (λ q. q ∷ run_from n count q) next []))).attached ≡ p.attached
last_next bps number n count p None same rest = refl
last_next bps number n count p (Some q) same rest = last_by bps number n count p q (is_empty (hits_at bps number n q)) (same q refl) rest

last_attached : (bps : List Placed) (number n count : ℕ) (p : ProcessValue) → (last_of p (up_to_hit bps number n (run_from n count p))).attached ≡ p.attached
last_attached bps number n zero p = refl
last_attached bps number n (suc count) p = last_next bps number n count p (next_of n p) (next_attached n p) (last_attached bps number n count)

some_same : (p q : ProcessValue) (found : Option ProcessValue) → found ≡ Some p → Some q ≡ found → p ≡ q
some_same p q found there is = cc

trace_at : (number n count : ℕ) (target : TargetValue) (found : Option ProcessValue) → process_of number target.contexts.processes ≡ found → ((p : ProcessValue) → found ≡ Some p → p.attached ≡ true)
    → IsOrderly target.contexts.processes target.contexts.next → AreSound target.contexts.processes → AreSound (traced_at number n count found target).contexts.processes
trace_at number n count target None there checked orderly sound = sound
trace_at number n count target (Some p) there checked orderly sound =
    let targets : TargetsValue = target.contexts in
    let bps : List Placed = target.breakpoints in
    let trace : Trace = trace_of bps number n count p in
    let change = λ (q : ProcessValue). trace.process in
    let after : TargetsValue = with_change change number targets in
    let mine : p.attached ≡ true = checked p refl in
    let last : trace.process.attached ≡ p.attached = last_attached bps number n count p in
    sound_settled number n (trace_fate p trace) (with_contexts (with_change change number) target) (orderly_change change number targets orderly)
    (λ q found. subst (FateSound (trace_fate p trace))
    (sym (ap (λ (r : ProcessValue). r.attached) (some_same q trace.process (process_of number after.processes) found (ap (option_map change) (sym there) ∙ sym (changed_process change number targets))) ∙ last))
    (fate_sound (Suspended step_text []) p.attached trace.stop (λ _. mine) (λ hits hit. mine)))
    (sound_change change number targets (λ q found. attached_sound trace.process (last ∙ mine)) sound)

-- ---- a start

new_sound : (attach : Bool) (image : Image) → IsSound (new_process attach image)
new_sound true image = ((λ needs. refl), tt)
new_sound false image = ((λ needs. absurd cc), tt)

start_sound : (attach : Bool) (targets : TargetsValue) (image : Option Image) → IsOrderly targets.processes targets.next → AreSound targets.processes → AreSound (with_started attach targets image).processes
start_sound attach targets None orderly sound = sound
start_sound attach targets (Some image) orderly sound = λ other p there.
    let new : ProcessValue = new_process attach image in
    let rows : List (ℕ × ProcessValue) = targets.processes ++ (targets.next, new) ∷ [] in
    let law = starts_one targets.processes targets.next new orderly in
    elim (same_or_other other targets.next) [
      | inl same ↦ subst IsSound (sym (some_same p new (process_of targets.next rows) (ap (λ (m : ℕ). process_of m rows) (sym same) ∙ there) (sym law.0))) (new_sound attach image)
      | inr differ ↦ sound other p (sym (law.1 other differ) ∙ there)
    ]

-- ---- each command

detached_sound : (process : ProcessValue) → IsSound (detached process)
detached_sound process = all_map (IsSoundThread false) (with_state (Running None)) process.threads (λ thread needs. absurd cc)

abbrev SoundTargets : TargetsValue → Type 0
SoundTargets targets = AreSound targets.processes

abbrev SoundTarget : TargetValue → Type 0
SoundTarget target = AreSound target.contexts.processes

pub commands_sound : CommandsKeepSound
commands_sound (Resume id mode count) target orderly sound =
    let targets : TargetsValue = target.contexts in
    let rows = targets.processes in
    let state : ThreadState = Running (left_by mode count) in
    by_keeps SoundTarget (run_fault (Resume id mode count) targets) (run_left (Resume id mode count) target) target (λ free.
    left_keeps SoundTargets (λ pair. resume_after (left_by mode count) pair.0 pair.1) (thread_named id) targets (λ pair is.
    sound_change (in_thread (with_state state) pair.1) pair.0 targets (λ p there.
    thread_sound (with_state state) pair.1 p (λ t found was needs.
    stands_attached rows (thread_named id) pair p t sound (resume_stands id mode count rows free) is there found) (sound pair.0 p there)) sound) sound) sound
commands_sound (Suspend id) target orderly sound =
    let targets : TargetsValue = target.contexts in
    let rows = targets.processes in
    let state : ThreadState = Suspended suspended_text [] in
    by_keeps SoundTarget (run_fault (Suspend id) targets) (run_left (Suspend id) target) target (λ free.
    left_keeps SoundTargets (λ pair. suspend_after pair.0 pair.1) (thread_named id) targets (λ pair is.
    sound_change (in_thread (with_state state) pair.1) pair.0 targets (λ p there.
    thread_sound (with_state state) pair.1 p (λ t found was needs.
    not_unattached rows (number_named id) pair.0 p (suspend_attached id rows free) (same_number (context_of id) pair is) there) (sound pair.0 p there)) sound) sound) sound
commands_sound (Terminate id) target orderly sound =
    by_keeps SoundTarget (run_fault (Terminate id) target.contexts) (run_left (Terminate id) target) target (λ free.
    left_keeps SoundTarget end_after (number_named id) target (λ n is. sound_end n target.contexts orderly sound) sound) sound
commands_sound (ProcStart directory file args environment attach) target orderly sound =
    by_keeps SoundTarget (run_fault (ProcStart directory file args environment attach) target.contexts) (run_left (ProcStart directory file args environment attach) target) target (λ free.
    start_sound attach target.contexts (image_of file target.contexts.images) orderly sound) sound
commands_sound (ProcAttach id) target orderly sound =
    by_keeps SoundTarget (run_fault (ProcAttach id) target.contexts) (run_left (ProcAttach id) target) target (λ free.
    left_keeps SoundTarget attach_after (process_named id) target (λ n is. sound_change attached n target.contexts (λ p there. attached_sound (attached p) refl) sound) sound) sound
commands_sound (ProcDetach id) target orderly sound =
    by_keeps SoundTarget (run_fault (ProcDetach id) target.contexts) (run_left (ProcDetach id) target) target (λ free.
    left_keeps SoundTarget detach_after (process_named id) target (λ n is. sound_change detached n target.contexts (λ p there. detached_sound p) sound) sound) sound
commands_sound (ProcTerminate id) target orderly sound =
    by_keeps SoundTarget (run_fault (ProcTerminate id) target.contexts) (run_left (ProcTerminate id) target) target (λ free.
    left_keeps SoundTarget end_after (process_named id) target (λ n is. sound_end n target.contexts orderly sound) sound) sound
commands_sound (TraceRun id count) target orderly sound =
    let rows = target.contexts.processes in
    by_keeps SoundTarget (run_fault (TraceRun id count) target.contexts) (run_left (TraceRun id count) target) target (λ free.
    left_keeps SoundTarget (λ pair. trace_after (unsigned_abs count) pair.0 pair.1) (thread_named id) target (λ pair is.
    trace_at pair.0 pair.1 (unsigned_abs count) target (process_of pair.0 rows) refl (λ p there.
    stands_by rows (thread_named id) pair p (thread_at pair.1 p) refl sound (trace_there id count rows free) (trace_stands id count rows free) is there) orderly sound) sound) sound
commands_sound command target orderly sound =
    by_keeps SoundTarget (run_fault command target.contexts) target target (λ free. sound) sound
