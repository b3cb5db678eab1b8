-- A suspended thread's process is attached, and so is that of a thread whose instructions are counted.
use Rattle.std.proofs.Common.{◌≡◌, ℕ, Bool, true, false, cond, List, [], ◌∷◌, ◌++◌, Option, Some, None, option_map, refl, sym, ◌∙◌, ap, subst, inl, inr}
use Rattle.breakpoints.specs.declared.rows.Placed.{Placed}
use Rattle.rv32i_core.specs.Machine.{Step, goes_on, ends, excepts, machine, spawns}
use Rattle.breakpoints.specs.Counting.{stops_at}
use Rattle.target_contexts.specs.Changes.{with_change}
use Rattle.target_contexts.specs.Live.{IsOrderly, process_of, without}
use Rattle.target_contexts.specs.TargetsValue.{TargetsValue}
use Rattle.target_contexts.specs.ProcessValue.{ProcessValue}
use Rattle.target_contexts.specs.Spawning.{begun_thread, can_begin, with_begun}
use Rattle.target_contexts.specs.Threads.{in_thread, thread_at}
use Rattle.target_contexts.specs.declared.threads.Thread.{Thread}
use Rattle.target_contexts.specs.declared.process.ThreadState.{ThreadState}
use Rattle.target_contexts.specs.declared.process.ThreadState.TheVariants.{Running, Suspended}
use Rattle.run_control.specs.Ending.{ended}
use Rattle.run_control.specs.Executing.{fate_by, halt_at, halt_by, halt_of, hits_at, result_for, settled, stepped, stepped_at, stepped_by, with_cpu, with_result}
use Rattle.run_control.specs.Laws.{AreSound, IsSound, IsSoundThread, needs_debugger}
use Rattle.run_control.specs.Steering.{with_state}
use Rattle.run_control.specs.TargetValue.{TargetValue}
use Rattle.run_control.specs.Ticking.{counted, counted_by, counted_in, executed_after, hit_state, is_stopped, stops_in, tick_fate, tick_fate_by, ticked, ticked_at, with_hits}
use Rattle.run_control.specs.declared.executing.Executed.{Executed}
use Rattle.run_control.specs.declared.executing.Executed.TheVariants.{Plain, Hit, Exit, Exception}
use Rattle.run_control.specs.declared.executing.Fate.{Fate}
use Rattle.run_control.specs.declared.executing.Fate.TheVariants.{Ends, Lives}
use Rattle.target_contexts.proofs.TheLaws.{ends_one}
use Rattle.target_contexts.proofs.ThreadLists.{each_thread_keeps, found_thread_is}
use Rattle.list_laws.proofs.AllLists.{all_append, all_each}
use Rattle.run_control.proofs.Changed.{changed_process, live_found, orderly_change, others_stay, same_or_other}

-- ---- a change, and an end

changed_sound : (change : ProcessValue → ProcessValue) (found : Option ProcessValue) (process : ProcessValue) → ((p : ProcessValue) → found ≡ Some p → IsSound (change p)) → option_map change found ≡ Some process → IsSound process
changed_sound change None process keeps there = absurd cc
changed_sound change (Some p) process keeps there =
    let same : change p ≡ process = cc in subst IsSound same (keeps p refl)

-- where the changed process is sound, all are
pub sound_change : (change : ProcessValue → ProcessValue) (n : ℕ) (targets : TargetsValue) → ((p : ProcessValue) → process_of n targets.processes ≡ Some p → IsSound (change p)) → AreSound targets.processes → AreSound (with_change change n targets).processes
sound_change change n targets keeps sound other process there =
    elim (same_or_other other n) [
      | inl same ↦ changed_sound change (process_of n targets.processes) process keeps
          (sym (changed_process change n targets) ∙ ap (λ (m : ℕ). process_of m (with_change change n targets).processes) (sym same) ∙ there)
      | inr differ ↦ sound other process (sym (others_stay change n other targets differ) ∙ there)
    ]

-- the others stay sound
pub sound_end : (n : ℕ) (targets : TargetsValue) → IsOrderly targets.processes targets.next → AreSound targets.processes → AreSound (ended n targets).processes
sound_end n targets orderly sound other process there =
    let gone = ends_one targets.processes targets.next n orderly in
    elim (same_or_other other n) [
      | inl same ↦ absurd (gone.0 (live_found n (without n targets.processes) process (ap (λ (m : ℕ). process_of m (without n targets.processes)) (sym same) ∙ there)))
      | inr differ ↦ sound other process (sym (gone.1 other differ) ∙ there)
    ]

-- ---- what becomes of a process

abbrev pub FateSound : Fate → Bool → Type 0
FateSound (Ends code) attached = Unit {0}
FateSound (Lives state hits) attached = needs_debugger state ≡ true → attached ≡ true

exception_fate : (attached : Bool) (plain : ThreadState) → FateSound (fate_by plain attached Exception) attached
exception_fate true plain = λ _. refl
exception_fate false plain = tt

pub fate_sound : (plain : ThreadState) (attached : Bool) (executed : Executed) → (needs_debugger plain ≡ true → attached ≡ true) → ((hits : List (List ℕ)) → executed ≡ Hit hits → attached ≡ true) → FateSound (fate_by plain attached executed) attached
fate_sound plain attached Plain given hit = given
fate_sound plain attached (Hit hits) given hit = λ _. hit hits refl
fate_sound plain attached (Exit code) given hit = tt
fate_sound plain attached Exception given hit = exception_fate attached plain

begun_attached : (can : Bool) (entry argument : ℕ) (process : ProcessValue) → (cond can (record process { threads = process.threads ++ begun_thread entry argument ∷ [] }) process).attached ≡ process.attached
begun_attached true entry argument process = refl
begun_attached false entry argument process = refl

stepped_by_attached : (step : Step) (n : ℕ) (process : ProcessValue) → (stepped_by step n process).attached ≡ process.attached
stepped_by_attached (goes_on cpu memory) n process = refl
stepped_by_attached (ends code) n process = refl
stepped_by_attached (spawns entry argument) n process = begun_attached (can_begin entry process) entry argument process
stepped_by_attached excepts n process = refl

stepped_at_attached : (n : ℕ) (found : Option Thread) (process : ProcessValue) → (stepped_at n found process).attached ≡ process.attached
stepped_at_attached n None process = refl
stepped_at_attached n (Some thread) process = stepped_by_attached (machine thread.cpu process.memory) n process

pub stepped_attached : (n : ℕ) (process : ProcessValue) → (stepped n process).attached ≡ process.attached
stepped_attached n process = stepped_at_attached n (thread_at n process) process

-- ---- a thread of a sound process is changed, or one more begins

pub thread_sound : (change : Thread → Thread) (n : ℕ) (process : ProcessValue) → ((thread : Thread) → thread_at n process ≡ Some thread → IsSoundThread process.attached thread → IsSoundThread process.attached (change thread))
    → IsSound process → IsSound (in_thread change n process)
thread_sound change n process keeps sound = each_thread_keeps (IsSoundThread process.attached) change n process keeps sound

begun_sound : (can : Bool) (entry argument : ℕ) (process : ProcessValue) → IsSound process
    → IsSound (cond can (record process { threads = process.threads ++ begun_thread entry argument ∷ [] }) process)
begun_sound false entry argument process sound = sound
begun_sound true entry argument process sound =
    all_append (IsSoundThread process.attached) process.threads (begun_thread entry argument ∷ []) sound ((λ needs. absurd cc), tt)

stepped_by_sound : (step : Step) (n : ℕ) (process : ProcessValue) → IsSound process → IsSound (stepped_by step n process)
stepped_by_sound (goes_on cpu memory) n process sound = thread_sound (with_cpu cpu) n process (λ thread found is. is) sound
stepped_by_sound (ends code) n process sound = sound
stepped_by_sound (spawns entry argument) n process sound =
    let begun : ProcessValue = with_begun entry argument process in
    thread_sound (with_result (result_for entry process)) n begun (λ thread found is. is) (begun_sound (can_begin entry process) entry argument process sound)
stepped_by_sound excepts n process sound = sound

-- a step leaves a sound process sound
step_sound_at : (n : ℕ) (found : Option Thread) (process : ProcessValue) → IsSound process → IsSound (stepped_at n found process)
step_sound_at n None process sound = sound
step_sound_at n (Some thread) process sound = stepped_by_sound (machine thread.cpu process.memory) n process sound

pub step_sound : (n : ℕ) (process : ProcessValue) → IsSound process → IsSound (stepped n process)
step_sound n process sound = step_sound_at n (thread_at n process) process sound

-- a process that is attached is sound
pub attached_sound : (process : ProcessValue) → process.attached ≡ true → IsSound process
attached_sound process is = all_each (IsSoundThread process.attached) process.threads (λ thread needs. is)

-- what becomes of a process leaves all sound
state_sound : (state : ThreadState) (n : ℕ) (process : ProcessValue) → (needs_debugger state ≡ true → process.attached ≡ true) → IsSound process → IsSound (in_thread (with_state state) n process)
state_sound state n process fits sound = thread_sound (with_state state) n process (λ thread found is needs. fits needs) sound

pub sound_settled : (number n : ℕ) (fate : Fate) (target : TargetValue) → IsOrderly target.contexts.processes target.contexts.next → ((p : ProcessValue) → process_of number target.contexts.processes ≡ Some p → FateSound fate p.attached)
    → AreSound target.contexts.processes → AreSound (settled number n fate target).contexts.processes
sound_settled number n (Ends code) target orderly fits sound = sound_end number target.contexts orderly sound
sound_settled number n (Lives state hits) target orderly fits sound =
    sound_change (in_thread (with_state state) n) number target.contexts (λ p found. state_sound state n p (fits p found) (sound number p found)) sound

-- ---- a tick

counted_needs : (left : Option ℕ) → needs_debugger (counted_by left) ≡ true → needs_debugger (Running left) ≡ true
counted_needs None needs = needs
counted_needs (Some left) needs = refl

state_needs : (state : ThreadState) → needs_debugger (counted state) ≡ true → needs_debugger state ≡ true
state_needs (Running left) needs = counted_needs left needs
state_needs (Suspended reason hits) needs = needs

thread_needs : (n : ℕ) (process : ProcessValue) (found : Option Thread) → thread_at n process ≡ found → IsSound process → needs_debugger (counted_in found) ≡ true → process.attached ≡ true
thread_needs n process None there sound needs = absurd cc
thread_needs n process (Some thread) there sound needs =
    found_thread_is (IsSoundThread process.attached) n thread process there sound (state_needs thread.state needs)

-- breakpoints stop threads of attached processes alone
stop_by : (number pc : ℕ) (bps : List Placed) (attached : Bool) → stops_at number attached pc bps ≡ true → attached ≡ true
stop_by number pc bps true stops = refl
stop_by number pc bps false stops = absurd cc

stop_in : (bps : List Placed) (number : ℕ) (attached : Bool) (found : Option Thread) → stops_in bps number attached found ≡ true → attached ≡ true
stop_in bps number attached None stops = absurd cc
stop_in bps number attached (Some thread) stops = stop_by number thread.cpu.pc bps attached stops

stop_attached : (bps : List Placed) (number n : ℕ) (process : ProcessValue) → is_stopped bps number n (stepped n process) ≡ true → process.attached ≡ true
stop_attached bps number n process stops =
    let after : ProcessValue = stepped n process in
    sym (stepped_attached n process) ∙ stop_in bps number after.attached (thread_at n after) stops

with_needs : (hits : List (List ℕ)) (plain : ThreadState) → needs_debugger (with_hits hits plain) ≡ true → needs_debugger plain ≡ true
with_needs hits (Running left) needs = needs
with_needs hits (Suspended reason others) needs = refl

hit_needs : (hits : List (List ℕ)) (stops attached : Bool) (plain : ThreadState) → (needs_debugger plain ≡ true → attached ≡ true) → (stops ≡ true → attached ≡ true)
    → needs_debugger (hit_state hits stops plain) ≡ true → attached ≡ true
hit_needs [] stops attached plain given stopped needs = given needs
hit_needs (hit ∷ hits) true attached plain given stopped needs = stopped refl
hit_needs (hit ∷ hits) false attached plain given stopped needs = given (with_needs (hit ∷ hits) plain needs)

tick_by_sound : (hits : List (List ℕ)) (stops : Bool) (plain : ThreadState) (attached : Bool) (executed : Executed) → (needs_debugger plain ≡ true → attached ≡ true) → (stops ≡ true → attached ≡ true)
    → ((others : List (List ℕ)) → executed ≡ Hit others → ⊥) → FateSound (tick_fate_by hits stops plain attached executed) attached
tick_by_sound hits stops plain attached Plain given stopped none = hit_needs hits stops attached plain given stopped
tick_by_sound hits stops plain attached (Hit others) given stopped none = absurd (none others refl)
tick_by_sound hits stops plain attached (Exit code) given stopped none = tt
tick_by_sound hits stops plain attached Exception given stopped none = exception_fate attached plain

-- an instruction alone hits nothing
halt_none : (step : Step) (others : List (List ℕ)) → halt_by step ≡ Hit others → ⊥
halt_none (goes_on cpu memory) others is = cc
halt_none (ends code) others is = cc
halt_none (spawns entry argument) others is = cc
halt_none excepts others is = cc

pub no_hit_at : (found : Option Thread) (process : ProcessValue) (others : List (List ℕ)) → halt_at found process ≡ Hit others → ⊥
no_hit_at None process others is = cc
no_hit_at (Some thread) process others is = halt_none (machine thread.cpu process.memory) others is

pub tick_fate_sound : (bps : List Placed) (number n : ℕ) (process : ProcessValue) → IsSound process → FateSound (tick_fate bps number n process) process.attached
tick_fate_sound bps number n process sound =
    let after : ProcessValue = stepped n process in
    tick_by_sound (hits_at bps number n after) (is_stopped bps number n after) (counted_in (thread_at n process)) process.attached (halt_of n process)
    (thread_needs n process (thread_at n process) refl sound) (stop_attached bps number n process) (no_hit_at (thread_at n process) process)

some_same : (n : ℕ) (p q : ProcessValue) (found : Option ProcessValue) → found ≡ Some p → option_map (stepped n) (Some q) ≡ found → p ≡ stepped n q
some_same n p q found there is = cc

tick_at : (number n : ℕ) (target : TargetValue) (found : Option ProcessValue) → process_of number target.contexts.processes ≡ found → IsOrderly target.contexts.processes target.contexts.next → AreSound target.contexts.processes
    → AreSound (ticked_at number n found target).contexts.processes
tick_at number n target None there orderly sound = sound
tick_at number n target (Some process) there orderly sound =
    let mine : IsSound process = sound number process there in
    let targets : TargetsValue = target.contexts in
    let after : TargetsValue = with_change (stepped n) number targets in
    sound_settled number n (tick_fate target.breakpoints number n process) (executed_after number n process target) (orderly_change (stepped n) number targets orderly)
    (λ p found. subst (FateSound (tick_fate target.breakpoints number n process))
    (sym (ap (λ (q : ProcessValue). q.attached) (some_same n p process (process_of number after.processes) found (ap (option_map (stepped n)) (sym there) ∙ sym (changed_process (stepped n) number targets)))
    ∙ stepped_attached n process))
    (tick_fate_sound target.breakpoints number n process mine))
    (sound_change (stepped n) number targets (λ p found. step_sound n p (sound number p found)) sound)

pub ticked_sound : (number n : ℕ) (target : TargetValue) → IsOrderly target.contexts.processes target.contexts.next → AreSound target.contexts.processes → AreSound (ticked number n target).contexts.processes
ticked_sound number n target orderly sound = tick_at number n target (process_of number target.contexts.processes) refl orderly sound
