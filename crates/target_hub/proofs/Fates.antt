-- What can become of a process by instructions, beside the breakpoints then: whatever holds where its thread lives on, and where
-- the process ends, holds of it.
use Rattle.std.proofs.Common.{◌≡◌, ℕ, ℤ, pos, negsuc, ◌<◌, ◌^◌, ◌==◌, Bool, true, false, List, [], ◌∷◌, length, Option, Some, None, refl, arith, lit<}
use Rattle.json_args.specs.Kinds.{IsWhole}
use Rattle.run_control.specs.Executing.{breakpoint_text, exception_code, exception_text, fate_by, halt_at, halt_by, hits_at, lives, settled, step_text, stepped}
use Rattle.run_control.specs.Ticking.{counted_in, counts_after, hit_state, is_stopped, raised_by, raised_for, tick_fate, tick_fate_by}
use Rattle.run_control.specs.Tracing.{last_hits, last_of, states_of, stop_by, trace_fate, trace_of}
use Rattle.rv32i_core.proofs.TheLaws.{ends_are_signed}
use Rattle.rv32i_core.specs.Laws.{EndsSigned, IsSigned}
use Rattle.rv32i_core.specs.Machine.{Step, goes_on, ends, excepts, machine, spawns}
use Rattle.target_contexts.specs.Named.{runs}
use Rattle.target_contexts.specs.ProcessValue.{ProcessValue}
use Rattle.target_contexts.specs.Threads.{thread_at}
use Rattle.target_contexts.specs.declared.process.ThreadState.{ThreadState}
use Rattle.target_contexts.specs.declared.process.ThreadState.TheVariants.{Running, Suspended}
use Rattle.target_contexts.specs.declared.threads.Thread.{Thread}
use Rattle.breakpoints.specs.declared.rows.Placed.{Placed}

-- the code of a process that ends is a signed number of 32 bits
pub code_fits : (code : ℤ) → IsSigned code → IsWhole code
code_fits (pos n) signed = omega arith
code_fits (negsuc n) signed = omega arith

-- the type of what a function takes
abbrev ArgumentOf : {A B : Type 0} → (A → B) → Type 0
ArgumentOf {A = A} f = A

abbrev pub Fate : Type 0
Fate = ArgumentOf (settled 0 0)

-- it ends with a code
abbrev pub ends_with : ℤ → Fate
ends_with code = fate_by (Running None) true (halt_by (ends code))

-- ---- by one instruction of a tick

-- what holds where nothing is hit, where the thread runs on and hits this, where it is suspended and hits this, where an exception
-- suspends it, and of an end. Where the instruction is executed the breakpoints have raised counts
pub record Covers (P : Fate → List Placed → Type 0) (plain : ThreadState) (hits : List (List ℕ)) (raised bps : List Placed) : Type 0 where
  pub plainly : hits ≡ [] → P (lives plain []) raised
  pub passing : runs plain ≡ true → P (lives plain hits) raised
  pub suspended : (reason : List ℕ) → P (lives (Suspended reason hits) hits) raised
  pub excepted : (reason : List ℕ) → P (lives (Suspended reason []) []) bps
  pub ended : (code : ℤ) → IsWhole code → P (ends_with code) bps

-- the same of what is said of the fate alone, whatever the breakpoints
pub record CoversAlone (P : Fate → Type 0) (plain : ThreadState) (hits : List (List ℕ)) : Type 0 where
  pub plainly : P (lives plain [])
  pub passing : runs plain ≡ true → P (lives plain hits)
  pub suspended : (reason : List ℕ) (others : List (List ℕ)) → P (lives (Suspended reason others) others)
  pub ended : (code : ℤ) → IsWhole code → P (ends_with code)

by_alone : (P : Fate → Type 0) (plain : ThreadState) (hits : List (List ℕ)) (raised bps : List Placed) → CoversAlone P plain hits → Covers (λ fate list. P fate) plain hits raised bps
by_alone P plain hits raised bps covers = record {
  plainly = λ none. covers.plainly;
  passing = covers.passing;
  suspended = λ reason. covers.suspended reason hits;
  excepted = λ reason. covers.suspended reason [];
  ended = covers.ended;
}

exception_by : (P : Fate → List Placed → Type 0) (plain : ThreadState) (attached : Bool) (hits : List (List ℕ)) (raised bps : List Placed) → Covers P plain hits raised bps
    → P (fate_by plain attached (halt_by excepts)) bps
exception_by P plain true hits raised bps covers = covers.excepted exception_text
exception_by P plain false hits raised bps covers = covers.ended exception_code (lit< {m = 1} {n = 2 ^ 63} tt)

hit_by : (P : Fate → List Placed → Type 0) (plain : ThreadState) (hits : List (List ℕ)) (stops : Bool) (raised bps : List Placed) → Covers P plain hits raised bps
    → P (lives (hit_state hits stops plain) hits) raised
hit_by P plain [] stops raised bps covers = covers.plainly refl
hit_by P plain (hit ∷ hits) true raised bps covers = covers.suspended breakpoint_text
hit_by P (Running left) (hit ∷ hits) false raised bps covers = covers.passing refl
hit_by P (Suspended reason others) (hit ∷ hits) false raised bps covers = covers.suspended reason

tick_step : (P : Fate → List Placed → Type 0) (plain : ThreadState) (attached : Bool) (hits : List (List ℕ)) (stops : Bool) (raised bps : List Placed) (step : Step) → EndsSigned step
    → Covers P plain hits raised bps → P (tick_fate_by hits stops plain attached (halt_by step)) (raised_by (halt_by step) raised bps)
tick_step P plain attached hits stops raised bps (goes_on cpu memory) signed covers = hit_by P plain hits stops raised bps covers
tick_step P plain attached hits stops raised bps (ends code) signed covers = covers.ended code (code_fits code signed)
tick_step P plain attached hits stops raised bps (spawns entry argument) signed covers = hit_by P plain hits stops raised bps covers
tick_step P plain attached hits stops raised bps excepts signed covers = exception_by P plain attached hits raised bps covers

executed_fate : (P : Fate → List Placed → Type 0) (plain : ThreadState) (attached : Bool) (hits : List (List ℕ)) (stops : Bool) (raised bps : List Placed) (found : Option Thread) (process : ProcessValue)
    → Covers P plain hits raised bps → P (tick_fate_by hits stops plain attached (halt_at found process)) (raised_by (halt_at found process) raised bps)
executed_fate P plain attached hits stops raised bps None process covers = hit_by P plain hits stops raised bps covers
executed_fate P plain attached hits stops raised bps (Some thread) process covers =
    tick_step P plain attached hits stops raised bps (machine thread.cpu process.memory) (ends_are_signed thread.cpu process.memory) covers

pub tick_keeps : (P : Fate → List Placed → Type 0) (bps : List Placed) (number n : ℕ) (process : ProcessValue)
    → Covers P (counted_in (thread_at n process)) (hits_at bps number n (stepped n process)) (raised_for bps number n (stepped n process)) bps
    → P (tick_fate bps number n process) (counts_after bps number n process)
tick_keeps P bps number n process covers =
    let after : ProcessValue = stepped n process in
    executed_fate P (counted_in (thread_at n process)) process.attached (hits_at bps number n after) (is_stopped bps number n after) (raised_for bps number n after) bps (thread_at n process) process covers

pub tick_alone : (P : Fate → Type 0) (bps : List Placed) (number n : ℕ) (process : ProcessValue) → CoversAlone P (counted_in (thread_at n process)) (hits_at bps number n (stepped n process))
    → P (tick_fate bps number n process)
tick_alone P bps number n process covers =
    let after : ProcessValue = stepped n process in
    tick_keeps (λ fate list. P fate) bps number n process (by_alone P (counted_in (thread_at n process)) (hits_at bps number n after) (raised_for bps number n after) bps covers)

-- ---- by several instructions of a trace, which raises no count

pub record TraceCovers (P : Fate → Type 0) : Type 0 where
  pub suspended : (reason : List ℕ) (others : List (List ℕ)) → P (lives (Suspended reason others) others)
  pub ended : (code : ℤ) → IsWhole code → P (ends_with code)

trace_exception : (P : Fate → Type 0) (attached : Bool) → TraceCovers P → P (fate_by (Suspended step_text []) attached (halt_by excepts))
trace_exception P true covers = covers.suspended exception_text []
trace_exception P false covers = covers.ended exception_code (lit< {m = 1} {n = 2 ^ 63} tt)

halt_by_step : (P : Fate → Type 0) (attached : Bool) (step : Step) → EndsSigned step → TraceCovers P → P (fate_by (Suspended step_text []) attached (halt_by step))
halt_by_step P attached (goes_on cpu memory) signed covers = covers.suspended step_text []
halt_by_step P attached (ends code) signed covers = covers.ended code (code_fits code signed)
halt_by_step P attached (spawns entry argument) signed covers = covers.suspended step_text []
halt_by_step P attached excepts signed covers = trace_exception P attached covers

halted : (P : Fate → Type 0) (attached : Bool) (found : Option Thread) (last : ProcessValue) → TraceCovers P → P (fate_by (Suspended step_text []) attached (halt_at found last))
halted P attached None last covers = covers.suspended step_text []
halted P attached (Some thread) last covers = halt_by_step P attached (machine thread.cpu last.memory) (ends_are_signed thread.cpu last.memory) covers

stop_fate : (P : Fate → Type 0) (attached : Bool) (hits : List (List ℕ)) (all : Bool) (n : ℕ) (last : ProcessValue) → TraceCovers P
    → P (fate_by (Suspended step_text []) attached (stop_by hits all n last))
stop_fate P attached (hit ∷ hits) all n last covers = covers.suspended breakpoint_text (hit ∷ hits)
stop_fate P attached [] true n last covers = covers.suspended step_text []
stop_fate P attached [] false n last covers = halted P attached (thread_at n last) last covers

pub trace_keeps : (P : Fate → Type 0) (bps : List Placed) (number n count : ℕ) (process : ProcessValue) → TraceCovers P → P (trace_fate process (trace_of bps number n count process))
trace_keeps P bps number n count process covers =
    let states = states_of bps number n count process in
    stop_fate P process.attached (last_hits bps number n process states) (length states == count) n (last_of process states) covers

pub trace_alone : (P : Fate → Type 0) (bps : List Placed) (number n count : ℕ) (process : ProcessValue) → CoversAlone P (Suspended step_text []) [] → P (trace_fate process (trace_of bps number n count process))
trace_alone P bps number n count process covers = trace_keeps P bps number n count process (record { suspended = covers.suspended; ended = covers.ended })
