-- What one instruction says of the states of a trace.
use Rattle.std.proofs.Common.{◌≡◌, ℕ, ℤ, false, List, [], ◌∷◌, Option, Some, None, refl, sym, ◌∙◌, ap}
use Rattle.breakpoints.specs.declared.rows.Placed.{Placed}
use Rattle.rv32i_core.specs.Machine.{Step, goes_on, ends, excepts, machine, spawns}
use Rattle.target_contexts.specs.ProcessValue.{ProcessValue}
use Rattle.target_contexts.specs.Threads.{thread_at}
use Rattle.target_contexts.specs.declared.threads.Thread.{Thread}
use Rattle.run_control.specs.Executing.{executed_at, executed_by, executed_of, executed_with, halt_at, halt_by, hits_at, hits_in, stepped, stepped_at, stepped_by}
use Rattle.run_control.specs.Naming.{is_empty}
use Rattle.run_control.specs.Tracing.{next_at, next_by, next_of}
use Rattle.run_control.specs.declared.executing.Executed.{Executed}
use Rattle.run_control.specs.declared.executing.Executed.TheVariants.{Plain, Hit, Exit, Exception}

no_hits : (hits : List (List ℕ)) → executed_with hits ≡ Plain → hits ≡ []
no_hits [] plain = refl
no_hits (hit ∷ hits) plain = absurd cc

the_hits : (hits found : List (List ℕ)) → executed_with hits ≡ Hit found → hits ≡ found
the_hits [] found same = absurd cc
the_hits (hit ∷ hits) found same = cc

some_hits : (hits found : List (List ℕ)) → executed_with hits ≡ Hit found → is_empty found ≡ false
some_hits [] found same = absurd cc
some_hits (hit ∷ hits) found same = ap is_empty (sym (the_hits (hit ∷ hits) found same))

with_exit : (hits : List (List ℕ)) (code : ℤ) → executed_with hits ≡ Exit code → ⊥
with_exit [] code same = cc
with_exit (hit ∷ hits) code same = cc

with_exception : (hits : List (List ℕ)) → executed_with hits ≡ Exception → ⊥
with_exception [] same = cc
with_exception (hit ∷ hits) same = cc

-- ---- by what the machine says

plain_by : (hits : List (List ℕ)) (after : ProcessValue) (step : Step) → executed_by hits step ≡ Plain → next_by step after ≡ Some after
plain_by hits after (goes_on cpu memory) plain = refl
plain_by hits after (ends code) plain = absurd cc
plain_by hits after (spawns entry argument) plain = refl
plain_by hits after excepts plain = absurd cc

plain_none : (hits : List (List ℕ)) (step : Step) → executed_by hits step ≡ Plain → hits ≡ []
plain_none hits (goes_on cpu memory) plain = no_hits hits plain
plain_none hits (ends code) plain = absurd cc
plain_none hits (spawns entry argument) plain = no_hits hits plain
plain_none hits excepts plain = absurd cc

hit_by : (hits found : List (List ℕ)) (after : ProcessValue) (step : Step) → executed_by hits step ≡ Hit found → next_by step after ≡ Some after
hit_by hits found after (goes_on cpu memory) hit = refl
hit_by hits found after (ends code) hit = absurd cc
hit_by hits found after (spawns entry argument) hit = refl
hit_by hits found after excepts hit = absurd cc

hit_same : (hits found : List (List ℕ)) (step : Step) → executed_by hits step ≡ Hit found → hits ≡ found
hit_same hits found (goes_on cpu memory) hit = the_hits hits found hit
hit_same hits found (ends code) hit = absurd cc
hit_same hits found (spawns entry argument) hit = the_hits hits found hit
hit_same hits found excepts hit = absurd cc

some_by : (hits found : List (List ℕ)) (step : Step) → executed_by hits step ≡ Hit found → is_empty found ≡ false
some_by hits found (goes_on cpu memory) hit = some_hits hits found hit
some_by hits found (ends code) hit = absurd cc
some_by hits found (spawns entry argument) hit = some_hits hits found hit
some_by hits found excepts hit = absurd cc

-- what comes of an instruction after which the machine doesn't go on
abbrev Stays : ℕ → ProcessValue → ProcessValue → Step → Executed → Type 0
Stays n process after step stop = (next_by step after ≡ None) × (stepped_by step n process ≡ process) × (halt_by step ≡ stop)

exit_by : (hits : List (List ℕ)) (n : ℕ) (process after : ProcessValue) (code : ℤ) (step : Step) → executed_by hits step ≡ Exit code → Stays n process after step (Exit code)
exit_by hits n process after code (goes_on cpu memory) exit = absurd (with_exit hits code exit)
exit_by hits n process after code (ends status) exit = (refl, refl, exit)
exit_by hits n process after code (spawns entry argument) exit = absurd (with_exit hits code exit)
exit_by hits n process after code excepts exit = absurd cc

exception_by : (hits : List (List ℕ)) (n : ℕ) (process after : ProcessValue) (step : Step) → executed_by hits step ≡ Exception → Stays n process after step Exception
exception_by hits n process after (goes_on cpu memory) exception = absurd (with_exception hits exception)
exception_by hits n process after (ends status) exception = absurd cc
exception_by hits n process after (spawns entry argument) exception = absurd (with_exception hits exception)
exception_by hits n process after excepts exception = (refl, refl, refl)

-- ---- of the thread of a number, where it is there

plain_at : (hits : List (List ℕ)) (n : ℕ) (process : ProcessValue) (found : Option Thread) → executed_at hits found process ≡ Plain → next_at n found process ≡ Some (stepped n process)
plain_at hits n process None plain = refl
plain_at hits n process (Some thread) plain = plain_by hits (stepped n process) (machine thread.cpu process.memory) plain

pub plain_goes_on : (bps : List Placed) (number n : ℕ) (process : ProcessValue) → executed_of bps number n process ≡ Plain → next_of n process ≡ Some (stepped n process)
plain_goes_on bps number n process plain = plain_at (hits_at bps number n (stepped n process)) n process (thread_at n process) plain

none_at : (bps : List Placed) (number n : ℕ) (process : ProcessValue) (found : Option Thread) → thread_at n process ≡ found → executed_at (hits_at bps number n (stepped n process)) found process ≡ Plain
    → hits_at bps number n (stepped n process) ≡ []
none_at bps number n process None there plain =
    ap (λ (o : Option Thread). hits_at bps number n (stepped_at n o process)) there ∙ ap (hits_in bps number process.attached) there
none_at bps number n process (Some thread) there plain = plain_none (hits_at bps number n (stepped n process)) (machine thread.cpu process.memory) plain

pub plain_hits_none : (bps : List Placed) (number n : ℕ) (process : ProcessValue) → executed_of bps number n process ≡ Plain → hits_at bps number n (stepped n process) ≡ []
plain_hits_none bps number n process plain = none_at bps number n process (thread_at n process) refl plain

hit_at : (hits found : List (List ℕ)) (n : ℕ) (process : ProcessValue) (thread : Option Thread) → executed_at hits thread process ≡ Hit found → next_at n thread process ≡ Some (stepped n process)
hit_at hits found n process None hit = absurd cc
hit_at hits found n process (Some thread) hit = hit_by hits found (stepped n process) (machine thread.cpu process.memory) hit

pub hit_goes_on : (bps : List Placed) (number n : ℕ) (process : ProcessValue) (hits : List (List ℕ)) → executed_of bps number n process ≡ Hit hits → next_of n process ≡ Some (stepped n process)
hit_goes_on bps number n process hits hit = hit_at (hits_at bps number n (stepped n process)) hits n process (thread_at n process) hit

same_at : (hits found : List (List ℕ)) (process : ProcessValue) (thread : Option Thread) → executed_at hits thread process ≡ Hit found → hits ≡ found
same_at hits found process None hit = absurd cc
same_at hits found process (Some thread) hit = hit_same hits found (machine thread.cpu process.memory) hit

pub hit_hits : (bps : List Placed) (number n : ℕ) (process : ProcessValue) (hits : List (List ℕ)) → executed_of bps number n process ≡ Hit hits → hits_at bps number n (stepped n process) ≡ hits
hit_hits bps number n process hits hit = same_at (hits_at bps number n (stepped n process)) hits process (thread_at n process) hit

some_at : (hits found : List (List ℕ)) (process : ProcessValue) (thread : Option Thread) → executed_at hits thread process ≡ Hit found → is_empty found ≡ false
some_at hits found process None hit = absurd cc
some_at hits found process (Some thread) hit = some_by hits found (machine thread.cpu process.memory) hit

-- a hit is one breakpoint at least
pub hit_some : (bps : List Placed) (number n : ℕ) (process : ProcessValue) (hits : List (List ℕ)) → executed_of bps number n process ≡ Hit hits → is_empty hits ≡ false
hit_some bps number n process hits hit = some_at (hits_at bps number n (stepped n process)) hits process (thread_at n process) hit

abbrev StaysAt : ℕ → ProcessValue → Option Thread → Executed → Type 0
StaysAt n process thread stop = (next_at n thread process ≡ None) × (stepped_at n thread process ≡ process) × (halt_at thread process ≡ stop)

exit_at : (hits : List (List ℕ)) (n : ℕ) (process : ProcessValue) (code : ℤ) (thread : Option Thread) → executed_at hits thread process ≡ Exit code → StaysAt n process thread (Exit code)
exit_at hits n process code None exit = absurd cc
exit_at hits n process code (Some thread) exit = exit_by hits n process (stepped n process) code (machine thread.cpu process.memory) exit

pub exit_stays : (bps : List Placed) (number n : ℕ) (process : ProcessValue) (code : ℤ) → executed_of bps number n process ≡ Exit code → StaysAt n process (thread_at n process) (Exit code)
exit_stays bps number n process code exit = exit_at (hits_at bps number n (stepped n process)) n process code (thread_at n process) exit

exception_at : (hits : List (List ℕ)) (n : ℕ) (process : ProcessValue) (thread : Option Thread) → executed_at hits thread process ≡ Exception → StaysAt n process thread Exception
exception_at hits n process None exception = absurd cc
exception_at hits n process (Some thread) exception = exception_by hits n process (stepped n process) (machine thread.cpu process.memory) exception

pub exception_stays : (bps : List Placed) (number n : ℕ) (process : ProcessValue) → executed_of bps number n process ≡ Exception → StaysAt n process (thread_at n process) Exception
exception_stays bps number n process exception = exception_at (hits_at bps number n (stepped n process)) n process (thread_at n process) exception
