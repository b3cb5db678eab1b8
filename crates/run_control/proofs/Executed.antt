-- What one instruction of a thread comes to.
use Rattle.std.proofs.Common.{◌≡◌, ℕ, List, Option, Some, sym, ◌∙◌, ap}
use Rattle.rv32i_core.specs.Machine.{Step, machine, spawns}
use Rattle.rv32i_core.specs.declared.registers.Cpu.{Cpu}
use Rattle.target_contexts.specs.ProcessValue.{ProcessValue}
use Rattle.target_contexts.specs.ThreadList.{with_numbered}
use Rattle.target_contexts.specs.Threads.{thread_at, with_thread}
use Rattle.target_contexts.specs.declared.threads.Thread.{Thread}
use Rattle.run_control.specs.Executing.{halt_at, halt_by, halt_of, spawned, stepped, stepped_at, stepped_by}
use Rattle.run_control.specs.declared.executing.Executed.TheVariants.{Plain}
use Rattle.target_contexts.proofs.TheLaws.{thread_put_back}

step_there : (n : ℕ) (p : ProcessValue) (thread : Thread) (step : Step) → thread_at n p ≡ Some thread → machine thread.cpu p.memory ≡ step → stepped n p ≡ stepped_by step n p
step_there n p thread step there is = ap (λ (o : Option Thread). stepped_at n o p) there ∙ ap (λ (s : Step). stepped_by s n p) is

halt_there : (n : ℕ) (p : ProcessValue) (thread : Thread) (step : Step) → thread_at n p ≡ Some thread → machine thread.cpu p.memory ≡ step → halt_of n p ≡ halt_by step
halt_there n p thread step there is = ap (λ (o : Option Thread). halt_at o p) there ∙ ap halt_by is

-- the process of which a thread and memory are as the machine left them
abbrev pub left : ℕ → Thread → Cpu → List ℕ → ProcessValue → ProcessValue
left n thread cpu memory p = record p { threads = with_numbered n (record thread { cpu = cpu }) p.threads; memory = memory }

-- where they are as they were, so is the process
same_left : (n : ℕ) (p : ProcessValue) (thread : Thread) (cpu : Cpu) (memory : List ℕ) → thread_at n p ≡ Some thread → cpu ≡ thread.cpu → memory ≡ p.memory → left n thread cpu memory p ≡ p
same_left n p thread cpu memory there same kept =
    ap (λ (ns : List ℕ). left n thread cpu ns p) kept
    ∙ ap (λ (c : Cpu). with_thread n (record thread { cpu = c }) p) same
    ∙ thread_put_back n thread p there

-- an exit and an exception leave the process as it was
pub stays_stepped : (n : ℕ) (p given : ProcessValue) (thread : Thread) (cpu : Cpu) (before memory : List ℕ) (step : Step) → thread_at n p ≡ Some thread → before ≡ p.memory → p ≡ given
    → step ≡ machine thread.cpu before → cpu ≡ thread.cpu → memory ≡ before → stepped_by step n p ≡ p → left n thread cpu memory p ≡ stepped n given
stays_stepped n p given thread cpu before memory step there ready same is cpu_kept memory_kept stays =
    same_left n p thread cpu memory there cpu_kept (memory_kept ∙ ready)
    ∙ sym (step_there n p thread step there (sym (is ∙ ap (machine thread.cpu) ready)) ∙ stays)
    ∙ ap (stepped n) same

-- a thread that is asked for begins in the process as it was
pub spawn_stepped : (n entry argument : ℕ) (p given q : ProcessValue) (thread : Thread) (cpu : Cpu) (before memory : List ℕ) → thread_at n p ≡ Some thread → before ≡ p.memory → p ≡ given
    → spawns entry argument ≡ machine thread.cpu before → cpu ≡ thread.cpu → memory ≡ before → q ≡ spawned n entry argument (left n thread cpu memory p) → q ≡ stepped n given
spawn_stepped n entry argument p given q thread cpu before memory there ready same is cpu_kept memory_kept made =
    made
    ∙ ap (spawned n entry argument) (same_left n p thread cpu memory there cpu_kept (memory_kept ∙ ready))
    ∙ sym (step_there n p thread (spawns entry argument) there (sym (is ∙ ap (machine thread.cpu) ready)))
    ∙ ap (stepped n) same

pub spawn_halted : (n entry argument : ℕ) (p given : ProcessValue) (thread : Thread) (before : List ℕ) → thread_at n p ≡ Some thread → before ≡ p.memory → p ≡ given
    → spawns entry argument ≡ machine thread.cpu before → Plain ≡ halt_of n given
spawn_halted n entry argument p given thread before there ready same is =
    sym (halt_there n p thread (spawns entry argument) there (sym (is ∙ ap (machine thread.cpu) ready))) ∙ ap (halt_of n) same
