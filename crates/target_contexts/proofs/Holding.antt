-- A process that has a thread of a number.
use Rattle.std.proofs.Common.{◌≡◌, ℕ, cond, Option, Some, None, is_some, option_and_then, IsSome, refl}
use Rattle.target_contexts.specs.ProcessValue.{ProcessValue}
use Rattle.target_contexts.specs.Threads.{holding, thread_at}
use Rattle.target_contexts.specs.declared.threads.Thread.{Thread}

held_by : (process : ProcessValue) (t : Thread) (found : Option Thread) → Some t ≡ found → cond (is_some found) (Some process) None ≡ Some process
held_by process t None is = absurd cc
held_by process t (Some thread) is = refl

pub held : (n : ℕ) (found : Option ProcessValue) (t : Thread) → Some t ≡ option_and_then (thread_at n) found → holding n found ≡ found
held n None t is = absurd cc
held n (Some process) t is = held_by process t (thread_at n process) is

some_by : (process : ProcessValue) (t : Thread) (found : Option Thread) → Some t ≡ found → IsSome (cond (is_some found) (Some process) None)
some_by process t None is = absurd cc
some_by process t (Some thread) is = refl

pub held_some : (n : ℕ) (found : Option ProcessValue) (t : Thread) → Some t ≡ option_and_then (thread_at n) found → IsSome (holding n found)
held_some n None t is = absurd cc
held_some n (Some process) t is = some_by process t (thread_at n process) is

none_by : (process : ProcessValue) (found : Option Thread) → None ≡ found → cond (is_some found) (Some process) None ≡ None
none_by process None is = refl
none_by process (Some thread) is = absurd cc

pub not_held : (n : ℕ) (found : Option ProcessValue) → None ≡ option_and_then (thread_at n) found → holding n found ≡ None
not_held n None is = refl
not_held n (Some process) is = none_by process (thread_at n process) is
