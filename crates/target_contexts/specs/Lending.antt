-- A process that is lent, and the targets after that; a thread that is lent, and the threads after that.
use Rattle.std.specs.Prelude.{ℕ, List, Option}
use Rattle.std.specs.Borrow.{LendsIf, MutBor, Fml}
use Rattle.target_contexts.specs.Kept.{with_kept}
use Rattle.target_contexts.specs.KeptProcess.{KeptProcess}
use Rattle.target_contexts.specs.KeptTargets.{KeptTargets}
use Rattle.target_contexts.specs.ThreadList.{with_numbered}
use Rattle.target_contexts.specs.declared.threads.Thread.{Thread}
use Rattle.target_contexts.specs.contracts.targets.Targets.{the_row}
use Rattle.target_contexts.specs.contracts.process.Process.{the_row as process_row}
use Rattle.target_contexts.specs.contracts.threads.Threads.{the_row as threads_row}
use Rattle.target_contexts.specs.contracts.threads.Thread.{the_row as thread_row}

-- the process of this number ends as the last value written through r; the others, all numbers, the images and the
-- next number stay
abbrev pub LendsProcess : MutBor KeptTargets → ℕ → Option (MutBor KeptProcess) → Fml
LendsProcess targets number r = LendsIf the_row process_row targets r
    (λ process. with_kept number process targets.now)
    targets.now

-- the thread of this number ends as the last value written through r; the others and all numbers stay
abbrev pub LendsThread : MutBor (List Thread) → ℕ → Option (MutBor Thread) → Fml
LendsThread threads n r = LendsIf threads_row thread_row threads r
    (λ thread. with_numbered n thread threads.now)
    threads.now
