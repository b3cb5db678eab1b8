-- Live processes have few threads, and their names, the reasons and the hits of their threads are short, so that what is
-- told of them fits into a message.
use Rattle.std.specs.Prelude.{ℕ, ◌≡◌, ◌≤◌, Bool, List, length, Some}
use Rattle.std.specs.List.{AllByRecursion}
use Rattle.target_contexts.specs.Changes.{with_change}
use Rattle.target_contexts.specs.Live.{process_of, without}
use Rattle.target_contexts.specs.Starting.{started}
use Rattle.target_contexts.specs.Spawning.{with_begun}
use Rattle.target_contexts.specs.TargetsValue.{TargetsValue}
use Rattle.target_contexts.specs.ThreadList.{AreFew}
use Rattle.target_contexts.specs.Threads.{in_thread}
use Rattle.target_contexts.specs.ProcessValue.{ProcessValue}
use Rattle.target_contexts.specs.declared.process.ThreadState.{ThreadState}
use Rattle.target_contexts.specs.declared.process.ThreadState.TheVariants.{Running, Suspended}
use Rattle.target_contexts.specs.declared.threads.Thread.{Thread}

-- at most 256 texts of at most 255 bytes each, as the IDs of all breakpoints are
abbrev pub AreShort : List (List ℕ) → Type 0
AreShort texts = (length texts ≤ 256) × AllByRecursion (λ text. length text ≤ 255) texts

abbrev pub IsShortState : ThreadState → Type 0
IsShortState (Running left) = Unit {0}
IsShortState (Suspended reason hits) = (length reason ≤ 255) × AreShort hits

abbrev pub AreShortThreads : List Thread → Type 0
AreShortThreads threads = AllByRecursion (λ thread. IsShortState thread.state) threads

-- an image is found under a name of at most 65,536 bytes, and a process has 1 to 8 threads
pub record IsShort (process : ProcessValue) : Type 0 where
  pub name : length process.name ≤ 65536
  pub threads : AreShortThreads process.threads
  pub count : AreFew process.threads

abbrev pub AllShort : List (ℕ × ProcessValue) → Type 0
AllShort rows = AllByRecursion (λ row. IsShort row.1) rows

-- ---- the laws: where all are short, each that is found is, and all are after a start, a change and an end

abbrev pub FoundIsShort : Type 0
FoundIsShort = (rows : List (ℕ × ProcessValue)) (number : ℕ) (process : ProcessValue) → AllShort rows → process_of number rows ≡ Some process → IsShort process

abbrev pub StartStaysShort : Type 0
StartStaysShort = (file : List ℕ) (attach : Bool) (targets : TargetsValue) → AllShort targets.processes → AllShort (started file attach targets).processes

-- where the change keeps each process short
abbrev pub ChangeStaysShort : Type 0
ChangeStaysShort = (change : ProcessValue → ProcessValue) (number : ℕ) (targets : TargetsValue) → ((process : ProcessValue) → IsShort process → IsShort (change process)) →
    AllShort targets.processes → AllShort (with_change change number targets).processes

abbrev pub EndStaysShort : Type 0
EndStaysShort = (rows : List (ℕ × ProcessValue)) (number : ℕ) → AllShort rows → AllShort (without number rows)

-- ---- and so is a process with a thread more, and one of which a thread is changed, where the change keeps its state short

abbrev pub BeginStaysShort : Type 0
BeginStaysShort = (pc argument : ℕ) (process : ProcessValue) → IsShort process → IsShort (with_begun pc argument process)

abbrev pub ThreadStaysShort : Type 0
ThreadStaysShort = (change : Thread → Thread) (n : ℕ) (process : ProcessValue) → ((thread : Thread) → IsShortState thread.state → IsShortState (change thread).state) →
    IsShort process → IsShort (in_thread change n process)
