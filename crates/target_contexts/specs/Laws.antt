-- The laws of a list of live processes, and of the threads of one: to start, change or end one leaves the others as they
-- are, and the list orderly.
use Rattle.std.specs.Prelude.{ℕ, ◌≡◌, ◌≢◌, ◌+◌, ◌^◌, ◌<◌, List, [], ◌∷◌, ◌++◌, length, Some, option_map}
use Rattle.target_contexts.specs.Live.{IsLive, IsOrderly, numbers_of, process_of, with_process, without}
use Rattle.target_contexts.specs.ProcessValue.{ProcessValue}
use Rattle.target_contexts.specs.Spawning.{begun_number, begun_thread, with_begun}
use Rattle.target_contexts.specs.Threads.{in_thread, thread_at, thread_count, with_thread}
use Rattle.target_contexts.specs.declared.threads.Thread.{Thread}

-- under every number but this one there is the process that was there
abbrev pub AgreeBut : ℕ → List (ℕ × ProcessValue) → List (ℕ × ProcessValue) → Type 0
AgreeBut number old new = (other : ℕ) → other ≢ number → process_of other new ≡ process_of other old

-- the process that starts is the one of its number
abbrev pub StartsOne : Type 0
StartsOne = (rows : List (ℕ × ProcessValue)) (next : ℕ) (process : ProcessValue) → IsOrderly rows next →
    let new = rows ++ (next, process) ∷ [] in
    (process_of next new ≡ Some process) × AgreeBut next rows new

-- the process that is written is the one of its number, and no number changes
abbrev pub ChangesOne : Type 0
ChangesOne = (rows : List (ℕ × ProcessValue)) (number : ℕ) (process : ProcessValue) → IsLive number rows →
    let new = with_process number process rows in
    (process_of number new ≡ Some process) × AgreeBut number rows new × (numbers_of new ≡ numbers_of rows)

-- a process that is written as it was changes nothing
abbrev pub PutBackChangesNothing : Type 0
PutBackChangesNothing = (rows : List (ℕ × ProcessValue)) (number : ℕ) (process : ProcessValue) → process_of number rows ≡ Some process →
    with_process number process rows ≡ rows

-- the process that ends is gone
abbrev pub EndsOne : Type 0
EndsOne = (rows : List (ℕ × ProcessValue)) (next number : ℕ) → IsOrderly rows next →
    let new = without number rows in
    (IsLive number new → ⊥) × AgreeBut number rows new

-- ---- what always holds of the list and the next number

-- where there is room for one more, and a number for it
abbrev pub StartStaysOrderly : Type 0
StartStaysOrderly = (rows : List (ℕ × ProcessValue)) (next : ℕ) (process : ProcessValue) → IsOrderly rows next →
    length rows < 64 → next < 2 ^ 32 → IsOrderly (rows ++ (next, process) ∷ []) (next + 1)

-- whether or not there is a process of this number
abbrev pub ChangeStaysOrderly : Type 0
ChangeStaysOrderly = (rows : List (ℕ × ProcessValue)) (next number : ℕ) (process : ProcessValue) → IsOrderly rows next →
    IsOrderly (with_process number process rows) next

abbrev pub EndStaysOrderly : Type 0
EndStaysOrderly = (rows : List (ℕ × ProcessValue)) (next number : ℕ) → IsOrderly rows next → IsOrderly (without number rows) next

-- ---- threads

-- under every number but this one there is the thread that was there, and name, debugger and memory stay
pub record ThreadsAgreeBut (n : ℕ) (old new : ProcessValue) : Type 0 where
  pub others : (other : ℕ) → other ≢ n → thread_at other new ≡ thread_at other old
  pub name : new.name ≡ old.name
  pub attached : new.attached ≡ old.attached
  pub memory : new.memory ≡ old.memory

-- the thread that is changed is the one of its number, and no number comes or goes
abbrev pub ChangesOneThread : Type 0
ChangesOneThread = (change : Thread → Thread) (n : ℕ) (process : ProcessValue) →
    let new = in_thread change n process in
    (thread_at n new ≡ option_map change (thread_at n process)) × ThreadsAgreeBut n process new × (thread_count new ≡ thread_count process)

-- a thread that is written as it was changes nothing
abbrev pub ThreadPutBack : Type 0
ThreadPutBack = (n : ℕ) (thread : Thread) (process : ProcessValue) → thread_at n process ≡ Some thread → with_thread n thread process ≡ process

-- the thread that begins is the one of the number behind the last
abbrev pub BeginsOneThread : Type 0
BeginsOneThread = (pc argument n : ℕ) (process : ProcessValue) → begun_number pc process ≡ Some n →
    let new = with_begun pc argument process in
    (thread_at n new ≡ Some (begun_thread pc argument)) × ThreadsAgreeBut n process new × (thread_count new ≡ thread_count process + 1)
