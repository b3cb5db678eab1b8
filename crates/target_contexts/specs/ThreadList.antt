-- Threads in a list: they are numbered in its order, from 1 on.
use Rattle.std.specs.Prelude.{ℕ, ◌-◌, ◌≤◌, ◌==◌, if◌then◌else◌, List, length, slice_get, slice_set, Option, Some, None}
use Rattle.target_contexts.specs.declared.threads.Thread.{Thread}

-- one at least, and eight at most
pub record AreFew (threads : List Thread) : Type 0 where
  pub some : 1 ≤ length threads
  pub few : length threads ≤ 8

-- the thread of this number
abbrev pub numbered : ℕ → List Thread → Option Thread
numbered n threads = if n == 0 then None else slice_get threads (n - 1)

-- the thread of this number is now this one
abbrev pub with_numbered : ℕ → Thread → List Thread → List Thread
with_numbered n thread threads = if n == 0 then threads else slice_set threads (n - 1) thread

abbrev pub changed_numbered_at : (Thread → Thread) → ℕ → Option Thread → List Thread → List Thread
changed_numbered_at change n None threads = threads
changed_numbered_at change n (Some thread) threads = with_numbered n (change thread) threads

-- the thread of this number is changed; where there is none, nothing is
abbrev pub changed_numbered : (Thread → Thread) → ℕ → List Thread → List Thread
changed_numbered change n threads = changed_numbered_at change n (numbered n threads) threads
