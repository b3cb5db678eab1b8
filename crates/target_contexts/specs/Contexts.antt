-- What RunControl tells of a process and of its threads (TCF service RunControl, getContext).
use Rattle.std.specs.Prelude.{ℕ, true, false, if◌then◌else◌, ◌+◌, ◌-◌, List, [], ◌∷◌, map, Option, Some, None, IsSome, option_map}
use Rattle.std.specs.List.{range_with_len}
use Rattle.tcf_values.specs.Spelling.{context_spelling}
use Rattle.tcf_values.specs.declared.ids.ContextId.{ContextId}
use Rattle.tcf_values.specs.declared.ids.ContextId.TheVariants as ids
use Rattle.tcf_values.specs.declared.values.ContextData.{ContextData}
use Rattle.target_contexts.specs.Live.{IsLive, process_of}
use Rattle.target_contexts.specs.ProcessValue.{ProcessValue}
use Rattle.target_contexts.specs.Threads.{holding, thread_count, thread_of}

-- a process has a name and no parent; it can be ended, and holds no state of its own
abbrev pub process_data : ℕ → ProcessValue → ContextData
process_data number process = record {
  id = context_spelling (ids.Process number);
  parent = None;
  process = context_spelling (ids.Process number);
  name = Some process.name;
  container = true;
  has_state = false;
  can_suspend = false;
  can_terminate = true;
  can_resume = 0;
  can_count = 0;
}

-- a thread has its process as parent and no name; while that is attached it can be suspended, resumed in the modes 0
-- and 2, and resumed by a count in mode 2: the bits 2^0 + 2^2, and 2^2
abbrev pub thread_data : ℕ → ℕ → ProcessValue → ContextData
thread_data number n process = record {
  id = context_spelling (ids.Thread number n);
  parent = Some (context_spelling (ids.Process number));
  process = context_spelling (ids.Process number);
  name = None;
  container = false;
  has_state = true;
  can_suspend = process.attached;
  can_terminate = true;
  can_resume = if process.attached then 5 else 0;
  can_count = if process.attached then 4 else 0;
}

-- of the threads behind the first so many, in order
abbrev pub threads_data : ℕ → ℕ → ProcessValue → List ContextData
threads_data behind number process = map (λ n. thread_data number n process) (range_with_len (behind + 1) (thread_count process - behind))

-- of the process and of all its threads
abbrev pub whole_data : ℕ → ProcessValue → List ContextData
whole_data number process = process_data number process ∷ threads_data 0 number process

abbrev pub whole_of : ℕ → Option ProcessValue → List ContextData
whole_of number None = []
whole_of number (Some process) = whole_data number process

abbrev pub threads_behind : ℕ → ℕ → Option ProcessValue → List ContextData
threads_behind behind number None = []
threads_behind behind number (Some process) = threads_data behind number process

-- a live process, or a thread of one
abbrev pub IsThere : ContextId → List (ℕ × ProcessValue) → Type 0
IsThere (ids.Process number) rows = IsLive number rows
IsThere (ids.Thread number n) rows = IsSome (thread_of number n rows)

-- the data of a live process, and of a thread of one
abbrev pub context_of : ContextId → List (ℕ × ProcessValue) → Option ContextData
context_of (ids.Process number) rows = option_map (λ process. process_data number process) (process_of number rows)
context_of (ids.Thread number n) rows =
    option_map (λ process. thread_data number n process) (holding n (process_of number rows))
