-- How a process and its threads are spelled, and which process a text names to the service Processes (TCF services
-- RunControl and Processes, where the agent chooses IDs).
use Rattle.std.specs.Prelude.{ℕ, Bool, true, false, List, [], ◌∷◌, map, Option, Some, None, option_and_then}
use Rattle.tcf_values.specs.Ids.{context_of}
use Rattle.tcf_values.specs.Spelling.{context_spelling}
use Rattle.tcf_values.specs.declared.ids.ContextId.{ContextId}
use Rattle.tcf_values.specs.declared.ids.ContextId.TheVariants as ids
use Rattle.target_contexts.specs.Threads.{numbers_to}

abbrev pub process_id : ℕ → List ℕ
process_id number = context_spelling (ids.Process number)

abbrev pub thread_id : ℕ → ℕ → List ℕ
thread_id number n = context_spelling (ids.Thread number n)

-- of so many threads of a process, in order
abbrev pub thread_ids : ℕ → ℕ → List (List ℕ)
thread_ids number count = map (thread_id number) (numbers_to count)

-- a thread is no process, to the service Processes
abbrev pub process_for : ContextId → Option ℕ
process_for (ids.Process number) = Some number
process_for (ids.Thread number thread) = None

abbrev pub process_named : List ℕ → Option ℕ
process_named id = option_and_then process_for (context_of id)

abbrev pub is_empty : {A : Type 0} → List A → Bool
is_empty [] = true
is_empty (x ∷ xs) = false
