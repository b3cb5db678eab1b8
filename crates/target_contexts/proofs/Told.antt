-- What is told of the threads of a process, one after the other.
use Rattle.std.proofs.Common.{◌≡◌, ℕ, ◌+◌, List, [], ◌∷◌, ◌++◌, map, refl, arith}
use Rattle.std.specs.List.{range_with_len}
use Rattle.tcf_values.specs.declared.values.ContextData.{ContextData}
use Rattle.target_contexts.specs.Contexts.{thread_data}
use Rattle.target_contexts.specs.ProcessValue.{ProcessValue}
use Rattle.target_contexts.proofs.Ranges.{mapped_more}

-- one thread more
pub threads_more : (behind place number : ℕ) (process : ProcessValue) (before list new : List ContextData) → new ≡ list ++ thread_data number (behind + place + 1) process ∷ []
    → list ≡ before ++ map (λ n. thread_data number n process) (range_with_len (behind + 1) place)
    → new ≡ before ++ map (λ n. thread_data number n process) (range_with_len (behind + 1) (place + 1))
threads_more behind place number process before list new grown so_far =
    mapped_more (λ n. thread_data number n process) (behind + 1) place (behind + place + 1) before list new (thread_data number (behind + place + 1) process)
    (omega arith) refl grown so_far
