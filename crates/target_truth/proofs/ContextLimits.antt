-- The contexts of the threads of a process are within the limits of what is read.
use Rattle.std.proofs.Common.{ℕ, map}
use Rattle.std.specs.List.{AllByRecursion, range_with_len}
use Rattle.json_values.specs.Contexts.{IsContext}
use Rattle.list_laws.proofs.AllLists.{all_map}
use Rattle.target_contexts.specs.Contexts.{thread_data}
use Rattle.target_contexts.specs.ProcessValue.{ProcessValue}
use Rattle.target_hub.proofs.Told.{powers_within}

pub thread_fits : (number n : ℕ) (process : ProcessValue) → IsContext (thread_data number n process)
thread_fits number n process = powers_within number n process process.attached

pub threads_fit : (number a count : ℕ) (process : ProcessValue) → AllByRecursion IsContext (map (λ n. thread_data number n process) (range_with_len a count))
threads_fit number a count process = all_map IsContext (λ n. thread_data number n process) (range_with_len a count) (λ n. thread_fits number n process)
