-- What always holds of the target of a legal history: its processes are whole and have 1 to 8 threads, and it is
-- consistent.
use Rattle.std.proofs.Common.{◌≡◌, ℕ, Some}
use Rattle.target_contexts.specs.Whole.{IsWhole}
use Rattle.target_contexts.specs.ProcessValue.{ProcessValue}
use Rattle.target_contexts.specs.ThreadList.{AreFew}
use Rattle.target_hub.specs.HistoryLaws.{IsConsistent}
use Rattle.run_control.specs.TargetValue.{TargetValue}
use Rattle.target_truth.specs.Holds.{process_in}
use Rattle.target_truth.specs.Typed.{AreTyped}

pub record IsGood (target : TargetValue) : Type 0 where
  pub consistent : IsConsistent target
  pub images : AreTyped target.contexts.images
  pub whole : (number : ℕ) (process : ProcessValue) → process_in number target ≡ Some process → IsWhole process
  pub few : (number : ℕ) (process : ProcessValue) → process_in number target ≡ Some process → AreFew process.threads
