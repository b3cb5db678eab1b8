-- A process that is found is live: its number lies between 0 and the next one.
use Rattle.std.proofs.Common.{◌≡◌, ℕ, zero, suc, ◌≤◌, ◌<◌, List, [], ◌∷◌, length, get_or, Option, Some, None, refl, ap, arith}
use Rattle.target_contexts.specs.Live.{IsLive, IsOrderly, Rise, numbers_of, process_of}
use Rattle.target_contexts.specs.ProcessValue.{ProcessValue}
use Rattle.target_contexts.specs.Threads.{thread_count}
use Rattle.run_control.specs.TargetValue.{TargetValue}
use Rattle.target_truth.specs.Holds.{process_in}
use Rattle.target_truth.proofs.Seen.{AreNumbered}
use Rattle.target_truth.proofs.Whole.{IsGood}
use Rattle.tcf_values.specs.Spelling.{IsNumber}
use Rattle.data_services.proofs.PartSteps.{live_found}
use Rattle.target_contexts.proofs.Found.{below}

-- ---- a process that is found is live

-- what isn't live isn't found
none_by : (number : ℕ) (rows : List (ℕ × ProcessValue)) (found : Option ProcessValue) → process_of number rows ≡ found → (IsLive number rows → ⊥) → process_of number rows ≡ None
none_by number rows None there gone = there
none_by number rows (Some process) there gone = absurd (gone (live_found number rows process there))

pub none_found : (number : ℕ) (rows : List (ℕ × ProcessValue)) → (IsLive number rows → ⊥) → process_of number rows ≡ None
none_found number rows gone = none_by number rows (process_of number rows) refl gone

-- ---- its number lies between 0 and the next

between : (rows : List (ℕ × ProcessValue)) (low next place : ℕ) (row : ℕ × ProcessValue) → Rise low (numbers_of rows) next → place < length rows → get_or rows place row ≡ row
    → (low < row.0) × (row.0 < next)
between [] low next place row rising inside there = absurd (omega arith)
between (first ∷ rows) low next zero row rising inside there =
    let e : first.0 ≡ row.0 = ap (λ (r : ℕ × ProcessValue). r.0) there in
    (omega (arith, e, rising.0), omega (arith, e, below rows first.0 next rising.1))
between (first ∷ rows) low next (suc place) row rising inside there =
    let more = between rows first.0 next place row rising.1 (omega arith) there in
    (omega (arith, rising.0, more.0), more.1)

pub live_number : (number next : ℕ) (rows : List (ℕ × ProcessValue)) → IsOrderly rows next → IsLive number rows → IsNumber number × (number < next)
live_number number next rows orderly (place, row, inside, there, same) =
    let is = between rows 0 next place row orderly.rising inside there in
    ((omega (arith, is.0, same), omega (arith, is.1, same, orderly.bounded)), omega (arith, is.1, same))

-- that of a process which is found is one that IDs have
pub number_found : (target : TargetValue) (number : ℕ) (process : ProcessValue) → IsGood target → process_in number target ≡ Some process → IsNumber number
number_found target number process good there =
    (live_number number target.contexts.next target.contexts.processes good.consistent.processes (live_found number target.contexts.processes process there)).0

-- and it has at most eight threads
pub few_found : (target : TargetValue) (number : ℕ) (process : ProcessValue) → IsGood target → process_in number target ≡ Some process → thread_count process ≤ 8
few_found target number process good there = (good.few number process there).few

pub numbered : (target : TargetValue) → IsGood target → AreNumbered target
numbered target good number process there = (number_found target number process good there, few_found target number process good there)

-- the next number is that of no process
pub next_unused : (next : ℕ) (rows : List (ℕ × ProcessValue)) → IsOrderly rows next → IsLive next rows → ⊥
next_unused next rows orderly live = let is = (live_number next next rows orderly live).1 in omega arith
