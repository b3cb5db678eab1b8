-- Targets whose images have bytes and whose processes are all whole: look-ups, a change, a start and an end.
use Rattle.std.proofs.Common.{◌≡◌, ℕ, zero, suc, ◌<◌, ◌≤◌, ◌==◌, nat_lt, Bool, true, false, cond, List, [], ◌∷◌, ◌++◌, length, remove, slice_get, slice_set, Option, Some, None, option_map, inl, inr, refl, sym, ◌∙◌, ap, subst, arith}
use Rattle.std.specs.List.{AllByRecursion, find, position_or_len}
use Rattle.std.proofs.lemmas.Bool.{cases_Bool, cond-false, cond-true, eq-eqb, eqb-true, ltb-false, ne_eqb}
use Rattle.std.proofs.lemmas.List.Folds.{find_at}
use Rattle.std.proofs.lemmas.Option.{none-some, same_Some, slice_get_past}
use Rattle.target_contexts.specs.Changes.{with_change, with_change_at}
use Rattle.target_contexts.specs.Live.{IsOrderly, Rise, numbers_of, place_of, process_at, process_of, with_at, with_row, without, without_at}
use Rattle.target_contexts.specs.TargetsValue.{TargetsValue}
use Rattle.target_contexts.specs.Whole.{IsWhole}
use Rattle.target_contexts.specs.ProcessValue.{ProcessValue}
use Rattle.command_tables.specs.Canonical.{AreBytes}

abbrev pub AllWhole : List (ℕ × ProcessValue) → Type 0
AllWhole rows = AllByRecursion (λ row. IsWhole row.1) rows

pub record IsFit (targets : TargetsValue) : Type 0 where
  pub images : AllByRecursion (λ image. AreBytes image.bytes) targets.images
  pub processes : AllWhole targets.processes

-- ---- a process that is found is whole

found_there : (rows : List (ℕ × ProcessValue)) (place : ℕ) (process : ProcessValue) → AllWhole rows → option_map (λ row. row.1) (slice_get rows place) ≡ Some process → IsWhole process
found_there [] place process all is = absurd (none-some process is)
found_there (row ∷ rows) zero process all is = subst IsWhole (same_Some row.1 process is) all.0
found_there (row ∷ rows) (suc place) process all is = found_there rows place process all.1 is

found_at : (rows : List (ℕ × ProcessValue)) (place : Option ℕ) (process : ProcessValue) → AllWhole rows → process_at rows place ≡ Some process → IsWhole process
found_at rows None process all is = absurd (none-some process is)
found_at rows (Some place) process all is = found_there rows place process all is

pub found_whole : (number : ℕ) (rows : List (ℕ × ProcessValue)) (process : ProcessValue) → AllWhole rows → process_of number rows ≡ Some process → IsWhole process
found_whole number rows process all is = found_at rows (place_of number rows) process all is

-- ---- and where each that is found is whole, all are: numbers differ

abbrev is_of : ℕ → ℕ × ProcessValue → Bool
is_of number row = row.0 == number

abbrev first_of : ℕ → List (ℕ × ProcessValue) → Option (ℕ × ProcessValue)
first_of number rows = find (λ (row : ℕ × ProcessValue). is_of number row) rows

abbrev its_process : Option (ℕ × ProcessValue) → Option ProcessValue
its_process found = option_map (λ (row : ℕ × ProcessValue). row.1) found

abbrev place_in : ℕ → List (ℕ × ProcessValue) → ℕ
place_in number rows = position_or_len (λ (row : ℕ × ProcessValue). is_of number row) rows

first_by : (number : ℕ) (rows : List (ℕ × ProcessValue)) (is_there : Bool) → nat_lt (place_in number rows) (length rows) ≡ is_there
    → process_at rows (cond is_there (Some (place_in number rows)) None) ≡ its_process (first_of number rows)
first_by number rows true is = ap its_process (sym (find_at (λ (row : ℕ × ProcessValue). is_of number row) rows))
first_by number rows false is =
    ap its_process (sym (slice_get_past rows (place_in number rows) (ltb-false (place_in number rows) (length rows) is)) ∙ sym (find_at (λ (row : ℕ × ProcessValue). is_of number row) rows))

first_is : (number : ℕ) (rows : List (ℕ × ProcessValue)) → process_of number rows ≡ its_process (first_of number rows)
first_is number rows = first_by number rows (nat_lt (place_in number rows) (length rows)) refl

none_above : (number : ℕ) (rows : List (ℕ × ProcessValue)) (low next : ℕ) → Rise low (numbers_of rows) next → number ≤ low → first_of number rows ≡ None
none_above number [] low next rising under = refl
none_above number (row ∷ rows) low next rising under =
    let over : low < row.0 = rising.0 in
    cond-false _ _ _ (ne_eqb row.0 number (λ same. omega arith)) ∙ none_above number rows row.0 next rising.1 (omega arith)

pub rows_whole : (rows : List (ℕ × ProcessValue)) (low next : ℕ) → Rise low (numbers_of rows) next
    → ((number : ℕ) (process : ProcessValue) → its_process (first_of number rows) ≡ Some process → IsWhole process) → AllWhole rows
rows_whole [] low next rising whole = tt
rows_whole (row ∷ rows) low next rising whole = (
  whole row.0 row.1 (ap its_process (cond-true _ _ _ (eq-eqb row.0 row.0 refl))),
  rows_whole rows row.0 next rising.1 (λ number process is.
      elim (cases_Bool (row.0 == number)) [
        | inl same ↦
            let e : row.0 ≡ number = eqb-true row.0 number same in
            absurd (none-some process (sym (ap its_process (none_above number rows row.0 next rising.1 (omega arith))) ∙ is))
        | inr other ↦ whole number process (ap its_process (cond-false _ _ _ other) ∙ is)
      ]),
)

pub orderly_whole : (rows : List (ℕ × ProcessValue)) (next : ℕ) → IsOrderly rows next → ((number : ℕ) (process : ProcessValue) → process_of number rows ≡ Some process → IsWhole process)
    → AllWhole rows
orderly_whole rows next orderly whole = rows_whole rows 0 next orderly.rising (λ number process is. whole number process (first_is number rows ∙ is))

-- ---- changes of the list

set_row : (rows : List (ℕ × ProcessValue)) (place : ℕ) (row : ℕ × ProcessValue) → AllWhole rows → IsWhole row.1 → AllWhole (slice_set rows place row)
set_row [] place row all is = tt
set_row (other ∷ rows) zero row all is = (is, all.1)
set_row (other ∷ rows) (suc place) row all is = (all.0, set_row rows place row all.1 is)

written_row : (process : ProcessValue) (rows : List (ℕ × ProcessValue)) (place : ℕ) (found : Option (ℕ × ProcessValue)) → AllWhole rows → IsWhole process → AllWhole (with_row process rows place found)
written_row process rows place None all is = all
written_row process rows place (Some row) all is = set_row rows place (row.0, process) all is

written_at : (process : ProcessValue) (rows : List (ℕ × ProcessValue)) (place : Option ℕ) → AllWhole rows → IsWhole process → AllWhole (with_at process rows place)
written_at process rows None all is = all
written_at process rows (Some place) all is = written_row process rows place (slice_get rows place) all is

removed : (rows : List (ℕ × ProcessValue)) (place : ℕ) → AllWhole rows → AllWhole (remove rows place)
removed [] zero all = tt
removed [] (suc place) all = tt
removed (row ∷ rows) zero all = all.1
removed (row ∷ rows) (suc place) all = (all.0, removed rows place all.1)

without_by : (rows : List (ℕ × ProcessValue)) (place : Option ℕ) → AllWhole rows → AllWhole (without_at rows place)
without_by rows None all = all
without_by rows (Some place) all = removed rows place all

pushed : (rows : List (ℕ × ProcessValue)) (row : ℕ × ProcessValue) → AllWhole rows → IsWhole row.1 → AllWhole (rows ++ row ∷ [])
pushed [] row all is = (is, tt)
pushed (other ∷ rows) row all is = (all.0, pushed rows row all.1 is)

-- ---- changes of a target

pub end_fit : (number : ℕ) (targets : TargetsValue) → IsFit targets → IsFit (record targets { processes = without number targets.processes })
end_fit number targets fit = record { images = fit.images; processes = without_by targets.processes (place_of number targets.processes) fit.processes }

pub start_fit : (targets : TargetsValue) (process : ProcessValue) (next : ℕ) → IsFit targets → IsWhole process
    → IsFit (record targets { processes = targets.processes ++ (targets.next, process) ∷ []; next = next })
start_fit targets process next fit is = record { images = fit.images; processes = pushed targets.processes (targets.next, process) fit.processes is }

change_by : (change : ProcessValue → ProcessValue) (number : ℕ) (targets : TargetsValue) (found : Option ProcessValue) → IsFit targets → ((process : ProcessValue) → found ≡ Some process → IsWhole (change process))
    → IsFit (with_change_at change number found targets)
change_by change number targets None fit is = fit
change_by change number targets (Some process) fit is = record {
  images = fit.images;
  processes = written_at (change process) targets.processes (place_of number targets.processes) fit.processes (is process refl);
}

pub change_fit : (change : ProcessValue → ProcessValue) (number : ℕ) (targets : TargetsValue) → IsFit targets → ((process : ProcessValue) → IsWhole process → IsWhole (change process))
    → IsFit (with_change change number targets)
change_fit change number targets fit keeps =
    change_by change number targets (process_of number targets.processes) fit (λ process is. keeps process (found_whole number targets.processes process fit.processes is))
