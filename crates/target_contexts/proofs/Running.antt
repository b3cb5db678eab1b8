-- The threads that run, row by row, and of a row one after the other.
use Rattle.std.proofs.Common.{◌≡◌, ℕ, ◌+◌, ◌-◌, ◌<◌, ◌≤◌, Bool, true, false, cond, List, [], ◌∷◌, ◌++◌, filter, length, map, get_or, drop, Option, Some, option_and_then, refl, sym, ◌∙◌, ap, arith, append_assoc}
use Rattle.std.specs.List.{AllByRecursion}
use Rattle.std.proofs.lemmas.Bool.{eq-eqb, ne_eqb}
use Rattle.std.proofs.lemmas.List.{drop_more, map-append}
use Rattle.std.proofs.lemmas.List.Elements.{filter-append}
use Rattle.list_laws.proofs.AllLists.{all_both}
use Rattle.list_laws.proofs.Splits.{filter_mapped}
use Rattle.tcf_values.specs.declared.ids.ContextId.{ContextId}
use Rattle.tcf_values.specs.declared.ids.ContextId.TheVariants as ids
use Rattle.target_contexts.specs.Kept.{seen_rows}
use Rattle.target_contexts.specs.KeptProcess.{KeptProcess}
use Rattle.target_contexts.specs.Live.{IsOrderly, numbers_of, process_of, Rise}
use Rattle.target_contexts.specs.Named.{is_running, is_suspended, running_row, running_rows, running_threads, thread_at_pair, thread_for, threads_in}
use Rattle.target_contexts.specs.ProcessValue.{ProcessValue}
use Rattle.target_contexts.specs.ThreadList.{numbered}
use Rattle.target_contexts.specs.Threads.{numbers_to, thread_at, thread_numbers}
use Rattle.target_contexts.specs.declared.threads.Thread.{Thread}
use Rattle.target_contexts.proofs.Ranges.{filter_last}
use Rattle.target_contexts.proofs.Lookup.{first_of, process_in, process_of-first}

-- ---- each row has the process of its number

first_row : (row : ℕ × ProcessValue) (rows : List (ℕ × ProcessValue)) → process_of row.0 (row ∷ rows) ≡ Some row.1
first_row row rows =
    process_of-first row.0 (row ∷ rows) ∙ ap (λ b. process_in (cond b (Some row) (first_of row.0 rows))) (eq-eqb row.0 row.0 refl)

later_row : (row : ℕ × ProcessValue) (rows : List (ℕ × ProcessValue)) (number : ℕ) → row.0 < number → process_of number (row ∷ rows) ≡ process_of number rows
later_row row rows number above =
    process_of-first number (row ∷ rows)
    ∙ ap (λ b. process_in (cond b (Some row) (first_of number rows))) (ne_eqb row.0 number (λ e. omega (arith, above, e)))
    ∙ sym (process_of-first number rows)

-- all numbers are above a lower bound
all_above : (rows : List (ℕ × ProcessValue)) (low bound next : ℕ) → low ≤ bound → Rise bound (numbers_of rows) next → AllByRecursion (λ (row : ℕ × ProcessValue). low < row.0) rows
all_above [] low bound next under rising = tt
all_above (row ∷ rows) low bound next under rising =
    (omega (arith, under, rising.0), all_above rows low row.0 next (omega (arith, under, rising.0)) rising.1)

abbrev Agrees : List (ℕ × ProcessValue) → ℕ × ProcessValue → Type 0
Agrees all row = process_of row.0 all ≡ Some row.1

all_found : (rows : List (ℕ × ProcessValue)) (low next : ℕ) → Rise low (numbers_of rows) next → AllByRecursion (Agrees rows) rows
all_found [] low next rising = tt
all_found (row ∷ rows) low next rising = (
  first_row row rows,
  all_both (λ (r : ℕ × ProcessValue). row.0 < r.0) (Agrees rows) (Agrees (row ∷ rows)) rows (λ r above found. later_row row rows r.0 above ∙ found)
      (all_above rows row.0 row.0 next (omega arith) rising.1) (all_found rows row.0 next rising.1),
)

-- of a row those run that do as they are looked up
abbrev runs_in : List (ℕ × ProcessValue) → ContextId → Bool
runs_in all id = is_running (thread_at_pair (thread_for id) all)

row_walked : (all : List (ℕ × ProcessValue)) (row : ℕ × ProcessValue) → Agrees all row → filter (runs_in all) (map (ids.Thread row.0) (thread_numbers row.1)) ≡ running_row row.0 row.1.threads
row_walked all row found =
    filter_mapped (runs_in all) (ids.Thread row.0) (thread_numbers row.1)
    ∙ ap (λ (o : Option ProcessValue). map (ids.Thread row.0) (filter (λ n. is_running (option_and_then (thread_at n) o)) (thread_numbers row.1))) found

rows_walked : (all rows : List (ℕ × ProcessValue)) → AllByRecursion (Agrees all) rows → filter (runs_in all) (threads_in rows) ≡ running_rows rows
rows_walked all [] agree = refl
rows_walked all (row ∷ rows) agree =
    filter-append (runs_in all) (map (ids.Thread row.0) (thread_numbers row.1)) (threads_in rows)
    ∙ ap (λ (xs : List ContextId). xs ++ filter (runs_in all) (threads_in rows)) (row_walked all row agree.0)
    ∙ ap (λ (xs : List ContextId). running_row row.0 row.1.threads ++ xs) (rows_walked all rows agree.1)

pub running_walked : (rows : List (ℕ × ProcessValue)) (next : ℕ) (threads : List ContextId) → IsOrderly rows next → threads ≡ running_rows rows → threads ≡ running_threads rows
running_walked rows next threads orderly are = are ∙ sym (rows_walked rows rows (all_found rows 0 next orderly.rising))

-- ---- one row more

pub row_more : (rows : List (ℕ × KeptProcess)) (i : ℕ) (row : ℕ × KeptProcess) (running new all : List ContextId) → i < length rows → row ≡ get_or rows i row → new ≡ running ++ running_row row.0 row.1.seen.threads
    → running ++ running_rows (seen_rows (drop i rows)) ≡ all → new ++ running_rows (seen_rows (drop (i + 1) rows)) ≡ all
row_more rows i row running new all inside there grown so_far =
    ap (λ (xs : List ContextId). xs ++ running_rows (seen_rows (drop (i + 1) rows))) grown
    ∙ append_assoc running (running_row row.0 row.1.seen.threads) (running_rows (seen_rows (drop (i + 1) rows)))
    ∙ ap (λ (rs : List (ℕ × KeptProcess)). running ++ running_rows (seen_rows rs)) (sym (drop_more rows i row inside ∙ ap (λ (r : ℕ × KeptProcess). r ∷ drop (i + 1) rows) (sym there)))
    ∙ so_far

-- ---- one thread more of a row

abbrev pub running_to : ℕ → List Thread → ℕ → List ContextId
running_to number threads count = map (ids.Thread number) (filter (λ n. is_running (numbered n threads)) (numbers_to count))

if_mapped : (number n : ℕ) (b : Bool) → map (ids.Thread number) (cond b (n ∷ []) []) ≡ cond b (ids.Thread number n ∷ []) []
if_mapped number n true = refl
if_mapped number n false = refl

pub thread_walked : (number place : ℕ) (threads : List Thread) (first running new : List ContextId)
    → new ≡ running ++ cond (is_running (numbered (place + 1) threads)) (ids.Thread number (place + 1) ∷ []) []
    → running ≡ first ++ running_to number threads place → new ≡ first ++ running_to number threads (place + 1)
thread_walked number place threads first running new grown so_far =
    let p : ℕ → Bool = λ n. is_running (numbered n threads) in
    let on : Bool = p (place + 1) in
    let some : List ContextId = cond on (ids.Thread number (place + 1) ∷ []) [] in
    let more : running_to number threads (place + 1) ≡ running_to number threads place ++ some =
    ap (map (ids.Thread number)) (filter_last p 1 place (place + 1) on (omega arith) refl)
    ∙ map-append (ids.Thread number) (filter p (numbers_to place)) (cond on ((place + 1) ∷ []) [])
    ∙ ap (λ (xs : List ContextId). running_to number threads place ++ xs) (if_mapped number (place + 1) on) in
    grown ∙ ap (λ (xs : List ContextId). xs ++ some) so_far
    ∙ append_assoc first (running_to number threads place) some
    ∙ ap (λ (xs : List ContextId). first ++ xs) (sym more)

-- ---- one thread more of those that stand

pub stood_walked : (place : ℕ) (threads : List Thread) (numbers new : List ℕ) → new ≡ numbers ++ cond (is_suspended (numbered (place + 1) threads)) ((place + 1) ∷ []) []
    → numbers ≡ filter (λ n. is_suspended (numbered n threads)) (numbers_to place) → new ≡ filter (λ n. is_suspended (numbered n threads)) (numbers_to (place + 1))
stood_walked place threads numbers new grown so_far =
    let p : ℕ → Bool = λ n. is_suspended (numbered n threads) in
    let on : Bool = p (place + 1) in
    grown ∙ ap (λ (ns : List ℕ). ns ++ cond on ((place + 1) ∷ []) []) so_far
    ∙ sym (filter_last p 1 place (place + 1) on (omega arith) refl)
