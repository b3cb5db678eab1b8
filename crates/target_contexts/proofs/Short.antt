-- The threads of the processes stay few, and names, reasons and hits short.
use Rattle.std.proofs.Common.{◌≡◌, ◌≤◌, ℕ, zero, suc, Bool, true, false, cond, nat_le, bytes_eq, List, [], ◌∷◌, length, take, drop, slice_get, slice_set, Option, Some, None, option_map, IfSome, refl, subst, ◌+◌, ◌++◌, arith, length-append, lit≤, leb-true}
use Rattle.std.specs.List.{AllByRecursion}
use Rattle.std.proofs.lemmas.Bool.{and_parts}
use Rattle.target_contexts.specs.Changes.{with_change_at}
use Rattle.target_contexts.specs.Images.{image_of, is_named}
use Rattle.target_contexts.specs.Live.{place_of, process_at, process_of, with_at, with_row, without_at}
use Rattle.target_contexts.specs.Short.{AllShort, BeginStaysShort, ChangeStaysShort, EndStaysShort, FoundIsShort, IsShort, IsShortState, StartStaysShort, ThreadStaysShort}
use Rattle.target_contexts.specs.Starting.{first_state, new_process, suspended_text, with_started}
use Rattle.target_contexts.specs.Spawning.{begun_thread, can_begin}
use Rattle.target_contexts.specs.TargetsValue.{TargetsValue}
use Rattle.target_contexts.specs.ThreadList.{AreFew, changed_numbered}
use Rattle.target_contexts.specs.declared.threads.Thread.{Thread}
use Rattle.target_contexts.specs.declared.process.Image.{Image}
use Rattle.target_contexts.specs.ProcessValue.{ProcessValue}
use Rattle.target_contexts.proofs.ThreadLists.{changed_count, each_thread_keeps, few_before}
use Rattle.list_laws.proofs.AllLists.{all_take, all_append, all_drop}

abbrev IsRow : ℕ × ProcessValue → Type 0
IsRow row = IsShort row.1

-- ---- lists

all_set : {A : Type 0} → (P : A → Type 0) (xs : List A) (i : ℕ) (y : A) → P y → AllByRecursion P xs → AllByRecursion P (slice_set xs i y)
all_set P [] i y holds all = tt
all_set P (x ∷ xs) zero y holds all = (holds, all.1)
all_set P (x ∷ xs) (suc i) y holds all = (all.0, all_set P xs i y holds all.1)

all_get : {A : Type 0} → (P : A → Type 0) (xs : List A) (i : ℕ) → AllByRecursion P xs → IfSome (slice_get xs i) P
all_get P [] i all = tt
all_get P (x ∷ xs) zero all = all.0
all_get P (x ∷ xs) (suc i) all = all_get P xs i all.1

-- ---- a process that is found

row_short : (row : Option (ℕ × ProcessValue)) → IfSome row IsRow → IfSome (option_map (λ (r : ℕ × ProcessValue). r.1) row) IsShort
row_short None short = tt
row_short (Some row) short = short

at_short : (rows : List (ℕ × ProcessValue)) (place : Option ℕ) → AllShort rows → IfSome (process_at rows place) IsShort
at_short rows None all = tt
at_short rows (Some place) all = row_short (slice_get rows place) (all_get IsRow rows place all)

of_short : (rows : List (ℕ × ProcessValue)) (number : ℕ) → AllShort rows → IfSome (process_of number rows) IsShort
of_short rows number all = at_short rows (place_of number rows) all

pub found_is_short : FoundIsShort
found_is_short rows number process all found = subst (λ (o : Option ProcessValue). IfSome o IsShort) found (of_short rows number all)

-- ---- a start

named_short : (test : Bool) (image : Image) (rest : Option Image) → (test ≡ true → length image.name ≤ 65536) → IfSome rest (λ (i : Image). length i.name ≤ 65536)
    → IfSome (cond test (Some image) rest) (λ (i : Image). length i.name ≤ 65536)
named_short true image rest short others = short refl
named_short false image rest short others = others

image_short : (file : List ℕ) (images : List Image) → IfSome (image_of file images) (λ (i : Image). length i.name ≤ 65536)
image_short file [] = tt
image_short file (image ∷ images) =
    named_short (is_named file image) image (image_of file images)
    (λ named. leb-true (length image.name) 65536 (and_parts (nat_le (length image.name) 65536) (bytes_eq image.name file) named).0) (image_short file images)

first_short : (attach : Bool) → IsShortState (first_state attach)
unfolding suspended_text
first_short true = (lit≤ tt, (lit≤ tt, tt))
first_short false = tt

started_short : (attach : Bool) (targets : TargetsValue) (image : Option Image) → IfSome image (λ (i : Image). length i.name ≤ 65536) → AllShort targets.processes
    → AllShort (with_started attach targets image).processes
started_short attach targets None short all = all
started_short attach targets (Some image) short all =
    let few : AreFew (new_process attach image).threads = record { some = lit≤ tt; few = lit≤ tt } in
    let new : IsShort (new_process attach image) = record { name = short; threads = (first_short attach, tt); count = few } in
    all_append IsRow targets.processes ((targets.next, new_process attach image) ∷ []) all (new, tt)

pub start_stays_short : StartStaysShort
start_stays_short file attach targets all = started_short attach targets (image_of file targets.images) (image_short file targets.images) all

-- ---- a change

with_row_short : (process : ProcessValue) (rows : List (ℕ × ProcessValue)) (place : ℕ) (row : Option (ℕ × ProcessValue)) → IsShort process → AllShort rows → AllShort (with_row process rows place row)
with_row_short process rows place None short all = all
with_row_short process rows place (Some row) short all = all_set IsRow rows place (row.0, process) short all

with_at_short : (process : ProcessValue) (rows : List (ℕ × ProcessValue)) (place : Option ℕ) → IsShort process → AllShort rows → AllShort (with_at process rows place)
with_at_short process rows None short all = all
with_at_short process rows (Some place) short all = with_row_short process rows place (slice_get rows place) short all

changed_short : (change : ProcessValue → ProcessValue) (number : ℕ) (found : Option ProcessValue) (targets : TargetsValue) → ((process : ProcessValue) → IsShort process → IsShort (change process)) → IfSome found IsShort
    → AllShort targets.processes → AllShort (with_change_at change number found targets).processes
changed_short change number None targets keeps short all = all
changed_short change number (Some process) targets keeps short all =
    with_at_short (change process) targets.processes (place_of number targets.processes) (keeps process short) all

pub change_stays_short : ChangeStaysShort
change_stays_short change number targets keeps all =
    changed_short change number (process_of number targets.processes) targets keeps (of_short targets.processes number all) all

-- ---- an end

without_short : (rows : List (ℕ × ProcessValue)) (place : Option ℕ) → AllShort rows → AllShort (without_at rows place)
without_short rows None all = all
without_short rows (Some place) all = all_append IsRow (take place rows) (drop (suc place) rows) (all_take IsRow place rows all) (all_drop IsRow (suc place) rows all)

pub end_stays_short : EndStaysShort
end_stays_short rows number all = without_short rows (place_of number rows) all

-- ---- a thread more, and a thread that is changed

abbrev IsShortThread : Thread → Type 0
IsShortThread thread = IsShortState thread.state

begun_by : (can : Bool) (pc argument : ℕ) (process : ProcessValue) → (can ≡ true → length process.threads + 1 ≤ 8) → IsShort process
    → IsShort (cond can (record process { threads = process.threads ++ begun_thread pc argument ∷ [] }) process)
begun_by false pc argument process room is = is
begun_by true pc argument process room is =
    let thread : Thread = begun_thread pc argument in
    let long : length (process.threads ++ thread ∷ []) ≡ length process.threads + 1 = length-append process.threads (thread ∷ []) in
    record {
      name = is.name;
      threads = all_append IsShortThread process.threads (thread ∷ []) is.threads (tt, tt);
      count = record { some = omega (arith, long); few = omega (arith, long, room refl) };
    }

pub begin_stays_short : BeginStaysShort
begin_stays_short pc argument process is =
    begun_by (can_begin pc process) pc argument process (λ can. omega (arith, few_before pc process can)) is

pub thread_stays_short : ThreadStaysShort
thread_stays_short change n process keeps is =
    let long : length (changed_numbered change n process.threads) ≡ length process.threads = changed_count change n process.threads in
    record {
      name = is.name;
      threads = each_thread_keeps IsShortThread change n process (λ thread found short. keeps thread short) is.threads;
      count = record { some = omega (arith, long, is.count.some); few = omega (arith, long, is.count.few) };
    }
