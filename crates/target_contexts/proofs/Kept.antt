-- The rows of a target, and what is seen of them.
use Rattle.std.proofs.Common.{◌≡◌, ℕ, zero, suc, ◌+◌, ◌<◌, ◌^◌, Bool, cond, not, nat_eq, List, [], ◌∷◌, ◌++◌, length, map, get_or, remove, slice_get, slice_set, Option, Some, None, option_and_then, option_map, refl, sym, ◌∙◌, ap, subst}
use Rattle.std.proofs.Math.ListN.{get_or-map}
use Rattle.std.specs.List.{position, position_or_len}
use Rattle.std.proofs.lemmas.List.{length-map, map-append, map-set}
use Rattle.std.proofs.lemmas.List.Quantifiers.{position-Some}
use Rattle.std.proofs.lemmas.Option.{slice_get-map, slice_get_read}
use Rattle.list_laws.proofs.Lists.{set_same}
use Rattle.rv32i_core.specs.Bytes.{image_memory}
use Rattle.rv32i_core.specs.PageKind.{PageKind}
use Rattle.target_contexts.specs.Kept.{kinds_at, kinds_of, place_in, put_at, removed_at, seen_row, seen_rows, with_kept}
use Rattle.target_contexts.specs.KeptImages.{IsOf}
use Rattle.target_contexts.specs.KeptProcess.{KeptProcess}
use Rattle.target_contexts.specs.KeptTargets.{KeptTargets}
use Rattle.target_contexts.specs.Live.{IsOrderly, place_of, process_of, with_process}
use Rattle.target_contexts.specs.ProcessValue.{ProcessValue}
use Rattle.target_contexts.specs.Starting.{process_from, with_started}
use Rattle.target_contexts.specs.TargetsValue.{TargetsValue}
use Rattle.target_contexts.specs.declared.process.Image.{Image}
use Rattle.target_contexts.proofs.Found.{positive_there, process_there, written_there}
use Rattle.target_contexts.proofs.PutBack.{put_back}
use Rattle.target_contexts.proofs.Rising.{orderly_push, orderly_remove, orderly_set}

pub as_many : (rows : List (ℕ × KeptProcess)) → length (seen_rows rows) ≡ length rows
as_many rows = length-map rows seen_row

-- ---- the place of a number

first_mapped : {A B : Type 0} (f : A → B) (p : B → Bool) (xs : List A) → position_or_len p (map f xs) ≡ position_or_len (λ x. p (f x)) xs
first_mapped f p [] = refl
first_mapped f p (x ∷ xs) = ap (λ n. cond (not (p (f x))) (1 + n) 0) (first_mapped f p xs)

position_mapped : {A B : Type 0} (f : A → B) (p : B → Bool) (xs : List A) → position p (map f xs) ≡ position (λ x. p (f x)) xs
position_mapped f p xs = rw (first_mapped f p xs, length-map xs f) refl

pub place_seen : (number : ℕ) (rows : List (ℕ × KeptProcess)) → place_of number (seen_rows rows) ≡ place_in number rows
place_seen number rows = position_mapped seen_row (λ (r : ℕ × ProcessValue). nat_eq r.0 number) rows

pub within : (number : ℕ) (rows : List (ℕ × KeptProcess)) (place : ℕ) → place_in number rows ≡ Some place → place < length rows
within number [] place found = cc
within number (row ∷ rows) place found = (position-Some (λ (r : ℕ × KeptProcess). nat_eq r.0 number) (row ∷ rows) place row found).0

pub inside_seen : (rows : List (ℕ × KeptProcess)) (place number : ℕ) → place_of number (seen_rows rows) ≡ Some place → place < length rows
inside_seen rows place number found = within number rows place (sym (place_seen number rows) ∙ found)

-- ---- the row there

row_seen : (rows : List (ℕ × KeptProcess)) (place : ℕ) (row : ℕ × KeptProcess) → row ≡ get_or rows place row → seen_row row ≡ get_or (seen_rows rows) place (seen_row row)
row_seen rows place row there = ap seen_row there ∙ sym (get_or-map seen_row rows place row)

pub process_by : (number : ℕ) (rows : List (ℕ × KeptProcess)) (place : ℕ) (row : ℕ × KeptProcess) → place_of number (seen_rows rows) ≡ Some place → row ≡ get_or rows place row
    → process_of number (seen_rows rows) ≡ Some row.1.seen
process_by number rows place row found there = process_there number (seen_rows rows) place (seen_row row) found (row_seen rows place row there)

pub positive_by : (number : ℕ) (rows : List (ℕ × KeptProcess)) (next place : ℕ) (row : ℕ × KeptProcess) → IsOrderly (seen_rows rows) next → place_of number (seen_rows rows) ≡ Some place → row ≡ get_or rows place row → 0 < number
positive_by number rows next place row orderly found there = positive_there number (seen_rows rows) next place (seen_row row) orderly found (row_seen rows place row there)

-- ---- a process that is written

pub seen_by : (number : ℕ) (rows : List (ℕ × KeptProcess)) (place : ℕ) (row : ℕ × KeptProcess) (process : KeptProcess) → place_of number (seen_rows rows) ≡ Some place → row ≡ get_or rows place row
    → with_process number process.seen (seen_rows rows) ≡ seen_rows (slice_set rows place (row.0, process))
seen_by number rows place row process found there =
    written_there number (seen_rows rows) place (seen_row row) process.seen found (row_seen rows place row there) ∙ sym (map-set seen_row rows place (row.0, process))

pub kinds_by : (rows : List (ℕ × KeptProcess)) (place number : ℕ) (process : KeptProcess) (o : Option ℕ) → o ≡ Some place
    → put_at (kinds_of rows) o process.kinds ≡ kinds_of (slice_set rows place (number, process))
kinds_by rows place number process o found = rw found (sym (map-set (λ (r : ℕ × KeptProcess). r.1.kinds) rows place (number, process)))

pub orderly_written : (rows : List (ℕ × KeptProcess)) (next place : ℕ) (row : ℕ × KeptProcess) (process : KeptProcess) → IsOrderly (seen_rows rows) next → row ≡ get_or rows place row → IsOrderly (seen_rows (slice_set rows place (row.0, process))) next
orderly_written rows next place row process orderly there =
    let P : List (ℕ × ProcessValue) → Type 0 = λ seen. IsOrderly seen next in
    subst P (sym (map-set seen_row rows place (row.0, process))) (orderly_set (seen_rows rows) next place (seen_row row) process.seen orderly (row_seen rows place row there))

-- the pages at the place of a process
pub kinds_there : (rows : List (ℕ × KeptProcess)) (place : ℕ) (row : ℕ × KeptProcess) (o : Option ℕ) → o ≡ Some place → place < length rows → row ≡ get_or rows place row
    → option_and_then (slice_get (kinds_of rows)) o ≡ Some row.1.kinds
kinds_there rows place row o found inside there =
    let read : slice_get rows place ≡ Some row = slice_get_read rows (length rows) place row refl inside there in
    ap (option_and_then (slice_get (kinds_of rows))) found
    ∙ slice_get-map (λ (r : ℕ × KeptProcess). r.1.kinds) rows place
    ∙ ap (λ (r : Option (ℕ × KeptProcess)). option_map (λ (r : ℕ × KeptProcess). r.1.kinds) r) read

-- pages that are put back are as they were
pub kinds_back : (kinds : List (List PageKind)) (o : Option ℕ) (pages : List PageKind) → option_and_then (slice_get kinds) o ≡ Some pages → put_at kinds o pages ≡ kinds
kinds_back kinds None pages is = refl
kinds_back kinds (Some place) pages is = set_same place kinds pages is

-- and so is a process that is put back with its pages
pub kinds_same : (kinds : List (List PageKind)) (o : Option ℕ) (pages new : List PageKind) → Some pages ≡ option_and_then (slice_get kinds) o → new ≡ pages → put_at kinds o new ≡ kinds
kinds_same kinds o pages new there same = ap (put_at kinds o) same ∙ kinds_back kinds o pages (sym there)

pub kept_same : (number : ℕ) (targets : KeptTargets) (process : KeptProcess) → Some process.seen ≡ process_of number targets.seen.processes → Some process.kinds ≡ kinds_at number targets
    → with_kept number process targets ≡ targets
kept_same number targets process there pages =
    ap (λ (rows : List (ℕ × ProcessValue)). record targets { seen = record targets.seen { processes = rows }; kinds = put_at targets.kinds (place_of number targets.seen.processes) process.kinds })
    (put_back targets.seen.processes number process.seen (sym there))
    ∙ ap (λ (kinds : List (List PageKind)). record targets { kinds = kinds }) (kinds_back targets.kinds (place_of number targets.seen.processes) process.kinds (sym pages))

-- ---- a process more

pub rows_added : (rows : List (ℕ × KeptProcess)) (number : ℕ) (process : KeptProcess) → seen_rows (rows ++ (number, process) ∷ []) ≡ seen_rows rows ++ (number, process.seen) ∷ []
rows_added rows number process = map-append seen_row rows ((number, process) ∷ [])

pub kinds_added : (rows : List (ℕ × KeptProcess)) (number : ℕ) (process : KeptProcess) → kinds_of (rows ++ (number, process) ∷ []) ≡ kinds_of rows ++ process.kinds ∷ []
kinds_added rows number process = map-append (λ (r : ℕ × KeptProcess). r.1.kinds) rows ((number, process) ∷ [])

pub orderly_added : (rows : List (ℕ × KeptProcess)) (next : ℕ) (process : KeptProcess) → IsOrderly (seen_rows rows) next → length (seen_rows rows) < 64 → next < 2 ^ 32 → IsOrderly (seen_rows (rows ++ (next, process) ∷ [])) (next + 1)
orderly_added rows next process orderly room small =
    let P : List (ℕ × ProcessValue) → Type 0 = λ seen. IsOrderly seen (next + 1) in
    subst P (sym (rows_added rows next process)) (orderly_push (seen_rows rows) next process.seen orderly room small)

pub started_by : (attach : Bool) (targets : TargetsValue) (found : Option Image) (name pages : List ℕ) (entry : ℕ) (process : ProcessValue) → IsOf found name pages entry
    → process ≡ process_from attach name entry (image_memory pages)
    → with_started attach targets found ≡ record targets { processes = targets.processes ++ (targets.next, process) ∷ []; next = targets.next + 1 }
started_by attach targets None name pages entry process is made = absurd is
started_by attach targets (Some image) name pages entry process is made = rw (made, ← is.0, is.1.memory, is.1.entry_is) refl

-- ---- a process less

map_removed : {A B : Type 0} (f : A → B) (xs : List A) (place : ℕ) → map f (remove xs place) ≡ remove (map f xs) place
map_removed f [] zero = refl
map_removed f [] (suc place) = refl
map_removed f (x ∷ xs) zero = refl
map_removed f (x ∷ xs) (suc place) = ap (λ ys. f x ∷ ys) (map_removed f xs place)

pub rows_removed : (rows : List (ℕ × KeptProcess)) (place : ℕ) → seen_rows (remove rows place) ≡ remove (seen_rows rows) place
rows_removed rows place = map_removed seen_row rows place

pub kinds_removed : (rows : List (ℕ × KeptProcess)) (place : ℕ) (o : Option ℕ) → o ≡ Some place → kinds_of (remove rows place) ≡ removed_at (kinds_of rows) o
kinds_removed rows place o found = map_removed (λ (r : ℕ × KeptProcess). r.1.kinds) rows place ∙ ap (λ p. removed_at (kinds_of rows) p) (sym found)

pub orderly_removed : (rows : List (ℕ × KeptProcess)) (next place : ℕ) → IsOrderly (seen_rows rows) next → IsOrderly (seen_rows (remove rows place)) next
orderly_removed rows next place orderly =
    let P : List (ℕ × ProcessValue) → Type 0 = λ seen. IsOrderly seen next in
    subst P (sym (rows_removed rows place)) (orderly_remove (seen_rows rows) next place orderly)
