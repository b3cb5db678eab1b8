-- What a start, a change and an end make of the look-up by number.
use Rattle.std.proofs.Common.{◌≡◌, ℕ, zero, suc, ◌<◌, nat_eq, nat_lt, Bool, true, false, cond, List, [], ◌∷◌, ◌++◌, length, get_or, remove, slice_get, slice_set, Option, Some, None, option_map, refl, sym, ◌∙◌, ap, subst, arith}
use Rattle.std.specs.List.{find, position_or_len}
use Rattle.std.specs.Option.{option_or}
use Rattle.std.proofs.Math.Seq.{map-set_same}
use Rattle.std.proofs.lemmas.Bool.{eq-eqb, ltb-false, ne_eqb}
use Rattle.std.proofs.lemmas.List.{get_or_default}
use Rattle.std.proofs.lemmas.List.Folds.{find_at, find-append, find-set}
use Rattle.std.proofs.lemmas.Option.{cond_some, slice_get_past}
use Rattle.target_contexts.specs.Live.{IsLive, IsOrderly, numbers_of, place_of, process_at, process_of, Rise, with_process, without_at}
use Rattle.target_contexts.specs.Laws.{AgreeBut, StartsOne, ChangesOne, EndsOne}
use Rattle.target_contexts.specs.ProcessValue.{ProcessValue}
use Rattle.target_contexts.proofs.Found.{above, below, inside, not_live, number_there, written_there}

abbrev pub is_of : ℕ → ℕ × ProcessValue → Bool
is_of number row = nat_eq row.0 number

abbrev pub first_of : ℕ → List (ℕ × ProcessValue) → Option (ℕ × ProcessValue)
first_of number rows = find (λ (row : ℕ × ProcessValue). is_of number row) rows

abbrev pub process_in : Option (ℕ × ProcessValue) → Option ProcessValue
process_in o = option_map (λ (row : ℕ × ProcessValue). row.1) o

abbrev place_in : ℕ → List (ℕ × ProcessValue) → ℕ
place_in number rows = position_or_len (λ (row : ℕ × ProcessValue). is_of number row) rows

-- the process of a number is that of the first row that has it
pub process_of-first : (number : ℕ) (rows : List (ℕ × ProcessValue)) → process_of number rows ≡ process_in (first_of number rows)
process_of-first number rows = by (nat_lt (place_in number rows) (length rows)) refl
  where
    there : first_of number rows ≡ slice_get rows (place_in number rows)
    there = find_at (λ (row : ℕ × ProcessValue). is_of number row) rows

    by : (b : Bool) → nat_lt (place_in number rows) (length rows) ≡ b → process_at rows (cond b (Some (place_in number rows)) None) ≡ process_in (first_of number rows)
    by true e = ap process_in (sym there)
    by false e = ap process_in (sym (slice_get_past rows (place_in number rows) (ltb-false (place_in number rows) (length rows) e)) ∙ sym there)

-- two lists with one first row for a number have one process for it
same_process : (number : ℕ) (old new : List (ℕ × ProcessValue)) → first_of number new ≡ first_of number old → process_of number new ≡ process_of number old
same_process number old new same = process_of-first number new ∙ ap process_in same ∙ sym (process_of-first number old)

-- ---- a start

or_none : (o : Option (ℕ × ProcessValue)) → option_or o None ≡ o
or_none None = refl
or_none (Some row) = refl

first_of-past : (rows : List (ℕ × ProcessValue)) (low next : ℕ) → Rise low (numbers_of rows) next → first_of next rows ≡ None
first_of-past [] low next rising = refl
first_of-past (first ∷ rows) low next rising =
    let under : first.0 < next = below rows first.0 next rising.1 in
    let other : nat_eq first.0 next ≡ false = ne_eqb first.0 next (λ e. omega arith) in
    ap (λ b. cond b (Some first) (first_of next rows)) other ∙ first_of-past rows first.0 next rising.1

pub starts_one : StartsOne
starts_one rows next process orderly = (
  process_of-first next (rows ++ (next, process) ∷ []) ∙ ap process_in (
      find-append (λ (row : ℕ × ProcessValue). is_of next row) rows ((next, process) ∷ [])
      ∙ ap (λ o. option_or o (first_of next ((next, process) ∷ []))) (first_of-past rows 0 next orderly.rising)
      ∙ ap (λ b. cond b (Some (next, process)) None) (eq-eqb next next refl)
      ),
  λ other different. same_process other rows (rows ++ (next, process) ∷ []) (
      find-append (λ (row : ℕ × ProcessValue). is_of other row) rows ((next, process) ∷ [])
      ∙ ap (λ b. option_or (first_of other rows) (cond b (Some (next, process)) None)) (ne_eqb next other (λ e. different (sym e)))
      ∙ or_none (first_of other rows)
      ),
)

-- ---- a change

first_of-set_other : (number : ℕ) (rows : List (ℕ × ProcessValue)) (place : ℕ) (row new : ℕ × ProcessValue) → row ≡ get_or rows place row → is_of number row ≡ false → is_of number new ≡ false → first_of number (slice_set rows place new) ≡ first_of number rows
first_of-set_other number [] place row new there old fresh = refl
first_of-set_other number (first ∷ rows) zero row new there old fresh =
    let was : is_of number first ≡ false = ap (λ (r : ℕ × ProcessValue). is_of number r) (sym there) ∙ old in
    ap (λ b. cond b (Some new) (first_of number rows)) fresh ∙ sym (ap (λ b. cond b (Some first) (first_of number rows)) was)
first_of-set_other number (first ∷ rows) (suc place) row new there old fresh =
    ap (λ o. cond (is_of number first) (Some first) o) (first_of-set_other number rows place row new there old fresh)

changes_at : (rows : List (ℕ × ProcessValue)) (number place : ℕ) (row : ℕ × ProcessValue) (process : ProcessValue) → place_of number rows ≡ Some place → row ≡ get_or rows place row →
    (process_of number (slice_set rows place (row.0, process)) ≡ Some process) × AgreeBut number rows (slice_set rows place (row.0, process)) × (numbers_of (slice_set rows place (row.0, process)) ≡ numbers_of rows)
changes_at rows number place row process found there =
    let same : row.0 ≡ number = number_there number rows place row found there in
    let first : place_in number rows ≡ place = (cond_some (nat_lt (place_in number rows) (length rows)) (place_in number rows) place found).1 in
    let new : List (ℕ × ProcessValue) = slice_set rows place (row.0, process) in (
      process_of-first number new ∙ ap process_in (find-set (λ (r : ℕ × ProcessValue). is_of number r) rows place (row.0, process) (sym first) (inside number rows place row found) (eq-eqb row.0 number same)),
      λ other different. same_process other rows new (first_of-set_other other rows place row (row.0, process) there (ne_eqb row.0 other (λ e. different (sym e ∙ same))) (ne_eqb row.0 other (λ e. different (sym e ∙ same)))),
      map-set_same (λ (r : ℕ × ProcessValue). r.0) rows place (row.0, process) row (ap (λ (r : ℕ × ProcessValue). r.0) there),
    )

changes_by : (rows : List (ℕ × ProcessValue)) (number : ℕ) (process : ProcessValue) → IsLive number rows → (o : Option ℕ) → place_of number rows ≡ o →
    (process_of number (with_process number process rows) ≡ Some process) × AgreeBut number rows (with_process number process rows) × (numbers_of (with_process number process rows) ≡ numbers_of rows)
changes_by rows number process live None missing = absurd (not_live number rows missing live)
changes_by [] number process (k, row, within, there, same) (Some place) found = absurd (omega arith)
changes_by (first ∷ rows) number process live (Some place) found =
    let all : List (ℕ × ProcessValue) = first ∷ rows in
    let row : ℕ × ProcessValue = get_or all place first in
    let there : row ≡ get_or all place row = get_or_default all place first row (inside number all place row found) in
    let P : List (ℕ × ProcessValue) → Type 0 = λ new. (process_of number new ≡ Some process) × AgreeBut number all new × (numbers_of new ≡ numbers_of all) in
    subst P (sym (written_there number all place row process found there)) (changes_at all number place row process found there)

pub changes_one : ChangesOne
changes_one rows number process live = changes_by rows number process live (place_of number rows) refl

-- ---- an end

first_of-remove_other : (number : ℕ) (rows : List (ℕ × ProcessValue)) (place : ℕ) (row : ℕ × ProcessValue) → row ≡ get_or rows place row → is_of number row ≡ false → first_of number (remove rows place) ≡ first_of number rows
first_of-remove_other number [] zero row there old = refl
first_of-remove_other number [] (suc place) row there old = refl
first_of-remove_other number (first ∷ rows) zero row there old =
    let was : is_of number first ≡ false = ap (λ (r : ℕ × ProcessValue). is_of number r) (sym there) ∙ old in
    sym (ap (λ b. cond b (Some first) (first_of number rows)) was)
first_of-remove_other number (first ∷ rows) (suc place) row there old =
    ap (λ o. cond (is_of number first) (Some first) o) (first_of-remove_other number rows place row there old)

-- no other row has the number of the one that went
gone : (rows : List (ℕ × ProcessValue)) (low next place : ℕ) (row : ℕ × ProcessValue) → Rise low (numbers_of rows) next → row ≡ get_or rows place row → place < length rows → IsLive row.0 (remove rows place) → ⊥
gone [] low next place row rising there within live = omega arith
gone (first ∷ rows) low next zero row rising there within (k, r, under, at, same) =
    let more : first.0 < r.0 = above rows first.0 next k r rising.1 under (sym at) in
    let e : row.0 ≡ first.0 = ap (λ (r : ℕ × ProcessValue). r.0) there in
    omega arith
gone (first ∷ rows) low next (suc place) row rising there within (zero, r, under, at, same) =
    let more : first.0 < row.0 = above rows first.0 next place row rising.1 (omega arith) there in
    let e : first.0 ≡ r.0 = ap (λ (r : ℕ × ProcessValue). r.0) at in
    omega arith
gone (first ∷ rows) low next (suc place) row rising there within (suc k, r, under, at, same) =
    gone rows first.0 next place row rising.1 there (omega arith) (k, r, omega arith, at, same)

ends_by : (rows : List (ℕ × ProcessValue)) (next number : ℕ) → IsOrderly rows next → (o : Option ℕ) → place_of number rows ≡ o → (IsLive number (without_at rows o) → ⊥) × AgreeBut number rows (without_at rows o)
ends_by rows next number orderly None missing = (not_live number rows missing, λ other different. refl)
ends_by [] next number orderly (Some place) found = cc
ends_by (first ∷ rows) next number orderly (Some place) found =
    let all : List (ℕ × ProcessValue) = first ∷ rows in
    let row : ℕ × ProcessValue = get_or all place first in
    let there : row ≡ get_or all place row = get_or_default all place first row (inside number all place row found) in
    let same : row.0 ≡ number = number_there number all place row found there in
    let P : ℕ → Type 0 = λ n. IsLive n (remove all place) in (
      λ live. gone all 0 next place row orderly.rising there (inside number all place row found) (subst P (sym same) live),
      λ other different. same_process other all (remove all place) (first_of-remove_other other all place row there (ne_eqb row.0 other (λ e. different (sym e ∙ same)))),
    )

pub ends_one : EndsOne
ends_one rows next number orderly = ends_by rows next number orderly (place_of number rows) refl
