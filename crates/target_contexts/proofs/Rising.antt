-- The numbers still rise after a push, a removal and a change.
use Rattle.std.proofs.Common.{◌≡◌, ℕ, zero, suc, ◌+◌, ◌^◌, ◌<◌, ◌≤◌, List, [], ◌∷◌, ◌++◌, length, get_or, remove, slice_set, sym, ap, subst, arith, length-append, length-set}
use Rattle.std.proofs.Math.Seq.{map-set_same}
use Rattle.target_contexts.specs.Live.{numbers_of, Rise, IsOrderly}
use Rattle.target_contexts.specs.ProcessValue.{ProcessValue}

-- a lower bound may lie lower
rise_from_lower : (rows : List (ℕ × ProcessValue)) (low number next : ℕ) → low < number → Rise number (numbers_of rows) next → Rise low (numbers_of rows) next
rise_from_lower [] low number next below rising = omega arith
rise_from_lower (row ∷ rows) low number next below rising = (omega arith, rising.1)

-- the next number goes last
rise_push : (rows : List (ℕ × ProcessValue)) (low next : ℕ) (process : ProcessValue) → Rise low (numbers_of rows) next → Rise low (numbers_of (rows ++ (next, process) ∷ [])) (next + 1)
rise_push [] low next process rising = (rising, omega arith)
rise_push (row ∷ rows) low next process rising = (rising.0, rise_push rows row.0 next process rising.1)

-- one goes
rise_remove : (rows : List (ℕ × ProcessValue)) (place low next : ℕ) → Rise low (numbers_of rows) next → Rise low (numbers_of (remove rows place)) next
rise_remove [] zero low next rising = rising
rise_remove [] (suc place) low next rising = rising
rise_remove (row ∷ rows) zero low next rising = rise_from_lower rows low row.0 next rising.0 rising.1
rise_remove (row ∷ rows) (suc place) low next rising = (rising.0, rise_remove rows place row.0 next rising.1)

pub orderly_push : (rows : List (ℕ × ProcessValue)) (next : ℕ) (process : ProcessValue) → IsOrderly rows next → length rows < 64 → next < 2 ^ 32 → IsOrderly (rows ++ (next, process) ∷ []) (next + 1)
orderly_push rows next process orderly room small = record {
  few = omega (arith, length-append rows ((next, process) ∷ []), orderly.few);
  rising = rise_push rows 0 next process orderly.rising;
  bounded = omega arith;
}

not_more : (rows : List (ℕ × ProcessValue)) (place : ℕ) → length (remove rows place) ≤ length rows
not_more [] zero = omega arith
not_more [] (suc place) = omega arith
not_more (row ∷ rows) zero = omega arith
not_more (row ∷ rows) (suc place) = omega (arith, not_more rows place)

pub orderly_remove : (rows : List (ℕ × ProcessValue)) (next place : ℕ) → IsOrderly rows next → IsOrderly (remove rows place) next
orderly_remove rows next place orderly = record {
  few = omega (arith, not_more rows place, orderly.few);
  rising = rise_remove rows place 0 next orderly.rising;
  bounded = orderly.bounded;
}

-- a process is changed, and keeps its number
pub orderly_set : (rows : List (ℕ × ProcessValue)) (next place : ℕ) (row : ℕ × ProcessValue) (process : ProcessValue) → IsOrderly rows next → row ≡ get_or rows place row → IsOrderly (slice_set rows place (row.0, process)) next
orderly_set rows next place row process orderly there =
    let same : numbers_of (slice_set rows place (row.0, process)) ≡ numbers_of rows = map-set_same (λ (r : ℕ × ProcessValue). r.0) rows place (row.0, process) row (ap (λ (r : ℕ × ProcessValue). r.0) there) in
    record {
      few = omega (arith, length-set rows place (row.0, process), orderly.few);
      rising = let P : List ℕ → Type 0 = λ numbers. Rise 0 numbers next in subst P (sym same) orderly.rising;
      bounded = orderly.bounded;
    }
