-- From the last row on, those of wires that were shut are forgotten.
use Rattle.std.proofs.Common.{◌≡◌, ℕ, zero, suc, ◌+◌, ◌-◌, ◌<◌, ◌≤◌, Bool, true, false, not, cond, List, [], ◌∷◌, length, refl, sym, ap, ◌∙◌, arith}
use Rattle.std.specs.Prelude.{filter, remove}
use Rattle.serving_wires.specs.Flushing.{HasOutbox, is_kept, is_shut_at}
use Rattle.serving_wires.specs.Row.{Row}

-- the rows from a place on that are kept, behind all before it
abbrev pub kept_from : {T : Type 0} → HasOutbox T → ℕ → List (Row T) → List (Row T)
kept_from has zero rows = filter (is_kept has) rows
kept_from has (suc place) [] = []
kept_from has (suc place) (row ∷ rows) = row ∷ kept_from has place rows

pub none_forgotten : {T : Type 0} → (has : HasOutbox T) (place : ℕ) (rows : List (Row T)) → length rows ≤ place → kept_from has place rows ≡ rows
none_forgotten {T = T} has zero [] past = refl
none_forgotten {T = T} has zero (row ∷ rows) past = absurd (omega (arith, past))
none_forgotten {T = T} has (suc place) [] past = refl
none_forgotten {T = T} has (suc place) (row ∷ rows) past = ap (λ (rs : List (Row T)). row ∷ rs) (none_forgotten has place rows (omega (arith, past)))

-- the row before a place is forgotten, or kept
pub forgets_one : {T : Type 0} → (has : HasOutbox T) (place : ℕ) (rows : List (Row T)) → place < length rows → is_shut_at has place (kept_from has (suc place) rows) ≡ true
    → remove (kept_from has (suc place) rows) place ≡ kept_from has place rows
forgets_one {T = T} has place [] within is = absurd (omega (arith, within))
forgets_one {T = T} has zero (row ∷ rows) within is = sym (ap (λ (b : Bool). cond (not b) (row ∷ filter (is_kept has) rows) (filter (is_kept has) rows)) is)
forgets_one {T = T} has (suc place) (row ∷ rows) within is = ap (λ (rs : List (Row T)). row ∷ rs) (forgets_one has place rows (omega (arith, within)) is)

pub keeps_one : {T : Type 0} → (has : HasOutbox T) (place : ℕ) (rows : List (Row T)) → place < length rows → is_shut_at has place (kept_from has (suc place) rows) ≡ false
    → kept_from has (suc place) rows ≡ kept_from has place rows
keeps_one {T = T} has place [] within is = absurd (omega (arith, within))
keeps_one {T = T} has zero (row ∷ rows) within is = sym (ap (λ (b : Bool). cond (not b) (row ∷ filter (is_kept has) rows) (filter (is_kept has) rows)) is)
keeps_one {T = T} has (suc place) (row ∷ rows) within is = ap (λ (rs : List (Row T)). row ∷ rs) (keeps_one has place rows (omega (arith, within)) is)

last_place : (count done place : ℕ) → done < count → place ≡ count - 1 - done → count - done ≡ suc place
last_place count done place fewer is = omega (arith, is, fewer)

next_place : (count done place : ℕ) → done < count → place ≡ count - 1 - done → count - (done + 1) ≡ place
next_place count done place fewer is = omega (arith, is, fewer)

pub forgets_next : {T : Type 0} → (has : HasOutbox T) (count done place : ℕ) (rows now : List (Row T)) → count ≡ length rows → done < count → place ≡ count - 1 - done
    → now ≡ kept_from has (count - done) rows → is_shut_at has place now ≡ true → remove now place ≡ kept_from has (count - (done + 1)) rows
forgets_next {T = T} has count done place rows now all fewer is so shut =
    let here : now ≡ kept_from has (suc place) rows = so ∙ ap (λ (n : ℕ). kept_from has n rows) (last_place count done place fewer is) in
    ap (λ (rs : List (Row T)). remove rs place) here
    ∙ forgets_one has place rows (omega (arith, all, fewer, is)) (ap (λ (rs : List (Row T)). is_shut_at has place rs) (sym here) ∙ shut)
    ∙ sym (ap (λ (n : ℕ). kept_from has n rows) (next_place count done place fewer is))

pub keeps_next : {T : Type 0} → (has : HasOutbox T) (count done place : ℕ) (rows now : List (Row T)) → count ≡ length rows → done < count → place ≡ count - 1 - done
    → now ≡ kept_from has (count - done) rows → is_shut_at has place now ≡ false → now ≡ kept_from has (count - (done + 1)) rows
keeps_next {T = T} has count done place rows now all fewer is so open_still =
    let here : now ≡ kept_from has (suc place) rows = so ∙ ap (λ (n : ℕ). kept_from has n rows) (last_place count done place fewer is) in
    here ∙ keeps_one has place rows (omega (arith, all, fewer, is)) (ap (λ (rs : List (Row T)). is_shut_at has place rs) (sym here) ∙ open_still)
    ∙ sym (ap (λ (n : ℕ). kept_from has n rows) (next_place count done place fewer is))

pub begins_whole : {T : Type 0} → (has : HasOutbox T) (count : ℕ) (rows : List (Row T)) → count ≡ length rows → rows ≡ kept_from has (count - 0) rows
begins_whole has count rows all = sym (none_forgotten has (count - 0) rows (omega (arith, all)))
