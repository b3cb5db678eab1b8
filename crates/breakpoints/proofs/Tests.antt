-- Hit tests raise counts by the number of hits.
use Rattle.std.proofs.Common.{◌≡◌, ℕ, suc, ◌+◌, ◌<◌, ◌^◌, ◌==◌, min, Bool, true, false, cond, ◌&&◌, List, [], ◌∷◌, length, map, filter, refl, sym, ap, ◌∙◌, arith, eqb-true}
use Rattle.std.specs.List.{AllByRecursion}
use Rattle.tcf_values.specs.declared.values.BpProps.{BpProps}
use Rattle.breakpoints.specs.Counting.{counted, row_raised, row_tested}
use Rattle.breakpoints.specs.Counts.{AreCounts, count_of, one_more}
use Rattle.breakpoints.specs.Laws.{CountsTellHits, Test, count_after, is_hit_in}
use Rattle.breakpoints.specs.Placed.{Placed}
use Rattle.breakpoints.specs.Status.{is_hit}
use Rattle.breakpoints.proofs.Counting.{orderly_counted, tested_props}
use Rattle.breakpoints.proofs.Raising.{count_small, raises_one}

abbrev here : ℕ → Placed → ℕ
here process row = count_of process row.counts

-- ---- no test, and one

small_count : (n : ℕ) → n < 2 ^ 32 → n ≡ min (n + 0) 4294967295
small_count n small = omega (arith, small)

no_test : (process : ℕ) (rows : List Placed) → AllByRecursion (λ row. AreCounts row.counts) rows → map (here process) rows ≡ map (count_after process []) rows
no_test process [] all = refl
no_test process (row ∷ rows) all =
    ap (λ n. n ∷ map (here process) rows) (small_count (here process row) (count_small process row.counts all.0))
    ∙ ap (λ (rest : List ℕ). count_after process [] row ∷ rest) (no_test process rows all.1)

more_count : (c n : ℕ) → min (min (c + 1) 4294967295 + n) 4294967295 ≡ min (c + suc n) 4294967295
more_count c n = omega arith

-- how many of the tests are hits, the first of them or not
abbrev total : ℕ → BpProps → List Test → Bool → Test → ℕ
total process props tests first test = length (cond first (test ∷ filter (is_hit_in process props) tests) (filter (is_hit_in process props) tests))

missed : (c process : ℕ) (props : BpProps) (tests : List Test) (test : Test) (first : Bool) → first ≡ false
    → min (c + length (filter (is_hit_in process props) tests)) 4294967295 ≡ min (c + total process props tests first test) 4294967295
missed c process props tests test true is = absurd cc
missed c process props tests test false is = refl

-- the process of the test is the one whose hits are counted, or another
hit_by : (process other pc : ℕ) (tests : List Test) (row : Placed) (test : Test) (s : Bool) → (other == process) ≡ s → is_hit other pc row.props ≡ true
    → min (cond s (one_more (here process row)) (here process row) + length (filter (is_hit_in process row.props) tests)) 4294967295
    ≡ min (here process row + total process row.props tests (s && is_hit process pc row.props) test) 4294967295
hit_by process other pc tests row test true same hit =
    let also : is_hit process pc row.props ≡ true = ap (λ (n : ℕ). is_hit n pc row.props) (sym (eqb-true other process same)) ∙ hit in
    more_count (here process row) (length (filter (is_hit_in process row.props) tests))
    ∙ ap (λ b. min (here process row + total process row.props tests b test) 4294967295) (sym also)
hit_by process other pc tests row test false same hit = refl

missed_by : (process other pc : ℕ) (props : BpProps) (s : Bool) → (other == process) ≡ s → is_hit other pc props ≡ false → (s && is_hit process pc props) ≡ false
missed_by process other pc props true same miss = ap (λ (n : ℕ). is_hit n pc props) (sym (eqb-true other process same)) ∙ miss
missed_by process other pc props false same miss = refl

row_by : (process other pc : ℕ) (tests : List Test) (row : Placed) (test : Test) (b : Bool) → is_hit other pc row.props ≡ b
    → min (here process (cond b (row_raised other row) row) + length (filter (is_hit_in process row.props) tests)) 4294967295
    ≡ min (here process row + total process row.props tests ((other == process) && is_hit process pc row.props) test) 4294967295
row_by process other pc tests row test true hit =
    ap (λ n. min (n + length (filter (is_hit_in process row.props) tests)) 4294967295) (raises_one other process row.counts)
    ∙ hit_by process other pc tests row test (other == process) refl hit
row_by process other pc tests row test false miss =
    missed (here process row) process row.props tests test ((other == process) && is_hit process pc row.props) (missed_by process other pc row.props (other == process) refl miss)

one_row : (process other pc : ℕ) (tests : List Test) (row : Placed)
    → count_after process tests (row_tested other pc row) ≡ count_after process (record { process = other; attached = true; pc = pc } ∷ tests) row
one_row process other pc tests row =
    ap (λ (p : BpProps). min (here process (row_tested other pc row) + length (filter (is_hit_in process p) tests)) 4294967295) (tested_props other pc row)
    ∙ row_by process other pc tests row (record { process = other; attached = true; pc = pc }) (is_hit other pc row.props) refl

all_rows : (process other pc : ℕ) (tests : List Test) (rows : List Placed)
    → map (count_after process tests) (map (row_tested other pc) rows) ≡ map (count_after process (record { process = other; attached = true; pc = pc } ∷ tests)) rows
all_rows process other pc tests [] = refl
all_rows process other pc tests (row ∷ rows) =
    ap (λ n. n ∷ map (count_after process tests) (map (row_tested other pc) rows)) (one_row process other pc tests row)
    ∙ ap (λ (rest : List ℕ). count_after process (record { process = other; attached = true; pc = pc } ∷ tests) row ∷ rest) (all_rows process other pc tests rows)

one_test : (process other : ℕ) (attached : Bool) (pc : ℕ) (tests : List Test) (rows : List Placed)
    → map (count_after process tests) (counted other attached pc rows) ≡ map (count_after process (record { process = other; attached = attached; pc = pc } ∷ tests)) rows
one_test process other true pc tests rows = all_rows process other pc tests rows
one_test process other false pc tests rows = refl

-- ---- several, one after another

pub counts_tell_hits : CountsTellHits
counts_tell_hits [] rows process orderly = no_test process rows orderly.counted
counts_tell_hits (test ∷ tests) rows process orderly =
    counts_tell_hits tests (counted test.process test.attached test.pc rows) process (orderly_counted test.process test.attached test.pc rows orderly)
    ∙ one_test process test.process test.attached test.pc tests rows
