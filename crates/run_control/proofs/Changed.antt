-- A target with one process changed, or ended.
use Rattle.std.proofs.Common.{◌≡◌, ◌≢◌, ℕ, ◌≤◌, nat_eq, Bool, true, false, List, length, get_or, slice_get, Option, Some, None, option_map, refl, sym, ◌∙◌, ap, subst, eqb-true, inl, inr, ◌⊎◌}
use Rattle.std.proofs.lemmas.Bool.{eqb-false}
use Rattle.std.proofs.lemmas.List.{length-map}
use Rattle.std.proofs.lemmas.List.Quantifiers.{position-Some}
use Rattle.std.proofs.lemmas.Option.{get_or_from_slice_get}
use Rattle.target_contexts.specs.Changes.{with_change, with_change_at}
use Rattle.target_contexts.specs.Live.{IsLive, IsOrderly, Rise, numbers_of, place_of, process_at, process_of, with_process}
use Rattle.target_contexts.specs.TargetsValue.{TargetsValue}
use Rattle.target_contexts.specs.ProcessValue.{ProcessValue}
use Rattle.target_contexts.proofs.TheLaws.{changes_one}

live_at : (number : ℕ) (rows : List (ℕ × ProcessValue)) (process : ProcessValue) (place : ℕ) → place_of number rows ≡ Some place → (row : Option (ℕ × ProcessValue)) → slice_get rows place ≡ row → option_map (λ (r : ℕ × ProcessValue). r.1) row ≡ Some process → IsLive number rows
live_at number rows process place found None read there = cc
live_at number rows process place found (Some row) read there =
    let facts = position-Some (λ (r : ℕ × ProcessValue). nat_eq r.0 number) rows place row found in
    let same : get_or rows place row ≡ row = get_or_from_slice_get rows place row row read in
    (place, row, facts.0, same, ap (λ (r : ℕ × ProcessValue). r.0) (sym same) ∙ eqb-true (get_or rows place row).0 number facts.1)

live_by : (number : ℕ) (rows : List (ℕ × ProcessValue)) (process : ProcessValue) (place : Option ℕ) → place_of number rows ≡ place → process_at rows place ≡ Some process → IsLive number rows
live_by number rows process None found there = cc
live_by number rows process (Some place) found there =
    live_at number rows process place found (slice_get rows place) refl there

-- where a process is found, its number is a live one
pub live_found : (number : ℕ) (rows : List (ℕ × ProcessValue)) (process : ProcessValue) → process_of number rows ≡ Some process → IsLive number rows
live_found number rows process there = live_by number rows process (place_of number rows) refl there

changed_by : (change : ProcessValue → ProcessValue) (n : ℕ) (targets : TargetsValue) (found : Option ProcessValue) → process_of n targets.processes ≡ found → process_of n (with_change_at change n found targets).processes ≡ option_map change found
changed_by change n targets None there = there
changed_by change n targets (Some process) there = (changes_one targets.processes n (change process) (live_found n targets.processes process there)).0

-- a change changes that process
pub changed_process : (change : ProcessValue → ProcessValue) (n : ℕ) (targets : TargetsValue) → process_of n (with_change change n targets).processes ≡ option_map change (process_of n targets.processes)
changed_process change n targets = changed_by change n targets (process_of n targets.processes) refl

others_by : (change : ProcessValue → ProcessValue) (n other : ℕ) (targets : TargetsValue) (found : Option ProcessValue) → process_of n targets.processes ≡ found → other ≢ n → process_of other (with_change_at change n found targets).processes ≡ process_of other targets.processes
others_by change n other targets None there differ = refl
others_by change n other targets (Some process) there differ = (changes_one targets.processes n (change process) (live_found n targets.processes process there)).1 other differ

-- and no other
pub others_stay : (change : ProcessValue → ProcessValue) (n other : ℕ) (targets : TargetsValue) → other ≢ n → process_of other (with_change change n targets).processes ≡ process_of other targets.processes
others_stay change n other targets differ = others_by change n other targets (process_of n targets.processes) refl differ

orderly_like : (old new : List (ℕ × ProcessValue)) (next : ℕ) → numbers_of new ≡ numbers_of old → IsOrderly old next → IsOrderly new next
orderly_like old new next same orderly =
    let counted : length new ≡ length old = sym (length-map new (λ (row : ℕ × ProcessValue). row.0)) ∙ ap length same ∙ length-map old (λ (row : ℕ × ProcessValue). row.0) in
    record {
      few = subst (λ n. n ≤ 64) (sym counted) orderly.few;
      rising = subst (λ ns. Rise 0 ns next) (sym same) orderly.rising;
      bounded = orderly.bounded;
    }

orderly_by : (change : ProcessValue → ProcessValue) (n : ℕ) (targets : TargetsValue) (found : Option ProcessValue) → process_of n targets.processes ≡ found → IsOrderly targets.processes targets.next → IsOrderly (with_change_at change n found targets).processes (with_change_at change n found targets).next
orderly_by change n targets None there orderly = orderly
orderly_by change n targets (Some process) there orderly =
    orderly_like targets.processes (with_process n (change process) targets.processes) targets.next
    (changes_one targets.processes n (change process) (live_found n targets.processes process there)).2 orderly

-- the numbers stay in order
pub orderly_change : (change : ProcessValue → ProcessValue) (n : ℕ) (targets : TargetsValue) → IsOrderly targets.processes targets.next → IsOrderly (with_change change n targets).processes (with_change change n targets).next
orderly_change change n targets orderly = orderly_by change n targets (process_of n targets.processes) refl orderly

-- ---- one number or another

pub same_or_other : (a b : ℕ) → (a ≡ b) ⊎ (a ≢ b)
same_or_other a b = split (nat_eq a b) refl
  where
    split : (same : Bool) → nat_eq a b ≡ same → (a ≡ b) ⊎ (a ≢ b)
    split true e = inl (eqb-true a b e)
    split false e = inr (eqb-false a b e)
