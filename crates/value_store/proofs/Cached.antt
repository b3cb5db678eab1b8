-- The rows of a cache say what the cache knows.
use Rattle.std.proofs.Common.{◌≡◌, ◌≢◌, ℕ, suc, zero, ◌+◌, ◌≤◌, Bool, true, false, cond, ◌==◌, List, [], ◌∷◌, length, map, Option, Some, None, refl, sym, ap, ap₂, ◌∙◌, arith}
use Rattle.std.specs.Prelude.{bytes_eq, option_and_then}
use Rattle.std.specs.FinMap as finite
use Rattle.std.specs.List.{flat_map, range_with_len}
use Rattle.std.proofs.lemmas.Bool.{eqb-true}
use Rattle.std.proofs.lemmas.Option.{slice_get_past}
use Rattle.std.proofs.lemmas.Slice.Eq.{bytes_eq-Decides}
use Rattle.knowledge.specs.Facts.{AreSame}
use Rattle.knowledge.specs.Keyed.{at_index, of_number, of_thread, register_in, under}
use Rattle.knowledge.specs.KnowledgeValue.{KnowledgeValue, facts_of}
use Rattle.value_store.specs.Rows.{facts_in, index_keys, keys_of, register_keys, register_under, rows_of, state_keys, state_under, threads_under}
use Rattle.value_store.proofs.Keyed.{get_at, is_among, not_first, not_left, not_rest, not_right}

-- ---- what stands under no key of a list

step : {X : Type 0} (here : Bool) (one : Option X) (rest : Option X) → (here ≡ true → ⊥) → rest ≡ None → cond here one rest ≡ None
step true one rest never none = absurd (never refl)
step false one rest never none = none

under_none : {A : Type 0} (q : List ℕ) (rows : List (List ℕ × A)) → is_among q (map (λ row. row.0) rows) ≡ false → under q rows ≡ None
under_none q [] none = refl
under_none q (row ∷ rows) none =
    step (bytes_eq q row.0) (Some row.1) (under q rows) (λ e. not_first q row.0 (map (λ r. r.0) rows) none ((bytes_eq-Decides q row.0).0 e))
    (under_none q rows (not_rest q row.0 (map (λ r. r.0) rows) none))

number_none : {A : Type 0} (number : ℕ) (rows : List (ℕ × A)) → is_among (number ∷ []) (map (λ row. row.0 ∷ []) rows) ≡ false → of_number number rows ≡ None
number_none number [] none = refl
number_none number (row ∷ rows) none =
    step (number == row.0) (Some row.1) (of_number number rows)
    (λ e. not_first (number ∷ []) (row.0 ∷ []) (map (λ r. r.0 ∷ []) rows) none (ap (λ n. n ∷ []) (eqb-true number row.0 e)))
    (number_none number rows (not_rest (number ∷ []) (row.0 ∷ []) (map (λ r. r.0 ∷ []) rows) none))

-- a thread that isn't among those of a process
row_none : {A : Type 0} (process thread : ℕ) (row : ℕ × List (ℕ × A)) → process ≡ row.0 → is_among (process ∷ thread ∷ []) (state_keys row) ≡ false
    → of_number thread row.1 ≡ None
row_none {A} process thread row same = by row.1
  where
    by : (threads : List (ℕ × A)) → is_among (process ∷ thread ∷ []) (map (λ t. row.0 ∷ t.0 ∷ []) threads) ≡ false → of_number thread threads ≡ None
    by [] none = refl
    by (t ∷ threads) none =
        step (thread == t.0) (Some t.1) (of_number thread threads)
        (λ e. not_first (process ∷ thread ∷ []) (row.0 ∷ t.0 ∷ []) (map (λ u. row.0 ∷ u.0 ∷ []) threads) none
        (ap₂ (λ p u. p ∷ u ∷ []) same (eqb-true thread t.0 e)))
        (by threads (not_rest (process ∷ thread ∷ []) (row.0 ∷ t.0 ∷ []) (map (λ u. row.0 ∷ u.0 ∷ []) threads) none))

-- what is found among the rows of the first process of a number is nothing
first_none : {X Y : Type 0} (find : X → Option Y) (here : Bool) (one : X) (rest : Option X) → (here ≡ true → find one ≡ None) → option_and_then find rest ≡ None
    → option_and_then find (cond here (Some one) rest) ≡ None
first_none find true one rest own none = own refl
first_none find false one rest own none = none

thread_none : {A : Type 0} (process thread : ℕ) (rows : List (ℕ × List (ℕ × A))) → is_among (process ∷ thread ∷ []) (flat_map state_keys rows) ≡ false
    → of_thread process thread rows ≡ None
thread_none process thread [] none = refl
thread_none process thread (row ∷ rows) none =
    first_none (of_number thread) (process == row.0) row.1 (of_number process rows)
    (λ e. row_none process thread row (eqb-true process row.0 e) (not_left (process ∷ thread ∷ []) (state_keys row) (flat_map state_keys rows) none))
    (thread_none process thread rows (not_right (process ∷ thread ∷ []) (state_keys row) (flat_map state_keys rows) none))

-- an index that isn't among those of a list of values
beyond : (low count process thread index : ℕ) → is_among (process ∷ thread ∷ index ∷ []) (map (λ i. process ∷ thread ∷ i ∷ []) (range_with_len low count)) ≡ false
    → low ≤ index → low + count ≤ index
beyond low zero process thread index none from = omega (arith, from)
beyond low (suc count) process thread index none from =
    let key : List ℕ = process ∷ thread ∷ low ∷ [] in
    let others : List (List ℕ) = map (λ i. process ∷ thread ∷ i ∷ []) (range_with_len (low + 1) count) in
    let differs : index ≢ low = λ is. not_first (process ∷ thread ∷ index ∷ []) key others none (ap (λ i. process ∷ thread ∷ i ∷ []) is) in
    let rest : (low + 1) + count ≤ index = beyond (low + 1) count process thread index (not_rest (process ∷ thread ∷ index ∷ []) key others none) (omega (arith, from, differs)) in
    omega (arith, rest)

-- a register of a thread
index_none : (process thread index : ℕ) (row : ℕ × List (Option ℕ)) → thread ≡ row.0 → is_among (process ∷ thread ∷ index ∷ []) (index_keys process row) ≡ false
    → at_index index row.1 ≡ None
index_none process thread index row same none =
    let keys : index_keys process row ≡ map (λ i. process ∷ thread ∷ i ∷ []) (range_with_len 0 (length row.1)) =
    ap (λ t. map (λ i. process ∷ t ∷ i ∷ []) (range_with_len 0 (length row.1))) (sym same) in
    let long : 0 + length row.1 ≤ index = beyond 0 (length row.1) process thread index (sym (ap (is_among (process ∷ thread ∷ index ∷ [])) keys) ∙ none) (omega arith) in
    ap (λ value. option_and_then (λ v. v) value) (slice_get_past row.1 index (omega (arith, long)))

-- of the threads of a process
registers_none : (process thread index : ℕ) (rows : List (ℕ × List (Option ℕ))) → is_among (process ∷ thread ∷ index ∷ []) (flat_map (index_keys process) rows) ≡ false
    → option_and_then (at_index index) (of_number thread rows) ≡ None
registers_none process thread index [] none = refl
registers_none process thread index (row ∷ rows) none =
    let q : List ℕ = process ∷ thread ∷ index ∷ [] in
    first_none (at_index index) (thread == row.0) row.1 (of_number thread rows)
    (λ e. index_none process thread index row (eqb-true thread row.0 e) (not_left q (index_keys process row) (flat_map (index_keys process) rows) none))
    (registers_none process thread index rows (not_right q (index_keys process row) (flat_map (index_keys process) rows) none))

row_registers : (process thread index : ℕ) (row : ℕ × List (ℕ × List (Option ℕ))) → process ≡ row.0 → is_among (process ∷ thread ∷ index ∷ []) (register_keys row) ≡ false
    → option_and_then (at_index index) (of_number thread row.1) ≡ None
row_registers process thread index row same none =
    registers_none process thread index row.1 (ap (λ p. is_among (process ∷ thread ∷ index ∷ []) (flat_map (index_keys p) row.1)) same ∙ none)

either_row : (index : ℕ) (here : Bool) (find : List (ℕ × List (Option ℕ)) → Option (List (Option ℕ))) (one : List (ℕ × List (Option ℕ))) (rest : Option (List (ℕ × List (Option ℕ))))
    → (here ≡ true → option_and_then (at_index index) (find one) ≡ None) → option_and_then (at_index index) (option_and_then find rest) ≡ None
    → option_and_then (at_index index) (option_and_then find (cond here (Some one) rest)) ≡ None
either_row index true find one rest own none = own refl
either_row index false find one rest own none = none

register_in_none : (process thread index : ℕ) (rows : List (ℕ × List (ℕ × List (Option ℕ)))) → is_among (process ∷ thread ∷ index ∷ []) (flat_map register_keys rows) ≡ false
    → register_in process thread index rows ≡ None
register_in_none process thread index [] none = refl
register_in_none process thread index (row ∷ rows) none =
    let q : List ℕ = process ∷ thread ∷ index ∷ [] in
    either_row index (process == row.0) (of_number thread) row.1 (of_number process rows)
    (λ e. row_registers process thread index row (eqb-true process row.0 e) (not_left q (register_keys row) (flat_map register_keys rows) none))
    (register_in_none process thread index rows (not_right q (register_keys row) (flat_map register_keys rows) none))

-- ---- the maps

pub threads_at : (value : KnowledgeValue) (q : List ℕ) → finite.get (rows_of value).threads q ≡ threads_under (facts_of value) q
threads_at value q = get_at (threads_under (facts_of value)) (keys_of value).threads q (none q)
  where
    none : (k : List ℕ) → is_among k (keys_of value).threads ≡ false → threads_under (facts_of value) k ≡ None
    none [] e = refl
    none (p ∷ []) e = number_none p value.threads e
    none (p ∷ t ∷ k) e = refl

pub state_at : (value : KnowledgeValue) (q : List ℕ) → finite.get (rows_of value).states q ≡ state_under (facts_of value) q
state_at value q = get_at (state_under (facts_of value)) (keys_of value).states q (none q)
  where
    none : (k : List ℕ) → is_among k (keys_of value).states ≡ false → state_under (facts_of value) k ≡ None
    none [] e = refl
    none (p ∷ []) e = refl
    none (p ∷ t ∷ []) e = thread_none p t value.states e
    none (p ∷ t ∷ i ∷ k) e = refl

pub register_at : (value : KnowledgeValue) (q : List ℕ) → finite.get (rows_of value).registers q ≡ register_under (facts_of value) q
register_at value q = get_at (register_under (facts_of value)) (keys_of value).registers q (none q)
  where
    none : (k : List ℕ) → is_among k (keys_of value).registers ≡ false → register_under (facts_of value) k ≡ None
    none [] e = refl
    none (p ∷ []) e = refl
    none (p ∷ t ∷ []) e = refl
    none (p ∷ t ∷ i ∷ []) e = register_in_none p t i value.registers e
    none (p ∷ t ∷ i ∷ j ∷ k) e = refl

pub context_at : (value : KnowledgeValue) (q : List ℕ) → finite.get (rows_of value).contexts q ≡ (facts_of value).contexts q
context_at value q = get_at (facts_of value).contexts (keys_of value).contexts q (under_none q value.contexts)

pub properties_at : (value : KnowledgeValue) (q : List ℕ) → finite.get (rows_of value).properties q ≡ (facts_of value).properties q
properties_at value q = get_at (facts_of value).properties (keys_of value).properties q (under_none q value.properties)

pub status_at : (value : KnowledgeValue) (q : List ℕ) → finite.get (rows_of value).statuses q ≡ (facts_of value).statuses q
status_at value q = get_at (facts_of value).statuses (keys_of value).statuses q (under_none q value.statuses)

-- a cache knows what its rows say
pub cache_same : (value : KnowledgeValue) → AreSame (facts_of value) (facts_in (rows_of value))
cache_same value = record {
  contexts = λ id. sym (context_at value id);
  threads = λ process. sym (threads_at value (process ∷ []));
  states = λ process thread. sym (state_at value (process ∷ thread ∷ []));
  registers = λ process thread index. sym (register_at value (process ∷ thread ∷ index ∷ []));
  properties = λ id. sym (properties_at value id);
  statuses = λ id. sym (status_at value id);
}
