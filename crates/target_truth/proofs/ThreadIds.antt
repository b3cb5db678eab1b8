-- The IDs of a process and of its threads: what they are read as, and that they differ.
use Rattle.std.proofs.Common.{◌≡◌, ℕ, zero, suc, ◌+◌, ◌≤◌, ◌<◌, ◌^◌, false, List, [], ◌∷◌, ◌++◌, map, Some, refl, sym, ap, ◌∙◌, arith}
use Rattle.std.specs.Prelude.{bytes_eq}
use Rattle.std.specs.List.{list_any, range_with_len}
use Rattle.std.proofs.lemmas.Bool.{cond-false, or_from, false_from_ne_true}
use Rattle.std.proofs.lemmas.List.{map-append}
use Rattle.knowledge.specs.Changes.{with_id}
use Rattle.list_laws.proofs.Lists.{equal_by}
use Rattle.run_control.specs.Naming.{process_id, thread_id, thread_ids}
use Rattle.tcf_values.proofs.TheLaws.{context_round_trip}
use Rattle.tcf_values.specs.Ids.{context_of}
use Rattle.tcf_values.specs.Spelling.{IsNumber}
use Rattle.tcf_values.specs.declared.ids.ContextId.{ContextId}
use Rattle.tcf_values.specs.declared.ids.ContextId.TheVariants as contexts

-- ---- read as theirs

pub process_named : (number : ℕ) → IsNumber number → context_of (process_id number) ≡ Some (contexts.Process number)
process_named number is = (context_round_trip (process_id number) (contexts.Process number)).1 (is, refl)

pub thread_named : (number n : ℕ) → IsNumber number → IsNumber n → context_of (thread_id number n) ≡ Some (contexts.Thread number n)
thread_named number n is one = (context_round_trip (thread_id number n) (contexts.Thread number n)).1 ((is, one), refl)

-- two texts that are read as one ID are one
pub one_text : (a b : List ℕ) (id : ContextId) → context_of a ≡ Some id → context_of b ≡ Some id → a ≡ b
one_text a b id one two = ((context_round_trip a id).0 one).1 ∙ sym ((context_round_trip b id).0 two).1

-- ---- each differs from the others

same_thread : (number a b : ℕ) → Some (contexts.Thread number a) ≡ Some (contexts.Thread number b) → a ≡ b
same_thread number a b is = cc

other_id : (number a b : ℕ) → IsNumber number → IsNumber a → IsNumber b → (a ≡ b → ⊥) → bytes_eq (thread_id number a) (thread_id number b) ≡ false
other_id number a b is one two differ =
    false_from_ne_true (bytes_eq (thread_id number a) (thread_id number b)) (λ same.
    differ (same_thread number a b
    (sym (thread_named number a is one) ∙ ap context_of (equal_by (thread_id number a) (thread_id number b) same) ∙ thread_named number b is two)))

not_among : (number a count n : ℕ) → IsNumber number → 1 ≤ a → a + count ≤ n → n < 2 ^ 32
    → list_any (λ other. bytes_eq (thread_id number n) other) (map (thread_id number) (range_with_len a count)) ≡ false
not_among number a zero n is low high small = refl
not_among number a (suc count) n is low high small =
    or_from (bytes_eq (thread_id number n) (thread_id number a)) _
    (other_id number n a is (omega (arith, low, high), small) (low, omega (arith, high, small)) (λ same. omega (arith, high, same)))
    (not_among number (a + 1) count n is (omega (arith, low)) (omega (arith, high)) small)

-- ---- one more behind the others

range_last : (a count : ℕ) → range_with_len a (suc count) ≡ range_with_len a count ++ (a + count) ∷ []
range_last a zero = let same : a ≡ a + 0 = omega arith in ap (λ k. k ∷ []) same
range_last a (suc count) =
    let same : a + 1 + count ≡ a + suc count = omega arith in
    ap (λ l. a ∷ l) (range_last (a + 1) count ∙ ap (λ k. range_with_len (a + 1) count ++ k ∷ []) same)

ids_more : (number count : ℕ) → thread_ids number (suc count) ≡ thread_ids number count ++ thread_id number (1 + count) ∷ []
ids_more number count = ap (map (thread_id number)) (range_last 1 count) ∙ map-append (thread_id number) (range_with_len 1 count) ((1 + count) ∷ [])

-- who knows the threads so far knows them with the next one
pub one_joins : (number count : ℕ) → IsNumber number → count < 8 → with_id (thread_id number (1 + count)) (thread_ids number count) ≡ thread_ids number (suc count)
one_joins number count is few =
    let id = thread_id number (1 + count) in
    let ids = thread_ids number count in
    cond-false (list_any (λ other. bytes_eq id other) ids) ids (ids ++ id ∷ []) (not_among number 1 count (1 + count) is (omega arith) (omega arith) (omega (arith, few)))
    ∙ sym (ids_more number count)
