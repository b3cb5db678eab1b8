-- Bytes of memory that are answered: what is read of them is so.
use Rattle.std.proofs.Common.{◌≡◌, ℕ, zero, suc, ℤ, ◌+◌, ◌-◌, ◌≤◌, true, true≢false, List, [], ◌∷◌, take, drop, slice_get, Option, Some, sym, ◌∙◌, ap, subst, arith}
use Rattle.std.proofs.lemmas.Bool.{and_from, and_parts, leb-true}
use Rattle.std.specs.List.{AllByRecursion}
use Rattle.std.specs.Prelude.{unsigned_abs, nat_le}
use Rattle.data_services.specs.Bytes.{part_of}
use Rattle.knowledge.specs.Changes.{are_still, bytes_read, has_byte, is_byte, is_still}
use Rattle.knowledge.specs.Facts.{is_suspended}
use Rattle.knowledge.specs.Rows.{are_of_range, range_read}
use Rattle.target_contexts.specs.ProcessValue.{ProcessValue}
use Rattle.target_contexts.specs.Threads.{thread_count}
use Rattle.run_control.specs.TargetValue.{TargetValue}
use Rattle.target_truth.specs.Holds.{process_in}
use Rattle.target_truth.proofs.Changes.{IsSo}
use Rattle.target_truth.proofs.KeptBytes.{get_drop}
use Rattle.target_truth.proofs.Seen.{byte_seen, seen, state_seen, still_stands, threads_seen}
use Rattle.target_truth.proofs.Threads.{stands, states_of}
use Rattle.tcf_values.specs.Spelling.{IsNumber}
use Rattle.list_laws.proofs.AllLists.{all_if}

taken : (count : ℕ) (xs : List ℕ) (k byte : ℕ) → is_byte byte (slice_get (take count xs) k) ≡ true → is_byte byte (slice_get xs k) ≡ true
taken zero xs k byte is = absurd (true≢false (sym is))
taken (suc count) [] k byte is = is
taken (suc count) (x ∷ xs) zero byte is = is
taken (suc count) (x ∷ xs) (suc k) byte is = taken count xs k byte is

part_byte : (first count place byte : ℕ) (memory : List ℕ) → has_byte first (part_of first count memory) place byte ≡ true → is_byte byte (slice_get memory place) ≡ true
part_byte first count place byte memory has =
    let both = and_parts (nat_le first place) _ has in
    let low : first ≤ place = leb-true first place both.0 in
    let at : first + (place - first) ≡ place = omega (arith, low) in
    sym (ap (λ k. is_byte byte (slice_get memory k)) at) ∙ (ap (is_byte byte) (sym (get_drop first (place - first) memory)) ∙ taken count (drop first memory) (place - first) byte both.1)

-- ---- where all threads are suspended

bytes_so : (number : ℕ) (target : TargetValue) (process : ProcessValue) (first count : ℕ) → IsNumber number → thread_count process ≤ 8 → process_in number target ≡ Some process
    → is_still number (seen target) ≡ true → (place byte : ℕ) → has_byte first (part_of first count process.memory) place byte ≡ true → (seen target).bytes number place byte ≡ true
bytes_so number target process first count is few there still place byte has =
    let standing : stands (states_of process) ≡ true =
    still_stands number (seen target) process is few
    (λ n stopped. subst (λ (o : Option ProcessValue). is_suspended (state_seen n o) ≡ true) there stopped)
    (sym (ap (λ (o : Option ProcessValue). are_still (seen target) (threads_seen number o)) there) ∙ still) in
    ap (byte_seen place byte) there ∙ and_from _ _ standing (part_byte first count place byte process.memory has)

pub range_so : (number : ℕ) (target : TargetValue) (process : ProcessValue) (addr size : ℤ) → IsNumber number → thread_count process ≤ 8 → process_in number target ≡ Some process
    → AllByRecursion (IsSo target) (range_read number addr size (part_of (unsigned_abs addr) (unsigned_abs size) process.memory))
range_so number target process addr size is few there =
    let bytes = part_of (unsigned_abs addr) (unsigned_abs size) process.memory in
    all_if (IsSo target) (are_of_range addr size bytes) (bytes_read number (unsigned_abs addr) bytes ∷ [])
    (λ can. (bytes_so number target process (unsigned_abs addr) (unsigned_abs size) is few there, tt))
