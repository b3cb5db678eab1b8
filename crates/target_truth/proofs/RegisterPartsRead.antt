-- Parts of registers that are answered: what is read of them is so.
use Rattle.std.proofs.Common.{◌≡◌, ℕ, ℤ, ◌+◌, ◌≤◌, true, false, true≢false, List, [], ◌∷◌, length, take, drop, Option, None, sym, ◌∙◌, ap, subst, arith, length-take, length-drop, pos, negsuc, ◌||◌, ◌++◌, option_and_then, option_map}
use Rattle.std.proofs.lemmas.Bool.{ltb-false, not-true, or_parts}
use Rattle.std.proofs.lemmas.List.{drop_at, take_at}
use Rattle.std.specs.List.{AllByRecursion, cons_option}
use Rattle.std.specs.Prelude.{int_lt, unsigned_abs, ◌+ℤ◌}
use Rattle.data_services.specs.Bytes.{part_of, word_bytes}
use Rattle.data_services.specs.Parts.{bytes_in, bytes_of, number_in, parts_named}
use Rattle.data_services.specs.RegisterRows.{location_fault, locations_fault}
use Rattle.knowledge.specs.Rows.{whole_read, is_part, parts_read}
use Rattle.target_contexts.specs.ProcessValue.{ProcessValue}
use Rattle.target_contexts.specs.Threads.{thread_at}
use Rattle.target_contexts.specs.declared.threads.Thread.{Thread}
use Rattle.run_control.specs.TargetValue.{TargetValue}
use Rattle.target_truth.proofs.Changes.{IsSo}
use Rattle.target_truth.proofs.Faults.{both_passed, check_passed}
use Rattle.target_truth.proofs.Holders.{IsHeld, held_found}
use Rattle.target_truth.proofs.RegistersRead.{whole_so, word_four}
use Rattle.target_truth.proofs.Whole.{IsGood}
use Rattle.tcf_values.specs.declared.ids.RegisterId.{RegisterId}
use Rattle.tcf_values.specs.declared.values.Location.{Location}
use Rattle.list_laws.proofs.AllLists.{all_append, all_if}

-- a part lies within the four bytes
within : (offset size : ℤ) → (int_lt offset (pos 0) || int_lt size (pos 1) || int_lt (pos 4) (offset +ℤ size)) ≡ false → unsigned_abs offset + unsigned_abs size ≤ 4
within (pos o) (pos s) is = ltb-false 4 (o + s) (or_parts _ _ is).1
within (pos o) (negsuc s) is = let negative : true ≡ false = (or_parts _ _ (or_parts _ _ is).0).1 in absurd (true≢false negative)
within (negsuc o) size is = absurd (true≢false is)

part_size : (offset size : ℕ) (bytes : List ℕ) → length bytes ≡ 4 → offset + size ≤ 4 → length (part_of offset size bytes) ≡ size
part_size offset size bytes four fits = omega (arith, four, fits, length-take size (drop offset bytes), length-drop offset bytes)

-- the bytes of one location, and those of the others behind it
one_split : (target : TargetValue) (location : Location) (list : List Location) (register : RegisterId) (process : ProcessValue) (thread : Thread) → IsHeld target location.register register process thread
    → bytes_of target.contexts.processes (parts_named (location ∷ list))
    ≡ part_of (unsigned_abs location.offset) (unsigned_abs location.size) (word_bytes (number_in register.index thread.cpu)) ++ bytes_of target.contexts.processes (parts_named list)
one_split target location list register process thread is =
    let rows = target.contexts.processes in
    let offset = unsigned_abs location.offset in
    let size = unsigned_abs location.size in
    ap (λ (o : Option RegisterId). bytes_of rows (cons_option (option_map (λ (r : RegisterId). record { register = r; offset = offset; size = size }) o) (parts_named list))) is.holder.read
    ∙ ap (λ (o : Option ProcessValue). bytes_in (record { register = register; offset = offset; size = size }) (option_and_then (thread_at register.thread) o) ++ bytes_of rows (parts_named list)) is.holder.there
    ∙ ap (λ (o : Option Thread). bytes_in (record { register = register; offset = offset; size = size }) o ++ bytes_of rows (parts_named list)) is.holder.at

one_so : (target : TargetValue) (location : Location) (list : List Location) (register : RegisterId) (process : ProcessValue) (thread : Thread) (bytes rest : List ℕ) → IsHeld target location.register register process thread
    → bytes ≡ part_of (unsigned_abs location.offset) (unsigned_abs location.size) (word_bytes (number_in register.index thread.cpu)) ++ rest
    → AllByRecursion (IsSo target) (parts_read list rest) → AllByRecursion (IsSo target) (parts_read (location ∷ list) bytes)
one_so target location list register process thread bytes rest is split others =
    let offset = unsigned_abs location.offset in
    let size = unsigned_abs location.size in
    let word = word_bytes (number_in register.index thread.cpu) in
    let piece = part_of offset size word in
    all_if (IsSo target) (is_part location) (whole_read location.register (take size bytes) ++ parts_read list (drop size bytes)) (λ can.
    let sized : length piece ≡ size = part_size offset size word (word_four (number_in register.index thread.cpu)) (within location.offset location.size (not-true _ can)) in
    all_append (IsSo target) (whole_read location.register (take size bytes)) (parts_read list (drop size bytes))
    (subst (λ (xs : List ℕ). AllByRecursion (IsSo target) (whole_read location.register xs)) (sym (ap (take size) split ∙ take_at piece rest size sized))
    (whole_so target location.register register process thread offset size is))
    (subst (λ (xs : List ℕ). AllByRecursion (IsSo target) (parts_read list xs)) (sym (ap (drop size) split ∙ drop_at piece rest size sized)) others))

pub parts_so : (target : TargetValue) (list : List Location) → IsGood target → locations_fault target.contexts.processes list ≡ None
    → AllByRecursion (IsSo target) (parts_read list (bytes_of target.contexts.processes (parts_named list)))
parts_so target [] good none = tt
parts_so target (location ∷ list) good none =
    let both = both_passed (location_fault target.contexts.processes location) (locations_fault target.contexts.processes list) none in
    let some = check_passed _ _ _ both.0 in
    let stopped = check_passed _ _ _ some.1 in
    let holder = held_found target location.register good some.0 stopped.0 in
    one_so target location list holder.register holder.process holder.thread _ (bytes_of target.contexts.processes (parts_named list)) holder.is
    (one_split target location list holder.register holder.process holder.thread holder.is)
    (parts_so target list good both.1)
