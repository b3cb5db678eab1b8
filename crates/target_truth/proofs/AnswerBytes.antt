-- What is answered of memory and registers are bytes: each is below 256.
use Rattle.std.proofs.Common.{ℕ, ◌<◌, List, [], ◌∷◌, drop, Option, Some, None, arith, option_map}
use Rattle.std.specs.List.{cons_option}
use Rattle.std.specs.Prelude.{unsigned_abs}
use Rattle.data_services.specs.Bytes.{part_of, word_bytes}
use Rattle.data_services.specs.Parts.{bytes_in, bytes_of, number_in, parts_named}
use Rattle.target_contexts.specs.ProcessValue.{ProcessValue}
use Rattle.target_contexts.specs.Threads.{thread_of}
use Rattle.target_contexts.specs.declared.threads.Thread.{Thread}
use Rattle.command_tables.specs.Canonical.{AreBytes}
use Rattle.tcf_values.specs.Ids.{register_of}
use Rattle.tcf_values.specs.declared.ids.RegisterId.{RegisterId}
use Rattle.tcf_values.specs.declared.values.Location.{Location}
use Rattle.list_laws.proofs.AllLists.{all_append, all_drop, all_take}

pub part_bytes : (first count : ℕ) (bytes : List ℕ) → AreBytes bytes → AreBytes (part_of first count bytes)
part_bytes first count bytes all = all_take (λ byte. byte < 256) count (drop first bytes) (all_drop (λ byte. byte < 256) first bytes all)

pub word_typed : (number : ℕ) → AreBytes (word_bytes number)
unfolding word_bytes
word_typed number = (omega arith, (omega arith, (omega arith, (omega arith, tt))))

in_typed : (register : RegisterId) (offset size : ℕ) (found : Option Thread) → AreBytes (bytes_in (record { register = register; offset = offset; size = size }) found)
in_typed register offset size None = tt
in_typed register offset size (Some thread) = part_bytes offset size (word_bytes (number_in register.index thread.cpu)) (word_typed (number_in register.index thread.cpu))

one_typed : (rows : List (ℕ × ProcessValue)) (register : Option RegisterId) (offset size : ℕ) (list : List Location) → AreBytes (bytes_of rows (parts_named list))
    → AreBytes (bytes_of rows (cons_option (option_map (λ (r : RegisterId). record { register = r; offset = offset; size = size }) register) (parts_named list)))
one_typed rows None offset size list typed = typed
one_typed rows (Some r) offset size list typed =
    let found = thread_of r.process r.thread rows in
    all_append (λ byte. byte < 256) (bytes_in (record { register = r; offset = offset; size = size }) found) (bytes_of rows (parts_named list)) (in_typed r offset size found) typed

pub parts_typed : (rows : List (ℕ × ProcessValue)) (list : List Location) → AreBytes (bytes_of rows (parts_named list))
parts_typed rows [] = tt
parts_typed rows (location ∷ list) =
    one_typed rows (register_of location.register) (unsigned_abs location.offset) (unsigned_abs location.size) list (parts_typed rows list)
