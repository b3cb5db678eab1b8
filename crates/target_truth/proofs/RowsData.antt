-- The commands of Memory and Registers that change something: their events tell it.
use Rattle.std.proofs.Common.{◌≡◌, ℕ, nat_eq, nat_lt, unsigned_abs, not, is_none, List, [], ◌∷◌, length, None, refl, eqb-true}
use Rattle.std.specs.Prelude.{ℤ}
use Rattle.std.proofs.lemmas.Bool.{not-false}
use Rattle.command_tables.specs.Canonical.{IsReadable}
use Rattle.data_services.specs.Bytes.{word_of}
use Rattle.data_services.specs.MemoryRows.{is_no_size, is_outside, memory_after, memory_events, memory_set_fault}
use Rattle.data_services.specs.Named.{holder_of, process_named}
use Rattle.data_services.specs.RegisterRows.{location_fault, locations_fault, name_one, register_after, register_set_fault, registers_after, registers_events, registers_get_fault, registers_set_fault}
use Rattle.target_contexts.specs.Named.{number_named}
use Rattle.target_hub.specs.Execution.{exec_after, exec_effect}
use Rattle.run_control.specs.TargetValue.{TargetValue}
use Rattle.target_truth.proofs.Becoming.{with_contexts}
use Rattle.target_truth.proofs.Faults.{both_passed, by_fault, check_passed}
use Rattle.target_truth.proofs.MemoryTold.{Fits, memory_of}
use Rattle.target_truth.proofs.RegistersTold.{register_of_named, registers_told}
use Rattle.target_truth.proofs.RowsRun.{Tells}
use Rattle.target_truth.proofs.Telling.{holder_is_there}
use Rattle.target_truth.proofs.Tells.{Tell}
use Rattle.target_truth.proofs.Whole.{IsGood}
use Rattle.tcf_values.specs.Effects.{tells}
use Rattle.tcf_values.specs.Ids.{register_of}
use Rattle.tcf_values.specs.declared.answer.Answer.TheVariants.{Nothing}
use Rattle.tcf_values.specs.declared.command.Command.TheVariants as commands
use Rattle.tcf_values.specs.declared.event.EventData.TheVariants.{RegChanged}
use Rattle.tcf_values.specs.declared.faults.Fault.TheVariants.{BadAddress, BadContext, BadSize}
use Rattle.tcf_values.specs.declared.values.Location.{Location}

-- ---- memory

pub set_memory : (channel : ℕ) (id : List ℕ) (addr word size mode : ℤ) (bytes : List ℕ) (target : TargetValue) → IsGood target
    → IsReadable (commands.MemSet id addr word size mode bytes) → Tells channel (commands.MemSet id addr word size mode bytes) target
unfolding exec_after exec_effect
set_memory channel id addr word size mode bytes target good readable =
    let rows = target.contexts.processes in
    by_fault (memory_set_fault id addr size bytes rows) target (memory_after id addr bytes target.contexts) (tells (memory_events (number_named id) addr size) Nothing)
    (λ fault.
    let found = check_passed (is_none (process_named id rows)) BadContext _ fault in
    let sized = check_passed (is_no_size size) BadSize _ found.1 in
    let filled = check_passed (not (nat_eq (length bytes) (unsigned_abs size))) BadSize _ sized.1 in
    let placed = check_passed (is_outside addr size) BadAddress _ filled.1 in
    let fits : Fits addr size bytes = record {
      sized = sized.0;
      filled = eqb-true (length bytes) (unsigned_abs size) (not-false _ filled.0);
      placed = placed.0;
      whole_addr = readable.0;
      whole_size = readable.2;
    } in
    memory_of addr size bytes target (number_named id) good fits (holder_is_there id rows found.0))

-- ---- registers

pub set_register : (channel : ℕ) (id bytes : List ℕ) (target : TargetValue) → IsGood target → Tells channel (commands.RegSet id bytes) target
unfolding exec_after exec_effect
set_register channel id bytes target good =
    let rows = target.contexts.processes in
    by_fault (register_set_fault id bytes rows) target (register_after (register_of id) (word_of bytes) target.contexts) (tells (RegChanged id ∷ []) Nothing)
    (λ fault.
    let found = check_passed (is_none (holder_of id rows)) BadContext _ fault in
    (record { limits = tt; typed = tt; leads = register_of_named id (word_of bytes) target found.0 }, tt))

parts_told : (list : List Location) (bytes : List ℕ) (target : TargetValue) → registers_set_fault list bytes target.contexts ≡ None
    → Tell target (with_contexts (registers_after list bytes target.contexts) target) (registers_events list)
parts_told [] bytes target fault = λ fact knows. knows
parts_told (first ∷ list) bytes target fault =
    let rows = target.contexts.processes in
    let got = both_passed (registers_get_fault (first ∷ list) rows) _ fault in
    let few = check_passed (nat_lt 256 (length (first ∷ list))) BadSize (locations_fault rows (first ∷ list)) got.0 in
    let here = both_passed (location_fault rows first) (locations_fault rows list) few.1 in
    let found = check_passed (is_none (holder_of first.register rows)) BadContext _ here.0 in
    registers_told first list bytes target found.0 (name_one first.register (first ∷ list)) refl

pub set_registers : (channel : ℕ) (list : List Location) (bytes : List ℕ) (target : TargetValue) → IsGood target
    → Tells channel (commands.RegSetm list bytes) target
unfolding exec_after exec_effect
set_registers channel list bytes target good =
    by_fault (registers_set_fault list bytes target.contexts) target (registers_after list bytes target.contexts) (tells (registers_events list) Nothing)
    (parts_told list bytes target)
