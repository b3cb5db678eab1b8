-- No command of Memory or Registers changes a thread's state, or which threads and processes there are.
use Rattle.std.proofs.Common.{◌≡◌, ℕ, zero, suc, ◌-◌, ◌==◌, nat_eq, unsigned_abs, Bool, true, false, cond, List, [], ◌∷◌, map, slice_get, slice_set, take, drop, Option, Some, None, option_map, refl, sym, ◌∙◌, ap}
use Rattle.tcf_values.specs.Ids.{register_of}
use Rattle.tcf_values.specs.declared.command.Command.TheVariants.{MemGet, MemSet, RegGet, RegSet, RegGetm, RegSetm}
use Rattle.tcf_values.specs.declared.faults.Fault.{Fault}
use Rattle.tcf_values.specs.declared.ids.RegisterId.{RegisterId}
use Rattle.target_contexts.specs.Changes.{targets_by, with_change, with_change_at, with_change_of}
use Rattle.target_contexts.specs.Live.{IsOrderly, process_of}
use Rattle.target_contexts.specs.Named.{number_named}
use Rattle.target_contexts.specs.TargetsValue.{TargetsValue}
use Rattle.target_contexts.specs.ProcessValue.{ProcessValue}
use Rattle.data_services.specs.Bytes.{word_of}
use Rattle.data_services.specs.Commands.{data_fault}
use Rattle.data_services.specs.Laws.{OrderStays, ThreadsStay, thread_part}
use Rattle.data_services.specs.MemoryRows.{memory_after, with_memory}
use Rattle.data_services.specs.Parts.{parts_named, with_bytes, with_part_bytes, with_parts}
use Rattle.data_services.specs.RegisterRows.{register_after, with_register_word, with_word}
use Rattle.target_contexts.specs.ThreadList.{changed_numbered_at, numbered}
use Rattle.target_contexts.specs.Threads.{in_thread}
use Rattle.target_contexts.specs.declared.process.ThreadState.{ThreadState}
use Rattle.target_contexts.specs.declared.threads.Thread.{Thread}
use Rattle.data_services.specs.declared.parts.Part.{Part}
use Rattle.target_contexts.proofs.TheLaws.{change_stays_orderly}
use Rattle.data_services.proofs.PartSteps.{changed_process}

-- ---- threads

abbrev Same : ℕ → TargetsValue → TargetsValue → Type 0
Same number targets left = option_map thread_part (process_of number left.processes) ≡ option_map thread_part (process_of number targets.processes)

same_if : (change : ProcessValue → ProcessValue) (here : Bool) (found : Option ProcessValue) → ((p : ProcessValue) → thread_part (change p) ≡ thread_part p) →
    option_map thread_part (cond here (option_map change found) found) ≡ option_map thread_part found
same_if change false found same = refl
same_if change true None same = refl
same_if change true (Some p) same = ap Some (same p)

same_change : (change : ProcessValue → ProcessValue) (n number : ℕ) (targets : TargetsValue) → ((p : ProcessValue) → thread_part (change p) ≡ thread_part p) → Same number targets (with_change change n targets)
same_change change n number targets same =
    ap (option_map thread_part) (changed_process change n number targets) ∙ same_if change (nat_eq n number) (process_of number targets.processes) same

same_named : (change : ProcessValue → ProcessValue) (named : Option ℕ) (number : ℕ) (targets : TargetsValue) → ((p : ProcessValue) → thread_part (change p) ≡ thread_part p) → Same number targets (with_change_of change named targets)
same_named change None number targets same = refl
same_named change (Some n) number targets same = same_change change n number targets same

-- a change of one thread that keeps its state

set_states : (place : ℕ) (x t : Thread) (threads : List Thread) → slice_get threads place ≡ Some t → x.state ≡ t.state → map (λ (t : Thread). t.state) (slice_set threads place x) ≡ map (λ (t : Thread). t.state) threads
set_states place x t [] is same = refl
set_states zero x t (y ∷ threads) is same =
    let here : y ≡ t = cc in ap (λ (s : ThreadState). s ∷ map (λ (t : Thread). t.state) threads) (same ∙ ap (λ (z : Thread). z.state) (sym here))
set_states (suc place) x t (y ∷ threads) is same = ap (λ (states : List ThreadState). y.state ∷ states) (set_states place x t threads is same)

with_states : (is_zero : Bool) (place : ℕ) (x t : Thread) (threads : List Thread) → cond is_zero None (slice_get threads place) ≡ Some t → x.state ≡ t.state
    → map (λ (t : Thread). t.state) (cond is_zero threads (slice_set threads place x)) ≡ map (λ (t : Thread). t.state) threads
with_states true place x t threads is same = refl
with_states false place x t threads is same = set_states place x t threads is same

changed_states : (change : Thread → Thread) (n : ℕ) (threads : List Thread) (found : Option Thread) → numbered n threads ≡ found → ((t : Thread) → (change t).state ≡ t.state)
    → map (λ (t : Thread). t.state) (changed_numbered_at change n found threads) ≡ map (λ (t : Thread). t.state) threads
changed_states change n threads None is same = refl
changed_states change n threads (Some t) is same = with_states (n == 0) (n - 1) (change t) t threads is (same t)

same_states : (change : Thread → Thread) (n : ℕ) → ((t : Thread) → (change t).state ≡ t.state) → (p : ProcessValue) → thread_part (in_thread change n p) ≡ thread_part p
same_states change n same p =
    ap (λ (states : List ThreadState). (states, p.attached)) (changed_states change n p.threads (numbered n p.threads) refl same)

same_register : (register : Option RegisterId) (word number : ℕ) (targets : TargetsValue) → Same number targets (register_after register word targets)
same_register None word number targets = refl
same_register (Some register) word number targets = same_change (with_register_word register word) register.process number targets (same_states (with_word register.index word) register.thread (λ t. refl))

same_parts : (parts : List Part) (bytes : List ℕ) (number : ℕ) (targets : TargetsValue) → Same number targets (with_parts parts bytes targets)
same_parts [] bytes number targets = refl
same_parts (part ∷ parts) bytes number targets =
    let change = with_part_bytes part (take part.size bytes) in
    same_parts parts (drop part.size bytes) number (with_change change part.register.process targets)
    ∙ same_change change part.register.process number targets (same_states (with_bytes part (take part.size bytes)) part.register.thread (λ t. refl))

same_by : (fault : Option Fault) (left targets : TargetsValue) (number : ℕ) → Same number targets left → Same number targets (targets_by fault left targets)
same_by None left targets number same = same
same_by (Some fault) left targets number same = refl

pub threads_stay : ThreadsStay
threads_stay (MemSet id addr word size mode bytes) targets number =
    same_by (data_fault (MemSet id addr word size mode bytes) targets) (memory_after id addr bytes targets) targets number
    (same_named (with_memory (unsigned_abs addr) bytes) (number_named id) number targets (λ p. refl))
threads_stay (RegSet id bytes) targets number =
    same_by (data_fault (RegSet id bytes) targets) (register_after (register_of id) (word_of bytes) targets) targets number (same_register (register_of id) (word_of bytes) number targets)
threads_stay (RegSetm list bytes) targets number =
    same_by (data_fault (RegSetm list bytes) targets) (with_parts (parts_named list) bytes targets) targets number (same_parts (parts_named list) bytes number targets)
threads_stay (MemGet id addr word size mode) targets number = same_by (data_fault (MemGet id addr word size mode) targets) targets targets number refl
threads_stay (RegGet id) targets number = same_by (data_fault (RegGet id) targets) targets targets number refl
threads_stay (RegGetm list) targets number = same_by (data_fault (RegGetm list) targets) targets targets number refl
threads_stay _ targets number = refl

-- ---- processes

abbrev AreOrderly : TargetsValue → Type 0
AreOrderly targets = IsOrderly targets.processes targets.next

order_at : (change : ProcessValue → ProcessValue) (n : ℕ) (found : Option ProcessValue) (targets : TargetsValue) → AreOrderly targets → AreOrderly (with_change_at change n found targets)
order_at change n None targets orderly = orderly
order_at change n (Some process) targets orderly = change_stays_orderly targets.processes targets.next n (change process) orderly

order_change : (change : ProcessValue → ProcessValue) (n : ℕ) (targets : TargetsValue) → AreOrderly targets → AreOrderly (with_change change n targets)
order_change change n targets orderly = order_at change n (process_of n targets.processes) targets orderly

order_named : (change : ProcessValue → ProcessValue) (named : Option ℕ) (targets : TargetsValue) → AreOrderly targets → AreOrderly (with_change_of change named targets)
order_named change None targets orderly = orderly
order_named change (Some n) targets orderly = order_change change n targets orderly

order_register : (register : Option RegisterId) (word : ℕ) (targets : TargetsValue) → AreOrderly targets → AreOrderly (register_after register word targets)
order_register None word targets orderly = orderly
order_register (Some register) word targets orderly = order_change (with_register_word register word) register.process targets orderly

order_parts : (parts : List Part) (bytes : List ℕ) (targets : TargetsValue) → AreOrderly targets → AreOrderly (with_parts parts bytes targets)
order_parts [] bytes targets orderly = orderly
order_parts (part ∷ parts) bytes targets orderly =
    let change = with_part_bytes part (take part.size bytes) in
    order_parts parts (drop part.size bytes) (with_change change part.register.process targets) (order_change change part.register.process targets orderly)

order_by : (fault : Option Fault) (left targets : TargetsValue) → AreOrderly left → AreOrderly targets → AreOrderly (targets_by fault left targets)
order_by None left targets orderly before = orderly
order_by (Some fault) left targets orderly before = before

pub order_stays : OrderStays
order_stays (MemSet id addr word size mode bytes) targets orderly =
    order_by (data_fault (MemSet id addr word size mode bytes) targets) (memory_after id addr bytes targets) targets
    (order_named (with_memory (unsigned_abs addr) bytes) (number_named id) targets orderly) orderly
order_stays (RegSet id bytes) targets orderly =
    order_by (data_fault (RegSet id bytes) targets) (register_after (register_of id) (word_of bytes) targets) targets
    (order_register (register_of id) (word_of bytes) targets orderly) orderly
order_stays (RegSetm list bytes) targets orderly =
    order_by (data_fault (RegSetm list bytes) targets) (with_parts (parts_named list) bytes targets) targets (order_parts (parts_named list) bytes targets orderly) orderly
order_stays (MemGet id addr word size mode) targets orderly = order_by (data_fault (MemGet id addr word size mode) targets) targets targets orderly orderly
order_stays (RegGet id) targets orderly = order_by (data_fault (RegGet id) targets) targets targets orderly orderly
order_stays (RegGetm list) targets orderly = order_by (data_fault (RegGetm list) targets) targets targets orderly orderly
order_stays _ targets orderly = orderly
