-- Bytes that are put over parts of registers: what there is of each process then.
use Rattle.std.proofs.Common.{◌≡◌, ℕ, nat_eq, Bool, true, false, cond, List, [], ◌∷◌, take, drop, Option, Some, None, option_map, refl, sym, ◌∙◌, ap}
use Rattle.data_services.specs.Parts.{parts_named, with_bytes, with_part_bytes, with_parts}
use Rattle.target_contexts.specs.Changes.{with_change, with_change_at}
use Rattle.target_contexts.specs.Laws.{AgreeBut}
use Rattle.target_contexts.specs.Live.{numbers_of, process_of}
use Rattle.target_contexts.specs.TargetsValue.{TargetsValue}
use Rattle.target_contexts.specs.ProcessValue.{ProcessValue}
use Rattle.target_contexts.proofs.TheLaws.{changes_one}
use Rattle.target_truth.proofs.Accounts.{ButRegisters}
use Rattle.target_truth.proofs.Becoming.{Becomes}
use Rattle.target_truth.proofs.Threads.{kept_states}
use Rattle.data_services.proofs.PartSteps.{changed_process, live_found}

-- ---- a change of one process

numbers_by : (change : ProcessValue → ProcessValue) (n : ℕ) (targets : TargetsValue) (found : Option ProcessValue) → process_of n targets.processes ≡ found
    → numbers_of (with_change_at change n found targets).processes ≡ numbers_of targets.processes
numbers_by change n targets None there = refl
numbers_by change n targets (Some process) there = (changes_one targets.processes n (change process) (live_found n targets.processes process there)).2

same_numbers : (change : ProcessValue → ProcessValue) (n : ℕ) (targets : TargetsValue) → numbers_of (with_change change n targets).processes ≡ numbers_of targets.processes
same_numbers change n targets = numbers_by change n targets (process_of n targets.processes) refl

-- ---- bytes put over parts of registers

-- the type of what is in a list
abbrev pub item_of : {A : Type 0} → List A → Type 0
item_of {A = A} list = A

-- a part of a register, as locations name it
abbrev pub Part : Type 0
Part = item_of (parts_named [])

-- what they leave in one process: the parts of other processes are passed over
abbrev pub parts_in : ℕ → List Part → List ℕ → ProcessValue → ProcessValue
parts_in number [] bytes process = process
parts_in number (part ∷ parts) bytes process =
    parts_in number parts (drop part.size bytes) (cond (nat_eq part.register.process number) (with_part_bytes part (take part.size bytes) process) process)

unchanged : (found : Option ProcessValue) → found ≡ option_map (λ process. process) found
unchanged None = refl
unchanged (Some process) = refl

-- the part is first put over, or passed over, and then the others
one_more : (number : ℕ) (part : Part) (parts : List Part) (bytes : List ℕ) (same : Bool) → nat_eq part.register.process number ≡ same → (found : Option ProcessValue)
    → option_map (λ process. parts_in number parts (drop part.size bytes) process) (cond same (option_map (with_part_bytes part (take part.size bytes)) found) found)
    ≡ option_map (λ process. parts_in number (part ∷ parts) bytes process) found
one_more number part parts bytes true e None = refl
one_more number part parts bytes false e None = refl
one_more number part parts bytes true e (Some process) = ap (λ (b : Bool). Some (parts_in number parts (drop part.size bytes) (cond b (with_part_bytes part (take part.size bytes) process) process))) (sym e)
one_more number part parts bytes false e (Some process) = ap (λ (b : Bool). Some (parts_in number parts (drop part.size bytes) (cond b (with_part_bytes part (take part.size bytes) process) process))) (sym e)

pub process_after : (number : ℕ) (parts : List Part) (bytes : List ℕ) (targets : TargetsValue) →
    process_of number (with_parts parts bytes targets).processes ≡ option_map (λ process. parts_in number parts bytes process) (process_of number targets.processes)
process_after number [] bytes targets = unchanged (process_of number targets.processes)
process_after number (part ∷ parts) bytes targets =
    let change : ProcessValue → ProcessValue = with_part_bytes part (take part.size bytes) in
    let n : ℕ = part.register.process in
    process_after number parts (drop part.size bytes) (with_change change n targets)
    ∙ ap (λ (found : Option ProcessValue). option_map (λ process. parts_in number parts (drop part.size bytes) process) found) (changed_process change n number targets)
    ∙ one_more number part parts bytes (nat_eq n number) refl (process_of number targets.processes)

-- ---- only registers are others

same_registers : (process : ProcessValue) → ButRegisters process process
same_registers process = record { name = refl; attached = refl; states = refl; memory = refl }

then_registers : (one two three : ProcessValue) → ButRegisters one two → ButRegisters two three → ButRegisters one three
then_registers one two three first second = record {
  name = second.name ∙ first.name;
  attached = second.attached ∙ first.attached;
  states = second.states ∙ first.states;
  memory = second.memory ∙ first.memory;
}

part_registers : (part : Part) (bytes : List ℕ) (process : ProcessValue) (here : Bool) → ButRegisters process (cond here (with_part_bytes part bytes process) process)
part_registers part bytes process true = record {
  name = refl;
  attached = refl;
  states = kept_states (with_bytes part bytes) part.register.thread process (λ thread. refl);
  memory = refl;
}
part_registers part bytes process false = same_registers process

pub but_registers : (number : ℕ) (parts : List Part) (bytes : List ℕ) (process : ProcessValue) → ButRegisters process (parts_in number parts bytes process)
but_registers number [] bytes process = same_registers process
but_registers number (part ∷ parts) bytes process =
    let middle = cond (nat_eq part.register.process number) (with_part_bytes part (take part.size bytes) process) process in
    then_registers process middle (parts_in number parts (drop part.size bytes) middle)
    (part_registers part (take part.size bytes) process (nat_eq part.register.process number)) (but_registers number parts (drop part.size bytes) middle)

-- ---- the numbers and the order of the processes

next_by : (change : ProcessValue → ProcessValue) (n : ℕ) (targets : TargetsValue) (found : Option ProcessValue) → (with_change_at change n found targets).next ≡ targets.next
next_by change n targets None = refl
next_by change n targets (Some process) = refl

next_after : (parts : List Part) (bytes : List ℕ) (targets : TargetsValue) → (with_parts parts bytes targets).next ≡ targets.next
next_after [] bytes targets = refl
next_after (part ∷ parts) bytes targets =
    let change : ProcessValue → ProcessValue = with_part_bytes part (take part.size bytes) in
    let n : ℕ = part.register.process in
    next_after parts (drop part.size bytes) (with_change change n targets) ∙ next_by change n targets (process_of n targets.processes)

pub numbers_after : (parts : List Part) (bytes : List ℕ) (targets : TargetsValue) → numbers_of (with_parts parts bytes targets).processes ≡ numbers_of targets.processes
numbers_after [] bytes targets = refl
numbers_after (part ∷ parts) bytes targets =
    let change : ProcessValue → ProcessValue = with_part_bytes part (take part.size bytes) in
    numbers_after parts (drop part.size bytes) (with_change change part.register.process targets) ∙ same_numbers change part.register.process targets

-- where they leave the other processes as they are
pub parts_become : (number : ℕ) (parts : List Part) (bytes : List ℕ) (targets : TargetsValue) (process : ProcessValue) → process_of number targets.processes ≡ Some process
    → AgreeBut number targets.processes (with_parts parts bytes targets).processes → Becomes number targets (with_parts parts bytes targets) (parts_in number parts bytes process)
parts_become number parts bytes targets process found others = record {
  found = process_after number parts bytes targets ∙ ap (option_map (λ p. parts_in number parts bytes p)) found;
  others = others;
  numbers = numbers_after parts bytes targets;
  next = next_after parts bytes targets;
}
