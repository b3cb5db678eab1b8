-- Why the laws hold: a command by its fault, and one part after the other.
use Rattle.std.proofs.Common.{◌≡◌, ◌≢◌, ℕ, ℤ, pos, negsuc, ◌+◌, ◌≤◌, ◌<◌, nat_eq, nat_lt, unsigned_abs, Bool, true, false, not, ◌&&◌, cond, is_none, List, [], ◌∷◌, ◌++◌, length, get_or, slice_set, take, drop, Option, Some, None, option_map, option_and_then, refl, sym, ◌∙◌, ap, arith, eqb-true}
use Rattle.std.specs.List.{list_any}
use Rattle.std.specs.Int.{w32, from_le_bytes}
use Rattle.std.proofs.lemmas.Bool.{eq-eqb, ltb-false, ltb-true, ne_eqb, or_parts}
use Rattle.std.proofs.lemmas.List.{drop_at, get_or-set_same, length-take-le, take_at}
use Rattle.std.proofs.lemmas.Nat.{le_bytes_4}
use Rattle.rv32i_core.specs.declared.registers.Cpu.{Cpu}
use Rattle.tcf_values.specs.Ids.{context_of, register_of}
use Rattle.tcf_values.specs.declared.ids.ContextId.{ContextId}
use Rattle.tcf_values.specs.declared.ids.ContextId.TheVariants as ids
use Rattle.tcf_values.specs.declared.answer.Answer.TheVariants.{Blob, Failed, Nothing}
use Rattle.tcf_values.specs.declared.command.Command.{Command}
use Rattle.tcf_values.specs.declared.command.Command.TheVariants.{MemGet, MemSet, RegGet, RegSet, RegGetm, RegSetm}
use Rattle.tcf_values.specs.declared.effect.Effect.{Effect}
use Rattle.tcf_values.specs.declared.errors.ErrorReport.{ErrorReport}
use Rattle.tcf_values.specs.declared.ids.RegisterId.{RegisterId}
use Rattle.target_contexts.specs.Live.{process_of}
use Rattle.target_contexts.specs.TargetsValue.{TargetsValue}
use Rattle.target_contexts.specs.ProcessValue.{ProcessValue}
use Rattle.data_services.specs.Bytes.{part_of, with_part, word_bytes, word_of}
use Rattle.target_contexts.specs.Changes.{targets_by, with_change, with_change_of}
use Rattle.data_services.specs.Commands.{data_after, data_effect, data_fault, data_given}
use Rattle.tcf_values.specs.Effects.{effect_by, failed, gives}
use Rattle.tcf_values.specs.Faults.{first_fault}
use Rattle.data_services.specs.Laws.{AskingChangesNothing, FailureChangesNothing, MemorySetIsGot, OtherThreadsStay, OthersStay, RegisterSetIsGot, is_number, is_process, is_some_thread, is_thread}
use Rattle.data_services.specs.MemoryRows.{is_no_size, is_outside, memory_after, memory_bytes, memory_set_fault, with_memory}
use Rattle.target_contexts.specs.Named.{holder_for, is_running, number_for, number_named, runs}
use Rattle.target_contexts.specs.Threads.{has_thread, holding, in_thread, thread_at, thread_of}
use Rattle.target_contexts.specs.declared.threads.Thread.{Thread}
use Rattle.data_services.specs.Named.{process_named, thread_with, holder_of}
use Rattle.data_services.specs.Parts.{number_in, parts_named, with_bytes, with_number, with_part_bytes, with_parts}
use Rattle.data_services.specs.RegisterRows.{register_after, register_bytes, register_set_fault, with_register_word, with_word}
use Rattle.tcf_values.specs.declared.faults.Fault.{Fault}
use Rattle.tcf_values.specs.declared.faults.Fault.TheVariants.{BadAddress, BadContext, IsRunning, BadSize}
use Rattle.data_services.specs.declared.parts.Part.{Part}
use Rattle.data_services.proofs.PartSteps.{changed_process, changed_thread}
use Rattle.list_laws.proofs.Flags.{not_false}

-- ---- failures

given_no_error : (command : Command) (targets : TargetsValue) (report : ErrorReport) → (data_given command targets).answer ≡ Failed report → ⊥
given_no_error (MemGet id addr word size mode) targets report e = cc
given_no_error (MemSet id addr word size mode bytes) targets report e = cc
given_no_error (RegGet id) targets report e = cc
given_no_error (RegSet id bytes) targets report e = cc
given_no_error (RegGetm list) targets report e = cc
given_no_error (RegSetm list bytes) targets report e = cc
given_no_error _ targets report e = cc

failure_by : (fault : Option Fault) (given : Effect) (left targets : TargetsValue) (report : ErrorReport) → (given.answer ≡ Failed report → ⊥) → (effect_by fault given).answer ≡ Failed report →
    (targets_by fault left targets ≡ targets) × ((effect_by fault given).events ≡ [])
unfolding failed
failure_by None given left targets report never e = absurd (never e)
failure_by (Some fault) given left targets report never e = (refl, refl)

pub failure_changes_nothing : FailureChangesNothing
failure_changes_nothing command targets report e = failure_by _ (data_given command targets) _ targets report (given_no_error command targets report) e

-- ---- commands that only ask

asking_by : (fault : Option Fault) (given : Effect) (targets : TargetsValue) → given.events ≡ [] → (targets_by fault targets targets ≡ targets) × ((effect_by fault given).events ≡ [])
unfolding failed
asking_by None given targets e = (refl, e)
asking_by (Some fault) given targets e = (refl, refl)

pub asking_changes_nothing : AskingChangesNothing
asking_changes_nothing (MemGet id addr word size mode) targets e = asking_by _ _ targets refl
asking_changes_nothing (MemSet id addr word size mode bytes) targets e = cc
asking_changes_nothing (RegGet id) targets e = asking_by _ _ targets refl
asking_changes_nothing (RegSet id bytes) targets e = cc
asking_changes_nothing (RegGetm list) targets e = asking_by _ _ targets refl
asking_changes_nothing (RegSetm list bytes) targets e = cc
asking_changes_nothing _ targets e = (refl, refl)

-- ---- the other processes

abbrev Stays : ℕ → TargetsValue → TargetsValue → Type 0
Stays number targets left = process_of number left.processes ≡ process_of number targets.processes

stays_by : (fault : Option Fault) (left targets : TargetsValue) (number : ℕ) → Stays number targets left → Stays number targets (targets_by fault left targets)
stays_by None left targets number same = same
stays_by (Some fault) left targets number same = refl

stays_but : (change : ProcessValue → ProcessValue) (n number : ℕ) (targets : TargetsValue) → nat_eq n number ≡ false → Stays number targets (with_change change n targets)
stays_but change n number targets other =
    changed_process change n number targets
    ∙ ap (λ (b : Bool). cond b (option_map change (process_of number targets.processes)) (process_of number targets.processes)) other

stays_named : (change : ProcessValue → ProcessValue) (named : Option ℕ) (number : ℕ) (targets : TargetsValue) → is_number number named ≡ false → Stays number targets (with_change_of change named targets)
stays_named change None number targets other = refl
stays_named change (Some n) number targets other = stays_but change n number targets other

stays_register : (register : Option RegisterId) (word number : ℕ) (targets : TargetsValue) → is_process number register ≡ false → Stays number targets (register_after register word targets)
stays_register None word number targets other = refl
stays_register (Some register) word number targets other = stays_but (with_register_word register word) register.process number targets other

stays_parts : (parts : List Part) (bytes : List ℕ) (number : ℕ) (targets : TargetsValue) → list_any (λ part. nat_eq part.register.process number) parts ≡ false → Stays number targets (with_parts parts bytes targets)
stays_parts [] bytes number targets other = refl
stays_parts (part ∷ parts) bytes number targets other =
    let both = or_parts (nat_eq part.register.process number) (list_any (λ p. nat_eq p.register.process number) parts) other in
    stays_parts parts (drop part.size bytes) number (with_change (with_part_bytes part (take part.size bytes)) part.register.process targets) both.1
    ∙ stays_but (with_part_bytes part (take part.size bytes)) part.register.process number targets both.0

pub others_stay : OthersStay
others_stay (MemSet id addr word size mode bytes) targets number other =
    stays_by (data_fault (MemSet id addr word size mode bytes) targets) (memory_after id addr bytes targets) targets number (stays_named (with_memory (unsigned_abs addr) bytes) (number_named id) number targets other)
others_stay (RegSet id bytes) targets number other =
    stays_by (data_fault (RegSet id bytes) targets) (register_after (register_of id) (word_of bytes) targets) targets number (stays_register (register_of id) (word_of bytes) number targets other)
others_stay (RegSetm list bytes) targets number other =
    stays_by (data_fault (RegSetm list bytes) targets) (with_parts (parts_named list) bytes targets) targets number (stays_parts (parts_named list) bytes number targets other)
others_stay (MemGet id addr word size mode) targets number other = stays_by (data_fault (MemGet id addr word size mode) targets) targets targets number refl
others_stay (RegGet id) targets number other = stays_by (data_fault (RegGet id) targets) targets targets number refl
others_stay (RegGetm list) targets number other = stays_by (data_fault (RegGetm list) targets) targets targets number refl
others_stay _ targets number other = refl

-- ---- the other threads

abbrev ThreadStays : ℕ → ℕ → TargetsValue → TargetsValue → Type 0
ThreadStays number n targets left = thread_of number n left.processes ≡ thread_of number n targets.processes

thread_by_fault : (fault : Option Fault) (left targets : TargetsValue) (number n : ℕ) → ThreadStays number n targets left → ThreadStays number n targets (targets_by fault left targets)
thread_by_fault None left targets number n same = same
thread_by_fault (Some fault) left targets number n same = refl

thread_but : (change : Thread → Thread) (register : RegisterId) (number n : ℕ) (targets : TargetsValue) → is_thread number n register ≡ false
    → ThreadStays number n targets (with_change (in_thread change register.thread) register.process targets)
thread_but change register number n targets other =
    changed_thread change register.process register.thread number n targets
    ∙ ap (λ (b : Bool). cond b (option_map change (thread_of number n targets.processes)) (thread_of number n targets.processes)) other

thread_register : (register : Option RegisterId) (word number n : ℕ) (targets : TargetsValue) → is_some_thread number n register ≡ false → ThreadStays number n targets (register_after register word targets)
thread_register None word number n targets other = refl
thread_register (Some register) word number n targets other = thread_but (with_word register.index word) register number n targets other

thread_parts : (parts : List Part) (bytes : List ℕ) (number n : ℕ) (targets : TargetsValue) → list_any (λ part. is_thread number n part.register) parts ≡ false → ThreadStays number n targets (with_parts parts bytes targets)
thread_parts [] bytes number n targets other = refl
thread_parts (part ∷ parts) bytes number n targets other =
    let both = or_parts (is_thread number n part.register) (list_any (λ p. is_thread number n p.register) parts) other in
    thread_parts parts (drop part.size bytes) number n (with_change (with_part_bytes part (take part.size bytes)) part.register.process targets) both.1
    ∙ thread_but (with_bytes part (take part.size bytes)) part.register number n targets both.0

-- memory is no part of a thread
memory_apart : (first : ℕ) (bytes : List ℕ) (n : ℕ) (here : Bool) (found : Option ProcessValue) →
    option_and_then (thread_at n) (cond here (option_map (with_memory first bytes) found) found) ≡ option_and_then (thread_at n) found
memory_apart first bytes n false found = refl
memory_apart first bytes n true None = refl
memory_apart first bytes n true (Some process) = refl

thread_memory : (first : ℕ) (bytes : List ℕ) (named : Option ℕ) (number n : ℕ) (targets : TargetsValue) → ThreadStays number n targets (with_change_of (with_memory first bytes) named targets)
thread_memory first bytes None number n targets = refl
thread_memory first bytes (Some m) number n targets =
    ap (option_and_then (thread_at n)) (changed_process (with_memory first bytes) m number targets)
    ∙ memory_apart first bytes n (nat_eq m number) (process_of number targets.processes)

pub other_threads_stay : OtherThreadsStay
other_threads_stay (MemSet id addr word size mode bytes) targets number n other =
    thread_by_fault (data_fault (MemSet id addr word size mode bytes) targets) (memory_after id addr bytes targets) targets number n (thread_memory (unsigned_abs addr) bytes (number_named id) number n targets)
other_threads_stay (RegSet id bytes) targets number n other =
    thread_by_fault (data_fault (RegSet id bytes) targets) (register_after (register_of id) (word_of bytes) targets) targets number n (thread_register (register_of id) (word_of bytes) number n targets other)
other_threads_stay (RegSetm list bytes) targets number n other =
    thread_by_fault (data_fault (RegSetm list bytes) targets) (with_parts (parts_named list) bytes targets) targets number n (thread_parts (parts_named list) bytes number n targets other)
other_threads_stay (MemGet id addr word size mode) targets number n other = thread_by_fault (data_fault (MemGet id addr word size mode) targets) targets targets number n refl
other_threads_stay (RegGet id) targets number n other = thread_by_fault (data_fault (RegGet id) targets) targets targets number n refl
other_threads_stay (RegGetm list) targets number n other = thread_by_fault (data_fault (RegGetm list) targets) targets targets number n refl
other_threads_stay _ targets number n other = refl

-- ---- memory

passed : (check : Bool) (fault : Fault) (rest : Option Fault) → cond check (Some fault) rest ≡ None → (check ≡ false) × (rest ≡ None)
passed true fault rest e = cc
passed false fault rest e = (refl, e)

no_fault : (fault : Option Fault) (given : Effect) → (effect_by fault given).answer ≡ Nothing → fault ≡ None
unfolding failed
no_fault None given e = refl
no_fault (Some fault) given e = cc

inside : (addr size : ℤ) → is_no_size size ≡ false → is_outside addr size ≡ false → unsigned_abs addr ≤ 65536
inside (pos a) (pos n) size addr = omega (arith, ltb-false 65536 (a + n) (or_parts (nat_lt a 0) (nat_lt 65536 (a + n)) addr).1)
inside (pos a) (negsuc n) size addr = cc
inside (negsuc a) size ok addr = cc

same_bytes : (first count : ℕ) (bytes memory : List ℕ) → length bytes ≡ count → first ≤ length memory → part_of first count (with_part first bytes memory) ≡ bytes
same_bytes first count bytes memory all within =
    let rest : List ℕ = drop (first + length bytes) memory in
    ap (λ (xs : List ℕ). take count xs) (drop_at (take first memory) (bytes ++ rest) first (length-take-le first memory within))
    ∙ take_at bytes rest count all

-- the process that is changed
itself_after : (change : ProcessValue → ProcessValue) (n : ℕ) (targets : TargetsValue) → process_of n (with_change change n targets).processes ≡ option_map change (process_of n targets.processes)
itself_after change n targets =
    changed_process change n n targets
    ∙ ap (λ (b : Bool). cond b (option_map change (process_of n targets.processes)) (process_of n targets.processes)) (eq-eqb n n refl)

-- a process that memory is put into holds the threads that it held
still_holding : (first : ℕ) (bytes : List ℕ) (n : ℕ) (found : Option ProcessValue) → holding n (option_map (with_memory first bytes) found) ≡ option_map (with_memory first bytes) (holding n found)
still_holding first bytes n None = refl
still_holding first bytes n (Some process) = held_by (has_thread n process)
  where
    held_by : (has : Bool) → cond has (Some (with_memory first bytes process)) None ≡ option_map (with_memory first bytes) (cond has (Some process) None)
    held_by true = refl
    held_by false = refl

holder_after : (first : ℕ) (bytes : List ℕ) (context : ContextId) (targets : TargetsValue) →
    holder_for context (with_change (with_memory first bytes) (number_for context) targets).processes ≡ option_map (with_memory first bytes) (holder_for context targets.processes)
holder_after first bytes (ids.Process n) targets = itself_after (with_memory first bytes) n targets
holder_after first bytes (ids.Thread number n) targets =
    ap (holding n) (itself_after (with_memory first bytes) number targets) ∙ still_holding first bytes n (process_of number targets.processes)

named_after : (first : ℕ) (bytes : List ℕ) (context : Option ContextId) (targets : TargetsValue) (process : ProcessValue) →
    option_and_then (λ c. holder_for c targets.processes) context ≡ Some process
    → option_and_then (λ c. holder_for c (with_change_of (with_memory first bytes) (option_map number_for context) targets).processes) context ≡ Some (with_memory first bytes process)
named_after first bytes None targets process there = absurd cc
named_after first bytes (Some context) targets process there = holder_after first bytes context targets ∙ ap (option_map (with_memory first bytes)) there

abbrev got : ℤ → ℤ → Option ProcessValue → Bool → Bool → Effect
got addr size process no_size outside =
    effect_by (first_fault ((is_none process, BadContext) ∷ (no_size, BadSize) ∷ (outside, BadAddress) ∷ [])) (gives (Blob (memory_bytes addr size process)))

pub memory_set_is_got : MemorySetIsGot
memory_set_is_got id addr word size mode bytes targets process there whole answered =
    let change : ProcessValue → ProcessValue = with_memory (unsigned_abs addr) bytes in
    let after : TargetsValue = with_change_of change (number_named id) targets in
    let fault : memory_set_fault id addr size bytes targets.processes ≡ None = no_fault _ _ answered in
    let found = passed (is_none (process_named id targets.processes)) BadContext _ fault in
    let sized = passed (is_no_size size) BadSize _ found.1 in
    let filled = passed (not (nat_eq (length bytes) (unsigned_abs size))) BadSize _ sized.1 in
    let placed = passed (is_outside addr size) BadAddress _ filled.1 in
    let left : data_after (MemSet id addr word size mode bytes) targets ≡ after = ap (λ (f : Option Fault). targets_by f after targets) fault in
    let named : process_named id after.processes ≡ Some (change process) = named_after (unsigned_abs addr) bytes (context_of id) targets process there in
    let within : unsigned_abs addr ≤ length process.memory = omega (arith, inside addr size sized.0 placed.0, whole) in
    let count : length bytes ≡ unsigned_abs size = eqb-true (length bytes) (unsigned_abs size) (not_false _ filled.0) in
    ap (λ (t : TargetsValue). data_effect (MemGet id addr word size mode) t) left
    ∙ ap (λ (p : Option ProcessValue). got addr size p (is_no_size size) (is_outside addr size)) named
    ∙ ap (λ (b : Bool). got addr size (Some (change process)) b (is_outside addr size)) sized.0
    ∙ ap (λ (b : Bool). got addr size (Some (change process)) false b) placed.0
    ∙ ap (λ (xs : List ℕ). gives (Blob xs)) (same_bytes (unsigned_abs addr) (unsigned_abs size) bytes process.memory count within)

-- ---- registers

unsame : (a b : ℕ) → a ≢ b → nat_eq a b ≡ false
unsame a b differ = ne_eqb a b differ

number_by : (index number : ℕ) (cpu : Cpu) → index ≢ 0 → length cpu.x ≡ 32 → (low zero : Bool) → nat_lt index 32 ≡ low → zero ≡ false →
    (let new : Cpu = cond low (cond zero cpu (record cpu { x = slice_set cpu.x index number })) (record cpu { pc = number }) in
    cond low (cond zero 0 (get_or new.x index 0)) new.pc ≡ number)
number_by index number cpu nonzero has true true low zero = cc
number_by index number cpu nonzero has true false low zero = get_or-set_same cpu.x index number 0 (omega (arith, ltb-true index 32 low, has))
number_by index number cpu nonzero has false zero low e = refl

-- a number that is put into a register other than x0 is in it
number_back : (index number : ℕ) (cpu : Cpu) → index ≢ 0 → length cpu.x ≡ 32 → number_in index (with_number index number cpu) ≡ number
number_back index number cpu nonzero has = number_by index number cpu nonzero has (nat_lt index 32) (nat_eq index 0) refl (unsame index 0 nonzero)

bytes_back : (bytes : List ℕ) → length bytes ≡ 4 → ((i : ℕ) → get_or bytes i 0 < 256) → word_bytes (word_of bytes) ≡ bytes
unfolding word_bytes word_of
bytes_back bytes four small = le_bytes_4 bytes (from_le_bytes w32 bytes) four small refl

itself : (a b : ℕ) → (nat_eq a a && nat_eq b b) ≡ true
itself a b = rw (eq-eqb a a refl, eq-eqb b b refl) refl

-- the thread that is changed
thread_changed : (change : Thread → Thread) (register : RegisterId) (targets : TargetsValue) (thread : Thread) → thread_with targets.processes register ≡ Some thread
    → thread_with (with_change (in_thread change register.thread) register.process targets).processes register ≡ Some (change thread)
thread_changed change register targets thread there =
    let found : Option Thread = thread_with targets.processes register in
    changed_thread change register.process register.thread register.process register.thread targets
    ∙ ap (λ (b : Bool). cond b (option_map change found) found) (itself register.process register.thread)
    ∙ ap (option_map change) there

abbrev read : Option RegisterId → Option Thread → Effect
read register thread =
    effect_by (first_fault ((is_none thread, BadContext) ∷ (is_running thread, IsRunning) ∷ [])) (gives (Blob (register_bytes register thread)))

abbrev read_number : Bool → ℕ → Effect
read_number running number = effect_by (first_fault ((false, BadContext) ∷ (running, IsRunning) ∷ [])) (gives (Blob (word_bytes number)))

pub register_set_is_got : RegisterSetIsGot
register_set_is_got id bytes targets register thread named nonzero there has small answered =
    let number : ℕ = word_of bytes in
    let change : Thread → Thread = with_word register.index number in
    let after : TargetsValue = with_change (in_thread change register.thread) register.process targets in
    let fault : register_set_fault id bytes targets.processes ≡ None = no_fault _ _ answered in
    let found = passed (is_none (holder_of id targets.processes)) BadContext _ fault in
    let still = passed (is_running (holder_of id targets.processes)) IsRunning _ found.1 in
    let filled = passed (not (nat_eq (length bytes) 4)) BadSize _ still.1 in
    let left : data_after (RegSet id bytes) targets ≡ after =
    ap (λ (f : Option Fault). targets_by f (register_after (register_of id) number targets) targets) fault
    ∙ ap (λ (r : Option RegisterId). register_after r number targets) named in
    let was : thread_with targets.processes register ≡ Some thread = sym (ap (λ (r : Option RegisterId). option_and_then (thread_with targets.processes) r) named) ∙ there in
    let now : holder_of id after.processes ≡ Some (change thread) =
    ap (λ (r : Option RegisterId). option_and_then (thread_with after.processes) r) named ∙ thread_changed change register targets thread was in
    let stands : runs thread.state ≡ false = sym (ap is_running there) ∙ still.0 in
    let four : length bytes ≡ 4 = eqb-true (length bytes) 4 (not_false _ filled.0) in
    ap (λ (t : TargetsValue). data_effect (RegGet id) t) left
    ∙ ap (λ (r : Option RegisterId). read r (holder_of id after.processes)) named
    ∙ ap (λ (t : Option Thread). read (Some register) t) now
    ∙ ap (λ (b : Bool). read_number b (number_in register.index (with_number register.index number thread.cpu))) stands
    ∙ ap (λ (n : ℕ). read_number false n) (number_back register.index number thread.cpu nonzero has)
    ∙ ap (λ (xs : List ℕ). gives (Blob xs)) (bytes_back bytes four small)
