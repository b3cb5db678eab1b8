-- Registers that are set: the event tells the one register, or that there are several.
use Rattle.std.proofs.Common.{◌≡◌, ◌≢◌, ℕ, ◌≤◌, nat_eq, nat_lt, unsigned_abs, Bool, true, false, cond, is_none, List, [], ◌∷◌, get_or, slice_set, take, drop, Option, Some, None, option_map, inl, inr, refl, sym, ◌∙◌, ap, subst, arith}
use Rattle.std.specs.Prelude.{bytes_eq}
use Rattle.std.specs.List.{AllByRecursion, cons_option}
use Rattle.std.proofs.lemmas.Bool.{and_parts, cases_Bool, cond-false, eqb-false, eqb-true, ltb-false, ne_eqb}
use Rattle.std.proofs.lemmas.List.{get_or-set_other}
use Rattle.std.proofs.lemmas.Slice.Eq.{bytes_eq-Decides}
use Rattle.data_services.specs.Named.{holder_of}
use Rattle.data_services.specs.Parts.{number_in, parts_named, with_number, with_part_bytes, with_parts, with_register_bytes}
use Rattle.data_services.specs.RegisterRows.{name_one, register_after, with_register_word, with_word}
use Rattle.rv32i_core.specs.declared.registers.Cpu.{Cpu}
use Rattle.target_contexts.specs.Changes.{with_change}
use Rattle.target_contexts.specs.Live.{process_of}
use Rattle.target_contexts.specs.Named.{is_attached, runs}
use Rattle.target_contexts.specs.ProcessValue.{ProcessValue}
use Rattle.target_contexts.specs.Threads.{in_thread, thread_at}
use Rattle.target_contexts.specs.declared.threads.Thread.{Thread}
use Rattle.target_contexts.proofs.TheLaws.{changes_one_thread}
use Rattle.run_control.specs.TargetValue.{TargetValue}
use Rattle.target_truth.proofs.Becoming.{change_stays, stays_attached, with_contexts}
use Rattle.target_truth.proofs.First.{ButCpus, ButRegisters, Leads, register_set, registers_set, without_cpus}
use Rattle.target_truth.proofs.Holders.{IsHolder, holder_found, index_small}
use Rattle.target_truth.proofs.RegisterParts.{Part, but_registers, numbers_after, parts_become, parts_in, process_after}
use Rattle.target_truth.proofs.Seen.{number_of}
use Rattle.target_truth.proofs.Silent.{attached_same}
use Rattle.target_truth.proofs.Tells.{Tell}
use Rattle.target_truth.proofs.Threads.{kept_states, states_of}
use Rattle.tcf_values.specs.Ids.{register_of}
use Rattle.tcf_values.specs.declared.event.EventData.TheVariants.{RegChanged, RegsChanged}
use Rattle.tcf_values.specs.declared.ids.RegisterId.{RegisterId}
use Rattle.tcf_values.specs.declared.values.Location.{Location}

-- ---- one register

other_by : (put index number : ℕ) (cpu : Cpu) → put ≤ 32 → index ≤ 32 → index ≢ put → (low zero small none : Bool) → nat_lt put 32 ≡ low → nat_lt index 32 ≡ small →
    (let new : Cpu = cond low (cond zero cpu (record cpu { x = slice_set cpu.x put number })) (record cpu { pc = number }) in
    cond small (cond none 0 (get_or new.x index 0)) new.pc ≡ cond small (cond none 0 (get_or cpu.x index 0)) cpu.pc)
other_by put index number cpu most few differ true true small none e f = refl
other_by put index number cpu most few differ true false true true e f = refl
other_by put index number cpu most few differ true false true false e f = get_or-set_other cpu.x put index number 0 differ
other_by put index number cpu most few differ true false false none e f = refl
other_by put index number cpu most few differ false zero true none e f = refl
other_by put index number cpu most few differ false zero false none e f =
    absurd (differ (omega (arith, ltb-false put 32 e, ltb-false index 32 f)))

-- a number put into a register leaves the others
other_number : (put index number : ℕ) (cpu : Cpu) → put ≤ 32 → index ≤ 32 → index ≢ put → number_in index (with_number put number cpu) ≡ number_in index cpu
other_number put index number cpu most few differ =
    other_by put index number cpu most few differ (nat_lt put 32) (nat_eq put 0) (nat_lt index 32) (nat_eq index 0) refl refl

-- and those of the other threads
other_register : (change : Cpu → Cpu) (index : ℕ) (found : Option Thread) → ((cpu : Cpu) → number_in index (change cpu) ≡ number_in index cpu)
    → number_of index (option_map (λ (t : Thread). record t { cpu = change t.cpu }) found) ≡ number_of index found
other_register change index None same = refl
other_register change index (Some thread) same = ap (λ n. cond (runs thread.state) None (Some n)) (same thread.cpu)

other_thread : (change : Cpu → Cpu) (at m index : ℕ) (process : ProcessValue) (put : ℕ) → ((cpu : Cpu) → (index ≡ put → ⊥) → number_in index (change cpu) ≡ number_in index cpu)
    → (m ≡ at → index ≡ put → ⊥) → number_of index (thread_at m (in_thread (λ (t : Thread). record t { cpu = change t.cpu }) at process)) ≡ number_of index (thread_at m process)
other_thread change at m index process put same differ =
    let new : Thread → Thread = λ (t : Thread). record t { cpu = change t.cpu } in
    elim (cases_Bool (nat_eq m at)) [
      | inl e ↦
          let here : m ≡ at = eqb-true m at e in
          ap (λ k. number_of index (thread_at k (in_thread new at process))) here
          ∙ ap (number_of index) (changes_one_thread new at process).0
          ∙ other_register change index (thread_at at process) (λ cpu. same cpu (differ here))
          ∙ sym (ap (λ k. number_of index (thread_at k process)) here)
      | inr e ↦ ap (number_of index) ((changes_one_thread new at process).1.others m (eqb-false m at e))
    ]

register_told : (id : List ℕ) (number : ℕ) (target : TargetValue) (register : RegisterId) (old : ProcessValue) (thread : Thread) → IsHolder target id register old thread
    → Leads target (with_contexts (register_after (Some register) number target.contexts) target) (RegChanged id)
register_told id number target register old thread held =
    let change = with_register_word register number in
    register_set target (with_contexts (with_change change register.process target.contexts) target) old (change old) id register held.read
    (change_stays change register.process target old held.there refl refl)
    (record { name = refl; attached = refl; states = kept_states (with_word register.index number) register.thread old (λ t. refl); memory = refl })
    (λ m index few differ. other_thread (with_number register.index number) register.thread m index old register.index
    (λ cpu other. other_number register.index index number cpu (index_small id register held.read) few other) differ)

pub register_of_named : (id : List ℕ) (number : ℕ) (target : TargetValue) → is_none (holder_of id target.contexts.processes) ≡ false
    → Leads target (with_contexts (register_after (register_of id) number target.contexts) target) (RegChanged id)
register_of_named id number target some =
    let found = holder_found target id some in
    subst (λ named. Leads target (with_contexts (register_after named number target.contexts) target) (RegChanged id)) (sym found.is.read)
    (register_told id number target found.register found.process found.thread found.is)

-- ---- parts of registers

view_stays : {A : Type 0} → (view : ProcessValue → A) (change : ProcessValue → ProcessValue) (found : Option ProcessValue) → ((process : ProcessValue) → view (change process) ≡ view process)
    → option_map view (option_map change found) ≡ option_map view found
view_stays view change None same = refl
view_stays view change (Some process) same = ap (λ seen. Some seen) (same process)

attached_stays : (change : ProcessValue → ProcessValue) (found : Option ProcessValue) → ((process : ProcessValue) → (change process).attached ≡ process.attached)
    → is_attached (option_map change found) ≡ is_attached found
attached_stays change None same = refl
attached_stays change (Some process) same = same process

without_same : (old new : ProcessValue) → ButRegisters old new → without_cpus new ≡ without_cpus old
without_same old new but =
    ap (λ name. (name, (states_of new, new.memory))) but.name
    ∙ ap (λ states. (old.name, (states, new.memory))) but.states ∙ ap (λ memory. (old.name, (states_of old, memory))) but.memory

but_cpus : (parts : List Part) (bytes : List ℕ) (target : TargetValue) → ButCpus target (with_contexts (with_parts parts bytes target.contexts) target)
but_cpus parts bytes target =
    let rows = target.contexts.processes in
    let left = with_parts parts bytes target.contexts in
    let after : ℕ → ProcessValue → ProcessValue = λ number process. parts_in number parts bytes process in
    let same : (number : ℕ) (process : ProcessValue) → ButRegisters process (after number process) = λ number process. but_registers number parts bytes process in
    record {
      processes = λ number. ap (option_map without_cpus) (process_after number parts bytes target.contexts)
          ∙ view_stays without_cpus (after number) (process_of number rows) (λ process. without_same process (after number process) (same number process));
      attached = λ number. ap (option_map (λ (p : ProcessValue). p.attached)) (process_after number parts bytes target.contexts)
          ∙ view_stays (λ (p : ProcessValue). p.attached) (after number) (process_of number rows) (λ process. (same number process).attached);
      all = attached_same rows left.processes (numbers_after parts bytes target.contexts)
          (λ number. ap is_attached (process_after number parts bytes target.contexts) ∙ attached_stays (after number) (process_of number rows) (λ process. (same number process).attached));
      breakpoints = refl;
    }

-- ---- parts of one register

abbrev AreOf : RegisterId → List Part → Type 0
AreOf register parts = AllByRecursion (λ part. part.register ≡ register) parts

of_by : (register : RegisterId) (location : Location) (list : List Location) (named : Option RegisterId) → named ≡ Some register → AreOf register (parts_named list)
    → AreOf register (cons_option (option_map (λ r. record { register = r; offset = unsigned_abs location.offset; size = unsigned_abs location.size }) named) (parts_named list))
of_by register location list None is rest = cc
of_by register location list (Some other) is rest = let same : other ≡ register = cc in (same, rest)

all_of : (id : List ℕ) (register : RegisterId) (list : List Location) → register_of id ≡ Some register → name_one id list ≡ true → AreOf register (parts_named list)
all_of id register [] read one = tt
all_of id register (location ∷ list) read one =
    let parts = and_parts (bytes_eq location.register id) (name_one id list) one in
    let same : location.register ≡ id = (bytes_eq-Decides location.register id).0 parts.0 in
    of_by register location list (register_of location.register) (ap register_of same ∙ read) (all_of id register list read parts.1)

-- they leave the other processes, and the other registers of the one
passed_over : (number : ℕ) (register : RegisterId) (parts : List Part) (bytes : List ℕ) (process : ProcessValue) → AreOf register parts → number ≢ register.process → parts_in number parts bytes process ≡ process
passed_over number register [] bytes process all differ = refl
passed_over number register (part ∷ parts) bytes process all differ =
    let other : nat_eq part.register.process number ≡ false = ne_eqb part.register.process number (λ same. differ (sym same ∙ ap (λ (r : RegisterId). r.process) all.0)) in
    ap (λ p. parts_in number parts (drop part.size bytes) p) (cond-false (nat_eq part.register.process number) (with_part_bytes part (take part.size bytes) process) process other)
    ∙ passed_over number register parts (drop part.size bytes) process all.1 differ

nothing_over : (number : ℕ) (register : RegisterId) (parts : List Part) (bytes : List ℕ) (found : Option ProcessValue) → AreOf register parts → number ≢ register.process
    → option_map (λ process. parts_in number parts bytes process) found ≡ found
nothing_over number register parts bytes None all differ = refl
nothing_over number register parts bytes (Some process) all differ = ap (λ (p : ProcessValue). Some p) (passed_over number register parts bytes process all differ)

beside_by : (part : Part) (bytes : List ℕ) (m index : ℕ) (process : ProcessValue) (here : Bool) → part.register.index ≤ 32 → index ≤ 32 → (m ≡ part.register.thread → index ≡ part.register.index → ⊥)
    → number_of index (thread_at m (cond here (with_part_bytes part bytes process) process)) ≡ number_of index (thread_at m process)
beside_by part bytes m index process true most few differ =
    other_thread (with_register_bytes part bytes) part.register.thread m index process part.register.index
    (λ cpu other. other_number part.register.index index _ cpu most few other) differ
beside_by part bytes m index process false most few differ = refl

beside : (number m index : ℕ) (register : RegisterId) (parts : List Part) (bytes : List ℕ) (process : ProcessValue) → AreOf register parts → register.index ≤ 32 → index ≤ 32
    → (m ≡ register.thread → index ≡ register.index → ⊥) → number_of index (thread_at m (parts_in number parts bytes process)) ≡ number_of index (thread_at m process)
beside number m index register [] bytes process all most few differ = refl
beside number m index register (part ∷ parts) bytes process all most few differ =
    let here = nat_eq part.register.process number in
    beside number m index register parts (drop part.size bytes) (cond here (with_part_bytes part (take part.size bytes) process) process) all.1 most few differ
    ∙ beside_by part (take part.size bytes) m index process here (subst (λ (r : RegisterId). r.index ≤ 32) (sym all.0) most) few
    (subst (λ (r : RegisterId). m ≡ r.thread → index ≡ r.index → ⊥) (sym all.0) differ)

one_told : (id : List ℕ) (parts : List Part) (bytes : List ℕ) (target : TargetValue) (register : RegisterId) (old : ProcessValue) (thread : Thread)
    → ((r : RegisterId) → register_of id ≡ Some r → AreOf r parts) → IsHolder target id register old thread
    → Leads target (with_contexts (with_parts parts bytes target.contexts) target) (RegChanged id)
one_told id parts bytes target register old thread all held =
    let rows = target.contexts.processes in
    let left = with_parts parts bytes target.contexts in
    let number = register.process in
    let new = parts_in number parts bytes old in
    let of = all register held.read in
    let but : ButRegisters old new = but_registers number parts bytes old in
    register_set target (with_contexts left target) old new id register held.read
    (stays_attached [] number target (with_contexts left target) old new held.there
    (parts_become number parts bytes target.contexts old held.there
    (λ other differ. process_after other parts bytes target.contexts ∙ nothing_over other register parts bytes (process_of other rows) of differ))
    but.name but.attached refl (λ point none. refl))
    but
    (λ m index few differ. beside number m index register parts bytes old of (index_small id register held.read) few differ)

pub registers_told : (first : Location) (list : List Location) (bytes : List ℕ) (target : TargetValue) → is_none (holder_of first.register target.contexts.processes) ≡ false
    → (one : Bool) → name_one first.register (first ∷ list) ≡ one
    → Tell target (with_contexts (with_parts (parts_named (first ∷ list)) bytes target.contexts) target) (cond one (RegChanged first.register ∷ []) (RegsChanged ∷ []))
registers_told first list bytes target some true one =
    let parts = parts_named (first ∷ list) in
    let now = with_contexts (with_parts parts bytes target.contexts) target in
    let found = holder_found target first.register some in
    let told : Leads target now (RegChanged first.register) =
    one_told first.register parts bytes target found.register found.process found.thread (λ r read. all_of first.register r (first ∷ list) read one) found.is in
    (record { limits = tt; typed = tt; leads = told }, tt)
registers_told first list bytes target some false one =
    let parts = parts_named (first ∷ list) in
    (record { limits = tt; typed = tt; leads = registers_set target (with_contexts (with_parts parts bytes target.contexts) target) (but_cpus parts bytes target) }, tt)
