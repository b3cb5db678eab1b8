-- One part more that bytes are put over, and what that leaves in one thread.
use Rattle.std.proofs.Common.{◌≡◌, ℕ, ◌+◌, ◌%◌, nat_eq, ◌&&◌, Bool, true, false, not, cond, List, [], ◌∷◌, ◌++◌, length, get_or, take, drop, slice_get, Option, Some, None, option_and_then, option_map, refl, sym, ◌∙◌, ap, arith, eqb-true, append_assoc, length-drop}
use Rattle.std.proofs.lemmas.Bool.{eqb-false}
use Rattle.std.proofs.lemmas.List.Quantifiers.{position-Some}
use Rattle.std.proofs.lemmas.List.Sums.{sum_by-cons}
use Rattle.std.proofs.lemmas.Option.{get_or_from_slice_get}
use Rattle.rv32i_core.specs.declared.registers.Cpu.{Cpu}
use Rattle.target_contexts.specs.Live.{IsLive, place_of, process_at, process_of, with_process}
use Rattle.target_contexts.specs.TargetsValue.{TargetsValue}
use Rattle.target_contexts.specs.ProcessValue.{ProcessValue}
use Rattle.target_contexts.specs.Changes.{with_change, with_change_at}
use Rattle.data_services.specs.Parts.{bytes_in, bytes_of, cpu_after, is_off, is_part_of, names_off, sizes, with_bytes, with_part_bytes, with_parts, with_register_bytes}
use Rattle.data_services.specs.declared.parts.Part.{Part}
use Rattle.target_contexts.proofs.TheLaws.{changes_one, changes_one_thread}
use Rattle.data_services.specs.Named.{thread_with}
use Rattle.tcf_values.specs.declared.ids.RegisterId.{RegisterId}
use Rattle.target_contexts.specs.Threads.{in_thread, thread_at, thread_of}
use Rattle.target_contexts.specs.declared.threads.Thread.{Thread}

-- the parts that are left, after one more
pub put_step : (parts : List Part) (i : ℕ) (part : Part) (rest first later : List ℕ) (old new all : TargetsValue) → drop i parts ≡ part ∷ drop (i + 1) parts → first ≡ take part.size rest → later ≡ drop part.size rest →
    new ≡ with_change (with_part_bytes part first) part.register.process old → with_parts (drop i parts) rest old ≡ all → with_parts (drop (i + 1) parts) later new ≡ all
put_step parts i part rest first later old new all split front back put before =
    ap (λ (xs : List ℕ). with_parts (drop (i + 1) parts) xs new) back
    ∙ ap (λ (t : TargetsValue). with_parts (drop (i + 1) parts) (drop part.size rest) t) (put ∙ ap (λ (xs : List ℕ). with_change (with_part_bytes part xs) part.register.process old) front)
    ∙ sym (ap (λ (ps : List Part). with_parts ps rest old) split)
    ∙ before

pub size_step : (parts : List Part) (i : ℕ) (part : Part) (rest later : List ℕ) → drop i parts ≡ part ∷ drop (i + 1) parts → later ≡ drop part.size rest → sizes (drop i parts) ≡ length rest → sizes (drop (i + 1) parts) ≡ length later
size_step parts i part rest later split back before =
    let all : sizes (drop i parts) ≡ part.size + sizes (drop (i + 1) parts) = ap sizes split ∙ sum_by-cons (λ (p : Part). p.size) part (drop (i + 1) parts) in
    omega (arith, ap length back, length-drop part.size rest)

-- the bytes of one part more
pub bytes_step : (rows : List (ℕ × ProcessValue)) (parts : List Part) (i : ℕ) (part : Part) (old new all : List ℕ) → drop i parts ≡ part ∷ drop (i + 1) parts → new ≡ old ++ bytes_in part (thread_with rows part.register) →
    old ++ bytes_of rows (drop i parts) ≡ all → new ++ bytes_of rows (drop (i + 1) parts) ≡ all
bytes_step rows parts i part old new all split added before =
    ap (λ (xs : List ℕ). xs ++ bytes_of rows (drop (i + 1) parts)) added
    ∙ append_assoc old (bytes_in part (thread_with rows part.register)) (bytes_of rows (drop (i + 1) parts))
    ∙ sym (ap (λ (ps : List Part). old ++ bytes_of rows ps) split)
    ∙ before

-- one part that is of a pc that is off is enough
pub names_found : (rows : List (ℕ × ProcessValue)) (parts : List Part) (i : ℕ) (part : Part) → drop i parts ≡ part ∷ drop (i + 1) parts → nat_eq part.register.index 32 ≡ true → true ≡ is_off (thread_with rows part.register) → names_off rows (drop i parts) ≡ true
names_found rows parts i part split pc off = ap (λ (ps : List Part). names_off rows ps) split ∙ grind arith

-- ---- a change of one process

pub live_at : (number : ℕ) (rows : List (ℕ × ProcessValue)) (process : ProcessValue) (place : ℕ) → place_of number rows ≡ Some place → (row : Option (ℕ × ProcessValue)) → slice_get rows place ≡ row → option_map (λ (r : ℕ × ProcessValue). r.1) row ≡ Some process → IsLive number rows
live_at number rows process place found None read there = cc
live_at number rows process place found (Some row) read there =
    let facts = position-Some (λ (r : ℕ × ProcessValue). nat_eq r.0 number) rows place row found in
    let same : get_or rows place row ≡ row = get_or_from_slice_get rows place row row read in
    (place, row, facts.0, same, ap (λ (r : ℕ × ProcessValue). r.0) (sym same) ∙ eqb-true (get_or rows place row).0 number facts.1)

pub live_by : (number : ℕ) (rows : List (ℕ × ProcessValue)) (process : ProcessValue) (place : Option ℕ) → place_of number rows ≡ place → process_at rows place ≡ Some process → IsLive number rows
live_by number rows process None found there = cc
live_by number rows process (Some place) found there =
    live_at number rows process place found (slice_get rows place) refl there

-- where a process is found, its number is a live one
pub live_found : (number : ℕ) (rows : List (ℕ × ProcessValue)) (process : ProcessValue) → process_of number rows ≡ Some process → IsLive number rows
live_found number rows process there = live_by number rows process (place_of number rows) refl there

pub changed_by : (change : ProcessValue → ProcessValue) (n number : ℕ) (targets : TargetsValue) (found : Option ProcessValue) → process_of n targets.processes ≡ found → (same : Bool) → nat_eq n number ≡ same →
    process_of number (with_change_at change n found targets).processes ≡ cond same (option_map change (process_of number targets.processes)) (process_of number targets.processes)
changed_by change n number targets None there true e =
    let missing : process_of number targets.processes ≡ None = ap (λ (m : ℕ). process_of m targets.processes) (sym (eqb-true n number e)) ∙ there in
    missing ∙ sym (ap (option_map change) missing)
changed_by change n number targets None there false e = refl
changed_by change n number targets (Some process) there true e =
    let same : n ≡ number = eqb-true n number e in
    let rows : List (ℕ × ProcessValue) = with_process n (change process) targets.processes in
    ap (λ (m : ℕ). process_of m rows) (sym same)
    ∙ (changes_one targets.processes n (change process) (live_found n targets.processes process there)).0
    ∙ sym (ap (option_map change) (ap (λ (m : ℕ). process_of m targets.processes) (sym same) ∙ there))
changed_by change n number targets (Some process) there false e =
    (changes_one targets.processes n (change process) (live_found n targets.processes process there)).1 number (λ same. eqb-false n number e (sym same))

-- a change of one process changes that one
pub changed_process : (change : ProcessValue → ProcessValue) (n number : ℕ) (targets : TargetsValue) →
    process_of number (with_change change n targets).processes ≡ cond (nat_eq n number) (option_map change (process_of number targets.processes)) (process_of number targets.processes)
changed_process change n number targets = changed_by change n number targets (process_of n targets.processes) refl (nat_eq n number) refl

-- ---- a change of one thread of a process

changed_in : (change : Thread → Thread) (m n : ℕ) (process : ProcessValue) (same : Bool) → nat_eq m n ≡ same →
    thread_at n (in_thread change m process) ≡ cond same (option_map change (thread_at n process)) (thread_at n process)
changed_in change m n process true e =
    let is : m ≡ n = eqb-true m n e in
    ap (λ (k : ℕ). thread_at k (in_thread change m process)) (sym is) ∙ (changes_one_thread change m process).0
    ∙ ap (λ (k : ℕ). option_map change (thread_at k process)) is
changed_in change m n process false e = (changes_one_thread change m process).1.others n (λ is. eqb-false m n e (sym is))

none_else : (here : Bool) (change : Thread → Thread) (found : Option Thread) → found ≡ None → None ≡ cond here (option_map change found) found
none_else true change found is = rw is refl
none_else false change found is = sym is

-- the thread of a process that is changed, where it is this one
in_changed : (change : Thread → Thread) (m n : ℕ) (here : Bool) (found : Option ProcessValue) →
    option_and_then (thread_at n) (cond here (option_map (in_thread change m) found) found)
    ≡ cond (here && nat_eq m n) (option_map change (option_and_then (thread_at n) found)) (option_and_then (thread_at n) found)
in_changed change m n false found = refl
in_changed change m n true None = none_else (nat_eq m n) change None refl
in_changed change m n true (Some process) = changed_in change m n process (nat_eq m n) refl

-- a change of one thread changes that one
pub changed_thread : (change : Thread → Thread) (p m number n : ℕ) (targets : TargetsValue) →
    thread_of number n (with_change (in_thread change m) p targets).processes
    ≡ cond (nat_eq p number && nat_eq m n) (option_map change (thread_of number n targets.processes)) (thread_of number n targets.processes)
changed_thread change p m number n targets =
    ap (option_and_then (thread_at n)) (changed_process (in_thread change m) p number targets)
    ∙ in_changed change m n (nat_eq p number) (process_of number targets.processes)

abbrev after : ℕ → ℕ → List Part → List ℕ → Thread → Thread
after number n parts bytes thread = record thread { cpu = cpu_after number n parts bytes thread.cpu }

unchanged : (number n : ℕ) (bytes : List ℕ) (found : Option Thread) → found ≡ option_map (λ thread. after number n [] bytes thread) found
unchanged number n bytes None = refl
unchanged number n bytes (Some thread) = refl

-- the part is first put over, or passed over, and then the others
one_more : (number n : ℕ) (part : Part) (parts : List Part) (bytes : List ℕ) (same : Bool) → is_part_of number n part ≡ same → (found : Option Thread) →
    option_map (λ thread. after number n parts (drop part.size bytes) thread) (cond same (option_map (with_bytes part (take part.size bytes)) found) found) ≡ option_map (λ thread. after number n (part ∷ parts) bytes thread) found
one_more number n part parts bytes true e None = refl
one_more number n part parts bytes false e None = refl
one_more number n part parts bytes true e (Some thread) = ap (λ (b : Bool). Some (record thread { cpu = cpu_after number n parts (drop part.size bytes) (cond b (with_register_bytes part (take part.size bytes) thread.cpu) thread.cpu) })) (sym e)
one_more number n part parts bytes false e (Some thread) = ap (λ (b : Bool). Some (record thread { cpu = cpu_after number n parts (drop part.size bytes) (cond b (with_register_bytes part (take part.size bytes) thread.cpu) thread.cpu) })) (sym e)

-- what is left in one thread is what its own parts leave there
pub thread_after : (number n : ℕ) (parts : List Part) (bytes : List ℕ) (targets : TargetsValue) →
    thread_of number n (with_parts parts bytes targets).processes ≡ option_map (λ thread. after number n parts bytes thread) (thread_of number n targets.processes)
thread_after number n [] bytes targets = unchanged number n bytes (thread_of number n targets.processes)
thread_after number n (part ∷ parts) bytes targets =
    let change : Thread → Thread = with_bytes part (take part.size bytes) in
    let p : ℕ = part.register.process in
    let m : ℕ = part.register.thread in
    thread_after number n parts (drop part.size bytes) (with_change (in_thread change m) p targets)
    ∙ ap (λ (found : Option Thread). option_map (λ thread. after number n parts (drop part.size bytes) thread) found) (changed_thread change p m number n targets)
    ∙ one_more number n part parts bytes (is_part_of number n part) refl (thread_of number n targets.processes)

-- whether a pc is off after the parts, where the thread is there and where it isn't
pub off_there : (register : RegisterId) (parts : List Part) (bytes : List ℕ) (targets : TargetsValue) (thread : Thread) (cpu : Cpu) → Some thread ≡ thread_with targets.processes register → cpu ≡ cpu_after register.process register.thread parts bytes thread.cpu →
    not (nat_eq (cpu.pc % 4) 0) ≡ is_off (thread_with (with_parts parts bytes targets).processes register)
off_there register parts bytes targets thread cpu there same =
    ap (λ (c : Cpu). not (nat_eq (c.pc % 4) 0)) same
    ∙ ap (λ (found : Option Thread). is_off (option_map (λ t. after register.process register.thread parts bytes t) found)) there
    ∙ sym (ap is_off (thread_after register.process register.thread parts bytes targets))

pub off_missing : (register : RegisterId) (parts : List Part) (bytes : List ℕ) (targets : TargetsValue) → None ≡ thread_with targets.processes register → false ≡ is_off (thread_with (with_parts parts bytes targets).processes register)
off_missing register parts bytes targets missing =
    ap (λ (found : Option Thread). is_off (option_map (λ t. after register.process register.thread parts bytes t) found)) missing
    ∙ sym (ap is_off (thread_after register.process register.thread parts bytes targets))
