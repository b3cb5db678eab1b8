-- Registers and parts of them: what is answered of them is what the target answers.
use Rattle.std.proofs.Common.{◌≡◌, ℕ, Bool, true, false, ◌&&◌, ◌||◌, cond, List, [], ◌∷◌, ◌++◌, length, Option, Some, None, is_none, is_some, option_map, option_and_then, refl, sym, ◌∙◌, ap}
use Rattle.std.proofs.lemmas.Bool.{and_parts, cond-true, false≢true, le-ltb, leb-true, not-true, or_parts}
use Rattle.std.proofs.lemmas.Option.{cond_some, none-some, same_Some}
use Rattle.std.specs.Int.{w32, to_le_bytes}
use Rattle.std.specs.List.{cons_option}
use Rattle.std.specs.Option.{option_or}
use Rattle.std.specs.Prelude.{pos, ◌+ℤ◌, int_lt, nat_le, unsigned_abs}
use Rattle.data_services.specs.Bytes.{part_of, word_bytes}
use Rattle.data_services.specs.Named.{holder_of, thread_with}
use Rattle.data_services.specs.Parts.{bytes_in, bytes_of, number_in, parts_named}
use Rattle.data_services.specs.RegisterRows.{location_fault, locations_fault, register_bytes, registers_get_fault}
use Rattle.knowledge.specs.Facts.{Facts, is_suspended, register_is, state_is}
use Rattle.knowledge.specs.Reply.{are_parts_known, bytes_or_none, part_bytes, part_known, parts_bytes, register_known, register_reply, registers_reply, word_reply}
use Rattle.knowledge.specs.Rows.{is_part}
use Rattle.knowledge.specs.declared.state.StateFact.{StateFact}
use Rattle.target_truth.proofs.Stored.Found.{mapped, passed}
use Rattle.target_contexts.specs.Named.{is_running, runs}
use Rattle.target_contexts.specs.declared.threads.Thread.{Thread}
use Rattle.target_contexts.specs.declared.process.ThreadState.{ThreadState}
use Rattle.target_contexts.specs.declared.process.ThreadState.TheVariants.{Running, Suspended}
use Rattle.target_hub.specs.Execution.{exec_effect}
use Rattle.run_control.specs.TargetValue.{TargetValue}
use Rattle.target_truth.specs.Holds.{Holds, state_fact, thread_in}
use Rattle.tcf_values.specs.Effects.{effect_by, gives}
use Rattle.tcf_values.specs.Faults.{first_fault}
use Rattle.tcf_values.specs.Ids.{register_of}
use Rattle.tcf_values.specs.declared.answer.Answer.{Answer}
use Rattle.tcf_values.specs.declared.answer.Answer.TheVariants as answers
use Rattle.tcf_values.specs.declared.command.Command.TheVariants as commands
use Rattle.tcf_values.specs.declared.faults.Fault.TheVariants as faults
use Rattle.tcf_values.specs.declared.ids.RegisterId.{RegisterId}
use Rattle.tcf_values.specs.declared.values.Location.{Location}

word_alike : (value : ℕ) → word_bytes value ≡ to_le_bytes w32 value
unfolding word_bytes
word_alike value = refl

-- ---- a register that is known: it is one of a thread of a live process, which is suspended

record IsKnown (target : TargetValue) (id : List ℕ) (value : ℕ) (register : RegisterId) (thread : Thread) : Type 0 where
  read : register_of id ≡ Some register
  there : thread_in register.process register.thread target ≡ Some thread
  holder : holder_of id target.contexts.processes ≡ Some thread
  stopped : runs thread.state ≡ false
  number : number_in register.index thread.cpu ≡ value

stopped_state : (state : ThreadState) (fact : StateFact) → is_suspended (Some fact) ≡ true → state_fact state ≡ fact → runs state ≡ false
stopped_state (Running left) fact is same = absurd (false≢true (ap (λ f. is_suspended (Some f)) same ∙ is))
stopped_state (Suspended reason hits) fact is same = refl

stopped_by : (fact : Option StateFact) (found : Option Thread) (thread : Thread) → is_suspended fact ≡ true → found ≡ Some thread
    → ((state : StateFact) → fact ≡ Some state → option_map (λ t. state_fact t.state) found ≡ Some state) → runs thread.state ≡ false
stopped_by None found thread is there so = absurd (false≢true is)
stopped_by (Some fact) found thread is there so =
    let told : Some (state_fact thread.state) ≡ Some fact = sym (ap (option_map (λ (t : Thread). state_fact t.state)) there) ∙ so fact refl in
    stopped_state thread.state fact is (same_Some _ _ told)

known_by : (target : TargetValue) (known : Facts) (id : List ℕ) (value : ℕ) → Holds known target → (named : Option RegisterId) → register_of id ≡ named
    → option_and_then (λ r. known.registers r.process r.thread r.index) named ≡ Some value → (register : RegisterId) × (thread : Thread) × IsKnown target id value register thread
known_by target known id value holds None read is = absurd (none-some value is)
known_by target known id value holds (Some register) read is =
    let so = holds.facts (register_is register.process register.thread register.index value) is in
    let found = mapped (λ (t : Thread). number_in register.index t.cpu) (thread_in register.process register.thread target) value so.1 in (
      register,
      found.0,
      record {
        read = read;
        there = found.1;
        holder = ap (option_and_then (thread_with target.contexts.processes)) read ∙ found.1;
        stopped = stopped_by (known.states register.process register.thread) (thread_in register.process register.thread target) found.0
            (holds.grounded register.process register.thread register.index value is) found.1
            (λ state knows. holds.facts (state_is register.process register.thread state) knows);
        number = found.2;
      },
    )

known_found : (target : TargetValue) (known : Facts) (id : List ℕ) (value : ℕ) → Holds known target → register_known id known ≡ Some value
    → (register : RegisterId) × (thread : Thread) × IsKnown target id value register thread
known_found target known id value holds is = known_by target known id value holds (register_of id) refl is

-- ---- get

abbrev given : Option RegisterId → Option Thread → Answer
given named holder =
    (effect_by (first_fault ((is_none holder, faults.BadContext) ∷ (is_running holder, faults.IsRunning) ∷ [])) (gives (answers.Blob (register_bytes named holder)))).answer

given_known : (target : TargetValue) (id : List ℕ) (value : ℕ) (register : RegisterId) (thread : Thread) → IsKnown target id value register thread
    → given (register_of id) (holder_of id target.contexts.processes) ≡ word_reply value
given_known target id value register thread is =
    ap (λ named. given named (holder_of id target.contexts.processes)) is.read
    ∙ ap (given (Some register)) is.holder
    ∙ ap (λ b. (effect_by (cond b (Some faults.IsRunning) None) (gives (answers.Blob (word_bytes (number_in register.index thread.cpu))))).answer) is.stopped
    ∙ ap (λ n. answers.Blob (word_bytes n)) is.number
    ∙ ap answers.Blob (word_alike value)

pub register_alike : (channel : ℕ) (id : List ℕ) (target : TargetValue) (known : Facts) (answer : Answer) → Holds known target → register_reply id known ≡ Some answer
    → answer ≡ (exec_effect channel (commands.RegGet id) target).answer
unfolding exec_effect
register_alike channel id target known answer holds is =
    let found = mapped word_reply (register_known id known) answer is in
    let there = known_found target known id found.0 holds found.1 in
    sym found.2 ∙ sym (given_known target id found.0 there.0 there.1 there.2)

-- ---- getm

-- a part that is known can be asked for, and is one of a register that is known
part_found : (location : Location) (can : Bool) (value : Option ℕ) → is_some (cond can (option_map (part_bytes location) value) None) ≡ true
    → (number : ℕ) × (can ≡ true) × (value ≡ Some number)
part_found location false value is = absurd (false≢true is)
part_found location true None is = absurd (false≢true is)
part_found location true (Some number) is = (number, refl, refl)

no_fault : (target : TargetValue) (location : Location) (value : ℕ) (register : RegisterId) (thread : Thread) → IsKnown target location.register value register thread
    → is_part location ≡ true → location_fault target.contexts.processes location ≡ None
no_fault target location value register thread is can =
    let low = int_lt location.offset (pos 0) in
    let none = int_lt location.size (pos 1) in
    let past = int_lt (pos 4) (location.offset +ℤ location.size) in
    let fits = or_parts (low || none) past (not-true (low || none || past) can) in
    let starts = or_parts low none fits.0 in
    passed _ faults.BadContext _ (ap is_none is.holder)
    (passed _ faults.IsRunning _ (ap is_running is.holder ∙ is.stopped)
    (passed low faults.BadSize _ starts.0 (passed none faults.BadSize _ starts.1 (passed past faults.BadSize None fits.1 refl))))

part_alike : (target : TargetValue) (known : Facts) (location : Location) (list : List Location) (value : ℕ) (register : RegisterId) (thread : Thread)
    → IsKnown target location.register value register thread → is_part location ≡ true → register_known location.register known ≡ Some value
    → bytes_of target.contexts.processes (parts_named (location ∷ list)) ≡ bytes_or_none (part_known known location) ++ bytes_of target.contexts.processes (parts_named list)
part_alike target known location list value register thread is can knows =
    let rows = target.contexts.processes in
    let offset = unsigned_abs location.offset in
    let size = unsigned_abs location.size in
    let others = bytes_of rows (parts_named list) in
    let told : part_known known location ≡ Some (part_bytes location value) =
    cond-true (is_part location) (option_map (part_bytes location) (register_known location.register known)) None can ∙ ap (option_map (part_bytes location)) knows in
    ap (λ (o : Option RegisterId). bytes_of rows (cons_option (option_map (λ (r : RegisterId). record { register = r; offset = offset; size = size }) o) (parts_named list))) is.read
    ∙ ap (λ (o : Option Thread). bytes_in (record { register = register; offset = offset; size = size }) o ++ others) is.there
    ∙ ap (λ (n : ℕ). part_of offset size (word_bytes n) ++ others) is.number
    ∙ ap (λ (word : List ℕ). part_of offset size word ++ others) (word_alike value)
    ∙ sym (ap (λ (o : Option (List ℕ)). bytes_or_none o ++ others) told)

record AreAlike (target : TargetValue) (known : Facts) (list : List Location) : Type 0 where
  fault : locations_fault target.contexts.processes list ≡ None
  bytes : bytes_of target.contexts.processes (parts_named list) ≡ parts_bytes known list

parts_alike : (target : TargetValue) (known : Facts) (list : List Location) → Holds known target → are_parts_known known list ≡ true → AreAlike target known list
parts_alike target known [] holds is = record { fault = refl; bytes = refl }
parts_alike target known (location ∷ list) holds is =
    let both = and_parts (is_some (part_known known location)) (are_parts_known known list) is in
    let part = part_found location (is_part location) (register_known location.register known) both.0 in
    let found = known_found target known location.register part.0 holds part.2 in
    let rest = parts_alike target known list holds both.1 in
    record {
      fault = ap (λ fault. option_or fault (locations_fault target.contexts.processes list)) (no_fault target location part.0 found.0 found.1 found.2 part.1) ∙ rest.fault;
      bytes = part_alike target known location list part.0 found.0 found.1 found.2 part.1 part.2
          ∙ ap (λ others. bytes_or_none (part_known known location) ++ others) rest.bytes;
    }

pub registers_alike : (channel : ℕ) (list : List Location) (target : TargetValue) (known : Facts) (answer : Answer) → Holds known target → registers_reply list known ≡ Some answer
    → answer ≡ (exec_effect channel (commands.RegGetm list) target).answer
unfolding exec_effect
registers_alike channel list target known answer holds is =
    let rows = target.contexts.processes in
    let told = cond_some (nat_le 1 (length list) && nat_le (length list) 256 && are_parts_known known list) (answers.Blob (parts_bytes known list)) answer is in
    let tests = and_parts _ _ told.0 in
    let few = and_parts _ _ tests.0 in
    let alike = parts_alike target known list holds tests.1 in
    let fault : registers_get_fault list rows ≡ None = passed _ _ _ (le-ltb 256 (length list) (leb-true (length list) 256 few.1)) alike.fault in
    sym told.1
    ∙ ap answers.Blob (sym alike.bytes)
    ∙ sym (ap (λ f. (effect_by f (gives (answers.Blob (bytes_of rows (parts_named list))))).answer) fault)
