-- Bytes of memory: what is answered of them is what the target answers.
use Rattle.std.proofs.Common.{◌≡◌, ℕ, zero, suc, ℤ, ◌+◌, ◌<◌, ◌≤◌, ◌==◌, Bool, true, false, not, cond, List, [], ◌∷◌, length, take, drop, find, slice_get, Option, Some, None, is_none, is_some, option_map, option_and_then, refl, sym, ◌∙◌, ap, arith, pos, negsuc}
use Rattle.std.proofs.lemmas.Bool.{and_parts, cond-true, false≢true, le-ltb, not-true, or_from, or_parts}
use Rattle.std.proofs.lemmas.Option.{none-some, same_Some}
use Rattle.std.specs.Prelude.{int_lt, unsigned_abs}
use Rattle.block_store.specs.Blocks.{has_range, part}
use Rattle.block_store.specs.Store.{covered}
use Rattle.block_store.specs.declared.block.Block.{Block}
use Rattle.data_services.specs.Bytes.{part_of}
use Rattle.data_services.specs.MemoryRows.{is_no_size, is_outside, memory_bytes}
use Rattle.knowledge.specs.Facts.{Facts, byte_is, is_suspended, state_is}
use Rattle.knowledge.specs.Laws.{AreKnown}
use Rattle.knowledge.specs.Reply.{is_readable, memory_reply, process_asked, range_asked, range_of}
use Rattle.knowledge.specs.Rows as learned
use Rattle.knowledge.specs.declared.state.StateFact.{StateFact}
use Rattle.knowledge.proofs.TheLaws.{read_is_known}
use Rattle.target_truth.proofs.Stored.Found.{mapped, passed}
use Rattle.target_contexts.specs.Named.{holder_for}
use Rattle.target_contexts.specs.ProcessValue.{ProcessValue}
use Rattle.target_contexts.specs.Threads.{has_thread, holding, thread_at}
use Rattle.target_hub.specs.Execution.{exec_effect}
use Rattle.run_control.specs.TargetValue.{TargetValue}
use Rattle.target_truth.specs.Holds.{Holds, byte_in, process_in, state_fact, thread_in}
use Rattle.target_truth.proofs.KeptBytes.{get_drop, inside}
use Rattle.tcf_values.specs.Effects.{effect_by, gives}
use Rattle.tcf_values.specs.Faults.{first_fault}
use Rattle.tcf_values.specs.Ids.{context_of}
use Rattle.tcf_values.specs.declared.answer.Answer.{Answer}
use Rattle.tcf_values.specs.declared.answer.Answer.TheVariants as answers
use Rattle.tcf_values.specs.declared.command.Command.TheVariants as commands
use Rattle.tcf_values.specs.declared.faults.Fault.TheVariants as faults
use Rattle.tcf_values.specs.declared.ids.ContextId.{ContextId}
use Rattle.tcf_values.specs.declared.ids.ContextId.TheVariants as ids
use Rattle.list_laws.proofs.Numbers.{above_zero}
use Rattle.knowledge.proofs.Inside.{part_length}

-- ---- a range that is covered has its bytes

length_by : (process addr size : ℕ) (bytes : List ℕ) (block : Block) (blocks : List Block) (has : Bool) → has_range process addr size block ≡ has
    → (covered process addr size blocks ≡ Some bytes → length bytes ≡ size)
    → option_map (part addr size) (cond has (Some block) (find (has_range process addr size) blocks)) ≡ Some bytes → length bytes ≡ size
length_by process addr size bytes block blocks true has rest is = sym (ap length (same_Some _ _ is)) ∙ part_length process addr size block has
length_by process addr size bytes block blocks false has rest is = rest is

covered_length : (process addr size : ℕ) (blocks : List Block) (bytes : List ℕ) → covered process addr size blocks ≡ Some bytes → length bytes ≡ size
covered_length process addr size [] bytes is = absurd (none-some bytes is)
covered_length process addr size (block ∷ blocks) bytes is =
    length_by process addr size bytes block blocks (has_range process addr size block) refl (covered_length process addr size blocks bytes) is

-- ---- bytes that are so of a process are those of its memory

front : (bytes memory : List ℕ) → ((k byte : ℕ) → slice_get bytes k ≡ Some byte → slice_get memory k ≡ Some byte) → take (length bytes) memory ≡ bytes
front [] memory same = refl
front (byte ∷ bytes) [] same = absurd (none-some byte (same zero byte refl))
front (byte ∷ bytes) (first ∷ memory) same =
    ap (λ (b : ℕ). b ∷ take (length bytes) memory) (same_Some first byte (same zero byte refl))
    ∙ ap (λ (bs : List ℕ). byte ∷ bs) (front bytes memory (λ k b is. same (suc k) b is))

held : (found : Option ProcessValue) (addr : ℕ) (bytes : List ℕ) → 0 < length bytes
    → ((k byte : ℕ) → slice_get bytes k ≡ Some byte → option_and_then (byte_in (addr + k)) found ≡ Some byte)
    → (process : ProcessValue) × (found ≡ Some process) × (part_of addr (length bytes) process.memory ≡ bytes)
held None addr [] some so = absurd (omega arith)
held None addr (byte ∷ bytes) some so = absurd (none-some byte (so zero byte refl))
held (Some process) addr bytes some so =
    (process, refl, front bytes (drop addr process.memory) (λ k byte is. get_drop addr k process.memory ∙ so k byte is))

-- ---- the process of a thread that is asked has it

found_some : {A B : Type 0} (f : A → B) (found : Option A) (x : B) → option_map f found ≡ Some x → is_some found ≡ true
found_some f None x is = absurd (none-some x is)
found_some f (Some y) x is = refl

state_there : (target : TargetValue) (known : Facts) (number n : ℕ) → Holds known target → (fact : Option StateFact) → known.states number n ≡ fact
    → is_suspended fact ≡ true → is_some (thread_in number n target) ≡ true
state_there target known number n holds None knows is = absurd (false≢true is)
state_there target known number n holds (Some state) knows is =
    found_some (λ t. state_fact t.state) (thread_in number n target) state (holds.facts (state_is number n state) knows)

holding_it : (n : ℕ) (found : Option ProcessValue) → is_some (option_and_then (thread_at n) found) ≡ true → holding n found ≡ found
holding_it n None has = refl
holding_it n (Some process) has = cond-true (has_thread n process) (Some process) None has

-- ---- a range that can be read passes the checks

small : (addr size : ℤ) → int_lt size (pos 0) ≡ false → unsigned_abs addr + unsigned_abs size ≤ 65536 → int_lt (pos 65536) size ≡ false
small addr (pos n) is fits = le-ltb 65536 n (omega (arith, fits))
small addr (negsuc n) is fits = cc

record IsRange (addr size : ℤ) : Type 0 where
  sized : is_no_size size ≡ false
  placed : is_outside addr size ≡ false
  some : 0 < unsigned_abs size

readable : (addr size : ℤ) → is_readable addr size ≡ true → IsRange addr size
readable addr size is =
    let parts = and_parts (not (learned.is_outside addr size)) (not (unsigned_abs size == 0)) is in
    let lies = not-true (learned.is_outside addr size) parts.0 in
    let ends = or_parts _ _ lies in
    let begins = or_parts _ _ ends.0 in
    record {
      sized = or_from _ _ begins.1 (small addr size begins.1 (inside addr size lies));
      placed = or_from _ _ begins.0 ends.1;
      some = above_zero (unsigned_abs size) (not-true (unsigned_abs size == 0) parts.1);
    }

-- ---- get

abbrev given : ℤ → ℤ → Option ProcessValue → Answer
given addr size found =
    (effect_by (first_fault ((is_none found, faults.BadContext) ∷ (is_no_size size, faults.BadSize) ∷ (is_outside addr size, faults.BadAddress) ∷ []))
    (gives (answers.Blob (memory_bytes addr size found)))).answer

given_held : (addr size : ℤ) (bytes : List ℕ) (found : Option ProcessValue) (process : ProcessValue) → IsRange addr size → found ≡ Some process
    → part_of (unsigned_abs addr) (unsigned_abs size) process.memory ≡ bytes → given addr size found ≡ answers.Blob bytes
given_held addr size bytes found process range there same =
    ap (given addr size) there
    ∙ ap (λ f. (effect_by f (gives (answers.Blob (part_of (unsigned_abs addr) (unsigned_abs size) process.memory)))).answer)
    (passed (is_no_size size) faults.BadSize _ range.sized (passed (is_outside addr size) faults.BadAddress None range.placed refl))
    ∙ ap answers.Blob same

covered_alike : (target : TargetValue) (known : Facts) (blocks : List Block) (number : ℕ) (addr size : ℤ) (bytes : List ℕ) → Holds known target → AreKnown blocks known
    → IsRange addr size → covered number (unsigned_abs addr) (unsigned_abs size) blocks ≡ Some bytes → given addr size (process_in number target) ≡ answers.Blob bytes
covered_alike target known blocks number addr size bytes holds are range is =
    let first = unsigned_abs addr in
    let count = unsigned_abs size in
    let long : length bytes ≡ count = covered_length number first count blocks bytes is in
    let found = held (process_in number target) first bytes (omega (arith, long, range.some))
    (λ k byte there. holds.facts (byte_is number (first + k) byte) (are number (first + k) byte (read_is_known number first count blocks bytes k byte is there))) in
    given_held addr size bytes (process_in number target) found.0 range found.1 (ap (λ n. part_of first n found.0.memory) (sym long) ∙ found.2)

range_alike : (target : TargetValue) (known : Facts) (blocks : List Block) (number : ℕ) (addr size : ℤ) (answer : Answer) → Holds known target → AreKnown blocks known
    → (can : Bool) → is_readable addr size ≡ can
    → memory_reply (cond can (Some (record { process = number; addr = unsigned_abs addr; size = unsigned_abs size })) None) blocks ≡ Some answer
    → answer ≡ given addr size (process_in number target)
range_alike target known blocks number addr size answer holds are false can is = absurd (none-some answer is)
range_alike target known blocks number addr size answer holds are true can is =
    let found = mapped answers.Blob (covered number (unsigned_abs addr) (unsigned_abs size) blocks) answer is in
    sym found.2 ∙ sym (covered_alike target known blocks number addr size found.0 holds are (readable addr size can) found.1)

thread_alike : (target : TargetValue) (known : Facts) (blocks : List Block) (number n : ℕ) (addr size : ℤ) (answer : Answer) → Holds known target → AreKnown blocks known
    → (stopped : Bool) → is_suspended (known.states number n) ≡ stopped → memory_reply (option_and_then (range_of addr size) (cond stopped (Some number) None)) blocks ≡ Some answer
    → answer ≡ given addr size (holding n (process_in number target))
thread_alike target known blocks number n addr size answer holds are false stopped is = absurd (none-some answer is)
thread_alike target known blocks number n addr size answer holds are true stopped is =
    range_alike target known blocks number addr size answer holds are (is_readable addr size) refl is
    ∙ ap (given addr size) (sym (holding_it n (process_in number target) (state_there target known number n holds (known.states number n) refl stopped)))

process_alike : (target : TargetValue) (known : Facts) (blocks : List Block) (context : Option ContextId) (addr size : ℤ) (answer : Answer) → Holds known target
    → AreKnown blocks known → memory_reply (option_and_then (range_of addr size) (option_and_then (process_asked known) context)) blocks ≡ Some answer
    → answer ≡ given addr size (option_and_then (λ c. holder_for c target.contexts.processes) context)
process_alike target known blocks None addr size answer holds are is = absurd (none-some answer is)
process_alike target known blocks (Some (ids.Process number)) addr size answer holds are is =
    range_alike target known blocks number addr size answer holds are (is_readable addr size) refl is
process_alike target known blocks (Some (ids.Thread number n)) addr size answer holds are is =
    thread_alike target known blocks number n addr size answer holds are (is_suspended (known.states number n)) refl is

pub memory_alike : (channel : ℕ) (id : List ℕ) (addr word size mode : ℤ) (target : TargetValue) (known : Facts) (blocks : List Block) (answer : Answer)
    → Holds known target → AreKnown blocks known → memory_reply (range_asked id addr size known) blocks ≡ Some answer
    → answer ≡ (exec_effect channel (commands.MemGet id addr word size mode) target).answer
unfolding exec_effect
memory_alike channel id addr word size mode target known blocks answer holds are is =
    process_alike target known blocks (context_of id) addr size answer holds are is
