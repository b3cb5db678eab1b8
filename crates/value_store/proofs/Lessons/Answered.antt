-- What is answered from what is known tells what is known, and is an answer to its command within the limits.
use Rattle.std.proofs.Common.{◌≡◌, ℕ, zero, suc, ℤ, pos, ◌+◌, ◌<◌, ◌&&◌, Bool, true, false, cond, List, [], ◌∷◌, length, slice_get, Option, Some, None, refl, sym, ap, ◌∙◌, subst, arith}
use Rattle.std.specs.Int.{w32, to_le_bytes}
use Rattle.std.specs.List.{AllByRecursion}
use Rattle.std.specs.Prelude.{option_and_then, unsigned_abs, nat_le}
use Rattle.base64.specs.GeneralPurpose.{IsBytes}
use Rattle.block_store.specs.Store.{covered}
use Rattle.block_store.specs.declared.block.Block.{Block}
use Rattle.command_tables.specs.Canonical.{AreBytes}
use Rattle.knowledge.specs.Changes.{bytes_read}
use Rattle.knowledge.specs.Facts.{Facts, is_suspended}
use Rattle.knowledge.specs.Laws.{AreKnown}
use Rattle.knowledge.specs.Reply.{answer_known, are_parts_known, context_state_reply, is_readable, memory_reply, parts_bytes, process_asked, range_asked, range_of, register_known, suspended_reply, thread_reply, word_reply}
use Rattle.knowledge.specs.Rows.{answer_changes, are_of_range, memory_read, process_for, state_of_thread}
use Rattle.knowledge.specs.declared.state.StateFact.{StateFact}
use Rattle.knowledge.specs.declared.state.StateFact.TheVariants as state
use Rattle.reply_tables.specs.Limits.{IsAnswerTo}
use Rattle.reply_tables.specs.Written.{IsTyped}
use Rattle.knowledge.proofs.TheLaws.{read_is_known}
use Rattle.reply_tables.proofs.TheLaws.{bytes_read_back}
use Rattle.value_store.proofs.Lessons.Each.{bound, mapped, passed}
use Rattle.value_store.proofs.Lessons.Learned.{IsSoundOf}
use Rattle.value_store.proofs.Lessons.Registers.{parts_tell, parts_typed, whole_tells, word_bytes}
use Rattle.value_store.proofs.Lessons.Told.{Tells}
use Rattle.tcf_values.specs.Ids.{context_of}
use Rattle.tcf_values.specs.declared.answer.Answer.{Answer}
use Rattle.tcf_values.specs.declared.command.Command.{Command}
use Rattle.tcf_values.specs.declared.command.Command.TheVariants as command
use Rattle.tcf_values.specs.declared.ids.ContextId.{ContextId}
use Rattle.tcf_values.specs.declared.ids.ContextId.TheVariants.{Process, Thread}
use Rattle.tcf_values.specs.declared.values.RunState.TheVariants as run
use Rattle.list_laws.proofs.AllLists.{all_if}

pub record IsGood (known : Facts) (asked : Command) (answer : Answer) : Type 0 where
  pub fits : IsAnswerTo asked answer
  pub typed : IsTyped answer
  pub tells : AllByRecursion (Tells known) (answer_changes asked answer)

each_below : (bytes : List ℕ) → AreBytes bytes → IsBytes bytes
each_below [] are i = omega arith
each_below (b ∷ bs) are zero = are.0
each_below (b ∷ bs) are (suc i) = each_below bs are.1 i

-- ---- whether a thread runs

suspended_good : (known : Facts) (id reason : List ℕ) (hits : List (List ℕ)) (process thread : ℕ) (pc : Option ℕ) (answer : Answer) → IsSoundOf known
    → context_of id ≡ Some (Thread process thread) → known.states process thread ≡ Some (state.Suspended reason hits) → known.registers process thread 32 ≡ pc
    → suspended_reply reason hits pc ≡ Some answer → IsGood known (command.GetState id) answer
suspended_good known id reason hits process thread pc answer sound named there counter is =
    let found = mapped (λ value. Answer.State (run.Suspended value reason hits)) pc answer is in
    let at : known.registers process thread 32 ≡ Some found.0 = counter ∙ found.1 in
    subst (IsGood known (command.GetState id)) found.2 (record {
      fits = tt;
      typed = sound.registers process thread 32 found.0 at;
      tells = subst (λ (o : Option ContextId). AllByRecursion (Tells known) (state_of_thread o (run.Suspended found.0 reason hits))) (sym named) (there, (at, tt));
    })

thread_good : (known : Facts) (id : List ℕ) (process thread : ℕ) (fact : Option StateFact) (answer : Answer) → IsSoundOf known
    → context_of id ≡ Some (Thread process thread) → known.states process thread ≡ fact → thread_reply fact (known.registers process thread 32) ≡ Some answer
    → IsGood known (command.GetState id) answer
thread_good known id process thread None answer sound named there is = cc
thread_good known id process thread (Some state.Running) answer sound named there is =
    let same : Answer.State run.Running ≡ answer = cc in
    subst (IsGood known (command.GetState id)) same (record {
      fits = tt;
      typed = tt;
      tells = subst (λ (o : Option ContextId). AllByRecursion (Tells known) (state_of_thread o run.Running)) (sym named) (there, tt);
    })
thread_good known id process thread (Some (state.Suspended reason hits)) answer sound named there is =
    suspended_good known id reason hits process thread (known.registers process thread 32) answer sound named there refl is

state_good : (known : Facts) (id : List ℕ) (context : Option ContextId) (answer : Answer) → IsSoundOf known → context_of id ≡ context
    → context_state_reply known context ≡ Some answer → IsGood known (command.GetState id) answer
state_good known id None answer sound named is = cc
state_good known id (Some (Process process)) answer sound named is = cc
state_good known id (Some (Thread process thread)) answer sound named is =
    thread_good known id process thread (known.states process thread) answer sound named refl is

-- ---- memory

same_process : (known : Facts) (context : ContextId) (process : ℕ) → process_asked known context ≡ Some process → process ≡ process_for context
same_process known (Process number) process is = cc
same_process known (Thread number thread) process is =
    let found = passed (is_suspended (known.states number thread)) (Some number) process is in
    one_number process number (sym found.1)
  where
    one_number : (one other : ℕ) → ◌≡◌ {A = Option ℕ} (Some one) (Some other) → one ≡ other
    one_number one other is = cc

-- each byte of a range that is covered is known
bytes_below : (bytes : List ℕ) → ((k byte : ℕ) → slice_get bytes k ≡ Some byte → byte < 256) → AreBytes bytes
bytes_below [] each = tt
bytes_below (byte ∷ bytes) each = (each 0 byte refl, bytes_below bytes (λ k. each (suc k)))

covered_good : (known : Facts) (blocks : List Block) (id : List ℕ) (addr word size mode : ℤ) (context : ContextId) (bytes : List ℕ) → IsSoundOf known
    → AreKnown blocks known → context_of id ≡ Some context → covered (process_for context) (unsigned_abs addr) (unsigned_abs size) blocks ≡ Some bytes
    → IsGood known (command.MemGet id addr word size mode) (Answer.Blob bytes)
covered_good known blocks id addr word size mode context bytes sound kept named is =
    let process = process_for context in
    let first = unsigned_abs addr in
    let each : (k byte : ℕ) → slice_get bytes k ≡ Some byte → known.bytes process (first + k) byte ≡ true =
    λ k byte there. kept process (first + k) byte (read_is_known process first (unsigned_abs size) blocks bytes k byte is there) in
    record {
      fits = refl;
      typed = bytes_read_back bytes (each_below bytes (bytes_below bytes (λ k byte there. sound.bytes process (first + k) byte (each k byte there))));
      tells = subst (λ (o : Option ContextId). AllByRecursion (Tells known) (memory_read o addr size bytes)) (sym named)
          (all_if (Tells known) (are_of_range addr size bytes) (bytes_read process first bytes ∷ []) (λ can. (each, tt)));
    }

-- the type of what may be found
abbrev type_of : {A : Type 0} → Option A → Type 0
type_of {A = A} found = A

-- a range that is asked for
abbrev Asked : Type 0
Asked = type_of (range_of (pos 0) (pos 0) 0)

-- it is one of the context's process
record IsAsked (address count : ℤ) (number : ℕ) (asked : Asked) : Type 0 where
  process : asked.process ≡ number
  addr : asked.addr ≡ unsigned_abs address
  size : asked.size ≡ unsigned_abs count

range_is : (addr size : ℤ) (process : ℕ) (asked : Asked) → range_of addr size process ≡ Some asked → IsAsked addr size process asked
range_is addr size process asked is =
    let there : Asked = record { process = process; addr = unsigned_abs addr; size = unsigned_abs size } in
    let found = passed (is_readable addr size) (Some there) asked is in
    subst (IsAsked addr size process) (one_range there asked found.1) (record { process = refl; addr = refl; size = refl })
  where
    one_range : (one other : Asked) → ◌≡◌ {A = Option Asked} (Some one) (Some other) → one ≡ other
    one_range one other is = cc

memory_good : (known : Facts) (blocks : List Block) (id : List ℕ) (addr word size mode : ℤ) (range : Option Asked) (answer : Answer) → IsSoundOf known
    → AreKnown blocks known → range_asked id addr size known ≡ range → memory_reply range blocks ≡ Some answer → IsGood known (command.MemGet id addr word size mode) answer
memory_good known blocks id addr word size mode None answer sound kept ranged is = cc
memory_good known blocks id addr word size mode (Some asked) answer sound kept ranged is =
    let named = bound (range_of addr size) (option_and_then (process_asked known) (context_of id)) asked ranged in
    let context = bound (process_asked known) (context_of id) named.0 named.1 in
    let range = range_is addr size named.0 asked named.2 in
    let found = mapped Answer.Blob (covered asked.process asked.addr asked.size blocks) answer is in
    let process : asked.process ≡ process_for context.0 = range.process ∙ same_process known context.0 named.0 context.2 in
    let there : covered (process_for context.0) (unsigned_abs addr) (unsigned_abs size) blocks ≡ Some found.0 =
    sym (ap (λ n. covered n asked.addr asked.size blocks) process
    ∙ ap (λ n. covered (process_for context.0) n asked.size blocks) range.addr
    ∙ ap (λ n. covered (process_for context.0) (unsigned_abs addr) n blocks) range.size) ∙ found.1 in
    subst (IsGood known (command.MemGet id addr word size mode)) found.2
    (covered_good known blocks id addr word size mode context.0 found.0 sound kept context.1 there)

-- ---- each command

either_answer : (flag : Bool) (one found : Answer) → cond flag (Some one) None ≡ Some found → (flag ≡ true) × (one ≡ found)
either_answer true one found is = (refl, cc)
either_answer false one found is = cc

pub answer_good : (asked : Command) (known : Facts) (blocks : List Block) (answer : Answer) → IsSoundOf known → AreKnown blocks known
    → answer_known asked known blocks ≡ Some answer → IsGood known asked answer
answer_good (command.GetContext id) known blocks answer sound kept is =
    let found = mapped Answer.Context (known.contexts id) answer is in
    subst (IsGood known (command.GetContext id)) found.2 (record { fits = (refl, sound.contexts id found.0 found.1); typed = tt; tells = (found.1, tt) })
answer_good (command.GetState id) known blocks answer sound kept is = state_good known id (context_of id) answer sound refl is
answer_good (command.BpProperties id) known blocks answer sound kept is =
    let found = mapped Answer.Bp (known.properties id) answer is in
    subst (IsGood known (command.BpProperties id)) found.2 (record { fits = (refl, sound.properties id found.0 found.1); typed = tt; tells = (found.1, tt) })
answer_good (command.BpGetStatus id) known blocks answer sound kept is =
    let found = mapped Answer.Status (known.statuses id) answer is in
    subst (IsGood known (command.BpGetStatus id)) found.2 (record { fits = (refl, sound.statuses id found.0 found.1); typed = tt; tells = (found.1, tt) })
answer_good (command.RegGet id) known blocks answer sound kept is =
    let found = mapped word_reply (register_known id known) answer is in
    subst (IsGood known (command.RegGet id)) found.2 (record {
      fits = refl;
      typed = bytes_read_back (to_le_bytes w32 found.0) (each_below (to_le_bytes w32 found.0) (word_bytes found.0));
      tells = whole_tells known id found.0 (to_le_bytes w32 found.0) sound found.1 (λ four. refl);
    })
answer_good (command.RegGetm list) known blocks answer sound kept is =
    let found = either_answer (nat_le 1 (length list) && nat_le (length list) 256 && are_parts_known known list) (Answer.Blob (parts_bytes known list)) answer is in
    subst (IsGood known (command.RegGetm list)) found.1 (record {
      fits = refl;
      typed = bytes_read_back (parts_bytes known list) (each_below (parts_bytes known list) (parts_typed known list));
      tells = parts_tell known list sound (all_known (nat_le 1 (length list) && nat_le (length list) 256) (are_parts_known known list) found.0);
    })
  where
    all_known : (some all : Bool) → (some && all) ≡ true → all ≡ true
    all_known true all is = is
    all_known false all is = cc
answer_good (command.MemGet id addr word size mode) known blocks answer sound kept is =
    memory_good known blocks id addr word size mode (range_asked id addr size known) answer sound kept refl is
answer_good _ known blocks answer sound kept is = cc
