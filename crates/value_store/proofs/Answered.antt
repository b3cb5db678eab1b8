-- What a store answers fits the row of its command.
use Rattle.std.proofs.Common.{◌≡◌, ℕ, ℤ, Bool, true, false, List, Option, Some, None, refl, sym, ap, ◌∙◌, subst}
use Rattle.std.specs.Prelude.{option_map, if◌then◌else◌, IfOk, OnOk, Result, Ok, Err}
use Rattle.block_store.specs.Store.{covered}
use Rattle.block_store.specs.declared.block.Block.{Block}
use Rattle.cache_learning.specs.Within.{AreWithin}
use Rattle.knowledge.specs.Facts.{Facts}
use Rattle.knowledge.specs.KnowledgeValue.{KnowledgeValue, facts_of}
use Rattle.knowledge.specs.Reply.{answer_known, memory_used, reply, context_state_reply, memory_reply, parts_bytes, range_asked, register_known, suspended_reply, thread_reply, word_reply}
use Rattle.knowledge.specs.declared.state.StateFact.{StateFact}
use Rattle.knowledge.specs.declared.state.StateFact.TheVariants as state
use Rattle.reply_tables.specs.Limits.{IsAnswerTo}
use Rattle.tcf_values.specs.Ids.{context_of}
use Rattle.tcf_values.specs.declared.answer.Answer.{Answer}
use Rattle.tcf_values.specs.declared.command.Command.{Command}
use Rattle.tcf_values.specs.declared.command.Command.TheVariants as command
use Rattle.tcf_values.specs.declared.ids.ContextId.{ContextId}
use Rattle.tcf_values.specs.declared.ids.ContextId.TheVariants.{Process, Thread}
use Rattle.tcf_values.specs.declared.values.RunState.TheVariants as run
use Rattle.value_store.specs.Learning.{data_of, stored_answer, used_for}
use Rattle.value_store.specs.Rows.{facts_in, rows_of}
use Rattle.value_store.specs.StoreValue.{StoreValue}
use Rattle.knowledge.proofs.TheLaws.{ranges_stay_same, replies_stay_same}
use Rattle.value_store.proofs.Cached.{cache_same}
use Rattle.value_store.proofs.Learned.{store_of}

module _ {A B : Type 0} (f : A → B) where
  mapped : (o : Option A) (b : B) → option_map f o ≡ Some b → (a : A) × (o ≡ Some a) × (f a ≡ b)
  mapped None b is = cc
  mapped (Some a) b is = (a, refl, cc)

either_answer : (flag : Bool) (one : Answer) (found : Answer) → (if flag then Some one else None) ≡ Some found → one ≡ found
either_answer true one found is = cc
either_answer false one found is = cc

suspended_state : (id reason : List ℕ) (hits : List (List ℕ)) (pc : Option ℕ) (answer : Answer) → suspended_reply reason hits pc ≡ Some answer → IsAnswerTo (command.GetState id) answer
suspended_state id reason hits None answer is = cc
suspended_state id reason hits (Some value) answer is =
    let same : Answer.State (run.Suspended value reason hits) ≡ answer = cc in subst (IsAnswerTo (command.GetState id)) same tt

thread_state : (id : List ℕ) (fact : Option StateFact) (pc : Option ℕ) (answer : Answer) → thread_reply fact pc ≡ Some answer → IsAnswerTo (command.GetState id) answer
thread_state id None pc answer is = cc
thread_state id (Some state.Running) pc answer is = let same : Answer.State run.Running ≡ answer = cc in subst (IsAnswerTo (command.GetState id)) same tt
thread_state id (Some (state.Suspended reason hits)) pc answer is = suspended_state id reason hits pc answer is

context_state : (id : List ℕ) (known : Facts) (context : Option ContextId) (answer : Answer) → context_state_reply known context ≡ Some answer → IsAnswerTo (command.GetState id) answer
context_state id known None answer is = cc
context_state id known (Some (Process process)) answer is = cc
context_state id known (Some (Thread process thread)) answer is = thread_state id (known.states process thread) (known.registers process thread 32) answer is

memory_blob : (id : List ℕ) (addr word size mode : ℤ) (known : Facts) (blocks : List Block) (answer : Answer) → memory_reply (range_asked id addr size known) blocks ≡ Some answer
    → IsAnswerTo (command.MemGet id addr word size mode) answer
memory_blob id addr word size mode known blocks answer is =
    elim (range_asked id addr size known) as (λ asked. memory_reply asked blocks ≡ Some answer → IsAnswerTo (command.MemGet id addr word size mode) answer) [
      | None ↦ λ none. absurd (no_answer answer none)
      | Some asked ↦ λ some.
          let found = mapped Answer.Blob (covered asked.process asked.addr asked.size blocks) answer some in subst (IsAnswerTo (command.MemGet id addr word size mode)) found.2 refl
    ] is
  where
    no_answer : (a : Answer) → ◌≡◌ {A = Option Answer} None (Some a) → ⊥
    no_answer a same = cc

pub answer_fits_row : (asked : Command) (known : Facts) (blocks : List Block) (answer : Answer) → AreWithin known → answer_known asked known blocks ≡ Some answer → IsAnswerTo asked answer
answer_fits_row (command.GetContext id) known blocks answer within is =
    let found = mapped Answer.Context (known.contexts id) answer is in subst (IsAnswerTo (command.GetContext id)) found.2 (refl, within.contexts id found.0 found.1)
answer_fits_row (command.GetState id) known blocks answer within is = context_state id known (context_of id) answer is
answer_fits_row (command.BpProperties id) known blocks answer within is =
    let found = mapped Answer.Bp (known.properties id) answer is in subst (IsAnswerTo (command.BpProperties id)) found.2 (refl, within.properties id found.0 found.1)
answer_fits_row (command.BpGetStatus id) known blocks answer within is =
    let found = mapped Answer.Status (known.statuses id) answer is in subst (IsAnswerTo (command.BpGetStatus id)) found.2 (refl, within.statuses id found.0 found.1)
answer_fits_row (command.RegGet id) known blocks answer within is =
    let found = mapped word_reply (register_known id known) answer is in subst (IsAnswerTo (command.RegGet id)) found.2 refl
answer_fits_row (command.RegGetm list) known blocks answer within is =
    subst (IsAnswerTo (command.RegGetm list)) (either_answer _ (Answer.Blob (parts_bytes known list)) answer is) refl
answer_fits_row (command.MemGet id addr word size mode) known blocks answer within is = memory_blob id addr word size mode known blocks answer is
answer_fits_row _ known blocks answer within is = cc

-- ---- a cache that was asked

-- only the order of its blocks is another
pub within_used : (asked : Command) (before now : KnowledgeValue) (found : Option Answer) → (found, now) ≡ reply asked before → AreWithin (facts_of before) → AreWithin (facts_of now)
within_used asked before now found is within =
    subst (λ (value : KnowledgeValue). AreWithin (facts_of value)) (sym (ap (λ p. p.1) is)) (record { contexts = within.contexts; properties = within.properties; statuses = within.statuses })

pub used_store : (asked : Command) (before now : KnowledgeValue) (found : Option Answer) (mark : Option ℕ) (s : StoreValue) → store_of before mark ≡ s → (found, now) ≡ reply asked before
    → store_of now mark ≡ used_for asked s
used_store asked before now found mark s same is =
    ap (λ (value : KnowledgeValue). store_of value mark) (ap (λ p. p.1) is)
    ∙ ap (λ range. record (store_of before mark) { blocks = memory_used range before.blocks }) (ranges_stay_same asked (facts_of before) (facts_in (rows_of before)) (cache_same before))
    ∙ ap (used_for asked) same

pub found_is : (asked : Command) (before now : KnowledgeValue) (found : Option Answer) (mark : Option ℕ) (s : StoreValue) → store_of before mark ≡ s → (found, now) ≡ reply asked before
    → data_of asked found ≡ stored_answer asked s
found_is asked before now found mark s same is =
    ap (data_of asked) (ap (λ p. p.0) is ∙ replies_stay_same asked (facts_of before) (facts_in (rows_of before)) before.blocks (cache_same before)) ∙ ap (stored_answer asked) same

pub known_answer : (asked : Command) (before now : KnowledgeValue) (answer : Answer) → (Some answer, now) ≡ reply asked before → AreWithin (facts_of before) → IsAnswerTo asked answer
known_answer asked before now answer is within = answer_fits_row asked (facts_of before) before.blocks answer within (sym (ap (λ p. p.0) is))

-- ---- what is so is so whatever came

pub always : {T E : Type 0} (result : Result T E) {P : Type 0} → P → OnOk result P
always (Ok value) is = is
always (Err error) is = tt

pub told_as : {A E : Type 0} (result : Result A E) (one other : A) → one ≡ other → IfOk result (λ told. told ≡ one) → IfOk result (λ told. told ≡ other)
told_as (Ok value) one other same is = is ∙ same
told_as (Err error) one other same is = tt
