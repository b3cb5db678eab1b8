-- Who knows nothing answers nothing from a store.
use Rattle.std.proofs.Common.{◌≡◌, ℕ, ℤ, ◌+◌, ◌<◌, ◌==◌, ◌&&◌, Bool, true, false, cond, not, List, [], ◌∷◌, length, slice_get, nat_le, Option, Some, None, option_map, refl, sym, ap, ◌∙◌, arith}
use Rattle.std.specs.Prelude.{is_some, option_and_then, unsigned_abs}
use Rattle.std.specs.List.{list_all}
use Rattle.std.proofs.lemmas.Bool.{eqb-false}
use Rattle.block_store.specs.Blocks.{has_range, part}
use Rattle.block_store.specs.Store.{covered}
use Rattle.block_store.specs.declared.block.Block.{Block}
use Rattle.knowledge.specs.Facts.{AreSame, IsPart, byte_is, context_is, nothing, properties_are, register_is, state_is, status_is, threads_are}
use Rattle.knowledge.specs.KnowledgeValue.{has_block_byte}
use Rattle.knowledge.specs.Learning.{Message, learned}
use Rattle.knowledge.specs.Reply.{answer_known, are_parts_known, context_state_reply, is_readable, memory_reply, part_bytes, part_known, parts_bytes, process_asked, range_of, register_known, word_reply}
use Rattle.knowledge.specs.Rows.{is_outside, is_part}
use Rattle.tcf_values.specs.Ids.{context_of, register_of}
use Rattle.tcf_values.specs.declared.answer.Answer.{Answer}
use Rattle.tcf_values.specs.declared.command.Command.{Command}
use Rattle.tcf_values.specs.declared.command.Command.TheVariants as command
use Rattle.tcf_values.specs.declared.ids.ContextId.{ContextId}
use Rattle.tcf_values.specs.declared.ids.ContextId.TheVariants.{Process, Thread}
use Rattle.tcf_values.specs.declared.ids.RegisterId.{RegisterId}
use Rattle.tcf_values.specs.declared.values.Location.{Location}
use Rattle.value_node.specs.Store.{IsStoreOf, StoreValue, stored_answer}
use Rattle.value_store.specs.Learning.{data_of}
use Rattle.value_store.specs.Rows.{facts_in}
use Rattle.list_laws.proofs.Lists.{no_some}
use Rattle.knowledge.proofs.Inside.{length_by}
use Rattle.knowledge.proofs.TheLaws.{read_is_known, replies_stay_same}

-- ---- It has no fact

none_by : {A : Type 0} → (found : Option A) → ((x : A) → found ≡ Some x → ⊥) → found ≡ None
none_by None none = refl
none_by (Some x) none = absurd (none x refl)

knows_none : (messages : List Message) (s : StoreValue) → IsStoreOf messages s → IsPart (learned messages) nothing → AreSame (facts_in s.known) nothing
knows_none messages s of part = record {
  contexts = λ id. of.facts.contexts id ∙ none_by ((learned messages).contexts id) (λ context is. no_some context (part (context_is id context) is));
  threads = λ process. of.facts.threads process ∙ none_by ((learned messages).threads process) (λ ids is. no_some ids (part (threads_are process ids) is));
  states = λ process thread. of.facts.states process thread ∙ none_by ((learned messages).states process thread) (λ state is. no_some state (part (state_is process thread state) is));
  registers = λ process thread index. of.facts.registers process thread index
      ∙ none_by ((learned messages).registers process thread index) (λ value is. no_some value (part (register_is process thread index value) is));
  properties = λ id. of.facts.properties id ∙ none_by ((learned messages).properties id) (λ properties is. no_some properties (part (properties_are id properties) is));
  statuses = λ id. of.facts.statuses id ∙ none_by ((learned messages).statuses id) (λ status is. no_some status (part (status_is id status) is));
}

-- ---- A range that is covered has a byte

covered_length : (process addr size : ℕ) (blocks : List Block) (bytes : List ℕ) → covered process addr size blocks ≡ Some bytes → length bytes ≡ size
covered_length process addr size [] bytes is = absurd (no_some bytes is)
covered_length process addr size (block ∷ blocks) bytes is =
    length_by process addr size bytes block blocks (has_range process addr size block) refl (covered_length process addr size blocks bytes) is

first_byte : (bytes : List ℕ) → 0 < length bytes → (byte : ℕ) × (slice_get bytes 0 ≡ Some byte)
first_byte [] some = absurd (omega arith)
first_byte (byte ∷ bytes) some = (byte, refl)

-- ---- A range that is asked for isn't empty

not_empty : (b n : Bool) → (b && not n) ≡ true → n ≡ false
not_empty true true is = absurd cc
not_empty false true is = absurd cc
not_empty true false is = refl
not_empty false false is = refl

-- ---- Nothing is answered

module _ (blocks : List Block) (no_byte : (process place byte : ℕ) → has_block_byte blocks process place byte ≡ true → ⊥) where
  none_covered : (process addr size : ℕ) → 0 < size → covered process addr size blocks ≡ None
  none_covered process addr size some = none_by (covered process addr size blocks) (λ bytes is. no_bytes bytes is)
    where
      no_bytes : (bytes : List ℕ) → covered process addr size blocks ≡ Some bytes → ⊥
      no_bytes bytes is =
          let long : length bytes ≡ size = covered_length process addr size blocks bytes is in
          let first = first_byte bytes (omega arith) in
          no_byte process (addr + 0) first.0 (read_is_known process addr size blocks bytes 0 first.0 is first.1)

  by_readable : (addr size : ℤ) (process : ℕ) (b : Bool) → is_readable addr size ≡ b
      → memory_reply (cond b (Some (record { process = process; addr = unsigned_abs addr; size = unsigned_abs size })) None) blocks ≡ None
  by_readable addr size process true is =
      let zero_not : unsigned_abs size ≡ 0 → ⊥ = eqb-false (unsigned_abs size) 0 (not_empty (not (is_outside addr size)) (unsigned_abs size == 0) is) in
      ap (option_map Answer.Blob) (none_covered process (unsigned_abs addr) (unsigned_abs size) (omega arith))
  by_readable addr size process false is = refl

  no_memory : (addr size : ℤ) (process : Option ℕ) → memory_reply (option_and_then (range_of addr size) process) blocks ≡ None
  no_memory addr size None = refl
  no_memory addr size (Some process) = by_readable addr size process (is_readable addr size) refl

  no_state : (context : Option ContextId) → context_state_reply nothing context ≡ None
  no_state None = refl
  no_state (Some (Process process)) = refl
  no_state (Some (Thread process thread)) = refl

  no_register : (register : Option RegisterId) → option_and_then (λ r. nothing.registers r.process r.thread r.index) register ≡ None
  no_register None = refl
  no_register (Some register) = refl

  no_part : (location : Location) → is_some (part_known nothing location) ≡ false
  no_part location = by_flag (is_part location)
    where
      by_flag : (flag : Bool) → is_some (cond flag (option_map (part_bytes location) (register_known location.register nothing)) None) ≡ false
      by_flag true = ap (λ found. is_some (option_map (part_bytes location) found)) (no_register (register_of location.register))
      by_flag false = refl

  both_not : (a b c : Bool) (answer : Answer) → c ≡ false → cond (a && b && c) (Some answer) None ≡ None
  both_not true true true answer is = absurd cc
  both_not true true false answer is = refl
  both_not true false c answer is = refl
  both_not false b c answer is = refl

  no_parts : (list : List Location) → answer_known (command.RegGetm list) nothing blocks ≡ None
  no_parts [] = refl
  no_parts (location ∷ list) =
      both_not (nat_le 1 (length (location ∷ list))) (nat_le (length (location ∷ list)) 256) (are_parts_known nothing (location ∷ list)) (Answer.Blob (parts_bytes nothing (location ∷ list)))
      (ap (λ b. b && list_all (λ l. is_some (part_known nothing l)) list) (no_part location))

  none_known : (asked : Command) → answer_known asked nothing blocks ≡ None
  none_known (command.GetContext id) = refl
  none_known (command.GetState id) = no_state (context_of id)
  none_known (command.BpProperties id) = refl
  none_known (command.BpGetStatus id) = refl
  none_known (command.RegGet id) = ap (option_map word_reply) (no_register (register_of id))
  none_known (command.RegGetm list) = no_parts list
  none_known (command.MemGet id addr word size mode) =
      no_memory addr size (option_and_then (process_asked nothing) (context_of id))
  none_known _ = refl

pub nothing_stored : (messages : List Message) (s : StoreValue) (asked : Command) (reply : List ℕ) → IsStoreOf messages s → IsPart (learned messages) nothing
    → stored_answer asked s ≡ Some reply → ⊥
nothing_stored messages s asked reply of part is =
    let no_byte : (process place byte : ℕ) → has_block_byte s.blocks process place byte ≡ true → ⊥ =
    λ process place byte has. let known : nothing.bytes process place byte ≡ true = part (byte_is process place byte) (of.bytes process place byte has) in absurd cc in
    let none : answer_known asked (facts_in s.known) s.blocks ≡ None = replies_stay_same asked (facts_in s.known) nothing s.blocks (knows_none messages s of part) ∙ none_known s.blocks no_byte asked in
    no_some reply (sym (ap (data_of asked) none) ∙ is)
