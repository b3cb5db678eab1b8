-- Registers that are answered: what is read of their four bytes is so.
use Rattle.std.proofs.Common.{◌≡◌, ℕ, zero, suc, ◌<◌, ◌^◌, ◌==◌, cond, List, length, drop, Option, Some, None, refl, sym, ◌∙◌, ap, subst, arith, length-take, length-drop}
use Rattle.std.proofs.lemmas.Bool.{cond-true, cond_both, eqb-true, le-leb}
use Rattle.std.proofs.lemmas.List.{take_all}
use Rattle.std.proofs.lemmas.Nat.{from_le_bytes-to_le_bytes_4}
use Rattle.std.specs.Int.{w32, from_le_bytes}
use Rattle.std.specs.List.{AllByRecursion}
use Rattle.std.specs.Prelude.{nat_lt}
use Rattle.data_services.specs.Bytes.{part_of, word_bytes}
use Rattle.data_services.specs.Parts.{number_in}
use Rattle.knowledge.specs.Changes.{register_read}
use Rattle.knowledge.specs.Rows.{whole_read, word_read}
use Rattle.rv32i_core.proofs.TheLaws.{reads_are_words}
use Rattle.rv32i_core.specs.Laws.{IsCpu, IsWord}
use Rattle.rv32i_core.specs.Registers.{register_of as number_at}
use Rattle.rv32i_core.specs.declared.registers.Cpu.{Cpu}
use Rattle.target_contexts.specs.ProcessValue.{ProcessValue}
use Rattle.target_contexts.specs.declared.threads.Thread.{Thread}
use Rattle.run_control.specs.TargetValue.{TargetValue}
use Rattle.target_truth.proofs.Changes.{IsSo}
use Rattle.target_truth.proofs.Holders.{IsHeld}
use Rattle.target_truth.proofs.Seen.{number_of, number_seen}
use Rattle.tcf_values.specs.Ids.{register_of}
use Rattle.tcf_values.specs.declared.ids.RegisterId.{RegisterId}
use Rattle.list_laws.proofs.AllLists.{all_if}

pub number_small : (index : ℕ) (cpu : Cpu) → IsCpu cpu → number_in index cpu < 2 ^ 32
number_small index cpu is =
    cond_both (nat_lt index 32) (number_at index cpu) cpu.pc IsWord (λ low. reads_are_words index cpu is) (λ high. is.pc)

pub word_four : (number : ℕ) → length (word_bytes number) ≡ 4
unfolding word_bytes
word_four number = refl

word_back : (number : ℕ) → number < 2 ^ 32 → from_le_bytes w32 (word_bytes number) ≡ number
unfolding word_bytes
word_back number small = from_le_bytes-to_le_bytes_4 number small

word_so : (target : TargetValue) (id : List ℕ) (register : RegisterId) (process : ProcessValue) (thread : Thread) → IsHeld target id register process thread
    → IsSo target (register_read register.process register.thread register.index (from_le_bytes w32 (word_bytes (number_in register.index thread.cpu))))
word_so target id register process thread held =
    let number = number_in register.index thread.cpu in
    cond-true _ _ _ (le-leb register.index 32 held.index)
    ∙ ap (number_seen register.thread register.index) held.holder.there
    ∙ ap (number_of register.index) held.holder.at
    ∙ ap (λ b. cond b None (Some number)) held.stopped
    ∙ ap (λ (n : ℕ). Some n) (sym (word_back number (number_small register.index thread.cpu held.cpu)))

-- all four of four bytes
whole_part : (offset size : ℕ) (xs : List ℕ) → length xs ≡ 4 → length (part_of offset size xs) ≡ 4 → part_of offset size xs ≡ xs
whole_part zero size xs four whole = take_all size xs (omega (arith, four, whole, length-take size xs))
whole_part (suc offset) size xs four whole = absurd (omega (arith, four, whole, length-take size (drop (suc offset) xs), length-drop (suc offset) xs))

pub word_whole : (number : ℕ) → part_of 0 4 (word_bytes number) ≡ word_bytes number
word_whole number = take_all 4 (word_bytes number) (omega (arith, word_four number))

-- part of a register's bytes tells it where that is the whole of them
pub whole_so : (target : TargetValue) (id : List ℕ) (register : RegisterId) (process : ProcessValue) (thread : Thread) (offset size : ℕ) → IsHeld target id register process thread
    → AllByRecursion (IsSo target) (whole_read id (part_of offset size (word_bytes (number_in register.index thread.cpu))))
whole_so target id register process thread offset size held =
    let word = word_bytes (number_in register.index thread.cpu) in
    let bytes = part_of offset size word in
    all_if (IsSo target) (length bytes == 4) (word_read bytes (register_of id)) (λ whole.
    subst (λ (o : Option RegisterId). AllByRecursion (IsSo target) (word_read bytes o)) (sym held.holder.read) (
      subst (λ (bs : List ℕ). IsSo target (register_read register.process register.thread register.index (from_le_bytes w32 bs)))
          (sym (whole_part offset size word (word_four (number_in register.index thread.cpu)) (eqb-true (length bytes) 4 whole)))
          (word_so target id register process thread held),
      tt,
    ))
