-- Memory that is set: the event tells the range, and where the range is empty nothing has changed.
use Rattle.std.proofs.Common.{◌≡◌, ℕ, nat_eq, pos, negsuc, unsigned_abs, Bool, true, false, cond, ◌||◌, is_none, List, [], ◌∷◌, ◌++◌, length, take, drop, Option, Some, None, refl, sym, ◌∙◌, ap, arith, eqb-true}
use Rattle.std.specs.Prelude.{ℤ, ◌+ℤ◌, int_lt}
use Rattle.std.proofs.lemmas.Bool.{eqb-false, ltb-false, or_from, or_parts}
use Rattle.std.proofs.lemmas.List.{take-append-drop}
use Rattle.breakpoints.specs.Rows.{row_of}
use Rattle.data_services.specs.Bytes.{with_part}
use Rattle.data_services.specs.MemoryRows.{is_no_size, is_outside, memory_events, with_memory}
use Rattle.json_args.specs.Kinds.{IsWhole}
use Rattle.knowledge.specs.Facts.{IsPart}
use Rattle.knowledge.specs.Rows as learned
use Rattle.target_contexts.specs.Changes.{with_change, with_change_of}
use Rattle.target_contexts.specs.Named.{process_at_number}
use Rattle.target_contexts.specs.ProcessValue.{ProcessValue}
use Rattle.run_control.specs.TargetValue.{TargetValue}
use Rattle.target_truth.specs.Holds.{process_in}
use Rattle.target_truth.proofs.Becoming.{change_stays, with_contexts}
use Rattle.target_truth.proofs.First.{StaysAttached, memory_set}
use Rattle.target_truth.proofs.Live.{number_found}
use Rattle.target_truth.proofs.Seen.{seen}
use Rattle.target_truth.proofs.Silent.{same_seen}
use Rattle.target_truth.proofs.Tells.{Tell}
use Rattle.target_truth.proofs.Whole.{IsGood}
use Rattle.tcf_values.specs.Spelling.{context_spelling}
use Rattle.tcf_values.specs.declared.event.EventData.TheVariants as events
use Rattle.tcf_values.specs.declared.ids.ContextId.TheVariants as contexts

no_bytes : (size : ℤ) → int_lt size (pos 0) ≡ false → int_lt (pos 0) size ≡ false → unsigned_abs size ≡ 0
no_bytes (pos n) low high = omega (arith, ltb-false 0 n high)
no_bytes (negsuc n) low high = cc

-- nothing put over bytes leaves them
nothing_put : (first : ℕ) (memory : List ℕ) → with_part first [] memory ≡ memory
nothing_put first memory = ap (λ (n : ℕ). take first memory ++ drop n memory) (omega arith) ∙ take-append-drop first memory

empty_list : (bytes : List ℕ) → length bytes ≡ 0 → bytes ≡ []
empty_list [] none = refl
empty_list (byte ∷ bytes) none = absurd (omega arith)

same_at : (number n : ℕ) (old new : ProcessValue) (before now : TargetValue) (same : Bool) → nat_eq n number ≡ same → StaysAttached [] number before now old new → new ≡ old → process_in n now ≡ process_in n before
same_at number n old new before now true e stays is =
    let named : n ≡ number = eqb-true n number e in
    ap (λ (m : ℕ). process_in m now) named ∙ stays.stays.is ∙ ap (λ (p : ProcessValue). Some p) is ∙ sym (ap (λ (m : ℕ). process_in m before) named ∙ stays.stays.was)
same_at number n old new before now false e stays is = stays.stays.differs.others n (eqb-false n number e)

-- a process that is put in place of itself
still_seen : (number : ℕ) (before now : TargetValue) (old new : ProcessValue) → StaysAttached [] number before now old new → new ≡ old → now.breakpoints ≡ before.breakpoints → IsPart (seen before) (seen now)
still_seen number before now old new stays is breakpoints =
    same_seen before now (λ n. same_at number n old new before now (nat_eq n number) refl stays is) stays.all (λ id. ap (λ rows. row_of id rows) breakpoints)

-- the checks that a command has passed
pub record Fits (addr size : ℤ) (bytes : List ℕ) : Type 0 where
  pub sized : is_no_size size ≡ false
  pub filled : length bytes ≡ unsigned_abs size
  pub placed : is_outside addr size ≡ false
  pub whole_addr : IsWhole addr
  pub whole_size : IsWhole size

memory_told : (number : ℕ) (addr size : ℤ) (bytes : List ℕ) (target : TargetValue) (old : ProcessValue) → IsGood target → Fits addr size bytes → process_in number target ≡ Some old
    → (some : Bool) → int_lt (pos 0) size ≡ some
    → Tell target (with_contexts (with_change (with_memory (unsigned_abs addr) bytes) number target.contexts) target)
    (cond some (events.MemChanged (context_spelling (contexts.Process number)) (record { addr = addr; size = size } ∷ []) ∷ []) [])
memory_told number addr size bytes target old good fits there true e =
    let change = with_memory (unsigned_abs addr) bytes in
    let now = with_contexts (with_change change number target.contexts) target in
    let stays = change_stays change number target old there refl refl in
    let low : int_lt addr (pos 0) ≡ false = (or_parts (int_lt addr (pos 0)) (int_lt (pos 65536) (addr +ℤ size)) fits.placed).0 in
    let high : int_lt (pos 65536) (addr +ℤ size) ≡ false = (or_parts (int_lt addr (pos 0)) (int_lt (pos 65536) (addr +ℤ size)) fits.placed).1 in
    let positive : int_lt size (pos 0) ≡ false = (or_parts (int_lt size (pos 0)) (int_lt (pos 65536) size) fits.sized).0 in
    let inside : learned.is_outside addr size ≡ false =
    or_from (int_lt addr (pos 0) || int_lt size (pos 0)) (int_lt (pos 65536) (addr +ℤ size)) (or_from (int_lt addr (pos 0)) (int_lt size (pos 0)) low positive) high in (
      record {
        limits = ((fits.whole_addr, fits.whole_size), tt);
        typed = tt;
        leads = memory_set number target now old (change old) addr size bytes (number_found target number old good there) stays (good.whole number old there).memory.size inside (sym fits.filled) refl;
      },
      tt,
    )
memory_told number addr size bytes target old good fits there false e =
    let change = with_memory (unsigned_abs addr) bytes in
    let now = with_contexts (with_change change number target.contexts) target in
    let stays = change_stays change number target old there refl refl in
    let none : bytes ≡ [] = empty_list bytes (fits.filled ∙ no_bytes size (or_parts _ _ fits.sized).0 e) in
    let same : with_part (unsigned_abs addr) bytes old.memory ≡ old.memory = ap (λ (xs : List ℕ). with_part (unsigned_abs addr) xs old.memory) none ∙ nothing_put (unsigned_abs addr) old.memory in
    still_seen number target now old (change old) stays (ap (λ (xs : List ℕ). record old { memory = xs }) same) refl

memory_at : (number : ℕ) (addr size : ℤ) (bytes : List ℕ) (target : TargetValue) (found : Option ProcessValue) → IsGood target → Fits addr size bytes → process_in number target ≡ found
    → is_none found ≡ false → Tell target (with_contexts (with_change (with_memory (unsigned_abs addr) bytes) number target.contexts) target) (memory_events (Some number) addr size)
memory_at number addr size bytes target None good fits there some = cc
memory_at number addr size bytes target (Some old) good fits there some = memory_told number addr size bytes target old good fits there (int_lt (pos 0) size) refl

pub memory_of : (addr size : ℤ) (bytes : List ℕ) (target : TargetValue) (named : Option ℕ) → IsGood target → Fits addr size bytes
    → is_none (process_at_number named target.contexts.processes) ≡ false
    → Tell target (with_contexts (with_change_of (with_memory (unsigned_abs addr) bytes) named target.contexts) target) (memory_events named addr size)
memory_of addr size bytes target None good fits some = cc
memory_of addr size bytes target (Some number) good fits some = memory_at number addr size bytes target (process_in number target) good fits refl some
