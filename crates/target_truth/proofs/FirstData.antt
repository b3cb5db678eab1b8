-- The first message of an input that sets memory or registers.
use Rattle.std.proofs.Common.{◌≡◌, ℕ, ◌≤◌, ◌<◌, ◌+◌, ◌==◌, ◌||◌, Bool, false, true, true≢false, cond, List, [], ◌∷◌, ◌++◌, length, Option, Some, inl, refl, sym, ap, ◌∙◌, subst, arith}
use Rattle.std.specs.Prelude.{ℤ, unsigned_abs, option_map}
use Rattle.std.specs.List.{AllByRecursion, list_any}
use Rattle.std.proofs.lemmas.Bool.{and_from, and_parts, eq-eqb, eqb-true, leb-true, ltb-true}
use Rattle.breakpoints.specs.Rows.{props_of, row_of}
use Rattle.data_services.specs.Bytes.{with_part}
use Rattle.knowledge.specs.Changes.{Change, bytes_gone, is_within, range_gone, register_gone, registers_gone}
use Rattle.knowledge.specs.Facts.{byte_is}
use Rattle.knowledge.specs.Rows.{changed_register, is_outside, memory_changes}
use Rattle.run_control.specs.Naming.{process_id}
use Rattle.target_contexts.specs.Named.{attached_in}
use Rattle.target_contexts.specs.ProcessValue.{ProcessValue}
use Rattle.target_contexts.specs.Threads.{thread_at}
use Rattle.run_control.specs.TargetValue.{TargetValue}
use Rattle.target_truth.specs.Holds.{process_in}
use Rattle.target_truth.proofs.Accounts.{ButRegisters, cpu_accounts, memory_accounts, register_accounts, without_cpus}
use Rattle.target_truth.proofs.Agree.{IsTouched, led, led_at}
use Rattle.target_truth.proofs.Changes.{IsSaid, is_bytes}
use Rattle.target_truth.proofs.Differs.{Leads, StaysAttached, by_changes, none_touched, status_same}
use Rattle.target_truth.proofs.KeptBytes.{inside}
use Rattle.target_truth.proofs.Origins.{ListsOne, list_after}
use Rattle.target_truth.proofs.Seen.{number_of}
use Rattle.target_truth.proofs.ThreadIds.{process_named}
use Rattle.tcf_values.specs.Ids.{context_of, register_of}
use Rattle.tcf_values.specs.Spelling.{IsNumber}
use Rattle.tcf_values.specs.declared.event.EventData.TheVariants as events
use Rattle.tcf_values.specs.declared.ids.ContextId.TheVariants as contexts
use Rattle.tcf_values.specs.declared.ids.RegisterId.{RegisterId}
use Rattle.tcf_values.specs.declared.values.Range.{Range}

-- ---- memory

-- the range drops, where it has a byte
abbrev range_changes : ℕ → ℤ → ℤ → Bool → List Change
range_changes number addr size none = cond none [] (range_gone number (unsigned_abs addr) (unsigned_abs size) ∷ [])

range_told : (number : ℕ) (range : Range) → is_outside range.addr range.size ≡ false
    → memory_changes (Some (contexts.Process number)) (range ∷ []) ≡ range_changes number range.addr range.size (unsigned_abs range.size == 0)
range_told number range is = by (is_outside range.addr range.size) (unsigned_abs range.size == 0) is
  where
    by : (b c : Bool) → b ≡ false → cond b (bytes_gone number ∷ []) (range_changes number range.addr range.size c) ++ [] ≡ range_changes number range.addr range.size c
    by true c is = absurd (true≢false is)
    by false true is = refl
    by false false is = refl

range_so : (number : ℕ) (now : TargetValue) (addr size : ℤ) (none : Bool) → AllByRecursion (IsSaid now) (range_changes number addr size none)
range_so number now addr size true = tt
range_so number now addr size false = (tt, tt)

range_lists : (number : ℕ) (addr size : ℤ) (none : Bool) → AllByRecursion (ListsOne number) (range_changes number addr size none)
range_lists number addr size true = tt
range_lists number addr size false = (tt, tt)

range_quiet : (number : ℕ) (addr size : ℤ) (none : Bool) (list : Option (List (List ℕ))) → list_after number (range_changes number addr size none) list ≡ list
range_quiet number addr size true list = refl
range_quiet number addr size false list = refl

range_none : (number : ℕ) (addr size : ℤ) (none : Bool) → list_any is_bytes (range_changes number addr size none) ≡ false
range_none number addr size true = refl
range_none number addr size false = refl

none_within : (first count place : ℕ) → count ≡ 0 → is_within first count place ≡ true → ⊥
none_within first count place none is =
    let parts = and_parts _ _ is in
    let low : first ≤ place = leb-true first place parts.0 in
    let high : place < first + count = ltb-true place (first + count) parts.1 in
    omega (arith, low, high, none)

range_touched : (number : ℕ) (addr size : ℤ) (count place x : ℕ) (none : Bool) → (unsigned_abs size == 0) ≡ none → unsigned_abs size ≡ count
    → is_within (unsigned_abs addr) count place ≡ true → IsTouched (range_changes number addr size none) (byte_is number place x)
range_touched number addr size count place x true empty sized within = absurd (none_within (unsigned_abs addr) count place (sym sized ∙ eqb-true (unsigned_abs size) 0 empty) within)
range_touched number addr size count place x false empty sized within =
    ap (λ b. b || false) (and_from _ _ (eq-eqb number number refl) (ap (λ n. is_within (unsigned_abs addr) n place) sized ∙ within))

memory_by : (number : ℕ) (before now : TargetValue) (old : ProcessValue) (addr size : ℤ) (bytes pid : List ℕ) → context_of pid ≡ Some (contexts.Process number)
    → StaysAttached [] number before now old (record old { memory = with_part (unsigned_abs addr) bytes old.memory }) → length old.memory ≡ 65536 → is_outside addr size ≡ false
    → unsigned_abs size ≡ length bytes → Leads before now (events.MemChanged pid (record { addr = addr; size = size } ∷ []))
memory_by number before now old addr size bytes pid process is full in_memory sized =
    let range : Range = record { addr = addr; size = size } in
    let none : Bool = unsigned_abs size == 0 in
    let changes : List Change = range_changes number addr size none in
    let fits : unsigned_abs addr ≤ length old.memory = omega (arith, inside addr size in_memory, full) in
    by_changes before now (events.MemChanged pid (range ∷ [])) changes (ap (λ context. memory_changes context (range ∷ [])) process ∙ range_told number range in_memory)
    (led_at number before now (Some old) (Some (record old { memory = with_part (unsigned_abs addr) bytes old.memory })) changes (range_so number now addr size none)
    (range_none number addr size none) (range_lists number addr size none) is.stays.differs.others is.stays.differs.breakpoints is.stays.was is.stays.is
    (memory_accounts number old (unsigned_abs addr) bytes changes fits (λ place x within. range_touched number addr size (length bytes) place x none refl sized within)
    (range_quiet number addr size none))
    (status_same [] before now changes is.all is.points (none_touched changes)))

pub memory_set : (number : ℕ) (before now : TargetValue) (old new : ProcessValue) (addr size : ℤ) (bytes : List ℕ) → IsNumber number
    → StaysAttached [] number before now old new → length old.memory ≡ 65536 → is_outside addr size ≡ false → unsigned_abs size ≡ length bytes
    → new ≡ record old { memory = with_part (unsigned_abs addr) bytes old.memory }
    → Leads before now (events.MemChanged (process_id number) (record { addr = addr; size = size } ∷ []))
memory_set number before now old new addr size bytes is stays full inside sized new_is =
    memory_by number before now old addr size bytes (process_id number) (process_named number is)
    (subst (λ process. StaysAttached [] number before now old process) new_is stays) full inside sized

-- the register of the thread is another, and no other one is
pub register_set : (before now : TargetValue) (old new : ProcessValue) (id : List ℕ) (register : RegisterId) → register_of id ≡ Some register
    → StaysAttached [] register.process before now old new → ButRegisters old new
    → ((n index : ℕ) → index ≤ 32 → (n ≡ register.thread → index ≡ register.index → ⊥) → number_of index (thread_at n new) ≡ number_of index (thread_at n old))
    → Leads before now (events.RegChanged id)
register_set before now old new id register named stays but same =
    let changes : List Change = register_gone register.process register.thread register.index ∷ [] in
    by_changes before now (events.RegChanged id) changes (ap changed_register named)
    (led_at register.process before now (Some old) (Some new) changes (tt, tt) refl (tt, tt) stays.stays.differs.others stays.stays.differs.breakpoints
    stays.stays.was stays.stays.is (register_accounts register.process register.thread register.index old new but same)
    (status_same [] before now changes stays.all stays.points (none_touched changes)))

pub record ButCpus (before now : TargetValue) : Type 0 where
  pub processes : (number : ℕ) → option_map without_cpus (process_in number now) ≡ option_map without_cpus (process_in number before)
  pub attached : (number : ℕ) → option_map (λ p. p.attached) (process_in number now) ≡ option_map (λ p. p.attached) (process_in number before)
  pub all : attached_in now.contexts.processes ≡ attached_in before.contexts.processes
  pub breakpoints : now.breakpoints ≡ before.breakpoints

pub registers_set : (before now : TargetValue) → ButCpus before now → Leads before now events.RegsChanged
registers_set before now same =
    led before now (registers_gone ∷ []) (tt, tt) refl
    (λ p. cpu_accounts p (process_in p before) (process_in p now) (same.processes p) (same.attached p))
    (λ id x knows. inl (ap (props_of id) same.breakpoints ∙ knows)) (status_same [] before now (registers_gone ∷ []) same.all
    (λ id none. ap (row_of id) same.breakpoints) (none_touched (registers_gone ∷ [])))
