-- What could be known of a target: all that is true of it, but for registers of threads that run, and bytes of processes
-- of which a thread runs.
use Rattle.std.proofs.Common.{◌≡◌, ℕ, zero, suc, ◌+◌, ◌-◌, ◌≤◌, ◌<◌, ◌==◌, ◌&&◌, nat_lt, Bool, true, false, true≢false, List, length, map, slice_get, Option, Some, None, cond, inl, inr, refl, sym, ◌∙◌, ap, arith}
use Rattle.std.specs.Prelude.{nat_le, option_and_then, option_map, if◌then◌else◌}
use Rattle.std.specs.List.{list_all, range_with_len}
use Rattle.std.proofs.lemmas.Bool.{and_from, and_parts, cond-true, cond-false, cases_Bool, eq-eqb, eqb-true, le-leb, leb-true, ltb-true, ne_eqb}
use Rattle.std.proofs.lemmas.List.{length-map}
use Rattle.std.proofs.lemmas.List.FromFn.{length-range_with_len}
use Rattle.std.proofs.lemmas.Option.{none-some, same_Some, slice_get_within}
use Rattle.breakpoints.specs.Rows.{props_of}
use Rattle.breakpoints.specs.Status.{status_of}
use Rattle.data_services.specs.Parts.{number_in}
use Rattle.knowledge.specs.Changes.{are_still, is_byte}
use Rattle.knowledge.specs.Facts.{Fact, Facts, IsGrounded, IsPart, Knows, context_is, threads_are, state_is, register_is, byte_is, properties_are, status_is, is_suspended, state_at, state_of}
use Rattle.knowledge.specs.declared.state.StateFact.{StateFact}
use Rattle.run_control.specs.Naming.{thread_id, thread_ids}
use Rattle.target_contexts.specs.Named.{attached_in, runs}
use Rattle.target_contexts.specs.ProcessValue.{ProcessValue}
use Rattle.target_contexts.specs.Threads.{thread_at, thread_count}
use Rattle.target_contexts.specs.declared.process.ThreadState.{ThreadState}
use Rattle.target_contexts.specs.declared.process.ThreadState.TheVariants.{Running, Suspended}
use Rattle.target_contexts.specs.declared.threads.Thread.{Thread}
use Rattle.run_control.specs.TargetValue.{TargetValue}
use Rattle.target_truth.specs.Holds.{Holds, IsStill, IsTrueOf, byte_in, data_in, listed, process_in, state_fact}
use Rattle.target_truth.proofs.ThreadIds.{thread_named}
use Rattle.target_truth.proofs.Threads.{all_stand, stands, state_listed, state_told, states_of}
use Rattle.tcf_values.specs.Ids.{context_of}
use Rattle.tcf_values.specs.Spelling.{IsNumber}
use Rattle.tcf_values.specs.declared.ids.ContextId.{ContextId}
use Rattle.tcf_values.specs.declared.ids.ContextId.TheVariants as contexts

-- ---- of one process

abbrev pub threads_seen : ℕ → Option ProcessValue → Option (List (List ℕ))
threads_seen number process = option_map (listed number) process

abbrev pub held : ℕ → Option ProcessValue → Option Thread
held n process = option_and_then (thread_at n) process

abbrev pub state_seen : ℕ → Option ProcessValue → Option StateFact
state_seen n process = state_told (held n process)

-- a register of a thread that is suspended
abbrev pub number_of : ℕ → Option Thread → Option ℕ
number_of index None = None
number_of index (Some thread) = if runs thread.state then None else Some (number_in index thread.cpu)

abbrev pub number_seen : ℕ → ℕ → Option ProcessValue → Option ℕ
number_seen n index process = number_of index (held n process)

-- a byte of a process whose threads all stand
abbrev pub byte_seen : ℕ → ℕ → Option ProcessValue → Bool
byte_seen addr byte None = false
byte_seen addr byte (Some process) = stands (states_of process) && is_byte byte (byte_in addr process)

-- ---- of a target

abbrev pub seen : TargetValue → Facts
seen target = record {
  contexts = λ id. data_in id target;
  threads = λ process. threads_seen process (process_in process target);
  states = λ process thread. state_seen thread (process_in process target);
  registers = λ process thread index. if nat_le index 32 then number_seen thread index (process_in process target) else None;
  bytes = λ process addr byte. byte_seen addr byte (process_in process target);
  properties = λ id. props_of id target.breakpoints;
  statuses = λ id. status_of id (attached_in target.contexts.processes) target.breakpoints;
}

-- the numbers of processes and threads are such as IDs have
abbrev pub AreNumbered : TargetValue → Type 0
AreNumbered target = (number : ℕ) (process : ProcessValue) → process_in number target ≡ Some process → IsNumber number × (thread_count process ≤ 8)

-- ---- what is known

-- an ID isn't that of a thread of another process
abbrev pub is_own : ℕ → Option ContextId → Bool
is_own number None = true
is_own number (Some (contexts.Process process)) = true
is_own number (Some (contexts.Thread process thread)) = number == process

abbrev pub are_own : ℕ → List (List ℕ) → Bool
are_own number ids = list_all (λ id. is_own number (context_of id)) ids

-- registers are known only of threads that are known as suspended, and bytes only of processes whose threads all are; and
-- in a list of threads stand none of another process
pub record IsBased (known : Facts) : Type 0 where
  pub grounded : IsGrounded known
  pub still : IsStill known
  pub own : (process : ℕ) (ids : List (List ℕ)) → known.threads process ≡ Some ids → are_own process ids ≡ true

-- ---- a thread that is suspended, by its state

abbrev is_stopped : ThreadState → Bool
is_stopped state = is_suspended (Some (state_fact state))

number_by : (state : ThreadState) (n v : ℕ) → is_stopped state ≡ true → Some n ≡ Some v → cond (runs state) None (Some n) ≡ Some v
number_by (Running left) n v e is = absurd (true≢false (sym e))
number_by (Suspended reason hits) n v e is = is

by_number : (state : ThreadState) (n v : ℕ) → cond (runs state) None (Some n) ≡ Some v → (is_stopped state ≡ true) × (Some n ≡ Some v)
by_number (Running left) n v e = absurd (none-some v e)
by_number (Suspended reason hits) n v e = (refl, e)

runs_not : (state : ThreadState) → is_stopped state ≡ true → runs state ≡ false
runs_not (Running left) is = absurd (true≢false (sym is))
runs_not (Suspended reason hits) is = refl

is_byte_of : (byte : ℕ) (o : Option ℕ) → o ≡ Some byte → is_byte byte o ≡ true
is_byte_of byte o is = ap (is_byte byte) is ∙ eq-eqb byte byte refl

byte_found : (byte : ℕ) (o : Option ℕ) → is_byte byte o ≡ true → o ≡ Some byte
byte_found byte None e = absurd (true≢false (sym e))
byte_found byte (Some found) e = ap (λ (b : ℕ). Some b) (eqb-true found byte e)

-- ---- a thread that is suspended, where there is one

abbrev value_of : ℕ → Option Thread → Option ℕ
value_of index thread = option_map (λ t. number_in index t.cpu) thread

number_still : (index v : ℕ) (thread : Option Thread) → is_suspended (state_told thread) ≡ true → value_of index thread ≡ Some v → number_of index thread ≡ Some v
number_still index v None e is = absurd (none-some v is)
number_still index v (Some thread) e is = number_by thread.state (number_in index thread.cpu) v e is

still_number : (index v : ℕ) (thread : Option Thread) → number_of index thread ≡ Some v → (is_suspended (state_told thread) ≡ true) × (value_of index thread ≡ Some v)
still_number index v None e = absurd (none-some v e)
still_number index v (Some thread) e = by_number thread.state (number_in index thread.cpu) v e

still_byte : (addr byte : ℕ) (process : Option ProcessValue) → byte_seen addr byte process ≡ true → option_and_then (byte_in addr) process ≡ Some byte
still_byte addr byte None e = absurd (true≢false (sym e))
still_byte addr byte (Some process) e = byte_found byte (byte_in addr process) (and_parts (stands (states_of process)) _ e).1

-- what is known as suspended is so
suspended_so : (state seen : Option StateFact) → is_suspended state ≡ true → ((s : StateFact) → state ≡ Some s → seen ≡ Some s) → is_suspended seen ≡ true
suspended_so None seen e so = absurd (true≢false (sym e))
suspended_so (Some s) seen e so = ap is_suspended (so s refl) ∙ e

-- ---- all threads of a process are known as suspended: so they are

each_suspended : (known : Facts) (number a count place : ℕ) → list_all (λ id. is_suspended (state_of id known)) (map (thread_id number) (range_with_len a count)) ≡ true
    → place < count → is_suspended (state_of (thread_id number (a + place)) known) ≡ true
each_suspended known number a zero place all low = absurd (omega (arith, low))
each_suspended known number a (suc count) zero all low =
    let same : a + 0 ≡ a = omega arith in
    ap (λ n. is_suspended (state_of (thread_id number n) known)) same ∙ (and_parts _ _ all).0
each_suspended known number a (suc count) (suc place) all low =
    let same : a + suc place ≡ a + 1 + place = omega arith in
    ap (λ n. is_suspended (state_of (thread_id number n) known)) same ∙ each_suspended known number (a + 1) count place (and_parts _ _ all).1 (omega (arith, low))

ids_length : (number count : ℕ) → length (thread_ids number count) ≡ count
ids_length number count = length-map (range_with_len 1 count) (thread_id number) ∙ length-range_with_len 1 count

-- the state at a place of the list is that of the thread with the number one above
at_place : (process : ProcessValue) (place : ℕ) (state : ThreadState) → slice_get (states_of process) place ≡ Some state
    → option_map (λ (t : Thread). t.state) (thread_at (1 + place) process) ≡ Some state
at_place process place state is =
    let some : ((1 + place) == 0) ≡ false = ne_eqb (1 + place) 0 (λ same. omega (arith, same)) in
    let back : 1 + place - 1 ≡ place = omega arith in
    state_listed (1 + place) process
    ∙ cond-false ((1 + place) == 0) None (slice_get (states_of process) (1 + place - 1)) some
    ∙ ap (slice_get (states_of process)) back ∙ is

stopped_at : (thread : Option Thread) (state : ThreadState) → option_map (λ (t : Thread). t.state) thread ≡ Some state → is_suspended (state_told thread) ≡ true → is_stopped state ≡ true
stopped_at None state is still = absurd (none-some state is)
stopped_at (Some thread) state is still = ap is_stopped (sym (same_Some thread.state state is)) ∙ still

-- whoever knows the list, and each in it as suspended; and what is known as suspended is so
pub still_stands : (number : ℕ) (known : Facts) (process : ProcessValue) → IsNumber number → thread_count process ≤ 8
    → ((n : ℕ) → is_suspended (known.states number n) ≡ true → is_suspended (state_told (thread_at n process)) ≡ true)
    → are_still known (Some (listed number process)) ≡ true → stands (states_of process) ≡ true
still_stands number known process is few so still =
    let count = thread_count process in
    let parts = and_parts (nat_lt 0 (length (listed number process))) _ still in
    let some : 0 < length (listed number process) = ltb-true 0 (length (listed number process)) parts.0 in
    let long : length (listed number process) ≡ count = ids_length number count in
    let sized : length (states_of process) ≡ count = length-map process.threads (λ (t : Thread). t.state) in
    all_stand (states_of process) (omega (arith, some, long, sized)) (λ place state there.
    let low : place < length (states_of process) = slice_get_within (states_of process) place state there in
    let named = thread_named number (1 + place) is (omega arith, omega (arith, low, sized, few)) in
    let known_so : is_suspended (known.states number (1 + place)) ≡ true =
    sym (ap (λ context. is_suspended (option_and_then (state_at known) context)) named)
    ∙ each_suspended known number 1 count place parts.1 (omega (arith, low, sized)) in
    runs_not state (stopped_at (thread_at (1 + place) process) state (at_place process place state there) (so (1 + place) known_so)))

listed_by : (number : ℕ) (known : Facts) (found : Option ProcessValue) (ids : List (List ℕ)) → option_map (listed number) found ≡ Some ids
    → ((process : ProcessValue) → found ≡ Some process → IsNumber number × (thread_count process ≤ 8))
    → ((n : ℕ) → is_suspended (known.states number n) ≡ true → is_suspended (state_seen n found) ≡ true)
    → are_still known (Some ids) ≡ true → (addr byte : ℕ) → option_and_then (byte_in addr) found ≡ Some byte → byte_seen addr byte found ≡ true
listed_by number known None ids is numbered so still addr byte there = absurd (none-some ids is)
listed_by number known (Some process) ids is numbered so still addr byte there =
    let numbers = numbered process refl in
    and_from (stands (states_of process)) _
    (still_stands number known process numbers.0 numbers.1 so (ap (λ list. are_still known (Some list)) (same_Some (listed number process) ids is) ∙ still))
    (is_byte_of byte (byte_in addr process) there)

byte_by : (number : ℕ) (known : Facts) (found : Option ProcessValue) (list : Option (List (List ℕ))) → ((ids : List (List ℕ)) → list ≡ Some ids → option_map (listed number) found ≡ Some ids)
    → ((process : ProcessValue) → found ≡ Some process → IsNumber number × (thread_count process ≤ 8))
    → ((n : ℕ) → is_suspended (known.states number n) ≡ true → is_suspended (state_seen n found) ≡ true)
    → are_still known list ≡ true → (addr byte : ℕ) → option_and_then (byte_in addr) found ≡ Some byte → byte_seen addr byte found ≡ true
byte_by number known found None so numbered suspended still addr byte there = absurd (true≢false (sym still))
byte_by number known found (Some ids) so numbered suspended still addr byte there =
    listed_by number known found ids (so ids refl) numbered suspended still addr byte there

-- ---- what holds could be known, and the other way

pub holds_seen : (known : Facts) (target : TargetValue) → AreNumbered target → Holds known target → IsPart known (seen target)
holds_seen known target numbered holds (context_is id context) knows = holds.facts (context_is id context) knows
holds_seen known target numbered holds (threads_are process ids) knows = holds.facts (threads_are process ids) knows
holds_seen known target numbered holds (state_is process thread state) knows = holds.facts (state_is process thread state) knows
holds_seen known target numbered holds (register_is process thread index value) knows =
    let so = holds.facts (register_is process thread index value) knows in
    let stopped = suspended_so (known.states process thread) (state_seen thread (process_in process target)) (holds.grounded process thread index value knows) (λ s is. holds.facts (state_is process thread s) is) in
    cond-true _ _ _ (le-leb index 32 so.0) ∙ number_still index value (held thread (process_in process target)) stopped so.1
holds_seen known target numbered holds (byte_is process addr byte) knows =
    byte_by process known (process_in process target) (known.threads process) (λ ids is. holds.facts (threads_are process ids) is) (numbered process)
    (λ n stopped. suspended_so (known.states process n) (state_seen n (process_in process target)) stopped (λ s is. holds.facts (state_is process n s) is))
    (holds.still process addr byte knows) addr byte (holds.facts (byte_is process addr byte) knows)
holds_seen known target numbered holds (properties_are id properties) knows = holds.facts (properties_are id properties) knows
holds_seen known target numbered holds (status_is id status) knows = holds.facts (status_is id status) knows

seen_true : (target : TargetValue) (fact : Fact) → Knows (seen target) fact → IsTrueOf target fact
seen_true target (context_is id context) knows = knows
seen_true target (threads_are process ids) knows = knows
seen_true target (state_is process thread state) knows = knows
seen_true target (register_is process thread index value) knows =
    elim (cases_Bool (nat_le index 32)) [
      | inl e ↦ (leb-true index 32 e, (still_number index value (held thread (process_in process target)) (sym (cond-true _ _ _ e) ∙ knows)).1)
      | inr e ↦ absurd (none-some value (sym (cond-false _ _ _ e) ∙ knows))
    ]
seen_true target (byte_is process addr byte) knows = still_byte addr byte (process_in process target) knows
seen_true target (properties_are id properties) knows = knows
seen_true target (status_is id status) knows = knows

pub seen_holds : (known : Facts) (target : TargetValue) → IsPart known (seen target) → IsBased known → Holds known target
seen_holds known target part based = record {
  facts = λ fact knows. seen_true target fact (part fact knows);
  grounded = based.grounded;
  still = based.still;
}

pub seen_grounded : (target : TargetValue) → IsGrounded (seen target)
seen_grounded target process thread index value knows =
    elim (cases_Bool (nat_le index 32)) [
      | inl e ↦ (still_number index value (held thread (process_in process target)) (sym (cond-true _ _ _ e) ∙ knows)).0
      | inr e ↦ absurd (none-some value (sym (cond-false _ _ _ e) ∙ knows))
    ]

-- ---- what holds is known only so

pub own_ids : (number a count : ℕ) → IsNumber number → 1 ≤ a → a + count ≤ 9 → are_own number (map (thread_id number) (range_with_len a count)) ≡ true
own_ids number a zero is low high = refl
own_ids number a (suc count) is low high =
    and_from (is_own number (context_of (thread_id number a))) _
    (ap (is_own number) (thread_named number a is (low, omega (arith, high))) ∙ eq-eqb number number refl)
    (own_ids number (a + 1) count is (omega (arith, low)) (omega (arith, high)))

own_by : (number : ℕ) (found : Option ProcessValue) (ids : List (List ℕ)) → option_map (listed number) found ≡ Some ids
    → ((process : ProcessValue) → found ≡ Some process → IsNumber number × (thread_count process ≤ 8)) → are_own number ids ≡ true
own_by number None ids is numbered = absurd (none-some ids is)
own_by number (Some process) ids is numbered =
    let numbers = numbered process refl in
    ap (are_own number) (sym (same_Some (listed number process) ids is)) ∙ own_ids number 1 (thread_count process) numbers.0 (omega arith) (omega (arith, numbers.1))

pub holds_based : (known : Facts) (target : TargetValue) → AreNumbered target → Holds known target → IsBased known
holds_based known target numbered holds = record {
  grounded = holds.grounded;
  still = holds.still;
  own = λ process ids knows. own_by process (process_in process target) ids (holds.facts (threads_are process ids) knows) (numbered process);
}
