-- The threads of a process: by their numbers, and by their states.
use Rattle.std.proofs.Common.{◌≡◌, ℕ, zero, suc, ◌-◌, ◌≤◌, ◌<◌, ◌==◌, nat_lt, Bool, true, false, true≢false, cond, not, ◌&&◌, List, [], ◌∷◌, length, map, slice_get, slice_set, Option, Some, None, is_some, option_map, refl, sym, ap, ◌∙◌, arith}
use Rattle.std.specs.List.{list_all}
use Rattle.std.proofs.lemmas.Bool.{and_from, cond-false, lt-ltb, ne_eqb, and_right}
use Rattle.std.proofs.lemmas.List.{length-map}
use Rattle.std.proofs.lemmas.Option.{none-some, same_Some, slice_get-map, slice_get_past, slice_get_within}
use Rattle.knowledge.specs.declared.state.StateFact.{StateFact}
use Rattle.list_laws.proofs.Numbers.{above_zero}
use Rattle.target_contexts.specs.Contexts.{thread_data}
use Rattle.target_contexts.specs.Named.{runs}
use Rattle.target_contexts.specs.ProcessValue.{ProcessValue}
use Rattle.target_contexts.specs.ThreadList.{changed_numbered_at, numbered}
use Rattle.target_contexts.specs.Threads.{has_thread, holding, in_thread, thread_at, thread_count}
use Rattle.target_contexts.specs.declared.process.ThreadState.{ThreadState}
use Rattle.target_contexts.specs.declared.threads.Thread.{Thread}
use Rattle.target_truth.specs.Holds.{state_fact}
use Rattle.tcf_values.specs.declared.values.ContextData.{ContextData}

-- ---- by their numbers

numbered_by : (is_zero : Bool) (place : ℕ) (threads : List Thread) (thread : Thread) → cond is_zero None (slice_get threads place) ≡ Some thread
    → (is_zero ≡ false) × (place < length threads)
numbered_by true place threads thread is = absurd (none-some thread is)
numbered_by false place threads thread is = (refl, slice_get_within threads place thread is)

-- a thread that is there has a number from 1 on, up to how many there are
pub numbered_within : (n : ℕ) (threads : List Thread) (thread : Thread) → numbered n threads ≡ Some thread → (1 ≤ n) × (n ≤ length threads)
numbered_within n threads thread is =
    let there = numbered_by (n == 0) (n - 1) threads thread is in
    let some : 0 < n = above_zero n there.0 in
    let inside : n - 1 < length threads = there.1 in
    (omega (arith, some), omega (arith, some, inside))

get_some : (threads : List Thread) (place : ℕ) → place < length threads → is_some (slice_get threads place) ≡ true
get_some [] place low = absurd (omega (arith, low))
get_some (thread ∷ threads) zero low = refl
get_some (thread ∷ threads) (suc place) low = get_some threads place (omega (arith, low))

pub numbered_there : (n : ℕ) (threads : List Thread) → 1 ≤ n → n ≤ length threads → is_some (numbered n threads) ≡ true
numbered_there n threads low high =
    let none : (n == 0) ≡ false = ne_eqb n 0 (λ same. omega (arith, low, same)) in
    ap is_some (cond-false (n == 0) None (slice_get threads (n - 1)) none) ∙ get_some threads (n - 1) (omega (arith, low, high))

-- and there is none of a number above
past_by : (is_zero : Bool) (place : ℕ) (threads : List Thread) → (is_zero ≡ false → length threads ≤ place) → cond is_zero None (slice_get threads place) ≡ None
past_by true place threads past = refl
past_by false place threads past = slice_get_past threads place (past refl)

pub numbered_past : (n : ℕ) (threads : List Thread) → length threads < n → numbered n threads ≡ None
numbered_past n threads above = past_by (n == 0) (n - 1) threads (λ some. omega (arith, above))

pub some_there : {A : Type 0} (found : Option A) → is_some found ≡ true → (x : A) × (found ≡ Some x)
some_there None is = absurd (true≢false (sym is))
some_there (Some x) is = (x, refl)

-- a process that has as many threads, or more, has each number
pub has_more : (n : ℕ) (old new : ProcessValue) → thread_count old ≤ thread_count new → has_thread n old ≡ true → has_thread n new ≡ true
has_more n old new grown has =
    let there = some_there (thread_at n old) has in
    let within = numbered_within n old.threads there.0 there.1 in
    let more : length old.threads ≤ length new.threads = grown in
    numbered_there n new.threads within.0 (omega (arith, within.1, more))

pub has_within : (n : ℕ) (process : ProcessValue) → has_thread n process ≡ true → (1 ≤ n) × (n ≤ thread_count process)
has_within n process has = let there = some_there (thread_at n process) has in numbered_within n process.threads there.0 there.1

-- ---- what is told of them

held_by : (number n : ℕ) (process : ProcessValue) (has : Bool) (x : ContextData) → option_map (λ p. thread_data number n p) (cond has (Some process) None) ≡ Some x
    → (has ≡ true) × (thread_data number n process ≡ x)
held_by number n process true x is = (refl, same_Some (thread_data number n process) x is)
held_by number n process false x is = absurd (none-some x is)

pub held_there : (number n : ℕ) (process : ProcessValue) (x : ContextData) → option_map (λ p. thread_data number n p) (holding n (Some process)) ≡ Some x
    → (has_thread n process ≡ true) × (thread_data number n process ≡ x)
held_there number n process x is = held_by number n process (has_thread n process) x is

pub there_held : (number n : ℕ) (process : ProcessValue) → has_thread n process ≡ true
    → option_map (λ p. thread_data number n p) (holding n (Some process)) ≡ Some (thread_data number n process)
there_held number n process has = ap (λ b. option_map (λ p. thread_data number n p) (cond b (Some process) None)) has

-- it stays so where the debugger stays, and no thread goes
pub held_kept : (number n : ℕ) (old new : ProcessValue) (x : ContextData) → thread_count old ≤ thread_count new → new.attached ≡ old.attached
    → option_map (λ p. thread_data number n p) (holding n (Some old)) ≡ Some x → option_map (λ p. thread_data number n p) (holding n (Some new)) ≡ Some x
held_kept number n old new x grown attached knows =
    let was = held_there number n old x knows in
    there_held number n new (has_more n old new grown was.0)
    ∙ ap (λ a. Some (thread_data number n (record old { attached = a }))) attached ∙ ap (λ (x : ContextData). Some x) was.1

-- ---- by their states

abbrev pub states_of : ProcessValue → List ThreadState
states_of process = map (λ (t : Thread). t.state) process.threads

abbrev pub state_told : Option Thread → Option StateFact
state_told thread = option_map (λ t. state_fact t.state) thread

state_by : (is_zero : Bool) (place : ℕ) (threads : List Thread)
    → option_map (λ (t : Thread). t.state) (cond is_zero None (slice_get threads place)) ≡ cond is_zero None (slice_get (map (λ (t : Thread). t.state) threads) place)
state_by true place threads = refl
state_by false place threads = sym (slice_get-map (λ (t : Thread). t.state) threads place)

pub state_listed : (n : ℕ) (process : ProcessValue) → option_map (λ (t : Thread). t.state) (thread_at n process) ≡ cond (n == 0) None (slice_get (states_of process) (n - 1))
state_listed n process = state_by (n == 0) (n - 1) process.threads

told_by : (found : Option Thread) → state_told found ≡ option_map state_fact (option_map (λ (t : Thread). t.state) found)
told_by None = refl
told_by (Some thread) = refl

-- threads whose states are the same, one after another
pub same_state : (n : ℕ) (old new : ProcessValue) → states_of new ≡ states_of old → state_told (thread_at n new) ≡ state_told (thread_at n old)
same_state n old new same =
    told_by (thread_at n new)
    ∙ ap (option_map state_fact) (state_listed n new ∙ ap (λ states. cond (n == 0) None (slice_get states (n - 1))) same ∙ sym (state_listed n old))
    ∙ sym (told_by (thread_at n old))

pub same_count : (old new : ProcessValue) → states_of new ≡ states_of old → thread_count new ≡ thread_count old
same_count old new same = sym (length-map new.threads (λ (t : Thread). t.state)) ∙ ap length same ∙ length-map old.threads (λ (t : Thread). t.state)

-- ---- all stand

-- there are some, and none runs
abbrev pub stands : List ThreadState → Bool
stands states = nat_lt 0 (length states) && list_all (λ state. not (runs state)) states

one_runs : (states : List ThreadState) (place : ℕ) (state : ThreadState) → slice_get states place ≡ Some state → runs state ≡ true → list_all (λ s. not (runs s)) states ≡ false
one_runs [] place state is on = absurd (none-some state is)
one_runs (first ∷ states) zero state is on =
    ap (λ (r : Bool). not r && list_all (λ s. not (runs s)) states) (ap runs (same_Some first state is) ∙ on)
one_runs (first ∷ states) (suc place) state is on = and_right (not (runs first)) _ (one_runs states place state is on)

listed_there : (is_zero : Bool) (states : List ThreadState) (place : ℕ) (state : ThreadState) → cond is_zero None (slice_get states place) ≡ Some state → slice_get states place ≡ Some state
listed_there true states place state is = absurd (none-some state is)
listed_there false states place state is = is

-- they don't where one runs
pub not_standing : (n : ℕ) (process : ProcessValue) (thread : Thread) → thread_at n process ≡ Some thread → runs thread.state ≡ true → stands (states_of process) ≡ false
not_standing n process thread there on =
    let at : slice_get (states_of process) (n - 1) ≡ Some thread.state =
    listed_there (n == 0) (states_of process) (n - 1) thread.state (sym (state_listed n process) ∙ ap (option_map (λ (t : Thread). t.state)) there) in
    and_right (nat_lt 0 (length (states_of process))) _ (one_runs (states_of process) (n - 1) thread.state at on)

each_stands : (states : List ThreadState) → ((place : ℕ) (state : ThreadState) → slice_get states place ≡ Some state → runs state ≡ false) → list_all (λ s. not (runs s)) states ≡ true
each_stands [] each = refl
each_stands (state ∷ states) each =
    and_from (not (runs state)) _ (ap not (each zero state refl)) (each_stands states (λ place s is. each (suc place) s is))

-- they do where there are some and each does
pub all_stand : (states : List ThreadState) → 0 < length states → ((place : ℕ) (state : ThreadState) → slice_get states place ≡ Some state → runs state ≡ false) → stands states ≡ true
all_stand states some each = and_from (nat_lt 0 (length states)) _ (lt-ltb 0 (length states) some) (each_stands states each)

-- ---- one of them is changed, or all

set_states : (place : ℕ) (new old : Thread) (threads : List Thread) → slice_get threads place ≡ Some old → new.state ≡ old.state
    → map (λ (t : Thread). t.state) (slice_set threads place new) ≡ map (λ (t : Thread). t.state) threads
set_states place new old [] there same = refl
set_states zero new old (first ∷ threads) there same =
    ap (λ (s : ThreadState). s ∷ map (λ (t : Thread). t.state) threads) (same ∙ ap (λ (t : Thread). t.state) (sym (same_Some first old there)))
set_states (suc place) new old (first ∷ threads) there same = ap (λ (states : List ThreadState). first.state ∷ states) (set_states place new old threads there same)

with_states : (is_zero : Bool) (place : ℕ) (new old : Thread) (threads : List Thread) → cond is_zero None (slice_get threads place) ≡ Some old → new.state ≡ old.state
    → map (λ (t : Thread). t.state) (cond is_zero threads (slice_set threads place new)) ≡ map (λ (t : Thread). t.state) threads
with_states true place new old threads there same = refl
with_states false place new old threads there same = set_states place new old threads there same

changed_states : (change : Thread → Thread) (n : ℕ) (threads : List Thread) (found : Option Thread) → numbered n threads ≡ found → ((t : Thread) → (change t).state ≡ t.state)
    → map (λ (t : Thread). t.state) (changed_numbered_at change n found threads) ≡ map (λ (t : Thread). t.state) threads
changed_states change n threads None there same = refl
changed_states change n threads (Some thread) there same = with_states (n == 0) (n - 1) (change thread) thread threads there (same thread)

-- by a change that keeps its state
pub kept_states : (change : Thread → Thread) (n : ℕ) (process : ProcessValue) → ((t : Thread) → (change t).state ≡ t.state) → states_of (in_thread change n process) ≡ states_of process
kept_states change n process same = changed_states change n process.threads (numbered n process.threads) refl same

mapped_by : (change : Thread → Thread) (is_zero : Bool) (place : ℕ) (threads : List Thread)
    → cond is_zero None (slice_get (map change threads) place) ≡ option_map change (cond is_zero None (slice_get threads place))
mapped_by change true place threads = refl
mapped_by change false place threads = slice_get-map change threads place

pub numbered_map : (change : Thread → Thread) (n : ℕ) (threads : List Thread) → numbered n (map change threads) ≡ option_map change (numbered n threads)
numbered_map change n threads = mapped_by change (n == 0) (n - 1) threads
