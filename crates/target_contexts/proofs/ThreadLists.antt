-- The threads of a process: one of them is changed, and one more begins.
use Rattle.std.proofs.Common.{◌≡◌, ◌≢◌, ℕ, zero, suc, ◌+◌, ◌-◌, ◌<◌, ◌≤◌, ◌==◌, nat_lt, Bool, true, false, cond, List, [], ◌∷◌, ◌++◌, length, slice_get, slice_set, Option, Some, None, option_map, refl, ◌∙◌, ap, subst, arith, length-append, lit≤}
use Rattle.std.specs.List.{AllByRecursion}
use Rattle.std.proofs.lemmas.Bool.{ltb-true, ne_eqb}
use Rattle.list_laws.proofs.Flags.{and_first}
use Rattle.list_laws.proofs.Lists.{get_set, set_length, set_same}
use Rattle.list_laws.proofs.Numbers.{above_zero}
use Rattle.target_contexts.specs.Laws.{BeginsOneThread, ChangesOneThread, ThreadPutBack}
use Rattle.target_contexts.specs.ProcessValue.{ProcessValue}
use Rattle.target_contexts.specs.Spawning.{begun_thread, can_begin, with_begun}
use Rattle.target_contexts.specs.ThreadList.{AreFew, changed_numbered, changed_numbered_at, numbered}
use Rattle.target_contexts.specs.Threads.{in_thread, thread_at, thread_count}
use Rattle.target_contexts.specs.declared.threads.Thread.{Thread}

-- the words of numbers, by whether the number is 0
abbrev numbered_by : Bool → ℕ → List Thread → Option Thread
numbered_by is_zero place threads = cond is_zero None (slice_get threads place)

abbrev with_by : Bool → ℕ → Thread → List Thread → List Thread
with_by is_zero place thread threads = cond is_zero threads (slice_set threads place thread)

-- ---- the thread that is changed

there_by : (is_zero : Bool) (place : ℕ) (x t : Thread) (threads : List Thread) → numbered_by is_zero place threads ≡ Some t → numbered_by is_zero place (with_by is_zero place x threads) ≡ Some x
there_by true place x t threads is = absurd cc
there_by false place x t threads is = get_set place threads x t is

changed_by : (change : Thread → Thread) (n : ℕ) (threads : List Thread) (found : Option Thread) → numbered n threads ≡ found → numbered n (changed_numbered_at change n found threads) ≡ option_map change found
changed_by change n threads None is = is
changed_by change n threads (Some t) is = there_by (n == 0) (n - 1) (change t) t threads is

pub changed_there : (change : Thread → Thread) (n : ℕ) (threads : List Thread) → numbered n (changed_numbered change n threads) ≡ option_map change (numbered n threads)
changed_there change n threads = changed_by change n threads (numbered n threads) refl

-- ---- the others

get_other : {A : Type 0} → (xs : List A) (i j : ℕ) (x : A) → (i ≡ j → ⊥) → slice_get (slice_set xs i x) j ≡ slice_get xs j
get_other [] i j x differ = refl
get_other (y ∷ ys) zero zero x differ = absurd (differ refl)
get_other (y ∷ ys) zero (suc j) x differ = refl
get_other (y ∷ ys) (suc i) zero x differ = refl
get_other (y ∷ ys) (suc i) (suc j) x differ = get_other ys i j x (λ same. differ (ap suc same))

other_by : (a b : Bool) (i j : ℕ) (x : Thread) (threads : List Thread) → (a ≡ false → b ≡ false → i ≡ j → ⊥) → numbered_by b j (with_by a i x threads) ≡ numbered_by b j threads
other_by true b i j x threads differ = refl
other_by false true i j x threads differ = refl
other_by false false i j x threads differ = get_other threads i j x (differ refl refl)

less_one : (n m : ℕ) → m ≢ n → (n == 0) ≡ false → (m == 0) ≡ false → n - 1 ≡ m - 1 → ⊥
less_one n m differ n_some m_some same =
    let above : 0 < n = above_zero n n_some in
    let also : 0 < m = above_zero m m_some in
    differ (omega (arith, same))

others_by : (change : Thread → Thread) (n m : ℕ) (threads : List Thread) (found : Option Thread) → m ≢ n → numbered m (changed_numbered_at change n found threads) ≡ numbered m threads
others_by change n m threads None differ = refl
others_by change n m threads (Some t) differ = other_by (n == 0) (m == 0) (n - 1) (m - 1) (change t) threads (less_one n m differ)

-- ---- their number

count_by : (is_zero : Bool) (place : ℕ) (x : Thread) (threads : List Thread) → length (with_by is_zero place x threads) ≡ length threads
count_by true place x threads = refl
count_by false place x threads = set_length place threads x

counted_by : (change : Thread → Thread) (n : ℕ) (threads : List Thread) (found : Option Thread) → length (changed_numbered_at change n found threads) ≡ length threads
counted_by change n threads None = refl
counted_by change n threads (Some t) = count_by (n == 0) (n - 1) (change t) threads

pub changed_count : (change : Thread → Thread) (n : ℕ) (threads : List Thread) → length (changed_numbered change n threads) ≡ length threads
changed_count change n threads = counted_by change n threads (numbered n threads)

pub with_count : (n : ℕ) (x : Thread) (threads : List Thread) → length (with_by (n == 0) (n - 1) x threads) ≡ length threads
with_count n x threads = count_by (n == 0) (n - 1) x threads

pub changes_one_thread : ChangesOneThread
changes_one_thread change n process = (
  changed_there change n process.threads,
  record {
    others = λ other differ. others_by change n other process.threads (numbered n process.threads) differ;
    name = refl;
    attached = refl;
    memory = refl;
  },
  changed_count change n process.threads,
)

-- ---- one that is put back

back_by : (is_zero : Bool) (place : ℕ) (t : Thread) (threads : List Thread) → numbered_by is_zero place threads ≡ Some t → with_by is_zero place t threads ≡ threads
back_by true place t threads is = refl
back_by false place t threads is = set_same place threads t is

pub thread_back : ThreadPutBack
thread_back n thread process is =
    ap (λ (threads : List Thread). record process { threads = threads }) (back_by (n == 0) (n - 1) thread process.threads is)

-- ---- what holds of all threads holds of each that is found, and of all after a change that keeps it

all_by : (P : Thread → Type 0) (is_zero : Bool) (place : ℕ) (t : Thread) (threads : List Thread) → numbered_by is_zero place threads ≡ Some t → AllByRecursion P threads → P t
all_by P true place t threads is all = absurd cc
all_by P false place t [] is all = absurd cc
all_by P false zero t (x ∷ threads) is all = let same : x ≡ t = cc in subst P same all.0
all_by P false (suc place) t (x ∷ threads) is all = all_by P false place t threads is all.1

pub found_thread_is : (P : Thread → Type 0) (n : ℕ) (thread : Thread) (process : ProcessValue) → thread_at n process ≡ Some thread → AllByRecursion P process.threads → P thread
found_thread_is P n thread process is all = all_by P (n == 0) (n - 1) thread process.threads is all

set_all : (P : Thread → Type 0) (place : ℕ) (x : Thread) (threads : List Thread) → P x → AllByRecursion P threads → AllByRecursion P (slice_set threads place x)
set_all P place x [] holds all = tt
set_all P zero x (y ∷ threads) holds all = (holds, all.1)
set_all P (suc place) x (y ∷ threads) holds all = (all.0, set_all P place x threads holds all.1)

with_all : (P : Thread → Type 0) (is_zero : Bool) (place : ℕ) (x : Thread) (threads : List Thread) → P x → AllByRecursion P threads → AllByRecursion P (with_by is_zero place x threads)
with_all P true place x threads holds all = all
with_all P false place x threads holds all = set_all P place x threads holds all

all_changed : (P : Thread → Type 0) (change : Thread → Thread) (n : ℕ) (threads : List Thread) (found : Option Thread) → numbered n threads ≡ found → ((t : Thread) → found ≡ Some t → P t → P (change t))
    → AllByRecursion P threads → AllByRecursion P (changed_numbered_at change n found threads)
all_changed P change n threads None is keeps all = all
all_changed P change n threads (Some t) is keeps all =
    with_all P (n == 0) (n - 1) (change t) threads (keeps t refl (all_by P (n == 0) (n - 1) t threads is all)) all

pub each_thread_keeps : (P : Thread → Type 0) (change : Thread → Thread) (n : ℕ) (process : ProcessValue) → ((thread : Thread) → thread_at n process ≡ Some thread → P thread → P (change thread))
    → AllByRecursion P process.threads → AllByRecursion P (in_thread change n process).threads
each_thread_keeps P change n process keeps all = all_changed P change n process.threads (numbered n process.threads) refl keeps all

-- ---- one more

get_last : {A : Type 0} → (xs : List A) (x : A) → slice_get (xs ++ x ∷ []) (length xs) ≡ Some x
get_last [] x = refl
get_last (y ∷ ys) x = get_last ys x

get_but_last : {A : Type 0} → (xs : List A) (x : A) (j : ℕ) → (j ≡ length xs → ⊥) → slice_get (xs ++ x ∷ []) j ≡ slice_get xs j
get_but_last [] x zero differ = absurd (differ refl)
get_but_last [] x (suc j) differ = refl
get_but_last (y ∷ ys) x zero differ = refl
get_but_last (y ∷ ys) x (suc j) differ = get_but_last ys x j (λ same. differ (ap suc same))

last_by : (is_zero : Bool) (place : ℕ) (x : Thread) (threads : List Thread) → is_zero ≡ false → place ≡ length threads → numbered_by is_zero place (threads ++ x ∷ []) ≡ Some x
last_by true place x threads is there = absurd cc
last_by false place x threads is there = ap (λ j. slice_get (threads ++ x ∷ []) j) there ∙ get_last threads x

not_last : (is_zero : Bool) (place : ℕ) (x : Thread) (threads : List Thread) → (is_zero ≡ false → place ≡ length threads → ⊥) → numbered_by is_zero place (threads ++ x ∷ []) ≡ numbered_by is_zero place threads
not_last true place x threads differ = refl
not_last false place x threads differ = get_but_last threads x place (differ refl)

begin_by : (can : Bool) (n count : ℕ) → cond can (Some (count + 1)) None ≡ Some n → (can ≡ true) × (n ≡ count + 1)
begin_by true n count is = (refl, cc)
begin_by false n count is = absurd cc

not_zero : (n count : ℕ) → n ≡ count + 1 → (n == 0) ≡ false
not_zero n count is = ne_eqb n 0 (λ none. omega (arith, is, none))

before_last : (n count m : ℕ) → n ≡ count + 1 → m ≢ n → (m == 0) ≡ false → m - 1 ≡ count → ⊥
before_last n count m is differ some same =
    let above : 0 < m = above_zero m some in
    differ (omega (arith, is, same))

pub begins_one_thread : BeginsOneThread
begins_one_thread pc argument n process is =
    let count : ℕ = thread_count process in
    let thread : Thread = begun_thread pc argument in
    let can = begin_by (can_begin pc process) n count is in
    let new : with_begun pc argument process ≡ record process { threads = process.threads ++ thread ∷ [] } =
    ap (λ b. cond b (record process { threads = process.threads ++ thread ∷ [] }) process) can.0 in
    rw new (
      last_by (n == 0) (n - 1) thread process.threads (not_zero n count can.1) (omega (arith, can.1)),
      record {
        others = λ m differ. not_last (m == 0) (m - 1) thread process.threads (before_last n count m can.1 differ);
        name = refl;
        attached = refl;
        memory = refl;
      },
      length-append process.threads (thread ∷ []),
    )

-- where it begins, there are fewer than 8
pub few_before : (pc : ℕ) (process : ProcessValue) → can_begin pc process ≡ true → thread_count process < 8
few_before pc process can = ltb-true (thread_count process) 8 (and_first (nat_lt (thread_count process) 8) _ can)

-- ---- they are 1 to 8

pub few_one : (thread : Thread) (threads : List Thread) → threads ≡ thread ∷ [] → AreFew threads
few_one thread threads is = rw is (record { some = lit≤ tt; few = lit≤ tt })

pub few_pushed : (threads new : List Thread) (thread : Thread) → AreFew threads → length threads < 8 → new ≡ threads ++ thread ∷ [] → AreFew new
few_pushed threads new thread are room is =
    let long : length new ≡ length threads + 1 = ap (λ (xs : List Thread). length xs) is ∙ length-append threads (thread ∷ []) in
    record { some = omega (arith, long); few = omega (arith, long, room) }

pub few_set : (threads : List Thread) (place : ℕ) (thread : Thread) → AreFew threads → AreFew (slice_set threads place thread)
few_set threads place thread are =
    let long : length (slice_set threads place thread) ≡ length threads = set_length place threads thread in
    record { some = omega (arith, long, are.some); few = omega (arith, long, are.few) }
