-- A process after instructions of one of its threads: the others are as they were, and threads may have begun.
use Rattle.std.proofs.Common.{◌≡◌, ◌≢◌, ℕ, zero, suc, ◌+◌, ◌≤◌, ◌<◌, nat_lt, Bool, true, false, cond, List, [], ◌∷◌, ◌++◌, Option, Some, None, IfSome, refl, sym, ◌∙◌, ap, arith, length}
use Rattle.std.specs.List.{AllByRecursion}
use Rattle.std.specs.Option.{option_map_or}
use Rattle.std.proofs.lemmas.Bool.{and_parts, cond-true, ltb-false, ltb-true}
use Rattle.breakpoints.specs.declared.rows.Placed.{Placed}
use Rattle.list_laws.proofs.AllLists.{all_if}
use Rattle.run_control.specs.Executing.{hits_at, result_for, stepped, stepped_at, stepped_by, with_cpu, with_result}
use Rattle.run_control.specs.Naming.{is_empty}
use Rattle.run_control.specs.Tracing.{last_of, next_of, run_from, up_to_hit}
use Rattle.rv32i_core.specs.Machine.{Step, ends, excepts, goes_on, machine, spawns}
use Rattle.target_contexts.proofs.TheLaws.{begins_one_thread, changes_one_thread}
use Rattle.target_contexts.specs.ProcessValue.{ProcessValue}
use Rattle.target_contexts.specs.Spawning.{begun_number, begun_thread, can_begin, with_begun}
use Rattle.target_contexts.specs.Threads.{thread_at, thread_count}
use Rattle.target_contexts.specs.Whole.{IsWhole}
use Rattle.target_contexts.specs.declared.threads.Thread.{Thread}
use Rattle.target_truth.proofs.Accounts.{OthersStand}
use Rattle.target_truth.proofs.FitRun.{next_is, one_whole}
use Rattle.target_truth.proofs.Threads.{numbered_past}

-- threads begin behind the ones that there are, and all but one of these are as they were
pub record Follows (n : ℕ) (first next : ProcessValue) : Type 0 where
  pub name : next.name ≡ first.name
  pub attached : next.attached ≡ first.attached
  pub others : (m : ℕ) → m ≢ n → m ≤ thread_count first → thread_at m next ≡ thread_at m first
  pub grown : thread_count first ≤ thread_count next
  pub few : thread_count next ≤ 8
  pub whole : IsWhole next

-- where none begins
pub none_begun : (n : ℕ) (first next : ProcessValue) → Follows n first next → thread_count next ≡ thread_count first → OthersStand n first next
none_begun n first next follows same = record {
  others = λ m differ. by m differ (nat_lt (thread_count first) m) refl;
  count = same;
}
  where
    by : (m : ℕ) → m ≢ n → (above : Bool) → nat_lt (thread_count first) m ≡ above → thread_at m next ≡ thread_at m first
    by m differ true above =
        let past : length first.threads < m = ltb-true (thread_count first) m above in
        let long : length next.threads ≡ length first.threads = same in
        numbered_past m next.threads (omega (arith, past, long)) ∙ sym (numbered_past m first.threads past)
    by m differ false above =
        let within : m ≤ thread_count first = ltb-false (thread_count first) m above in
        follows.others m differ within

-- ---- one that begins, where it can

record Begins (old new : ProcessValue) : Type 0 where
  name : new.name ≡ old.name
  attached : new.attached ≡ old.attached
  others : (m : ℕ) → m ≤ thread_count old → thread_at m new ≡ thread_at m old
  grown : thread_count old ≤ thread_count new
  few : thread_count new ≤ 8

begun_by : (entry argument : ℕ) (process : ProcessValue) (can : Bool) → can_begin entry process ≡ can → thread_count process ≤ 8
    → Begins process (cond can (record process { threads = process.threads ++ begun_thread entry argument ∷ [] }) process)
begun_by entry argument process false can few =
    let same : thread_count process ≤ thread_count process = omega arith in
    record { name = refl; attached = refl; others = λ m within. refl; grown = same; few = few }
begun_by entry argument process true can few =
    let next : ℕ = thread_count process + 1 in
    let number : begun_number entry process ≡ Some next = cond-true (can_begin entry process) (Some next) None can in
    let less : thread_count process < 8 = ltb-true (thread_count process) 8 (and_parts (nat_lt (thread_count process) 8) _ can).0 in
    let longer : ProcessValue = record process { threads = process.threads ++ begun_thread entry argument ∷ [] } in
    let same : with_begun entry argument process ≡ longer = cond-true (can_begin entry process) longer process can in
    let is = begins_one_thread entry argument next process number in
    let count : thread_count longer ≡ thread_count process + 1 = sym (ap thread_count same) ∙ is.2 in
    let more : thread_count process ≤ thread_count longer = omega (arith, count) in
    let most : thread_count longer ≤ 8 = omega (arith, count, less) in
    record {
      name = refl;
      attached = refl;
      others = λ m within. sym (ap (thread_at m) same) ∙ is.1.others m (λ e. omega (arith, within, e));
      grown = more;
      few = most;
    }

begins : (entry argument : ℕ) (process : ProcessValue) → thread_count process ≤ 8 → Begins process (with_begun entry argument process)
begins entry argument process few = begun_by entry argument process (can_begin entry process) refl few

-- ---- one instruction

-- what is left of the process but for its memory and whether it is whole
record Steps (n : ℕ) (first next : ProcessValue) : Type 0 where
  name : next.name ≡ first.name
  attached : next.attached ≡ first.attached
  others : (m : ℕ) → m ≢ n → m ≤ thread_count first → thread_at m next ≡ thread_at m first
  grown : thread_count first ≤ thread_count next
  few : thread_count next ≤ 8

unmoved : (n : ℕ) (process : ProcessValue) → thread_count process ≤ 8 → Steps n process process
unmoved n process few = record { name = refl; attached = refl; others = λ m differ within. refl; grown = omega arith; few = few }

step_by : (n : ℕ) (process : ProcessValue) (step : Step) → thread_count process ≤ 8 → Steps n process (stepped_by step n process)
step_by n process (goes_on cpu memory) few =
    let is = changes_one_thread (with_cpu cpu) n process in
    let next = stepped_by (goes_on cpu memory) n process in
    let count : thread_count next ≡ thread_count process = is.2 in
    let more : thread_count process ≤ thread_count next = omega (arith, count) in
    let most : thread_count next ≤ 8 = omega (arith, count, few) in
    record {
      name = refl;
      attached = refl;
      others = λ m differ within. is.1.others m differ;
      grown = more;
      few = most;
    }
step_by n process (ends code) few = unmoved n process few
step_by n process (spawns entry argument) few =
    let middle = with_begun entry argument process in
    let begun = begins entry argument process few in
    let is = changes_one_thread (with_result (result_for entry process)) n middle in
    let next = stepped_by (spawns entry argument) n process in
    let count : thread_count next ≡ thread_count middle = is.2 in
    let more : thread_count process ≤ thread_count next = omega (arith, count, begun.grown) in
    let most : thread_count next ≤ 8 = omega (arith, count, begun.few) in
    record {
      name = begun.name;
      attached = begun.attached;
      others = λ m differ within. is.1.others m differ ∙ begun.others m within;
      grown = more;
      few = most;
    }
step_by n process excepts few = unmoved n process few

steps_by : (n : ℕ) (process : ProcessValue) (found : Option Thread) → thread_count process ≤ 8 → Steps n process (stepped_at n found process)
steps_by n process None few = unmoved n process few
steps_by n process (Some thread) few = step_by n process (machine thread.cpu process.memory) few

-- of a process that follows a first one
pub one_more : (n : ℕ) (first process : ProcessValue) → Follows n first process → Follows n first (stepped n process)
one_more n first process follows =
    let steps = steps_by n process (thread_at n process) follows.few in
    record {
      name = steps.name ∙ follows.name;
      attached = steps.attached ∙ follows.attached;
      others = λ m differ within. steps.others m differ (omega (arith, within, follows.grown)) ∙ follows.others m differ within;
      grown = omega (arith, follows.grown, steps.grown);
      few = steps.few;
      whole = one_whole n process follows.whole;
    }

pub itself : (n : ℕ) (process : ProcessValue) → IsWhole process → thread_count process ≤ 8 → Follows n process process
itself n process whole few = record {
  name = refl;
  attached = refl;
  others = λ m differ within. refl;
  grown = omega arith;
  few = few;
  whole = whole;
}

-- ---- several

from_next : (n : ℕ) (first : ProcessValue) (count : ℕ) (next : Option ProcessValue) → IfSome next (Follows n first)
    → ((process : ProcessValue) → Follows n first process → AllByRecursion (Follows n first) (run_from n count process))
    → AllByRecursion (Follows n first) (option_map_or (λ process. process ∷ run_from n count process) next [])
from_next n first count None follows each = tt
from_next n first count (Some process) follows each = (follows, each process follows)

pub all_follow : (n : ℕ) (first : ProcessValue) (count : ℕ) (process : ProcessValue) → Follows n first process → AllByRecursion (Follows n first) (run_from n count process)
all_follow n first zero process follows = tt
all_follow n first (suc count) process follows =
    from_next n first count (next_of n process) (next_is (Follows n first) n process (one_more n first process follows)) (λ next is. all_follow n first count next is)

pub hit_follow : (n : ℕ) (first : ProcessValue) (bps : List Placed) (number : ℕ) (states : List ProcessValue) → AllByRecursion (Follows n first) states
    → AllByRecursion (Follows n first) (up_to_hit bps number n states)
hit_follow n first bps number [] all = tt
hit_follow n first bps number (state ∷ states) all =
    (all.0, all_if (Follows n first) (is_empty (hits_at bps number n state)) (up_to_hit bps number n states) (λ is. hit_follow n first bps number states all.1))

pub last_follows : (n : ℕ) (first process : ProcessValue) (states : List ProcessValue) → Follows n first process → AllByRecursion (Follows n first) states → Follows n first (last_of process states)
last_follows n first process [] follows all = follows
last_follows n first process (state ∷ states) follows all = last_follows n first state states all.0 all.1
