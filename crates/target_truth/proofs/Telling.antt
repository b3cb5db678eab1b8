-- What several commands tell: a thread stops, goes on, or ends with its process; and of the process or thread that an ID
-- names.
use Rattle.std.proofs.Common.{◌≡◌, ℕ, ◌≤◌, ◌<◌, ◌^◌, false, List, [], ◌∷◌, Option, Some, None, option_map, refl}
use Rattle.std.specs.Prelude.{ℤ, is_none, option_and_then}
use Rattle.std.specs.List.{AllByRecursion, flat_map}
use Rattle.breakpoints.specs.Rows.{IsOrderly as AreListed}
use Rattle.json_args.specs.Kinds.{IsWhole}
use Rattle.list_laws.proofs.AllLists.{all_append}
use Rattle.run_control.specs.Commands.{events_of, left_of}
use Rattle.run_control.specs.Ending.{end_events, ended as without_process}
use Rattle.run_control.specs.Laws.{uncounted}
use Rattle.run_control.specs.Naming.{process_id, thread_id}
use Rattle.run_control.specs.Telling.{all_suspended_events, stop_events, suspended_events}
use Rattle.target_contexts.specs.Laws.{AgreeBut}
use Rattle.target_contexts.specs.Live.{IsOrderly, process_of}
use Rattle.target_contexts.specs.Named.{holder_for, holder_named, number_for, number_named, process_at_number, thread_at_pair}
use Rattle.target_contexts.specs.TargetsValue.{TargetsValue}
use Rattle.target_contexts.specs.ProcessValue.{ProcessValue}
use Rattle.target_contexts.specs.Threads.{holding, thread_at, thread_count, thread_numbers}
use Rattle.target_contexts.specs.Whole.{IsWhole as IsWholeProcess}
use Rattle.target_contexts.specs.declared.process.ThreadState.{ThreadState}
use Rattle.target_contexts.specs.declared.process.ThreadState.TheVariants.{Running, Suspended}
use Rattle.target_contexts.specs.declared.threads.Thread.{Thread}
use Rattle.run_control.specs.TargetValue.{TargetValue}
use Rattle.target_truth.specs.Holds.{process_in}
use Rattle.target_contexts.proofs.TheLaws.{ends_one}
use Rattle.target_truth.proofs.Becoming.{none_changed, rests}
use Rattle.target_truth.proofs.First.{OthersStand, StaysAttached, exited, stopped, went, went_on}
use Rattle.target_truth.proofs.FitRun.{cpu_found}
use Rattle.target_truth.proofs.Live.{none_found}
use Rattle.target_truth.proofs.Statuses.{statuses_told}
use Rattle.target_truth.proofs.Tells.{IsTold, Tell}
use Rattle.tcf_values.specs.Ids.{context_of}
use Rattle.tcf_values.specs.Spelling.{IsNumber}
use Rattle.tcf_values.specs.declared.event.EventData.{EventData}
use Rattle.tcf_values.specs.declared.event.EventData.TheVariants as events
use Rattle.tcf_values.specs.declared.ids.ContextId.{ContextId}
use Rattle.tcf_values.specs.declared.ids.ContextId.TheVariants as contexts

-- ---- a process that is named is there

there_by : {P : Type 0} (found : Option ProcessValue) → is_none found ≡ false → ((process : ProcessValue) → found ≡ Some process → P) → P
there_by None is each = absurd cc
there_by (Some process) is each = each process refl

pub if_there : (after : ℕ → TargetValue → TargetValue) (told : ℕ → TargetValue → List EventData) (target : TargetValue) (named : Option ℕ)
    → is_none (process_at_number named target.contexts.processes) ≡ false
    → ((number : ℕ) (process : ProcessValue) → process_in number target ≡ Some process → Tell target (after number target) (told number (after number target)))
    → Tell target (left_of after named target) (events_of (λ number. told number (left_of after named target)) named)
if_there after told target None is each = absurd cc
if_there after told target (Some number) is each =
    there_by {P = Tell target (after number target) (told number (after number target))} (process_in number target) is (each number)

-- so it is where a thread of it is named, or the process itself
process_holds : (n : ℕ) (found : Option ProcessValue) → is_none (holding n found) ≡ false → is_none found ≡ false
process_holds n None is = is
process_holds n (Some process) is = refl

holder_there : (rows : List (ℕ × ProcessValue)) (context : Option ContextId) → is_none (option_and_then (λ c. holder_for c rows) context) ≡ false
    → is_none (process_at_number (option_map number_for context) rows) ≡ false
holder_there rows None is = absurd cc
holder_there rows (Some (contexts.Process number)) is = is
holder_there rows (Some (contexts.Thread number n)) is = process_holds n (process_of number rows) is

pub holder_is_there : (id : List ℕ) (rows : List (ℕ × ProcessValue)) → is_none (holder_named id rows) ≡ false → is_none (process_at_number (number_named id) rows) ≡ false
holder_is_there id rows is = holder_there rows (context_of id) is

-- ---- a thread that is named is there

thread_by : {P : Type 0} (n : ℕ) (found : Option ProcessValue) → is_none (option_and_then (thread_at n) found) ≡ false
    → ((process : ProcessValue) (thread : Thread) → found ≡ Some process → thread_at n process ≡ Some thread → P) → P
thread_by n None is each = absurd cc
thread_by {P = P} n (Some process) is each = by (thread_at n process) refl is
  where
    by : (thread : Option Thread) → thread_at n process ≡ thread → is_none thread ≡ false → P
    by None there is = absurd cc
    by (Some thread) there is = each process thread refl there

-- whatever of the target a command changes
pub if_thread : {T : Type 0} → (whole : T → TargetValue) (after : ℕ × ℕ → T → T) (told : ℕ × ℕ → T → List EventData) (before : T) (target : TargetValue) (named : Option (ℕ × ℕ))
    → is_none (thread_at_pair named target.contexts.processes) ≡ false
    → ((pair : ℕ × ℕ) (process : ProcessValue) (thread : Thread) → process_in pair.0 target ≡ Some process → thread_at pair.1 process ≡ Some thread
    → Tell target (whole (after pair before)) (told pair (after pair before)))
    → Tell target (whole (left_of after named before)) (events_of (λ pair. told pair (left_of after named before)) named)
if_thread whole after told before target None is each = absurd cc
if_thread whole after told before target (Some pair) is each =
    thread_by {P = Tell target (whole (after pair before)) (told pair (after pair before))} pair.1 (process_in pair.0 target) is (each pair)

-- ---- a thread that stops or goes on

pub stopped_told : (number n : ℕ) (before now : TargetValue) (old new : ProcessValue) (thread : Thread) (reason : List ℕ) (hits : List (List ℕ)) → IsNumber number → thread_count new ≤ 8
    → thread.cpu.pc < 2 ^ 32 → StaysAttached hits number before now old new → OthersStand n old new → thread_at n new ≡ Some thread → thread.state ≡ Suspended reason hits
    → IsTold before now (events.Suspended (thread_id number n) thread.cpu.pc reason hits)
stopped_told number n before now old new thread reason hits is few pc stays stand there suspended = record {
  limits = tt;
  typed = pc;
  leads = stopped number n before now old new thread reason hits is few stays stand there suspended;
}

pub resumed_told : (number n : ℕ) (before now : TargetValue) (old new : ProcessValue) (thread : Thread) (left : Option ℕ) → IsNumber number → thread_count new ≤ 8
    → StaysAttached [] number before now old new → OthersStand n old new → thread_at n new ≡ Some thread → thread.state ≡ Running left
    → IsTold before now (events.Resumed (thread_id number n))
resumed_told number n before now old new thread left is few stays stand there running = record {
  limits = tt;
  typed = tt;
  leads = went_on number n before now old new thread left is few stays stand there running;
}

-- ---- that threads are suspended, told behind another event

stop_so : (number n : ℕ) (now : TargetValue) (process : ProcessValue) (thread : Thread) (state : ThreadState) → IsNumber number → thread_count process ≤ 8 → process_in number now ≡ Some process
    → thread.cpu.pc < 2 ^ 32 → thread_at n process ≡ Some thread → thread.state ≡ state → AllByRecursion (IsTold now now) (stop_events number n thread.cpu.pc state)
stop_so number n now process thread (Running left) is few there pc at same = tt
stop_so number n now process thread (Suspended reason hits) is few there pc at same =
    (stopped_told number n now now process process thread reason hits is few pc (rests hits number now process there) (none_changed n process) at same, tt)

suspended_by : (number n : ℕ) (now : TargetValue) (process : ProcessValue) (found : Option Thread) → IsNumber number → thread_count process ≤ 8 → IsWholeProcess process → process_in number now ≡ Some process
    → thread_at n process ≡ found → AllByRecursion (IsTold now now) (suspended_events number n found)
suspended_by number n now process None is few whole there at = tt
suspended_by number n now process (Some thread) is few whole there at =
    stop_so number n now process thread thread.state is few there (cpu_found n process thread at whole).pc at refl

pub suspended_so : (number n : ℕ) (now : TargetValue) (process : ProcessValue) → IsNumber number → thread_count process ≤ 8 → IsWholeProcess process → process_in number now ≡ Some process
    → AllByRecursion (IsTold now now) (suspended_events number n (thread_at n process))
suspended_so number n now process is few whole there = suspended_by number n now process (thread_at n process) is few whole there refl

flat_all : {A B : Type 0} (P : B → Type 0) (make : A → List B) (items : List A) → ((item : A) → AllByRecursion P (make item)) → AllByRecursion P (flat_map make items)
flat_all P make [] each = tt
flat_all P make (item ∷ items) each = all_append P (make item) (flat_map make items) (each item) (flat_all P make items each)

-- those of a process, in order
pub all_suspended_so : (number : ℕ) (now : TargetValue) (process : ProcessValue) → IsNumber number → thread_count process ≤ 8 → IsWholeProcess process → process_in number now ≡ Some process
    → AllByRecursion (IsTold now now) (all_suspended_events number (Some process))
all_suspended_so number now process is few whole there =
    flat_all (IsTold now now) (λ n. suspended_events number n (thread_at n process)) (thread_numbers process) (λ n. suspended_so number n now process is few whole there)

-- ---- a process that ends

pub record Ended (number : ℕ) (old new : TargetsValue) : Type 0 where
  pub gone : process_of number new.processes ≡ None
  pub others : AgreeBut number old.processes new.processes

pub ended : (number : ℕ) (targets : TargetsValue) → IsOrderly targets.processes targets.next → Ended number targets (without_process number targets)
ended number targets orderly =
    let is = ends_one targets.processes targets.next number orderly in
    record { gone = none_found number (without_process number targets).processes is.0; others = is.1 }

-- the target then has the same breakpoints, maybe with other counts
pub end_told : (number count : ℕ) (target now : TargetValue) (code : ℤ) → IsNumber number → count ≤ 8
    → ((process : ProcessValue) → process_in number target ≡ Some process → thread_count process ≤ count) → uncounted now.breakpoints ≡ uncounted target.breakpoints → AreListed now.breakpoints
    → Ended number target.contexts now.contexts → IsWhole code → Tell target now (end_events number count code now)
end_told number count target now code is few most same orderly ended whole = (
  record { limits = tt; typed = tt; leads = went number count target now is few most (record { others = ended.others; breakpoints = same }) ended.gone },
  (record { limits = whole; typed = tt; leads = exited now (process_id number) code }, statuses_told now orderly),
)
