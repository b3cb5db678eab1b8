-- The commands of RunControl and Processes that change something: their events tell it.
use Rattle.std.proofs.Common.{◌≡◌, ℕ, ◌<◌, ◌≤◌, ◌^◌, ◌++◌, nat_le, nat_lt, Bool, true, false, true≢false, cond, List, [], ◌∷◌, filter, length, map, Option, Some, None, IfSome, option_map, refl, sym, ◌∙◌, ap, subst, arith, lit<}
use Rattle.std.specs.Prelude.{ℤ, is_none, option_and_then}
use Rattle.std.specs.List.{AllByRecursion}
use Rattle.std.specs.Option.{option_or}
use Rattle.std.proofs.lemmas.Bool.{ltb-false}
use Rattle.std.proofs.lemmas.List.{length-map}
use Rattle.list_laws.proofs.AllLists.{all_append, all_map_then}
use Rattle.breakpoints.specs.Counting.{forgotten}
use Rattle.breakpoints.specs.Laws.{forgetting}
use Rattle.breakpoints.specs.Rows.{IsOrderly as AreListed}
use Rattle.breakpoints.proofs.TheLaws.{steps_keep_order}
use Rattle.run_control.proofs.Counted.{forgotten_alone}
use Rattle.run_control.specs.Attaching.{attach_after, attach_events, attach_fault, attached, detach_after, detach_events, detach_fault, detached, start_events, start_fault, start_fault_for}
use Rattle.run_control.specs.Commands.{events_of, left_of, terminate_code, terminate_events}
use Rattle.run_control.specs.Ending.{end_after, terminate_fault}
use Rattle.run_control.specs.Asking.{process_fault}
use Rattle.run_control.specs.Naming.{process_named}
use Rattle.run_control.specs.Steering.{left_by, resume_after, resume_fault, suspend_after, suspend_events, suspend_fault, with_state}
use Rattle.run_control.specs.Telling.{added_events, all_resumed_events, all_suspended_events, changed_events, resumed_event, resumed_events, statuses_in, suspended_events}
use Rattle.command_tables.specs.Canonical.{AreBytes}
use Rattle.target_contexts.specs.Images.{image_of}
use Rattle.target_contexts.specs.Laws.{AgreeBut}
use Rattle.target_contexts.specs.Live.{process_of}
use Rattle.target_contexts.specs.Named.{is_suspended, number_named, process_at_number, stood_in, thread_named}
use Rattle.target_contexts.specs.Starting.{bytes_refusal, new_process, refusal_for, suspended_text, with_started}
use Rattle.target_contexts.specs.TargetsValue.{TargetsValue}
use Rattle.target_contexts.specs.ThreadList.{numbered}
use Rattle.target_contexts.specs.Threads.{count_in, in_thread, numbers_to, thread_at, thread_count}
use Rattle.target_contexts.specs.Whole.{IsWhole}
use Rattle.target_contexts.specs.declared.process.Image.{Image}
use Rattle.target_contexts.specs.ProcessValue.{ProcessValue}
use Rattle.target_contexts.specs.declared.targets.StartRefusal.{StartRefusal}
use Rattle.target_contexts.specs.declared.targets.StartRefusal.TheVariants as refusals
use Rattle.target_contexts.specs.declared.process.ThreadState.TheVariants.{Running, Suspended}
use Rattle.target_contexts.specs.declared.threads.Thread.{Thread}
use Rattle.target_hub.specs.Execution.{exec_after, exec_effect}
use Rattle.run_control.specs.TargetValue.{TargetValue}
use Rattle.target_truth.specs.Holds.{process_in}
use Rattle.target_contexts.proofs.TheLaws.{start_is_whole, start_stands, starts_one}
use Rattle.target_truth.proofs.Becoming.{change_stays, changed, changed_at, none_changed, others_stand, rests, stays, with_contexts}
use Rattle.target_truth.proofs.Live.{few_found, number_found, next_unused, none_found}
use Rattle.target_truth.proofs.First.{came, switched}
use Rattle.target_truth.proofs.FitRun.{attached_whole, cpu_found, found_image}
use Rattle.target_truth.proofs.Statuses.{statuses_told}
use Rattle.target_truth.proofs.Tells.{IsTold, Tell}
use Rattle.target_truth.proofs.Faults.{check_passed, run_by_fault}
use Rattle.target_truth.proofs.Telling.{all_suspended_so, end_told, ended, holder_is_there, if_there, if_thread, resumed_told, stopped_told}
use Rattle.target_truth.proofs.ContextLimits.{threads_fit}
use Rattle.target_truth.proofs.Threads.{numbered_map}
use Rattle.target_truth.proofs.Whole.{IsGood}
use Rattle.tcf_values.specs.Spelling.{IsNumber}
use Rattle.tcf_values.specs.declared.command.Command.{Command}
use Rattle.tcf_values.specs.declared.command.Command.TheVariants as commands
use Rattle.target_contexts.proofs.Found.{below}
use Rattle.target_hub.proofs.Told.{process_within as process_fits}

-- the events of a command of a channel tell what it changes
abbrev pub Tells : ℕ → Command → TargetValue → Type 0
Tells channel command target = Tell target (exec_after channel command target) (exec_effect channel command target).events

-- ---- resume and suspend

resume_told : (left : Option ℕ) (target : TargetValue) → IsGood target → (number n : ℕ) (old : ProcessValue) (thread : Thread) → process_in number target ≡ Some old → thread_at n old ≡ Some thread
    → Tell target (with_contexts (resume_after left number n target.contexts) target) (resumed_events number n)
resume_told left target good number n old thread there at =
    let change = with_state (Running left) in
    let new = in_thread change n old in
    let is = number_found target number old good there in
    let stand = others_stand change n old in
    let count : thread_count new ≡ thread_count old = stand.count in
    let few : thread_count new ≤ 8 = omega (arith, count, few_found target number old good there) in
    let now = with_contexts (resume_after left number n target.contexts) target in (
      resumed_told number n target now old new (change thread) left is few (change_stays (in_thread change n) number target old there refl refl) stand
          (changed_at change n old thread at) refl,
      tt,
    )

pub resume : (channel : ℕ) (id : List ℕ) (mode count : ℤ) (target : TargetValue) → IsGood target → Tells channel (commands.Resume id mode count) target
unfolding exec_after exec_effect
resume channel id mode count target good =
    run_by_fault (resume_fault id mode count target.contexts.processes) target _ _ (λ none.
    if_thread (λ contexts. with_contexts contexts target) (λ pair. resume_after (left_by mode count) pair.0 pair.1) (λ pair after. resumed_events pair.0 pair.1) target.contexts target (thread_named id) (check_passed _ _ _ none).0
    (λ pair old thread there at. resume_told (left_by mode count) target good pair.0 pair.1 old thread there at))

suspend_told : (target : TargetValue) → IsGood target → (number n : ℕ) (old : ProcessValue) (thread : Thread) → process_in number target ≡ Some old → thread_at n old ≡ Some thread
    → Tell target (with_contexts (suspend_after number n target.contexts) target) (suspend_events number n (suspend_after number n target.contexts))
suspend_told target good number n old thread there at =
    let change = with_state (Suspended suspended_text []) in
    let new = in_thread change n old in
    let becomes = changed (in_thread change n) number target.contexts old there in
    let is = number_found target number old good there in
    let stand = others_stand change n old in
    let count : thread_count new ≡ thread_count old = stand.count in
    let few : thread_count new ≤ 8 = omega (arith, count, few_found target number old good there) in
    let at_new = changed_at change n old thread at in
    let now = with_contexts (suspend_after number n target.contexts) target in
    subst (λ (o : Option ProcessValue). Tell target now (suspended_events number n (option_and_then (thread_at n) o))) (sym becomes.found)
    (subst (λ (o : Option Thread). Tell target now (suspended_events number n o)) (sym at_new) (
      stopped_told number n target now old new (change thread) suspended_text [] is few (cpu_found n old thread at (good.whole number old there)).pc
          (change_stays (in_thread change n) number target old there refl refl) stand at_new refl,
      tt,
    ))

pub suspend : (channel : ℕ) (id : List ℕ) (target : TargetValue) → IsGood target → Tells channel (commands.Suspend id) target
unfolding exec_after exec_effect
suspend channel id target good =
    run_by_fault (suspend_fault id target.contexts.processes) target _ _ (λ none.
    if_thread (λ contexts. with_contexts contexts target) (λ pair. suspend_after pair.0 pair.1) (λ pair after. suspend_events pair.0 pair.1 after) target.contexts target (thread_named id) (check_passed _ _ _ none).0
    (λ pair old thread there at. suspend_told target good pair.0 pair.1 old thread there at))

-- ---- the counts of hits in a process are dropped

forgotten_listed : (number : ℕ) (target : TargetValue) → IsGood target → AreListed (forgotten number target.breakpoints)
forgotten_listed number target good = steps_keep_order (forgetting number) target.breakpoints good.consistent.breakpoints

-- ---- the end of a process

terminate_told : (target : TargetValue) → IsGood target → (number : ℕ) (old : ProcessValue) → process_in number target ≡ Some old
    → Tell target (end_after number target) (terminate_events number target (end_after number target))
terminate_told target good number old there =
    let is = number_found target number old good there in
    let count : ℕ = count_in (process_of number target.contexts.processes) in
    let same : count ≡ thread_count old = ap count_in there in
    end_told number count target (end_after number target) terminate_code is (omega (arith, same, few_found target number old good there))
    (λ process at. let counted : count ≡ thread_count process = ap count_in at in omega (arith, counted))
    (forgotten_alone number target.breakpoints) (forgotten_listed number target good) (ended number target.contexts good.consistent.processes) (lit< {m = 0} {n = 2 ^ 63} tt)

pub terminate : (channel : ℕ) (id : List ℕ) (target : TargetValue) → IsGood target → Tells channel (commands.Terminate id) target
unfolding exec_after exec_effect
terminate channel id target good =
    run_by_fault (terminate_fault id target.contexts.processes) target _ _ (λ none.
    if_there end_after (λ number after. terminate_events number target after) target (number_named id)
    (holder_is_there id target.contexts.processes (check_passed _ _ _ none).0) (terminate_told target good))

pub terminate_process : (channel : ℕ) (id : List ℕ) (target : TargetValue) → IsGood target → Tells channel (commands.ProcTerminate id) target
unfolding exec_after exec_effect
terminate_process channel id target good =
    run_by_fault (process_fault id target.contexts.processes) target _ _ (λ none.
    if_there end_after (λ number after. terminate_events number target after) target (process_named id) (check_passed _ _ _ none).0 (terminate_told target good))

-- ---- start

-- whatever process it is that starts: its suspension is told behind it, where its threads are suspended
started_told : (process : ProcessValue) (contexts : TargetsValue) (target : TargetValue) → IsGood target → IsNumber target.contexts.next → IsWhole process → thread_count process ≤ 8
    → process_of target.contexts.next contexts.processes ≡ Some process → AgreeBut target.contexts.next target.contexts.processes contexts.processes
    → Tell target (with_contexts contexts target) (start_events target.contexts.next (with_contexts contexts target))
started_told process contexts target good is whole few there others =
    let next = target.contexts.next in
    let now = with_contexts contexts target in
    let statuses = statuses_told now good.consistent.breakpoints in
    subst (λ (o : Option ProcessValue). Tell target now (added_events next o ++ (all_suspended_events next o ++ statuses_in now))) (sym there) (
      record {
        limits = (process_fits next process, threads_fit next _ _ process);
        typed = tt;
        leads = came next target now process is few (record { others = others; breakpoints = refl })
            (none_found next target.contexts.processes (next_unused next target.contexts.processes good.consistent.processes)) there;
      },
      all_append (IsTold now now) (all_suspended_events next (Some process)) (statuses_in now) (all_suspended_so next now process is few whole there) statuses,
    )

-- no refusal is due, so its bytes aren't refused and there is a number left
room : (full : Bool) (refused : Option StartRefusal) (spent : Bool) → option_map start_fault_for (cond full (Some refusals.Full) (option_or refused (cond spent (Some refusals.Numbers) None))) ≡ None
    → (refused ≡ None) × (spent ≡ false)
room true refused spent none = absurd cc
room false (Some refusal) spent none = absurd cc
room false None true none = absurd cc
room false None false none = (refl, refl)

start_of : (image : Option Image) (attach : Bool) (target : TargetValue) → IsGood target → IfSome image (λ found. AreBytes found.bytes)
    → option_map start_fault_for (refusal_for image (length target.contexts.processes) target.contexts.next) ≡ None
    → Tell target (with_contexts (with_started attach target.contexts image) target) (start_events target.contexts.next (with_contexts (with_started attach target.contexts image) target))
start_of None attach target good are none = absurd cc
start_of (Some image) attach target good are none =
    let next = target.contexts.next in
    let in_order = good.consistent.processes in
    let process = new_process attach image in
    let starts = starts_one target.contexts.processes next process in_order in
    let least : 0 < next = below target.contexts.processes 0 next in_order.rising in
    let free = room (nat_le 64 (length target.contexts.processes)) (bytes_refusal image.bytes) (nat_lt 4294967295 next) none in
    let most : next ≤ 4294967295 = ltb-false 4294967295 next free.1 in
    let whole = start_is_whole attach image are free.0 in
    let one : thread_count process ≡ 1 = ap length (start_stands attach image) in
    started_told process (with_started attach target.contexts (Some image)) target good (omega arith, omega arith) whole (omega (arith, one)) starts.0 starts.1

pub start : (channel : ℕ) (directory file : List ℕ) (args environment : List (List ℕ)) (attach : Bool) (target : TargetValue) → IsGood target
    → Tells channel (commands.ProcStart directory file args environment attach) target
unfolding exec_after exec_effect
start channel directory file args environment attach target good =
    run_by_fault (start_fault file target.contexts) target _ _
    (start_of (image_of file target.contexts.images) attach target good (found_image file target.contexts.images good.images))

-- ---- attach and detach

-- all threads are changed, and none comes or goes
all_changed : (change : Thread → Thread) (old new : ProcessValue) → new.threads ≡ map change old.threads → thread_count new ≡ thread_count old
all_changed change old new same = ap length same ∙ length-map old.threads change

attach_told : (target : TargetValue) → IsGood target → (number : ℕ) (old : ProcessValue) → process_in number target ≡ Some old
    → Tell target (attach_after number target) (attach_events number (attach_after number target))
attach_told target good number old there =
    let new = attached old in
    let now = attach_after number target in
    let becomes = changed attached number target.contexts old there in
    let is = number_found target number old good there in
    let count : thread_count new ≡ thread_count old = all_changed (with_state (Suspended suspended_text [])) old new refl in
    let few : thread_count new ≤ 8 = omega (arith, count, few_found target number old good there) in
    subst (λ (o : Option ProcessValue). Tell target now (changed_events number o ++ (all_suspended_events number o ++ statuses_in now))) (sym becomes.found) (
      record {
        limits = threads_fit number _ _ new;
        typed = tt;
        leads = switched number target now old new is few count (stays number target now old new there becomes refl (forgotten_alone number target.breakpoints));
      },
      all_append (IsTold now now) (all_suspended_events number (Some new)) (statuses_in now)
          (all_suspended_so number now new is few (attached_whole old (good.whole number old there)) becomes.found) (statuses_told now (forgotten_listed number target good)),
    )

pub attach : (channel : ℕ) (id : List ℕ) (target : TargetValue) → IsGood target → Tells channel (commands.ProcAttach id) target
unfolding exec_after exec_effect
attach channel id target good =
    run_by_fault (attach_fault id target.contexts.processes) target _ _ (λ none.
    if_there attach_after attach_events target (process_named id) (check_passed _ _ _ none).0 (attach_told target good))

-- each number that passes a test
all_passing : {A : Type 0} (P : A → Type 0) (test : A → Bool) (items : List A) → ((item : A) → test item ≡ true → P item) → AllByRecursion P (filter test items)
all_passing P test [] each = tt
all_passing P test (item ∷ items) each = by (test item) refl (all_passing P test items each)
  where
    by : (passes : Bool) → test item ≡ passes → AllByRecursion P (filter test items) → AllByRecursion P (cond passes (item ∷ filter test items) (filter test items))
    by true is rest = (each item is, rest)
    by false is rest = rest

-- a thread that stood is there, and runs now
resumed_by : (number n : ℕ) (now : TargetValue) (old new : ProcessValue) (found : Option Thread) → IsNumber number → thread_count new ≤ 8 → process_in number now ≡ Some new
    → new.threads ≡ map (with_state (Running None)) old.threads → numbered n old.threads ≡ found → is_suspended found ≡ true → IsTold now now (resumed_event number n)
resumed_by number n now old new None is few there same at stood = absurd (true≢false (sym stood))
resumed_by number n now old new (Some thread) is few there same at stood =
    let change = with_state (Running None) in
    let at_new : thread_at n new ≡ Some (change thread) = ap (numbered n) same ∙ numbered_map change n old.threads ∙ ap (option_map change) at in
    resumed_told number n now now new new (change thread) None is few (rests [] number now new there) (none_changed n new) at_new refl

all_resumed_so : (number : ℕ) (now : TargetValue) (old new : ProcessValue) → IsNumber number → thread_count new ≤ 8 → process_in number now ≡ Some new
    → new.threads ≡ map (with_state (Running None)) old.threads → AllByRecursion (IsTold now now) (all_resumed_events number (Some old))
all_resumed_so number now old new is few there same =
    all_map_then (IsTold now now) (λ n. is_suspended (numbered n old.threads) ≡ true) (resumed_event number) (stood_in old.threads)
    (λ n stood. resumed_by number n now old new (numbered n old.threads) is few there same refl stood)
    (all_passing (λ n. is_suspended (numbered n old.threads) ≡ true) (λ n. is_suspended (numbered n old.threads)) (numbers_to (length old.threads)) (λ n stood. stood))

detach_told : (was : Option ProcessValue) (target : TargetValue) → IsGood target → (number : ℕ) (old : ProcessValue) → was ≡ Some old → process_in number target ≡ Some old
    → Tell target (detach_after number target) (detach_events was number (detach_after number target))
detach_told was target good number old before there =
    let new = detached old in
    let now = detach_after number target in
    let becomes = changed detached number target.contexts old there in
    let is = number_found target number old good there in
    let count : thread_count new ≡ thread_count old = all_changed (with_state (Running None)) old new refl in
    let few : thread_count new ≤ 8 = omega (arith, count, few_found target number old good there) in
    subst (λ (w : Option ProcessValue). Tell target now (detach_events w number now)) (sym before)
    (subst (λ (o : Option ProcessValue). Tell target now (changed_events number o ++ (all_resumed_events number (Some old) ++ statuses_in now))) (sym becomes.found) (
      record {
        limits = threads_fit number _ _ new;
        typed = tt;
        leads = switched number target now old new is few count (stays number target now old new there becomes refl (forgotten_alone number target.breakpoints));
      },
      all_append (IsTold now now) (all_resumed_events number (Some old)) (statuses_in now)
          (all_resumed_so number now old new is few becomes.found refl) (statuses_told now (forgotten_listed number target good)),
    ))

-- the process that was there is the one that is named
detach_named : (target : TargetValue) (named : Option ℕ) → IsGood target → is_none (process_at_number named target.contexts.processes) ≡ false
    → (let now : TargetValue = left_of detach_after named target in
    Tell target now (events_of (λ number. detach_events (process_at_number named target.contexts.processes) number now) named))
detach_named target None good is = absurd cc
detach_named target (Some number) good is = by (process_of number target.contexts.processes) refl is
  where
    by : (found : Option ProcessValue) → process_of number target.contexts.processes ≡ found → is_none found ≡ false
        → Tell target (detach_after number target) (detach_events (process_of number target.contexts.processes) number (detach_after number target))
    by None there some = absurd cc
    by (Some old) there some = detach_told (process_of number target.contexts.processes) target good number old there there

pub detach : (channel : ℕ) (id : List ℕ) (target : TargetValue) → IsGood target → Tells channel (commands.ProcDetach id) target
unfolding exec_after exec_effect
detach channel id target good =
    run_by_fault (detach_fault id target.contexts.processes) target _ _ (λ none. detach_named target (process_named id) good (check_passed _ _ _ none).0)
