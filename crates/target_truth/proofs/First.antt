-- The first message of an input: it tells what has changed. And what is told behind it, of a target that stays.
use Rattle.std.proofs.Common.{◌≡◌, ℕ, ◌+◌, ◌-◌, ◌≤◌, ◌<◌, cond, List, [], ◌∷◌, ◌++◌, map, Option, Some, None, inr, refl, sym, ap, ◌∙◌, subst, arith, ◌==◌, length}
use Rattle.std.specs.Prelude.{ℤ, option_map}
use Rattle.std.specs.List.{AllByRecursion, range_with_len}
use Rattle.std.proofs.lemmas.Bool.{cond-true}
use Rattle.knowledge.specs.Changes.{Change, bytes_gone, context_gone, context_told, of_each, register_read, status_told, statuses_gone, threads_stale, threads_told}
use Rattle.knowledge.specs.Facts.{status_is}
use Rattle.knowledge.specs.Rows.{added_context, added_contexts, begun, begun_for, changed_context, event_changes, hit_breakpoint, joined, joined_for, moved_for, removed_context, stale_for, told_properties, unlisted_for, unsettled, unsettled_for}
use Rattle.knowledge.specs.declared.state.StateFact.TheVariants as told
use Rattle.list_laws.proofs.AllLists.{all_append}
use Rattle.list_laws.proofs.Numbers.{number_itself}
use Rattle.run_control.specs.Naming.{process_id, thread_id, thread_ids}
use Rattle.target_contexts.specs.Contexts.{process_data, thread_data, threads_data, whole_data}
use Rattle.breakpoints.specs.Status.{status_of}
use Rattle.target_contexts.specs.Named.{attached_in, runs}
use Rattle.target_contexts.specs.ProcessValue.{ProcessValue}
use Rattle.target_contexts.specs.Threads.{holding, thread_at, thread_count}
use Rattle.target_contexts.specs.declared.process.ThreadState.{ThreadState}
use Rattle.target_contexts.specs.declared.process.ThreadState.TheVariants.{Running, Suspended}
use Rattle.target_contexts.specs.declared.threads.Thread.{Thread}
use Rattle.run_control.specs.TargetValue.{TargetValue}
use Rattle.target_truth.specs.Holds.{data_in, process_in, state_fact}
use Rattle.target_truth.proofs.Accounts.{added_all, added_ids, behind_accounts, changes_added, changes_gone, changes_joined, changes_moved, changes_switched, goes, gone_accounts, joined_accounts, joins, moved_accounts, none_accounts, process_goes, running_accounts, switched_accounts, switches, tells, unsettles}
use Rattle.target_truth.proofs.Agree.{IsTouched, data_named, led_at}
use Rattle.target_truth.proofs.Changes.{IsSaid, is_bytes, touches}
use Rattle.target_truth.proofs.BreakpointsTold.{hit_list, hit_plain, hit_quiet, hit_said, hit_touched, told_list, told_lists, told_none, told_one_touched, told_so, told_touched_status}
use Rattle.target_truth.proofs.Differs.{by_changes, none_touched, status_same}
use Rattle.target_truth.proofs.Origins.{ListsOne, no_lists}
use Rattle.target_truth.proofs.Ranged.{Fails, any_left, any_right, each_append, none_passes, ranged, ranged_all, ranged_is}
use Rattle.target_truth.proofs.Seen.{number_of, number_seen, seen, state_seen}
use Rattle.target_truth.proofs.ThreadIds.{process_named, thread_named}
use Rattle.target_truth.proofs.Threads.{numbered_there, numbered_within, state_told, there_held}
use Rattle.tcf_values.specs.Ids.{context_of}
use Rattle.tcf_values.specs.Spelling.{IsNumber}
use Rattle.tcf_values.specs.declared.event.EventData.TheVariants as events
use Rattle.tcf_values.specs.declared.ids.ContextId.TheVariants as contexts
use Rattle.tcf_values.specs.declared.values.BpProps.{BpProps}
use Rattle.tcf_values.specs.declared.values.BpStatus.{BpStatus}
use Rattle.tcf_values.specs.declared.values.ContextData.{ContextData}
use Rattle.tcf_values.specs.declared.values.RunState.TheVariants as run
-- those of memory, registers and breakpoints
pub use Rattle.target_truth.proofs.Accounts.{ButRegisters, IsRunningAt, OthersStand, without_cpus}
pub use Rattle.target_truth.proofs.Differs.{Leads, DiffersAt, StatusesStay, Stays, StaysAttached}
pub use Rattle.target_truth.proofs.FirstData.{ButCpus, memory_set, register_set, registers_set}
pub use Rattle.target_truth.proofs.FirstBreakpoints.{AreThere, OthersStay, changed, put, status_is_so, taken_out}

-- ---- what is told of a process and its threads is so

process_so : (number : ℕ) (now : TargetValue) (process : ProcessValue) → IsNumber number → process_in number now ≡ Some process
    → data_in (process_id number) now ≡ Some (process_data number process)
process_so number now process is there =
    data_named (process_id number) (contexts.Process number) now (process_named number is) ∙ ap (option_map (λ p. process_data number p)) there

thread_so : (number n : ℕ) (now : TargetValue) (process : ProcessValue) → IsNumber number → process_in number now ≡ Some process → thread_count process ≤ 8 → 1 ≤ n → n ≤ thread_count process
    → data_in (thread_id number n) now ≡ Some (thread_data number n process)
thread_so number n now process is there few low high =
    data_named (thread_id number n) (contexts.Thread number n) now (thread_named number n is (low, omega (arith, high, few)))
    ∙ ap (λ p. option_map (λ q. thread_data number n q) (holding n p)) there
    ∙ there_held number n process (numbered_there n process.threads low high)

-- ---- contexts that are new

-- the changes of each kind that a list of threads makes
added_is : (number : ℕ) (process : ProcessValue) (a count : ℕ) → IsNumber number → 1 ≤ a → a + count ≤ 9
    → (let list : List ContextData = map (λ n. thread_data number n process) (range_with_len a count) in
    (of_each added_context list ≡ ranged (tells number process) a count) × (of_each unsettled list ≡ ranged (λ n. unsettles number) a count)
    × (of_each begun list ≡ ranged (λ n. []) a count) × (of_each joined list ≡ ranged (joins number) a count))
added_is number process a count is some few =
    let named : (n : ℕ) → a ≤ n → n < a + count → context_of (thread_id number n) ≡ Some (contexts.Thread number n) =
    λ n low high. thread_named number n is (omega (arith, low, some), omega (arith, high, few)) in
    let item : ℕ → ContextData = λ n. thread_data number n process in (
      ranged_is added_context item (tells number process) a count (λ n low high. refl),
      ranged_is unsettled item (λ n. unsettles number) a count (λ n low high. ap unsettled_for (named n low high)),
      ranged_is begun item (λ n. []) a count (λ n low high. ap begun_for (named n low high)),
      ranged_is joined item (joins number) a count (λ n low high. ap (joined_for (thread_id number n)) (named n low high)),
    )

abbrev in_order : List Change → List Change → List Change → List Change → List Change
in_order told unsettled begun joined = told ++ (unsettled ++ (begun ++ (joined ++ statuses_gone ∷ [])))

same_four : (a b c d w x y z : List Change) → a ≡ w → b ≡ x → c ≡ y → d ≡ z → in_order a b c d ≡ in_order w x y z
same_four a b c d w x y z one two three four =
    ap (λ l. in_order l b c d) one ∙ ap (λ l. in_order w l c d) two ∙ ap (λ l. in_order w x l d) three ∙ ap (λ l. in_order w x y l) four

-- ---- a process comes, with so many threads

abbrev came_changes : ℕ → ProcessValue → ℕ → List Change
came_changes number process count =
    changes_added (context_told (process_id number) (process_data number process) ∷ []) (threads_stale number ∷ bytes_gone number ∷ []) (threads_told number [] ∷ []) number process 1 count

came_is : (number : ℕ) (process : ProcessValue) (count : ℕ) → IsNumber number → count ≤ 8
    → added_contexts (process_data number process ∷ map (λ n. thread_data number n process) (range_with_len 1 count)) ≡ came_changes number process count
came_is number process count is few =
    let list : List ContextData = map (λ n. thread_data number n process) (range_with_len 1 count) in
    let all = added_is number process 1 count is (omega arith) (omega (arith, few)) in
    let named = process_named number is in
    same_four (of_each added_context (process_data number process ∷ list)) (of_each unsettled (process_data number process ∷ list))
    (of_each begun (process_data number process ∷ list)) (of_each joined (process_data number process ∷ list))
    ((context_told (process_id number) (process_data number process) ∷ []) ++ ranged (tells number process) 1 count)
    ((threads_stale number ∷ bytes_gone number ∷ []) ++ ranged (λ n. unsettles number) 1 count) ((threads_told number [] ∷ []) ++ ranged (λ n. []) 1 count) (ranged (joins number) 1 count)
    (ap (λ l. context_told (process_id number) (process_data number process) ∷ l) all.0)
    (ap (λ c. unsettled_for c ++ of_each unsettled list) named ∙ ap (λ l. threads_stale number ∷ bytes_gone number ∷ l) all.1)
    (ap (λ c. begun_for c ++ of_each begun list) named ∙ ap (λ l. threads_told number [] ∷ l) all.2)
    (ap (λ c. joined_for (process_id number) c ++ of_each joined list) named ∙ all.3)

last_statuses : (front stale begun : List Change) (number : ℕ) (process : ProcessValue) (a count : ℕ) (id : List ℕ) (x : BpStatus) → IsTouched (changes_added front stale begun number process a count) (status_is id x)
last_statuses front stale begun number process a count id x =
    let test = touches (status_is id x) in
    any_right test (front ++ ranged (tells number process) a count) _
    (any_right test (stale ++ ranged (λ n. unsettles number) a count) _
    (any_right test (begun ++ ranged (λ n. []) a count) _ (any_right test (ranged (joins number) a count) (statuses_gone ∷ []) refl)))

came_by : (number : ℕ) (before now : TargetValue) (process : ProcessValue) (count : ℕ) → IsNumber number → count ≤ 8 → thread_count process ≡ count → DiffersAt number before now
    → process_in number before ≡ None → process_in number now ≡ Some process
    → Leads before now (events.CtxAdded (process_data number process ∷ map (λ n. thread_data number n process) (range_with_len 1 count)))
came_by number before now process count is few counted differs none some =
    let list : List ContextData = process_data number process ∷ map (λ n. thread_data number n process) (range_with_len 1 count) in
    let front : List Change = context_told (process_id number) (process_data number process) ∷ [] in
    let stale : List Change = threads_stale number ∷ bytes_gone number ∷ [] in
    let begin : List Change = threads_told number [] ∷ [] in
    let changes : List Change = changes_added front stale begin number process 1 count in
    let none_before : 0 + count ≡ count = omega arith in
    by_changes before now (events.CtxAdded list) changes (came_is number process count is few)
    (led_at number before now None (Some process) changes
    (added_all (IsSaid now) front stale begin number process 1 count (process_so number now process is some, tt) (tt, (tt, tt)) (tt, tt)
    (λ n low high. thread_so number n now process is some (omega (arith, few, counted)) low (omega (arith, high, counted))) tt tt (λ n. tt) tt)
    (none_passes is_bytes changes
    (added_all (Fails is_bytes) front stale begin number process 1 count (refl, tt) (refl, (refl, tt)) (refl, tt) (λ n low high. refl) refl refl (λ n. refl) refl))
    (added_all (ListsOne number) front stale begin number process 1 count (tt, tt) (tt, (tt, tt)) (refl, tt) (λ n low high. tt) tt tt (λ n. refl) tt)
    differs.others differs.breakpoints none some
    (none_accounts number (Some process) changes (λ ids told.
    ap (λ n. Some (thread_ids number n)) (counted ∙ sym none_before)
    ∙ sym (added_ids front stale begin number 0 count process None is (omega (arith, few)) (λ known. refl) (λ known. refl) (cond-true (number == number) (Some []) None (number_itself number))) ∙ told))
    (λ id x knows. inr (last_statuses front stale begin number process 1 count id x)))

pub came : (number : ℕ) (before now : TargetValue) (process : ProcessValue) → IsNumber number → thread_count process ≤ 8 → DiffersAt number before now
    → process_in number before ≡ None → process_in number now ≡ Some process
    → Leads before now (events.CtxAdded (whole_data number process))
came number before now process is few differs none some =
    let same : thread_count process - 0 ≡ thread_count process = omega arith in
    subst (λ count. Leads before now (events.CtxAdded (process_data number process ∷ map (λ n. thread_data number n process) (range_with_len 1 count)))) (sym same)
    (came_by number before now process (thread_count process) is few refl differs none some)

-- ---- threads join their process

joined_is : (number : ℕ) (process : ProcessValue) (a count : ℕ) → IsNumber number → 1 ≤ a → a + count ≤ 9
    → added_contexts (map (λ n. thread_data number n process) (range_with_len a count)) ≡ changes_joined number process a count
joined_is number process a count is some few =
    let list : List ContextData = map (λ n. thread_data number n process) (range_with_len a count) in
    let all = added_is number process a count is some few in
    same_four (of_each added_context list) (of_each unsettled list) (of_each begun list) (of_each joined list)
    (ranged (tells number process) a count) (ranged (λ n. unsettles number) a count) (ranged (λ n. []) a count) (ranged (joins number) a count) all.0 all.1 all.2 all.3

joined_by : (hits : List (List ℕ)) (number : ℕ) (before now : TargetValue) (old new : ProcessValue) (was count : ℕ) → IsNumber number → thread_count old ≡ was → thread_count new ≡ was + count → 1 ≤ count → was + count ≤ 8
    → StaysAttached hits number before now old new → Leads before now (events.CtxAdded (map (λ n. thread_data number n new) (range_with_len (1 + was) count)))
joined_by hits number before now old new was count is of_old of_new some few stays =
    let a : ℕ = 1 + was in
    let list : List ContextData = map (λ n. thread_data number n new) (range_with_len a count) in
    let changes : List Change = changes_joined number new a count in
    by_changes before now (events.CtxAdded list) changes (joined_is number new a count is (omega arith) (omega (arith, few)))
    (led_at number before now (Some old) (Some new) changes
    (added_all (IsSaid now) [] [] [] number new a count tt tt tt
    (λ n low high. thread_so number n now new is stays.stays.is (omega (arith, of_new, few)) (omega (arith, low)) (omega (arith, high, of_new))) tt tt (λ n. tt) tt)
    (none_passes is_bytes changes (added_all (Fails is_bytes) [] [] [] number new a count tt tt tt (λ n low high. refl) refl refl (λ n. refl) refl))
    (added_all (ListsOne number) [] [] [] number new a count tt tt tt (λ n low high. tt) tt tt (λ n. refl) tt)
    stays.stays.differs.others stays.stays.differs.breakpoints stays.stays.was stays.stays.is
    (joined_accounts number was count old new is of_old of_new some few stays.stays.name stays.attached)
    (λ id x knows. inr (last_statuses [] [] [] number new a count id x)))

-- so many behind the ones that the process had
pub joined_them : (hits : List (List ℕ)) (number : ℕ) (before now : TargetValue) (old new : ProcessValue) (count : ℕ) → IsNumber number → thread_count new ≡ thread_count old + count → 1 ≤ count → thread_count new ≤ 8
    → StaysAttached hits number before now old new → Leads before now (events.CtxAdded (map (λ n. thread_data number n new) (range_with_len (thread_count old + 1) count)))
joined_them hits number before now old new count is grown some few stays =
    let was : ℕ = thread_count old in
    let first : 1 + was ≡ was + 1 = omega arith in
    subst (λ a. Leads before now (events.CtxAdded (map (λ n. thread_data number n new) (range_with_len a count)))) first
    (joined_by hits number before now old new was count is refl grown some (omega (arith, grown, few)) stays)

-- ---- the debugger comes or goes

switched_is : (number : ℕ) (process : ProcessValue) (count : ℕ) → IsNumber number → count ≤ 8
    → of_each changed_context (map (λ n. thread_data number n process) (range_with_len 1 count)) ≡ ranged (switches number process) 1 count
switched_is number process count is few =
    ranged_is changed_context (λ n. thread_data number n process) (switches number process) 1 count (λ n low high.
    ap (λ c. context_told (thread_id number n) (thread_data number n process) ∷ stale_for c) (thread_named number n is (low, omega (arith, high, few))))

switched_all : (P : Change → Type 0) (number : ℕ) (process : ProcessValue) → ((n : ℕ) → 1 ≤ n → n < 1 + thread_count process → AllByRecursion P (switches number process n)) → P statuses_gone
    → AllByRecursion P (changes_switched number process)
switched_all P number process each last =
    all_append P (ranged (switches number process) 1 (thread_count process)) (statuses_gone ∷ []) (ranged_all P (switches number process) 1 (thread_count process) each) (last, tt)

switched_by : (number : ℕ) (before now : TargetValue) (old new : ProcessValue) (count : ℕ) → IsNumber number → count ≡ thread_count new → thread_count new ≤ 8 → thread_count new ≡ thread_count old
    → Stays number before now old new → Leads before now (events.CtxChanged (map (λ n. thread_data number n new) (range_with_len 1 count)))
switched_by number before now old new count is counted few kept stays =
    let changes : List Change = changes_switched number new in
    by_changes before now (events.CtxChanged (map (λ n. thread_data number n new) (range_with_len 1 count))) changes
    (ap (λ l. l ++ statuses_gone ∷ []) (switched_is number new count is (omega (arith, counted, few)) ∙ ap (ranged (switches number new) 1) counted))
    (led_at number before now (Some old) (Some new) changes
    (switched_all (IsSaid now) number new (λ n low high. (thread_so number n now new is stays.is few low (omega (arith, high)), (tt, (tt, (tt, tt))))) tt)
    (none_passes is_bytes changes (switched_all (Fails is_bytes) number new (λ n low high. (refl, (refl, (refl, (refl, tt))))) refl))
    (switched_all (ListsOne number) number new (λ n low high. (tt, (tt, (tt, (tt, tt))))) tt)
    stays.differs.others stays.differs.breakpoints stays.was stays.is (switched_accounts number old new is few kept stays.name)
    (λ id x knows. inr (any_right (touches (status_is id x)) (ranged (switches number new) 1 (thread_count new)) (statuses_gone ∷ []) refl)))

pub switched : (number : ℕ) (before now : TargetValue) (old new : ProcessValue) → IsNumber number → thread_count new ≤ 8 → thread_count new ≡ thread_count old → Stays number before now old new
    → Leads before now (events.CtxChanged (threads_data 0 number new))
switched number before now old new is few kept stays =
    switched_by number before now old new (thread_count new - 0) is (omega arith) few kept stays

-- ---- a process goes, with so many threads

goes_is : (number count : ℕ) → IsNumber number → count ≤ 8 → of_each removed_context (thread_ids number count) ≡ ranged (goes number) 1 count
goes_is number count is few =
    ranged_is removed_context (thread_id number) (goes number) 1 count (λ n low high.
    ap (λ c. context_gone (thread_id number n) ∷ (stale_for c ++ unlisted_for c)) (thread_named number n is (low, omega (arith, high, few))))

gone_is : (number count : ℕ) → IsNumber number → count ≤ 8 → event_changes (events.CtxRemoved (thread_ids number count ++ process_id number ∷ [])) ≡ changes_gone number count
gone_is number count is few =
    ap (λ l. l ++ statuses_gone ∷ [])
    (each_append removed_context (thread_ids number count) (process_id number ∷ [])
    ∙ ap (λ l. l ++ of_each removed_context (process_id number ∷ [])) (goes_is number count is few)
    ∙ ap (λ c. ranged (goes number) 1 count ++ ((context_gone (process_id number) ∷ (stale_for c ++ unlisted_for c)) ++ [])) (process_named number is))

gone_all : (P : Change → Type 0) (number count : ℕ) → ((n : ℕ) → AllByRecursion P (goes number n)) → AllByRecursion P (process_goes number) → P statuses_gone
    → AllByRecursion P (changes_gone number count)
gone_all P number count of_threads of_process last =
    all_append P (ranged (goes number) 1 count ++ process_goes number) (statuses_gone ∷ [])
    (all_append P (ranged (goes number) 1 count) (process_goes number) (ranged_all P (goes number) 1 count (λ n low high. of_threads n)) of_process) (last, tt)

pub went : (number count : ℕ) (before now : TargetValue) → IsNumber number → count ≤ 8 → ((process : ProcessValue) → process_in number before ≡ Some process → thread_count process ≤ count)
    → DiffersAt number before now → process_in number now ≡ None
    → Leads before now (events.CtxRemoved (thread_ids number count ++ process_id number ∷ []))
went number count before now is few most differs none =
    let changes : List Change = changes_gone number count in
    by_changes before now (events.CtxRemoved (thread_ids number count ++ process_id number ∷ [])) changes (gone_is number count is few)
    (led_at number before now (process_in number before) None changes
    (gone_all (IsSaid now) number count (λ n. (tt, (tt, (tt, (tt, (tt, tt)))))) (tt, (tt, (tt, tt))) tt)
    (none_passes is_bytes changes (gone_all (Fails is_bytes) number count (λ n. (refl, (refl, (refl, (refl, (refl, tt)))))) (refl, (refl, (refl, tt))) refl))
    (gone_all (ListsOne number) number count (λ n. (tt, (tt, (tt, (tt, (refl, tt)))))) (tt, (tt, (refl, tt))) tt)
    differs.others differs.breakpoints refl none (gone_accounts number count (process_in number before) None is few most)
    (λ id x knows. inr (any_right (touches (status_is id x)) (ranged (goes number) 1 count ++ process_goes number) (statuses_gone ∷ []) refl)))

pub exited : (target : TargetValue) (id : List ℕ) (code : ℤ) → Leads target target (events.Exited id code)
exited target id code = λ fact knows. knows

-- ---- threads

-- its state is told, and so is the pc, where it is suspended
state_is_so : (number n : ℕ) (now : TargetValue) (new : ProcessValue) (thread : Thread) (state : ThreadState) → process_in number now ≡ Some new → thread_at n new ≡ Some thread → thread.state ≡ state
    → (seen now).states number n ≡ Some (state_fact state)
state_is_so number n now new thread state there at is = ap (state_seen n) there ∙ ap state_told at ∙ ap (λ s. Some (state_fact s)) is

pc_is_so : (number n : ℕ) (now : TargetValue) (new : ProcessValue) (thread : Thread) (reason : List ℕ) (hits : List (List ℕ)) → process_in number now ≡ Some new → thread_at n new ≡ Some thread
    → thread.state ≡ Suspended reason hits → (seen now).registers number n 32 ≡ Some thread.cpu.pc
pc_is_so number n now new thread reason hits there at is =
    ap (number_seen n 32) there ∙ ap (number_of 32) at ∙ ap (λ s. cond (runs s) None (Some thread.cpu.pc)) is

-- the numbers of a thread that is there
its_number : (n : ℕ) (process : ProcessValue) (thread : Thread) → thread_at n process ≡ Some thread → thread_count process ≤ 8 → IsNumber n
its_number n process thread at few =
    let within = numbered_within n process.threads thread at in
    let most : length process.threads ≤ 8 = few in
    (within.0, omega (arith, within.1, most))

pub stopped : (number n : ℕ) (before now : TargetValue) (old new : ProcessValue) (thread : Thread) (reason : List ℕ) (hits : List (List ℕ)) → IsNumber number → thread_count new ≤ 8
    → StaysAttached hits number before now old new → OthersStand n old new → thread_at n new ≡ Some thread → thread.state ≡ Suspended reason hits
    → Leads before now (events.Suspended (thread_id number n) thread.cpu.pc reason hits)
stopped number n before now old new thread reason hits is few stays stand at suspended =
    let read : List Change = register_read number n 32 thread.cpu.pc ∷ [] in
    let dropped : List Change = of_each hit_breakpoint hits in
    let moved : List Change = changes_moved number n (told.Suspended reason hits) read in
    let changes : List Change = dropped ++ moved in
    by_changes before now (events.Suspended (thread_id number n) thread.cpu.pc reason hits) changes
    (ap (λ context. dropped ++ moved_for context (run.Suspended thread.cpu.pc reason hits)) (thread_named number n is (its_number n new thread at few)))
    (led_at number before now (Some old) (Some new) changes
    (all_append (IsSaid now) dropped moved (hit_said now hits)
    (tt, (tt, (state_is_so number n now new thread (Suspended reason hits) stays.stays.is at suspended, (pc_is_so number n now new thread reason hits stays.stays.is at suspended, tt)))))
    (none_passes is_bytes changes (all_append (Fails is_bytes) dropped moved (hit_plain hits) (refl, (refl, (refl, (refl, tt))))))
    (all_append (ListsOne number) dropped moved (hit_list number hits) (tt, (tt, (tt, (tt, tt)))))
    stays.stays.differs.others stays.stays.differs.breakpoints stays.stays.was stays.stays.is
    (behind_accounts number (Some old) (Some new) dropped moved (hit_quiet number hits)
    (moved_accounts number n old new (told.Suspended reason hits) read stays.stays.name stays.attached stand (λ list. refl)))
    (status_same hits before now changes stays.all stays.points (λ id x among. any_left (touches (status_is id x)) dropped moved (hit_touched hits id x among))))

pub went_on : (number n : ℕ) (before now : TargetValue) (old new : ProcessValue) (thread : Thread) (left : Option ℕ) → IsNumber number → thread_count new ≤ 8
    → StaysAttached [] number before now old new → OthersStand n old new → thread_at n new ≡ Some thread → thread.state ≡ Running left
    → Leads before now (events.Resumed (thread_id number n))
went_on number n before now old new thread left is few stays stand at running =
    let changes : List Change = changes_moved number n told.Running [] in
    by_changes before now (events.Resumed (thread_id number n)) changes (ap (λ context. moved_for context run.Running) (thread_named number n is (its_number n new thread at few)))
    (led_at number before now (Some old) (Some new) changes (tt, (tt, (state_is_so number n now new thread (Running left) stays.stays.is at running, tt)))
    refl (tt, (tt, (tt, tt))) stays.stays.differs.others stays.stays.differs.breakpoints stays.stays.was stays.stays.is
    (moved_accounts number n old new told.Running [] stays.stays.name stays.attached stand (λ list. refl))
    (status_same [] before now changes stays.all stays.points (none_touched changes)))

-- ---- a thread that runs on hits breakpoints

-- one: its status is told
pub passed_one : (number n : ℕ) (before now : TargetValue) (old new : ProcessValue) (hit : List ℕ) (status : BpStatus) → StaysAttached (hit ∷ []) number before now old new → OthersStand n old new
    → IsRunningAt n old → IsRunningAt n new → status_of hit (attached_in now.contexts.processes) now.breakpoints ≡ Some status → Leads before now (events.BpStatusIs hit status)
passed_one number n before now old new hit status stays stand ran runs_on is =
    let changes : List Change = status_told hit status ∷ [] in
    led_at number before now (Some old) (Some new) changes (is, tt) refl (tt, tt) stays.stays.differs.others stays.stays.differs.breakpoints stays.stays.was stays.stays.is
    (running_accounts number n old new changes stays.stays.name stays.attached stand ran runs_on (λ list. refl))
    (status_same (hit ∷ []) before now changes stays.all stays.points (told_one_touched hit status))

-- several: contextChanged names them all
pub passed_several : (number n : ℕ) (before now : TargetValue) (old new : ProcessValue) (list : List BpProps) → StaysAttached (map (λ props. props.id) list) number before now old new → OthersStand n old new
    → IsRunningAt n old → IsRunningAt n new → AreThere list now.breakpoints → Leads before now (events.BpChanged list)
passed_several number n before now old new list stays stand ran runs_on there =
    let changes : List Change = of_each told_properties list in
    led_at number before now (Some old) (Some new) changes (told_so now list there) (told_none list) (told_list number list)
    stays.stays.differs.others stays.stays.differs.breakpoints stays.stays.was stays.stays.is
    (running_accounts number n old new changes stays.stays.name stays.attached stand ran runs_on (λ threads. no_lists number changes threads (told_lists list)))
    (status_same (map (λ props. props.id) list) before now changes stays.all stays.points (told_touched_status list))
