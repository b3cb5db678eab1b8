-- Instructions that are executed, one of a thread that runs and several of one that is suspended.
use Rattle.std.proofs.Common.{◌≡◌, ℕ, ◌-◌, nat_lt, Bool, true, false, true≢false, cond, List, [], Option, Some, None, option_map, refl, sym, ap, ◌∙◌, subst}
use Rattle.std.specs.Prelude.{ℤ, is_none, option_and_then, unsigned_abs}
use Rattle.std.specs.Option.{option_map_or}
use Rattle.std.proofs.lemmas.Option.{none-some}
use Rattle.run_control.specs.Commands.{left_of, trace_given}
use Rattle.breakpoints.specs.declared.rows.Placed.{Placed}
use Rattle.run_control.specs.Executing.{hits_at, step_text, stepped}
use Rattle.run_control.specs.Ticking.{counted, counted_in, raised_for, ticked as ticked_pair, ticked_at, ticked_events, ticked_events_at}
use Rattle.run_control.specs.Tracing.{run_from, states_of, trace_after, trace_fault, trace_of, traced_at, traced_events_at, trace_events}
use Rattle.target_contexts.specs.Changes.{with_change}
use Rattle.target_contexts.specs.Live.{process_of}
use Rattle.target_contexts.specs.Named.{is_running, runs, thread_at_pair, thread_for, thread_named}
use Rattle.target_contexts.specs.ProcessValue.{ProcessValue}
use Rattle.target_contexts.specs.Threads.{thread_at, thread_of}
use Rattle.target_contexts.specs.declared.process.ThreadState.{ThreadState}
use Rattle.target_contexts.specs.declared.process.ThreadState.TheVariants.{Running, Suspended}
use Rattle.target_contexts.specs.declared.threads.Thread.{Thread}
use Rattle.target_hub.specs.Execution.{exec_after, exec_effect}
use Rattle.target_hub.specs.Passing.{tick_told, ticked}
use Rattle.run_control.specs.TargetValue.{TargetValue}
use Rattle.target_truth.specs.Holds.{process_in}
use Rattle.target_truth.proofs.Becoming.{changed}
use Rattle.target_hub.proofs.Fates.{tick_keeps, trace_keeps}
use Rattle.target_truth.proofs.Following.{Follows, all_follow, hit_follow, itself, last_follows, one_more}
use Rattle.target_truth.proofs.Live.{few_found}
use Rattle.target_truth.proofs.RowsRun.{Tells}
use Rattle.target_truth.proofs.Hits.{Counted, tick_counted, tick_found}
use Rattle.target_truth.proofs.Settling.{Executes, Settles, names_none, tick_settles, trace_settles}
use Rattle.target_truth.proofs.Faults.{check_passed, run_by_fault}
use Rattle.target_truth.proofs.Telling.{if_thread}
use Rattle.target_truth.proofs.Tells.{Tell}
use Rattle.target_truth.proofs.Whole.{IsGood}
use Rattle.tcf_values.specs.OptionLaws.{some_same}
use Rattle.tcf_values.specs.declared.command.Command.TheVariants as commands
use Rattle.tcf_values.specs.declared.event.EventData.{EventData}
use Rattle.tcf_values.specs.declared.ids.ContextId.{ContextId}

-- ---- Trace.run

trace_told : (count : ℕ) (target : TargetValue) → IsGood target → (number n : ℕ) (old : ProcessValue) (thread : Thread) → process_in number target ≡ Some old → thread_at n old ≡ Some thread
    → Tell target (trace_after count number n target) (trace_events count number n target (trace_after count number n target))
trace_told count target good number n old thread there at =
    let bps = target.breakpoints in
    let states = states_of bps number n count old in
    let trace = trace_of bps number n count old in
    let contexts = with_change (λ _. trace.process) number target.contexts in
    let first : Follows n old old = itself n old (good.whole number old there) (few_found target number old good there) in
    let executes : Executes number n target contexts old trace.process = record {
      there = there;
      becomes = changed (λ _. trace.process) number target.contexts old there;
      follows = last_follows n old old states first (hit_follow n old bps number (run_from n count old) (all_follow n old count old first));
      thread = thread;
      at = at;
    } in
    subst (λ (o : Option ProcessValue). Tell target (traced_at number n count o target) (traced_events_at bps number n count o (traced_at number n count o target))) (sym there)
    (trace_keeps (λ fate. Settles number n target contexts old fate bps) bps number n count old (trace_settles number n target contexts old trace.process good executes))

trace_named : (count : ℕ) (target : TargetValue) (named : Option (ℕ × ℕ)) → IsGood target → is_none (thread_at_pair named target.contexts.processes) ≡ false
    → (let left : TargetValue = left_of (λ pair. trace_after count pair.0 pair.1) named target in Tell target left (trace_given count named target left).events)
trace_named count target None good is = absurd cc
trace_named count target (Some pair) good is =
    if_thread (λ (left : TargetValue). left) (λ one. trace_after count one.0 one.1) (λ one after. trace_events count one.0 one.1 target after) target target (Some pair) is
    (λ one process thread there at. trace_told count target good one.0 one.1 process thread there at)

pub trace : (channel : ℕ) (id : List ℕ) (count : ℤ) (target : TargetValue) → IsGood target → Tells channel (commands.TraceRun id count) target
unfolding exec_after exec_effect
trace channel id count target good =
    run_by_fault (trace_fault id count target.contexts.processes) target _ _ (λ none.
    trace_named (unsigned_abs count) target (thread_named id) good (check_passed _ _ _ none).0)

-- ---- a tick

counted_runs : (state : ThreadState) → runs (counted state) ≡ true → runs state ≡ true
counted_runs (Running left) on = refl
counted_runs (Suspended reason hits) on = on

counted_ran : (found : Option Thread) (thread : Thread) → found ≡ Some thread → runs (counted_in found) ≡ true → runs thread.state ≡ true
counted_ran found thread there on = counted_runs thread.state (sym (ap (λ o. runs (counted_in o)) there) ∙ on)

counted_none : (state : ThreadState) → runs state ≡ true → names_none (counted state)
counted_none (Running None) on = tt
counted_none (Running (Some left)) on = by (nat_lt 1 left)
  where
    by : (more : Bool) → names_none (cond more (Running (Some (left - 1))) (Suspended step_text []))
    by true = tt
    by false = refl
counted_none (Suspended reason hits) on = absurd (true≢false (sym on))

tick_there : (number n : ℕ) (target : TargetValue) (old : ProcessValue) (found : Option Thread) → IsGood target → process_in number target ≡ Some old → thread_at n old ≡ found → is_running found ≡ true
    → Tell target (ticked_at number n (Some old) target) (ticked_events_at target.breakpoints number n (Some old) (ticked_at number n (Some old) target))
tick_there number n target old None good there at run = absurd (true≢false (sym run))
tick_there number n target old (Some thread) good there at run =
    let bps = target.breakpoints in
    let new : ProcessValue = stepped n old in
    let contexts = with_change (stepped n) number target.contexts in
    let executes : Executes number n target contexts old new = record {
      there = there;
      becomes = changed (stepped n) number target.contexts old there;
      follows = one_more n old old (itself n old (good.whole number old there) (few_found target number old good there));
      thread = thread;
      at = at;
    } in
    let plain : ThreadState = counted_in (thread_at n old) in
    let raised : List Placed = raised_for bps number n new in
    let hits : List (List ℕ) = hits_at bps number n new in
    let counts : Counted hits bps raised = tick_counted bps number new.attached (thread_at n new) good.consistent.breakpoints in
    tick_keeps (Settles number n target contexts old) bps number n old
    (tick_settles number n target contexts old new plain hits raised good executes counts (tick_found bps number new.attached (thread_at n new) counts.orderly)
    (counted_ran (thread_at n old) thread at) (subst (λ (o : Option Thread). names_none (counted_in o)) (sym at) (counted_none thread.state run)))

tick_of : (number n : ℕ) (target : TargetValue) (found : Option ProcessValue) → IsGood target → process_in number target ≡ found → is_running (option_and_then (thread_at n) found) ≡ true
    → Tell target (ticked_at number n found target) (ticked_events_at target.breakpoints number n found (ticked_at number n found target))
tick_of number n target None good there run = absurd (true≢false (sym run))
tick_of number n target (Some old) good there run = tick_there number n target old (thread_at n old) good there refl run

-- the thread runs, or there is no tick
tick_if : (target : TargetValue) (pair : ℕ × ℕ) (run : Bool) (events : List EventData) → IsGood target → is_running (thread_of pair.0 pair.1 target.contexts.processes) ≡ run
    → option_map (λ one. ticked_events one.0 one.1 target) (cond run (Some pair) None) ≡ Some events
    → Tell target (option_map_or (λ one. ticked_pair one.0 one.1 target) (cond run (Some pair) None) target) events
tick_if target pair false events good run told = absurd (none-some events told)
tick_if target pair true events good run told =
    subst (λ (list : List EventData). Tell target (ticked_pair pair.0 pair.1 target) list) (some_same _ _ told)
    (tick_of pair.0 pair.1 target (process_of pair.0 target.contexts.processes) good refl run)

tick_by : (target : TargetValue) (named : Option (ℕ × ℕ)) (events : List EventData) → IsGood target
    → (let running : Option (ℕ × ℕ) = option_and_then (λ pair. cond (is_running (thread_of pair.0 pair.1 target.contexts.processes)) (Some pair) None) named in
    option_map (λ one. ticked_events one.0 one.1 target) running ≡ Some events → Tell target (option_map_or (λ one. ticked_pair one.0 one.1 target) running target) events)
tick_by target None events good told = absurd (none-some events told)
tick_by target (Some pair) events good told = tick_if target pair (is_running (thread_of pair.0 pair.1 target.contexts.processes)) events good refl told

pub tick : (thread : ContextId) (target : TargetValue) (events : List EventData) → IsGood target → tick_told thread target ≡ Some events
    → Tell target (ticked thread target) events
tick thread target events good told = tick_by target (thread_for thread) events good told
