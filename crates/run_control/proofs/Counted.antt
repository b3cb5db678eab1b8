-- Of the breakpoints run control changes the counts of hits alone, and these stay of 32 bits.
use Rattle.std.proofs.Common.{◌≡◌, ℕ, Bool, true, false, cond, List, [], ◌∷◌, map, Option, Some, None, refl, ◌∙◌, ap}
use Rattle.std.specs.Option.{option_map_or}
use Rattle.std.specs.Prelude.{unsigned_abs}
use Rattle.tcf_values.specs.declared.command.Command.{Command}
use Rattle.tcf_values.specs.declared.command.Command.TheVariants.{Terminate, ProcAttach, ProcDetach, ProcTerminate, TraceRun}
use Rattle.tcf_values.specs.declared.ids.ContextId.{ContextId}
use Rattle.tcf_values.specs.declared.values.BpProps.{BpProps}
use Rattle.breakpoints.specs.Counting.{counted, forgotten, row_tested}
use Rattle.breakpoints.specs.Laws.{forgetting, testing}
use Rattle.breakpoints.specs.Rows.{IsOrderly as AreListed}
use Rattle.breakpoints.specs.Status.{is_hit}
use Rattle.breakpoints.specs.declared.rows.Placed.{Placed}
use Rattle.target_contexts.specs.Live.{process_of}
use Rattle.target_contexts.specs.Named.{number_named, thread_named}
use Rattle.target_contexts.specs.ProcessValue.{ProcessValue}
use Rattle.target_contexts.specs.Threads.{thread_at}
use Rattle.target_contexts.specs.declared.threads.Thread.{Thread}
use Rattle.run_control.specs.Attaching.{attach_after, detach_after}
use Rattle.run_control.specs.Commands.{run_after, run_fault, run_left}
use Rattle.run_control.specs.Ending.{end_after}
use Rattle.run_control.specs.Executing.{halt_of, settled, stepped}
use Rattle.run_control.specs.Laws.{CommandsCountAlone, CommandsKeepList, TicksCountAlone, TicksKeepList, uncounted}
use Rattle.run_control.specs.Naming.{process_named}
use Rattle.run_control.specs.TargetValue.{TargetValue}
use Rattle.run_control.specs.Ticking.{counts_after, executed_after, raised_by, raised_for, raised_in, running_pair, tick_after, tick_fate, ticked, ticked_at}
use Rattle.run_control.specs.Tracing.{trace_after, trace_fate, trace_of, traced_at}
use Rattle.run_control.specs.declared.executing.Executed.{Executed}
use Rattle.run_control.specs.declared.executing.Executed.TheVariants.{Plain, Hit, Exit, Exception}
use Rattle.run_control.specs.declared.executing.Fate.{Fate}
use Rattle.run_control.specs.declared.executing.Fate.TheVariants.{Ends, Lives}
use Rattle.breakpoints.proofs.TheLaws.{steps_keep_order}
use Rattle.run_control.proofs.Left.{by_keeps, left_keeps}

-- ---- what a list of breakpoints comes to by hit tests and by counts that are dropped

-- a property of lists that both keep
pub record Stays (P : List Placed → Type 0) : Type 0 where
  pub test : (process : ℕ) (attached : Bool) (pc : ℕ) (bps : List Placed) → P bps → P (counted process attached pc bps)
  pub forget : (process : ℕ) (bps : List Placed) → P bps → P (forgotten process bps)

settled_stays : (P : List Placed → Type 0) (number n : ℕ) (fate : Fate) (target : TargetValue) → Stays P → P target.breakpoints → P (settled number n fate target).breakpoints
settled_stays P number n (Ends code) target stays is = stays.forget number target.breakpoints is
settled_stays P number n (Lives state hits) target stays is = is

raised_in_stays : (P : List Placed → Type 0) (bps : List Placed) (number : ℕ) (attached : Bool) (found : Option Thread) → Stays P → P bps → P (raised_in bps number attached found)
raised_in_stays P bps number attached None stays is = is
raised_in_stays P bps number attached (Some thread) stays is = stays.test number attached thread.cpu.pc bps is

raised_by_stays : (P : List Placed → Type 0) (executed : Executed) (raised bps : List Placed) → P raised → P bps → P (raised_by executed raised bps)
raised_by_stays P Plain raised bps one is = one
raised_by_stays P (Hit hits) raised bps one is = is
raised_by_stays P (Exit code) raised bps one is = is
raised_by_stays P Exception raised bps one is = is

counts_stay : (P : List Placed → Type 0) (bps : List Placed) (number n : ℕ) (process : ProcessValue) → Stays P → P bps → P (counts_after bps number n process)
counts_stay P bps number n process stays is =
    let after : ProcessValue = stepped n process in
    raised_by_stays P (halt_of n process) (raised_for bps number n after) bps (raised_in_stays P bps number after.attached (thread_at n after) stays is) is

ticked_stays : (P : List Placed → Type 0) (number n : ℕ) (found : Option ProcessValue) (target : TargetValue) → Stays P → P target.breakpoints → P (ticked_at number n found target).breakpoints
ticked_stays P number n None target stays is = is
ticked_stays P number n (Some process) target stays is =
    settled_stays P number n (tick_fate target.breakpoints number n process) (executed_after number n process target) stays (counts_stay P target.breakpoints number n process stays is)

tick_stays_of : (P : List Placed → Type 0) (pair : Option (ℕ × ℕ)) (target : TargetValue) → Stays P → P target.breakpoints → P (option_map_or (λ p. ticked p.0 p.1 target) pair target).breakpoints
tick_stays_of P None target stays is = is
tick_stays_of P (Some pair) target stays is = ticked_stays P pair.0 pair.1 (process_of pair.0 target.contexts.processes) target stays is

pub tick_stays : (P : List Placed → Type 0) (thread : ContextId) (target : TargetValue) → Stays P → P target.breakpoints → P (tick_after thread target).breakpoints
tick_stays P thread target stays is = tick_stays_of P (running_pair thread target.contexts.processes) target stays is

traced_stays : (P : List Placed → Type 0) (number n count : ℕ) (found : Option ProcessValue) (target : TargetValue) → Stays P → P target.breakpoints → P (traced_at number n count found target).breakpoints
traced_stays P number n count None target stays is = is
traced_stays P number n count (Some process) target stays is =
    settled_stays P number n (trace_fate process (trace_of target.breakpoints number n count process)) _ stays is

left_stays : (P : List Placed → Type 0) (command : Command) (target : TargetValue) → Stays P → P target.breakpoints → P (run_left command target).breakpoints
left_stays P (Terminate id) target stays is =
    left_keeps (λ (t : TargetValue). P t.breakpoints) end_after (number_named id) target (λ n named. stays.forget n target.breakpoints is) is
left_stays P (ProcAttach id) target stays is =
    left_keeps (λ (t : TargetValue). P t.breakpoints) attach_after (process_named id) target (λ n named. stays.forget n target.breakpoints is) is
left_stays P (ProcDetach id) target stays is =
    left_keeps (λ (t : TargetValue). P t.breakpoints) detach_after (process_named id) target (λ n named. stays.forget n target.breakpoints is) is
left_stays P (ProcTerminate id) target stays is =
    left_keeps (λ (t : TargetValue). P t.breakpoints) end_after (process_named id) target (λ n named. stays.forget n target.breakpoints is) is
left_stays P (TraceRun id count) target stays is =
    left_keeps (λ (t : TargetValue). P t.breakpoints) (λ pair. trace_after (unsigned_abs count) pair.0 pair.1) (thread_named id) target
    (λ pair named. traced_stays P pair.0 pair.1 (unsigned_abs count) (process_of pair.0 target.contexts.processes) target stays is) is
left_stays P command target stays is = is

pub run_stays : (P : List Placed → Type 0) (command : Command) (target : TargetValue) → Stays P → P target.breakpoints → P (run_after command target).breakpoints
run_stays P command target stays is =
    by_keeps (λ (t : TargetValue). P t.breakpoints) (run_fault command target.contexts) (run_left command target) target (λ free. left_stays P command target stays is) is

-- ---- the counts are of 32 bits

list_stays : Stays AreListed
list_stays = record {
  test = λ process attached pc bps is. steps_keep_order (testing process attached pc) bps is;
  forget = λ process bps is. steps_keep_order (forgetting process) bps is;
}

pub commands_keep_list : CommandsKeepList
commands_keep_list command target is = run_stays AreListed command target list_stays is

pub ticks_keep_list : TicksKeepList
ticks_keep_list thread target is = tick_stays AreListed thread target list_stays is

-- ---- and nothing else changes

abbrev alone : Placed → ℕ × BpProps
alone row = (row.channel, row.props)

test_alone : (hit : Bool) (process : ℕ) (row changed : Placed) → alone changed ≡ alone row → alone (cond hit changed row) ≡ alone row
test_alone true process row changed same = same
test_alone false process row changed same = refl

tests_alone : (process pc : ℕ) (bps : List Placed) → uncounted (map (row_tested process pc) bps) ≡ uncounted bps
tests_alone process pc [] = refl
tests_alone process pc (row ∷ bps) =
    ap (λ (one : ℕ × BpProps). one ∷ uncounted (map (row_tested process pc) bps)) (test_alone (is_hit process pc row.props) process row _ refl)
    ∙ ap (λ (rest : List (ℕ × BpProps)). alone row ∷ rest) (tests_alone process pc bps)

pub counted_alone : (process : ℕ) (attached : Bool) (pc : ℕ) (bps : List Placed) → uncounted (counted process attached pc bps) ≡ uncounted bps
counted_alone process true pc bps = tests_alone process pc bps
counted_alone process false pc bps = refl

pub forgotten_alone : (process : ℕ) (bps : List Placed) → uncounted (forgotten process bps) ≡ uncounted bps
forgotten_alone process [] = refl
forgotten_alone process (row ∷ bps) = ap (λ (rest : List (ℕ × BpProps)). alone row ∷ rest) (forgotten_alone process bps)

same_stays : (all : List (ℕ × BpProps)) → Stays (λ bps. uncounted bps ≡ all)
same_stays all = record {
  test = λ process attached pc bps is. counted_alone process attached pc bps ∙ is;
  forget = λ process bps is. forgotten_alone process bps ∙ is;
}

pub commands_count_alone : CommandsCountAlone
commands_count_alone command target = run_stays (λ bps. uncounted bps ≡ uncounted target.breakpoints) command target (same_stays (uncounted target.breakpoints)) refl

pub ticks_count_alone : TicksCountAlone
ticks_count_alone thread target = tick_stays (λ bps. uncounted bps ≡ uncounted target.breakpoints) thread target (same_stays (uncounted target.breakpoints)) refl
