-- Each event that the target tells can be written.
use Rattle.std.proofs.Common.{◌≡◌, ℕ, ℤ, ◌<◌, ◌^◌, Bool, true, false, cond, ◌&&◌, List, [], ◌∷◌, map, Option, Some, None, option_map, refl, drop, arith, lit<, ◌++◌}
use Rattle.std.proofs.lemmas.Bool.{ltb-true}
use Rattle.std.specs.List.{AllByRecursion, flat_map}
use Rattle.tcf_values.specs.declared.event.EventData.{EventData}
use Rattle.tcf_values.specs.declared.values.ContextData.{ContextData}
use Rattle.std.specs.Option.{IfSome, option_map_or}
use Rattle.std.specs.Str.Parse.{digits_value}
use Rattle.json_args.specs.Kinds.{IsWhole}
use Rattle.json_values.specs.Contexts.{IsContext}
use Rattle.json_values.specs.Props.{is_bp}
use Rattle.json_values.specs.Statuses.{IsCount, IsInstance, IsPlace}
use Rattle.reply_tables.specs.Events.{IsEvent}
use Rattle.tcf_values.specs.declared.command.Command.{Command}
use Rattle.tcf_values.specs.declared.ids.ContextId.{ContextId}
use Rattle.tcf_values.specs.declared.values.BpProps.{BpProps}
use Rattle.tcf_values.specs.declared.values.Place.{Place}
use Rattle.tcf_values.specs.declared.values.Place.TheVariants.{Address, Error}
use Rattle.breakpoints.specs.Address.{address_in, is_address, is_numeral, is_prefixed}
use Rattle.breakpoints.specs.Counting.{listed}
use Rattle.breakpoints.specs.Counts.{AreCounts, count_of}
use Rattle.breakpoints.specs.Rows.{IsOrderly as AreListed}
use Rattle.breakpoints.specs.Status.{count_at, instance_of, instances_of, place_at, place_of}
use Rattle.breakpoints.specs.Statuses.{counted_status, status_event, statuses_of}
use Rattle.target_contexts.specs.Contexts.{process_data, thread_data, threads_behind, threads_data}
use Rattle.target_contexts.specs.Live.{process_of}
use Rattle.target_contexts.specs.Threads.{thread_at, thread_count, thread_numbers, thread_of}
use Rattle.target_contexts.specs.declared.threads.Thread.{Thread}
use Rattle.target_contexts.specs.Named.{attached_in, runs as is_run}
use Rattle.target_contexts.specs.ProcessValue.{ProcessValue}
use Rattle.target_contexts.specs.declared.process.ThreadState.{ThreadState}
use Rattle.target_contexts.specs.declared.process.ThreadState.TheVariants.{Running, Suspended}
use Rattle.run_control.specs.Ending.{end_events}
use Rattle.run_control.specs.Commands.{run_after}
use Rattle.run_control.specs.Executing.{hits_at, settled_events, step_text, stepped}
use Rattle.run_control.specs.Telling.{added_events, all_resumed_events, all_suspended_events, changed_events, contexts_events, hit_events, made_events, resumed_event, several_events, statuses_among, stop_events, suspended_events}
use Rattle.run_control.specs.Ticking.{counted_in, running_pair, tick_after, ticked, ticked_events, ticked_events_at}
use Rattle.run_control.specs.Tracing.{trace_events, traced_events_at}
use Rattle.target_hub.specs.Limits.{AreEvents, AreReadable}
use Rattle.target_hub.specs.Passing.{tick_told}
use Rattle.target_hub.specs.Sendable.{IsBounded}
use Rattle.run_control.specs.TargetValue.{TargetValue}
use Rattle.breakpoints.proofs.Raising.{count_small}
use Rattle.run_control.proofs.TheLaws.{commands_change_counts, commands_list, ticks_change_counts, ticks_list}
use Rattle.target_hub.proofs.Fates.{CoversAlone, tick_alone, trace_alone}
use Rattle.target_hub.proofs.Lists.{all_mapped}
use Rattle.target_hub.proofs.Points.{ArePoints, IsPoint, listed_are, points_of, readable_like}
use Rattle.list_laws.proofs.Flags.{and_first}
use Rattle.list_laws.proofs.AllLists.{all_append, all_map}
use Rattle.breakpoints.specs.declared.rows.Placed.{Placed}

-- ---- statuses: an address lies below 65,536

second_of : (a b : Bool) → (a && b) ≡ true → b ≡ true
second_of true b both = both
second_of false b both = absurd cc

below : (numeral : Bool) (n : ℕ) → (numeral && is_address n) ≡ true → n < 2 ^ 32
below numeral n both =
    let small : n < 65536 = ltb-true n 65536 (and_first _ _ (second_of numeral _ both)) in
    omega arith

address_small : (b : Bool) (n : ℕ) → (b ≡ true → n < 2 ^ 32) → IsPlace (place_at (cond b (Some n) None))
address_small true n small = small refl
address_small false n small = tt

in_small : (radix : ℕ) (digits : List ℕ) → IsPlace (place_at (address_in radix digits))
in_small radix digits =
    let n = digits_value radix digits in
    let numeral = is_numeral radix digits in
    address_small (numeral && is_address n) n (below numeral n)

of_small : (prefixed : Bool) (one other : Option ℕ) → IsPlace (place_at one) → IsPlace (place_at other) → IsPlace (place_at (cond prefixed one other))
of_small true one other small also = small
of_small false one other small also = also

place_fits : (location : Option (List ℕ)) → IsPlace (place_of location)
place_fits None = tt
place_fits (Some text) = of_small (is_prefixed text) (address_in 16 (drop 2 text)) (address_in 10 text) (in_small 16 (drop 2 text)) (in_small 10 text)

count_fits : (place : Place) (count : ℕ) → count < 2 ^ 32 → IsCount place (count_at place count)
count_fits (Address address) count small = small
count_fits (Error error) count small = refl

instance_fits : (props : BpProps) (counts : List (ℕ × ℕ)) (number : ℕ) → AreCounts counts → IsInstance (instance_of props counts number)
instance_fits props counts number are =
    (place_fits props.location, count_fits (place_of props.location) (count_of number counts) (count_small number counts are))

some_fit : (props : BpProps) (counts : List (ℕ × ℕ)) (numbers : List ℕ) (enabled : Bool) → AreCounts counts → AllByRecursion IsInstance (cond enabled (map (instance_of props counts) numbers) [])
some_fit props counts numbers true are = all_map IsInstance (instance_of props counts) numbers (λ number. instance_fits props counts number are)
some_fit props counts numbers false are = tt

pub instances_fit : (props : BpProps) (counts : List (ℕ × ℕ)) (attached : List ℕ) → AreCounts counts → AllByRecursion IsInstance (instances_of props counts attached)
instances_fit props counts attached are = some_fit props counts _ props.enabled are

pub status_fits : (attached : List ℕ) (props : BpProps) → IsEvent (status_event attached props)
status_fits attached props = instances_fit props [] attached tt

pub statuses_fit : (attached : List ℕ) (bps : List Placed) → ArePoints bps → AreEvents (statuses_of attached bps)
statuses_fit attached bps are =
    all_mapped IsPoint IsEvent (λ (row : Placed). counted_status attached row.props row.counts) bps (λ row is. instances_fit row.props row.counts attached is.counted) are

-- ---- breakpoints that are hit

several_fit : (hits : List (List ℕ)) (bps : List Placed) → ArePoints bps → AreEvents (several_events hits bps)
several_fit [] bps are = tt
several_fit (hit ∷ []) bps are = tt
several_fit (hit ∷ other ∷ hits) bps are = (
  all_mapped IsPoint (λ (props : BpProps). is_bp props ≡ true) (λ (row : Placed). row.props) (listed (hit ∷ other ∷ hits) bps) (λ row is. is.readable)
      (listed_are IsPoint (hit ∷ other ∷ hits) bps are),
  tt,
)

if_fit : (runs : Bool) (told : List EventData) → AreEvents told → AreEvents (cond runs told [])
if_fit true told fit = fit
if_fit false told fit = tt

hits_fit : (runs : Bool) (hits : List (List ℕ)) (target : TargetValue) → ArePoints target.breakpoints → AreEvents (hit_events runs hits target)
hits_fit runs hits target are =
    all_append IsEvent (cond runs (several_events hits target.breakpoints) []) (statuses_among hits target)
    (if_fit runs (several_events hits target.breakpoints) (several_fit hits target.breakpoints are))
    (statuses_fit (attached_in target.contexts.processes) (listed hits target.breakpoints) (listed_are IsPoint hits target.breakpoints are))

-- ---- contexts

pub process_within : (number : ℕ) (process : ProcessValue) → IsContext (process_data number process)
process_within number process = (lit< tt, lit< tt)

pub powers_within : (number n : ℕ) (process : ProcessValue) (attached : Bool) → IsContext (thread_data number n (record process { attached = attached }))
powers_within number n process true = (lit< tt, lit< tt)
powers_within number n process false = (lit< tt, lit< tt)

pub thread_within : (number n : ℕ) (process : ProcessValue) → IsContext (thread_data number n process)
thread_within number n process = powers_within number n process process.attached

threads_within : (behind number : ℕ) (process : ProcessValue) → AllByRecursion IsContext (threads_data behind number process)
threads_within behind number process = all_map IsContext (λ n. thread_data number n process) _ (λ n. thread_within number n process)

pub added_fit : (number : ℕ) (process : Option ProcessValue) → AreEvents (added_events number process)
added_fit number None = tt
added_fit number (Some process) = ((process_within number process, threads_within 0 number process), tt)

contexts_fit : (contexts : List ContextData) → AllByRecursion IsContext contexts → AreEvents (contexts_events contexts)
contexts_fit [] within = tt
contexts_fit (context ∷ contexts) within = (within, tt)

behind_within : (before number : ℕ) (process : Option ProcessValue) → AllByRecursion IsContext (threads_behind before number process)
behind_within before number None = tt
behind_within before number (Some process) = threads_within before number process

made_fit : (number before : ℕ) (process : Option ProcessValue) → AreEvents (made_events number before process)
made_fit number before process = contexts_fit (threads_behind before number process) (behind_within before number process)

pub changed_fit : (number : ℕ) (process : Option ProcessValue) → AreEvents (changed_events number process)
changed_fit number None = tt
changed_fit number (Some process) = (threads_within 0 number process, tt)

stop_fits : (number n pc : ℕ) (state : ThreadState) → AreEvents (stop_events number n pc state)
stop_fits number n pc (Running left) = tt
stop_fits number n pc (Suspended reason hits) = (tt, tt)

pub suspended_fit : (number n : ℕ) (thread : Option Thread) → AreEvents (suspended_events number n thread)
suspended_fit number n None = tt
suspended_fit number n (Some thread) = stop_fits number n thread.cpu.pc thread.state

flat_fit : (told : ℕ → List EventData) (numbers : List ℕ) → ((n : ℕ) → AreEvents (told n)) → AreEvents (flat_map told numbers)
flat_fit told [] each = tt
flat_fit told (n ∷ numbers) each = all_append IsEvent (told n) (flat_map told numbers) (each n) (flat_fit told numbers each)

pub all_suspended_fit : (number : ℕ) (process : Option ProcessValue) → AreEvents (all_suspended_events number process)
all_suspended_fit number None = tt
all_suspended_fit number (Some process) =
    flat_fit (λ n. suspended_events number n (thread_at n process)) (thread_numbers process) (λ n. suspended_fit number n (thread_at n process))

pub all_resumed_fit : (number : ℕ) (was : Option ProcessValue) → AreEvents (all_resumed_events number was)
all_resumed_fit number was = all_map IsEvent (resumed_event number) _ (λ n. tt)

-- ---- the end of a process

pub end_fits : (number count : ℕ) (code : ℤ) (target : TargetValue) → IsWhole code → ArePoints target.breakpoints → AreEvents (end_events number count code target)
end_fits number count code target whole are = (tt, (whole, statuses_fit (attached_in target.contexts.processes) target.breakpoints are))

-- ---- what becomes of a process after its instructions

fate_fits : (number n before : ℕ) (plain : ThreadState) (hits : List (List ℕ)) (after : TargetValue) → ArePoints after.breakpoints → CoversAlone (λ fate. AreEvents (settled_events number n before fate after)) plain hits
fate_fits number n before plain hits after are =
    let made : List EventData = made_events number before (process_of number after.contexts.processes) in
    let stopped : List EventData = suspended_events number n (thread_of number n after.contexts.processes) in
    let lived = λ (runs : Bool) (others : List (List ℕ)).
    all_append IsEvent (made ++ stopped) (hit_events runs others after)
    (all_append IsEvent made stopped (made_fit number before (process_of number after.contexts.processes)) (suspended_fit number n (thread_of number n after.contexts.processes)))
    (hits_fit runs others after are) in
    record {
      plainly = lived (is_run plain) [];
      passing = λ now. lived (is_run plain) hits;
      suspended = λ reason others. lived false others;
      ended = λ code whole. end_fits number before code after whole are;
    }

-- ---- a tick, and a trace

ticked_fit : (bps : List Placed) (number n : ℕ) (process : Option ProcessValue) (after : TargetValue) → ArePoints after.breakpoints → AreEvents (ticked_events_at bps number n process after)
ticked_fit bps number n None after are = tt
ticked_fit bps number n (Some process) after are =
    tick_alone (λ fate. AreEvents (settled_events number n (thread_count process) fate after)) bps number n process
    (fate_fits number n (thread_count process) (counted_in (thread_at n process)) (hits_at bps number n (stepped n process)) after are)

tick_fit_of : (target : TargetValue) (pair : Option (ℕ × ℕ)) → ArePoints (option_map_or (λ p. ticked p.0 p.1 target) pair target).breakpoints → IfSome (option_map (λ p. ticked_events p.0 p.1 target) pair) AreEvents
tick_fit_of target None are = tt
tick_fit_of target (Some pair) are = ticked_fit target.breakpoints pair.0 pair.1 (process_of pair.0 target.contexts.processes) (ticked pair.0 pair.1 target) are

-- the breakpoints after a tick, and after a command of run control
pub tick_points : (thread : ContextId) (target : TargetValue) → AreReadable target.breakpoints → AreListed target.breakpoints → ArePoints (tick_after thread target).breakpoints
tick_points thread target readable orderly =
    let after : List Placed = (tick_after thread target).breakpoints in
    points_of after (readable_like after target.breakpoints (ticks_change_counts thread target) readable) (ticks_list thread target orderly).counted

pub run_points : (command : Command) (target : TargetValue) → AreReadable target.breakpoints → AreListed target.breakpoints → ArePoints (run_after command target).breakpoints
run_points command target readable orderly =
    let after : List Placed = (run_after command target).breakpoints in
    points_of after (readable_like after target.breakpoints (commands_change_counts command target) readable) (commands_list command target orderly).counted

pub tick_fits : (thread : ContextId) (target : TargetValue) → IsBounded target → IfSome (tick_told thread target) AreEvents
tick_fits thread target bounded =
    tick_fit_of target (running_pair thread target.contexts.processes) (tick_points thread target bounded.properties bounded.listed)

traced_fit : (bps : List Placed) (number n count : ℕ) (process : Option ProcessValue) (after : TargetValue) → ArePoints after.breakpoints → AreEvents (traced_events_at bps number n count process after)
traced_fit bps number n count None after are = tt
traced_fit bps number n count (Some process) after are =
    trace_alone (λ fate. AreEvents (settled_events number n (thread_count process) fate after)) bps number n count process
    (fate_fits number n (thread_count process) (Suspended step_text []) [] after are)

pub trace_fits : (count number n : ℕ) (target after : TargetValue) → ArePoints after.breakpoints → AreEvents (trace_events count number n target after)
trace_fits count number n target after are = traced_fit target.breakpoints number n count (process_of number target.contexts.processes) after are
