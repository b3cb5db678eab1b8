-- The events of each command, each instruction and each closing are small.
use Rattle.std.proofs.Common.{◌≡◌, ◌≤◌, ◌+◌, ℕ, ℤ, Bool, true, false, cond, ◌||◌, ◌==◌, nat_lt, List, [], ◌∷◌, ◌++◌, filter, length, map, slice_get, Option, Some, None, IfSome, option_map, option_and_then, refl, arith, lit≤, length-append}
use Rattle.std.specs.Option.{option_map_or, option_or}
use Rattle.std.specs.Prelude.{codes, decimal, is_none, unsigned_abs}
use Rattle.std.proofs.lemmas.Bool.{ltb-false, or_parts}
use Rattle.std.proofs.lemmas.List.{length-map}
use Rattle.json_values.specs.Props.{is_bp}
use Rattle.json_values.specs.Sizes.{IsWord}
use Rattle.json_values.specs.SizeLaws.{decimal_size}
use Rattle.command_tables.specs.Canonical.{IsReadable}
use Rattle.reply_tables.specs.Sizes.{IsSmallEvent}
use Rattle.tcf_values.specs.Effects.{effect_by, failed, gives}
use Rattle.tcf_values.specs.Ids.{register_of}
use Rattle.tcf_values.specs.Spelling.{register_name, register_spelling}
use Rattle.tcf_values.specs.declared.command.Command.{Command}
use Rattle.tcf_values.specs.declared.command.Command.TheVariants.{GetContext, GetChildren, GetState, Resume, Suspend, Terminate, BpSet, BpAdd, BpChange, BpEnable, BpDisable, BpRemove, MemGet, MemSet, RegGet, RegSet, RegGetm, RegSetm, ProcContext, ProcChildren, ProcStart, ProcAttach, ProcDetach, ProcTerminate, TraceRun}
use Rattle.tcf_values.specs.declared.effect.Effect.{Effect}
use Rattle.tcf_values.specs.declared.event.EventData.{EventData}
use Rattle.tcf_values.specs.declared.event.EventData.TheVariants.{MemChanged, RegChanged, RegsChanged}
use Rattle.tcf_values.specs.declared.faults.Fault.{Fault}
use Rattle.tcf_values.specs.declared.faults.Fault.TheVariants.{BadContext, BadSize}
use Rattle.tcf_values.specs.declared.ids.RegisterId.{RegisterId}
use Rattle.tcf_values.specs.declared.values.BpProps.{BpProps}
use Rattle.tcf_values.specs.declared.values.Location.{Location}
use Rattle.breakpoints.specs.Changes.{added_by, changed_by, changes_list, done, has_no_place, has_twice, clashes, is_overfull, is_refused, is_switched, removed_by, switched, with_flag}
use Rattle.breakpoints.specs.Rows.{ids_of, others, owned_by}
use Rattle.breakpoints.specs.Status.{hits_of, is_hit}
use Rattle.breakpoints.specs.Statuses.{status_event}
use Rattle.breakpoints.specs.declared.breakpoints.BpDone.{BpDone}
use Rattle.breakpoints.specs.declared.breakpoints.BpDone.TheVariants.{Failed, Changed}
use Rattle.data_services.specs.Commands.{data_effect, data_fault, data_given}
use Rattle.data_services.specs.MemoryRows.{memory_events}
use Rattle.data_services.specs.Named.{holder_of, thread_with}
use Rattle.data_services.specs.RegisterRows.{events_from, location_fault, locations_fault, name_one, registers_get_fault}
use Rattle.run_control.specs.Attaching.{attach_events, detach_events, process_there, start_events}
use Rattle.run_control.specs.Commands.{events_of, run_effect, run_fault, run_given, run_left, terminate_code, terminate_events, trace_given}
use Rattle.run_control.specs.Naming.{process_named}
use Rattle.run_control.specs.Steering.{suspend_events}
use Rattle.run_control.specs.Telling.{added_events, all_resumed_events, all_suspended_events, changed_events, resumed_events, statuses_in}
use Rattle.run_control.specs.Executing.{hits_at, hits_in, settled_events, step_text, stepped}
use Rattle.run_control.specs.Ticking.{counted_in, ticked, ticked_events, ticked_events_at}
use Rattle.run_control.specs.Tracing.{traced_events_at}
use Rattle.target_contexts.specs.Live.{process_of}
use Rattle.target_contexts.specs.Named.{attached_in, number_named, thread_named}
use Rattle.target_contexts.specs.Short.{AllShort, IsShort}
use Rattle.target_contexts.specs.Threads.{count_in, thread_at, thread_count, thread_of}
use Rattle.target_contexts.specs.declared.process.ThreadState.TheVariants.{Suspended}
use Rattle.target_contexts.specs.declared.threads.Thread.{Thread}
use Rattle.target_contexts.specs.TargetsValue.{TargetsValue}
use Rattle.target_contexts.specs.ProcessValue.{ProcessValue}
use Rattle.target_hub.specs.BreakpointsRows.{ask_answer, ask_fault, breakpoints_effect, effect_of, removed_events, status_events}
use Rattle.target_hub.specs.BreakpointsRows as bp_rows
use Rattle.target_hub.specs.Limits.{AreReadable}
use Rattle.run_control.specs.TargetValue.{TargetValue}
use Rattle.tcf_values.proofs.TheLaws.{register_round_trip}
use Rattle.target_hub.proofs.Given.{AreProps, added_readable, changed_readable}
use Rattle.target_hub.proofs.Lists.{all_mapped}
use Rattle.target_hub.proofs.Fates.{tick_alone, trace_alone}
use Rattle.target_hub.proofs.Small.{AreBounded, AreSmall, added_small, all_resumed_small, all_suspended_small, attached_few, changed_small, count_few, end_small, fate_small, found_short, ids_words, process_word, resumed_small, status_small, statuses_small, suspended_small, test_small, thread_found_short, three_small}
use Rattle.list_laws.proofs.AllLists.{all_append, all_filter}
use Rattle.run_control.proofs.Short.{filter_fewer}
use Rattle.breakpoints.specs.declared.rows.Placed.{Placed}

-- ---- a command that fails tells nothing

none_told : (fault : Fault) → AreSmall (failed fault).events
unfolding failed
none_told fault = tt

pub by_fault : (fault : Option Fault) (given : Effect) → (fault ≡ None → AreSmall given.events) → AreSmall (effect_by fault given).events
by_fault None given small = small refl
by_fault (Some fault) given small = none_told fault

-- ---- RunControl, Processes and Trace, of the target after the command

of_small : {A : Type 0} → (events : A → List EventData) (named : Option A) → ((one : A) → AreSmall (events one)) → AreSmall (events_of events named)
of_small events None each = tt
of_small events (Some one) each = each one

traced_small : (bps : List Placed) (number n count : ℕ) (process : Option ProcessValue) (after : TargetValue) → IfSome process IsShort → AreBounded after → AreSmall (traced_events_at bps number n count process after)
traced_small bps number n count None after is bounded = tt
traced_small bps number n count (Some process) after is bounded =
    trace_alone (λ fate. AreSmall (settled_events number n (thread_count process) fate after)) bps number n count process
    (fate_small number n (thread_count process) (Suspended step_text []) [] after is.count.few (lit≤ tt) bounded)

trace_small : (count : ℕ) (pair : Option (ℕ × ℕ)) (target after : TargetValue) → AllShort target.contexts.processes → AreBounded after → AreSmall (trace_given count pair target after).events
trace_small count None target after short bounded = tt
trace_small count (Some pair) target after short bounded =
    traced_small target.breakpoints pair.0 pair.1 count (process_of pair.0 target.contexts.processes) after (found_short target.contexts.processes pair.0 short) bounded

started_small : (number : ℕ) (after : TargetValue) → AreBounded after → AreSmall (start_events number after)
started_small number after bounded =
    let process = process_of number after.contexts.processes in
    let is = found_short after.contexts.processes number bounded.short in
    three_small (added_events number process) (all_suspended_events number process) (statuses_in after)
    (added_small number process is) (all_suspended_small number process is) (statuses_small after bounded)

attached_small : (number : ℕ) (after : TargetValue) → AreBounded after → AreSmall (attach_events number after)
attached_small number after bounded =
    let process = process_of number after.contexts.processes in
    let is = found_short after.contexts.processes number bounded.short in
    three_small (changed_events number process) (all_suspended_events number process) (statuses_in after)
    (changed_small number process is) (all_suspended_small number process is) (statuses_small after bounded)

detached_small : (was : Option ProcessValue) (number : ℕ) (after : TargetValue) → AreBounded after → AreSmall (detach_events was number after)
detached_small was number after bounded =
    let process = process_of number after.contexts.processes in
    three_small (changed_events number process) (all_resumed_events number was) (statuses_in after)
    (changed_small number process (found_short after.contexts.processes number bounded.short)) (all_resumed_small number was) (statuses_small after bounded)

terminate_small : (target after : TargetValue) (number : ℕ) → AllShort target.contexts.processes → AreBounded after → AreSmall (terminate_events number target after)
terminate_small target after number short bounded =
    end_small number (count_in (process_of number target.contexts.processes)) terminate_code after (count_few target.contexts.processes number short) bounded

run_small : (command : Command) (target after : TargetValue) → AllShort target.contexts.processes → AreBounded after → AreSmall (run_given command target after).events
run_small (GetContext id) target after short bounded = tt
run_small (GetChildren id) target after short bounded = tt
run_small (GetState id) target after short bounded = tt
run_small (Resume id mode count) target after short bounded =
    of_small (λ pair. resumed_events pair.0 pair.1) (thread_named id) (λ pair. resumed_small pair.0 pair.1)
run_small (Suspend id) target after short bounded =
    of_small (λ pair. suspend_events pair.0 pair.1 after.contexts) (thread_named id)
    (λ pair. suspended_small pair.0 pair.1 (thread_of pair.0 pair.1 after.contexts.processes) (thread_found_short after.contexts.processes pair.0 pair.1 bounded.short))
run_small (Terminate id) target after short bounded =
    of_small (λ n. terminate_events n target after) (number_named id) (λ n. terminate_small target after n short bounded)
run_small (ProcContext id) target after short bounded = tt
run_small (ProcChildren id attached) target after short bounded = tt
run_small (ProcStart directory file args environment attach) target after short bounded = started_small target.contexts.next after bounded
run_small (ProcAttach id) target after short bounded = of_small (λ n. attach_events n after) (process_named id) (λ n. attached_small n after bounded)
run_small (ProcDetach id) target after short bounded =
    let was = process_there id target.contexts.processes in
    of_small (λ n. detach_events was n after) (process_named id) (λ n. detached_small was n after bounded)
run_small (ProcTerminate id) target after short bounded =
    of_small (λ n. terminate_events n target after) (process_named id) (λ n. terminate_small target after n short bounded)
run_small (TraceRun id count) target after short bounded = trace_small (unsigned_abs count) (thread_named id) target after short bounded
run_small _ target after short bounded = tt

pub run_told : (command : Command) (target : TargetValue) → AllShort target.contexts.processes → (run_fault command target.contexts ≡ None → AreBounded (run_left command target))
    → AreSmall (run_effect command target).events
run_told command target short after = by_fault (run_fault command target.contexts) _ (λ none. run_small command target (run_left command target) short (after none))

-- ---- Memory and Registers: a register that is there has a short ID

passes : (failing : Bool) (fault : Fault) (rest : Option Fault) → cond failing (Some fault) rest ≡ None → failing ≡ false
passes true fault rest none = absurd cc
passes false fault rest none = refl

name_size : (test : Bool) (index : ℕ) → length (cond test (codes "pc") (codes "x" ++ decimal index)) ≤ 65
name_size true index = lit≤ tt
name_size false index = omega (arith, decimal_size index)

spelling_size : (id : RegisterId) → IsWord (register_spelling id)
spelling_size id =
    let name = register_name id.index in
    let behind = codes "." ++ (decimal id.thread ++ (codes "." ++ name)) in
    omega (
      arith,
      length-append (decimal id.process) behind,
      length-append (decimal id.thread) (codes "." ++ name),
      decimal_size id.process,
      decimal_size id.thread,
      name_size (id.index == 32) id.index,
    )

held_word : (text : List ℕ) (register : Option RegisterId) (rows : List (ℕ × ProcessValue)) → register_of text ≡ register → is_none (option_and_then (thread_with rows) register) ≡ false → IsWord text
held_word text None rows there held = absurd cc
held_word text (Some register) rows there held =
    let spelled : text ≡ register_spelling register = ((register_round_trip text register).0 there).1 in
    let few = spelling_size register in
    rw spelled few

pub register_word : (text : List ℕ) (rows : List (ℕ × ProcessValue)) → is_none (holder_of text rows) ≡ false → IsWord text
register_word text rows held = held_word text (register_of text) rows refl held

or_none : (one other : Option Fault) → option_or one other ≡ None → one ≡ None
or_none None other none = refl
or_none (Some fault) other none = absurd cc

unless_many : (many : Bool) (other : Option Fault) → cond many (Some BadSize) other ≡ None → (many ≡ false) × (other ≡ None)
unless_many true other none = absurd cc
unless_many false other none = (refl, none)

if_small : (test : Bool) (event : EventData) → IsSmallEvent event → AreSmall (cond test (event ∷ []) [])
if_small true event small = (small, tt)
if_small false event small = tt

memory_small : (number : Option ℕ) (addr size : ℤ) → AreSmall (memory_events number addr size)
memory_small None addr size = tt
memory_small (Some number) addr size = if_small _ (MemChanged _ _) (process_word number, lit≤ tt)

several_small : (list : List Location) (rows : List (ℕ × ProcessValue)) → locations_fault rows list ≡ None → AreSmall (events_from (slice_get list 0) list)
several_small [] rows none = tt
several_small (first ∷ list) rows none =
    let held = passes (is_none (holder_of first.register rows)) BadContext _ (or_none (location_fault rows first) (locations_fault rows list) none) in
    test_small (name_one first.register (first ∷ list)) (RegChanged first.register ∷ []) (RegsChanged ∷ []) (register_word first.register rows held, tt) (tt, tt)

data_small : (command : Command) (targets : TargetsValue) → data_fault command targets ≡ None → AreSmall (data_given command targets).events
data_small (MemGet id addr word size mode) targets none = tt
data_small (MemSet id addr word size mode bytes) targets none = memory_small (number_named id) addr size
data_small (RegGet id) targets none = tt
data_small (RegSet id bytes) targets none = (register_word id targets.processes (passes (is_none (holder_of id targets.processes)) BadContext _ none), tt)
data_small (RegGetm list) targets none = tt
data_small (RegSetm list bytes) targets none =
    let get_none = or_none (registers_get_fault list targets.processes) _ none in
    several_small list targets.processes (unless_many (nat_lt 256 (length list)) (locations_fault targets.processes list) get_none).1
data_small _ targets none = tt

pub data_told : (command : Command) (targets : TargetsValue) → AreSmall (data_effect command targets).events
data_told command targets = by_fault (data_fault command targets) _ (data_small command targets)

-- ---- Breakpoints

few_owned : (p : Placed → Bool) (rows : List Placed) → length rows ≤ 256 → AreReadable rows → AreSmall (removed_events (ids_of (filter p rows)))
few_owned p rows few readable = by (filter p rows) (omega (arith, few, filter_fewer p rows)) (all_filter (λ (row : Placed). is_bp row.props ≡ true) p rows readable)
  where
    by : (part : List Placed) → length part ≤ 256 → AreReadable part → AreSmall (removed_events (ids_of part))
    by [] short all = tt
    by (row ∷ part) short all = (ids_words (row ∷ part) short all, tt)

pub removed_small : (channel : ℕ) (rows : List Placed) → length rows ≤ 256 → AreReadable rows → AreSmall (removed_events (ids_of (owned_by channel rows)))
removed_small channel rows few readable = few_owned _ rows few readable

taken_small : (channel : ℕ) (command : Command) (rows : List Placed) → length rows ≤ 256 → AreReadable rows → AreSmall (removed_events (removed_by channel command rows))
taken_small channel (BpSet list) rows few readable = removed_small channel rows few readable
taken_small channel (BpRemove ids) rows few readable = few_owned _ rows few readable
taken_small channel _ rows few readable = tt

new_small : (list : List BpProps) → length list ≤ 256 → AreProps list → AreSmall (bp_rows.added_events list)
new_small [] few all = tt
new_small (props ∷ list) few all = ((few, all), tt)

other_small : (list : List BpProps) → length list ≤ 256 → AreProps list → AreSmall (bp_rows.changed_events list)
other_small [] few all = tt
other_small (props ∷ list) few all = ((few, all), tt)

status_all : (attached : List ℕ) (list : List BpProps) → length attached ≤ 64 → AreProps list → AreSmall (status_events attached list)
status_all attached list few all =
    all_mapped (λ (props : BpProps). is_bp props ≡ true) IsSmallEvent (status_event attached) list (λ props is. status_small attached props few is) all

-- new ones that have a place are at most 256
set_few : (list : List BpProps) (rows : List Placed) → has_no_place list rows ≡ false → length list ≤ 256
set_few list rows placed =
    let twice = has_twice (map (λ (props : BpProps). props.id) list) in
    let over = (or_parts (clashes list rows || twice) (is_overfull list rows) placed).1 in
    omega (arith, ltb-false 256 (length rows + length list) over)

added_few : (channel : ℕ) (command : Command) (rows : List Placed) → is_refused channel command rows ≡ false → length (added_by command) ≤ 256
added_few channel (BpSet list) rows placed = set_few list (others channel rows) placed
added_few channel (BpAdd props) rows placed = lit≤ tt
added_few channel _ rows placed = lit≤ tt

switched_few : (enabled : Bool) (ids : List (List ℕ)) (rows : List Placed) → length rows ≤ 256 → length (switched enabled ids rows) ≤ 256
switched_few enabled ids rows few =
    omega (arith, few, filter_fewer (is_switched enabled ids) rows, length-map (filter (is_switched enabled ids) rows) (λ (row : Placed). with_flag enabled row.props))

changed_few : (command : Command) (rows : List Placed) → length rows ≤ 256 → length (changed_by command rows) ≤ 256
changed_few (BpChange props) rows few = lit≤ tt
changed_few (BpEnable ids) rows few = switched_few true ids rows few
changed_few (BpDisable ids) rows few = switched_few false ids rows few
changed_few _ rows few = lit≤ tt

unless_refused : (attached : List ℕ) (refused : Bool) (other : BpDone) → (refused ≡ false → AreSmall (effect_of attached other).events) → AreSmall (effect_of attached (cond refused (Failed 1) other)).events
unless_refused attached true other small = tt
unless_refused attached false other small = small refl

change_told : (channel : ℕ) (command : Command) (attached : List ℕ) (rows : List Placed) → IsReadable command → length attached ≤ 64 → length rows ≤ 256 → AreReadable rows
    → AreSmall (effect_of attached (done channel command rows)).events
change_told channel command attached rows readable beside few all =
    let added = added_by command in
    let changed = changed_by command rows in
    let new = added_readable command readable in
    let other = changed_readable command rows readable all in
    unless_refused attached (is_refused channel command rows) (Changed (removed_by channel command rows) added changed)
    (λ taken. all_append IsSmallEvent (removed_events (removed_by channel command rows)) _ (taken_small channel command rows few all)
    (three_small (bp_rows.added_events added) (bp_rows.changed_events changed) _ (new_small added (added_few channel command rows taken) new) (other_small changed (changed_few command rows few) other)
    (all_append IsSmallEvent (status_events attached added) (status_events attached changed) (status_all attached added beside new) (status_all attached changed beside other))))

either_told : (test : Bool) (one other : Effect) → AreSmall one.events → AreSmall other.events → AreSmall (cond test one other).events
either_told true one other small also = small
either_told false one other small also = also

pub breakpoints_told : (channel : ℕ) (command : Command) (target : TargetValue) → IsReadable command → AreBounded target → AreSmall (breakpoints_effect channel command target).events
breakpoints_told channel command target readable bounded =
    let attached = attached_in target.contexts.processes in
    let answer = gives (ask_answer command attached target.breakpoints) in
    either_told (changes_list command) (effect_of attached (done channel command target.breakpoints)) (effect_by (ask_fault command target) answer)
    (change_told channel command attached target.breakpoints readable (attached_few target.contexts.processes bounded.few) bounded.listed bounded.properties)
    (by_fault (ask_fault command target) answer (λ _. tt))

-- ---- a tick

hits_few : (number : ℕ) (attached : Bool) (pc : ℕ) (bps : List Placed) → length bps ≤ 256 → length (hits_of number attached pc bps) ≤ 256
hits_few number true pc bps few =
    let hit = λ (row : Placed). is_hit number pc row.props in
    omega (arith, few, filter_fewer hit bps, length-map (filter hit bps) (λ (row : Placed). row.props.id))
hits_few number false pc bps few = lit≤ tt

in_few : (bps : List Placed) (number : ℕ) (attached : Bool) (found : Option Thread) → length bps ≤ 256 → length (hits_in bps number attached found) ≤ 256
in_few bps number attached None few = lit≤ tt
in_few bps number attached (Some thread) few = hits_few number attached thread.cpu.pc bps few

ticked_small : (bps : List Placed) (number n : ℕ) (process : Option ProcessValue) (after : TargetValue) → IfSome process IsShort → length bps ≤ 256 → AreBounded after → AreSmall (ticked_events_at bps number n process after)
ticked_small bps number n None after is few bounded = tt
ticked_small bps number n (Some process) after is few bounded =
    let next : ProcessValue = stepped n process in
    tick_alone (λ fate. AreSmall (settled_events number n (thread_count process) fate after)) bps number n process
    (fate_small number n (thread_count process) (counted_in (thread_at n process)) (hits_at bps number n next) after is.count.few (in_few bps number next.attached (thread_at n next) few) bounded)

pub tick_told_small : (target : TargetValue) (pair : Option (ℕ × ℕ)) → AllShort target.contexts.processes → length target.breakpoints ≤ 256 → AreBounded (option_map_or (λ p. ticked p.0 p.1 target) pair target)
    → IfSome (option_map (λ p. ticked_events p.0 p.1 target) pair) AreSmall
tick_told_small target None short few bounded = tt
tick_told_small target (Some pair) short few bounded =
    let rows = target.contexts.processes in
    ticked_small target.breakpoints pair.0 pair.1 (process_of pair.0 rows) (ticked pair.0 pair.1 target) (found_short rows pair.0 short) few bounded
