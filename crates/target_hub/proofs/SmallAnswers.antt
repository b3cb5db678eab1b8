-- The answer to each command is small.
use Rattle.std.proofs.Common.{◌≡◌, ◌≤◌, ◌+◌, ◌*◌, ℕ, ℤ, pos, negsuc, Bool, true, false, cond, nat_lt, List, [], ◌∷◌, drop, length, map, Option, Some, None, IfSome, option_map, option_and_then, refl, arith, lit≤, length-append, length-drop, length-take}
use Rattle.std.specs.List.{cons_option}
use Rattle.std.specs.Prelude.{int_lt, unsigned_abs}
use Rattle.std.proofs.lemmas.Bool.{ltb-false, or_parts}
use Rattle.std.proofs.lemmas.List.{length-map}
use Rattle.json_values.specs.Sizes.{AreWords, IsSmallContext, IsWord}
use Rattle.reply_tables.specs.Sizes.{IsSmallAnswer}
use Rattle.service_names.specs.Commands.{named_as}
use Rattle.service_names.specs.declared.commands.CommandName.{CommandName}
use Rattle.service_names.specs.declared.commands.CommandName.TheVariants as service
use Rattle.tcf_values.specs.Effects.{effect_by, failed, gives}
use Rattle.tcf_values.specs.Faults.{code_of, first_fault}
use Rattle.tcf_values.specs.Ids.{context_of, register_of}
use Rattle.tcf_values.specs.declared.answer.Answer.{Answer}
use Rattle.tcf_values.specs.declared.command.Command.{Command}
use Rattle.tcf_values.specs.declared.command.Command.TheVariants.{GetPeers, Redirect, GetContext, GetChildren, GetState, BpIds, BpProperties, BpGetStatus, BpCapabilities, MemGet, RegGet, RegGetm, ProcContext, ProcChildren, ProcStart, TraceRun}
use Rattle.tcf_values.specs.declared.effect.Effect.{Effect}
use Rattle.tcf_values.specs.declared.faults.Fault.{Fault}
use Rattle.tcf_values.specs.declared.ids.ContextId.{ContextId}
use Rattle.tcf_values.specs.declared.ids.ContextId.TheVariants as ids
use Rattle.tcf_values.specs.declared.ids.RegisterId.{RegisterId}
use Rattle.tcf_values.specs.declared.values.BpProps.{BpProps}
use Rattle.tcf_values.specs.declared.values.ContextData.{ContextData}
use Rattle.tcf_values.specs.declared.values.Location.{Location}
use Rattle.breakpoints.specs.Changes.{added_by, changed_by, changes_list, done, is_refused, removed_by}
use Rattle.breakpoints.specs.Rows.{props_of, row_of}
use Rattle.breakpoints.specs.Status.{instances_of}
use Rattle.breakpoints.specs.declared.breakpoints.BpDone.TheVariants.{Failed, Changed}
use Rattle.data_services.specs.Bytes.{part_of, word_bytes}
use Rattle.data_services.specs.Commands.{data_effect, data_fault, data_given}
use Rattle.data_services.specs.MemoryRows.{is_no_size, memory_bytes}
use Rattle.data_services.specs.Named.{holder_of, thread_with}
use Rattle.data_services.specs.Parts.{bytes_in, bytes_of, number_in, parts_named}
use Rattle.data_services.specs.RegisterRows.{locations_fault, register_bytes}
use Rattle.run_control.specs.Asking.{children_named, children_of, context_answer, data_named, process_answer, process_answer_of, processes_named, run_state, state_answer}
use Rattle.run_control.specs.Commands.{run_effect, run_fault, run_given, run_left, trace_given}
use Rattle.run_control.specs.Naming.{is_empty, process_id, process_named}
use Rattle.run_control.specs.Steering.{thread_there}
use Rattle.target_contexts.specs.Contexts.{context_of as data_of, process_data, thread_data}
use Rattle.target_contexts.specs.Live.{numbers_of, process_of}
use Rattle.target_contexts.specs.Named.{attached_in, thread_at_pair, thread_named}
use Rattle.target_contexts.specs.Short.{AllShort, IsShort, IsShortState}
use Rattle.target_contexts.specs.TargetsValue.{TargetsValue}
use Rattle.target_contexts.specs.Threads.{count_in, holding}
use Rattle.target_contexts.specs.declared.threads.Thread.{Thread}
use Rattle.target_contexts.specs.ProcessValue.{ProcessValue}
use Rattle.target_contexts.specs.declared.process.ThreadState.{ThreadState}
use Rattle.target_contexts.specs.declared.process.ThreadState.TheVariants.{Running, Suspended}
use Rattle.target_hub.specs.BreakpointsRows.{ask_answer, ask_fault, breakpoints_effect, effect_of, props_answer, status_answer}
use Rattle.target_hub.specs.Execution.{effect_in, exec_effect}
use Rattle.target_hub.specs.LocatorRows.{locator_answer}
use Rattle.run_control.specs.TargetValue.{TargetValue}
use Rattle.reply_tables.proofs.TheLaws.{reports_are_small}
use Rattle.target_hub.proofs.Rows.{IfReadable, found_readable}
use Rattle.target_hub.proofs.Small.{AreBounded, IsShortThread, attached_few, count_few, found_short, ids_of_threads, ids_words, instances_small, process_small, process_word, thread_found_short, thread_small}
use Rattle.list_laws.proofs.AllLists.{all_map}
use Rattle.breakpoints.specs.declared.rows.Placed.{Placed}

-- ---- a command that fails is answered by a report

failed_small : (fault : Fault) → IsSmallAnswer (failed fault).answer
unfolding failed
failed_small fault = reports_are_small (code_of fault)

pub answer_by : (fault : Option Fault) (given : Effect) → (fault ≡ None → IsSmallAnswer given.answer) → IsSmallAnswer (effect_by fault given).answer
answer_by None given small = small refl
answer_by (Some fault) given small = failed_small fault

-- ---- contexts and states

process_context : (number : ℕ) (found : Option ProcessValue) → IfSome found IsShort → IfSome (option_map (λ process. process_data number process) found) IsSmallContext
process_context number None is = tt
process_context number (Some process) is = process_small number process is

thread_context : (number n : ℕ) (found : Option ProcessValue) → IfSome (option_map (λ process. thread_data number n process) found) IsSmallContext
thread_context number n None = tt
thread_context number n (Some process) = thread_small number n process

of_context : (context : ContextId) (rows : List (ℕ × ProcessValue)) → AllShort rows → IfSome (data_of context rows) IsSmallContext
of_context (ids.Process number) rows all = process_context number (process_of number rows) (found_short rows number all)
of_context (ids.Thread number n) rows all = thread_context number n (holding n (process_of number rows))

named_small : (context : Option ContextId) (rows : List (ℕ × ProcessValue)) → AllShort rows → IfSome (option_and_then (λ c. data_of c rows) context) IsSmallContext
named_small None rows all = tt
named_small (Some context) rows all = of_context context rows all

context_small : (found : Option ContextData) → IfSome found IsSmallContext → IsSmallAnswer (context_answer found)
context_small None small = tt
context_small (Some context) small = small

state_small : (pc : ℕ) (state : ThreadState) → IsShortState state → IsSmallAnswer (Answer.State (run_state pc state))
state_small pc (Running left) short = tt
state_small pc (Suspended reason hits) short = short

state_of_small : (found : Option Thread) → IfSome found IsShortThread → IsSmallAnswer (state_answer found)
state_of_small None is = tt
state_of_small (Some thread) is = state_small thread.cpu.pc thread.state is

at_pair : (rows : List (ℕ × ProcessValue)) (pair : Option (ℕ × ℕ)) → AllShort rows → IfSome (thread_at_pair pair rows) IsShortThread
at_pair rows None all = tt
at_pair rows (Some pair) all = thread_found_short rows pair.0 pair.1 all

process_of_small : (number : ℕ) (found : Option ProcessValue) → IfSome found IsShort → IsSmallAnswer (process_answer_of number found)
process_of_small number None is = tt
process_of_small number (Some process) is = record { id = process_word number; name = is.name }

process_answer_small : (rows : List (ℕ × ProcessValue)) (number : Option ℕ) → AllShort rows → IsSmallAnswer (process_answer number rows)
process_answer_small rows None all = tt
process_answer_small rows (Some number) all = process_of_small number (process_of number rows) (found_short rows number all)

-- ---- lists of IDs

numbers_words : (numbers : List ℕ) → length numbers ≤ 64 → AreWords (map process_id numbers)
numbers_words numbers few = (omega (arith, few, length-map numbers process_id), all_map IsWord process_id numbers process_word)

numbers_few : (rows : List (ℕ × ProcessValue)) → length rows ≤ 64 → length (numbers_of rows) ≤ 64
numbers_few rows few = omega (arith, few, length-map rows (λ (row : ℕ × ProcessValue). row.0))

either_words : (test : Bool) (one other : List (List ℕ)) → AreWords one → AreWords other → AreWords (cond test one other)
either_words true one other words also = words
either_words false one other words also = also

children_words : (context : Option ContextId) (rows : List (ℕ × ProcessValue)) → AllShort rows → AreWords (children_of context rows)
children_words None rows all = (lit≤ tt, tt)
children_words (Some (ids.Process number)) rows all = ids_of_threads number (count_in (process_of number rows)) (count_few rows number all)
children_words (Some (ids.Thread number n)) rows all = (lit≤ tt, tt)

named_words : (id : List ℕ) (rows : List (ℕ × ProcessValue)) → length rows ≤ 64 → AllShort rows → AreWords (children_named id rows)
named_words id rows few all = either_words (is_empty id) (map process_id (numbers_of rows)) _ (numbers_words (numbers_of rows) (numbers_few rows few)) (children_words (context_of id) rows all)

either_numbers : (test : Bool) (one other : List ℕ) → length one ≤ 64 → length other ≤ 64 → length (cond test one other) ≤ 64
either_numbers true one other few also = few
either_numbers false one other few also = also

processes_words : (id : List ℕ) (attached : Bool) (rows : List (ℕ × ProcessValue)) → length rows ≤ 64 → AreWords (processes_named id attached rows)
processes_words id attached rows few =
    let numbers = cond attached (attached_in rows) (numbers_of rows) in
    either_words (is_empty id) (map process_id numbers) [] (numbers_words numbers (either_numbers attached (attached_in rows) (numbers_of rows) (attached_few rows few) (numbers_few rows few)))
    (lit≤ tt, tt)

-- ---- RunControl, Processes and Trace

trace_answer : (count : ℕ) (pair : Option (ℕ × ℕ)) (target after : TargetValue) → IsSmallAnswer (trace_given count pair target after).answer
trace_answer count None target after = tt
trace_answer count (Some pair) target after = tt

run_answer : (command : Command) (target after : TargetValue) → AreBounded target → AllShort after.contexts.processes → IsSmallAnswer (run_given command target after).answer
run_answer (GetContext id) target after bounded short = context_small (data_named id target.contexts.processes) (named_small (context_of id) target.contexts.processes bounded.short)
run_answer (GetChildren id) target after bounded short = named_words id target.contexts.processes bounded.few bounded.short
run_answer (GetState id) target after bounded short = state_of_small (thread_there id target.contexts.processes) (at_pair target.contexts.processes (thread_named id) bounded.short)
run_answer (ProcContext id) target after bounded short = process_answer_small target.contexts.processes (process_named id) bounded.short
run_answer (ProcChildren id attached) target after bounded short = processes_words id attached target.contexts.processes bounded.few
run_answer (ProcStart directory file args environment attach) target after bounded short = process_answer_small after.contexts.processes (Some target.contexts.next) short
run_answer (TraceRun id count) target after bounded short = trace_answer (unsigned_abs count) (thread_named id) target after
run_answer _ target after bounded short = tt

-- ---- Memory and Registers

part_few : (first count : ℕ) (bytes : List ℕ) → length (part_of first count bytes) ≤ count
part_few first count bytes = omega (arith, length-take count (drop first bytes))

-- the second check of three passes
second_of_three : (a b c : Bool) (e f g : Fault) → first_fault ((a, e) ∷ (b, f) ∷ (c, g) ∷ []) ≡ None → b ≡ false
second_of_three true b c e f g none = absurd cc
second_of_three false true c e f g none = absurd cc
second_of_three false false c e f g none = refl

size_few : (size : ℤ) → is_no_size size ≡ false → unsigned_abs size ≤ 65536
size_few (pos n) sized = ltb-false 65536 n (or_parts (int_lt (pos n) (pos 0)) (int_lt (pos 65536) (pos n)) sized).1
size_few (negsuc n) sized = absurd cc

memory_few : (addr size : ℤ) (found : Option ProcessValue) → unsigned_abs size ≤ 65536 → length (memory_bytes addr size found) ≤ 65536
memory_few addr size None few = lit≤ tt
memory_few addr size (Some process) few = omega (arith, few, part_few (unsigned_abs addr) (unsigned_abs size) process.memory)

word_four : (number : ℕ) → length (word_bytes number) ≡ 4
unfolding word_bytes
word_four number = refl

register_few : (register : Option RegisterId) (found : Option Thread) → length (register_bytes register found) ≤ 65536
register_few None found = lit≤ tt
register_few (Some register) None = lit≤ tt
register_few (Some register) (Some thread) = omega (arith, word_four (number_in register.index thread.cpu))

word_part : (offset size index : ℕ) (thread : Thread) → length (part_of offset size (word_bytes (number_in index thread.cpu))) ≤ 4
word_part offset size index thread =
    let word = word_bytes (number_in index thread.cpu) in
    omega (arith, length-take size (drop offset word), length-drop offset word, word_four (number_in index thread.cpu))

in_few : (register : RegisterId) (offset size : ℕ) (found : Option Thread) → length (bytes_in (record { register = register; offset = offset; size = size }) found) ≤ 4
in_few register offset size None = lit≤ tt
in_few register offset size (Some thread) = word_part offset size register.index thread

one_few : (register : Option RegisterId) (location : Location) (list : List Location) (rows : List (ℕ × ProcessValue)) → length (bytes_of rows (parts_named list)) ≤ 4 * length list
    → length (bytes_of rows (cons_option (option_map (λ (r : RegisterId). record { register = r; offset = unsigned_abs location.offset; size = unsigned_abs location.size }) register) (parts_named list))) ≤ 4 * length list + 4
one_few None location list rows few = omega arith
one_few (Some r) location list rows few =
    let offset = unsigned_abs location.offset in
    let size = unsigned_abs location.size in
    let found = thread_with rows r in
    omega (arith, few, length-append (bytes_in (record { register = r; offset = offset; size = size }) found) (bytes_of rows (parts_named list)), in_few r offset size found)

-- four bytes of each location
all_few : (list : List Location) (rows : List (ℕ × ProcessValue)) → length (bytes_of rows (parts_named list)) ≤ 4 * length list
all_few [] rows = omega arith
all_few (location ∷ list) rows = omega (arith, one_few (register_of location.register) location list rows (all_few list rows))

unless_many : (many : Bool) (fault : Fault) (other : Option Fault) → cond many (Some fault) other ≡ None → many ≡ false
unless_many true fault other none = absurd cc
unless_many false fault other none = refl

getm_few : (list : List Location) (rows : List (ℕ × ProcessValue)) → nat_lt 256 (length list) ≡ false → length (bytes_of rows (parts_named list)) ≤ 65536
getm_few list rows few = omega (arith, ltb-false 256 (length list) few, all_few list rows)

data_answer : (command : Command) (targets : TargetsValue) → data_fault command targets ≡ None → IsSmallAnswer (data_given command targets).answer
data_answer (MemGet id addr word size mode) targets none = memory_few addr size _ (size_few size (second_of_three _ _ _ _ _ _ none))
data_answer (RegGet id) targets none = register_few (register_of id) (holder_of id targets.processes)
data_answer (RegGetm list) targets none = getm_few list targets.processes (unless_many _ _ (locations_fault targets.processes list) none)
data_answer _ targets none = tt

-- ---- Breakpoints

changed_answer : (attached : List ℕ) (refused : Bool) (removed : List (List ℕ)) (added changed : List BpProps) → IsSmallAnswer (effect_of attached (cond refused (Failed 1) (Changed removed added changed))).answer
changed_answer attached true removed added changed = reports_are_small 1
changed_answer attached false removed added changed = tt

change_answer : (channel : ℕ) (command : Command) (target : TargetValue) → IsSmallAnswer (effect_of (attached_in target.contexts.processes) (done channel command target.breakpoints)).answer
change_answer channel command target =
    let rows = target.breakpoints in
    changed_answer (attached_in target.contexts.processes) (is_refused channel command rows) (removed_by channel command rows) (added_by command) (changed_by command rows)

props_small : (found : Option BpProps) → IfReadable found → IsSmallAnswer (props_answer found)
props_small None readable = tt
props_small (Some props) readable = readable

status_answer_small : (attached : List ℕ) (found : Option Placed) → length attached ≤ 64
    → IsSmallAnswer (status_answer (option_map (λ row. record { instances = instances_of row.props row.counts attached }) found))
status_answer_small attached None few = tt
status_answer_small attached (Some row) few = instances_small row.props row.counts attached few

ask_small : (command : Command) (target : TargetValue) → AreBounded target → IsSmallAnswer (ask_answer command (attached_in target.contexts.processes) target.breakpoints)
ask_small BpIds target bounded = ids_words target.breakpoints bounded.listed bounded.properties
ask_small (BpProperties id) target bounded = props_small (props_of id target.breakpoints) (found_readable id target.breakpoints bounded.properties)
ask_small (BpGetStatus id) target bounded =
    status_answer_small (attached_in target.contexts.processes) (row_of id target.breakpoints) (attached_few target.contexts.processes bounded.few)
ask_small (BpCapabilities id) target bounded = tt
ask_small _ target bounded = tt

either_answer : (test : Bool) (one other : Effect) → IsSmallAnswer one.answer → IsSmallAnswer other.answer → IsSmallAnswer (cond test one other).answer
either_answer true one other small also = small
either_answer false one other small also = also

breakpoints_answer : (channel : ℕ) (command : Command) (target : TargetValue) → AreBounded target → IsSmallAnswer (breakpoints_effect channel command target).answer
breakpoints_answer channel command target bounded =
    let attached = attached_in target.contexts.processes in
    let answer = gives (ask_answer command attached target.breakpoints) in
    either_answer (changes_list command) (effect_of attached (done channel command target.breakpoints)) (effect_by (ask_fault command target) answer)
    (change_answer channel command target) (answer_by (ask_fault command target) answer (λ _. ask_small command target bounded))

-- ---- every service

locator_small : (command : Command) → IsSmallAnswer (locator_answer command)
locator_small GetPeers = (lit≤ tt, tt)
locator_small (Redirect peer) = reports_are_small 7
locator_small _ = tt

run_small : (command : Command) (target : TargetValue) → AreBounded target → (run_fault command target.contexts ≡ None → AllShort (run_left command target).contexts.processes)
    → IsSmallAnswer (run_effect command target).answer
run_small command target bounded after =
    let left = run_left command target in
    answer_by (run_fault command target.contexts) (run_given command target left) (λ none. run_answer command target left bounded (after none))

data_small : (command : Command) (targets : TargetsValue) → IsSmallAnswer (data_effect command targets).answer
data_small command targets = answer_by (data_fault command targets) (data_given command targets) (data_answer command targets)

answer_in : (name : CommandName) (channel : ℕ) (command : Command) (target : TargetValue) → AreBounded target
    → (run_fault command target.contexts ≡ None → AllShort (run_left command target).contexts.processes) → IsSmallAnswer (effect_in name channel command target).answer
answer_in (service.Locator name) channel command target bounded after = locator_small command
answer_in (service.RunControl name) channel command target bounded after = run_small command target bounded after
answer_in (service.Breakpoints name) channel command target bounded after = breakpoints_answer channel command target bounded
answer_in (service.Memory name) channel command target bounded after = data_small command target.contexts
answer_in (service.Registers name) channel command target bounded after = data_small command target.contexts
answer_in (service.Processes name) channel command target bounded after = run_small command target bounded after
answer_in (service.Trace name) channel command target bounded after = run_small command target bounded after

pub exec_answer_small : (channel : ℕ) (command : Command) (target : TargetValue) → AreBounded target
    → (run_fault command target.contexts ≡ None → AllShort (run_left command target).contexts.processes) → IsSmallAnswer (exec_effect channel command target).answer
unfolding exec_effect
exec_answer_small channel command target bounded after = answer_in (named_as command) channel command target bounded after
