-- The commands that ask: what they answer is so.
use Rattle.std.proofs.Common.{◌≡◌, ◌<◌, ◌^◌, ℕ, ℤ, ◌&&◌, Bool, true, false, not, cond, List, [], ◌∷◌, map, bytes_eq, Option, Some, None, option_map, option_and_then, IfSome, refl, sym, ◌∙◌, ap, subst, arith}
use Rattle.std.specs.Prelude.{is_none, unsigned_abs}
use Rattle.std.specs.List.{AllByRecursion, find, list_all}
use Rattle.std.proofs.lemmas.Bool.{cond-false, cond_both}
use Rattle.list_laws.proofs.AllLists.{all_if}
use Rattle.breakpoints.specs.Counts.{AreCounts}
use Rattle.breakpoints.specs.Rows.{props_of, row_of}
use Rattle.command_tables.specs.Canonical.{IsReadable}
use Rattle.data_services.specs.Bytes.{part_of, word_bytes}
use Rattle.data_services.specs.MemoryRows.{memory_bytes, memory_get_fault}
use Rattle.data_services.specs.Named.{holder_of}
use Rattle.data_services.specs.Parts.{bytes_of, number_in, parts_named}
use Rattle.data_services.specs.RegisterRows.{register_bytes, register_get_fault, registers_get_fault}
use Rattle.json_values.specs.Contexts.{IsContext}
use Rattle.json_values.specs.Props.{is_bp}
use Rattle.knowledge.specs.Learning.{Message}
use Rattle.knowledge.specs.Changes.{threads_told}
use Rattle.knowledge.specs.Rows.{is_thread_of, memory_read, process_for, range_read, state_changes, state_of_thread, threads_listed, whole_read}
use Rattle.reply_tables.specs.Written.{IsTypedState, answer_data}
use Rattle.run_control.specs.Asking.{children_fault, children_of, context_answer, context_fault, run_state, state_answer, state_fault}
use Rattle.run_control.specs.Naming.{is_empty, process_id, thread_ids}
use Rattle.target_contexts.specs.Contexts.{context_of as data_of, process_data, thread_data}
use Rattle.target_contexts.specs.Live.{numbers_of, process_of}
use Rattle.target_contexts.specs.Named.{attached_in, holder_for, runs, thread_at_pair, thread_for}
use Rattle.target_contexts.specs.ProcessValue.{ProcessValue}
use Rattle.target_contexts.specs.Threads.{count_in, has_thread, holding, thread_at, thread_count}
use Rattle.target_contexts.specs.declared.threads.Thread.{Thread}
use Rattle.target_contexts.specs.declared.process.ThreadState.{ThreadState}
use Rattle.target_contexts.specs.declared.process.ThreadState.TheVariants.{Running, Suspended}
use Rattle.target_hub.specs.BreakpointsRows.{ask_fault, props_answer, status_answer}
use Rattle.target_hub.specs.Execution.{exec_effect}
use Rattle.target_hub.specs.Limits.{AreReadable}
use Rattle.run_control.specs.TargetValue.{TargetValue}
use Rattle.target_truth.specs.Holds.{data_in, process_in, state_fact}
use Rattle.target_truth.specs.Taught.{answer_message}
use Rattle.target_truth.proofs.Answering.{IsTrueAnswer, answer_by_fault, answered}
use Rattle.target_truth.proofs.Changes.{IsSo, Moves}
use Rattle.target_truth.proofs.Decoding.{blob_typed}
use Rattle.target_truth.proofs.FitRun.{cpu_found}
use Rattle.target_truth.proofs.Holders.{held_found}
use Rattle.target_truth.proofs.Live.{few_found, number_found}
use Rattle.target_truth.proofs.AnswerBytes.{part_bytes, parts_typed, word_typed}
use Rattle.target_truth.proofs.MemoryRead.{range_so}
use Rattle.target_truth.proofs.RegisterPartsRead.{parts_so}
use Rattle.target_truth.proofs.RegistersRead.{whole_so, word_whole}
use Rattle.target_truth.proofs.Seen.{number_of, number_seen, own_ids, state_seen, threads_seen}
use Rattle.target_truth.proofs.Threads.{state_told}
use Rattle.target_truth.proofs.Faults.{check_passed}
use Rattle.target_truth.proofs.Whole.{IsGood}
use Rattle.target_truth.proofs.ContextLimits.{thread_fits}
use Rattle.target_hub.proofs.Points.{found_is}
use Rattle.target_truth.proofs.Differs.{status_by}
use Rattle.target_truth.proofs.StatusLimits.{instances_fit}
use Rattle.tcf_values.specs.Ids.{context_of, register_of}
use Rattle.tcf_values.specs.declared.answer.Answer.TheVariants as answers
use Rattle.tcf_values.specs.declared.command.Command.{Command}
use Rattle.tcf_values.specs.declared.command.Command.TheVariants as commands
use Rattle.tcf_values.specs.declared.ids.ContextId.{ContextId}
use Rattle.tcf_values.specs.declared.ids.ContextId.TheVariants as ids
use Rattle.tcf_values.specs.declared.ids.RegisterId.{RegisterId}
use Rattle.tcf_values.specs.declared.values.BpProps.{BpProps}
use Rattle.tcf_values.specs.declared.values.ContextData.{ContextData}
use Rattle.tcf_values.specs.declared.values.Location.{Location}
use Rattle.target_hub.proofs.Told.{process_within as process_fits}
use Rattle.breakpoints.specs.declared.rows.Placed.{Placed}

-- the answer to a command of a channel, as it is taken
abbrev pub reply : ℕ → Command → TargetValue → Message
reply channel command target = answer_message command (answer_data command (exec_effect channel command target).answer)

-- what is answered is so
abbrev pub Answers : ℕ → Command → TargetValue → Type 0
Answers channel command target = Moves target target (reply channel command target)

-- ---- contexts

of_process : (told : ProcessValue → ContextData) (found : Option ProcessValue) → ((process : ProcessValue) → IsContext (told process)) → IfSome (option_map told found) IsContext
of_process told None fits = tt
of_process told (Some process) fits = fits process

data_within : (rows : List (ℕ × ProcessValue)) (context : Option ContextId) → IfSome (option_and_then (λ c. data_of c rows) context) IsContext
data_within rows None = tt
data_within rows (Some (ids.Process number)) = of_process (λ p. process_data number p) (process_of number rows) (process_fits number)
data_within rows (Some (ids.Thread number n)) = of_process (λ p. thread_data number n p) (holding n (process_of number rows)) (thread_fits number n)

context_so : (id : List ℕ) (target : TargetValue) (found : Option ContextData) → data_in id target ≡ found → IfSome found IsContext → is_none found ≡ false
    → IsTrueAnswer target (commands.GetContext id) (context_answer found)
context_so id target None is within some = absurd cc
context_so id target (Some context) is within some = record { limits = (refl, within); typed = tt; so = (is, tt) }

pub get_context : (channel : ℕ) (id : List ℕ) (target : TargetValue) → IsGood target → Answers channel (commands.GetContext id) target
unfolding exec_effect
get_context channel id target good =
    answered target (commands.GetContext id) _ (answer_by_fault target (commands.GetContext id) (context_fault id target.contexts.processes) _ (λ none.
    context_so id target (data_in id target) refl (data_within target.contexts.processes (context_of id)) (check_passed _ _ _ none).0))

-- ---- the threads of a process

-- a text that is read as an ID isn't empty
not_empty : (id : List ℕ) (context : ContextId) → context_of id ≡ Some context → is_empty id ≡ false
not_empty [] context named = absurd cc
not_empty (letter ∷ id) context named = refl

threads_by : (target : TargetValue) (number : ℕ) (found : Option ProcessValue) → IsGood target → process_in number target ≡ found → is_none (option_map (λ p. process_data number p) found) ≡ false
    → AllByRecursion (IsSo target) (threads_listed (Some (ids.Process number)) (thread_ids number (count_in found)))
threads_by target number None good there some = absurd cc
threads_by target number (Some process) good there some =
    let all = thread_ids number (thread_count process) in
    all_if (IsSo target) (list_all (is_thread_of number) all) (threads_told number all ∷ []) (λ are.
    ((ap (threads_seen number) there, own_ids number 1 (thread_count process) (number_found target number process good there) (omega arith) (omega (arith, few_found target number process good there))), tt))

children_by : (id : List ℕ) (target : TargetValue) (context : Option ContextId) → IsGood target → context_of id ≡ context
    → (not (is_empty id) && is_none (option_and_then (λ c. data_of c target.contexts.processes) context)) ≡ false
    → AllByRecursion (IsSo target) (threads_listed context (cond (is_empty id) (map process_id (numbers_of target.contexts.processes)) (children_of context target.contexts.processes)))
children_by id target None good named none = tt
children_by id target (Some (ids.Thread number n)) good named none = tt
children_by id target (Some (ids.Process number)) good named none =
    let some = not_empty id (ids.Process number) named in
    let there : is_none (option_map (λ p. process_data number p) (process_in number target)) ≡ false =
    sym (ap (λ e. not e && is_none (option_map (λ p. process_data number p) (process_in number target))) some) ∙ none in
    subst (λ (list : List (List ℕ)). AllByRecursion (IsSo target) (threads_listed (Some (ids.Process number)) list)) (sym (cond-false (is_empty id) (map process_id (numbers_of target.contexts.processes)) (thread_ids number (count_in (process_in number target))) some))
    (threads_by target number (process_in number target) good refl there)

pub get_children : (channel : ℕ) (id : List ℕ) (target : TargetValue) → IsGood target → Answers channel (commands.GetChildren id) target
unfolding exec_effect
get_children channel id target good =
    answered target (commands.GetChildren id) _ (answer_by_fault target (commands.GetChildren id) (children_fault id target.contexts.processes) _ (λ none.
    record { limits = refl; typed = tt; so = children_by id target (context_of id) good refl (check_passed _ _ _ none).0 }))

-- ---- states

thread_so : (target : TargetValue) (number n : ℕ) (process : ProcessValue) (thread : Thread) (state : ThreadState) → process_in number target ≡ Some process → thread_at n process ≡ Some thread → thread.state ≡ state
    → AllByRecursion (IsSo target) (state_changes (run_state thread.cpu.pc state) number n)
thread_so target number n process thread (Running left) there at is =
    (ap (state_seen n) there ∙ ap state_told at ∙ ap (λ (s : ThreadState). Some (state_fact s)) is, tt)
thread_so target number n process thread (Suspended reason hits) there at is = (
  ap (state_seen n) there ∙ ap state_told at ∙ ap (λ (s : ThreadState). Some (state_fact s)) is,
  (ap (number_seen n 32) there ∙ ap (number_of 32) at ∙ ap (λ (s : ThreadState). cond (runs s) None (Some thread.cpu.pc)) is, tt),
)

pc_typed : (pc : ℕ) (state : ThreadState) → pc < 2 ^ 32 → IsTypedState (run_state pc state)
pc_typed pc (Running left) small = tt
pc_typed pc (Suspended reason hits) small = small

found_state : (id : List ℕ) (target : TargetValue) (number n : ℕ) (process : ProcessValue) (found : Option Thread) → IsGood target → context_of id ≡ Some (ids.Thread number n)
    → process_in number target ≡ Some process → thread_at n process ≡ found → is_none found ≡ false → IsTrueAnswer target (commands.GetState id) (state_answer found)
found_state id target number n process None good is there at some = absurd cc
found_state id target number n process (Some thread) good is there at some = record {
  limits = tt;
  typed = pc_typed thread.cpu.pc thread.state (cpu_found n process thread at (good.whole number process there)).pc;
  so = subst (λ (context : Option ContextId). AllByRecursion (IsSo target) (state_of_thread context (run_state thread.cpu.pc thread.state))) (sym is)
      (thread_so target number n process thread thread.state there at refl);
}

thread_state : (id : List ℕ) (target : TargetValue) (number n : ℕ) (found : Option ProcessValue) → IsGood target → context_of id ≡ Some (ids.Thread number n) → process_in number target ≡ found
    → is_none (option_and_then (thread_at n) found) ≡ false → IsTrueAnswer target (commands.GetState id) (state_answer (option_and_then (thread_at n) found))
thread_state id target number n None good is there some = absurd cc
thread_state id target number n (Some process) good is there some = found_state id target number n process (thread_at n process) good is there refl some

state_so : (id : List ℕ) (target : TargetValue) (context : Option ContextId) → IsGood target → context_of id ≡ context
    → is_none (thread_at_pair (option_and_then thread_for context) target.contexts.processes) ≡ false
    → IsTrueAnswer target (commands.GetState id) (state_answer (thread_at_pair (option_and_then thread_for context) target.contexts.processes))
state_so id target None good is some = absurd cc
state_so id target (Some (ids.Process number)) good is some = absurd cc
state_so id target (Some (ids.Thread number n)) good is some = thread_state id target number n (process_in number target) good is refl some

pub get_state : (channel : ℕ) (id : List ℕ) (target : TargetValue) → IsGood target → Answers channel (commands.GetState id) target
unfolding exec_effect
get_state channel id target good =
    answered target (commands.GetState id) _ (answer_by_fault target (commands.GetState id) (state_fault id target.contexts.processes) _ (λ none.
    state_so id target (context_of id) good refl (check_passed _ _ _ none).0))

-- ---- breakpoints

abbrev IsReadableBp : BpProps → Type 0
IsReadableBp props = is_bp props ≡ true

found_readable : (id : List ℕ) (rows : List Placed) → AreReadable rows → IfSome (props_of id rows) IsReadableBp
found_readable id [] all = tt
found_readable id (row ∷ rows) all =
    cond_both (bytes_eq id row.props.id) (Some row) (find (λ (r : Placed). bytes_eq id r.props.id) rows) (λ found. IfSome (option_map (λ (r : Placed). r.props) found) IsReadableBp)
    (λ is. all.0) (λ isnt. found_readable id rows all.1)

properties_so : (id : List ℕ) (target : TargetValue) (found : Option BpProps) → props_of id target.breakpoints ≡ found → IfSome found IsReadableBp → is_none found ≡ false
    → IsTrueAnswer target (commands.BpProperties id) (props_answer found)
properties_so id target None is readable some = absurd cc
properties_so id target (Some props) is readable some = record { limits = (refl, readable); typed = tt; so = (is, tt) }

pub get_properties : (channel : ℕ) (id : List ℕ) (target : TargetValue) → IsGood target → Answers channel (commands.BpProperties id) target
unfolding exec_effect
get_properties channel id target good =
    answered target (commands.BpProperties id) _ (answer_by_fault target (commands.BpProperties id) (ask_fault (commands.BpProperties id) target) _ (λ none.
    properties_so id target (props_of id target.breakpoints) refl (found_readable id target.breakpoints good.consistent.properties) (check_passed _ _ _ none).0))

status_so : (id : List ℕ) (target : TargetValue) (found : Option Placed) → row_of id target.breakpoints ≡ found → IfSome found (λ row. AreCounts row.counts)
    → is_none (option_map (λ (row : Placed). row.props) found) ≡ false
    → IsTrueAnswer target (commands.BpGetStatus id) (status_answer (status_by (attached_in target.contexts.processes) found))
status_so id target None is counted some = absurd cc
status_so id target (Some row) is counted some = record {
  limits = (refl, instances_fit row.props row.counts (attached_in target.contexts.processes) counted);
  typed = tt;
  so = (ap (status_by (attached_in target.contexts.processes)) is, tt);
}

pub get_status : (channel : ℕ) (id : List ℕ) (target : TargetValue) → IsGood target → Answers channel (commands.BpGetStatus id) target
unfolding exec_effect
get_status channel id target good =
    answered target (commands.BpGetStatus id) _ (answer_by_fault target (commands.BpGetStatus id) (ask_fault (commands.BpGetStatus id) target) _ (λ none.
    status_so id target (row_of id target.breakpoints) refl (found_is (λ row. AreCounts row.counts) id target.breakpoints good.consistent.breakpoints.counted) (check_passed _ _ _ none).0))

-- ---- memory

memory_found : (id : List ℕ) (addr word size mode : ℤ) (target : TargetValue) (context : ContextId) (number : ℕ) (process : ProcessValue) → IsGood target → context_of id ≡ Some context
    → process_for context ≡ number → process_in number target ≡ Some process → IsTrueAnswer target (commands.MemGet id addr word size mode) (answers.Blob (memory_bytes addr size (Some process)))
memory_found id addr word size mode target context number process good is named there =
    let bytes = part_of (unsigned_abs addr) (unsigned_abs size) process.memory in
    record {
      limits = refl;
      typed = blob_typed bytes (part_bytes (unsigned_abs addr) (unsigned_abs size) process.memory (good.whole number process there).memory.bytes);
      so = subst (λ (c : Option ContextId). AllByRecursion (IsSo target) (memory_read c addr size bytes)) (sym is)
          (subst (λ n. AllByRecursion (IsSo target) (range_read n addr size bytes)) (sym named)
          (range_so number target process addr size (number_found target number process good there) (few_found target number process good there) there));
    }

memory_process : (id : List ℕ) (addr word size mode : ℤ) (target : TargetValue) (number : ℕ) (found : Option ProcessValue) → IsGood target → context_of id ≡ Some (ids.Process number)
    → process_in number target ≡ found → is_none found ≡ false → IsTrueAnswer target (commands.MemGet id addr word size mode) (answers.Blob (memory_bytes addr size found))
memory_process id addr word size mode target number None good is there some = absurd cc
memory_process id addr word size mode target number (Some process) good is there some =
    memory_found id addr word size mode target (ids.Process number) number process good is refl there

-- by a thread that the process has
memory_thread : (id : List ℕ) (addr word size mode : ℤ) (target : TargetValue) (number n : ℕ) (process : ProcessValue) (has : Bool) → IsGood target → context_of id ≡ Some (ids.Thread number n)
    → process_in number target ≡ Some process → is_none (cond has (Some process) None) ≡ false
    → IsTrueAnswer target (commands.MemGet id addr word size mode) (answers.Blob (memory_bytes addr size (cond has (Some process) None)))
memory_thread id addr word size mode target number n process false good is there some = absurd cc
memory_thread id addr word size mode target number n process true good is there some =
    memory_found id addr word size mode target (ids.Thread number n) number process good is refl there

memory_holding : (id : List ℕ) (addr word size mode : ℤ) (target : TargetValue) (number n : ℕ) (found : Option ProcessValue) → IsGood target → context_of id ≡ Some (ids.Thread number n)
    → process_in number target ≡ found → is_none (holding n found) ≡ false → IsTrueAnswer target (commands.MemGet id addr word size mode) (answers.Blob (memory_bytes addr size (holding n found)))
memory_holding id addr word size mode target number n None good is there some = absurd cc
memory_holding id addr word size mode target number n (Some process) good is there some =
    memory_thread id addr word size mode target number n process (has_thread n process) good is there some

memory_so : (id : List ℕ) (addr word size mode : ℤ) (target : TargetValue) (context : Option ContextId) → IsGood target → context_of id ≡ context
    → is_none (option_and_then (λ c. holder_for c target.contexts.processes) context) ≡ false
    → IsTrueAnswer target (commands.MemGet id addr word size mode) (answers.Blob (memory_bytes addr size (option_and_then (λ c. holder_for c target.contexts.processes) context)))
memory_so id addr word size mode target None good is some = absurd cc
memory_so id addr word size mode target (Some (ids.Process number)) good is some =
    memory_process id addr word size mode target number (process_in number target) good is refl some
memory_so id addr word size mode target (Some (ids.Thread number n)) good is some = memory_holding id addr word size mode target number n (process_in number target) good is refl some

pub get_memory : (channel : ℕ) (id : List ℕ) (addr word size mode : ℤ) (target : TargetValue) → IsGood target
    → Answers channel (commands.MemGet id addr word size mode) target
unfolding exec_effect
get_memory channel id addr word size mode target good =
    let command = commands.MemGet id addr word size mode in
    answered target command _ (answer_by_fault target command (memory_get_fault id addr size target.contexts.processes) _ (λ none.
    memory_so id addr word size mode target (context_of id) good refl (check_passed _ _ _ none).0))

-- ---- registers

register_so : (id : List ℕ) (target : TargetValue) → IsGood target → register_get_fault id target.contexts.processes ≡ None
    → IsTrueAnswer target (commands.RegGet id) (answers.Blob (register_bytes (register_of id) (holder_of id target.contexts.processes)))
register_so id target good none =
    let some = check_passed _ _ _ none in
    let found = held_found target id good some.0 (check_passed _ _ _ some.1).0 in
    let register = found.register in
    let number = number_in register.index found.thread.cpu in
    let bytes : register_bytes (register_of id) (holder_of id target.contexts.processes) ≡ word_bytes number =
    ap (λ (o : Option RegisterId). register_bytes o (holder_of id target.contexts.processes)) found.is.holder.read ∙ ap (λ (o : Option Thread). register_bytes (Some register) o) found.is.holder.holder in
    subst (λ (xs : List ℕ). IsTrueAnswer target (commands.RegGet id) (answers.Blob xs)) (sym bytes) (record {
      limits = refl;
      typed = blob_typed (word_bytes number) (word_typed number);
      so = subst (λ (xs : List ℕ). AllByRecursion (IsSo target) (whole_read id xs)) (word_whole number) (whole_so target id register found.process found.thread 0 4 found.is);
    })

pub get_register : (channel : ℕ) (id : List ℕ) (target : TargetValue) → IsGood target → Answers channel (commands.RegGet id) target
unfolding exec_effect
get_register channel id target good =
    answered target (commands.RegGet id) _ (answer_by_fault target (commands.RegGet id) (register_get_fault id target.contexts.processes) _ (register_so id target good))

registers_so : (list : List Location) (target : TargetValue) → IsGood target → registers_get_fault list target.contexts.processes ≡ None
    → IsTrueAnswer target (commands.RegGetm list) (answers.Blob (bytes_of target.contexts.processes (parts_named list)))
registers_so list target good none = record {
  limits = refl;
  typed = blob_typed (bytes_of target.contexts.processes (parts_named list)) (parts_typed target.contexts.processes list);
  so = parts_so target list good (check_passed _ _ _ none).1;
}

pub get_registers : (channel : ℕ) (list : List Location) (target : TargetValue) → IsGood target → IsReadable (commands.RegGetm list)
    → Answers channel (commands.RegGetm list) target
unfolding exec_effect
get_registers channel list target good readable =
    answered target (commands.RegGetm list) _ (answer_by_fault target (commands.RegGetm list) (registers_get_fault list target.contexts.processes) _ (registers_so list target good))
