-- The commands that ask: getContext, getChildren and getState of RunControl, getContext and getChildren of Processes
-- (TCF services RunControl and Processes).
use Rattle.std.specs.Prelude.{ℕ, Bool, true, not, ◌&&◌, if◌then◌else◌, List, [], ◌∷◌, map, Option, Some, None, is_none, option_and_then}
use Rattle.tcf_values.specs.Faults.{first_fault}
use Rattle.tcf_values.specs.Ids.{context_of}
use Rattle.tcf_values.specs.declared.answer.Answer.{Answer}
use Rattle.tcf_values.specs.declared.answer.Answer.TheVariants as answers
use Rattle.tcf_values.specs.declared.faults.Fault.{Fault}
use Rattle.tcf_values.specs.declared.faults.Fault.TheVariants.{BadContext}
use Rattle.tcf_values.specs.declared.ids.ContextId.{ContextId}
use Rattle.tcf_values.specs.declared.ids.ContextId.TheVariants as ids
use Rattle.tcf_values.specs.declared.values.ContextData.{ContextData}
use Rattle.tcf_values.specs.declared.values.RunState.{RunState}
use Rattle.tcf_values.specs.declared.values.RunState.TheVariants as told
use Rattle.target_contexts.specs.Contexts.{context_of as data_of}
use Rattle.target_contexts.specs.Live.{numbers_of, process_of}
use Rattle.target_contexts.specs.Named.{attached_in, process_at_number, thread_at_pair, thread_named}
use Rattle.target_contexts.specs.ProcessValue.{ProcessValue}
use Rattle.target_contexts.specs.Threads.{count_in}
use Rattle.target_contexts.specs.declared.process.ThreadState.{ThreadState}
use Rattle.target_contexts.specs.declared.process.ThreadState.TheVariants.{Running, Suspended}
use Rattle.target_contexts.specs.declared.threads.Thread.{Thread}
use Rattle.run_control.specs.Naming.{is_empty, process_id, process_named, thread_ids}

-- ---- RunControl.getContext

-- the data of the live process or thread that a text names
abbrev pub data_named : List ℕ → List (ℕ × ProcessValue) → Option ContextData
data_named id rows = option_and_then (λ context. data_of context rows) (context_of id)

abbrev pub context_fault : List ℕ → List (ℕ × ProcessValue) → Option Fault
context_fault id rows = first_fault ((is_none (data_named id rows), BadContext) ∷ [])

abbrev pub context_answer : Option ContextData → Answer
context_answer None = answers.Nothing
context_answer (Some context) = answers.Context context

-- ---- RunControl.getChildren: of the empty ID all processes, of a process its threads in order, of a thread none

abbrev pub children_fault : List ℕ → List (ℕ × ProcessValue) → Option Fault
children_fault id rows = first_fault ((not (is_empty id) && is_none (data_named id rows), BadContext) ∷ [])

abbrev pub children_of : Option ContextId → List (ℕ × ProcessValue) → List (List ℕ)
children_of None rows = []
children_of (Some (ids.Process number)) rows = thread_ids number (count_in (process_of number rows))
children_of (Some (ids.Thread number n)) rows = []

abbrev pub children_named : List ℕ → List (ℕ × ProcessValue) → List (List ℕ)
children_named id rows = if is_empty id then map process_id (numbers_of rows) else children_of (context_of id) rows

-- ---- RunControl.getState

abbrev pub state_fault : List ℕ → List (ℕ × ProcessValue) → Option Fault
state_fault id rows = first_fault ((is_none (thread_at_pair (thread_named id) rows), BadContext) ∷ [])

abbrev pub run_state : ℕ → ThreadState → RunState
run_state pc (Running left) = told.Running
run_state pc (Suspended reason hits) = told.Suspended pc reason hits

abbrev pub state_answer : Option Thread → Answer
state_answer None = answers.Nothing
state_answer (Some thread) = answers.State (run_state thread.cpu.pc thread.state)

-- ---- Processes.getContext

abbrev pub process_fault : List ℕ → List (ℕ × ProcessValue) → Option Fault
process_fault id rows = first_fault ((is_none (process_at_number (process_named id) rows), BadContext) ∷ [])

abbrev pub process_answer_of : ℕ → Option ProcessValue → Answer
process_answer_of number None = answers.Nothing
process_answer_of number (Some process) = answers.Process (record {
  id = process_id number;
  name = process.name;
  attached = process.attached;
  can_terminate = true;
})

abbrev pub process_answer : Option ℕ → List (ℕ × ProcessValue) → Answer
process_answer None rows = answers.Nothing
process_answer (Some number) rows = process_answer_of number (process_at_number (Some number) rows)

-- ---- Processes.getChildren: of the empty ID all processes, or those that are attached, of a process none

abbrev pub processes_fault : List ℕ → List (ℕ × ProcessValue) → Option Fault
processes_fault id rows = first_fault (
    (not (is_empty id) && is_none (process_at_number (process_named id) rows), BadContext)
    ∷ [])

-- the numbers of all, or of those that are attached
abbrev pub listed_numbers : Bool → List (ℕ × ProcessValue) → List ℕ
listed_numbers attached rows = if attached then attached_in rows else numbers_of rows

abbrev pub processes_named : List ℕ → Bool → List (ℕ × ProcessValue) → List (List ℕ)
processes_named id attached rows =
    if is_empty id then map process_id (listed_numbers attached rows) else []
