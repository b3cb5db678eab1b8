-- No answer takes back that a thread's state or the threads of a process are known.
use Rattle.std.proofs.Common.{ℕ, ℤ, ◌==◌, List, [], ◌∷◌, ◌++◌, Option, Some, None, length, take, drop}
use Rattle.std.specs.Prelude.{unsigned_abs}
use Rattle.std.specs.List.{AllByRecursion, list_all}
use Rattle.knowledge.specs.Changes.{Change, bytes_read, state_gone, thread_joined, threads_gone, threads_stale, threads_told}
use Rattle.knowledge.specs.Rows.{answer_changes, are_of_range, children_answered, context_answered, is_thread_of, is_part, memory_answered, memory_read, parts_read, process_for, properties_answered, register_answered, registers_answered, state_answered, state_changes, state_of_thread, status_answered, threads_listed, whole_read, word_read}
use Rattle.tcf_values.specs.Ids.{context_of, register_of}
use Rattle.tcf_values.specs.declared.answer.Answer.{Answer}
use Rattle.tcf_values.specs.declared.command.Command.{Command}
use Rattle.tcf_values.specs.declared.command.Command.TheVariants.{GetChildren, GetContext, GetState, BpProperties, BpGetStatus, MemGet, RegGet, RegGetm}
use Rattle.tcf_values.specs.declared.ids.ContextId.{ContextId}
use Rattle.tcf_values.specs.declared.ids.ContextId.TheVariants.{Process, Thread}
use Rattle.tcf_values.specs.declared.ids.RegisterId.{RegisterId}
use Rattle.tcf_values.specs.declared.values.Location.{Location}
use Rattle.tcf_values.specs.declared.values.RunState.{RunState}
use Rattle.tcf_values.specs.declared.values.RunState.TheVariants as run
use Rattle.list_laws.proofs.AllLists.{all_append, all_if}

-- no state drops, and no list of threads is another
abbrev pub IsSteady : Change → Type 0
IsSteady (state_gone process thread) = ⊥
IsSteady (thread_joined process id) = ⊥
IsSteady (threads_gone process) = ⊥
IsSteady (threads_stale process) = ⊥
IsSteady _ = Unit {0}

abbrev Are : List Change → Type 0
Are changes = AllByRecursion IsSteady changes

told_steady : (state : RunState) (process thread : ℕ) → Are (state_changes state process thread)
told_steady run.Running process thread = (tt, tt)
told_steady (run.Suspended pc reason hits) process thread = (tt, (tt, tt))

listed_steady : (context : Option ContextId) (ids : List (List ℕ)) → Are (threads_listed context ids)
listed_steady None ids = tt
listed_steady (Some (Process process)) ids =
    all_if IsSteady (list_all (is_thread_of process) ids) (threads_told process ids ∷ []) (λ is. (tt, tt))
listed_steady (Some (Thread process thread)) ids = tt

thread_steady : (context : Option ContextId) (state : RunState) → Are (state_of_thread context state)
thread_steady None state = tt
thread_steady (Some (Process process)) state = tt
thread_steady (Some (Thread process thread)) state = told_steady state process thread

memory_steady : (context : Option ContextId) (addr size : ℤ) (bytes : List ℕ) → Are (memory_read context addr size bytes)
memory_steady None addr size bytes = tt
memory_steady (Some context) addr size bytes =
    all_if IsSteady (are_of_range addr size bytes) (bytes_read (process_for context) (unsigned_abs addr) bytes ∷ []) (λ is. (tt, tt))

word_steady : (bytes : List ℕ) (register : Option RegisterId) → Are (word_read bytes register)
word_steady bytes None = tt
word_steady bytes (Some register) = (tt, tt)

whole_steady : (id bytes : List ℕ) → Are (whole_read id bytes)
whole_steady id bytes = all_if IsSteady (length bytes == 4) (word_read bytes (register_of id)) (λ is. word_steady bytes (register_of id))

parts_steady : (list : List Location) (bytes : List ℕ) → Are (parts_read list bytes)
parts_steady [] bytes = tt
parts_steady (location ∷ list) bytes =
    let piece : List ℕ = take (unsigned_abs location.size) bytes in
    let rest : List ℕ = drop (unsigned_abs location.size) bytes in
    all_if IsSteady (is_part location) (whole_read location.register piece ++ parts_read list rest)
    (λ is. all_append IsSteady (whole_read location.register piece) (parts_read list rest) (whole_steady location.register piece) (parts_steady list rest))

context_steady : (id : List ℕ) (answer : Answer) → Are (context_answered id answer)
context_steady id (Answer.Context context) = (tt, tt)
context_steady id _ = tt

children_steady : (id : List ℕ) (answer : Answer) → Are (children_answered id answer)
children_steady id (Answer.Ids ids) = listed_steady (context_of id) ids
children_steady id _ = tt

state_steady : (id : List ℕ) (answer : Answer) → Are (state_answered id answer)
state_steady id (Answer.State state) = thread_steady (context_of id) state
state_steady id _ = tt

properties_steady : (id : List ℕ) (answer : Answer) → Are (properties_answered id answer)
properties_steady id (Answer.Bp properties) = (tt, tt)
properties_steady id _ = tt

status_steady : (id : List ℕ) (answer : Answer) → Are (status_answered id answer)
status_steady id (Answer.Status status) = (tt, tt)
status_steady id _ = tt

bytes_steady : (id : List ℕ) (addr size : ℤ) (answer : Answer) → Are (memory_answered id addr size answer)
bytes_steady id addr size (Answer.Blob bytes) = memory_steady (context_of id) addr size bytes
bytes_steady id addr size _ = tt

register_steady : (id : List ℕ) (answer : Answer) → Are (register_answered id answer)
register_steady id (Answer.Blob bytes) = whole_steady id bytes
register_steady id _ = tt

registers_steady : (list : List Location) (answer : Answer) → Are (registers_answered list answer)
registers_steady list (Answer.Blob bytes) = parts_steady list bytes
registers_steady list _ = tt

pub answer_steady : (command : Command) (answer : Answer) → AllByRecursion IsSteady (answer_changes command answer)
answer_steady (GetContext id) answer = context_steady id answer
answer_steady (GetChildren id) answer = children_steady id answer
answer_steady (GetState id) answer = state_steady id answer
answer_steady (BpProperties id) answer = properties_steady id answer
answer_steady (BpGetStatus id) answer = status_steady id answer
answer_steady (MemGet id addr word size mode) answer = bytes_steady id addr size answer
answer_steady (RegGet id) answer = register_steady id answer
answer_steady (RegGetm list) answer = registers_steady list answer
answer_steady _ answer = tt
