-- What each event and each answer makes of what is known (TCF service pages: what an event says has changed, and what
-- an answer tells).
use Rattle.std.specs.Prelude.{ℕ, ℤ, pos, ◌+ℤ◌, int_lt, unsigned_abs, ◌==◌, nat_lt, Bool, false, not, ◌&&◌, ◌||◌, List, [], ◌∷◌, ◌++◌, length, take, drop, Option, Some, None, if◌then◌else◌}
use Rattle.std.specs.List.{list_all}
use Rattle.std.specs.Int.{w32, from_le_bytes}
use Rattle.tcf_values.specs.Ids.{context_of, register_of}
use Rattle.tcf_values.specs.declared.answer.Answer.{Answer}
use Rattle.tcf_values.specs.declared.command.Command.{Command}
use Rattle.tcf_values.specs.declared.command.Command.TheVariants.{GetContext, GetChildren, GetState, BpProperties, BpGetStatus, MemGet, RegGet, RegGetm}
use Rattle.tcf_values.specs.declared.event.EventData.{EventData}
use Rattle.tcf_values.specs.declared.event.EventData.TheVariants.{Hello, CtxAdded, CtxChanged, CtxRemoved, Suspended, Resumed, BpStatusIs, BpAdded, BpChanged, BpRemoved, MemChanged, RegChanged, RegsChanged, Exited}
use Rattle.tcf_values.specs.declared.ids.ContextId.{ContextId}
use Rattle.tcf_values.specs.declared.ids.ContextId.TheVariants.{Process, Thread}
use Rattle.tcf_values.specs.declared.ids.RegisterId.{RegisterId}
use Rattle.tcf_values.specs.declared.values.BpProps.{BpProps}
use Rattle.tcf_values.specs.declared.values.ContextData.{ContextData}
use Rattle.tcf_values.specs.declared.values.Location.{Location}
use Rattle.tcf_values.specs.declared.values.Range.{Range}
use Rattle.tcf_values.specs.declared.values.RunState.{RunState}
use Rattle.tcf_values.specs.declared.values.RunState.TheVariants as run
use Rattle.knowledge.specs.Changes.{Change, all_gone, context_told, context_gone, threads_told, thread_joined, threads_gone, threads_stale, state_told, state_gone, register_read, register_gone, thread_registers_gone, registers_gone, bytes_read, bytes_gone, range_gone, properties_told, properties_gone, status_told, status_gone, statuses_gone, of_each}
use Rattle.knowledge.specs.declared.state.StateFact.TheVariants as state

-- a process's number, and that of a thread's process
abbrev pub process_for : ContextId → ℕ
process_for (Process process) = process
process_for (Thread process thread) = process

-- ---- contexts

-- the state, the registers and the memory of a context aren't known any more
abbrev pub stale_for : Option ContextId → List Change
stale_for None = []
stale_for (Some (Process process)) = bytes_gone process ∷ []
stale_for (Some (Thread process thread)) = state_gone process thread ∷ thread_registers_gone process thread ∷ bytes_gone process ∷ []

abbrev pub stale : List ℕ → List Change
stale id = stale_for (context_of id)

abbrev pub added_context : ContextData → List Change
added_context context = context_told context.id context ∷ []

abbrev pub changed_context : ContextData → List Change
changed_context context = context_told context.id context ∷ stale context.id

-- nor are the threads of its process
abbrev pub unlisted_for : Option ContextId → List Change
unlisted_for None = []
unlisted_for (Some context) = threads_gone (process_for context) ∷ []

abbrev pub removed_context : List ℕ → List Change
removed_context id = context_gone id ∷ (stale id ++ unlisted_for (context_of id))

-- ---- contexts that are new

-- a process that has one more thread may have run by then, and so may all its threads
abbrev pub unsettled_for : Option ContextId → List Change
unsettled_for None = []
unsettled_for (Some context) = threads_stale (process_for context) ∷ bytes_gone (process_for context) ∷ []

abbrev pub unsettled : ContextData → List Change
unsettled context = unsettled_for (context_of context.id)

-- a new process has no threads but those that are told with it and after it
abbrev pub begun_for : Option ContextId → List Change
begun_for None = []
begun_for (Some (Process process)) = threads_told process [] ∷ []
begun_for (Some (Thread process thread)) = []

abbrev pub begun : ContextData → List Change
begun context = begun_for (context_of context.id)

-- a new thread is one of its process
abbrev pub joined_for : List ℕ → Option ContextId → List Change
joined_for id None = []
joined_for id (Some (Process process)) = []
joined_for id (Some (Thread process thread)) = thread_joined process id ∷ []

abbrev pub joined : ContextData → List Change
joined context = joined_for context.id (context_of context.id)

-- each kind of change is made for all of them before the next kind, so that it makes no difference whether a process
-- stands before its threads
abbrev pub added_contexts : List ContextData → List Change
added_contexts list = of_each added_context list ++ (of_each unsettled list ++ (of_each begun list ++ (of_each joined list ++ statuses_gone ∷ [])))

-- ---- the threads of a process

abbrev pub is_thread_for : ℕ → Option ContextId → Bool
is_thread_for process None = false
is_thread_for process (Some (Process number)) = false
is_thread_for process (Some (Thread number thread)) = process == number

-- the text is the ID of a thread of the process
abbrev pub is_thread_of : ℕ → List ℕ → Bool
is_thread_of process id = is_thread_for process (context_of id)

-- texts tell the threads of a process where each is the ID of one
abbrev pub threads_read : ℕ → List (List ℕ) → List Change
threads_read process ids = if list_all (is_thread_of process) ids then threads_told process ids ∷ [] else []

abbrev pub threads_listed : Option ContextId → List (List ℕ) → List Change
threads_listed None ids = []
threads_listed (Some (Process process)) ids = threads_read process ids
threads_listed (Some (Thread process thread)) ids = []

-- ---- a thread that stops or goes on

-- a suspended thread's pc is told beside its state
abbrev pub state_changes : RunState → ℕ → ℕ → List Change
state_changes run.Running process thread = state_told process thread state.Running ∷ []
state_changes (run.Suspended pc reason hits) process thread =
    state_told process thread (state.Suspended reason hits) ∷ register_read process thread 32 pc ∷ []

-- its registers and the memory of its process may be others by then
abbrev pub moved_for : Option ContextId → RunState → List Change
moved_for None now = []
moved_for (Some (Process process)) now = bytes_gone process ∷ []
moved_for (Some (Thread process thread)) now = bytes_gone process ∷ thread_registers_gone process thread ∷ state_changes now process thread

-- ---- memory

-- the range has addresses outside of 0 to 65,535
abbrev pub is_outside : ℤ → ℤ → Bool
is_outside addr size = int_lt addr (pos 0) || int_lt size (pos 0) || int_lt (pos 65536) (addr +ℤ size)

abbrev pub changed_range : ℕ → Range → List Change
changed_range process range =
    if is_outside range.addr range.size then bytes_gone process ∷ []
    else if unsigned_abs range.size == 0 then []
    else range_gone process (unsigned_abs range.addr) (unsigned_abs range.size) ∷ []

abbrev pub memory_changes : Option ContextId → List Range → List Change
memory_changes None list = []
memory_changes (Some context) list = of_each (changed_range (process_for context)) list

-- the bytes are those of the range, and there are some
abbrev pub are_of_range : ℤ → ℤ → List ℕ → Bool
are_of_range addr size bytes = not (is_outside addr size) && (unsigned_abs size == length bytes) && nat_lt 0 (length bytes)

abbrev pub range_read : ℕ → ℤ → ℤ → List ℕ → List Change
range_read process addr size bytes = if are_of_range addr size bytes then bytes_read process (unsigned_abs addr) bytes ∷ [] else []

abbrev pub memory_read : Option ContextId → ℤ → ℤ → List ℕ → List Change
memory_read None addr size bytes = []
memory_read (Some context) addr size bytes = range_read (process_for context) addr size bytes

-- ---- registers, whose four bytes come least first

abbrev pub changed_register : Option RegisterId → List Change
changed_register None = []
changed_register (Some register) = register_gone register.process register.thread register.index ∷ []

abbrev pub word_read : List ℕ → Option RegisterId → List Change
word_read bytes None = []
word_read bytes (Some register) = register_read register.process register.thread register.index (from_le_bytes w32 bytes) ∷ []

-- bytes of one register tell it where they are all four
abbrev pub whole_read : List ℕ → List ℕ → List Change
whole_read id bytes = if length bytes == 4 then word_read bytes (register_of id) else []

-- a part of a register, which can be asked for
abbrev pub is_part : Location → Bool
is_part location =
    not (int_lt location.offset (pos 0) || int_lt location.size (pos 1) || int_lt (pos 4) (location.offset +ℤ location.size))

-- each location has its bytes behind those of the locations before it. None are read from one on that can't be asked
-- for
abbrev pub parts_read : List Location → List ℕ → List Change
parts_read [] bytes = []
parts_read (location ∷ list) bytes =
    if is_part location
    then whole_read location.register (take (unsigned_abs location.size) bytes) ++ parts_read list (drop (unsigned_abs location.size) bytes)
    else []

-- ---- breakpoints

abbrev pub told_properties : BpProps → List Change
told_properties properties = properties_told properties.id properties ∷ status_gone properties.id ∷ []

abbrev pub removed_properties : List ℕ → List Change
removed_properties id = properties_gone id ∷ status_gone id ∷ []

-- what is hit has another count
abbrev pub hit_breakpoint : List ℕ → List Change
hit_breakpoint id = status_gone id ∷ []

-- ---- the events

abbrev pub event_changes : EventData → List Change
event_changes (Hello list) = all_gone ∷ []
event_changes (CtxAdded list) = added_contexts list
event_changes (CtxChanged list) = of_each changed_context list ++ statuses_gone ∷ []
event_changes (CtxRemoved list) = of_each removed_context list ++ statuses_gone ∷ []
event_changes (Suspended id pc reason hits) = of_each hit_breakpoint hits ++ moved_for (context_of id) (run.Suspended pc reason hits)
event_changes (Resumed id) = moved_for (context_of id) run.Running
event_changes (BpStatusIs id status) = status_told id status ∷ []
event_changes (BpAdded list) = of_each told_properties list
event_changes (BpChanged list) = of_each told_properties list
event_changes (BpRemoved list) = of_each removed_properties list
event_changes (MemChanged id list) = memory_changes (context_of id) list
event_changes (RegChanged id) = changed_register (register_of id)
event_changes RegsChanged = registers_gone ∷ []
event_changes (Exited id code) = []

-- ---- the answers, each under what the command asked for

abbrev pub context_answered : List ℕ → Answer → List Change
context_answered id (Answer.Context context) = context_told id context ∷ []
context_answered id _ = []

abbrev pub children_answered : List ℕ → Answer → List Change
children_answered id (Answer.Ids ids) = threads_listed (context_of id) ids
children_answered id _ = []

abbrev pub state_of_thread : Option ContextId → RunState → List Change
state_of_thread None state = []
state_of_thread (Some (Process process)) state = []
state_of_thread (Some (Thread process thread)) state = state_changes state process thread

abbrev pub state_answered : List ℕ → Answer → List Change
state_answered id (Answer.State state) = state_of_thread (context_of id) state
state_answered id _ = []

abbrev pub properties_answered : List ℕ → Answer → List Change
properties_answered id (Answer.Bp properties) = properties_told id properties ∷ []
properties_answered id _ = []

abbrev pub status_answered : List ℕ → Answer → List Change
status_answered id (Answer.Status status) = status_told id status ∷ []
status_answered id _ = []

abbrev pub memory_answered : List ℕ → ℤ → ℤ → Answer → List Change
memory_answered id addr size (Answer.Blob bytes) = memory_read (context_of id) addr size bytes
memory_answered id addr size _ = []

abbrev pub register_answered : List ℕ → Answer → List Change
register_answered id (Answer.Blob bytes) = whole_read id bytes
register_answered id _ = []

abbrev pub registers_answered : List Location → Answer → List Change
registers_answered list (Answer.Blob bytes) = parts_read list bytes
registers_answered list _ = []

abbrev pub answer_changes : Command → Answer → List Change
answer_changes (GetContext id) answer = context_answered id answer
answer_changes (GetChildren id) answer = children_answered id answer
answer_changes (GetState id) answer = state_answered id answer
answer_changes (BpProperties id) answer = properties_answered id answer
answer_changes (BpGetStatus id) answer = status_answered id answer
answer_changes (MemGet id addr word size mode) answer = memory_answered id addr size answer
answer_changes (RegGet id) answer = register_answered id answer
answer_changes (RegGetm list) answer = registers_answered list answer
answer_changes _ answer = []
