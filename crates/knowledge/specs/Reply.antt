-- What a cache answers by itself, which is what the target would (TCF service pages RunControl, Breakpoints, Memory and
-- Registers), and what that leaves.
use Rattle.std.specs.Prelude.{ℕ, ℤ, ◌==◌, nat_le, Bool, true, false, not, ◌&&◌, List, [], length, take, drop, Option, Some, None, is_some, option_map, option_and_then, unsigned_abs, if◌then◌else◌}
use Rattle.std.specs.Int.{w32, to_le_bytes}
use Rattle.std.specs.List.{flat_map, list_all}
use Rattle.block_store.specs.Store.{covered, touched}
use Rattle.block_store.specs.declared.block.Block.{Block}
use Rattle.tcf_values.specs.Ids.{context_of, register_of}
use Rattle.tcf_values.specs.declared.answer.Answer.{Answer}
use Rattle.tcf_values.specs.declared.command.Command.{Command}
use Rattle.tcf_values.specs.declared.command.Command.TheVariants.{GetContext, GetState, BpProperties, BpGetStatus, MemGet, RegGet, RegGetm}
use Rattle.tcf_values.specs.declared.ids.ContextId.{ContextId}
use Rattle.tcf_values.specs.declared.ids.ContextId.TheVariants.{Process, Thread}
use Rattle.tcf_values.specs.declared.values.Location.{Location}
use Rattle.tcf_values.specs.declared.values.RunState.TheVariants as run
use Rattle.knowledge.specs.Facts.{Facts, is_suspended}
use Rattle.knowledge.specs.KnowledgeValue.{KnowledgeValue, facts_of}
use Rattle.knowledge.specs.Rows.{is_outside, is_part}
use Rattle.knowledge.specs.declared.span.Asked.{Asked}
use Rattle.knowledge.specs.declared.state.StateFact.{StateFact}
use Rattle.knowledge.specs.declared.state.StateFact.TheVariants as state

-- ---- contexts and breakpoints

abbrev pub context_reply : List ℕ → Facts → Option Answer
context_reply id known = option_map Answer.Context (known.contexts id)

abbrev pub properties_reply : List ℕ → Facts → Option Answer
properties_reply id known = option_map Answer.Bp (known.properties id)

abbrev pub status_reply : List ℕ → Facts → Option Answer
status_reply id known = option_map Answer.Status (known.statuses id)

-- ---- whether a thread runs

-- of a suspended thread the pc is told too, so it has to be known
abbrev pub suspended_reply : List ℕ → List (List ℕ) → Option ℕ → Option Answer
suspended_reply reason hits pc = option_map (λ value. Answer.State (run.Suspended value reason hits)) pc

abbrev pub thread_reply : Option StateFact → Option ℕ → Option Answer
thread_reply None pc = None
thread_reply (Some state.Running) pc = Some (Answer.State run.Running)
thread_reply (Some (state.Suspended reason hits)) pc = suspended_reply reason hits pc

-- a process has no state
abbrev pub context_state_reply : Facts → Option ContextId → Option Answer
context_state_reply known None = None
context_state_reply known (Some (Process process)) = None
context_state_reply known (Some (Thread process thread)) =
    thread_reply (known.states process thread) (known.registers process thread 32)

abbrev pub state_reply : List ℕ → Facts → Option Answer
state_reply id known = context_state_reply known (context_of id)

-- ---- registers, whose four bytes come least first

-- what is known of the register of this ID
abbrev pub register_known : List ℕ → Facts → Option ℕ
register_known id known =
    option_and_then (λ register. known.registers register.process register.thread register.index) (register_of id)

abbrev pub word_reply : ℕ → Answer
word_reply value = Answer.Blob (to_le_bytes w32 value)

abbrev pub register_reply : List ℕ → Facts → Option Answer
register_reply id known = option_map word_reply (register_known id known)

-- the bytes of a part of a register
abbrev pub part_bytes : Location → ℕ → List ℕ
part_bytes location value = take (unsigned_abs location.size) (drop (unsigned_abs location.offset) (to_le_bytes w32 value))

-- what a location asks for, where that can be asked for and its register is known
abbrev pub part_known : Facts → Location → Option (List ℕ)
part_known known location = if is_part location then option_map (part_bytes location) (register_known location.register known) else None

abbrev pub bytes_or_none : Option (List ℕ) → List ℕ
bytes_or_none None = []
bytes_or_none (Some bytes) = bytes

-- the bytes of the parts, in order
abbrev pub parts_bytes : Facts → List Location → List ℕ
parts_bytes known list = flat_map (λ location. bytes_or_none (part_known known location)) list

-- each part is known
abbrev pub are_parts_known : Facts → List Location → Bool
are_parts_known known list = list_all (λ location. is_some (part_known known location)) list

-- at least one location and at most 256 can be asked for
abbrev pub registers_reply : List Location → Facts → Option Answer
registers_reply list known =
    if nat_le 1 (length list) && nat_le (length list) 256 && are_parts_known known list
    then Some (Answer.Blob (parts_bytes known list))
    else None

-- ---- memory

-- the process whose memory the ID asks for: its own, or that of a thread that is known as suspended
abbrev pub process_asked : Facts → ContextId → Option ℕ
process_asked known (Process process) = Some process
process_asked known (Thread process thread) = if is_suspended (known.states process thread) then Some process else None

-- the memory has the range, of one byte at least. So it is of 65,536 at most
abbrev pub is_readable : ℤ → ℤ → Bool
is_readable addr size = not (is_outside addr size) && not (unsigned_abs size == 0)

abbrev pub range_of : ℤ → ℤ → ℕ → Option Asked
range_of addr size process =
    if is_readable addr size then Some (record { process = process; addr = unsigned_abs addr; size = unsigned_abs size }) else None

abbrev pub range_asked : List ℕ → ℤ → ℤ → Facts → Option Asked
range_asked id addr size known = option_and_then (range_of addr size) (option_and_then (process_asked known) (context_of id))

-- the bytes of the range are those of one block
abbrev pub memory_reply : Option Asked → List Block → Option Answer
memory_reply None blocks = None
memory_reply (Some asked) blocks = option_map Answer.Blob (covered asked.process asked.addr asked.size blocks)

-- that block is the most recently used one then
abbrev pub memory_used : Option Asked → List Block → List Block
memory_used None blocks = blocks
memory_used (Some asked) blocks = touched asked.process asked.addr asked.size blocks

-- ---- the commands

-- what is answered, if anything
abbrev pub answer_known : Command → Facts → List Block → Option Answer
answer_known (GetContext id) known blocks = context_reply id known
answer_known (GetState id) known blocks = state_reply id known
answer_known (BpProperties id) known blocks = properties_reply id known
answer_known (BpGetStatus id) known blocks = status_reply id known
answer_known (RegGet id) known blocks = register_reply id known
answer_known (RegGetm list) known blocks = registers_reply list known
answer_known (MemGet id addr word size mode) known blocks = memory_reply (range_asked id addr size known) blocks
answer_known _ known blocks = None

-- a command of memory alone uses a block
abbrev pub range_in : Command → Facts → Option Asked
range_in (MemGet id addr word size mode) known = range_asked id addr size known
range_in _ known = None

-- the answer to a command, and the cache behind it
abbrev pub reply : Command → KnowledgeValue → Option Answer × KnowledgeValue
reply command value =
    (answer_known command (facts_of value) value.blocks, record value { blocks = memory_used (range_in command (facts_of value)) value.blocks })

-- what is answered without memory: that something isn't known, and that a thread runs
abbrev pub is_at_once : Option Answer → Bool
is_at_once None = true
is_at_once (Some (Answer.State run.Running)) = true
is_at_once (Some _) = false
