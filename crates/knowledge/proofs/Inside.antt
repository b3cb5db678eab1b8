-- The bytes that messages teach lie in memory, so a range that a cache covers does.
use Rattle.std.proofs.Common.{◌≡◌, ℕ, ℤ, pos, negsuc, ◌+◌, ◌-◌, ◌<◌, ◌≤◌, zero, suc, Bool, true, false, cond, ◌&&◌, ◌||◌, nat_eq, List, [], ◌∷◌, ◌++◌, length, take, drop, find, slice_get, Option, Some, None, option_map, refl, sym, ap, ◌∙◌, arith}
use Rattle.std.specs.Prelude.{nat_lt, unsigned_abs}
use Rattle.std.specs.List.{AllByRecursion}
use Rattle.std.proofs.lemmas.Bool.{and_parts, both_ways, eqb-true, leb-true, ltb-false, not-true, or_parts}
use Rattle.block_store.specs.Blocks.{has_range, part}
use Rattle.block_store.specs.Store.{covered}
use Rattle.block_store.specs.declared.block.Block.{Block}
use Rattle.tcf_values.specs.Ids.{context_of, register_of}
use Rattle.tcf_values.specs.declared.answer.Answer.{Answer}
use Rattle.tcf_values.specs.declared.command.Command.{Command}
use Rattle.tcf_values.specs.declared.command.Command.TheVariants.{GetContext, GetChildren, GetState, BpProperties, BpGetStatus, MemGet, RegGet, RegGetm}
use Rattle.tcf_values.specs.declared.event.EventData.{EventData}
use Rattle.tcf_values.specs.declared.event.EventData.TheVariants.{Hello, CtxAdded, CtxChanged, CtxRemoved, Suspended, Resumed, BpStatusIs, BpAdded, BpChanged, BpRemoved, MemChanged, RegChanged, RegsChanged, Exited}
use Rattle.tcf_values.specs.declared.ids.ContextId.{ContextId}
use Rattle.tcf_values.specs.declared.ids.ContextId.TheVariants.{Process, Thread}
use Rattle.tcf_values.specs.declared.ids.RegisterId.{RegisterId}
use Rattle.tcf_values.specs.declared.values.Location.{Location}
use Rattle.tcf_values.specs.declared.values.RunState.{RunState}
use Rattle.tcf_values.specs.declared.values.RunState.TheVariants as run
use Rattle.knowledge.specs.Changes.{Change, all_gone, context_told, context_gone, threads_told, thread_joined, threads_gone, threads_stale, state_told, state_gone, register_read, register_gone, thread_registers_gone, registers_gone, bytes_read, bytes_gone, range_gone, properties_told, properties_gone, status_told, status_gone, statuses_gone, after, after_all, has_byte, is_still, of_each}
use Rattle.knowledge.specs.Facts.{Facts, nothing}
use Rattle.knowledge.specs.Laws.{CoveredIsInside}
use Rattle.knowledge.specs.Learning.{Message, answer_taken, bad_event_taken, changes_of, event_taken, learn_all, other_taken}
use Rattle.knowledge.specs.Rows.{answer_changes, are_of_range, changed_context, children_answered, changed_register, context_answered, event_changes, is_outside, is_part, memory_answered, memory_changes, memory_read, moved_for, parts_read, process_for, properties_answered, register_answered, registers_answered, removed_context, removed_properties, state_answered, state_changes, state_of_thread, status_answered, threads_listed, told_properties, whole_read, word_read, hit_breakpoint}
use Rattle.knowledge.proofs.Blocks.{byte_there, or_cases, read_is_known}
use Rattle.knowledge.proofs.Monotone.{IsPlain, added_plain, listed_plain, memory_plain, plain-append, plain_each, register_plain, removed_plain, stale_plain}
use Rattle.list_laws.proofs.Lists.{taken}

-- what is read of memory lies in it
abbrev Fits : Change → Type 0
Fits (bytes_read process addr bytes) = addr + length bytes ≤ 65536
Fits _ = Unit {0}

abbrev Fit : List Change → Type 0
Fit changes = AllByRecursion Fits changes

fit-append : (xs ys : List Change) → Fit xs → Fit ys → Fit (xs ++ ys)
fit-append [] ys one two = two
fit-append (x ∷ xs) ys one two = (one.0, fit-append xs ys one.1 two)

fit_if : (b : Bool) (changes : List Change) → (b ≡ true → Fit changes) → Fit (cond b changes [])
fit_if true changes fit = fit refl
fit_if false changes fit = tt

plain_fits : (change : Change) → IsPlain change → Fits change
plain_fits (bytes_read process addr bytes) plain = absurd plain
plain_fits _ plain = tt

fit_all : (changes : List Change) → AllByRecursion IsPlain changes → Fit changes
fit_all [] plain = tt
fit_all (change ∷ changes) plain = (plain_fits change plain.0, fit_all changes plain.1)

-- ---- each event

told_fit : (state : RunState) (process thread : ℕ) → Fit (state_changes state process thread)
told_fit run.Running process thread = (tt, tt)
told_fit (run.Suspended pc reason hits) process thread = (tt, (tt, tt))

moved_fit : (context : Option ContextId) (state : RunState) → Fit (moved_for context state)
moved_fit None state = tt
moved_fit (Some (Process process)) state = (tt, tt)
moved_fit (Some (Thread process thread)) state = (tt, (tt, told_fit state process thread))

event_fit : (event : EventData) → Fit (event_changes event)
event_fit (Hello list) = (tt, tt)
event_fit (CtxAdded list) =
    fit_all (event_changes (CtxAdded list)) (added_plain list)
event_fit (CtxChanged list) =
    fit_all (event_changes (CtxChanged list))
    (plain-append (of_each changed_context list) (statuses_gone ∷ []) (plain_each changed_context (λ context. (tt, stale_plain (context_of context.id))) list) (tt, tt))
event_fit (CtxRemoved list) =
    fit_all (event_changes (CtxRemoved list))
    (plain-append (of_each removed_context list) (statuses_gone ∷ []) (plain_each removed_context removed_plain list) (tt, tt))
event_fit (Suspended id pc reason hits) =
    fit-append (of_each hit_breakpoint hits) (moved_for (context_of id) (run.Suspended pc reason hits))
    (fit_all (of_each hit_breakpoint hits) (plain_each hit_breakpoint (λ hit. (tt, tt)) hits)) (moved_fit (context_of id) (run.Suspended pc reason hits))
event_fit (Resumed id) = moved_fit (context_of id) run.Running
event_fit (BpStatusIs id status) = (tt, tt)
event_fit (BpAdded list) = fit_all (of_each told_properties list) (plain_each told_properties (λ properties. (tt, (tt, tt))) list)
event_fit (BpChanged list) = fit_all (of_each told_properties list) (plain_each told_properties (λ properties. (tt, (tt, tt))) list)
event_fit (BpRemoved list) = fit_all (of_each removed_properties list) (plain_each removed_properties (λ id. (tt, (tt, tt))) list)
event_fit (MemChanged id list) = fit_all (memory_changes (context_of id) list) (memory_plain (context_of id) list)
event_fit (RegChanged id) = fit_all (changed_register (register_of id)) (register_plain (register_of id))
event_fit RegsChanged = (tt, tt)
event_fit (Exited id code) = tt

-- ---- each answer

thread_fit : (context : Option ContextId) (state : RunState) → Fit (state_of_thread context state)
thread_fit None state = tt
thread_fit (Some (Process process)) state = tt
thread_fit (Some (Thread process thread)) state = told_fit state process thread

range_inside : (addr size : ℤ) → is_outside addr size ≡ false → unsigned_abs addr + unsigned_abs size ≤ 65536
range_inside (pos a) (pos n) is = ltb-false 65536 (a + n) (or_parts (nat_lt a 0 || nat_lt n 0) (nat_lt 65536 (a + n)) is).1
range_inside (pos a) (negsuc n) is = absurd (both_ways _ (or_parts (nat_lt a 0) true (or_parts (nat_lt a 0 || true) _ is).0).1 refl)
range_inside (negsuc a) size is = absurd (both_ways _ is refl)

range_fit : (process : ℕ) (addr size : ℤ) (bytes : List ℕ) → are_of_range addr size bytes ≡ true → unsigned_abs addr + length bytes ≤ 65536
range_fit process addr size bytes is =
    let parts = and_parts _ _ (and_parts _ _ is).0 in
    let count : unsigned_abs size ≡ length bytes = eqb-true (unsigned_abs size) (length bytes) parts.1 in
    let within : unsigned_abs addr + unsigned_abs size ≤ 65536 = range_inside addr size (not-true (is_outside addr size) parts.0) in
    omega arith

memory_fit : (context : Option ContextId) (addr size : ℤ) (bytes : List ℕ) → Fit (memory_read context addr size bytes)
memory_fit None addr size bytes = tt
memory_fit (Some context) addr size bytes =
    fit_if (are_of_range addr size bytes) (bytes_read (process_for context) (unsigned_abs addr) bytes ∷ [])
    (λ is. (range_fit (process_for context) addr size bytes is, tt))

word_fit : (bytes : List ℕ) (register : Option RegisterId) → Fit (word_read bytes register)
word_fit bytes None = tt
word_fit bytes (Some register) = (tt, tt)

whole_fit : (id bytes : List ℕ) → Fit (whole_read id bytes)
whole_fit id bytes = fit_if (nat_eq (length bytes) 4) (word_read bytes (register_of id)) (λ is. word_fit bytes (register_of id))

parts_fit : (list : List Location) (bytes : List ℕ) → Fit (parts_read list bytes)
parts_fit [] bytes = tt
parts_fit (location ∷ list) bytes =
    let piece : List ℕ = take (unsigned_abs location.size) bytes in
    let rest : List ℕ = drop (unsigned_abs location.size) bytes in
    fit_if (is_part location) (whole_read location.register piece ++ parts_read list rest)
    (λ is. fit-append (whole_read location.register piece) (parts_read list rest) (whole_fit location.register piece) (parts_fit list rest))

context_fit : (id : List ℕ) (answer : Answer) → Fit (context_answered id answer)
context_fit id (Answer.Context context) = (tt, tt)
context_fit id _ = tt

children_fit : (id : List ℕ) (answer : Answer) → Fit (children_answered id answer)
children_fit id (Answer.Ids ids) = fit_all (threads_listed (context_of id) ids) (listed_plain (context_of id) ids)
children_fit id _ = tt

state_fit : (id : List ℕ) (answer : Answer) → Fit (state_answered id answer)
state_fit id (Answer.State state) = thread_fit (context_of id) state
state_fit id _ = tt

properties_fit : (id : List ℕ) (answer : Answer) → Fit (properties_answered id answer)
properties_fit id (Answer.Bp properties) = (tt, tt)
properties_fit id _ = tt

status_fit : (id : List ℕ) (answer : Answer) → Fit (status_answered id answer)
status_fit id (Answer.Status status) = (tt, tt)
status_fit id _ = tt

bytes_fit : (id : List ℕ) (addr size : ℤ) (answer : Answer) → Fit (memory_answered id addr size answer)
bytes_fit id addr size (Answer.Blob bytes) = memory_fit (context_of id) addr size bytes
bytes_fit id addr size _ = tt

register_fit : (id : List ℕ) (answer : Answer) → Fit (register_answered id answer)
register_fit id (Answer.Blob bytes) = whole_fit id bytes
register_fit id _ = tt

registers_fit : (list : List Location) (answer : Answer) → Fit (registers_answered list answer)
registers_fit list (Answer.Blob bytes) = parts_fit list bytes
registers_fit list _ = tt

answer_fit : (command : Command) (answer : Answer) → Fit (answer_changes command answer)
answer_fit (GetContext id) answer = context_fit id answer
answer_fit (GetChildren id) answer = children_fit id answer
answer_fit (GetState id) answer = state_fit id answer
answer_fit (BpProperties id) answer = properties_fit id answer
answer_fit (BpGetStatus id) answer = status_fit id answer
answer_fit (MemGet id addr word size mode) answer = bytes_fit id addr size answer
answer_fit (RegGet id) answer = register_fit id answer
answer_fit (RegGetm list) answer = registers_fit list answer
answer_fit _ answer = tt

message_fit : (message : Message) → Fit (changes_of message)
message_fit (event_taken event) = event_fit event
message_fit bad_event_taken = (tt, tt)
message_fit (answer_taken command answer) = answer_fit command answer
message_fit other_taken = tt

-- ---- what is known of memory

abbrev AreInside : Facts → Type 0
AreInside known = (process place byte : ℕ) → known.bytes process place byte ≡ true → place < 65536

below : (place addr count : ℕ) → place < addr + count → addr + count ≤ 65536 → place < 65536
below place addr count before fits = omega arith

inside_after : (change : Change) (known : Facts) → Fits change → AreInside known → AreInside (after change known)
inside_after all_gone known fits inside = λ process place byte is. absurd (both_ways false refl is)
inside_after (context_told id context) known fits inside = inside
inside_after (context_gone id) known fits inside = inside
inside_after (threads_told process ids) known fits inside = inside
inside_after (thread_joined process id) known fits inside = inside
inside_after (threads_gone process) known fits inside = inside
inside_after (threads_stale process) known fits inside = inside
inside_after (state_told process thread state) known fits inside = inside
inside_after (state_gone process thread) known fits inside = inside
inside_after (register_read process thread index value) known fits inside = inside
inside_after (register_gone process thread index) known fits inside = inside
inside_after (thread_registers_gone process thread) known fits inside = inside
inside_after registers_gone known fits inside = inside
inside_after (bytes_read process addr bytes) known fits inside = λ p place byte is.
    or_cases (known.bytes p place byte) (is_still process known && nat_eq process p && has_byte addr bytes place byte) is (inside p place byte)
    (λ read. below place addr (length bytes) (byte_there addr bytes place byte (and_parts _ _ read).1) fits)
inside_after (bytes_gone process) known fits inside = λ p place byte is. inside p place byte (and_parts _ _ is).0
inside_after (range_gone process addr size) known fits inside = λ p place byte is. inside p place byte (and_parts _ _ is).0
inside_after (properties_told id properties) known fits inside = inside
inside_after (properties_gone id) known fits inside = inside
inside_after (status_told id status) known fits inside = inside
inside_after (status_gone id) known fits inside = inside
inside_after statuses_gone known fits inside = inside

inside_after_all : (changes : List Change) (known : Facts) → Fit changes → AreInside known → AreInside (after_all changes known)
inside_after_all [] known fit inside = inside
inside_after_all (change ∷ changes) known fit inside =
    inside_after_all changes (after change known) fit.1 (inside_after change known fit.0 inside)

inside_learned : (messages : List Message) (known : Facts) → AreInside known → AreInside (learn_all messages known)
inside_learned [] known inside = inside
inside_learned (message ∷ messages) known inside =
    inside_learned messages (after_all (changes_of message) known) (inside_after_all (changes_of message) known (message_fit message) inside)

-- ---- a range that is covered

pub part_length : (process addr size : ℕ) (block : Block) → has_range process addr size block ≡ true → length (part addr size block) ≡ size
part_length process addr size block has =
    let parts = and_parts _ _ has in
    taken size addr block.addr block.bytes (leb-true _ _ (and_parts _ _ parts.0).1) (leb-true _ _ parts.1)

pub length_by : (process addr size : ℕ) (bytes : List ℕ) (block : Block) (blocks : List Block) (b : Bool) → has_range process addr size block ≡ b
    → (covered process addr size blocks ≡ Some bytes → length bytes ≡ size)
    → option_map (part addr size) (cond b (Some block) (find (has_range process addr size) blocks)) ≡ Some bytes → length bytes ≡ size
length_by process addr size bytes block blocks true has rest is =
    let same : part addr size block ≡ bytes = cc in
    sym (ap length same) ∙ part_length process addr size block has
length_by process addr size bytes block blocks false has rest is = rest is

covered_length : (process addr size : ℕ) (blocks : List Block) (bytes : List ℕ) → covered process addr size blocks ≡ Some bytes → length bytes ≡ size
covered_length process addr size [] bytes is = cc
covered_length process addr size (block ∷ blocks) bytes is =
    length_by process addr size bytes block blocks (has_range process addr size block) refl (covered_length process addr size blocks bytes) is

byte_at : (bytes : List ℕ) (k : ℕ) → k < length bytes → (byte : ℕ) × (slice_get bytes k ≡ Some byte)
byte_at [] k within = absurd (omega arith)
byte_at (byte ∷ bytes) zero within = (byte, refl)
byte_at (byte ∷ bytes) (suc k) within = byte_at bytes k (omega arith)

pub covered_is_inside : CoveredIsInside
covered_is_inside messages value process addr size bytes cache some is =
    let long : length bytes ≡ size = covered_length process addr size value.blocks bytes is in
    let last = byte_at bytes (size - 1) (omega (arith, long, some)) in
    let place : addr + (size - 1) < 65536 =
    inside_learned messages nothing (λ p a b no. absurd (both_ways false refl no)) process (addr + (size - 1)) last.0
    (cache.bytes process (addr + (size - 1)) last.0 (read_is_known process addr size value.blocks bytes (size - 1) last.0 is last.1)) in
    omega (arith, some, place)
