-- What is learned of messages that are taken is within its limits.
use Rattle.std.proofs.Common.{◌≡◌, ℕ, zero, suc, ℤ, ◌-◌, ◌<◌, ◌==◌, nat_eq, ◌&&◌, ◌||◌, Bool, true, false, true≢false, cond, List, [], ◌∷◌, ◌++◌, length, take, drop, slice_get, Option, Some, None, sym, subst, inl, inr, arith}
use Rattle.std.specs.Int.{w32, from_le_bytes}
use Rattle.std.specs.List.{AllByRecursion, list_all}
use Rattle.std.specs.Prelude.{bytes_eq, slice_index, unsigned_abs}
use Rattle.std.proofs.lemmas.Bool.{and_parts, eqb-true, or_cases}
use Rattle.command_tables.specs.Canonical.{AreBytes}
use Rattle.json_values.specs.Contexts.{IsContext}
use Rattle.json_values.specs.Statuses.{IsStatus}
use Rattle.knowledge.specs.Changes.{Change, all_gone, context_told, context_gone, threads_told, thread_joined, threads_gone, threads_stale, state_told, state_gone, register_read, register_gone, thread_registers_gone, registers_gone, bytes_read, bytes_gone, range_gone, properties_told, properties_gone, status_told, status_gone, statuses_gone, after, after_all, at_register, has_byte, is_byte, is_still, of_each}
use Rattle.knowledge.specs.Facts.{Facts, is_suspended, nothing}
use Rattle.knowledge.specs.Learning.{Message, event_taken, bad_event_taken, answer_taken, other_taken, changes_of, learn, learn_all}
use Rattle.knowledge.specs.Rows.{added_context, answer_changes, are_of_range, begun, begun_for, changed_context, changed_range, changed_register, event_changes, hit_breakpoint, is_outside, is_part, is_thread_of, joined, joined_for, memory_changes, memory_read, moved_for, parts_read, process_for, removed_context, removed_properties, stale_for, state_changes, state_of_thread, threads_listed, told_properties, unlisted_for, unsettled, unsettled_for, whole_read, word_read}
use Rattle.knowledge.specs.declared.state.StateFact.{StateFact}
use Rattle.value_store.specs.Taken.{AreTaken}
use Rattle.value_store.proofs.Lessons.Messages.{IsSoundMessage, taken_so}
use Rattle.value_store.proofs.Lessons.Reading.{IsSound, IsSoundEvent, IsWord}
use Rattle.tcf_values.specs.Ids.{context_of, register_of}
use Rattle.tcf_values.specs.declared.answer.Answer.{Answer}
use Rattle.tcf_values.specs.declared.command.Command.{Command}
use Rattle.tcf_values.specs.declared.command.Command.TheVariants as command
use Rattle.tcf_values.specs.declared.event.EventData.{EventData}
use Rattle.tcf_values.specs.declared.ids.ContextId.{ContextId}
use Rattle.tcf_values.specs.declared.ids.ContextId.TheVariants.{Process, Thread}
use Rattle.tcf_values.specs.declared.ids.RegisterId.{RegisterId}
use Rattle.tcf_values.specs.declared.values.BpProps.{BpProps}
use Rattle.tcf_values.specs.declared.values.BpStatus.{BpStatus}
use Rattle.tcf_values.specs.declared.values.ContextData.{ContextData}
use Rattle.tcf_values.specs.declared.values.Location.{Location}
use Rattle.tcf_values.specs.declared.values.Range.{Range}
use Rattle.tcf_values.specs.declared.values.RunState.{RunState}
use Rattle.tcf_values.specs.declared.values.RunState.TheVariants as run
use Rattle.reply_tables.specs.Written.{IsTypedState}
use Rattle.list_laws.proofs.AllLists.{all_append, all_drop, all_if, all_take}
use Rattle.cache_learning.proofs.Limits.{IsBp}

pub record IsSoundOf (known : Facts) : Type 0 where
  pub contexts : (id : List ℕ) (context : ContextData) → known.contexts id ≡ Some context → IsContext context
  pub registers : (process thread index value : ℕ) → known.registers process thread index ≡ Some value → IsWord value
  pub bytes : (process place byte : ℕ) → known.bytes process place byte ≡ true → byte < 256
  pub properties : (id : List ℕ) (properties : BpProps) → known.properties id ≡ Some properties → IsBp properties
  pub statuses : (id : List ℕ) (status : BpStatus) → known.statuses id ≡ Some status → IsStatus status

-- ---- one change

abbrev IsFine : Change → Type 0
IsFine (context_told id context) = IsContext context
IsFine (register_read process thread index value) = IsWord value
IsFine (bytes_read process addr bytes) = AreBytes bytes
IsFine (properties_told id properties) = IsBp properties
IsFine (status_told id status) = IsStatus status
IsFine _ = Unit {0}

abbrev AreFine : List Change → Type 0
AreFine changes = AllByRecursion IsFine changes

module _ {A : Type 0} (Fine : A → Type 0) where
  one_value : (some other : A) → ◌≡◌ {A = Option A} (Some some) (Some other) → some ≡ other
  one_value some other is = cc

  told_fine : (b : Bool) (told found : A) (before : Option A) → Fine told → (before ≡ Some found → Fine found) → cond b (Some told) before ≡ Some found → Fine found
  told_fine true told found before fine within is = subst Fine (one_value told found is) fine
  told_fine false told found before fine within is = within is

  no_value : (found : A) → ◌≡◌ {A = Option A} None (Some found) → Fine found
  no_value found is = cc

  gone_fine : (b : Bool) (found : A) (before : Option A) → (before ≡ Some found → Fine found) → cond b None before ≡ Some found → Fine found
  gone_fine true found before within is = no_value found is
  gone_fine false found before within is = within is

-- the same but for rows that are named
with_contexts : {known : Facts} (f : List ℕ → Option ContextData) → IsSoundOf known → ((id : List ℕ) (x : ContextData) → f id ≡ Some x → IsContext x) → IsSoundOf (record known { contexts = f })
with_contexts f sound here = record { contexts = here; registers = sound.registers; bytes = sound.bytes; properties = sound.properties; statuses = sound.statuses }

with_threads : {known : Facts} (f : ℕ → Option (List (List ℕ))) → IsSoundOf known → IsSoundOf (record known { threads = f })
with_threads f sound =
    record { contexts = sound.contexts; registers = sound.registers; bytes = sound.bytes; properties = sound.properties; statuses = sound.statuses }

with_states : {known : Facts} (f : ℕ → ℕ → Option StateFact) → IsSoundOf known → IsSoundOf (record known { states = f })
with_states f sound =
    record { contexts = sound.contexts; registers = sound.registers; bytes = sound.bytes; properties = sound.properties; statuses = sound.statuses }

with_registers : {known : Facts} (f : ℕ → ℕ → ℕ → Option ℕ) → IsSoundOf known → ((p t i x : ℕ) → f p t i ≡ Some x → IsWord x) → IsSoundOf (record known { registers = f })
with_registers f sound here = record { contexts = sound.contexts; registers = here; bytes = sound.bytes; properties = sound.properties; statuses = sound.statuses }

with_bytes : {known : Facts} (f : ℕ → ℕ → ℕ → Bool) → IsSoundOf known → ((p place byte : ℕ) → f p place byte ≡ true → byte < 256) → IsSoundOf (record known { bytes = f })
with_bytes f sound here = record { contexts = sound.contexts; registers = sound.registers; bytes = here; properties = sound.properties; statuses = sound.statuses }

with_properties : {known : Facts} (f : List ℕ → Option BpProps) → IsSoundOf known → ((id : List ℕ) (x : BpProps) → f id ≡ Some x → IsBp x) → IsSoundOf (record known { properties = f })
with_properties f sound here = record { contexts = sound.contexts; registers = sound.registers; bytes = sound.bytes; properties = here; statuses = sound.statuses }

with_statuses : {known : Facts} (f : List ℕ → Option BpStatus) → IsSoundOf known → ((id : List ℕ) (x : BpStatus) → f id ≡ Some x → IsStatus x) → IsSoundOf (record known { statuses = f })
with_statuses f sound here = record { contexts = sound.contexts; registers = sound.registers; bytes = sound.bytes; properties = sound.properties; statuses = here }

pub nothing_sound : IsSoundOf nothing
nothing_sound = record {
  contexts = λ id x is. cc;
  registers = λ p t i x is. cc;
  bytes = λ p place byte is. absurd (true≢false (sym is));
  properties = λ id x is. cc;
  statuses = λ id x is. cc;
}

read_word : (c : Bool) (process thread index value : ℕ) (known : Facts) → IsWord value → IsSoundOf known → (p t i x : ℕ)
    → cond c (at_register process thread index (Some value) known.registers) known.registers p t i ≡ Some x → IsWord x
read_word true process thread index value known small sound p t i x is =
    told_fine IsWord (nat_eq process p && nat_eq thread t && nat_eq index i) value x (known.registers p t i) small (sound.registers p t i x) is
read_word false process thread index value known small sound p t i x is = sound.registers p t i x is

row_gone : (b : Bool) (before : ℕ → Option ℕ) (i x : ℕ) → (before i ≡ Some x → IsWord x) → cond b (λ index. None) before i ≡ Some x → IsWord x
row_gone true before i x within is = cc
row_gone false before i x within is = within is

byte_there : (bytes : List ℕ) (k byte : ℕ) → AreBytes bytes → is_byte byte (slice_get bytes k) ≡ true → byte < 256
byte_there [] k byte are is = absurd (true≢false (sym is))
byte_there (b ∷ bytes) zero byte are is = subst (λ n. n < 256) (eqb-true b byte is) are.0
byte_there (b ∷ bytes) (suc k) byte are is = byte_there bytes k byte are.1 is

read_bytes : (process addr : ℕ) (bytes : List ℕ) (known : Facts) → AreBytes bytes → IsSoundOf known → (p place byte : ℕ)
    → (known.bytes p place byte || (is_still process known && nat_eq process p && has_byte addr bytes place byte)) ≡ true → byte < 256
read_bytes process addr bytes known are sound p place byte is =
    elim (or_cases (known.bytes p place byte) (is_still process known && nat_eq process p && has_byte addr bytes place byte) is) [
      | inl before ↦ sound.bytes p place byte before
      | inr read ↦ byte_there bytes (place - addr) byte are (and_parts _ _ (and_parts _ _ read).1).1
    ]

sound_after : (change : Change) (known : Facts) → IsFine change → IsSoundOf known → IsSoundOf (after change known)
sound_after all_gone known fine sound = nothing_sound
sound_after (context_told id context) known fine sound =
    with_contexts _ sound (λ other x. told_fine IsContext (bytes_eq id other) context x (known.contexts other) fine (sound.contexts other x))
sound_after (context_gone id) known fine sound =
    with_contexts _ sound (λ other x. gone_fine IsContext (bytes_eq id other) x (known.contexts other) (sound.contexts other x))
sound_after (threads_told process ids) known fine sound = with_threads _ sound
sound_after (thread_joined process id) known fine sound = with_threads _ sound
sound_after (threads_gone process) known fine sound = with_threads _ sound
sound_after (threads_stale process) known fine sound = record {
  contexts = sound.contexts;
  registers = λ p t i x. gone_fine IsWord (nat_eq process p) x (known.registers p t i) (sound.registers p t i x);
  bytes = sound.bytes;
  properties = sound.properties;
  statuses = sound.statuses;
}
sound_after (state_told process thread state) known fine sound = with_states _ sound
sound_after (state_gone process thread) known fine sound = with_states _ sound
sound_after (register_read process thread index value) known fine sound =
    with_registers _ sound (read_word (is_suspended (known.states process thread)) process thread index value known fine sound)
sound_after (register_gone process thread index) known fine sound =
    with_registers _ sound (λ p t i x. gone_fine IsWord (nat_eq process p && nat_eq thread t && nat_eq index i) x (known.registers p t i) (sound.registers p t i x))
sound_after (thread_registers_gone process thread) known fine sound =
    with_registers _ sound (λ p t i x. row_gone (nat_eq process p && nat_eq thread t) (known.registers p t) i x (sound.registers p t i x))
sound_after registers_gone known fine sound = with_registers _ sound (λ p t i x is. cc)
sound_after (bytes_read process addr bytes) known fine sound = with_bytes _ sound (read_bytes process addr bytes known fine sound)
sound_after (bytes_gone process) known fine sound = with_bytes _ sound (λ p place byte is. sound.bytes p place byte (and_parts _ _ is).0)
sound_after (range_gone process addr size) known fine sound = with_bytes _ sound (λ p place byte is. sound.bytes p place byte (and_parts _ _ is).0)
sound_after (properties_told id properties) known fine sound =
    with_properties _ sound (λ other x. told_fine IsBp (bytes_eq id other) properties x (known.properties other) fine (sound.properties other x))
sound_after (properties_gone id) known fine sound =
    with_properties _ sound (λ other x. gone_fine IsBp (bytes_eq id other) x (known.properties other) (sound.properties other x))
sound_after (status_told id status) known fine sound =
    with_statuses _ sound (λ other x. told_fine IsStatus (bytes_eq id other) status x (known.statuses other) fine (sound.statuses other x))
sound_after (status_gone id) known fine sound =
    with_statuses _ sound (λ other x. gone_fine IsStatus (bytes_eq id other) x (known.statuses other) (sound.statuses other x))
sound_after statuses_gone known fine sound = with_statuses _ sound (λ id x is. cc)

all_sound : (changes : List Change) (known : Facts) → AreFine changes → IsSoundOf known → IsSoundOf (after_all changes known)
all_sound [] known fine sound = sound
all_sound (change ∷ changes) known fine sound = all_sound changes (after change known) fine.1 (sound_after change known fine.0 sound)

-- ---- the changes of a message

each_fine : {A : Type 0} (changes : A → List Change) (items : List A) → ((item : A) → AreFine (changes item)) → AreFine (of_each changes items)
each_fine changes [] fine = tt
each_fine changes (item ∷ items) fine = all_append IsFine (changes item) (of_each changes items) (fine item) (each_fine changes items fine)

stale_fine : (context : Option ContextId) → AreFine (stale_for context)
stale_fine None = tt
stale_fine (Some (Process process)) = (tt, tt)
stale_fine (Some (Thread process thread)) = (tt, (tt, (tt, tt)))

unlisted_fine : (context : Option ContextId) → AreFine (unlisted_for context)
unlisted_fine None = tt
unlisted_fine (Some context) = (tt, tt)

removed_fine : (id : List ℕ) → AreFine (removed_context id)
removed_fine id = (tt, all_append IsFine (stale_for (context_of id)) (unlisted_for (context_of id)) (stale_fine (context_of id)) (unlisted_fine (context_of id)))

unsettled_fine : (context : Option ContextId) → AreFine (unsettled_for context)
unsettled_fine None = tt
unsettled_fine (Some context) = (tt, (tt, tt))

begun_fine : (context : Option ContextId) → AreFine (begun_for context)
begun_fine None = tt
begun_fine (Some (Process process)) = (tt, tt)
begun_fine (Some (Thread process thread)) = tt

joined_fine : (id : List ℕ) (context : Option ContextId) → AreFine (joined_for id context)
joined_fine id None = tt
joined_fine id (Some (Process process)) = tt
joined_fine id (Some (Thread process thread)) = (tt, tt)

state_fine : (state : RunState) (process thread : ℕ) → IsTypedState state → AreFine (state_changes state process thread)
state_fine run.Running process thread typed = (tt, tt)
state_fine (run.Suspended pc reason hits) process thread typed = (tt, (typed, tt))

moved_fine : (context : Option ContextId) (state : RunState) → IsTypedState state → AreFine (moved_for context state)
moved_fine None state typed = tt
moved_fine (Some (Process process)) state typed = (tt, tt)
moved_fine (Some (Thread process thread)) state typed = (tt, (tt, state_fine state process thread typed))

either_fine : (flag : Bool) (one other : List Change) → AreFine one → AreFine other → AreFine (cond flag one other)
either_fine true one other fine else_fine = fine
either_fine false one other fine else_fine = else_fine

range_fine : (process : ℕ) (range : Range) → AreFine (changed_range process range)
range_fine process range = either_fine (is_outside range.addr range.size) _ _ (tt, tt) (either_fine (unsigned_abs range.size == 0) _ _ tt (tt, tt))

memory_fine : (context : Option ContextId) (list : List Range) → AreFine (memory_changes context list)
memory_fine None list = tt
memory_fine (Some context) list = each_fine (changed_range (process_for context)) list (range_fine (process_for context))

register_fine : (register : Option RegisterId) → AreFine (changed_register register)
register_fine None = tt
register_fine (Some register) = (tt, tt)

contexts_fine : (changes : ContextData → List Change) (list : List ContextData) → ((context : ContextData) → IsContext context → AreFine (changes context))
    → AllByRecursion IsContext list → AreFine (of_each changes list)
contexts_fine changes [] each fine = tt
contexts_fine changes (context ∷ list) each fine =
    all_append IsFine (changes context) (of_each changes list) (each context fine.0) (contexts_fine changes list each fine.1)

properties_fine : (list : List BpProps) → AllByRecursion IsBp list → AreFine (of_each told_properties list)
properties_fine [] fine = tt
properties_fine (properties ∷ list) fine = (fine.0, (tt, properties_fine list fine.1))

event_fine : (event : EventData) → IsSoundEvent event → AreFine (event_changes event)
event_fine (EventData.Hello list) fine = (tt, tt)
event_fine (EventData.CtxAdded list) fine =
    all_append IsFine (of_each added_context list) _ (contexts_fine added_context list (λ context is. (is, tt)) fine)
    (all_append IsFine (of_each unsettled list) _ (each_fine unsettled list (λ context. unsettled_fine (context_of context.id)))
    (all_append IsFine (of_each begun list) _ (each_fine begun list (λ context. begun_fine (context_of context.id)))
    (all_append IsFine (of_each joined list) (statuses_gone ∷ []) (each_fine joined list (λ context. joined_fine context.id (context_of context.id))) (tt, tt))))
event_fine (EventData.CtxChanged list) fine =
    all_append IsFine _ _ (contexts_fine changed_context list (λ context is. (is, stale_fine (context_of context.id))) fine) (tt, tt)
event_fine (EventData.CtxRemoved list) fine = all_append IsFine _ _ (each_fine removed_context list removed_fine) (tt, tt)
event_fine (EventData.Suspended id pc reason hits) fine =
    all_append IsFine (of_each hit_breakpoint hits) _ (each_fine hit_breakpoint hits (λ hit. (tt, tt))) (moved_fine (context_of id) (run.Suspended pc reason hits) fine)
event_fine (EventData.Resumed id) fine = moved_fine (context_of id) run.Running tt
event_fine (EventData.BpStatusIs id status) fine = (fine, tt)
event_fine (EventData.BpAdded list) fine = properties_fine list fine
event_fine (EventData.BpChanged list) fine = properties_fine list fine
event_fine (EventData.BpRemoved list) fine = each_fine removed_properties list (λ id. (tt, (tt, tt)))
event_fine (EventData.MemChanged id list) fine = memory_fine (context_of id) list
event_fine (EventData.RegChanged id) fine = register_fine (register_of id)
event_fine EventData.RegsChanged fine = (tt, tt)
event_fine (EventData.Exited id code) fine = tt

-- four bytes make a number of 32 bits
byte_below : (bytes : List ℕ) (place : ℕ) → AreBytes bytes → slice_index bytes place < 256
byte_below [] place are = omega arith
byte_below (byte ∷ bytes) zero are = are.0
byte_below (byte ∷ bytes) (suc place) are = byte_below bytes place are.1

word_below : (bytes : List ℕ) → AreBytes bytes → IsWord (from_le_bytes w32 bytes)
word_below bytes are = omega (arith, byte_below bytes 0 are, byte_below bytes 1 are, byte_below bytes 2 are, byte_below bytes 3 are)

word_fine : (bytes : List ℕ) (register : Option RegisterId) → AreBytes bytes → AreFine (word_read bytes register)
word_fine bytes None are = tt
word_fine bytes (Some register) are = (word_below bytes are, tt)

whole_fine : (id bytes : List ℕ) → AreBytes bytes → AreFine (whole_read id bytes)
whole_fine id bytes are = all_if IsFine (length bytes == 4) (word_read bytes (register_of id)) (λ is. word_fine bytes (register_of id) are)

parts_fine : (list : List Location) (bytes : List ℕ) → AreBytes bytes → AreFine (parts_read list bytes)
parts_fine [] bytes are = tt
parts_fine (location ∷ list) bytes are =
    let size : ℕ = unsigned_abs location.size in
    let IsByte : ℕ → Type 0 = λ byte. byte < 256 in
    all_if IsFine (is_part location) (whole_read location.register (take size bytes) ++ parts_read list (drop size bytes)) (λ is.
    all_append IsFine (whole_read location.register (take size bytes)) (parts_read list (drop size bytes))
    (whole_fine location.register (take size bytes) (all_take IsByte size bytes are)) (parts_fine list (drop size bytes) (all_drop IsByte size bytes are)))

read_fine : (context : Option ContextId) (addr size : ℤ) (bytes : List ℕ) → AreBytes bytes → AreFine (memory_read context addr size bytes)
read_fine None addr size bytes are = tt
read_fine (Some context) addr size bytes are =
    all_if IsFine (are_of_range addr size bytes) (bytes_read (process_for context) (unsigned_abs addr) bytes ∷ []) (λ is. (are, tt))

thread_fine : (context : Option ContextId) (state : RunState) → IsTypedState state → AreFine (state_of_thread context state)
thread_fine None state typed = tt
thread_fine (Some (Process process)) state typed = tt
thread_fine (Some (Thread process thread)) state typed = state_fine state process thread typed

listed_fine : (context : Option ContextId) (ids : List (List ℕ)) → AreFine (threads_listed context ids)
listed_fine None ids = tt
listed_fine (Some (Process process)) ids = all_if IsFine (list_all (is_thread_of process) ids) (threads_told process ids ∷ []) (λ is. (tt, tt))
listed_fine (Some (Thread process thread)) ids = tt

answer_fine : (asked : Command) (answer : Answer) → IsSound answer → AreFine (answer_changes asked answer)
answer_fine (command.GetContext id) (Answer.Context context) fine = (fine, tt)
answer_fine (command.GetChildren id) (Answer.Ids ids) fine = listed_fine (context_of id) ids
answer_fine (command.GetState id) (Answer.State state) fine = thread_fine (context_of id) state fine
answer_fine (command.BpProperties id) (Answer.Bp properties) fine = (fine, tt)
answer_fine (command.BpGetStatus id) (Answer.Status status) fine = (fine, tt)
answer_fine (command.MemGet id addr word size mode) (Answer.Blob bytes) fine = read_fine (context_of id) addr size bytes fine
answer_fine (command.RegGet id) (Answer.Blob bytes) fine = whole_fine id bytes fine
answer_fine (command.RegGetm list) (Answer.Blob bytes) fine = parts_fine list bytes fine
answer_fine _ _ fine = tt

message_fine : (message : Message) → IsSoundMessage message → AreFine (changes_of message)
message_fine (event_taken event) fine = event_fine event fine
message_fine bad_event_taken fine = (tt, tt)
message_fine (answer_taken asked answer) fine = answer_fine asked answer fine
message_fine other_taken fine = tt

-- ---- all messages

pub learned_sound : (messages : List Message) (known : Facts) → AreTaken messages → IsSoundOf known → IsSoundOf (learn_all messages known)
learned_sound [] known taken sound = sound
learned_sound (message ∷ messages) known taken sound =
    learned_sound messages (learn message known) taken.1 (all_sound (changes_of message) known (message_fine message (taken_so message taken.0)) sound)
