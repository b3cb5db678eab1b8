-- An answer makes nothing of what is known unknown, though it may be another thing then.
use Rattle.std.proofs.Common.{◌≡◌, ℕ, ◌==◌, Bool, true, false, cond, ◌&&◌, List, [], ◌∷◌, ◌++◌, length, take, drop, Option, Some, None, is_some, refl}
use Rattle.std.specs.Prelude.{ℤ, bytes_eq, unsigned_abs}
use Rattle.std.specs.List.{AllByRecursion, list_all}
use Rattle.std.proofs.lemmas.Bool.{or_left}
use Rattle.tcf_values.specs.Ids.{context_of, register_of}
use Rattle.tcf_values.specs.declared.answer.Answer.{Answer}
use Rattle.tcf_values.specs.declared.command.Command.{Command}
use Rattle.tcf_values.specs.declared.command.Command.TheVariants.{GetContext, GetChildren, GetState, BpProperties, BpGetStatus, MemGet, RegGet, RegGetm}
use Rattle.tcf_values.specs.declared.ids.ContextId.{ContextId}
use Rattle.tcf_values.specs.declared.ids.ContextId.TheVariants.{Process, Thread}
use Rattle.tcf_values.specs.declared.ids.RegisterId.{RegisterId}
use Rattle.tcf_values.specs.declared.values.Location.{Location}
use Rattle.tcf_values.specs.declared.values.RunState.{RunState}
use Rattle.tcf_values.specs.declared.values.RunState.TheVariants as run
use Rattle.value_store.specs.Lessons.{answer_by, answer_message}
use Rattle.reply_tables.specs.Answers.{answer_read}
use Rattle.knowledge.specs.Changes.{Change, after, after_all, all_gone, at_register, context_told, context_gone, threads_told, thread_joined, threads_gone, threads_stale, state_told, state_gone, register_read, register_gone, thread_registers_gone, registers_gone, bytes_read, bytes_gone, range_gone, properties_told, properties_gone, status_told, status_gone, statuses_gone, has_byte, is_still}
use Rattle.knowledge.specs.Facts.{Facts, is_suspended}
use Rattle.knowledge.specs.Learning.{learn}
use Rattle.knowledge.specs.Rows.{answer_changes, are_of_range, children_answered, context_answered, is_part, is_thread_of, memory_answered, memory_read, parts_read, process_for, properties_answered, register_answered, registers_answered, state_answered, state_of_thread, status_answered, threads_listed, whole_read, word_read}

-- what is known before is known after, if perhaps otherwise
pub record Keeps (before now : Facts) : Type 0 where
  pub contexts : (id : List ℕ) → is_some (before.contexts id) ≡ true → is_some (now.contexts id) ≡ true
  pub threads : (process : ℕ) → is_some (before.threads process) ≡ true → is_some (now.threads process) ≡ true
  pub states : (process thread : ℕ) → is_some (before.states process thread) ≡ true → is_some (now.states process thread) ≡ true
  pub registers : (process thread index : ℕ) → is_some (before.registers process thread index) ≡ true → is_some (now.registers process thread index) ≡ true
  pub bytes : (process addr byte : ℕ) → before.bytes process addr byte ≡ true → now.bytes process addr byte ≡ true
  pub properties : (id : List ℕ) → is_some (before.properties id) ≡ true → is_some (now.properties id) ≡ true
  pub statuses : (id : List ℕ) → is_some (before.statuses id) ≡ true → is_some (now.statuses id) ≡ true

keeps_itself : (known : Facts) → Keeps known known
keeps_itself known =
    record {
      contexts = λ id is. is;
      threads = λ process is. is;
      states = λ process thread is. is;
      registers = λ process thread index is. is;
      bytes = λ process addr byte is. is;
      properties = λ id is. is;
      statuses = λ id is. is;
    }

keeps_on : (a b c : Facts) → Keeps a b → Keeps b c → Keeps a c
keeps_on a b c one two =
    record {
      contexts = λ id is. two.contexts id (one.contexts id is);
      threads = λ process is. two.threads process (one.threads process is);
      states = λ process thread is. two.states process thread (one.states process thread is);
      registers = λ process thread index is. two.registers process thread index (one.registers process thread index is);
      bytes = λ process addr byte is. two.bytes process addr byte (one.bytes process addr byte is);
      properties = λ id is. two.properties id (one.properties id is);
      statuses = λ id is. two.statuses id (one.statuses id is);
    }

-- ---- Changes that tell

abbrev pub IsTelling : Change → Type 0
IsTelling (context_told id context) = Unit {0}
IsTelling (threads_told process ids) = Unit {0}
IsTelling (state_told process thread state) = Unit {0}
IsTelling (register_read process thread index value) = Unit {0}
IsTelling (bytes_read process addr bytes) = Unit {0}
IsTelling (properties_told id properties) = Unit {0}
IsTelling (status_told id status) = Unit {0}
IsTelling _ = ⊥

written : {A : Type 0} → (flag : Bool) (x : A) (before : Option A) → is_some before ≡ true → is_some (cond flag (Some x) before) ≡ true
written true x before is = refl
written false x before is = is

register_written : (flag : Bool) (process thread index value : ℕ) (known : ℕ → ℕ → ℕ → Option ℕ) (p t i : ℕ) → is_some (known p t i) ≡ true
    → is_some (cond flag (at_register process thread index (Some value) known) known p t i) ≡ true
register_written true process thread index value known p t i is = written _ value (known p t i) is
register_written false process thread index value known p t i is = is

keeps_after : (change : Change) (known : Facts) → IsTelling change → Keeps known (after change known)
keeps_after all_gone known telling = absurd telling
keeps_after (context_told id context) known telling =
    record { contexts = λ other is. written (bytes_eq id other) context (known.contexts other) is; threads = λ p is. is; states = λ p t is. is; registers = λ p t i is. is; bytes = λ p place byte is. is; properties = λ other is. is; statuses = λ other is. is }
keeps_after (context_gone id) known telling = absurd telling
keeps_after (threads_told process ids) known telling =
    record { contexts = λ other is. is; threads = λ p is. written (process == p) ids (known.threads p) is; states = λ p t is. is; registers = λ p t i is. is; bytes = λ p place byte is. is; properties = λ other is. is; statuses = λ other is. is }
keeps_after (thread_joined process id) known telling = absurd telling
keeps_after (threads_gone process) known telling = absurd telling
keeps_after (threads_stale process) known telling = absurd telling
keeps_after (state_told process thread state) known telling =
    record { contexts = λ other is. is; threads = λ p is. is; states = λ p t is. written _ state (known.states p t) is; registers = λ p t i is. is; bytes = λ p place byte is. is; properties = λ other is. is; statuses = λ other is. is }
keeps_after (state_gone process thread) known telling = absurd telling
keeps_after (register_read process thread index value) known telling =
    record { contexts = λ other is. is; threads = λ p is. is; states = λ p t is. is; registers = register_written (is_suspended (known.states process thread)) process thread index value known.registers; bytes = λ p place byte is. is; properties = λ other is. is; statuses = λ other is. is }
keeps_after (register_gone process thread index) known telling = absurd telling
keeps_after (thread_registers_gone process thread) known telling = absurd telling
keeps_after registers_gone known telling = absurd telling
keeps_after (bytes_read process addr bytes) known telling =
    record { contexts = λ other is. is; threads = λ p is. is; states = λ p t is. is; registers = λ p t i is. is; bytes = λ p place byte is. or_left (known.bytes p place byte) (is_still process known && (process == p) && has_byte addr bytes place byte) is; properties = λ other is. is; statuses = λ other is. is }
keeps_after (bytes_gone process) known telling = absurd telling
keeps_after (range_gone process addr size) known telling = absurd telling
keeps_after (properties_told id properties) known telling =
    record { contexts = λ other is. is; threads = λ p is. is; states = λ p t is. is; registers = λ p t i is. is; bytes = λ p place byte is. is; properties = λ other is. written (bytes_eq id other) properties (known.properties other) is; statuses = λ other is. is }
keeps_after (properties_gone id) known telling = absurd telling
keeps_after (status_told id status) known telling =
    record { contexts = λ other is. is; threads = λ p is. is; states = λ p t is. is; registers = λ p t i is. is; bytes = λ p place byte is. is; properties = λ other is. is; statuses = λ other is. written (bytes_eq id other) status (known.statuses other) is }
keeps_after (status_gone id) known telling = absurd telling
keeps_after statuses_gone known telling = absurd telling

keeps_after_all : (changes : List Change) (known : Facts) → AllByRecursion IsTelling changes → Keeps known (after_all changes known)
keeps_after_all [] known telling = keeps_itself known
keeps_after_all (change ∷ changes) known telling =
    keeps_on known (after change known) (after_all changes (after change known)) (keeps_after change known telling.0) (keeps_after_all changes (after change known) telling.1)

-- ---- Answers tell

abbrev pub Tell : List Change → Type 0
Tell changes = AllByRecursion IsTelling changes

tell_both : (xs ys : List Change) → Tell xs → Tell ys → Tell (xs ++ ys)
tell_both [] ys one two = two
tell_both (x ∷ xs) ys one two = (one.0, tell_both xs ys one.1 two)

tell_if : (flag : Bool) (xs : List Change) → Tell xs → Tell (cond flag xs [])
tell_if true xs one = one
tell_if false xs one = tt

context_tells : (id : List ℕ) (answer : Answer) → Tell (context_answered id answer)
context_tells id (Answer.Context context) = (tt, tt)
context_tells id _ = tt

threads_tell : (o : Option ContextId) (ids : List (List ℕ)) → Tell (threads_listed o ids)
threads_tell None ids = tt
threads_tell (Some (Process process)) ids = tell_if (list_all (is_thread_of process) ids) (threads_told process ids ∷ []) (tt, tt)
threads_tell (Some (Thread process thread)) ids = tt

children_tell : (id : List ℕ) (answer : Answer) → Tell (children_answered id answer)
children_tell id (Answer.Ids ids) = threads_tell (context_of id) ids
children_tell id _ = tt

state_tells : (o : Option ContextId) (state : RunState) → Tell (state_of_thread o state)
state_tells None state = tt
state_tells (Some (Process process)) state = tt
state_tells (Some (Thread process thread)) run.Running = (tt, tt)
state_tells (Some (Thread process thread)) (run.Suspended pc reason hits) = (tt, (tt, tt))

state_answer_tells : (id : List ℕ) (answer : Answer) → Tell (state_answered id answer)
state_answer_tells id (Answer.State state) = state_tells (context_of id) state
state_answer_tells id _ = tt

properties_tell : (id : List ℕ) (answer : Answer) → Tell (properties_answered id answer)
properties_tell id (Answer.Bp properties) = (tt, tt)
properties_tell id _ = tt

status_tells : (id : List ℕ) (answer : Answer) → Tell (status_answered id answer)
status_tells id (Answer.Status status) = (tt, tt)
status_tells id _ = tt

range_tells : (o : Option ContextId) (addr size : ℤ) (bytes : List ℕ) → Tell (memory_read o addr size bytes)
range_tells None addr size bytes = tt
range_tells (Some context) addr size bytes = tell_if (are_of_range addr size bytes) (bytes_read (process_for context) (unsigned_abs addr) bytes ∷ []) (tt, tt)

memory_tells : (id : List ℕ) (addr size : ℤ) (answer : Answer) → Tell (memory_answered id addr size answer)
memory_tells id addr size (Answer.Blob bytes) = range_tells (context_of id) addr size bytes
memory_tells id addr size _ = tt

word_tells : (bytes : List ℕ) (o : Option RegisterId) → Tell (word_read bytes o)
word_tells bytes None = tt
word_tells bytes (Some register) = (tt, tt)

whole_tells : (id bytes : List ℕ) → Tell (whole_read id bytes)
whole_tells id bytes = tell_if (length bytes == 4) (word_read bytes (register_of id)) (word_tells bytes (register_of id))

register_tells : (id : List ℕ) (answer : Answer) → Tell (register_answered id answer)
register_tells id (Answer.Blob bytes) = whole_tells id bytes
register_tells id _ = tt

parts_tell : (list : List Location) (bytes : List ℕ) → Tell (parts_read list bytes)
parts_tell [] bytes = tt
parts_tell (location ∷ list) bytes =
    tell_if (is_part location) (whole_read location.register (take (unsigned_abs location.size) bytes) ++ parts_read list (drop (unsigned_abs location.size) bytes))
    (tell_both (whole_read location.register (take (unsigned_abs location.size) bytes)) (parts_read list (drop (unsigned_abs location.size) bytes))
    (whole_tells location.register (take (unsigned_abs location.size) bytes)) (parts_tell list (drop (unsigned_abs location.size) bytes)))

registers_tell : (list : List Location) (answer : Answer) → Tell (registers_answered list answer)
registers_tell list (Answer.Blob bytes) = parts_tell list bytes
registers_tell list _ = tt

pub answers_tell : (command : Command) (answer : Answer) → Tell (answer_changes command answer)
answers_tell (GetContext id) answer = context_tells id answer
answers_tell (GetChildren id) answer = children_tell id answer
answers_tell (GetState id) answer = state_answer_tells id answer
answers_tell (BpProperties id) answer = properties_tell id answer
answers_tell (BpGetStatus id) answer = status_tells id answer
answers_tell (MemGet id addr word size mode) answer = memory_tells id addr size answer
answers_tell (RegGet id) answer = register_tells id answer
answers_tell (RegGetm list) answer = registers_tell list answer
answers_tell _ answer = tt

by_reading : (command : Command) (read : Option Answer) (known : Facts) → Keeps known (learn (answer_by command read) known)
by_reading command None known = keeps_itself known
by_reading command (Some answer) known = keeps_after_all (answer_changes command answer) known (answers_tell command answer)

pub answers_keep : (command : Command) (body : List ℕ) (known : Facts) → Keeps known (learn (answer_message command body) known)
answers_keep command body known = by_reading command (answer_read command body) known
