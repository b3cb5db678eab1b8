-- What is learned of messages that are within their limits is within its own.
use Rattle.std.proofs.Common.{◌≡◌, ℕ, ℤ, Bool, true, false, cond, List, [], ◌∷◌, ◌++◌, take, drop, length, Option, Some, None, refl, sym, ap, ◌∙◌, subst, inl, inr}
use Rattle.std.specs.Prelude.{bytes_eq, unsigned_abs, ◌==◌, Result, Ok, Err, OnErr, OnOk}
use Rattle.std.specs.List.{AllByRecursion, list_all}
use Rattle.std.proofs.lemmas.Bool.{cases_Bool, cond-true, cond-false}
use Rattle.json_values.specs.Contexts.{IsContext}
use Rattle.json_values.specs.Props.{is_bp}
use Rattle.json_values.specs.Statuses.{IsStatus}
use Rattle.knowledge.specs.Changes.{Change, all_gone, context_told, context_gone, threads_told, thread_joined, threads_gone, threads_stale, state_told, state_gone, register_read, register_gone, thread_registers_gone, registers_gone, bytes_read, bytes_gone, range_gone, properties_told, properties_gone, status_told, status_gone, statuses_gone, after, after_all, of_each}
use Rattle.knowledge.specs.Facts.{AreSame, Facts, nothing}
use Rattle.knowledge.specs.KnowledgeValue.{KnowledgeValue, empty, facts_of}
use Rattle.knowledge.specs.Learning.{Message, answer_taken, event_taken, bad_event_taken, other_taken, changes_of, learn}
use Rattle.knowledge.specs.Rows.{added_context, answer_changes, are_of_range, begun, begun_for, changed_context, changed_range, changed_register, event_changes, hit_breakpoint, is_outside, is_part, is_thread_of, joined, joined_for, memory_changes, memory_read, moved_for, parts_read, process_for, removed_context, removed_properties, stale_for, state_changes, state_of_thread, threads_listed, told_properties, unlisted_for, unsettled, unsettled_for, whole_read, word_read}
use Rattle.reply_tables.specs.Answers.{IfKnown as IfKnownAnswer}
use Rattle.reply_tables.specs.Events.{IfKnown as IfKnownEvent, IsEvent}
use Rattle.reply_tables.specs.Limits.{IsAnswerTo}
use Rattle.reply_tables.specs.declared.replies.ReadAnswer.{ReadAnswer}
use Rattle.reply_tables.specs.declared.replies.ReadAnswer.TheVariants as read
use Rattle.reply_tables.specs.declared.replies.ReadEvent.{ReadEvent}
use Rattle.reply_tables.specs.declared.replies.ReadEvent.TheVariants as event_read
use Rattle.tcf_values.specs.Ids.{context_of, register_of}
use Rattle.tcf_values.specs.declared.answer.Answer.{Answer}
use Rattle.tcf_values.specs.declared.command.Command.{Command}
use Rattle.tcf_values.specs.declared.command.Command.TheVariants as command
use Rattle.tcf_values.specs.declared.event.EventData.{EventData}
use Rattle.tcf_values.specs.declared.ids.ContextId.{ContextId}
use Rattle.tcf_values.specs.declared.ids.ContextId.TheVariants.{Process, Thread}
use Rattle.tcf_values.specs.declared.ids.RegisterId.{RegisterId}
use Rattle.tcf_values.specs.declared.values.BpProps.{BpProps}
use Rattle.tcf_values.specs.declared.values.ContextData.{ContextData}
use Rattle.tcf_values.specs.declared.values.Location.{Location}
use Rattle.tcf_values.specs.declared.values.Range.{Range}
use Rattle.tcf_values.specs.declared.values.RunState.{RunState}
use Rattle.tcf_values.specs.declared.values.RunState.TheVariants as run
use Rattle.cache_learning.specs.Within.{AreWithin}

-- ---- one change

abbrev IsFine : Change → Type 0
IsFine (context_told id context) = IsContext context
IsFine (properties_told id properties) = is_bp properties ≡ true
IsFine (status_told id status) = IsStatus status
IsFine _ = Unit {0}

abbrev AreFine : List Change → Type 0
AreFine changes = AllByRecursion IsFine changes

module _ {A : Type 0} (Fine : A → Type 0) where
  one_value : (some other : A) → ◌≡◌ {A = Option A} (Some some) (Some other) → some ≡ other
  one_value some other is = cc

  no_value : (found : A) → ◌≡◌ {A = Option A} None (Some found) → Fine found
  no_value found is = cc

  told_fine : (id other : List ℕ) (told found : A) (before : Option A) → Fine told → (before ≡ Some found → Fine found) → cond (bytes_eq id other) (Some told) before ≡ Some found → Fine found
  told_fine id other told found before fine within is =
      elim (cases_Bool (bytes_eq id other)) [
        | inl e ↦ subst Fine (one_value told found (sym (cond-true _ _ _ e) ∙ is)) fine
        | inr e ↦ within (sym (cond-false _ _ _ e) ∙ is)
      ]

  gone_fine : (id other : List ℕ) (found : A) (before : Option A) → (before ≡ Some found → Fine found) → cond (bytes_eq id other) None before ≡ Some found → Fine found
  gone_fine id other found before within is =
      elim (cases_Bool (bytes_eq id other)) [
        | inl e ↦ no_value found (sym (cond-true _ _ _ e) ∙ is)
        | inr e ↦ within (sym (cond-false _ _ _ e) ∙ is)
      ]

abbrev pub IsBp : BpProps → Type 0
IsBp properties = is_bp properties ≡ true

other_rows : (some more : Facts) → more.contexts ≡ some.contexts → more.properties ≡ some.properties → more.statuses ≡ some.statuses → AreWithin some → AreWithin more
other_rows some more contexts properties statuses within = record {
  contexts = λ id x is. within.contexts id x (sym (ap (λ f. f id) contexts) ∙ is);
  properties = λ id x is. within.properties id x (sym (ap (λ f. f id) properties) ∙ is);
  statuses = λ id x is. within.statuses id x (sym (ap (λ f. f id) statuses) ∙ is);
}

knows_none : AreWithin nothing
knows_none = record { contexts = λ id x is. cc; properties = λ id x is. cc; statuses = λ id x is. cc }

after_within : (change : Change) (known : Facts) → IsFine change → AreWithin known → AreWithin (after change known)
after_within all_gone known fine within = knows_none
after_within (context_told id context) known fine within = record {
  contexts = λ other x is. told_fine IsContext id other context x (known.contexts other) fine (within.contexts other x) is;
  properties = within.properties;
  statuses = within.statuses;
}
after_within (context_gone id) known fine within = record {
  contexts = λ other x is. gone_fine IsContext id other x (known.contexts other) (within.contexts other x) is;
  properties = within.properties;
  statuses = within.statuses;
}
after_within (threads_told process ids) known fine within = other_rows known _ refl refl refl within
after_within (thread_joined process id) known fine within = other_rows known _ refl refl refl within
after_within (threads_gone process) known fine within = other_rows known _ refl refl refl within
after_within (threads_stale process) known fine within = other_rows known _ refl refl refl within
after_within (state_told process thread state) known fine within = other_rows known _ refl refl refl within
after_within (state_gone process thread) known fine within = other_rows known _ refl refl refl within
after_within (register_read process thread index value) known fine within = other_rows known _ refl refl refl within
after_within (register_gone process thread index) known fine within = other_rows known _ refl refl refl within
after_within (thread_registers_gone process thread) known fine within = other_rows known _ refl refl refl within
after_within registers_gone known fine within = other_rows known _ refl refl refl within
after_within (bytes_read process addr bytes) known fine within = other_rows known _ refl refl refl within
after_within (bytes_gone process) known fine within = other_rows known _ refl refl refl within
after_within (range_gone process addr size) known fine within = other_rows known _ refl refl refl within
after_within (properties_told id properties) known fine within = record {
  contexts = within.contexts;
  properties = λ other x is. told_fine IsBp id other properties x (known.properties other) fine (within.properties other x) is;
  statuses = within.statuses;
}
after_within (properties_gone id) known fine within = record {
  contexts = within.contexts;
  properties = λ other x is. gone_fine IsBp id other x (known.properties other) (within.properties other x) is;
  statuses = within.statuses;
}
after_within (status_told id status) known fine within = record {
  contexts = within.contexts;
  properties = within.properties;
  statuses = λ other x is. told_fine IsStatus id other status x (known.statuses other) fine (within.statuses other x) is;
}
after_within (status_gone id) known fine within = record {
  contexts = within.contexts;
  properties = within.properties;
  statuses = λ other x is. gone_fine IsStatus id other x (known.statuses other) (within.statuses other x) is;
}
after_within statuses_gone known fine within = record { contexts = within.contexts; properties = within.properties; statuses = λ id x is. cc }

all_within : (changes : List Change) (known : Facts) → AreFine changes → AreWithin known → AreWithin (after_all changes known)
all_within [] known fine within = within
all_within (change ∷ changes) known fine within = all_within changes (after change known) fine.1 (after_within change known fine.0 within)

-- ---- the changes of a message

both_fine : (first rest : List Change) → AreFine first → AreFine rest → AreFine (first ++ rest)
both_fine [] rest one two = two
both_fine (change ∷ first) rest one two = (one.0, both_fine first rest one.1 two)

each_fine : {A : Type 0} (changes : A → List Change) (items : List A) → ((item : A) → AreFine (changes item)) → AreFine (of_each changes items)
each_fine changes [] fine = tt
each_fine changes (item ∷ items) fine = both_fine (changes item) (of_each changes items) (fine item) (each_fine changes items fine)

stale_fine : (context : Option ContextId) → AreFine (stale_for context)
stale_fine None = tt
stale_fine (Some (Process process)) = (tt, tt)
stale_fine (Some (Thread process thread)) = (tt, (tt, (tt, tt)))

unlisted_fine : (context : Option ContextId) → AreFine (unlisted_for context)
unlisted_fine None = tt
unlisted_fine (Some context) = (tt, tt)

removed_fine : (id : List ℕ) → AreFine (removed_context id)
removed_fine id = (tt, both_fine (stale_for (context_of id)) (unlisted_for (context_of id)) (stale_fine (context_of id)) (unlisted_fine (context_of id)))

unsettled_fine : (context : Option ContextId) → AreFine (unsettled_for context)
unsettled_fine None = tt
unsettled_fine (Some context) = (tt, (tt, tt))

begun_fine : (context : Option ContextId) → AreFine (begun_for context)
begun_fine None = tt
begun_fine (Some (Process process)) = (tt, tt)
begun_fine (Some (Thread process thread)) = tt

joined_fine : (id : List ℕ) (context : Option ContextId) → AreFine (joined_for id context)
joined_fine id None = tt
joined_fine id (Some (Process process)) = tt
joined_fine id (Some (Thread process thread)) = (tt, tt)

state_fine : (state : RunState) (process thread : ℕ) → AreFine (state_changes state process thread)
state_fine run.Running process thread = (tt, tt)
state_fine (run.Suspended pc reason hits) process thread = (tt, (tt, tt))

moved_fine : (context : Option ContextId) (state : RunState) → AreFine (moved_for context state)
moved_fine None state = tt
moved_fine (Some (Process process)) state = (tt, tt)
moved_fine (Some (Thread process thread)) state = (tt, (tt, state_fine state process thread))

either_fine : (flag : Bool) (one other : List Change) → AreFine one → AreFine other → AreFine (cond flag one other)
either_fine true one other fine else_fine = fine
either_fine false one other fine else_fine = else_fine

range_fine : (process : ℕ) (range : Range) → AreFine (changed_range process range)
range_fine process range = either_fine (is_outside range.addr range.size) _ _ (tt, tt) (either_fine (unsigned_abs range.size == 0) _ _ tt (tt, tt))

memory_fine : (context : Option ContextId) (list : List Range) → AreFine (memory_changes context list)
memory_fine None list = tt
memory_fine (Some context) list = each_fine (changed_range (process_for context)) list (range_fine (process_for context))

register_fine : (register : Option RegisterId) → AreFine (changed_register register)
register_fine None = tt
register_fine (Some register) = (tt, tt)

contexts_fine : (changes : ContextData → List Change) (list : List ContextData) → ((context : ContextData) → IsContext context → AreFine (changes context))
    → AllByRecursion IsContext list → AreFine (of_each changes list)
contexts_fine changes [] each fine = tt
contexts_fine changes (context ∷ list) each fine = both_fine (changes context) (of_each changes list) (each context fine.0) (contexts_fine changes list each fine.1)

props_fine : (list : List BpProps) → AllByRecursion (λ props. is_bp props ≡ true) list → AreFine (of_each told_properties list)
props_fine [] fine = tt
props_fine (props ∷ list) fine = (fine.0, (tt, props_fine list fine.1))

event_fine : (event : EventData) → IsEvent event → AreFine (event_changes event)
event_fine (EventData.Hello list) fine = (tt, tt)
event_fine (EventData.CtxAdded list) fine =
    both_fine (of_each added_context list) _ (contexts_fine added_context list (λ context is. (is, tt)) fine)
    (both_fine (of_each unsettled list) _ (each_fine unsettled list (λ context. unsettled_fine (context_of context.id)))
    (both_fine (of_each begun list) _ (each_fine begun list (λ context. begun_fine (context_of context.id)))
    (both_fine (of_each joined list) (statuses_gone ∷ []) (each_fine joined list (λ context. joined_fine context.id (context_of context.id))) (tt, tt))))
event_fine (EventData.CtxChanged list) fine = both_fine _ _ (contexts_fine changed_context list (λ context is. (is, stale_fine (context_of context.id))) fine) (tt, tt)
event_fine (EventData.CtxRemoved list) fine = both_fine _ _ (each_fine removed_context list removed_fine) (tt, tt)
event_fine (EventData.Suspended id pc reason hits) fine =
    both_fine _ _ (each_fine hit_breakpoint hits (λ hit. (tt, tt))) (moved_fine (context_of id) (run.Suspended pc reason hits))
event_fine (EventData.Resumed id) fine = moved_fine (context_of id) run.Running
event_fine (EventData.BpStatusIs id status) fine = (fine, tt)
event_fine (EventData.BpAdded list) fine = props_fine list fine
event_fine (EventData.BpChanged list) fine = props_fine list fine
event_fine (EventData.BpRemoved list) fine = each_fine removed_properties list (λ id. (tt, (tt, tt)))
event_fine (EventData.MemChanged id list) fine = memory_fine (context_of id) list
event_fine (EventData.RegChanged id) fine = register_fine (register_of id)
event_fine EventData.RegsChanged fine = (tt, tt)
event_fine (EventData.Exited id code) fine = tt

word_fine : (bytes : List ℕ) (register : Option RegisterId) → AreFine (word_read bytes register)
word_fine bytes None = tt
word_fine bytes (Some register) = (tt, tt)

whole_fine : (id bytes : List ℕ) → AreFine (whole_read id bytes)
whole_fine id bytes = either_fine (length bytes == 4) _ _ (word_fine bytes (register_of id)) tt

parts_fine : (list : List Location) (bytes : List ℕ) → AreFine (parts_read list bytes)
parts_fine [] bytes = tt
parts_fine (location ∷ list) bytes =
    either_fine (is_part location) _ _
    (both_fine _ _ (whole_fine location.register (take (unsigned_abs location.size) bytes)) (parts_fine list (drop (unsigned_abs location.size) bytes)))
    tt

read_fine : (context : Option ContextId) (addr size : ℤ) (bytes : List ℕ) → AreFine (memory_read context addr size bytes)
read_fine None addr size bytes = tt
read_fine (Some context) addr size bytes = either_fine (are_of_range addr size bytes) _ _ (tt, tt) tt

thread_fine : (context : Option ContextId) (state : RunState) → AreFine (state_of_thread context state)
thread_fine None state = tt
thread_fine (Some (Process process)) state = tt
thread_fine (Some (Thread process thread)) state = state_fine state process thread

listed_fine : (context : Option ContextId) (ids : List (List ℕ)) → AreFine (threads_listed context ids)
listed_fine None ids = tt
listed_fine (Some (Process process)) ids = either_fine (list_all (is_thread_of process) ids) _ _ (tt, tt) tt
listed_fine (Some (Thread process thread)) ids = tt

answer_fine : (asked : Command) (answer : Answer) → IsAnswerTo asked answer → AreFine (answer_changes asked answer)
answer_fine (command.GetContext id) (Answer.Context context) fine = (fine.1, tt)
answer_fine (command.GetChildren id) (Answer.Ids ids) fine = listed_fine (context_of id) ids
answer_fine (command.GetState id) (Answer.State state) fine = thread_fine (context_of id) state
answer_fine (command.BpProperties id) (Answer.Bp properties) fine = (fine.1, tt)
answer_fine (command.BpGetStatus id) (Answer.Status status) fine = (fine.1, tt)
answer_fine (command.MemGet id addr word size mode) (Answer.Blob bytes) fine = read_fine (context_of id) addr size bytes
answer_fine (command.RegGet id) (Answer.Blob bytes) fine = whole_fine id bytes
answer_fine (command.RegGetm list) (Answer.Blob bytes) fine = parts_fine list bytes
answer_fine _ _ fine = tt

-- ---- a message

abbrev IsFineMessage : Message → Type 0
IsFineMessage (event_taken event) = IsEvent event
IsFineMessage bad_event_taken = Unit {0}
IsFineMessage (answer_taken asked answer) = IsAnswerTo asked answer
IsFineMessage other_taken = Unit {0}

message_fine : (message : Message) → IsFineMessage message → AreFine (changes_of message)
message_fine (event_taken event) fine = event_fine event fine
message_fine bad_event_taken fine = (tt, tt)
message_fine (answer_taken asked answer) fine = answer_fine asked answer fine
message_fine other_taken fine = tt

-- what is known stays within the limits
pub within_still : (message : Message) (before now : KnowledgeValue) → IsFineMessage message
    → AreSame (facts_of now) (learn message (facts_of before)) → AreWithin (facts_of before) → AreWithin (facts_of now)
within_still message before now fine same within =
    let all : AreWithin (learn message (facts_of before)) = all_within (changes_of message) (facts_of before) (message_fine message fine) within in
    record {
      contexts = λ id x is. all.contexts id x (sym (same.contexts id) ∙ is);
      properties = λ id x is. all.properties id x (sym (same.properties id) ∙ is);
      statuses = λ id x is. all.statuses id x (sym (same.statuses id) ∙ is);
    }

pub within_nothing : (now : KnowledgeValue) → now ≡ empty → AreWithin (facts_of now)
within_nothing now is = subst (λ (value : KnowledgeValue). AreWithin (facts_of value)) (sym is) (other_rows nothing (facts_of empty) refl refl refl knows_none)

pub answer_within : {T E : Type 0} (result : Result T E) (asked : Command) (answer : Answer) (before now : KnowledgeValue) → IsAnswerTo asked answer
    → OnOk result (AreSame (facts_of now) (learn (answer_taken asked answer) (facts_of before))) → OnErr result (now ≡ empty) → AreWithin (facts_of before) → AreWithin (facts_of now)
answer_within (Ok value) asked answer before now fine same gone within = within_still (answer_taken asked answer) before now fine same within
answer_within (Err error) asked answer before now fine same gone within = within_nothing now gone

-- what is read is within the limits
pub answer_within_as : (asked : Command) (answer : Answer) {found : ReadAnswer} → found ≡ read.Known answer → IfKnownAnswer found (IsAnswerTo asked) → IsAnswerTo asked answer
answer_within_as asked answer {found} is fine = subst (λ f. IfKnownAnswer f (IsAnswerTo asked)) is fine

pub event_within_as : (event : EventData) {found : ReadEvent} → found ≡ event_read.Known event → IfKnownEvent found IsEvent → IsEvent event
event_within_as event {found} is fine = subst (λ f. IfKnownEvent f IsEvent) is fine
