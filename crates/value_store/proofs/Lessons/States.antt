-- Registers are known of no thread but those of which it is known whether they run.
use Rattle.std.proofs.Common.{◌≡◌, ℕ, ◌==◌, nat_eq, ◌&&◌, Bool, true, false, true≢false, cond, List, [], ◌∷◌, ◌++◌, Option, Some, None, is_some, refl, sym, ap, ◌∙◌, subst}
use Rattle.std.specs.List.{AllByRecursion, list_all}
use Rattle.std.specs.Prelude.{ℤ, unsigned_abs, length, take, drop}
use Rattle.std.proofs.lemmas.Bool.{and_parts, eqb-true}
use Rattle.knowledge.specs.Changes.{Change, all_gone, context_told, context_gone, threads_told, thread_joined, threads_gone, threads_stale, state_told, state_gone, register_read, register_gone, thread_registers_gone, registers_gone, bytes_read, bytes_gone, range_gone, properties_told, properties_gone, status_told, status_gone, statuses_gone, after, after_all, at_register, of_each}
use Rattle.knowledge.specs.Facts.{Facts, is_suspended, nothing, register_is, state_is}
use Rattle.knowledge.specs.Learning.{Message, event_taken, bad_event_taken, answer_taken, other_taken, learn, learn_all}
use Rattle.knowledge.specs.Rows.{added_context, answer_changes, are_of_range, begun, begun_for, changed_context, changed_range, changed_register, event_changes, hit_breakpoint, is_outside, is_part, is_thread_of, joined, joined_for, memory_changes, memory_read, moved_for, parts_read, process_for, removed_context, removed_properties, stale_for, state_changes, state_of_thread, threads_listed, told_properties, unlisted_for, unsettled, unsettled_for, whole_read, word_read}
use Rattle.knowledge.specs.declared.state.StateFact.{StateFact}
use Rattle.value_store.specs.Laws.{HaveStates, LearnedHaveStates, PartsAreGrounded, StatesStay}
use Rattle.tcf_values.specs.Ids.{context_of, register_of}
use Rattle.tcf_values.specs.declared.answer.Answer.{Answer}
use Rattle.tcf_values.specs.declared.command.Command.{Command}
use Rattle.tcf_values.specs.declared.command.Command.TheVariants as command
use Rattle.tcf_values.specs.declared.event.EventData.{EventData}
use Rattle.tcf_values.specs.declared.ids.ContextId.{ContextId}
use Rattle.tcf_values.specs.declared.ids.ContextId.TheVariants.{Process, Thread}
use Rattle.tcf_values.specs.declared.ids.RegisterId.{RegisterId}
use Rattle.tcf_values.specs.declared.values.Location.{Location}
use Rattle.tcf_values.specs.declared.values.Range.{Range}
use Rattle.tcf_values.specs.declared.values.RunState.{RunState}
use Rattle.tcf_values.specs.declared.values.RunState.TheVariants as run
use Rattle.list_laws.proofs.AllLists.{all_append, all_if}

-- ---- one change

-- a state that is gone alone leaves its thread's registers
abbrev Keeps : Change → Type 0
Keeps (state_gone process thread) = ⊥
Keeps _ = Unit {0}

no_register : (value : ℕ) → ◌≡◌ {A = Option ℕ} None (Some value) → ⊥
no_register value is = cc

told_state : (b : Bool) (state : StateFact) (before : Option StateFact) → is_some before ≡ true → is_some (cond b (Some state) before) ≡ true
told_state true state before has = refl
told_state false state before has = has

stopped_some : (state : Option StateFact) → is_suspended state ≡ true → is_some state ≡ true
stopped_some None is = is
stopped_some (Some state) is = refl

read_of : (process thread index value : ℕ) (known : Facts) → is_suspended (known.states process thread) ≡ true → HaveStates known → (p t i x : ℕ) (b : Bool)
    → (nat_eq process p && nat_eq thread t && nat_eq index i) ≡ b → cond b (Some value) (known.registers p t i) ≡ Some x → is_some (known.states p t) ≡ true
read_of process thread index value known still has p t i x true same is =
    let parts = and_parts _ _ (and_parts _ _ same).0 in
    let one : process ≡ p = eqb-true _ _ parts.0 in
    let two : thread ≡ t = eqb-true _ _ parts.1 in
    stopped_some (known.states p t) (sym (ap (λ n. is_suspended (known.states n thread)) one ∙ ap (λ n. is_suspended (known.states p n)) two) ∙ still)
read_of process thread index value known still has p t i x false same is = has p t i x is

read_keeps : (c : Bool) (process thread index value : ℕ) (known : Facts) → is_suspended (known.states process thread) ≡ c → HaveStates known → (p t i x : ℕ)
    → cond c (at_register process thread index (Some value) known.registers) known.registers p t i ≡ Some x → is_some (known.states p t) ≡ true
read_keeps true process thread index value known still has p t i x is =
    read_of process thread index value known still has p t i x (nat_eq process p && nat_eq thread t && nat_eq index i) refl is
read_keeps false process thread index value known still has p t i x is = has p t i x is

gone_keeps : (b : Bool) (before : Option ℕ) (x : ℕ) (there : Bool) → (before ≡ Some x → there ≡ true) → cond b None before ≡ Some x → there ≡ true
gone_keeps true before x there has is = absurd (no_register x is)
gone_keeps false before x there has is = has is

row_gone : (b : Bool) (before : ℕ → Option ℕ) (i x : ℕ) (there : Bool) → (before i ≡ Some x → there ≡ true) → cond b (λ index. None) before i ≡ Some x → there ≡ true
row_gone true before i x there has is = absurd (no_register x is)
row_gone false before i x there has is = has is

-- a thread's registers are gone with its state
stale_keeps : (b : Bool) (states : Option StateFact) (before : Option ℕ) (x : ℕ) → (before ≡ Some x → is_some states ≡ true)
    → cond b None before ≡ Some x → is_some (cond b None states) ≡ true
stale_keeps true states before x has is = absurd (no_register x is)
stale_keeps false states before x has is = has is

keep_one : (change : Change) (known : Facts) → Keeps change → HaveStates known → HaveStates (after change known)
keep_one all_gone known keeps has = λ p t i x is. absurd (no_register x is)
keep_one (context_told id context) known keeps has = has
keep_one (context_gone id) known keeps has = has
keep_one (threads_told process ids) known keeps has = has
keep_one (thread_joined process id) known keeps has = has
keep_one (threads_gone process) known keeps has = has
keep_one (threads_stale process) known keeps has = λ p t i x is. stale_keeps (nat_eq process p) (known.states p t) (known.registers p t i) x (has p t i x) is
keep_one (state_told process thread state) known keeps has =
    λ p t i x is. told_state (nat_eq process p && nat_eq thread t) state (known.states p t) (has p t i x is)
keep_one (state_gone process thread) known keeps has = absurd keeps
keep_one (register_read process thread index value) known keeps has =
    read_keeps (is_suspended (known.states process thread)) process thread index value known refl has
keep_one (register_gone process thread index) known keeps has =
    λ p t i x is. gone_keeps (nat_eq process p && nat_eq thread t && nat_eq index i) (known.registers p t i) x (is_some (known.states p t)) (has p t i x) is
keep_one (thread_registers_gone process thread) known keeps has =
    λ p t i x is. row_gone (nat_eq process p && nat_eq thread t) (known.registers p t) i x (is_some (known.states p t)) (has p t i x) is
keep_one registers_gone known keeps has = λ p t i x is. absurd (no_register x is)
keep_one (bytes_read process addr bytes) known keeps has = has
keep_one (bytes_gone process) known keeps has = has
keep_one (range_gone process addr size) known keeps has = has
keep_one (properties_told id properties) known keeps has = has
keep_one (properties_gone id) known keeps has = has
keep_one (status_told id status) known keeps has = has
keep_one (status_gone id) known keeps has = has
keep_one statuses_gone known keeps has = has

-- ---- changes one after another

abbrev AllKeep : List Change → Type 0
AllKeep changes = (known : Facts) → HaveStates known → HaveStates (after_all changes known)

keep_all : (changes : List Change) → AllByRecursion Keeps changes → AllKeep changes
keep_all [] keeps known has = has
keep_all (change ∷ changes) keeps known has = keep_all changes keeps.1 (after change known) (keep_one change known keeps.0 has)

keep_both : (some more : List Change) → AllKeep some → AllKeep more → AllKeep (some ++ more)
keep_both [] more one two known has = two known has
keep_both (change ∷ some) more one two known has =
    subst HaveStates (sym (after_both (change ∷ some) more known)) (two (after_all (change ∷ some) known) (one known has))
  where
    after_both : (xs ys : List Change) (k : Facts) → after_all (xs ++ ys) k ≡ after_all ys (after_all xs k)
    after_both [] ys k = refl
    after_both (x ∷ xs) ys k = after_both xs ys (after x k)

keep_each : {A : Type 0} (changes : A → List Change) → ((item : A) → AllKeep (changes item)) → (items : List A) → AllKeep (of_each changes items)
keep_each changes each [] known has = has
keep_each changes each (item ∷ items) known has = keep_both (changes item) (of_each changes items) (each item) (keep_each changes each items) known has

-- ---- each event

-- a thread's registers are gone with its state
both_gone : (b : Bool) (states : Option StateFact) (before : ℕ → Option ℕ) (i x : ℕ) → (before i ≡ Some x → is_some states ≡ true)
    → cond b (λ index. None) before i ≡ Some x → is_some (cond b None states) ≡ true
both_gone true states before i x has is = absurd (no_register x is)
both_gone false states before i x has is = has is

stale_keep : (context : Option ContextId) → AllKeep (stale_for context)
stale_keep None known has = has
stale_keep (Some (Process process)) known has = has
stale_keep (Some (Thread process thread)) known has =
    λ p t i x is. both_gone (nat_eq process p && nat_eq thread t) (known.states p t) (known.registers p t) i x (has p t i x) is

state_keep : (state : RunState) (process thread : ℕ) → AllByRecursion Keeps (state_changes state process thread)
state_keep run.Running process thread = (tt, tt)
state_keep (run.Suspended pc reason hits) process thread = (tt, (tt, tt))

moved_keep : (context : Option ContextId) (state : RunState) → AllByRecursion Keeps (moved_for context state)
moved_keep None state = tt
moved_keep (Some (Process process)) state = (tt, tt)
moved_keep (Some (Thread process thread)) state = (tt, (tt, state_keep state process thread))

each_keeps : {A : Type 0} (changes : A → List Change) → ((item : A) → AllByRecursion Keeps (changes item)) → (items : List A) → AllByRecursion Keeps (of_each changes items)
each_keeps changes each [] = tt
each_keeps changes each (item ∷ items) = all_append Keeps (changes item) (of_each changes items) (each item) (each_keeps changes each items)

either_keeps : (flag : Bool) (one other : List Change) → AllByRecursion Keeps one → AllByRecursion Keeps other → AllByRecursion Keeps (cond flag one other)
either_keeps true one other keeps else_keeps = keeps
either_keeps false one other keeps else_keeps = else_keeps

range_keeps : (process : ℕ) (range : Range) → AllByRecursion Keeps (changed_range process range)
range_keeps process range = either_keeps (is_outside range.addr range.size) _ _ (tt, tt) (either_keeps (unsigned_abs range.size == 0) _ _ tt (tt, tt))

memory_keeps : (context : Option ContextId) (list : List Range) → AllByRecursion Keeps (memory_changes context list)
memory_keeps None list = tt
memory_keeps (Some context) list = each_keeps (changed_range (process_for context)) (range_keeps (process_for context)) list

register_keeps : (register : Option RegisterId) → AllByRecursion Keeps (changed_register register)
register_keeps None = tt
register_keeps (Some register) = (tt, tt)

unlisted_keep : (context : Option ContextId) → AllKeep (unlisted_for context)
unlisted_keep None known has = has
unlisted_keep (Some context) known has = has

removed_keep : (id : List ℕ) → AllKeep (removed_context id)
removed_keep id known has =
    keep_both (stale_for (context_of id)) (unlisted_for (context_of id)) (stale_keep (context_of id)) (unlisted_keep (context_of id)) (after (context_gone id) known) has

unsettled_keep : (context : Option ContextId) → AllByRecursion Keeps (unsettled_for context)
unsettled_keep None = tt
unsettled_keep (Some context) = (tt, (tt, tt))

begun_keep : (context : Option ContextId) → AllByRecursion Keeps (begun_for context)
begun_keep None = tt
begun_keep (Some (Process process)) = (tt, tt)
begun_keep (Some (Thread process thread)) = tt

joined_keep : (id : List ℕ) (context : Option ContextId) → AllByRecursion Keeps (joined_for id context)
joined_keep id None = tt
joined_keep id (Some (Process process)) = tt
joined_keep id (Some (Thread process thread)) = (tt, tt)

event_keep : (event : EventData) → AllKeep (event_changes event)
event_keep (EventData.Hello list) = keep_all (all_gone ∷ []) (tt, tt)
event_keep (EventData.CtxAdded list) =
    keep_all (event_changes (EventData.CtxAdded list))
    (all_append Keeps (of_each added_context list) _ (each_keeps added_context (λ context. (tt, tt)) list)
    (all_append Keeps (of_each unsettled list) _ (each_keeps unsettled (λ context. unsettled_keep (context_of context.id)) list)
    (all_append Keeps (of_each begun list) _ (each_keeps begun (λ context. begun_keep (context_of context.id)) list)
    (all_append Keeps (of_each joined list) (statuses_gone ∷ []) (each_keeps joined (λ context. joined_keep context.id (context_of context.id)) list) (tt, tt)))))
event_keep (EventData.CtxChanged list) =
    keep_both (of_each changed_context list) (statuses_gone ∷ [])
    (keep_each changed_context (λ context known has. stale_keep (context_of context.id) (after (context_told context.id context) known) has) list) (keep_all (statuses_gone ∷ []) (tt, tt))
event_keep (EventData.CtxRemoved list) =
    keep_both (of_each removed_context list) (statuses_gone ∷ [])
    (keep_each removed_context removed_keep list) (keep_all (statuses_gone ∷ []) (tt, tt))
event_keep (EventData.Suspended id pc reason hits) =
    keep_both (of_each hit_breakpoint hits) (moved_for (context_of id) (run.Suspended pc reason hits))
    (keep_all (of_each hit_breakpoint hits) (each_keeps hit_breakpoint (λ hit. (tt, tt)) hits))
    (keep_all (moved_for (context_of id) (run.Suspended pc reason hits)) (moved_keep (context_of id) (run.Suspended pc reason hits)))
event_keep (EventData.Resumed id) = keep_all (moved_for (context_of id) run.Running) (moved_keep (context_of id) run.Running)
event_keep (EventData.BpStatusIs id status) = keep_all (status_told id status ∷ []) (tt, tt)
event_keep (EventData.BpAdded list) = keep_all (of_each told_properties list) (each_keeps told_properties (λ properties. (tt, (tt, tt))) list)
event_keep (EventData.BpChanged list) = keep_all (of_each told_properties list) (each_keeps told_properties (λ properties. (tt, (tt, tt))) list)
event_keep (EventData.BpRemoved list) = keep_all (of_each removed_properties list) (each_keeps removed_properties (λ id. (tt, (tt, tt))) list)
event_keep (EventData.MemChanged id list) = keep_all (memory_changes (context_of id) list) (memory_keeps (context_of id) list)
event_keep (EventData.RegChanged id) = keep_all (changed_register (register_of id)) (register_keeps (register_of id))
event_keep EventData.RegsChanged = keep_all (registers_gone ∷ []) (tt, tt)
event_keep (EventData.Exited id code) = λ known has. has

-- ---- each answer

word_keeps : (bytes : List ℕ) (register : Option RegisterId) → AllByRecursion Keeps (word_read bytes register)
word_keeps bytes None = tt
word_keeps bytes (Some register) = (tt, tt)

whole_keeps : (id bytes : List ℕ) → AllByRecursion Keeps (whole_read id bytes)
whole_keeps id bytes = all_if Keeps (length bytes == 4) (word_read bytes (register_of id)) (λ is. word_keeps bytes (register_of id))

parts_keep : (list : List Location) (bytes : List ℕ) → AllByRecursion Keeps (parts_read list bytes)
parts_keep [] bytes = tt
parts_keep (location ∷ list) bytes =
    let size : ℕ = unsigned_abs location.size in
    all_if Keeps (is_part location) (whole_read location.register (take size bytes) ++ parts_read list (drop size bytes))
    (λ is. all_append Keeps (whole_read location.register (take size bytes)) (parts_read list (drop size bytes)) (whole_keeps location.register (take size bytes)) (parts_keep list (drop size bytes)))

memory_read_keeps : (context : Option ContextId) (addr size : ℤ) (bytes : List ℕ) → AllByRecursion Keeps (memory_read context addr size bytes)
memory_read_keeps None addr size bytes = tt
memory_read_keeps (Some context) addr size bytes =
    all_if Keeps (are_of_range addr size bytes) (bytes_read (process_for context) (unsigned_abs addr) bytes ∷ []) (λ is. (tt, tt))

thread_keeps : (context : Option ContextId) (state : RunState) → AllByRecursion Keeps (state_of_thread context state)
thread_keeps None state = tt
thread_keeps (Some (Process process)) state = tt
thread_keeps (Some (Thread process thread)) state = state_keep state process thread

listed_keeps : (context : Option ContextId) (ids : List (List ℕ)) → AllByRecursion Keeps (threads_listed context ids)
listed_keeps None ids = tt
listed_keeps (Some (Process process)) ids = all_if Keeps (list_all (is_thread_of process) ids) (threads_told process ids ∷ []) (λ is. (tt, tt))
listed_keeps (Some (Thread process thread)) ids = tt

answer_keeps : (asked : Command) (answer : Answer) → AllByRecursion Keeps (answer_changes asked answer)
answer_keeps (command.GetContext id) (Answer.Context context) = (tt, tt)
answer_keeps (command.GetChildren id) (Answer.Ids ids) = listed_keeps (context_of id) ids
answer_keeps (command.GetState id) (Answer.State state) = thread_keeps (context_of id) state
answer_keeps (command.BpProperties id) (Answer.Bp properties) = (tt, tt)
answer_keeps (command.BpGetStatus id) (Answer.Status status) = (tt, tt)
answer_keeps (command.MemGet id addr word size mode) (Answer.Blob bytes) = memory_read_keeps (context_of id) addr size bytes
answer_keeps (command.RegGet id) (Answer.Blob bytes) = whole_keeps id bytes
answer_keeps (command.RegGetm list) (Answer.Blob bytes) = parts_keep list bytes
answer_keeps _ _ = tt

-- ---- the laws

pub states_stay : StatesStay
states_stay (event_taken event) known has = event_keep event known has
states_stay bad_event_taken known has = keep_all (all_gone ∷ []) (tt, tt) known has
states_stay (answer_taken asked answer) known has = keep_all (answer_changes asked answer) (answer_keeps asked answer) known has
states_stay other_taken known has = has

all_stay : (messages : List Message) (known : Facts) → HaveStates known → HaveStates (learn_all messages known)
all_stay [] known has = has
all_stay (message ∷ messages) known has = all_stay messages (learn message known) (states_stay message known has)

pub learned_have_states : LearnedHaveStates
learned_have_states messages = all_stay messages nothing (λ p t i x is. absurd (no_register x is))

stopped_by : (some more : Option StateFact) → ((state : StateFact) → some ≡ Some state → more ≡ Some state) → is_some some ≡ true → is_suspended more ≡ true
    → is_suspended some ≡ true
stopped_by None more part has still = absurd (true≢false (sym has))
stopped_by (Some state) more part has still = sym (ap is_suspended (part state refl)) ∙ still

pub parts_are_grounded : PartsAreGrounded
parts_are_grounded some more has part grounded process thread index value is =
    stopped_by (some.states process thread) (more.states process thread) (λ state. part (state_is process thread state)) (has process thread index value is)
    (grounded process thread index value (part (register_is process thread index value) is))
