-- Who knows a part of what another knows still does when both take a message.
use Rattle.std.proofs.Common.{◌≡◌, ℕ, Bool, true, false, cond, ◌&&◌, List, [], ◌∷◌, ◌++◌, Option, Some, None, option_map, nat_eq, nat_lt, length, take, drop, refl, sym, ap, ◌∙◌, subst}
use Rattle.std.specs.Prelude.{ℤ, bytes_eq, option_and_then, unsigned_abs}
use Rattle.std.specs.Int.{w32, from_le_bytes}
use Rattle.std.specs.List.{AllByRecursion, list_all}
use Rattle.std.proofs.lemmas.Bool.{and_from, and_parts, both_ways, cond-true, eq-eqb, eqb-true}
use Rattle.tcf_values.specs.Ids.{context_of, register_of}
use Rattle.tcf_values.specs.declared.answer.Answer.{Answer}
use Rattle.tcf_values.specs.declared.command.Command.{Command}
use Rattle.tcf_values.specs.declared.command.Command.TheVariants.{GetContext, GetChildren, GetState, BpProperties, BpGetStatus, MemGet, RegGet, RegGetm}
use Rattle.tcf_values.specs.declared.ids.ContextId.{ContextId}
use Rattle.tcf_values.specs.declared.ids.ContextId.TheVariants.{Process, Thread}
use Rattle.tcf_values.specs.declared.ids.RegisterId.{RegisterId}
use Rattle.tcf_values.specs.declared.event.EventData.{EventData}
use Rattle.tcf_values.specs.declared.event.EventData.TheVariants.{Hello, CtxAdded, CtxChanged, CtxRemoved, Suspended, Resumed, BpStatusIs, BpAdded, BpChanged, BpRemoved, MemChanged, RegChanged, RegsChanged, Exited}
use Rattle.tcf_values.specs.declared.values.BpProps.{BpProps}
use Rattle.tcf_values.specs.declared.values.BpStatus.{BpStatus}
use Rattle.tcf_values.specs.declared.values.ContextData.{ContextData}
use Rattle.tcf_values.specs.declared.values.Location.{Location}
use Rattle.tcf_values.specs.declared.values.Range.{Range}
use Rattle.tcf_values.specs.declared.values.RunState.{RunState}
use Rattle.tcf_values.specs.declared.values.RunState.TheVariants as run
use Rattle.knowledge.specs.Changes.{Change, all_gone, context_told, context_gone, threads_told, thread_joined, threads_gone, threads_stale, state_told, state_gone, register_read, register_gone, thread_registers_gone, registers_gone, bytes_read, bytes_gone, range_gone, properties_told, properties_gone, status_told, status_gone, statuses_gone, after, after_all, are_still, at_register, has_byte, is_still, of_each, with_id}
use Rattle.knowledge.specs.Facts.{context_is, threads_are, state_is, register_is, byte_is, properties_are, status_is, Facts, IsGrounded, IsPart, is_suspended, state_at, state_of}
use Rattle.knowledge.specs.Laws.{IsMonotone}
use Rattle.knowledge.specs.Learning.{Message, event_taken, bad_event_taken, answer_taken, other_taken, changes_of}
use Rattle.knowledge.specs.Rows.{added_context, added_contexts, answer_changes, are_of_range, begun, begun_for, changed_context, changed_range, changed_register, children_answered, context_answered, event_changes, hit_breakpoint, is_outside, is_part, is_thread_of, joined, joined_for, memory_answered, memory_changes, memory_read, moved_for, parts_read, process_for, properties_answered, register_answered, registers_answered, removed_context, removed_properties, stale_for, state_answered, state_changes, state_of_thread, status_answered, threads_listed, told_properties, unlisted_for, unsettled, unsettled_for, whole_read, word_read}
use Rattle.knowledge.specs.declared.state.StateFact.{StateFact}
use Rattle.knowledge.proofs.Same.{after_all-append}
use Rattle.list_laws.proofs.Flags.{or_then}

-- a part, kind by kind
pub record IsWithin (some more : Facts) : Type 0 where
  pub contexts : (id : List ℕ) (x : ContextData) → some.contexts id ≡ Some x → more.contexts id ≡ Some x
  pub threads : (p : ℕ) (x : List (List ℕ)) → some.threads p ≡ Some x → more.threads p ≡ Some x
  pub states : (p t : ℕ) (x : StateFact) → some.states p t ≡ Some x → more.states p t ≡ Some x
  pub registers : (p t i x : ℕ) → some.registers p t i ≡ Some x → more.registers p t i ≡ Some x
  pub bytes : (p place byte : ℕ) → some.bytes p place byte ≡ true → more.bytes p place byte ≡ true
  pub properties : (id : List ℕ) (x : BpProps) → some.properties id ≡ Some x → more.properties id ≡ Some x
  pub statuses : (id : List ℕ) (x : BpStatus) → some.statuses id ≡ Some x → more.statuses id ≡ Some x

pub within_from : (some more : Facts) → IsPart some more → IsWithin some more
within_from some more part = record {
  contexts = λ id x. part (context_is id x);
  threads = λ p x. part (threads_are p x);
  states = λ p t x. part (state_is p t x);
  registers = λ p t i x. part (register_is p t i x);
  bytes = λ p place byte. part (byte_is p place byte);
  properties = λ id x. part (properties_are id x);
  statuses = λ id x. part (status_is id x);
}

part_from : (some more : Facts) → IsWithin some more → IsPart some more
part_from some more within (context_is id x) = within.contexts id x
part_from some more within (threads_are p x) = within.threads p x
part_from some more within (state_is p t x) = within.states p t x
part_from some more within (register_is p t i x) = within.registers p t i x
part_from some more within (byte_is p place byte) = within.bytes p place byte
part_from some more within (properties_are id x) = within.properties id x
part_from some more within (status_is id x) = within.statuses id x

-- ---- one place written

choice : {A : Type 0} (b : Bool) (value f g : Option A) → ((x : A) → f ≡ Some x → g ≡ Some x) → (x : A) → cond b value f ≡ Some x → cond b value g ≡ Some x
choice true value f g part x is = is
choice false value f g part x is = part x is

dropped : (b : Bool) (f g : ℕ → Option ℕ) → ((i x : ℕ) → f i ≡ Some x → g i ≡ Some x) → (i x : ℕ) → cond b (λ j. None) f i ≡ Some x → cond b (λ j. None) g i ≡ Some x
dropped true f g part i x is = is
dropped false f g part i x is = part i x is

-- ---- a change

with_contexts : {some more : Facts} (f g : List ℕ → Option ContextData) → IsWithin some more → ((id : List ℕ) (x : ContextData) → f id ≡ Some x → g id ≡ Some x)
    → IsWithin (record some { contexts = f }) (record more { contexts = g })
with_contexts f g within here = record {
  contexts = here;
  threads = within.threads;
  states = within.states;
  registers = within.registers;
  bytes = within.bytes;
  properties = within.properties;
  statuses = within.statuses;
}

with_threads : {some more : Facts} (f g : ℕ → Option (List (List ℕ))) → IsWithin some more → ((p : ℕ) (x : List (List ℕ)) → f p ≡ Some x → g p ≡ Some x)
    → IsWithin (record some { threads = f }) (record more { threads = g })
with_threads f g within here = record {
  contexts = within.contexts;
  threads = here;
  states = within.states;
  registers = within.registers;
  bytes = within.bytes;
  properties = within.properties;
  statuses = within.statuses;
}

with_states : {some more : Facts} (f g : ℕ → ℕ → Option StateFact) → IsWithin some more → ((p t : ℕ) (x : StateFact) → f p t ≡ Some x → g p t ≡ Some x)
    → IsWithin (record some { states = f }) (record more { states = g })
with_states f g within here = record {
  contexts = within.contexts;
  threads = within.threads;
  states = here;
  registers = within.registers;
  bytes = within.bytes;
  properties = within.properties;
  statuses = within.statuses;
}

with_registers : {some more : Facts} (f g : ℕ → ℕ → ℕ → Option ℕ) → IsWithin some more → ((p t i x : ℕ) → f p t i ≡ Some x → g p t i ≡ Some x)
    → IsWithin (record some { registers = f }) (record more { registers = g })
with_registers f g within here = record {
  contexts = within.contexts;
  threads = within.threads;
  states = within.states;
  registers = here;
  bytes = within.bytes;
  properties = within.properties;
  statuses = within.statuses;
}

with_bytes : {some more : Facts} (f g : ℕ → ℕ → ℕ → Bool) → IsWithin some more → ((p place byte : ℕ) → f p place byte ≡ true → g p place byte ≡ true)
    → IsWithin (record some { bytes = f }) (record more { bytes = g })
with_bytes f g within here = record {
  contexts = within.contexts;
  threads = within.threads;
  states = within.states;
  registers = within.registers;
  bytes = here;
  properties = within.properties;
  statuses = within.statuses;
}

with_properties : {some more : Facts} (f g : List ℕ → Option BpProps) → IsWithin some more → ((id : List ℕ) (x : BpProps) → f id ≡ Some x → g id ≡ Some x)
    → IsWithin (record some { properties = f }) (record more { properties = g })
with_properties f g within here = record {
  contexts = within.contexts;
  threads = within.threads;
  states = within.states;
  registers = within.registers;
  bytes = within.bytes;
  properties = here;
  statuses = within.statuses;
}

with_statuses : {some more : Facts} (f g : List ℕ → Option BpStatus) → IsWithin some more → ((id : List ℕ) (x : BpStatus) → f id ≡ Some x → g id ≡ Some x)
    → IsWithin (record some { statuses = f }) (record more { statuses = g })
with_statuses f g within here = record {
  contexts = within.contexts;
  threads = within.threads;
  states = within.states;
  registers = within.registers;
  bytes = within.bytes;
  properties = within.properties;
  statuses = here;
}

-- ---- what counts where a thread is suspended

-- who knows less knows a thread as suspended only where the other does
still_by : (s r : Option StateFact) → ((x : StateFact) → s ≡ Some x → r ≡ Some x) → is_suspended s ≡ true → is_suspended r ≡ true
still_by None r part is = absurd (both_ways false refl is)
still_by (Some x) r part is = ap is_suspended (part x refl) ∙ is

state_by : (some more : Facts) → IsWithin some more → (context : Option ContextId) (x : StateFact)
    → option_and_then (state_at some) context ≡ Some x → option_and_then (state_at more) context ≡ Some x
state_by some more within None x is = is
state_by some more within (Some (Process process)) x is = is
state_by some more within (Some (Thread process thread)) x is = within.states process thread x is

and_then : (a b c : Bool) → (a ≡ true → c ≡ true) → (a && b) ≡ true → (c && b) ≡ true
and_then true b c one is = ap (λ e. e && b) (one refl) ∙ is
and_then false b c one is = absurd (both_ways false refl is)

both_then : (a b c d : Bool) → (a ≡ true → c ≡ true) → (b ≡ true → d ≡ true) → (a && b) ≡ true → (c && d) ≡ true
both_then a b c d one two is = let parts = and_parts a b is in and_from c d (one parts.0) (two parts.1)

all_by : (some more : Facts) → IsWithin some more → (ids : List (List ℕ))
    → list_all (λ id. is_suspended (state_of id some)) ids ≡ true → list_all (λ id. is_suspended (state_of id more)) ids ≡ true
all_by some more within [] is = is
all_by some more within (id ∷ ids) is =
    both_then (is_suspended (state_of id some)) (list_all (λ x. is_suspended (state_of x some)) ids)
    (is_suspended (state_of id more)) (list_all (λ x. is_suspended (state_of x more)) ids)
    (still_by (state_of id some) (state_of id more) (state_by some more within (context_of id))) (all_by some more within ids) is

are_still_by : (some more : Facts) → IsWithin some more → (f g : Option (List (List ℕ))) → ((x : List (List ℕ)) → f ≡ Some x → g ≡ Some x)
    → are_still some f ≡ true → are_still more g ≡ true
are_still_by some more within None g part is = absurd (both_ways false refl is)
are_still_by some more within (Some ids) g part is =
    ap (are_still more) (part ids refl)
    ∙ both_then (nat_lt 0 (length ids)) (list_all (λ id. is_suspended (state_of id some)) ids) (nat_lt 0 (length ids)) (list_all (λ id. is_suspended (state_of id more)) ids)
    (λ there. there) (all_by some more within ids) is

-- who knows less knows all threads of a process as suspended only where the other does
pub still_then : (process : ℕ) (some more : Facts) → IsWithin some more → is_still process some ≡ true → is_still process more ≡ true
still_then process some more within = are_still_by some more within (some.threads process) (more.threads process) (within.threads process)

-- who knows less has the longer list only where the other has it
joined_by : (id : List ℕ) (f g : Option (List (List ℕ))) → ((x : List (List ℕ)) → f ≡ Some x → g ≡ Some x)
    → (x : List (List ℕ)) → option_map (with_id id) f ≡ Some x → option_map (with_id id) g ≡ Some x
joined_by id None g part x is = cc
joined_by id (Some ids) g part x is = ap (option_map (with_id id)) (part ids refl) ∙ is

both_chosen : {A : Type 0} (b : Bool) (v w f g : Option A) → ((x : A) → v ≡ Some x → w ≡ Some x) → ((x : A) → f ≡ Some x → g ≡ Some x)
    → (x : A) → cond b v f ≡ Some x → cond b w g ≡ Some x
both_chosen true v w f g here part x is = here x is
both_chosen false v w f g here part x is = part x is

-- the register that is read is known before only where its thread is known as suspended
abbrev IsReady : Change → Facts → Type 0
IsReady (register_read process thread index value) known = (x : ℕ) → known.registers process thread index ≡ Some x → is_suspended (known.states process thread) ≡ true
IsReady _ known = Unit {0}

unread_by : (process thread index value : ℕ) (some more : Facts) → ((x : ℕ) → some.registers process thread index ≡ Some x → ⊥) → IsWithin some more
    → (c : Bool) (p t i x : ℕ) (b : Bool) → (nat_eq process p && nat_eq thread t && nat_eq index i) ≡ b
    → some.registers p t i ≡ Some x → cond c (cond b (Some value) (more.registers p t i)) (more.registers p t i) ≡ Some x
unread_by process thread index value some more none within true p t i x true here is =
    let parts = and_parts _ _ here in
    let front = and_parts _ _ parts.0 in
    let one : process ≡ p = eqb-true _ _ front.0 in
    let two : thread ≡ t = eqb-true _ _ front.1 in
    let three : index ≡ i = eqb-true _ _ parts.1 in
    absurd (none x (ap (λ k. some.registers k thread index) one ∙ ap (λ k. some.registers p k index) two ∙ ap (λ k. some.registers p t k) three ∙ is))
unread_by process thread index value some more none within true p t i x false here is = within.registers p t i x is
unread_by process thread index value some more none within false p t i x b here is = within.registers p t i x is

pub cond_at : (c : Bool) (f g : ℕ → ℕ → ℕ → Option ℕ) (p t i : ℕ) → cond c f g p t i ≡ cond c (f p t i) (g p t i)
cond_at true f g p t i = refl
cond_at false f g p t i = refl

read_by : (process thread index value : ℕ) (some more : Facts) (c d : Bool) → is_suspended (some.states process thread) ≡ c → (c ≡ true → d ≡ true)
    → IsReady (register_read process thread index value) some → IsWithin some more → (p t i x : ℕ)
    → cond c (at_register process thread index (Some value) some.registers) some.registers p t i ≡ Some x
    → cond d (at_register process thread index (Some value) more.registers) more.registers p t i ≡ Some x
read_by process thread index value some more true true is then ready within p t i x told =
    choice (nat_eq process p && nat_eq thread t && nat_eq index i) (Some value) (some.registers p t i) (more.registers p t i) (within.registers p t i) x told
read_by process thread index value some more true false is then ready within p t i x told = absurd (both_ways false refl (then refl))
read_by process thread index value some more false d is then ready within p t i x told =
    cond_at d (at_register process thread index (Some value) more.registers) more.registers p t i
    ∙ unread_by process thread index value some more (λ y has. both_ways (is_suspended (some.states process thread)) is (ready y has)) within d p t i x
    (nat_eq process p && nat_eq thread t && nat_eq index i) refl told

pub within_after : (change : Change) (some more : Facts) → IsReady change some → IsWithin some more → IsWithin (after change some) (after change more)
within_after all_gone some more ready within = within_from _ _ (λ fact known. known)
within_after (context_told id context) some more ready within =
    with_contexts _ _ within (λ other. choice (bytes_eq id other) (Some context) (some.contexts other) (more.contexts other) (within.contexts other))
within_after (context_gone id) some more ready within =
    with_contexts _ _ within (λ other. choice (bytes_eq id other) None (some.contexts other) (more.contexts other) (within.contexts other))
within_after (threads_told process ids) some more ready within =
    with_threads _ _ within (λ p. choice (nat_eq process p) (Some ids) (some.threads p) (more.threads p) (within.threads p))
within_after (thread_joined process id) some more ready within =
    with_threads _ _ within (λ p. both_chosen (nat_eq process p) (option_map (with_id id) (some.threads process)) (option_map (with_id id) (more.threads process))
    (some.threads p) (more.threads p) (joined_by id (some.threads process) (more.threads process) (within.threads process)) (within.threads p))
within_after (threads_gone process) some more ready within =
    with_threads _ _ within (λ p. choice (nat_eq process p) None (some.threads p) (more.threads p) (within.threads p))
within_after (threads_stale process) some more ready within = record {
  contexts = within.contexts;
  threads = within.threads;
  states = λ p t. choice (nat_eq process p) None (some.states p t) (more.states p t) (within.states p t);
  registers = λ p t i. choice (nat_eq process p) None (some.registers p t i) (more.registers p t i) (within.registers p t i);
  bytes = within.bytes;
  properties = within.properties;
  statuses = within.statuses;
}
within_after (state_told process thread state) some more ready within =
    with_states _ _ within (λ p t. choice (nat_eq process p && nat_eq thread t) (Some state) (some.states p t) (more.states p t) (within.states p t))
within_after (state_gone process thread) some more ready within =
    with_states _ _ within (λ p t. choice (nat_eq process p && nat_eq thread t) None (some.states p t) (more.states p t) (within.states p t))
within_after (register_read process thread index value) some more ready within =
    with_registers _ _ within (read_by process thread index value some more (is_suspended (some.states process thread)) (is_suspended (more.states process thread)) refl
    (still_by (some.states process thread) (more.states process thread) (within.states process thread)) ready within)
within_after (register_gone process thread index) some more ready within =
    with_registers _ _ within (λ p t i. choice (nat_eq process p && nat_eq thread t && nat_eq index i) None (some.registers p t i) (more.registers p t i) (within.registers p t i))
within_after (thread_registers_gone process thread) some more ready within =
    with_registers _ _ within (λ p t. dropped (nat_eq process p && nat_eq thread t) (some.registers p t) (more.registers p t) (within.registers p t))
within_after registers_gone some more ready within = with_registers _ _ within (λ p t i x is. is)
within_after (bytes_read process addr bytes) some more ready within =
    with_bytes _ _ within (λ p place byte. or_then (some.bytes p place byte) (is_still process some && nat_eq process p && has_byte addr bytes place byte)
    (more.bytes p place byte) (is_still process more && nat_eq process p && has_byte addr bytes place byte) (within.bytes p place byte)
    (and_then (is_still process some && nat_eq process p) (has_byte addr bytes place byte) (is_still process more && nat_eq process p)
    (and_then (is_still process some) (nat_eq process p) (is_still process more) (still_then process some more within))))
within_after (bytes_gone process) some more ready within =
    with_bytes _ _ within (λ p place byte. and_then (some.bytes p place byte) _ (more.bytes p place byte) (within.bytes p place byte))
within_after (range_gone process addr size) some more ready within =
    with_bytes _ _ within (λ p place byte. and_then (some.bytes p place byte) _ (more.bytes p place byte) (within.bytes p place byte))
within_after (properties_told id properties) some more ready within =
    with_properties _ _ within (λ other. choice (bytes_eq id other) (Some properties) (some.properties other) (more.properties other) (within.properties other))
within_after (properties_gone id) some more ready within =
    with_properties _ _ within (λ other. choice (bytes_eq id other) None (some.properties other) (more.properties other) (within.properties other))
within_after (status_told id status) some more ready within =
    with_statuses _ _ within (λ other. choice (bytes_eq id other) (Some status) (some.statuses other) (more.statuses other) (within.statuses other))
within_after (status_gone id) some more ready within =
    with_statuses _ _ within (λ other. choice (bytes_eq id other) None (some.statuses other) (more.statuses other) (within.statuses other))
within_after statuses_gone some more ready within = with_statuses _ _ within (λ id x is. is)

-- ---- changes one after another

-- each register that is read is ready by then
abbrev AreReady : List Change → Facts → Type 0
AreReady [] known = Unit {0}
AreReady (change ∷ changes) known = IsReady change known × AreReady changes (after change known)

within_all : (changes : List Change) (some more : Facts) → AreReady changes some → IsWithin some more → IsWithin (after_all changes some) (after_all changes more)
within_all [] some more ready within = within
within_all (change ∷ changes) some more ready within =
    within_all changes (after change some) (after change more) ready.1 (within_after change some more ready.0 within)

-- changes that read neither a register nor memory are always ready
abbrev pub IsPlain : Change → Type 0
IsPlain (register_read process thread index value) = ⊥
IsPlain (bytes_read process addr bytes) = ⊥
IsPlain _ = Unit {0}

plain_ready : (change : Change) (known : Facts) → IsPlain change → IsReady change known
plain_ready all_gone known plain = tt
plain_ready (context_told id context) known plain = tt
plain_ready (context_gone id) known plain = tt
plain_ready (threads_told process ids) known plain = tt
plain_ready (thread_joined process id) known plain = tt
plain_ready (threads_gone process) known plain = tt
plain_ready (threads_stale process) known plain = tt
plain_ready (state_told process thread state) known plain = tt
plain_ready (state_gone process thread) known plain = tt
plain_ready (register_read process thread index value) known plain = absurd plain
plain_ready (register_gone process thread index) known plain = tt
plain_ready (thread_registers_gone process thread) known plain = tt
plain_ready registers_gone known plain = tt
plain_ready (bytes_read process addr bytes) known plain = absurd plain
plain_ready (bytes_gone process) known plain = tt
plain_ready (range_gone process addr size) known plain = tt
plain_ready (properties_told id properties) known plain = tt
plain_ready (properties_gone id) known plain = tt
plain_ready (status_told id status) known plain = tt
plain_ready (status_gone id) known plain = tt
plain_ready statuses_gone known plain = tt

plain_all : (changes : List Change) (known : Facts) → AllByRecursion IsPlain changes → AreReady changes known
plain_all [] known plain = tt
plain_all (change ∷ changes) known plain = (plain_ready change known plain.0, plain_all changes (after change known) plain.1)

pub plain-append : (xs ys : List Change) → AllByRecursion IsPlain xs → AllByRecursion IsPlain ys → AllByRecursion IsPlain (xs ++ ys)
plain-append [] ys one two = two
plain-append (x ∷ xs) ys one two = (one.0, plain-append xs ys one.1 two)

pub plain_each : {A : Type 0} (changes : A → List Change) → ((item : A) → AllByRecursion IsPlain (changes item)) → (items : List A) → AllByRecursion IsPlain (of_each changes items)
plain_each changes plain [] = tt
plain_each changes plain (item ∷ items) = plain-append (changes item) (of_each changes items) (plain item) (plain_each changes plain items)

ready-append : (xs ys : List Change) (known : Facts) → AreReady xs known → AreReady ys (after_all xs known) → AreReady (xs ++ ys) known
ready-append [] ys known one two = two
ready-append (x ∷ xs) ys known one two = (one.0, ready-append xs ys (after x known) one.1 two)

-- ---- a thread whose state was just told

here : (process thread : ℕ) → (nat_eq process process && nat_eq thread thread) ≡ true
here process thread = and_from _ _ (eq-eqb process process refl) (eq-eqb thread thread refl)

told_ready : (told : RunState) (process thread : ℕ) (known : Facts) → AreReady (state_changes told process thread) known
told_ready run.Running process thread known = (tt, tt)
told_ready (run.Suspended pc reason hits) process thread known =
    (tt, (λ x has. ap is_suspended (cond-true _ _ _ (here process thread)), tt))

moved_ready : (told : RunState) (context : Option ContextId) (known : Facts) → AreReady (moved_for context told) known
moved_ready told None known = tt
moved_ready told (Some (Process process)) known = (tt, tt)
moved_ready told (Some (Thread process thread)) known =
    (tt, (tt, told_ready told process thread (after (thread_registers_gone process thread) (after (bytes_gone process) known))))

-- ---- registers that are read where they are known of suspended threads alone

grounded_by : (process thread index value : ℕ) (known : Facts) (c : Bool) → is_suspended (known.states process thread) ≡ c → IsGrounded known
    → (p t i x : ℕ) (b : Bool) → (nat_eq process p && nat_eq thread t && nat_eq index i) ≡ b
    → cond c (cond b (Some value) (known.registers p t i)) (known.registers p t i) ≡ Some x → is_suspended (known.states p t) ≡ true
grounded_by process thread index value known true is grounded p t i x true same told =
    let parts = and_parts _ _ (and_parts _ _ same).0 in
    let one : process ≡ p = eqb-true _ _ parts.0 in
    let two : thread ≡ t = eqb-true _ _ parts.1 in
    sym (ap (λ k. is_suspended (known.states k thread)) one ∙ ap (λ k. is_suspended (known.states p k)) two) ∙ is
grounded_by process thread index value known true is grounded p t i x false same told = grounded p t i x told
grounded_by process thread index value known false is grounded p t i x b same told = grounded p t i x told

grounded_after : (process thread index value : ℕ) (known : Facts) → IsGrounded known → IsGrounded (after (register_read process thread index value) known)
grounded_after process thread index value known grounded p t i x told =
    let c : Bool = is_suspended (known.states process thread) in
    grounded_by process thread index value known c refl grounded p t i x (nat_eq process p && nat_eq thread t && nat_eq index i) refl
    (sym (cond_at c (at_register process thread index (Some value) known.registers) known.registers p t i) ∙ told)

-- reading registers stays possible
abbrev Reads : List Change → Facts → Type 0
Reads changes known = AreReady changes known × IsGrounded (after_all changes known)

word_ready : (bytes : List ℕ) (register : Option RegisterId) (known : Facts) → IsGrounded known → Reads (word_read bytes register) known
word_ready bytes None known grounded = (tt, grounded)
word_ready bytes (Some register) known grounded = (
  (λ x has. grounded register.process register.thread register.index x has, tt),
  grounded_after register.process register.thread register.index (from_le_bytes w32 bytes) known grounded,
)

choice_ready : (b : Bool) (changes : List Change) (known : Facts) → IsGrounded known → Reads changes known → Reads (cond b changes []) known
choice_ready true changes known grounded reads = reads
choice_ready false changes known grounded reads = (tt, grounded)

whole_ready : (id bytes : List ℕ) (known : Facts) → IsGrounded known → Reads (whole_read id bytes) known
whole_ready id bytes known grounded =
    choice_ready (nat_eq (length bytes) 4) (word_read bytes (register_of id)) known grounded (word_ready bytes (register_of id) known grounded)

reads-append : (xs ys : List Change) (known : Facts) → Reads xs known → Reads ys (after_all xs known) → Reads (xs ++ ys) known
reads-append xs ys known one two =
    (ready-append xs ys known one.0 two.0, subst IsGrounded (sym (after_all-append xs ys known)) two.1)

parts_ready : (list : List Location) (bytes : List ℕ) (known : Facts) → IsGrounded known → Reads (parts_read list bytes) known
parts_ready [] bytes known grounded = (tt, grounded)
parts_ready (location ∷ list) bytes known grounded =
    let piece : List ℕ = take (unsigned_abs location.size) bytes in
    let rest : List ℕ = drop (unsigned_abs location.size) bytes in
    let one : Reads (whole_read location.register piece) known = whole_ready location.register piece known grounded in
    choice_ready (is_part location) (whole_read location.register piece ++ parts_read list rest) known grounded
    (reads-append (whole_read location.register piece) (parts_read list rest) known one
    (parts_ready list rest (after_all (whole_read location.register piece) known) one.1))

-- ---- each event

pub stale_plain : (context : Option ContextId) → AllByRecursion IsPlain (stale_for context)
stale_plain None = tt
stale_plain (Some (Process process)) = (tt, tt)
stale_plain (Some (Thread process thread)) = (tt, (tt, (tt, tt)))

unlisted_plain : (context : Option ContextId) → AllByRecursion IsPlain (unlisted_for context)
unlisted_plain None = tt
unlisted_plain (Some context) = (tt, tt)

pub removed_plain : (id : List ℕ) → AllByRecursion IsPlain (removed_context id)
removed_plain id = (tt, plain-append (stale_for (context_of id)) (unlisted_for (context_of id)) (stale_plain (context_of id)) (unlisted_plain (context_of id)))

unsettled_plain : (context : Option ContextId) → AllByRecursion IsPlain (unsettled_for context)
unsettled_plain None = tt
unsettled_plain (Some context) = (tt, (tt, tt))

begun_plain : (context : Option ContextId) → AllByRecursion IsPlain (begun_for context)
begun_plain None = tt
begun_plain (Some (Process process)) = (tt, tt)
begun_plain (Some (Thread process thread)) = tt

joined_plain : (id : List ℕ) (context : Option ContextId) → AllByRecursion IsPlain (joined_for id context)
joined_plain id None = tt
joined_plain id (Some (Process process)) = tt
joined_plain id (Some (Thread process thread)) = (tt, tt)

pub added_plain : (list : List ContextData) → AllByRecursion IsPlain (added_contexts list)
added_plain list =
    plain-append (of_each added_context list) _ (plain_each added_context (λ context. (tt, tt)) list)
    (plain-append (of_each unsettled list) _ (plain_each unsettled (λ context. unsettled_plain (context_of context.id)) list)
    (plain-append (of_each begun list) _ (plain_each begun (λ context. begun_plain (context_of context.id)) list)
    (plain-append (of_each joined list) (statuses_gone ∷ []) (plain_each joined (λ context. joined_plain context.id (context_of context.id)) list) (tt, tt))))

plain_if : (b : Bool) (change : Change) → IsPlain change → AllByRecursion IsPlain (cond b (change ∷ []) [])
plain_if true change plain = (plain, tt)
plain_if false change plain = tt

pub listed_plain : (context : Option ContextId) (ids : List (List ℕ)) → AllByRecursion IsPlain (threads_listed context ids)
listed_plain None ids = tt
listed_plain (Some (Process process)) ids = plain_if (list_all (is_thread_of process) ids) (threads_told process ids) tt
listed_plain (Some (Thread process thread)) ids = tt

range_plain_by : (process : ℕ) (range : Range) (b c : Bool)
    → AllByRecursion IsPlain (cond b (bytes_gone process ∷ []) (cond c [] (range_gone process (unsigned_abs range.addr) (unsigned_abs range.size) ∷ [])))
range_plain_by process range true c = (tt, tt)
range_plain_by process range false true = tt
range_plain_by process range false false = (tt, tt)

pub memory_plain : (context : Option ContextId) (list : List Range) → AllByRecursion IsPlain (memory_changes context list)
memory_plain None list = tt
memory_plain (Some context) list =
    plain_each (changed_range (process_for context))
    (λ range. range_plain_by (process_for context) range (is_outside range.addr range.size) (nat_eq (unsigned_abs range.size) 0)) list

pub register_plain : (register : Option RegisterId) → AllByRecursion IsPlain (changed_register register)
register_plain None = tt
register_plain (Some register) = (tt, tt)

event_ready : (event : EventData) (known : Facts) → AreReady (event_changes event) known
event_ready (Hello list) known = (tt, tt)
event_ready (CtxAdded list) known =
    plain_all (event_changes (CtxAdded list)) known (added_plain list)
event_ready (CtxChanged list) known =
    plain_all (event_changes (CtxChanged list)) known
    (plain-append (of_each changed_context list) (statuses_gone ∷ []) (plain_each changed_context (λ context. (tt, stale_plain (context_of context.id))) list) (tt, tt))
event_ready (CtxRemoved list) known =
    plain_all (event_changes (CtxRemoved list)) known
    (plain-append (of_each removed_context list) (statuses_gone ∷ []) (plain_each removed_context removed_plain list) (tt, tt))
event_ready (Suspended id pc reason hits) known =
    ready-append (of_each hit_breakpoint hits) (moved_for (context_of id) (run.Suspended pc reason hits)) known
    (plain_all (of_each hit_breakpoint hits) known (plain_each hit_breakpoint (λ hit. (tt, tt)) hits))
    (moved_ready (run.Suspended pc reason hits) (context_of id) (after_all (of_each hit_breakpoint hits) known))
event_ready (Resumed id) known = moved_ready run.Running (context_of id) known
event_ready (BpStatusIs id status) known = (tt, tt)
event_ready (BpAdded list) known = plain_all (of_each told_properties list) known (plain_each told_properties (λ properties. (tt, (tt, tt))) list)
event_ready (BpChanged list) known = plain_all (of_each told_properties list) known (plain_each told_properties (λ properties. (tt, (tt, tt))) list)
event_ready (BpRemoved list) known = plain_all (of_each removed_properties list) known (plain_each removed_properties (λ id. (tt, (tt, tt))) list)
event_ready (MemChanged id list) known = plain_all (memory_changes (context_of id) list) known (memory_plain (context_of id) list)
event_ready (RegChanged id) known = plain_all (changed_register (register_of id)) known (register_plain (register_of id))
event_ready RegsChanged known = (tt, tt)
event_ready (Exited id code) known = tt

-- ---- each answer

thread_ready : (context : Option ContextId) (state : RunState) (known : Facts) → AreReady (state_of_thread context state) known
thread_ready None state known = tt
thread_ready (Some (Process process)) state known = tt
thread_ready (Some (Thread process thread)) state known = told_ready state process thread known

memory_ready_by : (process addr : ℕ) (bytes : List ℕ) (b : Bool) (known : Facts) → AreReady (cond b (bytes_read process addr bytes ∷ []) []) known
memory_ready_by process addr bytes true known = (tt, tt)
memory_ready_by process addr bytes false known = tt

memory_ready : (context : Option ContextId) (addr size : ℤ) (bytes : List ℕ) (known : Facts) → AreReady (memory_read context addr size bytes) known
memory_ready None addr size bytes known = tt
memory_ready (Some context) addr size bytes known = memory_ready_by (process_for context) (unsigned_abs addr) bytes (are_of_range addr size bytes) known

context_ready : (id : List ℕ) (answer : Answer) (known : Facts) → AreReady (context_answered id answer) known
context_ready id (Answer.Context context) known = (tt, tt)
context_ready id _ known = tt

children_ready : (id : List ℕ) (answer : Answer) (known : Facts) → AreReady (children_answered id answer) known
children_ready id (Answer.Ids ids) known = plain_all (threads_listed (context_of id) ids) known (listed_plain (context_of id) ids)
children_ready id _ known = tt

state_ready : (id : List ℕ) (answer : Answer) (known : Facts) → AreReady (state_answered id answer) known
state_ready id (Answer.State state) known = thread_ready (context_of id) state known
state_ready id _ known = tt

properties_ready : (id : List ℕ) (answer : Answer) (known : Facts) → AreReady (properties_answered id answer) known
properties_ready id (Answer.Bp properties) known = (tt, tt)
properties_ready id _ known = tt

status_ready : (id : List ℕ) (answer : Answer) (known : Facts) → AreReady (status_answered id answer) known
status_ready id (Answer.Status status) known = (tt, tt)
status_ready id _ known = tt

bytes_ready : (id : List ℕ) (addr size : ℤ) (answer : Answer) (known : Facts) → AreReady (memory_answered id addr size answer) known
bytes_ready id addr size (Answer.Blob bytes) known = memory_ready (context_of id) addr size bytes known
bytes_ready id addr size _ known = tt

register_ready : (id : List ℕ) (answer : Answer) (known : Facts) → IsGrounded known → AreReady (register_answered id answer) known
register_ready id (Answer.Blob bytes) known grounded = (whole_ready id bytes known grounded).0
register_ready id _ known grounded = tt

registers_ready : (list : List Location) (answer : Answer) (known : Facts) → IsGrounded known → AreReady (registers_answered list answer) known
registers_ready list (Answer.Blob bytes) known grounded = (parts_ready list bytes known grounded).0
registers_ready list _ known grounded = tt

answer_ready : (command : Command) (answer : Answer) (known : Facts) → IsGrounded known → AreReady (answer_changes command answer) known
answer_ready (GetContext id) answer known grounded = context_ready id answer known
answer_ready (GetChildren id) answer known grounded = children_ready id answer known
answer_ready (GetState id) answer known grounded = state_ready id answer known
answer_ready (BpProperties id) answer known grounded = properties_ready id answer known
answer_ready (BpGetStatus id) answer known grounded = status_ready id answer known
answer_ready (MemGet id addr word size mode) answer known grounded = bytes_ready id addr size answer known
answer_ready (RegGet id) answer known grounded = register_ready id answer known grounded
answer_ready (RegGetm list) answer known grounded = registers_ready list answer known grounded
answer_ready _ answer known grounded = tt

-- ---- the law

message_ready : (message : Message) (known : Facts) → IsGrounded known → AreReady (changes_of message) known
message_ready (event_taken event) known grounded = event_ready event known
message_ready bad_event_taken known grounded = (tt, tt)
message_ready (answer_taken command answer) known grounded = answer_ready command answer known grounded
message_ready other_taken known grounded = tt

pub monotone : IsMonotone
monotone message some more grounded part =
    part_from _ _ (within_all (changes_of message) some more (message_ready message some grounded) (within_from some more part))
