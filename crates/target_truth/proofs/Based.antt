-- Registers and bytes stay known only of threads that are known as suspended.
use Rattle.std.proofs.Common.{◌≡◌, ℕ, ◌==◌, nat_lt, Bool, true, false, true≢false, cond, not, ◌&&◌, ◌||◌, List, [], ◌∷◌, ◌++◌, length, Option, Some, None, option_and_then, option_map, refl, sym, ap, ◌∙◌, subst}
use Rattle.std.specs.Prelude.{bytes_eq, unsigned_abs}
use Rattle.std.specs.List.{AllByRecursion, list_all, list_any}
use Rattle.std.proofs.lemmas.Bool.{and_from, and_parts, eq-eqb, eqb-true}
use Rattle.std.proofs.lemmas.Option.{none-some, same_Some}
use Rattle.knowledge.specs.Changes.{Change, after, after_all, all_gone, are_still, at_register, at_thread, context_told, context_gone, threads_told, thread_joined, threads_gone, threads_stale, state_told, state_gone, register_read, register_gone, thread_registers_gone, registers_gone, bytes_read, bytes_gone, range_gone, status_told, statuses_gone, has_byte, is_still, of_each, with_id}
use Rattle.knowledge.specs.Facts.{Facts, is_suspended, state_at, state_of}
use Rattle.knowledge.specs.Rows.{added_context, begun, begun_for, changed_context, changed_range, changed_register, event_changes, hit_breakpoint, is_outside, joined, joined_for, memory_changes, moved_for, process_for, removed_context, removed_properties, stale_for, told_properties, unlisted_for, unsettled, unsettled_for}
use Rattle.knowledge.specs.declared.state.StateFact.{StateFact}
use Rattle.knowledge.specs.declared.state.StateFact.TheVariants as state
use Rattle.target_truth.proofs.Seen.{IsBased, are_own, is_own}
use Rattle.tcf_values.specs.Ids.{context_of, register_of}
use Rattle.tcf_values.specs.declared.event.EventData.{EventData}
use Rattle.tcf_values.specs.declared.event.EventData.TheVariants.{Hello, CtxAdded, CtxChanged, CtxRemoved, Suspended, Resumed, BpStatusIs, BpAdded, BpChanged, BpRemoved, MemChanged, RegChanged, RegsChanged, Exited}
use Rattle.tcf_values.specs.declared.ids.ContextId.{ContextId}
use Rattle.tcf_values.specs.declared.ids.ContextId.TheVariants.{Process, Thread}
use Rattle.tcf_values.specs.declared.ids.RegisterId.{RegisterId}
use Rattle.tcf_values.specs.declared.values.BpProps.{BpProps}
use Rattle.tcf_values.specs.declared.values.ContextData.{ContextData}
use Rattle.tcf_values.specs.declared.values.Range.{Range}
use Rattle.tcf_values.specs.declared.values.RunState.{RunState}
use Rattle.tcf_values.specs.declared.values.RunState.TheVariants as run
use Rattle.knowledge.proofs.Monotone.{cond_at}
use Rattle.knowledge.proofs.Same.{after_all-append}

-- ---- all threads of a process are known as suspended

-- whoever knows each thread as suspended that another knows as suspended
id_stands : (known other : Facts) → ((p t : ℕ) → is_suspended (known.states p t) ≡ true → is_suspended (other.states p t) ≡ true) → (context : Option ContextId)
    → is_suspended (option_and_then (state_at known) context) ≡ true → is_suspended (option_and_then (state_at other) context) ≡ true
id_stands known other so None is = is
id_stands known other so (Some (Process p)) is = is
id_stands known other so (Some (Thread p t)) is = so p t is

all_stand : (known other : Facts) → ((p t : ℕ) → is_suspended (known.states p t) ≡ true → is_suspended (other.states p t) ≡ true) → (ids : List (List ℕ))
    → list_all (λ id. is_suspended (state_of id known)) ids ≡ true → list_all (λ id. is_suspended (state_of id other)) ids ≡ true
all_stand known other so [] is = is
all_stand known other so (id ∷ ids) is =
    let parts = and_parts (is_suspended (state_of id known)) _ is in
    and_from (is_suspended (state_of id other)) _ (id_stands known other so (context_of id) parts.0) (all_stand known other so ids parts.1)

pub still_all : (known other : Facts) → ((p t : ℕ) → is_suspended (known.states p t) ≡ true → is_suspended (other.states p t) ≡ true) → (list : Option (List (List ℕ)))
    → are_still known list ≡ true → are_still other list ≡ true
still_all known other so None is = is
still_all known other so (Some ids) is =
    let parts = and_parts (nat_lt 0 (length ids)) _ is in and_from (nat_lt 0 (length ids)) _ parts.0 (all_stand known other so ids parts.1)

-- and whoever does so of the process alone, where the IDs are those of its threads
own_stands : (q : ℕ) (known other : Facts) → ((t : ℕ) → is_suspended (known.states q t) ≡ true → is_suspended (other.states q t) ≡ true) → (context : Option ContextId)
    → is_own q context ≡ true → is_suspended (option_and_then (state_at known) context) ≡ true → is_suspended (option_and_then (state_at other) context) ≡ true
own_stands q known other so None own is = is
own_stands q known other so (Some (Process p)) own is = is
own_stands q known other so (Some (Thread p t)) own is =
    let same : q ≡ p = eqb-true q p own in
    sym (ap (λ k. is_suspended (other.states k t)) same) ∙ so t (ap (λ k. is_suspended (known.states k t)) same ∙ is)

all_own : (q : ℕ) (known other : Facts) → ((t : ℕ) → is_suspended (known.states q t) ≡ true → is_suspended (other.states q t) ≡ true) → (ids : List (List ℕ))
    → are_own q ids ≡ true → list_all (λ id. is_suspended (state_of id known)) ids ≡ true → list_all (λ id. is_suspended (state_of id other)) ids ≡ true
all_own q known other so [] own is = is
all_own q known other so (id ∷ ids) own is =
    let owned = and_parts (is_own q (context_of id)) _ own in
    let parts = and_parts (is_suspended (state_of id known)) _ is in
    and_from (is_suspended (state_of id other)) _ (own_stands q known other so (context_of id) owned.0 parts.0) (all_own q known other so ids owned.1 parts.1)

still_own : (q : ℕ) (known other : Facts) → ((t : ℕ) → is_suspended (known.states q t) ≡ true → is_suspended (other.states q t) ≡ true) → (list : Option (List (List ℕ)))
    → ((ids : List (List ℕ)) → list ≡ Some ids → are_own q ids ≡ true) → are_still known list ≡ true → are_still other list ≡ true
still_own q known other so None own is = is
still_own q known other so (Some ids) own is =
    let parts = and_parts (nat_lt 0 (length ids)) _ is in and_from (nat_lt 0 (length ids)) _ parts.0 (all_own q known other so ids (own ids refl) parts.1)

-- ---- one place written, or dropped

pub hidden : {A : Type 0} (b : Bool) (rest : Option A) (x : A) → cond b None rest ≡ Some x → (rest ≡ Some x) × (b ≡ false)
hidden true rest x is = absurd (none-some x is)
hidden false rest x is = (is, refl)

pub dropped : (b : Bool) (f : ℕ → Option ℕ) (i x : ℕ) → cond b (λ j. None) f i ≡ Some x → (f i ≡ Some x) × (b ≡ false)
dropped true f i x is = absurd (none-some x is)
dropped false f i x is = (is, refl)

-- registers and bytes are fewer, and no state is another
fewer : (known : Facts) (registers : ℕ → ℕ → ℕ → Option ℕ) (bytes : ℕ → ℕ → ℕ → Bool) → ((p t i x : ℕ) → registers p t i ≡ Some x → known.registers p t i ≡ Some x)
    → ((p place byte : ℕ) → bytes p place byte ≡ true → known.bytes p place byte ≡ true) → IsBased known → IsBased (record known { registers = registers; bytes = bytes })
fewer known registers bytes some part based = record {
  grounded = λ p t i x is. based.grounded p t i x (some p t i x is);
  still = λ p place byte is.
      still_all known (record known { registers = registers; bytes = bytes }) (λ q t so. so) (known.threads p) (based.still p place byte (part p place byte is));
  own = based.own;
}

-- ---- a thread that is told to be suspended, or of which that isn't known already

abbrev pub NoBytes : ℕ → Facts → Type 0
NoBytes process known = (place byte : ℕ) → known.bytes process place byte ≡ true → ⊥

-- what is told of a thread's state doesn't take it from the suspended ones, and a list of threads that is told or dropped
-- takes no process from those that stand and of which bytes are known
abbrev pub IsCalm : Change → Facts → Type 0
IsCalm (state_told process thread state) known = is_suspended (known.states process thread) ≡ true → is_suspended (Some state) ≡ true
IsCalm (state_gone process thread) known = ⊥
IsCalm (threads_told process ids) known =
    ((place byte : ℕ) → known.bytes process place byte ≡ true → are_still known (Some ids) ≡ true) × (are_own process ids ≡ true)
IsCalm (thread_joined process id) known = NoBytes process known × (is_own process (context_of id) ≡ true)
IsCalm (threads_gone process) known = NoBytes process known
IsCalm (threads_stale process) known = NoBytes process known
IsCalm _ known = Unit {0}

calm_by : (process thread : ℕ) (state : StateFact) (known : Facts) → IsCalm (state_told process thread state) known → (p t : ℕ) (b : Bool)
    → ((process == p) && (thread == t)) ≡ b → is_suspended (known.states p t) ≡ true → is_suspended (cond b (Some state) (known.states p t)) ≡ true
calm_by process thread state known calm p t true same is =
    let parts = and_parts _ _ same in
    let one : process ≡ p = eqb-true process p parts.0 in
    let two : thread ≡ t = eqb-true thread t parts.1 in
    calm (ap (λ k. is_suspended (known.states k thread)) one ∙ ap (λ k. is_suspended (known.states p k)) two ∙ is)
calm_by process thread state known calm p t false same is = is

read_by : (process thread index value : ℕ) (known : Facts) (c : Bool) → is_suspended (known.states process thread) ≡ c → IsBased known
    → (p t i x : ℕ) (b : Bool) → ((process == p) && (thread == t) && (index == i)) ≡ b
    → cond c (cond b (Some value) (known.registers p t i)) (known.registers p t i) ≡ Some x → is_suspended (known.states p t) ≡ true
read_by process thread index value known true is based p t i x true same told =
    let parts = and_parts _ _ (and_parts _ _ same).0 in
    let one : process ≡ p = eqb-true process p parts.0 in
    let two : thread ≡ t = eqb-true thread t parts.1 in
    sym (ap (λ k. is_suspended (known.states k thread)) one ∙ ap (λ k. is_suspended (known.states p k)) two) ∙ is
read_by process thread index value known true is based p t i x false same told = based.grounded p t i x told
read_by process thread index value known false is based p t i x b same told = based.grounded p t i x told

-- bytes that count only where all threads are known as suspended
bytes_by : (process : ℕ) (known : Facts) (q : ℕ) (old has same : Bool) → (process == q) ≡ same → (old ≡ true → is_still q known ≡ true)
    → (old || (is_still process known && same && has)) ≡ true → is_still q known ≡ true
bytes_by process known q true has same is based told = based refl
bytes_by process known q false has same is based told =
    let parts = and_parts _ _ (and_parts _ _ told).0 in
    sym (ap (λ k. is_still k known) (eqb-true process q (is ∙ parts.1))) ∙ parts.0

-- the list of the threads of a process is another
list_by : (process : ℕ) (told : Option (List (List ℕ))) (known : Facts) → ((place byte : ℕ) → known.bytes process place byte ≡ true → are_still known told ≡ true) → IsBased known
    → (q place byte : ℕ) → known.bytes q place byte ≡ true → (same : Bool) → (process == q) ≡ same → are_still known (cond same told (known.threads q)) ≡ true
list_by process told known so based q place byte is true same = so place byte (ap (λ k. known.bytes k place byte) (eqb-true process q same) ∙ is)
list_by process told known so based q place byte is false same = based.still q place byte is

own_by : (process : ℕ) (told : Option (List (List ℕ))) (known : Facts) → ((ids : List (List ℕ)) → told ≡ Some ids → are_own process ids ≡ true) → IsBased known
    → (q : ℕ) (ids : List (List ℕ)) (same : Bool) → (process == q) ≡ same → cond same told (known.threads q) ≡ Some ids → are_own q ids ≡ true
own_by process told known so based q ids true same is = sym (ap (λ k. are_own k ids) (eqb-true process q same)) ∙ so ids is
own_by process told known so based q ids false same is = based.own q ids is

list_based : (process : ℕ) (told : Option (List (List ℕ))) (known : Facts) → ((place byte : ℕ) → known.bytes process place byte ≡ true → are_still known told ≡ true)
    → ((ids : List (List ℕ)) → told ≡ Some ids → are_own process ids ≡ true) → IsBased known
    → IsBased (record known { threads = λ q. cond (process == q) told (known.threads q) })
list_based process told known stands own based = record {
  grounded = based.grounded;
  still = λ q place byte is.
      still_all known (record known { threads = λ k. cond (process == k) told (known.threads k) }) (λ p t so. so) (cond (process == q) told (known.threads q))
      (list_by process told known stands based q place byte is (process == q) refl);
  own = λ q ids is. own_by process told known own based q ids (process == q) refl is;
}

own_push : (process : ℕ) (ids : List (List ℕ)) (id : List ℕ) → are_own process ids ≡ true → is_own process (context_of id) ≡ true → are_own process (ids ++ id ∷ []) ≡ true
own_push process [] id all one = and_from (is_own process (context_of id)) true one refl
own_push process (other ∷ ids) id all one =
    let parts = and_parts (is_own process (context_of other)) _ all in
    and_from (is_own process (context_of other)) _ parts.0 (own_push process ids id parts.1 one)

own_with : (process : ℕ) (ids : List (List ℕ)) (id : List ℕ) (among : Bool) → are_own process ids ≡ true → is_own process (context_of id) ≡ true
    → are_own process (cond among ids (ids ++ id ∷ [])) ≡ true
own_with process ids id true all one = all
own_with process ids id false all one = own_push process ids id all one

own_joined : (process : ℕ) (id : List ℕ) (list : Option (List (List ℕ))) → ((ids : List (List ℕ)) → list ≡ Some ids → are_own process ids ≡ true) → is_own process (context_of id) ≡ true
    → (ids : List (List ℕ)) → option_map (with_id id) list ≡ Some ids → are_own process ids ≡ true
own_joined process id None all one ids is = absurd (none-some ids is)
own_joined process id (Some known) all one ids is =
    ap (are_own process) (sym (same_Some (with_id id known) ids is))
    ∙ own_with process known id (list_any (λ other. bytes_eq id other) known) (all known refl) one

-- the states and registers of a process aren't known any more
stale_by : (b : Bool) (s : Option StateFact) (r : Option ℕ) (x : ℕ) → (r ≡ Some x → is_suspended s ≡ true) → cond b None r ≡ Some x → is_suspended (cond b None s) ≡ true
stale_by true s r x so is = absurd (none-some x is)
stale_by false s r x so is = so is

stale_still : (process : ℕ) (known : Facts) → NoBytes process known → IsBased known → (q place byte : ℕ) → known.bytes q place byte ≡ true → (same : Bool) → (process == q) ≡ same
    → ((t : ℕ) → is_suspended (known.states q t) ≡ true → is_suspended (cond same None (known.states q t)) ≡ true)
stale_still process known none based q place byte is true same t so = absurd (none place byte (ap (λ k. known.bytes k place byte) (eqb-true process q same) ∙ is))
stale_still process known none based q place byte is false same t so = so

pub change_based : (change : Change) (known : Facts) → IsCalm change known → IsBased known → IsBased (after change known)
change_based all_gone known calm based = record {
  grounded = λ p t i x is. absurd (none-some x is);
  still = λ p place byte is. absurd (true≢false (sym is));
  own = λ p ids is. absurd (none-some ids is);
}
change_based (threads_told process ids) known calm based =
    list_based process (Some ids) known calm.0 (λ other is. ap (are_own process) (sym (same_Some ids other is)) ∙ calm.1) based
change_based (thread_joined process id) known calm based =
    list_based process (option_map (with_id id) (known.threads process)) known (λ place byte is. absurd (calm.0 place byte is))
    (own_joined process id (known.threads process) (based.own process) calm.1) based
change_based (threads_gone process) known calm based =
    list_based process None known (λ place byte is. absurd (calm place byte is)) (λ ids is. absurd (none-some ids is)) based
change_based (threads_stale process) known calm based = record {
  grounded = λ p t i x is. stale_by (process == p) (known.states p t) (known.registers p t i) x (based.grounded p t i x) is;
  still = λ q place byte is.
      still_own q known (after (threads_stale process) known) (stale_still process known calm based q place byte is (process == q) refl)
      (known.threads q) (based.own q) (based.still q place byte is);
  own = based.own;
}
change_based (state_told process thread state) known calm based = record {
  grounded = λ p t i x is. calm_by process thread state known calm p t _ refl (based.grounded p t i x is);
  still = λ p place byte is.
      still_all known (after (state_told process thread state) known) (λ q t so. calm_by process thread state known calm q t _ refl so)
      (known.threads p) (based.still p place byte is);
  own = based.own;
}
change_based (state_gone process thread) known calm based = absurd calm
change_based (register_read process thread index value) known calm based = record {
  grounded = λ p t i x is.
      let c : Bool = is_suspended (known.states process thread) in
      read_by process thread index value known c refl based p t i x _ refl (sym (cond_at c (at_register process thread index (Some value) known.registers) known.registers p t i) ∙ is);
  still = λ p place byte is.
      still_all known (after (register_read process thread index value) known) (λ q t so. so) (known.threads p) (based.still p place byte is);
  own = based.own;
}
change_based (register_gone process thread index) known calm based =
    fewer known _ _ (λ p t i x is. (hidden ((process == p) && (thread == t) && (index == i)) (known.registers p t i) x is).0) (λ p place byte is. is) based
change_based (thread_registers_gone process thread) known calm based =
    fewer known _ _ (λ p t i x is. (dropped ((process == p) && (thread == t)) (known.registers p t) i x is).0) (λ p place byte is. is) based
change_based registers_gone known calm based = fewer known _ _ (λ p t i x is. absurd (none-some x is)) (λ p place byte is. is) based
change_based (bytes_read process addr bytes) known calm based = record {
  grounded = based.grounded;
  still = λ p place byte is.
      still_all known (after (bytes_read process addr bytes) known) (λ q t so. so) (known.threads p)
      (bytes_by process known p (known.bytes p place byte) (has_byte addr bytes place byte) (process == p) refl (based.still p place byte) is);
  own = based.own;
}
change_based (bytes_gone process) known calm based = fewer known _ _ (λ p t i x is. is) (λ p place byte is. (and_parts _ _ is).0) based
change_based (range_gone process addr size) known calm based = fewer known _ _ (λ p t i x is. is) (λ p place byte is. (and_parts _ _ is).0) based
change_based change known calm based = record {
  grounded = based.grounded;
  still = λ p place byte is. still_all known (after change known) (λ q t so. so) (known.threads p) (based.still p place byte is);
  own = based.own;
}

-- who knows less knows a thread as suspended only where the other does
pub still_in : (s r : Option StateFact) → ((x : StateFact) → s ≡ Some x → r ≡ Some x) → is_suspended s ≡ true → is_suspended r ≡ true
still_in None r part is = absurd (true≢false (sym is))
still_in (Some x) r part is = ap is_suspended (part x refl) ∙ is

-- ---- changes that stay calm whatever is known, one after another

abbrev pub Keeps : List Change → Type 0
Keeps changes = (known : Facts) → IsBased known → IsBased (after_all changes known)

-- no state and no list of threads is told or drops
abbrev IsMild : Change → Type 0
IsMild (state_told process thread state) = ⊥
IsMild (state_gone process thread) = ⊥
IsMild (threads_told process ids) = ⊥
IsMild (thread_joined process id) = ⊥
IsMild (threads_gone process) = ⊥
IsMild (threads_stale process) = ⊥
IsMild _ = Unit {0}

mild_calm : (change : Change) (known : Facts) → IsMild change → IsCalm change known
mild_calm (state_told process thread state) known mild = absurd mild
mild_calm (state_gone process thread) known mild = mild
mild_calm (threads_told process ids) known mild = absurd mild
mild_calm (thread_joined process id) known mild = absurd mild
mild_calm (threads_gone process) known mild = absurd mild
mild_calm (threads_stale process) known mild = absurd mild
mild_calm _ known mild = tt

mild_keeps : (changes : List Change) → AllByRecursion IsMild changes → Keeps changes
mild_keeps [] mild known based = based
mild_keeps (change ∷ changes) mild known based = mild_keeps changes mild.1 (after change known) (change_based change known (mild_calm change known mild.0) based)

keeps_append : (xs ys : List Change) → Keeps xs → Keeps ys → Keeps (xs ++ ys)
keeps_append xs ys one two known based = subst IsBased (sym (after_all-append xs ys known)) (two (after_all xs known) (one known based))

keeps_each : {A : Type 0} (changes : A → List Change) → ((item : A) → Keeps (changes item)) → (items : List A) → Keeps (of_each changes items)
keeps_each changes each [] = λ known based. based
keeps_each changes each (item ∷ items) = keeps_append (changes item) (of_each changes items) (each item) (keeps_each changes each items)

-- ---- a thread that drops out, or stops, or goes on: nothing else is known of it then

elsewhere : (b : Bool) (x s : Option StateFact) (f : ℕ → Option ℕ) (i v : ℕ) → (f i ≡ Some v → is_suspended s ≡ true)
    → cond b (λ j. None) f i ≡ Some v → is_suspended (cond b x s) ≡ true
elsewhere true x s f i v so is = absurd (none-some v is)
elsewhere false x s f i v so is = so is

-- nor of the threads of another process
elsewhere_state : (a b : Bool) (x s : Option StateFact) → a ≡ false → is_suspended s ≡ true → is_suspended (cond (a && b) x s) ≡ true
elsewhere_state true b x s other is = absurd (true≢false other)
elsewhere_state false b x s other is = is

bytes_elsewhere : (a has : Bool) → (has && not a) ≡ true → (has ≡ true) × (a ≡ false)
bytes_elsewhere true true is = absurd (true≢false (sym is))
bytes_elsewhere true false is = absurd (true≢false (sym is))
bytes_elsewhere false has is = ((and_parts has true is).0, refl)

-- the state of a thread is this, or isn't known, and neither are its registers and the bytes of its process
abbrev switched : ℕ → ℕ → Option StateFact → Facts → Facts
switched process thread state known = record known {
  states = at_thread process thread state known.states;
  registers = at_thread process thread (λ index. None) known.registers;
  bytes = λ p place byte. known.bytes p place byte && not (process == p);
}

switch_based : (process thread : ℕ) (state : Option StateFact) (known : Facts) → IsBased known → IsBased (switched process thread state known)
switch_based process thread state known based = record {
  grounded = λ p t i x is.
      elsewhere ((process == p) && (thread == t)) state (known.states p t) (known.registers p t) i x (based.grounded p t i x) is;
  still = λ p place byte is.
      let other = bytes_elsewhere (process == p) (known.bytes p place byte) is in
      still_own p known (switched process thread state known) (λ t so. elsewhere_state (process == p) (thread == t) state (known.states p t) other.1 so)
      (known.threads p) (based.own p) (based.still p place byte other.0);
  own = based.own;
}

stale_keeps : (context : Option ContextId) → Keeps (stale_for context)
stale_keeps None known based = based
stale_keeps (Some (Process process)) known based = mild_keeps (bytes_gone process ∷ []) (tt, tt) known based
stale_keeps (Some (Thread process thread)) known based = switch_based process thread None known based

moved_keeps : (told : RunState) (context : Option ContextId) → Keeps (moved_for context told)
moved_keeps told None known based = based
moved_keeps told (Some (Process process)) known based = mild_keeps (bytes_gone process ∷ []) (tt, tt) known based
moved_keeps run.Running (Some (Thread process thread)) known based = switch_based process thread (Some state.Running) known based
moved_keeps (run.Suspended pc reason hits) (Some (Thread process thread)) known based =
    change_based (register_read process thread 32 pc) (switched process thread (Some (state.Suspended reason hits)) known) tt
    (switch_based process thread (Some (state.Suspended reason hits)) known based)

-- ---- a context that is gone: the list of its process's threads isn't known then either

gone_bytes : (process : ℕ) (known : Facts) → NoBytes process (after (bytes_gone process) known)
gone_bytes process known place byte is =
    true≢false (sym (and_parts (known.bytes process place byte) _ is).1 ∙ ap not (eq-eqb process process refl))

switched_bytes : (process thread : ℕ) (state : Option StateFact) (known : Facts) → NoBytes process (switched process thread state known)
switched_bytes process thread state known = gone_bytes process known

gone_keeps : (context : Option ContextId) → Keeps (stale_for context ++ unlisted_for context)
gone_keeps None known based = based
gone_keeps (Some (Process process)) known based =
    change_based (threads_gone process) (after (bytes_gone process) known) (gone_bytes process known) (change_based (bytes_gone process) known tt based)
gone_keeps (Some (Thread process thread)) known based =
    change_based (threads_gone process) (switched process thread None known) (switched_bytes process thread None known) (switch_based process thread None known based)

-- ---- contexts that are new: no bytes of their processes are known any more, and then no list takes any from those that stand

abbrev IsBare : Option ContextId → Facts → Type 0
IsBare None known = Unit {0}
IsBare (Some context) known = NoBytes (process_for context) known

abbrev AreBare : List ContextData → Facts → Type 0
AreBare list known = AllByRecursion (λ context. IsBare (context_of context.id) known) list

record Steps (known now : Facts) : Type 0 where
  based : IsBased now
  less : (p place byte : ℕ) → now.bytes p place byte ≡ true → known.bytes p place byte ≡ true

bare_still : (context : Option ContextId) (known now : Facts) → ((p place byte : ℕ) → now.bytes p place byte ≡ true → known.bytes p place byte ≡ true) → IsBare context known → IsBare context now
bare_still None known now less bare = tt
bare_still (Some context) known now less bare = λ place byte is. bare place byte (less (process_for context) place byte is)

all_bare : (list : List ContextData) (known now : Facts) → ((p place byte : ℕ) → now.bytes p place byte ≡ true → known.bytes p place byte ≡ true) → AreBare list known → AreBare list now
all_bare [] known now less bare = tt
all_bare (context ∷ list) known now less bare = (bare_still (context_of context.id) known now less bare.0, all_bare list known now less bare.1)

-- each of them
each_steps : (changes : ContextData → List Change)
    → ((context : ContextData) (known : Facts) → IsBare (context_of context.id) known → IsBased known → Steps known (after_all (changes context) known))
    → (list : List ContextData) (known : Facts) → AreBare list known → IsBased known → Steps known (after_all (of_each changes list) known)
each_steps changes each [] known bare based = record { based = based; less = λ p place byte is. is }
each_steps changes each (context ∷ list) known bare based =
    let middle = after_all (changes context) known in
    let first = each context known bare.0 based in
    let rest = each_steps changes each list middle (all_bare list known middle first.less bare.1) first.based in
    subst (Steps known) (sym (after_all-append (changes context) (of_each changes list) known))
    (record { based = rest.based; less = λ p place byte is. first.less p place byte (rest.less p place byte is) })

begin_steps : (context : Option ContextId) (known : Facts) → IsBare context known → IsBased known → Steps known (after_all (begun_for context) known)
begin_steps None known bare based = record { based = based; less = λ p place byte is. is }
begin_steps (Some (Process process)) known bare based = record {
  based = change_based (threads_told process []) known (λ place byte is. absurd (bare place byte is), refl) based;
  less = λ p place byte is. is;
}
begin_steps (Some (Thread process thread)) known bare based = record { based = based; less = λ p place byte is. is }

join_steps : (id : List ℕ) (context : Option ContextId) (known : Facts) → context_of id ≡ context → IsBare context known → IsBased known → Steps known (after_all (joined_for id context) known)
join_steps id None known named bare based = record { based = based; less = λ p place byte is. is }
join_steps id (Some (Process process)) known named bare based = record { based = based; less = λ p place byte is. is }
join_steps id (Some (Thread process thread)) known named bare based = record {
  based = change_based (thread_joined process id) known (bare, ap (is_own process) named ∙ eq-eqb process process refl) based;
  less = λ p place byte is. is;
}

-- what makes them so
record Unsettles (context : Option ContextId) (known now : Facts) : Type 0 where
  steps : Steps known now
  bare : IsBare context now

unsettle_one : (context : Option ContextId) (known : Facts) → IsBased known → Unsettles context known (after_all (unsettled_for context) known)
unsettle_one None known based = record { steps = record { based = based; less = λ p place byte is. is }; bare = tt }
unsettle_one (Some context) known based =
    let process = process_for context in
    record {
      steps = record {
        based = change_based (threads_stale process) (after (bytes_gone process) known) (gone_bytes process known) (change_based (bytes_gone process) known tt based);
        less = λ p place byte is. (and_parts (known.bytes p place byte) _ is).0;
      };
      bare = gone_bytes process known;
    }

record AllUnsettle (list : List ContextData) (known now : Facts) : Type 0 where
  steps : Steps known now
  bare : AreBare list now

unsettle_all : (list : List ContextData) (known : Facts) → IsBased known → AllUnsettle list known (after_all (of_each unsettled list) known)
unsettle_all [] known based = record { steps = record { based = based; less = λ p place byte is. is }; bare = tt }
unsettle_all (context ∷ list) known based =
    let middle = after_all (unsettled context) known in
    let first = unsettle_one (context_of context.id) known based in
    let rest = unsettle_all list middle first.steps.based in
    let now = after_all (of_each unsettled list) middle in
    subst (AllUnsettle (context ∷ list) known) (sym (after_all-append (unsettled context) (of_each unsettled list) known))
    (record {
      steps = record { based = rest.steps.based; less = λ p place byte is. first.steps.less p place byte (rest.steps.less p place byte is) };
      bare = (bare_still (context_of context.id) middle now rest.steps.less first.bare, rest.bare);
    })

settled_keeps : (list : List ContextData) → Keeps (of_each unsettled list ++ (of_each begun list ++ (of_each joined list ++ statuses_gone ∷ [])))
settled_keeps list known based =
    let one = after_all (of_each unsettled list) known in
    let two = after_all (of_each begun list) one in
    let three = after_all (of_each joined list) two in
    let bare = unsettle_all list known based in
    let begin = each_steps begun (λ context. begin_steps (context_of context.id)) list one bare.bare bare.steps.based in
    let join = each_steps joined (λ context k. join_steps context.id (context_of context.id) k refl) list two (all_bare list one two begin.less bare.bare) begin.based in
    subst IsBased
    (sym (after_all-append (of_each unsettled list) (of_each begun list ++ (of_each joined list ++ statuses_gone ∷ [])) known
    ∙ after_all-append (of_each begun list) (of_each joined list ++ statuses_gone ∷ []) one
    ∙ after_all-append (of_each joined list) (statuses_gone ∷ []) two))
    (change_based statuses_gone three tt join.based)

-- ---- each event

range_mild : (process : ℕ) (range : Range) (b c : Bool)
    → AllByRecursion IsMild (cond b (bytes_gone process ∷ []) (cond c [] (range_gone process (unsigned_abs range.addr) (unsigned_abs range.size) ∷ [])))
range_mild process range true c = (tt, tt)
range_mild process range false true = tt
range_mild process range false false = (tt, tt)

memory_keeps : (context : Option ContextId) (list : List Range) → Keeps (memory_changes context list)
memory_keeps None list = λ known based. based
memory_keeps (Some context) list =
    keeps_each (changed_range (process_for context)) (λ range. mild_keeps (changed_range (process_for context) range)
    (range_mild (process_for context) range (is_outside range.addr range.size) (unsigned_abs range.size == 0))) list

register_keeps : (register : Option RegisterId) → Keeps (changed_register register)
register_keeps None = λ known based. based
register_keeps (Some register) = mild_keeps (changed_register (Some register)) (tt, tt)

told_keeps : (list : List BpProps) → Keeps (of_each told_properties list)
told_keeps list = keeps_each told_properties (λ properties. mild_keeps (told_properties properties) (tt, (tt, tt))) list

pub event_keeps : (event : EventData) → Keeps (event_changes event)
event_keeps (Hello list) = mild_keeps (all_gone ∷ []) (tt, tt)
event_keeps (CtxAdded list) =
    keeps_append (of_each added_context list) (of_each unsettled list ++ (of_each begun list ++ (of_each joined list ++ statuses_gone ∷ [])))
    (keeps_each added_context (λ context. mild_keeps (added_context context) (tt, tt)) list) (settled_keeps list)
event_keeps (CtxChanged list) =
    keeps_append (of_each changed_context list) (statuses_gone ∷ []) (keeps_each changed_context
    (λ context. keeps_append (context_told context.id context ∷ []) (stale_for (context_of context.id)) (mild_keeps (context_told context.id context ∷ []) (tt, tt)) (stale_keeps (context_of context.id))) list)
    (mild_keeps (statuses_gone ∷ []) (tt, tt))
event_keeps (CtxRemoved list) =
    keeps_append (of_each removed_context list) (statuses_gone ∷ []) (keeps_each removed_context
    (λ id. keeps_append (context_gone id ∷ []) (stale_for (context_of id) ++ unlisted_for (context_of id)) (mild_keeps (context_gone id ∷ []) (tt, tt)) (gone_keeps (context_of id))) list)
    (mild_keeps (statuses_gone ∷ []) (tt, tt))
event_keeps (Suspended id pc reason hits) =
    keeps_append (of_each hit_breakpoint hits) (moved_for (context_of id) (run.Suspended pc reason hits))
    (keeps_each hit_breakpoint (λ hit. mild_keeps (hit_breakpoint hit) (tt, tt)) hits) (moved_keeps (run.Suspended pc reason hits) (context_of id))
event_keeps (Resumed id) = moved_keeps run.Running (context_of id)
event_keeps (BpStatusIs id status) = mild_keeps (status_told id status ∷ []) (tt, tt)
event_keeps (BpAdded list) = told_keeps list
event_keeps (BpChanged list) = told_keeps list
event_keeps (BpRemoved list) = keeps_each removed_properties (λ id. mild_keeps (removed_properties id) (tt, (tt, tt))) list
event_keeps (MemChanged id list) = memory_keeps (context_of id) list
event_keeps (RegChanged id) = register_keeps (register_of id)
event_keeps RegsChanged = mild_keeps (registers_gone ∷ []) (tt, tt)
event_keeps (Exited id code) = mild_keeps [] tt
