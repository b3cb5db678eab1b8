-- After a change nothing is known but what was known before, or is told.
use Rattle.std.proofs.Common.{◌≡◌, ℕ, Bool, true, false, cond, ◌&&◌, ◌==◌, List, [], ◌∷◌, Option, Some, None, option_map, refl, sym, ap, ap₂}
use Rattle.std.specs.Prelude.{bytes_eq}
use Rattle.std.specs.List.{flat_map}
use Rattle.std.proofs.lemmas.Bool.{and_parts, eqb-true}
use Rattle.std.proofs.lemmas.Slice.Eq.{bytes_eq-Decides}
use Rattle.knowledge.specs.Changes.{Change, all_gone, context_told, context_gone, threads_told, thread_joined, threads_gone, threads_stale, state_told, state_gone, register_read, register_gone, thread_registers_gone, registers_gone, bytes_read, bytes_gone, range_gone, properties_told, properties_gone, status_told, status_gone, statuses_gone, after, after_all, at_number, at_register, at_text, at_thread, with_id}
use Rattle.knowledge.specs.Facts.{Facts, is_suspended}
use Rattle.value_store.specs.Rows.{context_key, properties_key, register_key, state_key, status_key, threads_key}
use Rattle.value_store.proofs.Keyed.{is_among, not_first, not_left, not_right}

-- ---- one place written

text_told : {A : Type 0} (id q : List ℕ) (value : A) (known : List ℕ → Option A) → is_among q (id ∷ []) ≡ false → known q ≡ None → at_text id (Some value) known q ≡ None
text_told id q value known none is = by (bytes_eq id q) refl
  where
    by : (here : Bool) → bytes_eq id q ≡ here → cond here (Some value) (known q) ≡ None
    by true e = absurd (not_first q id [] none (sym ((bytes_eq-Decides id q).0 e)))
    by false e = is

text_gone : {A : Type 0} (id q : List ℕ) (known : List ℕ → Option A) → known q ≡ None → at_text id None known q ≡ None
text_gone id q known is = by (bytes_eq id q)
  where
    by : (here : Bool) → cond here None (known q) ≡ None
    by true = refl
    by false = is

number_told : {A : Type 0} (number n : ℕ) (value : Option A) (known : ℕ → Option A) → is_among (n ∷ []) ((number ∷ []) ∷ []) ≡ false → known n ≡ None
    → at_number number value known n ≡ None
number_told number n value known none is = by (number == n) refl
  where
    by : (here : Bool) → (number == n) ≡ here → cond here value (known n) ≡ None
    by true e = absurd (not_first (n ∷ []) (number ∷ []) [] none (ap (λ m. m ∷ []) (sym (eqb-true number n e))))
    by false e = is

gone_if : {A : Type 0} (here : Bool) (before : Option A) → before ≡ None → cond here None before ≡ None
gone_if true before is = refl
gone_if false before is = is

thread_told : {A : Type 0} (process thread p t : ℕ) (value : A) (known : ℕ → ℕ → Option A) → is_among (p ∷ t ∷ []) ((process ∷ thread ∷ []) ∷ []) ≡ false → known p t ≡ None
    → at_thread process thread (Some value) known p t ≡ None
thread_told process thread p t value known none is = by ((process == p) && (thread == t)) refl
  where
    by : (here : Bool) → ((process == p) && (thread == t)) ≡ here → cond here (Some value) (known p t) ≡ None
    by true e =
        let both = and_parts (process == p) (thread == t) e in
        absurd (not_first (p ∷ t ∷ []) (process ∷ thread ∷ []) [] none (ap₂ (λ m n. m ∷ n ∷ []) (sym (eqb-true process p both.0)) (sym (eqb-true thread t both.1))))
    by false e = is

thread_gone : {A : Type 0} (process thread p t : ℕ) (value : Option A) (known : ℕ → ℕ → Option A) → value ≡ None → known p t ≡ None → at_thread process thread value known p t ≡ None
thread_gone process thread p t value known gone is = by ((process == p) && (thread == t))
  where
    by : (here : Bool) → cond here value (known p t) ≡ None
    by true = gone
    by false = is

register_told : (process thread index p t i value : ℕ) (known : ℕ → ℕ → ℕ → Option ℕ) → is_among (p ∷ t ∷ i ∷ []) ((process ∷ thread ∷ index ∷ []) ∷ []) ≡ false → known p t i ≡ None
    → at_register process thread index (Some value) known p t i ≡ None
register_told process thread index p t i value known none is = by ((process == p) && (thread == t) && (index == i)) refl
  where
    by : (here : Bool) → ((process == p) && (thread == t) && (index == i)) ≡ here → cond here (Some value) (known p t i) ≡ None
    by true e =
        let both = and_parts ((process == p) && (thread == t)) (index == i) e in
        let first = and_parts (process == p) (thread == t) both.0 in
        absurd (not_first (p ∷ t ∷ i ∷ []) (process ∷ thread ∷ index ∷ []) [] none
        (λ x. sym (eqb-true process p first.0) x ∷ sym (eqb-true thread t first.1) x ∷ sym (eqb-true index i both.1) x ∷ []))
    by false e = is

register_gone_there : (process thread index p t i : ℕ) (known : ℕ → ℕ → ℕ → Option ℕ) → known p t i ≡ None → at_register process thread index None known p t i ≡ None
register_gone_there process thread index p t i known is = by ((process == p) && (thread == t) && (index == i))
  where
    by : (here : Bool) → cond here None (known p t i) ≡ None
    by true = refl
    by false = is

registers_thread_gone : (process thread p t i : ℕ) (known : ℕ → ℕ → ℕ → Option ℕ) → known p t i ≡ None → at_thread process thread (λ index. None) known p t i ≡ None
registers_thread_gone process thread p t i known is = by ((process == p) && (thread == t))
  where
    by : (here : Bool) → (cond here (λ index. None) (known p t)) i ≡ None
    by true = refl
    by false = is

register_read_there : (flag : Bool) (written known : ℕ → ℕ → ℕ → Option ℕ) (p t i : ℕ) → written p t i ≡ None → known p t i ≡ None → (cond flag written known) p t i ≡ None
register_read_there true written known p t i one other = one
register_read_there false written known p t i one other = other

-- ---- a change

context_none : (change : Change) (known : Facts) (q : List ℕ) → is_among q (context_key change) ≡ false → known.contexts q ≡ None → (after change known).contexts q ≡ None
context_none all_gone known q none is = refl
context_none (context_told id context) known q none is = text_told id q context known.contexts none is
context_none (context_gone id) known q none is = text_gone id q known.contexts is
context_none (threads_told process ids) known q none is = is
context_none (thread_joined process id) known q none is = is
context_none (threads_gone process) known q none is = is
context_none (threads_stale process) known q none is = is
context_none (state_told process thread state) known q none is = is
context_none (state_gone process thread) known q none is = is
context_none (register_read process thread index value) known q none is = is
context_none (register_gone process thread index) known q none is = is
context_none (thread_registers_gone process thread) known q none is = is
context_none registers_gone known q none is = is
context_none (bytes_read process addr bytes) known q none is = is
context_none (bytes_gone process) known q none is = is
context_none (range_gone process addr size) known q none is = is
context_none (properties_told id properties) known q none is = is
context_none (properties_gone id) known q none is = is
context_none (status_told id status) known q none is = is
context_none (status_gone id) known q none is = is
context_none statuses_gone known q none is = is

thread_none : (change : Change) (known : Facts) (p : ℕ) → is_among (p ∷ []) (threads_key change) ≡ false → known.threads p ≡ None → (after change known).threads p ≡ None
thread_none all_gone known p none is = refl
thread_none (context_told id context) known p none is = is
thread_none (context_gone id) known p none is = is
thread_none (threads_told process ids) known p none is = number_told process p (Some ids) known.threads none is
thread_none (thread_joined process id) known p none is = number_told process p (option_map (with_id id) (known.threads process)) known.threads none is
thread_none (threads_gone process) known p none is = gone_if (process == p) (known.threads p) is
thread_none (threads_stale process) known p none is = is
thread_none (state_told process thread state) known p none is = is
thread_none (state_gone process thread) known p none is = is
thread_none (register_read process thread index value) known p none is = is
thread_none (register_gone process thread index) known p none is = is
thread_none (thread_registers_gone process thread) known p none is = is
thread_none registers_gone known p none is = is
thread_none (bytes_read process addr bytes) known p none is = is
thread_none (bytes_gone process) known p none is = is
thread_none (range_gone process addr size) known p none is = is
thread_none (properties_told id properties) known p none is = is
thread_none (properties_gone id) known p none is = is
thread_none (status_told id status) known p none is = is
thread_none (status_gone id) known p none is = is
thread_none statuses_gone known p none is = is

state_none : (change : Change) (known : Facts) (p t : ℕ) → is_among (p ∷ t ∷ []) (state_key change) ≡ false → known.states p t ≡ None → (after change known).states p t ≡ None
state_none all_gone known p t none is = refl
state_none (context_told id context) known p t none is = is
state_none (context_gone id) known p t none is = is
state_none (threads_told process ids) known p t none is = is
state_none (thread_joined process id) known p t none is = is
state_none (threads_gone process) known p t none is = is
state_none (threads_stale process) known p t none is = gone_if (process == p) (known.states p t) is
state_none (state_told process thread state) known p t none is = thread_told process thread p t state known.states none is
state_none (state_gone process thread) known p t none is = thread_gone process thread p t None known.states refl is
state_none (register_read process thread index value) known p t none is = is
state_none (register_gone process thread index) known p t none is = is
state_none (thread_registers_gone process thread) known p t none is = is
state_none registers_gone known p t none is = is
state_none (bytes_read process addr bytes) known p t none is = is
state_none (bytes_gone process) known p t none is = is
state_none (range_gone process addr size) known p t none is = is
state_none (properties_told id properties) known p t none is = is
state_none (properties_gone id) known p t none is = is
state_none (status_told id status) known p t none is = is
state_none (status_gone id) known p t none is = is
state_none statuses_gone known p t none is = is

register_none : (change : Change) (known : Facts) (p t i : ℕ) → is_among (p ∷ t ∷ i ∷ []) (register_key change) ≡ false → known.registers p t i ≡ None → (after change known).registers p t i ≡ None
register_none all_gone known p t i none is = refl
register_none (context_told id context) known p t i none is = is
register_none (context_gone id) known p t i none is = is
register_none (threads_told process ids) known p t i none is = is
register_none (thread_joined process id) known p t i none is = is
register_none (threads_gone process) known p t i none is = is
register_none (threads_stale process) known p t i none is = gone_if (process == p) (known.registers p t i) is
register_none (state_told process thread state) known p t i none is = is
register_none (state_gone process thread) known p t i none is = is
register_none (register_read process thread index value) known p t i none is =
    register_read_there (is_suspended (known.states process thread)) (at_register process thread index (Some value) known.registers) known.registers p t i
    (register_told process thread index p t i value known.registers none is) is
register_none (register_gone process thread index) known p t i none is = register_gone_there process thread index p t i known.registers is
register_none (thread_registers_gone process thread) known p t i none is = registers_thread_gone process thread p t i known.registers is
register_none registers_gone known p t i none is = refl
register_none (bytes_read process addr bytes) known p t i none is = is
register_none (bytes_gone process) known p t i none is = is
register_none (range_gone process addr size) known p t i none is = is
register_none (properties_told id properties) known p t i none is = is
register_none (properties_gone id) known p t i none is = is
register_none (status_told id status) known p t i none is = is
register_none (status_gone id) known p t i none is = is
register_none statuses_gone known p t i none is = is

properties_none : (change : Change) (known : Facts) (q : List ℕ) → is_among q (properties_key change) ≡ false → known.properties q ≡ None → (after change known).properties q ≡ None
properties_none all_gone known q none is = refl
properties_none (context_told id context) known q none is = is
properties_none (context_gone id) known q none is = is
properties_none (threads_told process ids) known q none is = is
properties_none (thread_joined process id) known q none is = is
properties_none (threads_gone process) known q none is = is
properties_none (threads_stale process) known q none is = is
properties_none (state_told process thread state) known q none is = is
properties_none (state_gone process thread) known q none is = is
properties_none (register_read process thread index value) known q none is = is
properties_none (register_gone process thread index) known q none is = is
properties_none (thread_registers_gone process thread) known q none is = is
properties_none registers_gone known q none is = is
properties_none (bytes_read process addr bytes) known q none is = is
properties_none (bytes_gone process) known q none is = is
properties_none (range_gone process addr size) known q none is = is
properties_none (properties_told id properties) known q none is = text_told id q properties known.properties none is
properties_none (properties_gone id) known q none is = text_gone id q known.properties is
properties_none (status_told id status) known q none is = is
properties_none (status_gone id) known q none is = is
properties_none statuses_gone known q none is = is

status_none : (change : Change) (known : Facts) (q : List ℕ) → is_among q (status_key change) ≡ false → known.statuses q ≡ None → (after change known).statuses q ≡ None
status_none all_gone known q none is = refl
status_none (context_told id context) known q none is = is
status_none (context_gone id) known q none is = is
status_none (threads_told process ids) known q none is = is
status_none (thread_joined process id) known q none is = is
status_none (threads_gone process) known q none is = is
status_none (threads_stale process) known q none is = is
status_none (state_told process thread state) known q none is = is
status_none (state_gone process thread) known q none is = is
status_none (register_read process thread index value) known q none is = is
status_none (register_gone process thread index) known q none is = is
status_none (thread_registers_gone process thread) known q none is = is
status_none registers_gone known q none is = is
status_none (bytes_read process addr bytes) known q none is = is
status_none (bytes_gone process) known q none is = is
status_none (range_gone process addr size) known q none is = is
status_none (properties_told id properties) known q none is = is
status_none (properties_gone id) known q none is = is
status_none (status_told id status) known q none is = text_told id q status known.statuses none is
status_none (status_gone id) known q none is = text_gone id q known.statuses is
status_none statuses_gone known q none is = refl

-- ---- all of them

pub contexts_none : (changes : List Change) (known : Facts) (q : List ℕ) → is_among q (flat_map context_key changes) ≡ false → known.contexts q ≡ None → (after_all changes known).contexts q ≡ None
contexts_none [] known q none is = is
contexts_none (change ∷ changes) known q none is =
    contexts_none changes (after change known) q (not_right q (context_key change) (flat_map context_key changes) none)
    (context_none change known q (not_left q (context_key change) (flat_map context_key changes) none) is)

pub threads_none : (changes : List Change) (known : Facts) (p : ℕ) → is_among (p ∷ []) (flat_map threads_key changes) ≡ false → known.threads p ≡ None → (after_all changes known).threads p ≡ None
threads_none [] known p none is = is
threads_none (change ∷ changes) known p none is =
    threads_none changes (after change known) p (not_right (p ∷ []) (threads_key change) (flat_map threads_key changes) none)
    (thread_none change known p (not_left (p ∷ []) (threads_key change) (flat_map threads_key changes) none) is)

pub states_none : (changes : List Change) (known : Facts) (p t : ℕ) → is_among (p ∷ t ∷ []) (flat_map state_key changes) ≡ false → known.states p t ≡ None → (after_all changes known).states p t ≡ None
states_none [] known p t none is = is
states_none (change ∷ changes) known p t none is =
    states_none changes (after change known) p t (not_right (p ∷ t ∷ []) (state_key change) (flat_map state_key changes) none)
    (state_none change known p t (not_left (p ∷ t ∷ []) (state_key change) (flat_map state_key changes) none) is)

pub registers_none : (changes : List Change) (known : Facts) (p t i : ℕ) → is_among (p ∷ t ∷ i ∷ []) (flat_map register_key changes) ≡ false → known.registers p t i ≡ None
    → (after_all changes known).registers p t i ≡ None
registers_none [] known p t i none is = is
registers_none (change ∷ changes) known p t i none is =
    registers_none changes (after change known) p t i (not_right (p ∷ t ∷ i ∷ []) (register_key change) (flat_map register_key changes) none)
    (register_none change known p t i (not_left (p ∷ t ∷ i ∷ []) (register_key change) (flat_map register_key changes) none) is)

pub all_properties_none : (changes : List Change) (known : Facts) (q : List ℕ) → is_among q (flat_map properties_key changes) ≡ false → known.properties q ≡ None
    → (after_all changes known).properties q ≡ None
all_properties_none [] known q none is = is
all_properties_none (change ∷ changes) known q none is =
    all_properties_none changes (after change known) q (not_right q (properties_key change) (flat_map properties_key changes) none)
    (properties_none change known q (not_left q (properties_key change) (flat_map properties_key changes) none) is)

pub statuses_none : (changes : List Change) (known : Facts) (q : List ℕ) → is_among q (flat_map status_key changes) ≡ false → known.statuses q ≡ None → (after_all changes known).statuses q ≡ None
statuses_none [] known q none is = is
statuses_none (change ∷ changes) known q none is =
    statuses_none changes (after change known) q (not_right q (status_key change) (flat_map status_key changes) none)
    (status_none change known q (not_left q (status_key change) (flat_map status_key changes) none) is)
