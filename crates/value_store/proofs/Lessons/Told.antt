-- Whoever knows a part of what is known still does after changes that tell what is known.
use Rattle.std.proofs.Common.{◌≡◌, ℕ, ◌+◌, ◌-◌, ◌≤◌, nat_eq, ◌&&◌, ◌||◌, Bool, true, false, true≢false, cond, List, [], ◌∷◌, slice_get, Option, Some, None, option_map, refl, sym, ap, ◌∙◌, inl, inr, arith}
use Rattle.std.specs.List.{AllByRecursion}
use Rattle.std.specs.Prelude.{bytes_eq, nat_le}
use Rattle.std.proofs.lemmas.Bool.{and_parts, eqb-true, leb-true, or_cases}
use Rattle.std.proofs.lemmas.Slice.Eq.{bytes_eq-Decides}
use Rattle.knowledge.specs.Changes.{Change, all_gone, context_told, context_gone, threads_told, thread_joined, threads_gone, threads_stale, state_told, state_gone, register_read, register_gone, thread_registers_gone, registers_gone, bytes_read, bytes_gone, range_gone, properties_told, properties_gone, status_told, status_gone, statuses_gone, after, after_all, at_register, has_byte, is_byte, is_still, with_id}
use Rattle.knowledge.specs.Facts.{context_is, threads_are, state_is, register_is, byte_is, properties_are, status_is, Facts, IsPart, is_suspended}
use Rattle.list_laws.proofs.Lists.{no_some}

-- what the change tells is known
abbrev pub Tells : Facts → Change → Type 0
Tells known (context_told id context) = known.contexts id ≡ Some context
Tells known (threads_told process ids) = known.threads process ≡ Some ids
Tells known (thread_joined process id) = option_map (with_id id) (known.threads process) ≡ known.threads process
Tells known (state_told process thread state) = known.states process thread ≡ Some state
Tells known (register_read process thread index value) = known.registers process thread index ≡ Some value
Tells known (bytes_read process addr bytes) = (k byte : ℕ) → slice_get bytes k ≡ Some byte → known.bytes process (addr + k) byte ≡ true
Tells known (properties_told id properties) = known.properties id ≡ Some properties
Tells known (status_told id status) = known.statuses id ≡ Some status
Tells known _ = Unit {0}

-- ---- one place written

at_text_known : {A : Type 0} → (known : List ℕ → Option A) (id other : List ℕ) (told x : A) (before : Option A) (b : Bool) → bytes_eq id other ≡ b → known id ≡ Some told
    → (before ≡ Some x → known other ≡ Some x) → cond b (Some told) before ≡ Some x → known other ≡ Some x
at_text_known known id other told x before true same there part is =
    let e : id ≡ other = (bytes_eq-Decides id other).0 same in
    sym (ap known e) ∙ there ∙ is
at_text_known known id other told x before false same there part is = part is

gone_known : {A : Type 0} → (found : Option A) (x : A) (before : Option A) (b : Bool) → (before ≡ Some x → found ≡ Some x) → cond b None before ≡ Some x → found ≡ Some x
gone_known found x before true part is = absurd (no_some x is)
gone_known found x before false part is = part is

at_thread_known : {A : Type 0} → (known : ℕ → ℕ → Option A) (process thread p t : ℕ) (told x : A) (before : Option A) (b : Bool) → (nat_eq process p && nat_eq thread t) ≡ b
    → known process thread ≡ Some told → (before ≡ Some x → known p t ≡ Some x) → cond b (Some told) before ≡ Some x → known p t ≡ Some x
at_thread_known known process thread p t told x before true same there part is =
    let parts = and_parts _ _ same in
    let one : process ≡ p = eqb-true _ _ parts.0 in
    let two : thread ≡ t = eqb-true _ _ parts.1 in
    sym (ap (λ n. known n thread) one ∙ ap (λ n. known p n) two) ∙ there ∙ is
at_thread_known known process thread p t told x before false same there part is = part is

at_number_known : {A : Type 0} → (known : ℕ → Option A) (number n : ℕ) (told before : Option A) (x : A) (b : Bool) → nat_eq number n ≡ b
    → (told ≡ Some x → known number ≡ Some x) → (before ≡ Some x → known n ≡ Some x) → cond b told before ≡ Some x → known n ≡ Some x
at_number_known known number n told before x true same there part is = sym (ap known (eqb-true number n same)) ∙ there is
at_number_known known number n told before x false same there part is = part is

-- one thread more tells nothing where it is one of those that are known
joined_known : (id : List ℕ) (before found : Option (List (List ℕ))) (x : List (List ℕ)) → ((y : List (List ℕ)) → before ≡ Some y → found ≡ Some y)
    → option_map (with_id id) found ≡ found → option_map (with_id id) before ≡ Some x → found ≡ Some x
joined_known id None found x part told is = absurd (no_some x is)
joined_known id (Some ids) found x part told is = sym told ∙ ap (option_map (with_id id)) (part ids refl) ∙ is

at_register_known : (known : ℕ → ℕ → ℕ → Option ℕ) (process thread index p t i told x : ℕ) (before : Option ℕ) (b : Bool)
    → (nat_eq process p && nat_eq thread t && nat_eq index i) ≡ b → known process thread index ≡ Some told → (before ≡ Some x → known p t i ≡ Some x)
    → cond b (Some told) before ≡ Some x → known p t i ≡ Some x
at_register_known known process thread index p t i told x before true same there part is =
    let parts = and_parts _ _ same in
    let front = and_parts _ _ parts.0 in
    let one : process ≡ p = eqb-true _ _ front.0 in
    let two : thread ≡ t = eqb-true _ _ front.1 in
    let three : index ≡ i = eqb-true _ _ parts.1 in
    sym (ap (λ n. known n thread index) one ∙ ap (λ n. known p n index) two ∙ ap (λ n. known p t n) three) ∙ there ∙ is
at_register_known known process thread index p t i told x before false same there part is = part is

read_known : (c : Bool) (process thread index value : ℕ) (some known : Facts) → known.registers process thread index ≡ Some value → (p t i x : ℕ)
    → (some.registers p t i ≡ Some x → known.registers p t i ≡ Some x)
    → cond c (at_register process thread index (Some value) some.registers) some.registers p t i ≡ Some x → known.registers p t i ≡ Some x
read_known true process thread index value some known there p t i x part is =
    at_register_known known.registers process thread index p t i value x (some.registers p t i) (nat_eq process p && nat_eq thread t && nat_eq index i) refl there part is
read_known false process thread index value some known there p t i x part is = part is

row_known : (b : Bool) (before : ℕ → Option ℕ) (i x : ℕ) (found : Option ℕ) → (before i ≡ Some x → found ≡ Some x) → cond b (λ index. None) before i ≡ Some x → found ≡ Some x
row_known true before i x found part is = absurd (no_some x is)
row_known false before i x found part is = part is

is_there : (byte : ℕ) (found : Option ℕ) → is_byte byte found ≡ true → found ≡ Some byte
is_there byte None is = absurd (true≢false (sym is))
is_there byte (Some other) is = ap (λ (n : ℕ). Some n) (eqb-true other byte is)

bytes_known : (process addr : ℕ) (bytes : List ℕ) (some known : Facts) → Tells known (bytes_read process addr bytes) → (p place byte : ℕ)
    → (some.bytes p place byte ≡ true → known.bytes p place byte ≡ true)
    → (some.bytes p place byte || (is_still process some && nat_eq process p && has_byte addr bytes place byte)) ≡ true → known.bytes p place byte ≡ true
bytes_known process addr bytes some known told p place byte part is =
    elim (or_cases (some.bytes p place byte) (is_still process some && nat_eq process p && has_byte addr bytes place byte) is) [
      | inl before ↦ part before
      | inr read ↦
          let parts = and_parts (is_still process some && nat_eq process p) (has_byte addr bytes place byte) read in
          let mine : process ≡ p = eqb-true process p (and_parts (is_still process some) (nat_eq process p) parts.0).1 in
          let has = and_parts (nat_le addr place) (is_byte byte (slice_get bytes (place - addr))) parts.1 in
          let low : addr ≤ place = leb-true _ _ has.0 in
          let at : addr + (place - addr) ≡ place = omega (arith, low) in
          sym (ap (λ n. known.bytes n place byte) mine)
          ∙ (sym (ap (λ n. known.bytes process n byte) at) ∙ told (place - addr) byte (is_there byte (slice_get bytes (place - addr)) has.1))
    ]

-- ---- a change

pub part_after : (change : Change) (some known : Facts) → Tells known change → IsPart some known → IsPart (after change some) known
part_after all_gone some known told part (context_is id x) is = absurd (no_some x is)
part_after all_gone some known told part (threads_are p x) is = absurd (no_some x is)
part_after all_gone some known told part (state_is p t x) is = absurd (no_some x is)
part_after all_gone some known told part (register_is p t i x) is = absurd (no_some x is)
part_after all_gone some known told part (byte_is p place byte) is = absurd (true≢false (sym is))
part_after all_gone some known told part (properties_are id x) is = absurd (no_some x is)
part_after all_gone some known told part (status_is id x) is = absurd (no_some x is)
part_after (context_told id context) some known told part (context_is other x) is =
    at_text_known known.contexts id other context x (some.contexts other) (bytes_eq id other) refl told (part (context_is other x)) is
part_after (context_gone id) some known told part (context_is other x) is =
    gone_known (known.contexts other) x (some.contexts other) (bytes_eq id other) (part (context_is other x)) is
part_after (threads_told process ids) some known told part (threads_are p x) is =
    at_number_known known.threads process p (Some ids) (some.threads p) x (nat_eq process p) refl (λ same. told ∙ same) (part (threads_are p x)) is
part_after (thread_joined process id) some known told part (threads_are p x) is =
    at_number_known known.threads process p (option_map (with_id id) (some.threads process)) (some.threads p) x (nat_eq process p) refl
    (joined_known id (some.threads process) (known.threads process) x (λ y. part (threads_are process y)) told) (part (threads_are p x)) is
part_after (threads_gone process) some known told part (threads_are p x) is =
    gone_known (known.threads p) x (some.threads p) (nat_eq process p) (part (threads_are p x)) is
part_after (threads_stale process) some known told part (state_is p t x) is =
    gone_known (known.states p t) x (some.states p t) (nat_eq process p) (part (state_is p t x)) is
part_after (threads_stale process) some known told part (register_is p t i x) is =
    gone_known (known.registers p t i) x (some.registers p t i) (nat_eq process p) (part (register_is p t i x)) is
part_after (state_told process thread state) some known told part (state_is p t x) is =
    at_thread_known known.states process thread p t state x (some.states p t) (nat_eq process p && nat_eq thread t) refl told (part (state_is p t x)) is
part_after (state_gone process thread) some known told part (state_is p t x) is =
    gone_known (known.states p t) x (some.states p t) (nat_eq process p && nat_eq thread t) (part (state_is p t x)) is
part_after (register_read process thread index value) some known told part (register_is p t i x) is =
    read_known (is_suspended (some.states process thread)) process thread index value some known told p t i x (part (register_is p t i x)) is
part_after (register_gone process thread index) some known told part (register_is p t i x) is =
    gone_known (known.registers p t i) x (some.registers p t i) (nat_eq process p && nat_eq thread t && nat_eq index i) (part (register_is p t i x)) is
part_after (thread_registers_gone process thread) some known told part (register_is p t i x) is =
    row_known (nat_eq process p && nat_eq thread t) (some.registers p t) i x (known.registers p t i) (part (register_is p t i x)) is
part_after registers_gone some known told part (register_is p t i x) is = absurd (no_some x is)
part_after (bytes_read process addr bytes) some known told part (byte_is p place byte) is =
    bytes_known process addr bytes some known told p place byte (part (byte_is p place byte)) is
part_after (bytes_gone process) some known told part (byte_is p place byte) is = part (byte_is p place byte) (and_parts _ _ is).0
part_after (range_gone process addr size) some known told part (byte_is p place byte) is = part (byte_is p place byte) (and_parts _ _ is).0
part_after (properties_told id properties) some known told part (properties_are other x) is =
    at_text_known known.properties id other properties x (some.properties other) (bytes_eq id other) refl told (part (properties_are other x)) is
part_after (properties_gone id) some known told part (properties_are other x) is =
    gone_known (known.properties other) x (some.properties other) (bytes_eq id other) (part (properties_are other x)) is
part_after (status_told id status) some known told part (status_is other x) is =
    at_text_known known.statuses id other status x (some.statuses other) (bytes_eq id other) refl told (part (status_is other x)) is
part_after (status_gone id) some known told part (status_is other x) is =
    gone_known (known.statuses other) x (some.statuses other) (bytes_eq id other) (part (status_is other x)) is
part_after statuses_gone some known told part (status_is other x) is = absurd (no_some x is)
part_after _ some known told part fact is = part fact is

pub part_after_all : (changes : List Change) (some known : Facts) → AllByRecursion (Tells known) changes → IsPart some known → IsPart (after_all changes some) known
part_after_all [] some known told part = part
part_after_all (change ∷ changes) some known told part = part_after_all changes (after change some) known told.1 (part_after change some known told.0 part)
