-- Where a fact that is known after changes comes from: it was known before and isn't touched, or it was told.
use Rattle.std.proofs.Common.{◌≡◌, ℕ, ◌==◌, ◌&&◌, ◌||◌, ◌⊎◌, Bool, true, false, true≢false, cond, not, List, [], ◌∷◌, ◌++◌, Option, Some, None, option_map, inl, inr, refl, sym, ap, ◌∙◌}
use Rattle.std.specs.Prelude.{bytes_eq}
use Rattle.std.specs.List.{AllByRecursion, list_any}
use Rattle.std.proofs.lemmas.Bool.{and_parts, both_ways, cond-false, eqb-true, ne_eqb, or_parts, or_cases}
use Rattle.std.proofs.lemmas.Option.{none-some}
use Rattle.std.proofs.lemmas.Slice.Eq.{bytes_eq-Decides}
use Rattle.knowledge.specs.Changes.{Change, after, after_all, all_gone, at_register, context_told, context_gone, threads_told, thread_joined, threads_gone, threads_stale, state_told, state_gone, register_read, register_gone, thread_registers_gone, registers_gone, bytes_read, bytes_gone, range_gone, properties_told, properties_gone, status_told, status_gone, statuses_gone, has_byte, is_still, is_within, with_id}
use Rattle.knowledge.specs.Facts.{Fact, Facts, IsPart, Knows, context_is, threads_are, state_is, register_is, byte_is, properties_are, status_is, is_suspended}
use Rattle.target_truth.proofs.Based.{dropped, hidden}
use Rattle.knowledge.proofs.Monotone.{cond_at, still_then}

-- what a change tells is among the facts, but for a list of threads
abbrev pub IsAmong : Facts → Change → Type 0
IsAmong more (context_told id context) = more.contexts id ≡ Some context
IsAmong more (state_told process thread state) = more.states process thread ≡ Some state
IsAmong more (register_read process thread index value) = more.registers process thread index ≡ Some value
IsAmong more (bytes_read process addr bytes) =
    is_still process more ≡ true → (place byte : ℕ) → has_byte addr bytes place byte ≡ true → more.bytes process place byte ≡ true
IsAmong more (properties_told id properties) = more.properties id ≡ Some properties
IsAmong more (status_told id status) = more.statuses id ≡ Some status
IsAmong more _ = Unit {0}

-- and so is a list of threads
abbrev pub IsListed : Facts → Change → Type 0
IsListed more (threads_told process ids) = more.threads process ≡ Some ids
IsListed more (thread_joined process id) = ⊥
IsListed more _ = Unit {0}

-- it is no list of threads
abbrev pub IsPlain : Fact → Type 0
IsPlain (threads_are process ids) = ⊥
IsPlain _ = Unit {0}

-- which facts a change drops, or tells anew
abbrev pub touches : Fact → Change → Bool
touches fact all_gone = true
touches (context_is id context) (context_told other told) = bytes_eq other id
touches (context_is id context) (context_gone other) = bytes_eq other id
touches (state_is process thread state) (state_told p t told) = (p == process) && (t == thread)
touches (state_is process thread state) (state_gone p t) = (p == process) && (t == thread)
touches (state_is process thread state) (threads_stale p) = p == process
touches (register_is process thread index value) (register_gone p t i) = (p == process) && (t == thread) && (i == index)
touches (register_is process thread index value) (thread_registers_gone p t) = (p == process) && (t == thread)
touches (register_is process thread index value) (threads_stale p) = p == process
touches (register_is process thread index value) registers_gone = true
touches (byte_is process addr byte) (bytes_gone p) = p == process
touches (byte_is process addr byte) (range_gone p first size) = (p == process) && is_within first size addr
touches (properties_are id properties) (properties_told other told) = bytes_eq other id
touches (properties_are id properties) (properties_gone other) = bytes_eq other id
touches (status_is id status) (status_told other told) = bytes_eq other id
touches (status_is id status) (status_gone other) = bytes_eq other id
touches (status_is id status) statuses_gone = true
touches fact _ = false

-- an event tells no bytes
abbrev pub is_bytes : Change → Bool
is_bytes (bytes_read process addr bytes) = true
is_bytes _ = false

-- ---- one place written, or dropped

chosen : {A : Type 0} (b : Bool) (value rest : Option A) (x : A) → cond b value rest ≡ Some x
    → ((b ≡ true) × (value ≡ Some x)) ⊎ ((rest ≡ Some x) × (b ≡ false))
chosen true value rest x is = inl (refl, is)
chosen false value rest x is = inr (is, refl)

unless : (a b : Bool) → (a && not b) ≡ true → (a ≡ true) × (b ≡ false)
unless true true is = absurd (true≢false (sym is))
unless true false is = (refl, refl)
unless false b is = absurd (true≢false (sym is))

text_same : {A : Type 0} (f : List ℕ → Option A) (id other : List ℕ) → bytes_eq id other ≡ true → f other ≡ f id
text_same f id other is = ap f (sym ((bytes_eq-Decides id other).0 is))

pair_same : {A : Type 0} (f : ℕ → ℕ → A) (p t q u : ℕ) → ((p == q) && (t == u)) ≡ true → f q u ≡ f p t
pair_same f p t q u is =
    let parts = and_parts _ _ is in
    let one : p ≡ q = eqb-true p q parts.0 in
    let two : t ≡ u = eqb-true t u parts.1 in
    sym (ap (λ k. f k t) one ∙ ap (f q) two)

register_same : (f : ℕ → ℕ → ℕ → Option ℕ) (p t i q u j : ℕ) → ((p == q) && (t == u) && (i == j)) ≡ true → f q u j ≡ f p t i
register_same f p t i q u j is =
    let parts = and_parts _ _ is in
    ap (f q u) (sym (eqb-true i j parts.1)) ∙ pair_same (λ k l. f k l i) p t q u parts.0

read_from : (p t i value q u j x : ℕ) (known more : Facts) (c : Bool) → more.registers p t i ≡ Some value
    → cond c (cond ((p == q) && (t == u) && (i == j)) (Some value) (known.registers q u j)) (known.registers q u j) ≡ Some x
    → (more.registers q u j ≡ Some x) ⊎ (known.registers q u j ≡ Some x)
read_from p t i value q u j x known more true so is =
    elim (chosen ((p == q) && (t == u) && (i == j)) (Some value) (known.registers q u j) x is) [
      | inl e ↦ inl (register_same more.registers p t i q u j e.0 ∙ (so ∙ e.1))
      | inr e ↦ inr e.0
    ]
read_from p t i value q u j x known more false so is = inr is

-- ---- one change

pub comes_from : (more known : Facts) (change : Change) (fact : Fact) → IsPlain fact → IsAmong more change
    → (is_bytes change ≡ true → (process : ℕ) → is_still process known ≡ true → is_still process more ≡ true)
    → Knows (after change known) fact → Knows more fact ⊎ (Knows known fact × (touches fact change ≡ false))
comes_from more known all_gone (context_is id x) plain so still knows = absurd (none-some x knows)
comes_from more known all_gone (threads_are q x) plain so still knows = absurd (none-some x knows)
comes_from more known all_gone (state_is q u x) plain so still knows = absurd (none-some x knows)
comes_from more known all_gone (register_is q u j x) plain so still knows = absurd (none-some x knows)
comes_from more known all_gone (byte_is q place x) plain so still knows = absurd (true≢false (sym knows))
comes_from more known all_gone (properties_are id x) plain so still knows = absurd (none-some x knows)
comes_from more known all_gone (status_is id x) plain so still knows = absurd (none-some x knows)
comes_from more known (context_told id context) (context_is other x) plain so still knows =
    elim (chosen (bytes_eq id other) (Some context) (known.contexts other) x knows) [
      | inl e ↦ inl (text_same more.contexts id other e.0 ∙ (so ∙ e.1))
      | inr e ↦ inr e
    ]
comes_from more known (context_gone id) (context_is other x) plain so still knows = inr (hidden (bytes_eq id other) (known.contexts other) x knows)
comes_from more known (state_told p t state) (state_is q u x) plain so still knows =
    elim (chosen ((p == q) && (t == u)) (Some state) (known.states q u) x knows) [
      | inl e ↦ inl (pair_same more.states p t q u e.0 ∙ (so ∙ e.1))
      | inr e ↦ inr e
    ]
comes_from more known (state_gone p t) (state_is q u x) plain so still knows = inr (hidden ((p == q) && (t == u)) (known.states q u) x knows)
comes_from more known (threads_stale p) (state_is q u x) plain so still knows = inr (hidden (p == q) (known.states q u) x knows)
comes_from more known (threads_stale p) (register_is q u j x) plain so still knows = inr (hidden (p == q) (known.registers q u j) x knows)
comes_from more known (threads_told p ids) (threads_are q x) plain so still knows = absurd plain
comes_from more known (thread_joined p id) (threads_are q x) plain so still knows = absurd plain
comes_from more known (threads_gone p) (threads_are q x) plain so still knows = absurd plain
comes_from more known (register_read p t i value) (register_is q u j x) plain so still knows =
    let c : Bool = is_suspended (known.states p t) in
    elim (read_from p t i value q u j x known more c so (sym (cond_at c (at_register p t i (Some value) known.registers) known.registers q u j) ∙ knows)) [
      | inl e ↦ inl e
      | inr e ↦ inr (e, refl)
    ]
comes_from more known (register_gone p t i) (register_is q u j x) plain so still knows =
    inr (hidden ((p == q) && (t == u) && (i == j)) (known.registers q u j) x knows)
comes_from more known (thread_registers_gone p t) (register_is q u j x) plain so still knows =
    inr (dropped ((p == q) && (t == u)) (known.registers q u) j x knows)
comes_from more known registers_gone (register_is q u j x) plain so still knows = absurd (none-some x knows)
comes_from more known (bytes_read p addr bytes) (byte_is q place x) plain so still knows =
    elim (or_cases (known.bytes q place x) (is_still p known && (p == q) && has_byte addr bytes place x) knows) [
      | inl e ↦ inr (e, refl)
      | inr e ↦
          let parts = and_parts _ _ e in
          let front = and_parts _ _ parts.0 in
          let same : p ≡ q = eqb-true p q front.1 in
          inl (ap (λ k. more.bytes k place x) (sym same) ∙ so (still refl p front.0) place x parts.1)
    ]
comes_from more known (bytes_gone p) (byte_is q place x) plain so still knows = inr (unless (known.bytes q place x) (p == q) knows)
comes_from more known (range_gone p addr size) (byte_is q place x) plain so still knows =
    inr (unless (known.bytes q place x) ((p == q) && is_within addr size place) knows)
comes_from more known (properties_told id properties) (properties_are other x) plain so still knows =
    elim (chosen (bytes_eq id other) (Some properties) (known.properties other) x knows) [
      | inl e ↦ inl (text_same more.properties id other e.0 ∙ (so ∙ e.1))
      | inr e ↦ inr e
    ]
comes_from more known (properties_gone id) (properties_are other x) plain so still knows = inr (hidden (bytes_eq id other) (known.properties other) x knows)
comes_from more known (status_told id status) (status_is other x) plain so still knows =
    elim (chosen (bytes_eq id other) (Some status) (known.statuses other) x knows) [
      | inl e ↦ inl (text_same more.statuses id other e.0 ∙ (so ∙ e.1))
      | inr e ↦ inr e
    ]
comes_from more known (status_gone id) (status_is other x) plain so still knows = inr (hidden (bytes_eq id other) (known.statuses other) x knows)
comes_from more known statuses_gone (status_is other x) plain so still knows = absurd (none-some x knows)
comes_from more known _ fact plain so still knows = inr (knows, refl)

-- ---- lists of threads

-- what a change makes of the list of the threads of a process
abbrev pub list_by : ℕ → Change → Option (List (List ℕ)) → Option (List (List ℕ))
list_by q all_gone list = None
list_by q (threads_told p ids) list = cond (p == q) (Some ids) list
list_by q (thread_joined p id) list = cond (p == q) (option_map (with_id id) list) list
list_by q (threads_gone p) list = cond (p == q) None list
list_by q _ list = list

abbrev pub list_after : ℕ → List Change → Option (List (List ℕ)) → Option (List (List ℕ))
list_after q [] list = list
list_after q (change ∷ changes) list = list_after q changes (list_by q change list)

joins_by : (p q : ℕ) (id : List ℕ) (known : Facts) (same : Bool) → (p == q) ≡ same
    → cond same (option_map (with_id id) (known.threads p)) (known.threads q) ≡ cond same (option_map (with_id id) (known.threads q)) (known.threads q)
joins_by p q id known true same = ap (λ k. option_map (with_id id) (known.threads k)) (eqb-true p q same)
joins_by p q id known false same = refl

one_list : (q : ℕ) (change : Change) (known : Facts) → (after change known).threads q ≡ list_by q change (known.threads q)
one_list q (thread_joined p id) known = joins_by p q id known (p == q) refl
one_list q change known = refl

pub lists_after : (q : ℕ) (changes : List Change) (known : Facts) → (after_all changes known).threads q ≡ list_after q changes (known.threads q)
lists_after q [] known = refl
lists_after q (change ∷ changes) known = lists_after q changes (after change known) ∙ ap (list_after q changes) (one_list q change known)

pub list_append : (q : ℕ) (some more : List Change) (list : Option (List (List ℕ))) → list_after q (some ++ more) list ≡ list_after q more (list_after q some list)
list_append q [] more list = refl
list_append q (change ∷ some) more list = list_append q some more (list_by q change list)

-- changes that speak of no list but that of one process
abbrev pub ListsOne : ℕ → Change → Type 0
ListsOne number all_gone = ⊥
ListsOne number (threads_told p ids) = p ≡ number
ListsOne number (thread_joined p id) = p ≡ number
ListsOne number (threads_gone p) = p ≡ number
ListsOne number _ = Unit {0}

elsewhere : (p q : ℕ) (told list : Option (List (List ℕ))) → (p ≡ q → ⊥) → cond (p == q) told list ≡ list
elsewhere p q told list differ = cond-false (p == q) told list (ne_eqb p q differ)

other_list : (number q : ℕ) (change : Change) (list : Option (List (List ℕ))) → ListsOne number change → (q ≡ number → ⊥) → list_by q change list ≡ list
other_list number q all_gone list one differ = absurd one
other_list number q (threads_told p ids) list one differ = elsewhere p q (Some ids) list (λ same. differ (sym same ∙ one))
other_list number q (thread_joined p id) list one differ = elsewhere p q (option_map (with_id id) list) list (λ same. differ (sym same ∙ one))
other_list number q (threads_gone p) list one differ = elsewhere p q None list (λ same. differ (sym same ∙ one))
other_list number q change list one differ = refl

pub other_lists : (number q : ℕ) (changes : List Change) (list : Option (List (List ℕ))) → AllByRecursion (ListsOne number) changes → (q ≡ number → ⊥) → list_after q changes list ≡ list
other_lists number q [] list one differ = refl
other_lists number q (change ∷ changes) list one differ =
    ap (list_after q changes) (other_list number q change list one.0 differ) ∙ other_lists number q changes list one.1 differ

-- changes that speak of no list
abbrev pub ListsNone : Change → Type 0
ListsNone all_gone = ⊥
ListsNone (threads_told p ids) = ⊥
ListsNone (thread_joined p id) = ⊥
ListsNone (threads_gone p) = ⊥
ListsNone _ = Unit {0}

no_list : (q : ℕ) (change : Change) (list : Option (List (List ℕ))) → ListsNone change → list_by q change list ≡ list
no_list q all_gone list none = absurd none
no_list q (threads_told p ids) list none = absurd none
no_list q (thread_joined p id) list none = absurd none
no_list q (threads_gone p) list none = absurd none
no_list q change list none = refl

pub no_lists : (q : ℕ) (changes : List Change) (list : Option (List (List ℕ))) → AllByRecursion ListsNone changes → list_after q changes list ≡ list
no_lists q [] list none = refl
no_lists q (change ∷ changes) list none = ap (list_after q changes) (no_list q change list none.0) ∙ no_lists q changes list none.1

-- ---- changes one after another

-- who knows less knows all threads of a process as suspended only where the other does
pub still_known : (process : ℕ) (some more : Facts) → IsPart some more → is_still process some ≡ true → is_still process more ≡ true
still_known process some more part = still_then process some more (record {
  contexts = λ id x. part (context_is id x);
  threads = λ p x. part (threads_are p x);
  states = λ p t x. part (state_is p t x);
  registers = λ p t i x. part (register_is p t i x);
  bytes = λ p place byte. part (byte_is p place byte);
  properties = λ id x. part (properties_are id x);
  statuses = λ id x. part (status_is id x);
})

list_so : (more : Facts) (change : Change) (q : ℕ) (list : Option (List (List ℕ))) (x : List (List ℕ)) → IsListed more change → (list ≡ Some x → more.threads q ≡ Some x)
    → list_by q change list ≡ Some x → more.threads q ≡ Some x
list_so more all_gone q list x so part is = absurd (none-some x is)
list_so more (threads_told p ids) q list x so part is =
    elim (chosen (p == q) (Some ids) list x is) [
      | inl e ↦ ap more.threads (sym (eqb-true p q e.0)) ∙ (so ∙ e.1)
      | inr e ↦ part e.0
    ]
list_so more (thread_joined p id) q list x so part is = absurd so
list_so more (threads_gone p) q list x so part is = part (hidden (p == q) list x is).0
list_so more change q list x so part is = part is

plain_part : (more known : Facts) (change : Change) (fact : Fact) → IsPlain fact → IsAmong more change → IsPart known more → Knows (after change known) fact → Knows more fact
plain_part more known change fact plain so part knows =
    elim (comes_from more known change fact plain so (λ _ p. still_known p known more part) knows) [
      | inl k ↦ k
      | inr k ↦ part fact k.0
    ]

pub after_part : (more known : Facts) (change : Change) → IsAmong more change → IsListed more change → IsPart known more → IsPart (after change known) more
after_part more known change so listed part (threads_are q x) knows =
    list_so more change q (known.threads q) x listed (part (threads_are q x)) (sym (one_list q change known) ∙ knows)
after_part more known change so listed part fact knows = plain_part more known change fact tt so part knows

-- each plain fact that was known and isn't among these is touched by a change to come
abbrev Covers : Facts → List Change → Facts → Type 0
Covers more changes known = (fact : Fact) → IsPlain fact → Knows known fact → Knows more fact ⊎ (list_any (touches fact) changes ≡ true)

later : (P : Type 0) (a b : Bool) → a ≡ false → P ⊎ ((a || b) ≡ true) → P ⊎ (b ≡ true)
later P a b not (inl p) = inl p
later P true b not (inr e) = absurd (true≢false not)
later P false b not (inr e) = inr e

plain_parts : (more known : Facts) (changes : List Change) → AllByRecursion (IsAmong more) changes → list_any is_bytes changes ≡ false → Covers more changes known
    → (fact : Fact) → IsPlain fact → Knows (after_all changes known) fact → Knows more fact
plain_parts more known [] so none covers = λ fact plain knows.
    elim (covers fact plain knows) [
      | inl k ↦ k
      | inr e ↦ absurd (true≢false (sym e))
    ]
plain_parts more known (change ∷ changes) so none covers =
    let apart = or_parts (is_bytes change) (list_any is_bytes changes) none in
    plain_parts more (after change known) changes so.1 apart.1 (λ fact plain knows.
    elim (comes_from more known change fact plain so.0 (λ is. absurd (both_ways _ apart.0 is)) knows) [
      | inl k ↦ inl k
      | inr k ↦ later (Knows more fact) (touches fact change) (list_any (touches fact) changes) k.1 (covers fact plain k.0)
    ])

pub all_part : (more known : Facts) (changes : List Change) → AllByRecursion (IsAmong more) changes → list_any is_bytes changes ≡ false → Covers more changes known
    → ((q : ℕ) (x : List (List ℕ)) → list_after q changes (known.threads q) ≡ Some x → more.threads q ≡ Some x) → IsPart (after_all changes known) more
all_part more known changes so none covers lists (threads_are q x) knows = lists q x (sym (lists_after q changes known) ∙ knows)
all_part more known changes so none covers lists fact knows = plain_parts more known changes so none covers fact tt knows
