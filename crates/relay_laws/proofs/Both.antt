-- Who knows a part of what another has learned still does when both learn the same.
use Rattle.std.proofs.Common.{◌≡◌, ℕ, nat_eq, ◌&&◌, Bool, true, false, true≢false, cond, List, [], ◌∷◌, Option, Some, None, is_some, refl, sym, ap, ◌∙◌}
use Rattle.std.proofs.lemmas.Bool.{and_parts, both_ways, eqb-true}
use Rattle.knowledge.specs.Changes.{Change, after, after_all, all_gone, at_register, bytes_gone, bytes_read, context_gone, context_told, properties_gone, properties_told, range_gone, register_gone, register_read, registers_gone, state_gone, state_told, status_gone, status_told, statuses_gone, thread_joined, thread_registers_gone, threads_gone, threads_stale, threads_told}
use Rattle.knowledge.specs.Facts.{Facts, IsPart, byte_is, context_is, is_suspended, properties_are, register_is, state_is, status_is, threads_are}
use Rattle.knowledge.specs.Learning.{Message, changes_of, learn}
use Rattle.knowledge.specs.declared.state.StateFact.{StateFact}
use Rattle.value_store.specs.Laws.{HaveStates}
use Rattle.knowledge.proofs.Monotone.{IsWithin, within_after, within_from}
use Rattle.list_laws.proofs.Lists.{no_some}

-- of each thread of which the one knows a register both know the same state
pub record Suits (some more : Facts) : Type 0 where
  pub within : IsWithin some more
  pub alike : (p t i x : ℕ) → some.registers p t i ≡ Some x → some.states p t ≡ more.states p t

-- ---- A register that is read

still : (s r : Option StateFact) → ((x : StateFact) → s ≡ Some x → r ≡ Some x) → is_suspended s ≡ true → is_suspended r ≡ true
still None r part is = absurd (true≢false (sym is))
still (Some x) r part is = ap is_suspended (part x refl) ∙ is

same_state : (s r : Option StateFact) → ((x : StateFact) → s ≡ Some x → r ≡ Some x) → is_suspended s ≡ true → s ≡ r
same_state None r part is = absurd (true≢false (sym is))
same_state (Some x) r part is = sym (part x refl)

-- one register is not that of a thread of which both know another thing
pub record IsKey (process thread index p t i : ℕ) : Type 0 where
  pub process_is : process ≡ p
  pub thread_is : thread ≡ t
  pub index_is : index ≡ i

key : (process thread index p t i : ℕ) → (nat_eq process p && nat_eq thread t && nat_eq index i) ≡ true → IsKey process thread index p t i
key process thread index p t i is =
    let parts = and_parts _ _ is in
    let front = and_parts _ _ parts.0 in
    record { process_is = eqb-true _ _ front.0; thread_is = eqb-true _ _ front.1; index_is = eqb-true _ _ parts.1 }

written : (flag : Bool) (value x : ℕ) (f g : Option ℕ) → (f ≡ Some x → g ≡ Some x) → cond flag (Some value) f ≡ Some x → cond flag (Some value) g ≡ Some x
written true value x f g part is = is
written false value x f g part is = part is

-- both have it, or it is read by the one alone of a thread of which both know the same state, which can't be
unwritten : (flag : Bool) (value x : ℕ) (f g : Option ℕ) → (f ≡ Some x → g ≡ Some x) → (flag ≡ true → f ≡ Some x → ⊥) → f ≡ Some x → cond flag (Some value) g ≡ Some x
unwritten true value x f g part none is = absurd (none refl is)
unwritten false value x f g part none is = part is

module _ (some more : Facts) (suits : Suits some more) (process thread index value : ℕ) where
  states_part : (x : StateFact) → some.states process thread ≡ Some x → more.states process thread ≡ Some x
  states_part x is = suits.within.states process thread x is

  read_within : (c d : Bool) → is_suspended (some.states process thread) ≡ c → is_suspended (more.states process thread) ≡ d → (p t i x : ℕ)
      → cond c (at_register process thread index (Some value) some.registers) some.registers p t i ≡ Some x
      → cond d (at_register process thread index (Some value) more.registers) more.registers p t i ≡ Some x
  read_within true true one other p t i x is =
      written (nat_eq process p && nat_eq thread t && nat_eq index i) value x (some.registers p t i) (more.registers p t i) (suits.within.registers p t i x) is
  read_within true false one other p t i x is = absurd (both_ways _ other (still (some.states process thread) (more.states process thread) states_part one))
  read_within false false one other p t i x is = suits.within.registers p t i x is
  read_within false true one other p t i x is =
      unwritten (nat_eq process p && nat_eq thread t && nat_eq index i) value x (some.registers p t i) (more.registers p t i) (suits.within.registers p t i x)
      (λ here there.
      let k = key process thread index p t i here in
      let mine : some.registers process thread index ≡ Some x =
      ap (λ n. some.registers n thread index) k.process_is ∙ ap (λ n. some.registers p n index) k.thread_is ∙ ap (λ n. some.registers p t n) k.index_is ∙ there in
      both_ways _ one (ap is_suspended (suits.alike process thread index x mine) ∙ other))
      is

  read_alike : (c : Bool) → is_suspended (some.states process thread) ≡ c → (p t i x : ℕ)
      → cond c (at_register process thread index (Some value) some.registers) some.registers p t i ≡ Some x → some.states p t ≡ more.states p t
  read_alike false one p t i x is = suits.alike p t i x is
  read_alike true one p t i x is = by_flag (nat_eq process p && nat_eq thread t && nat_eq index i) refl is
    where
      by_flag : (flag : Bool) → (nat_eq process p && nat_eq thread t && nat_eq index i) ≡ flag → cond flag (Some value) (some.registers p t i) ≡ Some x → some.states p t ≡ more.states p t
      by_flag true here is =
          let k = key process thread index p t i here in
          let same : some.states process thread ≡ more.states process thread = same_state (some.states process thread) (more.states process thread) states_part one in
          sym (ap (λ n. some.states n thread) k.process_is ∙ ap (λ n. some.states p n) k.thread_is) ∙ same
          ∙ (ap (λ n. more.states n thread) k.process_is ∙ ap (λ n. more.states p n) k.thread_is)
      by_flag false here is = suits.alike p t i x is

-- ---- A change

gone : (flag : Bool) (f : Option ℕ) (x : ℕ) → cond flag None f ≡ Some x → f ≡ Some x
gone true f x is = absurd (no_some x is)
gone false f x is = is

row_gone : (flag : Bool) (f : ℕ → Option ℕ) (i x : ℕ) → cond flag (λ k. None) f i ≡ Some x → f i ≡ Some x
row_gone true f i x is = absurd (no_some x is)
row_gone false f i x is = is

alike_after : (change : Change) (some more : Facts) → Suits some more → (p t i x : ℕ) → (after change some).registers p t i ≡ Some x
    → (after change some).states p t ≡ (after change more).states p t
alike_after all_gone some more suits p t i x is = refl
alike_after (context_told id context) some more suits p t i x is = suits.alike p t i x is
alike_after (context_gone id) some more suits p t i x is = suits.alike p t i x is
alike_after (threads_told process ids) some more suits p t i x is = suits.alike p t i x is
alike_after (thread_joined process id) some more suits p t i x is = suits.alike p t i x is
alike_after (threads_gone process) some more suits p t i x is = suits.alike p t i x is
alike_after (threads_stale process) some more suits p t i x is =
    ap (λ s. cond (nat_eq process p) None s) (suits.alike p t i x (gone (nat_eq process p) (some.registers p t i) x is))
alike_after (state_told process thread state) some more suits p t i x is = ap (λ s. cond (nat_eq process p && nat_eq thread t) (Some state) s) (suits.alike p t i x is)
alike_after (state_gone process thread) some more suits p t i x is = ap (λ s. cond (nat_eq process p && nat_eq thread t) None s) (suits.alike p t i x is)
alike_after (register_read process thread index value) some more suits p t i x is =
    read_alike some more suits process thread index value (is_suspended (some.states process thread)) refl p t i x is
alike_after (register_gone process thread index) some more suits p t i x is =
    suits.alike p t i x (gone (nat_eq process p && nat_eq thread t && nat_eq index i) (some.registers p t i) x is)
alike_after (thread_registers_gone process thread) some more suits p t i x is =
    suits.alike p t i x (row_gone (nat_eq process p && nat_eq thread t) (some.registers p t) i x is)
alike_after registers_gone some more suits p t i x is = absurd (no_some x is)
alike_after (bytes_read process addr bytes) some more suits p t i x is = suits.alike p t i x is
alike_after (bytes_gone process) some more suits p t i x is = suits.alike p t i x is
alike_after (range_gone process addr size) some more suits p t i x is = suits.alike p t i x is
alike_after (properties_told id properties) some more suits p t i x is = suits.alike p t i x is
alike_after (properties_gone id) some more suits p t i x is = suits.alike p t i x is
alike_after (status_told id status) some more suits p t i x is = suits.alike p t i x is
alike_after (status_gone id) some more suits p t i x is = suits.alike p t i x is
alike_after statuses_gone some more suits p t i x is = suits.alike p t i x is

part_after : (change : Change) (some more : Facts) → Suits some more → IsWithin (after change some) (after change more)
part_after (register_read process thread index value) some more suits = record {
  contexts = suits.within.contexts;
  threads = suits.within.threads;
  states = suits.within.states;
  registers = read_within some more suits process thread index value (is_suspended (some.states process thread)) (is_suspended (more.states process thread)) refl refl;
  bytes = suits.within.bytes;
  properties = suits.within.properties;
  statuses = suits.within.statuses;
}
part_after all_gone some more suits = within_after all_gone some more tt suits.within
part_after (context_told id context) some more suits = within_after (context_told id context) some more tt suits.within
part_after (context_gone id) some more suits = within_after (context_gone id) some more tt suits.within
part_after (threads_told process ids) some more suits = within_after (threads_told process ids) some more tt suits.within
part_after (thread_joined process id) some more suits = within_after (thread_joined process id) some more tt suits.within
part_after (threads_gone process) some more suits = within_after (threads_gone process) some more tt suits.within
part_after (threads_stale process) some more suits = within_after (threads_stale process) some more tt suits.within
part_after (state_told process thread state) some more suits = within_after (state_told process thread state) some more tt suits.within
part_after (state_gone process thread) some more suits = within_after (state_gone process thread) some more tt suits.within
part_after (register_gone process thread index) some more suits = within_after (register_gone process thread index) some more tt suits.within
part_after (thread_registers_gone process thread) some more suits = within_after (thread_registers_gone process thread) some more tt suits.within
part_after registers_gone some more suits = within_after registers_gone some more tt suits.within
part_after (bytes_read process addr bytes) some more suits = within_after (bytes_read process addr bytes) some more tt suits.within
part_after (bytes_gone process) some more suits = within_after (bytes_gone process) some more tt suits.within
part_after (range_gone process addr size) some more suits = within_after (range_gone process addr size) some more tt suits.within
part_after (properties_told id properties) some more suits = within_after (properties_told id properties) some more tt suits.within
part_after (properties_gone id) some more suits = within_after (properties_gone id) some more tt suits.within
part_after (status_told id status) some more suits = within_after (status_told id status) some more tt suits.within
part_after (status_gone id) some more suits = within_after (status_gone id) some more tt suits.within
part_after statuses_gone some more suits = within_after statuses_gone some more tt suits.within

suits_after : (changes : List Change) (some more : Facts) → Suits some more → Suits (after_all changes some) (after_all changes more)
suits_after [] some more suits = suits
suits_after (change ∷ changes) some more suits =
    suits_after changes (after change some) (after change more) (record { within = part_after change some more suits; alike = alike_after change some more suits })

-- ---- A message

part_of : (some more : Facts) → IsWithin some more → IsPart some more
part_of some more within (context_is id x) = within.contexts id x
part_of some more within (threads_are p x) = within.threads p x
part_of some more within (state_is p t x) = within.states p t x
part_of some more within (register_is p t i x) = within.registers p t i x
part_of some more within (byte_is p place byte) = within.bytes p place byte
part_of some more within (properties_are id x) = within.properties id x
part_of some more within (status_is id x) = within.statuses id x

known_alike : (s r : Option StateFact) → is_some s ≡ true → ((x : StateFact) → s ≡ Some x → r ≡ Some x) → s ≡ r
known_alike None r has part = absurd (true≢false (sym has))
known_alike (Some x) r has part = sym (part x refl)

pub both_learn : (message : Message) (some more : Facts) → HaveStates some → IsPart some more → IsPart (learn message some) (learn message more)
both_learn message some more has part =
    part_of (learn message some) (learn message more) (suits_after (changes_of message) some more (record {
      within = within_from some more part;
      alike = λ p t i x is. known_alike (some.states p t) (more.states p t) (has p t i x is) (λ state. part (state_is p t state));
    })).within
