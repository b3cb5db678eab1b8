-- What is the same but for bytes is the same after a change.
use Rattle.std.proofs.Common.{◌≡◌, ℕ, Bool, true, false, cond, List, [], ◌∷◌, ◌++◌, length, Option, Some, None, option_map, nat_eq, nat_lt, ◌&&◌, refl, ap, ◌∙◌}
use Rattle.std.specs.Prelude.{bytes_eq, option_and_then}
use Rattle.std.specs.List.{list_all}
use Rattle.block_store.specs.Store.{added}
use Rattle.block_store.specs.declared.block.Block.{Block}
use Rattle.tcf_values.specs.Ids.{context_of}
use Rattle.tcf_values.specs.declared.ids.ContextId.{ContextId}
use Rattle.tcf_values.specs.declared.ids.ContextId.TheVariants.{Process, Thread}
use Rattle.tcf_values.specs.declared.values.BpProps.{BpProps}
use Rattle.tcf_values.specs.declared.values.BpStatus.{BpStatus}
use Rattle.tcf_values.specs.declared.values.ContextData.{ContextData}
use Rattle.knowledge.specs.Changes.{Change, all_gone, context_told, context_gone, threads_told, thread_joined, threads_gone, threads_stale, state_told, state_gone, register_read, register_gone, thread_registers_gone, registers_gone, bytes_read, bytes_gone, range_gone, properties_told, properties_gone, status_told, status_gone, statuses_gone, after, after_all, are_still, at_number, at_register, at_text, at_thread, is_still, with_id}
use Rattle.knowledge.specs.Facts.{AreSame, Facts, is_suspended, nothing, state_at, state_of}
use Rattle.knowledge.specs.KnowledgeValue.{blocks_after, blocks_after_all}
use Rattle.knowledge.specs.Laws.{BlocksStaySame, FactsStaySame}
use Rattle.knowledge.specs.Learning.{changes_of}
use Rattle.knowledge.specs.declared.state.StateFact.{StateFact}

pub same_refl : (known : Facts) → AreSame known known
same_refl known = record {
  contexts = λ id. refl;
  threads = λ process. refl;
  states = λ process thread. refl;
  registers = λ process thread index. refl;
  properties = λ id. refl;
  statuses = λ id. refl;
}

pub same_then : {known other last : Facts} → AreSame known other → AreSame other last → AreSame known last
same_then one two = record {
  contexts = λ id. one.contexts id ∙ two.contexts id;
  threads = λ process. one.threads process ∙ two.threads process;
  states = λ process thread. one.states process thread ∙ two.states process thread;
  registers = λ process thread index. one.registers process thread index ∙ two.registers process thread index;
  properties = λ id. one.properties id ∙ two.properties id;
  statuses = λ id. one.statuses id ∙ two.statuses id;
}

-- ---- one place written

text_same : {A : Type 0} (id : List ℕ) (value : Option A) (f g : List ℕ → Option A) → ((other : List ℕ) → f other ≡ g other)
    → (other : List ℕ) → at_text id value f other ≡ at_text id value g other
text_same id value f g same other = ap (cond (bytes_eq id other) value) (same other)

number_same : {A : Type 0} (number : ℕ) (value other : A) (f g : ℕ → A) → value ≡ other → ((n : ℕ) → f n ≡ g n)
    → (n : ℕ) → at_number number value f n ≡ at_number number other g n
number_same number value other f g is same n = ap (λ x. cond (nat_eq number n) x (f n)) is ∙ ap (cond (nat_eq number n) other) (same n)

thread_same : {A : Type 0} (process thread : ℕ) (value : Option A) (f g : ℕ → ℕ → Option A) → ((p t : ℕ) → f p t ≡ g p t)
    → (p t : ℕ) → at_thread process thread value f p t ≡ at_thread process thread value g p t
thread_same process thread value f g same p t = ap (cond (nat_eq process p && nat_eq thread t) value) (same p t)

register_same : (process thread index : ℕ) (value : Option ℕ) (f g : ℕ → ℕ → ℕ → Option ℕ) → ((p t i : ℕ) → f p t i ≡ g p t i)
    → (p t i : ℕ) → at_register process thread index value f p t i ≡ at_register process thread index value g p t i
register_same process thread index value f g same p t i = ap (cond (nat_eq process p && nat_eq thread t && nat_eq index i) value) (same p t i)

choice_same : {A : Type 0} (b : Bool) (d : ℕ → A) (f g : ℕ → A) → ((i : ℕ) → f i ≡ g i) → (i : ℕ) → cond b d f i ≡ cond b d g i
choice_same true d f g same i = refl
choice_same false d f g same i = same i

read_by : (b : Bool) (f g h k : ℕ → ℕ → ℕ → Option ℕ) → ((p t i : ℕ) → f p t i ≡ h p t i) → ((p t i : ℕ) → g p t i ≡ k p t i)
    → (p t i : ℕ) → cond b f g p t i ≡ cond b h k p t i
read_by true f g h k one two p t i = one p t i
read_by false f g h k one two p t i = two p t i

read_same : (process thread index value : ℕ) (known other : Facts) → AreSame known other → (p t i : ℕ)
    → (after (register_read process thread index value) known).registers p t i ≡ (after (register_read process thread index value) other).registers p t i
read_same process thread index value known other same p t i =
    ap (λ s. cond (is_suspended s) (at_register process thread index (Some value) known.registers) known.registers p t i) (same.states process thread)
    ∙ read_by (is_suspended (other.states process thread)) (at_register process thread index (Some value) known.registers) known.registers
    (at_register process thread index (Some value) other.registers) other.registers
    (register_same process thread index (Some value) known.registers other.registers same.registers) same.registers p t i

-- ---- the threads of a process

state_at_same : (known other : Facts) → AreSame known other → (context : Option ContextId)
    → option_and_then (state_at known) context ≡ option_and_then (state_at other) context
state_at_same known other same None = refl
state_at_same known other same (Some (Process process)) = refl
state_at_same known other same (Some (Thread process thread)) = same.states process thread

all_suspended_same : (known other : Facts) → AreSame known other → (ids : List (List ℕ))
    → list_all (λ id. is_suspended (state_of id known)) ids ≡ list_all (λ id. is_suspended (state_of id other)) ids
all_suspended_same known other same [] = refl
all_suspended_same known other same (id ∷ ids) =
    ap (λ s. is_suspended s && list_all (λ x. is_suspended (state_of x known)) ids) (state_at_same known other same (context_of id))
    ∙ ap (λ rest. is_suspended (state_of id other) && rest) (all_suspended_same known other same ids)

are_still_same : (known other : Facts) → AreSame known other → (ids : Option (List (List ℕ))) → are_still known ids ≡ are_still other ids
are_still_same known other same None = refl
are_still_same known other same (Some ids) = ap (λ all. nat_lt 0 (length ids) && all) (all_suspended_same known other same ids)

pub still_same : (process : ℕ) (known other : Facts) → AreSame known other → is_still process known ≡ is_still process other
still_same process known other same = ap (are_still known) (same.threads process) ∙ are_still_same known other same (other.threads process)

-- ---- a change

with_contexts : {known other : Facts} (f g : List ℕ → Option ContextData) → AreSame known other → ((id : List ℕ) → f id ≡ g id)
    → AreSame (record known { contexts = f }) (record other { contexts = g })
with_contexts f g same here =
    record { contexts = here; threads = same.threads; states = same.states; registers = same.registers; properties = same.properties; statuses = same.statuses }

with_threads : {known other : Facts} (f g : ℕ → Option (List (List ℕ))) → AreSame known other → ((p : ℕ) → f p ≡ g p)
    → AreSame (record known { threads = f }) (record other { threads = g })
with_threads f g same here =
    record { contexts = same.contexts; threads = here; states = same.states; registers = same.registers; properties = same.properties; statuses = same.statuses }

with_states : {known other : Facts} (f g : ℕ → ℕ → Option StateFact) → AreSame known other → ((p t : ℕ) → f p t ≡ g p t)
    → AreSame (record known { states = f }) (record other { states = g })
with_states f g same here =
    record { contexts = same.contexts; threads = same.threads; states = here; registers = same.registers; properties = same.properties; statuses = same.statuses }

with_registers : {known other : Facts} (f g : ℕ → ℕ → ℕ → Option ℕ) → AreSame known other → ((p t i : ℕ) → f p t i ≡ g p t i)
    → AreSame (record known { registers = f }) (record other { registers = g })
with_registers f g same here =
    record { contexts = same.contexts; threads = same.threads; states = same.states; registers = here; properties = same.properties; statuses = same.statuses }

with_bytes : {known other : Facts} (f g : ℕ → ℕ → ℕ → Bool) → AreSame known other → AreSame (record known { bytes = f }) (record other { bytes = g })
with_bytes f g same =
    record { contexts = same.contexts; threads = same.threads; states = same.states; registers = same.registers; properties = same.properties; statuses = same.statuses }

with_properties : {known other : Facts} (f g : List ℕ → Option BpProps) → AreSame known other → ((id : List ℕ) → f id ≡ g id)
    → AreSame (record known { properties = f }) (record other { properties = g })
with_properties f g same here =
    record { contexts = same.contexts; threads = same.threads; states = same.states; registers = same.registers; properties = here; statuses = same.statuses }

with_statuses : {known other : Facts} (f g : List ℕ → Option BpStatus) → AreSame known other → ((id : List ℕ) → f id ≡ g id)
    → AreSame (record known { statuses = f }) (record other { statuses = g })
with_statuses f g same here =
    record { contexts = same.contexts; threads = same.threads; states = same.states; registers = same.registers; properties = same.properties; statuses = here }

pub after_same : (change : Change) (known other : Facts) → AreSame known other → AreSame (after change known) (after change other)
after_same all_gone known other same = same_refl nothing
after_same (context_told id context) known other same = with_contexts _ _ same (text_same id (Some context) known.contexts other.contexts same.contexts)
after_same (context_gone id) known other same = with_contexts _ _ same (text_same id None known.contexts other.contexts same.contexts)
after_same (threads_told process ids) known other same =
    with_threads _ _ same (number_same process (Some ids) (Some ids) known.threads other.threads refl same.threads)
after_same (thread_joined process id) known other same =
    with_threads _ _ same (number_same process (option_map (with_id id) (known.threads process)) (option_map (with_id id) (other.threads process))
    known.threads other.threads (ap (option_map (with_id id)) (same.threads process)) same.threads)
after_same (threads_gone process) known other same =
    with_threads _ _ same (number_same process None None known.threads other.threads refl same.threads)
after_same (threads_stale process) known other same = record {
  contexts = same.contexts;
  threads = same.threads;
  states = λ p t. ap (cond (nat_eq process p) None) (same.states p t);
  registers = λ p t i. ap (cond (nat_eq process p) None) (same.registers p t i);
  properties = same.properties;
  statuses = same.statuses;
}
after_same (state_told process thread state) known other same = with_states _ _ same (thread_same process thread (Some state) known.states other.states same.states)
after_same (state_gone process thread) known other same = with_states _ _ same (thread_same process thread None known.states other.states same.states)
after_same (register_read process thread index value) known other same = with_registers _ _ same (read_same process thread index value known other same)
after_same (register_gone process thread index) known other same =
    with_registers _ _ same (register_same process thread index None known.registers other.registers same.registers)
after_same (thread_registers_gone process thread) known other same =
    with_registers _ _ same (λ p t. choice_same (nat_eq process p && nat_eq thread t) (λ i. None) (known.registers p t) (other.registers p t) (same.registers p t))
after_same registers_gone known other same = with_registers _ _ same (λ p t i. refl)
after_same (bytes_read process addr bytes) known other same = with_bytes _ _ same
after_same (bytes_gone process) known other same = with_bytes _ _ same
after_same (range_gone process addr size) known other same = with_bytes _ _ same
after_same (properties_told id properties) known other same =
    with_properties _ _ same (text_same id (Some properties) known.properties other.properties same.properties)
after_same (properties_gone id) known other same = with_properties _ _ same (text_same id None known.properties other.properties same.properties)
after_same (status_told id status) known other same = with_statuses _ _ same (text_same id (Some status) known.statuses other.statuses same.statuses)
after_same (status_gone id) known other same = with_statuses _ _ same (text_same id None known.statuses other.statuses same.statuses)
after_same statuses_gone known other same = with_statuses _ _ same (λ id. refl)

pub after_all_same : (changes : List Change) (known other : Facts) → AreSame known other → AreSame (after_all changes known) (after_all changes other)
after_all_same [] known other same = same
after_all_same (change ∷ changes) known other same = after_all_same changes (after change known) (after change other) (after_same change known other same)

pub after_all-append : (xs ys : List Change) (known : Facts) → after_all (xs ++ ys) known ≡ after_all ys (after_all xs known)
after_all-append [] ys known = refl
after_all-append (x ∷ xs) ys known = after_all-append xs ys (after x known)

-- ---- the blocks

pub blocks_same : (change : Change) (known other : Facts) (blocks : List Block) → AreSame known other → blocks_after change known blocks ≡ blocks_after change other blocks
blocks_same all_gone known other blocks same = refl
blocks_same (context_told id context) known other blocks same = refl
blocks_same (context_gone id) known other blocks same = refl
blocks_same (threads_told process ids) known other blocks same = refl
blocks_same (thread_joined process id) known other blocks same = refl
blocks_same (threads_gone process) known other blocks same = refl
blocks_same (threads_stale process) known other blocks same = refl
blocks_same (state_told process thread state) known other blocks same = refl
blocks_same (state_gone process thread) known other blocks same = refl
blocks_same (register_read process thread index value) known other blocks same = refl
blocks_same (register_gone process thread index) known other blocks same = refl
blocks_same (thread_registers_gone process thread) known other blocks same = refl
blocks_same registers_gone known other blocks same = refl
blocks_same (bytes_read process addr bytes) known other blocks same =
    ap (λ still. cond still (added (record { process = process; addr = addr; bytes = bytes }) blocks) blocks) (still_same process known other same)
blocks_same (bytes_gone process) known other blocks same = refl
blocks_same (range_gone process addr size) known other blocks same = refl
blocks_same (properties_told id properties) known other blocks same = refl
blocks_same (properties_gone id) known other blocks same = refl
blocks_same (status_told id status) known other blocks same = refl
blocks_same (status_gone id) known other blocks same = refl
blocks_same statuses_gone known other blocks same = refl

pub blocks_all_same : (changes : List Change) (known other : Facts) (blocks : List Block) → AreSame known other
    → blocks_after_all changes known blocks ≡ blocks_after_all changes other blocks
blocks_all_same [] known other blocks same = refl
blocks_all_same (change ∷ changes) known other blocks same =
    ap (blocks_after_all changes (after change known)) (blocks_same change known other blocks same)
    ∙ blocks_all_same changes (after change known) (after change other) (blocks_after change other blocks) (after_same change known other same)

pub blocks_all-append : (xs ys : List Change) (known : Facts) (blocks : List Block)
    → blocks_after_all (xs ++ ys) known blocks ≡ blocks_after_all ys (after_all xs known) (blocks_after_all xs known blocks)
blocks_all-append [] ys known blocks = refl
blocks_all-append (x ∷ xs) ys known blocks = blocks_all-append xs ys (after x known) (blocks_after x known blocks)

-- ---- a message

pub facts_stay_same : FactsStaySame
facts_stay_same message known other same = after_all_same (changes_of message) known other same

pub blocks_stay_same : BlocksStaySame
blocks_stay_same message known other blocks same = blocks_all_same (changes_of message) known other blocks same
