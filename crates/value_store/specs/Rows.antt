-- What is known but for bytes, as maps under keys: who knows the same has the same maps.
use Rattle.std.specs.Prelude.{ℕ, false, List, [], ◌∷◌, ◌++◌, length, map, Option, Some, None}
use Rattle.std.specs.FinMap as finite
use Rattle.std.specs.FinMap.{FinMap}
use Rattle.std.specs.List.{flat_map, range_with_len}
use Rattle.std.specs.Cmp.Lexicographic.{slice_cmp}
use Rattle.std.specs.Ordering.{nat_cmp}
use Rattle.knowledge.specs.Changes.{Change, context_told, properties_told, register_read, state_told, status_told, thread_joined, threads_told}
use Rattle.knowledge.specs.Facts.{Facts}
use Rattle.knowledge.specs.KnowledgeValue.{KnowledgeValue, facts_of}
use Rattle.knowledge.specs.Learning.{Message, changes_of, learn}
use Rattle.knowledge.specs.declared.state.StateFact.{StateFact}
use Rattle.tcf_values.specs.declared.values.BpProps.{BpProps}
use Rattle.tcf_values.specs.declared.values.BpStatus.{BpStatus}
use Rattle.tcf_values.specs.declared.values.ContextData.{ContextData}

-- a key is a text, or the number of a process, or the numbers of a process and of its thread, or those and one of a
-- register
abbrev pub Keyed : Type 0 → Type 0
Keyed X = FinMap (slice_cmp nat_cmp) X

pub record Rows : Type 0 where
  pub contexts : Keyed ContextData
  pub threads : Keyed (List (List ℕ))
  pub states : Keyed StateFact
  pub registers : Keyed ℕ
  pub properties : Keyed BpProps
  pub statuses : Keyed BpStatus

abbrev pub no_rows : Rows
no_rows = record { contexts = finite.empty; threads = finite.empty; states = finite.empty; registers = finite.empty; properties = finite.empty; statuses = finite.empty }

-- the facts that they are
abbrev pub facts_in : Rows → Facts
facts_in rows = record {
  contexts = λ id. finite.get rows.contexts id;
  threads = λ process. finite.get rows.threads (process ∷ []);
  states = λ process thread. finite.get rows.states (process ∷ thread ∷ []);
  registers = λ process thread index. finite.get rows.registers (process ∷ thread ∷ index ∷ []);
  bytes = λ process place byte. false;
  properties = λ id. finite.get rows.properties id;
  statuses = λ id. finite.get rows.statuses id;
}

-- ---- the rows of facts

abbrev pub threads_under : Facts → List ℕ → Option (List (List ℕ))
threads_under known (process ∷ []) = known.threads process
threads_under known _ = None

abbrev pub state_under : Facts → List ℕ → Option StateFact
state_under known (process ∷ thread ∷ []) = known.states process thread
state_under known _ = None

abbrev pub register_under : Facts → List ℕ → Option ℕ
register_under known (process ∷ thread ∷ index ∷ []) = known.registers process thread index
register_under known _ = None

abbrev pub entry_at : {X : Type 0} → List ℕ → Option X → List (List ℕ × X)
entry_at key None = []
entry_at key (Some x) = (key, x) ∷ []

-- those under these keys
abbrev pub at_keys : {X : Type 0} → (List ℕ → Option X) → List (List ℕ) → Keyed X
at_keys known keys = finite.from_entries (flat_map (λ key. entry_at key (known key)) keys)

-- the keys under which something may be known
pub record Keys : Type 0 where
  pub contexts : List (List ℕ)
  pub threads : List (List ℕ)
  pub states : List (List ℕ)
  pub registers : List (List ℕ)
  pub properties : List (List ℕ)
  pub statuses : List (List ℕ)

abbrev pub rows_at : Keys → Facts → Rows
rows_at keys known = record {
  contexts = at_keys known.contexts keys.contexts;
  threads = at_keys (threads_under known) keys.threads;
  states = at_keys (state_under known) keys.states;
  registers = at_keys (register_under known) keys.registers;
  properties = at_keys known.properties keys.properties;
  statuses = at_keys known.statuses keys.statuses;
}

-- ---- of a cache

-- those of the rows of a process
abbrev pub state_keys : {A : Type 0} → ℕ × List (ℕ × A) → List (List ℕ)
state_keys row = map (λ thread. row.0 ∷ thread.0 ∷ []) row.1

abbrev pub index_keys : ℕ → ℕ × List (Option ℕ) → List (List ℕ)
index_keys process thread = map (λ index. process ∷ thread.0 ∷ index ∷ []) (range_with_len 0 (length thread.1))

abbrev pub register_keys : ℕ × List (ℕ × List (Option ℕ)) → List (List ℕ)
register_keys row = flat_map (index_keys row.0) row.1

abbrev pub keys_of : KnowledgeValue → Keys
keys_of value = record {
  contexts = map (λ row. row.0) value.contexts;
  threads = map (λ row. row.0 ∷ []) value.threads;
  states = flat_map state_keys value.states;
  registers = flat_map register_keys value.registers;
  properties = map (λ row. row.0) value.properties;
  statuses = map (λ row. row.0) value.statuses;
}

abbrev pub rows_of : KnowledgeValue → Rows
rows_of value = rows_at (keys_of value) (facts_of value)

-- ---- what a message makes of them

-- the keys under which a change tells something
abbrev pub context_key : Change → List (List ℕ)
context_key (context_told id context) = id ∷ []
context_key _ = []

abbrev pub threads_key : Change → List (List ℕ)
threads_key (threads_told process ids) = (process ∷ []) ∷ []
threads_key (thread_joined process id) = (process ∷ []) ∷ []
threads_key _ = []

abbrev pub state_key : Change → List (List ℕ)
state_key (state_told process thread state) = (process ∷ thread ∷ []) ∷ []
state_key _ = []

abbrev pub register_key : Change → List (List ℕ)
register_key (register_read process thread index value) = (process ∷ thread ∷ index ∷ []) ∷ []
register_key _ = []

abbrev pub properties_key : Change → List (List ℕ)
properties_key (properties_told id properties) = id ∷ []
properties_key _ = []

abbrev pub status_key : Change → List (List ℕ)
status_key (status_told id status) = id ∷ []
status_key _ = []

-- nothing else is known then but what was known, or is told
abbrev pub keys_after : List Change → Rows → Keys
keys_after changes rows = record {
  contexts = finite.keys rows.contexts ++ flat_map context_key changes;
  threads = finite.keys rows.threads ++ flat_map threads_key changes;
  states = finite.keys rows.states ++ flat_map state_key changes;
  registers = finite.keys rows.registers ++ flat_map register_key changes;
  properties = finite.keys rows.properties ++ flat_map properties_key changes;
  statuses = finite.keys rows.statuses ++ flat_map status_key changes;
}

abbrev pub learned_rows : Message → Rows → Rows
learned_rows message rows = rows_at (keys_after (changes_of message) rows) (learn message (facts_in rows))
