-- What a message makes of a store.
use Rattle.std.proofs.Common.{◌≡◌, ℕ, false, List, [], ◌∷◌, Option, None, refl, sym, ap, ◌∙◌}
use Rattle.std.specs.Prelude.{Result, Ok, Err, OnOk}
use Rattle.std.specs.FinMap as finite
use Rattle.std.specs.List.{flat_map}
use Rattle.block_store.specs.declared.block.Block.{Block}
use Rattle.cache_learning.specs.Kept.{Learns}
use Rattle.knowledge.specs.Facts.{AreSame, Facts}
use Rattle.knowledge.specs.KnowledgeValue.{KnowledgeValue, facts_of}
use Rattle.knowledge.specs.Learning.{Message, changes_of, learn, other_taken}
use Rattle.value_store.specs.Learning.{taught}
use Rattle.value_store.specs.Rows.{Rows, context_key, facts_in, keys_after, learned_rows, properties_key, register_key, register_under, rows_of, state_key, state_under, status_key, threads_key, threads_under}
use Rattle.value_store.specs.StoreValue.{StoreValue}
use Rattle.knowledge.proofs.TheLaws.{blocks_stay_same, facts_stay_same}
use Rattle.value_store.proofs.Cached.{cache_same, context_at, properties_at, register_at, state_at, status_at, threads_at}
use Rattle.value_store.proofs.Changing.{all_properties_none, contexts_none, registers_none, states_none, statuses_none, threads_none}
use Rattle.value_store.proofs.Keyed.{get_at, is_among, not_left, not_right, nothing_under, same_keyed}
use Rattle.knowledge.proofs.Same.{same_then}

-- ---- what the rows say after a message

module _ (message : Message) (rows : Rows) where
  after_it : Facts
  after_it = learn message (facts_in rows)

  context_after : (q : List ℕ) → finite.get (learned_rows message rows).contexts q ≡ (learn message (facts_in rows)).contexts q
  context_after q = get_at (learn message (facts_in rows)).contexts (keys_after (changes_of message) rows).contexts q (λ none.
      contexts_none (changes_of message) (facts_in rows) q (not_right q (finite.keys rows.contexts) (flat_map context_key (changes_of message)) none)
      (nothing_under rows.contexts q (not_left q (finite.keys rows.contexts) (flat_map context_key (changes_of message)) none)))

  properties_after : (q : List ℕ) → finite.get (learned_rows message rows).properties q ≡ (learn message (facts_in rows)).properties q
  properties_after q = get_at (learn message (facts_in rows)).properties (keys_after (changes_of message) rows).properties q (λ none.
      all_properties_none (changes_of message) (facts_in rows) q (not_right q (finite.keys rows.properties) (flat_map properties_key (changes_of message)) none)
      (nothing_under rows.properties q (not_left q (finite.keys rows.properties) (flat_map properties_key (changes_of message)) none)))

  status_after : (q : List ℕ) → finite.get (learned_rows message rows).statuses q ≡ (learn message (facts_in rows)).statuses q
  status_after q = get_at (learn message (facts_in rows)).statuses (keys_after (changes_of message) rows).statuses q (λ none.
      statuses_none (changes_of message) (facts_in rows) q (not_right q (finite.keys rows.statuses) (flat_map status_key (changes_of message)) none)
      (nothing_under rows.statuses q (not_left q (finite.keys rows.statuses) (flat_map status_key (changes_of message)) none)))

  threads_after : (q : List ℕ) → finite.get (learned_rows message rows).threads q ≡ threads_under (learn message (facts_in rows)) q
  threads_after q = get_at (threads_under (learn message (facts_in rows))) (keys_after (changes_of message) rows).threads q (none q)
    where
      none : (k : List ℕ) → is_among k (keys_after (changes_of message) rows).threads ≡ false → threads_under (learn message (facts_in rows)) k ≡ None
      none [] e = refl
      none (p ∷ []) e =
          threads_none (changes_of message) (facts_in rows) p (not_right (p ∷ []) (finite.keys rows.threads) (flat_map threads_key (changes_of message)) e)
          (nothing_under rows.threads (p ∷ []) (not_left (p ∷ []) (finite.keys rows.threads) (flat_map threads_key (changes_of message)) e))
      none (p ∷ t ∷ k) e = refl

  state_after : (q : List ℕ) → finite.get (learned_rows message rows).states q ≡ state_under (learn message (facts_in rows)) q
  state_after q = get_at (state_under (learn message (facts_in rows))) (keys_after (changes_of message) rows).states q (none q)
    where
      none : (k : List ℕ) → is_among k (keys_after (changes_of message) rows).states ≡ false → state_under (learn message (facts_in rows)) k ≡ None
      none [] e = refl
      none (p ∷ []) e = refl
      none (p ∷ t ∷ []) e =
          states_none (changes_of message) (facts_in rows) p t (not_right (p ∷ t ∷ []) (finite.keys rows.states) (flat_map state_key (changes_of message)) e)
          (nothing_under rows.states (p ∷ t ∷ []) (not_left (p ∷ t ∷ []) (finite.keys rows.states) (flat_map state_key (changes_of message)) e))
      none (p ∷ t ∷ i ∷ k) e = refl

  register_after : (q : List ℕ) → finite.get (learned_rows message rows).registers q ≡ register_under (learn message (facts_in rows)) q
  register_after q = get_at (register_under (learn message (facts_in rows))) (keys_after (changes_of message) rows).registers q (none q)
    where
      none : (k : List ℕ) → is_among k (keys_after (changes_of message) rows).registers ≡ false → register_under (learn message (facts_in rows)) k ≡ None
      none [] e = refl
      none (p ∷ []) e = refl
      none (p ∷ t ∷ []) e = refl
      none (p ∷ t ∷ i ∷ []) e =
          registers_none (changes_of message) (facts_in rows) p t i (not_right (p ∷ t ∷ i ∷ []) (finite.keys rows.registers) (flat_map register_key (changes_of message)) e)
          (nothing_under rows.registers (p ∷ t ∷ i ∷ []) (not_left (p ∷ t ∷ i ∷ []) (finite.keys rows.registers) (flat_map register_key (changes_of message)) e))
      none (p ∷ t ∷ i ∷ j ∷ k) e = refl

-- the rows after a message say what is known then
pub rows_learned : (message : Message) (rows : Rows) → AreSame (facts_in (learned_rows message rows)) (learn message (facts_in rows))
rows_learned message rows = record {
  contexts = λ id. context_after message rows id;
  threads = λ process. threads_after message rows (process ∷ []);
  states = λ process thread. state_after message rows (process ∷ thread ∷ []);
  registers = λ process thread index. register_after message rows (process ∷ thread ∷ index ∷ []);
  properties = λ id. properties_after message rows id;
  statuses = λ id. status_after message rows id;
}

-- ---- a cache that has learned it

threads_alike : {known other : Facts} → AreSame known other → (q : List ℕ) → threads_under known q ≡ threads_under other q
threads_alike same [] = refl
threads_alike same (p ∷ []) = same.threads p
threads_alike same (p ∷ t ∷ q) = refl

states_alike : {known other : Facts} → AreSame known other → (q : List ℕ) → state_under known q ≡ state_under other q
states_alike same [] = refl
states_alike same (p ∷ []) = refl
states_alike same (p ∷ t ∷ []) = same.states p t
states_alike same (p ∷ t ∷ i ∷ q) = refl

registers_alike : {known other : Facts} → AreSame known other → (q : List ℕ) → register_under known q ≡ register_under other q
registers_alike same [] = refl
registers_alike same (p ∷ []) = refl
registers_alike same (p ∷ t ∷ []) = refl
registers_alike same (p ∷ t ∷ i ∷ []) = same.registers p t i
registers_alike same (p ∷ t ∷ i ∷ j ∷ q) = refl

one_rows : (some more : Rows) → some.contexts ≡ more.contexts → some.threads ≡ more.threads → some.states ≡ more.states → some.registers ≡ more.registers → some.properties ≡ more.properties → some.statuses ≡ more.statuses → some ≡ more
one_rows some more contexts threads states registers properties statuses =
    λ i. record { contexts = contexts i; threads = threads i; states = states i; registers = registers i; properties = properties i; statuses = statuses i }

rows_same : (message : Message) (rows : Rows) (now : KnowledgeValue) → AreSame (facts_of now) (learn message (facts_in rows)) → rows_of now ≡ learned_rows message rows
rows_same message rows now same =
    one_rows (rows_of now) (learned_rows message rows)
    (same_keyed _ _ (λ q. context_at now q ∙ same.contexts q ∙ sym (context_after message rows q)))
    (same_keyed _ _ (λ q. threads_at now q ∙ threads_alike same q ∙ sym (threads_after message rows q)))
    (same_keyed _ _ (λ q. state_at now q ∙ states_alike same q ∙ sym (state_after message rows q)))
    (same_keyed _ _ (λ q. register_at now q ∙ registers_alike same q ∙ sym (register_after message rows q)))
    (same_keyed _ _ (λ q. properties_at now q ∙ same.properties q ∙ sym (properties_after message rows q)))
    (same_keyed _ _ (λ q. status_at now q ∙ same.statuses q ∙ sym (status_after message rows q)))

abbrev pub store_of : KnowledgeValue → Option ℕ → StoreValue
store_of cache mark = record { known = rows_of cache; blocks = cache.blocks; mark = mark }

one_store : (known more : Rows) (blocks rest : List Block) (mark : Option ℕ) → known ≡ more → blocks ≡ rest
    → ◌≡◌ {A = StoreValue} (record { known = known; blocks = blocks; mark = mark }) (record { known = more; blocks = rest; mark = mark })
one_store known more blocks rest mark same alike = λ i. record { known = same i; blocks = alike i; mark = mark }

pub taught_is : (message : Message) (before now : KnowledgeValue) (mark : Option ℕ) → Learns message before now
    → store_of now mark ≡ taught message (store_of before mark)
taught_is message before now mark learns =
    let own : AreSame (facts_of before) (facts_in (rows_of before)) = cache_same before in
    one_store _ _ _ _ mark
    (rows_same message (rows_of before) now (same_then learns.facts (facts_stay_same message (facts_of before) (facts_in (rows_of before)) own)))
    (learns.blocks ∙ blocks_stay_same message (facts_of before) (facts_in (rows_of before)) before.blocks own)

-- what teaches nothing
pub taught_nothing : (cache : KnowledgeValue) (mark : Option ℕ) → store_of cache mark ≡ taught other_taken (store_of cache mark)
taught_nothing cache mark = one_store _ _ _ _ mark (rows_same other_taken (rows_of cache) cache (cache_same cache)) refl

-- where it is learned
pub heard_is : {T E : Type 0} (result : Result T E) (message : Message) (before now : KnowledgeValue) (mark : Option ℕ) (s : StoreValue)
    → store_of before mark ≡ s → OnOk result (Learns message before now) → OnOk result (store_of now mark ≡ taught message s)
heard_is (Ok value) message before now mark s same learns = taught_is message before now mark learns ∙ ap (taught message) same
heard_is (Err error) message before now mark s same learns = tt

pub heard_nothing : (cache : KnowledgeValue) (mark : Option ℕ) (s : StoreValue) → store_of cache mark ≡ s → s ≡ taught other_taken s
heard_nothing cache mark s same = sym same ∙ taught_nothing cache mark ∙ ap (taught other_taken) same
