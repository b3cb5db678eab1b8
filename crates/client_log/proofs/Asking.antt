-- What is shown of a cache is the same for the same facts.
use Rattle.std.proofs.Common.{◌≡◌, ◌∙◌, refl, ap, List, Option, Some, None}
use Rattle.std.specs.Prelude.{option_map, option_and_then, decimal}
use Rattle.block_store.specs.declared.block.Block.{Block}
use Rattle.cached_lines.specs.declared.what.CachedWhat.{CachedWhat}
use Rattle.cached_lines.specs.declared.what.CachedWhat.TheVariants.{Context, State, Register, Properties, Status, Bytes}
use Rattle.cache_learning.specs.Kept.{Keeps, kept_blocks}
use Rattle.knowledge.specs.Facts.{AreSame, Facts}
use Rattle.knowledge.specs.KnowledgeValue.{KnowledgeValue, facts_of}
use Rattle.knowledge.specs.Learning.{Message, learned}
use Rattle.tcf_values.specs.Ids.{context_of, register_of}
use Rattle.tcf_values.specs.declared.ids.ContextId.{ContextId}
use Rattle.tcf_values.specs.declared.ids.ContextId.TheVariants.{Process, Thread}
use Rattle.tcf_values.specs.declared.ids.RegisterId.{RegisterId}
use Rattle.client_log.specs.Cached.{cached_value, shown_of, state_shown}

state_same : (known other : Facts) → AreSame known other → (id : Option ContextId)
    → option_and_then (state_shown known) id ≡ option_and_then (state_shown other) id
state_same known other same None = refl
state_same known other same (Some (Process process)) = refl
state_same known other same (Some (Thread process thread)) = rw (same.states process thread, same.registers process thread 32)

register_same : (known other : Facts) → AreSame known other → (id : Option RegisterId)
    → option_and_then (λ (r : RegisterId). known.registers r.process r.thread r.index) id
    ≡ option_and_then (λ (r : RegisterId). other.registers r.process r.thread r.index) id
register_same known other same None = refl
register_same known other same (Some r) = same.registers r.process r.thread r.index

shown_same : (what : CachedWhat) (known other : Facts) (blocks : List Block) → AreSame known other
    → shown_of what known blocks ≡ shown_of what other blocks
shown_same (Context id) known other blocks same = rw (same.contexts id)
shown_same (State id) known other blocks same = state_same known other same (context_of id)
shown_same (Register id) known other blocks same = ap (option_map decimal) (register_same known other same (register_of id))
shown_same (Properties id) known other blocks same = rw (same.properties id)
shown_same (Status id) known other blocks same = rw (same.statuses id)
shown_same (Bytes id addr size) known other blocks same = refl

-- a cache that keeps these messages shows what they teach
pub shown_kept : (what : CachedWhat) (messages : List Message) (cache : KnowledgeValue) → Keeps messages cache
    → shown_of what (facts_of cache) cache.blocks ≡ cached_value what messages
shown_kept what messages cache keeps =
    ap (λ blocks. shown_of what (facts_of cache) blocks) keeps.blocks ∙ shown_same what (facts_of cache) (learned messages) (kept_blocks messages) keeps.facts
