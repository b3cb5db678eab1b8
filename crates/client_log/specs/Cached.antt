-- What a line `cached` shows of a cache.
use Rattle.std.specs.Prelude.{ℕ, List, ◌∷◌, ◌++◌, Option, Some, None, option_map, option_and_then, codes, decimal}
use Rattle.block_store.specs.Store.{covered}
use Rattle.block_store.specs.declared.block.Block.{Block}
use Rattle.cache_learning.specs.Kept.{kept_blocks}
use Rattle.cached_lines.specs.declared.what.CachedWhat.{CachedWhat}
use Rattle.cached_lines.specs.declared.what.CachedWhat.TheVariants.{Context, State, Register, Properties, Status, Bytes}
use Rattle.hex.specs.Hex.{encode_lower}
use Rattle.json_values.specs.Contexts.{context_json}
use Rattle.json_values.specs.Props.{bp_json}
use Rattle.json_values.specs.States.{hits_json}
use Rattle.json_values.specs.Statuses.{status_json}
use Rattle.knowledge.specs.Facts.{Facts}
use Rattle.knowledge.specs.Learning.{Message, learned}
use Rattle.knowledge.specs.declared.state.StateFact.{StateFact}
use Rattle.knowledge.specs.declared.state.StateFact.TheVariants as state
use Rattle.serde_json.specs.Data.{Data, string}
use Rattle.serde_json.specs.Written.{compact_text}
use Rattle.tcf_text.specs.Log.{shown}
use Rattle.tcf_values.specs.Ids.{context_of, register_of}
use Rattle.tcf_values.specs.declared.ids.ContextId.{ContextId}
use Rattle.tcf_values.specs.declared.ids.ContextId.TheVariants.{Process, Thread}

-- a value in JSON, shown as parts of data are
abbrev pub json_shown : Data → List ℕ
json_shown value = shown (compact_text value)

-- ---- the state of a thread, with its pc, which may not be known

unfoldable pub running_word : List ℕ
running_word = codes "running"

unfoldable pub suspended_word : List ℕ
suspended_word = codes "suspended"

abbrev pub pc_text : Option ℕ → List ℕ
pc_text None = codes "?"
pc_text (Some pc) = decimal pc

-- `running`, or `suspended PC REASON STATE`
abbrev pub state_text : Option ℕ → StateFact → List ℕ
state_text pc state.Running = running_word
state_text pc (state.Suspended reason hits) = suspended_word ++ 32 ∷ pc_text pc ++ 32 ∷ json_shown (string reason) ++ 32 ∷ json_shown (hits_json hits)

abbrev pub state_shown : Facts → ContextId → Option (List ℕ)
state_shown known (Process process) = None
state_shown known (Thread process thread) = option_map (state_text (known.registers process thread 32)) (known.states process thread)

-- ---- bytes of a process

abbrev pub bytes_shown : ℕ → ℕ → List Block → ContextId → Option (List ℕ)
bytes_shown addr size blocks (Process process) = option_map encode_lower (covered process addr size blocks)
bytes_shown addr size blocks (Thread process thread) = None

-- ---- what is shown where this is known and these blocks are kept; none where what is asked isn't known

abbrev pub shown_of : CachedWhat → Facts → List Block → Option (List ℕ)
shown_of (Context id) known blocks = option_map (λ context. json_shown (context_json context)) (known.contexts id)
shown_of (State id) known blocks = option_and_then (state_shown known) (context_of id)
shown_of (Register id) known blocks =
    option_map decimal (option_and_then (λ r. known.registers r.process r.thread r.index) (register_of id))
shown_of (Properties id) known blocks = option_map (λ properties. json_shown (bp_json properties)) (known.properties id)
shown_of (Status id) known blocks = option_map (λ status. json_shown (status_json status)) (known.statuses id)
shown_of (Bytes id addr size) known blocks = option_and_then (bytes_shown addr size blocks) (context_of id)

-- what a peer shows that took these messages
abbrev pub cached_value : CachedWhat → List Message → Option (List ℕ)
cached_value what messages = shown_of what (learned messages) (kept_blocks messages)
