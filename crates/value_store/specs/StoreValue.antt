-- The store of a value-add as contracts see it.
use Rattle.std.specs.Prelude.{ℕ, List, Option, refl}
use Rattle.std.specs.Coded.{Coded, code_by, coded×, coded_list, coded_option, coded_ℕ}
use Rattle.std.specs.FinMap as finite
use Rattle.block_store.specs.declared.block.Block.{Block}
use Rattle.knowledge.specs.declared.state.StateFact.{StateFact}
use Rattle.tcf_values.specs.declared.values.BpProps.{BpProps}
use Rattle.tcf_values.specs.declared.values.BpStatus.{BpStatus}
use Rattle.tcf_values.specs.declared.values.ContextData.{ContextData}
use Rattle.value_store.specs.Rows.{Keyed, Rows}

-- what is known but for bytes, the blocks of bytes, the most recently used first, and the last position that came from the
-- target since the last Hello
pub record StoreValue : Type 0 where
  pub known : Rows
  pub blocks : List Block
  pub mark : Option ℕ

abbrev keyed_code : {X : Type 0} → Coded X → Coded (Keyed X)
keyed_code code = finite.code (coded_list coded_ℕ) code

-- ---- how the logic stores a store, by how it stores what stands in its maps

abbrev rows_code : Coded ContextData → Coded StateFact → Coded BpProps → Coded BpStatus → Coded Rows
rows_code context state properties status =
    code_by (Keyed ContextData × (Keyed (List (List ℕ)) × (Keyed StateFact × (Keyed ℕ × (Keyed BpProps × Keyed BpStatus)))))
    (coded× (keyed_code context) (coded× (keyed_code (coded_list (coded_list coded_ℕ))) (coded× (keyed_code state) (coded× (keyed_code coded_ℕ) (coded× (keyed_code properties) (keyed_code status))))))
    (λ rows. (rows.contexts, (rows.threads, (rows.states, (rows.registers, (rows.properties, rows.statuses))))))
    (λ p. record { contexts = p.0; threads = p.1.0; states = p.1.1.0; registers = p.1.1.1.0; properties = p.1.1.1.1.0; statuses = p.1.1.1.1.1 })
    (λ _. refl)

abbrev pub store_code : Coded ContextData → Coded StateFact → Coded BpProps → Coded BpStatus → Coded Block → Coded StoreValue
store_code context state properties status block =
    code_by (Rows × (List Block × Option ℕ)) (coded× (rows_code context state properties status) (coded× (coded_list block) (coded_option coded_ℕ)))
    (λ s. (s.known, (s.blocks, s.mark))) (λ p. record { known = p.0; blocks = p.1.0; mark = p.1.1 }) (λ _. refl)
