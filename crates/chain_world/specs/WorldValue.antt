-- The world of all chains as contracts see it.
use Rattle.std.specs.Prelude.{ℕ, Bool, List, Option, refl}
use Rattle.std.specs.Coded.{Coded, code_by, coded×, coded_bool, coded_list, coded_option, coded_ℕ}
use Rattle.agent_node.specs.AgentValue.{AgentValue}
use Rattle.target_hub.specs.declared.input.Input.{Input}
use Rattle.chain_world.specs.ChainValue.{ChainValue}

-- a world: the agent, the number of the next channel on it, while one is left, the chains, and the history of the target
pub record WorldValue : Type 0 where
  pub agent : AgentValue
  pub next : Option ℕ
  pub chains : List ChainValue
  pub history : List Input
  pub is_spent : Bool  -- memory was wanting, and nothing is done any more

-- how the logic stores a world, by how it stores the agent, a chain and an input
abbrev pub world_code : Coded AgentValue → Coded ChainValue → Coded Input → Coded WorldValue
world_code agent chain input =
    code_by (AgentValue × (Option ℕ × (List ChainValue × (List Input × Bool)))) (coded× agent (coded× (coded_option coded_ℕ) (coded× (coded_list chain) (coded× (coded_list input) coded_bool))))
    (λ w. (w.agent, (w.next, (w.chains, (w.history, w.is_spent)))))
    (λ p. record { agent = p.0; next = p.1.0; chains = p.1.1.0; history = p.1.1.1.0; is_spent = p.1.1.1.1 }) (λ _. refl)
