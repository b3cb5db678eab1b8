-- A chain as contracts see it.
use Rattle.std.specs.Prelude.{ℕ, List, Option, refl}
use Rattle.std.specs.Coded.{Coded, code_by, coded×, coded_list, coded_option, coded_ℕ}
use Rattle.chain_route.specs.RouteValue.{RouteValue}
use Rattle.client_node.specs.ClientValue.{ClientValue}

-- a client, its way to the agent, the number of its channel there, and those of the channels before that one
pub record ChainValue : Type 0 where
  pub client : ClientValue
  pub route : RouteValue
  pub channel : Option ℕ
  pub earlier : List ℕ

-- how the logic stores a chain, by how it stores its client and its way
abbrev pub chain_code : Coded ClientValue → Coded RouteValue → Coded ChainValue
chain_code client route =
    code_by (ClientValue × (RouteValue × (Option ℕ × List ℕ))) (coded× client (coded× route (coded× (coded_option coded_ℕ) (coded_list coded_ℕ))))
    (λ c. (c.client, (c.route, (c.channel, c.earlier)))) (λ p. record { client = p.0; route = p.1.0; channel = p.1.1.0; earlier = p.1.1.1 }) (λ _. refl)
