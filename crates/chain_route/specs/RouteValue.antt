-- A route as contracts see it.
use Rattle.std.specs.Prelude.{List, refl}
use Rattle.std.specs.Coded.{Coded, code_by, coded×, coded_list}
use Rattle.value_node.specs.ValueValue.{ValueValue}
use Rattle.chain_route.specs.declared.hop.Hop.{Hop}

-- the hops from a client up to the agent, and the value-adds between them that were made so far, the nearest to the client
-- first: hop i leads up to value-add i, and the last hop to the agent
pub record RouteValue : Type 0 where
  pub hops : List Hop
  pub adds : List ValueValue

-- how the logic stores a way, by how it stores its hops and its value-adds
abbrev pub route_code : Coded Hop → Coded ValueValue → Coded RouteValue
route_code hop value = code_by (List Hop × List ValueValue) (coded× (coded_list hop) (coded_list value)) (λ r. (r.hops, r.adds)) (λ p. record { hops = p.0; adds = p.1 }) (λ _. refl)
