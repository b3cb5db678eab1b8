-- The node of a value-add as contracts see it.
use Rattle.std.specs.Prelude.{Bool, refl}
use Rattle.std.specs.Coded.{Coded, code_by, coded×, coded_bool}
use Rattle.value_node.specs.declared.relay.Relay.{Relay}

-- a value-add: its peer, where it stands and its two ends, and whether memory was wanting
pub record ValueValue : Type 0 where
  pub relay : Relay
  pub is_spent : Bool  -- memory was wanting, and nothing is done any more

-- how the logic stores a value-add, by how it stores what it relays by
abbrev pub value_code : Coded Relay → Coded ValueValue
value_code relay = code_by (Relay × Bool) (coded× relay coded_bool) (λ v. (v.relay, v.is_spent)) (λ p. record { relay = p.0; is_spent = p.1 }) (λ _. refl)
