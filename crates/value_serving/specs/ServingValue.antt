-- Value-adds that are served, as contracts see them.
use Rattle.std.specs.Prelude.{ℕ, List, refl}
use Rattle.std.specs.Coded.{Coded, code_by, coded×, coded_list, coded_ℕ}
use Rattle.serving_wires.specs.Row.{Row}
use Rattle.value_serving.specs.declared.add.Add.{Add}

-- the ID and the address of the peer, and the value-adds that aren't closed, by the channels of their wires below
pub record ServingValue : Type 0 where
  pub peer : List ℕ
  pub adds : List (Row Add)

-- how the logic stores it, by how it stores a value-add
abbrev row_code : {T : Type 0} → Coded T → Coded (Row T)
row_code {T} item = code_by (ℕ × T) (coded× coded_ℕ item) (λ r. (r.channel, r.item)) (λ p. record { channel = p.0; item = p.1 }) (λ _. refl)

abbrev pub serving_code : Coded Add → Coded ServingValue
serving_code add =
    code_by (List ℕ × List (Row Add)) (coded× (coded_list coded_ℕ) (coded_list (row_code add)))
    (λ s. (s.peer, s.adds)) (λ p. record { peer = p.0; adds = p.1 }) (λ _. refl)
