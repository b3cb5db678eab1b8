use Rattle.std.proofs.Common.{◌≡◌, [], ◌∷◌, rules}
use Rattle.tcf_values.specs.NumberLaws.{zero_found}
use Rattle.tcf_values.proofs.number.plain_number.Goals as goal

pub returns-then-eq-clause-found : goal.returns-then-eq-clause-found
returns-then-eq-clause-found c =
    let is : c.args.digits.now ≡ 48 ∷ [] = search rules in zero_found c.args.digits.now is
