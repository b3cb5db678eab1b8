-- The places that digits say.
use Rattle.std.proofs.Common.{◌≡◌, ℕ, ◌≤◌, ◌<◌, List, sym, ◌∙◌, arith}
use Rattle.std.specs.Prelude.{Some, None}
use Rattle.std.proofs.lemmas.Option.{none-some}
use Rattle.tcf_values.specs.Number.{number_of}
use Rattle.tcf_values.specs.NumberLaws.{number_found, number_there, number_out, number_missing}

-- a number that is small enough is found below every limit that it meets
pub place_found : (low high most : ℕ) (digits : List ℕ) (n : ℕ) → Some n ≡ number_of low high digits → n ≤ most → Some n ≡ number_of low most digits
place_found low high most digits n found fits =
    let is = number_found low high digits n (sym found) in
    sym (number_there low most digits n is.0 is.1 fits is.3)

-- and below no other
pub place_past : (low high most : ℕ) (digits : List ℕ) (n : ℕ) → Some n ≡ number_of low high digits → most < n → None ≡ number_of low most digits
place_past low high most digits n found past =
    let is = number_found low high digits n (sym found) in
    sym (number_out low most digits n is.0 is.3 (λ above below. omega arith))

-- digits that say no number of 32 bits say none below any limit
pub place_none : (low most : ℕ) (digits : List ℕ) → number_of low 4294967295 digits ≡ None → number_of low most digits ≡ None
place_none low most digits none =
    number_missing low most digits (λ n above below small is. none-some n (sym none ∙ number_there low 4294967295 digits n is above (omega arith) small))
