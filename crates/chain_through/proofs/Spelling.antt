-- What was said is a front where it is queued as a front.
use Rattle.std.proofs.Common.{◌≡◌, List, [], ◌∷◌, ◌++◌, map, sym, ap, ◌∙◌, refl}
use Rattle.channel_core.specs.Arrivals.{AreSpoken, Spoken}
use Rattle.list_laws.specs.Fronts.{IsFront}
pub use Rattle.channel_laws.proofs.Rest.Spelling.{AreSpelled, IsSpelled, one_said, said_so, same_said}

pub front_said : (xs ys : List Spoken) → AreSpoken xs → AreSpelled ys → IsFront (map said_so xs) (map said_so ys) → IsFront xs ys
front_said [] ys formed spelled p = (ys, refl)
front_said (x ∷ xs) [] formed spelled p = let whole : [] ≡ said_so x ∷ (map said_so xs ++ p.0) = p.1 in absurd cc
front_said (x ∷ xs) (y ∷ ys) formed spelled p =
    let whole : said_so y ∷ map said_so ys ≡ said_so x ∷ (map said_so xs ++ p.0) = p.1 in
    let first : said_so x ≡ said_so y = cc in
    let tails : map said_so ys ≡ map said_so xs ++ p.0 = cc in
    let one : x ≡ y = one_said x y formed.0 spelled.0 first in
    let rest = front_said xs ys formed.1 spelled.1 (p.0, tails) in
    (rest.0, ap (λ z. z ∷ ys) (sym one) ∙ ap (λ zs. x ∷ zs) rest.1)
