-- What is joined has the parts that it was made of.
use Rattle.std.specs.Prelude.{ℕ, ◌≡◌, ◌==◌, List, [], ◌∷◌, ◌++◌, refl}
use Rattle.std.specs.List.{AllByRecursion, onto_first}
use Rattle.std.proofs.Common.{◌∙◌, ap}
use Rattle.std.proofs.lemmas.Bool.{eq-eqb, ne_eqb, cond-true, cond-false}
use Rattle.tcf_values.specs.Cut.{Lacks}
use Rattle.json_args.specs.Parts.{joined, parts_of}

pub parts_front : (front rest : List ℕ) → Lacks 0 front → parts_of (front ++ 0 ∷ rest) ≡ front ∷ parts_of rest
parts_front [] rest lacks = cond-true (0 == 0) ([] ∷ parts_of rest) (onto_first 0 (parts_of rest)) (eq-eqb 0 0 refl)
parts_front (b ∷ bs) rest lacks =
    cond-false (b == 0) ([] ∷ parts_of (bs ++ 0 ∷ rest)) (onto_first b (parts_of (bs ++ 0 ∷ rest))) (ne_eqb b 0 lacks.0)
    ∙ ap (onto_first b) (parts_front bs rest lacks.1)

pub of_joined : (parts : List (List ℕ)) → AllByRecursion (Lacks 0) parts → parts_of (joined parts) ≡ parts
of_joined [] all = refl
of_joined (part ∷ parts) all = parts_front part (joined parts) all.0 ∙ ap (λ ps. part ∷ ps) (of_joined parts all.1)
