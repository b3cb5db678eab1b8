use Rattle.std.proofs.Common.{None, ◌∷◌, [], refl}
use Rattle.knowledge.proofs.Keys.{none_at}
use Rattle.knowledge.proofs.registers.Registers.unknown.Goals as goal

-- none of the 33 is known
pub returns : goal.returns
returns c =
    none_at
    (None ∷ None ∷ None ∷ None ∷ None ∷ None ∷ None ∷ None ∷ None ∷ None ∷ None ∷ None ∷ None ∷ None ∷ None ∷ None ∷ None ∷ None ∷ None ∷ None ∷ None ∷ None ∷ None ∷ None ∷ None ∷ None ∷ None ∷ None ∷ None ∷ None ∷ None ∷ None ∷ None ∷ [])
    refl
