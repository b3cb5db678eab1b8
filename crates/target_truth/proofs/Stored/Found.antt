-- What is there, and what passes its checks.
use Rattle.std.proofs.Common.{◌≡◌, Bool, true, false, cond, Option, Some, None, option_map, refl}
use Rattle.std.proofs.lemmas.Option.{none-some, same_Some}
use Rattle.tcf_values.specs.declared.faults.Fault.{Fault}

-- where there is an image, there is what it is the image of
pub mapped : {A B : Type 0} (f : A → B) (found : Option A) (y : B) → option_map f found ≡ Some y → (x : A) × (found ≡ Some x) × (f x ≡ y)
mapped f None y is = absurd (none-some y is)
mapped f (Some x) y is = (x, refl, same_Some (f x) y is)

-- a check that doesn't fail, before others of which none does
pub passed : (test : Bool) (fault : Fault) (rest : Option Fault) → test ≡ false → rest ≡ None → cond test (Some fault) rest ≡ None
passed true fault rest is none = cc
passed false fault rest is none = none
