-- Where a chain of options has a value.
use Rattle.std.proofs.Common.{◌≡◌, refl}
use Rattle.std.specs.Prelude.{Option, Some, None, option_map, option_and_then}
use Rattle.std.proofs.lemmas.Option.{none-some}

pub some_same : {A : Type 0} (a b : A) → ◌≡◌ {A = Option A} (Some a) (Some b) → a ≡ b
some_same a b same = cc

pub and_then_found : {A B : Type 0} (f : A → Option B) (o : Option A) (y : B) → option_and_then f o ≡ Some y
    → (x : A) × (o ≡ Some x) × (f x ≡ Some y)
and_then_found f None y e = absurd (none-some y e)
and_then_found f (Some x) y e = (x, refl, e)

pub map_found : {A B : Type 0} (f : A → B) (o : Option A) (y : B) → option_map f o ≡ Some y → (x : A) × (o ≡ Some x) × (f x ≡ y)
map_found f None y e = absurd (none-some y e)
map_found f (Some x) y e = (x, refl, some_same (f x) y e)

pub none_or_some : {A : Type 0} (r : Option A) (x : A) → r ≡ None → r ≡ Some x → ⊥
none_or_some r x none some = cc
