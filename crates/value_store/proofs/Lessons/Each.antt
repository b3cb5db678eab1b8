-- What is so of what is found where it is so of all that can be found, and of each in a list.
use Rattle.std.proofs.Common.{◌≡◌, Bool, true, false, cond, Option, Some, None, option_map, refl, subst}
use Rattle.std.specs.Prelude.{IfSome, option_and_then}

-- ---- what is found

pub if_found : {A : Type 0} → (P : A → Type 0) (found : Option A) → ((a : A) → found ≡ Some a → P a) → IfSome found P
if_found P None each = tt
if_found P (Some a) each = each a refl

pub found_so : {A : Type 0} → (P : A → Type 0) (found : Option A) (a : A) → IfSome found P → found ≡ Some a → P a
found_so P None a so is = cc
found_so P (Some b) a so is =
    let same : b ≡ a = cc in
    subst P same so

pub then_so : {A B : Type 0} → (P : A → Type 0) (Q : B → Type 0) (f : A → Option B) (found : Option A) → IfSome found P → ((a : A) → P a → IfSome (f a) Q)
    → IfSome (option_and_then f found) Q
then_so P Q f None so each = tt
then_so P Q f (Some a) so each = each a so

pub map_so : {A B : Type 0} → (P : A → Type 0) (Q : B → Type 0) (f : A → B) (found : Option A) → IfSome found P → ((a : A) → P a → Q (f a))
    → IfSome (option_map f found) Q
map_so P Q f None so each = tt
map_so P Q f (Some a) so each = each a so

pub then_any : {A B : Type 0} → (Q : B → Type 0) (f : A → Option B) (found : Option A) → ((a : A) → IfSome (f a) Q) → IfSome (option_and_then f found) Q
then_any Q f None each = tt
then_any Q f (Some a) each = each a

pub map_any : {A B : Type 0} → (Q : B → Type 0) (f : A → B) (found : Option A) → ((a : A) → Q (f a)) → IfSome (option_map f found) Q
map_any Q f None each = tt
map_any Q f (Some a) each = each a

pub where_so : {A : Type 0} → (P : A → Type 0) (test : Bool) (found : Option A) → (test ≡ true → IfSome found P) → IfSome (cond test found None) P
where_so P true found so = so refl
where_so P false found so = tt

-- ---- where it was found

pub bound : {A B : Type 0} → (f : A → Option B) (found : Option A) (b : B) → option_and_then f found ≡ Some b → (a : A) × (found ≡ Some a) × (f a ≡ Some b)
bound f None b is = cc
bound f (Some a) b is = (a, refl, is)

pub mapped : {A B : Type 0} → (f : A → B) (found : Option A) (b : B) → option_map f found ≡ Some b → (a : A) × (found ≡ Some a) × (f a ≡ b)
mapped f None b is = cc
mapped f (Some a) b is = (a, refl, cc)

pub passed : {A : Type 0} → (test : Bool) (found : Option A) (a : A) → cond test found None ≡ Some a → (test ≡ true) × (found ≡ Some a)
passed true found a is = (refl, is)
passed false found a is = cc

-- ---- each in a list
