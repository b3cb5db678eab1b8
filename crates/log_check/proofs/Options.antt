-- What holds of a value, if there is one.
use Rattle.std.proofs.Common.{◌≡◌, ◌∙◌, Bool, false, sym, true}
use Rattle.std.specs.Prelude.{◌↔◌, Err, IfNone, IfOk, IfSome, None, Ok, Option, Result, Some}
use Rattle.std.proofs.lemmas.Bool.{false≢true}

pub some_then : {A : Type 0} → (o : Option A) (P Q : A → Type 0) → ((x : A) → P x → Q x) → IfSome o P → IfSome o Q
some_then None P Q each is = tt
some_then (Some x) P Q each is = each x is

pub none_then : {A : Type 0} → (o : Option A) (P Q : Type 0) → (P → Q) → IfNone o P → IfNone o Q
none_then None P Q each is = each is
none_then (Some x) P Q each is = tt

pub ok_then : {A E : Type 0} → (r : Result A E) (P Q : A → Type 0) → ((x : A) → P x → Q x) → IfOk r P → IfOk r Q
ok_then (Ok x) P Q each is = each x is
ok_then (Err e) P Q each is = tt

-- what a flag that isn't set says
pub isnt_so : {A : Type 0} → (flag : Bool) → flag ≡ false → (flag ≡ true) ↔ A → A → ⊥
isnt_so flag off is a = false≢true (sym off ∙ is.1 a)
