-- What the tests of the code tell.
use Rattle.std.proofs.Common.{◌≡◌, ℕ, suc, ◌==◌, List, [], ◌∷◌, length, Bool, true, false, refl, sym, ◌∙◌, eqb-true, arith}
use Rattle.std.specs.Prelude.{Option, None, Some, Result, Ok, Err, OnErr}
use Rattle.std.specs.Option.{is_some}

pub none_of : {A : Type 0} (o : Option A) (test : Bool) → test ≡ is_some o → test ≡ false → o ≡ None
none_of None test is off = refl
none_of (Some x) test is off = let e : true ≡ false = sym is ∙ off in cc

pub some_of : {A : Type 0} (o : Option A) (test : Bool) → test ≡ is_some o → test ≡ true → (x : A) × (o ≡ Some x)
some_of None test is on = let e : false ≡ true = sym is ∙ on in cc
some_of (Some x) test is on = (x, refl)

pub on_err : {A E : Type 0} {P : Type 0} (r : Result A E) → P → OnErr r P
on_err (Ok x) p = tt
on_err (Err e) p = p

pub empty_of : (xs : List ℕ) (test : Bool) → test ≡ (length xs == 0) → test ≡ true → xs ≡ []
empty_of [] test is on = refl
empty_of (x ∷ xs) test is on = let e : suc (length xs) ≡ 0 = eqb-true (suc (length xs)) 0 (sym is ∙ on) in absurd (omega arith)
