-- What holds of the elements holds of their array.
use Rattle.std.specs.Prelude.{◌≡◌, ◌≤◌, ℕ, suc, false, List, [], ◌∷◌, map, Option, Some, option_map, option_and_then, refl}
use Rattle.std.specs.List.{AllByRecursion}
use Rattle.std.proofs.Common.{◌∙◌, ap, arith}
use Rattle.serde_json.specs.Data.{Data, depth, items_depth}
use Rattle.serde_json.specs.View.{items_of}
use Rattle.serde_json.specs.Written.{has_float, items_have_float}
use Rattle.json_values.specs.Lists.{list_json, list_in, items_in}

items_back : {A : Type 0} (json : A → Data) (kind : Data → Option A) (within : A → Type 0)
    → ((x : A) → within x → kind (json x) ≡ Some x)
    → (xs : List A) → AllByRecursion within xs → items_in kind (items_of (map json xs)) ≡ Some xs
items_back json kind within back [] all = refl
items_back json kind within back (x ∷ xs) all =
    ap (option_and_then (λ y. option_map (λ ys. y ∷ ys) (items_in kind (items_of (map json xs))))) (back x all.0)
    ∙ ap (option_map (λ ys. x ∷ ys)) (items_back json kind within back xs all.1)

pub list_back : {A : Type 0} (json : A → Data) (kind : Data → Option A) (within : A → Type 0)
    → ((x : A) → within x → kind (json x) ≡ Some x)
    → (xs : List A) → AllByRecursion within xs → list_in kind (list_json json xs) ≡ Some xs
list_back json kind within back xs all = items_back json kind within back xs all

items_plain : {A : Type 0} (json : A → Data) → ((x : A) → has_float (json x) ≡ false) → (xs : List A) → items_have_float (items_of (map json xs)) ≡ false
items_plain json plain [] = refl
items_plain json plain (x ∷ xs) = rw (plain x) (items_plain json plain xs)

pub list_plain : {A : Type 0} (json : A → Data) → ((x : A) → has_float (json x) ≡ false) → (xs : List A) → has_float (list_json json xs) ≡ false
list_plain json plain xs = items_plain json plain xs

items_shallow : {A : Type 0} (json : A → Data) (n : ℕ) → ((x : A) → depth (json x) ≤ n) → (xs : List A) → items_depth (items_of (map json xs)) ≤ n
items_shallow json n shallow [] = omega arith
items_shallow json n shallow (x ∷ xs) =
    let first = shallow x in let rest = items_shallow json n shallow xs in omega arith

pub list_shallow : {A : Type 0} (json : A → Data) (n : ℕ) → ((x : A) → depth (json x) ≤ n) → (xs : List A) → depth (list_json json xs) ≤ suc n
list_shallow json n shallow xs = let all = items_shallow json n shallow xs in omega arith
