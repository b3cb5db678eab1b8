-- The items of an array, one after another.
use Rattle.std.proofs.Common.{◌≡◌, ℕ, List, [], ◌∷◌, ◌++◌, length, drop, get_or, ◌+◌, ◌<◌, refl, sym, ◌∙◌, ap, append_assoc}
use Rattle.std.specs.Prelude.{Option, Some, None, option_map, option_and_then}
use Rattle.std.specs.List.{AllByRecursion}
use Rattle.std.proofs.lemmas.List.{drop_more}
use Rattle.serde_json.specs.Data.{Data}
use Rattle.serde_json.specs.View.{view, items_view}
use Rattle.serde_json.specs.declared.value.Value.{Value}
use Rattle.json_values.specs.Lists.{items_in}
use Rattle.json_values.specs.Locations.{location_of}

fronts : {A : Type 0} (front : List A) (x : A) (rest : Option (List A))
    → option_map (λ xs. front ++ xs) (option_map (λ xs. x ∷ xs) rest) ≡ option_map (λ xs. (front ++ x ∷ []) ++ xs) rest
fronts front x None = refl
fronts front x (Some xs) = ap (λ t. Some t) (sym (append_assoc front (x ∷ []) xs))

item_here : {A : Type 0} (items : List A) (i : ℕ) (v : A) → v ≡ get_or items i v → i < length items → drop i items ≡ v ∷ drop (i + 1) items
item_here items i v is below = drop_more items i v below ∙ ap (λ x. x ∷ drop (i + 1) items) (sym is)

-- a value of the kind moves to the front
pub item_next : {A : Type 0} (kind : Data → Option A) (items : List Value) (front : List A) (i : ℕ) (v : Value) (x : A) → v ≡ get_or items i v → i < length items → Some x ≡ kind (view v)
    → option_map (λ xs. front ++ xs) (items_in kind (items_view (drop i items)))
    ≡ option_map (λ xs. (front ++ x ∷ []) ++ xs) (items_in kind (items_view (drop (i + 1) items)))
item_next kind items front i v x is below read =
    ap (λ vs. option_map (λ xs. front ++ xs) (items_in kind (items_view vs))) (item_here items i v is below)
    ∙ (ap (λ found. option_map (λ xs. front ++ xs) (option_and_then (λ y. option_map (λ xs. y ∷ xs) (items_in kind (items_view (drop (i + 1) items)))) found)) (sym read)
    ∙ fronts front x (items_in kind (items_view (drop (i + 1) items))))

-- an item of another kind ends the array
pub item_bad : {A : Type 0} (kind : Data → Option A) (items : List Value) (front : List A) (i : ℕ) (v : Value) → v ≡ get_or items i v → i < length items → None ≡ kind (view v)
    → option_map (λ xs. front ++ xs) (items_in kind (items_view (drop i items))) ≡ None
item_bad kind items front i v is below read =
    ap (λ vs. option_map (λ xs. front ++ xs) (items_in kind (items_view vs))) (item_here items i v is below)
    ∙ ap (λ found. option_map (λ xs. front ++ xs) (option_and_then (λ y. option_map (λ xs. y ∷ xs) (items_in kind (items_view (drop (i + 1) items)))) found)) (sym read)

-- one more behind
pub all_more : {A : Type 0} (P : A → Type 0) (xs : List A) (x : A) → AllByRecursion P xs → P x → AllByRecursion P (xs ++ x ∷ [])
all_more P [] x all holds = (holds, tt)
all_more P (y ∷ ys) x all holds = (all.0, all_more P ys x all.1 holds)

-- what hasn't three elements is no location
pub not_three : (items : List Value) → (length items ≡ 3 → ⊥) → None ≡ location_of (items_view items)
not_three [] other = refl
not_three (a ∷ []) other = refl
not_three (a ∷ b ∷ []) other = refl
not_three (a ∷ b ∷ c ∷ []) other = absurd (other refl)
not_three (a ∷ b ∷ c ∷ d ∷ ds) other = refl
