-- Names that differ.
use Rattle.std.proofs.Common.{◌≡◌, ◌≢◌, ℕ, ◌||◌, false, List, [], ◌∷◌, ◌++◌, map, refl, sym, ◌∙◌, ap}
use Rattle.std.specs.Prelude.{bytes_eq}
use Rattle.std.specs.List.{AllByRecursion, list_any}
use Rattle.std.proofs.lemmas.Bool.{false≢true, or_left, or_right, false_from_ne_true}
use Rattle.std.proofs.lemmas.Slice.Eq.{bytes_eq-Decides}
use Rattle.tcf_schedules.specs.Schedule.{AreDistinct}

-- a name that is none of these
abbrev pub IsNew : List ℕ → List (List ℕ) → Type 0
IsNew name names = AllByRecursion (λ other. other ≢ name) names

middle : {A : Type 0} (P : A → Type 0) (xs : List A) (x : A) (ys : List A) → AllByRecursion P (xs ++ x ∷ ys) → P x
middle P [] x ys all = all.0
middle P (y ∷ xs) x ys all = middle P xs x ys all.1

new_push : (name other : List ℕ) (names : List (List ℕ)) → IsNew name names → other ≢ name → IsNew name (names ++ other ∷ [])
new_push name other [] new apart = (apart, tt)
new_push name other (n ∷ names) new apart = (new.0, new_push name other names new.1 apart)

-- a new name behind others
pub distinct_push : (names : List (List ℕ)) (name : List ℕ) → AreDistinct names → IsNew name names → AreDistinct (names ++ name ∷ [])
distinct_push [] name are new = (tt, tt)
distinct_push (n ∷ names) name are new =
    (new_push n name names are.0 (λ same. new.0 (sym same)), distinct_push names name are.1 new.1)

-- a name among others is none of those before it
pub distinct_front : (names more : List (List ℕ)) (name : List ℕ) → AreDistinct (names ++ name ∷ more) → IsNew name names
distinct_front [] more name are = tt
distinct_front (n ∷ names) more name are =
    let apart = middle (λ other. other ≢ n) names name more are.0 in
    ((λ same. apart (sym same)), distinct_front names more name are.1)

-- no item has the name
pub new_of : {A : Type 0} (name_in : A → List ℕ) (name : List ℕ) (items : List A) → list_any (λ x. bytes_eq (name_in x) name) items ≡ false → IsNew name (map name_in items)
new_of name_in name [] none = tt
new_of name_in name (x ∷ items) none = (
  (λ same. false≢true (sym none ∙ or_left (bytes_eq (name_in x) name) _ ((bytes_eq-Decides (name_in x) name).1 same))),
  new_of name_in name items (false_from_ne_true _ (λ some. false≢true (sym none ∙ or_right (bytes_eq (name_in x) name) _ some))),
)

pub none_of : {A : Type 0} (name_in : A → List ℕ) (name : List ℕ) (items : List A) → IsNew name (map name_in items) → list_any (λ x. bytes_eq (name_in x) name) items ≡ false
none_of name_in name [] new = refl
none_of name_in name (x ∷ items) new =
    ap (λ t. t || list_any (λ y. bytes_eq (name_in y) name) items) (false_from_ne_true _ (λ same. new.0 ((bytes_eq-Decides (name_in x) name).0 same)))
    ∙ none_of name_in name items new.1
