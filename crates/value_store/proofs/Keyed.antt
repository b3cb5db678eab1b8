-- Maps of what is known under some keys.
use Rattle.std.proofs.Common.{◌≡◌, ℕ, Bool, true, false, cond, ◌||◌, List, [], ◌∷◌, ◌++◌, Option, Some, None, is_some, refl, sym, ap, ◌∙◌}
use Rattle.std.specs.Cmp.{tied_itself}
use Rattle.std.specs.Cmp.Lexicographic.{slice_cmp, nat_list_cmp_total}
use Rattle.std.specs.FinMap as finite
use Rattle.std.specs.FinMap.{contains_key-keys, find, get-from_entries, nat_cmp-IsAntisymmetric, same_map, slice_cmp-IsAntisymmetric}
use Rattle.std.specs.List.{flat_map, list_any}
use Rattle.std.specs.Ordering.{eq_by_cmp, is_eq, nat_cmp}
use Rattle.std.specs.declared.cmp.Ordering.{Ordering}
use Rattle.std.specs.declared.cmp.Ordering.TheVariants.{Less, Equal, Greater}
use Rattle.std.proofs.lemmas.Bool.{or_parts}
use Rattle.value_store.specs.Rows.{Keyed, at_keys, entry_at}

abbrev pub order : List ℕ → List ℕ → Ordering
order = slice_cmp nat_cmp

-- the key is one of these
abbrev pub is_among : List ℕ → List (List ℕ) → Bool
is_among q keys = list_any (eq_by_cmp order q) keys

equal_is : (r : Ordering) → is_eq r ≡ true → r ≡ Equal
equal_is Less e = cc
equal_is Equal e = refl
equal_is Greater e = cc

pub one_key : (q key : List ℕ) → eq_by_cmp order q key ≡ true → q ≡ key
one_key q key e = slice_cmp-IsAntisymmetric nat_cmp-IsAntisymmetric q key (equal_is (order q key) e)

pub itself : (q : List ℕ) → eq_by_cmp order q q ≡ true
itself q = ap is_eq (tied_itself nat_list_cmp_total q)

-- what isn't among some keys isn't the first of them, nor among the others
pub not_first : (q key : List ℕ) (keys : List (List ℕ)) → is_among q (key ∷ keys) ≡ false → q ≡ key → ⊥
not_first q key keys none is = no_true (sym (itself q) ∙ ap (eq_by_cmp order q) is ∙ (or_parts (eq_by_cmp order q key) (is_among q keys) none).0)
  where
    no_true : true ≡ false → ⊥
    no_true e = cc

pub not_rest : (q key : List ℕ) (keys : List (List ℕ)) → is_among q (key ∷ keys) ≡ false → is_among q keys ≡ false
not_rest q key keys none = (or_parts (eq_by_cmp order q key) (is_among q keys) none).1

pub not_left : (q : List ℕ) (keys more : List (List ℕ)) → is_among q (keys ++ more) ≡ false → is_among q keys ≡ false
not_left q [] more none = refl
not_left q (key ∷ keys) more none =
    let both = or_parts (eq_by_cmp order q key) (is_among q (keys ++ more)) none in rw (both.0, not_left q keys more both.1) refl

pub not_right : (q : List ℕ) (keys more : List (List ℕ)) → is_among q (keys ++ more) ≡ false → is_among q more ≡ false
not_right q [] more none = none
not_right q (key ∷ keys) more none = not_right q keys more (or_parts (eq_by_cmp order q key) (is_among q (keys ++ more)) none).1

-- what is under no key of a map isn't in it
pub nothing_under : {X : Type 0} (m : Keyed X) (q : List ℕ) → is_among q (finite.keys m) ≡ false → finite.get m q ≡ None
nothing_under m q none = no_some (finite.get m q) (contains_key-keys m q ∙ none)
  where
    no_some : {X : Type 0} (o : Option X) → is_some o ≡ false → o ≡ None
    no_some None e = refl
    no_some (Some x) e = cc

module _ {X : Type 0} (known : List ℕ → Option X) where
  -- one more key in front
  entry_found : (q key : List ℕ) (value : Option X) (rest : List (List ℕ × X)) (flag : Bool) → known key ≡ value → find order q rest ≡ cond flag (known q) None
      → find order q (entry_at key value ++ rest) ≡ cond (eq_by_cmp order q key || flag) (known q) None
  entry_found q key None rest flag is behind = by (eq_by_cmp order q key) refl
    where
      by : (here : Bool) → eq_by_cmp order q key ≡ here → find order q rest ≡ cond (here || flag) (known q) None
      by true e =
          let none : known q ≡ None = ap known (one_key q key e) ∙ is in
          behind ∙ ap (λ o. cond flag o None) none ∙ either flag ∙ sym none
        where
          either : (f : Bool) → ◌≡◌ {A = Option X} (cond f None None) None
          either true = refl
          either false = refl
      by false e = behind
  entry_found q key (Some x) rest flag is behind = by (eq_by_cmp order q key) refl
    where
      by : (here : Bool) → eq_by_cmp order q key ≡ here → cond here (Some x) (find order q rest) ≡ cond (here || flag) (known q) None
      by true e = sym (ap known (one_key q key e) ∙ is)
      by false e = behind

  found_at : (q : List ℕ) (keys : List (List ℕ)) → find order q (flat_map (λ key. entry_at key (known key)) keys) ≡ cond (is_among q keys) (known q) None
  found_at q [] = refl
  found_at q (key ∷ keys) = entry_found q key (known key) (flat_map (λ k. entry_at k (known k)) keys) (is_among q keys) refl (found_at q keys)

  -- the map has what is known, where that is known under these keys alone
  pub get_at : (keys : List (List ℕ)) (q : List ℕ) → (is_among q keys ≡ false → known q ≡ None) → finite.get (at_keys known keys) q ≡ known q
  get_at keys q none = get-from_entries nat_list_cmp_total (flat_map (λ key. entry_at key (known key)) keys) q ∙ found_at q keys ∙ by (is_among q keys) refl
    where
      by : (here : Bool) → is_among q keys ≡ here → cond here (known q) None ≡ known q
      by true e = refl
      by false e = sym (none e)

-- maps that answer alike are the same
pub same_keyed : {X : Type 0} (m n : Keyed X) → ((q : List ℕ) → finite.get m q ≡ finite.get n q) → m ≡ n
same_keyed m n alike = same_map nat_list_cmp_total (slice_cmp-IsAntisymmetric nat_cmp-IsAntisymmetric) m n alike
