-- The look-up in the map is the look-up in the list.
use Rattle.std.proofs.Common.{◌≡◌, ℕ, Bool, true, false, cond, ◌||◌, List, [], ◌∷◌, Option, Some, None, option_map, is_some, refl, sym, ◌∙◌, ap}
use Rattle.std.specs.Prelude.{bytes_eq}
use Rattle.std.specs.Global.{Vec}
use Rattle.std.specs.Map.{lookup, values_of}
use Rattle.breakpoints.specs.Placed.{Placed}
use Rattle.breakpoints.specs.Keyed.{AreKeyed}
use Rattle.breakpoints.specs.Rows.{is_there, row_of}

pub lookup_row : (id : List ℕ) (entries : List (Vec ℕ × Placed)) → AreKeyed entries
    → lookup (λ k. bytes_eq id k.items) entries ≡ row_of id (values_of entries)
lookup_row id [] keyed = refl
lookup_row id (e ∷ es) keyed =
    ap (λ key. cond (bytes_eq id key) (Some e.1) (lookup (λ k. bytes_eq id k.items) es)) keyed.0
    ∙ ap (cond (bytes_eq id e.1.props.id) (Some e.1)) (lookup_row id es keyed.1)

found_by : (id : List ℕ) (row : Placed) (rows : List Placed) (b : Bool) → is_some (row_of id rows) ≡ is_there id rows
    → is_some (cond b (Some row) (row_of id rows)) ≡ (b || is_there id rows)
found_by id row rows true rest = refl
found_by id row rows false rest = rest

pub found_there : (id : List ℕ) (rows : List Placed) → is_some (row_of id rows) ≡ is_there id rows
found_there id [] = refl
found_there id (row ∷ rows) = found_by id row rows (bytes_eq id row.props.id) (found_there id rows)

-- an ID that the map has is there
pub key_there : (id : List ℕ) (entries : List (Vec ℕ × Placed)) → AreKeyed entries
    → is_some (lookup (λ k. bytes_eq id k.items) entries) ≡ is_there id (values_of entries)
key_there id entries keyed = ap is_some (lookup_row id entries keyed) ∙ found_there id (values_of entries)

pub some_mapped : {A B : Type 0} (f : A → B) (o : Option A) → is_some o ≡ is_some (option_map f o)
some_mapped f None = refl
some_mapped f (Some x) = refl

-- the breakpoint of an ID in the list
pub record IsLookedUp (id : List ℕ) (rows : List Placed) (found : Option Placed) : Type 0 where
  pub value : found ≡ row_of id rows
  pub there : is_some found ≡ is_there id rows

pub looked_up : (id : List ℕ) (entries : List (Vec ℕ × Placed)) (rows : List Placed) (found : Option Placed) → AreKeyed entries → values_of entries ≡ rows
    → found ≡ lookup (λ k. bytes_eq id k.items) entries → IsLookedUp id rows found
looked_up id entries rows found keyed values is =
    let value : found ≡ row_of id rows = is ∙ lookup_row id entries keyed ∙ ap (row_of id) values in
    record { value = value; there = ap is_some value ∙ found_there id rows }

pub none_found : (id : List ℕ) (entries : List (Vec ℕ × Placed)) → AreKeyed entries → None ≡ lookup (λ k. bytes_eq id k.items) entries → is_there id (values_of entries) ≡ false
none_found id entries keyed none = sym (key_there id entries keyed) ∙ ap is_some (sym none)

pub one_found : (id : List ℕ) (entries : List (Vec ℕ × Placed)) (row : Placed) → AreKeyed entries → Some row ≡ lookup (λ k. bytes_eq id k.items) entries → is_there id (values_of entries) ≡ true
one_found id entries row keyed one = sym (key_there id entries keyed) ∙ ap is_some (sym one)
