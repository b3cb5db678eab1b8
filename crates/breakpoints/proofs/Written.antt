-- Breakpoints that are changed in place: each stays under its ID.
use Rattle.std.proofs.Common.{◌≡◌, ℕ, zero, suc, Bool, true, false, cond, List, [], ◌∷◌, ◌++◌, length, map, take, drop, slice_get, Some, refl, sym, ap, subst, ◌∙◌, arith}
use Rattle.std.specs.Prelude.{bytes_eq}
use Rattle.std.specs.Global.{Vec}
use Rattle.std.specs.List.{AllByRecursion, IsDistinct}
use Rattle.std.specs.Map.{lookup, set_value, values_of}
use Rattle.indexmap.specs.IndexMap.{set_value_at}
use Rattle.std.proofs.lemmas.Slice.Eq.{bytes_eq-Decides}
use Rattle.tcf_values.specs.declared.values.BpProps.{BpProps}
use Rattle.breakpoints.specs.Changes.{is_switched, row_with_props, row_with_flag, with_flag}
use Rattle.breakpoints.specs.Counts.{AreCounts}
use Rattle.breakpoints.specs.Keyed.{AreKeyed, IsKept, with_values}
use Rattle.breakpoints.specs.Rows.{IsOrderly, ids_of, is_there}
use Rattle.breakpoints.proofs.Filtered.{apart_of}
use Rattle.list_laws.proofs.AllLists.{all_map_then}
use Rattle.breakpoints.specs.Placed.{Placed}

-- ---- a change of each breakpoint that leaves its ID

-- the change leaves IDs as they are
abbrev pub KeepsIds : (Placed → Placed) → Type 0
KeepsIds change = (row : Placed) → (change row).props.id ≡ row.props.id

pub ids-map : (change : Placed → Placed) → KeepsIds change → (rows : List Placed) → ids_of (map change rows) ≡ ids_of rows
ids-map change keeps [] = refl
ids-map change keeps (row ∷ rows) =
    ap (λ id. id ∷ ids_of (map change rows)) (keeps row) ∙ ap (λ ids. row.props.id ∷ ids) (ids-map change keeps rows)

pub same_length : (change : Placed → Placed) (rows : List Placed) → length (map change rows) ≡ length rows
same_length change [] = refl
same_length change (row ∷ rows) = ap suc (same_length change rows)

-- and counts of 32 bits as such
abbrev pub KeepsCounts : (Placed → Placed) → Type 0
KeepsCounts change = (row : Placed) → AreCounts row.counts → AreCounts (change row).counts

pub record Keeps (change : Placed → Placed) : Type 0 where
  pub ids : KeepsIds change
  pub counts : KeepsCounts change

pub orderly_map : (change : Placed → Placed) → Keeps change → (rows : List Placed) → IsOrderly rows → IsOrderly (map change rows)
orderly_map change keeps rows orderly = record {
  differ = subst (IsDistinct bytes_eq) (sym (ids-map change keeps.ids rows)) orderly.differ;
  few = omega (arith, same_length change rows, orderly.few);
  counted = all_map_then (λ row. AreCounts row.counts) (λ row. AreCounts row.counts) change rows keeps.counts orderly.counted;
}

pub flag_keeps : (enabled : Bool) (ids : List (List ℕ)) → Keeps (row_with_flag enabled ids)
flag_keeps enabled ids = record { ids = λ row. same (is_switched enabled ids row) row; counts = λ row. few (is_switched enabled ids row) row }
  where
    same : (b : Bool) (row : Placed) → (cond b (record row { props = with_flag enabled row.props; counts = [] }) row).props.id ≡ row.props.id
    same true row = refl
    same false row = refl

    few : (b : Bool) (row : Placed) → AreCounts row.counts → AreCounts (cond b (record row { props = with_flag enabled row.props; counts = [] }) row).counts
    few true row are = tt
    few false row are = are

pub props_keeps : (props : BpProps) → Keeps (row_with_props props)
props_keeps props = record { ids = λ row. same (bytes_eq props.id row.props.id) row refl; counts = λ row. few (bytes_eq props.id row.props.id) row }
  where
    same : (b : Bool) (row : Placed) → bytes_eq props.id row.props.id ≡ b → (cond b (record row { props = props; counts = [] }) row).props.id ≡ row.props.id
    same true row e = (bytes_eq-Decides props.id row.props.id).0 e
    same false row e = refl

    few : (b : Bool) (row : Placed) → AreCounts row.counts → AreCounts (cond b (record row { props = props; counts = [] }) row).counts
    few true row are = tt
    few false row are = are

-- ---- a change of what each entry holds

pub values-with_values : (change : Placed → Placed) (es : List (Vec ℕ × Placed)) → values_of (with_values change es) ≡ map change (values_of es)
values-with_values change [] = refl
values-with_values change (e ∷ es) = ap (λ rows. change e.1 ∷ rows) (values-with_values change es)

keyed_with : (change : Placed → Placed) → KeepsIds change → (es : List (Vec ℕ × Placed)) → AreKeyed es → AreKeyed (with_values change es)
keyed_with change keeps [] keyed = keyed
keyed_with change keeps (e ∷ es) keyed = (keyed.0 ∙ sym (keeps e.1), keyed_with change keeps es keyed.1)

pub kept_with : (change : Placed → Placed) → Keeps change → (es : List (Vec ℕ × Placed)) → IsKept es → IsKept (with_values change es)
kept_with change keeps es kept = record {
  keyed = keyed_with change keeps.ids es kept.keyed;
  orderly = subst IsOrderly (sym (values-with_values change es)) (orderly_map change keeps (values_of es) kept.orderly);
}

-- ---- one write after another

pub step_written : (change : Placed → Placed) (es : List (Vec ℕ × Placed)) (i : ℕ) (row : Placed) → slice_get (values_of es) i ≡ Some row
    → take (suc i) (set_value_at es i (change row)) ++ with_values change (drop (suc i) (set_value_at es i (change row))) ≡ take i es ++ with_values change (drop i es)
step_written change [] i row there = cc
step_written change (e ∷ es) zero row there = let same : e.1 ≡ row = cc in ap (λ r. (e.0, change r) ∷ with_values change es) (sym same)
step_written change (e ∷ es) (suc i) row there = ap (λ rest. e ∷ rest) (step_written change es i row there)

-- ---- a change of the breakpoint of an ID

abbrev pub put_under : List ℕ → (Placed → Placed) → Placed → Placed
put_under id put row = cond (bytes_eq id row.props.id) (put row) row

unnamed_by : (id : List ℕ) (put : Placed → Placed) (es : List (Vec ℕ × Placed)) → AllByRecursion (λ other. bytes_eq id other ≡ false) (ids_of (values_of es)) → with_values (put_under id put) es ≡ es
unnamed_by id put [] apart = refl
unnamed_by id put (e ∷ es) apart =
    ap (λ b. (e.0, cond b (put e.1) e.1) ∷ with_values (put_under id put) es) apart.0 ∙ ap (λ rest. e ∷ rest) (unnamed_by id put es apart.1)

-- where the ID isn't there, nothing changes
pub none_written : (id : List ℕ) (put : Placed → Placed) (es : List (Vec ℕ × Placed)) → is_there id (values_of es) ≡ false → with_values (put_under id put) es ≡ es
none_written id put es none = unnamed_by id put es (apart_of id (values_of es) none)

abbrev is_id : List ℕ → Vec ℕ → Bool
is_id id k = bytes_eq id k.items

set_by : (id : List ℕ) (put : Placed → Placed) (e : Vec ℕ × Placed) (es : List (Vec ℕ × Placed)) (row : Placed) (b : Bool) → bytes_eq id e.1.props.id ≡ b
    → AllByRecursion (λ other. bytes_eq e.1.props.id other ≡ false) (ids_of (values_of es))
    → cond b (Some e.1) (lookup (is_id id) es) ≡ Some row
    → (lookup (is_id id) es ≡ Some row → set_value (is_id id) es (put row) ≡ with_values (put_under id put) es)
    → cond b ((e.0, put row) ∷ es) (e ∷ set_value (is_id id) es (put row)) ≡ (e.0, cond b (put e.1) e.1) ∷ with_values (put_under id put) es
set_by id put e es row true is differ found later =
    let same : id ≡ e.1.props.id = (bytes_eq-Decides id e.1.props.id).0 is in
    let here : e.1 ≡ row = cc in
    let P : List ℕ → Type 0 = λ one. AllByRecursion (λ other. bytes_eq one other ≡ false) (ids_of (values_of es)) in
    ap (λ (r : Placed). (e.0, put r) ∷ es) (sym here) ∙ ap (λ rest. (e.0, put e.1) ∷ rest) (sym (unnamed_by id put es (subst P (sym same) differ)))
set_by id put e es row false is differ found later = ap (λ rest. e ∷ rest) (later found)

-- the one breakpoint of the ID is written
pub one_written : (id : List ℕ) (put : Placed → Placed) (es : List (Vec ℕ × Placed)) (row : Placed) → AreKeyed es → IsDistinct bytes_eq (ids_of (values_of es))
    → lookup (is_id id) es ≡ Some row → set_value (is_id id) es (put row) ≡ with_values (put_under id put) es
unfolding IsDistinct
one_written id put [] row keyed differ found = refl
one_written id put (e ∷ es) row keyed differ found =
    let key : bytes_eq id e.0.items ≡ bytes_eq id e.1.props.id = ap (bytes_eq id) keyed.0 in
    let later : lookup (is_id id) es ≡ Some row → set_value (is_id id) es (put row) ≡ with_values (put_under id put) es = one_written id put es row keyed.1 differ.1 in
    ap (λ b. cond b ((e.0, put row) ∷ es) (e ∷ set_value (is_id id) es (put row))) key
    ∙ set_by id put e es row (bytes_eq id e.1.props.id) refl differ.0 (ap (λ b. cond b (Some e.1) (lookup (is_id id) es)) (sym key) ∙ found) later

-- new properties, and new counts
abbrev pub with_new_props : BpProps → Placed → Placed
with_new_props props row = record row { props = props; counts = [] }

abbrev pub with_new_counts : List (ℕ × ℕ) → Placed → Placed
with_new_counts counts row = record row { counts = counts }
