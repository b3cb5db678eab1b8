-- Breakpoints that are taken out: the others stay as they are kept.
use Rattle.std.proofs.Common.{◌≡◌, ℕ, ◌+◌, ◌≤◌, Bool, true, false, cond, ◌||◌, Some, List, [], ◌∷◌, length, filter, refl, sym, ap, subst, ◌∙◌, arith}
use Rattle.std.specs.Prelude.{bytes_eq}
use Rattle.std.specs.Global.{Vec}
use Rattle.std.specs.List.{AllByRecursion, IsDistinct}
use Rattle.std.specs.Map.{values_of}
use Rattle.breakpoints.specs.Placed.{Placed}
use Rattle.breakpoints.specs.Keyed.{AreKeyed, IsKept}
use Rattle.std.proofs.lemmas.Slice.Eq.{bytes_eq-Decides}
use Rattle.breakpoints.specs.Counts.{AreCounts}
use Rattle.breakpoints.specs.Rows.{IsOrderly, ids_of, is_there, row_of}
use Rattle.list_laws.proofs.AllLists.{all_filter as all_left}

-- ---- the entries that pass a test of what they hold

values_by : (p : Placed → Bool) (e : Vec ℕ × Placed) (es : List (Vec ℕ × Placed)) (b : Bool)
    → values_of (cond b (e ∷ es) es) ≡ cond b (e.1 ∷ values_of es) (values_of es)
values_by p e es true = refl
values_by p e es false = refl

pub values-filter : (p : Placed → Bool) (es : List (Vec ℕ × Placed)) → values_of (filter (λ e. p e.1) es) ≡ filter p (values_of es)
values-filter p [] = refl
values-filter p (e ∷ es) =
    values_by p e (filter (λ e. p e.1) es) (p e.1) ∙ ap (λ rows. cond (p e.1) (e.1 ∷ rows) rows) (values-filter p es)

keyed_by : (e : Vec ℕ × Placed) (es : List (Vec ℕ × Placed)) (b : Bool) → e.0.items ≡ e.1.props.id → AreKeyed es → AreKeyed (cond b (e ∷ es) es)
keyed_by e es true here rest = (here, rest)
keyed_by e es false here rest = rest

pub keyed_filter : (p : Vec ℕ × Placed → Bool) (es : List (Vec ℕ × Placed)) → AreKeyed es → AreKeyed (filter p es)
keyed_filter p [] keyed = keyed
keyed_filter p (e ∷ es) keyed = keyed_by e (filter p es) (p e) keyed.0 (keyed_filter p es keyed.1)

-- ---- the breakpoints that pass a test

apart_by : (q : List ℕ → Type 0) (row : Placed) (rows : List Placed) (b : Bool) → q row.props.id → AllByRecursion q (ids_of rows) → AllByRecursion q (ids_of (cond b (row ∷ rows) rows))
apart_by q row rows true here rest = (here, rest)
apart_by q row rows false here rest = rest

pub all_filter : (q : List ℕ → Type 0) (p : Placed → Bool) (rows : List Placed) → AllByRecursion q (ids_of rows) → AllByRecursion q (ids_of (filter p rows))
all_filter q p [] all = all
all_filter q p (row ∷ rows) all = apart_by q row (filter p rows) (p row) all.0 (all_filter q p rows all.1)

differ_by : (row : Placed) (rows : List Placed) (b : Bool) → AllByRecursion (λ id. bytes_eq row.props.id id ≡ false) (ids_of rows) → IsDistinct bytes_eq (ids_of rows) → IsDistinct bytes_eq (ids_of (cond b (row ∷ rows) rows))
unfolding IsDistinct
differ_by row rows true here rest = (here, rest)
differ_by row rows false here rest = rest

pub differ_filter : (p : Placed → Bool) (rows : List Placed) → IsDistinct bytes_eq (ids_of rows) → IsDistinct bytes_eq (ids_of (filter p rows))
unfolding IsDistinct
differ_filter p [] differ = differ
differ_filter p (row ∷ rows) differ =
    differ_by row (filter p rows) (p row) (all_filter (λ id. bytes_eq row.props.id id ≡ false) p rows differ.0) (differ_filter p rows differ.1)

fewer_by : (row : Placed) (rows : List Placed) (b : Bool) (n : ℕ) → length rows ≤ n → length (cond b (row ∷ rows) rows) ≤ n + 1
fewer_by row rows true n less = omega arith
fewer_by row rows false n less = omega arith

pub fewer : (p : Placed → Bool) (rows : List Placed) → length (filter p rows) ≤ length rows
fewer p [] = omega arith
fewer p (row ∷ rows) =
    let more : length (cond (p row) (row ∷ filter p rows) (filter p rows)) ≤ length rows + 1 = fewer_by row (filter p rows) (p row) (length rows) (fewer p rows) in
    omega arith

pub orderly_filter : (p : Placed → Bool) (rows : List Placed) → IsOrderly rows → IsOrderly (filter p rows)
orderly_filter p rows orderly = record {
  differ = differ_filter p rows orderly.differ;
  few = omega (arith, fewer p rows, orderly.few);
  counted = all_left (λ row. AreCounts row.counts) p rows orderly.counted;
}

pub kept_filter : (p : Placed → Bool) (es : List (Vec ℕ × Placed)) → IsKept es → IsKept (filter (λ e. p e.1) es)
kept_filter p es kept = record {
  keyed = keyed_filter (λ e. p e.1) es kept.keyed;
  orderly = subst IsOrderly (sym (values-filter p es)) (orderly_filter p (values_of es) kept.orderly);
}

-- ---- the tests that nothing and everything pass

pub filter_all : (rows : List Placed) → filter (λ _. true) rows ≡ rows
filter_all [] = refl
filter_all (row ∷ rows) = ap (λ rest. row ∷ rest) (filter_all rows)

pub filter_none : (rows : List Placed) → filter (λ _. false) rows ≡ []
filter_none [] = refl
filter_none (row ∷ rows) = filter_none rows

-- ---- an ID among those that pass a test

none_there : (id : List ℕ) (rows : List Placed) → AllByRecursion (λ other. bytes_eq id other ≡ false) (ids_of rows) → is_there id rows ≡ false
none_there id [] apart = refl
none_there id (row ∷ rows) apart = ap (λ b. b || is_there id rows) apart.0 ∙ none_there id rows apart.1

pub apart_of : (id : List ℕ) (rows : List Placed) → is_there id rows ≡ false → AllByRecursion (λ other. bytes_eq id other ≡ false) (ids_of rows)
apart_of id [] none = tt
apart_of id (row ∷ rows) none = by (bytes_eq id row.props.id) (is_there id rows) none (apart_of id rows)
  where
    by : (a b : Bool) → (a || b) ≡ false → (b ≡ false → AllByRecursion (λ other. bytes_eq id other ≡ false) (ids_of rows)) → (a ≡ false) × AllByRecursion (λ other. bytes_eq id other ≡ false) (ids_of rows)
    by true b e rest = cc
    by false b e rest = (refl, rest e)

pub none_stays : (id : List ℕ) (p : Placed → Bool) (rows : List Placed) → is_there id rows ≡ false → is_there id (filter p rows) ≡ false
none_stays id p rows none = none_there id (filter p rows) (all_filter (λ other. bytes_eq id other ≡ false) p rows (apart_of id rows none))

stays_by : (id : List ℕ) (p : Placed → Bool) (row first : Placed) (rows : List Placed) (b : Bool) → bytes_eq id first.props.id ≡ b
    → AllByRecursion (λ other. bytes_eq first.props.id other ≡ false) (ids_of rows)
    → cond b (Some first) (row_of id rows) ≡ Some row
    → (row_of id rows ≡ Some row → is_there id (filter p rows) ≡ p row)
    → (t : Bool) → p first ≡ t → is_there id (cond t (first ∷ filter p rows) (filter p rows)) ≡ p row
stays_by id p row first rows true is differ found later true passes =
    let here : first ≡ row = cc in ap (λ b. b || is_there id (filter p rows)) is ∙ sym passes ∙ ap p here
stays_by id p row first rows true is differ found later false fails =
    let here : first ≡ row = cc in
    let same : id ≡ first.props.id = (bytes_eq-Decides id first.props.id).0 is in
    let P : List ℕ → Type 0 = λ i. AllByRecursion (λ other. bytes_eq i other ≡ false) (ids_of rows) in
    none_there id (filter p rows) (all_filter (λ other. bytes_eq id other ≡ false) p rows (subst P (sym same) differ)) ∙ sym fails ∙ ap p here
stays_by id p row first rows false is differ found later true passes = ap (λ b. b || is_there id (filter p rows)) is ∙ later found
stays_by id p row first rows false is differ found later false fails = later found

-- the breakpoint of an ID is left exactly where it passes the test
pub one_stays : (id : List ℕ) (p : Placed → Bool) (rows : List Placed) (row : Placed) → IsDistinct bytes_eq (ids_of rows) → row_of id rows ≡ Some row → is_there id (filter p rows) ≡ p row
unfolding IsDistinct
one_stays id p [] row differ found = cc
one_stays id p (first ∷ rows) row differ found =
    stays_by id p row first rows (bytes_eq id first.props.id) refl differ.0 found (one_stays id p rows row differ.1) (p first) refl
