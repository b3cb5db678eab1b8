-- What the breakpoint of an ID is in a list to which some are added, of which some are taken out, or in which some are changed.
use Rattle.std.proofs.Common.{◌≡◌, ℕ, Bool, true, false, true≢false, cond, not, ◌||◌, List, [], ◌∷◌, ◌++◌, map, filter, Some, refl, sym, ◌∙◌, ap, subst}
use Rattle.std.proofs.lemmas.Bool.{cond-false, cond-true, or_parts}
use Rattle.std.proofs.lemmas.Option.{none-some}
use Rattle.std.specs.Prelude.{bytes_eq}
use Rattle.std.specs.List.{AllByRecursion, IsDistinct}
use Rattle.breakpoints.specs.Changes.{clashes, has_no_place, has_twice, is_overfull, is_switched, row_with_flag, row_with_props, switched, with_flag, with_flags, with_props}
use Rattle.breakpoints.specs.Counting.{counted, row_raised, row_tested}
use Rattle.breakpoints.specs.Rows.{ids_of, is_among, is_there, row_of, rows_for}
use Rattle.breakpoints.specs.Status.{hits_of, is_hit}
use Rattle.target_truth.proofs.Texts.{differ_turned}
use Rattle.tcf_values.specs.declared.values.BpProps.{BpProps}
use Rattle.list_laws.proofs.AllLists.{all_filter, all_mapped}
use Rattle.list_laws.proofs.Lists.{equal_by as are_same, equal_itself as same_text}
use Rattle.breakpoints.specs.Placed.{row_for}
use Rattle.breakpoints.specs.declared.rows.Placed.{Placed}

abbrev pub Row : Type 0
Row = Placed

-- ---- the first breakpoint of a list, and the others

-- the first one is the one of the ID, or isn't
pub is_first : (id : List ℕ) (row : Row) (rows : List Row) → bytes_eq id row.props.id ≡ true → row_of id (row ∷ rows) ≡ Some row
is_first id row rows e = cond-true _ _ _ e

pub isnt_first : (id : List ℕ) (row : Row) (rows : List Row) → bytes_eq id row.props.id ≡ false → row_of id (row ∷ rows) ≡ row_of id rows
isnt_first id row rows e = cond-false _ _ _ e

-- ---- some are added last

stays_by : (id : List ℕ) (row : Row) (rows more : List Row) (was : Row) (b : Bool) → bytes_eq id row.props.id ≡ b → row_of id (row ∷ rows) ≡ Some was
    → (row_of id rows ≡ Some was → row_of id (rows ++ more) ≡ Some was) → row_of id (row ∷ (rows ++ more)) ≡ Some was
stays_by id row rows more was true e found later = is_first id row (rows ++ more) e ∙ sym (is_first id row rows e) ∙ found
stays_by id row rows more was false e found later = isnt_first id row (rows ++ more) e ∙ later (sym (isnt_first id row rows e) ∙ found)

pub stays_before : (id : List ℕ) (rows more : List Row) (was : Row) → row_of id rows ≡ Some was → row_of id (rows ++ more) ≡ Some was
stays_before id [] more was found = absurd (none-some was found)
stays_before id (row ∷ rows) more was found = stays_by id row rows more was (bytes_eq id row.props.id) refl found (stays_before id rows more was)

pub found_behind : (id : List ℕ) (rows more : List Row) → is_there id rows ≡ false → row_of id (rows ++ more) ≡ row_of id more
found_behind id [] more none = refl
found_behind id (row ∷ rows) more none =
    let parts = or_parts _ _ none in isnt_first id row (rows ++ more) parts.0 ∙ found_behind id rows more parts.1

-- ---- some are taken out

without_by : (id : List ℕ) (row : Row) (rest kept dropped : List Row) (was : Row) (taken b : Bool) → bytes_eq id row.props.id ≡ b
    → is_among (ids_of (cond taken (row ∷ dropped) dropped)) id ≡ false → row_of id (row ∷ rest) ≡ Some was
    → (is_among (ids_of dropped) id ≡ false → row_of id rest ≡ Some was → row_of id kept ≡ Some was)
    → row_of id (cond (not taken) (row ∷ kept) kept) ≡ Some was
without_by id row rest kept dropped was true true e none found later = absurd (true≢false (sym e ∙ (or_parts _ _ none).0))
without_by id row rest kept dropped was true false e none found later = later (or_parts _ _ none).1 (sym (isnt_first id row rest e) ∙ found)
without_by id row rest kept dropped was false true e none found later = is_first id row kept e ∙ sym (is_first id row rest e) ∙ found
without_by id row rest kept dropped was false false e none found later = isnt_first id row kept e ∙ later none (sym (isnt_first id row rest e) ∙ found)

pub stays_without : (taken : Row → Bool) (id : List ℕ) (rows : List Row) (was : Row) → is_among (ids_of (filter taken rows)) id ≡ false
    → row_of id rows ≡ Some was → row_of id (filter (λ row. not (taken row)) rows) ≡ Some was
stays_without taken id [] was none found = found
stays_without taken id (row ∷ rows) was none found =
    without_by id row rows (filter (λ r. not (taken r)) rows) (filter taken rows) was (taken row) (bytes_eq id row.props.id) refl none found
    (stays_without taken id rows was)

-- ---- the new ones are there

-- a breakpoint in front hides none whose ID differs
behind_row : {A : Type 0} → (breakpoint : A → Row) (row : Row) (rows : List Row) (list : List A) → AllByRecursion (λ item. bytes_eq row.props.id (breakpoint item).props.id ≡ false) list
    → AllByRecursion (λ item. row_of (breakpoint item).props.id rows ≡ Some (breakpoint item)) list → AllByRecursion (λ item. row_of (breakpoint item).props.id (row ∷ rows) ≡ Some (breakpoint item)) list
behind_row breakpoint row rows [] apart there = tt
behind_row breakpoint row rows (item ∷ list) apart there = (
  isnt_first (breakpoint item).props.id row rows (differ_turned row.props.id (breakpoint item).props.id apart.0) ∙ there.0,
  behind_row breakpoint row rows list apart.1 there.1,
)

-- where the IDs differ, each breakpoint is found by its own
pub all_found : (rows : List Row) → IsDistinct bytes_eq (ids_of rows) → AllByRecursion (λ row. row_of row.props.id rows ≡ Some row) rows
unfolding IsDistinct
all_found [] differ = tt
all_found (row ∷ rows) differ = (
  is_first row.props.id row rows (same_text row.props.id),
  behind_row (λ (r : Row). r) row rows rows (all_mapped (λ id. bytes_eq row.props.id id ≡ false) (λ (r : Row). r.props.id) rows differ.0) (all_found rows differ.1),
)

-- an ID that isn't among others differs from each
each_differs : (id : List ℕ) (list : List BpProps) → is_among (map (λ props. props.id) list) id ≡ false → AllByRecursion (λ props. bytes_eq id props.id ≡ false) list
each_differs id [] apart = tt
each_differs id (props ∷ list) apart = let parts = or_parts _ _ apart in (parts.0, each_differs id list parts.1)

abbrev AreNew : ℕ → List BpProps → List Row → Type 0
AreNew channel list rows = AllByRecursion (λ props. row_of props.id rows ≡ Some (row_for channel props)) list

new_there : (channel : ℕ) (list : List BpProps) → has_twice (map (λ props. props.id) list) ≡ false → AreNew channel list (rows_for channel list)
new_there channel [] once = tt
new_there channel (props ∷ list) once =
    let parts = or_parts _ _ once in (
      is_first props.id (row_for channel props) (rows_for channel list) (same_text props.id),
      behind_row (row_for channel) (row_for channel props) (rows_for channel list) list (each_differs props.id list parts.0) (new_there channel list parts.1),
    )

behind_all : (channel : ℕ) (rows more : List Row) (list : List BpProps) → clashes list rows ≡ false → AreNew channel list more → AreNew channel list (rows ++ more)
behind_all channel rows more [] apart there = tt
behind_all channel rows more (props ∷ list) apart there =
    let parts = or_parts _ _ apart in (found_behind props.id rows more parts.0 ∙ there.0, behind_all channel rows more list parts.1 there.1)

-- one is there under its ID, and nothing has hit it
pub record IsFresh (rows : List Row) (props : BpProps) : Type 0 where
  pub row : Row
  pub there : row_of props.id rows ≡ Some row
  pub same : row.props ≡ props
  pub counts : row.counts ≡ []

abbrev pub AreFresh : List BpProps → List Row → Type 0
AreFresh list rows = AllByRecursion (IsFresh rows) list

fresh_all : (channel : ℕ) (list : List BpProps) (rows : List Row) → AreNew channel list rows → AreFresh list rows
fresh_all channel [] rows there = tt
fresh_all channel (props ∷ list) rows there =
    (record { row = row_for channel props; there = there.0; same = refl; counts = refl }, fresh_all channel list rows there.1)

pub added_there : (channel : ℕ) (list : List BpProps) (rows : List Row) → has_no_place list rows ≡ false → AreFresh list (rows ++ rows_for channel list)
added_there channel list rows place =
    let outer = or_parts (clashes list rows || has_twice (map (λ props. props.id) list)) (is_overfull list rows) place in
    let inner = or_parts (clashes list rows) (has_twice (map (λ props. props.id) list)) outer.0 in
    fresh_all channel list (rows ++ rows_for channel list) (behind_all channel rows (rows_for channel list) list inner.0 (new_there channel list inner.1))

-- ---- one is changed

abbrev new_row : BpProps → Row → Row
new_row props row = record row { props = props; counts = [] }

row_by : (props : BpProps) (row : Row) (b : Bool) → bytes_eq props.id row.props.id ≡ b → row_with_props props row ≡ cond b (new_row props row) row
row_by props row b e = ap (λ c. cond c (new_row props row) row) e

put_by : (props : BpProps) (row : Row) (rows new : List Row) (b : Bool) → bytes_eq props.id row.props.id ≡ b → (b || is_there props.id rows) ≡ true
    → (is_there props.id rows ≡ true → IsFresh new props) → IsFresh (row_with_props props row ∷ new) props
put_by props row rows new true e there later =
    record {
      row = new_row props row;
      there = ap (λ (r : Row). row_of props.id (r ∷ new)) (row_by props row true e) ∙ is_first props.id (new_row props row) new (same_text props.id);
      same = refl;
      counts = refl;
    }
put_by props row rows new false e there later =
    let rest = later there in
    record {
      row = rest.row;
      there = ap (λ (r : Row). row_of props.id (r ∷ new)) (row_by props row false e) ∙ isnt_first props.id row new e ∙ rest.there;
      same = rest.same;
      counts = rest.counts;
    }

pub changed_there : (props : BpProps) (rows : List Row) → is_there props.id rows ≡ true → IsFresh (with_props props rows) props
changed_there props [] there = absurd (true≢false (sym there))
changed_there props (row ∷ rows) there = put_by props row rows (with_props props rows) (bytes_eq props.id row.props.id) refl there (changed_there props rows)

beside_by : (id : List ℕ) (props : BpProps) (was row : Row) (rows new : List Row) (named b : Bool) → bytes_eq id props.id ≡ false → bytes_eq props.id row.props.id ≡ named → bytes_eq id row.props.id ≡ b
    → row_of id (row ∷ rows) ≡ Some was → (row_of id rows ≡ Some was → row_of id new ≡ Some was) → row_of id (row_with_props props row ∷ new) ≡ Some was
beside_by id props was row rows new true true other e f found later =
    absurd (true≢false (sym (ap (bytes_eq id) (are_same props.id row.props.id e) ∙ f) ∙ other))
beside_by id props was row rows new true false other e f found later =
    ap (λ (r : Row). row_of id (r ∷ new)) (row_by props row true e) ∙ isnt_first id (new_row props row) new other ∙ later (sym (isnt_first id row rows f) ∙ found)
beside_by id props was row rows new false true other e f found later =
    ap (λ (r : Row). row_of id (r ∷ new)) (row_by props row false e) ∙ is_first id row new f ∙ sym (is_first id row rows f) ∙ found
beside_by id props was row rows new false false other e f found later =
    ap (λ (r : Row). row_of id (r ∷ new)) (row_by props row false e) ∙ isnt_first id row new f ∙ later (sym (isnt_first id row rows f) ∙ found)

pub stays_beside : (id : List ℕ) (props : BpProps) (was : Row) (rows : List Row) → bytes_eq id props.id ≡ false → row_of id rows ≡ Some was → row_of id (with_props props rows) ≡ Some was
stays_beside id props was [] other found = found
stays_beside id props was (row ∷ rows) other found =
    beside_by id props was row rows (with_props props rows) (bytes_eq props.id row.props.id) (bytes_eq id row.props.id) other refl refl found (stays_beside id props was rows other)

-- ---- some are enabled or disabled

-- a row that isn't switched is as it was
unswitched : (enabled : Bool) (ids : List (List ℕ)) (row : Row) → is_switched enabled ids row ≡ false → row_with_flag enabled ids row ≡ row
unswitched enabled ids row e = cond-false _ _ _ e

-- one that is switched has the flag, and nothing has hit it since
abbrev flagged : Bool → Row → Row
flagged enabled row = record row { props = with_flag enabled row.props; counts = [] }

is_flagged : (enabled : Bool) (ids : List (List ℕ)) (row : Row) → is_switched enabled ids row ≡ true → row_with_flag enabled ids row ≡ flagged enabled row
is_flagged enabled ids row e = cond-true _ _ _ e

-- its ID stays
same_id_by : (enabled : Bool) (row : Row) (on : Bool) → (cond on (flagged enabled row) row).props.id ≡ row.props.id
same_id_by enabled row true = refl
same_id_by enabled row false = refl

same_id : (enabled : Bool) (ids : List (List ℕ)) (row : Row) → (row_with_flag enabled ids row).props.id ≡ row.props.id
same_id enabled ids row = same_id_by enabled row (is_switched enabled ids row)

flags_by : (enabled : Bool) (ids : List (List ℕ)) (id : List ℕ) (was row : Row) (rows new : List Row) (rest : List BpProps) (on b : Bool)
    → is_switched enabled ids row ≡ on → bytes_eq id row.props.id ≡ b → is_among (map (λ props. props.id) (map (λ r. with_flag enabled r.props) (cond on (row ∷ []) [])) ++ map (λ props. props.id) rest) id ≡ false
    → row_of id (row ∷ rows) ≡ Some was → (is_among (map (λ props. props.id) rest) id ≡ false → row_of id rows ≡ Some was → row_of id new ≡ Some was)
    → row_of id (row_with_flag enabled ids row ∷ new) ≡ Some was
flags_by enabled ids id was row rows new rest true true e f none found later = absurd (true≢false (sym f ∙ (or_parts _ _ none).0))
flags_by enabled ids id was row rows new rest true false e f none found later =
    isnt_first id (row_with_flag enabled ids row) new (ap (bytes_eq id) (same_id enabled ids row) ∙ f)
    ∙ later (or_parts _ _ none).1 (sym (isnt_first id row rows f) ∙ found)
flags_by enabled ids id was row rows new rest false true e f none found later =
    ap (λ (r : Row). row_of id (r ∷ new)) (unswitched enabled ids row e) ∙ is_first id row new f ∙ sym (is_first id row rows f) ∙ found
flags_by enabled ids id was row rows new rest false false e f none found later =
    ap (λ (r : Row). row_of id (r ∷ new)) (unswitched enabled ids row e) ∙ isnt_first id row new f ∙ later none (sym (isnt_first id row rows f) ∙ found)

-- the switched ones of a list with one more in front
more_switched : (enabled : Bool) (row : Row) (some : List Row) (on : Bool) → map (λ (props : BpProps). props.id) (map (λ (r : Row). with_flag enabled r.props) (cond on (row ∷ some) some))
    ≡ map (λ (props : BpProps). props.id) (map (λ (r : Row). with_flag enabled r.props) (cond on (row ∷ []) [])) ++ map (λ (props : BpProps). props.id) (map (λ (r : Row). with_flag enabled r.props) some)
more_switched enabled row some true = refl
more_switched enabled row some false = refl

pub stays_unswitched : (enabled : Bool) (ids : List (List ℕ)) (id : List ℕ) (rows : List Row) (was : Row) → is_among (map (λ props. props.id) (switched enabled ids rows)) id ≡ false
    → row_of id rows ≡ Some was → row_of id (with_flags enabled ids rows) ≡ Some was
stays_unswitched enabled ids id [] was none found = found
stays_unswitched enabled ids id (row ∷ rows) was none found =
    flags_by enabled ids id was row rows (with_flags enabled ids rows) (switched enabled ids rows) (is_switched enabled ids row) (bytes_eq id row.props.id) refl refl
    (ap (λ names. is_among names id) (sym (more_switched enabled row (filter (is_switched enabled ids) rows) (is_switched enabled ids row))) ∙ none) found
    (stays_unswitched enabled ids id rows was)

-- what is told of the switched ones is so, since the IDs differ
abbrev AreFlagged : Bool → List Row → List Row → Type 0
AreFlagged enabled rows some = AllByRecursion (λ (row : Row). row_of row.props.id rows ≡ Some (flagged enabled row)) some

apart_switched : (enabled : Bool) (ids : List (List ℕ)) (id : List ℕ) (rows : List Row) → AllByRecursion (λ other. bytes_eq id other ≡ false) (ids_of rows)
    → AllByRecursion (λ (row : Row). bytes_eq id row.props.id ≡ false) (filter (is_switched enabled ids) rows)
apart_switched enabled ids id rows apart =
    all_filter (λ (row : Row). bytes_eq id row.props.id ≡ false) (is_switched enabled ids) rows (all_mapped (λ other. bytes_eq id other ≡ false) (λ (row : Row). row.props.id) rows apart)

switched_by : (enabled : Bool) (ids : List (List ℕ)) (row : Row) (new some : List Row) (on : Bool) → is_switched enabled ids row ≡ on
    → AreFlagged enabled (row_with_flag enabled ids row ∷ new) some → AreFlagged enabled (row_with_flag enabled ids row ∷ new) (cond on (row ∷ some) some)
switched_by enabled ids row new some true e rest =
    (ap (λ (r : Row). row_of row.props.id (r ∷ new)) (is_flagged enabled ids row e) ∙ is_first row.props.id (flagged enabled row) new (same_text row.props.id), rest)
switched_by enabled ids row new some false e rest = rest

flagged_there : (enabled : Bool) (ids : List (List ℕ)) (rows : List Row) → IsDistinct bytes_eq (ids_of rows) → AreFlagged enabled (with_flags enabled ids rows) (filter (is_switched enabled ids) rows)
unfolding IsDistinct
flagged_there enabled ids [] differ = tt
flagged_there enabled ids (row ∷ rows) differ =
    let some : List Row = filter (is_switched enabled ids) rows in
    let Apart : List ℕ → Type 0 = λ id. AllByRecursion (λ (r : Row). bytes_eq id r.props.id ≡ false) some in
    switched_by enabled ids row (with_flags enabled ids rows) some (is_switched enabled ids row) refl
    (behind_row (flagged enabled) (row_with_flag enabled ids row) (with_flags enabled ids rows) some
    (subst Apart (sym (same_id enabled ids row)) (apart_switched enabled ids row.props.id rows differ.0)) (flagged_there enabled ids rows differ.1))

fresh_flagged : (enabled : Bool) (rows some : List Row) → AreFlagged enabled rows some → AreFresh (map (λ (r : Row). with_flag enabled r.props) some) rows
fresh_flagged enabled rows [] there = tt
fresh_flagged enabled rows (row ∷ some) there =
    (record { row = flagged enabled row; there = there.0; same = refl; counts = refl }, fresh_flagged enabled rows some there.1)

pub switched_there : (enabled : Bool) (ids : List (List ℕ)) (rows : List Row) → IsDistinct bytes_eq (ids_of rows) → AreFresh (switched enabled ids rows) (with_flags enabled ids rows)
switched_there enabled ids rows differ =
    fresh_flagged enabled (with_flags enabled ids rows) (filter (is_switched enabled ids) rows) (flagged_there enabled ids rows differ)

-- ---- the counts of some are raised, and each other stays

unhit_by : (id : List ℕ) (row changed : Row) (rows new : List Row) (hits : List (List ℕ)) (hit b : Bool) → bytes_eq id row.props.id ≡ b → changed.props.id ≡ row.props.id → (hit ≡ false → changed ≡ row)
    → is_among (cond hit (row.props.id ∷ hits) hits) id ≡ false → (is_among hits id ≡ false → row_of id new ≡ row_of id rows) → row_of id (changed ∷ new) ≡ row_of id (row ∷ rows)
unhit_by id row changed rows new hits true true e same stays none later = absurd (true≢false (sym e ∙ (or_parts _ _ none).0))
unhit_by id row changed rows new hits true false e same stays none later =
    isnt_first id changed new (ap (bytes_eq id) same ∙ e) ∙ later (or_parts _ _ none).1 ∙ sym (isnt_first id row rows e)
unhit_by id row changed rows new hits false true e same stays none later =
    ap (λ (r : Row). row_of id (r ∷ new)) (stays refl) ∙ is_first id row new e ∙ sym (is_first id row rows e)
unhit_by id row changed rows new hits false false e same stays none later =
    ap (λ (r : Row). row_of id (r ∷ new)) (stays refl) ∙ isnt_first id row new e ∙ later none ∙ sym (isnt_first id row rows e)

ids_by : (hit : Bool) (row : Row) (some : List Row) → ids_of (cond hit (row ∷ some) some) ≡ cond hit (row.props.id ∷ ids_of some) (ids_of some)
ids_by true row some = refl
ids_by false row some = refl

same_props_by : (hit : Bool) (process : ℕ) (row : Row) → (cond hit (row_raised process row) row).props.id ≡ row.props.id
same_props_by true process row = refl
same_props_by false process row = refl

stays_unhit : (process pc : ℕ) (id : List ℕ) (rows : List Row) → is_among (ids_of (filter (λ row. is_hit process pc row.props) rows)) id ≡ false → row_of id (map (row_tested process pc) rows) ≡ row_of id rows
stays_unhit process pc id [] none = refl
stays_unhit process pc id (row ∷ rows) none =
    let hits : List Row = filter (λ r. is_hit process pc r.props) rows in
    let hit : Bool = is_hit process pc row.props in
    unhit_by id row (row_tested process pc row) rows (map (row_tested process pc) rows) (ids_of hits) hit (bytes_eq id row.props.id) refl (same_props_by hit process row)
    (λ isnt. cond-false hit (row_raised process row) row isnt) (ap (λ names. is_among names id) (sym (ids_by hit row hits)) ∙ none) (stays_unhit process pc id rows)

pub stays_uncounted : (process : ℕ) (attached : Bool) (pc : ℕ) (id : List ℕ) (rows : List Row) → is_among (hits_of process attached pc rows) id ≡ false → row_of id (counted process attached pc rows) ≡ row_of id rows
stays_uncounted process true pc id rows none = stays_unhit process pc id rows none
stays_uncounted process false pc id rows none = refl
