-- What a thread hits is what stands at its address and is for its process.
use Rattle.std.proofs.Common.{◌≡◌, ℕ, Bool, true, false, cond, ◌&&◌, List, [], ◌∷◌, map, filter, Option, Some, None, option_map, refl, sym, ap, ◌∙◌, option_and_then}
use Rattle.std.specs.Prelude.{bytes_eq}
use Rattle.std.specs.List.{AllByRecursion, IsDistinct, list_any}
use Rattle.std.specs.Option.{option_map_or}
use Rattle.std.proofs.lemmas.Slice.Eq.{bytes_eq-Decides}
use Rattle.tcf_values.specs.declared.values.BpProps.{BpProps}
use Rattle.breakpoints.specs.Address.{address_of}
use Rattle.breakpoints.specs.Indexed.{ids_at, is_named_for, rows_at, says, some_of, stands_at}
use Rattle.breakpoints.specs.Placed.{Placed}
use Rattle.breakpoints.specs.Rows.{IsOrderly, ids_of, row_of}
use Rattle.breakpoints.specs.Status.{hits_of, instance_of, is_at, is_for, is_hit, place_at, place_of}
use Rattle.breakpoints.proofs.Fresh.{eq_sym}
use Rattle.breakpoints.proofs.Instances.{filter_same, one_by}
use Rattle.list_laws.proofs.AllLists.{all_filter as all_left}

-- ---- a breakpoint is found by its ID

abbrev pub IsFound : List Placed → Placed → Type 0
IsFound rows row = row_of row.props.id rows ≡ Some row

-- one whose ID is another than the first one's is found behind it
found_behind : (first row : Placed) (rows : List Placed) → bytes_eq first.props.id row.props.id ≡ false → IsFound rows row → IsFound (first ∷ rows) row
found_behind first row rows apart found =
    ap (λ b. cond b (Some first) (row_of row.props.id rows)) (eq_sym row.props.id first.props.id ∙ apart) ∙ found

found_here : (first : Placed) (rows : List Placed) → IsFound (first ∷ rows) first
found_here first rows =
    ap (λ b. cond b (Some first) (row_of first.props.id rows)) ((bytes_eq-Decides first.props.id first.props.id).1 refl)

all_behind : (first : Placed) (rows part : List Placed) → AllByRecursion (λ id. bytes_eq first.props.id id ≡ false) (ids_of part) → AllByRecursion (IsFound rows) part → AllByRecursion (IsFound (first ∷ rows)) part
all_behind first rows [] apart found = found
all_behind first rows (row ∷ part) apart found = (found_behind first row rows apart.0 found.0, all_behind first rows part apart.1 found.1)

pub all_found : (rows : List Placed) → IsDistinct bytes_eq (ids_of rows) → AllByRecursion (IsFound rows) rows
unfolding IsDistinct
all_found [] differ = tt
all_found (row ∷ rows) differ = (found_here row rows, all_behind row rows rows differ.0 (all_found rows differ.1))

-- ---- the IDs that pass are those of the breakpoints that pass

passing_by : (row : Placed) (b : Bool) (ids : List (List ℕ)) (rows : List Placed) → ids ≡ ids_of rows → cond b (row.props.id ∷ ids) ids ≡ ids_of (cond b (row ∷ rows) rows)
passing_by row true ids rows e = ap (λ (rest : List (List ℕ)). row.props.id ∷ rest) e
passing_by row false ids rows e = e

passing_ids : (process : ℕ) (rows part : List Placed) → AllByRecursion (IsFound rows) part → filter (is_named_for process rows) (ids_of part) ≡ ids_of (filter (λ row. is_for row.props.contexts process) part)
passing_ids process rows [] found = refl
passing_ids process rows (row ∷ part) found =
    ap (λ o. cond (option_map_or (λ (props : BpProps). is_for props.contexts process) (option_map (λ (r : Placed). r.props) o) false) (row.props.id ∷ filter (is_named_for process rows) (ids_of part)) (filter (is_named_for process rows) (ids_of part))) found.0
    ∙ passing_by row (is_for row.props.contexts process) (filter (is_named_for process rows) (ids_of part)) (filter (λ row. is_for row.props.contexts process) part) (passing_ids process rows part found.1)

-- ---- a hit stands at the address

at_by : (pc : ℕ) (said : Option ℕ) → is_at pc (place_at said) ≡ says pc said
at_by pc (Some address) = refl
at_by pc None = refl

both_tests : (enabled for_it at_it : Bool) → cond enabled (for_it && at_it) false ≡ ((enabled && at_it) && for_it)
both_tests true true true = refl
both_tests true true false = refl
both_tests true false true = refl
both_tests true false false = refl
both_tests false for_it at_it = refl

hit_by : (process pc : ℕ) (props : BpProps) (enabled : Bool) → props.enabled ≡ enabled → is_hit process pc props ≡ cond enabled (is_for props.contexts process && is_at pc (place_of props.location)) false
hit_by process pc props true on =
    ap (λ b. list_any (λ instance. is_at pc instance.place) (cond b (map (instance_of props []) (filter (is_for props.contexts) (process ∷ []))) [])) on
    ∙ one_by props [] process pc (is_for props.contexts process)
hit_by process pc props false off =
    ap (λ b. list_any (λ instance. is_at pc instance.place) (cond b (map (instance_of props []) (filter (is_for props.contexts) (process ∷ []))) [])) off

hit_there : (process pc : ℕ) (props : BpProps) → is_hit process pc props ≡ (stands_at pc props && is_for props.contexts process)
hit_there process pc props =
    hit_by process pc props props.enabled refl
    ∙ both_tests props.enabled (is_for props.contexts process) (is_at pc (place_of props.location))
    ∙ ap (λ b. (props.enabled && b) && is_for props.contexts process) (at_by pc (option_and_then address_of props.location))

twice_by : (p q : Placed → Bool) (row : Placed) (rows : List Placed) (a : Bool) → p row ≡ a → filter q (cond a (row ∷ filter p rows) (filter p rows)) ≡ cond (a && q row) (row ∷ filter q (filter p rows)) (filter q (filter p rows))
twice_by p q row rows true e = refl
twice_by p q row rows false e = refl

-- one test after another
filter_twice : (p q : Placed → Bool) (rows : List Placed) → filter q (filter p rows) ≡ filter (λ row. p row && q row) rows
filter_twice p q [] = refl
filter_twice p q (row ∷ rows) =
    twice_by p q row rows (p row) refl ∙ ap (λ (rest : List Placed). cond (p row && q row) (row ∷ rest) rest) (filter_twice p q rows)

these_hit : (process pc : ℕ) (rows : List Placed) → ids_of (filter (λ row. is_for row.props.contexts process) (rows_at pc rows)) ≡ hits_of process true pc rows
these_hit process pc rows =
    ap ids_of (filter_twice (λ row. stands_at pc row.props) (λ row. is_for row.props.contexts process) rows
    ∙ filter_same (λ row. stands_at pc row.props && is_for row.props.contexts process) (λ row. is_hit process pc row.props) (λ row. sym (hit_there process pc row.props)) rows)

some_is : (ids all : List (List ℕ)) → Some ids ≡ some_of all → ids ≡ all
some_is ids [] e = cc
some_is ids (id ∷ all) e = cc

none_is : (all : List (List ℕ)) → None ≡ some_of all → all ≡ []
none_is [] e = refl
none_is (id ∷ all) e = cc

-- those at pc that are for the process
pub hits_there : (process pc : ℕ) (rows : List Placed) (ids : List (List ℕ)) → IsOrderly rows → Some ids ≡ ids_at pc rows → filter (is_named_for process rows) ids ≡ hits_of process true pc rows
hits_there process pc rows ids orderly found =
    ap (filter (is_named_for process rows)) (some_is ids (ids_of (rows_at pc rows)) found)
    ∙ passing_ids process rows (rows_at pc rows) (all_left (IsFound rows) (λ row. stands_at pc row.props) rows (all_found rows orderly.differ))
    ∙ these_hit process pc rows

no_rows : (rows : List Placed) → ids_of rows ≡ [] → rows ≡ []
no_rows [] e = refl
no_rows (row ∷ rows) e = cc

-- where nothing stands at pc, nothing is hit
pub no_hits : (process pc : ℕ) (rows : List Placed) → None ≡ ids_at pc rows → [] ≡ hits_of process true pc rows
no_hits process pc rows none =
    sym (ap (λ (there : List Placed). ids_of (filter (λ row. is_for row.props.contexts process) there)) (no_rows (rows_at pc rows) (none_is (ids_of (rows_at pc rows)) none)))
    ∙ these_hit process pc rows
