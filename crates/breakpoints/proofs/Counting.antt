-- A hit test that counts, by the IDs of what is hit.
use Rattle.std.proofs.Common.{◌≡◌, ℕ, ◌<◌, ◌^◌, ◌==◌, Bool, true, false, cond, not, ◌&&◌, ◌||◌, List, [], ◌∷◌, map, filter, Option, Some, option_map, refl, sym, ap, subst, ◌∙◌}
use Rattle.std.specs.Prelude.{bytes_eq}
use Rattle.std.specs.Global.{Vec}
use Rattle.std.specs.List.{AllByRecursion, IsDistinct, list_any}
use Rattle.std.specs.Map.{values_of}
use Rattle.std.specs.Option.{option_map_or}
use Rattle.std.proofs.lemmas.Slice.Eq.{bytes_eq-Decides}
use Rattle.tcf_values.specs.declared.values.BpProps.{BpProps}
use Rattle.breakpoints.specs.Counting.{counted, counts_of, hit_rows, is_over, is_over_named, is_stopping, listed, raised_among, row_among, row_raised, row_tested, row_with_counts, row_without, stops_at}
use Rattle.breakpoints.specs.Counts.{AreCounts, raised}
use Rattle.breakpoints.specs.Indexed.{Index, IsIndexed}
use Rattle.breakpoints.specs.Keyed.{IsKept, with_values}
use Rattle.breakpoints.specs.Laws.{HitsAreListed}
use Rattle.breakpoints.specs.Placed.{Placed}
use Rattle.breakpoints.specs.Rows.{IsOrderly, ids_of, is_among, row_of}
use Rattle.breakpoints.specs.Status.{hits_of, is_hit}
use Rattle.breakpoints.proofs.Filtered.{one_stays}
use Rattle.breakpoints.proofs.Fresh.{eq_sym, there_among}
use Rattle.breakpoints.proofs.Hitting.{IsFound, all_found}
use Rattle.breakpoints.proofs.Indexing.{KeepsProps, indexed_from, indexes_kept, kept_of}
use Rattle.breakpoints.proofs.Raising.{raised_are}
use Rattle.breakpoints.proofs.Written.{Keeps, KeepsIds, kept_with, orderly_map, values-with_values}
use Rattle.list_laws.proofs.AllLists.{all_filter}

-- ---- what a change of counts leaves

props_by : (b : Bool) (process : ℕ) (row : Placed) → (cond b (row_raised process row) row).props ≡ row.props
props_by true process row = refl
props_by false process row = refl

counts_by : (b : Bool) (process : ℕ) (row : Placed) → AreCounts row.counts → AreCounts (cond b (row_raised process row) row).counts
counts_by true process row are = raised_are process row.counts are
counts_by false process row are = are

pub tested_props : (process pc : ℕ) → KeepsProps (row_tested process pc)
tested_props process pc row = props_by (is_hit process pc row.props) process row

pub among_props : (process : ℕ) (ids : List (List ℕ)) → KeepsProps (row_among process ids)
among_props process ids row = props_by (is_among ids row.props.id) process row

pub without_props : (process : ℕ) → KeepsProps (row_without process)
without_props process row = refl

keeps_ids : (change : Placed → Placed) → KeepsProps change → KeepsIds change
keeps_ids change keeps row = ap (λ (p : BpProps). p.id) (keeps row)

pub tested_keeps : (process pc : ℕ) → Keeps (row_tested process pc)
tested_keeps process pc = record {
  ids = keeps_ids (row_tested process pc) (tested_props process pc);
  counts = λ row. counts_by (is_hit process pc row.props) process row;
}

pub among_keeps : (process : ℕ) (ids : List (List ℕ)) → Keeps (row_among process ids)
among_keeps process ids = record {
  ids = keeps_ids (row_among process ids) (among_props process ids);
  counts = λ row. counts_by (is_among ids row.props.id) process row;
}

pub without_keeps : (process : ℕ) → Keeps (row_without process)
without_keeps process = record {
  ids = λ row. refl;
  counts = λ row are. all_filter (λ (entry : ℕ × ℕ). entry.1 < 2 ^ 32) (λ entry. not (entry.0 == process)) row.counts are;
}

-- ---- the map and its index, after a change

pub values_changed : (change : Placed → Placed) (entries new : List (Vec ℕ × Placed)) (rows : List Placed) → values_of entries ≡ rows → new ≡ with_values change entries → values_of new ≡ map change rows
values_changed change entries new rows values is = ap values_of is ∙ values-with_values change entries ∙ ap (map change) values

pub changed_indexed : (change : Placed → Placed) → Keeps change → KeepsProps change → (entries new : List (Vec ℕ × Placed)) (index : Index) → IsIndexed entries index → new ≡ with_values change entries → IsIndexed new index
changed_indexed change keeps props entries new index was is =
    indexed_from new index (map change (values_of entries)) (subst IsKept (sym is) (kept_with change keeps entries (kept_of entries index was)))
    (values_changed change entries new (values_of entries) refl is) (indexes_kept change props index (values_of entries) was.indexed)

-- ---- the breakpoint of an ID, after a change

found_by : (change : Placed → Placed) (id : List ℕ) (row : Placed) (b : Bool) (rest : Option Placed) → cond b (Some (change row)) (option_map change rest) ≡ option_map change (cond b (Some row) rest)
found_by change id row true rest = refl
found_by change id row false rest = refl

row_of_map : (change : Placed → Placed) → KeepsIds change → (id : List ℕ) (rows : List Placed) → row_of id (map change rows) ≡ option_map change (row_of id rows)
row_of_map change keeps id [] = refl
row_of_map change keeps id (row ∷ rows) =
    ap (λ (other : List ℕ). cond (bytes_eq id other) (Some (change row)) (row_of id (map change rows))) (keeps row)
    ∙ ap (cond (bytes_eq id row.props.id) (Some (change row))) (row_of_map change keeps id rows)
    ∙ found_by change id row (bytes_eq id row.props.id) (row_of id rows)

-- ---- the IDs of what is hit name what is hit

map_same : (f g : Placed → Placed) (P : Placed → Type 0) → ((row : Placed) → P row → f row ≡ g row) → (rows : List Placed) → AllByRecursion P rows → map f rows ≡ map g rows
map_same f g P same [] all = refl
map_same f g P same (row ∷ rows) all = ap (λ (r : Placed). r ∷ map f rows) (same row all.0) ∙ ap (λ (rest : List Placed). g row ∷ rest) (map_same f g P same rows all.1)

map_nothing : (process : ℕ) (rows : List Placed) → map (row_among process []) rows ≡ rows
map_nothing process [] = refl
map_nothing process (row ∷ rows) = ap (λ (rest : List Placed). row ∷ rest) (map_nothing process rows)

-- an ID is among those that pass exactly where its breakpoint passes
among_passing : (p : Placed → Bool) (rows : List Placed) (row : Placed) → IsDistinct bytes_eq (ids_of rows) → IsFound rows row → is_among (ids_of (filter p rows)) row.props.id ≡ p row
among_passing p rows row differ found = sym (there_among row.props.id (filter p rows)) ∙ one_stays row.props.id p rows row differ found

abbrev hits : ℕ → ℕ → Placed → Bool
hits process pc row = is_hit process pc row.props

raised_by : (process : ℕ) (attached : Bool) (pc : ℕ) (rows : List Placed) → IsOrderly rows → raised_among process (hits_of process attached pc rows) rows ≡ counted process attached pc rows
raised_by process true pc rows orderly =
    map_same (row_among process (ids_of (filter (hits process pc) rows))) (row_tested process pc) (IsFound rows)
    (λ row found. ap (λ b. cond b (row_raised process row) row) (among_passing (hits process pc) rows row orderly.differ found))
    rows (all_found rows orderly.differ)
raised_by process false pc rows orderly = map_nothing process rows

pub raised_hits : (process : ℕ) (attached : Bool) (pc : ℕ) (rows : List Placed) (ids : List (List ℕ)) → IsOrderly rows → ids ≡ hits_of process attached pc rows
    → raised_among process ids rows ≡ counted process attached pc rows
raised_hits process attached pc rows ids orderly are = ap (λ these. raised_among process these rows) are ∙ raised_by process attached pc rows orderly

-- ---- which of them stop the thread

over_by : (process pc : ℕ) (rows : List Placed) (row : Placed) (part : List Placed) (b : Bool) → is_hit process pc row.props ≡ b → IsFound rows row
    → list_any (is_over_named process (map (row_tested process pc) rows)) (ids_of (filter (hits process pc) part)) ≡ list_any (is_stopping process pc) part
    → list_any (is_over_named process (map (row_tested process pc) rows)) (ids_of (cond b (row ∷ filter (hits process pc) part) (filter (hits process pc) part)))
    ≡ ((b && is_over process (row_raised process row)) || list_any (is_stopping process pc) part)
over_by process pc rows row part true hit found rest =
    let there : row_of row.props.id (map (row_tested process pc) rows) ≡ Some (row_raised process row) =
    row_of_map (row_tested process pc) (tested_keeps process pc).ids row.props.id rows ∙ ap (option_map (row_tested process pc)) found
    ∙ ap (λ b. Some (cond b (row_raised process row) row)) hit in
    ap (λ o. option_map_or (is_over process) o false || list_any (is_over_named process (map (row_tested process pc) rows)) (ids_of (filter (hits process pc) part))) there
    ∙ ap (λ b. is_over process (row_raised process row) || b) rest
over_by process pc rows row part false hit found rest = rest

over_all : (process pc : ℕ) (rows part : List Placed) → AllByRecursion (IsFound rows) part
    → list_any (is_over_named process (map (row_tested process pc) rows)) (ids_of (filter (hits process pc) part)) ≡ list_any (is_stopping process pc) part
over_all process pc rows [] found = refl
over_all process pc rows (row ∷ part) found = over_by process pc rows row part (is_hit process pc row.props) refl found.0 (over_all process pc rows part found.1)

stops_by : (process : ℕ) (attached : Bool) (pc : ℕ) (rows : List Placed) → IsOrderly rows
    → list_any (is_over_named process (counted process attached pc rows)) (hits_of process attached pc rows) ≡ stops_at process attached pc rows
stops_by process true pc rows orderly = over_all process pc rows rows (all_found rows orderly.differ)
stops_by process false pc rows orderly = refl

pub over_hits : (process : ℕ) (attached : Bool) (pc : ℕ) (rows after : List Placed) (ids : List (List ℕ)) → IsOrderly rows → ids ≡ hits_of process attached pc rows
    → after ≡ counted process attached pc rows → list_any (is_over_named process after) ids ≡ stops_at process attached pc rows
over_hits process attached pc rows after ids orderly are becomes =
    ap (λ (now : List Placed). list_any (is_over_named process now) ids) becomes
    ∙ ap (list_any (is_over_named process (counted process attached pc rows))) are ∙ stops_by process attached pc rows orderly

-- ---- the IDs of what is hit, looked up again

listed_found : (rows part : List Placed) → AllByRecursion (IsFound rows) part → listed (ids_of part) rows ≡ part
listed_found rows [] found = refl
listed_found rows (row ∷ part) found =
    ap (λ o. option_map_or (λ (r : Placed). r ∷ listed (ids_of part) rows) o (listed (ids_of part) rows)) found.0
    ∙ ap (λ (rest : List Placed). row ∷ rest) (listed_found rows part found.1)

kept_by : (new old : Placed) (b : Bool) (rest others : List Placed) → new.props ≡ old.props → ids_of rest ≡ ids_of others → ids_of (cond b (new ∷ rest) rest) ≡ ids_of (cond b (old ∷ others) others)
kept_by new old true rest others same e = ap (λ (p : BpProps). p.id ∷ ids_of rest) same ∙ ap (λ (ids : List (List ℕ)). old.props.id ∷ ids) e
kept_by new old false rest others same e = e

-- what is hit is hit as well once it is counted
hits_kept : (change : Placed → Placed) → KeepsProps change → (process pc : ℕ) (rows : List Placed) → ids_of (filter (hits process pc) (map change rows)) ≡ ids_of (filter (hits process pc) rows)
hits_kept change keeps process pc [] = refl
hits_kept change keeps process pc (row ∷ rows) =
    let rest : List Placed = filter (hits process pc) (map change rows) in
    ap (λ (p : BpProps). ids_of (cond (is_hit process pc p) (change row ∷ rest) rest)) (keeps row)
    ∙ kept_by (change row) row (is_hit process pc row.props) rest (filter (hits process pc) rows) (keeps row) (hits_kept change keeps process pc rows)

pub hits_are_listed : HitsAreListed
hits_are_listed process true pc rows orderly =
    listed_found rows (filter (hits process pc) rows) (all_filter (IsFound rows) (hits process pc) rows (all_found rows orderly.differ))
hits_are_listed process false pc rows orderly = refl

counted_hits : (process : ℕ) (attached : Bool) (pc : ℕ) (rows : List Placed) → hits_of process attached pc (counted process attached pc rows) ≡ hits_of process attached pc rows
counted_hits process true pc rows = hits_kept (row_tested process pc) (tested_props process pc) process pc rows
counted_hits process false pc rows = refl

pub orderly_counted : (process : ℕ) (attached : Bool) (pc : ℕ) (rows : List Placed) → IsOrderly rows → IsOrderly (counted process attached pc rows)
orderly_counted process true pc rows orderly = orderly_map (row_tested process pc) (tested_keeps process pc) rows orderly
orderly_counted process false pc rows orderly = orderly

pub hits_listed : (process : ℕ) (attached : Bool) (pc : ℕ) (rows after : List Placed) (ids : List (List ℕ)) → IsOrderly rows → ids ≡ hits_of process attached pc rows
    → after ≡ counted process attached pc rows → listed ids after ≡ hit_rows process attached pc after
hits_listed process attached pc rows after ids orderly are becomes =
    let same : ids ≡ hits_of process attached pc after = are ∙ sym (counted_hits process attached pc rows) ∙ ap (hits_of process attached pc) (sym becomes) in
    let kept : IsOrderly after = subst IsOrderly (sym becomes) (orderly_counted process attached pc rows orderly) in
    ap (λ these. listed these after) same ∙ hits_are_listed process attached pc after kept

-- ---- nothing is hit

pub none_counted : (process : ℕ) (attached : Bool) (pc : ℕ) (rows : List Placed) (ids : List (List ℕ)) → IsOrderly rows → ids ≡ hits_of process attached pc rows → ids ≡ []
    → rows ≡ counted process attached pc rows
none_counted process attached pc rows ids orderly are none =
    sym (map_nothing process rows) ∙ ap (λ these. raised_among process these rows) (sym none) ∙ raised_hits process attached pc rows ids orderly are

pub none_stops : (process : ℕ) (attached : Bool) (pc : ℕ) (rows : List Placed) (ids : List (List ℕ)) → IsOrderly rows → ids ≡ hits_of process attached pc rows → ids ≡ []
    → false ≡ stops_at process attached pc rows
none_stops process attached pc rows ids orderly are none =
    ap (list_any (is_over_named process (counted process attached pc rows))) (sym none)
    ∙ over_hits process attached pc rows (counted process attached pc rows) ids orderly are refl

-- ---- one ID after another

-- the counts of a breakpoint that is found
counts_found : (rows : List Placed) (row : Placed) → IsFound rows row → counts_of row.props.id rows ≡ row.counts
counts_found rows row found = ap (λ o. option_map_or (λ (r : Placed). r.counts) o []) found

put_by : (process : ℕ) (counts : List (ℕ × ℕ)) (row : Placed) (b m : Bool) → (b ≡ true → counts ≡ raised process row.counts)
    → cond b (record (cond m (row_raised process row) row) { counts = counts }) (cond m (row_raised process row) row) ≡ cond (b || m) (row_raised process row) row
put_by process counts row true true is = ap (λ (c : List (ℕ × ℕ)). record row { counts = c }) (is refl)
put_by process counts row true false is = ap (λ (c : List (ℕ × ℕ)). record row { counts = c }) (is refl)
put_by process counts row false true is = refl
put_by process counts row false false is = refl

one_row : (process : ℕ) (first : List ℕ) (rest : List (List ℕ)) (counts : List (ℕ × ℕ)) (rows : List Placed) (row : Placed) → IsFound rows row → counts ≡ raised process (counts_of first rows)
    → row_with_counts first counts (row_among process rest row) ≡ row_among process (first ∷ rest) row
one_row process first rest counts rows row found are =
    let done : Placed = row_among process rest row in
    let same : bytes_eq first row.props.id ≡ true → counts ≡ raised process row.counts =
    λ is. are ∙ ap (λ (id : List ℕ). raised process (counts_of id rows)) ((bytes_eq-Decides first row.props.id).0 is) ∙ ap (raised process) (counts_found rows row found) in
    ap (λ (p : BpProps). cond (bytes_eq first p.id) (record done { counts = counts }) done) (among_props process rest row)
    ∙ put_by process counts row (bytes_eq first row.props.id) (is_among rest row.props.id) same
    ∙ ap (λ b. cond (b || is_among rest row.props.id) (row_raised process row) row) (eq_sym first row.props.id)

-- the entries, with one ID more raised
entries_raised : (process : ℕ) (first : List ℕ) (rest : List (List ℕ)) (counts : List (ℕ × ℕ)) (rows : List Placed) (part : List (Vec ℕ × Placed)) → AllByRecursion (IsFound rows) (values_of part)
    → counts ≡ raised process (counts_of first rows)
    → with_values (row_with_counts first counts) (with_values (row_among process rest) part) ≡ with_values (row_among process (first ∷ rest)) part
entries_raised process first rest counts rows [] found are = refl
entries_raised process first rest counts rows (e ∷ part) found are =
    ap (λ (r : Placed). (e.0, r) ∷ with_values (row_with_counts first counts) (with_values (row_among process rest) part)) (one_row process first rest counts rows e.1 found.0 are)
    ∙ ap (λ (more : List (Vec ℕ × Placed)). (e.0, row_among process (first ∷ rest) e.1) ∷ more) (entries_raised process first rest counts rows part found.1 are)

pub one_more_raised : (process : ℕ) (first : List ℕ) (rest : List (List ℕ)) (counts : List (ℕ × ℕ)) (entries : List (Vec ℕ × Placed)) → IsKept entries → counts ≡ raised process (counts_of first (values_of entries))
    → with_values (row_with_counts first counts) (with_values (row_among process rest) entries) ≡ with_values (row_among process (first ∷ rest)) entries
one_more_raised process first rest counts entries kept are =
    entries_raised process first rest counts (values_of entries) entries (all_found (values_of entries) kept.orderly.differ) are

pub none_raised : (process : ℕ) (entries : List (Vec ℕ × Placed)) → entries ≡ with_values (row_among process []) entries
none_raised process [] = refl
none_raised process (e ∷ entries) = ap (λ (more : List (Vec ℕ × Placed)). e ∷ more) (none_raised process entries)

pub among_kept : (process : ℕ) (ids : List (List ℕ)) (entries new : List (Vec ℕ × Placed)) → IsKept entries → new ≡ with_values (row_among process ids) entries → IsKept new
among_kept process ids entries new kept is = subst IsKept (sym is) (kept_with (row_among process ids) (among_keeps process ids) entries kept)
