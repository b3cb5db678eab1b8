-- How an index grows by breakpoints behind those that it is of.
use Rattle.std.proofs.Common.{◌≡◌, ℕ, ◌+◌, ◌<◌, length, take, get_or, subst, List, [], ◌∷◌, ◌++◌, Option, Some, None, Bool, true, false, cond, ◌==◌, ◌&&◌, not, map, refl, sym, ap, ◌∙◌, append_assoc, append-nil, option_and_then}
use Rattle.std.proofs.lemmas.Bool.{eqb-true}
use Rattle.std.proofs.lemmas.List.{map-append, take_more}
use Rattle.std.specs.BTreeMap.{get}
use Rattle.std.specs.Global.{Vec}
use Rattle.std.specs.Map.{values_of}
use Rattle.std.specs.Ordering.{nat_cmp}
use Rattle.tcf_values.specs.declared.values.BpProps.{BpProps}
use Rattle.breakpoints.specs.Address.{address_of}
use Rattle.std.specs.Prelude.{bytes_eq}
use Rattle.breakpoints.specs.Changes.{is_switched, row_with_flag, row_with_props, with_flag, with_flags, with_props}
use Rattle.breakpoints.specs.Indexed.{AddsId, AddsProps, AddsRows, Index, Indexes, IsIndexed, or_empty, rows_at, says, some_of, stands_at}
use Rattle.breakpoints.specs.Keyed.{IsKept}
use Rattle.breakpoints.specs.Placed.{Placed, row_for}
use Rattle.breakpoints.specs.Rows.{ids_of, rows_for}
use Rattle.breakpoints.specs.Selecting.{selects, unselected}
use Rattle.breakpoints.specs.declared.selection.Selection.{Selection}

-- ---- one breakpoint more

ids_push_by : (first : Placed) (b : Bool) (new old : List Placed) (more : List (List ℕ)) → ids_of new ≡ ids_of old ++ more → ids_of (cond b (first ∷ new) new) ≡ ids_of (cond b (first ∷ old) old) ++ more
ids_push_by first true new old more e = ap (λ (ids : List (List ℕ)). first.props.id ∷ ids) e
ids_push_by first false new old more e = e

last_by : (row : Placed) (b : Bool) → ids_of (cond b (row ∷ []) []) ≡ cond b (row.props.id ∷ []) []
last_by row true = refl
last_by row false = refl

pub ids_push : (address : ℕ) (rows : List Placed) (row : Placed) → ids_of (rows_at address (rows ++ row ∷ [])) ≡ ids_of (rows_at address rows) ++ cond (stands_at address row.props) (row.props.id ∷ []) []
ids_push address [] row = last_by row (stands_at address row.props)
ids_push address (first ∷ rows) row =
    ids_push_by first (stands_at address first.props) (rows_at address (rows ++ row ∷ [])) (rows_at address rows) (cond (stands_at address row.props) (row.props.id ∷ []) []) (ids_push address rows row)

some_push : (ids : List (List ℕ)) (id : List ℕ) → Some (or_empty (some_of ids) ++ id ∷ []) ≡ some_of (ids ++ id ∷ [])
some_push [] id = refl
some_push (first ∷ ids) id = refl

added_by : (old new : Index) (address at : ℕ) (id : List ℕ) (ids : List (List ℕ)) (b : Bool) → (at == address) ≡ b → AddsId old new at id → get nat_cmp old address ≡ some_of ids → get nat_cmp new address ≡ some_of (ids ++ cond b (id ∷ []) [])
added_by old new address at id ids true e adds was =
    ap (get nat_cmp new) (sym (eqb-true at address e)) ∙ adds.here ∙ ap (λ (o : Option (List (List ℕ))). Some (or_empty o ++ id ∷ [])) (ap (get nat_cmp old) (eqb-true at address e) ∙ was) ∙ some_push ids id
added_by old new address at id ids false e adds was =
    adds.elsewhere address e ∙ was ∙ ap some_of (sym (append-nil ids))

-- an enabled one, at the address that its location says
pub added : (old new : Index) (props : BpProps) (enabled : Bool) (at : ℕ) → enabled ≡ true → Some at ≡ option_and_then address_of props.location → AddsId old new at props.id → AddsProps old new (with_flag enabled props)
added old new props enabled at on said adds channel counts rows indexes address =
    let here : stands_at address (with_flag enabled props) ≡ (at == address) =
    ap (λ b. b && says address (option_and_then address_of props.location)) on ∙ ap (says address) (sym said) in
    added_by old new address at props.id (ids_of (rows_at address rows)) (at == address) refl adds (indexes address)
    ∙ ap (λ b. some_of (ids_of (rows_at address rows) ++ cond b (props.id ∷ []) [])) (sym here)
    ∙ ap some_of (sym (ids_push address rows (record { channel = channel; props = with_flag enabled props; counts = counts })))

skipped_by : (index : Index) (props : BpProps) → ((address : ℕ) → stands_at address props ≡ false) → AddsProps index index props
skipped_by index props nowhere channel counts rows indexes address =
    indexes address ∙ ap some_of (sym (append-nil (ids_of (rows_at address rows))))
    ∙ ap (λ b. some_of (ids_of (rows_at address rows) ++ cond b (props.id ∷ []) [])) (sym (nowhere address))
    ∙ ap some_of (sym (ids_push address rows (record { channel = channel; props = props; counts = counts })))

-- one that is disabled, and one whose location says no address
pub skipped_disabled : (index : Index) (props : BpProps) (enabled : Bool) → enabled ≡ false → AddsProps index index (with_flag enabled props)
skipped_disabled index props enabled off =
    skipped_by index (with_flag enabled props) (λ address. ap (λ b. b && says address (option_and_then address_of props.location)) off)

no_address_by : (enabled : Bool) → (enabled && false) ≡ false
no_address_by true = refl
no_address_by false = refl

pub skipped_nowhere : (index : Index) (props : BpProps) (enabled : Bool) → None ≡ option_and_then address_of props.location → AddsProps index index (with_flag enabled props)
skipped_nowhere index props enabled none =
    skipped_by index (with_flag enabled props) (λ address. ap (λ o. enabled && says address o) (sym none) ∙ no_address_by enabled)

-- ---- several more

pub none_added : (index : Index) → AddsRows index index []
none_added index rows indexes = subst (Indexes index) (sym (append-nil rows)) indexes

pub both_added : (old middle new : Index) (first second : List Placed) → AddsRows old middle first → AddsRows middle new second → AddsRows old new (first ++ second)
both_added old middle new first second one two rows indexes =
    subst (Indexes new) (append_assoc rows first second) (two (rows ++ first) (one rows indexes))

-- the next of a list of new ones
pub list_added : (old middle new : Index) (channel : ℕ) (list : List BpProps) (i : ℕ) (props : BpProps) → i < length list → props ≡ get_or list i props → AddsRows old middle (rows_for channel (take i list)) → AddsRows middle new (row_for channel props ∷ []) → AddsRows old new (rows_for channel (take (i + 1) list))
list_added old middle new channel list i props below is so_far one =
    let parts : rows_for channel (take (i + 1) list) ≡ rows_for channel (take i list) ++ row_for channel props ∷ [] =
    ap (rows_for channel) (take_more list i props below ∙ ap (λ (p : BpProps). take i list ++ p ∷ []) (sym is))
    ∙ map-append (row_for channel) (take i list) (props ∷ []) in
    subst (AddsRows old new) (sym parts) (both_added old middle new (rows_for channel (take i list)) (row_for channel props ∷ []) so_far one)

-- ---- what becomes of one breakpoint

pub staying_row : (leaving : Selection) (old new : Index) (row : Placed) → selects leaving row ≡ false → AddsProps old new (with_flag row.props.enabled row.props) → AddsRows old new (unselected leaving (row ∷ []))
staying_row leaving old new row stays adds =
    subst (AddsRows old new) (sym (ap (λ b. cond (not b) (row ∷ []) []) stays)) (adds row.channel row.counts)

pub leaving_row : (leaving : Selection) (index : Index) (row : Placed) → selects leaving row ≡ true → AddsRows index index (unselected leaving (row ∷ []))
leaving_row leaving index row leaves =
    subst (AddsRows index index) (sym (ap (λ b. cond (not b) (row ∷ []) []) leaves)) (none_added index)

pub changed_row : (props : BpProps) (old new : Index) (row : Placed) → bytes_eq props.id row.props.id ≡ true → AddsProps old new (with_flag props.enabled props) → AddsRows old new (with_props props (row ∷ []))
changed_row props old new row same adds =
    subst (AddsRows old new) (sym (ap (λ b. cond b (record row { props = props; counts = [] }) row ∷ []) same)) (adds row.channel [])

pub unchanged_row : (props : BpProps) (old new : Index) (row : Placed) → bytes_eq props.id row.props.id ≡ false → AddsProps old new (with_flag row.props.enabled row.props) → AddsRows old new (with_props props (row ∷ []))
unchanged_row props old new row other adds =
    subst (AddsRows old new) (sym (ap (λ b. cond b (record row { props = props; counts = [] }) row ∷ []) other)) (adds row.channel row.counts)

pub switched_row : (enabled : Bool) (ids : List (List ℕ)) (old new : Index) (row : Placed) → is_switched enabled ids row ≡ true → AddsProps old new (with_flag enabled row.props) → AddsRows old new (with_flags enabled ids (row ∷ []))
switched_row enabled ids old new row switched adds =
    subst (AddsRows old new) (sym (ap (λ b. cond b (record row { props = with_flag enabled row.props; counts = [] }) row ∷ []) switched)) (adds row.channel [])

pub unswitched_row : (enabled : Bool) (ids : List (List ℕ)) (old new : Index) (row : Placed) → is_switched enabled ids row ≡ false → AddsProps old new (with_flag row.props.enabled row.props) → AddsRows old new (with_flags enabled ids (row ∷ []))
unswitched_row enabled ids old new row unswitched adds =
    subst (AddsRows old new) (sym (ap (λ b. cond b (record row { props = with_flag enabled row.props; counts = [] }) row ∷ []) unswitched)) (adds row.channel row.counts)

-- ---- the index of a list that is gone over

-- the index is of the first of them, and these are left
pub record Covers (index : Index) (rest all : List Placed) : Type 0 where
  pub begun : List Placed
  pub indexed : Indexes index begun
  pub parts : begun ++ rest ≡ all

pub covers_none : (index : Index) (all : List Placed) → Indexes index [] → Covers index all all
covers_none index all empty = record { begun = []; indexed = empty; parts = refl }

pub covers_more : (old new : Index) (more rest all : List Placed) → Covers old (more ++ rest) all → AddsRows old new more → Covers new rest all
covers_more old new more rest all covers adds = record {
  begun = covers.begun ++ more;
  indexed = adds covers.begun covers.indexed;
  parts = append_assoc covers.begun more rest ∙ covers.parts;
}

pub covers_all : (index : Index) (all : List Placed) → Covers index [] all → Indexes index all
covers_all index all covers = subst (Indexes index) (sym (append-nil covers.begun) ∙ covers.parts) covers.indexed

staying_by : (row : Placed) (b : Bool) (rest : List Placed) → cond b (row ∷ rest) rest ≡ cond b (row ∷ []) [] ++ rest
staying_by row true rest = refl
staying_by row false rest = refl

pub covers_staying : (leaving : Selection) (old new : Index) (row : Placed) (iterator rest all : List Placed) → iterator ≡ row ∷ rest → Covers old (unselected leaving iterator) all → AddsRows old new (unselected leaving (row ∷ [])) → Covers new (unselected leaving rest) all
covers_staying leaving old new row iterator rest all is covers adds =
    covers_more old new (unselected leaving (row ∷ [])) (unselected leaving rest) all
    (subst (λ (left : List Placed). Covers old left all) (ap (unselected leaving) is ∙ staying_by row (not (selects leaving row)) (unselected leaving rest)) covers) adds

pub covers_changed : (change : Placed → Placed) (old new : Index) (row : Placed) (iterator rest all : List Placed) → iterator ≡ row ∷ rest → Covers old (map change iterator) all → AddsRows old new (map change (row ∷ [])) → Covers new (map change rest) all
covers_changed change old new row iterator rest all is covers adds =
    covers_more old new (map change (row ∷ [])) (map change rest) all
    (subst (λ (left : List Placed). Covers old left all) (ap (map change) is) covers) adds

pub covers_props : (props : BpProps) (old new : Index) (row : Placed) (iterator rest all : List Placed) → iterator ≡ row ∷ rest → Covers old (with_props props iterator) all → AddsRows old new (with_props props (row ∷ [])) → Covers new (with_props props rest) all
covers_props props = covers_changed (row_with_props props)

pub covers_flags : (enabled : Bool) (ids : List (List ℕ)) (old new : Index) (row : Placed) (iterator rest all : List Placed) → iterator ≡ row ∷ rest → Covers old (with_flags enabled ids iterator) all → AddsRows old new (with_flags enabled ids (row ∷ [])) → Covers new (with_flags enabled ids rest) all
covers_flags enabled ids = covers_changed (row_with_flag enabled ids)

-- ---- the index of a list whose counts change

ids_kept_by : (new old : Placed) (b : Bool) (rest others : List Placed) → new.props ≡ old.props → ids_of rest ≡ ids_of others → ids_of (cond b (new ∷ rest) rest) ≡ ids_of (cond b (old ∷ others) others)
ids_kept_by new old true rest others same e = ap (λ (p : BpProps). p.id ∷ ids_of rest) same ∙ ap (λ (ids : List (List ℕ)). old.props.id ∷ ids) e
ids_kept_by new old false rest others same e = e

-- the change leaves properties as they are
abbrev pub KeepsProps : (Placed → Placed) → Type 0
KeepsProps change = (row : Placed) → (change row).props ≡ row.props

pub ids_kept : (change : Placed → Placed) → KeepsProps change → (address : ℕ) (rows : List Placed) → ids_of (rows_at address (map change rows)) ≡ ids_of (rows_at address rows)
ids_kept change keeps address [] = refl
ids_kept change keeps address (row ∷ rows) =
    let rest : List Placed = rows_at address (map change rows) in
    ap (λ (p : BpProps). ids_of (cond (stands_at address p) (change row ∷ rest) rest)) (keeps row)
    ∙ ids_kept_by (change row) row (stands_at address row.props) rest (rows_at address rows) (keeps row) (ids_kept change keeps address rows)

pub indexes_kept : (change : Placed → Placed) → KeepsProps change → (index : Index) (rows : List Placed) → Indexes index rows → Indexes index (map change rows)
indexes_kept change keeps index rows indexes address = indexes address ∙ ap some_of (sym (ids_kept change keeps address rows))

-- ---- the map and its index

pub kept_of : (entries : List (Vec ℕ × Placed)) (index : Index) → IsIndexed entries index → IsKept entries
kept_of entries index indexed = record { keyed = indexed.keyed; orderly = indexed.orderly }

pub indexed_from : (entries : List (Vec ℕ × Placed)) (index : Index) (rows : List Placed) → IsKept entries → values_of entries ≡ rows → Indexes index rows → IsIndexed entries index
indexed_from entries index rows kept values indexes = record {
  keyed = kept.keyed;
  orderly = kept.orderly;
  indexed = subst (Indexes index) (sym values) indexes;
}

pub none_indexed : (entries : List (Vec ℕ × Placed)) (index : Index) → IsKept [] → entries ≡ [] → Indexes index [] → IsIndexed entries index
none_indexed entries index kept none indexes =
    subst (λ (es : List (Vec ℕ × Placed)). IsIndexed es index) (sym none) (indexed_from [] index [] kept refl indexes)
