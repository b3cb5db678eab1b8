-- New breakpoints: their IDs are new, and they go last.
use Rattle.std.proofs.Common.{◌≡◌, ℕ, suc, ◌+◌, ◌-◌, ◌≤◌, ◌<◌, nat_lt, Bool, true, false, cond, ◌||◌, List, [], ◌∷◌, ◌++◌, length, map, take, drop, get_or, is_some, refl, sym, ap, subst, ◌∙◌, arith, append_assoc, length-append}
use Rattle.std.proofs.Math.Seq.{drop-cons}
use Rattle.std.proofs.lemmas.List.{append-nil, length-map, map-append, take-append-drop, take_more}
use Rattle.std.specs.Prelude.{bytes_eq, Result, Ok, Err, IsOk, OnOk}
use Rattle.std.specs.Global.{Vec}
use Rattle.std.specs.List.{AllByRecursion, IsDistinct, list_any}
use Rattle.std.specs.Map.{keys_of, lookup, values_of}
use Rattle.indexmap.specs.IndexMap.{insert_entry, insert_all}
use Rattle.std.proofs.lemmas.Bool.{false_from_ne_true, le-ltb, lt-ltb, ltb-false, or_parts}
use Rattle.std.proofs.lemmas.Slice.Eq.{bytes_eq-Decides}
use Rattle.tcf_values.specs.declared.values.BpProps.{BpProps}
use Rattle.breakpoints.specs.Changes.{clashes, has_no_place, has_twice, is_overfull}
use Rattle.breakpoints.specs.Counts.{AreCounts}
use Rattle.breakpoints.specs.Keyed.{AreApart, AreKeyed, IsKept}
use Rattle.breakpoints.specs.Rows.{ids_of, is_among, is_there, rows_for}
use Rattle.breakpoints.proofs.Lookup.{key_there}
use Rattle.list_laws.proofs.AllLists.{all_append, all_map}
use Rattle.list_laws.proofs.Flags.{or_false, or_true}
use Rattle.breakpoints.specs.Placed.{Placed, row_for}

-- ---- IDs that differ

pub eq_sym : (a b : List ℕ) → bytes_eq a b ≡ bytes_eq b a
eq_sym a b = by (bytes_eq a b) refl
  where
    by : (r : Bool) → bytes_eq a b ≡ r → r ≡ bytes_eq b a
    by true e = sym ((bytes_eq-Decides b a).1 (sym ((bytes_eq-Decides a b).0 e)))
    by false e = sym (false_from_ne_true _ (λ f. let same : bytes_eq a b ≡ true = (bytes_eq-Decides a b).1 (sym ((bytes_eq-Decides b a).0 f)) in cc))

-- what isn't there is apart from all
pub none_there : (id : List ℕ) (ids : List (List ℕ)) → AllByRecursion (λ other. bytes_eq id other ≡ false) ids → is_among ids id ≡ false
none_there id [] apart = refl
none_there id (other ∷ ids) apart = ap (λ b. b || is_among ids id) apart.0 ∙ none_there id ids apart.1

among_more : (id : List ℕ) (ids rest : List (List ℕ)) → is_among (ids ++ id ∷ rest) id ≡ true
among_more id [] rest = ap (λ b. b || is_among rest id) ((bytes_eq-Decides id id).1 refl)
among_more id (other ∷ ids) rest = ap (λ b. bytes_eq id other || b) (among_more id ids rest) ∙ or_true (bytes_eq id other)

twice_by : (id other : List ℕ) (ids rest : List (List ℕ)) (b : Bool) → bytes_eq id other ≡ b → (b || is_among ids id) ≡ true → (is_among ids id ≡ true → has_twice (ids ++ id ∷ rest) ≡ true)
    → (is_among (ids ++ id ∷ rest) other || has_twice (ids ++ id ∷ rest)) ≡ true
twice_by id other ids rest true e among later =
    let same : id ≡ other = (bytes_eq-Decides id other).0 e in
    ap (λ b. b || has_twice (ids ++ id ∷ rest)) (ap (is_among (ids ++ id ∷ rest)) (sym same) ∙ among_more id ids rest)
twice_by id other ids rest false e among later =
    ap (λ b. is_among (ids ++ id ∷ rest) other || b) (later among) ∙ or_true (is_among (ids ++ id ∷ rest) other)

-- an ID that comes again stands twice
pub twice_more : (id : List ℕ) (ids rest : List (List ℕ)) → is_among ids id ≡ true → has_twice (ids ++ id ∷ rest) ≡ true
twice_more id [] rest among = cc
twice_more id (other ∷ ids) rest among = twice_by id other ids rest (bytes_eq id other) refl among (twice_more id ids rest)

among_given : (id : List ℕ) (list : List BpProps) → is_among (map (λ props. props.id) list) id ≡ list_any (λ props. bytes_eq id props.id) list
among_given id [] = refl
among_given id (props ∷ list) = ap (λ b. bytes_eq id props.id || b) (among_given id list)

-- the first one's ID is given again, or the answer is that for the others
pub one_given : (list rest later : List BpProps) (first : BpProps) (id : List ℕ) (given again : Bool) → rest ≡ first ∷ later → id ≡ first.id → given ≡ list_any (λ props. bytes_eq id props.id) later → given ≡ again
    → has_twice (map (λ props. props.id) rest) ≡ has_twice (map (λ props. props.id) list) → (again || has_twice (map (λ props. props.id) later)) ≡ has_twice (map (λ props. props.id) list)
one_given list rest later first id given again split same is test before =
    let ids : List BpProps → List (List ℕ) = map (λ props. props.id) in
    ap (λ b. b || has_twice (ids later)) (sym test ∙ is ∙ sym (among_given id later) ∙ ap (is_among (ids later)) same)
    ∙ ap (λ all. has_twice (ids all)) (sym split) ∙ before

-- ---- the map's keys differ exactly as the IDs do

all_ids : (id : List ℕ) (es : List (Vec ℕ × Placed)) → AreKeyed es → AllByRecursion (λ k. bytes_eq id k.items ≡ false) (keys_of es) → AllByRecursion (λ other. bytes_eq id other ≡ false) (ids_of (values_of es))
all_ids id [] keyed all = all
all_ids id (e ∷ es) keyed all = (subst (λ other. bytes_eq id other ≡ false) keyed.0 all.0, all_ids id es keyed.1 all.1)

pub ids_differ : (es : List (Vec ℕ × Placed)) → AreKeyed es → IsDistinct (λ x y. bytes_eq x.items y.items) (keys_of es) → IsDistinct bytes_eq (ids_of (values_of es))
unfolding IsDistinct
ids_differ [] keyed differ = differ
ids_differ (e ∷ es) keyed differ =
    let P : List ℕ → Type 0 = λ id. AllByRecursion (λ other. bytes_eq id other ≡ false) (ids_of (values_of es)) in
    (subst P keyed.0 (all_ids e.0.items es keyed.1 differ.0), ids_differ es keyed.1 differ.1)

pub ids-rows_for : (channel : ℕ) (list : List BpProps) → ids_of (rows_for channel list) ≡ map (λ props. props.id) list
ids-rows_for channel [] = refl
ids-rows_for channel (props ∷ list) = ap (λ ids. props.id ∷ ids) (ids-rows_for channel list)

pub there_among : (id : List ℕ) (rows : List Placed) → is_there id rows ≡ is_among (ids_of rows) id
there_among id [] = refl
there_among id (row ∷ rows) = ap (λ b. bytes_eq id row.props.id || b) (there_among id rows)

-- ---- entries that are put last

abbrev absent : Vec ℕ → List (Vec ℕ × Placed) → Bool
absent k es = list_any (λ e. bytes_eq k.items e.0.items) es

abbrev pub same_key : Vec ℕ → Vec ℕ → Bool
same_key x y = bytes_eq x.items y.items

pub insert_last : (k : Vec ℕ) (row : Placed) (es : List (Vec ℕ × Placed)) → absent k es ≡ false → insert_entry same_key es k row ≡ es ++ (k, row) ∷ []
insert_last k row [] apart = refl
insert_last k row (e ∷ es) apart =
    let parts = or_parts _ _ apart in
    ap (λ b. cond b ((e.0, row) ∷ es) (e ∷ insert_entry same_key es k row)) parts.0 ∙ ap (λ rest. e ∷ rest) (insert_last k row es parts.1)

absent_push : (k : Vec ℕ) (es : List (Vec ℕ × Placed)) (new : Vec ℕ × Placed) → absent k es ≡ false → bytes_eq k.items new.0.items ≡ false → absent k (es ++ new ∷ []) ≡ false
absent_push k [] new apart other = ap (λ b. b || false) other
absent_push k (e ∷ es) new apart other =
    let parts = or_parts _ _ apart in
    ap (λ b. b || absent k (es ++ new ∷ [])) parts.0 ∙ absent_push k es new parts.1 other

-- those that are apart from the list are apart from one more, from which they differ
apart_push : (fresh es : List (Vec ℕ × Placed)) (new : Vec ℕ × Placed) → AreApart fresh es → AllByRecursion (λ k. same_key new.0 k ≡ false) (keys_of fresh) → AreApart fresh (es ++ new ∷ [])
apart_push [] es new apart differ = apart
apart_push (f ∷ fresh) es new apart differ =
    (absent_push f.0 es new apart.0 (eq_sym f.0.items new.0.items ∙ differ.0), apart_push fresh es new apart.1 differ.1)

pub insert_all_last : (fresh es : List (Vec ℕ × Placed)) → AreApart fresh es → IsDistinct same_key (keys_of fresh) → insert_all same_key es fresh ≡ es ++ fresh
unfolding IsDistinct
insert_all_last [] es apart differ = sym (append-nil es)
insert_all_last (f ∷ fresh) es apart differ =
    ap (λ done. insert_all same_key done fresh) (insert_last f.0 f.1 es apart.0)
    ∙ insert_all_last fresh (es ++ f ∷ []) (apart_push fresh es f apart.1 differ.0) differ.1
    ∙ append_assoc es (f ∷ []) fresh

-- ---- breakpoints whose IDs aren't there

there_absent : (k : Vec ℕ) (es : List (Vec ℕ × Placed)) → AreKeyed es → absent k es ≡ is_there k.items (values_of es)
there_absent k [] keyed = refl
there_absent k (e ∷ es) keyed =
    ap (λ id. bytes_eq k.items id || absent k es) keyed.0 ∙ ap (λ b. bytes_eq k.items e.1.props.id || b) (there_absent k es keyed.1)

-- where no ID of the list is there, the entries made of it are apart from those that are there
pub apart_from : (channel : ℕ) (fresh es : List (Vec ℕ × Placed)) (list : List BpProps) → AreKeyed fresh → AreKeyed es → values_of fresh ≡ rows_for channel list
    → list_any (λ props. is_there props.id (values_of es)) list ≡ false → AreApart fresh es
apart_from channel [] es list new keyed made none = tt
apart_from channel (f ∷ fresh) es [] new keyed made none = cc
apart_from channel (f ∷ fresh) es (props ∷ list) new keyed made none =
    let parts = or_parts _ _ none in
    let first : f.1 ≡ row_for channel props = cc in
    let rest : values_of fresh ≡ rows_for channel list = cc in
    let id : f.0.items ≡ props.id = new.0 ∙ ap (λ (row : Placed). row.props.id) first in
    (there_absent f.0 es keyed ∙ ap (λ i. is_there i (values_of es)) id ∙ parts.0, apart_from channel fresh es list new.1 keyed rest parts.1)

-- ---- one entry after another

values-push : (es : List (Vec ℕ × Placed)) (new : Vec ℕ × Placed) → values_of (es ++ new ∷ []) ≡ values_of es ++ new.1 ∷ []
values-push es new = map-append (λ (e : Vec ℕ × Placed). e.1) es (new ∷ [])

keyed_push : (es : List (Vec ℕ × Placed)) (new : Vec ℕ × Placed) → AreKeyed es → new.0.items ≡ new.1.props.id → AreKeyed (es ++ new ∷ [])
keyed_push [] new keyed here = (here, keyed)
keyed_push (e ∷ es) new keyed here = (keyed.0, keyed_push es new keyed.1 here)

pub keyed_append : (es fresh : List (Vec ℕ × Placed)) → AreKeyed es → AreKeyed fresh → AreKeyed (es ++ fresh)
keyed_append [] fresh keyed new = new
keyed_append (e ∷ es) fresh keyed new = (keyed.0, keyed_append es fresh keyed.1 new)

pub values-append : (es fresh : List (Vec ℕ × Placed)) → values_of (es ++ fresh) ≡ values_of es ++ values_of fresh
values-append es fresh = map-append (λ (e : Vec ℕ × Placed). e.1) es fresh

-- the insertion of an ID that isn't there yet
pub record Pushes (channel : ℕ) (list : List BpProps) (i : ℕ) (new : List (Vec ℕ × Placed)) : Type 0 where
  pub rows : values_of new ≡ rows_for channel (take (i + 1) list)
  pub keyed : AreKeyed new

pub pushes : (channel : ℕ) (list : List BpProps) (i : ℕ) (props copied : BpProps) (k : Vec ℕ) (es new : List (Vec ℕ × Placed))
    → values_of es ≡ rows_for channel (take i list) → AreKeyed es → i < length list → props ≡ get_or list i props → copied ≡ props → k.items ≡ props.id
    → is_some (lookup (same_key k) es) ≡ false → new ≡ insert_entry same_key es k (row_for channel copied) → Pushes channel list i new
pushes channel list i props copied k es new so_far keyed within item copy key missing inserted =
    let absent_is : absent k es ≡ false = there_absent k es keyed ∙ sym (key_there k.items es keyed) ∙ missing in
    let last : new ≡ es ++ (k, row_for channel copied) ∷ [] = inserted ∙ insert_last k (row_for channel copied) es absent_is in
    let one : row_for channel copied ∷ [] ≡ rows_for channel (get_or list i props ∷ []) = ap (λ (p : BpProps). row_for channel p ∷ []) (copy ∙ item) in
    record {
      rows = ap values_of last ∙ values-push es (k, row_for channel copied) ∙ ap (λ rows. rows ++ row_for channel copied ∷ []) so_far
          ∙ ap (λ rows. rows_for channel (take i list) ++ rows) one
          ∙ sym (map-append (row_for channel) (take i list) (get_or list i props ∷ []))
          ∙ ap (rows_for channel) (sym (take_more list i props within));
      keyed = subst AreKeyed (sym last) (keyed_push es (k, row_for channel copied) keyed (key ∙ ap (λ (p : BpProps). p.id) (sym copy)));
    }

-- an ID that is there already was given before
pub given_twice : (channel : ℕ) (list : List BpProps) (i : ℕ) (props : BpProps) (k : Vec ℕ) (es : List (Vec ℕ × Placed))
    → values_of es ≡ rows_for channel (take i list) → AreKeyed es → i < length list → props ≡ get_or list i props → k.items ≡ props.id
    → is_some (lookup (same_key k) es) ≡ true → has_twice (map (λ p. p.id) list) ≡ true
given_twice channel list i props k es so_far keyed within item key there =
    let id : BpProps → List ℕ = λ p. p.id in
    let before : is_among (map id (take i list)) props.id ≡ true =
    ap (is_among (map id (take i list))) (sym key)
    ∙ ap (λ ids. is_among ids k.items) (sym (ap ids_of so_far ∙ ids-rows_for channel (take i list)))
    ∙ sym (there_among k.items (values_of es)) ∙ sym (key_there k.items es keyed) ∙ there in
    let cut : list ≡ take i list ++ props ∷ drop (suc i) list =
    sym (take-append-drop i list) ∙ ap (λ rest. take i list ++ rest) (drop-cons list i props within ∙ ap (λ p. p ∷ drop (suc i) list) (sym item)) in
    ap (λ all. has_twice (map id all)) cut ∙ ap has_twice (map-append id (take i list) (props ∷ drop (suc i) list))
    ∙ twice_more props.id (map id (take i list)) (map id (drop (suc i) list)) before

-- ---- what is said of an answer that is there

pub on_ok : {T E : Type 0} {P : Type 0} (r : Result T E) → IsOk r → OnOk r P → P
on_ok (Ok x) is fact = fact
on_ok (Err e) is fact = cc

-- ---- whether new breakpoints have a place

turned_by : (a t b : Bool) → ((b || a) || t) ≡ ((a || t) || b)
turned_by true t true = refl
turned_by true t false = refl
turned_by false t true = sym (or_true t)
turned_by false t false = sym (or_false t)

-- the causes are looked for in another order
pub place_turned : (list : List BpProps) (rows : List Placed) → ((is_overfull list rows || clashes list rows) || has_twice (map (λ props. props.id) list)) ≡ has_no_place list rows
place_turned list rows = turned_by (clashes list rows) (has_twice (map (λ props. props.id) list)) (is_overfull list rows)

-- where there is a place, there is none of the causes
pub record HasPlace (list : List BpProps) (rows : List Placed) : Type 0 where
  pub apart : clashes list rows ≡ false
  pub once : has_twice (map (λ props. props.id) list) ≡ false
  pub room : is_overfull list rows ≡ false

pub a_place : (list : List BpProps) (rows : List Placed) → has_no_place list rows ≡ false → HasPlace list rows
a_place list rows e =
    let outer = or_parts (clashes list rows || has_twice (map (λ props. props.id) list)) (is_overfull list rows) e in
    let inner = or_parts (clashes list rows) (has_twice (map (λ props. props.id) list)) outer.0 in
    record { apart = inner.0; once = inner.1; room = outer.1 }

-- nothing has hit new ones
pub fresh_counts : (channel : ℕ) (list : List BpProps) → AllByRecursion (λ row. AreCounts row.counts) (rows_for channel list)
fresh_counts channel list = all_map (λ row. AreCounts row.counts) (row_for channel) list (λ props. tt)

-- the list with the new breakpoints last is kept well
pub kept_append : (channel : ℕ) (es fresh new : List (Vec ℕ × Placed)) (list : List BpProps) (rows : List Placed) → new ≡ es ++ fresh → values_of es ≡ rows → values_of fresh ≡ rows_for channel list
    → AreKeyed es → AreKeyed fresh → IsDistinct same_key (keys_of new) → is_overfull list rows ≡ false → AllByRecursion (λ row. AreCounts row.counts) rows → IsKept new
kept_append channel es fresh new list rows made there added keyed keyed_new unique room were =
    let all : AreKeyed new = subst AreKeyed (sym made) (keyed_append es fresh keyed keyed_new) in
    let values : values_of new ≡ rows ++ rows_for channel list = ap values_of made ∙ values-append es fresh ∙ ap (λ v. v ++ values_of fresh) there ∙ ap (λ v. rows ++ v) added in
    let count : length (values_of new) ≡ length rows + length list =
    ap length values ∙ length-append rows (rows_for channel list) ∙ ap (λ n. length rows + n) (length-map list (row_for channel)) in
    let few : length rows + length list ≤ 256 = ltb-false 256 (length rows + length list) room in
    let counts : AllByRecursion (λ row. AreCounts row.counts) (values_of new) =
    subst (AllByRecursion (λ row. AreCounts row.counts)) (sym values)
    (all_append (λ row. AreCounts row.counts) rows (rows_for channel list) were (fresh_counts channel list)) in
    record { keyed = all; orderly = record { differ = ids_differ new all unique; few = omega arith; counted = counts } }

pub values_append : (channel : ℕ) (es fresh new : List (Vec ℕ × Placed)) (list : List BpProps) (rows : List Placed) → new ≡ es ++ fresh → values_of es ≡ rows → values_of fresh ≡ rows_for channel list
    → values_of new ≡ rows ++ rows_for channel list
values_append channel es fresh new list rows made there added =
    ap values_of made ∙ values-append es fresh ∙ ap (λ v. v ++ values_of fresh) there ∙ ap (λ v. rows ++ v) added

-- ---- whether there are too many, from how many there are and how many leave

pub over_by : (len count stay k : ℕ) (clash : Bool) → stay + count ≡ len → len ≤ 256 → 256 - (len - count) < k → nat_lt (256 - (len - count)) k ≡ (nat_lt 256 (stay + k) || clash)
over_by len count stay k clash parts few more =
    lt-ltb (256 - (len - count)) k more ∙ sym (ap (λ b. b || clash) (lt-ltb 256 (stay + k) (omega arith)))

pub not_over_by : (len count stay k : ℕ) (clash : Bool) → stay + count ≡ len → len ≤ 256 → k ≤ 256 - (len - count) → clash ≡ (nat_lt 256 (stay + k) || clash)
not_over_by len count stay k clash parts few less = sym (ap (λ b. b || clash) (le-ltb 256 (stay + k) (omega arith)))
