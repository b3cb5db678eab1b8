-- The blocks of list 0 turned round, as contracts see them.
use Rattle.std.proofs.Common.{◌≡◌, ℕ, suc, ◌+◌, ◌<◌, ◌≤◌, Bool, true, false, cond, not, nat_eq, nat_le, ◌&&◌, List, [], ◌∷◌, ◌++◌, length, take, reverse, filter, find, position, get_or, Option, Some, None, is_some, option_map, refl, sym, ap, subst, ◌∙◌, arith}
use Rattle.std.specs.List.{All, AllByRecursion, AllPairs}
use Rattle.std.specs.Option.{IfSome}
use Rattle.std.proofs.lemmas.Bool.{and_parts, eq-eqb, eqb-true, leb-false, leb-true, not_from_false}
use Rattle.std.proofs.lemmas.List.{append-nil, append_assoc, get_or-append-add, get_or_append_left, get_or_at, length-append, length-map, length-reverse, map-append, map_push, reverse-append, take_all, take_at}
use Rattle.std.proofs.lemmas.List.Elements.{All-from_get_or, filter-append, recursion_from_All}
use Rattle.list_laws.proofs.AllLists.{all_push, all_then}
use Rattle.link_pool.specs.Rows.{Distinct, first_key, item_at, without}
use Rattle.link_pool.proofs.Rowed.{distinct_absent, distinct_back, item_split, without_absent, without_split}
use Rattle.block_store.specs.Blocks.{has_range, is_same, part}
use Rattle.block_store.specs.Filed.{blocks_of}
use Rattle.block_store.specs.Owners.{left_by, turned}
use Rattle.block_store.specs.Store.{IsKept, added, covered, moved_first, touched}
use Rattle.block_store.specs.Walks.{last_key}
use Rattle.block_store.specs.declared.block.Block.{Block}
use Rattle.block_store.proofs.Rows.{filter_whole, item_here, without_fewer}
use Rattle.block_store.proofs.Kept.{kept_moved, same_swap}
use Rattle.block_store.proofs.Found.{find_behind, find_none, moved_behind, place_behind, place_nowhere}
use Rattle.block_store.proofs.Walked.{LastOf, last_of, none_passes}

pub turned_push : (rows : List (ℕ × Block)) (key : ℕ) (block : Block) → turned (rows ++ (key, block) ∷ []) ≡ block ∷ turned rows
turned_push rows key block =
    ap reverse (map_push (λ (row : ℕ × Block). row.1) rows (key, block)) ∙ reverse-append (blocks_of rows) (block ∷ [])

turned_first : (row : ℕ × Block) (rows : List (ℕ × Block)) → turned (row ∷ rows) ≡ turned rows ++ row.1 ∷ []
turned_first row rows = reverse-append (row.1 ∷ []) (blocks_of rows)

turned_append : (xs ys : List (ℕ × Block)) → turned (xs ++ ys) ≡ turned ys ++ turned xs
turned_append xs ys = ap reverse (map-append (λ (row : ℕ × Block). row.1) xs ys) ∙ reverse-append (blocks_of xs) (blocks_of ys)

turned_split : (front : List (ℕ × Block)) (row : ℕ × Block) (back : List (ℕ × Block)) → turned (front ++ row ∷ back) ≡ turned back ++ row.1 ∷ turned front
turned_split front row back =
    turned_append front (row ∷ back) ∙ ap (λ xs. xs ++ turned front) (turned_first row back)
    ∙ append_assoc (turned back) (row.1 ∷ []) (turned front)

turned_length : (rows : List (ℕ × Block)) → length (turned rows) ≡ length rows
turned_length rows = length-reverse (blocks_of rows) ∙ length-map rows (λ (row : ℕ × Block). row.1)

turned_by : (p : Block → Bool) (row : ℕ × Block) (rows : List (ℕ × Block)) (b : Bool) → turned rows ++ cond b (row.1 ∷ []) [] ≡ turned (cond b (row ∷ rows) rows)
turned_by p row rows true = sym (turned_first row rows)
turned_by p row rows false = append-nil (turned rows)

pub turned_filter : (p : Block → Bool) (rows : List (ℕ × Block)) → filter p (turned rows) ≡ turned (filter (λ row. p row.1) rows)
turned_filter p [] = refl
turned_filter p (row ∷ rows) =
    ap (filter p) (turned_first row rows) ∙ filter-append p (turned rows) (row.1 ∷ [])
    ∙ ap (λ xs. xs ++ cond (p row.1) (row.1 ∷ []) []) (turned_filter p rows)
    ∙ turned_by p row (filter (λ row. p row.1) rows) (p row.1)

turned_all : (P : Block → Type 0) (rows : List (ℕ × Block)) → AllByRecursion (λ row. P row.1) rows → AllByRecursion P (turned rows)
turned_all P [] all = tt
turned_all P (row ∷ rows) all =
    subst (AllByRecursion P) (sym (turned_first row rows)) (all_push P (turned rows) row.1 (turned_all P rows all.1) all.0)

-- ---- what is covered

pub covered_there : (process addr size key : ℕ) (rows : List (ℕ × Block)) (l : LastOf (has_range process addr size) key rows) → covered process addr size (turned rows) ≡ Some (part addr size l.block)
covered_there process addr size key rows l =
    ap (option_map (part addr size))
    (ap (λ rs. find (has_range process addr size) (turned rs)) l.is
    ∙ ap (find (has_range process addr size)) (turned_split l.front (key, l.block) l.back)
    ∙ find_behind (has_range process addr size) (turned l.back) l.block (turned l.front) (turned_all (λ block. has_range process addr size block ≡ false) l.back l.later) l.passes)

pub covered_nowhere : (process addr size : ℕ) (rows : List (ℕ × Block)) → last_key (has_range process addr size) rows ≡ None → covered process addr size (turned rows) ≡ None
covered_nowhere process addr size rows none =
    ap (option_map (part addr size))
    (find_none (has_range process addr size) (turned rows) (turned_all (λ block. has_range process addr size block ≡ false) rows (none_passes (has_range process addr size) rows none)))

-- ---- what is touched

place_there : (process addr size key : ℕ) (rows : List (ℕ × Block)) (l : LastOf (has_range process addr size) key rows) → position (has_range process addr size) (turned rows) ≡ Some (length (turned l.back))
place_there process addr size key rows l =
    ap (λ rs. position (has_range process addr size) (turned rs)) l.is
    ∙ ap (position (has_range process addr size)) (turned_split l.front (key, l.block) l.back)
    ∙ place_behind (has_range process addr size) (turned l.back) l.block (turned l.front) (turned_all (λ block. has_range process addr size block ≡ false) l.back l.later) l.passes

-- the rows without that of a key, and it behind them
pub gone_is : (key : ℕ) (front : List (ℕ × Block)) (block : Block) (back rows : List (ℕ × Block)) → Distinct rows → rows ≡ front ++ (key, block) ∷ back → without key rows ≡ front ++ back
gone_is key front block back rows d is =
    let apart : Distinct (front ++ (key, block) ∷ back) = subst Distinct is d in
    ap (without key) is
    ∙ without_split key front block back (distinct_absent front (key, block) back apart) (distinct_back front ((key, block) ∷ back) apart).0

pub touched_there : (process addr size key : ℕ) (rows : List (ℕ × Block)) (l : LastOf (has_range process addr size) key rows) → Distinct rows → touched process addr size (turned rows) ≡ turned (without key rows ++ (key, l.block) ∷ [])
touched_there process addr size key rows l d =
    ap (λ place. moved_first place (turned rows)) (place_there process addr size key rows l)
    ∙ ap (λ xs. moved_first (Some (length (turned l.back))) xs) (ap turned l.is ∙ turned_split l.front (key, l.block) l.back)
    ∙ moved_behind (turned l.back) l.block (turned l.front)
    ∙ ap (λ xs. l.block ∷ xs) (sym (turned_append l.front l.back))
    ∙ ap (λ rs. l.block ∷ turned rs) (sym (gone_is key l.front l.block l.back rows d l.is))
    ∙ sym (turned_push (without key rows) key l.block)

pub touched_kept : (process addr size key : ℕ) (rows : List (ℕ × Block)) (l : LastOf (has_range process addr size) key rows) → IsKept (turned rows) → IsKept (touched process addr size (turned rows))
touched_kept process addr size key rows l kept =
    let place = place_there process addr size key rows l in
    subst (λ p. IsKept (moved_first p (turned rows))) (sym place)
    (kept_moved (has_range process addr size) (turned rows) (length (turned l.back)) place kept)

pub touched_nowhere : (process addr size : ℕ) (rows : List (ℕ × Block)) → last_key (has_range process addr size) rows ≡ None → touched process addr size (turned rows) ≡ turned rows
touched_nowhere process addr size rows none =
    ap (λ place. moved_first place (turned rows))
    (place_nowhere (has_range process addr size) (turned rows) (turned_all (λ block. has_range process addr size block ≡ false) rows (none_passes (has_range process addr size) rows none)))

-- ---- what is added

-- a block that is the same as a new one differs from all that the new one differs from
same_then : (new old other : Block) → is_same new old ≡ true → is_same old other ≡ false → is_same new other ≡ false
same_then new old other same apart =
    let parts = and_parts _ _ same in
    let front = and_parts _ _ parts.0 in
    let processes : new.process ≡ old.process = eqb-true new.process old.process front.0 in
    let addrs : new.addr ≡ old.addr = eqb-true new.addr old.addr front.1 in
    let sizes : length new.bytes ≡ length old.bytes = eqb-true (length new.bytes) (length old.bytes) parts.1 in
    ap (λ p. nat_eq p other.process && nat_eq new.addr other.addr && nat_eq (length new.bytes) (length other.bytes)) processes
    ∙ ap (λ a. nat_eq old.process other.process && nat_eq a other.addr && nat_eq (length new.bytes) (length other.bytes)) addrs
    ∙ ap (λ n. nat_eq old.process other.process && nat_eq old.addr other.addr && nat_eq n (length other.bytes)) sizes
    ∙ apart

pairs_front : (xs : List Block) (x : Block) (ys : List Block) → AllPairs (λ one other. is_same one other ≡ false) (xs ++ x ∷ ys) → All (λ other. is_same x other ≡ false) xs
pairs_front xs x ys differ =
    All-from_get_or (λ other. is_same x other ≡ false) xs x
    (λ k below.
    let many = length-append xs (x ∷ ys) in
    let pair = differ k (length xs) x below (omega (arith, many)) in
    same_swap x (get_or xs k x)
    ∙ ap (λ b. is_same b x) (sym (get_or_append_left xs (x ∷ ys) x k below))
    ∙ ap (is_same (get_or (xs ++ x ∷ ys) k x)) (sym (get_or_at xs x ys x (length xs) refl))
    ∙ pair)

pairs_back : (xs : List Block) (x : Block) (ys : List Block) → AllPairs (λ one other. is_same one other ≡ false) (xs ++ x ∷ ys) → All (λ other. is_same x other ≡ false) ys
pairs_back xs x ys differ =
    All-from_get_or (λ other. is_same x other ≡ false) ys x
    (λ k below.
    let many = length-append xs (x ∷ ys) in
    let pair = differ (length xs) (length xs + suc k) x (omega arith) (omega (arith, many)) in
    ap (λ b. is_same b (get_or ys k x)) (sym (get_or_at xs x ys x (length xs) refl))
    ∙ ap (is_same (get_or (xs ++ x ∷ ys) (length xs) x)) (sym (get_or-append-add xs (x ∷ ys) (suc k) x))
    ∙ pair)

others_stay : (new old : Block) (xs : List Block) → is_same new old ≡ true → All (λ other. is_same old other ≡ false) xs → filter (λ other. not (is_same new other)) xs ≡ xs
others_stay new old xs same apart =
    filter_whole (λ other. not (is_same new other)) xs
    (all_then (λ other. is_same old other ≡ false) (λ other. not (is_same new other) ≡ true) (λ other differs. not_from_false (is_same new other) (same_then new old other same differs)) xs
    (recursion_from_All (λ other. is_same old other ≡ false) xs apart))

-- of blocks that differ, the filter leaves out the one that is the same
one_goes : (new old : Block) (xs ys : List Block) → is_same new old ≡ true → AllPairs (λ one other. is_same one other ≡ false) (xs ++ old ∷ ys) → filter (λ other. not (is_same new other)) (xs ++ old ∷ ys) ≡ xs ++ ys
one_goes new old xs ys same differ =
    filter-append (λ other. not (is_same new other)) xs (old ∷ ys)
    ∙ ap (λ b. filter (λ other. not (is_same new other)) xs ++ cond (not b) (old ∷ filter (λ other. not (is_same new other)) ys) (filter (λ other. not (is_same new other)) ys)) same
    ∙ ap (λ front. front ++ filter (λ other. not (is_same new other)) ys) (others_stay new old xs same (pairs_front xs old ys differ))
    ∙ ap (λ back. xs ++ back) (others_stay new old ys same (pairs_back xs old ys differ))

-- one that is the same goes
pub added_same : (new : Block) (key : ℕ) (rows : List (ℕ × Block)) → last_key (is_same new) rows ≡ Some key → Distinct rows → IsKept (turned rows) → added new (turned rows) ≡ new ∷ turned (left_by (Some key) rows)
added_same new key rows is d kept =
    let l = last_of (is_same new) key rows is in
    let seen : turned rows ≡ turned l.back ++ l.block ∷ turned l.front = ap turned l.is ∙ turned_split l.front (key, l.block) l.back in
    let differ : AllPairs (λ one other. is_same one other ≡ false) (turned l.back ++ l.block ∷ turned l.front) = subst (AllPairs (λ one other. is_same one other ≡ false)) seen kept.small.differ in
    let left : filter (λ other. not (is_same new other)) (turned rows) ≡ turned (without key rows) =
    ap (filter (λ other. not (is_same new other))) seen ∙ one_goes new l.block (turned l.back) (turned l.front) l.passes differ
    ∙ sym (turned_append l.front l.back) ∙ ap turned (sym (gone_is key l.front l.block l.back rows d l.is)) in
    let few : length rows ≤ 64 = let small = kept.small.few in let many = turned_length rows in omega (arith, small, many) in
    let fewer : length (without key rows) < length rows = without_fewer key rows (ap (λ rs. is_some (item_at key rs)) l.is ∙ ap is_some (item_split key l.front l.block l.back (distinct_absent l.front (key, l.block) l.back (subst Distinct l.is d)))) in
    let size = turned_length (without key rows) in
    ap (λ xs. take 64 (new ∷ xs)) left ∙ take_all 64 (new ∷ turned (without key rows)) (omega (arith, few, fewer, size))

none_same : (new : Block) (rows : List (ℕ × Block)) → last_key (is_same new) rows ≡ None → filter (λ other. not (is_same new other)) (turned rows) ≡ turned rows
none_same new rows none =
    turned_filter (λ other. not (is_same new other)) rows
    ∙ ap turned (filter_whole (λ row. not (is_same new row.1)) rows
    (all_then (λ row. is_same new row.1 ≡ false) (λ row. not (is_same new row.1) ≡ true) (λ row differs. not_from_false (is_same new row.1) differs) rows (none_passes (is_same new) rows none)))

-- the first row goes, where there are 64
added_full : (new : Block) (rows : List (ℕ × Block)) → Distinct rows → length rows ≡ 64 → (taken : Option ℕ) → taken ≡ first_key rows → take 64 (new ∷ turned rows) ≡ new ∷ turned (left_by taken rows)
added_full new [] d full taken is = absurd (omega (arith, full))
added_full new (row ∷ rows) d full taken is =
    let size = turned_length rows in
    let left : left_by taken (row ∷ rows) ≡ rows = ap (λ o. left_by o (row ∷ rows)) is ∙ ap (λ b. cond (not b) (row ∷ without row.0 rows) (without row.0 rows)) (eq-eqb row.0 row.0 refl) ∙ without_absent row.0 rows d.0 in
    ap (λ xs. take 64 (new ∷ xs)) (turned_first row rows)
    ∙ take_at (new ∷ turned rows) (row.1 ∷ []) 64 (omega (arith, size, full))
    ∙ ap (λ rs. new ∷ turned rs) (sym left)

pub added_other : (new : Block) (rows : List (ℕ × Block)) (gone : Option ℕ) → last_key (is_same new) rows ≡ None → Distinct rows → IsKept (turned rows) → gone ≡ cond (nat_le 64 (length rows)) (first_key rows) None → added new (turned rows) ≡ new ∷ turned (left_by gone rows)
added_other new rows gone none d kept is =
    ap (λ xs. take 64 (new ∷ xs)) (none_same new rows none) ∙ by_count (nat_le 64 (length rows)) refl
  where
    few : length rows ≤ 64
    few = let small = kept.small.few in let many = turned_length rows in omega (arith, small, many)

    by_count : (b : Bool) → nat_le 64 (length rows) ≡ b → take 64 (new ∷ turned rows) ≡ new ∷ turned (left_by gone rows)
    by_count true full = added_full new rows d (omega (arith, few, leb-true 64 (length rows) full)) gone (is ∙ ap (λ b. cond b (first_key rows) None) full)
    by_count false below =
        let size = turned_length rows in
        let under = leb-false 64 (length rows) below in
        take_all 64 (new ∷ turned rows) (omega (arith, size, under))
        ∙ ap (λ o. new ∷ turned (left_by o rows)) (sym (is ∙ ap (λ b. cond b (first_key rows) None) below))

-- a first key is there
pub first_there : (rows : List (ℕ × Block)) (key : ℕ) → Some key ≡ first_key rows → is_some (item_at key rows) ≡ true
first_there [] key first = absurd (cc)
first_there (row ∷ rows) key first = let same : row.0 ≡ key = cc in ap is_some (item_here key row rows same)

pub gone_there : (rows : List (ℕ × Block)) (full : Bool) (gone : Option ℕ) → gone ≡ cond full (first_key rows) None → IfSome gone (λ key. is_some (item_at key rows) ≡ true)
gone_there rows full None is = tt
gone_there rows true (Some key) is = first_there rows key is
gone_there rows false (Some key) is = absurd (cc)

pub last_there : (test : Block → Bool) (key : ℕ) (rows : List (ℕ × Block)) → Distinct rows → last_key test rows ≡ Some key → is_some (item_at key rows) ≡ true
last_there test key rows d is =
    let l = last_of test key rows is in
    ap (λ rs. is_some (item_at key rs)) l.is ∙ ap is_some (item_split key l.front l.block l.back (distinct_absent l.front (key, l.block) l.back (subst Distinct l.is d)))
