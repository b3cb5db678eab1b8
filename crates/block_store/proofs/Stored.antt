-- What each call makes of the pool of a store.
use Rattle.std.proofs.Common.{◌≡◌, ◌≢◌, ◌⊎◌, ℕ, ◌+◌, ◌<◌, ◌≤◌, Bool, true, false, cond, not, eqb, nat_eq, List, [], ◌∷◌, ◌++◌, length, filter, replicate, Option, Some, None, is_some, is_none, refl, sym, ap, subst, ◌∙◌, inl, inr, arith}
use Rattle.std.specs.Option.{IfSome, IfNone}
use Rattle.std.proofs.lemmas.Bool.{and_parts, cases_eq, eq-eqb, eqb-true, ne_eqb}
use Rattle.std.proofs.lemmas.List.{length-map, length_push}
use Rattle.std.proofs.lemmas.List.Elements.{All-nil, filter-append}
use Rattle.std.proofs.lemmas.List.Filters.{length-filter_both}
use Rattle.list_laws.proofs.AllLists.{all_then}
use Rattle.list_laws.proofs.Splits.{filter_each, filter_nothing}
use Rattle.link_pool.specs.Rows.{Distinct, item_at, without, without_all}
use Rattle.link_pool.specs.Lists.{IsWhole, cleared, item_of, moved_last, pushed, rows_of}
use Rattle.link_pool.proofs.Numbered.{mapped_get}
use Rattle.link_pool.proofs.Rowed.{distinct_absent, item_split, without_absent}
use Rattle.link_pool.proofs.Unlinking.{unlinked_rows}
use Rattle.block_store.specs.Blocks.{has_range, is_same}
use Rattle.block_store.specs.Filed.{IsIn, rows_for}
use Rattle.block_store.specs.Likeness.{is_like}
use Rattle.block_store.specs.Owners.{HasOwners, IsListOf, IsStored, count_after, left_by, lists_left_by, turned}
use Rattle.block_store.specs.Store.{IsKept, added, touched}
use Rattle.block_store.specs.Walks.{last_key}
use Rattle.block_store.specs.declared.block.Block.{Block}
use Rattle.block_store.proofs.Kept.{kept_added, kept_filter, nothing_small}
use Rattle.block_store.proofs.Owned.{IsLast, Lists, move_last_both, no_owners, none_anywhere, owners_filtered, owners_last, push_last}
use Rattle.block_store.proofs.Rows.{absent_none, item_filter, item_here, item_later, own_items, without_length}
use Rattle.block_store.proofs.Turned.{touched_kept, touched_there, turned_filter, turned_push}
use Rattle.block_store.proofs.Walked.{LastOf, last_of, last_own}

-- ---- nothing yet

pub stored_new : (lists : Lists) (room : ℕ) → lists ≡ replicate 66 [] → 65 ≤ room → IsStored lists room 0
stored_new lists room is wide = record {
  owners = no_owners lists is;
  kept = subst IsKept (sym nothing) (record { small = nothing_small; filled = All-nil (λ block. 0 < length block.bytes) });
  counted = sym (ap length none);
  spare = omega (arith, wide);
}
  where
    none : rows_of 0 lists ≡ []
    none = ap (rows_of 0) is

    nothing : turned (rows_of 0 lists) ≡ []
    nothing = ap turned none

-- ---- some go

pub stored_filtered : (p : Block → Bool) (lists next : Lists) (room wide count fewer : ℕ) → IsStored lists room count → HasOwners next → rows_of 0 next ≡ filter (λ row. p row.1) (rows_of 0 lists) → fewer ≡ length (rows_of 0 next) → room + count ≤ wide + fewer → IsStored next wide fewer
stored_filtered p lists next room wide count fewer s h rows counted enough = record {
  owners = h;
  kept = subst IsKept (turned_filter p (rows_of 0 lists) ∙ ap turned (sym rows)) (kept_filter p (turned (rows_of 0 lists)) s.kept);
  counted = counted;
  spare = let spare = s.spare in omega (arith, spare, enough);
}

pub seen_filtered : (p : Block → Bool) (lists next : Lists) → rows_of 0 next ≡ filter (λ row. p row.1) (rows_of 0 lists) → turned (rows_of 0 next) ≡ filter p (turned (rows_of 0 lists))
seen_filtered p lists next rows = ap turned rows ∙ sym (turned_filter p (rows_of 0 lists))

-- what goes with a list: the rows whose keys stand in it
cleared_rows : (list j : ℕ) (lists : Lists) → rows_of j (cleared list lists) ≡ without_all (rows_of list lists) (rows_of j lists)
cleared_rows list j lists = mapped_get (without_all (rows_of list lists)) lists j []

pub owners_cleared : (list : ℕ) (lists next : Lists) → HasOwners lists → next ≡ cleared list lists → HasOwners next
owners_cleared list lists next h is =
    owners_filtered (λ row. is_none (item_at row.0 (rows_of list lists))) lists next h
    (ap length is ∙ length-map lists (without_all (rows_of list lists))) (λ j. ap (rows_of j) is ∙ cleared_rows list j lists)

goes_by : (block : Block) (b : Bool) → is_none (cond b (Some block) None) ≡ not b
goes_by block true = refl
goes_by block false = refl

process_rows : (process : ℕ) (rows : List (ℕ × Block)) → Distinct rows → without_all (rows_for process rows) rows ≡ filter (λ row. not (nat_eq row.1.process process)) rows
process_rows process rows d =
    filter_each (λ row. is_none (item_at row.0 (rows_for process rows))) (λ row. not (nat_eq row.1.process process)) rows
    (all_then (λ row. item_at row.0 rows ≡ Some row.1) (λ row. is_none (item_at row.0 (rows_for process rows)) ≡ not (nat_eq row.1.process process))
    (λ row there. ap is_none (item_filter (λ block. nat_eq block.process process) row.0 row.1 rows d there) ∙ goes_by row.1 (nat_eq row.1.process process))
    rows (own_items rows d))

pub process_gone : (process list : ℕ) (lists next : Lists) → HasOwners lists → IsListOf process list lists → next ≡ cleared list lists → rows_of 0 next ≡ filter (λ row. not (nat_eq row.1.process process)) (rows_of 0 lists)
process_gone process list lists next h l is =
    ap (rows_of 0) is ∙ cleared_rows list 0 lists ∙ ap (λ gone. without_all gone (rows_of 0 lists)) l.rows ∙ process_rows process (rows_of 0 lists) h.distinct

pub process_count : (process list : ℕ) (lists next : Lists) → IsListOf process list lists → rows_of 0 next ≡ filter (λ row. not (nat_eq row.1.process process)) (rows_of 0 lists) → length (rows_of list lists) + length (rows_of 0 next) ≡ length (rows_of 0 lists)
process_count process list lists next l rows =
    let both = length-filter_both {X = ℕ × Block} (λ row. nat_eq row.1.process process) (λ row. not (nat_eq row.1.process process)) (λ row. refl) (rows_of 0 lists) in
    let gone = ap length l.rows in
    let left = ap length rows in
    omega (arith, both, gone, left)

-- a process that has no block loses none
pub none_gone : (process : ℕ) (rows : List (ℕ × Block)) → rows_for process rows ≡ [] → filter (λ row. not (nat_eq row.1.process process)) rows ≡ rows
none_gone process [] none = refl
none_gone process (row ∷ rows) none = by_flag (nat_eq row.1.process process) refl (none_gone process rows) none
  where
    by_flag : (b : Bool) → nat_eq row.1.process process ≡ b → (rows_for process rows ≡ [] → filter (λ row. not (nat_eq row.1.process process)) rows ≡ rows) → cond b (row ∷ rows_for process rows) (rows_for process rows) ≡ [] → filter (λ row. not (nat_eq row.1.process process)) (row ∷ rows) ≡ row ∷ rows
    by_flag true is rest gone = absurd (cc)
    by_flag false is rest gone =
        ap (λ b. cond (not b) (row ∷ filter (λ row. not (nat_eq row.1.process process)) rows) (filter (λ row. not (nat_eq row.1.process process)) rows)) is
        ∙ ap (λ rs. row ∷ rs) (rest gone)

pub all_gone : (lists next : Lists) → HasOwners lists → next ≡ cleared 0 lists → rows_of 0 next ≡ []
all_gone lists next h is =
    ap (rows_of 0) is ∙ cleared_rows 0 0 lists
    ∙ filter_nothing (λ row. is_none (item_at row.0 (rows_of 0 lists))) (rows_of 0 lists)
    (all_then (λ row. item_at row.0 (rows_of 0 lists) ≡ Some row.1) (λ row. is_none (item_at row.0 (rows_of 0 lists)) ≡ false)
    (λ row there. ap is_none there) (rows_of 0 lists) (own_items (rows_of 0 lists) h.distinct))

pub stored_cleared : (lists next : Lists) (room wide count : ℕ) → IsStored lists room count → next ≡ cleared 0 lists → wide ≡ room + length (rows_of 0 lists) → IsStored next wide 0
stored_cleared lists next room wide count s is wider =
    let none = all_gone lists next s.owners is in
    record {
      owners = owners_cleared 0 lists next s.owners is;
      kept = subst IsKept (sym (ap turned none)) (record { small = nothing_small; filled = All-nil (λ block. 0 < length block.bytes) });
      counted = sym (ap length none);
      spare = let spare = s.spare in let counted = s.counted in omega (arith, spare, counted, wider);
    }

-- ---- one more, in the place of another

owners_left : (gone : Option ℕ) (lists next : Lists) → HasOwners lists → next ≡ lists_left_by gone lists → HasOwners next
owners_left None lists next h is = subst HasOwners (sym is) h
owners_left (Some key) lists next h is =
    owners_filtered (λ row. not (eqb row.0 key)) lists next h (ap length is ∙ length-map lists (without key)) (λ j. ap (rows_of j) is ∙ unlinked_rows key j lists)

in_append : (k : ℕ) (rows more : List (ℕ × Block)) → is_some (item_at k rows) ≡ true → is_some (item_at k (rows ++ more)) ≡ true
in_append k [] more there = absurd (cc)
in_append k (row ∷ rows) more there = by_place (cases_eq row.0 k) (in_append k rows more)
  where
    by_place : (row.0 ≡ k) ⊎ (row.0 ≢ k) → (is_some (item_at k rows) ≡ true → is_some (item_at k (rows ++ more)) ≡ true) → is_some (item_at k ((row ∷ rows) ++ more)) ≡ true
    by_place (inl same) rest = ap is_some (item_here k row (rows ++ more) same)
    by_place (inr apart) rest =
        ap is_some (item_later k row (rows ++ more) apart) ∙ rest (ap is_some (sym (item_later k row rows apart)) ∙ there)

without_push : (k key : ℕ) (block : Block) (rows : List (ℕ × Block)) → key ≢ k → without k (rows ++ (key, block) ∷ []) ≡ without k rows ++ (key, block) ∷ []
without_push k key block rows apart =
    filter-append (λ row. not (eqb row.0 k)) rows ((key, block) ∷ [])
    ∙ ap (λ b. without k rows ++ cond (not b) ((key, block) ∷ []) []) (ne_eqb key k apart)

module _ (lists middle next : Lists) (list key : ℕ) (block : Block) (h : HasOwners lists) (l : IsListOf block.process list lists) (fresh : item_of key lists ≡ None) (middle_is : middle ≡ pushed 0 (Some list) (key, block) lists) where
  last : IsLast lists middle list key block
  last = push_last lists middle list key block h l fresh middle_is

  not_there : item_at key (rows_of 0 lists) ≡ None
  not_there = none_anywhere key 0 lists fresh

  pub pushed_rows : rows_of 0 middle ≡ rows_of 0 lists ++ (key, block) ∷ []
  pushed_rows = last.by_use ∙ ap (λ rows. rows ++ (key, block) ∷ []) (without_absent key (rows_of 0 lists) (absent_none key (rows_of 0 lists) not_there))

  pub replaced_owners : (gone : Option ℕ) → next ≡ lists_left_by gone middle → HasOwners next
  replaced_owners gone is = owners_left gone middle next (owners_last lists middle list key block h l last) is

  differs : (k : ℕ) → IsIn k 0 lists → key ≢ k
  differs k there same = let none = ap is_some not_there in let some = subst (λ i. IsIn i 0 lists) (sym same) there in absurd (cc)

  pub replaced_rows : (gone : Option ℕ) → next ≡ lists_left_by gone middle → IfSome gone (λ k. IsIn k 0 lists) → rows_of 0 next ≡ left_by gone (rows_of 0 lists) ++ (key, block) ∷ []
  replaced_rows None is there = ap (rows_of 0) is ∙ pushed_rows
  replaced_rows (Some k) is there =
      ap (rows_of 0) is ∙ unlinked_rows k 0 middle ∙ ap (without k) pushed_rows ∙ without_push k key block (rows_of 0 lists) (differs k there)

  still : (k : ℕ) → IsIn k 0 lists → IsIn k 0 middle
  still k there = ap (λ rows. is_some (item_at k rows)) pushed_rows ∙ in_append k (rows_of 0 lists) ((key, block) ∷ []) there

  pub replaced_room : (gone : Option ℕ) (old mid new : ℕ) → next ≡ lists_left_by gone middle → IfSome gone (λ k. IsIn k 0 lists) → old ≤ mid + 1 → IfSome gone (λ k. IsIn k 0 middle → new ≡ mid + 1) → IfNone gone (new ≡ mid) → old + length (rows_of 0 lists) ≤ new + length (rows_of 0 next)
  replaced_room None old mid new is there less more same =
      let many = ap length (replaced_rows None is there) ∙ length_push (rows_of 0 lists) (key, block) in
      omega (arith, less, same, many)
  replaced_room (Some k) old mid new is there less more same =
      let many = ap length (replaced_rows (Some k) is there) ∙ length_push (without k (rows_of 0 lists)) (key, block) in
      let fewer = without_length k (rows_of 0 lists) h.distinct there in
      let wider = more (still k there) in
      omega (arith, less, many, fewer, wider)

count_is : (count key : ℕ) (block : Block) (gone : Option ℕ) (rows : List (ℕ × Block)) → Distinct rows → count ≡ length rows → IfSome gone (λ k. is_some (item_at k rows) ≡ true) → count_after count gone ≡ length (left_by gone rows ++ (key, block) ∷ [])
count_is count key block None rows d counted there =
    let many = length_push rows (key, block) in omega (arith, counted, many)
count_is count key block (Some k) rows d counted there =
    let many = length_push (without k rows) (key, block) in
    let fewer = without_length k rows d there in
    omega (arith, counted, many, fewer)

pub seen_added : (lists next : Lists) (key : ℕ) (block : Block) (gone : Option ℕ) → added block (turned (rows_of 0 lists)) ≡ block ∷ turned (left_by gone (rows_of 0 lists)) → rows_of 0 next ≡ left_by gone (rows_of 0 lists) ++ (key, block) ∷ [] → turned (rows_of 0 next) ≡ added block (turned (rows_of 0 lists))
seen_added lists next key block gone left rows = ap turned rows ∙ turned_push (left_by gone (rows_of 0 lists)) key block ∙ sym left

pub stored_added : (lists next : Lists) (room wide count more key : ℕ) (block : Block) (gone : Option ℕ) → IsStored lists room count → 0 < length block.bytes → added block (turned (rows_of 0 lists)) ≡ block ∷ turned (left_by gone (rows_of 0 lists)) → IfSome gone (λ k. IsIn k 0 lists) → HasOwners next → rows_of 0 next ≡ left_by gone (rows_of 0 lists) ++ (key, block) ∷ [] → room + length (rows_of 0 lists) ≤ wide + length (rows_of 0 next) → more ≡ count_after count gone → IsStored next wide more
stored_added lists next room wide count more key block gone s filled left there h rows enough more_is =
    let counted : more ≡ length (rows_of 0 next) = more_is ∙ count_is count key block gone (rows_of 0 lists) s.owners.distinct s.counted there ∙ sym (ap length rows) in
    record {
      owners = h;
      kept = subst IsKept (sym (seen_added lists next key block gone left rows)) (kept_added block (turned (rows_of 0 lists)) filled s.kept);
      counted = counted;
      spare = let spare = s.spare in let were = s.counted in omega (arith, spare, were, enough, counted);
    }

-- ---- one that is used

pub used_rows : (lists middle next : Lists) (list key : ℕ) (block : Block) → HasOwners lists → IsListOf block.process list lists → item_at key (rows_of 0 lists) ≡ Some block → middle ≡ moved_last 0 key lists → next ≡ moved_last list key middle → rows_of 0 next ≡ without key (rows_of 0 lists) ++ (key, block) ∷ []
used_rows lists middle next list key block h l there middle_is is = (move_last_both lists middle next list key block h l there middle_is is).by_use

-- the block that is used, in list 0
pub record Used (process addr size key list : ℕ) (lists : Lists) : Type 0 where
  pub one : LastOf (has_range process addr size) key (rows_of 0 lists)
  pub there : item_at key (rows_of 0 lists) ≡ Some one.block
  pub listed : IsListOf one.block.process list lists

pub used : (process addr size key list : ℕ) (lists : Lists) → HasOwners lists → IsListOf process list lists → last_key (has_range process addr size) (rows_of 0 lists) ≡ Some key → Used process addr size key list lists
used process addr size key list lists h l is =
    let one = last_of (has_range process addr size) key (rows_of 0 lists) is in
    let of_it : one.block.process ≡ process = eqb-true one.block.process process (and_parts _ _ (and_parts _ _ one.passes).0).0 in
    record {
      one = one;
      there = ap (item_at key) one.is ∙ item_split key one.front one.block one.back (distinct_absent one.front (key, one.block) one.back (subst Distinct one.is h.distinct));
      listed = subst (λ p. IsListOf p list lists) (sym of_it) l;
    }

pub seen_used : (process addr size key list : ℕ) (lists middle next : Lists) → HasOwners lists → Used process addr size key list lists → middle ≡ moved_last 0 key lists → next ≡ moved_last list key middle → turned (rows_of 0 next) ≡ touched process addr size (turned (rows_of 0 lists))
seen_used process addr size key list lists middle next h u middle_is is =
    ap turned (used_rows lists middle next list key u.one.block h u.listed u.there middle_is is)
    ∙ sym (touched_there process addr size key (rows_of 0 lists) u.one h.distinct)

pub stored_used : (process addr size key list room wide count : ℕ) (lists middle next : Lists) → IsStored lists room count → Used process addr size key list lists → middle ≡ moved_last 0 key lists → next ≡ moved_last list key middle → wide ≡ room → IsStored next wide count
stored_used process addr size key list room wide count lists middle next s u middle_is is same =
    let rows = used_rows lists middle next list key u.one.block s.owners u.listed u.there middle_is is in
    let many = ap length rows ∙ length_push (without key (rows_of 0 lists)) (key, u.one.block) in
    let fewer = without_length key (rows_of 0 lists) s.owners.distinct (ap is_some u.there) in
    record {
      owners = owners_last lists next list key u.one.block s.owners u.listed (move_last_both lists middle next list key u.one.block s.owners u.listed u.there middle_is is);
      kept = subst IsKept (sym (seen_used process addr size key list lists middle next s.owners u middle_is is)) (touched_kept process addr size key (rows_of 0 lists) u.one s.kept);
      counted = let counted = s.counted in omega (arith, counted, many, fewer);
      spare = let spare = s.spare in omega (arith, spare, same);
    }

-- the last of its own that is the same is the last of all
pub same_own : (lists : Lists) (list : ℕ) (block : Block) (len : ℕ) (found : Option ℕ) → IsListOf block.process list lists → len ≡ length block.bytes → found ≡ last_key (is_like block.process block.addr len) (rows_of list lists) → last_key (is_same block) (rows_of 0 lists) ≡ found
same_own lists list block len found l len_is is =
    sym (is ∙ ap (λ n. last_key (is_like block.process block.addr n) (rows_of list lists)) len_is ∙ ap (last_key (is_same block)) l.rows
    ∙ last_own (is_same block) block.process (λ other same. swapped block.process other.process (and_parts _ _ (and_parts _ _ same).0).0) (rows_of 0 lists))
  where
    swapped : (one other : ℕ) → nat_eq one other ≡ true → nat_eq other one ≡ true
    swapped one other same = eq-eqb other one (sym (eqb-true one other same))

-- the last of its own that has a range is the last of all
pub range_own : (lists : Lists) (process addr size list : ℕ) → IsListOf process list lists → last_key (has_range process addr size) (rows_of list lists) ≡ last_key (has_range process addr size) (rows_of 0 lists)
range_own lists process addr size list l =
    ap (last_key (has_range process addr size)) l.rows
    ∙ last_own (has_range process addr size) process (λ block has. (and_parts _ _ (and_parts _ _ has).0).0) (rows_of 0 lists)

pub range_none : (lists : Lists) (process addr size : ℕ) → rows_for process (rows_of 0 lists) ≡ [] → last_key (has_range process addr size) (rows_of 0 lists) ≡ None
range_none lists process addr size none =
    sym (last_own (has_range process addr size) process (λ block has. (and_parts _ _ (and_parts _ _ has).0).0) (rows_of 0 lists))
    ∙ ap (last_key (has_range process addr size)) none

-- where nothing goes, nothing changes
pub seen_kept : (p : Block → Bool) (lists : Lists) → filter (λ row. p row.1) (rows_of 0 lists) ≡ rows_of 0 lists → turned (rows_of 0 lists) ≡ filter p (turned (rows_of 0 lists))
seen_kept p lists same = sym (turned_filter p (rows_of 0 lists) ∙ ap turned same)

pub used_is : (process addr size key list : ℕ) (lists : Lists) → IsWhole lists → (u : Used process addr size key list lists) → item_of key lists ≡ Some u.one.block
used_is process addr size key list lists whole u = whole.same 0 key u.one.block u.there
