-- How the lists of processes are kept, and what they are to list 0.
use Rattle.std.proofs.Common.{◌≡◌, ◌≢◌, ◌⊎◌, ◌↔◌, ℕ, zero, suc, ◌<◌, Bool, true, false, cond, not, eqb, nat_eq, List, [], ◌∷◌, ◌++◌, length, set, filter, replicate, Option, Some, None, is_some, refl, sym, ap, subst, ◌∙◌, inl, inr, arith}
use Rattle.std.specs.Option.{option_or}
use Rattle.std.proofs.lemmas.Bool.{cases_eq, eq-eqb, eqb-true, ne_eqb}
use Rattle.std.proofs.lemmas.List.{append-nil, get_or-set_same, get_or-set_other, length-replicate, length-set}
use Rattle.std.proofs.lemmas.List.Elements.{filter-append}
use Rattle.link_pool.specs.Rows.{Distinct, item_at, without}
use Rattle.link_pool.specs.Lists.{item_of, pushed, put_last, put_behind, moved_last, rows_of}
use Rattle.link_pool.proofs.Rowed.{distinct_push, without_absent}
use Rattle.block_store.specs.Filed.{IsFiled, IsIn, IsInOne, owned, rows_for}
use Rattle.block_store.specs.Owners.{HasOwners, IsListOf}
use Rattle.block_store.specs.declared.block.Block.{Block}
use Rattle.block_store.proofs.Rows.{absent_none, distinct_filter, filter_swap, first_passes, in_filter, item_filter, item_here, item_later, without_key}

abbrev pub Lists : Type 0
Lists = List (List (ℕ × Block))

-- ---- fewer rows

owned_swap : (owner : Option ℕ) (keep : ℕ × Block → Bool) (rows : List (ℕ × Block)) → filter keep (owned owner rows) ≡ owned owner (filter keep rows)
owned_swap None keep rows = refl
owned_swap (Some process) keep rows = filter_swap keep (λ row. nat_eq row.1.process process) rows

-- where a test leaves the same of all lists, each is still of its process
pub owners_filtered : (keep : ℕ × Block → Bool) (lists next : Lists) → HasOwners lists → length next ≡ length lists → ((list : ℕ) → rows_of list next ≡ filter keep (rows_of list lists)) → HasOwners next
owners_filtered keep lists next h many rows_are = record {
  many = many ∙ h.many;
  distinct = subst Distinct (sym (rows_are 0)) (distinct_filter keep (rows_of 0 lists) h.distinct);
  each = λ list inside. (
    (h.each list inside).0,
    rows_are list ∙ ap (filter keep) (h.each list inside).1 ∙ owned_swap (h.each list inside).0 keep (rows_of 0 lists)
        ∙ ap (owned (h.each list inside).0) (sym (rows_are 0)),
  );
  once = λ one other key first second there also. h.once one other key first second (was one key there) (was other key also);
  placed = λ process. placed_by process (h.placed process);
}
  where
    was : (list key : ℕ) → IsIn key list next → IsIn key list lists
    was list key there = in_filter keep key (rows_of list lists) (ap (λ rows. is_some (item_at key rows)) (sym (rows_are list)) ∙ there)

    rows_now : (process : ℕ) → filter keep (rows_for process (rows_of 0 lists)) ≡ rows_for process (rows_of 0 next)
    rows_now process = filter_swap keep (λ row. nat_eq row.1.process process) (rows_of 0 lists) ∙ ap (rows_for process) (sym (rows_are 0))

    placed_by : (process : ℕ) → (rows_for process (rows_of 0 lists) ≡ []) ⊎ ((list : ℕ) × IsListOf process list lists) → (rows_for process (rows_of 0 next) ≡ []) ⊎ ((list : ℕ) × IsListOf process list next)
    placed_by process (inl none) = inl (sym (rows_now process) ∙ ap (filter keep) none)
    placed_by process (inr l) = inr (l.0, record { first = l.1.first; last = l.1.last; rows = rows_are l.0 ∙ ap (filter keep) l.1.rows ∙ rows_now process })

-- the list of a process stays its list
pub list_filtered : (keep : ℕ × Block → Bool) (lists next : Lists) (process list : ℕ) → ((list : ℕ) → rows_of list next ≡ filter keep (rows_of list lists)) → IsListOf process list lists → IsListOf process list next
list_filtered keep lists next process list rows_are l = record {
  first = l.first;
  last = l.last;
  rows = rows_are list ∙ ap (filter keep) l.rows ∙ filter_swap keep (λ row. nat_eq row.1.process process) (rows_of 0 lists) ∙ ap (rows_for process) (sym (rows_are 0));
}

-- ---- a row behind all others

-- a block stands last in list 0 and in one list besides, and nowhere else
pub record IsLast (lists next : Lists) (list key : ℕ) (block : Block) : Type 0 where
  pub many : length next ≡ length lists
  pub by_use : rows_of 0 next ≡ without key (rows_of 0 lists) ++ (key, block) ∷ []
  pub own : rows_of list next ≡ without key (rows_of list lists) ++ (key, block) ∷ []
  pub rest : (j : ℕ) → 0 < j → j ≢ list → rows_of j next ≡ rows_of j lists
  pub apart : (j : ℕ) → 0 < j → j ≢ list → item_at key (rows_of j lists) ≡ None

kept_apart : (key : ℕ) (rows : List (ℕ × Block)) → item_at key rows ≡ None → without key rows ≡ rows
kept_apart key rows none = without_absent key rows (absent_none key rows none)

for_push : (process key : ℕ) (block : Block) (rows : List (ℕ × Block)) → rows_for process (without key rows ++ (key, block) ∷ []) ≡ without key (rows_for process rows) ++ cond (nat_eq block.process process) ((key, block) ∷ []) []
for_push process key block rows =
    filter-append (λ row. nat_eq row.1.process process) (without key rows) ((key, block) ∷ [])
    ∙ ap (λ front. front ++ cond (nat_eq block.process process) ((key, block) ∷ []) [])
    (filter_swap (λ row. nat_eq row.1.process process) (λ row. not (eqb row.0 key)) rows)

for_own : (process key : ℕ) (block : Block) (rows : List (ℕ × Block)) → block.process ≡ process → rows_for process (without key rows ++ (key, block) ∷ []) ≡ without key (rows_for process rows) ++ (key, block) ∷ []
for_own process key block rows same =
    for_push process key block rows
    ∙ ap (λ b. without key (rows_for process rows) ++ cond b ((key, block) ∷ []) []) (eq-eqb block.process process same)

for_other : (process key : ℕ) (block : Block) (rows : List (ℕ × Block)) → block.process ≢ process → rows_for process (without key rows ++ (key, block) ∷ []) ≡ without key (rows_for process rows)
for_other process key block rows apart =
    for_push process key block rows
    ∙ ap (λ b. without key (rows_for process rows) ++ cond b ((key, block) ∷ []) []) (ne_eqb block.process process apart)
    ∙ append-nil (without key (rows_for process rows))

-- a row that two processes have isn't there
none_of_both : (one other : ℕ) (rows found : List (ℕ × Block)) → one ≢ other → rows_for one rows ≡ found → rows_for other rows ≡ found → found ≡ []
none_of_both one other rows [] apart is also = refl
none_of_both one other rows (row ∷ found) apart is also =
    let first = eqb-true row.1.process one (first_passes (λ row. nat_eq row.1.process one) rows row found is) in
    let second = eqb-true row.1.process other (first_passes (λ row. nat_eq row.1.process other) rows row found also) in
    absurd (apart (sym first ∙ second))

first_in : (row : ℕ × Block) (rows : List (ℕ × Block)) → is_some (item_at row.0 (row ∷ rows)) ≡ true
first_in row rows = ap is_some (item_here row.0 row rows refl)

in_push : (k key : ℕ) (block : Block) (rows : List (ℕ × Block)) → is_some (item_at k (rows ++ (key, block) ∷ [])) ≡ true → (is_some (item_at k rows) ≡ true) ⊎ (k ≡ key)
in_push k key block [] there = by_place (cases_eq key k)
  where
    by_place : (key ≡ k) ⊎ (key ≢ k) → (is_some (item_at {T = Block} k []) ≡ true) ⊎ (k ≡ key)
    by_place (inl same) = inr (sym same)
    by_place (inr apart) = absurd (let none = ap is_some (item_later k (key, block) [] apart) in cc)
in_push k key block (row ∷ rows) there = by_place (cases_eq row.0 k) (in_push k key block rows)
  where
    by_place : (row.0 ≡ k) ⊎ (row.0 ≢ k) → (is_some (item_at k (rows ++ (key, block) ∷ [])) ≡ true → (is_some (item_at k rows) ≡ true) ⊎ (k ≡ key)) → (is_some (item_at k (row ∷ rows)) ≡ true) ⊎ (k ≡ key)
    by_place (inl same) rest = inl (ap is_some (item_here k row rows same))
    by_place (inr apart) rest =
        elim (rest (ap is_some (sym (item_later k row (rows ++ (key, block) ∷ []) apart)) ∙ there)) [
          | inl found ↦ inl (ap is_some (item_later k row rows apart) ∙ found)
          | inr same ↦ inr same
        ]

module _ (lists next : Lists) (list key : ℕ) (block : Block) (h : HasOwners lists) (l : IsListOf block.process list lists) (b : IsLast lists next list key block) where
  not_own : (j : ℕ) → 0 < j → j ≢ list → without key (rows_of j lists) ≡ rows_of j lists
  not_own j inside apart = kept_apart key (rows_of j lists) (b.apart j inside apart)

  own_rows : rows_of list next ≡ rows_for block.process (rows_of 0 next)
  own_rows =
      b.own ∙ ap (λ rows. without key rows ++ (key, block) ∷ []) l.rows
      ∙ sym (for_own block.process key block (rows_of 0 lists) refl) ∙ ap (rows_for block.process) (sym b.by_use)

  -- the rows of another process
  other_rows : (process j : ℕ) → 0 < j → j ≢ list → block.process ≢ process → rows_of j lists ≡ rows_for process (rows_of 0 lists) → rows_of j next ≡ rows_for process (rows_of 0 next)
  other_rows process j inside apart differs is =
      b.rest j inside apart ∙ sym (not_own j inside apart) ∙ ap (without key) is
      ∙ sym (for_other process key block (rows_of 0 lists) differs) ∙ ap (rows_for process) (sym b.by_use)

  -- a list besides its own that has the rows of the block's process has none
  none_besides : (j : ℕ) (rows : List (ℕ × Block)) → 0 < j → j ≢ list → rows_of j lists ≡ rows → rows_of j lists ≡ rows_for block.process (rows_of 0 lists) → rows ≡ []
  none_besides j [] inside apart rows_are is = refl
  none_besides j (row ∷ rows) inside apart rows_are is =
      let there : IsIn row.0 j lists = ap (λ rs. is_some (item_at row.0 rs)) rows_are ∙ first_in row rows in
      let also : IsIn row.0 list lists = ap (λ rs. is_some (item_at row.0 rs)) (l.rows ∙ sym is) ∙ there in
      absurd (apart (h.once j list row.0 inside l.first there also))

  each_by : (j : ℕ) → 0 < j → j ≢ list → (owner : Option ℕ) → rows_of j lists ≡ owned owner (rows_of 0 lists) → (owner : Option ℕ) × (rows_of j next ≡ owned owner (rows_of 0 next))
  each_by j inside apart None is = (None, b.rest j inside apart ∙ is)
  each_by j inside apart (Some process) is = by_process (cases_eq block.process process)
    where
      by_process : (block.process ≡ process) ⊎ (block.process ≢ process) → (owner : Option ℕ) × (rows_of j next ≡ owned owner (rows_of 0 next))
      by_process (inl same) =
          (None, b.rest j inside apart ∙ none_besides j (rows_of j lists) inside apart refl (is ∙ ap (λ p. rows_for p (rows_of 0 lists)) (sym same)))
      by_process (inr differs) = (Some process, other_rows process j inside apart differs is)

  each_now : (j : ℕ) → 0 < j → (owner : Option ℕ) × (rows_of j next ≡ owned owner (rows_of 0 next))
  each_now j inside =
      elim (cases_eq j list) [
        | inl here ↦ (Some block.process, subst (λ i. rows_of i next ≡ rows_for block.process (rows_of 0 next)) (sym here) own_rows)
        | inr apart ↦ each_by j inside apart (h.each j inside).0 (h.each j inside).1
      ]

  in_other : (k j : ℕ) → 0 < j → j ≢ list → IsIn k j next → IsIn k j lists
  in_other k j inside apart there = ap (λ rows. is_some (item_at k rows)) (sym (b.rest j inside apart)) ∙ there

  in_own : (k : ℕ) → IsIn k list next → IsIn k list lists ⊎ (k ≡ key)
  in_own k there =
      elim (in_push k key block (without key (rows_of list lists)) (ap (λ rows. is_some (item_at k rows)) (sym b.own) ∙ there)) [
        | inl found ↦ inl (in_filter (λ row. not (eqb row.0 key)) k (rows_of list lists) found)
        | inr same ↦ inr same
      ]

  not_both : (k j : ℕ) → 0 < j → j ≢ list → IsIn k list next → IsIn k j next → ⊥
  not_both k j inside apart there also = by_key (in_own k there) (in_other k j inside apart also)
    where
      by_key : IsIn k list lists ⊎ (k ≡ key) → IsIn k j lists → ⊥
      by_key (inl found) in_j = apart (h.once j list k inside l.first in_j found)
      by_key (inr same) in_j = let none = ap is_some (b.apart j inside apart) in let some = subst (λ i. IsIn i j lists) same in_j in absurd (cc)

  once_by : (one other k : ℕ) → (one ≡ list) ⊎ (one ≢ list) → (other ≡ list) ⊎ (other ≢ list) → 0 < one → 0 < other → IsIn k one next → IsIn k other next → one ≡ other
  once_by one other k (inl here) (inl same) first second there also = here ∙ sym same
  once_by one other k (inl here) (inr apart) first second there also =
      absurd (not_both k other second apart (subst (λ i. IsIn k i next) here there) also)
  once_by one other k (inr apart) (inl same) first second there also =
      absurd (not_both k one first apart (subst (λ i. IsIn k i next) same also) there)
  once_by one other k (inr apart) (inr differs) first second there also =
      h.once one other k first second (in_other k one first apart there) (in_other k other second differs also)

  placed_other : (process : ℕ) → block.process ≢ process → (rows_for process (rows_of 0 lists) ≡ []) ⊎ ((j : ℕ) × IsListOf process j lists) → (rows_for process (rows_of 0 next) ≡ []) ⊎ ((j : ℕ) × IsListOf process j next)
  placed_other process differs (inl none) =
      inl (ap (rows_for process) b.by_use ∙ for_other process key block (rows_of 0 lists) differs ∙ ap (without key) none)
  placed_other process differs (inr m) =
      elim (cases_eq m.0 list) [
        | inl here ↦
            let also : rows_of list lists ≡ rows_for process (rows_of 0 lists) = subst (λ i. rows_of i lists ≡ rows_for process (rows_of 0 lists)) here m.1.rows in
            let none : rows_for process (rows_of 0 lists) ≡ [] = none_of_both block.process process (rows_of 0 lists) (rows_for process (rows_of 0 lists)) differs (sym l.rows ∙ also) refl in
            inl (ap (rows_for process) b.by_use ∙ for_other process key block (rows_of 0 lists) differs ∙ ap (without key) none)
        | inr apart ↦ inr (m.0, record { first = m.1.first; last = m.1.last; rows = other_rows process m.0 m.1.first apart differs m.1.rows })
      ]

  placed_now : (process : ℕ) → (block.process ≡ process) ⊎ (block.process ≢ process) → (rows_for process (rows_of 0 next) ≡ []) ⊎ ((j : ℕ) × IsListOf process j next)
  placed_now process (inl same) =
      inr (list, record { first = l.first; last = l.last; rows = own_rows ∙ ap (λ p. rows_for p (rows_of 0 next)) same })
  placed_now process (inr differs) = placed_other process differs (h.placed process)

  pub owners_last : HasOwners next
  owners_last = record {
    many = b.many ∙ h.many;
    distinct = subst Distinct (sym b.by_use)
        (distinct_push key block (without key (rows_of 0 lists)) (without_key key (rows_of 0 lists)) (distinct_filter (λ row. not (eqb row.0 key)) (rows_of 0 lists) h.distinct));
    each = each_now;
    once = λ one other k. once_by one other k (cases_eq one list) (cases_eq other list);
    placed = λ process. placed_now process (cases_eq block.process process);
  }

-- ---- a push, and two moves

set_twice : (lists next : Lists) (list : ℕ) (first own : List (ℕ × Block)) → length lists ≡ 66 → 0 < list → list < 66
    → next ≡ set (set lists 0 first) list own
    → (length next ≡ length lists) × (rows_of 0 next ≡ first) × (rows_of list next ≡ own) × ((j : ℕ) → 0 < j → j ≢ list → rows_of j next ≡ rows_of j lists)
set_twice lists next list first own many inside below is =
    let size : length (set lists 0 first) ≡ length lists = length-set lists 0 first in (
      ap length is ∙ length-set (set lists 0 first) list own ∙ size,
      ap (rows_of 0) is ∙ get_or-set_other (set lists 0 first) list 0 own [] (λ e. absurd (omega (arith, e, inside))) ∙ get_or-set_same lists 0 first [] (omega (arith, many)),
      ap (rows_of list) is ∙ get_or-set_same (set lists 0 first) list own [] (omega (arith, size, many, below)),
      λ j besides apart. ap (rows_of j) is ∙ get_or-set_other (set lists 0 first) list j own [] apart ∙ get_or-set_other lists 0 j first [] (λ e. absurd (omega (arith, e, besides))),
    )

-- in no list
pub none_anywhere : (key j : ℕ) (lists : Lists) → item_of key lists ≡ None → item_at key (rows_of j lists) ≡ None
none_anywhere key j [] none = refl
none_anywhere key j (rows ∷ lists) none = by_item (item_at key rows) refl (λ i. none_anywhere key i lists) j
  where
    by_item : (o : Option Block) → item_at key rows ≡ o → ((i : ℕ) → item_of key lists ≡ None → item_at key (rows_of i lists) ≡ None) → (j : ℕ) → item_at key (rows_of j (rows ∷ lists)) ≡ None
    by_item (Some item) is rest j = absurd (let some = sym (ap (λ o. option_or o (item_of key lists)) is) ∙ none in cc)
    by_item None is rest zero = is
    by_item None is rest (suc j) = rest j (sym (ap (λ o. option_or o (item_of key lists)) is) ∙ none)

pub push_last : (lists next : Lists) (list key : ℕ) (block : Block) → HasOwners lists → IsListOf block.process list lists → item_of key lists ≡ None → next ≡ pushed 0 (Some list) (key, block) lists → IsLast lists next list key block
push_last lists next list key block h l fresh is = record {
  many = t.0;
  by_use = t.1 ∙ ap (λ rows. rows ++ (key, block) ∷ []) (sym (kept_apart key (rows_of 0 lists) (none_anywhere key 0 lists fresh)));
  own = t.2 ∙ ap (λ rows. rows ++ (key, block) ∷ []) (own_was ∙ sym (kept_apart key (rows_of list lists) (none_anywhere key list lists fresh)));
  rest = t.3;
  apart = λ j inside apart. none_anywhere key j lists fresh;
}
  where
    own_was : rows_of list (set lists 0 (rows_of 0 lists ++ (key, block) ∷ [])) ≡ rows_of list lists
    own_was = get_or-set_other lists 0 list (rows_of 0 lists ++ (key, block) ∷ []) [] (λ e. absurd (omega (arith, e, l.first)))

    t : (length next ≡ length lists) × (rows_of 0 next ≡ rows_of 0 lists ++ (key, block) ∷ []) × (rows_of list next ≡ rows_of list (set lists 0 (rows_of 0 lists ++ (key, block) ∷ [])) ++ (key, block) ∷ []) × ((j : ℕ) → 0 < j → j ≢ list → rows_of j next ≡ rows_of j lists)
    t = set_twice lists next list (rows_of 0 lists ++ (key, block) ∷ []) (rows_of list (set lists 0 (rows_of 0 lists ++ (key, block) ∷ [])) ++ (key, block) ∷ []) h.many l.first l.last
        (is ∙ ap (λ b. cond b (put_last 0 (key, block) lists) (put_last list (key, block) (put_last 0 (key, block) lists))) (ne_eqb list 0 (λ e. absurd (omega (arith, e, l.first)))))

-- what a process's list has under a key
pub own_item : (lists : Lists) (list key : ℕ) (block : Block) → HasOwners lists → IsListOf block.process list lists → item_at key (rows_of 0 lists) ≡ Some block → item_at key (rows_of list lists) ≡ Some block
own_item lists list key block h l there =
    ap (item_at key) l.rows
    ∙ item_filter (λ other. nat_eq other.process block.process) key block (rows_of 0 lists) h.distinct there
    ∙ ap (λ b. cond b (Some block) None) (eq-eqb block.process block.process refl)

pub move_last_both : (lists middle next : Lists) (list key : ℕ) (block : Block) → HasOwners lists → IsListOf block.process list lists → item_at key (rows_of 0 lists) ≡ Some block → middle ≡ moved_last 0 key lists → next ≡ moved_last list key middle → IsLast lists next list key block
move_last_both lists middle next list key block h l there middle_is is = record {
  many = t.0;
  by_use = t.1;
  own = t.2;
  rest = t.3;
  apart = λ j inside apart. none_in j inside apart (item_at key (rows_of j lists)) refl;
}
  where
    at_own : item_at key (rows_of list lists) ≡ Some block
    at_own = own_item lists list key block h l there

    first_set : middle ≡ set lists 0 (without key (rows_of 0 lists) ++ (key, block) ∷ [])
    first_set = middle_is ∙ ap (λ o. put_behind 0 key o lists) there

    own_was : rows_of list middle ≡ rows_of list lists
    own_was = ap (rows_of list) first_set ∙ get_or-set_other lists 0 list (without key (rows_of 0 lists) ++ (key, block) ∷ []) [] (λ e. absurd (omega (arith, e, l.first)))

    both_set : next ≡ set (set lists 0 (without key (rows_of 0 lists) ++ (key, block) ∷ [])) list (without key (rows_of list lists) ++ (key, block) ∷ [])
    both_set =
        is ∙ ap (λ o. put_behind list key o middle) (ap (item_at key) own_was ∙ at_own)
        ∙ ap (λ rows. set middle list (without key rows ++ (key, block) ∷ [])) own_was
        ∙ ap (λ ls. set ls list (without key (rows_of list lists) ++ (key, block) ∷ [])) first_set

    t : (length next ≡ length lists) × (rows_of 0 next ≡ without key (rows_of 0 lists) ++ (key, block) ∷ []) × (rows_of list next ≡ without key (rows_of list lists) ++ (key, block) ∷ []) × ((j : ℕ) → 0 < j → j ≢ list → rows_of j next ≡ rows_of j lists)
    t = set_twice lists next list (without key (rows_of 0 lists) ++ (key, block) ∷ []) (without key (rows_of list lists) ++ (key, block) ∷ []) h.many l.first l.last both_set

    none_in : (j : ℕ) → 0 < j → j ≢ list → (o : Option Block) → item_at key (rows_of j lists) ≡ o → item_at key (rows_of j lists) ≡ None
    none_in j inside apart None at = at
    none_in j inside apart (Some other) at = absurd (apart (h.once j list key inside l.first (ap is_some at) (ap is_some at_own)))

-- ---- as it is told

-- the process that a list with the block is of
owner_is : (lists : Lists) (list key : ℕ) (block : Block) (owner : Option ℕ) → HasOwners lists → rows_of list lists ≡ owned owner (rows_of 0 lists) → item_at key (rows_of 0 lists) ≡ Some block → IsIn key list lists → owner ≡ Some block.process
owner_is lists list key block None h is there here = absurd (let none = ap (λ rows. is_some (item_at key rows)) is in cc)
owner_is lists list key block (Some process) h is there here = by_flag (nat_eq block.process process) refl
  where
    found : item_at key (rows_of list lists) ≡ cond (nat_eq block.process process) (Some block) None
    found = ap (item_at key) is ∙ item_filter (λ other. nat_eq other.process process) key block (rows_of 0 lists) h.distinct there

    by_flag : (b : Bool) → nat_eq block.process process ≡ b → Some process ≡ Some block.process
    by_flag true same = ap Some (sym (eqb-true block.process process same))
    by_flag false apart = absurd (let none = ap is_some (found ∙ ap (λ b. cond b (Some block) None) apart) in cc)

-- and what it has of another block
shared_by : (lists : Lists) (list key : ℕ) (block : Block) (process : ℕ) → HasOwners lists → rows_of list lists ≡ rows_for process (rows_of 0 lists) → item_at key (rows_of 0 lists) ≡ Some block → process ≡ block.process → IsIn key list lists
shared_by lists list key block process h is there same =
    ap (λ rows. is_some (item_at key rows)) is
    ∙ ap is_some (item_filter (λ other. nat_eq other.process process) key block (rows_of 0 lists) h.distinct there
    ∙ ap (λ b. cond b (Some block) None) (eq-eqb block.process process (sym same)))

module _ (lists : Lists) (h : HasOwners lists) where
  in_one_by : (key : ℕ) (block : Block) → item_at key (rows_of 0 lists) ≡ Some block → (rows_for block.process (rows_of 0 lists) ≡ []) ⊎ ((list : ℕ) × IsListOf block.process list lists) → IsInOne key lists
  in_one_by key block there (inl none) =
      absurd (
      let empty = ap (λ rows. is_some (item_at key rows)) none in
      let some = ap is_some (item_filter (λ other. nat_eq other.process block.process) key block (rows_of 0 lists) h.distinct there ∙ ap (λ b. cond b (Some block) None) (eq-eqb block.process block.process refl)) in
      cc)
  in_one_by key block there (inr l) =
      let here : IsIn key l.0 lists = ap is_some (own_item lists l.0 key block h l.1 there) in
      (l.0, l.1.first, here, λ other besides also. h.once other l.0 key besides l.1.first also here)

  in_one : (key : ℕ) (o : Option Block) → item_at key (rows_of 0 lists) ≡ o → IsIn key 0 lists → IsInOne key lists
  in_one key None is there = absurd (let none = ap is_some is in cc)
  in_one key (Some block) is there = in_one_by key block is (h.placed block.process)

  shares : (list one other : ℕ) (block next : Block) (owner : Option ℕ) → rows_of list lists ≡ owned owner (rows_of 0 lists) → item_at one (rows_of 0 lists) ≡ Some block → item_at other (rows_of 0 lists) ≡ Some next → IsIn one list lists → (IsIn other list lists ↔ (block.process ≡ next.process))
  shares list one other block next owner is there also here =
      let of_one : owner ≡ Some block.process = owner_is lists list one block owner h is there here in
      let rows : rows_of list lists ≡ rows_for block.process (rows_of 0 lists) = is ∙ ap (λ o. owned o (rows_of 0 lists)) of_one in (
        (λ in_it. let of_other : owner ≡ Some next.process = owner_is lists list other next owner h is also in_it in cc),
        λ same. shared_by lists list other next block.process h rows also same,
      )

  pub is_filed : IsFiled lists
  is_filed = record {
    many = h.many;
    each = h.each;
    once = λ key. in_one key (item_at key (rows_of 0 lists)) refl;
    shared = λ list one other block next inside. shares list one other block next (h.each list inside).0 (h.each list inside).1;
  }

-- ---- nothing yet

nothing_in : (n list : ℕ) → rows_of {T = Block} list (replicate n []) ≡ []
nothing_in zero list = refl
nothing_in (suc n) zero = refl
nothing_in (suc n) (suc list) = nothing_in n list

pub no_owners : (lists : Lists) → lists ≡ replicate 66 [] → HasOwners lists
no_owners lists is = record {
  many = ap length is ∙ length-replicate {A = List (ℕ × Block)} 66 [];
  distinct = subst Distinct (sym (nothing 0)) tt;
  each = λ list inside. (None, nothing list);
  once = λ one other key first second there also. absurd (let none = ap (λ rows. is_some (item_at key rows)) (nothing one) in cc);
  placed = λ process. inl (ap (rows_for process) (nothing 0));
}
  where
    nothing : (list : ℕ) → rows_of list lists ≡ []
    nothing list = ap (rows_of list) is ∙ nothing_in 66 list
