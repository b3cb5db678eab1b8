-- How a list is emptied, item by item.
use Rattle.std.proofs.Common.{◌≡◌, ◌≢◌, ◌⊎◌, ℕ, ◌+◌, ◌<◌, true, cond, List, [], ◌∷◌, length, map, Option, Some, None, is_some, is_none, refl, sym, ap, subst, ◌∙◌, inl, inr, arith}
use Rattle.std.proofs.lemmas.Bool.{cases_eq, eq-eqb, ne_eqb}
use Rattle.std.proofs.lemmas.List.{length-map}
use Rattle.std.specs.Prelude.{OnSome}
use Rattle.link_pool.specs.Value.{PoolValue}
use Rattle.link_pool.specs.Rows.{Absent, Distinct, first_key, item_at, without, without_all}
use Rattle.link_pool.specs.Lists.{IsWhole, cleared, item_of, rows_of, unlinked}
use Rattle.link_pool.proofs.Rowed.{without_absent}
use Rattle.link_pool.proofs.Unlinking.{unlinked_rows}

module _ {T : Type 0} where
  -- the lists once each of these rows is unlinked, in turn
  abbrev pub unlinked_all : List (ℕ × T) → List (List (ℕ × T)) → List (List (ℕ × T))
  unlinked_all [] lists = lists
  unlinked_all (row ∷ rows) lists = unlinked_all rows (unlinked row.0 lists)

  without_none : (rows : List (ℕ × T)) → without_all [] rows ≡ rows
  without_none [] = refl
  without_none (row ∷ rows) = ap (λ xs. row ∷ xs) (without_none rows)

  without_more : (gone : ℕ × T) (rest rows : List (ℕ × T)) → without_all rest (without gone.0 rows) ≡ without_all (gone ∷ rest) rows
  without_more gone rest [] = refl
  without_more gone rest (row ∷ rows) = by_place (cases_eq row.0 gone.0) (without_more gone rest rows)
    where
      by_place : (row.0 ≡ gone.0) ⊎ (row.0 ≢ gone.0) → without_all rest (without gone.0 rows) ≡ without_all (gone ∷ rest) rows → without_all rest (without gone.0 (row ∷ rows)) ≡ without_all (gone ∷ rest) (row ∷ rows)
      by_place (inl same) more = rw (eq-eqb row.0 gone.0 same, eq-eqb gone.0 row.0 (sym same)) more
      by_place (inr apart) more =
          rw (ne_eqb row.0 gone.0 apart, ne_eqb gone.0 row.0 (λ e. apart (sym e)))
          (ap (λ xs. cond (is_none (item_at row.0 rest)) (row ∷ xs) xs) more)

  mapped_none : (lists : List (List (ℕ × T))) → lists ≡ map (without_all []) lists
  mapped_none [] = refl
  mapped_none (rows ∷ lists) = rw (without_none rows) (ap (λ ls. rows ∷ ls) (mapped_none lists))

  mapped_more : (gone : ℕ × T) (rest : List (ℕ × T)) (lists : List (List (ℕ × T))) → map (without_all rest) (unlinked gone.0 lists) ≡ map (without_all (gone ∷ rest)) lists
  mapped_more gone rest [] = refl
  mapped_more gone rest (rows ∷ lists) =
      rw (without_more gone rest rows) (ap (λ ls. without_all (gone ∷ rest) rows ∷ ls) (mapped_more gone rest lists))

  all_is : (gone : List (ℕ × T)) (lists : List (List (ℕ × T))) → unlinked_all gone lists ≡ map (without_all gone) lists
  all_is [] lists = mapped_none lists
  all_is (row ∷ rest) lists = all_is rest (unlinked row.0 lists) ∙ mapped_more row rest lists

  -- what was unlinked so far is the front of the list, and each item left its room
  pub record Clears (list : ℕ) (start now : PoolValue T) : Type 0 where
    pub left : unlinked_all (rows_of list now.lists) now.lists ≡ unlinked_all (rows_of list start.lists) start.lists
    pub room : now.room + length (rows_of list now.lists) ≡ start.room + length (rows_of list start.lists)
    pub many : length now.lists ≡ length start.lists

  pub clears_start : (list : ℕ) (start : PoolValue T) → Clears list start start
  clears_start list start = record { left = refl; room = refl; many = refl }

  -- the first row of a list, and the rest
  pub record Front (list key : ℕ) (lists : List (List (ℕ × T))) : Type 0 where
    pub item : T
    pub rest : List (ℕ × T)
    pub is : rows_of list lists ≡ (key, item) ∷ rest

  front_by : (list key : ℕ) (lists : List (List (ℕ × T))) (rows : List (ℕ × T)) → rows_of list lists ≡ rows → Some key ≡ first_key rows → Front list key lists
  front_by list key lists [] is first = absurd (cc)
  front_by list key lists (row ∷ rest) is first =
      let same : row.0 ≡ key = cc in
      record { item = row.1; rest = rest; is = is ∙ ap {A = ℕ} (λ k. (k, row.1) ∷ rest) same }

  pub front : (list key : ℕ) (lists : List (List (ℕ × T))) → Some key ≡ first_key (rows_of list lists) → Front list key lists
  front list key lists first = front_by list key lists (rows_of list lists) refl first

  first_item : (key : ℕ) (item : T) (rest : List (ℕ × T)) → item_at key ((key, item) ∷ rest) ≡ Some item
  first_item key item rest = rw (eq-eqb key key refl) refl

  first_gone : (key : ℕ) (item : T) (rest : List (ℕ × T)) → Absent key rest → without key ((key, item) ∷ rest) ≡ rest
  first_gone key item rest a = rw (eq-eqb key key refl) (without_absent key rest a)

  -- the rows that are left once the first is unlinked
  rest_is : (list key : ℕ) (lists : List (List (ℕ × T))) (f : Front list key lists) → IsWhole lists → rows_of list (unlinked key lists) ≡ f.rest
  rest_is list key lists f whole =
      let apart : Distinct ((key, f.item) ∷ f.rest) = subst Distinct f.is (whole.distinct list) in
      unlinked_rows key list lists ∙ ap (without key) f.is ∙ first_gone key f.item f.rest apart.0

  on_some : (o : Option T) (P : Type 0) → is_some o ≡ true → OnSome o P → P
  on_some None P is p = absurd (cc)
  on_some (Some x) P is p = p

  first_there : (list key : ℕ) (lists : List (List (ℕ × T))) → Some key ≡ first_key (rows_of list lists) → IsWhole lists → is_some (item_of key lists) ≡ true
  first_there list key lists first whole =
      let f = front list key lists first in
      ap is_some (whole.same list key f.item (ap (item_at key) f.is ∙ first_item key f.item f.rest))

  pub clears_less : (list key : ℕ) (now next : PoolValue T) → Some key ≡ first_key (rows_of list now.lists) → IsWhole now.lists → next.lists ≡ unlinked key now.lists → length (rows_of list next.lists) < length (rows_of list now.lists)
  clears_less list key now next first whole left =
      let f = front list key now.lists first in
      let fewer : rows_of list next.lists ≡ f.rest = ap (rows_of list) left ∙ rest_is list key now.lists f whole in
      let before = ap length f.is in
      let after = ap length fewer in
      omega (arith, before, after)

  pub clears_next : (list key : ℕ) (start now next : PoolValue T) → Clears list start now → Some key ≡ first_key (rows_of list now.lists) → IsWhole now.lists → next.lists ≡ unlinked key now.lists → (taken : Option T) → taken ≡ item_of key now.lists → OnSome taken (next.room ≡ now.room + 1) → Clears list start next
  clears_next list key start now next c first whole left taken taken_is more =
      let room = on_some taken (next.room ≡ now.room + 1) (ap is_some taken_is ∙ first_there list key now.lists first whole) more in
      let f = front list key now.lists first in
      let fewer : rows_of list next.lists ≡ f.rest = ap (rows_of list) left ∙ rest_is list key now.lists f whole in
      let before = ap length f.is in
      let after = ap length fewer in
      let so_far = c.room in
      record {
        left = ap (λ rows. unlinked_all rows next.lists) fewer ∙ ap (unlinked_all f.rest) left
            ∙ sym (ap (λ rows. unlinked_all rows now.lists) f.is) ∙ c.left;
        room = omega (arith, before, after, so_far, room);
        many = ap length left ∙ length-map now.lists (without key) ∙ c.many;
      }

  empty_by : (rows : List (ℕ × T)) → None ≡ first_key rows → rows ≡ []
  empty_by [] none = refl
  empty_by (row ∷ rows) none = absurd (cc)

  pub clears_end : (list : ℕ) (start now : PoolValue T) → Clears list start now → None ≡ first_key (rows_of list now.lists) → now.lists ≡ cleared list start.lists
  clears_end list start now c none =
      sym (ap (λ rows. unlinked_all rows now.lists) (empty_by (rows_of list now.lists) none)) ∙ c.left ∙ all_is (rows_of list start.lists) start.lists

  pub clears_room : (list : ℕ) (start now : PoolValue T) → Clears list start now → None ≡ first_key (rows_of list now.lists) → now.room ≡ start.room + length (rows_of list start.lists)
  clears_room list start now c none =
      let none_left = ap length (empty_by (rows_of list now.lists) none) in
      let so_far = c.room in
      omega (arith, none_left, so_far)
