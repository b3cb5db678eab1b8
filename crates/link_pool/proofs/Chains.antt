-- How a chain of rows is kept, walked and changed.
use Rattle.std.proofs.Common.{◌≡◌, ◌≢◌, ℕ, zero, suc, ◌<◌, ◌≤◌, List, [], ◌∷◌, ◌++◌, length, set, Option, Some, None, is_some, cond, count_by, refl, sym, ap, subst, ◌∙◌, inl, inr, arith}
use Rattle.std.proofs.lemmas.Bool.{cases_eq, cases_lt}
use Rattle.std.proofs.lemmas.List.{get_or-set_other, get_or_past}
use Rattle.std.proofs.lemmas.List.Sums.{sum_by-set}
use Rattle.std.specs.Option.{option_or}
use Rattle.link_pool.specs.Rows.{Absent, Distinct, without}
use Rattle.link_pool.specs.Chain.{Linked, slot_at, first_of, last_of, Chain, walk, Holds, picked}
use Rattle.link_pool.proofs.Rowed.{Split, found, without_split, absent_pushed, distinct_push, absent_front, absent_back, absent_both, distinct_front, distinct_back, distinct_without, distinct_absent}

module _ {T : Type 0} where
  abbrev pub Apart : Option ℕ → List (ℕ × T) → Type 0
  Apart at [] = Unit {0}
  Apart at (row ∷ rows) = (Some row.0 ≢ at) × Apart at rows

  pub absent_apart : (key : ℕ) (rows : List (ℕ × T)) → Absent key rows → Apart (Some key) rows
  absent_apart key [] a = tt
  absent_apart key (row ∷ rows) a = ((λ e. a.0 (cc)), absent_apart key rows a.1)

  pub none_apart : (rows : List (ℕ × T)) → Apart None rows
  none_apart [] = tt
  none_apart (row ∷ rows) = ((λ e. absurd (cc)), none_apart rows)

  -- a change at a key that is not among the rows leaves the chain
  pub chain_kept : (old new : List (Option (Linked T))) (at before : Option ℕ) (rows : List (ℕ × T)) (after : Option ℕ) → ((k : ℕ) → Some k ≢ at → slot_at new k ≡ slot_at old k) → Apart at rows → Chain old before rows after → Chain new before rows after
  chain_kept old new at before [] after others a c = tt
  chain_kept old new at before (row ∷ rows) after others a c =
      (others row.0 a.0 ∙ c.0, chain_kept old new at (Some row.0) rows after others a.1 c.1)

  pub chain_join : (slots : List (Option (Linked T))) (before : Option ℕ) (xs ys : List (ℕ × T)) (after : Option ℕ) → Chain slots before xs (first_of ys after) → Chain slots (last_of before xs) ys after → Chain slots before (xs ++ ys) after
  chain_join slots before [] ys after a b = b
  chain_join slots before (row ∷ []) ys after a b = (a.0, b)
  chain_join slots before (row ∷ other ∷ xs) ys after a b =
      (a.0, chain_join slots (Some row.0) (other ∷ xs) ys after a.1 b)

  pub chain_front : (slots : List (Option (Linked T))) (before : Option ℕ) (xs ys : List (ℕ × T)) (after : Option ℕ) → Chain slots before (xs ++ ys) after → Chain slots before xs (first_of ys after)
  chain_front slots before [] ys after c = tt
  chain_front slots before (row ∷ []) ys after c = (c.0, tt)
  chain_front slots before (row ∷ other ∷ xs) ys after c =
      (c.0, chain_front slots (Some row.0) (other ∷ xs) ys after c.1)

  pub chain_back : (slots : List (Option (Linked T))) (before : Option ℕ) (xs ys : List (ℕ × T)) (after : Option ℕ) → Chain slots before (xs ++ ys) after → Chain slots (last_of before xs) ys after
  chain_back slots before [] ys after c = c
  chain_back slots before (row ∷ xs) ys after c = chain_back slots (Some row.0) xs ys after c.1

  pub chain_walk : (n : ℕ) (slots : List (Option (Linked T))) (before : Option ℕ) (rows : List (ℕ × T)) → length rows ≤ n → Chain slots before rows None → walk n slots (first_of rows None) ≡ rows
  chain_walk zero slots before [] fits c = refl
  chain_walk zero slots before (row ∷ rows) fits c = absurd (omega arith)
  chain_walk (suc n) slots before [] fits c = refl
  chain_walk (suc n) slots before (row ∷ rows) fits c =
      rw c.0 (ap (λ xs. row ∷ xs) (chain_walk n slots (Some row.0) rows (omega arith) c.1))

  -- each row's key has a value
  abbrev pub Occupied : List (Option (Linked T)) → List (ℕ × T) → Type 0
  Occupied slots [] = Unit {0}
  Occupied slots (row ∷ rows) = (node : Linked T) × (slot_at slots row.0 ≡ Some node) × Occupied slots rows

  chain_occupied : (slots : List (Option (Linked T))) (before : Option ℕ) (rows : List (ℕ × T)) (after : Option ℕ) → Chain slots before rows after → Occupied slots rows
  chain_occupied slots before [] after c = tt
  chain_occupied slots before (row ∷ rows) after c = (_, c.0, chain_occupied slots (Some row.0) rows after c.1)

  within : (slots : List (Option (Linked T))) (key : ℕ) (node : Linked T) → slot_at slots key ≡ Some node → key < length slots
  within slots key node there =
      elim (cases_lt key (length slots)) [
        | inl below ↦ below
        | inr past ↦ absurd (let none = get_or_past slots key None past in cc)
      ]

  occupied_kept : (slots : List (Option (Linked T))) (key : ℕ) (rows : List (ℕ × T)) → Absent key rows → Occupied slots rows → Occupied (set slots key None) rows
  occupied_kept slots key [] a o = tt
  occupied_kept slots key (row ∷ rows) a o =
      (o.0, get_or-set_other slots key row.0 None None a.0 ∙ o.1, occupied_kept slots key rows a.1 o.2)

  distinct_fit : (slots : List (Option (Linked T))) (rows : List (ℕ × T)) → Distinct rows → Occupied slots rows → length rows ≤ count_by is_some slots
  distinct_fit slots [] d o = omega arith
  distinct_fit slots (row ∷ rows) d o =
      let rest = distinct_fit (set slots row.0 None) rows d.1 (occupied_kept slots row.0 rows d.0 o.2) in
      let one : Option (Linked T) → ℕ = λ o. cond (is_some o) 1 0 in
      let count = sum_by-set one slots row.0 None None (within slots row.0 o.0 o.1) in
      let here : one (slot_at slots row.0) ≡ 1 = ap one o.1 in
      omega (arith, rest, count, here)

  pub walk_is : (slots : List (Option (Linked T))) (rows : List (ℕ × T)) (first last : Option ℕ) → Holds slots rows first last → walk (count_by is_some slots) slots first ≡ rows
  walk_is slots rows first last h =
      rw h.begins (chain_walk (count_by is_some slots) slots None rows (distinct_fit slots rows h.distinct (chain_occupied slots None rows None h.chained)) h.chained)

  pub holds_seen : (slots : List (Option (Linked T))) (rows : List (ℕ × T)) (first last : Option ℕ) → Holds slots rows first last → Holds slots (walk (count_by is_some slots) slots first) first last
  holds_seen slots rows first last h = subst (λ xs. Holds slots xs first last) (sym (walk_is slots rows first last h)) h

  -- a free key is that of no row
  pub free_absent : (slots : List (Option (Linked T))) (before : Option ℕ) (rows : List (ℕ × T)) (after : Option ℕ) (key : ℕ) → Chain slots before rows after → slot_at slots key ≡ None → Absent key rows
  free_absent slots before [] after key c free = tt
  free_absent slots before (row ∷ rows) after key c free =
      ((λ e. absurd (let here = c.0 in cc)), free_absent slots (Some row.0) rows after key c.1 free)

  last_differs : (k : ℕ) (rows : List (ℕ × T)) → Absent k rows → Some k ≢ last_of None rows
  last_differs k [] a = λ e. absurd (cc)
  last_differs k (row ∷ []) a = λ e. a.0 (cc)
  last_differs k (row ∷ other ∷ rows) a = last_differs k (other ∷ rows) a.1

  -- the slot at a key, if there is one, is changed, and no other
  pub record Changes (old new : List (Option (Linked T))) (at : Option ℕ) (change : Linked T → Linked T) : Type 0 where
    pub others : (k : ℕ) → Some k ≢ at → slot_at new k ≡ slot_at old k
    pub there : (k : ℕ) (node : Linked T) → at ≡ Some k → slot_at old k ≡ Some node → slot_at new k ≡ Some (change node)
    pub vacant : (k : ℕ) → slot_at old k ≡ None → slot_at new k ≡ None

  abbrev pub next_as : Option ℕ → Linked T → Linked T
  next_as next node = record node { next = next }

  abbrev pub before_as : Option ℕ → Linked T → Linked T
  before_as before node = record node { before = before }

  -- the chain once the next key of its last row is another one
  chain_next : (old new : List (Option (Linked T))) (before : Option ℕ) (rows : List (ℕ × T)) (after next : Option ℕ) → Distinct rows → Changes old new (last_of None rows) (next_as next) → Chain old before rows after → Chain new before rows next
  chain_next old new before [] after next d s c = tt
  chain_next old new before (row ∷ []) after next d s c = (s.there row.0 _ refl c.0, tt)
  chain_next old new before (row ∷ other ∷ rows) after next d s c =
      (s.others row.0 (last_differs row.0 (other ∷ rows) d.0) ∙ c.0, chain_next old new (Some row.0) (other ∷ rows) after next d.1 s c.1)

  chain_before : (old new : List (Option (Linked T))) (was before : Option ℕ) (rows : List (ℕ × T)) (after : Option ℕ) → Distinct rows → Changes old new (first_of rows None) (before_as before) → Chain old was rows after → Chain new before rows after
  chain_before old new was before [] after d s c = tt
  chain_before old new was before (row ∷ rows) after d s c =
      (s.there row.0 _ refl c.0, chain_kept old new (Some row.0) (Some row.0) rows after s.others (absent_apart row.0 rows d.0) c.1)

  last_push : (before : Option ℕ) (key : ℕ) (item : T) (rows : List (ℕ × T)) → last_of before (rows ++ (key, item) ∷ []) ≡ Some key
  last_push before key item [] = refl
  last_push before key item (row ∷ rows) = last_push (Some row.0) key item rows

  first_push : (first : Option ℕ) (key : ℕ) (item : T) (rows : List (ℕ × T)) → first ≡ first_of rows None → option_or first (Some key) ≡ first_of (rows ++ (key, item) ∷ []) None
  first_push first key item [] e = rw e refl
  first_push first key item (row ∷ rows) e = rw e refl

  apart_last : (xs ys : List (ℕ × T)) → Distinct (xs ++ ys) → Apart (last_of None xs) ys
  apart_last [] ys d = none_apart ys
  apart_last (row ∷ []) ys d = absent_apart row.0 ys d.0
  apart_last (row ∷ other ∷ xs) ys d = apart_last (other ∷ xs) ys d.1

  apart_first : (xs ys : List (ℕ × T)) → Distinct (xs ++ ys) → Apart (first_of ys None) xs
  apart_first xs [] d = none_apart xs
  apart_first xs (y ∷ ys) d = absent_apart y.0 xs (distinct_absent xs y ys d)

  first_differs : (k : ℕ) (rows : List (ℕ × T)) → Absent k rows → Some k ≢ first_of rows None
  first_differs k [] a = λ e. absurd (cc)
  first_differs k (row ∷ rows) a = λ e. a.0 (cc)

  last_append : (before : Option ℕ) (xs ys : List (ℕ × T)) → last_of before (xs ++ ys) ≡ last_of (last_of before xs) ys
  last_append before [] ys = refl
  last_append before (row ∷ xs) ys = last_append (Some row.0) xs ys

  last_some : (key : ℕ) (xs : List (ℕ × T)) → (k : ℕ) × (last_of (Some key) xs ≡ Some k)
  last_some key [] = (key, refl)
  last_some key (row ∷ xs) = last_some row.0 xs

  picked_first : (xs ys : List (ℕ × T)) (row : ℕ × T) → picked (last_of None xs) (first_of (xs ++ row ∷ ys) None) (first_of ys None) ≡ first_of (xs ++ ys) None
  picked_first [] ys row = refl
  picked_first (x ∷ xs) ys row = rw (last_some x.0 xs).1 refl

  picked_last : (xs ys : List (ℕ × T)) (row : ℕ × T) → picked (first_of ys None) (last_of None (xs ++ row ∷ ys)) (last_of None xs) ≡ last_of None (xs ++ ys)
  picked_last xs [] row = sym (last_append None xs [])
  picked_last xs (y ∷ ys) row = last_append None xs (row ∷ y ∷ ys) ∙ sym (last_append None xs (y ∷ ys))

  pub holds_same : (old new : List (Option (Linked T))) (rows : List (ℕ × T)) (first last : Option ℕ) → ((k : ℕ) → slot_at new k ≡ slot_at old k) → Holds old rows first last → Holds new rows first last
  holds_same old new rows first last same h =
      record {
        chained = chain_kept old new None None rows None (λ k differs. same k) (none_apart rows) h.chained;
        distinct = h.distinct;
        complete = λ k a. same k ∙ h.complete k a;
        begins = h.begins;
        ends = h.ends;
      }

  pub push_holds : (s0 s1 s2 : List (Option (Linked T))) (rows : List (ℕ × T)) (first last : Option ℕ) (key : ℕ) (item : T) → Holds s0 rows first last → slot_at s0 key ≡ None → slot_at s1 key ≡ Some (record { item = item; before = last; next = None }) → ((k : ℕ) → k ≢ key → slot_at s1 k ≡ slot_at s0 k) → Changes s1 s2 last (next_as (Some key)) → Holds s2 (rows ++ (key, item) ∷ []) (option_or first (Some key)) (Some key)
  push_holds s0 s1 s2 rows first last key item h free here others set_at =
      let fresh = free_absent s0 None rows None key h.chained free in
      let at_last : Changes s1 s2 (last_of None rows) (next_as (Some key)) = subst (λ l. Changes s1 s2 l (next_as (Some key))) h.ends set_at in
      let first_part = chain_kept s0 s1 (Some key) None rows None (λ k differs. others k (λ e. differs (ap Some e))) (absent_apart key rows fresh) h.chained in
      let relinked = chain_next s1 s2 None rows None (Some key) h.distinct at_last first_part in
      let there : slot_at s2 key ≡ Some (record { item = item; before = last_of None rows; next = None }) =
      at_last.others key (last_differs key rows fresh) ∙ here ∙ ap (λ l. Some (record { item = item; before = l; next = None })) h.ends in
      record {
        chained = chain_join s2 None rows ((key, item) ∷ []) None relinked (there, tt);
        distinct = distinct_push key item rows fresh h.distinct;
        complete = λ k a. let halves = absent_pushed k key item rows a in
            at_last.others k (last_differs k rows halves.0) ∙ others k (λ e. halves.1 (sym e)) ∙ h.complete k halves.0;
        begins = first_push first key item rows h.begins;
        ends = sym (last_push None key item rows);
      }

  unlink_at : (s0 s1 s2 s3 : List (Option (Linked T))) (xs ys : List (ℕ × T)) (first last : Option ℕ) (key : ℕ) (item : T) → Holds s0 (xs ++ (key, item) ∷ ys) first last → slot_at s1 key ≡ None → ((k : ℕ) → k ≢ key → slot_at s1 k ≡ slot_at s0 k) → Changes s1 s2 (last_of None xs) (next_as (first_of ys None)) → Changes s2 s3 (first_of ys None) (before_as (last_of None xs)) → Holds s3 (xs ++ ys) (picked (last_of None xs) first (first_of ys None)) (picked (first_of ys None) last (last_of None xs))
  unlink_at s0 s1 s2 s3 xs ys first last key item h free same_others nexts befores =
      let before = last_of None xs in
      let next = first_of ys None in
      let row : ℕ × T = (key, item) in
      let d = distinct_without xs row ys h.distinct in
      let row_and_back = distinct_back xs (row ∷ ys) h.distinct in
      let absent = distinct_absent xs row ys h.distinct in
      let others : (k : ℕ) → Some k ≢ Some key → slot_at s1 k ≡ slot_at s0 k = λ k differs. same_others k (λ e. differs (ap Some e)) in
      let front1 = chain_kept s0 s1 (Some key) None xs (Some key) others (absent_apart key xs absent) (chain_front s0 None xs (row ∷ ys) None h.chained) in
      let front2 = chain_next s1 s2 None xs (Some key) next (distinct_front xs (row ∷ ys) h.distinct) nexts front1 in
      let front3 = chain_kept s2 s3 next None xs next befores.others (apart_first xs ys d) front2 in
      let back1 = chain_kept s0 s1 (Some key) (Some key) ys None others (absent_apart key ys row_and_back.0) (chain_back s0 None xs (row ∷ ys) None h.chained).1 in
      let back2 = chain_kept s1 s2 before (Some key) ys None nexts.others (apart_last xs ys d) back1 in
      let back3 = chain_before s2 s3 (Some key) before ys None row_and_back.1 befores back2 in
      let gone : (k : ℕ) → Absent k (xs ++ ys) → slot_at s1 k ≡ None =
      λ k a. elim (cases_eq key k) [
        | inl same ↦ subst (λ j. slot_at s1 j ≡ None) same free
        | inr differs ↦ same_others k (λ e. differs (sym e)) ∙ h.complete k (absent_both k xs (row ∷ ys) (absent_front k xs ys a) (differs, absent_back k xs ys a))
      ] in
      record {
        chained = chain_join s3 None xs ys None front3 back3;
        distinct = d;
        complete = λ k a. befores.others k (first_differs k ys (absent_back k xs ys a)) ∙ nexts.others k (last_differs k xs (absent_front k xs ys a)) ∙ gone k a;
        begins = ap (λ f. picked before f next) h.begins ∙ picked_first xs ys row;
        ends = ap (λ l. picked next l before) h.ends ∙ picked_last xs ys row;
      }

  pub node_at_split : (slots : List (Option (Linked T))) (rows : List (ℕ × T)) (key : ℕ) (node : Linked T) (s : Split key rows) → Chain slots None rows None → slot_at slots key ≡ Some node → node ≡ record { item = s.item; before = last_of None s.front; next = first_of s.back None }
  node_at_split slots rows key node s c there =
      let here = (chain_back slots None s.front ((key, s.item) ∷ s.back) None (subst (λ xs. Chain slots None xs None) s.is c)).0 in
      cc

  pub back_absent : (key : ℕ) (rows : List (ℕ × T)) (s : Split key rows) → Distinct rows → Absent key s.back
  back_absent key rows s d = (distinct_back s.front ((key, s.item) ∷ s.back) (subst Distinct s.is d)).0

  pub unlink_holds : (s0 s1 s2 s3 : List (Option (Linked T))) (rows : List (ℕ × T)) (first last : Option ℕ) (key : ℕ) (node : Linked T) → Holds s0 rows first last → slot_at s0 key ≡ Some node → slot_at s1 key ≡ None → ((k : ℕ) → k ≢ key → slot_at s1 k ≡ slot_at s0 k) → Changes s1 s2 node.before (next_as node.next) → Changes s2 s3 node.next (before_as node.before) → Holds s3 (without key rows) (picked node.before first node.next) (picked node.next last node.before)
  unlink_holds s0 s1 s2 s3 rows first last key node h there free others nexts befores =
      elim (found key rows) [
        | inl a ↦ absurd (let none = h.complete key a in cc)
        | inr s ↦ by_split s
      ]
    where
      by_split : Split key rows → Holds s3 (without key rows) (picked node.before first node.next) (picked node.next last node.before)
      by_split s =
          let node_is = node_at_split s0 rows key node s h.chained there in
          let rows_are = ap (without key) s.is ∙ without_split key s.front s.item s.back s.first_one (back_absent key rows s h.distinct) in
          subst (λ (n : Linked T). Holds s3 (without key rows) (picked n.before first n.next) (picked n.next last n.before)) (sym node_is)
          (subst (λ xs. Holds s3 xs (picked (last_of None s.front) first (first_of s.back None)) (picked (first_of s.back None) last (last_of None s.front))) (sym rows_are)
          (unlink_at s0 s1 s2 s3 s.front s.back first last key s.item (subst (λ xs. Holds s0 xs first last) s.is h) free others
          (subst (λ (n : Linked T). Changes s1 s2 n.before (next_as n.next)) node_is nexts)
          (subst (λ (n : Linked T). Changes s2 s3 n.next (before_as n.before)) node_is befores)))
