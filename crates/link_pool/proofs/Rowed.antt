-- How rows are found, split and left out.
use Rattle.std.proofs.Common.{◌≡◌, ◌≢◌, ◌⊎◌, ℕ, List, [], ◌∷◌, ◌++◌, Some, None, refl, sym, ap, inl, inr}
use Rattle.std.proofs.lemmas.Bool.{cases_eq, eq-eqb, ne_eqb}
use Rattle.link_pool.specs.Rows.{Absent, Distinct, first_key, item_at, key_after, key_before, without}
use Rattle.link_pool.specs.Chain.{first_of, last_of}

module _ {T : Type 0} where
  -- the rows before and behind that of a key
  pub record Split (key : ℕ) (rows : List (ℕ × T)) : Type 0 where
    pub front : List (ℕ × T)
    pub item : T
    pub back : List (ℕ × T)
    pub is : rows ≡ front ++ (key, item) ∷ back
    pub first_one : Absent key front

  split_here : (key : ℕ) (row : ℕ × T) (rows : List (ℕ × T)) → row.0 ≡ key → Split key (row ∷ rows)
  split_here key row rows same =
      record { front = []; item = row.1; back = rows; is = ap {A = ℕ} (λ k. (k, row.1) ∷ rows) same; first_one = tt }

  split_later : (key : ℕ) (row : ℕ × T) (rows : List (ℕ × T)) → row.0 ≢ key → Split key rows → Split key (row ∷ rows)
  split_later key row rows differs s =
      record { front = row ∷ s.front; item = s.item; back = s.back; is = ap (λ xs. row ∷ xs) s.is; first_one = (differs, s.first_one) }

  pub found : (key : ℕ) (rows : List (ℕ × T)) → Absent key rows ⊎ Split key rows
  found key [] = inl tt
  found key (row ∷ rows) =
      elim (cases_eq row.0 key) [
        | inl same ↦ inr (split_here key row rows same)
        | inr differs ↦ elim (found key rows) [ inl a ↦ inl (differs, a) | inr s ↦ inr (split_later key row rows differs s) ]
      ]

  pub item_split : (key : ℕ) (front : List (ℕ × T)) (item : T) (back : List (ℕ × T)) → Absent key front → item_at key (front ++ (key, item) ∷ back) ≡ Some item
  item_split key [] item back a = rw (eq-eqb key key refl) refl
  item_split key (row ∷ front) item back a = rw (ne_eqb row.0 key a.0) (item_split key front item back a.1)

  pub item_absent : (key : ℕ) (rows : List (ℕ × T)) → Absent key rows → item_at key rows ≡ None
  item_absent key [] a = refl
  item_absent key (row ∷ rows) a = rw (ne_eqb row.0 key a.0) (item_absent key rows a.1)

  pub without_absent : (key : ℕ) (rows : List (ℕ × T)) → Absent key rows → without key rows ≡ rows
  without_absent key [] a = refl
  without_absent key (row ∷ rows) a = rw (ne_eqb row.0 key a.0) (ap (λ xs. row ∷ xs) (without_absent key rows a.1))

  pub without_split : (key : ℕ) (front : List (ℕ × T)) (item : T) (back : List (ℕ × T)) → Absent key front → Absent key back → without key (front ++ (key, item) ∷ back) ≡ front ++ back
  without_split key [] item back a b = rw (eq-eqb key key refl) (without_absent key back b)
  without_split key (row ∷ front) item back a b =
      rw (ne_eqb row.0 key a.0) (ap (λ xs. row ∷ xs) (without_split key front item back a.1 b))

  pub after_split : (key : ℕ) (front : List (ℕ × T)) (item : T) (back : List (ℕ × T)) → Absent key front → key_after key (front ++ (key, item) ∷ back) ≡ first_key back
  after_split key [] item back a = rw (eq-eqb key key refl) refl
  after_split key (row ∷ front) item back a = rw (ne_eqb row.0 key a.0) (after_split key front item back a.1)

  pub after_absent : (key : ℕ) (rows : List (ℕ × T)) → Absent key rows → key_after key rows ≡ None
  after_absent key [] a = refl
  after_absent key (row ∷ rows) a = rw (ne_eqb row.0 key a.0) (after_absent key rows a.1)

  pub first_key_is : (rows : List (ℕ × T)) → first_key rows ≡ first_of rows None
  first_key_is [] = refl
  first_key_is (row ∷ rows) = refl

  pub before_absent : (key : ℕ) (rows : List (ℕ × T)) → Absent key rows → key_before key rows ≡ None
  before_absent key [] a = refl
  before_absent key (row ∷ []) a = refl
  before_absent key (row ∷ other ∷ rows) a = rw (ne_eqb other.0 key a.1.0) (before_absent key (other ∷ rows) a.1)

  before_first : (key : ℕ) (item : T) (back : List (ℕ × T)) → Absent key back → key_before key ((key, item) ∷ back) ≡ None
  before_first key item [] b = refl
  before_first key item (row ∷ back) b = rw (ne_eqb row.0 key b.0) (before_absent key (row ∷ back) b)

  pub before_split : (key : ℕ) (front : List (ℕ × T)) (item : T) (back : List (ℕ × T)) → Absent key front → Absent key back → key_before key (front ++ (key, item) ∷ back) ≡ last_of None front
  before_split key [] item back a b = before_first key item back b
  before_split key (row ∷ []) item back a b = rw (eq-eqb key key refl) refl
  before_split key (row ∷ other ∷ front) item back a b =
      rw (ne_eqb other.0 key a.1.0) (before_split key (other ∷ front) item back a.1 b)

  pub absent_push : (k key : ℕ) (item : T) (rows : List (ℕ × T)) → Absent k rows → key ≢ k → Absent k (rows ++ (key, item) ∷ [])
  absent_push k key item [] a differs = (differs, tt)
  absent_push k key item (row ∷ rows) a differs = (a.0, absent_push k key item rows a.1 differs)

  pub absent_pushed : (k key : ℕ) (item : T) (rows : List (ℕ × T)) → Absent k (rows ++ (key, item) ∷ []) → Absent k rows × (key ≢ k)
  absent_pushed k key item [] a = (tt, a.0)
  absent_pushed k key item (row ∷ rows) a = let rest = absent_pushed k key item rows a.1 in ((a.0, rest.0), rest.1)

  pub distinct_push : (key : ℕ) (item : T) (rows : List (ℕ × T)) → Absent key rows → Distinct rows → Distinct (rows ++ (key, item) ∷ [])
  distinct_push key item [] a d = (tt, tt)
  distinct_push key item (row ∷ rows) a d =
      (absent_push row.0 key item rows d.0 (λ e. a.0 (sym e)), distinct_push key item rows a.1 d.1)

  pub absent_front : (k : ℕ) (xs ys : List (ℕ × T)) → Absent k (xs ++ ys) → Absent k xs
  absent_front k [] ys a = tt
  absent_front k (row ∷ xs) ys a = (a.0, absent_front k xs ys a.1)

  pub absent_back : (k : ℕ) (xs ys : List (ℕ × T)) → Absent k (xs ++ ys) → Absent k ys
  absent_back k [] ys a = a
  absent_back k (row ∷ xs) ys a = absent_back k xs ys a.1

  pub absent_both : (k : ℕ) (xs ys : List (ℕ × T)) → Absent k xs → Absent k ys → Absent k (xs ++ ys)
  absent_both k [] ys a b = b
  absent_both k (row ∷ xs) ys a b = (a.0, absent_both k xs ys a.1 b)

  pub distinct_front : (xs ys : List (ℕ × T)) → Distinct (xs ++ ys) → Distinct xs
  distinct_front [] ys d = tt
  distinct_front (row ∷ xs) ys d = (absent_front row.0 xs ys d.0, distinct_front xs ys d.1)

  pub distinct_back : (xs ys : List (ℕ × T)) → Distinct (xs ++ ys) → Distinct ys
  distinct_back [] ys d = d
  distinct_back (row ∷ xs) ys d = distinct_back xs ys d.1

  pub distinct_without : (xs : List (ℕ × T)) (row : ℕ × T) (ys : List (ℕ × T)) → Distinct (xs ++ row ∷ ys) → Distinct (xs ++ ys)
  distinct_without [] row ys d = d.1
  distinct_without (x ∷ xs) row ys d =
      (absent_both x.0 xs ys (absent_front x.0 xs (row ∷ ys) d.0) (absent_back x.0 xs (row ∷ ys) d.0).1, distinct_without xs row ys d.1)

  pub distinct_absent : (xs : List (ℕ × T)) (row : ℕ × T) (ys : List (ℕ × T)) → Distinct (xs ++ row ∷ ys) → Absent row.0 xs
  distinct_absent [] row ys d = tt
  distinct_absent (x ∷ xs) row ys d =
      ((λ e. (absent_back x.0 xs (row ∷ ys) d.0).0 (sym e)), distinct_absent xs row ys d.1)
