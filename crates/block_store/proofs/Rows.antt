-- What a filter leaves of rows, and what stands under a key of them.
use Rattle.std.proofs.Common.{◌≡◌, ◌≢◌, ◌⊎◌, ℕ, ◌+◌, ◌<◌, ◌≤◌, Bool, true, false, cond, not, eqb, List, [], ◌∷◌, length, filter, Option, Some, None, is_some, refl, sym, ap, subst, ◌∙◌, inl, inr, arith}
use Rattle.std.specs.List.{AllByRecursion}
use Rattle.std.proofs.lemmas.Bool.{cases_eq, eq-eqb, ne_eqb}
use Rattle.link_pool.specs.Rows.{Absent, Distinct, item_at, without}
use Rattle.link_pool.proofs.Rowed.{item_absent, without_absent}

module _ {A : Type 0} where
  swap_by : (p q : A → Bool) (x : A) (xs : List A) (a b : Bool) → p x ≡ a → q x ≡ b → filter p (filter q xs) ≡ filter q (filter p xs) → filter p (cond b (x ∷ filter q xs) (filter q xs)) ≡ filter q (cond a (x ∷ filter p xs) (filter p xs))
  swap_by p q x xs true true pa qb rest = rw (pa, qb) (ap (λ l. x ∷ l) rest)
  swap_by p q x xs true false pa qb rest = rw qb rest
  swap_by p q x xs false true pa qb rest = rw pa rest
  swap_by p q x xs false false pa qb rest = rest

  pub filter_swap : (p q : A → Bool) (xs : List A) → filter p (filter q xs) ≡ filter q (filter p xs)
  filter_swap p q [] = refl
  filter_swap p q (x ∷ xs) = swap_by p q x xs (p x) (q x) refl refl (filter_swap p q xs)

  pub filter_whole : (p : A → Bool) (xs : List A) → AllByRecursion (λ x. p x ≡ true) xs → filter p xs ≡ xs
  filter_whole p [] all = refl
  filter_whole p (x ∷ xs) all =
      ap (λ b. cond b (x ∷ filter p xs) (filter p xs)) all.0 ∙ ap (λ l. x ∷ l) (filter_whole p xs all.1)

  fewer_by : (x : A) (xs ys : List A) (b : Bool) → length ys ≤ length xs → length (cond b (x ∷ ys) ys) ≤ length xs + 1
  fewer_by x xs ys true few = omega arith
  fewer_by x xs ys false few = omega arith

  pub filter_fewer : (p : A → Bool) (xs : List A) → length (filter p xs) ≤ length xs
  filter_fewer p [] = omega arith
  filter_fewer p (x ∷ xs) =
      let few : length (cond (p x) (x ∷ filter p xs) (filter p xs)) ≤ length xs + 1 = fewer_by x xs (filter p xs) (p x) (filter_fewer p xs) in
      omega (arith, few)

  -- what is first in a filter passes
  pub first_passes : (p : A → Bool) (xs : List A) (x : A) (ys : List A) → filter p xs ≡ x ∷ ys → p x ≡ true
  first_passes p [] x ys is = absurd (cc)
  first_passes p (z ∷ xs) x ys is = by_flag (p z) refl (first_passes p xs x ys)
    where
      by_flag : (b : Bool) → p z ≡ b → (filter p xs ≡ x ∷ ys → p x ≡ true) → p x ≡ true
      by_flag true passes rest =
          let front : z ∷ filter p xs ≡ x ∷ ys = ap (λ b. cond b (z ∷ filter p xs) (filter p xs)) (sym passes) ∙ is in
          let same : z ≡ x = cc in
          subst (λ y. p y ≡ true) same passes
      by_flag false fails rest = rest (ap (λ b. cond b (z ∷ filter p xs) (filter p xs)) (sym fails) ∙ is)

module _ {T : Type 0} where
  -- ---- a row's key

  pub item_here : (key : ℕ) (row : ℕ × T) (rows : List (ℕ × T)) → row.0 ≡ key → item_at key (row ∷ rows) ≡ Some row.1
  item_here key row rows same = rw (eq-eqb row.0 key same) refl

  pub item_later : (key : ℕ) (row : ℕ × T) (rows : List (ℕ × T)) → row.0 ≢ key → item_at key (row ∷ rows) ≡ item_at key rows
  item_later key row rows apart = rw (ne_eqb row.0 key apart) refl

  -- a row with another key changes nothing, whether it is there or not
  item_past : (key : ℕ) (row : ℕ × T) (rows : List (ℕ × T)) (b : Bool) → row.0 ≢ key → item_at key (cond b (row ∷ rows) rows) ≡ item_at key rows
  item_past key row rows true apart = item_later key row rows apart
  item_past key row rows false apart = refl

  absent_by : (key : ℕ) (row : ℕ × T) (rows : List (ℕ × T)) (b : Bool) → row.0 ≢ key → Absent key rows → Absent key (cond b (row ∷ rows) rows)
  absent_by key row rows true apart a = (apart, a)
  absent_by key row rows false apart a = a

  pub absent_filter : (p : ℕ × T → Bool) (key : ℕ) (rows : List (ℕ × T)) → Absent key rows → Absent key (filter p rows)
  absent_filter p key [] a = tt
  absent_filter p key (row ∷ rows) a = absent_by key row (filter p rows) (p row) a.0 (absent_filter p key rows a.1)

  distinct_by : (row : ℕ × T) (rows : List (ℕ × T)) (b : Bool) → Absent row.0 rows → Distinct rows → Distinct (cond b (row ∷ rows) rows)
  distinct_by row rows true a d = (a, d)
  distinct_by row rows false a d = d

  pub distinct_filter : (p : ℕ × T → Bool) (rows : List (ℕ × T)) → Distinct rows → Distinct (filter p rows)
  distinct_filter p [] d = tt
  distinct_filter p (row ∷ rows) d = distinct_by row (filter p rows) (p row) (absent_filter p row.0 rows d.0) (distinct_filter p rows d.1)

  -- a key that a filter leaves was there
  pub in_filter : (p : ℕ × T → Bool) (key : ℕ) (rows : List (ℕ × T)) → is_some (item_at key (filter p rows)) ≡ true → is_some (item_at key rows) ≡ true
  in_filter p key [] there = there
  in_filter p key (row ∷ rows) there = by_place (cases_eq row.0 key) there (in_filter p key rows)
    where
      by_place : (row.0 ≡ key) ⊎ (row.0 ≢ key) → is_some (item_at key (filter p (row ∷ rows))) ≡ true → (is_some (item_at key (filter p rows)) ≡ true → is_some (item_at key rows) ≡ true) → is_some (item_at key (row ∷ rows)) ≡ true
      by_place (inl same) some rest = ap is_some (item_here key row rows same)
      by_place (inr apart) some rest =
          ap is_some (item_later key row rows apart) ∙ rest (ap is_some (sym (item_past key row (filter p rows) (p row) apart)) ∙ some)

  none_by : (q : T → Bool) (row : ℕ × T) (rows : List (ℕ × T)) (b : Bool) → Absent row.0 rows → item_at row.0 (cond b (row ∷ rows) rows) ≡ cond b (Some row.1) None
  none_by q row rows true a = item_here row.0 row rows refl
  none_by q row rows false a = item_absent row.0 rows a

  -- what a filter by items leaves under a key
  pub item_filter : (q : T → Bool) (key : ℕ) (item : T) (rows : List (ℕ × T)) → Distinct rows → item_at key rows ≡ Some item → item_at key (filter (λ row. q row.1) rows) ≡ cond (q item) (Some item) None
  item_filter q key item [] d is = absurd (cc)
  item_filter q key item (row ∷ rows) d is = by_place (cases_eq row.0 key) (item_filter q key item rows d.1)
    where
      by_place : (row.0 ≡ key) ⊎ (row.0 ≢ key) → (item_at key rows ≡ Some item → item_at key (filter (λ row. q row.1) rows) ≡ cond (q item) (Some item) None) → item_at key (filter (λ row. q row.1) (row ∷ rows)) ≡ cond (q item) (Some item) None
      by_place (inl same) rest =
          let there = sym (item_here key row rows same) ∙ is in
          let item_is : row.1 ≡ item = cc in
          subst (λ k. item_at k (filter (λ row. q row.1) (row ∷ rows)) ≡ cond (q item) (Some item) None) same
          (none_by q row (filter (λ row. q row.1) rows) (q row.1) (absent_filter (λ row. q row.1) row.0 rows d.0) ∙ ap (λ x. cond (q x) (Some x) None) item_is)
      by_place (inr apart) rest =
          item_past key row (filter (λ row. q row.1) rows) (q row.1) apart ∙ rest (sym (item_later key row rows apart) ∙ is)

  -- each row stands under its key
  more_items : (row : ℕ × T) (rows rest : List (ℕ × T)) → Absent row.0 rest → AllByRecursion (λ r. item_at r.0 rows ≡ Some r.1) rest → AllByRecursion (λ r. item_at r.0 (row ∷ rows) ≡ Some r.1) rest
  more_items row rows [] a all = tt
  more_items row rows (r ∷ rest) a all =
      (item_later r.0 row rows (λ e. a.0 (sym e)) ∙ all.0, more_items row rows rest a.1 all.1)

  pub own_items : (rows : List (ℕ × T)) → Distinct rows → AllByRecursion (λ r. item_at r.0 rows ≡ Some r.1) rows
  own_items [] d = tt
  own_items (row ∷ rows) d = (item_here row.0 row rows refl, more_items row rows rows d.0 (own_items rows d.1))

  -- ---- the rows without a key

  pub without_key : (key : ℕ) (rows : List (ℕ × T)) → Absent key (without key rows)
  without_key key [] = tt
  without_key key (row ∷ rows) = by_place (cases_eq row.0 key) (without_key key rows)
    where
      by_place : (row.0 ≡ key) ⊎ (row.0 ≢ key) → Absent key (without key rows) → Absent key (without key (row ∷ rows))
      by_place (inl same) rest = rw (eq-eqb row.0 key same) rest
      by_place (inr apart) rest = rw (ne_eqb row.0 key apart) (apart, rest)

  pub item_without : (key other : ℕ) (rows : List (ℕ × T)) → other ≢ key → item_at other (without key rows) ≡ item_at other rows
  item_without key other [] apart = refl
  item_without key other (row ∷ rows) apart = by_place (cases_eq row.0 other) (item_without key other rows apart)
    where
      by_place : (row.0 ≡ other) ⊎ (row.0 ≢ other) → item_at other (without key rows) ≡ item_at other rows → item_at other (without key (row ∷ rows)) ≡ item_at other (row ∷ rows)
      by_place (inl same) rest =
          ap (λ b. item_at other (cond (not b) (row ∷ without key rows) (without key rows))) (ne_eqb row.0 key (λ e. apart (sym same ∙ e)))
          ∙ item_here other row (without key rows) same ∙ sym (item_here other row rows same)
      by_place (inr differs) rest =
          item_past other row (without key rows) (not (eqb row.0 key)) differs ∙ rest ∙ sym (item_later other row rows differs)

  pub absent_none : (key : ℕ) (rows : List (ℕ × T)) → item_at key rows ≡ None → Absent key rows
  absent_none key [] none = tt
  absent_none key (row ∷ rows) none = by_place (cases_eq row.0 key) (absent_none key rows)
    where
      by_place : (row.0 ≡ key) ⊎ (row.0 ≢ key) → (item_at key rows ≡ None → Absent key rows) → Absent key (row ∷ rows)
      by_place (inl same) rest = absurd (let some = item_here key row rows same in cc)
      by_place (inr apart) rest = (apart, rest (sym (item_later key row rows apart) ∙ none))

  fewer_past : (key : ℕ) (row : ℕ × T) (rows : List (ℕ × T)) → row.0 ≢ key → length (without key rows) < length rows → length (without key (row ∷ rows)) < length rows + 1
  fewer_past key row rows apart few = rw (ne_eqb row.0 key apart) (omega (arith, few))

  pub without_fewer : (key : ℕ) (rows : List (ℕ × T)) → is_some (item_at key rows) ≡ true → length (without key rows) < length rows
  without_fewer key [] there = absurd (cc)
  without_fewer key (row ∷ rows) there = by_place (cases_eq row.0 key) (without_fewer key rows)
    where
      by_place : (row.0 ≡ key) ⊎ (row.0 ≢ key) → (is_some (item_at key rows) ≡ true → length (without key rows) < length rows) → length (without key (row ∷ rows)) < length (row ∷ rows)
      by_place (inl same) rest =
          let few = filter_fewer (λ (r : ℕ × T). not (eqb r.0 key)) rows in
          rw (eq-eqb row.0 key same) (omega (arith, few))
      by_place (inr apart) rest =
          let few = fewer_past key row rows apart (rest (ap is_some (sym (item_later key row rows apart)) ∙ there)) in
          omega (arith, few)

  pub without_length : (key : ℕ) (rows : List (ℕ × T)) → Distinct rows → is_some (item_at key rows) ≡ true → length (without key rows) + 1 ≡ length rows
  without_length key [] d there = absurd (cc)
  without_length key (row ∷ rows) d there = by_place (cases_eq row.0 key) (without_length key rows d.1)
    where
      by_place : (row.0 ≡ key) ⊎ (row.0 ≢ key) → (is_some (item_at key rows) ≡ true → length (without key rows) + 1 ≡ length rows) → length (without key (row ∷ rows)) + 1 ≡ length (row ∷ rows)
      by_place (inl same) more =
          let whole = ap length (without_absent key rows (subst (λ k. Absent k rows) same d.0)) in
          rw (eq-eqb row.0 key same) (omega (arith, whole))
      by_place (inr apart) more =
          let rest = more (ap is_some (sym (item_later key row rows apart)) ∙ there) in
          rw (ne_eqb row.0 key apart) (omega (arith, rest))

  -- where a row fails a test, nothing changes for it once the row is gone
  pub filter_without : (keep : T → Bool) (key : ℕ) (item : T) (rows : List (ℕ × T)) → Distinct rows → item_at key rows ≡ Some item → keep item ≡ false → filter (λ row. keep row.1) (without key rows) ≡ filter (λ row. keep row.1) rows
  filter_without keep key item [] d is fails = refl
  filter_without keep key item (row ∷ rows) d is fails = by_place (cases_eq row.0 key) (λ there. filter_without keep key item rows d.1 there fails)
    where
      by_place : (row.0 ≡ key) ⊎ (row.0 ≢ key) → (item_at key rows ≡ Some item → filter (λ row. keep row.1) (without key rows) ≡ filter (λ row. keep row.1) rows) → filter (λ row. keep row.1) (without key (row ∷ rows)) ≡ filter (λ row. keep row.1) (row ∷ rows)
      by_place (inl same) rest =
          let there = sym (item_here key row rows same) ∙ is in
          let item_is : row.1 ≡ item = cc in
          ap (λ b. filter (λ row. keep row.1) (cond (not b) (row ∷ without key rows) (without key rows))) (eq-eqb row.0 key same)
          ∙ ap (filter (λ row. keep row.1)) (without_absent key rows (subst (λ k. Absent k rows) same d.0))
          ∙ sym (ap (λ b. cond b (row ∷ filter (λ row. keep row.1) rows) (filter (λ row. keep row.1) rows)) (ap keep item_is ∙ fails))
      by_place (inr apart) rest =
          ap (λ b. filter (λ row. keep row.1) (cond (not b) (row ∷ without key rows) (without key rows))) (ne_eqb row.0 key apart)
          ∙ ap (λ l. cond (keep row.1) (row ∷ l) l) (rest (sym (item_later key row rows apart) ∙ is))

  -- what a filter by items has under a key, the rows have
  pub item_whole : (q : T → Bool) (key : ℕ) (item : T) (rows : List (ℕ × T)) → Distinct rows → item_at key (filter (λ row. q row.1) rows) ≡ Some item → item_at key rows ≡ Some item
  item_whole q key item rows d is = by_item (item_at key rows) refl
    where
      by_flag : (other : T) (b : Bool) → cond b (Some other) None ≡ Some item → Some other ≡ Some item
      by_flag other true same = same
      by_flag other false same = absurd (cc)

      by_item : (o : Option T) → item_at key rows ≡ o → item_at key rows ≡ Some item
      by_item None none = absurd (let some = in_filter (λ row. q row.1) key rows (ap is_some is) in let never = ap is_some none in cc)
      by_item (Some other) there = there ∙ by_flag other (q other) (sym (item_filter q key other rows d there) ∙ is)
