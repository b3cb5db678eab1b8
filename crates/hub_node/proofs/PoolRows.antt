-- What a push, an unlinking and a clearing do to the item of a key in a list.
use Rattle.std.proofs.Common.{◌≡◌, ◌≢◌, ◌⊎◌, ℕ, zero, suc, ◌<◌, Bool, true, false, cond, List, [], ◌∷◌, ◌++◌, length, map, filter, Option, Some, None, slice_set, refl, sym, ap, ◌∙◌, inl, inr, arith}
use Rattle.std.proofs.lemmas.Bool.{cases_eq, eq-eqb, ne_eqb}
use Rattle.link_pool.specs.Rows.{item_at}
use Rattle.link_pool.specs.Lists.{item_of, rows_of}

module _ {T : Type 0} where
  -- ---- one list

  here : (key : ℕ) (row : ℕ × T) (rows : List (ℕ × T)) → row.0 ≡ key → item_at key (row ∷ rows) ≡ Some row.1
  here key row rows same = rw (eq-eqb row.0 key same) refl

  past : (key : ℕ) (row : ℕ × T) (rows : List (ℕ × T)) → row.0 ≢ key → item_at key (row ∷ rows) ≡ item_at key rows
  past key row rows apart = rw (ne_eqb row.0 key apart) refl

  -- behind others
  pub item_last : (key : ℕ) (w : T) (rows : List (ℕ × T)) → item_at key rows ≡ None → item_at key (rows ++ (key, w) ∷ []) ≡ Some w
  item_last key w [] none = here key (key, w) [] refl
  item_last key w (row ∷ rows) none =
      elim (cases_eq row.0 key) [
        | inl same ↦ absurd (let some = here key row rows same in cc)
        | inr apart ↦ past key row (rows ++ (key, w) ∷ []) apart ∙ item_last key w rows (sym (past key row rows apart) ∙ none)
      ]

  pub item_other : (k key : ℕ) (w : T) (rows : List (ℕ × T)) → key ≢ k → item_at k (rows ++ (key, w) ∷ []) ≡ item_at k rows
  item_other k key w [] apart = past k (key, w) [] apart
  item_other k key w (row ∷ rows) apart =
      elim (cases_eq row.0 k) [
        | inl same ↦ here k row (rows ++ (key, w) ∷ []) same ∙ sym (here k row rows same)
        | inr other ↦ past k row (rows ++ (key, w) ∷ []) other ∙ item_other k key w rows apart ∙ sym (past k row rows other)
      ]

  -- rows that are left by a test of their keys
  kept_by : (k : ℕ) (row : ℕ × T) (left : List (ℕ × T)) (b : Bool) → row.0 ≢ k → item_at k (cond b (row ∷ left) left) ≡ item_at k left
  kept_by k row left true apart = past k row left apart
  kept_by k row left false apart = refl

  pub item_kept : (p : ℕ → Bool) (k : ℕ) (rows : List (ℕ × T)) → p k ≡ true → item_at k (filter (λ row. p row.0) rows) ≡ item_at k rows
  item_kept p k [] keeps = refl
  item_kept p k (row ∷ rows) keeps =
      elim (cases_eq row.0 k) [
        | inl same ↦
            let test : p row.0 ≡ true = ap p same ∙ keeps in
            rw test (here k row (filter (λ row. p row.0) rows) same ∙ sym (here k row rows same))
        | inr apart ↦ kept_by k row (filter (λ row. p row.0) rows) (p row.0) apart ∙ item_kept p k rows keeps ∙ sym (past k row rows apart)
      ]

  pub item_dropped : (p : ℕ → Bool) (k : ℕ) (rows : List (ℕ × T)) → p k ≡ false → item_at k (filter (λ row. p row.0) rows) ≡ None
  item_dropped p k [] drops = refl
  item_dropped p k (row ∷ rows) drops =
      elim (cases_eq row.0 k) [
        | inl same ↦
            let test : p row.0 ≡ false = ap p same ∙ drops in
            rw test (item_dropped p k rows drops)
        | inr apart ↦ kept_by k row (filter (λ row. p row.0) rows) (p row.0) apart ∙ item_dropped p k rows drops
      ]

  -- ---- all lists

  -- the item stands in the list
  abbrev pub Stands : ℕ → ℕ → T → List (List (ℕ × T)) → Type 0
  Stands list key w lists = item_at key (rows_of list lists) ≡ Some w

  pub rows_mapped : (f : List (ℕ × T) → List (ℕ × T)) (list : ℕ) (lists : List (List (ℕ × T))) → f [] ≡ [] → rows_of list (map f lists) ≡ f (rows_of list lists)
  rows_mapped f list [] none = sym none
  rows_mapped f zero (rows ∷ lists) none = refl
  rows_mapped f (suc list) (rows ∷ lists) none = rows_mapped f list lists none

  pub rows_set : (list : ℕ) (rows : List (ℕ × T)) (lists : List (List (ℕ × T))) → list < length lists → rows_of list (slice_set lists list rows) ≡ rows
  rows_set list rows [] inside = absurd (omega (arith, inside))
  rows_set zero rows (first ∷ lists) inside = refl
  rows_set (suc list) rows (first ∷ lists) inside = rows_set list rows lists (omega arith)

  pub rows_unset : (list other : ℕ) (rows : List (ℕ × T)) (lists : List (List (ℕ × T))) → list ≢ other → rows_of other (slice_set lists list rows) ≡ rows_of other lists
  rows_unset list other rows [] apart = refl
  rows_unset zero zero rows (first ∷ lists) apart = absurd (apart refl)
  rows_unset zero (suc other) rows (first ∷ lists) apart = refl
  rows_unset (suc list) zero rows (first ∷ lists) apart = refl
  rows_unset (suc list) (suc other) rows (first ∷ lists) apart = rows_unset list other rows lists (λ e. apart (ap suc e))

  -- an item that is there stands in some list
  pub record Somewhere (key : ℕ) (w : T) (lists : List (List (ℕ × T))) : Type 0 where
    pub list : ℕ
    pub stands : Stands list key w lists

  pub option_cases : (o : Option T) → (o ≡ None) ⊎ ((x : T) × (o ≡ Some x))
  option_cases None = inl refl
  option_cases (Some x) = inr (x, refl)

  first_is : (key : ℕ) (x : T) (rows : List (ℕ × T)) (lists : List (List (ℕ × T))) → item_at key rows ≡ Some x → item_of key (rows ∷ lists) ≡ Some x
  first_is key x rows lists first = rw first refl

  first_isnt : (key : ℕ) (rows : List (ℕ × T)) (lists : List (List (ℕ × T))) → item_at key rows ≡ None → item_of key (rows ∷ lists) ≡ item_of key lists
  first_isnt key rows lists none = rw none refl

  pub somewhere : (key : ℕ) (w : T) (lists : List (List (ℕ × T))) → item_of key lists ≡ Some w → Somewhere key w lists
  somewhere key w [] is = absurd (cc)
  somewhere key w (rows ∷ lists) is =
      elim (option_cases (item_at key rows)) [
        | inr some ↦ record { list = zero; stands = some.1 ∙ sym (first_is key some.0 rows lists some.1) ∙ is }
        | inl none ↦
            let s = somewhere key w lists (sym (first_isnt key rows lists none) ∙ is) in
            record { list = suc s.list; stands = s.stands }
      ]

  -- and one that stands in a list, and nowhere another one under its key, is there
  pub there : (list key : ℕ) (w : T) (lists : List (List (ℕ × T))) → Stands list key w lists → ((other : ℕ) (x : T) → Stands other key x lists → x ≡ w) → item_of key lists ≡ Some w
  there list key w [] stands one = absurd (cc)
  there zero key w (rows ∷ lists) stands one = first_is key w rows lists stands
  there (suc list) key w (rows ∷ lists) stands one =
      elim (option_cases (item_at key rows)) [
        | inr some ↦ first_is key some.0 rows lists some.1 ∙ ap Some (one zero some.0 some.1)
        | inl none ↦ first_isnt key rows lists none ∙ there list key w lists stands (λ other x at. one (suc other) x at)
      ]

  pub nowhere : (key : ℕ) (lists : List (List (ℕ × T))) → item_of key lists ≡ None → (list : ℕ) → item_at key (rows_of list lists) ≡ None
  nowhere key [] none list = refl
  nowhere key (rows ∷ lists) none zero =
      elim (option_cases (item_at key rows)) [
        | inr some ↦ absurd (let first = first_is key some.0 rows lists some.1 in cc)
        | inl first ↦ first
      ]
  nowhere key (rows ∷ lists) none (suc list) =
      elim (option_cases (item_at key rows)) [
        | inr some ↦ absurd (let first = first_is key some.0 rows lists some.1 in cc)
        | inl first ↦ nowhere key lists (sym (first_isnt key rows lists first) ∙ none) list
      ]
