-- The list of a process is found, and of the 65 one is empty while there are at most 64 blocks.
use Rattle.std.proofs.Common.{◌≡◌, ℕ, zero, suc, ◌<◌, ◌≤◌, Bool, true, false, not, nat_eq, List, [], ◌∷◌, length, Option, Some, None, is_some, refl, sym, ap, subst, ◌∙◌, inl, inr, arith}
use Rattle.std.proofs.lemmas.Bool.{both_ways, eqb-true}
use Rattle.link_pool.specs.Rows.{first_key, item_at, without}
use Rattle.link_pool.specs.Lists.{IsWhole, item_of, rows_of}
use Rattle.block_store.specs.Filed.{IsIn, owned, rows_for}
use Rattle.block_store.specs.Owners.{HasOwners, IsListOf, is_owner, owner_of}
use Rattle.block_store.specs.declared.block.Block.{Block}
use Rattle.block_store.proofs.Rows.{first_passes, in_filter, item_here, item_without, without_fewer}

-- ---- the list of a process

abbrev HasRows : List (List (ℕ × Block)) → ℕ → ℕ → Type 0
HasRows lists process list = rows_of list lists ≡ rows_for process (rows_of 0 lists)

found_by : (lists : List (List (ℕ × Block))) (process list : ℕ) (rows : List (ℕ × Block)) (owner : Option ℕ) → rows_of list lists ≡ rows → rows_of list lists ≡ owned owner (rows_of 0 lists) → is_owner process (owner_of rows) ≡ true → HasRows lists process list
found_by lists process list [] owner rows_are is of_it = absurd (cc)
found_by lists process list (row ∷ rows) None rows_are is of_it = absurd (let none : [] ≡ row ∷ rows = sym is ∙ rows_are in cc)
found_by lists process list (row ∷ rows) (Some other) rows_are is of_it =
    let first : row.1.process ≡ other = eqb-true row.1.process other (first_passes (λ row. nat_eq row.1.process other) (rows_of 0 lists) row rows (sym is ∙ rows_are)) in
    is ∙ ap (λ p. rows_for p (rows_of 0 lists)) (sym first ∙ eqb-true row.1.process process of_it)

pub list_found : (lists : List (List (ℕ × Block))) (process list : ℕ) → HasOwners lists → 0 < list → list < 66 → is_owner process (owner_of (rows_of list lists)) ≡ true → IsListOf process list lists
list_found lists process list h inside below of_it = record {
  first = inside;
  last = below;
  rows = found_by lists process list (rows_of list lists) (h.each list inside).0 refl (h.each list inside).1 of_it;
}

no_rows : (lists : List (List (ℕ × Block))) (process list : ℕ) (rows : List (ℕ × Block)) → IsListOf process list lists → rows_for process (rows_of 0 lists) ≡ rows → is_owner process (owner_of (rows_of list lists)) ≡ false → rows ≡ []
no_rows lists process list [] l is apart = refl
no_rows lists process list (row ∷ rows) l is apart =
    let passes : nat_eq row.1.process process ≡ true = first_passes (λ row. nat_eq row.1.process process) (rows_of 0 lists) row rows is in
    let fails : nat_eq row.1.process process ≡ false = sym (ap (λ rs. is_owner process (owner_of rs)) (l.rows ∙ is)) ∙ apart in
    absurd (both_ways (nat_eq row.1.process process) fails passes)

pub list_none : (lists : List (List (ℕ × Block))) (process : ℕ) → HasOwners lists → ((list : ℕ) → 0 < list → list < 66 → is_owner process (owner_of (rows_of list lists)) ≡ false) → rows_for process (rows_of 0 lists) ≡ []
list_none lists process h none =
    elim (h.placed process) [
      | inl nothing ↦ nothing
      | inr l ↦ no_rows lists process l.0 (rows_for process (rows_of 0 lists)) l.1 refl (none l.0 l.1.first l.1.last)
    ]

-- ---- an empty one

-- where so many different keys stand, there are no fewer rows
as_many : (key : ℕ → ℕ) (n : ℕ) (rows : List (ℕ × Block)) → ((i : ℕ) → i < n → is_some (item_at (key i) rows) ≡ true) → ((i j : ℕ) → i < n → j < n → key i ≡ key j → i ≡ j) → n ≤ length rows
as_many key zero rows there differ = omega arith
as_many key (suc n) rows there differ =
    let fewer = without_fewer (key n) rows (there n (omega arith)) in
    let rest = as_many key n (without (key n) rows)
    (λ i below. ap is_some (item_without (key n) (key i) rows (λ e. absurd (omega (arith, differ i n (omega arith) (omega arith) e, below)))) ∙ there i (omega arith))
    (λ i j first second. differ i j (omega arith) (omega arith)) in
    omega (arith, fewer, rest)

abbrev first_or : List (ℕ × Block) → ℕ
first_or [] = 0
first_or (row ∷ rows) = row.0

first_in : (rows : List (ℕ × Block)) → is_some (first_key rows) ≡ true → is_some (item_at (first_or rows) rows) ≡ true
first_in [] some = absurd (cc)
first_in (row ∷ rows) some = ap is_some (item_here row.0 row rows refl)

-- what stands in any list stands in list 0
pub in_first : (lists : List (List (ℕ × Block))) (list key : ℕ) (owner : Option ℕ) → rows_of list lists ≡ owned owner (rows_of 0 lists) → IsIn key list lists → IsIn key 0 lists
in_first lists list key None is there = absurd (let none = ap (λ rows. is_some (item_at key rows)) is in cc)
in_first lists list key (Some process) is there =
    in_filter (λ row. nat_eq row.1.process process) key (rows_of 0 lists) (ap (λ rows. is_some (item_at key rows)) (sym is) ∙ there)

pub never_full : (lists : List (List (ℕ × Block))) → HasOwners lists → length (rows_of 0 lists) ≤ 64 → ((list : ℕ) → 0 < list → list < 66 → is_some (first_key (rows_of list lists)) ≡ true) → ⊥
never_full lists h few full = absurd (omega (arith, few, as_many (λ i. first_or (rows_of (suc i) lists)) 65 (rows_of 0 lists) there differ))
  where
    here : (i : ℕ) → i < 65 → IsIn (first_or (rows_of (suc i) lists)) (suc i) lists
    here i below = first_in (rows_of (suc i) lists) (full (suc i) (omega arith) (omega arith))

    there : (i : ℕ) → i < 65 → is_some (item_at (first_or (rows_of (suc i) lists)) (rows_of 0 lists)) ≡ true
    there i below = in_first lists (suc i) (first_or (rows_of (suc i) lists)) (h.each (suc i) (omega arith)).0 (h.each (suc i) (omega arith)).1 (here i below)

    differ : (i j : ℕ) → i < 65 → j < 65 → first_or (rows_of (suc i) lists) ≡ first_or (rows_of (suc j) lists) → i ≡ j
    differ i j first second same =
        let also : IsIn (first_or (rows_of (suc i) lists)) (suc j) lists = subst (λ k. IsIn k (suc j) lists) (sym same) (here j second) in
        let lists_are = h.once (suc i) (suc j) (first_or (rows_of (suc i) lists)) (omega arith) (omega arith) (here i first) also in
        omega (arith, lists_are)

pub empty_by : (rows : List (ℕ × Block)) → None ≡ first_key rows → rows ≡ []
empty_by [] none = refl
empty_by (row ∷ rows) none = absurd (cc)

pub free_is : (lists : List (List (ℕ × Block))) (process list : ℕ) → 0 < list → list < 66 → rows_of list lists ≡ [] → rows_for process (rows_of 0 lists) ≡ [] → IsListOf process list lists
free_is lists process list inside below empty none = record { first = inside; last = below; rows = empty ∙ sym none }

-- the first key of a list has an item
pub no_item : {A : Type 0} (list : ℕ) (lists : List (List (ℕ × Block))) (key : ℕ) → IsWhole lists → Some key ≡ first_key (rows_of list lists) → None ≡ item_of key lists → A
no_item {A = A} list lists key whole first none = by_rows (rows_of list lists) refl first
  where
    by_rows : (rows : List (ℕ × Block)) → rows_of list lists ≡ rows → Some key ≡ first_key rows → A
    by_rows [] is first = absurd (cc)
    by_rows (row ∷ rows) is first =
        let same : row.0 ≡ key = cc in
        let there = whole.same list key row.1 (ap (item_at key) is ∙ item_here key row rows same) in
        absurd (cc)

pub empty_none : (rows : List (ℕ × Block)) (first : Option ℕ) (none : Bool) → first ≡ first_key rows → is_some first ≡ not none → none ≡ true → rows ≡ []
empty_none [] first none is some never = refl
empty_none (row ∷ rows) first none is some never = absurd (let there = ap is_some is in let gone = some ∙ ap not never in cc)

pub none_by_cases : (at : Option ℕ) → ((key : ℕ) → at ≡ Some key → ⊥) → at ≡ None
none_by_cases None other = refl
none_by_cases (Some key) other = absurd (other key refl)
