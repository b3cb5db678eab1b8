-- How a list is walked from its first item to its last.
use Rattle.std.proofs.Common.{◌≡◌, ℕ, ◌<◌, Bool, true, false, cond, nat_eq, List, [], ◌∷◌, ◌++◌, length, Option, Some, None, refl, sym, ap, subst, ◌∙◌, arith}
use Rattle.std.specs.List.{AllByRecursion}
use Rattle.std.specs.Option.{option_or}
use Rattle.std.proofs.lemmas.Bool.{both_ways, eq-eqb, false_from_ne_true, ne_eqb}
use Rattle.std.proofs.lemmas.List.{append-nil, append_assoc}
use Rattle.link_pool.specs.Rows.{Absent, Distinct, first_key, item_at, key_after}
use Rattle.link_pool.specs.Lists.{IsWhole, item_of, rows_of}
use Rattle.link_pool.proofs.Rowed.{after_split, distinct_absent, distinct_back, item_split}
use Rattle.block_store.specs.Filed.{rows_for}
use Rattle.block_store.specs.Walks.{last_key, newer, passes, rows_from}
use Rattle.block_store.specs.declared.block.Block.{Block}
use Rattle.block_store.proofs.Spare.{empty_by}

-- ---- the last one that passes

or_newer : (b : Bool) (key : ℕ) (found last : Option ℕ) → option_or (newer b key found) last ≡ newer b key (option_or found last)
or_newer true key found last = refl
or_newer false key found last = refl

or_nothing : (o : Option ℕ) → option_or o None ≡ o
or_nothing None = refl
or_nothing (Some key) = refl

last_push : (test : Block → Bool) (rows : List (ℕ × Block)) (row : ℕ × Block) → last_key test (rows ++ row ∷ []) ≡ newer (test row.1) row.0 (last_key test rows)
last_push test [] row = refl
last_push test (first ∷ rows) row =
    ap (λ o. option_or o (newer (test first.1) first.0 None)) (last_push test rows row)
    ∙ or_newer (test row.1) row.0 (last_key test rows) (newer (test first.1) first.0 None)

last_none : (test : Block → Bool) (row : ℕ × Block) (o : Option ℕ) (b : Bool) → option_or o (newer b row.0 None) ≡ None → (o ≡ None) × (b ≡ false)
last_none test row None true is = absurd (cc)
last_none test row None false is = (refl, refl)
last_none test row (Some key) b is = absurd (cc)

pub none_passes : (test : Block → Bool) (rows : List (ℕ × Block)) → last_key test rows ≡ None → AllByRecursion (λ row. test row.1 ≡ false) rows
none_passes test [] none = tt
none_passes test (row ∷ rows) none =
    let parts = last_none test row (last_key test rows) (test row.1) none in
    (parts.1, none_passes test rows parts.0)

-- the rows before and behind the last that passes
pub record LastOf (test : Block → Bool) (key : ℕ) (rows : List (ℕ × Block)) : Type 0 where
  pub front : List (ℕ × Block)
  pub block : Block
  pub back : List (ℕ × Block)
  pub is : rows ≡ front ++ (key, block) ∷ back
  pub passes : test block ≡ true
  pub later : AllByRecursion (λ row. test row.1 ≡ false) back

last_by : (test : Block → Bool) (key : ℕ) (row : ℕ × Block) (rows : List (ℕ × Block)) (o : Option ℕ) (b : Bool) → last_key test rows ≡ o → test row.1 ≡ b → option_or o (newer b row.0 None) ≡ Some key → (last_key test rows ≡ Some key → LastOf test key rows) → LastOf test key (row ∷ rows)
last_by test key row rows (Some other) b o_is b_is is rest =
    let l = rest (o_is ∙ is) in
    record { front = row ∷ l.front; block = l.block; back = l.back; is = ap (λ rs. row ∷ rs) l.is; passes = l.passes; later = l.later }
last_by test key row rows None true o_is b_is is rest =
    let same : row.0 ≡ key = cc in
    record { front = []; block = row.1; back = rows; is = ap {A = ℕ} (λ k. (k, row.1) ∷ rows) same; passes = b_is; later = none_passes test rows o_is }
last_by test key row rows None false o_is b_is is rest = absurd (cc)

pub last_of : (test : Block → Bool) (key : ℕ) (rows : List (ℕ × Block)) → last_key test rows ≡ Some key → LastOf test key rows
last_of test key [] is = absurd (cc)
last_of test key (row ∷ rows) is = last_by test key row rows (last_key test rows) (test row.1) refl refl is (last_of test key rows)

own_by : (test : Block → Bool) (process : ℕ) (row : ℕ × Block) (rows own : List (ℕ × Block)) (b : Bool) → nat_eq row.1.process process ≡ b → (test row.1 ≡ true → nat_eq row.1.process process ≡ true) → last_key test own ≡ last_key test rows → last_key test (cond b (row ∷ own) own) ≡ last_key test (row ∷ rows)
own_by test process row rows own true is of_it same = ap (λ o. option_or o (newer (test row.1) row.0 None)) same
own_by test process row rows own false is of_it same =
    let fails : test row.1 ≡ false = false_from_ne_true (test row.1) (λ passing. both_ways (nat_eq row.1.process process) is (of_it passing)) in
    same ∙ sym (ap (λ b. option_or (last_key test rows) (newer b row.0 None)) fails ∙ or_nothing (last_key test rows))

-- where only blocks of a process pass, the last that passes is the last of its own
pub last_own : (test : Block → Bool) (process : ℕ) → ((block : Block) → test block ≡ true → nat_eq block.process process ≡ true) → (rows : List (ℕ × Block)) → last_key test (rows_for process rows) ≡ last_key test rows
last_own test process of_it [] = refl
last_own test process of_it (row ∷ rows) =
    own_by test process row rows (rows_for process rows) (nat_eq row.1.process process) refl (of_it row.1) (last_own test process of_it rows)

-- ---- a walk

-- the row at which it is
pub record AtRow (key : ℕ) (rows front rest : List (ℕ × Block)) : Type 0 where
  pub block : Block
  pub left : List (ℕ × Block)
  pub rest_is : rest ≡ (key, block) ∷ left
  pub is : rows ≡ front ++ (key, block) ∷ left
  pub first_one : Absent key front
  pub later : Absent key left
  pub there : item_at key rows ≡ Some block
  pub after : key_after key rows ≡ first_key left
  pub further : rows ≡ (front ++ (key, block) ∷ []) ++ left

at_row_by : (key : ℕ) (rows front : List (ℕ × Block)) (block : Block) (left : List (ℕ × Block)) → Distinct rows → rows ≡ front ++ (key, block) ∷ left → AtRow key rows front ((key, block) ∷ left)
at_row_by key rows front block left d is =
    let apart : Distinct (front ++ (key, block) ∷ left) = subst Distinct is d in
    let first_one = distinct_absent front (key, block) left apart in
    record {
      block = block;
      left = left;
      rest_is = refl;
      is = is;
      first_one = first_one;
      later = (distinct_back front ((key, block) ∷ left) apart).0;
      there = ap (item_at key) is ∙ item_split key front block left first_one;
      after = ap (key_after key) is ∙ after_split key front block left first_one;
      further = is ∙ sym (append_assoc front ((key, block) ∷ []) left);
    }

pub at_row : (key : ℕ) (rows front rest : List (ℕ × Block)) → Distinct rows → rows ≡ front ++ rest → Some key ≡ first_key rest → AtRow key rows front rest
at_row key rows front [] d is next = absurd (cc)
at_row key rows front (row ∷ left) d is next =
    let same : row.0 ≡ key = cc in
    let row_is : row ∷ left ≡ (key, row.1) ∷ left = ap {A = ℕ} (λ k. (k, row.1) ∷ left) same in
    subst (AtRow key rows front) (sym row_is) (at_row_by key rows front row.1 left d (is ∙ ap (λ rest. front ++ rest) row_is))

from_by : (key : ℕ) (block : Block) (front left : List (ℕ × Block)) → Absent key front → rows_from (Some key) (front ++ (key, block) ∷ left) ≡ (key, block) ∷ left
from_by key block [] left a = rw (eq-eqb key key refl) refl
from_by key block (row ∷ front) left a = rw (ne_eqb row.0 key a.0) (from_by key block front left a.1)

from_rest : (front rest : List (ℕ × Block)) → Distinct (front ++ rest) → rows_from (first_key rest) (front ++ rest) ≡ rest
from_rest front [] d = refl
from_rest front (row ∷ rest) d = from_by row.0 row.1 front rest (distinct_absent front row rest d)

-- the rows from where it is
pub from_at : (at : Option ℕ) (rows front rest : List (ℕ × Block)) → Distinct rows → rows ≡ front ++ rest → at ≡ first_key rest → rows_from at rows ≡ rest
from_at at rows front rest d is next =
    ap (λ a. rows_from a rows) next ∙ ap (rows_from (first_key rest)) is ∙ from_rest front rest (subst Distinct is d)

-- ---- a walk that looks for the last that passes

pub record Looks (test : Block → Bool) (at found : Option ℕ) (rows : List (ℕ × Block)) : Type 0 where
  pub front : List (ℕ × Block)
  pub rest : List (ℕ × Block)
  pub is : rows ≡ front ++ rest
  pub next : at ≡ first_key rest
  pub so_far : found ≡ last_key test front

pub looks_start : (test : Block → Bool) (at : Option ℕ) (rows : List (ℕ × Block)) → at ≡ first_key rows → Looks test at None rows
looks_start test at rows is = record { front = []; rest = rows; is = refl; next = is; so_far = refl }

pub looks_next : (test : Block → Bool) (at found after now : Option ℕ) (key : ℕ) (b : Bool) (lists : List (List (ℕ × Block))) (list : ℕ) → Looks test at found (rows_of list lists) → at ≡ Some key → IsWhole lists → b ≡ passes test (item_of key lists) → now ≡ newer b key found → after ≡ key_after key (rows_of list lists) → Looks test after now (rows_of list lists)
looks_next test at found after now key b lists list l at_is whole passes_is now_is after_is =
    let r = at_row key (rows_of list lists) l.front l.rest (whole.distinct list) l.is (sym at_is ∙ l.next) in
    let item_is : item_of key lists ≡ Some r.block = whole.same list key r.block r.there in
    record {
      front = l.front ++ (key, r.block) ∷ [];
      rest = r.left;
      is = r.further;
      next = after_is ∙ r.after;
      so_far = now_is ∙ ap (λ b. newer b key found) (passes_is ∙ ap (passes test) item_is) ∙ ap (newer (test r.block) key) l.so_far
          ∙ sym (last_push test l.front (key, r.block));
    }

pub looks_end : (test : Block → Bool) (at found : Option ℕ) (rows : List (ℕ × Block)) → Looks test at found rows → at ≡ None → found ≡ last_key test rows
looks_end test at found rows l none =
    let nothing : l.rest ≡ [] = empty_by l.rest (sym none ∙ l.next) in
    l.so_far ∙ ap (last_key test) (sym (l.is ∙ ap (λ rest. l.front ++ rest) nothing ∙ append-nil l.front))

pub looks_less : (test : Block → Bool) (at found after : Option ℕ) (key : ℕ) (lists : List (List (ℕ × Block))) (list : ℕ) → Looks test at found (rows_of list lists) → at ≡ Some key → IsWhole lists → after ≡ key_after key (rows_of list lists) → length (rows_from after (rows_of list lists)) < length (rows_from at (rows_of list lists))
looks_less test at found after key lists list l at_is whole after_is =
    let r = at_row key (rows_of list lists) l.front l.rest (whole.distinct list) l.is (sym at_is ∙ l.next) in
    let was = ap length (from_at at (rows_of list lists) l.front l.rest (whole.distinct list) l.is l.next ∙ r.rest_is) in
    let now = ap length (from_at after (rows_of list lists) (l.front ++ (key, r.block) ∷ []) r.left (whole.distinct list) r.further (after_is ∙ r.after)) in
    omega (arith, was, now)
