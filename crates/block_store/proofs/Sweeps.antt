-- How the blocks with a byte of a range are taken out of a list.
use Rattle.std.proofs.Common.{◌≡◌, ℕ, ◌+◌, ◌<◌, ◌≤◌, Bool, true, false, cond, not, eqb, nat_eq, List, [], ◌∷◌, ◌++◌, length, filter, Option, Some, None, is_some, refl, sym, ap, subst, ◌∙◌, arith}
use Rattle.std.specs.List.{AllByRecursion}
use Rattle.std.proofs.lemmas.Bool.{both_ways, false_from_ne_true, not_from_false, not_from_true}
use Rattle.std.proofs.lemmas.List.{append-nil, length-map}
use Rattle.list_laws.proofs.AllLists.{all_push, all_then}
use Rattle.link_pool.specs.Value.{PoolValue}
use Rattle.link_pool.specs.Rows.{Distinct, first_key, item_at, key_after, without}
use Rattle.link_pool.specs.Lists.{IsWhole, item_of, rows_of, unlinked}
use Rattle.link_pool.proofs.Rowed.{without_split}
use Rattle.link_pool.proofs.Unlinking.{unlinked_rows}
use Rattle.block_store.specs.Filed.{rows_for}
use Rattle.block_store.specs.Owners.{HasOwners, IsListOf, lists_left_by}
use Rattle.block_store.specs.Walks.{key_if, passes, rows_from}
use Rattle.block_store.specs.declared.block.Block.{Block}
use Rattle.block_store.proofs.Rows.{distinct_filter, filter_fewer, filter_whole, filter_without, item_whole, without_length}
use Rattle.block_store.proofs.Owned.{list_filtered, owners_filtered}
use Rattle.block_store.proofs.Spare.{empty_by}
use Rattle.block_store.proofs.Walked.{AtRow, at_row, from_at}

-- what was passed so far fails the test, and only what passes it is gone
pub record Sweeps (test : Block → Bool) (process list : ℕ) (at : Option ℕ) (start now : PoolValue Block) : Type 0 where
  pub owners : HasOwners now.lists
  pub listed : IsListOf process list now.lists
  pub left : filter (λ row. not (test row.1)) (rows_of 0 now.lists) ≡ filter (λ row. not (test row.1)) (rows_of 0 start.lists)
  pub front : List (ℕ × Block)
  pub rest : List (ℕ × Block)
  pub is : rows_of list now.lists ≡ front ++ rest
  pub next : at ≡ first_key rest
  pub clean : AllByRecursion (λ row. test row.1 ≡ false) front
  pub room : now.room + length (rows_of 0 now.lists) ≡ start.room + length (rows_of 0 start.lists)

pub sweeps_start : (test : Block → Bool) (process list : ℕ) (at : Option ℕ) (start : PoolValue Block) → HasOwners start.lists → IsListOf process list start.lists → at ≡ first_key (rows_of list start.lists) → Sweeps test process list at start start
sweeps_start test process list at start h l is = record {
  owners = h;
  listed = l;
  left = refl;
  front = [];
  rest = rows_of list start.lists;
  is = refl;
  next = is;
  clean = tt;
  room = refl;
}

unlinked_many : (key : ℕ) (lists : List (List (ℕ × Block))) → length (unlinked key lists) ≡ length lists
unlinked_many key lists = length-map lists (without key)

module _ (test : Block → Bool) (process list : ℕ) (at after : Option ℕ) (start now next : PoolValue Block) (key : ℕ) (s : Sweeps test process list at start now) (whole : IsWhole now.lists) (at_is : at ≡ Some key) (after_is : after ≡ key_after key (rows_of list now.lists)) where
  r : AtRow key (rows_of list now.lists) s.front s.rest
  r = at_row key (rows_of list now.lists) s.front s.rest (whole.distinct list) s.is (sym at_is ∙ s.next)

  item_is : item_of key now.lists ≡ Some r.block
  item_is = whole.same list key r.block r.there

  in_all : item_at key (rows_of 0 now.lists) ≡ Some r.block
  in_all = item_whole (λ block. nat_eq block.process process) key r.block (rows_of 0 now.lists) s.owners.distinct (ap (item_at key) (sym s.listed.rows) ∙ r.there)

  -- the block stays
  stays : test r.block ≡ false → next.lists ≡ now.lists → next.room ≡ now.room → Sweeps test process list after start next
  stays fails lists_are room_is = record {
    owners = subst HasOwners (sym lists_are) s.owners;
    listed = subst (IsListOf process list) (sym lists_are) s.listed;
    left = ap (λ ls. filter (λ row. not (test row.1)) (rows_of 0 ls)) lists_are ∙ s.left;
    front = s.front ++ (key, r.block) ∷ [];
    rest = r.left;
    is = ap (rows_of list) lists_are ∙ r.further;
    next = after_is ∙ r.after;
    clean = all_push (λ row. test row.1 ≡ false) s.front (key, r.block) s.clean fails;
    room = let room = s.room in let many = ap (λ ls. length (rows_of 0 ls)) lists_are in omega (arith, room, room_is, many);
  }

  rows_are : next.lists ≡ unlinked key now.lists → (j : ℕ) → rows_of j next.lists ≡ without key (rows_of j now.lists)
  rows_are lists_are j = ap (rows_of j) lists_are ∙ unlinked_rows key j now.lists

  -- it goes
  goes : test r.block ≡ true → next.lists ≡ unlinked key now.lists → next.room ≡ now.room + 1 → Sweeps test process list after start next
  goes passing lists_are room_is = record {
    owners = owners_filtered (λ row. not (eqb row.0 key)) now.lists next.lists s.owners (ap length lists_are ∙ unlinked_many key now.lists) (rows_are lists_are);
    listed = list_filtered (λ row. not (eqb row.0 key)) now.lists next.lists process list (rows_are lists_are) s.listed;
    left = ap (filter (λ row. not (test row.1))) (rows_are lists_are 0)
        ∙ filter_without (λ block. not (test block)) key r.block (rows_of 0 now.lists) s.owners.distinct in_all (not_from_true (test r.block) passing) ∙ s.left;
    front = s.front;
    rest = r.left;
    is = rows_are lists_are list ∙ ap (without key) r.is ∙ without_split key s.front r.block r.left r.first_one r.later;
    next = after_is ∙ r.after;
    clean = s.clean;
    room =
        let room = s.room in
        let fewer = without_length key (rows_of 0 now.lists) s.owners.distinct (ap is_some in_all) in
        let many = ap length (rows_are lists_are 0) in
        omega (arith, room, room_is, fewer, many);
  }

  by_test : (b : Bool) → test r.block ≡ b → next.lists ≡ lists_left_by (key_if b key) now.lists → next.room ≡ now.room + cond b 1 0 → Sweeps test process list after start next
  by_test true passing lists_are room_is = goes passing lists_are room_is
  by_test false fails lists_are room_is = stays fails lists_are (let same = room_is in omega (arith, same))

  passes_is : passes test (item_of key now.lists) ≡ test r.block
  passes_is = ap (passes test) item_is

  pub sweeps_next : (gone : Bool) → gone ≡ passes test (item_of key now.lists) → next.lists ≡ lists_left_by (key_if gone key) now.lists → next.room ≡ now.room + cond gone 1 0 → Sweeps test process list after start next
  sweeps_next gone gone_is lists_are room_is = by_test gone (sym (gone_is ∙ passes_is)) lists_are room_is

  -- and there is less left to walk
  pub sweeps_less : Sweeps test process list after start next → (gone : Bool) → next.lists ≡ lists_left_by (key_if gone key) now.lists → length (rows_from after (rows_of list next.lists)) < length (rows_from at (rows_of list now.lists))
  sweeps_less then gone lists_are = less_by gone lists_are
    where
      was : length (rows_from at (rows_of list now.lists)) ≡ length r.left + 1
      was = let before = ap length (from_at at (rows_of list now.lists) s.front s.rest (whole.distinct list) s.is s.next ∙ r.rest_is) in omega (arith, before)

      now_rows : (front : List (ℕ × Block)) → rows_of list next.lists ≡ front ++ r.left → length (rows_from after (rows_of list next.lists)) < length (rows_from at (rows_of list now.lists))
      now_rows front is =
          let apart : Distinct (rows_of list next.lists) = subst Distinct (sym then.listed.rows) (distinct_filter (λ row. nat_eq row.1.process process) (rows_of 0 next.lists) then.owners.distinct) in
          let behind = ap length (from_at after (rows_of list next.lists) front r.left apart is (after_is ∙ r.after)) in
          omega (arith, was, behind)

      less_by : (b : Bool) → next.lists ≡ lists_left_by (key_if b key) now.lists → length (rows_from after (rows_of list next.lists)) < length (rows_from at (rows_of list now.lists))
      less_by true is = now_rows s.front (rows_are is list ∙ ap (without key) r.is ∙ without_split key s.front r.block r.left r.first_one r.later)
      less_by false is = now_rows (s.front ++ (key, r.block) ∷ []) (ap (rows_of list) is ∙ r.further)

-- what fails among the blocks of the process fails everywhere, where only they can pass
fails_all : (test : Block → Bool) (process : ℕ) → ((block : Block) → test block ≡ true → nat_eq block.process process ≡ true) → (rows : List (ℕ × Block)) → AllByRecursion (λ row. test row.1 ≡ false) (rows_for process rows) → AllByRecursion (λ row. test row.1 ≡ false) rows
fails_all test process of_it [] all = tt
fails_all test process of_it (row ∷ rows) all = by_flag (nat_eq row.1.process process) refl (fails_all test process of_it rows) all
  where
    by_flag : (b : Bool) → nat_eq row.1.process process ≡ b → (AllByRecursion (λ row. test row.1 ≡ false) (rows_for process rows) → AllByRecursion (λ row. test row.1 ≡ false) rows) → AllByRecursion (λ row. test row.1 ≡ false) (cond b (row ∷ rows_for process rows) (rows_for process rows)) → AllByRecursion (λ row. test row.1 ≡ false) (row ∷ rows)
    by_flag true is rest all = (all.0, rest all.1)
    by_flag false is rest all =
        (false_from_ne_true (test row.1) (λ passing. both_ways (nat_eq row.1.process process) is (of_it row.1 passing)), rest all)

pub sweeps_end : (test : Block → Bool) (process list : ℕ) (at : Option ℕ) (start now : PoolValue Block) → ((block : Block) → test block ≡ true → nat_eq block.process process ≡ true) → Sweeps test process list at start now → at ≡ None → rows_of 0 now.lists ≡ filter (λ row. not (test row.1)) (rows_of 0 start.lists)
sweeps_end test process list at start now of_it s none =
    let nothing : s.rest ≡ [] = empty_by s.rest (sym none ∙ s.next) in
    let front_is : s.front ≡ rows_for process (rows_of 0 now.lists) = sym (append-nil s.front) ∙ sym (s.is ∙ ap (λ rest. s.front ++ rest) nothing) ∙ s.listed.rows in
    let all = fails_all test process of_it (rows_of 0 now.lists) (subst (AllByRecursion (λ row. test row.1 ≡ false)) front_is s.clean) in
    sym (filter_whole (λ row. not (test row.1)) (rows_of 0 now.lists)
    (all_then (λ row. test row.1 ≡ false) (λ row. not (test row.1) ≡ true) (λ row fails. not_from_false (test row.1) fails) (rows_of 0 now.lists) all))
    ∙ s.left

pub sweeps_room : (test : Block → Bool) (process list : ℕ) (at : Option ℕ) (start now : PoolValue Block) → Sweeps test process list at start now → length (rows_of 0 now.lists) ≤ length (rows_of 0 start.lists) → start.room ≤ now.room
sweeps_room test process list at start now s fewer = let room = s.room in omega (arith, room, fewer)

pub fewer_rows : (keep : ℕ × Block → Bool) (rows left : List (ℕ × Block)) → left ≡ filter keep rows → length left ≤ length rows
fewer_rows keep rows left is = let few = filter_fewer keep rows in let many = ap length is in omega (arith, few, many)

-- where a process has no block, none of its own passes
pub none_passing : (test : Block → Bool) (process : ℕ) → ((block : Block) → test block ≡ true → nat_eq block.process process ≡ true) → (rows : List (ℕ × Block)) → rows_for process rows ≡ [] → filter (λ row. not (test row.1)) rows ≡ rows
none_passing test process of_it rows none =
    let all = fails_all test process of_it rows (subst (AllByRecursion (λ row. test row.1 ≡ false)) (sym none) tt) in
    filter_whole (λ row. not (test row.1)) rows
    (all_then (λ row. test row.1 ≡ false) (λ row. not (test row.1) ≡ true) (λ row fails. not_from_false (test row.1) fails) rows all)
