-- The lists that slots and ends stand for.
use Rattle.std.proofs.Common.{◌≡◌, ℕ, zero, suc, ◌<◌, List, [], length, get_or, slice_get, replicate, Option, Some, None, refl, sym, ap, subst, ◌∙◌}
use Rattle.std.proofs.lemmas.List.{length-replicate}
use Rattle.std.proofs.lemmas.Option.{slice_get_within}
use Rattle.link_pool.specs.declared.node.Node.{Node}
use Rattle.link_pool.specs.declared.node.Ends.{Ends}
use Rattle.std.specs.Prelude.{IfSome}
use Rattle.link_pool.specs.Value.{PoolValue}
use Rattle.link_pool.specs.Lists.{rows_of}
use Rattle.link_pool.specs.Chain.{slot_at, Holds}
use Rattle.link_pool.specs.Slots.{parts, rows_in, lists_of, IsPlaced, IsStanding}
use Rattle.link_pool.proofs.Numbered.{length_numbered, numbered_get, numbered_is, get_is, repeated_get}
use Rattle.link_pool.proofs.Chains.{walk_is, holds_seen, holds_same}
use Rattle.link_pool.proofs.Held.{masked, masked_same, masked_free}

pub if_some : (o : Option ℕ) (P : ℕ → Type 0) → IfSome o P → (x : ℕ) → o ≡ Some x → P x
if_some None P p x is = absurd (cc)
if_some (Some y) P p x is = subst P (cc) p

module _ {T : Type 0} where
  abbrev pub ArePlaced : List (Option (Node T)) → ℕ → Type 0
  ArePlaced slots lists = (key : ℕ) (node : Node T) → get_or slots key None ≡ Some node → IsPlaced lists node

  -- slots and ends stand for these lists
  pub record Stands (slots : List (Option (Node T))) (all : List Ends) (lists : List (List (ℕ × T))) : Type 0 where
    pub many : length lists ≡ length all
    pub each : (list : ℕ) (ends : Ends) → slice_get all list ≡ Some ends → Holds (parts list slots) (rows_of list lists) ends.first ends.last
    pub placed : ArePlaced slots (length all)

  -- one list stands as these rows
  pub record At (slots : List (Option (Node T))) (all : List Ends) (list : ℕ) (rows : List (ℕ × T)) : Type 0 where
    pub ends : Ends
    pub there : slice_get all list ≡ Some ends
    pub holds : Holds (parts list slots) rows ends.first ends.last

  -- and so but for a key, whose node isn't linked
  pub record Loose (key : ℕ) (slots : List (Option (Node T))) (all : List Ends) (list : ℕ) (rows : List (ℕ × T)) : Type 0 where
    pub ends : Ends
    pub there : slice_get all list ≡ Some ends
    pub holds : Holds (masked key (parts list slots)) rows ends.first ends.last

  pub at_kept : (old new : List (Option (Node T))) (was all : List Ends) (list : ℕ) (rows : List (ℕ × T)) → ((k : ℕ) → slot_at (parts list new) k ≡ slot_at (parts list old) k) → slice_get all list ≡ slice_get was list → At old was list rows → At new all list rows
  at_kept old new was all list rows same ends a =
      record { ends = a.ends; there = ends ∙ a.there; holds = holds_same (parts list old) (parts list new) rows a.ends.first a.ends.last same a.holds }

  pub loose_kept : (old new : List (Option (Node T))) (was all : List Ends) (key list : ℕ) (rows : List (ℕ × T)) → ((k : ℕ) → slot_at (parts list new) k ≡ slot_at (parts list old) k) → slice_get all list ≡ slice_get was list → Loose key old was list rows → Loose key new all list rows
  loose_kept old new was all key list rows same ends l =
      record { ends = l.ends; there = ends ∙ l.there; holds = holds_same (masked key (parts list old)) (masked key (parts list new)) rows l.ends.first l.ends.last (masked_same (parts list old) (parts list new) key (λ k differs. same k)) l.holds }

  pub loose_firm : (slots : List (Option (Node T))) (all : List Ends) (key list : ℕ) (rows : List (ℕ × T)) → slot_at (parts list slots) key ≡ None → Loose key slots all list rows → At slots all list rows
  loose_firm slots all key list rows free l =
      record { ends = l.ends; there = l.there; holds = holds_same (masked key (parts list slots)) (parts list slots) rows l.ends.first l.ends.last (λ k. sym (masked_free (parts list slots) key free k)) l.holds }

  pub stands_at : (slots : List (Option (Node T))) (all : List Ends) (lists : List (List (ℕ × T))) (list : ℕ) → Stands slots all lists → list < length all → At slots all list (rows_of list lists)
  stands_at slots all lists list s below =
      let got = get_is all list (record { first = None; last = None }) below in
      record { ends = got.0; there = got.1; holds = s.each list got.0 got.1 }

  at_ends : (slots : List (Option (Node T))) (all : List Ends) (list : ℕ) (rows : List (ℕ × T)) (ends : Ends) → At slots all list rows → slice_get all list ≡ Some ends → Holds (parts list slots) rows ends.first ends.last
  at_ends slots all list rows ends a got =
      let there = a.there in
      let same : a.ends ≡ ends = cc in
      subst (λ (e : Ends). Holds (parts list slots) rows e.first e.last) same a.holds

  pub stands_by : (slots : List (Option (Node T))) (all : List Ends) (lists : List (List (ℕ × T))) → length lists ≡ length all → ((list : ℕ) → list < length all → At slots all list (rows_of list lists)) → ArePlaced slots (length all) → Stands slots all lists
  stands_by slots all lists many each placed =
      record {
        many = many;
        each = λ list ends got. at_ends slots all list (rows_of list lists) ends (each list (slice_get_within all list ends got)) got;
        placed = placed;
      }

  -- what is seen of slots and ends are these lists
  pub stands_seen : (slots : List (Option (Node T))) (all : List Ends) (lists : List (List (ℕ × T))) → Stands slots all lists → lists_of slots all ≡ lists
  stands_seen slots all lists s =
      numbered_is (rows_in slots) all lists [] s.many (λ list ends got. walk_is (parts list slots) (rows_of list lists) ends.first ends.last (s.each list ends got))

  pub stands_standing : (slots : List (Option (Node T))) (all : List Ends) (lists : List (List (ℕ × T))) → Stands slots all lists → IsStanding slots all
  stands_standing slots all lists s =
      record {
        holds = λ list ends got. holds_seen (parts list slots) (rows_of list lists) ends.first ends.last (s.each list ends got);
        placed = s.placed;
      }

  pub standing : (slots : List (Option (Node T))) (all : List Ends) → IsStanding slots all → Stands slots all (lists_of slots all)
  standing slots all s =
      record {
        many = length_numbered (rows_in slots) all;
        each = λ list ends got. subst (λ rows. Holds (parts list slots) rows ends.first ends.last) (sym (numbered_get (rows_in slots) all list ends [] got)) (s.holds list ends got);
        placed = s.placed;
      }

  -- how many lists are seen
  pub length_lists : (slots : List (Option (Node T))) (all : List Ends) → length (lists_of slots all) ≡ length all
  length_lists slots all = length_numbered (rows_in slots) all

  pub standing_as : (slots : List (Option (Node T))) (all : List Ends) (lists : List (List (ℕ × T))) → IsStanding slots all → lists_of slots all ≡ lists → Stands slots all lists
  standing_as slots all lists s seen = subst (Stands slots all) seen (standing slots all s)

  pub lists_same : (v w : PoolValue T) → v ≡ w → v.lists ≡ w.lists
  lists_same v w same = ap (λ (p : PoolValue T). p.lists) same

  pub room_same : (v w : PoolValue T) → v ≡ w → v.room ≡ w.room
  room_same v w same = ap (λ (p : PoolValue T). p.room) same

  -- ---- a pool without items

  nothing_at : (key : ℕ) → slot_at {T = T} [] key ≡ None
  nothing_at zero = refl
  nothing_at (suc key) = refl

  free_at : (key : ℕ) → get_or {A = Option (Node T)} [] key None ≡ None
  free_at zero = refl
  free_at (suc key) = refl

  empty_rows : (n j : ℕ) → rows_of {T = T} j (replicate n []) ≡ []
  empty_rows zero j = refl
  empty_rows (suc n) zero = refl
  empty_rows (suc n) (suc j) = empty_rows n j

  nothing_held : Holds {T = T} [] [] None None
  nothing_held = record { chained = tt; distinct = tt; complete = λ key a. nothing_at key; begins = refl; ends = refl }

  nothing_stands : (n : ℕ) → Stands [] (replicate n (record { first = None; last = None })) (replicate n [])
  nothing_stands n =
      record {
        many = length-replicate n [] ∙ sym (length-replicate n (record { first = None; last = None }));
        each = λ list ends got.
            subst (λ (e : Ends). Holds {T = T} [] (rows_of list (replicate n [])) e.first e.last) (sym (repeated_get n list (record { first = None; last = None }) ends got))
            (subst (λ rows. Holds {T = T} [] rows None None) (sym (empty_rows n list)) nothing_held);
        placed = λ key node there. absurd (let free = free_at key in cc);
      }

  pub new_stands : (slots : List (Option (Node T))) (all : List Ends) (n : ℕ) → slots ≡ [] → all ≡ replicate n (record { first = None; last = None }) → Stands slots all (replicate n [])
  new_stands slots all n empty alike = rw (empty, alike) (nothing_stands n)
