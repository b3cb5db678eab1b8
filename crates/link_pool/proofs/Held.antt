-- What a chain becomes once a key is taken out of it and put behind its last.
use Rattle.std.proofs.Common.{◌≡◌, ◌≢◌, ◌⊎◌, ℕ, zero, suc, List, [], ◌∷◌, ◌++◌, set, Option, Some, None, option_map, refl, sym, ap, subst, ◌∙◌, inl, inr}
use Rattle.std.proofs.lemmas.Bool.{cases_eq}
use Rattle.std.proofs.lemmas.List.{get_or-set_other}
use Rattle.std.specs.Option.{option_or}
use Rattle.link_pool.specs.Rows.{Absent, item_at, key_after, key_before, without}
use Rattle.link_pool.specs.Chain.{Linked, slot_at, first_of, last_of, Holds, picked}
use Rattle.link_pool.proofs.Rowed.{Split, found, item_split, item_absent, after_split, after_absent, before_split, before_absent, first_key_is, without_absent}
use Rattle.link_pool.proofs.Chains.{Changes, next_as, before_as, push_holds, unlink_holds, free_absent, node_at_split, back_absent}

module _ {T : Type 0} where
  -- the slots without that of a key
  abbrev pub masked : ℕ → List (Option (Linked T)) → List (Option (Linked T))
  masked key slots = set slots key None

  pub masked_here : (slots : List (Option (Linked T))) (key : ℕ) → slot_at (masked key slots) key ≡ None
  masked_here [] zero = refl
  masked_here [] (suc key) = refl
  masked_here (slot ∷ slots) zero = refl
  masked_here (slot ∷ slots) (suc key) = masked_here slots key

  pub masked_there : (slots : List (Option (Linked T))) (key k : ℕ) → k ≢ key → slot_at (masked key slots) k ≡ slot_at slots k
  masked_there slots key k differs = get_or-set_other slots key k None None differs

  -- slots that agree, but perhaps at the key, agree without it
  pub masked_same : (old new : List (Option (Linked T))) (key : ℕ) → ((k : ℕ) → k ≢ key → slot_at new k ≡ slot_at old k) → (k : ℕ) → slot_at (masked key new) k ≡ slot_at (masked key old) k
  masked_same old new key same k =
      elim (cases_eq k key) [
        | inl here ↦ subst (λ j. slot_at (masked key new) j ≡ slot_at (masked key old) j) (sym here) (masked_here new key ∙ sym (masked_here old key))
        | inr differs ↦ masked_there new key k differs ∙ same k differs ∙ sym (masked_there old key k differs)
      ]

  pub masked_free : (slots : List (Option (Linked T))) (key : ℕ) → slot_at slots key ≡ None → (k : ℕ) → slot_at (masked key slots) k ≡ slot_at slots k
  masked_free slots key free k =
      elim (cases_eq k key) [
        | inl here ↦ subst (λ j. slot_at (masked key slots) j ≡ slot_at slots j) (sym here) (masked_here slots key ∙ sym free)
        | inr differs ↦ masked_there slots key k differs
      ]

  -- the slot at an option key is not that of another
  masked_apart : (old : List (Option (Linked T))) (key k : ℕ) (node : Linked T) → slot_at (masked key old) k ≡ Some node → k ≢ key
  masked_apart old key k node there same =
      absurd (let here = subst (λ j. slot_at (masked key old) j ≡ Some node) same there in let none = masked_here old key in cc)

  pub masked_changes : (old new : List (Option (Linked T))) (at : Option ℕ) (change : Linked T → Linked T) (key : ℕ) → Changes old new at change → Changes (masked key old) (masked key new) at change
  masked_changes old new at change key c =
      record {
        others = λ k differs. by_place k (cases_eq k key) (λ apart. c.others k differs);
        there = λ k node is there.
            let apart = masked_apart old key k node there in
            masked_there new key k apart ∙ c.there k node is (sym (masked_there old key k apart) ∙ there);
        vacant = λ k free. free_there k (cases_eq k key) free;
      }
    where
      by_place : (k : ℕ) → (k ≡ key) ⊎ (k ≢ key) → (k ≢ key → slot_at new k ≡ slot_at old k) → slot_at (masked key new) k ≡ slot_at (masked key old) k
      by_place k (inl here) same = subst (λ j. slot_at (masked key new) j ≡ slot_at (masked key old) j) (sym here) (masked_here new key ∙ sym (masked_here old key))
      by_place k (inr apart) same = masked_there new key k apart ∙ same apart ∙ sym (masked_there old key k apart)

      free_there : (k : ℕ) → (k ≡ key) ⊎ (k ≢ key) → slot_at (masked key old) k ≡ None → slot_at (masked key new) k ≡ None
      free_there k (inl here) free = subst (λ j. slot_at (masked key new) j ≡ None) (sym here) (masked_here new key)
      free_there k (inr apart) free = masked_there new key k apart ∙ c.vacant k (sym (masked_there old key k apart) ∙ free)

  -- a key that is put behind the last
  pub attach_holds : (s0 s1 s2 s3 : List (Option (Linked T))) (rows : List (ℕ × T)) (first last : Option ℕ) (key : ℕ) (node : Linked T) → Holds (masked key s0) rows first last → slot_at s0 key ≡ Some node → Changes s0 s1 (Some key) (before_as last) → Changes s1 s2 (Some key) (next_as None) → Changes s2 s3 last (next_as (Some key)) → Holds s3 (rows ++ (key, node.item) ∷ []) (option_or first (Some key)) (Some key)
  attach_holds s0 s1 s2 s3 rows first last key node h there befores nexts behind =
      push_holds (masked key s0) s2 s3 rows first last key node.item h (masked_here s0 key)
      (nexts.there key (before_as last node) refl (befores.there key node refl there))
      (λ k differs. nexts.others k (apart k differs) ∙ befores.others k (apart k differs) ∙ sym (masked_there s0 key k differs))
      behind
    where
      apart : (k : ℕ) → k ≢ key → Some k ≢ Some key
      apart k differs same = differs (cc)

  -- a key whose neighbours name each other
  pub detach_holds : (s0 s1 s2 s3 : List (Option (Linked T))) (rows : List (ℕ × T)) (first last : Option ℕ) (key : ℕ) (node : Linked T) → Holds s0 rows first last → slot_at s0 key ≡ Some node → ((k : ℕ) → k ≢ key → slot_at s1 k ≡ slot_at s0 k) → Changes s1 s2 node.before (next_as node.next) → Changes s2 s3 node.next (before_as node.before) → Holds (masked key s3) (without key rows) (picked node.before first node.next) (picked node.next last node.before)
  detach_holds s0 s1 s2 s3 rows first last key node h there same nexts befores =
      unlink_holds s0 (masked key s1) (masked key s2) (masked key s3) rows first last key node h there (masked_here s1 key)
      (λ k differs. masked_there s1 key k differs ∙ same k differs)
      (masked_changes s1 s2 node.before (next_as node.next) key nexts)
      (masked_changes s2 s3 node.next (before_as node.before) key befores)

  -- a change leaves the item at each key
  pub item_kept : (old new : List (Option (Linked T))) (at : Option ℕ) (change : Linked T → Linked T) → ((n : Linked T) → (change n).item ≡ n.item) → Changes old new at change → (key : ℕ) (node : Linked T) → slot_at old key ≡ Some node → (n : Linked T) × (slot_at new key ≡ Some n) × (n.item ≡ node.item)
  item_kept old new None change same c key node there = (node, c.others key (λ e. absurd (cc)) ∙ there, refl)
  item_kept old new (Some k) change same c key node there = by_place (cases_eq key k)
    where
      by_place : (key ≡ k) ⊎ (key ≢ k) → (n : Linked T) × (slot_at new key ≡ Some n) × (n.item ≡ node.item)
      by_place (inl here) = (change node, c.there key node (ap Some (sym here)) there, same node)
      by_place (inr apart) = (node, c.others key (λ e. apart (cc)) ∙ there, refl)

  -- ---- what is read at a key

  abbrev pub next_in : Option (Linked T) → Option ℕ
  next_in None = None
  next_in (Some node) = node.next

  abbrev pub before_in : Option (Linked T) → Option ℕ
  before_in None = None
  before_in (Some node) = node.before

  pub record Reads (slot : Option (Linked T)) (key : ℕ) (rows : List (ℕ × T)) : Type 0 where
    pub item : item_at key rows ≡ option_map (λ (n : Linked T). n.item) slot
    pub after : key_after key rows ≡ next_in slot
    pub before : key_before key rows ≡ before_in slot

  reads_absent : (key : ℕ) (rows : List (ℕ × T)) → Absent key rows → Reads None key rows
  reads_absent key rows a =
      record { item = item_absent key rows a; after = after_absent key rows a; before = before_absent key rows a }

  reads_split : (key : ℕ) (rows : List (ℕ × T)) (s : Split key rows) → Absent key s.back → Reads (Some (record { item = s.item; before = last_of None s.front; next = first_of s.back None })) key rows
  reads_split key rows s b =
      record {
        item = ap (item_at key) s.is ∙ item_split key s.front s.item s.back s.first_one;
        after = ap (key_after key) s.is ∙ after_split key s.front s.item s.back s.first_one ∙ first_key_is s.back;
        before = ap (key_before key) s.is ∙ before_split key s.front s.item s.back s.first_one b;
      }

  reads_by : (slots : List (Option (Linked T))) (rows : List (ℕ × T)) (first last : Option ℕ) (key : ℕ) (slot : Option (Linked T)) → Holds slots rows first last → slot_at slots key ≡ slot → Reads slot key rows
  reads_by slots rows first last key None h is = reads_absent key rows (free_absent slots None rows None key h.chained is)
  reads_by slots rows first last key (Some node) h is =
      elim (found key rows) [
        | inl a ↦ absurd (let none = h.complete key a in cc)
        | inr s ↦ subst (λ (n : Linked T). Reads (Some n) key rows) (sym (node_at_split slots rows key node s h.chained is)) (reads_split key rows s (back_absent key rows s h.distinct))
      ]

  pub reads : (slots : List (Option (Linked T))) (rows : List (ℕ × T)) (first last : Option ℕ) (key : ℕ) → Holds slots rows first last → Reads (slot_at slots key) key rows
  reads slots rows first last key h = reads_by slots rows first last key (slot_at slots key) h refl

  pub free_without : (slots : List (Option (Linked T))) (rows : List (ℕ × T)) (first last : Option ℕ) (key : ℕ) → Holds slots rows first last → slot_at slots key ≡ None → without key rows ≡ rows
  free_without slots rows first last key h free = without_absent key rows (free_absent slots None rows None key h.chained free)
