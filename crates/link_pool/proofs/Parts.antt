-- What a write of a link is to each list.
use Rattle.std.proofs.Common.{◌≡◌, ◌≢◌, ◌⊎◌, ℕ, zero, suc, ◌<◌, List, [], ◌∷◌, length, get_or, set, Option, Some, None, is_some, cond, option_map, refl, sym, ap, subst, ◌∙◌, inl, inr, arith}
use Rattle.std.proofs.lemmas.Bool.{cases_eq, cases_lt, eq-eqb, ne_eqb}
use Rattle.std.proofs.lemmas.List.{get_or-set_same, get_or-set_other, get_or_past}
use Rattle.std.proofs.lemmas.List.Sums.{sum_by-set}
use Rattle.slab.specs.Slab.{Slab, get, slab_len}
use Rattle.link_pool.specs.declared.node.Node.{Node}
use Rattle.link_pool.specs.declared.node.Link.{Link}
use Rattle.link_pool.specs.Chain.{Linked, slot_at}
use Rattle.link_pool.specs.Nodes.{of_list, link_of}
use Rattle.link_pool.specs.Slots.{linked, part, parts, IsSecond, IsPlaced}
use Rattle.link_pool.specs.Steps.{second_put, node_put, slab_put, link_put, with_next, with_before}
use Rattle.link_pool.proofs.Chains.{Changes, next_as, before_as}

pub of_list_at : (list : ℕ) (link : Link) → link.list ≡ list → of_list list (Some link) ≡ Some link
of_list_at list link same = rw (eq-eqb link.list list same) refl

pub of_list_apart : (list : ℕ) (link : Link) → link.list ≢ list → of_list list (Some link) ≡ None
of_list_apart list link apart = rw (ne_eqb link.list list apart) refl

of_list_is : (list : ℕ) (second : Option Link) (link : Link) → of_list list second ≡ Some link → link.list ≡ list
of_list_is list None link is = absurd (cc)
of_list_is list (Some other) link is = by_place (cases_eq other.list list)
  where
    by_place : (other.list ≡ list) ⊎ (other.list ≢ list) → link.list ≡ list
    by_place (inl same) = let one = sym (of_list_at list other same) ∙ is in let both : other ≡ link = cc in subst (λ (l : Link). l.list ≡ list) both same
    by_place (inr apart) = absurd (let none = of_list_apart list other apart in cc)

module _ (list : ℕ) (change : Link → Link) (keeps : (link : Link) → (change link).list ≡ link.list) where
  second_at : (link : Link) → link.list ≡ list → second_put list change (Some link) ≡ Some (change link)
  second_at link same = rw (eq-eqb link.list list same) refl

  second_apart : (link : Link) → link.list ≢ list → second_put list change (Some link) ≡ Some link
  second_apart link apart = rw (ne_eqb link.list list apart) refl

  second_here : (second : Option Link) → of_list list (second_put list change second) ≡ option_map change (of_list list second)
  second_here None = refl
  second_here (Some link) = by_place (cases_eq link.list list)
    where
      by_place : (link.list ≡ list) ⊎ (link.list ≢ list) → of_list list (second_put list change (Some link)) ≡ option_map change (of_list list (Some link))
      by_place (inl same) = ap (of_list list) (second_at link same) ∙ of_list_at list (change link) (keeps link ∙ same) ∙ sym (ap (option_map change) (of_list_at list link same))
      by_place (inr apart) = ap (of_list list) (second_apart link apart) ∙ of_list_apart list link apart ∙ sym (ap (option_map change) (of_list_apart list link apart))

  second_there : (other : ℕ) (second : Option Link) → other ≢ list → of_list other (second_put list change second) ≡ of_list other second
  second_there other None apart = refl
  second_there other (Some link) apart = by_place (cases_eq link.list list)
    where
      by_place : (link.list ≡ list) ⊎ (link.list ≢ list) → of_list other (second_put list change (Some link)) ≡ of_list other (Some link)
      by_place (inl same) =
          ap (of_list other) (second_at link same) ∙ of_list_apart other (change link) (λ e. apart (sym e ∙ keeps link ∙ same))
          ∙ sym (of_list_apart other link (λ e. apart (sym e ∙ same)))
      by_place (inr differs) = ap (of_list other) (second_apart link differs)

  second_placed : (lists main : ℕ) (second : Option Link) → IsSecond lists main second → IsSecond lists main (second_put list change second)
  second_placed lists main None p = tt
  second_placed lists main (Some link) p = by_place (cases_eq link.list list)
    where
      by_place : (link.list ≡ list) ⊎ (link.list ≢ list) → IsSecond lists main (second_put list change (Some link))
      by_place (inl same) =
          subst (IsSecond lists main) (sym (second_at link same)) (subst (λ n. (n < lists) × (n ≢ main)) (sym (keeps link)) p)
      by_place (inr apart) = subst (IsSecond lists main) (sym (second_apart link apart)) p

module _ {T : Type 0} where
  pub part_at : (list : ℕ) (slots : List (Option (Node T))) (k : ℕ) → slot_at (parts list slots) k ≡ part list (get_or slots k None)
  part_at list [] zero = refl
  part_at list [] (suc k) = refl
  part_at list (slot ∷ slots) zero = refl
  part_at list (slot ∷ slots) (suc k) = part_at list slots k

  pub link_main : (list : ℕ) (node : Node T) → node.main.list ≡ list → link_of list node ≡ Some node.main
  link_main list node same = rw (eq-eqb node.main.list list same) refl

  pub link_second : (list : ℕ) (node : Node T) → node.main.list ≢ list → link_of list node ≡ of_list list node.second
  link_second list node apart = rw (ne_eqb node.main.list list apart) refl

  -- the link of a list is of that list
  pub link_of_is : (list : ℕ) (node : Node T) (link : Link) → link_of list node ≡ Some link → link.list ≡ list
  link_of_is list node link is = by_place (cases_eq node.main.list list)
    where
      by_place : (node.main.list ≡ list) ⊎ (node.main.list ≢ list) → link.list ≡ list
      by_place (inl same) = let one = sym (link_main list node same) ∙ is in let both : node.main ≡ link = cc in subst (λ (l : Link). l.list ≡ list) both same
      by_place (inr apart) = of_list_is list node.second link (sym (link_second list node apart) ∙ is)

  pub within : (slots : List (Option (Node T))) (key : ℕ) (node : Node T) → get_or slots key None ≡ Some node → key < length slots
  within slots key node there =
      elim (cases_lt key (length slots)) [
        | inl below ↦ below
        | inr past ↦ absurd (let none = get_or_past slots key None past in cc)
      ]

  module _ (list : ℕ) (change : Link → Link) (keeps : (link : Link) → (change link).list ≡ link.list) where
    put_main : (node : Node T) → node.main.list ≡ list → node_put list change node ≡ record node { main = change node.main }
    put_main node same = rw (eq-eqb node.main.list list same) refl

    put_second : (node : Node T) → node.main.list ≢ list → node_put list change node ≡ record node { second = second_put list change node.second }
    put_second node apart = rw (ne_eqb node.main.list list apart) refl

    -- the link of the list is changed
    pub link_here : (node : Node T) → link_of list (node_put list change node) ≡ option_map change (link_of list node)
    link_here node = by_place (cases_eq node.main.list list)
      where
        by_place : (node.main.list ≡ list) ⊎ (node.main.list ≢ list) → link_of list (node_put list change node) ≡ option_map change (link_of list node)
        by_place (inl same) =
            ap (link_of list) (put_main node same) ∙ link_main list (record node { main = change node.main }) (keeps node.main ∙ same)
            ∙ sym (ap (option_map change) (link_main list node same))
        by_place (inr apart) =
            ap (link_of list) (put_second node apart) ∙ link_second list (record node { second = second_put list change node.second }) apart
            ∙ second_here list change keeps node.second ∙ sym (ap (option_map change) (link_second list node apart))

    -- that of another list isn't
    pub link_there : (other : ℕ) (node : Node T) → other ≢ list → link_of other (node_put list change node) ≡ link_of other node
    link_there other node apart = by_place (cases_eq node.main.list list) (cases_eq node.main.list other)
      where
        by_place : (node.main.list ≡ list) ⊎ (node.main.list ≢ list) → (node.main.list ≡ other) ⊎ (node.main.list ≢ other) → link_of other (node_put list change node) ≡ link_of other node
        by_place (inl same) (inl here) = absurd (apart (sym here ∙ same))
        by_place (inl same) (inr there) =
            ap (link_of other) (put_main node same) ∙ link_second other (record node { main = change node.main }) (λ e. there (sym (keeps node.main) ∙ e))
            ∙ sym (link_second other node there)
        by_place (inr differs) (inl here) =
            ap (link_of other) (put_second node differs) ∙ link_main other (record node { second = second_put list change node.second }) here
            ∙ sym (link_main other node here)
        by_place (inr differs) (inr there) =
            ap (link_of other) (put_second node differs) ∙ link_second other (record node { second = second_put list change node.second }) there
            ∙ second_there list change keeps other node.second apart ∙ sym (link_second other node there)

    pub item_put : (node : Node T) → (node_put list change node).item ≡ node.item
    item_put node = by_place (cases_eq node.main.list list)
      where
        by_place : (node.main.list ≡ list) ⊎ (node.main.list ≢ list) → (node_put list change node).item ≡ node.item
        by_place (inl same) = ap (λ (n : Node T). n.item) (put_main node same)
        by_place (inr apart) = ap (λ (n : Node T). n.item) (put_second node apart)

    placed_node : (lists : ℕ) (node : Node T) → IsPlaced lists node → IsPlaced lists (node_put list change node)
    placed_node lists node p = by_place (cases_eq node.main.list list)
      where
        by_place : (node.main.list ≡ list) ⊎ (node.main.list ≢ list) → IsPlaced lists (node_put list change node)
        by_place (inl same) =
            subst (IsPlaced lists) (sym (put_main node same)) (subst (λ n. (n < lists) × IsSecond lists n node.second) (sym (keeps node.main)) p)
        by_place (inr apart) =
            subst (IsPlaced lists) (sym (put_second node apart)) (p.0, second_placed list change keeps lists node.main.list node.second p.1)

    -- ---- the slab

    module _ (change_linked : Linked T → Linked T) (says : (item : T) (link : Link) → linked item (change link) ≡ change_linked (linked item link)) where
      mapped_says : (item : T) (link : Option Link) → option_map (linked item) (option_map change link) ≡ option_map change_linked (option_map (linked item) link)
      mapped_says item None = refl
      mapped_says item (Some link) = ap Some (says item link)

      part_here : (node : Node T) → part list (Some (node_put list change node)) ≡ option_map change_linked (part list (Some node))
      part_here node =
          ap (λ item. option_map (linked item) (link_of list (node_put list change node))) (item_put node)
          ∙ ap (option_map (linked node.item)) (link_here node)
          ∙ mapped_says node.item (link_of list node)

      put_changes : (s : Slab (Node T)) (key : ℕ) (there : Option (Node T)) → get s key ≡ there → Changes (parts list s.slots) (parts list (slab_put s list change key there).slots) (Some key) change_linked
      put_changes s key None e =
          record {
            others = λ k differs. refl;
            there = λ k n same here.
                absurd (let k_is : key ≡ k = cc in let none = sym (part_at list s.slots k) ∙ here in let gone = ap (part list) (subst (λ j. get_or s.slots j None ≡ None) k_is e) in cc);
            vacant = λ k free. free;
          }
      put_changes s key (Some node) e =
          record {
            others = λ k differs.
                part_at list (set s.slots key (Some (node_put list change node))) k
                ∙ ap (part list) (get_or-set_other s.slots key k (Some (node_put list change node)) None (λ same. differs (ap Some same)))
                ∙ sym (part_at list s.slots k);
            there = λ k n same here.
                let k_is : key ≡ k = cc in
                let was : part list (Some node) ≡ Some n = ap (part list) (sym e) ∙ sym (part_at list s.slots key) ∙ subst (λ j. slot_at (parts list s.slots) j ≡ Some n) (sym k_is) here in
                subst (λ j. slot_at (parts list (set s.slots key (Some (node_put list change node)))) j ≡ Some (change_linked n)) k_is
                (written ∙ ap (option_map change_linked) was);
            vacant = λ k free. free_there k (cases_eq k key) free;
          }
        where
          written : slot_at (parts list (set s.slots key (Some (node_put list change node)))) key ≡ option_map change_linked (part list (Some node))
          written =
              part_at list (set s.slots key (Some (node_put list change node))) key
              ∙ ap (part list) (get_or-set_same s.slots key (Some (node_put list change node)) None (within s.slots key node e))
              ∙ part_here node

          free_there : (k : ℕ) → (k ≡ key) ⊎ (k ≢ key) → slot_at (parts list s.slots) k ≡ None → slot_at (parts list (set s.slots key (Some (node_put list change node)))) k ≡ None
          free_there k (inl here) free =
              let was : part list (Some node) ≡ None = ap (part list) (sym e) ∙ sym (part_at list s.slots key) ∙ subst (λ j. slot_at (parts list s.slots) j ≡ None) here free in
              subst (λ j. slot_at (parts list (set s.slots key (Some (node_put list change node)))) j ≡ None) (sym here)
              (written ∙ ap (option_map change_linked) was)
          free_there k (inr apart) free =
              part_at list (set s.slots key (Some (node_put list change node))) k
              ∙ ap (part list) (get_or-set_other s.slots key k (Some (node_put list change node)) None apart)
              ∙ sym (part_at list s.slots k) ∙ free

      pub link_changes : (s : Slab (Node T)) (at : Option ℕ) → Changes (parts list s.slots) (parts list (link_put s list change at).slots) at change_linked
      link_changes s None = record { others = λ k differs. refl; there = λ k n same here. absurd (cc); vacant = λ k free. free }
      link_changes s (Some key) = put_changes s key (get s key) refl

    part_there : (other : ℕ) (node : Node T) → other ≢ list → part other (Some (node_put list change node)) ≡ part other (Some node)
    part_there other node apart =
        ap (λ item. option_map (linked item) (link_of other (node_put list change node))) (item_put node)
        ∙ ap (option_map (linked node.item)) (link_there other node apart)

    put_apart : (s : Slab (Node T)) (other key : ℕ) (there : Option (Node T)) (k : ℕ) → get s key ≡ there → other ≢ list → slot_at (parts other (slab_put s list change key there).slots) k ≡ slot_at (parts other s.slots) k
    put_apart s other key None k e apart = refl
    put_apart s other key (Some node) k e apart =
        part_at other (set s.slots key (Some (node_put list change node))) k ∙ by_place (cases_eq k key) ∙ sym (part_at other s.slots k)
      where
        by_place : (k ≡ key) ⊎ (k ≢ key) → part other (get_or (set s.slots key (Some (node_put list change node))) k None) ≡ part other (get_or s.slots k None)
        by_place (inl same) =
            ap (λ j. part other (get_or (set s.slots key (Some (node_put list change node))) j None)) same
            ∙ ap (part other) (get_or-set_same s.slots key (Some (node_put list change node)) None (within s.slots key node e))
            ∙ part_there other node apart ∙ ap (part other) (sym e) ∙ ap (λ j. part other (get_or s.slots j None)) (sym same)
        by_place (inr differs) = ap (part other) (get_or-set_other s.slots key k (Some (node_put list change node)) None differs)

    -- each other list is left
    pub link_apart : (s : Slab (Node T)) (at : Option ℕ) (other k : ℕ) → other ≢ list → slot_at (parts other (link_put s list change at).slots) k ≡ slot_at (parts other s.slots) k
    link_apart s None other k apart = refl
    link_apart s (Some key) other k apart = put_apart s other key (get s key) k refl apart

    put_placed : (s : Slab (Node T)) (lists key : ℕ) (there : Option (Node T)) → get s key ≡ there → ((k : ℕ) (n : Node T) → get s k ≡ Some n → IsPlaced lists n) → (k : ℕ) (n : Node T) → get (slab_put s list change key there) k ≡ Some n → IsPlaced lists n
    put_placed s lists key None e placed k n is = placed k n is
    put_placed s lists key (Some node) e placed k n is = by_place (cases_eq k key)
      where
        by_place : (k ≡ key) ⊎ (k ≢ key) → IsPlaced lists n
        by_place (inl same) =
            let here = get_or-set_same s.slots key (Some (node_put list change node)) None (within s.slots key node e) in
            let now = subst (λ j. get_or (set s.slots key (Some (node_put list change node))) j None ≡ Some n) same is in
            let both : node_put list change node ≡ n = cc in
            subst (IsPlaced lists) both (placed_node lists node (placed key node e))
        by_place (inr differs) = placed k n (sym (get_or-set_other s.slots key k (Some (node_put list change node)) None differs) ∙ is)

    pub link_placed : (s : Slab (Node T)) (lists : ℕ) (at : Option ℕ) → ((k : ℕ) (n : Node T) → get s k ≡ Some n → IsPlaced lists n) → (k : ℕ) (n : Node T) → get (link_put s list change at) k ≡ Some n → IsPlaced lists n
    link_placed s lists None placed = placed
    link_placed s lists (Some key) placed = put_placed s lists key (get s key) refl placed

    put_size : (s : Slab (Node T)) (key : ℕ) (there : Option (Node T)) → get s key ≡ there → slab_len (slab_put s list change key there) ≡ slab_len s
    put_size s key None e = refl
    put_size s key (Some node) e =
        let one : Option (Node T) → ℕ = λ o. cond (is_some o) 1 0 in
        let count = sum_by-set one s.slots key (Some (node_put list change node)) None (within s.slots key node e) in
        let here : one (get_or s.slots key None) ≡ 1 = ap one e in
        omega (arith, count, here)

    put_capacity : (s : Slab (Node T)) (key : ℕ) (there : Option (Node T)) → (slab_put s list change key there).capacity ≡ s.capacity
    put_capacity s key None = refl
    put_capacity s key (Some node) = refl

    pub link_size : (s : Slab (Node T)) (at : Option ℕ) → slab_len (link_put s list change at) ≡ slab_len s
    link_size s None = refl
    link_size s (Some key) = put_size s key (get s key) refl

    pub link_capacity : (s : Slab (Node T)) (at : Option ℕ) → (link_put s list change at).capacity ≡ s.capacity
    link_capacity s None = refl
    link_capacity s (Some key) = put_capacity s key (get s key)

  pub next_changes : (s : Slab (Node T)) (list : ℕ) (at next : Option ℕ) → Changes (parts list s.slots) (parts list (link_put s list (with_next next) at).slots) at (next_as next)
  next_changes s list at next = link_changes list (with_next next) (λ link. refl) (next_as next) (λ item link. refl) s at

  pub before_changes : (s : Slab (Node T)) (list : ℕ) (at before : Option ℕ) → Changes (parts list s.slots) (parts list (link_put s list (with_before before) at).slots) at (before_as before)
  before_changes s list at before = link_changes list (with_before before) (λ link. refl) (before_as before) (λ item link. refl) s at
