-- What the nodes of a pool are to its lists.
use Rattle.std.proofs.Common.{◌≡◌, ◌≢◌, ◌⊎◌, ℕ, zero, suc, ◌<◌, ◌≤◌, List, [], ◌∷◌, length, map, slice_get, Option, Some, None, is_some, option_map, refl, sym, ap, subst, ◌∙◌, inl, inr, arith}
use Rattle.std.proofs.lemmas.Bool.{cases_eq, cases_lt, eq-eqb, ne_eqb}
use Rattle.std.proofs.lemmas.List.{get_or_past}
use Rattle.std.specs.Option.{option_or}
use Rattle.slab.specs.Slab.{Slab, get}
use Rattle.link_pool.specs.declared.node.Node.{Node}
use Rattle.link_pool.specs.declared.node.Link.{Link}
use Rattle.link_pool.specs.declared.node.Ends.{Ends}
use Rattle.link_pool.specs.Rows.{Distinct, first_key, item_at, key_after, key_before, without}
use Rattle.link_pool.specs.Lists.{IsWhole, item_of, put_behind, moved_last, rows_of, unlinked}
use Rattle.link_pool.specs.Chain.{Linked, slot_at}
use Rattle.link_pool.specs.Nodes.{AreLinked, link_at, link_in, link_of, of_list}
use Rattle.link_pool.specs.Slots.{linked, part, parts, IsSecond}
use Rattle.link_pool.proofs.Numbered.{get_is}
use Rattle.link_pool.proofs.Rowed.{first_key_is}
use Rattle.link_pool.proofs.Held.{Reads, reads, free_without}
use Rattle.link_pool.proofs.Parts.{part_at, link_main, link_second, link_of_is, of_list_apart}
use Rattle.link_pool.proofs.Standing.{Stands, stands_at}

-- the next key of a link, if there is one
abbrev pub next_of : Option Link → Option ℕ
next_of None = None
next_of (Some link) = link.next

second_past : (lists list j : ℕ) (second : Option Link) → IsSecond lists list second → lists ≤ j → of_list j second ≡ None
second_past lists list j None p past = refl
second_past lists list j (Some link) p past = of_list_apart j link (λ e. absurd (omega (arith, p.0, e, past)))

some_mapped : {A B : Type 0} (f : A → B) (o : Option A) → is_some (option_map f o) ≡ is_some o
some_mapped f None = refl
some_mapped f (Some x) = refl

apart_lists : (n list : ℕ) (second : Option Link) (link : Link) → IsSecond n list second → second ≡ Some link → link.list ≢ list
apart_lists n list None link p is = absurd (cc)
apart_lists n list (Some other) link p is = let same : other ≡ link = cc in subst (λ (l : Link). l.list ≢ list) same p.1

module _ {T : Type 0} where
  no_item_after : (key : ℕ) (rows : List (ℕ × T)) → item_at key rows ≡ None → key_after key rows ≡ None
  no_item_after key [] none = refl
  no_item_after key (row ∷ rows) none = by_place (cases_eq row.0 key) (λ rest. no_item_after key rows rest)
    where
      by_place : (row.0 ≡ key) ⊎ (row.0 ≢ key) → (item_at key rows ≡ None → key_after key rows ≡ None) → key_after key (row ∷ rows) ≡ None
      by_place (inl same) then = absurd (let some : item_at key (row ∷ rows) ≡ Some row.1 = rw (eq-eqb row.0 key same) refl in cc)
      by_place (inr apart) then =
          let rest : item_at key rows ≡ None = sym (let step : item_at key (row ∷ rows) ≡ item_at key rows = rw (ne_eqb row.0 key apart) refl in step) ∙ none in
          rw (ne_eqb row.0 key apart) (then rest)

  -- the link in a list tells the key behind
  pub link_after : (list key : ℕ) (lists : List (List (ℕ × T))) → next_of (link_in list key lists) ≡ key_after key (rows_of list lists)
  link_after list key lists = by_item (item_at key (rows_of list lists)) refl
    where
      by_item : (o : Option T) → item_at key (rows_of list lists) ≡ o → next_of (option_map (λ item. link_at list key (rows_of list lists)) (item_at key (rows_of list lists))) ≡ key_after key (rows_of list lists)
      by_item None is =
          ap (λ o. next_of (option_map (λ item. link_at list key (rows_of list lists)) o)) is
          ∙ sym (no_item_after key (rows_of list lists) is)
      by_item (Some x) is =
          ap (λ o. next_of (option_map (λ item. link_at list key (rows_of list lists)) o)) is

  pub link_there : (list key : ℕ) (lists : List (List (ℕ × T))) → is_some (link_in list key lists) ≡ is_some (item_at key (rows_of list lists))
  link_there list key lists =
      some_mapped (λ item. link_at list key (rows_of list lists)) (item_at key (rows_of list lists))

  map_same : (f : List (ℕ × T) → List (ℕ × T)) (lists : List (List (ℕ × T))) → ((j : ℕ) → f (rows_of j lists) ≡ rows_of j lists) → map f lists ≡ lists
  map_same f [] each = refl
  map_same f (rows ∷ lists) each = rw (each zero) (ap (λ ls. rows ∷ ls) (map_same f lists (λ j. each (suc j))))

  -- ---- one item through all lists

  none_of : (key : ℕ) (lists : List (List (ℕ × T))) → ((j : ℕ) → item_at key (rows_of j lists) ≡ None) → item_of key lists ≡ None
  none_of key [] each = refl
  none_of key (rows ∷ lists) each =
      ap (λ o. option_or o (item_of key lists)) (each zero) ∙ none_of key lists (λ j. each (suc j))

  some_of : (key : ℕ) (lists : List (List (ℕ × T))) (x : T) → ((j : ℕ) (y : T) → item_at key (rows_of j lists) ≡ Some y → y ≡ x) → (j : ℕ) → item_at key (rows_of j lists) ≡ Some x → item_of key lists ≡ Some x
  some_of key [] x each j is = absurd (cc)
  some_of key (rows ∷ lists) x each zero is = ap (λ o. option_or o (item_of key lists)) is
  some_of key (rows ∷ lists) x each (suc j) is =
      by_item (item_at key rows) refl (some_of key lists x (λ i y at. each (suc i) y at) j is)
    where
      by_item : (o : Option T) → item_at key rows ≡ o → item_of key lists ≡ Some x → option_or (item_at key rows) (item_of key lists) ≡ Some x
      by_item None none rest = ap (λ o. option_or o (item_of key lists)) none ∙ rest
      by_item (Some y) some rest = ap (λ o. option_or o (item_of key lists)) some ∙ ap Some (each zero y some)

  -- ---- a link and what is read

  link_by : (list key : ℕ) (lists : List (List (ℕ × T))) (item : T) (o : Option Link) → ((link : Link) → o ≡ Some link → link.list ≡ list) → Reads (option_map (linked item) o) key (rows_of list lists) → o ≡ link_in list key lists
  link_by list key lists item None of_it r =
      sym (ap (option_map (λ item. link_at list key (rows_of list lists))) r.item)
  link_by list key lists item (Some link) of_it r =
      ap (λ n. Some (record { list = n; before = link.before; next = link.next })) (of_it link refl)
      ∙ ap (λ n. Some (record { list = list; before = n; next = link.next })) (sym r.before)
      ∙ ap (λ n. Some (record { list = list; before = key_before key (rows_of list lists); next = n })) (sym r.after)
      ∙ sym (ap (option_map (λ item. link_at list key (rows_of list lists))) r.item)

  items_mapped : (item : T) (o : Option Link) → option_map (λ (n : Linked T). n.item) (option_map (linked item) o) ≡ option_map (λ link. item) o
  items_mapped item None = refl
  items_mapped item (Some link) = refl

  one_item : (item y : T) (o : Option Link) → option_map (λ link. item) o ≡ Some y → y ≡ item
  one_item item y None is = absurd (cc)
  one_item item y (Some link) is = cc

  module _ (s : Slab (Node T)) (all : List Ends) (lists : List (List (ℕ × T))) (h : Stands s.slots all lists) where
    reads_at : (j key : ℕ) → j < length all → Reads (slot_at (parts j s.slots) key) key (rows_of j lists)
    reads_at j key inside =
        let a = stands_at s.slots all lists j h inside in
        reads (parts j s.slots) (rows_of j lists) a.ends.first a.ends.last key a.holds

    past : (j : ℕ) → length all ≤ j → rows_of j lists ≡ []
    past j beyond = get_or_past lists j [] (let many = h.many in omega (arith, many, beyond))

    no_link : (key : ℕ) (node : Node T) → get s key ≡ Some node → (j : ℕ) → length all ≤ j → link_of j node ≡ None
    no_link key node found j beyond =
        let p = h.placed key node found in
        link_second j node (λ e. absurd (omega (arith, p.0, e, beyond))) ∙ second_past (length all) node.main.list j node.second p.1 beyond

    slot_is : (key : ℕ) (node : Node T) → get s key ≡ Some node → (j : ℕ) → slot_at (parts j s.slots) key ≡ option_map (linked node.item) (link_of j node)
    slot_is key node found j = part_at j s.slots key ∙ ap (part j) found

    pub node_link : (key list : ℕ) (node : Node T) → get s key ≡ Some node → link_of list node ≡ link_in list key lists
    node_link key list node found = by_place (cases_lt list (length all))
      where
        by_place : (list < length all) ⊎ (length all ≤ list) → link_of list node ≡ link_in list key lists
        by_place (inl inside) =
            link_by list key lists node.item (link_of list node) (link_of_is list node)
            (subst (λ slot. Reads slot key (rows_of list lists)) (slot_is key node found list) (reads_at list key inside))
        by_place (inr beyond) =
            no_link key node found list beyond
            ∙ sym (ap (λ rows. option_map (λ item. link_at list key rows) (item_at key rows)) (past list beyond))

    -- a key that has no node has no link
    pub free_link : (key list : ℕ) → get s key ≡ None → link_in list key lists ≡ None
    free_link key list free = by_place (cases_lt list (length all))
      where
        by_place : (list < length all) ⊎ (length all ≤ list) → link_in list key lists ≡ None
        by_place (inl inside) =
            let r = subst (λ slot. Reads slot key (rows_of list lists)) (part_at list s.slots key ∙ ap (part list) free) (reads_at list key inside) in
            ap (option_map (λ item. link_at list key (rows_of list lists))) r.item
        by_place (inr beyond) =
            ap (λ rows. option_map (λ item. link_at list key rows) (item_at key rows)) (past list beyond)

    free_item : (key : ℕ) → get s key ≡ None → (j : ℕ) → item_at key (rows_of j lists) ≡ None
    free_item key free j = by_place (cases_lt j (length all))
      where
        by_place : (j < length all) ⊎ (length all ≤ j) → item_at key (rows_of j lists) ≡ None
        by_place (inl inside) = (subst (λ slot. Reads slot key (rows_of j lists)) (part_at j s.slots key ∙ ap (part j) free) (reads_at j key inside)).item
        by_place (inr beyond) = ap (item_at key) (past j beyond)

    node_item : (key : ℕ) (node : Node T) → get s key ≡ Some node → (j : ℕ) → item_at key (rows_of j lists) ≡ option_map (λ link. node.item) (link_of j node)
    node_item key node found j = by_place (cases_lt j (length all))
      where
        by_place : (j < length all) ⊎ (length all ≤ j) → item_at key (rows_of j lists) ≡ option_map (λ link. node.item) (link_of j node)
        by_place (inl inside) =
            (subst (λ slot. Reads slot key (rows_of j lists)) (slot_is key node found j) (reads_at j key inside)).item ∙ items_mapped node.item (link_of j node)
        by_place (inr beyond) = ap (item_at key) (past j beyond) ∙ sym (ap (option_map (λ link. node.item)) (no_link key node found j beyond))

    pub found_item : (key : ℕ) (node : Node T) → get s key ≡ Some node → item_of key lists ≡ Some node.item
    found_item key node found =
        some_of key lists node.item (λ j y is. one_item node.item y (link_of j node) (sym (node_item key node found j) ∙ is)) node.main.list
        (node_item key node found node.main.list ∙ ap (option_map (λ link. node.item)) (link_main node.main.list node refl))

    pub no_item : (key : ℕ) → get s key ≡ None → item_of key lists ≡ None
    no_item key free = none_of key lists (free_item key free)

    pub items_are : (key : ℕ) → option_map (λ (node : Node T). node.item) (get s key) ≡ item_of key lists
    items_are key = by_node (get s key) refl
      where
        by_node : (o : Option (Node T)) → get s key ≡ o → option_map (λ (node : Node T). node.item) (get s key) ≡ item_of key lists
        by_node None free = ap (option_map (λ (node : Node T). node.item)) free ∙ sym (no_item key free)
        by_node (Some node) found = ap (option_map (λ (node : Node T). node.item)) found ∙ sym (found_item key node found)

    pub are_linked : AreLinked lists s
    are_linked =
        record {
          items = items_are;
          links = node_link;
          differ = λ key node second found is. apart_lists (length all) node.main.list node.second second (h.placed key node found).1 is;
        }

    same_item : (list key : ℕ) (item : T) → item_at key (rows_of list lists) ≡ Some item → item_of key lists ≡ Some item
    same_item list key item is = by_node (get s key) refl
      where
        by_node : (o : Option (Node T)) → get s key ≡ o → item_of key lists ≡ Some item
        by_node None free = absurd (let none = free_item key free list in cc)
        by_node (Some node) found =
            found_item key node found ∙ ap Some (sym (one_item node.item item (link_of list node) (sym (node_item key node found list) ∙ is)))

    distinct_at : (j : ℕ) → Distinct (rows_of j lists)
    distinct_at j = by_place (cases_lt j (length all))
      where
        by_place : (j < length all) ⊎ (length all ≤ j) → Distinct (rows_of j lists)
        by_place (inl inside) = (stands_at s.slots all lists j h inside).holds.distinct
        by_place (inr beyond) = subst Distinct (sym (past j beyond)) tt

    pub is_whole : IsWhole lists
    is_whole = record { distinct = distinct_at; same = same_item }

    free_rows : (key : ℕ) → get s key ≡ None → (j : ℕ) → without key (rows_of j lists) ≡ rows_of j lists
    free_rows key free j = by_place (cases_lt j (length all))
      where
        by_place : (j < length all) ⊎ (length all ≤ j) → without key (rows_of j lists) ≡ rows_of j lists
        by_place (inl inside) =
            let a = stands_at s.slots all lists j h inside in
            free_without (parts j s.slots) (rows_of j lists) a.ends.first a.ends.last key a.holds (part_at j s.slots key ∙ ap (part j) free)
        by_place (inr beyond) = ap (without key) (past j beyond) ∙ sym (past j beyond)

    -- a key that has no node stands in no list
    pub unlinked_free : (key : ℕ) → get s key ≡ None → unlinked key lists ≡ lists
    unlinked_free key free = map_same (without key) lists (free_rows key free)

    -- the first key of a list
    pub first_there : (list : ℕ) (ends : Ends) → Some ends ≡ slice_get all list → ends.first ≡ first_key (rows_of list lists)
    first_there list ends got = (h.each list ends (sym got)).begins ∙ sym (first_key_is (rows_of list lists))

    pub first_past : (list : ℕ) → None ≡ slice_get all list → None ≡ first_key (rows_of list lists)
    first_past list none = by_place (cases_lt list (length all))
      where
        by_place : (list < length all) ⊎ (length all ≤ list) → None ≡ first_key (rows_of list lists)
        by_place (inl inside) = absurd (let got = (get_is all list (record { first = None; last = None }) inside).1 in cc)
        by_place (inr beyond) = sym (ap first_key (past list beyond))

  -- what a link in a list tells of the slot
  pub record There (s : Slab (Node T)) (all : List Ends) (lists : List (List (ℕ × T))) (list key : ℕ) (link : Link) : Type 0 where
    pub item : T
    pub same : link.list ≡ list
    pub below : link.list < length all
    pub item_is : item_at key (rows_of link.list lists) ≡ Some item
    pub slot : slot_at (parts link.list s.slots) key ≡ Some (linked item link)

  pub linked_there : (s : Slab (Node T)) (all : List Ends) (lists : List (List (ℕ × T))) (list key : ℕ) (link : Link) → Stands s.slots all lists → link_in list key lists ≡ Some link → There s all lists list key link
  linked_there s all lists list key link h is = by_node (get s key) refl
    where
      by_node : (o : Option (Node T)) → get s key ≡ o → There s all lists list key link
      by_node None free = absurd (let none = free_link s all lists h key list free in cc)
      by_node (Some node) found =
          let has : link_of list node ≡ Some link = node_link s all lists h key list node found ∙ is in
          let same = link_of_is list node link has in
          let has_it : link_of link.list node ≡ Some link = subst (λ j. link_of j node ≡ Some link) (sym same) has in
          record {
            item = node.item;
            same = same;
            below = inside node found has_it (cases_lt link.list (length all));
            item_is = node_item s all lists h key node found link.list ∙ ap (option_map (λ link. node.item)) has_it;
            slot = slot_is s all lists h key node found link.list ∙ ap (option_map (linked node.item)) has_it;
          }
        where
          inside : (node : Node T) → get s key ≡ Some node → link_of link.list node ≡ Some link → (link.list < length all) ⊎ (length all ≤ link.list) → link.list < length all
          inside node found has (inl below) = below
          inside node found has (inr beyond) = absurd (let none = no_link s all lists h key node found link.list beyond in cc)

  -- no link, no move
  pub move_none : (list key : ℕ) (lists : List (List (ℕ × T))) → link_in list key lists ≡ None → moved_last list key lists ≡ lists
  move_none list key lists none = by_item (item_at key (rows_of list lists)) refl
    where
      by_item : (o : Option T) → item_at key (rows_of list lists) ≡ o → moved_last list key lists ≡ lists
      by_item None is = ap (λ o. put_behind list key o lists) is
      by_item (Some x) is =
          absurd (let there = ap is_some (sym none) ∙ link_there list key lists ∙ ap is_some is in cc)
