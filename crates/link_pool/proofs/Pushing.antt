-- How the lists of a pool grow by an item.
use Rattle.std.proofs.Common.{◌≡◌, ◌≢◌, ◌⊎◌, ℕ, ◌+◌, ◌<◌, ◌≤◌, List, [], ◌∷◌, ◌++◌, length, get_or, Option, Some, None, option_map, refl, sym, ap, subst, ◌∙◌, inl, inr, arith}
use Rattle.std.proofs.lemmas.Bool.{cases_eq, eq-eqb, ne_eqb}
use Rattle.std.proofs.lemmas.List.{length-set, get_or-set_same, get_or-set_other}
use Rattle.slab.specs.Slab.{Slab, get, slab_len, Updates}
use Rattle.link_pool.specs.declared.node.Node.{Node}
use Rattle.link_pool.specs.declared.node.Ends.{Ends}
use Rattle.link_pool.specs.Lists.{item_of, rows_of, put_last, pushed}
use Rattle.link_pool.specs.Chain.{slot_at}
use Rattle.link_pool.specs.Nodes.{link_of}
use Rattle.link_pool.specs.Slots.{linked, part, parts, lists_of, room_of, IsSecond, IsPlaced, IsStanding}
use Rattle.link_pool.specs.Steps.{other_than, alone, node_for, attached, ends_attached, also_attached, also_longer}
use Rattle.link_pool.proofs.Chains.{holds_same}
use Rattle.link_pool.proofs.Held.{masked, masked_here, masked_there}
use Rattle.link_pool.proofs.Parts.{part_at, link_main, link_second, of_list_at, of_list_apart}
use Rattle.link_pool.proofs.Standing.{ArePlaced, Stands, At, Loose, at_kept, loose_kept, stands_at, stands_by, standing_as}
use Rattle.link_pool.proofs.Whole.{no_item}
use Rattle.link_pool.proofs.Attaching.{attached_length, attached_ends_apart, attached_apart, attached_placed, attached_size, attached_capacity, attach_at}

abbrev pub IsOther : ℕ → ℕ → Option ℕ → Type 0
IsOther lists list None = Unit {0}
IsOther lists list (Some other) = (other < lists) × (other ≢ list)

pub other_is : (lists list : ℕ) (second : Option ℕ) → ((other : ℕ) → second ≡ Some other → other < lists) → IsOther lists list (other_than list second)
other_is lists list None within = tt
other_is lists list (Some other) within = by_place (cases_eq other list)
  where
    by_place : (other ≡ list) ⊎ (other ≢ list) → IsOther lists list (other_than list (Some other))
    by_place (inl same) = rw (eq-eqb other list same) tt
    by_place (inr apart) = rw (ne_eqb other list apart) (within other refl, apart)

also_length : (other : Option ℕ) (key : ℕ) (all : List Ends) → length (also_longer other key all) ≡ length all
also_length None key all = refl
also_length (Some list) key all = attached_length list key all

module _ {T : Type 0} where
  -- the lists with a row more, last in one of them and in another, where there is one
  abbrev pub pushed_in : ℕ → Option ℕ → ℕ × T → List (List (ℕ × T)) → List (List (ℕ × T))
  pushed_in list None row lists = put_last list row lists
  pushed_in list (Some other) row lists = put_last other row (put_last list row lists)

  pub pushed_is : (list : ℕ) (second : Option ℕ) (row : ℕ × T) (lists : List (List (ℕ × T))) → pushed list second row lists ≡ pushed_in list (other_than list second) row lists
  pushed_is list None row lists = refl
  pushed_is list (Some other) row lists = by_place (cases_eq other list)
    where
      by_place : (other ≡ list) ⊎ (other ≢ list) → pushed list (Some other) row lists ≡ pushed_in list (other_than list (Some other)) row lists
      by_place (inl same) = rw (eq-eqb other list same) refl
      by_place (inr apart) = rw (ne_eqb other list apart) refl

  last_same : (list : ℕ) (row : ℕ × T) (lists : List (List (ℕ × T))) → list < length lists → rows_of list (put_last list row lists) ≡ rows_of list lists ++ row ∷ []
  last_same list row lists below = get_or-set_same lists list (rows_of list lists ++ row ∷ []) [] below

  last_other : (list j : ℕ) (row : ℕ × T) (lists : List (List (ℕ × T))) → j ≢ list → rows_of j (put_last list row lists) ≡ rows_of j lists
  last_other list j row lists apart = get_or-set_other lists list j (rows_of list lists ++ row ∷ []) [] apart

  pub length_pushed_in : (list : ℕ) (other : Option ℕ) (row : ℕ × T) (lists : List (List (ℕ × T))) → length (pushed_in list other row lists) ≡ length lists
  length_pushed_in list None row lists = length-set lists list (rows_of list lists ++ row ∷ [])
  length_pushed_in list (Some other) row lists =
      length-set (put_last list row lists) other (rows_of other (put_last list row lists) ++ row ∷ []) ∙ length-set lists list (rows_of list lists ++ row ∷ [])

  also_attached_placed : (other : Option ℕ) (key : ℕ) (all : List Ends) (s : Slab (Node T)) (lists : ℕ) → ArePlaced s.slots lists → ArePlaced (also_attached other key all s).slots lists
  also_attached_placed None key all s lists placed = placed
  also_attached_placed (Some list) key all s lists placed = attached_placed list key all s lists placed

  also_attached_size : (other : Option ℕ) (key : ℕ) (all : List Ends) (s : Slab (Node T)) → slab_len (also_attached other key all s) ≡ slab_len s
  also_attached_size None key all s = refl
  also_attached_size (Some list) key all s = attached_size list key all s

  also_attached_capacity : (other : Option ℕ) (key : ℕ) (all : List Ends) (s : Slab (Node T)) → (also_attached other key all s).capacity ≡ s.capacity
  also_attached_capacity None key all s = refl
  also_attached_capacity (Some list) key all s = attached_capacity list key all s

  pub push_size : (list : ℕ) (other : Option ℕ) (key : ℕ) (all : List Ends) (s : Slab (Node T)) → slab_len (also_attached other key (ends_attached list key all) (attached list key all s)) ≡ slab_len s
  push_size list other key all s = also_attached_size other key (ends_attached list key all) (attached list key all s) ∙ attached_size list key all s

  pub push_capacity : (list : ℕ) (other : Option ℕ) (key : ℕ) (all : List Ends) (s : Slab (Node T)) → (also_attached other key (ends_attached list key all) (attached list key all s)).capacity ≡ s.capacity
  push_capacity list other key all s = also_attached_capacity other key (ends_attached list key all) (attached list key all s) ∙ attached_capacity list key all s

  module _ (s0 s1 : Slab (Node T)) (all : List Ends) (lists : List (List (ℕ × T))) (list key : ℕ) (item : T) (h : Stands s0.slots all lists) (below : list < length all) (free : get s0 key ≡ None) where
    abbrev row : ℕ × T
    row = (key, item)

    was_free : (j : ℕ) → slot_at (parts j s0.slots) key ≡ None
    was_free j = part_at j s0.slots key ∙ ap (part j) free

    module _ (other : Option ℕ) (updates : Updates s0 s1 key (Some (node_for item list other))) where
      now_at : (j : ℕ) → slot_at (parts j s1.slots) key ≡ part j (Some (node_for item list other))
      now_at j = part_at j s1.slots key ∙ ap (part j) updates.changed

      kept : (j k : ℕ) → k ≢ key → slot_at (parts j s1.slots) k ≡ slot_at (parts j s0.slots) k
      kept j k differs = part_at j s1.slots k ∙ ap (part j) (updates.others k differs) ∙ sym (part_at j s0.slots k)

      loose_now : (j : ℕ) → j < length all → Loose key s1.slots all j (rows_of j lists)
      loose_now j inside =
          let a = stands_at s0.slots all lists j h inside in
          record { ends = a.ends; there = a.there; holds = holds_same (parts j s0.slots) (masked key (parts j s1.slots)) (rows_of j lists) a.ends.first a.ends.last same a.holds }
        where
          same : (k : ℕ) → slot_at (masked key (parts j s1.slots)) k ≡ slot_at (parts j s0.slots) k
          same k =
              elim (cases_eq k key) [
                | inl here ↦ subst (λ i. slot_at (masked key (parts j s1.slots)) i ≡ slot_at (parts j s0.slots) i) (sym here) (masked_here (parts j s1.slots) key ∙ sym (was_free j))
                | inr differs ↦ masked_there (parts j s1.slots) key k differs ∙ kept j k differs
              ]

      firm_now : (j : ℕ) → j < length all → link_of j (node_for item list other) ≡ None → At s1.slots all j (rows_of j lists)
      firm_now j inside none = at_kept s0.slots s1.slots all all j (rows_of j lists) same refl (stands_at s0.slots all lists j h inside)
        where
          same : (k : ℕ) → slot_at (parts j s1.slots) k ≡ slot_at (parts j s0.slots) k
          same k =
              elim (cases_eq k key) [
                | inl here ↦ subst (λ i. slot_at (parts j s1.slots) i ≡ slot_at (parts j s0.slots) i) (sym here) (now_at j ∙ ap (option_map (linked item)) none ∙ sym (was_free j))
                | inr differs ↦ kept j k differs
              ]

      -- the first list, once the node is attached to it
      first_at : At (attached list key all s1).slots (ends_attached list key all) list (rows_of list (put_last list row lists))
      first_at =
          subst (At (attached list key all s1).slots (ends_attached list key all) list) (sym (last_same list row lists (subst (λ n. list < n) (sym h.many) below)))
          (attach_at s1 all list key (rows_of list lists) (linked item (alone list)) (loose_now list below) (now_at list ∙ ap (option_map (linked item)) (link_main list (node_for item list other) refl)))

      -- and each list in which the node has no place
      others_at : (j : ℕ) → j < length all → j ≢ list → link_of j (node_for item list other) ≡ None → At (attached list key all s1).slots (ends_attached list key all) j (rows_of j (put_last list row lists))
      others_at j inside apart none =
          subst (At (attached list key all s1).slots (ends_attached list key all) j) (sym (last_other list j row lists apart))
          (at_kept s1.slots (attached list key all s1).slots all (ends_attached list key all) j (rows_of j lists) (λ k. attached_apart list key all s1 j k apart) (attached_ends_apart list key j all apart) (firm_now j inside none))

      placed_now : IsOther (length all) list other → ArePlaced s1.slots (length all)
      placed_now is k n there =
          elim (cases_eq k key) [
            | inl here ↦ let now = subst (λ i. get_or s1.slots i None ≡ Some n) here there in let changed = updates.changed in let both : node_for item list other ≡ n = cc in subst (IsPlaced (length all)) both (below, second_placed other is)
            | inr differs ↦ h.placed k n (sym (updates.others k differs) ∙ there)
          ]
        where
          second_placed : (o : Option ℕ) → IsOther (length all) list o → IsSecond (length all) list (option_map alone o)
          second_placed None p = tt
          second_placed (Some o) p = p

    one_each : Updates s0 s1 key (Some (node_for item list None)) → (j : ℕ) → j < length all → At (attached list key all s1).slots (ends_attached list key all) j (rows_of j (put_last list row lists))
    one_each updates j inside =
        elim (cases_eq j list) [
          | inl here ↦ subst (λ i. At (attached list key all s1).slots (ends_attached list key all) i (rows_of i (put_last list row lists))) (sym here) (first_at None updates)
          | inr apart ↦ others_at None updates j inside apart (link_second j (node_for item list None) (λ e. apart (sym e)))
        ]

    two_each : (other : ℕ) → other < length all → other ≢ list → Updates s0 s1 key (Some (node_for item list (Some other))) → (j : ℕ) → j < length all → At (attached other key (ends_attached list key all) (attached list key all s1)).slots (ends_attached other key (ends_attached list key all)) j (rows_of j (put_last other row (put_last list row lists)))
    two_each other inside_other two updates j inside = by_place (cases_eq j other) (cases_eq j list)
      where
        node_is : slot_at (parts other (attached list key all s1).slots) key ≡ Some (linked item (alone other))
        node_is =
            attached_apart list key all s1 other key two ∙ now_at (Some other) updates other
            ∙ ap (option_map (linked item)) (link_second other (node_for item list (Some other)) (λ e. two (sym e)) ∙ of_list_at other (alone other) refl)

        loose_other : Loose key (attached list key all s1).slots (ends_attached list key all) other (rows_of other lists)
        loose_other =
            loose_kept s1.slots (attached list key all s1).slots all (ends_attached list key all) key other (rows_of other lists) (λ k. attached_apart list key all s1 other k two) (attached_ends_apart list key other all two) (loose_now (Some other) updates other inside_other)

        many_lists : other < length (put_last list row lists)
        many_lists = subst (λ n. other < n) (sym (length-set lists list (rows_of list lists ++ row ∷ []) ∙ h.many)) inside_other

        here_other : At (attached other key (ends_attached list key all) (attached list key all s1)).slots (ends_attached other key (ends_attached list key all)) other (rows_of other (put_last other row (put_last list row lists)))
        here_other =
            subst (At (attached other key (ends_attached list key all) (attached list key all s1)).slots (ends_attached other key (ends_attached list key all)) other)
            (sym (last_same other row (put_last list row lists) many_lists ∙ ap (λ rows. rows ++ row ∷ []) (last_other list other row lists two)))
            (attach_at (attached list key all s1) (ends_attached list key all) other key (rows_of other lists) (linked item (alone other)) loose_other node_is)

        apart_other : j ≢ other → At (attached list key all s1).slots (ends_attached list key all) j (rows_of j (put_last list row lists)) → At (attached other key (ends_attached list key all) (attached list key all s1)).slots (ends_attached other key (ends_attached list key all)) j (rows_of j (put_last other row (put_last list row lists)))
        apart_other apart a =
            subst (At (attached other key (ends_attached list key all) (attached list key all s1)).slots (ends_attached other key (ends_attached list key all)) j) (sym (last_other other j row (put_last list row lists) apart))
            (at_kept (attached list key all s1).slots (attached other key (ends_attached list key all) (attached list key all s1)).slots (ends_attached list key all) (ends_attached other key (ends_attached list key all)) j (rows_of j (put_last list row lists)) (λ k. attached_apart other key (ends_attached list key all) (attached list key all s1) j k apart) (attached_ends_apart other key j (ends_attached list key all) apart) a)

        by_place : (j ≡ other) ⊎ (j ≢ other) → (j ≡ list) ⊎ (j ≢ list) → At (attached other key (ends_attached list key all) (attached list key all s1)).slots (ends_attached other key (ends_attached list key all)) j (rows_of j (put_last other row (put_last list row lists)))
        by_place (inl here) _ =
            subst (λ i. At (attached other key (ends_attached list key all) (attached list key all s1)).slots (ends_attached other key (ends_attached list key all)) i (rows_of i (put_last other row (put_last list row lists)))) (sym here) here_other
        by_place (inr apart) (inl first) =
            apart_other apart (subst (λ i. At (attached list key all s1).slots (ends_attached list key all) i (rows_of i (put_last list row lists))) (sym first) (first_at (Some other) updates))
        by_place (inr apart) (inr differs) =
            apart_other apart (others_at (Some other) updates j inside differs
            (link_second j (node_for item list (Some other)) (λ e. differs (sym e)) ∙ of_list_apart j (alone other) (λ e. apart (sym e))))

    each_by : (other : Option ℕ) → IsOther (length all) list other → Updates s0 s1 key (Some (node_for item list other)) → (j : ℕ) → j < length all → At (also_attached other key (ends_attached list key all) (attached list key all s1)).slots (also_longer other key (ends_attached list key all)) j (rows_of j (pushed_in list other row lists))
    each_by None is updates j inside = one_each updates j inside
    each_by (Some other) is updates j inside = two_each other is.0 is.1 updates j inside

    many_ends : (other : Option ℕ) → length (also_longer other key (ends_attached list key all)) ≡ length all
    many_ends other = also_length other key (ends_attached list key all) ∙ attached_length list key all

    pub push_stands : (other : Option ℕ) → IsOther (length all) list other → Updates s0 s1 key (Some (node_for item list other)) → Stands (also_attached other key (ends_attached list key all) (attached list key all s1)).slots (also_longer other key (ends_attached list key all)) (pushed_in list other (key, item) lists)
    push_stands other is updates =
        stands_by (also_attached other key (ends_attached list key all) (attached list key all s1)).slots (also_longer other key (ends_attached list key all)) (pushed_in list other row lists)
        (length_pushed_in list other row lists ∙ h.many ∙ sym (many_ends other))
        (λ j inside. each_by other is updates j (subst (λ n. j < n) (many_ends other) inside))
        (subst (ArePlaced (also_attached other key (ends_attached list key all) (attached list key all s1)).slots) (sym (many_ends other))
        (also_attached_placed other key (ends_attached list key all) (attached list key all s1) (length all) (attached_placed list key all s1 (length all) (placed_now other updates is))))

  -- ---- as the code goes

  pub push_done : (s0 s1 sa sb : Slab (Node T)) (all alla allb : List Ends) (lists : List (List (ℕ × T))) (list key : ℕ) (second other : Option ℕ) (item : T) (node : Node T) → IsStanding s0.slots all → lists_of s0.slots all ≡ lists → list < length lists → ((o : ℕ) → second ≡ Some o → o < length lists) → other ≡ other_than list second → node ≡ node_for item list other → get s0 key ≡ None → Updates s0 s1 key (Some node) → sa ≡ attached list key all s1 → alla ≡ ends_attached list key all → sb ≡ also_attached other key alla sa → allb ≡ also_longer other key alla → Stands sb.slots allb (pushed list second (key, item) lists)
  push_done s0 s1 sa sb all alla allb lists list key second other item node h seen below within other_is_so node_is free updates sa_is alla_is sb_is allb_is =
      let stands : Stands s0.slots all lists = standing_as s0.slots all lists h seen in
      let many = stands.many in
      rw (sb_is, allb_is, sa_is, alla_is, pushed_is list second (key, item) lists, ← other_is_so)
      (push_stands s0 s1 all lists list key item stands (subst (λ n. list < n) many below) free other
      (subst (IsOther (length all) list) (sym other_is_so) (other_is (length all) list second (λ o is. subst (λ n. o < n) many (within o is))))
      (subst (λ (n : Node T). Updates s0 s1 key (Some n)) node_is updates))

  pub push_fresh : (s : Slab (Node T)) (all : List Ends) (lists : List (List (ℕ × T))) (key : ℕ) → IsStanding s.slots all → lists_of s.slots all ≡ lists → get s key ≡ None → item_of key lists ≡ None
  push_fresh s all lists key h seen free = no_item s all lists (standing_as s.slots all lists h seen) key free

  pub push_room : (s0 s1 sa sb : Slab (Node T)) (all alla : List Ends) (list key : ℕ) (other : Option ℕ) → slab_len s1 ≡ slab_len s0 + 1 → s0.capacity ≤ s1.capacity → sa ≡ attached list key all s1 → alla ≡ ends_attached list key all → sb ≡ also_attached other key alla sa → room_of s0 ≤ room_of sb + 1
  push_room s0 s1 sa sb all alla list key other grown capacity sa_is alla_is sb_is =
      let size : slab_len sb ≡ slab_len s1 = rw (sb_is, sa_is, alla_is) (push_size list other key all s1) in
      let wide : sb.capacity ≡ s1.capacity = rw (sb_is, sa_is, alla_is) (push_capacity list other key all s1) in
      omega (arith, grown, capacity, size, wide)

  pub push_length : (list : ℕ) (second : Option ℕ) (row : ℕ × T) (lists : List (List (ℕ × T))) → length (pushed list second row lists) ≡ length lists
  push_length list second row lists = ap length (pushed_is list second row lists) ∙ length_pushed_in list (other_than list second) row lists
