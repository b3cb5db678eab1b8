-- How the lists of a pool lose an item.
use Rattle.std.proofs.Common.{◌≡◌, ◌≢◌, ◌⊎◌, ℕ, ◌+◌, ◌<◌, ◌≤◌, List, [], length, get_or, slice_get, Option, Some, None, option_map, refl, sym, ap, subst, ◌∙◌, inl, inr, arith}
use Rattle.std.proofs.lemmas.Bool.{cases_eq}
use Rattle.std.proofs.lemmas.List.{length-map}
use Rattle.slab.specs.Slab.{Slab, get, slab_len, Updates}
use Rattle.link_pool.specs.declared.node.Node.{Node}
use Rattle.link_pool.specs.declared.node.Link.{Link}
use Rattle.link_pool.specs.declared.node.Ends.{Ends}
use Rattle.link_pool.specs.Rows.{without}
use Rattle.link_pool.specs.Lists.{rows_of, unlinked}
use Rattle.link_pool.specs.Chain.{slot_at}
use Rattle.link_pool.specs.Nodes.{link_of, of_list}
use Rattle.link_pool.specs.Slots.{linked, part, parts, lists_of, room_of, IsSecond, IsPlaced, IsStanding}
use Rattle.link_pool.specs.Steps.{detached, ends_detached, also_detached, also_shorter}
use Rattle.link_pool.proofs.Numbered.{mapped_get}
use Rattle.link_pool.proofs.Held.{free_without}
use Rattle.link_pool.proofs.Parts.{part_at, link_main, link_second, of_list_at, of_list_apart}
use Rattle.link_pool.proofs.Standing.{ArePlaced, Stands, At, at_kept, loose_firm, stands_at, stands_by, standing_as}
use Rattle.link_pool.proofs.Attaching.{detached_length, detached_ends_apart, detached_apart, detached_placed, detached_size, detached_capacity, detached_nexts, detached_befores, detach_at}

also_length : (second : Option Link) (all : List Ends) → length (also_shorter second all) ≡ length all
also_length None all = refl
also_length (Some link) all = detached_length link all

module _ {T : Type 0} where
  pub unlinked_rows : (key j : ℕ) (lists : List (List (ℕ × T))) → rows_of j (unlinked key lists) ≡ without key (rows_of j lists)
  unlinked_rows key j lists = mapped_get (without key) lists j []

  also_placed : (second : Option Link) (s : Slab (Node T)) (lists : ℕ) → ArePlaced s.slots lists → ArePlaced (also_detached second s).slots lists
  also_placed None s lists placed = placed
  also_placed (Some link) s lists placed = detached_placed link s lists placed

  also_size : (second : Option Link) (s : Slab (Node T)) → slab_len (also_detached second s) ≡ slab_len s
  also_size None s = refl
  also_size (Some link) s = detached_size link s

  also_capacity : (second : Option Link) (s : Slab (Node T)) → (also_detached second s).capacity ≡ s.capacity
  also_capacity None s = refl
  also_capacity (Some link) s = detached_capacity link s

  pub unlink_size : (main : Link) (second : Option Link) (s : Slab (Node T)) → slab_len (also_detached second (detached main s)) ≡ slab_len s
  unlink_size main second s = also_size second (detached main s) ∙ detached_size main s

  pub unlink_capacity : (main : Link) (second : Option Link) (s : Slab (Node T)) → (also_detached second (detached main s)).capacity ≡ s.capacity
  unlink_capacity main second s = also_capacity second (detached main s) ∙ detached_capacity main s

  module _ (s0 s1 : Slab (Node T)) (all : List Ends) (lists : List (List (ℕ × T))) (key : ℕ) (node : Node T) (h : Stands s0.slots all lists) (found : get s0 key ≡ Some node) (updates : Updates s0 s1 key None) where
    gone : (j : ℕ) → slot_at (parts j s1.slots) key ≡ None
    gone j = part_at j s1.slots key ∙ ap (part j) updates.changed

    kept : (j k : ℕ) → k ≢ key → slot_at (parts j s1.slots) k ≡ slot_at (parts j s0.slots) k
    kept j k differs = part_at j s1.slots k ∙ ap (part j) (updates.others k differs) ∙ sym (part_at j s0.slots k)

    was : (j : ℕ) → slot_at (parts j s0.slots) key ≡ option_map (linked node.item) (link_of j node)
    was j = part_at j s0.slots key ∙ ap (part j) found

    placed : IsPlaced (length all) node
    placed = h.placed key node found

    placed_now : ArePlaced s1.slots (length all)
    placed_now k n there =
        elim (cases_eq k key) [
          | inl here ↦ absurd (let now = subst (λ i. get_or s1.slots i None ≡ Some n) here there in let none = updates.changed in cc)
          | inr differs ↦ h.placed k n (sym (updates.others k differs) ∙ there)
        ]

    -- a list in which the node has no place
    free_at : (j : ℕ) → j < length all → link_of j node ≡ None → At s1.slots all j (without key (rows_of j lists))
    free_at j inside none =
        let a = stands_at s0.slots all lists j h inside in
        let free : slot_at (parts j s0.slots) key ≡ None = was j ∙ ap (option_map (linked node.item)) none in
        subst (At s1.slots all j) (sym (free_without (parts j s0.slots) (rows_of j lists) a.ends.first a.ends.last key a.holds free))
        (at_kept s0.slots s1.slots all all j (rows_of j lists) (same free) refl a)
      where
        same : slot_at (parts j s0.slots) key ≡ None → (k : ℕ) → slot_at (parts j s1.slots) k ≡ slot_at (parts j s0.slots) k
        same free k =
            elim (cases_eq k key) [
              | inl here ↦ subst (λ i. slot_at (parts j s1.slots) i ≡ slot_at (parts j s0.slots) i) (sym here) (gone j ∙ sym free)
              | inr differs ↦ kept j k differs
            ]

    -- a link of the node is detached
    detach_one : (s : Slab (Node T)) (now : List Ends) (link : Link) → link.list < length all → link_of link.list node ≡ Some link → ((k : ℕ) → slot_at (parts link.list s.slots) k ≡ slot_at (parts link.list s1.slots) k) → slice_get now link.list ≡ slice_get all link.list → At (detached link s).slots (ends_detached link now) link.list (without key (rows_of link.list lists))
    detach_one s now link inside is same ends =
        loose_firm (detached link s).slots (ends_detached link now) key link.list (without key (rows_of link.list lists))
        ((detached_befores link s).vacant key ((detached_nexts link s).vacant key (same key ∙ gone link.list)))
        (detach_at s0 s all now link key node.item (rows_of link.list lists) (stands_at s0.slots all lists link.list h inside) ends
        (was link.list ∙ ap (option_map (linked node.item)) is)
        (λ k differs. same k ∙ kept link.list k differs))

    main_at : At (detached node.main s1).slots (ends_detached node.main all) node.main.list (without key (rows_of node.main.list lists))
    main_at = detach_one s1 all node.main placed.0 (link_main node.main.list node refl) (λ k. refl) refl

    main_apart : (j : ℕ) (rows : List (ℕ × T)) → j ≢ node.main.list → At s1.slots all j rows → At (detached node.main s1).slots (ends_detached node.main all) j rows
    main_apart j rows apart a =
        at_kept s1.slots (detached node.main s1).slots all (ends_detached node.main all) j rows (λ k. detached_apart node.main s1 j k apart) (detached_ends_apart node.main j all apart) a

    one_each : node.second ≡ None → (j : ℕ) → j < length all → At (detached node.main s1).slots (ends_detached node.main all) j (without key (rows_of j lists))
    one_each alone j inside =
        elim (cases_eq j node.main.list) [
          | inl here ↦ subst (λ i. At (detached node.main s1).slots (ends_detached node.main all) i (without key (rows_of i lists))) (sym here) main_at
          | inr apart ↦ main_apart j (without key (rows_of j lists)) apart (free_at j inside (link_second j node (λ e. apart (sym e)) ∙ ap (of_list j) alone))
        ]

    two_each : (link : Link) → node.second ≡ Some link → link.list < length all → link.list ≢ node.main.list → (j : ℕ) → j < length all → At (detached link (detached node.main s1)).slots (ends_detached link (ends_detached node.main all)) j (without key (rows_of j lists))
    two_each link is inside_link two j inside = by_place (cases_eq j link.list) (cases_eq j node.main.list)
      where
        link_at : At (detached link (detached node.main s1)).slots (ends_detached link (ends_detached node.main all)) link.list (without key (rows_of link.list lists))
        link_at =
            detach_one (detached node.main s1) (ends_detached node.main all) link inside_link
            (link_second link.list node (λ e. two (sym e)) ∙ ap (of_list link.list) is ∙ of_list_at link.list link refl)
            (λ k. detached_apart node.main s1 link.list k two) (detached_ends_apart node.main link.list all two)

        link_apart : j ≢ link.list → At (detached node.main s1).slots (ends_detached node.main all) j (without key (rows_of j lists)) → At (detached link (detached node.main s1)).slots (ends_detached link (ends_detached node.main all)) j (without key (rows_of j lists))
        link_apart apart a =
            at_kept (detached node.main s1).slots (detached link (detached node.main s1)).slots (ends_detached node.main all) (ends_detached link (ends_detached node.main all)) j (without key (rows_of j lists)) (λ k. detached_apart link (detached node.main s1) j k apart) (detached_ends_apart link j (ends_detached node.main all) apart) a

        by_place : (j ≡ link.list) ⊎ (j ≢ link.list) → (j ≡ node.main.list) ⊎ (j ≢ node.main.list) → At (detached link (detached node.main s1)).slots (ends_detached link (ends_detached node.main all)) j (without key (rows_of j lists))
        by_place (inl here) _ =
            subst (λ i. At (detached link (detached node.main s1)).slots (ends_detached link (ends_detached node.main all)) i (without key (rows_of i lists))) (sym here) link_at
        by_place (inr apart) (inl first) =
            link_apart apart (subst (λ i. At (detached node.main s1).slots (ends_detached node.main all) i (without key (rows_of i lists))) (sym first) main_at)
        by_place (inr apart) (inr differs) =
            link_apart apart (main_apart j (without key (rows_of j lists)) differs
            (free_at j inside (link_second j node (λ e. differs (sym e)) ∙ ap (of_list j) is ∙ of_list_apart j link (λ e. apart (sym e)))))

    each_by : (second : Option Link) → node.second ≡ second → IsSecond (length all) node.main.list second → (j : ℕ) → j < length all → At (also_detached second (detached node.main s1)).slots (also_shorter second (ends_detached node.main all)) j (without key (rows_of j lists))
    each_by None is p j inside = one_each is j inside
    each_by (Some link) is p j inside = two_each link is p.0 p.1 j inside

    many_ends : length (also_shorter node.second (ends_detached node.main all)) ≡ length all
    many_ends = also_length node.second (ends_detached node.main all) ∙ detached_length node.main all

    pub unlink_stands : Stands (also_detached node.second (detached node.main s1)).slots (also_shorter node.second (ends_detached node.main all)) (unlinked key lists)
    unlink_stands =
        stands_by (also_detached node.second (detached node.main s1)).slots (also_shorter node.second (ends_detached node.main all)) (unlinked key lists)
        (length-map lists (without key) ∙ h.many ∙ sym many_ends)
        (λ j inside. subst (At (also_detached node.second (detached node.main s1)).slots (also_shorter node.second (ends_detached node.main all)) j) (sym (unlinked_rows key j lists))
        (each_by node.second refl placed.1 j (subst (λ n. j < n) many_ends inside)))
        (subst (ArePlaced (also_detached node.second (detached node.main s1)).slots) (sym many_ends)
        (also_placed node.second (detached node.main s1) (length all) (detached_placed node.main s1 (length all) placed_now)))

  -- ---- as the code goes

  pub unlink_done : (s0 s1 sa sb : Slab (Node T)) (all alla allb : List Ends) (lists : List (List (ℕ × T))) (key : ℕ) (node : Node T) → IsStanding s0.slots all → lists_of s0.slots all ≡ lists → get s0 key ≡ Some node → Updates s0 s1 key None → sa ≡ detached node.main s1 → alla ≡ ends_detached node.main all → sb ≡ also_detached node.second sa → allb ≡ also_shorter node.second alla → Stands sb.slots allb (unlinked key lists)
  unlink_done s0 s1 sa sb all alla allb lists key node h seen found updates sa_is alla_is sb_is allb_is =
      rw (sb_is, allb_is, sa_is, alla_is)
      (unlink_stands s0 s1 all lists key node (standing_as s0.slots all lists h seen) found updates)

  pub unlink_room : (s0 s1 sa sb : Slab (Node T)) (main : Link) (second : Option Link) → slab_len s1 + 1 ≡ slab_len s0 → s1.capacity ≡ s0.capacity → slab_len s1 + 1 ≤ s1.capacity → sa ≡ detached main s1 → sb ≡ also_detached second sa → room_of sb ≡ room_of s0 + 1
  unlink_room s0 s1 sa sb main second less capacity fits sa_is sb_is =
      let size : slab_len sb ≡ slab_len s1 = rw (sb_is, sa_is) (unlink_size main second s1) in
      let wide : sb.capacity ≡ s1.capacity = rw (sb_is, sa_is) (unlink_capacity main second s1) in
      omega (arith, less, capacity, fits, size, wide)
