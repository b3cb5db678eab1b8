-- How an item becomes the last of a list.
use Rattle.std.proofs.Common.{◌≡◌, ◌≢◌, ◌⊎◌, ℕ, ◌-◌, ◌<◌, List, [], ◌∷◌, ◌++◌, length, set, Option, Some, None, refl, sym, ap, subst, ◌∙◌, inl, inr}
use Rattle.std.proofs.lemmas.Bool.{cases_eq}
use Rattle.std.proofs.lemmas.List.{length-set, get_or-set_same, get_or-set_other}
use Rattle.slab.specs.Slab.{Slab, slab_len}
use Rattle.link_pool.specs.declared.node.Node.{Node}
use Rattle.link_pool.specs.declared.node.Link.{Link}
use Rattle.link_pool.specs.declared.node.Ends.{Ends}
use Rattle.link_pool.specs.Rows.{without, item_at}
use Rattle.link_pool.specs.Lists.{rows_of, put_behind, moved_last}
use Rattle.link_pool.specs.Chain.{Linked, slot_at}
use Rattle.link_pool.specs.Nodes.{link_in}
use Rattle.link_pool.specs.Slots.{linked, parts, lists_of, room_of, IsStanding}
use Rattle.link_pool.specs.Steps.{with_next, link_put, attached, ends_attached, detached, ends_detached}
use Rattle.link_pool.proofs.Chains.{next_as, before_as}
use Rattle.link_pool.proofs.Held.{item_kept}
use Rattle.link_pool.proofs.Whole.{linked_there}
use Rattle.link_pool.proofs.Standing.{ArePlaced, Stands, At, Loose, at_kept, stands_at, stands_by, standing_as}
use Rattle.link_pool.proofs.Attaching.{attached_length, attached_ends_apart, attached_apart, attached_placed, attached_size, attached_capacity, attach_at, detached_length, detached_ends_apart, detached_apart, detached_placed, detached_size, detached_capacity, detached_nexts, detached_befores, detach_at}

module _ {T : Type 0} where
  pub move_size : (link : Link) (list key : ℕ) (all : List Ends) (s : Slab (Node T)) → slab_len (attached list key all (detached link s)) ≡ slab_len s
  move_size link list key all s = attached_size list key all (detached link s) ∙ detached_size link s

  pub move_capacity : (link : Link) (list key : ℕ) (all : List Ends) (s : Slab (Node T)) → (attached list key all (detached link s)).capacity ≡ s.capacity
  move_capacity link list key all s = attached_capacity list key all (detached link s) ∙ detached_capacity link s

  module _ (s : Slab (Node T)) (all : List Ends) (lists : List (List (ℕ × T))) (key : ℕ) (item : T) (link : Link) (h : Stands s.slots all lists) (below : link.list < length all) (there : slot_at (parts link.list s.slots) key ≡ Some (linked item link)) where
    loose_out : Loose key (detached link s).slots (ends_detached link all) link.list (without key (rows_of link.list lists))
    loose_out = detach_at s s all all link key item (rows_of link.list lists) (stands_at s.slots all lists link.list h below) refl there (λ k differs. refl)

    abbrev lists_now : List (List (ℕ × T))
    lists_now = set lists link.list (without key (rows_of link.list lists) ++ (key, item) ∷ [])

    rows_here : rows_of link.list lists_now ≡ without key (rows_of link.list lists) ++ (key, item) ∷ []
    rows_here = get_or-set_same lists link.list (without key (rows_of link.list lists) ++ (key, item) ∷ []) [] (subst (λ n. link.list < n) (sym h.many) below)

    -- the node is still there, with its item
    still : (n : Linked T) × (slot_at (parts link.list (detached link s).slots) key ≡ Some n) × (n.item ≡ item)
    still =
        let first = item_kept (parts link.list s.slots) (parts link.list (link_put s link.list (with_next link.next) link.before).slots) link.before (next_as link.next) (λ n. refl) (detached_nexts link s) key (linked item link) there in
        let second = item_kept (parts link.list (link_put s link.list (with_next link.next) link.before).slots) (parts link.list (detached link s).slots) link.next (before_as link.before) (λ n. refl) (detached_befores link s) key first.0 first.1 in
        (second.0, second.1, second.2 ∙ first.2)

    here_at : At (attached link.list key (ends_detached link all) (detached link s)).slots (ends_attached link.list key (ends_detached link all)) link.list (rows_of link.list lists_now)
    here_at =
        subst (At (attached link.list key (ends_detached link all) (detached link s)).slots (ends_attached link.list key (ends_detached link all)) link.list)
        (ap (λ i. without key (rows_of link.list lists) ++ (key, i) ∷ []) still.2 ∙ sym rows_here)
        (attach_at (detached link s) (ends_detached link all) link.list key (without key (rows_of link.list lists)) still.0 loose_out still.1)

    apart_at : (j : ℕ) → j < length all → j ≢ link.list → At (attached link.list key (ends_detached link all) (detached link s)).slots (ends_attached link.list key (ends_detached link all)) j (rows_of j lists_now)
    apart_at j inside apart =
        subst (At (attached link.list key (ends_detached link all) (detached link s)).slots (ends_attached link.list key (ends_detached link all)) j)
        (sym (get_or-set_other lists link.list j (without key (rows_of link.list lists) ++ (key, item) ∷ []) [] apart))
        (at_kept s.slots (attached link.list key (ends_detached link all) (detached link s)).slots all (ends_attached link.list key (ends_detached link all)) j (rows_of j lists)
        (λ k. attached_apart link.list key (ends_detached link all) (detached link s) j k apart ∙ detached_apart link s j k apart)
        (attached_ends_apart link.list key j (ends_detached link all) apart ∙ detached_ends_apart link j all apart)
        (stands_at s.slots all lists j h inside))

    many_ends : length (ends_attached link.list key (ends_detached link all)) ≡ length all
    many_ends = attached_length link.list key (ends_detached link all) ∙ detached_length link all

    move_link : Stands (attached link.list key (ends_detached link all) (detached link s)).slots (ends_attached link.list key (ends_detached link all)) lists_now
    move_link =
        stands_by (attached link.list key (ends_detached link all) (detached link s)).slots (ends_attached link.list key (ends_detached link all)) lists_now
        (length-set lists link.list (without key (rows_of link.list lists) ++ (key, item) ∷ []) ∙ h.many ∙ sym many_ends)
        (λ j inside. by_place j (subst (λ n. j < n) many_ends inside) (cases_eq j link.list))
        (subst (ArePlaced (attached link.list key (ends_detached link all) (detached link s)).slots) (sym many_ends)
        (attached_placed link.list key (ends_detached link all) (detached link s) (length all) (detached_placed link s (length all) h.placed)))
      where
        by_place : (j : ℕ) → j < length all → (j ≡ link.list) ⊎ (j ≢ link.list) → At (attached link.list key (ends_detached link all) (detached link s)).slots (ends_attached link.list key (ends_detached link all)) j (rows_of j lists_now)
        by_place j inside (inl here) =
            subst (λ i. At (attached link.list key (ends_detached link all) (detached link s)).slots (ends_attached link.list key (ends_detached link all)) i (rows_of i lists_now)) (sym here) here_at
        by_place j inside (inr apart) = apart_at j inside apart

  -- an item that has a link in a list
  pub move_stands : (s : Slab (Node T)) (all : List Ends) (lists : List (List (ℕ × T))) (list key : ℕ) (link : Link) → Stands s.slots all lists → link_in list key lists ≡ Some link → Stands (attached list key (ends_detached link all) (detached link s)).slots (ends_attached list key (ends_detached link all)) (moved_last list key lists)
  move_stands s all lists list key link h is =
      let there = linked_there s all lists list key link h is in
      subst (λ l. Stands (attached l key (ends_detached link all) (detached link s)).slots (ends_attached l key (ends_detached link all)) (moved_last l key lists)) there.same
      (subst (λ found. Stands (attached link.list key (ends_detached link all) (detached link s)).slots (ends_attached link.list key (ends_detached link all)) (put_behind link.list key found lists)) (sym there.item_is)
      (move_link s all lists key there.item link h there.below there.slot))

  -- ---- as the code goes

  pub move_done : (s sa sb : Slab (Node T)) (all alla allb : List Ends) (lists : List (List (ℕ × T))) (list key : ℕ) (link : Link) → IsStanding s.slots all → lists_of s.slots all ≡ lists → link_in list key lists ≡ Some link → sa ≡ detached link s → alla ≡ ends_detached link all → sb ≡ attached list key alla sa → allb ≡ ends_attached list key alla → Stands sb.slots allb (moved_last list key lists)
  move_done s sa sb all alla allb lists list key link h seen is sa_is alla_is sb_is allb_is =
      rw (sb_is, allb_is, sa_is, alla_is) (move_stands s all lists list key link (standing_as s.slots all lists h seen) is)

  pub move_room : (s sa sb : Slab (Node T)) (all : List Ends) (list key : ℕ) (link : Link) → sa ≡ detached link s → sb ≡ attached list key all sa → room_of sb ≡ room_of s
  move_room s sa sb all list key link sa_is sb_is =
      let size : slab_len sb ≡ slab_len s = rw (sb_is, sa_is) (move_size link list key all s) in
      let wide : sb.capacity ≡ s.capacity = rw (sb_is, sa_is) (move_capacity link list key all s) in
      ap (λ n. n - slab_len sb) wide ∙ ap (λ n. s.capacity - n) size

  behind_length : (list key : ℕ) (found : Option T) (lists : List (List (ℕ × T))) → length (put_behind list key found lists) ≡ length lists
  behind_length list key None lists = refl
  behind_length list key (Some item) lists = length-set lists list (without key (rows_of list lists) ++ (key, item) ∷ [])

  pub move_length : (list key : ℕ) (lists : List (List (ℕ × T))) → length (moved_last list key lists) ≡ length lists
  move_length list key lists = behind_length list key (item_at key (rows_of list lists)) lists
