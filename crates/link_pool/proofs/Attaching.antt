-- What attaching and detaching a node are to each list.
use Rattle.std.proofs.Common.{◌≡◌, ◌≢◌, ℕ, List, [], ◌∷◌, ◌++◌, length, slice_get, Option, Some, None, refl, sym, subst, ◌∙◌}
use Rattle.std.proofs.lemmas.List.{length-set}
use Rattle.slab.specs.Slab.{Slab, slab_len}
use Rattle.link_pool.specs.declared.node.Node.{Node}
use Rattle.link_pool.specs.declared.node.Link.{Link}
use Rattle.link_pool.specs.declared.node.Ends.{Ends}
use Rattle.link_pool.specs.Rows.{without}
use Rattle.link_pool.specs.Chain.{Linked, slot_at, Holds}
use Rattle.link_pool.specs.Slots.{linked, parts}
use Rattle.link_pool.specs.Steps.{with_next, with_before, link_put, attached_behind, attached_at, attached, longer, ends_longer, ends_attached, detached, shorter, ends_shorter, ends_detached}
use Rattle.link_pool.proofs.Numbered.{set_same, set_other}
use Rattle.link_pool.proofs.Chains.{Changes, next_as, before_as}
use Rattle.link_pool.proofs.Held.{attach_holds, detach_holds}
use Rattle.link_pool.proofs.Parts.{next_changes, before_changes, link_apart, link_placed, link_size, link_capacity}
use Rattle.link_pool.proofs.Standing.{ArePlaced, At, Loose}

-- ---- the ends

longer_length : (list key : ℕ) (found : Option Ends) (all : List Ends) → length (ends_longer list key found all) ≡ length all
longer_length list key None all = refl
longer_length list key (Some ends) all = length-set all list (longer key ends)

pub attached_length : (list key : ℕ) (all : List Ends) → length (ends_attached list key all) ≡ length all
attached_length list key all = longer_length list key (slice_get all list) all

longer_apart : (list key j : ℕ) (found : Option Ends) (all : List Ends) → j ≢ list → slice_get (ends_longer list key found all) j ≡ slice_get all j
longer_apart list key j None all apart = refl
longer_apart list key j (Some ends) all apart = set_other all list j (longer key ends) apart

pub attached_ends_apart : (list key j : ℕ) (all : List Ends) → j ≢ list → slice_get (ends_attached list key all) j ≡ slice_get all j
attached_ends_apart list key j all apart = longer_apart list key j (slice_get all list) all apart

attached_ends : (list key : ℕ) (all : List Ends) (ends : Ends) → slice_get all list ≡ Some ends → slice_get (ends_attached list key all) list ≡ Some (longer key ends)
attached_ends list key all ends got = rw got (set_same all list ends (longer key ends) got)

shorter_length : (link : Link) (found : Option Ends) (all : List Ends) → length (ends_shorter link found all) ≡ length all
shorter_length link None all = refl
shorter_length link (Some ends) all = length-set all link.list (shorter link ends)

pub detached_length : (link : Link) (all : List Ends) → length (ends_detached link all) ≡ length all
detached_length link all = shorter_length link (slice_get all link.list) all

shorter_apart : (link : Link) (j : ℕ) (found : Option Ends) (all : List Ends) → j ≢ link.list → slice_get (ends_shorter link found all) j ≡ slice_get all j
shorter_apart link j None all apart = refl
shorter_apart link j (Some ends) all apart = set_other all link.list j (shorter link ends) apart

pub detached_ends_apart : (link : Link) (j : ℕ) (all : List Ends) → j ≢ link.list → slice_get (ends_detached link all) j ≡ slice_get all j
detached_ends_apart link j all apart = shorter_apart link j (slice_get all link.list) all apart

detached_ends : (link : Link) (all : List Ends) (ends : Ends) → slice_get all link.list ≡ Some ends → slice_get (ends_detached link all) link.list ≡ Some (shorter link ends)
detached_ends link all ends got = rw got (set_same all link.list ends (shorter link ends) got)

module _ {T : Type 0} where
  -- ---- attaching

  behind_apart : (s : Slab (Node T)) (list key : ℕ) (last : Option ℕ) (j k : ℕ) → j ≢ list → slot_at (parts j (attached_behind s list key last).slots) k ≡ slot_at (parts j s.slots) k
  behind_apart s list key last j k apart =
      link_apart list (with_next (Some key)) (λ link. refl) (link_put (link_put s list (with_before last) (Some key)) list (with_next None) (Some key)) last j k apart
      ∙ link_apart list (with_next None) (λ link. refl) (link_put s list (with_before last) (Some key)) (Some key) j k apart
      ∙ link_apart list (with_before last) (λ link. refl) s (Some key) j k apart

  attached_apart_by : (list key : ℕ) (found : Option Ends) (s : Slab (Node T)) (j k : ℕ) → j ≢ list → slot_at (parts j (attached_at list key found s).slots) k ≡ slot_at (parts j s.slots) k
  attached_apart_by list key None s j k apart = refl
  attached_apart_by list key (Some ends) s j k apart = behind_apart s list key ends.last j k apart

  pub attached_apart : (list key : ℕ) (all : List Ends) (s : Slab (Node T)) (j k : ℕ) → j ≢ list → slot_at (parts j (attached list key all s).slots) k ≡ slot_at (parts j s.slots) k
  attached_apart list key all s j k apart = attached_apart_by list key (slice_get all list) s j k apart

  behind_placed : (s : Slab (Node T)) (list key : ℕ) (last : Option ℕ) (lists : ℕ) → ArePlaced s.slots lists → ArePlaced (attached_behind s list key last).slots lists
  behind_placed s list key last lists placed =
      link_placed list (with_next (Some key)) (λ link. refl) (link_put (link_put s list (with_before last) (Some key)) list (with_next None) (Some key)) lists last
      (link_placed list (with_next None) (λ link. refl) (link_put s list (with_before last) (Some key)) lists (Some key)
      (link_placed list (with_before last) (λ link. refl) s lists (Some key) placed))

  attached_placed_by : (list key : ℕ) (found : Option Ends) (s : Slab (Node T)) (lists : ℕ) → ArePlaced s.slots lists → ArePlaced (attached_at list key found s).slots lists
  attached_placed_by list key None s lists placed = placed
  attached_placed_by list key (Some ends) s lists placed = behind_placed s list key ends.last lists placed

  pub attached_placed : (list key : ℕ) (all : List Ends) (s : Slab (Node T)) (lists : ℕ) → ArePlaced s.slots lists → ArePlaced (attached list key all s).slots lists
  attached_placed list key all s lists placed = attached_placed_by list key (slice_get all list) s lists placed

  attached_size_by : (list key : ℕ) (found : Option Ends) (s : Slab (Node T)) → slab_len (attached_at list key found s) ≡ slab_len s
  attached_size_by list key None s = refl
  attached_size_by list key (Some ends) s =
      link_size list (with_next (Some key)) (λ link. refl) (link_put (link_put s list (with_before ends.last) (Some key)) list (with_next None) (Some key)) ends.last
      ∙ link_size list (with_next None) (λ link. refl) (link_put s list (with_before ends.last) (Some key)) (Some key)
      ∙ link_size list (with_before ends.last) (λ link. refl) s (Some key)

  pub attached_size : (list key : ℕ) (all : List Ends) (s : Slab (Node T)) → slab_len (attached list key all s) ≡ slab_len s
  attached_size list key all s = attached_size_by list key (slice_get all list) s

  attached_capacity_by : (list key : ℕ) (found : Option Ends) (s : Slab (Node T)) → (attached_at list key found s).capacity ≡ s.capacity
  attached_capacity_by list key None s = refl
  attached_capacity_by list key (Some ends) s =
      link_capacity list (with_next (Some key)) (λ link. refl) (link_put (link_put s list (with_before ends.last) (Some key)) list (with_next None) (Some key)) ends.last
      ∙ link_capacity list (with_next None) (λ link. refl) (link_put s list (with_before ends.last) (Some key)) (Some key)
      ∙ link_capacity list (with_before ends.last) (λ link. refl) s (Some key)

  pub attached_capacity : (list key : ℕ) (all : List Ends) (s : Slab (Node T)) → (attached list key all s).capacity ≡ s.capacity
  attached_capacity list key all s = attached_capacity_by list key (slice_get all list) s

  -- a loose node is the last of the list
  pub attach_at : (s : Slab (Node T)) (all : List Ends) (list key : ℕ) (rows : List (ℕ × T)) (node : Linked T) → Loose key s.slots all list rows → slot_at (parts list s.slots) key ≡ Some node → At (attached list key all s).slots (ends_attached list key all) list (rows ++ (key, node.item) ∷ [])
  attach_at s all list key rows node l there =
      let before = link_put s list (with_before l.ends.last) (Some key) in
      let next = link_put before list (with_next None) (Some key) in
      record {
        ends = longer key l.ends;
        there = attached_ends list key all l.ends l.there;
        holds = subst (λ (found : Option Ends). Holds (parts list (attached_at list key found s).slots) (rows ++ (key, node.item) ∷ []) (longer key l.ends).first (longer key l.ends).last) (sym l.there)
            (attach_holds (parts list s.slots) (parts list before.slots) (parts list next.slots) (parts list (attached_behind s list key l.ends.last).slots) rows l.ends.first l.ends.last key node l.holds there
            (before_changes s list (Some key) l.ends.last)
            (next_changes before list (Some key) None)
            (next_changes next list l.ends.last (Some key)));
      }

  -- ---- detaching

  pub detached_apart : (link : Link) (s : Slab (Node T)) (j k : ℕ) → j ≢ link.list → slot_at (parts j (detached link s).slots) k ≡ slot_at (parts j s.slots) k
  detached_apart link s j k apart =
      link_apart link.list (with_before link.before) (λ link. refl) (link_put s link.list (with_next link.next) link.before) link.next j k apart
      ∙ link_apart link.list (with_next link.next) (λ link. refl) s link.before j k apart

  pub detached_placed : (link : Link) (s : Slab (Node T)) (lists : ℕ) → ArePlaced s.slots lists → ArePlaced (detached link s).slots lists
  detached_placed link s lists placed =
      link_placed link.list (with_before link.before) (λ link. refl) (link_put s link.list (with_next link.next) link.before) lists link.next
      (link_placed link.list (with_next link.next) (λ link. refl) s lists link.before placed)

  pub detached_size : (link : Link) (s : Slab (Node T)) → slab_len (detached link s) ≡ slab_len s
  detached_size link s =
      link_size link.list (with_before link.before) (λ link. refl) (link_put s link.list (with_next link.next) link.before) link.next
      ∙ link_size link.list (with_next link.next) (λ link. refl) s link.before

  pub detached_capacity : (link : Link) (s : Slab (Node T)) → (detached link s).capacity ≡ s.capacity
  detached_capacity link s =
      link_capacity link.list (with_before link.before) (λ link. refl) (link_put s link.list (with_next link.next) link.before) link.next
      ∙ link_capacity link.list (with_next link.next) (λ link. refl) s link.before

  -- the changes of its list
  pub detached_nexts : (link : Link) (s : Slab (Node T)) → Changes (parts link.list s.slots) (parts link.list (link_put s link.list (with_next link.next) link.before).slots) link.before (next_as link.next)
  detached_nexts link s = next_changes s link.list link.before link.next

  pub detached_befores : (link : Link) (s : Slab (Node T)) → Changes (parts link.list (link_put s link.list (with_next link.next) link.before).slots) (parts link.list (detached link s).slots) link.next (before_as link.before)
  detached_befores link s = before_changes (link_put s link.list (with_next link.next) link.before) link.list link.next link.before

  -- a node is loose in its list, where the slab was so but for its key
  pub detach_at : (s0 s : Slab (Node T)) (was all : List Ends) (link : Link) (key : ℕ) (item : T) (rows : List (ℕ × T)) → At s0.slots was link.list rows → slice_get all link.list ≡ slice_get was link.list → slot_at (parts link.list s0.slots) key ≡ Some (linked item link) → ((k : ℕ) → k ≢ key → slot_at (parts link.list s.slots) k ≡ slot_at (parts link.list s0.slots) k) → Loose key (detached link s).slots (ends_detached link all) link.list (without key rows)
  detach_at s0 s was all link key item rows a ends there same =
      record {
        ends = shorter link a.ends;
        there = detached_ends link all a.ends (ends ∙ a.there);
        holds = detach_holds (parts link.list s0.slots) (parts link.list s.slots) (parts link.list (link_put s link.list (with_next link.next) link.before).slots) (parts link.list (detached link s).slots) rows a.ends.first a.ends.last key (linked item link) a.holds there same
            (detached_nexts link s) (detached_befores link s);
      }
