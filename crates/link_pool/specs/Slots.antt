-- What the slots of a pool are to each of its lists. No public clause cites this module.
use Rattle.std.specs.Prelude.{◌≡◌, ◌≢◌, ◌-◌, ◌<◌, ℕ, zero, suc, List, [], ◌∷◌, length, map, Option, Some, None, option_map, slice_get, slice_index_or}
use Rattle.slab.specs.Slab.{Slab, slab_len}
use Rattle.link_pool.specs.declared.node.Node.{Node}
use Rattle.link_pool.specs.declared.node.Link.{Link}
use Rattle.link_pool.specs.declared.node.Ends.{Ends}
use Rattle.link_pool.specs.Chain.{Linked, Holds, seen}
use Rattle.link_pool.specs.Nodes.{link_of}

abbrev pub linked : {T : Type 0} → T → Link → Linked T
linked item link = record { item = item; before = link.before; next = link.next }

-- what a slot is to one list
abbrev pub part : {T : Type 0} → ℕ → Option (Node T) → Option (Linked T)
part list None = None
part list (Some node) = option_map (linked node.item) (link_of list node)

abbrev pub parts : {T : Type 0} → ℕ → List (Option (Node T)) → List (Option (Linked T))
parts list slots = map (part list) slots

abbrev pub numbered : {A B : Type 0} → (ℕ → A → B) → List A → List B
numbered f [] = []
numbered f (x ∷ xs) = f zero x ∷ numbered (λ n. f (suc n)) xs

abbrev pub rows_in : {T : Type 0} → List (Option (Node T)) → ℕ → Ends → List (ℕ × T)
rows_in slots list ends = seen (parts list slots) ends.first

abbrev pub lists_of : {T : Type 0} → List (Option (Node T)) → List Ends → List (List (ℕ × T))
lists_of slots all = numbered (rows_in slots) all

-- the second link, where there is one, is of another list that is there
abbrev pub IsSecond : ℕ → ℕ → Option Link → Type 0
IsSecond lists list None = Unit {0}
IsSecond lists list (Some link) = (link.list < lists) × (link.list ≢ list)

abbrev pub IsPlaced : {T : Type 0} → ℕ → Node T → Type 0
IsPlaced lists node = (node.main.list < lists) × IsSecond lists node.main.list node.second

pub record IsStanding {T : Type 0} (slots : List (Option (Node T))) (all : List Ends) : Type 0 where
  pub holds : (list : ℕ) (ends : Ends) → slice_get all list ≡ Some ends → Holds (parts list slots) (rows_in slots list ends) ends.first ends.last
  pub placed : (key : ℕ) (node : Node T) → slice_index_or slots key None ≡ Some node → IsPlaced (length all) node

abbrev pub room_of : {T : Type 0} → Slab (Node T) → ℕ
room_of nodes = nodes.capacity - slab_len nodes
