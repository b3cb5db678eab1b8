-- How the nodes of a pool stand for its lists.
use Rattle.std.specs.Prelude.{◌≡◌, ◌≢◌, ℕ, ◌==◌, if◌then◌else◌, List, Option, None, Some, option_map}
use Rattle.slab.specs.Slab.{Slab, get}
use Rattle.link_pool.specs.Rows.{item_at, key_after, key_before}
use Rattle.link_pool.specs.Lists.{item_of, rows_of}
use Rattle.link_pool.specs.declared.node.Node.{Node}
use Rattle.link_pool.specs.declared.node.Link.{Link}

-- the link, where it is of the list
abbrev pub of_list : ℕ → Option Link → Option Link
of_list list None = None
of_list list (Some link) = if link.list == list then Some link else None

-- the link of a node in a list
abbrev pub link_of : {T : Type 0} → ℕ → Node T → Option Link
link_of list node = if node.main.list == list then Some node.main else of_list list node.second

-- the place of a key in a list: its neighbours there
abbrev pub link_at : {T : Type 0} → ℕ → ℕ → List (ℕ × T) → Link
link_at list key rows = record { list = list; before = key_before key rows; next = key_after key rows }

-- the link that the lists give a key in one of them, where it stands in it
abbrev pub link_in : {T : Type 0} → ℕ → ℕ → List (List (ℕ × T)) → Option Link
link_in list key lists =
    option_map (λ item. link_at list key (rows_of list lists)) (item_at key (rows_of list lists))

-- the slab has exactly the keys of the items; the node of a key has its item, and one link for each list in which the
-- item stands, with the keys of its neighbours there
pub record AreLinked {T : Type 0} (lists : List (List (ℕ × T))) (nodes : Slab (Node T)) : Type 0 where
  pub items : (key : ℕ) → option_map (λ node. node.item) (get nodes key) ≡ item_of key lists
  pub links : (key list : ℕ) (node : Node T) → get nodes key ≡ Some node → link_of list node ≡ link_in list key lists
  pub differ : (key : ℕ) (node : Node T) (second : Link) → get nodes key ≡ Some node → node.second ≡ Some second → second.list ≢ node.main.list
