-- The changes of links and ends, one by one. No public clause cites this module.
use Rattle.std.specs.Prelude.{ℕ, ◌==◌, if◌then◌else◌, List, Option, Some, None, option_map, slice_get, slice_set}
use Rattle.std.specs.Option.{option_or}
use Rattle.slab.specs.Slab.{Slab, get, with_value}
use Rattle.link_pool.specs.declared.node.Node.{Node}
use Rattle.link_pool.specs.declared.node.Link.{Link}
use Rattle.link_pool.specs.declared.node.Ends.{Ends}
use Rattle.link_pool.specs.Chain.{picked}

-- a second list, where it is another than the first
abbrev pub other_than : ℕ → Option ℕ → Option ℕ
other_than list None = None
other_than list (Some other) = if other == list then None else Some other

-- a node of a list, or two, that isn't linked with others yet
abbrev pub alone : ℕ → Link
alone list = record { list = list; before = None; next = None }

abbrev pub node_for : {T : Type 0} → T → ℕ → Option ℕ → Node T
node_for item list other = record { item = item; main = alone list; second = option_map alone other }

abbrev pub with_next : Option ℕ → Link → Link
with_next next link = record link { next = next }

abbrev pub with_before : Option ℕ → Link → Link
with_before before link = record link { before = before }

-- a node whose link of a list is changed
abbrev pub second_put : ℕ → (Link → Link) → Option Link → Option Link
second_put list change None = None
second_put list change (Some link) = if link.list == list then Some (change link) else Some link

abbrev pub node_put : {T : Type 0} → ℕ → (Link → Link) → Node T → Node T
node_put list change node =
    if node.main.list == list then record node { main = change node.main } else record node { second = second_put list change node.second }

abbrev pub slab_put : {T : Type 0} → Slab (Node T) → ℕ → (Link → Link) → ℕ → Option (Node T) → Slab (Node T)
slab_put nodes list change key None = nodes
slab_put nodes list change key (Some node) = with_value nodes key (node_put list change node)

-- the slab once the link of the node at a key, if there is one, is changed
abbrev pub link_put : {T : Type 0} → Slab (Node T) → ℕ → (Link → Link) → Option ℕ → Slab (Node T)
link_put nodes list change None = nodes
link_put nodes list change (Some key) = slab_put nodes list change key (get nodes key)

-- a node that stands in no chain of a list yet is put behind the last of it
abbrev pub attached_behind : {T : Type 0} → Slab (Node T) → ℕ → ℕ → Option ℕ → Slab (Node T)
attached_behind nodes list key last =
    link_put (link_put (link_put nodes list (with_before last) (Some key)) list (with_next None) (Some key)) list (with_next (Some key)) last

abbrev pub attached_at : {T : Type 0} → ℕ → ℕ → Option Ends → Slab (Node T) → Slab (Node T)
attached_at list key None nodes = nodes
attached_at list key (Some ends) nodes = attached_behind nodes list key ends.last

abbrev pub attached : {T : Type 0} → ℕ → ℕ → List Ends → Slab (Node T) → Slab (Node T)
attached list key all nodes = attached_at list key (slice_get all list) nodes

abbrev pub longer : ℕ → Ends → Ends
longer key ends = record { first = option_or ends.first (Some key); last = Some key }

abbrev pub ends_longer : ℕ → ℕ → Option Ends → List Ends → List Ends
ends_longer list key None all = all
ends_longer list key (Some ends) all = slice_set all list (longer key ends)

abbrev pub ends_attached : ℕ → ℕ → List Ends → List Ends
ends_attached list key all = ends_longer list key (slice_get all list) all

-- the rows beside a link that goes name each other
abbrev pub detached : {T : Type 0} → Link → Slab (Node T) → Slab (Node T)
detached link nodes =
    link_put (link_put nodes link.list (with_next link.next) link.before) link.list (with_before link.before) link.next

abbrev pub shorter : Link → Ends → Ends
shorter link ends = record { first = picked link.before ends.first link.next; last = picked link.next ends.last link.before }

abbrev pub ends_shorter : Link → Option Ends → List Ends → List Ends
ends_shorter link None all = all
ends_shorter link (Some ends) all = slice_set all link.list (shorter link ends)

abbrev pub ends_detached : Link → List Ends → List Ends
ends_detached link all = ends_shorter link (slice_get all link.list) all

-- the same of a second link, where there is one
abbrev pub also_attached : {T : Type 0} → Option ℕ → ℕ → List Ends → Slab (Node T) → Slab (Node T)
also_attached None key all nodes = nodes
also_attached (Some list) key all nodes = attached list key all nodes

abbrev pub also_longer : Option ℕ → ℕ → List Ends → List Ends
also_longer None key all = all
also_longer (Some list) key all = ends_attached list key all

abbrev pub also_detached : {T : Type 0} → Option Link → Slab (Node T) → Slab (Node T)
also_detached None nodes = nodes
also_detached (Some link) nodes = detached link nodes

abbrev pub also_shorter : Option Link → List Ends → List Ends
also_shorter None all = all
also_shorter (Some link) all = ends_detached link all
