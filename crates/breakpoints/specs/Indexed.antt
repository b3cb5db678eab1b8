-- Which enabled breakpoints stand at an address, and an index of them by address.
use Rattle.std.specs.Prelude.{ℕ, ◌≡◌, ◌==◌, Bool, false, ◌&&◌, List, [], ◌∷◌, ◌++◌, filter, Option, Some, None, option_and_then}
use Rattle.std.specs.BTreeMap.{BTreeMap, get}
use Rattle.std.specs.Global.{Vec}
use Rattle.std.specs.Map.{values_of}
use Rattle.std.specs.Option.{option_map_or}
use Rattle.std.specs.Ordering.{nat_cmp}
use Rattle.tcf_values.specs.declared.values.BpProps.{BpProps}
use Rattle.breakpoints.specs.Address.{address_of}
use Rattle.breakpoints.specs.Keyed.{AreKeyed}
use Rattle.breakpoints.specs.Placed.{Placed}
use Rattle.breakpoints.specs.Rows.{IsOrderly, ids_of, props_of}
use Rattle.breakpoints.specs.Status.{is_for}

abbrev pub says : ℕ → Option ℕ → Bool
says address (Some said) = said == address
says address None = false

-- an enabled breakpoint whose Location is this address, whatever its ContextIds
abbrev pub stands_at : ℕ → BpProps → Bool
stands_at address props = props.enabled && says address (option_and_then address_of props.location)

abbrev pub rows_at : ℕ → List Placed → List Placed
rows_at address rows = filter (λ row. stands_at address row.props) rows

abbrev pub some_of : List (List ℕ) → Option (List (List ℕ))
some_of [] = None
some_of (id ∷ ids) = Some (id ∷ ids)

-- the IDs of the breakpoints at an address, in the order of the list; none where there is no such breakpoint
abbrev pub ids_at : ℕ → List Placed → Option (List (List ℕ))
ids_at address rows = some_of (ids_of (rows_at address rows))

-- ---- the index

abbrev pub Index : Type 0
Index = BTreeMap ℕ (List (List ℕ))

-- a look-up at each address gives the IDs of the breakpoints there
abbrev pub Indexes : Index → List Placed → Type 0
Indexes index rows = (address : ℕ) → get nat_cmp index address ≡ ids_at address rows

abbrev pub or_empty : Option (List (List ℕ)) → List (List ℕ)
or_empty None = []
or_empty (Some ids) = ids

-- an index with one ID more at an address
pub record AddsId (old new : Index) (address : ℕ) (id : List ℕ) : Type 0 where
  pub here : get nat_cmp new address ≡ Some (or_empty (get nat_cmp old address) ++ id ∷ [])
  pub elsewhere : (other : ℕ) → (address == other) ≡ false → get nat_cmp new other ≡ get nat_cmp old other

-- whichever list the old index is of, the new one is of that list with these behind it
abbrev pub AddsRows : Index → Index → List Placed → Type 0
AddsRows old new more = (rows : List Placed) → Indexes old rows → Indexes new (rows ++ more)

-- and so with a breakpoint of these properties behind it, whoever owns it and however often it was hit
abbrev pub AddsProps : Index → Index → BpProps → Type 0
AddsProps old new props =
    (channel : ℕ) (counts : List (ℕ × ℕ)) → AddsRows old new (record { channel = channel; props = props; counts = counts } ∷ [])

-- what always holds of a map and its index
pub record IsIndexed (entries : List (Vec ℕ × Placed)) (index : Index) : Type 0 where
  pub keyed : AreKeyed entries
  pub orderly : IsOrderly (values_of entries)
  pub indexed : Indexes index (values_of entries)

-- ---- hits

-- the breakpoint of this ID is for this process
abbrev pub is_named_for : ℕ → List Placed → List ℕ → Bool
is_named_for process rows id = option_map_or (λ props. is_for props.contexts process) (props_of id rows) false
