-- The list of breakpoints (TCF service Breakpoints, where a breakpoint is known by its ID): each stands beside the
-- channel that owns it and its counts of hits.
use Rattle.std.specs.Prelude.{ℕ, ◌==◌, ◌≤◌, Bool, not, List, length, map, filter, find, bytes_eq, Option, option_map}
use Rattle.std.specs.List.{AllByRecursion, list_any, IsDistinct}
use Rattle.tcf_values.specs.declared.values.BpProps.{BpProps}
use Rattle.breakpoints.specs.Counts.{AreCounts}
use Rattle.breakpoints.specs.Placed.{Placed, row_for}

abbrev pub ids_of : List Placed → List (List ℕ)
ids_of rows = map (λ row. row.props.id) rows

abbrev pub is_among : List (List ℕ) → List ℕ → Bool
is_among ids id = list_any (λ other. bytes_eq id other) ids

abbrev pub is_there : List ℕ → List Placed → Bool
is_there id rows = list_any (λ row. bytes_eq id row.props.id) rows

-- the breakpoint of this ID
abbrev pub row_of : List ℕ → List Placed → Option Placed
row_of id rows = find (λ row. bytes_eq id row.props.id) rows

-- its properties
abbrev pub props_of : List ℕ → List Placed → Option BpProps
props_of id rows = option_map (λ row. row.props) (row_of id rows)

-- the breakpoints of a channel, and all others
abbrev pub owned_by : ℕ → List Placed → List Placed
owned_by channel rows = filter (λ row. row.channel == channel) rows

abbrev pub others : ℕ → List Placed → List Placed
others channel rows = filter (λ row. not (row.channel == channel)) rows

-- the breakpoints that a list of IDs names, and all others
abbrev pub named : List (List ℕ) → List Placed → List Placed
named ids rows = filter (λ row. is_among ids row.props.id) rows

abbrev pub unnamed : List (List ℕ) → List Placed → List Placed
unnamed ids rows = filter (λ row. not (is_among ids row.props.id)) rows

-- properties, each beside the channel that they are to belong to
abbrev pub rows_for : ℕ → List BpProps → List Placed
rows_for channel list = map (row_for channel) list

-- what holds of every list: the IDs differ, there are at most 256, and the counts are of 32 bits
pub record IsOrderly (rows : List Placed) : Type 0 where
  pub differ : IsDistinct bytes_eq (ids_of rows)
  pub few : length rows ≤ 256
  pub counted : AllByRecursion (λ row. AreCounts row.counts) rows
