-- A hit test that counts: it raises the counts of the breakpoints that are hit, and one whose count is above its IgnoreCount
-- stops the thread. This profile's own; the property is that of TCF service Breakpoints.
use Rattle.std.specs.Prelude.{ℕ, nat_lt, Bool, false, ◌&&◌, if◌then◌else◌, List, [], ◌∷◌, map, filter, bytes_eq, unwrap_or}
use Rattle.std.specs.List.{list_any}
use Rattle.std.specs.Option.{option_map_or}
use Rattle.breakpoints.specs.Counts.{count_of, raised, without}
use Rattle.breakpoints.specs.Placed.{Placed}
use Rattle.breakpoints.specs.Rows.{is_among, row_of}
use Rattle.breakpoints.specs.Status.{is_hit}

-- ---- counts that are raised

abbrev pub row_raised : ℕ → Placed → Placed
row_raised process row = record row { counts = raised process row.counts }

abbrev pub row_tested : ℕ → ℕ → Placed → Placed
row_tested process pc row = if is_hit process pc row.props then row_raised process row else row

-- the list after a thread of this process stands at pc; a process that isn't attached hits nothing
abbrev pub counted : ℕ → Bool → ℕ → List Placed → List Placed
counted process attached pc rows = if attached then map (row_tested process pc) rows else rows

-- ---- whether the thread is stopped

-- the count is above the IgnoreCount, which is 0 where it is absent
abbrev pub is_over : ℕ → Placed → Bool
is_over process row = nat_lt (unwrap_or row.props.ignore 0) (count_of process row.counts)

abbrev pub is_stopping : ℕ → ℕ → Placed → Bool
is_stopping process pc row = is_hit process pc row.props && is_over process (row_raised process row)

-- one of those that are hit has a count above its IgnoreCount, once it is raised
abbrev pub stops_at : ℕ → Bool → ℕ → List Placed → Bool
stops_at process attached pc rows = attached && list_any (is_stopping process pc) rows

-- ---- counts that are raised by one ID after another

abbrev pub counts_of : List ℕ → List Placed → List (ℕ × ℕ)
counts_of id rows = option_map_or (λ row. row.counts) (row_of id rows) []

abbrev pub row_with_counts : List ℕ → List (ℕ × ℕ) → Placed → Placed
row_with_counts id counts row = if bytes_eq id row.props.id then (record row { counts = counts }) else row

abbrev pub row_among : ℕ → List (List ℕ) → Placed → Placed
row_among process ids row = if is_among ids row.props.id then row_raised process row else row

-- the counts of a process raised for the breakpoints of these IDs
abbrev pub raised_among : ℕ → List (List ℕ) → List Placed → List Placed
raised_among process ids rows = map (row_among process ids) rows

-- the count of the breakpoint of this ID is above its IgnoreCount
abbrev pub is_over_named : ℕ → List Placed → List ℕ → Bool
is_over_named process rows id = option_map_or (is_over process) (row_of id rows) false

-- ---- counts that are dropped

abbrev pub row_without : ℕ → Placed → Placed
row_without process row = record row { counts = without process row.counts }

-- the list without the counts of a process
abbrev pub forgotten : ℕ → List Placed → List Placed
forgotten process rows = map (row_without process) rows

-- ---- which are hit

-- the breakpoints that a thread of this process hits at pc, in the order of the list
abbrev pub hit_rows : ℕ → Bool → ℕ → List Placed → List Placed
hit_rows process attached pc rows = if attached then filter (λ row. is_hit process pc row.props) rows else []

-- the breakpoints of these IDs, in the order of the IDs
abbrev pub listed : List (List ℕ) → List Placed → List Placed
listed [] rows = []
listed (id ∷ ids) rows = option_map_or (λ row. row ∷ listed ids rows) (row_of id rows) (listed ids rows)
