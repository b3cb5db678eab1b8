-- What the commands of the TCF service Breakpoints that change the list make of it, and what they tell of that.
use Rattle.std.specs.Prelude.{ℕ, ◌+◌, nat_lt, Bool, true, false, not, ◌&&◌, ◌||◌, if◌then◌else◌, List, [], ◌∷◌, ◌++◌, length, map, filter, bytes_eq}
use Rattle.std.specs.List.{list_any}
use Rattle.std.specs.Bool.{beq}
use Rattle.tcf_values.specs.declared.command.Command.{Command}
use Rattle.tcf_values.specs.declared.command.Command.TheVariants.{BpSet, BpAdd, BpChange, BpEnable, BpDisable, BpRemove}
use Rattle.tcf_values.specs.declared.values.BpProps.{BpProps}
use Rattle.breakpoints.specs.Rows.{ids_of, is_among, is_there, owned_by, others, named, unnamed, rows_for}
use Rattle.breakpoints.specs.declared.breakpoints.BpDone.{BpDone}
use Rattle.breakpoints.specs.declared.breakpoints.BpDone.TheVariants.{Failed, Changed}
use Rattle.breakpoints.specs.Placed.{Placed, row_for}

-- the commands that change the list
abbrev pub changes_list : Command → Bool
changes_list (BpSet list) = true
changes_list (BpAdd props) = true
changes_list (BpChange props) = true
changes_list (BpEnable ids) = true
changes_list (BpDisable ids) = true
changes_list (BpRemove ids) = true
changes_list _ = false

-- ---- refusals

-- an ID stands twice among these
abbrev pub has_twice : List (List ℕ) → Bool
has_twice [] = false
has_twice (id ∷ ids) = is_among ids id || has_twice ids

-- an ID of new breakpoints is there
abbrev pub clashes : List BpProps → List Placed → Bool
clashes list rows = list_any (λ props. is_there props.id rows) list

-- with these there were more than 256
abbrev pub is_overfull : List BpProps → List Placed → Bool
is_overfull list rows = nat_lt 256 (length rows + length list)

-- new breakpoints have no place beside those that stay: an ID is there or given twice, or there were too many
abbrev pub has_no_place : List BpProps → List Placed → Bool
has_no_place list rows = clashes list rows || has_twice (map (λ props. props.id) list) || is_overfull list rows

-- one of the IDs isn't there
abbrev pub lacks : List (List ℕ) → List Placed → Bool
lacks ids rows = list_any (λ id. not (is_there id rows)) ids

abbrev pub is_refused : ℕ → Command → List Placed → Bool
is_refused channel (BpSet list) rows = has_no_place list (others channel rows)
is_refused channel (BpAdd props) rows = has_no_place (props ∷ []) rows
is_refused channel (BpChange props) rows = not (is_there props.id rows)
is_refused channel (BpEnable ids) rows = lacks ids rows
is_refused channel (BpDisable ids) rows = lacks ids rows
is_refused channel (BpRemove ids) rows = lacks ids rows
is_refused channel _ rows = false

-- ---- what a command that isn't refused makes of the list

-- these properties in place of those of the same ID; the owner stays, and the counts are dropped
abbrev pub row_with_props : BpProps → Placed → Placed
row_with_props props row = if bytes_eq props.id row.props.id then (record row { props = props; counts = [] }) else row

abbrev pub with_props : BpProps → List Placed → List Placed
with_props props rows = map (row_with_props props) rows

abbrev pub with_flag : Bool → BpProps → BpProps
with_flag enabled props = record props { enabled = enabled }

-- one that is named and has another flag
abbrev pub is_switched : Bool → List (List ℕ) → Placed → Bool
is_switched enabled ids row = is_among ids row.props.id && not (beq row.props.enabled enabled)

-- the named ones enabled or disabled; where this changes one, its counts are dropped
abbrev pub row_with_flag : Bool → List (List ℕ) → Placed → Placed
row_with_flag enabled ids row =
    if is_switched enabled ids row then (record row { props = with_flag enabled row.props; counts = [] }) else row

abbrev pub with_flags : Bool → List (List ℕ) → List Placed → List Placed
with_flags enabled ids rows = map (row_with_flag enabled ids) rows

abbrev pub rows_after : ℕ → Command → List Placed → List Placed
rows_after channel (BpSet list) rows = others channel rows ++ rows_for channel list
rows_after channel (BpAdd props) rows = rows ++ row_for channel props ∷ []
rows_after channel (BpChange props) rows = with_props props rows
rows_after channel (BpEnable ids) rows = with_flags true ids rows
rows_after channel (BpDisable ids) rows = with_flags false ids rows
rows_after channel (BpRemove ids) rows = unnamed ids rows
rows_after channel _ rows = rows

-- the list after a command of a channel
abbrev pub after : ℕ → Command → List Placed → List Placed
after channel command rows = if is_refused channel command rows then rows else rows_after channel command rows

-- ---- what it tells

-- the named ones whose flag is another, with this flag
abbrev pub switched : Bool → List (List ℕ) → List Placed → List BpProps
switched enabled ids rows = map (λ row. with_flag enabled row.props) (filter (is_switched enabled ids) rows)

-- the IDs that were taken out, in the order of the list
abbrev pub removed_by : ℕ → Command → List Placed → List (List ℕ)
removed_by channel (BpSet list) rows = ids_of (owned_by channel rows)
removed_by channel (BpRemove ids) rows = ids_of (named ids rows)
removed_by channel _ rows = []

-- the new ones, in the order given
abbrev pub added_by : Command → List BpProps
added_by (BpSet list) = list
added_by (BpAdd props) = props ∷ []
added_by _ = []

-- the changed ones as they are now, in the order of the list
abbrev pub changed_by : Command → List Placed → List BpProps
changed_by (BpChange props) rows = props ∷ []
changed_by (BpEnable ids) rows = switched true ids rows
changed_by (BpDisable ids) rows = switched false ids rows
changed_by _ rows = []

-- what a command of a channel tells: the code 1 where it is refused
abbrev pub done : ℕ → Command → List Placed → BpDone
done channel command rows =
    if is_refused channel command rows then Failed 1
    else Changed (removed_by channel command rows) (added_by command) (changed_by command rows)
