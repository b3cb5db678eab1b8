-- The properties of the breakpoints stay such that a command can give them.
use Rattle.std.proofs.Common.{◌≡◌, ℕ, Bool, true, false, cond, not, List, [], ◌∷◌, refl, bytes_eq, ◌==◌}
use Rattle.json_values.specs.Props.{is_bp}
use Rattle.command_tables.specs.Canonical.{IsReadable}
use Rattle.tcf_values.specs.declared.command.Command.{Command}
use Rattle.tcf_values.specs.declared.command.Command.TheVariants.{BpSet, BpAdd, BpChange, BpEnable, BpDisable, BpRemove}
use Rattle.tcf_values.specs.declared.values.BpProps.{BpProps}
use Rattle.breakpoints.specs.Changes.{added_by, after, changed_by, done, is_refused, is_switched, removed_by, row_with_flag, row_with_props, rows_after, with_flag}
use Rattle.breakpoints.specs.Rows.{is_among, others, rows_for}
use Rattle.breakpoints.specs.declared.breakpoints.BpDone.{BpDone}
use Rattle.breakpoints.specs.declared.breakpoints.BpDone.TheVariants.{Failed, Changed}
use Rattle.target_hub.specs.Limits.{AreReadable, IsKnown}
use Rattle.target_hub.proofs.Lists.{all_mapped}
use Rattle.list_laws.proofs.AllLists.{all_append, all_filter}
use Rattle.breakpoints.specs.Placed.{row_for}
use Rattle.breakpoints.specs.declared.rows.Placed.{Placed}

abbrev pub IsKept : Placed → Type 0
IsKept row = is_bp row.props ≡ true

pub others_readable : (channel : ℕ) (rows : List Placed) → AreReadable rows → AreReadable (others channel rows)
others_readable channel rows all = all_filter IsKept (λ row. not (row.channel == channel)) rows all

either : (test : Bool) (one other : Placed) → IsKept one → IsKept other → IsKept (cond test one other)
either true one other kept also = kept
either false one other kept also = also

rows_readable : (channel : ℕ) (command : Command) (rows : List Placed) → IsReadable command → AreReadable rows → AreReadable (rows_after channel command rows)
rows_readable channel (BpSet list) rows readable all =
    all_append IsKept (others channel rows) (rows_for channel list) (others_readable channel rows all)
    (all_mapped (λ (props : BpProps). is_bp props ≡ true) IsKept (row_for channel) list (λ _ is. is) readable)
rows_readable channel (BpAdd props) rows readable all = all_append IsKept rows (row_for channel props ∷ []) all (readable, tt)
rows_readable channel (BpChange props) rows readable all =
    all_mapped IsKept IsKept (row_with_props props) rows (λ row is. either (bytes_eq props.id row.props.id) (record row { props = props; counts = [] }) row readable is) all
rows_readable channel (BpEnable ids) rows readable all =
    all_mapped IsKept IsKept (row_with_flag true ids) rows (λ row is. either (is_switched true ids row) (record row { props = with_flag true row.props; counts = [] }) row is is) all
rows_readable channel (BpDisable ids) rows readable all =
    all_mapped IsKept IsKept (row_with_flag false ids) rows (λ row is. either (is_switched false ids row) (record row { props = with_flag false row.props; counts = [] }) row is is) all
rows_readable channel (BpRemove ids) rows readable all = all_filter IsKept (λ row. not (is_among ids row.props.id)) rows all
rows_readable channel _ rows readable all = all

unless : (refused : Bool) (rows new : List Placed) → AreReadable rows → AreReadable new → AreReadable (cond refused rows new)
unless true rows new all also = all
unless false rows new all also = also

pub after_readable : (channel : ℕ) (command : Command) (rows : List Placed) → IsReadable command → AreReadable rows → AreReadable (after channel command rows)
after_readable channel command rows readable all = unless (is_refused channel command rows) rows (rows_after channel command rows) all (rows_readable channel command rows readable all)

-- every refusal has the code 1
known_by : (refused : Bool) (other : BpDone) → IsKnown other → IsKnown (cond refused (Failed 1) other)
known_by true other known = refl
known_by false other known = known

pub codes_known : (channel : ℕ) (command : Command) (rows : List Placed) → IsKnown (done channel command rows)
codes_known channel command rows =
    known_by (is_refused channel command rows) (Changed (removed_by channel command rows) (added_by command) (changed_by command rows)) tt
