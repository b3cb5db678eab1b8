-- The commands of Breakpoints that change the list, and the going of a channel: their events tell it.
use Rattle.std.proofs.Common.{◌≡◌, ℕ, ◌==◌, Bool, true, false, cond, List, [], ◌∷◌, ◌++◌, map, Some, option_map, refl, ◌∙◌, ap}
use Rattle.std.proofs.lemmas.Bool.{not-false, or_parts}
use Rattle.std.specs.Prelude.{bytes_eq}
use Rattle.std.specs.List.{AllByRecursion}
use Rattle.breakpoints.specs.Changes.{is_refused, is_switched, rows_after, switched, with_flag, with_flags}
use Rattle.breakpoints.specs.Rows.{ids_of, is_among, is_there, named, others, owned_by, row_of, unnamed}
use Rattle.breakpoints.specs.declared.breakpoints.BpDone.TheVariants.{Failed, Changed}
use Rattle.command_tables.specs.Canonical.{IsReadable}
use Rattle.json_values.specs.Props.{is_bp}
use Rattle.knowledge.specs.Facts.{IsPart, context_is, threads_are, state_is, register_is, byte_is, properties_are, status_is}
use Rattle.target_contexts.specs.Named.{attached_in}
use Rattle.target_hub.specs.BreakpointsRows.{added_events, effect_of, removed_events, status_events}
use Rattle.target_hub.specs.Execution.{exec_after, exec_effect}
use Rattle.target_hub.specs.Limits.{AreReadable}
use Rattle.target_hub.specs.Passing.{closed, closed_told}
use Rattle.run_control.specs.TargetValue.{TargetValue}
use Rattle.target_truth.proofs.Differs.{status_kept}
use Rattle.target_truth.proofs.FirstBreakpoints.{props_kept}
use Rattle.target_truth.proofs.First.{AreThere, OthersStay, changed as leads_changed, put, taken_out}
use Rattle.target_truth.proofs.Listed.{AreFresh, IsFresh, Row, added_there, changed_there, stays_before, stays_beside, stays_unswitched, stays_without, switched_there}
use Rattle.target_truth.proofs.Lists.{all_picked}
use Rattle.target_truth.proofs.RowsRun.{Tells}
use Rattle.target_truth.proofs.Seen.{seen}
use Rattle.target_truth.proofs.Statuses.{each_fresh_told}
use Rattle.target_truth.proofs.Tells.{IsTold, Tell}
use Rattle.target_truth.proofs.Whole.{IsGood}
use Rattle.tcf_values.specs.declared.command.Command.TheVariants as commands
use Rattle.tcf_values.specs.declared.values.BpProps.{BpProps}
use Rattle.target_hub.proofs.Given.{AreProps}
use Rattle.list_laws.proofs.AllLists.{all_append}

-- ---- a target with another list

abbrev listing : TargetValue → List Row → TargetValue
listing target rows = record target { breakpoints = rows }

abbrev attached_of : TargetValue → List ℕ
attached_of target = attached_in target.contexts.processes

-- where each breakpoint stays, all that was true is true
all_stay : (target : TargetValue) (rows : List Row) → OthersStay [] target.breakpoints rows → IsPart (seen target) (seen (listing target rows))
all_stay target rows stay (context_is id context) knows = knows
all_stay target rows stay (threads_are process ids) knows = knows
all_stay target rows stay (state_is process thread state) knows = knows
all_stay target rows stay (register_is process thread index value) knows = knows
all_stay target rows stay (byte_is process addr byte) knows = knows
all_stay target rows stay (properties_are id properties) knows =
    props_kept properties (row_of id target.breakpoints) (row_of id rows) (λ row found. stay id row refl found) knows
all_stay target rows stay (status_is id status) knows =
    status_kept (attached_of target) status (row_of id target.breakpoints) (row_of id rows) (λ row found. stay id row refl found) knows

-- ---- what is told of breakpoints that are there

-- what is new is there
pub there_of : (list : List BpProps) (rows : List Row) → AreFresh list rows → AreThere list rows
there_of [] rows fresh = tt
there_of (props ∷ list) rows fresh =
    let one : IsFresh rows props = fresh.0 in
    (ap (option_map (λ (row : Row). row.props)) one.there ∙ ap (λ (p : BpProps). Some p) one.same, there_of list rows fresh.1)

added_told : (before now : TargetValue) (list : List BpProps) → now.contexts ≡ before.contexts → AreProps list → AreThere list now.breakpoints
    → OthersStay (map (λ props. props.id) list) before.breakpoints now.breakpoints → AllByRecursion (IsTold before now) (added_events list)
added_told before now [] same fit there stay = tt
added_told before now (props ∷ list) same fit there stay = (record { limits = fit; typed = tt; leads = put before now (props ∷ list) same there stay }, tt)

-- a list has what it had
all_same : (ids : List (List ℕ)) (rows : List Row) → OthersStay ids rows rows
all_same ids rows id row other found = found

-- ---- some are taken out, and then others are added

put_told : (target : TargetValue) (rows : List Row) (removed : List (List ℕ)) (added : List BpProps) → OthersStay removed target.breakpoints rows → AreProps added → AreFresh added rows
    → Tell target (listing target rows) (effect_of (attached_of target) (Changed removed added [])).events
put_told target rows [] [] stay fit fresh = all_stay target rows stay
put_told target rows [] (props ∷ list) stay fit fresh =
    let now = listing target rows in (
      (added_told target now (props ∷ list) refl fit (there_of (props ∷ list) rows fresh) (λ id was other found. stay id was refl found)).0,
      all_append (IsTold now now) (status_events (attached_of target) (props ∷ list)) [] (each_fresh_told now (props ∷ list) fresh) tt,
    )
put_told target rows (id ∷ ids) added stay fit fresh =
    let now = listing target rows in (
      record { limits = tt; typed = tt; leads = taken_out target now (id ∷ ids) refl stay },
      all_append (IsTold now now) (added_events added) (status_events (attached_of target) added ++ [])
          (added_told now now added refl fit (there_of added rows fresh) (all_same _ rows))
          (all_append (IsTold now now) (status_events (attached_of target) added) [] (each_fresh_told now added fresh) tt),
    )

-- ---- some are changed

changes_told : (target : TargetValue) (rows : List Row) (list : List BpProps) → OthersStay (map (λ props. props.id) list) target.breakpoints rows → AreProps list → AreFresh list rows
    → Tell target (listing target rows) (effect_of (attached_of target) (Changed [] [] list)).events
changes_told target rows [] stay fit fresh = all_stay target rows stay
changes_told target rows (props ∷ list) stay fit fresh =
    let now = listing target rows in (
      record { limits = fit; typed = tt; leads = leads_changed target now (props ∷ list) refl (there_of (props ∷ list) rows fresh) stay },
      each_fresh_told now (props ∷ list) fresh,
    )

-- ---- a command that is refused changes nothing

unless : (target : TargetValue) (rows : List Row) (removed : List (List ℕ)) (added list : List BpProps) (refused : Bool)
    → (refused ≡ false → Tell target (listing target rows) (effect_of (attached_of target) (Changed removed added list)).events)
    → Tell target (listing target (cond refused target.breakpoints rows)) (effect_of (attached_of target) (cond refused (Failed 1) (Changed removed added list))).events
unless target rows removed added list true tells = λ fact knows. knows
unless target rows removed added list false tells = tells refl

-- ---- the commands

owned_stay : (channel : ℕ) (rows : List Row) → OthersStay (ids_of (owned_by channel rows)) rows (others channel rows)
owned_stay channel rows id props other found = stays_without (λ row. row.channel == channel) id rows props other found

pub set : (channel : ℕ) (list : List BpProps) (target : TargetValue) → IsGood target → IsReadable (commands.BpSet list) → Tells channel (commands.BpSet list) target
unfolding exec_after exec_effect
set channel list target good readable =
    let rows = target.breakpoints in
    let command = commands.BpSet list in
    unless target (rows_after channel command rows) (ids_of (owned_by channel rows)) list [] (is_refused channel command rows)
    (λ place. put_told target (rows_after channel command rows) (ids_of (owned_by channel rows)) list
    (λ id props other found. stays_before id (others channel rows) _ props (owned_stay channel rows id props other found))
    readable (added_there channel list (others channel rows) place))

pub add : (channel : ℕ) (props : BpProps) (target : TargetValue) → IsGood target → IsReadable (commands.BpAdd props) → Tells channel (commands.BpAdd props) target
unfolding exec_after exec_effect
add channel props target good readable =
    let rows = target.breakpoints in
    let command = commands.BpAdd props in
    unless target (rows_after channel command rows) [] (props ∷ []) [] (is_refused channel command rows)
    (λ place. put_told target (rows_after channel command rows) [] (props ∷ [])
    (λ id was other found. stays_before id rows _ was found)
    (readable, tt) (added_there channel (props ∷ []) rows place))

pub change : (channel : ℕ) (props : BpProps) (target : TargetValue) → IsGood target → IsReadable (commands.BpChange props) → Tells channel (commands.BpChange props) target
unfolding exec_after exec_effect
change channel props target good readable =
    let rows = target.breakpoints in
    let command = commands.BpChange props in
    unless target (rows_after channel command rows) [] [] (props ∷ []) (is_refused channel command rows)
    (λ there. changes_told target (rows_after channel command rows) (props ∷ [])
    (λ id was other found. stays_beside id props was rows (or_parts (bytes_eq id props.id) false other).0 found)
    (readable, tt) (changed_there props rows (not-false (is_there props.id rows) there), tt))

-- the switched ones are as they were but for the flag
switched_fit : (enabled : Bool) (ids : List (List ℕ)) (rows : List Row) → AreReadable rows → AreProps (switched enabled ids rows)
switched_fit enabled ids rows fit =
    all_picked (λ (props : BpProps). is_bp props ≡ true) (λ (row : Row). is_bp row.props ≡ true) (λ (row : Row). with_flag enabled row.props) (is_switched enabled ids) rows (λ row is. is) fit

flags_told : (enabled : Bool) (ids : List (List ℕ)) (target : TargetValue) → IsGood target
    → Tell target (listing target (with_flags enabled ids target.breakpoints)) (effect_of (attached_of target) (Changed [] [] (switched enabled ids target.breakpoints))).events
flags_told enabled ids target good =
    let rows = target.breakpoints in
    changes_told target (with_flags enabled ids rows) (switched enabled ids rows)
    (λ id was other found. stays_unswitched enabled ids id rows was other found)
    (switched_fit enabled ids rows good.consistent.properties) (switched_there enabled ids rows good.consistent.breakpoints.differ)

pub enable : (channel : ℕ) (ids : List (List ℕ)) (target : TargetValue) → IsGood target → Tells channel (commands.BpEnable ids) target
unfolding exec_after exec_effect
enable channel ids target good =
    let rows = target.breakpoints in
    unless target (with_flags true ids rows) [] [] (switched true ids rows) (is_refused channel (commands.BpEnable ids) rows) (λ named. flags_told true ids target good)

pub disable : (channel : ℕ) (ids : List (List ℕ)) (target : TargetValue) → IsGood target → Tells channel (commands.BpDisable ids) target
unfolding exec_after exec_effect
disable channel ids target good =
    let rows = target.breakpoints in
    unless target (with_flags false ids rows) [] [] (switched false ids rows) (is_refused channel (commands.BpDisable ids) rows) (λ named. flags_told false ids target good)

pub remove : (channel : ℕ) (ids : List (List ℕ)) (target : TargetValue) → IsGood target → Tells channel (commands.BpRemove ids) target
unfolding exec_after exec_effect
remove channel ids target good =
    let rows = target.breakpoints in
    let command = commands.BpRemove ids in
    unless target (rows_after channel command rows) (ids_of (named ids rows)) [] [] (is_refused channel command rows)
    (λ there. put_told target (unnamed ids rows) (ids_of (named ids rows)) []
    (λ id props other found. stays_without (λ row. is_among ids row.props.id) id rows props other found) tt tt)

-- ---- a channel that goes

gone_told : (target : TargetValue) (rows : List Row) (removed : List (List ℕ)) → OthersStay removed target.breakpoints rows → Tell target (listing target rows) (removed_events removed)
gone_told target rows [] stay = all_stay target rows stay
gone_told target rows (id ∷ ids) stay = (record { limits = tt; typed = tt; leads = taken_out target (listing target rows) (id ∷ ids) refl stay }, tt)

pub close : (channel : ℕ) (target : TargetValue) → IsGood target → Tell target (closed channel target) (closed_told channel target)
close channel target good = gone_told target (others channel target.breakpoints) (ids_of (owned_by channel target.breakpoints)) (owned_stay channel target.breakpoints)
