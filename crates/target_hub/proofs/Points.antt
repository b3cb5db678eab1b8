-- What holds of each breakpoint holds of those of some IDs, and where nothing but counts changed.
use Rattle.std.proofs.Common.{◌≡◌, ◌≤◌, ℕ, suc, Bool, true, false, cond, List, [], ◌∷◌, ◌==◌, filter, length, Option, Some, None, option_map, IfSome, refl, sym, ◌∙◌, ap, subst, arith}
use Rattle.std.specs.List.{AllByRecursion}
use Rattle.std.specs.Option.{option_map_or}
use Rattle.std.specs.Prelude.{bytes_eq, find}
use Rattle.std.proofs.lemmas.List.{length-map}
use Rattle.json_values.specs.Props.{is_bp}
use Rattle.tcf_values.specs.declared.faults.Fault.{Fault}
use Rattle.tcf_values.specs.declared.values.BpProps.{BpProps}
use Rattle.breakpoints.specs.Counting.{listed}
use Rattle.breakpoints.specs.Counts.{AreCounts}
use Rattle.breakpoints.specs.Rows.{owned_by, props_of, row_of}
use Rattle.breakpoints.specs.declared.rows.Placed.{Placed}
use Rattle.run_control.specs.Laws.{uncounted}
use Rattle.run_control.specs.TargetValue.{TargetValue, target_by}
use Rattle.target_hub.specs.Limits.{AreReadable}
use Rattle.target_hub.proofs.Lists.{all_mapped}

-- properties that a command can give, and counts of 32 bits
pub record IsPoint (row : Placed) : Type 0 where
  pub readable : is_bp row.props ≡ true
  pub counted : AreCounts row.counts

abbrev pub ArePoints : List Placed → Type 0
ArePoints bps = AllByRecursion IsPoint bps

pub points_of : (bps : List Placed) → AreReadable bps → AllByRecursion (λ (row : Placed). AreCounts row.counts) bps → ArePoints bps
points_of [] readable counted = tt
points_of (row ∷ bps) readable counted = (record { readable = readable.0; counted = counted.0 }, points_of bps readable.1 counted.1)

-- ---- those of some IDs

found_by : (P : Placed → Type 0) (same : Bool) (row : Placed) (rest : Option Placed) → P row → IfSome rest P → IfSome (cond same (Some row) rest) P
found_by P true row rest is other = is
found_by P false row rest is other = other

pub found_is : (P : Placed → Type 0) (id : List ℕ) (bps : List Placed) → AllByRecursion P bps → IfSome (row_of id bps) P
found_is P id [] all = tt
found_is P id (row ∷ bps) all = found_by P (bytes_eq id row.props.id) row (row_of id bps) all.0 (found_is P id bps all.1)

more_are : (P : Placed → Type 0) (found : Option Placed) (rest : List Placed) → IfSome found P → AllByRecursion P rest → AllByRecursion P (option_map_or (λ row. row ∷ rest) found rest)
more_are P None rest is all = all
more_are P (Some row) rest is all = (is, all)

pub listed_are : (P : Placed → Type 0) (ids : List (List ℕ)) (bps : List Placed) → AllByRecursion P bps → AllByRecursion P (listed ids bps)
listed_are P [] bps all = tt
listed_are P (id ∷ ids) bps all = more_are P (row_of id bps) (listed ids bps) (found_is P id bps all) (listed_are P ids bps all)

more_few : (found : Option Placed) (rest : List Placed) (most : ℕ) → length rest ≤ most → length (option_map_or (λ row. row ∷ rest) found rest) ≤ suc most
more_few None rest most few = omega arith
more_few (Some row) rest most few = omega arith

pub listed_few : (ids : List (List ℕ)) (bps : List Placed) → length (listed ids bps) ≤ length ids
listed_few [] bps = omega arith
listed_few (id ∷ ids) bps = more_few (row_of id bps) (listed ids bps) (length ids) (listed_few ids bps)

-- ---- where nothing but counts changed

abbrev IsRead : ℕ × BpProps → Type 0
IsRead one = is_bp one.1 ≡ true

from_alone : (bps : List Placed) → AllByRecursion IsRead (uncounted bps) → AreReadable bps
from_alone [] all = tt
from_alone (row ∷ bps) all = (all.0, from_alone bps all.1)

pub readable_like : (new old : List Placed) → uncounted new ≡ uncounted old → AreReadable old → AreReadable new
readable_like new old same all =
    from_alone new (subst (AllByRecursion IsRead) (sym same)
    (all_mapped (λ (row : Placed). is_bp row.props ≡ true) IsRead (λ (row : Placed). (row.channel, row.props)) old (λ row is. is) all))

pub length_like : (new old : List Placed) → uncounted new ≡ uncounted old → length new ≡ length old
length_like new old same =
    sym (length-map new (λ (row : Placed). (row.channel, row.props))) ∙ ap length same ∙ length-map old (λ (row : Placed). (row.channel, row.props))

found_alone : (same : Bool) (row : Placed) (rest : Option Placed) (other : Option (ℕ × BpProps)) → option_map (λ (r : Placed). r.props) rest ≡ option_map (λ (one : ℕ × BpProps). one.1) other
    → option_map (λ (r : Placed). r.props) (cond same (Some row) rest) ≡ option_map (λ (one : ℕ × BpProps). one.1) (cond same (Some (row.channel, row.props)) other)
found_alone true row rest other more = refl
found_alone false row rest other more = more

props_alone : (id : List ℕ) (bps : List Placed) → props_of id bps ≡ option_map (λ (one : ℕ × BpProps). one.1) (find (λ (one : ℕ × BpProps). bytes_eq id one.1.id) (uncounted bps))
props_alone id [] = refl
props_alone id (row ∷ bps) = found_alone (bytes_eq id row.props.id) row (row_of id bps) _ (props_alone id bps)

-- the properties are the same
pub props_like : (new old : List Placed) → uncounted new ≡ uncounted old → (id : List ℕ) → props_of id new ≡ props_of id old
props_like new old same id =
    props_alone id new ∙ ap (λ (all : List (ℕ × BpProps)). option_map (λ (one : ℕ × BpProps). one.1) (find (λ (one : ℕ × BpProps). bytes_eq id one.1.id) all)) same ∙ sym (props_alone id old)

owned_by_flag : (owned : Bool) (row : Placed) (part : List Placed) (rest : List (ℕ × BpProps)) → uncounted part ≡ rest → uncounted (cond owned (row ∷ part) part) ≡ cond owned ((row.channel, row.props) ∷ rest) rest
owned_by_flag true row part rest same = ap (λ (more : List (ℕ × BpProps)). (row.channel, row.props) ∷ more) same
owned_by_flag false row part rest same = same

owned_alone : (channel : ℕ) (bps : List Placed) → uncounted (owned_by channel bps) ≡ filter (λ (one : ℕ × BpProps). one.0 == channel) (uncounted bps)
owned_alone channel [] = refl
owned_alone channel (row ∷ bps) = owned_by_flag (row.channel == channel) row (owned_by channel bps) _ (owned_alone channel bps)

none_alone : (bps : List Placed) → uncounted bps ≡ [] → bps ≡ []
none_alone [] none = refl
none_alone (row ∷ bps) none = absurd cc

-- a channel that owned none owns none
pub owned_like : (channel : ℕ) (new old : List Placed) → uncounted new ≡ uncounted old → owned_by channel old ≡ [] → owned_by channel new ≡ []
owned_like channel new old same none =
    none_alone (owned_by channel new)
    (owned_alone channel new ∙ ap (filter (λ (one : ℕ × BpProps). one.0 == channel)) same ∙ sym (owned_alone channel old) ∙ ap uncounted none)

-- ---- a command that isn't refused

pub unless_fault : (P : TargetValue → Type 0) (fault : Option Fault) (left target : TargetValue) → P (target_by fault left target) → fault ≡ None → P left
unless_fault P None left target holds none = holds
unless_fault P (Some fault) left target holds none = absurd cc
