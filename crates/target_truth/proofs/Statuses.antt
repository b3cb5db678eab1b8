-- The statuses that are told, one of each breakpoint or of some, are so.
use Rattle.std.proofs.Common.{◌≡◌, ℕ, List, [], ◌∷◌, map, Some, ◌∙◌, ap}
use Rattle.std.specs.List.{AllByRecursion}
use Rattle.breakpoints.specs.Counting.{listed}
use Rattle.breakpoints.specs.Counts.{AreCounts}
use Rattle.breakpoints.specs.Rows.{IsOrderly as AreListed, row_of}
use Rattle.breakpoints.specs.Status.{instances_of}
use Rattle.breakpoints.specs.Statuses.{counted_status, status_event, statuses_of}
use Rattle.run_control.specs.Telling.{statuses_among, statuses_in}
use Rattle.target_contexts.specs.Named.{attached_in}
use Rattle.run_control.specs.TargetValue.{TargetValue}
use Rattle.target_hub.proofs.Points.{listed_are}
use Rattle.target_truth.proofs.Differs.{status_by}
use Rattle.target_truth.proofs.First.{status_is_so}
use Rattle.target_truth.proofs.Listed.{AreFresh, IsFresh, all_found}
use Rattle.target_truth.proofs.StatusLimits.{instances_fit}
use Rattle.target_truth.proofs.Tells.{IsTold}
use Rattle.tcf_values.specs.declared.values.BpProps.{BpProps}
use Rattle.breakpoints.specs.declared.rows.Placed.{Placed}

-- a breakpoint that its ID finds, with counts of 32 bits
pub record IsOwn (bps : List Placed) (row : Placed) : Type 0 where
  pub there : row_of row.props.id bps ≡ Some row
  pub counted : AreCounts row.counts

both_own : (bps part : List Placed) → AllByRecursion (λ row. row_of row.props.id bps ≡ Some row) part → AllByRecursion (λ row. AreCounts row.counts) part → AllByRecursion (IsOwn bps) part
both_own bps [] there counted = tt
both_own bps (row ∷ part) there counted = (record { there = there.0; counted = counted.0 }, both_own bps part there.1 counted.1)

pub all_own : (bps : List Placed) → AreListed bps → AllByRecursion (IsOwn bps) bps
all_own bps orderly = both_own bps bps (all_found bps orderly.differ) orderly.counted

-- ---- of those that are there

own_told : (target : TargetValue) (row : Placed) → IsOwn target.breakpoints row → IsTold target target (counted_status (attached_in target.contexts.processes) row.props row.counts)
own_told target row is =
    let attached = attached_in target.contexts.processes in
    record {
      limits = instances_fit row.props row.counts attached is.counted;
      typed = tt;
      leads = status_is_so target row.props.id (record { instances = instances_of row.props row.counts attached }) (ap (status_by attached) is.there);
    }

all_told : (target : TargetValue) (list : List Placed) → AllByRecursion (IsOwn target.breakpoints) list → AllByRecursion (IsTold target target) (statuses_of (attached_in target.contexts.processes) list)
all_told target [] own = tt
all_told target (row ∷ list) own = (own_told target row own.0, all_told target list own.1)

pub statuses_told : (target : TargetValue) → AreListed target.breakpoints → AllByRecursion (IsTold target target) (statuses_in target)
statuses_told target orderly = all_told target target.breakpoints (all_own target.breakpoints orderly)

-- those of some IDs
pub listed_own : (ids : List (List ℕ)) (bps : List Placed) → AreListed bps → AllByRecursion (IsOwn bps) (listed ids bps)
listed_own ids bps orderly = listed_are (IsOwn bps) ids bps (all_own bps orderly)

pub among_told : (ids : List (List ℕ)) (target : TargetValue) → AreListed target.breakpoints → AllByRecursion (IsTold target target) (statuses_among ids target)
among_told ids target orderly = all_told target (listed ids target.breakpoints) (listed_own ids target.breakpoints orderly)

-- ---- of those that are new or changed: nothing has hit them

fresh_told : (target : TargetValue) (props : BpProps) → IsFresh target.breakpoints props → IsTold target target (status_event (attached_in target.contexts.processes) props)
fresh_told target props is =
    let attached = attached_in target.contexts.processes in
    record {
      limits = instances_fit props [] attached tt;
      typed = tt;
      leads = status_is_so target props.id (record { instances = instances_of props [] attached })
          (ap (status_by attached) is.there
          ∙ ap (λ (p : BpProps). Some (record { instances = instances_of p is.row.counts attached })) is.same
          ∙ ap (λ (counts : List (ℕ × ℕ)). Some (record { instances = instances_of props counts attached })) is.counts);
    }

pub each_fresh_told : (target : TargetValue) (list : List BpProps) → AreFresh list target.breakpoints
    → AllByRecursion (IsTold target target) (map (status_event (attached_in target.contexts.processes)) list)
each_fresh_told target [] fresh = tt
each_fresh_told target (props ∷ list) fresh = (fresh_told target props fresh.0, each_fresh_told target list fresh.1)
