-- What a tick hits: nothing but counts is another then, each breakpoint that isn't hit stays, and each that is hit is there.
use Rattle.std.proofs.Common.{◌≡◌, ℕ, Bool, true, false, cond, List, [], ◌∷◌, map, Option, Some, None, refl, sym, ◌∙◌, ap, subst}
use Rattle.std.specs.List.{AllByRecursion}
use Rattle.breakpoints.specs.Counting.{counted, row_raised, row_tested}
use Rattle.breakpoints.specs.Laws.{testing}
use Rattle.breakpoints.specs.Rows.{IsOrderly as AreListed, ids_of, row_of}
use Rattle.breakpoints.specs.Status.{hits_of, is_hit}
use Rattle.breakpoints.specs.declared.rows.Placed.{Placed}
use Rattle.breakpoints.proofs.Filtered.{all_filter}
use Rattle.breakpoints.proofs.TheLaws.{steps_keep_order}
use Rattle.list_laws.proofs.AllLists.{all_map_then}
use Rattle.run_control.specs.Executing.{hits_in}
use Rattle.run_control.specs.Laws.{uncounted}
use Rattle.run_control.specs.Ticking.{raised_in}
use Rattle.run_control.proofs.Counted.{counted_alone}
use Rattle.target_contexts.specs.declared.threads.Thread.{Thread}
use Rattle.target_truth.proofs.Differs.{StatusesStay}
use Rattle.target_truth.proofs.Listed.{all_found, stays_uncounted}

-- ---- the breakpoints before and after

pub record Counted (hits : List (List ℕ)) (old new : List Placed) : Type 0 where
  pub same : uncounted new ≡ uncounted old
  pub orderly : AreListed new
  pub stay : StatusesStay hits old new

pub uncounted_same : (hits : List (List ℕ)) (bps : List Placed) → AreListed bps → Counted hits bps bps
uncounted_same hits bps orderly = record { same = refl; orderly = orderly; stay = λ id none. refl }

pub tick_counted : (bps : List Placed) (number : ℕ) (attached : Bool) (found : Option Thread) → AreListed bps → Counted (hits_in bps number attached found) bps (raised_in bps number attached found)
tick_counted bps number attached None orderly = uncounted_same [] bps orderly
tick_counted bps number attached (Some thread) orderly = record {
  same = counted_alone number attached thread.cpu.pc bps;
  orderly = steps_keep_order (testing number attached thread.cpu.pc) bps orderly;
  stay = λ id none. stays_uncounted number attached thread.cpu.pc id bps none;
}

-- ---- each ID finds its breakpoint

abbrev pub IfFound : List ℕ → Option Placed → Type 0
IfFound id None = ⊥
IfFound id (Some row) = row.props.id ≡ id

abbrev pub AreFound : List Placed → List (List ℕ) → Type 0
AreFound bps ids = AllByRecursion (λ id. IfFound id (row_of id bps)) ids

all_there : (bps : List Placed) → AreListed bps → AreFound bps (ids_of bps)
all_there bps orderly =
    all_map_then (λ id. IfFound id (row_of id bps)) (λ (row : Placed). row_of row.props.id bps ≡ Some row) (λ (row : Placed). row.props.id) bps
    (λ row is. subst (IfFound row.props.id) (sym is) refl) (all_found bps orderly.differ)

tested_id : (hit : Bool) (process : ℕ) (row : Placed) → (cond hit (row_raised process row) row).props.id ≡ row.props.id
tested_id true process row = refl
tested_id false process row = refl

tested_ids : (process pc : ℕ) (bps : List Placed) → ids_of (map (row_tested process pc) bps) ≡ ids_of bps
tested_ids process pc [] = refl
tested_ids process pc (row ∷ bps) =
    ap (λ (id : List ℕ). id ∷ ids_of (map (row_tested process pc) bps)) (tested_id (is_hit process pc row.props) process row)
    ∙ ap (λ (ids : List (List ℕ)). row.props.id ∷ ids) (tested_ids process pc bps)

hits_found : (process : ℕ) (attached : Bool) (pc : ℕ) (bps : List Placed) → AreListed (counted process attached pc bps) → AreFound (counted process attached pc bps) (hits_of process attached pc bps)
hits_found process true pc bps orderly =
    let raised : List Placed = map (row_tested process pc) bps in
    all_filter (λ id. IfFound id (row_of id raised)) (λ row. is_hit process pc row.props) bps (subst (AreFound raised) (tested_ids process pc bps) (all_there raised orderly))
hits_found process false pc bps orderly = tt

pub tick_found : (bps : List Placed) (number : ℕ) (attached : Bool) (found : Option Thread) → AreListed (raised_in bps number attached found)
    → AreFound (raised_in bps number attached found) (hits_in bps number attached found)
tick_found bps number attached None orderly = tt
tick_found bps number attached (Some thread) orderly = hits_found number attached thread.cpu.pc bps orderly
