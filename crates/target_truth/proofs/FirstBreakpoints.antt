-- The first message of an input that changes breakpoints, and what is told of one that stays.
use Rattle.std.proofs.Common.{◌≡◌, ℕ, ◌⊎◌, false, true, List, map, Option, Some, None, option_map, inl, inr, sym, ap, ◌∙◌, subst, refl}
use Rattle.std.specs.List.{AllByRecursion}
use Rattle.std.proofs.lemmas.Bool.{cases_Bool}
use Rattle.std.proofs.lemmas.Option.{none-some}
use Rattle.breakpoints.specs.Rows.{is_among, props_of, row_of}
use Rattle.breakpoints.specs.Status.{status_of}
use Rattle.knowledge.specs.Changes.{Change, of_each}
use Rattle.knowledge.specs.Facts.{properties_are, status_is}
use Rattle.knowledge.specs.Rows.{event_changes, removed_properties, told_properties}
use Rattle.target_contexts.specs.Live.{process_of}
use Rattle.target_contexts.specs.Named.{attached_in}
use Rattle.run_control.specs.TargetValue.{TargetValue}
use Rattle.target_truth.specs.Holds.{process_in}
use Rattle.target_truth.proofs.Agree.{Accounts, IsTouched, led, same_accounts}
use Rattle.target_truth.proofs.BreakpointsTold.{removed_lists, removed_none, removed_so, removed_touched, removed_touched_status, told_lists, told_none, told_so, told_touched, told_touched_status}
use Rattle.target_truth.proofs.Changes.{parts_kept}
use Rattle.target_truth.proofs.Differs.{Leads, status_kept}
use Rattle.target_truth.proofs.Origins.{ListsNone, no_lists}
use Rattle.target_truth.proofs.Seen.{seen}
use Rattle.tcf_values.specs.declared.event.EventData.TheVariants as events
use Rattle.tcf_values.specs.declared.values.BpProps.{BpProps}
use Rattle.tcf_values.specs.declared.values.BpStatus.{BpStatus}
use Rattle.breakpoints.specs.declared.rows.Placed.{Placed}

-- the breakpoints but these stay
abbrev pub OthersStay : List (List ℕ) → List Placed → List Placed → Type 0
OthersStay ids before now = (id : List ℕ) (row : Placed) → is_among ids id ≡ false → row_of id before ≡ Some row → row_of id now ≡ Some row

abbrev pub AreThere : List BpProps → List Placed → Type 0
AreThere list rows = AllByRecursion (λ props. props_of props.id rows ≡ Some props) list

-- no process is another
contexts_same : (before now : TargetValue) (changes : List Change) → AllByRecursion ListsNone changes → now.contexts ≡ before.contexts
    → (p : ℕ) → Accounts p (process_in p before) (process_in p now) changes
contexts_same before now changes none same p =
    subst (λ process. Accounts p (process_in p before) process changes) (sym (ap (λ contexts. process_of p contexts.processes) same))
    (same_accounts p (process_in p before) changes (λ list. no_lists p changes list none))

-- a status follows from the breakpoint, and so do its properties
status_from : (before now : TargetValue) → now.contexts ≡ before.contexts → (id : List ℕ) (x : BpStatus)
    → ((row : Placed) → row_of id before.breakpoints ≡ Some row → row_of id now.breakpoints ≡ Some row)
    → status_of id (attached_in before.contexts.processes) before.breakpoints ≡ Some x → status_of id (attached_in now.contexts.processes) now.breakpoints ≡ Some x
status_from before now same id x kept knows =
    ap (λ contexts. status_of id (attached_in contexts.processes) now.breakpoints) same
    ∙ status_kept (attached_in before.contexts.processes) x (row_of id before.breakpoints) (row_of id now.breakpoints) kept knows

pub props_kept : (props : BpProps) (was is : Option Placed) → ((row : Placed) → was ≡ Some row → is ≡ Some row) → option_map (λ (r : Placed). r.props) was ≡ Some props → option_map (λ (r : Placed). r.props) is ≡ Some props
props_kept props None is kept knows = absurd (none-some props knows)
props_kept props (Some row) is kept knows = ap (option_map (λ (r : Placed). r.props)) (kept row refl) ∙ knows

-- what isn't named stays, and what is named is touched
properties_but : (before now : TargetValue) (ids : List (List ℕ)) (changes : List Change) → OthersStay ids before.breakpoints now.breakpoints
    → ((id : List ℕ) (x : BpProps) → is_among ids id ≡ true → IsTouched changes (properties_are id x))
    → (id : List ℕ) (x : BpProps) → props_of id before.breakpoints ≡ Some x → (props_of id now.breakpoints ≡ Some x) ⊎ IsTouched changes (properties_are id x)
properties_but before now ids changes stay touched id x knows =
    elim (cases_Bool (is_among ids id)) [
      | inl e ↦ inr (touched id x e)
      | inr e ↦ inl (props_kept x (row_of id before.breakpoints) (row_of id now.breakpoints) (λ row. stay id row e) knows)
    ]

status_but : (before now : TargetValue) (ids : List (List ℕ)) (changes : List Change) → now.contexts ≡ before.contexts → OthersStay ids before.breakpoints now.breakpoints
    → ((id : List ℕ) (x : BpStatus) → is_among ids id ≡ true → IsTouched changes (status_is id x))
    → (id : List ℕ) (x : BpStatus) → status_of id (attached_in before.contexts.processes) before.breakpoints ≡ Some x
    → (status_of id (attached_in now.contexts.processes) now.breakpoints ≡ Some x) ⊎ IsTouched changes (status_is id x)
status_but before now ids changes same stay touched id x knows =
    elim (cases_Bool (is_among ids id)) [
      | inl e ↦ inr (touched id x e)
      | inr e ↦ inl (status_from before now same id x (λ row. stay id row e) knows)
    ]

pub put : (before now : TargetValue) (list : List BpProps) → now.contexts ≡ before.contexts → AreThere list now.breakpoints
    → OthersStay (map (λ props. props.id) list) before.breakpoints now.breakpoints → Leads before now (events.BpAdded list)
put before now list same there stay =
    let changes : List Change = of_each told_properties list in
    let ids : List (List ℕ) = map (λ props. props.id) list in
    led before now changes (told_so now list there) (told_none list) (contexts_same before now changes (told_lists list) same)
    (properties_but before now ids changes stay (told_touched list)) (status_but before now ids changes same stay (told_touched_status list))

pub changed : (before now : TargetValue) (list : List BpProps) → now.contexts ≡ before.contexts → AreThere list now.breakpoints
    → OthersStay (map (λ props. props.id) list) before.breakpoints now.breakpoints → Leads before now (events.BpChanged list)
changed before now list same there stay = put before now list same there stay

pub taken_out : (before now : TargetValue) (ids : List (List ℕ)) → now.contexts ≡ before.contexts → OthersStay ids before.breakpoints now.breakpoints
    → Leads before now (events.BpRemoved ids)
taken_out before now ids same stay =
    let changes : List Change = of_each removed_properties ids in
    led before now changes (removed_so now ids) (removed_none ids) (contexts_same before now changes (removed_lists ids) same)
    (properties_but before now ids changes stay (removed_touched ids)) (status_but before now ids changes same stay (removed_touched_status ids))

pub status_is_so : (target : TargetValue) (id : List ℕ) (status : BpStatus) → status_of id (attached_in target.contexts.processes) target.breakpoints ≡ Some status
    → Leads target target (events.BpStatusIs id status)
status_is_so target id status is = parts_kept target (event_changes (events.BpStatusIs id status)) (seen target) (is, tt) (λ fact knows. knows)
