-- One process may be another in the target as it is now, and all else stays.
use Rattle.std.proofs.Common.{◌≡◌, ℕ, ◌⊎◌, true, false, true≢false, List, [], Option, Some, None, inl, inr, sym, ap, ◌∙◌, subst, refl}
use Rattle.std.specs.Prelude.{option_map}
use Rattle.std.proofs.lemmas.Bool.{cases_Bool}
use Rattle.std.proofs.lemmas.Option.{none-some}
use Rattle.breakpoints.specs.Rows.{is_among, row_of}
use Rattle.breakpoints.specs.Status.{instances_of, status_of}
use Rattle.knowledge.specs.Changes.{Change, after_all}
use Rattle.knowledge.specs.Facts.{IsPart, status_is}
use Rattle.knowledge.specs.Learning.{event_taken, learn}
use Rattle.knowledge.specs.Rows.{event_changes}
use Rattle.target_contexts.specs.Laws.{AgreeBut}
use Rattle.target_contexts.specs.Named.{attached_in}
use Rattle.target_contexts.specs.ProcessValue.{ProcessValue}
use Rattle.run_control.specs.Laws.{uncounted}
use Rattle.run_control.specs.TargetValue.{TargetValue}
use Rattle.target_truth.specs.Holds.{process_in}
use Rattle.target_truth.proofs.Agree.{IsTouched}
use Rattle.target_truth.proofs.Seen.{seen}
use Rattle.tcf_values.specs.declared.event.EventData.{EventData}
use Rattle.breakpoints.specs.declared.rows.Placed.{Placed}
use Rattle.tcf_values.specs.declared.values.BpStatus.{BpStatus}

-- what an event makes of all that could be known of the one target could be known of the other
abbrev pub Leads : TargetValue → TargetValue → EventData → Type 0
Leads before now event = IsPart (learn (event_taken event) (seen before)) (seen now)

-- one process may be another, and of the breakpoints nothing but counts
pub record DiffersAt (number : ℕ) (before now : TargetValue) : Type 0 where
  pub others : AgreeBut number before.contexts.processes now.contexts.processes
  pub breakpoints : uncounted now.breakpoints ≡ uncounted before.breakpoints

-- each breakpoint stays, with its counts, but for these
abbrev pub StatusesStay : List (List ℕ) → List Placed → List Placed → Type 0
StatusesStay touched before now = (id : List ℕ) → is_among touched id ≡ false → row_of id now ≡ row_of id before

-- a process that stays, with its name
pub record Stays (number : ℕ) (before now : TargetValue) (old new : ProcessValue) : Type 0 where
  pub differs : DiffersAt number before now
  pub was : process_in number before ≡ Some old
  pub is : process_in number now ≡ Some new
  pub name : new.name ≡ old.name

-- and stays attached, or not, and so does each status but those of these breakpoints
pub record StaysAttached (touched : List (List ℕ)) (number : ℕ) (before now : TargetValue) (old new : ProcessValue) : Type 0 where
  pub stays : Stays number before now old new
  pub attached : new.attached ≡ old.attached
  pub all : attached_in now.contexts.processes ≡ attached_in before.contexts.processes
  pub points : StatusesStay touched before.breakpoints now.breakpoints

-- ---- what stays

-- an event that makes these changes leads on where they do
pub by_changes : (before now : TargetValue) (event : EventData) (changes : List Change) → event_changes event ≡ changes
    → IsPart (after_all changes (seen before)) (seen now) → Leads before now event
by_changes before now event changes is part = subst (λ all. IsPart (after_all all (seen before)) (seen now)) (sym is) part

-- the status that a breakpoint has
abbrev pub status_by : List ℕ → Option Placed → Option BpStatus
status_by attached found = option_map (λ row. record { instances = instances_of row.props row.counts attached }) found

-- it stays where that stays
pub status_kept : (attached : List ℕ) (status : BpStatus) (was is : Option Placed) → ((row : Placed) → was ≡ Some row → is ≡ Some row)
    → status_by attached was ≡ Some status → status_by attached is ≡ Some status
status_kept attached status None is kept knows = absurd (none-some status knows)
status_kept attached status (Some row) is kept knows = ap (status_by attached) (kept row refl) ∙ knows

-- and all stay but those that the changes touch
pub status_same : (touched : List (List ℕ)) (before now : TargetValue) (changes : List Change) → attached_in now.contexts.processes ≡ attached_in before.contexts.processes
    → StatusesStay touched before.breakpoints now.breakpoints → ((id : List ℕ) (x : BpStatus) → is_among touched id ≡ true → IsTouched changes (status_is id x))
    → (id : List ℕ) (x : BpStatus) → status_of id (attached_in before.contexts.processes) before.breakpoints ≡ Some x
    → (status_of id (attached_in now.contexts.processes) now.breakpoints ≡ Some x) ⊎ IsTouched changes (status_is id x)
status_same touched before now changes all stay drops id x knows =
    elim (cases_Bool (is_among touched id)) [
      | inl e ↦ inr (drops id x e)
      | inr e ↦ inl (ap (λ numbers. status_of id numbers now.breakpoints) all ∙ ap (status_by (attached_in before.contexts.processes)) (stay id e) ∙ knows)
    ]

-- none is touched
pub none_touched : (changes : List Change) (id : List ℕ) (x : BpStatus) → is_among [] id ≡ true → IsTouched changes (status_is id x)
none_touched changes id x among = absurd (true≢false (sym among))
