-- Inputs that tell nothing: what could be known of the target stays so.
use Rattle.std.proofs.Common.{◌≡◌, ℕ, Bool, cond, List, [], ◌∷◌, Some, inl, refl, sym, ap, ◌∙◌, subst}
use Rattle.std.specs.Prelude.{filter, option_map}
use Rattle.breakpoints.specs.Rows.{row_of}
use Rattle.breakpoints.specs.declared.rows.Placed.{Placed}
use Rattle.breakpoints.specs.Status.{status_of}
use Rattle.knowledge.specs.Facts.{IsPart}
use Rattle.target_contexts.specs.Live.{numbers_of}
use Rattle.target_contexts.specs.Named.{attached_in, is_attached}
use Rattle.target_contexts.specs.Live.{process_of}
use Rattle.target_contexts.specs.ProcessValue.{ProcessValue}
use Rattle.run_control.specs.TargetValue.{TargetValue}
use Rattle.target_truth.specs.Holds.{process_in}
use Rattle.target_truth.proofs.Accounts.{IsRunningAt, OthersStand, running_accounts}
use Rattle.target_truth.proofs.Agree.{Accounts, led, led_at, same_accounts}
use Rattle.target_truth.proofs.Differs.{StaysAttached, none_touched, status_by, status_same}
use Rattle.target_truth.proofs.Seen.{seen}

pub same_seen : (before now : TargetValue) → ((number : ℕ) → process_in number now ≡ process_in number before)
    → attached_in now.contexts.processes ≡ attached_in before.contexts.processes → ((id : List ℕ) → row_of id now.breakpoints ≡ row_of id before.breakpoints)
    → IsPart (seen before) (seen now)
same_seen before now processes attached breakpoints =
    led before now [] tt refl (λ p. subst (λ process. Accounts p (process_in p before) process []) (sym (processes p)) (same_accounts p (process_in p before) [] (λ list. refl)))
    (λ id x knows. inl (ap (option_map (λ (row : Placed). row.props)) (breakpoints id) ∙ knows))
    (λ id x knows. inl (ap (λ numbers. status_of id numbers now.breakpoints) attached ∙ ap (status_by (attached_in before.contexts.processes)) (breakpoints id) ∙ knows))

-- a thread that ran and runs on: of its registers, and of the bytes of its process, nothing could be known
pub ran_on : (number n : ℕ) (before now : TargetValue) (old new : ProcessValue) → StaysAttached [] number before now old new → OthersStand n old new → IsRunningAt n old → IsRunningAt n new
    → IsPart (seen before) (seen now)
ran_on number n before now old new stays stand ran runs_on =
    led_at number before now (Some old) (Some new) [] tt refl tt stays.stays.differs.others stays.stays.differs.breakpoints stays.stays.was stays.stays.is
    (running_accounts number n old new [] stays.stays.name stays.attached stand ran runs_on (λ list. refl)) (status_same [] before now [] stays.all stays.points (none_touched []))

filter_alike : (p q : ℕ → Bool) → ((x : ℕ) → p x ≡ q x) → (xs : List ℕ) → filter p xs ≡ filter q xs
filter_alike p q same [] = refl
filter_alike p q same (x ∷ xs) =
    ap (λ b. cond b (x ∷ filter p xs) (filter p xs)) (same x) ∙ ap (λ ys. cond (q x) (x ∷ ys) ys) (filter_alike p q same xs)

-- the same numbers, each attached or not as before
pub attached_same : (before now : List (ℕ × ProcessValue)) → numbers_of now ≡ numbers_of before
    → ((number : ℕ) → is_attached (process_of number now) ≡ is_attached (process_of number before)) → attached_in now ≡ attached_in before
attached_same before now numbers same =
    ap (filter (λ number. is_attached (process_of number now))) numbers
    ∙ filter_alike (λ number. is_attached (process_of number now)) (λ number. is_attached (process_of number before)) same (numbers_of before)
