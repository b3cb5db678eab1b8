-- An answer that is within the limits of what is read, and tells what is so. It is read as itself, or not at all.
use Rattle.std.proofs.Common.{◌≡◌, ℕ, List, [], Option, Some, None, refl, sym, subst, inl, inr}
use Rattle.std.specs.List.{AllByRecursion}
use Rattle.reply_tables.specs.Answers.{answer_read}
use Rattle.reply_tables.specs.Limits.{IsAnswerTo}
use Rattle.reply_tables.specs.Written.{IsTyped, answer_data}
use Rattle.knowledge.specs.Rows.{answer_changes}
use Rattle.run_control.specs.TargetValue.{TargetValue}
use Rattle.target_truth.specs.Taught.{answer_by, answer_message}
use Rattle.target_truth.proofs.Changes.{IsSo, Moves, answer_moves, other_moves}
use Rattle.target_truth.proofs.Decoding.{answer_back}
use Rattle.tcf_values.specs.Effects.{effect_by, failed}
use Rattle.tcf_values.specs.Errors.{report_of}
use Rattle.tcf_values.specs.Faults.{code_of}
use Rattle.tcf_values.specs.declared.answer.Answer.{Answer}
use Rattle.tcf_values.specs.declared.answer.Answer.TheVariants.{Failed}
use Rattle.tcf_values.specs.declared.command.Command.{Command}
use Rattle.tcf_values.specs.declared.command.Command.TheVariants.{GetChildren, GetContext, GetState, BpProperties, BpGetStatus, MemGet, RegGet, RegGetm}
use Rattle.tcf_values.specs.declared.effect.Effect.{Effect}
use Rattle.tcf_values.specs.declared.errors.ErrorReport.{ErrorReport}
use Rattle.tcf_values.specs.declared.faults.Fault.{Fault}
use Rattle.target_hub.proofs.Rows.{code_small}

pub record IsTrueAnswer (target : TargetValue) (command : Command) (answer : Answer) : Type 0 where
  pub limits : IsAnswerTo command answer
  pub typed : IsTyped answer
  pub so : AllByRecursion (IsSo target) (answer_changes command answer)

pub answered : (target : TargetValue) (command : Command) (answer : Answer) → IsTrueAnswer target command answer → Moves target target (answer_message command (answer_data command answer))
answered target command answer is =
    elim (answer_back command answer is.limits is.typed) [
      | inl e ↦ subst (λ (read : Option Answer). Moves target target (answer_by command read)) (sym e) (answer_moves target command answer is.so)
      | inr e ↦ subst (λ (read : Option Answer). Moves target target (answer_by command read)) (sym e) (other_moves target)
    ]

-- an answer that can tell nothing, whatever it is read as
silent_by : (target : TargetValue) (command : Command) (read : Option Answer) → ((answer : Answer) → answer_changes command answer ≡ []) → Moves target target (answer_by command read)
silent_by target command None silent = other_moves target
silent_by target command (Some answer) silent = answer_moves target command answer (subst (AllByRecursion (IsSo target)) (sym (silent answer)) tt)

pub unheard : (target : TargetValue) (command : Command) (body : List ℕ) → ((answer : Answer) → answer_changes command answer ≡ []) → Moves target target (answer_message command body)
unheard target command body silent = silent_by target command (answer_read command body) silent

-- ---- a command that fails is answered by a report, which tells nothing

failed_silent : (command : Command) (report : ErrorReport) → answer_changes command (Failed report) ≡ []
failed_silent (GetContext id) report = refl
failed_silent (GetChildren id) report = refl
failed_silent (GetState id) report = refl
failed_silent (BpProperties id) report = refl
failed_silent (BpGetStatus id) report = refl
failed_silent (MemGet id addr word size mode) report = refl
failed_silent (RegGet id) report = refl
failed_silent (RegGetm list) report = refl
failed_silent _ report = refl

pub answer_by_fault : (target : TargetValue) (command : Command) (fault : Option Fault) (given : Effect) → (fault ≡ None → IsTrueAnswer target command given.answer)
    → IsTrueAnswer target command (effect_by fault given).answer
unfolding failed
answer_by_fault target command None given is = is refl
answer_by_fault target command (Some fault) given is = record {
  limits = code_small fault;
  typed = tt;
  so = subst (AllByRecursion (IsSo target)) (sym (failed_silent command (report_of (code_of fault)))) tt;
}
