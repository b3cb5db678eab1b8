use Rattle.std.proofs.Common.{ℕ, List, filter, ap, ◌∙◌}
use Rattle.std.proofs.lemmas.Result.{IfOk-weaker}
use Rattle.target_contexts.specs.Live.{process_of}
use Rattle.target_contexts.specs.Named.{is_attached}
use Rattle.run_control.proofs.Positive.{positive_attached}
use Rattle.run_control.proofs.telling.attached.Goals as goal

pub returns-clause-positive : goal.returns-clause-positive
returns-clause-positive c =
    let rows = c.args.targets.now.seen.processes in
    let test = λ (n : ℕ). is_attached (process_of n rows) in
    IfOk-weaker c.attached_among.result _ _ (λ out same. positive_attached out.items rows c.args.targets.now.seen.next
    (same ∙ ap (λ (ns : List ℕ). filter test ns) (c.deref.ensures.value ∙ c.in_ok-numbers.ensures.numbers)) c.in_ok-numbers.ensures.orderly) c.attached_among.ensures
