use Rattle.std.proofs.Common.{ℕ, ◌+◌, get_or, drop, filter, sym, ap, ◌∙◌}
use Rattle.std.specs.Global.{Vec}
use Rattle.std.proofs.lemmas.List.{drop_more}
use Rattle.target_contexts.specs.Live.{process_of}
use Rattle.target_contexts.specs.Named.{is_attached}
use Rattle.run_control.proofs.Chosen.{one_kept, one_passed}
use Rattle.run_control.proofs.telling.attached_among.Goals as goal
use Rattle.run_control.proofs.telling.attached_among.Goals.{then-is_attached+in_ok-push, else-is_attached}

-- one number more
pub loop-number-preserved : goal.loop-number-preserved
loop-number-preserved c =
    let rows = c.args.targets.now.seen.processes in
    let numbers = c.args.numbers.now in
    let i = c.loop-number.number-index in
    let test = λ (n : ℕ). is_attached (process_of n rows) in
    let out = c.loop-number.attached.items in
    let split = drop_more numbers i 0 c.loop-number-test.true in
    elim c.if-is_attached.branch [
      | then-is_attached+in_ok-push w ↦ one_kept test (get_or numbers i 0) (drop (i + 1) numbers) (drop i numbers) out c.if-is_attached.attached.items (filter test numbers) split
          (sym c.is_attached.ensures ∙ w.if-is_attached.true) (ap (λ (v : Vec ℕ). v.items) w.attached-is ∙ w.in_ok-push.ensures.items) c.loop-number.invariant
      | else-is_attached w ↦ one_passed test (get_or numbers i 0) (drop (i + 1) numbers) (drop i numbers) out c.if-is_attached.attached.items (filter test numbers) split
          (sym c.is_attached.ensures ∙ w.if-is_attached.false) (ap (λ (v : Vec ℕ). v.items) w.attached-is) c.loop-number.invariant
    ]
