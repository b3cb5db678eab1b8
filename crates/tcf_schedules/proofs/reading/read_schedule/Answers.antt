use Rattle.std.proofs.Common.{◌≡◌, ◌∙◌, ap, Err, length, arith, subst, sym}
use Rattle.std.specs.Prelude.{Result, IsErrAnd}
use Rattle.tcf_schedules.specs.declared.schedule.Schedule.{Schedule}
use Rattle.tcf_schedules.specs.declared.schedule.TextRefusal.{TextRefusal}
use Rattle.tcf_schedules.specs.declared.schedule.TextRefusal.TheVariants.{NoMemory}
use Rattle.tcf_schedules.specs.Plan.{AreSteps, plans_of}
use Rattle.tcf_schedules.specs.Schedule.{meaning}
use Rattle.tcf_schedules.proofs.FirstBad.{read_next, reached_next, wants_memory}
use Rattle.tcf_schedules.proofs.Schedules.{steps_at_end}
use Rattle.tcf_schedules.proofs.reading.read_schedule.Goals as goal

pub returns-clause-within : goal.returns-clause-within
returns-clause-within c =
    let end : length c.loop-rest.rest.now ≡ 0 = grind arith in
    subst (λ (s : Schedule). AreSteps s.chains (plans_of s.steps)) (sym c.into_schedule.ensures)
    (steps_at_end c.args.file.now c.loop-rest.rest.now _ (meaning c.loop-rest.reading) c.loop-rest.invariant.read end)

-- the error that is handed on
told : {T : Type 0} (r : Result T TextRefusal) (e : TextRefusal) → r ≡ Err NoMemory → IsErrAnd r (λ x. x ≡ e) → e ≡ NoMemory
told r e is handed = sym (subst (λ x. IsErrAnd x (λ y. y ≡ e)) is handed)

pub loop-rest-preserved : goal.loop-rest-preserved
loop-rest-preserved c =
    let file = c.args.file.now in
    let rest = c.loop-rest.rest.now in
    let line = c.cut_line.result.0.now in
    let after = c.cut_line.result.1.now in
    let s = meaning c.loop-rest.reading in
    let next = meaning c.take_line.new.self in
    record {
      read = read_next file c.loop-rest.number s next rest line after c.loop-rest.invariant.read c.cut_line.ensures.lines c.in_ok-take_line.ensures.ok;
      reached = reached_next file s next rest line after c.loop-rest.invariant.reached c.cut_line.ensures.lines c.in_ok-take_line.ensures.ok;
      counted = omega arith;
    }

pub returns-in_err-take_line-clause-wants : goal.returns-in_err-take_line-clause-wants
returns-in_err-take_line-clause-wants c =
    λ memory.
    let wants : c.take_line.result ≡ Err NoMemory = c.in_err-take_line.was ∙ ap Err (told c.from_residual.result c.in_err-take_line.field-0.0 memory c.from_residual.ensures.1) in
    wants_memory c.args.file.now (meaning c.loop-rest.reading) c.loop-rest.rest.now c.cut_line.result.0.now c.cut_line.result.1.now
    c.loop-rest.invariant.reached c.cut_line.ensures.lines (c.take_line.ensures.kept wants) (c.take_line.ensures.wants wants)
