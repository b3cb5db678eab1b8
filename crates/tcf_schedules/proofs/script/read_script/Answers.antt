use Rattle.std.proofs.Common.{◌≡◌, ◌∙◌, ap, Err, arith, subst, sym}
use Rattle.std.specs.Prelude.{Result, IsErrAnd}
use Rattle.tcf_schedules.specs.declared.schedule.TextRefusal.{TextRefusal}
use Rattle.tcf_schedules.specs.declared.schedule.TextRefusal.TheVariants.{NoMemory}
use Rattle.tcf_schedules.proofs.Scripts.{reached_fit, script_next, reached_script, script_wants}
use Rattle.tcf_schedules.proofs.script.read_script.Goals as goal

pub returns-clause-within : goal.returns-clause-within
returns-clause-within c = reached_fit c.args.file.now c.loop-rest.script c.loop-rest.rest.now c.loop-rest.invariant.reached

pub loop-rest-preserved : goal.loop-rest-preserved
loop-rest-preserved c =
    let file = c.args.file.now in
    let script = c.loop-rest.script in
    let next = c.take_line.new.script in
    let rest = c.loop-rest.rest.now in
    let line = c.cut_line.result.0.now in
    let after = c.cut_line.result.1.now in
    record {
      read = script_next file c.loop-rest.number script next rest line after c.loop-rest.invariant.read c.cut_line.ensures.lines c.in_ok-take_line.ensures.ok;
      reached = reached_script file script next rest line after c.loop-rest.invariant.reached c.cut_line.ensures.lines c.in_ok-take_line.ensures.ok;
      counted = omega arith;
    }

-- the error that is handed on
told : {T : Type 0} (r : Result T TextRefusal) (e : TextRefusal) → r ≡ Err NoMemory → IsErrAnd r (λ x. x ≡ e) → e ≡ NoMemory
told r e is handed = sym (subst (λ x. IsErrAnd x (λ y. y ≡ e)) is handed)

pub returns-in_err-take_line-clause-wants : goal.returns-in_err-take_line-clause-wants
returns-in_err-take_line-clause-wants c =
    λ memory.
    let wants : c.take_line.result ≡ Err NoMemory = c.in_err-take_line.was ∙ ap Err (told c.from_residual.result c.in_err-take_line.field-0.0 memory c.from_residual.ensures.1) in
    script_wants c.args.file.now c.loop-rest.script c.loop-rest.rest.now c.cut_line.result.0.now c.cut_line.result.1.now
    c.loop-rest.invariant.reached c.cut_line.ensures.lines (c.take_line.ensures.kept wants) (c.take_line.ensures.wants wants)
