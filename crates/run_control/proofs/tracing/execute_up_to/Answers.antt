use Rattle.std.proofs.Common.{ℕ, ◌+◌, ◌-◌, ◌++◌, List, [], ◌∷◌, length, ap, sym, ◌∙◌, arith, length-append}
use Rattle.run_control.specs.Tracing.{trace_of}
use Rattle.run_control.specs.declared.executing.Executed.{Executed}
use Rattle.run_control.proofs.Traces.{behind, loop_exception, loop_plain, loop_stop}
use Rattle.run_control.proofs.tracing.execute_up_to.Goals as goal

-- one instruction more
pub loop-step-preserved : goal.loop-step-preserved
loop-step-preserved c =
    let rest = λ (ns : List ℕ). behind ns (trace_of c.args.bps.now c.args.number c.args.n (c.args.count - (c.loop-step._step + 1)) c.execute_tested.new.process.seen) in
    record {
      same = ap rest c.in_ok-push-in-Plain.ensures.ok
          ∙ ap (λ (pc : ℕ). rest (c.loop-step.addresses ++ pc ∷ [])) c.pc_at-pc.ensures
          ∙ loop_plain c.args.bps.now c.args.number c.args.n c.args.count c.loop-step._step c.loop-step.addresses c.loop-step.process.seen c.execute_tested.new.process.seen _ c.loop-step-test.true
          (sym c.in_ok-executed.ensures.executed ∙ c.in-Plain.is) c.in_ok-executed.ensures.after c.loop-step.invariant.same;
      few = omega (arith, simp length-append at (ap length c.in_ok-push-in-Plain.ensures.ok), c.loop-step.invariant.few);
    }

-- breakpoints are hit, or it is an exit
pub returns-in-Hit-clause-trace : goal.returns-in-Hit-clause-trace
returns-in-Hit-clause-trace c =
    loop_stop c.args.bps.now c.args.number c.args.n c.args.count c.loop-step._step c.loop-step.addresses c.loop-step.process.seen c.execute_tested.new.process.seen c.in_ok-executed.executed _ c.loop-step-test.true
    (sym c.in_ok-executed.ensures.executed) c.in-Hit.is c.in_ok-executed.ensures.after c.loop-step.invariant.same
    ∙ ap (λ (pc : ℕ). record { process = c.execute_tested.new.process.seen; addresses = c.loop-step.addresses ++ pc ∷ []; stop = c.in_ok-executed.executed }) (sym c.pc_at-pc.ensures)
    ∙ ap (λ (ns : List ℕ). record { process = c.execute_tested.new.process.seen; addresses = ns; stop = c.in_ok-executed.executed }) (sym c.in_ok-push-in-Hit.ensures.ok)

-- it raised an exception
pub returns-in-Exception-clause-trace : goal.returns-in-Exception-clause-trace
returns-in-Exception-clause-trace c =
    loop_exception c.args.bps.now c.args.number c.args.n c.args.count c.loop-step._step c.loop-step.addresses c.loop-step.process.seen c.execute_tested.new.process.seen _ c.loop-step-test.true
    (sym c.in_ok-executed.ensures.executed ∙ c.in-Exception.is) c.in_ok-executed.ensures.after c.loop-step.invariant.same
    ∙ ap (λ (stop : Executed). record { process = c.execute_tested.new.process.seen; addresses = c.loop-step.addresses; stop = stop }) (sym c.in-Exception.is)
