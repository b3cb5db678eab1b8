use Rattle.load_schedules.proofs.Steps.{none_left, one_more}
use Rattle.load_schedules.proofs.drawn.push_drawn.Goals as goal

pub loop-preserved : goal.loop-preserved
loop-preserved c =
    one_more _ c.loop.steps c.push.new.self c.in_ok-step.step c.args.count c.loop.counter c.loop.draws c.draw_step.new.draws
    c.loop-test.true c.loop.invariant c.in_ok-step.ensures.step c.in_ok-step.ensures.state c.in_ok-push.ensures.ok

pub returns : goal.returns
returns c = none_left _ _ c.args.count c.loop.counter c.loop.draws c.loop.auto.counter-end c.loop-test.false c.loop.invariant
