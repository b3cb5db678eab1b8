use Rattle.std.proofs.Common.{List, arith, ap, ◌∙◌}
use Rattle.agent_serving.specs.Ticking.{after_pass, idled, left_by_pass}
use Rattle.agent_serving.proofs.Passes.{none_run, passes_end, passes_end_idle, passes_end_tired, passes_go_on}
use Rattle.agent_serving.proofs.ticking.idle.Goals as goal
use Rattle.tcf_values.specs.declared.ids.ContextId.{ContextId}

pub loop-preserved : goal.loop-preserved
loop-preserved c =
    passes_go_on 256 c.loop.counter c.loop.left c.in_ok-left.left c.args.agent.now c.loop.agent c.pass.new.agent c.in_ok-threads.threads.items c.loop-test.true c.in_ok-threads.ensures.threads
    (c.in_ok-left.ensures.agent ∙ ap (λ (ts : List ContextId). after_pass ts c.loop.left c.loop.agent) c.deref.ensures.value)
    (c.in_ok-left.ensures.left ∙ ap (λ (ts : List ContextId). left_by_pass ts c.loop.left c.loop.agent) c.deref.ensures.value)
    c.loop.invariant

pub returns-then-left-eq0 : goal.returns-then-left-eq0
unfolding idled
returns-then-left-eq0 c = passes_end_tired 256 c.loop.counter c.loop.left c.args.agent.now c.loop.agent c.if-left-eq0.true c.loop.invariant

pub returns-then-is_empty : goal.returns-then-is_empty
unfolding idled
returns-then-is_empty c =
    passes_end_idle 256 c.loop.counter c.loop.left c.args.agent.now c.loop.agent
    (none_run c.in_ok-threads.threads.items c.as_slice.result.now c.is_empty.result c.loop.agent c.as_slice.ensures.value c.is_empty.ensures c.if-is_empty.true c.in_ok-threads.ensures.threads)
    c.loop.invariant

pub returns : goal.returns
unfolding idled
returns c = passes_end 256 c.loop.counter c.loop.left c.args.agent.now c.loop.agent (omega arith) c.loop.invariant
