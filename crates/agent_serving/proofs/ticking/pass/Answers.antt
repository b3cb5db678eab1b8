use Rattle.agent_serving.proofs.Passes.{left_ends, pass_ends}
use Rattle.agent_serving.proofs.ticking.pass.Goals as goal

pub returns-then-left-eq0-clause-agent : goal.returns-then-left-eq0-clause-agent
returns-then-left-eq0-clause-agent c = pass_ends c.args.threads.now _ c.args.most c.loop-thread.left c.args.agent.now c.loop-thread.agent c.if-left-eq0.true c.loop-thread.invariant.agent

pub returns-then-left-eq0-clause-left : goal.returns-then-left-eq0-clause-left
returns-then-left-eq0-clause-left c = left_ends c.args.threads.now _ c.args.most c.loop-thread.left c.args.agent.now c.loop-thread.agent c.if-left-eq0.true c.loop-thread.invariant.left
