use Rattle.agent_serving.specs.Serve.{ServesAgent}
use Rattle.tcf_app.proofs.Running.{served_ends}
use Rattle.tcf_app.proofs.agent.serve_images.Goals as goal

pub returns-clause-ends : goal.returns-clause-ends
returns-clause-ends g c =
    served_ends (ServesAgent c.args.images.items c.args.address.now c.args.turns) c.args.turns c.serve_agent-end.result _ _ _ _ _ c.serve_agent-end.ensures.serves c.report_serving.ensures.ends
