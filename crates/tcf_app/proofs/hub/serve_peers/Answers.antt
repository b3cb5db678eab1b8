use Rattle.hub_serving.specs.Serve.{ServesHub}
use Rattle.tcf_app.proofs.Running.{served_ends}
use Rattle.tcf_app.proofs.hub.serve_peers.Goals as goal

pub returns-clause-ends : goal.returns-clause-ends
returns-clause-ends g c =
    served_ends (ServesHub c.args.peer.now c.args.address.now c.args.turns) c.args.turns c.serve_hub-end.result _ _ _ _ _ c.serve_hub-end.ensures.serves c.report_serving.ensures.ends
