use Rattle.value_serving.specs.Serve.{ServesValueAdds}
use Rattle.tcf_app.proofs.Running.{served_ends}
use Rattle.tcf_app.proofs.value.serve_adds.Goals as goal

pub returns-clause-ends : goal.returns-clause-ends
returns-clause-ends g c =
    served_ends (ServesValueAdds c.args.peer.now c.args.address.now c.args.turns) c.args.turns c.serve_value-end.result _ _ _ _ _ c.serve_value-end.ensures.serves c.report_serving.ensures.ends
