use Rattle.serving_wires.proofs.Making.{makes_none}
use Rattle.tcf_app.specs.Words.{client}
use Rattle.tcf_app.proofs.Running.{script_runs, client_wants, runs_unread}
use Rattle.tcf_app.proofs.top.run_script.Goals as goal

pub returns-in-Ok-clause-runs : goal.returns-in-Ok-clause-runs
returns-in-Ok-clause-runs g c =
    script_runs c.args.address.now c.args.name.now c.in-Ok.file c.args.turns _ _ _ _ _ _ _
    c.in-Ok.ensures.whole (rw c.as_slice.ensures at c.do_script.ensures.ends)

pub returns-in-Err-clause-runs : goal.returns-in-Err-clause-runs
returns-in-Err-clause-runs g c =
    makes_none _ _
    (runs_unread (client c.args.address.now c.args.name.now c.args.turns) (client_wants c.args.address.now c.args.name.now c.args.turns) _ _ c.in-Err.unread _ _ _
    c.in-Err.ensures.part c.refuse_unread.ensures.ends)
