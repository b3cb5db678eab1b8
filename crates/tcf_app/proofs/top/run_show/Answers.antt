use Rattle.tcf_app.specs.Words.{show}
use Rattle.tcf_app.proofs.Running.{show_runs, show_wants, runs_unread}
use Rattle.tcf_app.proofs.top.run_show.Goals as goal

pub returns-in-Ok-clause-runs : goal.returns-in-Ok-clause-runs
returns-in-Ok-clause-runs g c =
    show_runs c.args.name.now c.in-Ok.file _ _ _ _ _ c.in-Ok.ensures.whole (rw c.as_slice.ensures at c.show_file.ensures.ends)

pub returns-in-Err-clause-runs : goal.returns-in-Err-clause-runs
returns-in-Err-clause-runs g c =
    runs_unread (show c.args.name.now) (show_wants c.args.name.now) _ _ c.in-Err.unread _ _ _ c.in-Err.ensures.part c.refuse_unread.ensures.ends
