use Rattle.tcf_app.specs.Words.{check}
use Rattle.tcf_app.proofs.Running.{check_runs, check_wants, runs_unread}
use Rattle.tcf_app.proofs.top.run_check.Goals as goal

pub returns-in-Ok-clause-runs : goal.returns-in-Ok-clause-runs
returns-in-Ok-clause-runs g c =
    check_runs c.args.name.now c.in-Ok.file _ _ _ _ _ c.in-Ok.ensures.whole (rw c.as_slice.ensures at c.check_file.ensures.ends)

pub returns-in-Err-clause-runs : goal.returns-in-Err-clause-runs
returns-in-Err-clause-runs g c =
    runs_unread (check c.args.name.now) (check_wants c.args.name.now) _ _ c.in-Err.unread _ _ _ c.in-Err.ensures.part c.refuse_unread.ensures.ends
