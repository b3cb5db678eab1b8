use Rattle.tcf_app.specs.Words.{journal}
use Rattle.tcf_app.proofs.Running.{journal_runs, journal_wants, runs_unread}
use Rattle.tcf_app.proofs.top.run_journal.Goals as goal

pub returns-in-Ok-clause-runs : goal.returns-in-Ok-clause-runs
returns-in-Ok-clause-runs g c =
    journal_runs c.args.name.now c.args.head.now c.in-Ok.file _ _ _ _ _ c.in-Ok.ensures.whole (rw (c.as_slice.ensures, c.as_bytes.ensures.value) at c.journal_file.ensures.ends)

pub returns-in-Err-clause-runs : goal.returns-in-Err-clause-runs
returns-in-Err-clause-runs g c =
    runs_unread (journal c.args.name.now c.args.head.now) (journal_wants c.args.name.now c.args.head.now) _ _ c.in-Err.unread _ _ _ c.in-Err.ensures.part c.refuse_unread.ensures.ends
