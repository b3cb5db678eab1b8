use Rattle.tcf_app.specs.Words.{chain}
use Rattle.tcf_app.proofs.Running.{chain_runs, chain_wants, runs_unread}
use Rattle.tcf_app.proofs.top.run_chain.Goals as goal

pub returns-in-Ok-clause-runs : goal.returns-in-Ok-clause-runs
returns-in-Ok-clause-runs g c =
    chain_runs c.args.name.now c.in-Ok.file _ _ _ _ _ c.in-Ok.ensures.whole (rw c.as_slice.ensures at c.play_file.ensures.ends)

pub returns-in-Err-clause-runs : goal.returns-in-Err-clause-runs
returns-in-Err-clause-runs g c =
    runs_unread (chain c.args.name.now) (chain_wants c.args.name.now) _ _ c.in-Err.unread _ _ _ c.in-Err.ensures.part c.refuse_unread.ensures.ends
