use Rattle.std.proofs.Common.{sym}
use Rattle.serving_wires.proofs.Making.{makes_none}
use Rattle.tcf_app.proofs.Noting.{reads_none}
use Rattle.tcf_app.proofs.Running.{usage_runs}
use Rattle.tcf_app.proofs.top.run_words.Goals as goal

pub returns-in-None-clause-runs : goal.returns-in-None-clause-runs
returns-in-None-clause-runs g c = makes_none _ _ (usage_runs _ _ _ _ _ (sym c.in-None.ensures) c.refuse_words.ensures.ends)

pub returns-in-None-clause-reads : goal.returns-in-None-clause-reads
returns-in-None-clause-reads g c = reads_none _ _
