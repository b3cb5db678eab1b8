use Rattle.serving_wires.proofs.Making.{makes_none}
use Rattle.tcf_app.proofs.Noting.{reads_none}
use Rattle.tcf_app.proofs.Running.{hub_runs, load_runs, value_runs}
use Rattle.tcf_app.proofs.top.run_order.Goals as goal

pub returns-in-Chain-clause-runs : goal.returns-in-Chain-clause-runs
returns-in-Chain-clause-runs g c = rw c.in-Chain.is (makes_none _ _ c.run_chain.ensures.runs)

pub returns-in-Show-clause-runs : goal.returns-in-Show-clause-runs
returns-in-Show-clause-runs g c = rw c.in-Show.is (makes_none _ _ c.run_show.ensures.runs)

pub returns-in-Load-clause-runs : goal.returns-in-Load-clause-runs
returns-in-Load-clause-runs g c = rw c.in-Load.is (makes_none _ _ (load_runs c.in-Load.number _ _ _ _ c.play_number.ensures.ends))

pub returns-in-Load-clause-reads : goal.returns-in-Load-clause-reads
returns-in-Load-clause-reads g c = reads_none _ _

pub returns-in-Agent-clause-runs : goal.returns-in-Agent-clause-runs
returns-in-Agent-clause-runs g c = rw c.in-Agent.is c.run_agent.ensures.runs

pub returns-in-Value-clause-runs : goal.returns-in-Value-clause-runs
returns-in-Value-clause-runs g c = rw c.in-Value.is (value_runs _ _ _ _ _ _ _ _ _ c.serve_adds.ensures.ends)

pub returns-in-Value-clause-reads : goal.returns-in-Value-clause-reads
returns-in-Value-clause-reads g c = reads_none _ _

pub returns-in-Hub-clause-runs : goal.returns-in-Hub-clause-runs
returns-in-Hub-clause-runs g c = rw c.in-Hub.is (hub_runs _ _ _ _ _ _ _ _ _ c.serve_peers.ensures.ends)

pub returns-in-Hub-clause-reads : goal.returns-in-Hub-clause-reads
returns-in-Hub-clause-reads g c = reads_none _ _

pub returns-in-Client-clause-runs : goal.returns-in-Client-clause-runs
returns-in-Client-clause-runs g c = rw c.in-Client.is c.run_script.ensures.runs
