use Rattle.client_serving.proofs.Reporting.{fault_rises, log_once}
use Rattle.client_serving.proofs.run.run_client.Goals as goal

pub returns-clause-fault : goal.returns-clause-fault
returns-clause-fault g c = fault_rises c.args.script.now c.args.address.now c.args.turns c.try_run.result _ _ c.try_run.ensures

pub returns-clause-once : goal.returns-clause-once
returns-clause-once g c = log_once c.whatever_comes_each_command_is_answered_once.ensures c.args.script.now c.args.address.now c.args.turns c.try_run.result _ _ c.try_run.ensures
