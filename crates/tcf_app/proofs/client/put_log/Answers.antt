use Rattle.tcf_app.proofs.Endings.{made_ends}
use Rattle.tcf_app.proofs.Running.{ran_not_wanting}
use Rattle.tcf_app.proofs.client.put_log.Goals as goal

pub returns-clause-ends : goal.returns-clause-ends
returns-clause-ends g c =
    made_ends c.text_of.result _ _ _ _ _ (ran_not_wanting c.args.run.now.end) c.text_of.ensures (rw c.exit_of.ensures at c.finish_made.ensures.ends) c.finish_made.ensures.wanting
