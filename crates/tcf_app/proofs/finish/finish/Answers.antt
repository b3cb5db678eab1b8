use Rattle.std.proofs.Common.{sym, ◌∙◌}
use Rattle.tcf_app.proofs.Endings.{ends_whole, no_fault}
use Rattle.tcf_app.proofs.finish.finish.Goals as goal

pub returns-in-Ok-clause-ends : goal.returns-in-Ok-clause-ends
returns-in-Ok-clause-ends g c = ends_whole (record { exit = c.args.exit; text = c.args.text.now }) _ _ c.in-Ok.ensures.put

pub returns-in-Ok-clause-fault : goal.returns-in-Ok-clause-fault
returns-in-Ok-clause-fault g c = c.in-Ok.ensures.cause ∙ sym (no_fault c.args.exit _ c.requires)
