use Rattle.log_check.proofs.Running.{some_read}
use Rattle.log_check.proofs.executed.executed_by.Goals as goal

pub returns-then-other-channel-clause-read : goal.returns-then-other-channel-clause-read
returns-then-other-channel-clause-read c =
    some_read c.args.input.now c.in-Executed.other c.in-Executed.reading c.in-Executed.service c.in-Executed.name c.requires c.in-Executed.is
