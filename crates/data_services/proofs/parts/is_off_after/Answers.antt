use Rattle.data_services.proofs.PartSteps.{off_missing, off_there}
use Rattle.data_services.proofs.parts.is_off_after.Goals as goal

pub returns-in-Some : goal.returns-in-Some
returns-in-Some c =
    off_there c.args.register c.args.parts.now c.args.bytes.now c.args.targets.now.seen c.in-Some.found.now c.cpu_after.result
    c.in-Some.ensures c.cpu_after.ensures

pub returns-in-None : goal.returns-in-None
returns-in-None c = off_missing c.args.register c.args.parts.now c.args.bytes.now c.args.targets.now.seen c.in-None.ensures
