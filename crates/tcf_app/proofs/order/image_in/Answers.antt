use Rattle.std.specs.Prelude.{None, Some}
use Rattle.tcf_app.proofs.Cutting.{image_is}
use Rattle.tcf_app.proofs.order.image_in.Goals as goal

pub returns-in-Some : goal.returns-in-Some
returns-in-Some c = image_is c.args.word.now (Some (c.in-Some.name, c.in-Some.file)) c.in-Some.ensures.cases

pub returns-in-None : goal.returns-in-None
returns-in-None c = image_is c.args.word.now None c.in-None.ensures.cases
