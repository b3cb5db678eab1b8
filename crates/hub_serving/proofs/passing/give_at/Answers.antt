use Rattle.std.proofs.Common.{sym}
use Rattle.hub_serving.proofs.Giving.{gives_nowhere, gives_there}
use Rattle.hub_serving.proofs.passing.give_at.Goals as goal

pub returns-in-Some : goal.returns-in-Some
returns-in-Some c =
    gives_there c.give.result c.args.place c.in-Some.line.now c.give.new.self c.args.lines.now c.args.hub.now c.give.new.hub (sym c.in-Some.ensures.value) c.give.ensures.hub c.give.ensures.line

pub returns-in-None : goal.returns-in-None
returns-in-None c = gives_nowhere c.args.place c.args.lines.now c.args.hub.now (sym c.in-None.ensures.value)
