use Rattle.breakpoints.proofs.Filtered.{filter_all}
use Rattle.breakpoints.proofs.breakpoints.Breakpoints.ids.Goals as goal

-- everything is chosen
pub returns-clause-ids : goal.returns-clause-ids
returns-clause-ids c = rw (filter_all c.args.self.now) at c.ids_of.ensures.ids
