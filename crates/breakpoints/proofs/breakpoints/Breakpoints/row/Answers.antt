use Rattle.std.proofs.Common.{◌∙◌}
use Rattle.breakpoints.proofs.Lookup.{looked_up, some_mapped}
use Rattle.breakpoints.proofs.breakpoints.Breakpoints.row.Goals as goal

pub returns-clause-value : goal.returns-clause-value
returns-clause-value c =
    (looked_up c.args.id.now c.self.inside.map.entries c.args.self.now _ c.self.invariant.keyed c.self.view_is c.get.ensures.value).value

pub returns-clause-found : goal.returns-clause-found
returns-clause-found c =
    some_mapped _ c.get.result
    ∙ (looked_up c.args.id.now c.self.inside.map.entries c.args.self.now _ c.self.invariant.keyed c.self.view_is c.get.ensures.value).there
