use Rattle.std.proofs.Common.{◌∙◌, ap}
use Rattle.breakpoints.specs.Rows.{is_there}
use Rattle.breakpoints.proofs.Lookup.{key_there}
use Rattle.breakpoints.proofs.breakpoints.Breakpoints.is_there.Goals as goal

-- the map has the key of a breakpoint that is there
pub returns : goal.returns
returns c =
    c.contains_key.ensures ∙ key_there c.args.id.now c.self.inside.map.entries c.self.invariant.keyed
    ∙ ap (is_there c.args.id.now) c.self.view_is
