use Rattle.std.proofs.Common.{◌∙◌}
use Rattle.breakpoints.proofs.Lookup.{lookup_row}
use Rattle.breakpoints.proofs.rows.row_of.Goals as goal

pub returns : goal.returns
returns c = c.get.ensures.value ∙ lookup_row c.args.id.now c.args.rows.now.entries c.requires.keyed
