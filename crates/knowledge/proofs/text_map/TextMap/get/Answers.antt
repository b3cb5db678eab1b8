use Rattle.std.proofs.Common.{sym, ap, ◌∙◌}
use Rattle.knowledge.specs.Keyed.{under}
use Rattle.knowledge.proofs.Keys.{lookup_rows}
use Rattle.knowledge.proofs.text_map.TextMap.get.Goals as goal

pub returns : goal.returns
returns g c = c.get.ensures.value ∙ sym (lookup_rows c.args.id.now c.self.inside.map.entries) ∙ ap (under c.args.id.now) c.self.view_is
