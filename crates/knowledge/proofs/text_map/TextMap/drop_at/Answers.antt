use Rattle.std.proofs.Common.{bytes_eq, cond, None, ap, ◌∙◌}
use Rattle.knowledge.specs.Keyed.{under}
use Rattle.knowledge.proofs.Keys.{text_written}
use Rattle.knowledge.proofs.text_map.TextMap.drop_at.Goals as goal

pub returns : goal.returns
returns g c = λ other.
    text_written c.args.id.now None c.self.inside.map c.remove.new.self c.remove.ensures.updates other
    ∙ ap (λ rows. cond (bytes_eq c.args.id.now other) None (under other rows)) c.self.view_is
