use Rattle.std.proofs.Common.{ℕ, bytes_eq, cond, List, Some, ap, subst, ◌∙◌}
use Rattle.std.specs.HashMap.{UpdatesBy}
use Rattle.knowledge.specs.Keyed.{under}
use Rattle.knowledge.proofs.Keys.{text_written}
use Rattle.knowledge.proofs.text_map.TextMap.put.Goals as goal

pub returns : goal.returns
returns g c = λ other.
    text_written c.args.id.now (Some c.args.value) c.self.inside.map c.insert.new.self
    (subst (λ (bytes : List ℕ). UpdatesBy (λ x y. bytes_eq x.items y.items) (λ key. bytes_eq bytes key.items) c.self.inside.map c.insert.new.self (Some c.args.value))
    c.in_ok-key.ensures.items c.in_ok-insert.ensures.updates) other
    ∙ ap (λ rows. cond (bytes_eq c.args.id.now other) (Some c.args.value) (under other rows)) c.self.view_is
