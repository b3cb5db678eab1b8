use Rattle.std.proofs.Common.{ap, ◌∙◌}
use Rattle.value_node.specs.ValueValue.{ValueValue}
use Rattle.value_node.proofs.Idle.{when_turn_is_nothing}
use Rattle.value_node.proofs.value.ValueNode.turn.Goals as goal

pub returns-clause-nothing : goal.returns-clause-nothing
returns-clause-nothing c =
    let same = ap (λ (v : ValueValue). v.relay) (c.self.view_is ∙ c.in_ok-begin.ensures.began) in
    when_turn_is_nothing _ _ _ _ _ same c.in_ok-turn.ensures.turned
