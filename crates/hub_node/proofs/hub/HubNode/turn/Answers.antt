use Rattle.std.proofs.Common.{ap, ◌∙◌}
use Rattle.hub_node.specs.HubValue.{HubValue}
use Rattle.hub_node.proofs.Idle.{when_turn_is_nothing}
use Rattle.hub_node.proofs.hub.HubNode.turn.Goals as goal

pub returns-clause-nothing : goal.returns-clause-nothing
returns-clause-nothing c =
    let same = ap (λ (h : HubValue). h.relay) (c.self.view_is ∙ c.in_ok-begin.ensures.began) in
    when_turn_is_nothing _ _ _ _ _ same c.in_ok-did.ensures.turned
