use Rattle.std.proofs.Common.{rules}
use Rattle.hub_node.specs.Relay.{forwarded}
use Rattle.hub_node.proofs.Keys.{free_key, is_free}
use Rattle.hub_node.proofs.relay.Relay.forward.Goals as goal

pub returns-then-last : goal.returns-then-last
unfolding forwarded
returns-then-last c = (free_key _, is_free c.args.self.now.board.lists, search rules)
