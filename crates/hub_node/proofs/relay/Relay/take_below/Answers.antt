use Rattle.std.proofs.Common.{rules}
use Rattle.hub_node.specs.Relay.{took_below}
use Rattle.hub_node.proofs.Keys.{free_key, is_free}
use Rattle.hub_node.proofs.relay.Relay.take_below.Goals as goal

pub returns-in-Closed : goal.returns-in-Closed
unfolding took_below
returns-in-Closed c = (free_key _, is_free c.args.self.now.board.lists, search rules)

pub returns : goal.returns
unfolding took_below
returns c = (free_key _, is_free c.args.self.now.board.lists, search rules)
