use Rattle.std.proofs.Common.{rules}
use Rattle.hub_node.proofs.Keys.{free_key, is_free}
use Rattle.hub_node.proofs.relay.Relay.turn_below.Goals as goal

pub returns-in-None-clause-turned : goal.returns-in-None-clause-turned
returns-in-None-clause-turned c = (free_key _, is_free c.args.self.now.board.lists, search rules)
