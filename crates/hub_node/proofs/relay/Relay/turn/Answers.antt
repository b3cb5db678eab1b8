use Rattle.std.proofs.Common.{rules, sym}
use Rattle.hub_node.proofs.Idle.{turn_stays}
use Rattle.hub_node.proofs.Keys.{free_key, is_free}
use Rattle.hub_node.proofs.relay.Relay.turn.Goals as goal

pub returns-then-waiting-eq0-clause-turned : goal.returns-then-waiting-eq0-clause-turned
returns-then-waiting-eq0-clause-turned c = (free_key _, is_free c.args.self.now.board.lists, sym (turn_stays _ _ _ (search rules)))

pub returns-in_ok-did-in-Above-clause-turned : goal.returns-in_ok-did-in-Above-clause-turned
returns-in_ok-did-in-Above-clause-turned c = (free_key _, is_free c.args.self.now.board.lists, search rules)
