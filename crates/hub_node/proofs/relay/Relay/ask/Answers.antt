use Rattle.std.proofs.Common.{rules}
use Rattle.hub_node.specs.Relay.{asked}
use Rattle.hub_node.proofs.Keys.{free_key, is_free}
use Rattle.hub_node.proofs.relay.Relay.ask.Goals as goal

pub returns-in_ok-answer_redirect-in-Ok-Command : goal.returns-in_ok-answer_redirect-in-Ok-Command
unfolding asked
returns-in_ok-answer_redirect-in-Ok-Command c = (free_key _, is_free c.args.self.now.board.lists, search rules)

pub returns-in_default : goal.returns-in_default
unfolding asked
returns-in_default c = (free_key _, is_free c.args.self.now.board.lists, search rules)

pub returns-in_default-2 : goal.returns-in_default-2
unfolding asked
returns-in_default-2 c = (free_key _, is_free c.args.self.now.board.lists, search rules)
