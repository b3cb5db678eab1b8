use Rattle.stream_escape.proofs.Feds.{within_later}
use Rattle.stream_escape.proofs.unescape.Unescape.take_piece.Goals as goal

pub invariant_of-self-2 : goal.invariant_of-self-2
invariant_of-self-2 c =
    within_later c.self.inside.offset c.self.inside.progress c.read-answer.new.self c.args.piece.now c.args.items.now.items c.read-answer.new.items.items c.read-answer.result c.self.invariant c.read-answer.ensures
