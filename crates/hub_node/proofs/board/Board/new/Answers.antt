use Rattle.std.proofs.Common.{rules, refl, None, Some}
use Rattle.hub_node.proofs.board.Board.new.Goals as goal

pub returns : goal.returns
returns c =
    let e = c.in_ok-vec.ensures.items_if_clones_equal (elim [ None ↦ λ same. refl | Some x ↦ λ same. search rules ]) in search rules
