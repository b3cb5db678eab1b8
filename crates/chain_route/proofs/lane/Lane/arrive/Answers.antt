use Rattle.std.proofs.Common.{◌++◌, ap, sym, ◌∙◌, arith}
use Rattle.std.proofs.lemmas.List.{append-nil}
use Rattle.chain_route.proofs.Parts.{none_arrives}
use Rattle.chain_route.proofs.lane.Lane.arrive.Goals as goal

pub returns-clause-parts : goal.returns-clause-parts
returns-clause-parts c =
    let none = none_arrives c.loop-left.left c.loop-left.self (omega (arith, c.loop-left-test.false)) in
    sym (append-nil c.loop-left.parts.items) ∙ ap (λ xs. c.loop-left.parts.items ++ xs) (sym none.0) ∙ c.loop-left.invariant.parts

pub returns-clause-stays : goal.returns-clause-stays
returns-clause-stays c =
    let none = none_arrives c.loop-left.left c.loop-left.self (omega (arith, c.loop-left-test.false)) in
    sym none.1 ∙ c.loop-left.invariant.stays
