use Rattle.std.proofs.Common.{arith}
use Rattle.log_check.proofs.Freshness.{fresh_answer_is}
use Rattle.log_check.proofs.Options.{ok_then}
use Rattle.log_check.proofs.fresh.is_fresh_answer.Goals as goal

pub returns-then-begins_from-clause-fresh : goal.returns-then-begins_from-clause-fresh
returns-then-begins_from-clause-fresh c =
    let set = c.if-begins_from.true in
    ok_then c.answers.result _ _
    (λ flag tells.
    fresh_answer_is c.args.commands.now c.args.later.now c.args.number c.args.hub.now.target c.args.body.now c.in-Some.command.now c.begins_from.result flag c.in-Some.ensures.some
    c.in-Some.ensures.storable (grind (arith, set)) c.begins_from.ensures tells)
    c.answers.ensures.answers
