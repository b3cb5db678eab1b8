use Rattle.value_node.proofs.AskedOfStore.{asked_above, on_ok}
use Rattle.value_node.proofs.relay.Relay.ask_bound.Goals as goal

pub returns-clause-asked : goal.returns-clause-asked
returns-clause-asked c =
    on_ok c.forward.result _ _
    (asked_above c.args.token.now c.args.service.now c.args.name.now c.args.body.now c.args.mark c.args.self.now c.answer_stored.new.self c.forward.new.self _ c.in_ok-command.command c.in_ok-forwarded.forwarded
    c.in_ok-command.ensures c.if-branch.false c.in_ok-answer_stored.ensures.answered c.in_ok-forwarded.ensures)
    c.forward.ensures.forwarded
