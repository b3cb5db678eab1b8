use Rattle.std.proofs.Common.{◌≡◌, false, sym, ap, ◌∙◌}
use Rattle.channel_core.proofs.Usable.{command_kept}
use Rattle.channel_core.proofs.end.End.send_command.Goals as goal

pub returns-else-self-2-clause-usable : goal.returns-else-self-2-clause-usable
returns-else-self-2-clause-usable g c =
    let fresh : c.args.self.now.is_spent ≡ false = sym (ap (λ e. e.is_spent) c.self.view_is) ∙ c.if-self.false in
    command_kept c.command-answer.result c.args.self.now c.command-answer.new.self c.args.service.now c.args.name.now c.args.body.now c.args.tag c.args.mark
    fresh c.command-answer.ensures.sent
