use Rattle.std.proofs.Common.{◌≡◌, false, sym, ap, ◌∙◌}
use Rattle.channel_core.proofs.ClosingTaken.{when_it_closes}
use Rattle.channel_core.proofs.Idle.{when_none_is_taken}
use Rattle.channel_core.proofs.Usable.{taken_usable}
use Rattle.channel_core.proofs.end.End.next_message.Goals as goal

pub returns-else-is_err-clause-nothing : goal.returns-else-is_err-clause-nothing
returns-else-is_err-clause-nothing g c = when_none_is_taken _ _ _ c.take_next-answer.ensures.taken

pub returns-else-is_err-clause-closed : goal.returns-else-is_err-clause-closed
returns-else-is_err-clause-closed g c = when_it_closes c.take_next-answer.result c.args.self.now _ c.take_next-answer.ensures.taken

pub returns-else-is_err-clause-usable : goal.returns-else-is_err-clause-usable
returns-else-is_err-clause-usable g c =
    let fresh : c.args.self.now.is_spent ≡ false = sym (ap (λ e. e.is_spent) c.self.view_is) ∙ c.if-self.false in
    taken_usable c.take_next-answer.result c.args.self.now _ fresh c.take_next-answer.ensures.taken
