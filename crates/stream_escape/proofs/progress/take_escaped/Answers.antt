use Rattle.std.proofs.Common.{arith, ◌∙◌}
use Rattle.stream_escape.proofs.Steps.{refused_three, refused_escape, advance_three, advance_message, advance_end}
use Rattle.stream_escape.proofs.progress.take_escaped.Goals as goal

pub returns-in-0-clause-blocked : goal.returns-in-0-clause-blocked
returns-in-0-clause-blocked c more = rw c.in-0.is (refused_three c.args.offset c.args.part.now more (omega arith))

pub returns-in_ok-push-in-0-2-clause-ok : goal.returns-in_ok-push-in-0-2-clause-ok
returns-in_ok-push-in-0-2-clause-ok c =
    advance_three c.args.byte c.args.part.now c.push.new.self c.args.items.now.items c.in-0.is (omega arith) c.in_ok-push-in-0-2.ensures.ok

pub returns-in_ok-reserve-in-1-clause-ok : goal.returns-in_ok-reserve-in-1-clause-ok
returns-in_ok-reserve-in-1-clause-ok c =
    advance_message c.args.byte c.args.part.now c.replace-message.result c.replace-message.new.dest c.args.items.now.items c.reserve.new.self.items c.push_reserved.new.self.items
    c.in-1.is c.reserve.ensures.items c.replace-message.ensures.value (c.replace-message.ensures.after ∙ c.new.ensures) c.push_reserved.ensures.items

pub returns-in_ok-push-in-2-clause-ok : goal.returns-in_ok-push-in-2-clause-ok
returns-in_ok-push-in-2-clause-ok c =
    advance_end c.args.byte c.args.part.now c.args.items.now.items c.push-in-2.new.self.items c.in-2.is c.in_ok-push-in-2.ensures.items

pub returns-in_default-clause-blocked : goal.returns-in_default-clause-blocked
returns-in_default-clause-blocked c more =
    refused_escape c.args.offset c.args.byte c.args.part.now more (omega arith) (omega arith) (omega arith)
