use Rattle.std.proofs.Common.{◌∙◌}
use Rattle.log_check.proofs.Opening.{position_first}
use Rattle.log_check.proofs.channel.hello_position.Goals as goal

pub returns-in-Some : goal.returns-in-Some
returns-in-Some c =
    c.placed_position.ensures ∙ position_first c.args.lines.now c.from_hello.result.now c.in-Some.field-0-1.now c.in-Some.line.now c.from_hello.ensures c.in-Some.ensures.some
