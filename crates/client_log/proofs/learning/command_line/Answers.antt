use Rattle.std.specs.Prelude.{Some, None}
use Rattle.client_log.proofs.Standing.{command_found}
use Rattle.client_log.proofs.learning.command_line.Goals as goal

pub returns-in_err-place : goal.returns-in_err-place
returns-in_err-place c =
    rw c.from_residual.ensures (rw c.saturating_sub.ensures at
    (command_found c.args.lines.now c.args.sent.now c.saturating_sub.result None c.requires c.in_err-place.ensures))

pub returns : goal.returns
returns c =
    rw c.line_at.ensures (rw c.saturating_sub.ensures at
    (command_found c.args.lines.now c.args.sent.now c.saturating_sub.result (Some c.in_ok-place.place) c.requires c.in_ok-place.ensures))
