use Rattle.std.proofs.Common.{subst, sym}
use Rattle.std.specs.Prelude.{OnOk}
use Rattle.cache_learning.specs.Kept.{KeepsToo}
use Rattle.cache_learning.specs.Lessons.{final_message}
use Rattle.client_log.specs.Lessons.{reading_as}
use Rattle.client_log.proofs.Keeping.{answer_to_sent, nothing_new}
use Rattle.client_log.proofs.Standing.{no_command}
use Rattle.client_log.proofs.learning.learn_final.Goals as goal

pub returns-in-Sent : goal.returns-in-Sent
returns-in-Sent c =
    subst (λ message. OnOk c.hear_final.result (KeepsToo message c.args.cache.now c.hear_final.new.cache))
    (answer_to_sent c.args.command.now c.in-Sent.number c.in-Sent.service c.in-Sent.name c.in-Sent.asked
    c.as_slice.result.now c.as_slice-in-Sent.result.now c.as_slice-in-Sent-2.result.now c.args.body.now
    c.in-Sent.is c.as_slice.ensures c.as_slice-in-Sent.ensures c.as_slice-in-Sent-2.ensures)
    c.hear_final.ensures.kept

pub returns-in_default : goal.returns-in_default
returns-in_default c =
    subst (λ command. KeepsToo (final_message (reading_as command) c.args.body.now) c.args.cache.now c.args.cache.now)
    (sym (no_command c.args.command.now c.in_default.not-Sent)) (nothing_new c.args.cache.now)
