use Rattle.std.proofs.Common.{sym, subst}
use Rattle.std.specs.List.{AllByRecursion}
use Rattle.journal_text.specs.Inputs.{InputIsRead}
use Rattle.tcf_app.proofs.Judging.{played_is_read}
use Rattle.tcf_app.proofs.journal.text_of.Goals as goal

pub write_journal-requires : goal.write_journal-requires
write_journal-requires c =
    subst (AllByRecursion InputIsRead) (sym c.history.ensures)
    (played_is_read _ _ c.every_schedule.ensures.faithful c.requires.playable c.in_ok-world.ensures.world)
