-- The laws of what is written, as terms.
use Rattle.reply_tables.specs.ReadingLaws.{AnswersReadBack, BytesReadBack, EventsReadBack}
use Rattle.reply_tables.specs.Sizes.{AnswersFit, EventsFit, RefusalsFit, ReportsAreSmall}
use Rattle.reply_tables.proofs.AnswerLaw.{answers_back, bytes_back}
use Rattle.reply_tables.proofs.EventLaw.{events_back}
use Rattle.reply_tables.proofs.Sizes as sizes

pub events_fit : EventsFit
events_fit = sizes.events_fit

pub answers_fit : AnswersFit
answers_fit = sizes.answers_fit

pub refusals_fit : RefusalsFit
refusals_fit = sizes.refusals_fit

pub reports_are_small : ReportsAreSmall
reports_are_small = sizes.reports_small

pub events_read_back : EventsReadBack
events_read_back = events_back

pub answers_read_back : AnswersReadBack
answers_read_back = answers_back

pub bytes_read_back : BytesReadBack
bytes_read_back = bytes_back
