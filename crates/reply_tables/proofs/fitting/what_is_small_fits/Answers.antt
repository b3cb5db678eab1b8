use Rattle.reply_tables.proofs.Sizes.{progress_fits}
use Rattle.reply_tables.proofs.TheLaws.{answers_fit, events_fit, refusals_fit, reports_are_small}
use Rattle.reply_tables.proofs.fitting.what_is_small_fits.Goals as goal

pub returns : goal.returns
returns c = record { events = events_fit; answers = answers_fit; refusals = refusals_fit; progress = progress_fits; reports = reports_are_small }
