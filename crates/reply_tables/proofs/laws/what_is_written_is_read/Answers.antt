use Rattle.reply_tables.proofs.TheLaws.{answers_read_back, bytes_read_back, events_read_back}
use Rattle.reply_tables.proofs.laws.what_is_written_is_read.Goals as goal

pub returns : goal.returns
returns c = record { events = events_read_back; answers = answers_read_back; bytes = bytes_read_back }
