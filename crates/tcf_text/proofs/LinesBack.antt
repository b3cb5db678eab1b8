-- Each line that is written so that it can be read back is read.
use Rattle.std.specs.Prelude.{Some}
use Rattle.tcf_text.specs.declared.log.LogLine.TheVariants.{Sent, Refused, Hello, Event, Progress, Final, Unknown, Closed, Ended, Cached}
use Rattle.tcf_text.specs.Reading.{LinesAreReadBack}
use Rattle.tcf_text.proofs.CachedBack.{cached_back}
use Rattle.tcf_text.proofs.ReadBack.{closed_back, end_back, event_back, final_back, hello_back, progress_back, refused_back, sent_back, unknown_back}

pub lines_are_read_back : LinesAreReadBack
lines_are_read_back (Sent number service name body) can = sent_back number service name body can.0 can.1 can.2 can.3
lines_are_read_back (Refused why) can = refused_back why
lines_are_read_back (Hello mark body) can = hello_back mark body can.0 can.1
lines_are_read_back (Event mark service name body) can = event_back mark service name body can.0 can.1 can.2 can.3
lines_are_read_back (Progress number mark body) can = progress_back number mark body can.0 can.1 can.2
lines_are_read_back (Final number mark body) can = final_back number mark body can.0 can.1 can.2
lines_are_read_back (Unknown number mark) can = unknown_back number mark can.0 can.1
lines_are_read_back (Closed number) can = closed_back number can
lines_are_read_back (Ended why) can = end_back why
lines_are_read_back (Cached what value) can = cached_back what value can.0 can.1
