use Rattle.stream_escape.proofs.TheLaws.{begins_between, escapes_bring_nothing, last_bytes_bring_the_end, last_parts_bring_messages, parts_bring_nothing}
use Rattle.stream_escape.proofs.laws.frames_are_read.Goals as goal

pub returns : goal.returns
returns c = record {
  between = begins_between;
  part = parts_bring_nothing;
  whole = last_parts_bring_messages;
  escape = escapes_bring_nothing;
  end = last_bytes_bring_the_end;
}
