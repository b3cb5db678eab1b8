-- The lines of what a client's end took, and of why it closed.
use Rattle.std.specs.Prelude.{ℕ, Option, Some, None, Result, Ok}
use Rattle.channel_core.specs.declared.sending.SendRefusal.{SendRefusal}
use Rattle.channel_core.specs.declared.sending.SendRefusal.TheVariants as refusals
use Rattle.channel_core.specs.declared.states.Cause.{Cause}
use Rattle.channel_core.specs.declared.states.Cause.TheVariants as causes
use Rattle.tcf_message.specs.Message.{MessageValue, final, progress, not_known, event}
use Rattle.tcf_message.specs.declared.message.MessageFault.{MessageFault}
use Rattle.tcf_text.specs.declared.log.EndWhy.{EndWhy}
use Rattle.tcf_text.specs.declared.log.EndWhy.TheVariants as ends
use Rattle.tcf_text.specs.declared.log.LogLine.{LogLine}
use Rattle.tcf_text.specs.declared.log.LogLine.TheVariants as lines
use Rattle.tcf_text.specs.declared.log.RefusedWhy.{RefusedWhy}
use Rattle.tcf_text.specs.declared.log.RefusedWhy.TheVariants as refused

-- why a command isn't accepted; want of memory has no line
abbrev pub why_of : SendRefusal → Option RefusedWhy
why_of refusals.Full = Some refused.Full
why_of refusals.NotOpen = Some refused.NotOpen
why_of refusals.TooLong = Some refused.TooLong
why_of refusals.Spent = Some refused.Spent
why_of refusals.NoMemory = None

abbrev pub end_of : Cause → EndWhy
end_of causes.Own = ends.Own
end_of causes.Eos = ends.Eos
end_of causes.Ended = ends.Ended
end_of (causes.Protocol message reason) = ends.Protocol
end_of (causes.Stream fault) = ends.Stream

-- ---- what a message says, as it is taken

-- the line of an event, and that of an answer; a message of another kind has none
abbrev pub event_line : Option ℕ → Result MessageValue MessageFault → Option LogLine
event_line mark (Ok (event service name body)) = Some (lines.Event mark service name body)
event_line mark _ = None

abbrev pub hello_line : Option ℕ → Result MessageValue MessageFault → Option LogLine
hello_line mark (Ok (event service name body)) = Some (lines.Hello mark body)
hello_line mark _ = None

abbrev pub progress_line : ℕ → Option ℕ → Result MessageValue MessageFault → Option LogLine
progress_line number mark (Ok (progress token body)) = Some (lines.Progress number mark body)
progress_line number mark _ = None

abbrev pub final_line : ℕ → Option ℕ → Result MessageValue MessageFault → Option LogLine
final_line number mark (Ok (final token body)) = Some (lines.Final number mark body)
final_line number mark (Ok (not_known token)) = Some (lines.Unknown number mark)
final_line number mark _ = None
