use Rattle.target_hub.proofs.Sends.{commands_short, ticks_short}
use Rattle.target_hub.proofs.TheLaws.{answers_are_sendable, closings_tell_sendable, commands_tell_sendable, ticks_tell_sendable}
use Rattle.target_hub.proofs.sendable.what_is_told_can_be_sent.Goals as goal

pub returns : goal.returns
returns c = record {
  commands = commands_tell_sendable;
  answers = answers_are_sendable;
  ticks = ticks_tell_sendable;
  closings = closings_tell_sendable;
  short_commands = commands_short;
  short_ticks = ticks_short;
}
