use Rattle.log_check.proofs.Running.{readable}
use Rattle.log_check.proofs.executed.is_same_command.Goals as goal

pub write_command-requires : goal.write_command-requires
write_command-requires c = readable c.readings_are_legal.ensures.known c.args.one.now c.requires.one

pub write_command-requires-2 : goal.write_command-requires-2
write_command-requires-2 c = readable c.readings_are_legal.ensures.known c.args.other.now c.requires.other
