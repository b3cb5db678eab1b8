-- What a message is to the end that it comes to.
use Rattle.std.specs.Prelude.{Result, Ok, Err}
use Rattle.tcf_message.specs.Message.{MessageValue, command, final, progress, not_known, event, flow}
use Rattle.tcf_message.specs.declared.message.MessageFault.{MessageFault}
use Rattle.channel_core.specs.declared.receiving.Heard.{Heard}
use Rattle.channel_core.specs.declared.receiving.Heard.TheVariants.{Level, Message, Bad}

abbrev pub kind_of : Result MessageValue MessageFault → Heard
kind_of (Err fault) = Bad fault
kind_of (Ok (flow level)) = Level level
kind_of (Ok (command token service name body)) = Message
kind_of (Ok (final token body)) = Message
kind_of (Ok (progress token body)) = Message
kind_of (Ok (not_known token)) = Message
kind_of (Ok (event service name body)) = Message
