-- A message that is passed on: as it came, with its mark and its data, and an answer under the token of its command below.
use Rattle.std.specs.Prelude.{ℕ, Option, Some, None, Result, Ok}
use Rattle.channel_core.specs.EndValue.{EndValue}
use Rattle.channel_core.specs.Sending.{queued}
use Rattle.tcf_message.specs.Message.{MessageValue, command, event, final, not_known, progress}
use Rattle.tcf_message.specs.declared.message.MessageFault.{MessageFault}
use Rattle.value_node.specs.ForwardedValue.{ForwardedValue}

-- the ends of a value-add: it sends no commands below, so the tags there say nothing
abbrev pub Lower : Type 0
Lower = EndValue Unit

abbrev pub Upper : Type 0
Upper = EndValue ForwardedValue

abbrev pub event_passed : Option ℕ → Result MessageValue MessageFault → Lower → Lower
event_passed mark (Ok (event service name body)) e = queued (event service name body) mark e
event_passed mark _ e = e

abbrev pub progress_passed : Option ForwardedValue → Option ℕ → Result MessageValue MessageFault → Lower → Lower
progress_passed (Some forwarded) mark (Ok (progress token body)) e = queued (progress forwarded.token body) mark e
progress_passed _ mark _ e = e

abbrev pub final_passed : ForwardedValue → Option ℕ → Result MessageValue MessageFault → Lower → Lower
final_passed forwarded mark (Ok (final token body)) e = queued (final forwarded.token body) mark e
final_passed forwarded mark (Ok (not_known token)) e = queued (not_known forwarded.token) mark e
final_passed forwarded mark _ e = e

-- a command from above isn't recognised, and its token comes back
abbrev pub not_recognised : {T : Type 0} → Result MessageValue MessageFault → EndValue T → EndValue T
not_recognised (Ok (command token service name body)) e = queued (not_known token) None e
not_recognised _ e = e
