-- An end that is open stays so while bytes come for it and end, and closes with its last entry alone.
use Rattle.std.proofs.Common.{Bool, true, false, cond, Result, Ok, Err}
use Rattle.tcf_message.specs.Message.{MessageValue, command, final, progress, not_known, event, flow}
use Rattle.tcf_message.specs.declared.message.MessageFault.{MessageFault}
use Rattle.channel_core.specs.Closing.{is_closed}
use Rattle.channel_core.specs.EndValue.{EndValue}
use Rattle.channel_core.specs.Receiving.{ended, is_over, with_last}
use Rattle.channel_core.specs.Taking.{next_taken}
use Rattle.channel_core.specs.declared.states.Cause.TheVariants.{Ended}
use Rattle.channel_core.proofs.Keeping.{closed_by}
use Rattle.value_node.specs.Passing.{not_recognised}
use Rattle.channel_core.proofs.ClosingSo.{IsOpen, ClosesWith, from_so}

-- ---- It takes an entry

pub open_takes : {T : Type 0} → (e : EndValue T) → IsOpen e → ClosesWith (next_taken e)
open_takes e opened = from_so e.inbox e opened

-- ---- A command of the other side is answered as one that isn't recognised

queued_open : {T : Type 0} → (flag : Bool) (e next : EndValue T) → IsOpen e → IsOpen next → IsOpen (cond flag e next)
queued_open true e next opened then = opened
queued_open false e next opened then = then

pub refused_open : {T : Type 0} → (what : Result MessageValue MessageFault) (e : EndValue T) → IsOpen e → IsOpen (not_recognised what e)
refused_open (Ok (command token service name body)) e opened = queued_open (is_closed e.state) e _ opened opened
refused_open (Ok (final token body)) e opened = opened
refused_open (Ok (progress token body)) e opened = opened
refused_open (Ok (not_known token)) e opened = opened
refused_open (Ok (event service name body)) e opened = opened
refused_open (Ok (flow level)) e opened = opened
refused_open (Err fault) e opened = opened

-- ---- Bytes come for it, and end

pub ended_open : {T : Type 0} → (e : EndValue T) → IsOpen e → IsOpen (ended e)
ended_open e opened = closed_by (is_over e) e (with_last Ended e) e opened opened
