-- What comes: messages enter the inbox, flow control is heard at once, and the end of the stream and what is no message
-- are the last entry.
use Rattle.std.specs.Prelude.{ℕ, ◌+◌, ◌^◌, ◌-◌, min, Bool, ◌||◌, if◌then◌else◌, List, [], ◌∷◌, ◌++◌, length, Option, Some, is_some, Result, Ok, Err}
use Rattle.stream_escape.specs.Fed.{fed}
use Rattle.stream_escape.specs.declared.stream.Item.{Item}
use Rattle.stream_escape.specs.declared.stream.Item.TheVariants as items
use Rattle.stream_escape.specs.declared.stream.StreamFault.{StreamFault}
use Rattle.tcf_message.specs.Message.{MessageValue, command, final, progress, not_known, event, flow, reading}
use Rattle.tcf_message.specs.declared.message.MessageFault.{MessageFault}
use Rattle.channel_core.specs.Closing.{is_closed}
use Rattle.channel_core.specs.EndValue.{EndValue}
use Rattle.channel_core.specs.Holding.{released}
use Rattle.channel_core.specs.Level.{leveled}
use Rattle.channel_core.specs.declared.states.Cause.{Cause}
use Rattle.channel_core.specs.declared.states.Cause.TheVariants.{Eos, Ended, Protocol, Stream}
use Rattle.channel_core.specs.declared.states.Reason.TheVariants.{Grammar}

-- a last entry has come, or the end is closed: all that comes then is ignored
abbrev pub is_over : {T : Type 0} → EndValue T → Bool
is_over e = is_closed e.state || is_some e.stop

-- one more message, as far as a u64 counts
abbrev pub counted : ℕ → ℕ
counted n = min (n + 1) (2 ^ 64 - 1)

abbrev pub with_last : {T : Type 0} → Cause → EndValue T → EndValue T
with_last cause e = record e { stop = Some cause }

abbrev pub entered : {T : Type 0} → List ℕ → Option ℕ → EndValue T → EndValue T
entered raw mark e = leveled (record e { inbox = e.inbox ++ record { number = e.came; incoming = record { raw = raw; mark = mark } } ∷ [] })

-- a message, which is counted already
abbrev pub heard : {T : Type 0} → List ℕ → Option ℕ → Result MessageValue MessageFault → EndValue T → EndValue T
heard raw mark (Err fault) e = with_last (Protocol e.came (Grammar fault)) e
heard raw mark (Ok (flow level)) e = released (record e { told = level })
heard raw mark (Ok (command token service name body)) e = entered raw mark e
heard raw mark (Ok (final token body)) e = entered raw mark e
heard raw mark (Ok (progress token body)) e = entered raw mark e
heard raw mark (Ok (not_known token)) e = entered raw mark e
heard raw mark (Ok (event service name body)) e = entered raw mark e

abbrev pub item_came : {T : Type 0} → Option ℕ → Item → EndValue T → EndValue T
item_came mark (items.Message raw) e = heard raw mark (reading raw) (record e { came = counted e.came })
item_came mark items.End e = with_last Eos e

abbrev pub came_by : {T : Type 0} → Option ℕ → List Item → EndValue T → EndValue T
came_by mark [] e = e
came_by mark (item ∷ list) e = came_by mark list (if is_over e then e else item_came mark item e)

-- the stream's fault is its last entry
abbrev pub stopped_by : {T : Type 0} → Result Unit StreamFault → EndValue T → EndValue T
stopped_by (Ok done) e = e
stopped_by (Err fault) e = if is_over e then e else with_last (Stream fault) e

-- a piece came: the items that end in it have come, each with the piece's mark, and then perhaps the stream's fault
abbrev pub delivered : {T : Type 0} → List ℕ → Option ℕ → EndValue T → EndValue T
delivered piece mark e =
    let given = fed piece e.stream in stopped_by given.answer (came_by mark given.items (record e { stream = given.reader }))

-- the bytes have ended; what has partly come is dropped
abbrev pub ended : {T : Type 0} → EndValue T → EndValue T
ended e = if is_over e then e else with_last Ended e

-- the entries of the inbox
abbrev pub waiting_in : {T : Type 0} → EndValue T → ℕ
waiting_in e = min (length e.inbox + (if is_some e.stop then 1 else 0)) (2 ^ 64 - 1)
