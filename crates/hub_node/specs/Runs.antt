-- A hub over any calls, as one of its lower channels sees it: what was called of the upper end and of the channel's own, and
-- what the hub did.
use Rattle.std.specs.Prelude.{ℕ, ◌+◌, ◌==◌, Bool, true, false, ◌||◌, ◌&&◌, if◌then◌else◌, List, [], ◌∷◌, ◌++◌, Option, Some, None, Result, Ok}
use Rattle.channel_core.specs.Beginning.{new_end, tag_of}
use Rattle.channel_core.specs.Closing.{is_closed}
use Rattle.channel_core.specs.EndValue.{EndValue}
use Rattle.channel_core.specs.Runs.{Call as EndCall, Run, after_calls, an_answer, an_event, an_unknown, begun, closing, commanding, delivering, ending, putting_out, sending, some_progress, taking, unless_refused}
use Rattle.channel_core.specs.Sending.{refusal_to}
use Rattle.channel_core.specs.Taking.{next_taken}
use Rattle.channel_core.specs.Wire.{is_redirect}
use Rattle.channel_core.specs.declared.taking.Taken.{Taken}
use Rattle.channel_core.specs.declared.taking.Taken.TheVariants as taken
use Rattle.channel_list.specs.Channels.{channel_end}
use Rattle.tcf_message.specs.Message.{MessageValue, command, event, final, not_known, progress, reading}
use Rattle.tcf_message.specs.declared.message.MessageFault.{MessageFault}
use Rattle.hub_node.specs.Board.{found}
use Rattle.hub_node.specs.Calls.{Call, called, opens, comes, bytes_end, turns, gives}
use Rattle.hub_node.specs.Deeds.{Deed, deeds_by}
use Rattle.hub_node.specs.Hub.{new_hub}
use Rattle.hub_node.specs.HubValue.{HubValue}
use Rattle.hub_node.specs.Redirects.{redirect_reply}
use Rattle.hub_node.specs.Relay.{found_by, hub_services, next_below, opened_at, takes_below, upper_services}
use Rattle.hub_node.specs.RelayValue.{RelayValue}
use Rattle.hub_node.specs.WaitingValue.{WaitingValue}
use Rattle.hub_node.specs.declared.side.HubSide.TheVariants.{Above, Below}
use Rattle.hub_node.specs.declared.waiting.Tag.{Tag}

-- ---- the calls of the upper end that a call of the hub makes

-- a command from above isn't recognised
abbrev pub refused_calls : Result MessageValue MessageFault → List (EndCall Tag)
refused_calls (Ok (command token service name body)) = sending (an_unknown token) None ∷ []
refused_calls _ = []

abbrev pub took_above : Option (Taken Tag) → List (EndCall Tag)
took_above None = []
took_above (Some (taken.Hello incoming)) = []
took_above (Some (taken.Command incoming)) = refused_calls (reading incoming.raw)
took_above (Some (taken.Event incoming)) = []
took_above (Some (taken.Progress token incoming)) = []
took_above (Some (taken.Final tag incoming)) = []
took_above (Some (taken.Closed cause)) = closing ∷ []

-- a command goes above, or all is closed
abbrev pub forwarding : ℕ → Option ℕ → Result MessageValue MessageFault → EndValue Tag → List (EndCall Tag)
forwarding key mark (Ok (command token service name body)) upper =
    if is_redirect service name then []
    else unless_refused (refusal_to service name body upper) (closing ∷ [])
    (commanding service name body (record { key = key; serial = upper.last + 1 }) mark ∷ [])
forwarding key mark _ upper = []

abbrev pub asked_above : ℕ → Option (Taken Unit) → EndValue Tag → List (EndCall Tag)
asked_above key None upper = []
asked_above key (Some (taken.Hello incoming)) upper = []
asked_above key (Some (taken.Command incoming)) upper = forwarding key incoming.mark (reading incoming.raw) upper
asked_above key (Some (taken.Event incoming)) upper = []
asked_above key (Some (taken.Progress token incoming)) upper = []
asked_above key (Some (taken.Final tag incoming)) upper = []
asked_above key (Some (taken.Closed cause)) upper = []

abbrev pub above_by : Call → RelayValue → List (EndCall Tag)
above_by (opens j) r = []
above_by (comes Above piece mark) r = delivering piece mark ∷ []
above_by (comes (Below j) piece mark) r = []
above_by (bytes_end Above) r = ending ∷ []
above_by (bytes_end (Below j)) r = []
above_by (turns key Above) r = taking ∷ took_above (next_taken r.upper).0
above_by (turns key (Below j)) r = asked_above key (next_below j r).0 r.upper
above_by (gives Above) r = putting_out ∷ []
above_by (gives (Below j)) r = []

-- ---- the calls of the end of lower channel j that it makes

abbrev pub only_if : {A : Type 0} → Bool → List A → List A
only_if true xs = xs
only_if false xs = []

-- what comes for a closed end is dropped
abbrev pub delivering_to : EndValue Unit → List ℕ → Option ℕ → List (EndCall Unit)
delivering_to end piece mark = if is_closed end.state then [] else delivering piece mark ∷ []

abbrev pub hearing : Option ℕ → Result MessageValue MessageFault → List (EndCall Unit)
hearing mark (Ok (event service name body)) = sending (an_event service name body) mark ∷ []
hearing mark _ = []

-- progress and the answer of a command of its own, under the command's token
abbrev pub going_on : ℕ → Option WaitingValue → Option ℕ → Result MessageValue MessageFault → List (EndCall Unit)
going_on j (Some w) mark (Ok (progress token body)) = only_if (w.channel == j) (sending (some_progress w.token body) mark ∷ [])
going_on j _ mark _ = []

abbrev pub answering : ℕ → Option WaitingValue → Option ℕ → Result MessageValue MessageFault → List (EndCall Unit)
answering j (Some w) mark (Ok (final token body)) = only_if (w.channel == j) (sending (an_answer w.token body) mark ∷ [])
answering j (Some w) mark (Ok (not_known token)) = only_if (w.channel == j) (sending (an_unknown w.token) mark ∷ [])
answering j _ mark _ = []

-- of what was taken above, in a hub whose upper end has taken it
abbrev pub took_for : ℕ → Option (Taken Tag) → RelayValue → List (EndCall Unit)
took_for j None r = []
took_for j (Some (taken.Hello incoming)) r = if r.is_bound then hearing incoming.mark (reading incoming.raw) else []
took_for j (Some (taken.Command incoming)) r = []
took_for j (Some (taken.Event incoming)) r = hearing incoming.mark (reading incoming.raw)
took_for j (Some (taken.Progress token incoming)) r = going_on j (found_by (tag_of token r.upper.pending) r) incoming.mark (reading incoming.raw)
took_for j (Some (taken.Final tag incoming)) r = answering j (found tag r.board) incoming.mark (reading incoming.raw)
took_for j (Some (taken.Closed cause)) r = closing ∷ []

-- a redirect is answered; where another command is refused above, all is closed
abbrev pub asked_calls : Bool → Result MessageValue MessageFault → EndValue Tag → List (EndCall Unit)
asked_calls is_own (Ok (command token service name body)) upper =
    if is_redirect service name then only_if is_own (sending (an_answer token (redirect_reply service name body)) None ∷ [])
    else unless_refused (refusal_to service name body upper) (closing ∷ []) []
asked_calls is_own _ upper = []

abbrev pub took_of : Bool → Option (Taken Unit) → EndValue Tag → List (EndCall Unit)
took_of is_own None upper = []
took_of is_own (Some (taken.Hello incoming)) upper = []
took_of is_own (Some (taken.Command incoming)) upper = asked_calls is_own (reading incoming.raw) upper
took_of is_own (Some (taken.Event incoming)) upper = []
took_of is_own (Some (taken.Progress token incoming)) upper = []
took_of is_own (Some (taken.Final tag incoming)) upper = []
took_of is_own (Some (taken.Closed cause)) upper = []

abbrev pub calls_of : EndValue Unit → ℕ → Call → RelayValue → List (EndCall Unit)
calls_of end j (opens i) r = []
calls_of end j (comes Above piece mark) r = []
calls_of end j (comes (Below i) piece mark) r = only_if (i == j) (delivering_to end piece mark)
calls_of end j (bytes_end Above) r = []
calls_of end j (bytes_end (Below i)) r = only_if (i == j) (ending ∷ [])
calls_of end j (turns key Above) r = let next = next_taken r.upper in took_for j next.0 (record r { upper = next.1 })
calls_of end j (turns key (Below i)) r = only_if (i == j && takes_below r) (taking ∷ []) ++ took_of (i == j) (next_below i r).0 r.upper
calls_of end j (gives Above) r = []
calls_of end j (gives (Below i)) r = only_if (i == j) (putting_out ∷ [])

-- while the hub has it
abbrev pub below_by : Option (EndValue Unit) → ℕ → Call → RelayValue → List (EndCall Unit)
below_by None j call r = []
below_by (Some end) j call r = calls_of end j call r

-- ---- a run

abbrev pub is_opening : ℕ → Call → RelayValue → Bool
is_opening j (opens i) r = i == j && (opened_at i r).0
is_opening j (comes side piece mark) r = false
is_opening j (bytes_end side) r = false
is_opening j (turns key side) r = false
is_opening j (gives side) r = false

pub record HubRun : Type 0 where
  pub hub : HubValue
  pub above : List (EndCall Tag)  -- the calls of the upper end
  pub is_begun : Bool  -- the channel was opened
  pub below : List (EndCall Unit)  -- the calls of its end
  pub deeds : List Deed

abbrev pub no_calls : HubRun
no_calls = record { hub = new_hub; above = []; is_begun = false; below = []; deeds = [] }

abbrev pub after_call : ℕ → Call → HubRun → HubRun
after_call j call r = record {
  hub = called call r.hub;
  above = r.above ++ above_by call r.hub.relay;
  is_begun = r.is_begun || is_opening j call r.hub.relay;
  below = r.below ++ below_by (channel_end j r.hub.relay.lowers) j call r.hub.relay;
  deeds = r.deeds ++ deeds_by call r.hub.relay;
}

abbrev pub after_all : ℕ → List Call → HubRun → HubRun
after_all j [] r = r
after_all j (call ∷ calls) r = after_all j calls (after_call j call r)

-- what the ends were given, took and queued
abbrev pub above_run : HubRun → Run Tag
above_run r = after_calls r.above (begun (new_end upper_services None))

abbrev pub below_run : HubRun → Run Unit
below_run r = after_calls r.below (begun (new_end hub_services None))
