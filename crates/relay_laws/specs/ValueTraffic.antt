-- The traffic of a value-add since it was bound: what its ends took and queued, in one order of time.
use Rattle.std.specs.Prelude.{ℕ, ◌≡◌, ◌+◌, Bool, true, false, ◌&&◌, if◌then◌else◌, List, [], ◌∷◌, ◌++◌, decimal, filter, length, map, Option, Result, Ok, Err}
use Rattle.std.specs.List.{flat_map, list_any}
use Rattle.channel_core.specs.Arrivals.{Spoken, all_said}
use Rattle.channel_core.specs.QueueLaws.{is_message}
use Rattle.channel_core.specs.ReceivingLaws.{incoming_of}
use Rattle.channel_core.specs.Wire.{said}
use Rattle.channel_core.specs.declared.held.Incoming.{Incoming}
use Rattle.channel_core.specs.declared.held.Outgoing.{Outgoing}
use Rattle.list_laws.specs.Fronts.{IsFront}
use Rattle.tcf_message.specs.Message.{MessageValue, command, final, flow, reading}
use Rattle.tcf_message.specs.declared.message.MessageFault.{MessageFault}
use Rattle.value_node.specs.Asked.{Asked}
use Rattle.value_node.specs.Deeds.{Deed, answers as answers_it, deeds_from, forwards as forwards_it, hears as hears_it}
use Rattle.value_node.specs.RelayLaws.{AfterAllDeeds, accepted_above, asked_since, is_ending, passed_in as passed_as}
use Rattle.value_node.specs.Runs.{Call, Past, ValueRun, above, after_all, below, below_until_bound, no_calls}
use Rattle.value_node.specs.declared.states.Bind.TheVariants.{Bound}
use Rattle.relay_laws.specs.Relay.{Crossing, IsRelay, answers, asked_in, asks, ends, forwards, heard_in, hears, passes, sent_in, told_in}

-- ---- what it does, as crossings

-- a message that was heard, where these commands were sent above before: it is taken, and passed on
abbrev pub crossing_heard : List Asked → Option ℕ → Result MessageValue MessageFault → List Crossing
crossing_heard commands mark (Ok message) =
    flat_map (λ below.
    hears (record { message = message; mark = mark }) ∷
    passes (record { message = below; mark = mark }) ∷ [])
    (passed_as commands (Ok message))
crossing_heard commands mark (Err fault) = []

-- its deeds, where so many commands were taken from below before, and these sent above
abbrev pub crossings_from : ℕ → List Asked → List Deed → List Crossing
crossings_from number commands [] = []
crossings_from number commands (forwards_it c ∷ deeds) =
    asks c ∷ forwards number (record c { token = decimal (1 + length commands) }) ∷
    crossings_from (number + 1) (commands ++ c ∷ []) deeds
crossings_from number commands (answers_it c reply mark ∷ deeds) =
    asks c ∷ answers number (record { message = final c.token reply; mark = mark }) ∷
    crossings_from (number + 1) commands deeds
crossings_from number commands (hears_it incoming ∷ deeds) =
    crossing_heard commands incoming.mark (reading incoming.raw) ++ crossings_from number commands deeds

-- the end from above was taken since it was bound
abbrev pub has_ended : Past → Bool
has_ended p = p.is_bound && list_any is_ending (above p).past.taken

abbrev pub traffic_of : Past → List Deed → List Crossing
traffic_of p deeds = crossings_from 0 [] deeds ++ (if has_ended p then ends ∷ [] else [])

-- after these calls of a new one
abbrev pub traffic_after : List ℕ → List Call → List Crossing
traffic_after peer calls =
    traffic_of (after_all calls (no_calls peer)).past (deeds_from calls (no_calls peer))

-- ---- what its ends took and queued

-- the messages from above that are for below: neither commands nor flow control
abbrev pub spoken_in : Option ℕ → Result MessageValue MessageFault → List Spoken
spoken_in mark (Ok (command token service name body)) = []
spoken_in mark (Ok (flow level)) = []
spoken_in mark (Ok message) = record { message = message; mark = mark } ∷ []
spoken_in mark (Err fault) = []

abbrev pub spoken_by : Incoming → List Spoken
spoken_by incoming = spoken_in incoming.mark (reading incoming.raw)

abbrev pub said_as : Asked → Outgoing
said_as c = said (command c.token c.service c.name c.body) c.mark

abbrev pub is_end : Crossing → Bool
is_end ends = true
is_end _ = false

pub record IsTrafficOf (r : ValueRun) (traffic : List Crossing) : Type 0 where
  -- the commands that its lower end took
  pub asked : asked_in traffic ≡ asked_since r.past
  -- those that its upper end queued, and behind them those that are held there; the last one was refused
  -- perhaps, and then both ends are closed
  pub sent : IsFront (accepted_above r) (map said_as (sent_in traffic))
  pub all_sent : r.value.relay.bind ≡ Bound → accepted_above r ≡ map said_as (sent_in traffic)
  -- the messages for below that its upper end took
  pub heard : heard_in traffic ≡ flat_map spoken_by (flat_map incoming_of (above r.past).past.taken)
  -- all that its lower end queued since it was bound, but for flow control and the end of the stream
  pub told : filter is_message (below r.past).past.queued ≡
      filter is_message (below_until_bound r.past).past.queued ++ all_said (told_in traffic)
  -- and whether its upper end took the end
  pub ended : list_any is_end traffic ≡ has_ended r.past

-- ---- the laws: it is the traffic of a relay, it is what the ends took and queued, and with more calls it
-- goes on behind that

abbrev pub ValueAddIsARelay : Type 0
ValueAddIsARelay = AfterAllDeeds (λ r deeds. IsRelay (traffic_of r.past deeds))

abbrev pub ItsTrafficIsReal : Type 0
ItsTrafficIsReal = AfterAllDeeds (λ r deeds. IsTrafficOf r (traffic_of r.past deeds))

abbrev pub ItsTrafficGoesOn : Type 0
ItsTrafficGoesOn =
    (peer : List ℕ) (calls more : List Call) →
    IsFront (traffic_after peer calls) (traffic_after peer (calls ++ more))
