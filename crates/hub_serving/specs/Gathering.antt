-- What the hub has to send is queued for its wires, side by side in the order of the lines.
use Rattle.std.specs.Prelude.{ℕ, Bool, true, false, not, List, [], ◌∷◌, Option, None, Some, if◌then◌else◌}
use Rattle.std.specs.List.{flat_map}
use Rattle.channel_core.specs.EndValue.{EndValue, unless_spent}
use Rattle.channel_core.specs.declared.held.Outgoing.{Outgoing}
use Rattle.channel_list.specs.Channels.{End, changed}
use Rattle.channel_list.specs.declared.channel.Channel.{Channel}
use Rattle.hub_node.specs.Hub.{with_relay}
use Rattle.hub_node.specs.HubValue.{HubValue}
use Rattle.hub_node.specs.Relay.{lower_of}
use Rattle.hub_node.specs.RelayValue.{RelayValue}
use Rattle.hub_node.specs.declared.side.HubSide.{HubSide}
use Rattle.hub_node.specs.declared.side.HubSide.TheVariants.{Above, Below}
use Rattle.serving_wires.specs.Order.{closes, queues}
use Rattle.serving_wires.specs.OutboxValue.{OutboxValue}
use Rattle.serving_wires.specs.Process.{Process, done, tells}
use Rattle.serving_wires.specs.Row.{Row}
use Rattle.serving_wires.specs.Rows.{item_at}
use Rattle.serving_wires.specs.Sending.{closed_if, ordered}
use Rattle.hub_serving.specs.Lines.{is_live_on}
use Rattle.hub_serving.specs.Passing.{Lines}
use Rattle.hub_serving.specs.declared.line.Line.{Line}

-- ---- what a side has to send is taken out

abbrev pub queue_of : {T : Type 0} → EndValue T → List Outgoing
queue_of e = unless_spent e [] e.queued

abbrev pub emptied_end : {T : Type 0} → EndValue T → EndValue T
emptied_end e = unless_spent e e (record e { queued = [] })

abbrev pub queue_in : Option Channel → List Outgoing
queue_in None = []
queue_in (Some lower) = queue_of lower.end

abbrev pub queue_at : HubSide → RelayValue → List Outgoing
queue_at Above r = queue_of r.upper
queue_at (Below j) r = queue_in (lower_of j r)

abbrev pub queue_on : HubSide → HubValue → List Outgoing
queue_on side h = if h.is_spent then [] else queue_at side h.relay

-- all bytes of it
unfoldable pub bytes_for : HubSide → HubValue → List ℕ
bytes_for side h = flat_map (λ out. out.bytes) (queue_on side h)

abbrev pub emptied_at : HubSide → RelayValue → RelayValue
emptied_at Above r = record r { upper = emptied_end r.upper }
emptied_at (Below j) r = record r { lowers = changed j emptied_end r.lowers }

unfoldable pub emptied : HubSide → HubValue → HubValue
emptied side h = if h.is_spent then h else with_relay (emptied_at side h.relay) h

-- ---- and queued for its wire; behind the end of a side nothing more will be

abbrev pub closing : {A : Type 0} → Bool → ℕ → Process A → Process A
closing true channel p = tells (closes channel) p
closing false channel p = p

abbrev pub sent_then : {A : Type 0} → Line → HubValue → Process A → Process A
sent_then line h p =
    tells (queues line.channel (bytes_for line.side h)) (closing (not (is_live_on line.side h)) line.channel p)

abbrev pub gathered_rows : Lines → HubValue → Process HubValue
gathered_rows [] h = done h
gathered_rows (row ∷ rows) h = sent_then row.item h (gathered_rows rows (emptied row.item.side h))

-- the outboxes then
abbrev pub with_sent : HubSide → ℕ → HubValue → List (Row OutboxValue) → List (Row OutboxValue)
with_sent side channel h rows = closed_if (not (is_live_on side h)) channel (ordered (queues channel (bytes_for side h)) rows)

-- of the line at a place
abbrev pub sent_of : Option Line → HubValue → List (Row OutboxValue) → List (Row OutboxValue)
sent_of None h rows = rows
sent_of (Some line) h rows = with_sent line.side line.channel h rows

abbrev pub emptied_of : Option Line → HubValue → HubValue
emptied_of None h = h
emptied_of (Some line) h = emptied line.side h

-- ---- the lines of sides that are closed are forgotten

abbrev pub is_live_line : HubValue → Row Line → Bool
is_live_line h row = is_live_on row.item.side h

abbrev pub is_over_in : HubValue → Option Line → Bool
is_over_in h None = false
is_over_in h (Some line) = not (is_live_on line.side h)

abbrev pub is_over_at : ℕ → HubValue → Lines → Bool
is_over_at place h lines = is_over_in h (item_at place lines)
