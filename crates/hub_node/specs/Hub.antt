-- What a hub does; after want of memory nothing is done any more.
use Rattle.std.specs.Prelude.{ℕ, Bool, false, if◌then◌else◌, List, Option, None}
use Rattle.channel_core.specs.declared.held.Outgoing.{Outgoing}
use Rattle.hub_node.specs.HubValue.{HubValue}
use Rattle.hub_node.specs.Relay.{after_giving_at, came_at, ended_at, given_at, new_relay, opened_at, turned_at}
use Rattle.hub_node.specs.RelayValue.{RelayValue}
use Rattle.hub_node.specs.declared.side.HubSide.{HubSide}

abbrev pub new_hub : HubValue
new_hub = record { relay = new_relay; is_spent = false }

abbrev pub with_relay : RelayValue → HubValue → HubValue
with_relay r h = record h { relay = r }

abbrev pub opened : ℕ → HubValue → Bool × HubValue
opened j h = let opens = opened_at j h.relay in (opens.0, with_relay opens.1 h)

abbrev pub came : HubSide → List ℕ → Option ℕ → HubValue → HubValue
came side piece mark h = with_relay (came_at side piece mark h.relay) h

abbrev pub ended : HubSide → HubValue → HubValue
ended side h = if h.is_spent then h else with_relay (ended_at side h.relay) h

-- a turn; what a command that is sent above in it is kept under is this key
abbrev pub turned : ℕ → HubSide → HubValue → Bool × HubValue
turned key side h = let turn = turned_at key side h.relay in (turn.0, with_relay turn.1 h)

abbrev pub given : HubSide → HubValue → Option Outgoing
given side h = if h.is_spent then None else given_at side h.relay

abbrev pub after_giving : HubSide → HubValue → HubValue
after_giving side h = if h.is_spent then h else with_relay (after_giving_at side h.relay) h
