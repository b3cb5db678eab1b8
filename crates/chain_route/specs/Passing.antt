-- A value-add, and a hop on one side of it.
use Rattle.std.specs.Prelude.{ℕ, zero, suc, Bool, ◌&&◌, nat_lt, if◌then◌else◌, List, [], ◌∷◌, Option, Some, None, option_map}
use Rattle.channel_core.specs.EndValue.{EndValue}
use Rattle.channel_core.specs.declared.held.Outgoing.{Outgoing}
use Rattle.value_node.specs.Value.{came as value_came, waiting_at}
use Rattle.value_node.specs.ValueValue.{ValueValue}
use Rattle.value_node.specs.declared.relay.Relay.{Relay}
use Rattle.value_node.specs.declared.states.Side.{Side}
use Rattle.value_node.specs.declared.states.Side.TheVariants.{Below, Above}
use Rattle.chain_route.specs.Hop.{arrived_at, lane_to, sent_from}
use Rattle.chain_route.specs.Lane.{arriving, size_in}
use Rattle.chain_route.specs.declared.hop.Hop.{Hop}

-- ---- what a side queued is in flight at once

abbrev pub queue_of : {T : Type 0} → Option (EndValue T) → List Outgoing
queue_of None = []
queue_of (Some e) = e.queued

abbrev pub without_queue : {T : Type 0} → EndValue T → EndValue T
without_queue e = record e { queued = [] }

abbrev pub queued_on : Side → Relay → List Outgoing
queued_on Below v = v.lower.queued
queued_on Above v = queue_of v.upper

abbrev pub emptied_on : Side → Relay → Relay
emptied_on Below v = record v { lower = without_queue v.lower }
emptied_on Above v = record v { upper = option_map without_queue v.upper }

-- a spent value-add gives nothing out
abbrev pub queued_at : Side → ValueValue → List Outgoing
queued_at side value = if value.is_spent then [] else queued_on side value.relay

abbrev pub emptied : Side → ValueValue → ValueValue
emptied side value = if value.is_spent then value else record value { relay = emptied_on side value.relay }

-- ---- a piece arrives: parts of messages, each with its mark

-- the most entries with which a piece waits
abbrev pub most_waiting : ℕ
most_waiting = 200

-- nothing arrives where the hop isn't live, or where 200 entries wait
abbrev pub takes : Side → ValueValue → Hop → Bool
takes side value hop = hop.is_live && nat_lt (waiting_at side value.relay) most_waiting

abbrev pub parts_came : Side → List Outgoing → ValueValue → ValueValue
parts_came side [] value = value
parts_came side (part ∷ parts) value = parts_came side parts (value_came side part.bytes part.mark value)

-- ---- both together

pub record Pair : Type 0 where
  pub add : ValueValue
  pub hop : Hop

abbrev pub pair : ValueValue → Hop → Pair
pair add hop = record { add = add; hop = hop }

abbrev pub carried : Side → Pair → Pair
carried side p = record { add = emptied side p.add; hop = sent_from side (queued_at side p.add) p.hop }

-- the next bytes in flight arrive as one piece, and the end may answer with a level
abbrev pub came : Side → ℕ → Pair → Pair
came side count p = record { add = parts_came side (arriving count (lane_to side p.hop)) p.add; hop = arrived_at side count p.hop }

abbrev pub delivered : Side → ℕ → Pair → Pair
delivered side count p = if takes side p.add p.hop then carried side (came side count p) else p

-- all that is in flight arrives, in pieces of at most 65,536 bytes, until 200 entries wait: as many pieces as there are
-- bytes and messages are enough
abbrev pub most_bytes : ℕ
most_bytes = 65536

abbrev pub pieces : ℕ → Side → Pair → Pair
pieces zero side p = p
pieces (suc n) side p = pieces n side (delivered side most_bytes p)

abbrev pub all_delivered : Side → Pair → Pair
all_delivered side p = pieces (size_in (lane_to side p.hop)) side p
