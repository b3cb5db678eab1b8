-- What came passes through the hub: pieces into its inboxes, and messages out of them, in rounds.
use Rattle.std.specs.Prelude.{ℕ, zero, suc, ◌+◌, Bool, true, false, is_some, if◌then◌else◌, List, [], ◌∷◌, drop, length, position, Option, None, Some}
use Rattle.channel_core.specs.EndValue.{EndValue}
use Rattle.channel_list.specs.declared.channel.Channel.{Channel}
use Rattle.hub_node.specs.HubValue.{HubValue}
use Rattle.hub_node.specs.declared.side.HubSide.{HubSide}
use Rattle.hub_node.specs.declared.side.HubSide.TheVariants.{Above, Below}
use Rattle.serving_wires.specs.Row.{Row}
use Rattle.serving_wires.specs.Rows.{item_at, with_item_at}
use Rattle.hub_serving.specs.Lines.{can_give, given_of, left_of}
use Rattle.hub_serving.specs.Numbered.{turned}
use Rattle.hub_serving.specs.declared.line.Line.{Line}

abbrev pub Lines : Type 0
Lines = List (Row Line)

-- ---- a message is taken of a line, if it has one. Behind a message from above the same line has its turn again, and behind one
-- of a lower channel the next one

abbrev pub next_place : HubSide → ℕ → ℕ
next_place Above place = place
next_place (Below j) place = place + 1

abbrev pub if_taken : ℕ → Bool × HubValue → Option ℕ × HubValue
if_taken next (false, h) = (None, h)
if_taken next (true, h) = (Some next, h)

abbrev pub turned_on : HubSide → ℕ → HubValue → Option ℕ × HubValue
turned_on side place h = if_taken (next_place side place) (turned side h)

abbrev pub turned_of : ℕ → Option Line → HubValue → Option ℕ × HubValue
turned_of place None h = (None, h)
turned_of place (Some line) h = turned_on line.side place h

-- of the first of these lines that has one, of which the first stands at this place
abbrev pub or_else : Option ℕ × HubValue → (HubValue → Option ℕ × HubValue) → Option ℕ × HubValue
or_else (None, h) later = later h
or_else (Some next, h) later = (Some next, h)

abbrev pub turned_from : ℕ → Lines → HubValue → Option ℕ × HubValue
turned_from place [] h = (None, h)
turned_from place (row ∷ rows) h = or_else (turned_on row.item.side place h) (λ after. turned_from (place + 1) rows after)

-- from a place on, and else from the first line on; the upper line is the first. So messages are taken from above until nothing
-- is left there, then one of each lower channel, and so on
abbrev pub taken_once : ℕ → Lines → HubValue → Option ℕ × HubValue
taken_once next lines h = or_else (turned_from next (drop next lines) h) (λ after. turned_from 0 lines after)

-- ---- messages are taken until something that waits can be given, or none can be taken any more

-- the first line of which what waits first can be given
abbrev pub first_to_give : HubValue → Lines → Option ℕ
first_to_give h lines = position (λ row. can_give h row.item) lines

abbrev pub can_give_in : HubValue → Option Line → Bool
can_give_in h None = false
can_give_in h (Some line) = can_give h line

abbrev pub can_give_at : ℕ → HubValue → Lines → Bool
can_give_at place h lines = can_give_in h (item_at place lines)

-- how many entries stand in all inboxes of the hub
abbrev pub entries : {T : Type 0} → EndValue T → ℕ
entries e = length e.inbox + (if is_some e.stop then 1 else 0)

abbrev pub entries_in : List Channel → ℕ
entries_in [] = 0
entries_in (lower ∷ lowers) = entries lower.end + entries_in lowers

abbrev pub all_entries : HubValue → ℕ
all_entries h = entries h.relay.upper + entries_in h.relay.lowers

abbrev pub if_some_taken : ℕ → Option ℕ × HubValue → (ℕ → HubValue → ℕ × HubValue) → ℕ × HubValue
if_some_taken next (None, h) later = (next, h)
if_some_taken next (Some place, h) later = later place h

abbrev pub taken : ℕ → ℕ → Lines → HubValue → ℕ × HubValue
taken zero next lines h = (next, h)
taken (suc count) next lines h =
    if is_some (first_to_give h lines) then (next, h)
    else if_some_taken next (taken_once next lines h) (λ place after. taken count place lines after)

-- there are no more than stand in the inboxes
unfoldable pub room_made : ℕ → Lines → HubValue → ℕ × HubValue
room_made next lines h = taken (all_entries h) next lines h

-- ---- what waits is given as soon as there is room for it, before the next message is taken, and the round goes on

abbrev pub given_in : ℕ → Option Line → Lines → HubValue → HubValue × Lines
given_in place None lines h = (h, lines)
given_in place (Some line) lines h = (given_of line h, with_item_at place (left_of h line) lines)

unfoldable pub given_at : ℕ → Lines → HubValue → HubValue × Lines
given_at place lines h = given_in place (item_at place lines) lines h

-- how much waits to be given
abbrev pub all_unread : Lines → ℕ
all_unread [] = 0
all_unread (row ∷ rows) = length row.item.intake + all_unread rows

abbrev pub if_given : Option ℕ → Lines → HubValue → (HubValue × Lines → HubValue × Lines) → HubValue × Lines
if_given None lines h later = (h, lines)
if_given (Some place) lines h later = later (given_at place lines h)

abbrev pub after_room : ℕ × HubValue → Lines → (ℕ → Lines → HubValue → HubValue × Lines) → HubValue × Lines
after_room (next, h) lines later = later next lines h

abbrev pub given_so_many : ℕ → ℕ → Lines → HubValue → HubValue × Lines
given_so_many zero next lines h = (h, lines)
given_so_many (suc count) next lines h =
    if_given (first_to_give h lines) lines h
    (λ given. after_room (room_made next given.1 given.0) given.1 (λ place rows after. given_so_many count place rows after))

-- the first round begins with what is from above
unfoldable pub passed_on : Lines → HubValue → HubValue × Lines
passed_on lines h = after_room (room_made 0 lines h) lines (λ next rows after. given_so_many (all_unread rows) next rows after)
