-- A value-add with its wires, and its calls.
use Rattle.std.specs.Prelude.{ℕ, Bool, true, false, ◌||◌, is_some, List, [], ◌∷◌, ◌++◌, Option, None, Some, option_map, if◌then◌else◌}
use Rattle.std.specs.List.{flat_map}
use Rattle.channel_core.specs.EndValue.{EndValue}
use Rattle.channel_core.specs.declared.held.Outgoing.{Outgoing}
use Rattle.serving_wires.specs.Intake.{left_for, next_for}
use Rattle.serving_wires.specs.declared.intake.Came.{Came}
use Rattle.serving_wires.specs.declared.intake.Came.TheVariants.{Piece, End}
use Rattle.value_node.specs.Passing.{Upper}
use Rattle.value_node.specs.Value.{came, ended, new_value, turned, waiting_at, with_lower, with_relay}
use Rattle.value_node.specs.ValueValue.{ValueValue}
use Rattle.value_node.specs.declared.relay.Relay.{Relay}
use Rattle.value_node.specs.declared.states.Bind.{Bind}
use Rattle.value_node.specs.declared.states.Bind.TheVariants.{Unbound, Opening, Bound, Closed}
use Rattle.value_node.specs.declared.states.Side.{Side}
use Rattle.value_node.specs.declared.states.Side.TheVariants.{Below, Above}
use Rattle.value_node.specs.declared.states.ValueTurn.{ValueTurn}
use Rattle.value_node.specs.declared.states.ValueTurn.TheVariants.{Nothing, Took, Connect}
use Rattle.value_serving.specs.declared.add.Add.{Add}

-- nothing came yet, and there is no wire above
abbrev pub new_add : List ℕ → ℕ → Add
new_add peer channel = record { node = new_value peer; below = channel; above = None; lower = []; upper = [] }

abbrev pub with_node : ValueValue → Add → Add
with_node v a = record a { node = v }

-- how many messages wait on a side
abbrev pub waiting_on : Side → Add → ℕ
waiting_on side a = waiting_at side a.node.relay

-- ---- something comes on a side, and waits until there is room; nothing has a mark

abbrev pub waits : Side → Came → Add → Add
waits Below what a = record a { lower = a.lower ++ what ∷ [] }
waits Above what a = record a { upper = a.upper ++ what ∷ [] }

abbrev pub came_to : Side → Came → ValueValue → ValueValue
came_to side (Piece bytes) v = came side bytes None v
came_to side End v = ended side v

-- what waits first is given, from below where it can be; and whether something was
abbrev pub given_above : Option Came → Add → Bool × Add
given_above None a = (false, a)
given_above (Some what) a = (true, with_node (came_to Above what a.node) a)

abbrev pub given_below : Option Came → Add → Bool × Add
given_below None a = given_above (next_for (waiting_on Above a) a.upper) (record a { upper = left_for (waiting_on Above a) a.upper })
given_below (Some what) a = (true, with_node (came_to Below what a.node) a)

unfoldable pub next_given : Add → Bool × Add
next_given a = given_below (next_for (waiting_on Below a) a.lower) (record a { lower = left_for (waiting_on Below a) a.lower })

-- something that waits can be given
unfoldable pub can_give : Add → Bool
can_give a = is_some (next_for (waiting_on Below a) a.lower) || is_some (next_for (waiting_on Above a) a.upper)

-- ---- a message is taken: from above where there is one, and else from below

abbrev pub else_below : ValueTurn × ValueValue → ValueTurn × ValueValue
else_below (Nothing, v) = turned Below v
else_below (Took, v) = (Took, v)
else_below (Connect, v) = (Connect, v)

unfoldable pub one_taken : ValueValue → ValueTurn × ValueValue
one_taken v = else_below (turned Above v)

-- ---- what a side has to send is taken out

abbrev pub queue_of : Option Upper → List Outgoing
queue_of None = []
queue_of (Some e) = e.queued

abbrev pub queue_at : Side → Relay → List Outgoing
queue_at Below v = v.lower.queued
queue_at Above v = queue_of v.upper

abbrev pub queue_on : Side → ValueValue → List Outgoing
queue_on side value = if value.is_spent then [] else queue_at side value.relay

-- all bytes of it
unfoldable pub bytes_for : Side → ValueValue → List ℕ
bytes_for side value = flat_map (λ out. out.bytes) (queue_on side value)

abbrev pub emptied_end : {T : Type 0} → EndValue T → EndValue T
emptied_end e = record e { queued = [] }

abbrev pub emptied_at : Side → Relay → Relay
emptied_at Below v = with_lower (emptied_end v.lower) v
emptied_at Above v = record v { upper = option_map emptied_end v.upper }

unfoldable pub emptied : Side → ValueValue → ValueValue
emptied side value = if value.is_spent then value else with_relay (emptied_at side value.relay) value

-- ---- nothing more is said: below once the value-add is closed, and above also while it is unbound, since then the end of its
-- wire above is closed, if there is one

abbrev pub is_over : Side → Bind → Bool
is_over Below Unbound = false
is_over Below Opening = false
is_over Below Bound = false
is_over Below Closed = true
is_over Above Unbound = true
is_over Above Opening = false
is_over Above Bound = false
is_over Above Closed = true
