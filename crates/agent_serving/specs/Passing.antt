-- What came for a channel passes through the agent.
use Rattle.std.specs.Prelude.{ℕ, zero, suc, ◌-◌, Bool, true, false, ◌||◌, List, [], ◌∷◌, nat_lt, None, Some, if◌then◌else◌}
use Rattle.agent_node.specs.Agent.{channel_of, delivered, ended, turned, waiting_at}
use Rattle.agent_node.specs.AgentValue.{AgentValue}
use Rattle.agent_node.specs.declared.agent.Turned.{Turned}
use Rattle.agent_node.specs.declared.agent.Turned.TheVariants.{Nothing, Took}
use Rattle.target_hub.specs.declared.input.Input.TheVariants.{Opened, Executed, Ticked, Closed}
use Rattle.serving_wires.specs.declared.intake.Came.{Came}
use Rattle.serving_wires.specs.declared.intake.Came.TheVariants.{Piece, End}

-- how many messages wait in the channel's inbox
abbrev pub waiting_on : ℕ → AgentValue → ℕ
waiting_on k a = waiting_at (channel_of k a)

-- a turn took the end of its channel
abbrev pub closes : Turned → Bool
closes Nothing = false
closes (Took None) = false
closes (Took (Some (Opened k))) = false
closes (Took (Some (Executed k reading service name))) = false
closes (Took (Some (Ticked thread))) = false
closes (Took (Some (Closed k))) = true

-- the agent after so many turns of the channel; where nothing can be taken a turn does nothing
abbrev pub after_turns : ℕ → ℕ → AgentValue → AgentValue
after_turns zero k a = a
after_turns (suc count) k a = after_turns count k (turned k a).1

-- and whether one of them took the channel's end
abbrev pub end_is_taken : ℕ → ℕ → AgentValue → Bool
end_is_taken zero k a = false
end_is_taken (suc count) k a = closes (turned k a).0 || end_is_taken count k (turned k a).1

abbrev pub came_to : ℕ → Came → AgentValue → AgentValue
came_to k (Piece bytes) a = delivered k bytes a
came_to k End a = ended k a

-- a piece is given only where fewer than 200 messages wait
abbrev pub can_be_given : ℕ → Came → Bool
can_be_given inbox (Piece bytes) = nat_lt inbox 200
can_be_given inbox End = true

-- the agent, what still waits to be given, and whether the channel's end was taken
pub record Passed : Type 0 where
  pub agent : AgentValue
  pub waiting : List Came
  pub is_over : Bool

abbrev pub or_before : Bool → Passed → Passed
or_before was_over p = record p { is_over = was_over || p.is_over }

-- all messages that can be taken are taken
abbrev pub all_taken : ℕ → List Came → AgentValue → Passed
all_taken k waiting a = record { agent = after_turns (waiting_on k a) k a; waiting = waiting; is_over = end_is_taken (waiting_on k a) k a }

-- so many turns leave fewer than 200 messages
abbrev pub room_turns : ℕ → AgentValue → ℕ
room_turns k a = waiting_on k a - 199

-- What waits is given in order. Before each piece so many messages are taken that fewer than 200 are left, and behind the
-- last one all; where a piece can't be given it waits, with what is behind it.
abbrev pub given_all : ℕ → List Came → AgentValue → Passed
given_all k [] a = all_taken k [] a
given_all k (came ∷ later) a =
    if can_be_given (waiting_on k a) came then
    or_before (end_is_taken (room_turns k (came_to k came a)) k (came_to k came a))
    (given_all k later (after_turns (room_turns k (came_to k came a)) k (came_to k came a)))
    else all_taken k (came ∷ later) a

unfoldable pub passed_on : ℕ → List Came → AgentValue → Passed
passed_on k waiting a = or_before (end_is_taken (room_turns k a) k a) (given_all k waiting (after_turns (room_turns k a) k a))
