-- The hops of a way, at any moment.
use Rattle.std.specs.Prelude.{◌≡◌, ◌⊎◌, Bool, true, false, List, [], ◌∷◌, ◌++◌, filter, Option, None, Some, IfSome}
use Rattle.std.specs.List.{AllByRecursion, list_any}
use Rattle.chain_route.specs.Carrying.{AllCarry, GivesAll, HaveConnected, IsDead, IsUnused, Made, agent_end, past_of, value_of}
use Rattle.chain_route.specs.Runs.{Talk}
use Rattle.chain_route.specs.declared.hop.Hop.{Hop}
use Rattle.channel_core.specs.Arrivals.{AreSpoken, Spoken, arrived, bytes_of, messages_in, queue_of, all_said}
use Rattle.channel_core.specs.Closing.{is_closed}
use Rattle.channel_core.specs.QueueLaws.{is_message}
use Rattle.channel_core.specs.Receiving.{is_over}
use Rattle.channel_core.specs.ReceivingLaws.{received}
use Rattle.channel_core.specs.RunLaws.{IsLoudAsTold}
use Rattle.channel_core.specs.Wire.{end_of_stream}
use Rattle.channel_laws.specs.Hop.{HopStands}
use Rattle.channel_laws.specs.Meeting.{AnswersAll, Side, as_comes, run_of}
use Rattle.chain_quiet.specs.Stuck.{IsChannel, IsReadable, end_of_side, last_is_live, side_above, side_below, unmarked}
use Rattle.value_node.specs.Runs.{after_all, below, no_calls}
use Rattle.node_answers.specs.Waiting.{LeavesUnanswered}
use Rattle.list_laws.specs.Fronts.{IsFront}

-- ---- the agent's side

-- it opened a channel, or refused it
abbrev pub IsAgentSide : Option (Side Unit) → Talk → Type 0
IsAgentSide None talk = (talk.is_refused ≡ true) × (talk.gave ≡ end_of_stream ∷ [])
IsAgentSide (Some a) talk = IsChannel a talk

-- ---- a way

-- the end of the client, or one of which nothing was called, and all that is above it
pub record IsWay {T : Type 0} (s : Side T) (hops : List Hop) (made : List Made) (agent : Option (Side Unit)) (talk : Talk) : Type 0 where
  pub sends : IsReadable s
  pub given : list_any (λ hop. hop.is_live) hops ≡ true → (run_of s).end.queued ≡ []
  pub adds : AllByRecursion (λ m. GivesAll (value_of m)) made
  pub carries : AllCarry (end_of_side s) hops made (agent_end talk)
  pub connected : HaveConnected made (last_is_live hops)  -- a value-add above which a hop is live has connected
  pub channel : IfSome agent (λ a. IsChannel a talk)
  pub served : last_is_live hops ≡ true → IsAgentSide agent talk

-- The last level that each of two ends told, if it told one, is above 0 exactly where a second level is still due there, and then
-- the inbox of that end, where it is open, has more than 50 messages.
pub record TellLevels {T U : Type 0} (s : Side T) (other : Side U) : Type 0 where
  pub first : IsLoudAsTold (run_of s)
  pub second : IsLoudAsTold (run_of other)

-- A hop that leads to a value-add. What this has not answered is the redirect that it does, or pending above it.
pub record HopOfAdd {T : Type 0} (hop : Hop) (s : Side T) (m : Made) : Type 0 where
  pub stands : HopStands true true s (side_below m) (bytes_of hop.down) (bytes_of hop.up)
  pub levels : TellLevels s (side_below m)
  pub leaves : is_closed (below (past_of m)).end.state ≡ false → (spoken : List Spoken) → AreSpoken spoken → filter is_message (below (past_of m)).past.queued ≡ all_said spoken
      → LeavesUnanswered (after_all m.calls (no_calls m.peer)) spoken

-- One that leads to the agent, which has answered all that it took; bytes go up to it without marks.
pub record HopOfAgent {T : Type 0} (hop : Hop) (s : Side T) (a : Side Unit) : Type 0 where
  pub stands : HopStands true false s a (bytes_of hop.down) (unmarked hop.up)
  pub levels : TellLevels s a
  pub answers : (spoken : List Spoken) × AnswersAll (run_of a) spoken

-- One whose channel the agent refused is closed above: nothing goes up it. The end of the stream alone was given there, and of it
-- came what isn't in flight; so no message came, taken or in the inbox.
pub record HopRefused {T : Type 0} (hop : Hop) (s : Side T) : Type 0 where
  pub dropped : hop.up ≡ []
  pub gave : bytes_of (end_of_stream ∷ []) ≡ arrived s.calls ++ bytes_of hop.down
  pub silent : received (run_of s) ≡ []
  pub levels : IsLoudAsTold (run_of s)
  pub closes : (is_over (run_of s).end ≡ true) ⊎ (bytes_of hop.down ≡ [] → ⊥)

abbrev pub HopToAgent : {T : Type 0} → Hop → Side T → Option (Side Unit) → Type 0
HopToAgent hop s None = HopRefused hop s
HopToAgent hop s (Some a) = HopOfAgent hop s a

-- ---- a hop that was cut

-- the messages that an end took, and behind them those that wait in its inbox, are, in order and with marks, a front of those that
-- the other one queued
pub record ReceivesFront {T U : Type 0} (is_marked : Bool) (s : Side T) (other : Side U) : Type 0 where
  pub spoken : List Spoken
  pub is_ended : Bool
  pub formed : AreSpoken spoken
  pub queued : as_comes is_marked (run_of other).past.queued ≡ queue_of spoken is_ended
  pub front : IsFront (received (run_of s)) (messages_in spoken)

-- one that was ever used is closed, or its last entry waits in its inbox
abbrev pub IsLost : {T : Type 0} → Side T → Type 0
IsLost s = IsUnused (end_of_side s) ⊎ (is_over (run_of s).end ≡ true)

pub record HopIsLost {T U : Type 0} (others_are : Bool) (s : Side T) (other : Side U) : Type 0 where
  pub first : ReceivesFront true s other
  pub second : ReceivesFront others_are other s
  pub lost_below : IsLost s
  pub lost_above : IsLost other

-- each hop from this end on up to the agent stands so; beyond the last value-add that was made none is live
abbrev pub HopsStand : {T : Type 0} → Side T → List Hop → List Made → Option (Side Unit) → Type 0
HopsStand s [] made agent = Unit {0}
HopsStand s (hop ∷ hops) (m ∷ made) agent = ((hop.is_live ≡ true → HopOfAdd hop s m) × (hop.is_live ≡ false → HopIsLost true s (side_below m))) × HopsStand (side_above m) hops made agent
HopsStand s (hop ∷ []) [] agent = (hop.is_live ≡ true → HopToAgent hop s agent) × (hop.is_live ≡ false → IfSome agent (HopIsLost false s))
HopsStand s (hop ∷ hops) [] agent = IsUnused (end_of_side s) × AllByRecursion IsDead (hop ∷ hops)

abbrev pub EachHopStands : Type 0 → Type 0
EachHopStands T = (s : Side T) (hops : List Hop) (made : List Made) (agent : Option (Side Unit)) (talk : Talk) → IsWay s hops made agent talk → HopsStand s hops made agent
