-- The two ends of a live hop, at any moment.
use Rattle.std.specs.Prelude.{ℕ, ◌≡◌, ◌⊎◌, pos, int_lt, Bool, true, false, List, [], ◌∷◌, ◌++◌, decimal, length, Contains}
use Rattle.std.specs.List.{flat_map}
use Rattle.channel_core.specs.Arrivals.{AreSpoken, Marked, Spoken, arrived, bytes_of, level_after, messages_in, queue_of, whole_in, all_heard}
use Rattle.channel_core.specs.Closing.{is_closed}
use Rattle.channel_core.specs.Receiving.{is_over}
use Rattle.channel_core.specs.ReceivingLaws.{incoming_of, received}
use Rattle.channel_core.specs.RunLaws.{is_answered, sent_of}
use Rattle.channel_core.specs.Runs.{Issued}
use Rattle.channel_core.specs.Wire.{end_of_stream}
use Rattle.channel_core.specs.declared.held.Outgoing.{Outgoing}
use Rattle.channel_core.specs.declared.states.EndState.TheVariants.{Live, Opening, Reopening}
use Rattle.channel_laws.specs.Meeting.{IsLasting, Side, answers_among, as_comes, hello_behind, run_of}
use Rattle.channel_laws.specs.Numbering.{tokens_among}
use Rattle.channel_laws.specs.Rest.{lacks_answer, lacks_hello}
use Rattle.list_laws.specs.Fronts.{IsFront}

-- What one end gave, which is all that it queued, is in order what came to the other one, while that is open, and then what is in
-- flight.
pub record Carries {T U : Type 0} (is_marked : Bool) (s : Side T) (other : Side U) (flight : List Marked) : Type 0 where
  pub given : (run_of other).end.queued ≡ []
  pub front : IsFront (arrived s.calls) (bytes_of (as_comes is_marked (run_of other).past.given))
  pub gave : is_closed (run_of s).end.state ≡ false → bytes_of (as_comes is_marked (run_of other).past.given) ≡ arrived s.calls ++ flight

-- ---- 1. messages

-- The messages that the other end queued are, in order and with marks, those that this one took and those that are under way to
-- it. Of all that was queued those that came wholly were taken or wait in the inbox, and the last level among them is the one
-- that it was told; the others are in flight.
pub record Hears {T U : Type 0} (is_marked : Bool) (s : Side T) (other : Side U) : Type 0 where
  pub spoken : List Spoken
  pub is_ended : Bool
  pub formed : AreSpoken spoken
  pub queued : as_comes is_marked (run_of other).past.queued ≡ queue_of spoken is_ended
  pub under_way : List Spoken
  pub order : messages_in spoken ≡ flat_map incoming_of (run_of s).past.taken ++ all_heard under_way
  pub came : received (run_of s) ≡ messages_in (whole_in (length (arrived s.calls)) spoken)
  pub told : is_over (run_of s).end ≡ false → (run_of s).end.told ≡ level_after (pos 0) (whole_in (length (arrived s.calls)) spoken)

-- ---- 2. closing

-- the end of the stream is under way to an end: it waits in the inbox, or it is the last of what is in flight
abbrev pub EndIsUnderWay : {T U : Type 0} → Side T → Side U → List Marked → Type 0
EndIsUnderWay s other flight = (is_over (run_of s).end ≡ true) ⊎ ((flight ≡ [] → ⊥) × ((front : List Outgoing) × ((run_of other).past.queued ≡ front ++ end_of_stream ∷ [])))

-- ---- 3. commands that are pending, and not held

-- Such a command is under way to the other end; or it was taken there and has no final answer yet; or that is under way to
-- this end.
pub data IsSomewhere {T U : Type 0} (token : List ℕ) (s : Side T) (other : Side U) (answers rising falling : List Spoken) : Type 0 where
  rises : (Contains (tokens_among (flat_map incoming_of (run_of other).past.taken)) token → ⊥) → Contains (tokens_among (all_heard rising)) token → IsSomewhere token s other answers rising falling
  waits : Contains (tokens_among (flat_map incoming_of (run_of other).past.taken)) token → answers_among token answers ≡ false → IsSomewhere token s other answers rising falling
  falls : Contains (tokens_among (flat_map incoming_of (run_of other).past.taken)) token → answers_among token answers ≡ true → answers_among token falling ≡ true → IsSomewhere token s other answers rising falling

-- ---- the whole

-- where both are open: s sends commands, and the other one answers them
pub record BothOpen {T U : Type 0} (is_marked others_are : Bool) (s : Side T) (other : Side U) : Type 0 where
  pub down : Hears is_marked s other
  pub up : Hears others_are other s
  -- it is pending where it was accepted and its answer wasn't taken
  pub commands : (i : Issued T) → Contains (sent_of (run_of s)) i → is_answered (run_of s).past.taken i.command.token ≡ false
      → IsSomewhere (decimal i.command.token) s other down.spoken up.under_way down.under_way
  pub opening : (run_of s).end.state ≡ Opening → hello_behind down.under_way ≡ true
  -- a redirect waits for its answer, or for the Hello behind one without an error
  pub reopening : (run_of s).end.state ≡ Reopening → (lacks_answer (sent_of (run_of s)) (run_of s).past.taken ≡ true) ⊎ (lacks_hello (sent_of (run_of s)) (run_of s).past.taken ≡ true)
  pub held : (run_of s).end.state ≡ Live → int_lt (pos 0) (run_of s).end.told ≡ false → (run_of s).end.held ≡ []

-- what is in flight is what was given and hasn't come
pub record HopStands {T U : Type 0} (is_marked others_are : Bool) (s : Side T) (other : Side U) (falling rising : List Marked) : Type 0 where
  pub falls : Carries is_marked s other falling
  pub rises : Carries others_are other s rising
  pub first : is_closed (run_of s).end.state ≡ false → Hears is_marked s other
  pub second : is_closed (run_of other).end.state ≡ false → Hears others_are other s
  pub other_closes : is_closed (run_of s).end.state ≡ true → (is_closed (run_of other).end.state ≡ true) ⊎ EndIsUnderWay other s rising
  pub first_closes : is_closed (run_of other).end.state ≡ true → (is_closed (run_of s).end.state ≡ true) ⊎ EndIsUnderWay s other falling
  pub both_open : is_closed (run_of s).end.state ≡ false → is_closed (run_of other).end.state ≡ false → BothOpen is_marked others_are s other

-- Whatever was called of two ends that sent only what can be read, and whose bytes haven't ended without the end of the stream.
abbrev pub LiveHopsStand : Type 0 → Type 0 → Type 0
LiveHopsStand T U = (is_marked others_are : Bool) (s : Side T) (other : Side U) (falling rising : List Marked) → IsLasting s → IsLasting other
    → Carries is_marked s other falling → Carries others_are other s rising → HopStands is_marked others_are s other falling rising
