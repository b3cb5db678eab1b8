-- What holds of an end to which the bytes of a queue come that can be read, in pieces that bear the marks of their messages.
use Rattle.std.specs.Prelude.{ℕ, ◌≡◌, pos, Bool, true, false, ◌⊎◌, List, [], ◌∷◌, ◌++◌, length, map, Contains, Option, Some}
use Rattle.std.specs.List.{AllByRecursion, flat_map}
use Rattle.tcf_message.specs.Message.{event, IsWellFormed}
use Rattle.channel_core.specs.Arrivals.{Marked, Spoken, AreSpoken, arrived, bytes_of, level_after, messages_in, queue_of, whole_in}
use Rattle.channel_core.specs.Beginning.{new_end}
use Rattle.channel_core.specs.Closing.{is_closed}
use Rattle.channel_core.specs.Receiving.{is_over}
use Rattle.channel_core.specs.Runs.{Call, sending, message_of, Run, after_calls, begun}
use Rattle.channel_core.specs.Wire.{hello, locator}
use Rattle.channel_core.specs.declared.held.Incoming.{Incoming}
use Rattle.channel_core.specs.declared.states.Cause.{Cause}
use Rattle.channel_core.specs.declared.states.Cause.TheVariants.{Own, Eos, Ended, Protocol, Stream}
use Rattle.channel_core.specs.declared.states.EndState.TheVariants.{Closed as IsClosed}
use Rattle.channel_core.specs.declared.states.Reason.{Reason}
use Rattle.channel_core.specs.declared.states.Reason.TheVariants.{Grammar, Early, Token}
use Rattle.channel_core.specs.declared.taking.Taken.{Taken}
use Rattle.channel_core.specs.declared.taking.Taken.TheVariants.{Hello, Command, Event, Progress, Final, Closed}
use Rattle.list_laws.specs.Fronts.{IsFront}

-- ---- 1. what was received

abbrev pub incoming_of : {T : Type 0} → Taken T → List Incoming
incoming_of (Hello incoming) = incoming ∷ []
incoming_of (Command incoming) = incoming ∷ []
incoming_of (Event incoming) = incoming ∷ []
incoming_of (Progress token incoming) = incoming ∷ []
incoming_of (Final tag incoming) = incoming ∷ []
incoming_of (Closed cause) = []

-- the messages that were taken, and those that wait
abbrev pub received : {T : Type 0} → Run T → List Incoming
received r = flat_map incoming_of r.past.taken ++ map (λ a. a.incoming) r.end.inbox

-- it holds after every list of calls of a new end with which the bytes of such a queue have come, or a front of them
abbrev pub WhereAQueueComes : {T : Type 0} → (List Spoken → Bool → List Marked → Run T → Type 0) → Type 0
WhereAQueueComes {T} P =
    (body : List ℕ) (mark : Option ℕ) (calls : List (Call T)) (spoken : List Spoken) (is_ended : Bool)
    → AreSpoken spoken → IsFront (arrived calls) (bytes_of (queue_of spoken is_ended))
    → P spoken is_ended (arrived calls) (after_calls calls (begun (new_end body mark)))

-- The messages that were received are, in order and with their marks, a front of those of the queue. Until the end is
-- closed or a last entry has come, they are those that have come wholly, and the level is the last one that was told
-- among these, or 0.
pub record ReceivesInOrder {T : Type 0} (spoken : List Spoken) (is_ended : Bool) (bytes : List Marked) (r : Run T) : Type 0 where
  pub front : IsFront (received r) (messages_in spoken)
  pub whole : is_over r.end ≡ false → received r ≡ messages_in (whole_in (length bytes) spoken)
  pub told : is_over r.end ≡ false → r.end.told ≡ level_after (pos 0) (whole_in (length bytes) spoken)
  -- where all bytes have come
  pub all : is_over r.end ≡ false → bytes ≡ bytes_of (queue_of spoken is_ended) → received r ≡ messages_in spoken
  pub all_told : is_over r.end ≡ false → bytes ≡ bytes_of (queue_of spoken is_ended) → r.end.told ≡ level_after (pos 0) spoken

-- ---- 2. for what causes it ends

-- it is the cause of a last entry that waits, of the end's being closed, or of a closing that was taken
abbrev pub EndsFor : {T : Type 0} → Run T → Cause → Type 0
EndsFor r cause = (r.end.stop ≡ Some cause) ⊎ (r.end.state ≡ IsClosed cause) ⊎ Contains r.past.taken (Closed cause)

abbrev pub IsFairReason : Reason → Type 0
IsFairReason (Grammar fault) = ⊥
IsFairReason Early = Unit {0}
IsFairReason Token = Unit {0}

-- bytes that can be read are never the cause; the end of the stream is only where the queue has it, and when all messages
-- were received
abbrev pub IsFairCause : List Spoken → Bool → List Incoming → Cause → Type 0
IsFairCause spoken is_ended messages Own = Unit {0}
IsFairCause spoken is_ended messages Eos = (is_ended ≡ true) × (messages ≡ messages_in spoken)
IsFairCause spoken is_ended messages Ended = Unit {0}
IsFairCause spoken is_ended messages (Protocol message reason) = IsFairReason reason
IsFairCause spoken is_ended messages (Stream fault) = ⊥

abbrev pub EndsFairly : {T : Type 0} → List Spoken → Bool → List Marked → Run T → Type 0
EndsFairly spoken is_ended bytes r = (cause : Cause) → EndsFor r cause → IsFairCause spoken is_ended (received r) cause

-- ---- 3. what an end queues can be read

-- a message other than a command is one that can be read again. Of a command nothing is asked: one that isn't refused can
-- be read, whatever bytes its service and its name have
abbrev pub SaysReadable : {T : Type 0} → Call T → Type 0
SaysReadable (sending message mark) = IsWellFormed (message_of message)
SaysReadable _ = Unit {0}

abbrev pub SendsReadable : {T : Type 0} → List (Call T) → Type 0
SendsReadable calls = AllByRecursion SaysReadable calls

-- all that was queued are messages that can be read, and behind them perhaps the end of the stream, where the end is closed
pub record CanBeRead {T : Type 0} (r : Run T) : Type 0 where
  pub spoken : List Spoken
  pub is_ended : Bool
  pub well_formed : AreSpoken spoken
  pub queue : r.past.queued ≡ queue_of spoken is_ended
  pub closed : is_ended ≡ true → is_closed r.end.state ≡ true

abbrev pub QueuesReadable : Type 0 → Type 0
QueuesReadable T =
    (body : List ℕ) (mark : Option ℕ) (calls : List (Call T)) → IsWellFormed (event locator hello body) → SendsReadable calls
    → CanBeRead (after_calls calls (begun (new_end body mark)))
