-- What holds of an end after every list of calls.
use Rattle.std.specs.Prelude.{ℕ, ◌≡◌, ◌-◌, ◌<◌, ◌≤◌, ◌==◌, ℤ, pos, int_lt, Bool, true, false, not, List, [], ◌∷◌, ◌++◌, length, take, map, filter, Contains, decimal, bytes_eq, Option, Some, None}
use Rattle.std.specs.List.{last_or, list_any, range_with_len}
use Rattle.tcf_message.specs.Message.{flow}
use Rattle.channel_core.specs.Beginning.{new_end}
use Rattle.channel_core.specs.Closing.{farewell, is_closed}
use Rattle.channel_core.specs.Holding.{is_free}
use Rattle.channel_core.specs.Runs.{Call, Issued, Past, Run, after_calls, begun}
use Rattle.channel_core.specs.Taking.{next_taken}
use Rattle.channel_core.specs.Wire.{Said, answers, said, said_in}
use Rattle.channel_core.specs.declared.held.Incoming.{Incoming}
use Rattle.channel_core.specs.declared.held.Outgoing.{Outgoing}
use Rattle.channel_core.specs.declared.states.EndState.{EndState}
use Rattle.channel_core.specs.declared.states.EndState.TheVariants.{Opening, Live, Reopening, Closed as IsClosed}
use Rattle.channel_core.specs.declared.taking.Taken.{Taken}
use Rattle.channel_core.specs.declared.taking.Taken.TheVariants.{Final}

-- it holds after every list of calls of a new end
abbrev pub AfterAllCalls : {T : Type 0} → (Run T → Type 0) → Type 0
AfterAllCalls {T} P = (hello : List ℕ) (mark : Option ℕ) (calls : List (Call T)) → P (after_calls calls (begun (new_end hello mark)))

-- ---- what is queued, by its first byte: a message begins with its type letter, the end of the stream with the escape

abbrev pub first_byte : List ℕ → ℕ
first_byte [] = 0
first_byte (byte ∷ bytes) = byte

abbrev pub is_command : Outgoing → Bool
is_command o = first_byte o.bytes == 67

abbrev pub is_flow : Outgoing → Bool
is_flow o = first_byte o.bytes == 70

abbrev pub is_end : Outgoing → Bool
is_end o = first_byte o.bytes == 3

-- ---- memory

-- in a run it is never wanting, so the end isn't spent
abbrev pub IsUnspent : {T : Type 0} → Run T → Type 0
IsUnspent r = r.end.is_spent ≡ false

-- ---- 1. the queue

-- what was taken out and what is queued are all that was queued, in order
abbrev pub QueuesInOrder : {T : Type 0} → Run T → Type 0
QueuesInOrder r = r.past.given ++ r.end.queued ≡ r.past.queued

-- ---- 2. the commands

-- the accepted commands but so many of the last
abbrev pub sent_of : {T : Type 0} → Run T → List (Issued T)
sent_of r = take (length r.past.accepted - length r.end.held) r.past.accepted

-- the commands that were queued are, in order, a front of those that were accepted, and the rest are held
pub record SendsInOrder {T : Type 0} (r : Run T) : Type 0 where
  pub are_sent : filter is_command r.past.queued ≡ map (λ i. i.command.outgoing) (sent_of r)
  pub are_held : map (λ i. i.command) r.past.accepted ≡ map (λ i. i.command) (sent_of r) ++ r.end.held

-- ---- 3. the answers

abbrev pub row_of : {T : Type 0} → Issued T → ℕ × T
row_of i = (i.command.token, i.tag)

-- the token that a final answer has
abbrev pub token_in : Said → List (List ℕ)
token_in (answers token done) = token ∷ []
token_in _ = []

abbrev pub answered_in : {T : Type 0} → Taken T → List (List ℕ)
answered_in (Final tag incoming) = token_in (said_in incoming.raw)
answered_in _ = []

-- the entries have the final answer to the command with this token
abbrev pub is_answered : {T : Type 0} → List (Taken T) → ℕ → Bool
is_answered taken token = list_any (λ t. list_any (λ text. bytes_eq text (decimal token)) (answered_in t)) taken

-- the commands without a final answer, in order of issue
abbrev pub unanswered : {T : Type 0} → Past T → List (ℕ × T)
unanswered past = filter (λ row. not (is_answered past.taken row.0)) (map row_of past.accepted)

-- the tokens count from 1; pending are the commands without a final answer, but those that were drained
pub record CountsAnswers {T : Type 0} (r : Run T) : Type 0 where
  pub drained : List (ℕ × T)
  pub tokens : map (λ i. i.command.token) r.past.accepted ≡ range_with_len 1 (length r.past.accepted)
  pub pending : unanswered r.past ≡ drained ++ r.end.pending
  pub tags : r.past.drained ≡ map (λ row. row.1) drained

-- the answer is that to a command that was sent, under its token and with its tag, and the first one
pub record IsOwnAnswer {T : Type 0} (r : Run T) (tag : T) (incoming : Incoming) : Type 0 where
  pub command : Issued T
  pub done : Bool
  pub sent : Contains (sent_of r) command
  pub tag_is : command.tag ≡ tag
  pub token_is : said_in incoming.raw ≡ answers (decimal command.command.token) done
  pub first : is_answered r.past.taken command.command.token ≡ false

-- each final answer that is taken next is
abbrev pub TakesOwnAnswers : {T : Type 0} → Run T → Type 0
TakesOwnAnswers {T} r = (tag : T) (incoming : Incoming) → (next_taken r.end).0 ≡ Some (Final tag incoming) → IsOwnAnswer r tag incoming

-- ---- 4. closing

-- a closed end's queue ended with the end of the stream, where that is sent, and has no other
abbrev pub EndsAs : EndState → List Outgoing → Type 0
EndsAs Opening queued = filter is_end queued ≡ []
EndsAs Live queued = filter is_end queued ≡ []
EndsAs Reopening queued = filter is_end queued ≡ []
EndsAs (IsClosed cause) queued = (front : List Outgoing) × (queued ≡ front ++ farewell cause) × (filter is_end front ≡ [])

pub record EndsOnce {T : Type 0} (r : Run T) : Type 0 where
  pub ends : EndsAs r.end.state r.past.queued
  pub emptied : is_closed r.end.state ≡ true → r.end.inbox ≡ []

-- whatever is called of a closed end, it stays closed for its cause, and nothing more is queued
pub record IsAsItWas {T : Type 0} (closed later : Run T) : Type 0 where
  pub state : later.end.state ≡ closed.end.state
  pub queued : later.past.queued ≡ closed.past.queued

abbrev pub StaysClosed : {T : Type 0} → Run T → Type 0
StaysClosed {T} r = (more : List (Call T)) → is_closed r.end.state ≡ true → IsAsItWas r (after_calls more r)

-- ---- 5. what is held

-- where commands go out, none is held
abbrev pub HoldsNoneWhereFree : {T : Type 0} → Run T → Type 0
HoldsNoneWhereFree r = is_free r.end ≡ true → r.end.held ≡ []

-- ---- 6. levels

-- the last level that was told is above 0 exactly where the end is loud, and none was told where it isn't
abbrev pub TellsLoud : Option Outgoing → Bool → Type 0
TellsLoud None is_loud = is_loud ≡ false
TellsLoud (Some o) is_loud = (level : ℤ) × (o ≡ said (flow level) None) × (is_loud ≡ int_lt (pos 0) level)

-- so many messages are in the inbox of a loud end, and of another one
abbrev pub IsFilled : Bool → ℕ → Type 0
IsFilled true n = 50 < n
IsFilled false n = n ≤ 100

pub record IsLoudAsTold {T : Type 0} (r : Run T) : Type 0 where
  pub told : TellsLoud (last_or None (filter is_flow r.past.queued)) r.end.is_loud
  pub inbox : is_closed r.end.state ≡ false → IsFilled r.end.is_loud (length r.end.inbox)
