-- What an end's past tells of the end that stands.
use Rattle.std.specs.Prelude.{ℕ, ◌≡◌, ◌+◌, ◌≤◌, pos, int_lt, Bool, true, false, not, ◌&&◌, ◌||◌, List, [], ◌∷◌, length, bytes_eq, decimal, Option}
use Rattle.std.specs.List.{AllByRecursion, flat_map, list_any}
use Rattle.tcf_message.specs.Message.{most_body}
use Rattle.channel_core.specs.Arrivals.{Marked, Spoken, AreSpoken, bytes_of, level_after, queue_of}
use Rattle.channel_core.specs.Beginning.{new_end}
use Rattle.channel_core.specs.Closing.{is_closed}
use Rattle.channel_core.specs.Greeting.{is_greeting}
use Rattle.channel_core.specs.Receiving.{is_over}
use Rattle.channel_core.specs.ReceivingLaws.{incoming_of}
use Rattle.channel_core.specs.RunLaws.{is_answered, sent_of, token_in, unanswered}
use Rattle.channel_core.specs.Runs.{Call, Issued, Run, after_calls, begun}
use Rattle.channel_core.specs.Sending.{last_token, made}
use Rattle.channel_core.specs.Wire.{Said, answers, asks, goes_on, greets, said_in, tells}
use Rattle.channel_core.specs.declared.held.Incoming.{Incoming}
use Rattle.channel_core.specs.declared.states.EndState.{EndState}
use Rattle.channel_core.specs.declared.states.EndState.TheVariants.{Opening, Live, Reopening, Closed as IsClosed}
use Rattle.channel_core.specs.declared.taking.Taken.{Taken}
use Rattle.channel_core.specs.declared.taking.Taken.TheVariants.{Hello, Command, Event, Progress, Final, Closed}
use Rattle.channel_laws.specs.Faults.{is_ending}

-- ---- 1. what was taken

-- an entry is what its message says; a final answer is under a token that was made here
abbrev pub IsAsSaid : {T : Type 0} → Taken T → Type 0
IsAsSaid (Hello incoming) = said_in incoming.raw ≡ greets
IsAsSaid (Command incoming) = said_in incoming.raw ≡ asks
IsAsSaid (Event incoming) = said_in incoming.raw ≡ tells
IsAsSaid (Progress token incoming) = (text : List ℕ) × (said_in incoming.raw ≡ goes_on text)
IsAsSaid (Final tag incoming) = (token : ℕ) × (done : Bool) × (said_in incoming.raw ≡ answers (decimal token) done)
IsAsSaid (Closed cause) = Unit {0}

abbrev pub TakesAsSaid : {T : Type 0} → Run T → Type 0
TakesAsSaid r = AllByRecursion IsAsSaid r.past.taken

-- ---- 2. what is pending

abbrev pub AreAnswered : {T : Type 0} → List (Taken T) → List (Issued T) → Type 0
AreAnswered taken commands = AllByRecursion (λ i. is_answered taken i.command.token ≡ true) commands

-- at an open end those commands are pending that were accepted and whose final answer wasn't taken; so none is where none
-- is held and the answers to all that were sent were taken
pub record PendsUnanswered {T : Type 0} (r : Run T) : Type 0 where
  pub pending : is_closed r.end.state ≡ false → unanswered r.past ≡ r.end.pending
  pub none : is_closed r.end.state ≡ false → r.end.held ≡ [] → AreAnswered r.past.taken (sent_of r) → r.end.pending ≡ []

-- each accepted command is made of its names and its data, within the limits
pub record IsMade {T : Type 0} (i : Issued T) : Type 0 where
  pub service : List ℕ
  pub name : List ℕ
  pub body : List ℕ
  pub mark : Option ℕ
  pub is : i.command ≡ made i.command.token service name body mark
  pub size : length service + length name + length body ≤ most_body
  pub fits : i.command.token ≤ last_token

abbrev pub MakesCommands : {T : Type 0} → Run T → Type 0
MakesCommands r = AllByRecursion IsMade r.past.accepted

-- ---- 3. redirects

-- a final answer under the token of a redirect among these commands, without an error
abbrev pub is_done_for : {T : Type 0} → List (Issued T) → Said → Bool
is_done_for commands (answers token done) = done && list_any (λ i. i.command.is_redirect && bytes_eq token (decimal i.command.token)) commands
is_done_for commands _ = false

abbrev pub does_redirect : {T : Type 0} → List (Issued T) → Taken T → Bool
does_redirect commands (Final tag incoming) = is_done_for commands (said_in incoming.raw)
does_redirect commands _ = false

-- the entries have a redirect's final answer without an error, and no Hello behind it
abbrev pub lacks_hello : {T : Type 0} → List (Issued T) → List (Taken T) → Bool
lacks_hello commands [] = false
lacks_hello commands (t ∷ taken) = (does_redirect commands t && not (list_any is_greeting taken)) || lacks_hello commands taken

-- a redirect among these commands has no final answer among the entries
abbrev pub lacks_answer : {T : Type 0} → List (Issued T) → List (Taken T) → Bool
lacks_answer commands taken = list_any (λ i. i.command.is_redirect && not (is_answered taken i.command.token)) commands

-- An end that is opening took nothing, and one that has greeted took a Hello. It is Reopening exactly where a redirect that
-- it sent wasn't answered, or was answered without an error and no Hello was taken behind the answer; else it is Live.
abbrev pub StandsAs : {T : Type 0} → EndState → Run T → Type 0
StandsAs Opening r = r.past.taken ≡ []
StandsAs Live r = (list_any is_greeting r.past.taken ≡ true) × (lacks_answer (sent_of r) r.past.taken ≡ false) × (lacks_hello (sent_of r) r.past.taken ≡ false)
StandsAs Reopening r = (list_any is_greeting r.past.taken ≡ true) × ((lacks_answer (sent_of r) r.past.taken || lacks_hello (sent_of r) r.past.taken) ≡ true)
StandsAs (IsClosed cause) r = Unit {0}

abbrev pub StandsAsTaken : {T : Type 0} → Run T → Type 0
StandsAsTaken r = StandsAs r.end.state r

-- ---- 4. all this by the messages that were taken

-- a final answer under this token is among them
abbrev pub answered_among : List Incoming → ℕ → Bool
answered_among messages token = list_any (λ m. list_any (λ text. bytes_eq text (decimal token)) (token_in (said_in m.raw))) messages

abbrev pub is_hello : Said → Bool
is_hello greets = true
is_hello _ = false

abbrev pub hello_among : List Incoming → Bool
hello_among messages = list_any (λ m. is_hello (said_in m.raw)) messages

-- a redirect's answer without an error is, and no Hello behind it
abbrev pub lacks_hello_among : {T : Type 0} → List (Issued T) → List Incoming → Bool
lacks_hello_among commands [] = false
lacks_hello_among commands (m ∷ messages) = (is_done_for commands (said_in m.raw) && not (hello_among messages)) || lacks_hello_among commands messages

-- the messages that were taken say the same as the entries
pub record TellsAsMessages {T : Type 0} (r : Run T) : Type 0 where
  pub answered : (token : ℕ) → is_answered r.past.taken token ≡ answered_among (flat_map incoming_of r.past.taken) token
  pub greeted : list_any is_greeting r.past.taken ≡ hello_among (flat_map incoming_of r.past.taken)
  pub lacks : (commands : List (Issued T)) → lacks_hello commands r.past.taken ≡ lacks_hello_among commands (flat_map incoming_of r.past.taken)

-- ---- 5. levels

-- Where the inbox of an open end has no more than 50 messages, what it queued tells last a level of 0 or less, or none.
abbrev pub LetsCommandsOut : {T : Type 0} → Run T → Type 0
LetsCommandsOut r = is_closed r.end.state ≡ false → length r.end.inbox ≤ 50 → (spoken : List Spoken) (is_ended : Bool) → AreSpoken spoken → r.past.queued ≡ queue_of spoken is_ended
    → int_lt (pos 0) (level_after (pos 0) spoken) ≡ false

-- ---- 6. the end of the stream

-- where all bytes of a queue with the end of the stream have come, the end is closed or has a last entry
abbrev pub HearsTheEnd : {T : Type 0} → List Spoken → Bool → List Marked → Run T → Type 0
HearsTheEnd spoken is_ended bytes r = is_ended ≡ true → bytes ≡ bytes_of (queue_of spoken is_ended) → is_over r.end ≡ true

-- an end that is closed, or has its last entry, stays so
abbrev pub StaysOver : {T : Type 0} → Run T → Type 0
StaysOver {T} r = (more : List (Call T)) → is_over r.end ≡ true → is_over (after_calls more r).end ≡ true

-- and one whose bytes have ended is so
abbrev pub IsOverAtItsEnd : Type 0 → Type 0
IsOverAtItsEnd T = (hello : List ℕ) (mark : Option ℕ) (calls : List (Call T)) → list_any is_ending calls ≡ true → is_over (after_calls calls (begun (new_end hello mark))).end ≡ true
