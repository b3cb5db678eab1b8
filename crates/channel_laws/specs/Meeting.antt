-- The two ends of a hop at one moment at which nothing is under way between them.
use Rattle.std.specs.Prelude.{ℕ, ◌≡◌, pos, int_lt, Bool, true, false, not, ◌&&◌, ◌||◌, if◌then◌else◌, List, [], ◌∷◌, map, filter, bytes_eq, Option, None, Result, Ok}
use Rattle.std.specs.List.{AllByRecursion, flat_map, list_any}
use Rattle.tcf_message.specs.Message.{MessageValue, command, event, reading, IsWellFormed}
use Rattle.tcf_message.specs.declared.message.MessageFault.{MessageFault}
use Rattle.channel_core.specs.Arrivals.{AreSpoken, Spoken, all_heard, all_said, arrived, bytes_of}
use Rattle.channel_core.specs.Beginning.{new_end}
use Rattle.channel_core.specs.Closing.{is_closed}
use Rattle.channel_core.specs.Greeting.{is_greeting}
use Rattle.channel_core.specs.QueueLaws.{is_message}
use Rattle.channel_core.specs.ReceivingLaws.{SendsReadable, incoming_of}
use Rattle.channel_core.specs.RunLaws.{sent_of, token_in}
use Rattle.channel_core.specs.Runs.{Call, Run, after_calls, begun}
use Rattle.channel_core.specs.Wire.{Said, answers, hello as hello_word, is_redirect, locator, said_by}
use Rattle.channel_core.specs.declared.held.Incoming.{Incoming}
use Rattle.channel_core.specs.declared.held.Outgoing.{Outgoing}
use Rattle.channel_core.specs.declared.states.EndState.TheVariants.{Live}
use Rattle.channel_laws.specs.Faults.{is_ending}
use Rattle.channel_laws.specs.Rest.{AreAnswered, is_hello, lacks_answer, lacks_hello}
use Rattle.list_laws.specs.Fronts.{IsFront}

-- an end, by its Hello and its calls
pub record Side (T : Type 0) : Type 0 where
  pub hello : List ℕ
  pub mark : Option ℕ
  pub calls : List (Call T)

abbrev pub run_of : {T : Type 0} → Side T → Run T
run_of s = after_calls s.calls (begun (new_end s.hello s.mark))

-- what it sends can be read, and its bytes haven't ended without the end of the stream
pub record IsLasting {T : Type 0} (s : Side T) : Type 0 where
  pub formed : IsWellFormed (event locator hello_word s.hello)
  pub readable : SendsReadable s.calls
  pub lasting : list_any is_ending s.calls ≡ false

-- what was queued, as it comes: with its marks, or without
abbrev pub as_comes : Bool → List Outgoing → List Outgoing
as_comes true outs = outs
as_comes false outs = map (λ (out : Outgoing). record out { mark = None }) outs

-- what the other one queued was given out and came to it so, all of it where it is open, and was taken
pub record HasAll {T U : Type 0} (is_marked : Bool) (s : Side T) (other : Side U) : Type 0 where
  pub given : (run_of other).end.queued ≡ []
  pub front : IsFront (arrived s.calls) (bytes_of (as_comes is_marked (run_of other).past.given))
  pub came : is_closed (run_of s).end.state ≡ false → arrived s.calls ≡ bytes_of (as_comes is_marked (run_of other).past.given)
  pub inbox : (run_of s).end.inbox ≡ []
  pub stop : (run_of s).end.stop ≡ None

-- An open end took the messages that the other one queued, in order, a Hello among them. It wasn't told a level above 0 last.
-- It is Live where each redirect that it sent was answered, and a Hello was taken behind each of those answers without an
-- error. Where it is Live it holds nothing; and where what it sent was answered nothing is pending.
pub record AtRest {T U : Type 0} (is_marked : Bool) (s : Side T) (other : Side U) : Type 0 where
  pub messages : List Spoken
  pub formed : AreSpoken messages
  pub queued : as_comes is_marked (filter is_message (run_of other).past.queued) ≡ all_said messages
  pub heard : flat_map incoming_of (run_of s).past.taken ≡ all_heard messages
  -- in whatever messages that is written
  pub taken : (spoken : List Spoken) → AreSpoken spoken → as_comes is_marked (filter is_message (run_of other).past.queued) ≡ all_said spoken
      → flat_map incoming_of (run_of s).past.taken ≡ all_heard spoken
  pub greeted : list_any is_greeting (run_of s).past.taken ≡ true
  pub told : int_lt (pos 0) (run_of s).end.told ≡ false
  pub live : lacks_answer (sent_of (run_of s)) (run_of s).past.taken ≡ false → lacks_hello (sent_of (run_of s)) (run_of s).past.taken ≡ false → (run_of s).end.state ≡ Live
  pub held : (run_of s).end.state ≡ Live → (run_of s).end.held ≡ []
  pub pending : (run_of s).end.state ≡ Live → AreAnswered (run_of s).past.taken (sent_of (run_of s)) → (run_of s).end.pending ≡ []

-- both are closed, or both are open and at rest
pub record RestTogether {T U : Type 0} (is_marked others_are : Bool) (s : Side T) (other : Side U) : Type 0 where
  pub closed : is_closed (run_of s).end.state ≡ is_closed (run_of other).end.state
  pub first : is_closed (run_of s).end.state ≡ false → AtRest is_marked s other
  pub second : is_closed (run_of s).end.state ≡ false → AtRest others_are other s

abbrev pub WhereNothingIsUnderWay : Type 0 → Type 0 → Type 0
WhereNothingIsUnderWay T U = (is_marked others_are : Bool) (s : Side T) (other : Side U) → IsLasting s → IsLasting other → HasAll is_marked s other → HasAll others_are other s
    → RestTogether is_marked others_are s other

-- ---- where the node of the other end answered all

-- a final answer under this token is among these messages, or a Hello is
abbrev pub answers_among : List ℕ → List Spoken → Bool
answers_among token spoken = list_any (λ s. list_any (λ text. bytes_eq text token) (token_in (said_by s.message))) spoken

abbrev pub hello_behind : List Spoken → Bool
hello_behind spoken = list_any (λ s. is_hello (said_by s.message)) spoken

-- a message that was taken: where it is a command, its answer is among those that were queued
abbrev pub IsAnsweredBy : List Spoken → Result MessageValue MessageFault → Type 0
IsAnsweredBy spoken (Ok (command token service name body)) = answers_among token spoken ≡ true
IsAnsweredBy spoken _ = Unit {0}

-- the tokens of the redirects that were taken
abbrev pub redirect_in : Result MessageValue MessageFault → List (List ℕ)
redirect_in (Ok (command token service name body)) = if is_redirect service name then token ∷ [] else []
redirect_in _ = []

abbrev pub redirects_among : List Incoming → List (List ℕ)
redirects_among messages = flat_map (λ m. redirect_in (reading m.raw)) messages

-- an answer without an error under one of these tokens is among the messages, and no Hello behind it
abbrev pub does_one : List (List ℕ) → Said → Bool
does_one tokens (answers token done) = done && list_any (λ text. bytes_eq token text) tokens
does_one tokens _ = false

abbrev pub lacks_hello_behind : List (List ℕ) → List Spoken → Bool
lacks_hello_behind tokens [] = false
lacks_hello_behind tokens (s ∷ spoken) = (does_one tokens (said_by s.message) && not (hello_behind spoken)) || lacks_hello_behind tokens spoken

-- these are the messages that were queued; each command that was taken is answered by them, and behind each answer without an
-- error to a redirect there is a Hello
pub record AnswersAll {T : Type 0} (r : Run T) (spoken : List Spoken) : Type 0 where
  pub formed : AreSpoken spoken
  pub queued : filter is_message r.past.queued ≡ all_said spoken
  pub answered : AllByRecursion (λ m. IsAnsweredBy spoken (reading m.raw)) (flat_map incoming_of r.past.taken)
  pub greeted : lacks_hello_behind (redirects_among (flat_map incoming_of r.past.taken)) spoken ≡ false

-- commands go out of an end, all that it sent was answered, and nothing is left
pub record IsFree {T : Type 0} (r : Run T) : Type 0 where
  pub live : r.end.state ≡ Live
  pub held : r.end.held ≡ []
  pub pending : r.end.pending ≡ []
  pub answered : AreAnswered r.past.taken (sent_of r)
  pub none_asks : lacks_answer (sent_of r) r.past.taken ≡ false
  pub none_awaits : lacks_hello (sent_of r) r.past.taken ≡ false

abbrev pub WhereAllIsAnswered : Type 0 → Type 0 → Type 0
WhereAllIsAnswered T U = (others_are : Bool) (s : Side T) (other : Side U) → IsLasting s → IsLasting other → HasAll true s other → HasAll others_are other s
    → (spoken : List Spoken) → AnswersAll (run_of other) spoken → is_closed (run_of s).end.state ≡ false → IsFree (run_of s)
