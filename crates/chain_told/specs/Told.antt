-- What one who sends commands is told, message by message: each by the commands and by what was told before it.
use Rattle.std.specs.Prelude.{ℕ, ◌≡◌, ◌≤◌, ◌+◌, Bool, true, false, not, if◌then◌else◌, List, [], ◌∷◌, ◌++◌, bytes_eq, decimal, length, map, Option, Some, None, option_and_then}
use Rattle.std.specs.Option.{IsSomeAnd}
use Rattle.std.specs.List.{Contains, flat_map, list_any}
use Rattle.value_store.specs.Lessons.{event_message}
use Rattle.channel_core.specs.Arrivals.{Spoken}
use Rattle.channel_core.specs.Wire.{Said, greets, said_by}
use Rattle.knowledge.specs.Facts.{Facts, IsPart, nothing}
use Rattle.knowledge.specs.Learning.{Message, learned}
use Rattle.target_contexts.specs.declared.process.Image.{Image}
use Rattle.target_hub.specs.Fresh.{answer_at, target_at}
use Rattle.target_hub.specs.declared.input.Input.{Input}
use Rattle.target_truth.specs.Holds.{Holds}
use Rattle.target_truth.specs.Typed.{AreTyped}
use Rattle.tcf_message.specs.Message.{MessageValue, command, event, final, flow, not_known, progress}
use Rattle.tcf_values.specs.Storable.{stores}
use Rattle.tcf_values.specs.declared.command.Command.{Command}
use Rattle.value_node.specs.Asked.{Asked}
use Rattle.value_node.specs.Barriers.{is_barrier}
use Rattle.value_node.specs.Deeds.{command_asked, mark_after}
use Rattle.value_node.specs.Store.{lesson_of}

-- ---- the commands, each under the token that it was sent with

-- the first one under this token
abbrev pub command_under : List ℕ → List Asked → Option Asked
command_under token [] = None
command_under token (c ∷ commands) = if bytes_eq token c.token then Some c else command_under token commands

-- the commands as they are sent, under the tokens from this one on
abbrev pub numbered : ℕ → List Asked → List Asked
numbered token [] = []
numbered token (c ∷ commands) = record c { token = decimal token } ∷ numbered (token + 1) commands

-- a value-add may answer it from its store
abbrev pub is_stored : Option Command → Bool
is_stored None = false
is_stored (Some asked) = stores asked

abbrev pub is_storable : Asked → Bool
is_storable c = is_stored (command_asked c)

-- or it goes through all of them
abbrev pub goes_through : Asked → Bool
goes_through c = not (is_storable c)

-- nothing is answered from a store while it has no answer
abbrev pub bars : Asked → Bool
bars c = is_barrier (command_asked c)

-- ---- what was told so far

-- a final answer under this token
abbrev pub ends : List ℕ → MessageValue → Bool
ends token (final other body) = bytes_eq other token
ends token (not_known other) = bytes_eq other token
ends token _ = false

abbrev pub is_ended : List ℕ → List Spoken → Bool
is_ended token told = list_any (λ s. ends token s.message) told

-- the position of the last message, since the last Hello
abbrev pub mark_by : Spoken → Option ℕ → Option ℕ
mark_by s before = mark_after (said_by s.message) s.mark before

abbrev pub mark_from : Option ℕ → List Spoken → Option ℕ
mark_from before [] = before
mark_from before (s ∷ told) = mark_from (mark_by s before) told

abbrev pub mark_of : List Spoken → Option ℕ
mark_of told = mark_from None told

-- what is learned of it
abbrev pub lesson : List Asked → MessageValue → List Message
lesson commands (event service name body) = event_message service name body ∷ []
lesson commands (final token body) = lesson_of (option_and_then command_asked (command_under token commands)) body ∷ []
lesson commands _ = []

abbrev pub lessons : List Asked → List Spoken → List Message
lessons commands told = flat_map (λ s. lesson commands s.message) told

-- ---- one message behind others

-- it is that of one of the commands, which has no answer yet
pub record IsOpen (commands : List Asked) (before : List Spoken) (token : List ℕ) : Type 0 where
  pub command : Asked
  pub sent : command_under token commands ≡ Some command
  pub unanswered : is_ended token before ≡ false

-- progress and an answer are; it asks nothing, and is no flow control
abbrev pub IsOwed : List Asked → List Spoken → MessageValue → Type 0
IsOwed commands before (command token service name body) = ⊥
IsOwed commands before (final token body) = IsOpen commands before token
IsOwed commands before (progress token body) = IsOpen commands before token
IsOwed commands before (not_known token) = IsOpen commands before token
IsOwed commands before (event service name body) = Unit {0}
IsOwed commands before (flow level) = ⊥

-- a Hello comes where there is no position yet; behind a position each message has one, which doesn't go back; and without one
-- none has one
abbrev pub ComesBehind : Option ℕ → Option ℕ → Type 0
ComesBehind None mark = mark ≡ None
ComesBehind (Some position) mark = IsSomeAnd mark (λ p. position ≤ p)

abbrev pub ComesAt : Said → Option ℕ → Option ℕ → Type 0
ComesAt greets before mark = before ≡ None
ComesAt _ before mark = ComesBehind before mark

-- each command of a kind that was sent before that under the token has its answer
abbrev pub AreEndedBefore : (Asked → Bool) → List Asked → List Spoken → List ℕ → Type 0
AreEndedBefore kind commands before token =
    (earlier later : List Asked) (c other : Asked) → commands ≡ earlier ++ c ∷ later → c.token ≡ token → Contains earlier other → kind other ≡ true
    → is_ended other.token before ≡ true

-- an answer to a command that goes through comes behind those to all such commands before it
abbrev pub ComesInTurn : List Asked → List Spoken → Asked → Type 0
ComesInTurn commands before c = goes_through c ≡ true → AreEndedBefore goes_through commands before c.token

-- One to a storable command is what the target answers at its position, and comes behind those to all barriers before it.
pub record IsFresh (images : List Image) (history : List Input) (commands : List Asked) (before : List Spoken) (c : Asked) (position : ℕ) (body : List ℕ) (command : Command) : Type 0 where
  pub same : AreTyped images → body ≡ answer_at images history position command
  pub settled : AreEndedBefore bars commands before c.token

abbrev pub AnswersRightly : List Image → List Input → List Asked → List Spoken → Asked → ℕ → List ℕ → Type 0
AnswersRightly images history commands before c position body =
    (command : Command) → command_asked c ≡ Some command → stores command ≡ true → IsFresh images history commands before c position body command

-- an answer with a position
abbrev pub IsAnswered : List Image → List Input → List Asked → List Spoken → MessageValue → Option ℕ → Type 0
IsAnswered images history commands before (final token body) (Some position) =
    (c : Asked) → command_under token commands ≡ Some c → ComesInTurn commands before c × AnswersRightly images history commands before c position body
IsAnswered images history commands before (not_known token) (Some position) =
    (c : Asked) → command_under token commands ≡ Some c → ComesInTurn commands before c × (is_storable c ≡ false)
IsAnswered images history commands before message mark = Unit {0}

-- facts that are true at a position, which the history has reached; without one, nothing is known
abbrev pub AreTrueAt : List Image → List Input → Option ℕ → Facts → Type 0
AreTrueAt images history None known = IsPart known nothing
AreTrueAt images history (Some position) known = (position ≤ length history) × (AreTyped images → Holds known (target_at images history position))

-- what is learned of all messages up to this one is true at its position
pub record IsToldRightly (images : List Image) (history : List Input) (commands : List Asked) (before : List Spoken) (s : Spoken) : Type 0 where
  pub owed : IsOwed commands before s.message
  pub placed : ComesAt (said_by s.message) (mark_of before) s.mark
  pub true : AreTrueAt images history (mark_of (before ++ s ∷ [])) (learned (lessons commands (before ++ s ∷ [])))
  pub answered : IsAnswered images history commands before s.message s.mark

-- ---- all messages

-- so is each one of them
abbrev pub AreToldRightly : List Image → List Input → List Asked → List Spoken → Type 0
AreToldRightly images history commands told =
    (before rest : List Spoken) (s : Spoken) → told ≡ before ++ s ∷ rest → IsToldRightly images history commands before s

-- ---- what is owed to everybody: all that has a position, but for answers to storable commands. The tokens are left out

abbrev pub without_token : Bool → MessageValue → List MessageValue
without_token stored (command token service name body) = []
without_token stored (final token body) = if stored then [] else final [] body ∷ []
without_token stored (progress token body) = progress [] body ∷ []
without_token stored (not_known token) = if stored then [] else not_known [] ∷ []
without_token stored (event service name body) = event service name body ∷ []
without_token stored (flow level) = []

abbrev pub token_of : MessageValue → List ℕ
token_of (command token service name body) = token
token_of (final token body) = token
token_of (progress token body) = token
token_of (not_known token) = token
token_of (event service name body) = []
token_of (flow level) = []

abbrev pub is_any_storable : Option Asked → Bool
is_any_storable None = false
is_any_storable (Some c) = is_storable c

abbrev pub owed_at : List Asked → MessageValue → Option ℕ → List Spoken
owed_at commands message None = []
owed_at commands message (Some position) =
    map (λ m. record { message = m; mark = Some position }) (without_token (is_any_storable (command_under (token_of message) commands)) message)

abbrev pub owed_in : List Asked → List Spoken → List Spoken
owed_in commands told = flat_map (λ s. owed_at commands s.message s.mark) told
