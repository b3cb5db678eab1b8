-- What a client heard of the target, and what its log owes to the history by it.
use Rattle.std.specs.Prelude.{ℕ, ◌≡◌, ◌^◌, ◌<◌, Bool, true, false, List, [], ◌∷◌, ◌++◌, length, map, decimal, filter, Option, None, Ok}
use Rattle.std.specs.List.{AllByRecursion, Contains, flat_map, list_any}
use Rattle.chain_told.specs.Sent.{owed_by}
use Rattle.chain_through.specs.Through.{ComeDown}
use Rattle.chain_told.specs.Told.{AreToldRightly, owed_in}
use Rattle.channel_core.specs.Arrivals.{Spoken, comes_as}
pub use Rattle.channel_core.specs.ReceivingLaws.{incoming_of}
use Rattle.channel_core.specs.declared.held.Incoming.{Incoming}
use Rattle.client_node.specs.ClientValue.{ClientValue}
use Rattle.client_node.specs.Runs.{Call, Past, TellsPast, no_past, past_of}
use Rattle.target_contexts.specs.declared.process.Image.{Image}
use Rattle.target_hub.specs.History.{IsLegal}
use Rattle.target_hub.specs.Fresh.{Fresh}
use Rattle.target_hub.specs.Ordered.{OpensAt, Ordered}
use Rattle.target_hub.specs.Received.{read}
use Rattle.target_hub.specs.Sent.{ReadCommand, executed_on, is_through}
use Rattle.target_hub.specs.declared.input.Input.{Input}
use Rattle.target_truth.specs.Typed.{AreTyped}
use Rattle.tcf_message.specs.Message.{MessageValue, reading, spelling}
use Rattle.tcf_text.specs.Lines.{Accepted}
use Rattle.tcf_text.specs.Once.{Once, is_end}
use Rattle.value_node.specs.Asked.{Asked}
use Rattle.value_node.specs.OwnMessages.{BeginsWithHello, IsOwn}
use Rattle.list_laws.specs.Fronts.{IsFront, IsSubsequenceOf}

-- ---- what a client heard

-- a message as it comes
abbrev pub incoming : MessageValue × Option ℕ → Incoming
incoming message = record { raw = spelling message.0; mark = message.1 }

-- the messages that a client took, in order
abbrev pub heard_in : Past → List Incoming
heard_in p = flat_map incoming_of p.taken

-- the tokens of a client's commands
abbrev pub tokens_of : List Accepted → List (List ℕ)
tokens_of commands = map (λ c. decimal c.number) commands

-- a command of a client, as it is taken from it
abbrev pub asked_as : Accepted → Asked
asked_as c = record { token = decimal c.number; service = c.service; name = c.name; body = c.body; mark = None }

-- a message of value-adds, without a position
abbrev pub messages_of : List Spoken → List (MessageValue × Option ℕ)
messages_of own = map (λ s. (s.message, s.mark)) own

-- each of these messages is read as it was meant
abbrev pub AreReadable : List (MessageValue × Option ℕ) → Type 0
AreReadable messages = AllByRecursion (λ m. reading (spelling m.0) ≡ Ok m.0) messages

-- the commands that go through all value-adds
abbrev pub through_of : List ReadCommand → List ReadCommand
through_of commands = filter (λ c. is_through c.reading) commands

-- What a client heard of the target, on the channel k that the history opens at this position. First come messages of the
-- value-adds on the way, which answered its first commands themselves; behind them each one has a position. Each is told rightly.
-- But for answers to storable commands they are, in order, a front of what the history owes to k. What k executes are, in order,
-- commands of the others, and those that go through are the first ones of these.
pub record Heard (images : List Image) (history : List Input) (k position : ℕ) (p : Past) : Type 0 where
  pub own : List Spoken  -- what the value-adds said themselves
  pub answered : List Accepted  -- the commands that they answered
  pub later : List Accepted  -- the others
  pub commands : p.commands ≡ answered ++ later
  pub is_own : IsOwn (map asked_as answered) own []
  pub begins : BeginsWithHello own  -- as each channel does
  pub legal : IsLegal images history
  pub opened : OpensAt history position k
  pub heard : List Spoken
  pub are : heard_in p ≡ map comes_as heard
  pub readable : AllByRecursion (λ s. reading (spelling s.message) ≡ Ok s.message) heard
  pub parts : ComeDown own heard
  pub told : AreToldRightly images history (map asked_as p.commands) heard
  pub owed : IsFront (owed_in (map asked_as p.commands) heard) (owed_by images k history)
  pub asked : IsSubsequenceOf (executed_on k history) (map read later)
  pub through : IsFront (through_of (executed_on k history)) (through_of (map read later))
  -- nothing is executed before the target's Hello was taken
  pub greeted_first : IsFront heard own → executed_on k history ≡ []
  pub few : length p.commands < 2 ^ 64  -- so no two tokens are the same

-- A client heard nothing of the target: its messages are, in order, a front of what the value-adds on the way said
-- themselves.
pub record HeardNoTarget (p : Past) : Type 0 where
  pub own : List Spoken
  pub left : List Asked
  pub is_own : IsOwn (map asked_as p.commands) own left
  pub begins : BeginsWithHello own
  pub told : IsFront (heard_in p) (map incoming (messages_of own))
  pub readable : AreReadable (messages_of own)
  pub few : length p.commands < 2 ^ 64

-- ---- the laws

-- but for answers to storable commands it heard all that the history owes
abbrev pub HeardAll : List Image → List Input → ℕ → Past → List Spoken → Type 0
HeardAll images history k p heard = owed_in (map asked_as p.commands) heard ≡ owed_by images k history

-- The log of a client that heard the target on the channel k follows the history, where no other channel of these
-- executes a command; and where it heard all of it while nothing was under way and the log had no end, all has come.
abbrev pub HeardAmongIsOrdered : Type 0
HeardAmongIsOrdered = (images : List Image) (history : List Input) (k position : ℕ) (c : ClientValue) (p : Past) (channels : List ℕ) (quiet : Bool)
    → TellsPast c p → Once false c.log → (h : Heard images history k position p)
    → ((j : ℕ) → Contains channels j → (j ≡ k → ⊥) → executed_on j history ≡ [])
    → (quiet ≡ true → list_any is_end c.log ≡ false → HeardAll images history k p h.heard)
    → Ordered quiet c.log images history channels

-- So it is where there is no other channel.
abbrev pub HeardIsOrdered : Type 0
HeardIsOrdered = (images : List Image) (history : List Input) (k position : ℕ) (c : ClientValue) (p : Past)
    → TellsPast c p → Once false c.log → Heard images history k position p → Ordered false c.log images history (k ∷ [])

-- The commands of a client are so few after any calls.
abbrev pub CommandsAreFew : Type 0
CommandsAreFew = (calls : List Call) → length (past_of calls no_past).commands < 2 ^ 64

-- The log of a client that heard nothing of the target follows the history, where its channels execute nothing.
abbrev pub NoTargetHeardIsOrdered : Type 0
NoTargetHeardIsOrdered = (images : List Image) (history : List Input) (c : ClientValue) (p : Past) (channels : List ℕ) (quiet : Bool)
    → TellsPast c p → Once false c.log → HeardNoTarget p → ((j : ℕ) → Contains channels j → executed_on j history ≡ [])
    → Ordered quiet c.log images history channels

-- Each answer with a position, of the target or from a store, to a storable command is what the target answers there.
abbrev pub HeardIsFresh : Type 0
HeardIsFresh = (images : List Image) (history : List Input) (k position : ℕ) (c : ClientValue) (p : Past) → AreTyped images
    → TellsPast c p → Once false c.log → Heard images history k position p → Fresh c.log images history

-- A client that heard nothing of the target was given no answer with a position.
abbrev pub NoTargetHeardIsFresh : Type 0
NoTargetHeardIsFresh = (images : List Image) (history : List Input) (c : ClientValue) (p : Past)
    → TellsPast c p → Once false c.log → HeardNoTarget p → Fresh c.log images history
