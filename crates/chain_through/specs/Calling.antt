-- What goes up a hop, and what comes down it, flow control and the end of the stream aside.
use Rattle.std.specs.Prelude.{ℕ, ◌≡◌, ◌+◌, ◌-◌, ◌≤◌, Bool, true, false, List, [], ◌∷◌, ◌++◌, decimal, filter, length, take, None}
use Rattle.std.specs.List.{AllByRecursion}
use Rattle.channel_core.specs.Arrivals.{AreSpoken, Spoken, enters, queue_of}
use Rattle.channel_core.specs.Wire.{hello, locator}
use Rattle.channel_core.specs.declared.held.Outgoing.{Outgoing}
use Rattle.tcf_message.specs.Message.{MessageValue, command, event, final, flow, not_known, progress}
use Rattle.value_node.specs.Asked.{Asked}
use Rattle.chain_told.specs.Told.{is_ended}
use Rattle.list_laws.specs.Fronts.{IsFront}

abbrev pub entering : List Spoken → List Spoken
entering spoken = filter (λ s. enters s.message) spoken

-- ---- up: a Hello, and then commands

-- a command as it is sent under this token
abbrev pub asking : ℕ → Asked → Spoken
asking token c = record { message = command (decimal token) c.service c.name c.body; mark = c.mark }

-- the commands as they are sent, under the tokens from this one on
abbrev pub all_asking : ℕ → List Asked → List Spoken
all_asking token [] = []
all_asking token (c ∷ commands) = asking token c ∷ all_asking (token + 1) commands

abbrev pub greeting : List ℕ → Spoken
greeting services = record { message = event locator hello services; mark = None }

-- what is given says a Hello and then, in order, a front of these commands
pub record Calls (commands : List Asked) (gave : List Outgoing) : Type 0 where
  pub spoken : List Spoken
  pub is_ended : Bool
  pub formed : AreSpoken spoken
  pub front : IsFront gave (queue_of spoken is_ended)
  pub services : List ℕ
  pub says : IsFront (entering spoken) (greeting services ∷ all_asking 1 commands)

-- the commands that were given, of these
abbrev pub given_of : List Asked → List Spoken → List Asked
given_of commands spoken = take (length (entering spoken) - 1) commands

-- ---- down: answers to commands

-- a token that so many commands have, of one that has no answer yet
pub record IsAwaited (count : ℕ) (before : List Spoken) (token : List ℕ) : Type 0 where
  pub number : ℕ
  pub numbered : token ≡ decimal number
  pub counted : 1 ≤ number
  pub sent : number ≤ count
  pub unanswered : is_ended token before ≡ false

-- an answer and progress are those of such a command; nothing is asked
abbrev pub IsAnswering : ℕ → List Spoken → MessageValue → Type 0
IsAnswering count before (command token service name body) = ⊥
IsAnswering count before (final token body) = IsAwaited count before token
IsAnswering count before (progress token body) = IsAwaited count before token
IsAnswering count before (not_known token) = IsAwaited count before token
IsAnswering count before (event service name body) = Unit {0}
IsAnswering count before (flow level) = ⊥

-- Events, and progress and answers to so many commands, each of which is answered once, in any order.
abbrev pub Answering : ℕ → List Spoken → Type 0
Answering count said = (before rest : List Spoken) (s : Spoken) → said ≡ before ++ s ∷ rest → IsAnswering count before s.message

abbrev pub asks : MessageValue → Bool
asks (command token service name body) = true
asks _ = false

-- no command is among them
abbrev pub AskNothing : List Spoken → Type 0
AskNothing spoken = AllByRecursion (λ s. asks s.message ≡ false) spoken

-- what is given says these messages, and can be read
pub record Says (said : List Spoken) (gave : List Outgoing) : Type 0 where
  pub spoken : List Spoken
  pub is_ended : Bool
  pub formed : AreSpoken spoken
  pub front : IsFront gave (queue_of spoken is_ended)
  pub says : entering spoken ≡ said
